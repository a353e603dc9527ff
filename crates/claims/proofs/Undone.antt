-- A revert right after an accepted snap, to that snapshot: it is accepted; on revision 0 the card agrees with the one before the snap, on revision 1 it
-- is the one after it.
use mathlib.Core.Path.{◌≡◌, refl, sym, ap, ◌∙◌, subst}
use mathlib.Core.Bool.{Bool, true, false}
use mathlib.Core.List.{List, [], ◌∷◌, ◌++◌, append_assoc}
use Prim.Native.Nat.{ℕ, ◌+◌, ◌*◌, ◌-◌, ◌≤◌, ◌<◌}
use native.Mathlib.Omega.{arith}
use lib.ListN.{length, take}
use lib.Seq.{take-append_seam, get_or-append_seam, take_all, drop_at}
use lib.Dec.{eqb}
use borrow.Author.Tests.{eqb-true, eqb-false}
use Rattle.blocks.specs.Pick.{same}
use Rattle.blocks.specs.Bytes.{part, block_count, block_at, Store, store, store_all}
use Rattle.blocks.specs.Descriptor.{physical, no_descriptor, cost_of, revision_of, head_bytes, tail_at, descriptor_block, renamed_of, linked_of, reopened_of, copying}
use Rattle.chains.specs.Chain.{named, Sound, chain, chain_sound, active_of}
use Rattle.blocks.specs.declared.descriptor.Descriptor.{Descriptor}
use Rattle.blocks.proofs.BoolLaws.{or_true}
use Rattle.blocks.proofs.ByteLaws.{part_part, length_block_at}
use Rattle.blocks.proofs.ListLaws.{same_self}
use Rattle.blocks.proofs.DescriptorLaws.{head_length, block_back}
use Rattle.blocks.specs.Name.{is_name}
use Rattle.chains.proofs.NamedLaws.{named_one, index_at, named_append, named_left}
use Rattle.links.proofs.ChainLaws.{active_snoc, is_sound, descriptors_are}
use Rattle.links.proofs.SoundLaws.{form_mark}
use Rattle.calls.specs.Parts.{area_bad, descriptors_of, snapshots_of, with_name}
use Rattle.calls.specs.Stores.{snapping, snap_stores, revert_stores}
use Rattle.claims.specs.History.{beta_of, Agree, AreBytes}
use Rattle.blocks.proofs.StoreLists.{Whole, none, is_stored, stored_join, stored_length, stored_other, stored_last, blocks_taken_lem, none_stored, one_stored, copies_stored, pair_stored}
use Rattle.calls.proofs.Passed.{SnapPassed, RevertPassed}
use Rattle.calls.proofs.CardLaws.{snapshots_snoc, chain_is, area_kept}
use Rattle.links.proofs.MemberLaws.{member_is}
use Rattle.blocks.proofs.NameLaws.{name_size_lem}
use Rattle.blocks.proofs.RegionLaws.{reopening_kept, reopening_table}
use Rattle.calls.proofs.ActiveLaws.{active_last, active_form, active_inside, active_long, active_name_lem}
use Rattle.changes.proofs.WholeLaws.{snap_whole, revert_whole}
use Rattle.calls.proofs.VisitLaws.{before}
use Rattle.changes.proofs.RevertedChain.{reverted_0, stores_are}
use Rattle.claims.proofs.RevertAgain.{again_agree}
use Rattle.changes.proofs.SnappedChain.{snapped_chain, snapped_revision, snap_opened, d_low, room_bytes, next_nil, old_fits, tail_whole, old_block, new_block}

-- the last of a list under a name that the others do not have
module _ (o : Descriptor) (n : List ℕ) (here : same o.name n ≡ true) where
  named_snoc : (xs : List Descriptor) → named (xs ++ (o ∷ [])) n ≡ true
  named_snoc xs = named_append xs (o ∷ []) n ∙ rw (named_one o n, here) (or_true (named xs n))

  before_snoc : (xs : List Descriptor) → named xs n ≡ false → before (xs ++ (o ∷ [])) n ≡ xs
  before_snoc xs h = rw (index_at xs o [] n h here) (take-append_seam xs (o ∷ []))

  pub with_snoc : (xs : List Descriptor) → named xs n ≡ false → with_name (xs ++ (o ∷ [])) n ≡ o
  with_snoc xs h = rw (index_at xs o [] n h here) (get_or-append_seam xs o [] no_descriptor)

beta_by : (c : List ℕ) (ds : List Descriptor) → descriptors_of c ≡ ds → beta_of c ≡ (active_of ds).beta.0
unfolding beta_of
beta_by c ds e = ap (λ (xs : List Descriptor). (active_of xs).beta.0) e

module _ (c name : List ℕ) (e : SnapPassed c name) where
  abbrev xs : List Descriptor
  xs = snapshots_of (descriptors_of c)

  abbrev d : Descriptor
  d = active_of (descriptors_of c)

  abbrev old : Descriptor
  old = linked_of (renamed_of d name) d.beta

  abbrev new : Descriptor
  new = reopened_of d

  abbrev tail : List ℕ
  tail = tail_at c d.alpha.0

  abbrev t : List ℕ
  t = store_all c (snap_stores c name)

  area : area_bad c ≡ false
  area = e.area

  called : is_name name ≡ true
  called = e.called

  ok : chain_sound (chain c) ≡ true
  ok = e.sound

  unused : named (descriptors_of c) name ≡ false
  unused = e.unused

  room : d.beta.0 + cost_of d ≤ block_count c
  room = e.room

  split : descriptors_of c ≡ xs ++ (d ∷ [])
  split = active_last c (descriptors_of c) (chain_is (chain c) ok)

  name_new : named xs name ≡ false
  name_new = named_left xs (d ∷ []) name (rw split at unused)

  whole : Whole (length c) (snap_stores c name)
  whole = snap_whole c name e

  t_long : length t ≡ length c
  t_long = stored_length (length c) c refl whole

  t_list : descriptors_of t ≡ xs ++ (old ∷ []) ++ (new ∷ [])
  t_list = descriptors_are t (xs ++ (old ∷ new ∷ [])) (snapped_chain c name e) ∙ sym (append_assoc xs (old ∷ []) (new ∷ []))

  t_snapshots : snapshots_of (descriptors_of t) ≡ xs ++ (old ∷ [])
  t_snapshots = ap snapshots_of t_list ∙ snapshots_snoc (xs ++ (old ∷ [])) new

  t_active : active_of (descriptors_of t) ≡ new
  t_active = ap active_of t_list ∙ active_snoc (xs ++ (old ∷ [])) new

  t_named : named (snapshots_of (descriptors_of t)) name ≡ true
  t_named = ap (λ (l : List Descriptor). named l name) t_snapshots ∙ named_snoc old name (same_self name) xs

  there_then : RevertPassed t name
  there_then = record { area = area_kept t c t_long ∙ area; sound = is_sound t (xs ++ (old ∷ new ∷ [])) (snapped_chain c name e); called = called; there = t_named }

  abbrev u : List ℕ
  u = store_all t (revert_stores t name)

  inside : 512 * d.alpha.0 + 512 ≤ length c
  inside = active_inside c (descriptors_of c) (chain_is (chain c) ok)

  -- the block of the active descriptor
  t_tail : tail_at t d.alpha.0 ≡ tail
  unfolding block_at descriptor_block
  t_tail =
      let f = old_fits c name e in
      let w = tail_whole c name e in
      sym (part_part t (512 * d.alpha.0) 512 40 472 (omega arith) (omega (arith, t_long, inside)))
      ∙ ap (λ (b : List ℕ). part b 40 472) (old_block c name e)
      ∙ ap (λ (l : List ℕ). take 472 l) (drop_at (head_bytes old) tail 40 (head_length old f.name))
      ∙ take_all 472 tail (omega (arith, w))

  -- the revert makes the active descriptor again
  abbrev made : List Descriptor → Descriptor → Descriptor
  made ss a = linked_of (renamed_of (with_name ss name) a.name) (physical 0)

  d_again : linked_of (renamed_of old new.name) (physical 0) ≡ d
  d_again = ap (λ (n : ℕ). linked_of d (physical n)) (sym (next_nil c name e))

  v_is : with_name (xs ++ (old ∷ [])) name ≡ old
  v_is = with_snoc old name (same_self name) xs name_new

  -- on revision 1 that of the region opened is what the snap made, and so are its tables
  visit_is : with_name (snapshots_of (descriptors_of t)) name ≡ old
  visit_is = ap (λ (ss : List Descriptor). with_name ss name) t_snapshots ∙ v_is

  made_is : made (snapshots_of (descriptors_of t)) (active_of (descriptors_of t)) ≡ d
  made_is =
      ap (λ (v : Descriptor). linked_of (renamed_of v (active_of (descriptors_of t)).name) (physical 0)) visit_is
      ∙ ap (λ (a : Descriptor). linked_of (renamed_of old a.name) (physical 0)) t_active
      ∙ d_again

  still_opened : block_at t d.beta.0 ≡ descriptor_block (reopened_of d) (tail_at t d.alpha.0)
  still_opened = new_block c name e ∙ ap (descriptor_block (reopened_of d)) (sym t_tail)

  still_copied : (i : ℕ) → i + 1 < cost_of d → block_at t (d.beta.0 + 1 + i) ≡ block_at t (d.alpha.0 + 1 + i)
  still_copied i h =
      let low = d_low c name e in
      let long = active_long c (descriptors_of c) (chain_is (chain c) ok) in
      let n = name_size_lem d.name (active_name_lem c (descriptors_of c) (chain_is (chain c) ok)) in
      snap_opened c name e (d.beta.0 + 1 + i) (λ q. omega (arith, q, low))
      ∙ reopening_table c d low (room_bytes c name e) n i h
      ∙ sym (snap_opened c name e (d.alpha.0 + 1 + i) (λ q. omega (arith, q)) ∙ reopening_kept c d low (room_bytes c name e) n (d.alpha.0 + 1 + i) (omega (arith, long)))

  agree_after : eqb (revision_of c) 1 ≡ true → Agree u t
  agree_after one =
      again_agree t name there_then (ap (λ (n : ℕ). eqb n 1) (snapped_revision c name e) ∙ one) d made_is still_opened still_copied

  -- on revision 0 the active descriptor is again where it was
  module _ (zero : eqb (revision_of c) 1 ≡ false) where
    zero_t : eqb (revision_of t) 1 ≡ false
    zero_t = ap (λ (n : ℕ). eqb n 1) (snapped_revision c name e) ∙ zero

    u_chain : chain u ≡ Sound (xs ++ (d ∷ []))
    u_chain =
        reverted_0 t name there_then zero_t
        ∙ ap (λ (ss : List Descriptor). Sound (before ss name ++ (made ss (active_of (descriptors_of t)) ∷ []))) t_snapshots
        ∙ ap (λ (a : Descriptor). Sound (before (xs ++ (old ∷ [])) name ++ (made (xs ++ (old ∷ [])) a ∷ []))) t_active
        ∙ ap (λ (zs : List Descriptor). Sound (zs ++ (made (xs ++ (old ∷ [])) new ∷ []))) (before_snoc old name (same_self name) xs name_new)
        ∙ ap (λ (v : Descriptor). Sound (xs ++ (linked_of (renamed_of v new.name) (physical 0) ∷ []))) v_is
        ∙ ap (λ (w : Descriptor). Sound (xs ++ (w ∷ []))) d_again

    u_stores : revert_stores t name ≡ store d.alpha.0 (descriptor_block d (tail_at t d.alpha.0)) ∷ []
    u_stores =
        stores_are t name there_then zero_t
        ∙ ap (λ (w : Descriptor). store w.alpha.0 (descriptor_block w (tail_at t w.alpha.0)) ∷ []) made_is

    u_whole : Whole (length t) (revert_stores t name)
    u_whole = revert_whole t name there_then

    u_long : length u ≡ length c
    u_long = stored_length (length t) t refl u_whole ∙ t_long

    block_again : AreBytes c → descriptor_block d tail ≡ block_at c d.alpha.0
    block_again bytes =
        ap (λ (x : Descriptor). descriptor_block x tail) (member_is c (descriptors_of c) xs d [] (chain_is (chain c) ok) split)
        ∙ block_back c d.alpha.0 bytes inside (form_mark c d.alpha.0 d (active_form c (descriptors_of c) (chain_is (chain c) ok)))

    block_stored : AreBytes c → length (descriptor_block d (tail_at t d.alpha.0)) ≡ 512
    block_stored bytes =
        ap (λ (l : List ℕ). length (descriptor_block d l)) t_tail ∙ ap length (block_again bytes) ∙ length_block_at c d.alpha.0 inside

    u_block : AreBytes c → block_at u d.alpha.0 ≡ block_at c d.alpha.0
    u_block bytes =
        ap (λ (ss : List Store). block_at (store_all t ss) d.alpha.0) u_stores
        ∙ stored_last (length t) t refl none d.alpha.0 (descriptor_block d (tail_at t d.alpha.0)) (block_stored bytes) (omega (arith, t_long, inside)) none (none_stored d.alpha.0)
        ∙ ap (λ (l : List ℕ). descriptor_block d l) t_tail
        ∙ block_again bytes

    -- the other blocks below beta
    snap_kept : (q : ℕ) → (d.alpha.0 ≡ q → ⊥) → q < d.beta.0 → is_stored (snap_stores c name) q ≡ false
    unfolding snap_stores snapping
    snap_kept q n h =
        rw (stored_join (copying c (d.alpha.0 + 1) (d.beta.0 + 1) (cost_of d - 1)) (store d.beta.0 (descriptor_block new tail) ∷ store d.alpha.0 (descriptor_block old tail) ∷ []) q, copies_stored c (d.alpha.0 + 1) (d.beta.0 + 1) (cost_of d - 1) q (omega arith))
        (pair_stored d.beta.0 d.alpha.0 (descriptor_block new tail) (descriptor_block old tail) q (λ k. omega arith) n)

    other_kept : (q : ℕ) → (d.alpha.0 ≡ q → ⊥) → q < d.beta.0 → block_at u q ≡ block_at c q
    other_kept q n h =
        stored_other (length t) t refl u_whole q (ap (λ (ss : List Store). is_stored ss q) u_stores ∙ one_stored d.alpha.0 (descriptor_block d (tail_at t d.alpha.0)) q n)
        ∙ stored_other (length c) c refl whole q (snap_kept q n h)

    block_by : AreBytes c → (q : ℕ) → q < d.beta.0 → (z : Bool) → eqb d.alpha.0 q ≡ z → block_at u q ≡ block_at c q
    block_by bytes q h true z = subst (λ (n : ℕ). block_at u n ≡ block_at c n) (eqb-true d.alpha.0 q z) (u_block bytes)
    block_by bytes q h false z = other_kept q (eqb-false d.alpha.0 q z) h

    u_beta : beta_of u ≡ d.beta.0
    u_beta = beta_by u (xs ++ (d ∷ [])) (descriptors_are u (xs ++ (d ∷ [])) u_chain) ∙ ap (λ (x : Descriptor). x.beta.0) (active_snoc xs d)

    agree_then : AreBytes c → Agree u c
    agree_then bytes =
        record {
          long = u_long;
          sound = is_sound u (xs ++ (d ∷ [])) u_chain;
          sound' = ok;
          beta = u_beta ∙ sym (beta_by c (descriptors_of c) refl);
          below = subst (λ (n : ℕ). take (512 * n) u ≡ take (512 * n) c) (sym u_beta) (blocks_taken_lem u c d.beta.0 (λ q h. block_by bytes q h (eqb d.alpha.0 q) refl));
        }

pub undone_passed : (c name : List ℕ) → SnapPassed c name → RevertPassed (store_all c (snap_stores c name)) name
undone_passed c name e = there_then c name e

pub undone : (c name : List ℕ) → AreBytes c → SnapPassed c name → eqb (revision_of c) 1 ≡ false → let t = store_all c (snap_stores c name) in Agree (store_all t (revert_stores t name)) c
undone c name bytes e zero = agree_then c name e zero bytes

pub unchanged : (c name : List ℕ) → SnapPassed c name → eqb (revision_of c) 1 ≡ true → let t = store_all c (snap_stores c name) in Agree (store_all t (revert_stores t name)) t
unchanged c name e one = agree_after c name e one
