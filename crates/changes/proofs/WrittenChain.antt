-- The chain after an accepted write: the snapshots as they were, then the active descriptor with as many more blocks as the write took; and which blocks it stores.
use mathlib.Core.Path.{◌≡◌, refl, sym, ap, ◌∙◌, subst}
use mathlib.Core.Logic.{inl, ◌⊎◌}
use mathlib.Core.Bool.{Bool, true, false}
use mathlib.Core.List.{List, [], ◌∷◌, ◌++◌}
use Prim.Native.Nat.{ℕ, ◌+◌, ◌/◌, ◌%◌, ◌≤◌, ◌<◌}
use native.Mathlib.Omega.{arith}
use lib.ListN.{length, length-append}
use lib.Dec.{eqb}
use borrow.Author.Tests.{eqb-true, eqb-false}
use Rattle.blocks.specs.Pick.{pick}
use Rattle.blocks.specs.Bytes.{part, block_count, block_at, zero_block, Store, store, store_all}
use Rattle.blocks.specs.Descriptor.{descriptor_at, tail_at, descriptor_block, extended_of, revision_of, phi_ok}
use Rattle.chains.specs.Chain.{sound, Sound, chain, active_of}
use Rattle.blocks.specs.declared.numbers.Physical.{Physical}
use Rattle.blocks.specs.declared.descriptor.Descriptor.{Descriptor}
use Rattle.blocks.proofs.BoolLaws.{no}
use Rattle.blocks.proofs.DescriptorLaws.{Fits, tail_length, extended_none}
use Rattle.links.proofs.LinkedLaws.{last, chain_linked}
use Rattle.blocks.proofs.NameLaws.{name_size_lem}
use Rattle.entries.specs.Entry.{find, table_is_new, need, table_with, tail_with, set_in_table, set_in_new_table, writing}
use Rattle.entries.specs.Found.{Found, Misplaced, Entry}
use Rattle.entries.proofs.EntryLaws.{find_placed, need_more, new_table_lem, old_table, placed_not_active, need_nothing}
use Rattle.entries.proofs.SetLaws.{tail_with_length, put_reserved}
use Rattle.calls.specs.Parts.{descriptors_of, snapshots_of, found_through, is_misplaced}
use Rattle.calls.specs.Stores.{write_stores}
use Rattle.calls.proofs.CardLaws.{card_most, chain_is}
use Rattle.links.proofs.SharedLaws.{linked_chain, shared_descriptor, shared_revision, shared_sound}
use Rattle.links.proofs.RelinkedLaws.{linked_head, relinked}
use Rattle.links.proofs.ChangedLaws.{changed_last}
use Rattle.blocks.proofs.StoreLists.{Whole, is_stored, stored_length, stored_other, none_stored, not_stored, stored_among}
use Rattle.entries.proofs.FoundLaws.{found_own, found_placed}
use Rattle.calls.proofs.Passed.{WritePassed}
use Rattle.calls.proofs.ActiveLaws.{chain_some, active_last, snapshots_few, active_layout, active_fresh, active_linked, active_next, active_inside, active_long, active_rise, active_volume, active_name_lem, active_phi}
use Rattle.changes.proofs.WholeLaws.{write_whole}
use Rattle.links.proofs.SoundLaws.{phi_any}
use Rattle.entries.proofs.PutLaws.{writing_above, writing_covers}

-- stores at or above the active alpha, on a card with a sound chain
module _ (c : List ℕ) (ds : List Descriptor) (sound_c : chain c ≡ Sound ds) where
  abbrev d : Descriptor
  d = active_of ds

  abbrev xs : List Descriptor
  xs = snapshots_of ds

  module _ (ss : List Store) (whole : Whole (length c) ss) (low : (q : ℕ) → q < d.alpha.0 → is_stored ss q ≡ false) where
    abbrev t : List ℕ
    t = store_all c ss

    long : length c ≡ length t
    long = sym (stored_length (length c) c refl whole)

    kept : (q : ℕ) → q < d.alpha.0 → block_at c q ≡ block_at t q
    kept q h = sym (stored_other (length c) c refl whole q (low q h))

    -- where the active descriptor's block is not stored either, the chain is as it was
    module _ (here : is_stored ss d.alpha.0 ≡ false) where
      kept_here : block_at c d.alpha.0 ≡ block_at t d.alpha.0
      kept_here = sym (stored_other (length c) c refl whole d.alpha.0 here)

      upto_by : (q : ℕ) → q ≤ d.alpha.0 → (z : Bool) → eqb q d.alpha.0 ≡ z → block_at c q ≡ block_at t q
      upto_by q h true e = subst (λ (n : ℕ). block_at c n ≡ block_at t n) (sym (eqb-true q d.alpha.0 e)) kept_here
      upto_by q h false e = kept q (omega (arith, eqb-false q d.alpha.0 e))

      same_at : (q : ℕ) → q ≤ d.alpha.0 → descriptor_at c q ≡ descriptor_at t q
      same_at q h = shared_descriptor c t q (omega (arith, (active_inside c ds sound_c))) (omega (arith, (active_inside c ds sound_c), long)) (upto_by q h (eqb q d.alpha.0) refl)

      same_revision : revision_of c ≡ revision_of t
      same_revision =
          shared_revision c t 0 (omega (arith, (active_inside c ds sound_c))) (omega (arith, (active_inside c ds sound_c), long)) (upto_by 0 (omega arith) (eqb 0 d.alpha.0) refl)

      same_sound : sound c xs d.alpha.0 ≡ sound t xs d.alpha.0
      same_sound =
          let first = same_at 0 (omega arith) in
          shared_sound c t d.alpha.0 (active_inside c ds sound_c) (omega (arith, (active_inside c ds sound_c), long)) kept_here long same_revision
          (ap (λ (x : Descriptor). x.layout) first) (ap (λ (x : Descriptor). x.volume) first) xs

      pub kept_chain : (chain t ≡ Sound (xs ++ (d ∷ []))) × (revision_of t ≡ revision_of c)
      kept_chain =
          let head = linked_head c (active_linked c ds sound_c) d [] refl in (
            linked_chain t (xs ++ (d ∷ []))
                (relinked c t long d [] (d ∷ []) (omega (arith, (active_inside c ds sound_c))) kept (chain_linked c ds sound_c) xs (active_last c ds sound_c)
                (last (head.0 ∙ same_at d.alpha.0 (omega arith)) (sym same_sound ∙ head.1) (active_next c ds sound_c)))
                (omega (arith, length-append xs (d ∷ []), (snapshots_few c ds sound_c))),
            sym same_revision,
          )

    -- where its block holds it with k more blocks in its region
    module _ (k : ℕ) (room : d.beta.0 + k ≤ block_count c) (small : block_count c ≤ 65536) (tail : List ℕ) (is : block_at t d.alpha.0 ≡ descriptor_block (extended_of d k) tail)
        (tail_whole : length tail ≡ 472) (reserved : part tail 0 24 ≡ part (tail_at c d.alpha.0) 0 24) (phi : phi_ok d.layout (part tail 24 448) ≡ true) where
      extended_fits : Fits (extended_of d k)
      extended_fits =
          record {
            layout = omega (arith, active_layout c ds sound_c);
            volume = omega (arith, (active_volume c ds sound_c));
            alpha = omega (arith, (active_rise c ds sound_c));
            beta = omega arith;
            next = omega (arith, (active_next c ds sound_c));
            name = name_size_lem d.name (active_name_lem c ds sound_c);
          }

      end : d.beta.0 + k ≤ block_count t
      unfolding block_count
      end = subst (λ (n : ℕ). d.beta.0 + k ≤ n / 512) long room

      extended_chain : (chain t ≡ Sound (xs ++ (extended_of d k ∷ []))) × (revision_of t ≡ revision_of c)
      extended_chain =
          changed_last c ds xs d [] sound_c (active_last c ds sound_c) t long kept (extended_of d k) tail is extended_fits tail_whole refl refl refl (active_name_lem c ds sound_c) reserved phi
          (omega (arith, (active_long c ds sound_c))) end (inl (active_next c ds sound_c)) (active_fresh c ds sound_c) (active_next c ds sound_c) (snapshots_few c ds sound_c)

-- a write through an entry that was found
module _ (c : List ℕ) (ds : List Descriptor) (sound_c : chain c ≡ Sound ds) (small : block_count c ≤ 65536) (l : ℕ) (block : List ℕ) (m p : Physical)
    (is : find c ds (active_of ds) l ≡ Entry m p) (below : l < (active_of ds).volume) (room : (active_of ds).beta.0 + need (active_of ds).alpha.0 (Entry m p) ≤ block_count c) where
  abbrev active : Descriptor
  active = active_of ds

  abbrev rise : active.alpha.0 < active.beta.0
  rise = active_rise c ds sound_c

  abbrev taken : ℕ
  taken = need active.alpha.0 (Entry m p)

  abbrev stores_by : Bool → Bool → List Store
  stores_by z n =
      pick z (store p.0 block ∷ [])
      (pick n (store (active.beta.0 + 1) block ∷ set_in_new_table c active m.0 l) (store active.beta.0 block ∷ set_in_table c active m.0 l))

  abbrev After : List Store → ℕ → Type 0
  After ss k = (chain (store_all c ss) ≡ Sound (snapshots_of ds ++ (extended_of active k ∷ []))) × (revision_of (store_all c ss) ≡ revision_of c)

  -- over a block of its own
  entry_above : taken ≡ 0 → active.alpha.0 < p.0
  entry_above e =
      let r = need_nothing active.alpha.0 m p e in
      let n = placed_not_active ds (chain_some c ds sound_c) p.0 (find_placed c ds active l m p is) r.0 in
      omega (arith, r.1, n)

  over : taken ≡ 0 → Whole (length c) (store p.0 block ∷ []) → After (store p.0 block ∷ []) 0
  over e w =
      let a = entry_above e in
      let h : (q : ℕ) → q ≤ active.alpha.0 → is_stored (store p.0 block ∷ []) q ≡ false = λ q u. not_stored p.0 block [] q (λ v. omega (arith, a, v)) (none_stored q) in
      let k = kept_chain c ds sound_c (store p.0 block ∷ []) w (λ q u. h q (omega arith)) (h active.alpha.0 (omega arith)) in
      (k.0 ∙ ap (λ (x : Descriptor). Sound (snapshots_of ds ++ (x ∷ []))) (sym (extended_none active)), k.1)

  -- through a table block of the active region
  table_above_by : table_is_new active.alpha.0 m.0 ≡ false → (b : Bool) → eqb active.layout 1 ≡ b → active.alpha.0 < m.0
  table_above_by e true h = omega (arith, found_own c ds active l m p is h)
  table_above_by e false h =
      let r = old_table active.alpha.0 m.0 e in
      let n = placed_not_active ds (chain_some c ds sound_c) m.0 (found_placed c ds active l m p is h) r.0 in
      omega (arith, r.1, n)

  through_table : table_is_new active.alpha.0 m.0 ≡ false → active.beta.0 + 1 ≤ block_count c → Whole (length c) (store active.beta.0 block ∷ set_in_table c active m.0 l)
      → After (store active.beta.0 block ∷ set_in_table c active m.0 l) 1
  unfolding set_in_table
  through_table e fits w =
      let a : ℕ = active.alpha.0 in
      let tail : List ℕ = tail_at c a in
      let head : List ℕ = descriptor_block (extended_of active 1) tail in
      let table : List ℕ = table_with (block_at c m.0) (l % 128) active.beta.0 in
      let above = table_above_by e (eqb active.layout 1) refl in
      let rest : (q : ℕ) → q ≤ a → is_stored (store m.0 table ∷ []) q ≡ false = λ q u. not_stored m.0 table [] q (λ v. omega (arith, above, v)) (none_stored q) in
      extended_chain c ds sound_c (store active.beta.0 block ∷ store a head ∷ store m.0 table ∷ []) w
      (λ q u. not_stored active.beta.0 block (store a head ∷ store m.0 table ∷ []) q (λ v. omega (arith, rise, v)) (not_stored a head (store m.0 table ∷ []) q (λ v. omega (arith, v)) (rest q (omega arith))))
      1 fits small tail
      (stored_among (length c) a head (store m.0 table ∷ []) (rest a (omega arith)) c refl (store active.beta.0 block ∷ []) w)
      (tail_length c a (active_inside c ds sound_c)) refl (active_phi c ds sound_c)

  -- through a new table block, which arises only in layout 2
  layout_by : table_is_new active.alpha.0 m.0 ≡ true → (b : Bool) → eqb active.layout 1 ≡ b → b ≡ false
  layout_by e true h = no (sym (new_table_lem active.alpha.0 m.0 (omega (arith, found_own c ds active l m p is h))) ∙ e)
  layout_by e false h = refl

  through_new : table_is_new active.alpha.0 m.0 ≡ true → active.beta.0 + 2 ≤ block_count c → Whole (length c) (store (active.beta.0 + 1) block ∷ set_in_new_table c active m.0 l)
      → After (store (active.beta.0 + 1) block ∷ set_in_new_table c active m.0 l) 2
  unfolding set_in_new_table
  through_new e fits w =
      let a : ℕ = active.alpha.0 in
      let b : ℕ = active.beta.0 in
      let old : List ℕ = tail_at c a in
      let old_long : length old ≡ 472 = tail_length c a (active_inside c ds sound_c) in
      let number : l / 128 < 112 = omega (arith, below, active_volume c ds sound_c) in
      let tail : List ℕ = tail_with old (l / 128) b in
      let head : List ℕ = descriptor_block (extended_of active 2) tail in
      let table : List ℕ = table_with (pick (eqb m.0 0) zero_block (block_at c m.0)) (l % 128) (b + 1) in
      extended_chain c ds sound_c (store (b + 1) block ∷ store b table ∷ store a head ∷ []) w
      (λ q u. not_stored (b + 1) block (store b table ∷ store a head ∷ []) q (λ v. omega (arith, rise, v))
      (not_stored b table (store a head ∷ []) q (λ v. omega (arith, rise, v)) (not_stored a head [] q (λ v. omega (arith, v)) (none_stored q))))
      2 fits small tail
      (stored_among (length c) a head [] (none_stored a) c refl (store (b + 1) block ∷ store b table ∷ []) w)
      (tail_with_length old (l / 128) b old_long number)
      (put_reserved old (l / 128) b number old_long)
      (phi_any active.layout (part tail 24 448) (layout_by e (eqb active.layout 1) refl))

  entry_by : (z : Bool) → eqb taken 0 ≡ z → (n : Bool) → table_is_new active.alpha.0 m.0 ≡ n → (z ≡ false → taken ≡ pick n 2 1) → Whole (length c) (stores_by z n) → After (stores_by z n) taken
  entry_by true e n g k w = subst (λ (x : ℕ). After (store p.0 block ∷ []) x) (sym (eqb-true taken 0 e)) (over (eqb-true taken 0 e) w)
  entry_by false e true g k w =
      let q : taken ≡ 2 = k refl in
      subst (λ (x : ℕ). After (store (active.beta.0 + 1) block ∷ set_in_new_table c active m.0 l) x) (sym q) (through_new g (omega (arith, room, q)) w)
  entry_by false e false g k w =
      let q : taken ≡ 1 = k refl in
      subst (λ (x : ℕ). After (store active.beta.0 block ∷ set_in_table c active m.0 l) x) (sym q) (through_table g (omega (arith, room, q)) w)

  entry_chain : Whole (length c) (writing c active (Entry m p) l block) → After (writing c active (Entry m p) l block) taken
  unfolding writing
  entry_chain w =
      entry_by (eqb taken 0) refl (table_is_new active.alpha.0 m.0) refl (λ e. need_more active.alpha.0 m p (eqb-false taken 0 e)) w

-- a write through what was found
found_chain : (c : List ℕ) (ds : List Descriptor) → chain c ≡ Sound ds → block_count c ≤ 65536 → (l : ℕ) (block : List ℕ) (f : Found) → find c ds (active_of ds) l ≡ f → is_misplaced f ≡ false
    → l < (active_of ds).volume → (active_of ds).beta.0 + need (active_of ds).alpha.0 f ≤ block_count c → Whole (length c) (writing c (active_of ds) f l block)
    → (chain (store_all c (writing c (active_of ds) f l block)) ≡ Sound (snapshots_of ds ++ (extended_of (active_of ds) (need (active_of ds).alpha.0 f) ∷ []))) × (revision_of (store_all c (writing c (active_of ds) f l block)) ≡ revision_of c)
unfolding is_misplaced
found_chain c ds sound_c small l block (Misplaced h) is g below room w = no (sym g)
found_chain c ds sound_c small l block (Entry m p) is g below room w = entry_chain c ds sound_c small l block m p is below room w

-- the chain and the revision after an accepted write
written : (c : List ℕ) (l : ℕ) (block : List ℕ) → WritePassed c l block
    → let d = active_of (descriptors_of c) in
    (chain (store_all c (write_stores c l block)) ≡ Sound (snapshots_of (descriptors_of c) ++ (extended_of d (need d.alpha.0 (found_through c d l)) ∷ []))) × (revision_of (store_all c (write_stores c l block)) ≡ revision_of c)
unfolding write_stores
written c l block e =
    let ds : List Descriptor = descriptors_of c in
    found_chain c ds (chain_is (chain c) e.sound) (card_most c e.area) l block (found_through c (active_of ds) l) refl
    e.in_place e.below e.room (write_whole c l block e)

pub written_chain : (c : List ℕ) (l : ℕ) (block : List ℕ) → WritePassed c l block
    → let d = active_of (descriptors_of c) in
    chain (store_all c (write_stores c l block)) ≡ Sound (snapshots_of (descriptors_of c) ++ (extended_of d (need d.alpha.0 (found_through c d l)) ∷ []))
written_chain c l block e = (written c l block e).0

pub written_revision : (c : List ℕ) (l : ℕ) (block : List ℕ) → WritePassed c l block → revision_of (store_all c (write_stores c l block)) ≡ revision_of c
written_revision c l block e = (written c l block e).1

-- a write stores no block below the active alpha, and every block that it takes
pub write_above : (c : List ℕ) (l : ℕ) (block : List ℕ) → WritePassed c l block → (p : ℕ) → p < (active_of (descriptors_of c)).alpha.0 → is_stored (write_stores c l block) p ≡ false
unfolding write_stores
write_above c l block e p h =
    let d = active_of (descriptors_of c) in
    writing_above c d (active_rise c (descriptors_of c) (chain_is (chain c) e.sound)) l block p h (found_through c d l)

pub write_covered : (c : List ℕ) (l : ℕ) (block : List ℕ)
    → let d = active_of (descriptors_of c) in
    (p : ℕ) → p < d.beta.0 + need d.alpha.0 (found_through c d l) → (p < d.beta.0) ⊎ (is_stored (write_stores c l block) p ≡ true)
unfolding write_stores
write_covered c l block p h = let d = active_of (descriptors_of c) in writing_covers c d l block (found_through c d l) p h
