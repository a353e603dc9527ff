-- Accepted reads, writes, snaps and reverts are the paper's algorithms, block by block.
use mathlib.Core.Path.{◌≡◌, refl, sym, ap, ◌∙◌, subst}
use mathlib.Core.Bool.{Bool, true, false, not, ◌&&◌}
use mathlib.Core.List.{List, [], ◌∷◌, ◌++◌, append_assoc}
use Prim.Native.Nat.{ℕ, zero, suc, ◌+◌, ◌*◌, ◌-◌, ◌/◌, ◌%◌, ◌≤◌, ◌<◌}
use native.Mathlib.Omega.{arith}
use lib.ListN.{length, take, drop, get_or, length-replicate}
use lib.Seq.{take-append-add, drop-append-add, drop_at}
use lib.Dec.{eqb, ltb, leb}
use borrow.Author.Tests.{eq-eqb, ne_eqb, le-leb, lt-leb, lt-ltb, le-ltb, eqb-true, eqb-false, ltb-true, ltb-false, leb-true, leb-false, not-true}
use Rattle.blocks.specs.Pick.{pick}
use Rattle.blocks.specs.Bytes.{u32_at, le32, splice, store, block_count, block_at, zero_block, store_block, store_all}
use Rattle.blocks.specs.Descriptor.{physical, table_count, cost, cost_of, no_descriptor, descriptor_at, head_bytes, tail_at, descriptor_block, renamed_of, linked_of, extended_of, reopened_of, copying}
use Rattle.chains.specs.Chain.{chain, chain_sound, index_of, named, Regions, regions_of, active_of}
use Rattle.blocks.specs.declared.descriptor.Descriptor.{Descriptor}
use Rattle.blocks.proofs.Tests.{and_left}
use Rattle.blocks.proofs.BoolLaws.{no, or_true}
use Rattle.blocks.proofs.ByteLaws.{u32_part, store_length, store_same, store_other, length_block_at}
use Rattle.blocks.proofs.DescriptorLaws.{head_length, block_back, tail_length, block_whole, cost_least}
use Rattle.chains.proofs.NamedLaws.{index_below}
use Rattle.links.proofs.ChainLaws.{regions_ok}
use Rattle.links.proofs.LinkedLaws.{at_alpha, RegionAt}
use Rattle.links.proofs.SoundLaws.{form_mark}
use Rattle.blocks.proofs.NameLaws.{name_size_lem}
use Rattle.entries.specs.InPlace.{is_descriptor, is_in_place}
use Rattle.entries.specs.Entry.{entry_at, phi_at, table_of, entry_found, find, table_is_new, need, table_with, tail_with, set_in_table, set_in_new_table, writing}
use Rattle.entries.specs.Through.{Through}
use Rattle.entries.specs.Found.{Found, Misplaced, Entry}
use Rattle.entries.proofs.RegionLaws.{through_region, through_count, through_member}
use Rattle.entries.proofs.EntryLaws.{through_alpha, through_beta, through_end, through_volume, found_table, found_entry, placed_other}
use Rattle.entries.proofs.SetLaws.{table_length, tail_with_length}
use Rattle.calls.specs.Call.{Target, Call, Read, Write, Snap, Block}
use Rattle.calls.specs.Parts.{area_bad, descriptors_of, snapshots_of, with_name, target_of, found_through, is_misplaced, block_found}
use Rattle.calls.specs.Stores.{snapping, write_stores, snap_stores}
use Rattle.calls.specs.Meaning.{answer_of, stores_of, filled_of}
use Rattle.claims.specs.Algorithms.{Sigma, put, put_number, copy_range, close_region, open_region, algorithm1, algorithm2, algorithm3, algorithm4, algorithm5, algorithm6}
use Rattle.calls.specs.Step.{step, is_accepted}
use Rattle.claims.specs.History.{AreBytes}
use Rattle.calls.proofs.CardLaws.{card_through, card_snapshot, card_snapshot_count, chain_is}
use Rattle.calls.proofs.Passed.{read_passed, write_passed, snap_passed}
use Rattle.calls.proofs.StepLaws.{accepted_card}
use Rattle.links.proofs.StoredLaws.{form_name}
use Rattle.blocks.proofs.StoreLists.{stored_append, copied_in, copied_out, stored_length, inside_copying}
use Rattle.entries.proofs.TableLaws.{entry_in_lem, phi_in_lem}
use Rattle.calls.proofs.ActiveLaws.{active_volume, active_through}

-- an accepted call: the card after it, and what was lent
accepted_lent : (k : Call) (c : List ℕ) → is_accepted (answer_of k c) ≡ true → (step k c).outcome.lent ≡ filled_of k c
unfolding step
accepted_lent k c e = rw e

-- what is read through an entry that is in place
read_entry : (c : List ℕ) (ds : List Descriptor) (d : Descriptor) (m p : ℕ) (t : Bool) → is_in_place ds d p ≡ t → is_misplaced (pick t (Entry (physical m) (physical p)) (Misplaced (physical m))) ≡ false
    → block_found c (pick t (Entry (physical m) (physical p)) (Misplaced (physical m))) ≡ pick (eqb p 0) zero_block (block_at c p)
unfolding is_misplaced block_found
read_entry c ds d m p true e h = refl
read_entry c ds d m p false e h = no (sym h)

read_found : (c : List ℕ) (ds : List Descriptor) (d : Descriptor) (m p : ℕ) → is_misplaced (entry_found ds d m p) ≡ false → block_found c (entry_found ds d m p) ≡ pick (eqb p 0) zero_block (block_at c p)
unfolding entry_found
read_found c ds d m p h = read_entry c ds d m p (is_in_place ds d p) refl h

-- the same through Phi
read_phi : (c : List ℕ) (ds : List Descriptor) (d : Descriptor) (m p : ℕ) (i z : Bool)
    → is_misplaced (pick i (pick z (Entry (physical 0) (physical 0)) (entry_found ds d m p)) (Misplaced d.alpha)) ≡ false
    → block_found c (pick i (pick z (Entry (physical 0) (physical 0)) (entry_found ds d m p)) (Misplaced d.alpha)) ≡ pick z zero_block (pick (eqb p 0) zero_block (block_at c p))
unfolding is_misplaced block_found
read_phi c ds d m p true true h = refl
read_phi c ds d m p true false h = read_found c ds d m p h
read_phi c ds d m p false z h = no (sym h)

-- a block read in both layouts
module _ (c : List ℕ) (ds : List Descriptor) (d : Descriptor) (l : ℕ) (below : l < 14336) where
  read_by : (t : Bool) → eqb d.layout 1 ≡ t → is_misplaced (find c ds d l) ≡ false
      → block_found c (find c ds d l) ≡ pick t (algorithm1 (block_at c) d.alpha.0 l) (algorithm4 (block_at c) d.alpha.0 l)
  unfolding find table_of algorithm1 algorithm4
  read_by true e h =
      rw (e, entry_in_lem c (d.alpha.0 + 1 + l / 128) (l % 128) (omega arith))
      (read_found c ds d (d.alpha.0 + 1 + l / 128) (entry_at c (d.alpha.0 + 1 + l / 128) (l % 128)) (rw e at h))
  read_by false e h =
      rw (e, phi_in_lem c d (l / 128) (omega arith), entry_in_lem c (phi_at c d (l / 128)) (l % 128) (omega arith))
      (read_phi c ds d (phi_at c d (l / 128)) (entry_at c (phi_at c d (l / 128)) (l % 128)) (is_in_place ds d (phi_at c d (l / 128))) (eqb (phi_at c d (l / 128)) 0) (rw e at h))

-- an accepted read gives the block of algorithm 1 or 4
pub algorithm_read : (c : List ℕ) → AreBytes c → (target : Target) (name : List ℕ) (l : ℕ) (block : List ℕ) → is_accepted (answer_of (Read target name l block) c) ≡ true
    → let d = target_of (descriptors_of c) target name in
    (step (Read target name l block) c).outcome.lent ≡ Block (pick (eqb d.layout 1) (algorithm1 (block_at c) d.alpha.0 l) (algorithm4 (block_at c) d.alpha.0 l))
unfolding filled_of
algorithm_read c bytes target name l block e =
    let shown = read_passed c target name l block e in
    let d : Descriptor = target_of (descriptors_of c) target name in
    let most = active_volume c (descriptors_of c) (chain_is (chain c) shown.sound) in
    let below = shown.below in
    accepted_lent (Read target name l block) c e
    ∙ ap Block (read_by c (descriptors_of c) d l (omega (arith, most, below)) (eqb d.layout 1) refl shown.in_place)

-- the block of a descriptor of the chain
region_block : (c : List ℕ) → AreBytes c → (p end : ℕ) (d : Descriptor) → RegionAt c p end d → 512 * d.alpha.0 + 512 ≤ length c → block_at c d.alpha.0 ≡ descriptor_block d (tail_at c d.alpha.0)
region_block c bytes p end d r inside =
    let a = at_alpha c p end d r in
    let h : 512 * p + 512 ≤ length c = omega (arith, a, inside) in
    subst (λ (n : ℕ). block_at c n ≡ descriptor_block d (tail_at c n)) (sym a)
    (sym (block_back c p bytes h (form_mark c p d r.form)) ∙ ap (λ (x : Descriptor). descriptor_block x (tail_at c p)) (sym r.is))

pub through_block : (c : List ℕ) → AreBytes c → (starts : List ℕ) (count : ℕ) (d : Descriptor) → Through c starts count d → block_at c d.alpha.0 ≡ descriptor_block d (tail_at c d.alpha.0)
through_block c bytes starts count d t = region_block c bytes _ _ d (through_region c starts count d t) (through_alpha c starts count d t)

-- numbers and a name put into a descriptor's block
module _ (d : Descriptor) (tail : List ℕ) where
  put_alpha : (n : ℕ) → splice (descriptor_block d tail) 12 (le32 n)
      ≡ descriptor_block (record { layout = d.layout; volume = d.volume; alpha = physical n; beta = d.beta; next = d.next; name = d.name }) tail
  unfolding splice descriptor_block head_bytes le32
  put_alpha n = refl

  put_beta : (n : ℕ) → splice (descriptor_block d tail) 16 (le32 n)
      ≡ descriptor_block (record { layout = d.layout; volume = d.volume; alpha = d.alpha; beta = physical n; next = d.next; name = d.name }) tail
  unfolding splice descriptor_block head_bytes le32
  put_beta n = refl

  put_link : (n : ℕ) → splice (descriptor_block d tail) 20 (le32 n) ≡ descriptor_block (linked_of d (physical n)) tail
  unfolding splice descriptor_block head_bytes le32
  put_link n = refl

  put_name : length d.name ≡ 16 → (n : List ℕ) → length n ≡ 16 → splice (descriptor_block d tail) 24 n ≡ descriptor_block (renamed_of d n) tail
  unfolding splice descriptor_block head_bytes le32
  put_name e n f = rw f (ap (λ (x : List ℕ). head_bytes (renamed_of d n) ++ x) (drop_at d.name tail 16 e))

-- the block of a descriptor that is closed, and the other blocks
pub close_by : (s : Sigma) (a b : ℕ) (name : List ℕ) (p : ℕ) (z : Bool) → eqb p a ≡ z → close_region s a b name p ≡ pick z (splice (splice (s a) 24 name) 20 (le32 b)) (s p)
close_by s a b name p true e = rw (e, eq-eqb a a refl)
close_by s a b name p false e = rw e

pub closed_block : (b : List ℕ) (d : Descriptor) (tail : List ℕ) → b ≡ descriptor_block d tail → length d.name ≡ 16 → (name : List ℕ) → length name ≡ 16 → (n : ℕ)
    → splice (splice b 24 name) 20 (le32 n) ≡ descriptor_block (linked_of (renamed_of d name) (physical n)) tail
closed_block b d tail is e name f n = rw (is, put_name d tail e name f) (put_link (renamed_of d name) tail n)

-- one store
pub store_by : (c : List ℕ) (a : ℕ) (b : List ℕ) → length b ≡ 512 → 512 * a + 512 ≤ length c → (p : ℕ) (z : Bool) → eqb p a ≡ z → block_at (store_block c a b) p ≡ pick z b (block_at c p)
store_by c a b w h p true e = rw (eqb-true p a e) (store_same c a b w h)
store_by c a b w h p false e = store_other c a b w h p (eqb-false p a e)

-- a snapshot that has the name
module _ (c : List ℕ) (area : area_bad c ≡ false) (sound : chain_sound (chain c) ≡ true) where
  abbrev r : Regions
  r = regions_of (chain c)

  pub snapshot_through : (name : List ℕ) → named (snapshots_of (descriptors_of c)) name ≡ true → Through c r.starts r.count (with_name (snapshots_of (descriptors_of c)) name)
  snapshot_through name called =
      let ss : List Descriptor = snapshots_of (descriptors_of c) in
      let ok = regions_ok (chain c) sound in
      let h : index_of ss name < r.count - 1 = omega (arith, index_below ss name called, card_snapshot_count c r refl area ok) in
      card_through c r refl area ok (index_of ss name) (omega arith) (with_name ss name) (card_snapshot c r refl area ok (index_of ss name) h)

pub through_name : (c starts : List ℕ) (count : ℕ) (d : Descriptor) → Through c starts count d → length d.name ≡ 16
through_name c starts count d t = name_size_lem d.name (form_name c _ d (through_region c starts count d t).form)

-- the range that the algorithm copies
pub range_by : (s : Sigma) (a b n p : ℕ) (x y : Bool) → leb b p ≡ x → ltb p (b + n) ≡ y → (out : List ℕ) → (b ≤ p → p < b + n → out ≡ s (a + (p - b))) → ((b ≤ p → p < b + n → ⊥) → out ≡ s p) → out ≡ copy_range s a b n p
range_by s a b n p true true e f out i o = rw (e, f) (i (leb-true b p e) (ltb-true p (b + n) f))
range_by s a b n p true false e f out i o = let h = ltb-false p (b + n) f in rw (e, f) (o (λ u v. absurd (omega arith)))
range_by s a b n p false y e f out i o = let h = leb-false b p e in rw e (o (λ u v. absurd (omega arith)))

-- the block of a region that is opened, and the other blocks
pub open_by : (s : Sigma) (b k p : ℕ) (z : Bool) → eqb p b ≡ z → open_region s b k p ≡ pick z (splice (splice (s b) 12 (le32 b)) 16 (le32 (b + k))) (s p)
open_by s b k p true e = rw (e, eq-eqb b b refl)
open_by s b k p false e = rw e

pub opened_block : (b : List ℕ) (d : Descriptor) (tail : List ℕ) → b ≡ descriptor_block d tail → (k : ℕ) → cost_of d ≡ k
    → splice (splice b 12 (le32 d.beta.0)) 16 (le32 (d.beta.0 + k)) ≡ descriptor_block (reopened_of d) tail
opened_block b d tail is k e =
    rw (is, ← e, put_alpha d tail d.beta.0)
    (put_beta (record { layout = d.layout; volume = d.volume; alpha = physical d.beta.0; beta = d.beta; next = d.next; name = d.name }) tail (d.beta.0 + cost_of d))

-- the old region closed and the new one opened, on a copy
module _ (d : Descriptor) (tail name : List ℕ) (called : length d.name ≡ 16) (long : length name ≡ 16) (rise : d.alpha.0 < d.beta.0) (s : Sigma)
    (old : s d.alpha.0 ≡ descriptor_block d tail) (new : s d.beta.0 ≡ descriptor_block d tail) (k : ℕ) (size : cost_of d ≡ k) where
  closed_is : (p : ℕ) → close_region s d.alpha.0 d.beta.0 name p ≡ pick (eqb p d.alpha.0) (descriptor_block (linked_of (renamed_of d name) d.beta) tail) (s p)
  closed_is p =
      close_by s d.alpha.0 d.beta.0 name p (eqb p d.alpha.0) refl
      ∙ ap (λ (x : List ℕ). pick (eqb p d.alpha.0) x (s p)) (closed_block (s d.alpha.0) d tail old called name long d.beta.0)

  kept_is : close_region s d.alpha.0 d.beta.0 name d.beta.0 ≡ descriptor_block d tail
  kept_is = close_by s d.alpha.0 d.beta.0 name d.beta.0 false (ne_eqb d.beta.0 d.alpha.0 (λ e. absurd (omega arith))) ∙ new

  opened_is : (p : ℕ) → open_region (close_region s d.alpha.0 d.beta.0 name) d.beta.0 k p
      ≡ pick (eqb p d.beta.0) (descriptor_block (reopened_of d) tail) (pick (eqb p d.alpha.0) (descriptor_block (linked_of (renamed_of d name) d.beta) tail) (s p))
  opened_is p =
      open_by (close_region s d.alpha.0 d.beta.0 name) d.beta.0 k p (eqb p d.beta.0) refl
      ∙ ap (λ (x : List ℕ). pick (eqb p d.beta.0) x (close_region s d.alpha.0 d.beta.0 name p)) (opened_block (close_region s d.alpha.0 d.beta.0 name d.beta.0) d tail kept_is k size)
      ∙ ap (λ (x : List ℕ). pick (eqb p d.beta.0) (descriptor_block (reopened_of d) tail) x) (closed_is p)

beta_at : (c : List ℕ) (p : ℕ) → (descriptor_at c p).beta.0 ≡ u32_at c (512 * p + 16)
unfolding descriptor_at
beta_at c p = refl

-- beta as the algorithms read it
beta_in_lem : (c starts : List ℕ) (count : ℕ) (d : Descriptor) → Through c starts count d → u32_at (block_at c d.alpha.0) 16 ≡ d.beta.0
unfolding block_at
beta_in_lem c starts count d t =
    let r = through_region c starts count d t in
    let a = at_alpha c _ _ d r in
    u32_part c (512 * d.alpha.0) 512 16 (omega arith) ∙ ap (λ (n : ℕ). u32_at c (512 * n + 16)) a ∙ sym (beta_of_lem c _ d r.is)
  where
    beta_of_lem : (c : List ℕ) (p : ℕ) (d : Descriptor) → d ≡ descriptor_at c p → d.beta.0 ≡ u32_at c (512 * p + 16)
    beta_of_lem c p d e = ap (λ (x : Descriptor). x.beta.0) e ∙ beta_at c p

-- a snapshot, block by block
module _ (c : List ℕ) (bytes : AreBytes c) (starts : List ℕ) (count : ℕ) (d : Descriptor) (t : Through c starts count d) (name : List ℕ) (long : length name ≡ 16) (room : 512 * (d.beta.0 + cost_of d) ≤ length c) where
  abbrev copy : List ℕ
  copy = store_all c (copying c (d.alpha.0 + 1) (d.beta.0 + 1) (cost_of d - 1))

  rise : d.alpha.0 < d.beta.0
  rise = omega (arith, through_beta c starts count d t, cost_least d.layout d.volume)

  called : length d.name ≡ 16
  called = through_name c starts count d t

  inside : 512 * d.alpha.0 + 512 ≤ length c
  inside = through_alpha c starts count d t

  size : 1 ≤ cost_of d
  size = cost_least d.layout d.volume

  copy_length : length copy ≡ length c
  copy_length = stored_length (length c) c refl (inside_copying c (d.alpha.0 + 1) (d.beta.0 + 1) (cost_of d - 1) (omega (arith, rise)) (omega (arith, size, room)))

  abbrev new_block : List ℕ
  new_block = descriptor_block (reopened_of d) (tail_at c d.alpha.0)

  abbrev old_block : List ℕ
  old_block = descriptor_block (linked_of (renamed_of d name) d.beta) (tail_at c d.alpha.0)

  new_long : length new_block ≡ 512
  new_long = block_whole (reopened_of d) (tail_at c d.alpha.0) called (tail_length c d.alpha.0 inside)

  old_long : length old_block ≡ 512
  old_long = block_whole (linked_of (renamed_of d name) d.beta) (tail_at c d.alpha.0) long (tail_length c d.alpha.0 inside)

  beta_inside : 512 * d.beta.0 + 512 ≤ length copy
  beta_inside = omega (arith, size, room, copy_length)

  new_length : length (store_block copy d.beta.0 new_block) ≡ length c
  new_length = store_length copy d.beta.0 new_block new_long beta_inside ∙ copy_length

  snapped : (p : ℕ) → block_at (store_all c (snapping c d name)) p ≡ pick (eqb p d.alpha.0) old_block (pick (eqb p d.beta.0) new_block (block_at copy p))
  unfolding snapping store_all
  snapped p =
      ap (λ (x : List ℕ). block_at x p) (stored_append c (copying c (d.alpha.0 + 1) (d.beta.0 + 1) (cost_of d - 1)) (store d.beta.0 new_block ∷ store d.alpha.0 old_block ∷ []))
      ∙ store_by (store_block copy d.beta.0 new_block) d.alpha.0 old_block old_long (omega (arith, new_length, inside)) p (eqb p d.alpha.0) refl
      ∙ ap (λ (x : List ℕ). pick (eqb p d.alpha.0) old_block x) (store_by copy d.beta.0 new_block new_long beta_inside p (eqb p d.beta.0) refl)

  -- a copy as the algorithm makes it
  module _ (s : Sigma) (old : s d.alpha.0 ≡ block_at c d.alpha.0) (new : s d.beta.0 ≡ block_at c d.alpha.0) (k : ℕ) (cost_is : cost_of d ≡ k)
      (rest : (p : ℕ) → (p ≡ d.beta.0 → ⊥) → block_at copy p ≡ s p) where
    swap : (p : ℕ) (x y : Bool) → eqb p d.alpha.0 ≡ x → eqb p d.beta.0 ≡ y → pick x old_block (pick y new_block (block_at copy p)) ≡ pick y new_block (pick x old_block (s p))
    swap p true true e f = absurd (omega (arith, eqb-true p d.alpha.0 e, eqb-true p d.beta.0 f, rise))
    swap p true false e f = refl
    swap p false true e f = refl
    swap p false false e f = rest p (eqb-false p d.beta.0 f)

    snapped_is : (p : ℕ) → block_at (store_all c (snapping c d name)) p ≡ open_region (close_region s d.alpha.0 d.beta.0 name) d.beta.0 k p
    snapped_is p =
        let is = through_block c bytes starts count d t in
        snapped p ∙ swap p (eqb p d.alpha.0) (eqb p d.beta.0) refl refl
        ∙ sym (opened_is d (tail_at c d.alpha.0) name called long rise s (old ∙ is) (new ∙ is) k cost_is p)

  -- the copy of layout 1
  range_own : (n : ℕ) → copy_range (block_at c) d.alpha.0 d.beta.0 n d.alpha.0 ≡ block_at c d.alpha.0
  range_own n = rw (lt-leb d.beta.0 d.alpha.0 rise)

  range_new : (n : ℕ) → 0 < n → copy_range (block_at c) d.alpha.0 d.beta.0 n d.beta.0 ≡ block_at c d.alpha.0
  range_new n h =
      let e : d.alpha.0 + (d.beta.0 - d.beta.0) ≡ d.alpha.0 = omega arith in
      rw (le-leb d.beta.0 d.beta.0 (omega arith), lt-ltb d.beta.0 (d.beta.0 + n) (omega arith)) (ap (block_at c) e)

  range_rest : (p : ℕ) → (p ≡ d.beta.0 → ⊥) → block_at copy p ≡ copy_range (block_at c) d.alpha.0 d.beta.0 (cost_of d) p
  range_rest p n =
      range_by (block_at c) d.alpha.0 d.beta.0 (cost_of d) p (leb d.beta.0 p) (ltb p (d.beta.0 + cost_of d)) refl refl (block_at copy p)
      (λ i j.
      let e : d.alpha.0 + 1 + (p - (d.beta.0 + 1)) ≡ d.alpha.0 + (p - d.beta.0) = omega (arith, n) in
      copied_in c c refl (d.alpha.0 + 1) (d.beta.0 + 1) (cost_of d - 1) (omega (arith, rise)) (omega (arith, size, room)) p (omega (arith, n)) (omega (arith, size)) (eqb p (d.beta.0 + 1)) refl
      ∙ ap (block_at c) e)
      (λ o. copied_out c c refl (d.alpha.0 + 1) (d.beta.0 + 1) (cost_of d - 1) (omega (arith, rise)) (omega (arith, size, room)) p (λ u v. o (omega arith) (omega (arith, size))))

  -- the copy of layout 2
  put_rest : cost_of d ≡ 1 → (p : ℕ) → (p ≡ d.beta.0 → ⊥) → block_at copy p ≡ put (block_at c) d.beta.0 (block_at c d.alpha.0) p
  put_rest e p n =
      rw (ne_eqb p d.beta.0 n)
      (copied_out c c refl (d.alpha.0 + 1) (d.beta.0 + 1) (cost_of d - 1) (omega (arith, rise)) (omega (arith, size, room)) p (λ u v. absurd (omega (arith, e))))

  cost_1 : eqb d.layout 1 ≡ true → cost_of d ≡ table_count d.volume + 1
  unfolding cost
  cost_1 e = rw e (omega arith)

  cost_2 : eqb d.layout 1 ≡ false → cost_of d ≡ 1
  unfolding cost
  cost_2 e = rw e

  snap_by : (p : ℕ) (z : Bool) → eqb d.layout 1 ≡ z
      → block_at (store_all c (snapping c d name)) p ≡ pick z (algorithm3 (block_at c) d.alpha.0 (table_count d.volume) name) (algorithm6 (block_at c) d.alpha.0 name) p
  unfolding algorithm3 algorithm6
  snap_by p true e =
      let k = cost_1 e in
      rw (beta_in_lem c starts count d t)
      (snapped_is (copy_range (block_at c) d.alpha.0 d.beta.0 (table_count d.volume + 1)) (range_own (table_count d.volume + 1)) (range_new (table_count d.volume + 1) (omega arith))
      (table_count d.volume + 1) k (λ p n. range_rest p n ∙ ap (λ (m : ℕ). copy_range (block_at c) d.alpha.0 d.beta.0 m p) k) p)
  snap_by p false e =
      let k = cost_2 e in
      rw (beta_in_lem c starts count d t)
      (snapped_is (put (block_at c) d.beta.0 (block_at c d.alpha.0))
      (rw (ne_eqb d.alpha.0 d.beta.0 (λ q. absurd (omega (arith, rise))))) (rw (eq-eqb d.beta.0 d.beta.0 refl)) 1 k (put_rest k) p)

-- an accepted snap leaves the blocks of algorithm 3 or 6
pub algorithm_snap : (c : List ℕ) → AreBytes c → (name : List ℕ) → is_accepted (answer_of (Snap name) c) ≡ true → (p : ℕ) → p < block_count c
    → let d = active_of (descriptors_of c) in
    block_at (step (Snap name) c).card p ≡ pick (eqb d.layout 1) (algorithm3 (block_at c) d.alpha.0 (table_count d.volume) name) (algorithm6 (block_at c) d.alpha.0 name) p
unfolding stores_of snap_stores block_count
algorithm_snap c bytes name e p h =
    let shown = snap_passed c name e in
    let area = shown.area in
    let sound = shown.sound in
    let d : Descriptor = active_of (descriptors_of c) in
    let long : length name ≡ 16 = name_size_lem name shown.called in
    let room : d.beta.0 + cost_of d ≤ length c / 512 = shown.room in
    ap (λ (x : List ℕ). block_at x p) (accepted_card (Snap name) c e)
    ∙ snap_by c bytes (regions_of (chain c)).starts (regions_of (chain c)).count d (active_through c area sound) name long (omega arith) p (eqb d.layout 1) refl

-- a put into the second of two lists joined
splice_second : (xs ys : List ℕ) (k : ℕ) (z : List ℕ) → splice (xs ++ ys) (length xs + k) z ≡ xs ++ splice ys k z
unfolding splice
splice_second xs ys k z =
    let e : length xs + k + length z ≡ length xs + (k + length z) = omega arith in
    ap (λ (x : List ℕ). x ++ z ++ drop (length xs + k + length z) (xs ++ ys)) (take-append-add xs ys k)
    ∙ ap (λ (n : ℕ). xs ++ take k ys ++ z ++ drop n (xs ++ ys)) e
    ∙ ap (λ (x : List ℕ). xs ++ take k ys ++ z ++ x) (drop-append-add xs ys (k + length z))
    ∙ ap (λ (x : List ℕ). x ++ drop (k + length z) ys) (append_assoc xs (take k ys) z)
    ∙ append_assoc xs (take k ys ++ z) (drop (k + length z) ys)

-- an entry of Phi put into a descriptor's block
put_phi : (d : Descriptor) (tail : List ℕ) → length d.name ≡ 16 → (i m : ℕ) → splice (descriptor_block d tail) (64 + 4 * i) (le32 m) ≡ descriptor_block d (tail_with tail i m)
unfolding descriptor_block tail_with
put_phi d tail e i m =
    let h : 64 + 4 * i ≡ length (head_bytes d) + (24 + 4 * i) = omega (arith, head_length d e) in
    ap (λ (n : ℕ). splice (head_bytes d ++ tail) n (le32 m)) h ∙ splice_second (head_bytes d) tail (24 + 4 * i) (le32 m)

-- the algorithms' stores of a new data block: its entry in a table block of the region, or in a new table block
abbrev set_in : Sigma → ℕ → ℕ → ℕ → ℕ → List ℕ → Sigma
set_in s a m j b bytes = put_number (put (put_number s m (4 * j) b) b bytes) a 16 (b + 1)

abbrev new_in : Sigma → ℕ → ℕ → ℕ → ℕ → List ℕ → List ℕ → Sigma
new_in s a i j b table bytes = put_number (put_number (put (put s b (splice table (4 * j) (le32 (b + 1)))) (b + 1) bytes) a (64 + 4 * i) b) a 16 (b + 2)

set_value : (s : Sigma) (a m j b : ℕ) (bytes : List ℕ) → a < b → (m ≡ a → ⊥) → (q : ℕ)
    → set_in s a m j b bytes q ≡ pick (eqb q a) (splice (s a) 16 (le32 (b + 1))) (pick (eqb q b) bytes (pick (eqb q m) (splice (s m) (4 * j) (le32 b)) (s q)))
set_value s a m j b bytes h n q = rw (ne_eqb a b (λ e. absurd (omega arith)), ne_eqb a m (λ e. n (sym e)))

new_value : (s : Sigma) (a i j b : ℕ) (table bytes : List ℕ) → a < b → (q : ℕ) (z : Bool) → eqb q a ≡ z
    → new_in s a i j b table bytes q ≡ pick z (splice (splice (s a) (64 + 4 * i) (le32 b)) 16 (le32 (b + 2))) (pick (eqb q (b + 1)) bytes (pick (eqb q b) (splice table (4 * j) (le32 (b + 1))) (s q)))
new_value s a i j b table bytes h q true e = rw (e, eq-eqb a a refl, ne_eqb a (b + 1) (λ e. absurd (omega arith)), ne_eqb a b (λ e. absurd (omega arith)))
new_value s a i j b table bytes h q false e = rw e

-- the order of stores to blocks that differ
order_set : (q a b m : ℕ) → a < b → m < b → (m ≡ a → ⊥) → (t d e s : List ℕ) (x y z : Bool) → eqb q a ≡ x → eqb q b ≡ y → eqb q m ≡ z
    → pick z t (pick x d (pick y e s)) ≡ pick x d (pick y e (pick z t s))
order_set q a b m h l n t d e s true y true f g k = absurd (n (sym (eqb-true q m k) ∙ eqb-true q a f))
order_set q a b m h l n t d e s true y false f g k = refl
order_set q a b m h l n t d e s false true true f g k = absurd (omega (arith, eqb-true q m k, eqb-true q b g))
order_set q a b m h l n t d e s false true false f g k = refl
order_set q a b m h l n t d e s false false z f g k = refl

order_new : (q b : ℕ) → (t e s : List ℕ) (y z : Bool) → eqb q b ≡ y → eqb q (b + 1) ≡ z → pick y t (pick z e s) ≡ pick z e (pick y t s)
order_new q b t e s true true f g = absurd (omega (arith, eqb-true q b f, eqb-true q (b + 1) g))
order_new q b t e s true false f g = refl
order_new q b t e s false z f g = refl

-- a descriptor of the list is one of its descriptor blocks, and no set entry in place names it
descriptor_block_lem : (ds : List Descriptor) (k : ℕ) → k < length ds → is_descriptor ds (get_or ds k no_descriptor).alpha.0 ≡ true
unfolding is_descriptor
descriptor_block_lem [] k h = absurd (omega arith)
descriptor_block_lem (d ∷ ds) zero h = rw (eq-eqb d.alpha.0 d.alpha.0 refl)
descriptor_block_lem (d ∷ ds) (suc k) h = rw (descriptor_block_lem ds k (omega arith)) (or_true (eqb (get_or ds k no_descriptor).alpha.0 d.alpha.0))

through_descriptor : (c starts : List ℕ) (count : ℕ) (d : Descriptor) → Through c starts count d → is_descriptor (descriptors_of c) d.alpha.0 ≡ true
through_descriptor c starts count d t =
    let ds : List Descriptor = descriptors_of c in
    let h : t.index < length ds = omega (arith, t.inside, through_count c starts count d t) in
    ap (λ (x : Descriptor). is_descriptor ds x.alpha.0) (through_member c starts count d t) ∙ descriptor_block_lem ds t.index h

-- entries that were found and are in place
entry_by : (m p : ℕ) (t : Bool) → is_misplaced (pick t (Entry (physical m) (physical p)) (Misplaced (physical m))) ≡ false
    → pick t (Entry (physical m) (physical p)) (Misplaced (physical m)) ≡ Entry (physical m) (physical p)
unfolding is_misplaced
entry_by m p true h = refl
entry_by m p false h = no (sym h)

entry_of : (ds : List Descriptor) (d : Descriptor) (m p : ℕ) → is_misplaced (entry_found ds d m p) ≡ false → entry_found ds d m p ≡ Entry (physical m) (physical p)
unfolding entry_found
entry_of ds d m p h = entry_by m p (is_in_place ds d p) h

entry_through : (ds : List Descriptor) (d : Descriptor) (m p : ℕ) (i z : Bool)
    → is_misplaced (pick i (pick z (Entry (physical 0) (physical 0)) (entry_found ds d m p)) (Misplaced d.alpha)) ≡ false
    → (i ≡ true) × (pick i (pick z (Entry (physical 0) (physical 0)) (entry_found ds d m p)) (Misplaced d.alpha) ≡ pick z (Entry (physical 0) (physical 0)) (Entry (physical m) (physical p)))
unfolding is_misplaced
entry_through ds d m p true true h = (refl, refl)
entry_through ds d m p true false h = (refl, entry_of ds d m p h)
entry_through ds d m p false z h = no (sym h)

-- the choice of algorithm 2
write_choice : (x y : Bool) (f p : Sigma) (q : ℕ) → pick (not x && y) p f q ≡ pick x f (pick y p f) q
write_choice true y f p q = refl
write_choice false true f p q = refl
write_choice false false f p q = refl

-- a write through an entry that was found, block by block
module _ (c : List ℕ) (bytes : AreBytes c) (starts : List ℕ) (count : ℕ) (d : Descriptor) (t : Through c starts count d) (l : ℕ) (block : List ℕ) (whole : length block ≡ 512) (below : l < d.volume) where
  region_rise : d.alpha.0 < d.beta.0
  region_rise = omega (arith, through_beta c starts count d t, cost_least d.layout d.volume)

  region_name_lem : length d.name ≡ 16
  region_name_lem = through_name c starts count d t

  region_inside : 512 * d.alpha.0 + 512 ≤ length c
  region_inside = through_alpha c starts count d t

  region_end : 512 * d.beta.0 ≤ length c
  region_end = through_end c starts count d t

  is_block : block_at c d.alpha.0 ≡ descriptor_block d (tail_at c d.alpha.0)
  is_block = through_block c bytes starts count d t

  group : l / 128 < 112
  group = omega (arith, through_volume c starts count d t)

  -- in a table block of the region
  module _ (m : ℕ) (under : m < d.beta.0) (other : m ≡ d.alpha.0 → ⊥) (room : 512 * d.beta.0 + 512 ≤ length c) where
    abbrev set_head : List ℕ
    set_head = descriptor_block (extended_of d 1) (tail_at c d.alpha.0)

    abbrev set_table : List ℕ
    set_table = table_with (block_at c m) (l % 128) d.beta.0

    m_inside : 512 * m + 512 ≤ length c
    m_inside = omega (arith, region_end)

    head_long : length set_head ≡ 512
    head_long = block_whole (extended_of d 1) (tail_at c d.alpha.0) region_name_lem (tail_length c d.alpha.0 region_inside)

    table_long : length set_table ≡ 512
    table_long = table_length (block_at c m) (l % 128) d.beta.0 (length_block_at c m m_inside) (omega arith)

    data_length : length (store_block c d.beta.0 block) ≡ length c
    data_length = store_length c d.beta.0 block whole room

    head_stored : length (store_block (store_block c d.beta.0 block) d.alpha.0 set_head) ≡ length c
    head_stored = store_length (store_block c d.beta.0 block) d.alpha.0 set_head head_long (omega (arith, data_length, region_inside)) ∙ data_length

    set_stores : (q : ℕ) → block_at (store_all c (store d.beta.0 block ∷ set_in_table c d m l)) q
        ≡ pick (eqb q m) set_table (pick (eqb q d.alpha.0) set_head (pick (eqb q d.beta.0) block (block_at c q)))
    unfolding store_all set_in_table
    set_stores q =
        store_by (store_block (store_block c d.beta.0 block) d.alpha.0 set_head) m set_table table_long (omega (arith, head_stored, m_inside)) q (eqb q m) refl
        ∙ ap (λ (x : List ℕ). pick (eqb q m) set_table x) (store_by (store_block c d.beta.0 block) d.alpha.0 set_head head_long (omega (arith, data_length, region_inside)) q (eqb q d.alpha.0) refl)
        ∙ ap (λ (x : List ℕ). pick (eqb q m) set_table (pick (eqb q d.alpha.0) set_head x)) (store_by c d.beta.0 block whole room q (eqb q d.beta.0) refl)

    head_is : splice (block_at c d.alpha.0) 16 (le32 (d.beta.0 + 1)) ≡ set_head
    head_is = ap (λ (x : List ℕ). splice x 16 (le32 (d.beta.0 + 1))) is_block ∙ put_beta d (tail_at c d.alpha.0) (d.beta.0 + 1)

    set_written : (q : ℕ) → block_at (store_all c (store d.beta.0 block ∷ set_in_table c d m l)) q ≡ set_in (block_at c) d.alpha.0 m (l % 128) d.beta.0 block q
    unfolding table_with
    set_written q =
        set_stores q
        ∙ order_set q d.alpha.0 d.beta.0 m region_rise under other set_table set_head block (block_at c q) (eqb q d.alpha.0) (eqb q d.beta.0) (eqb q m) refl refl refl
        ∙ ap (λ (x : List ℕ). pick (eqb q d.alpha.0) x (pick (eqb q d.beta.0) block (pick (eqb q m) set_table (block_at c q)))) (sym head_is)
        ∙ sym (set_value (block_at c) d.alpha.0 m (l % 128) d.beta.0 block region_rise other q)

  -- in a new table block
  module _ (m : ℕ) (table : List ℕ) (table_is : pick (eqb m 0) zero_block (block_at c m) ≡ table) (table_whole : length table ≡ 512) (room : 512 * d.beta.0 + 1024 ≤ length c) where
    abbrev new_head : List ℕ
    new_head = descriptor_block (extended_of d 2) (tail_with (tail_at c d.alpha.0) (l / 128) d.beta.0)

    abbrev new_table_lem : List ℕ
    new_table_lem = table_with table (l % 128) (d.beta.0 + 1)

    new_head_long : length new_head ≡ 512
    new_head_long =
        block_whole (extended_of d 2) (tail_with (tail_at c d.alpha.0) (l / 128) d.beta.0) region_name_lem
        (tail_with_length (tail_at c d.alpha.0) (l / 128) d.beta.0 (tail_length c d.alpha.0 region_inside) group)

    new_table_long : length new_table_lem ≡ 512
    new_table_long = table_length table (l % 128) (d.beta.0 + 1) table_whole (omega arith)

    new_data_length : length (store_block c (d.beta.0 + 1) block) ≡ length c
    new_data_length = store_length c (d.beta.0 + 1) block whole (omega arith)

    new_table_stored : length (store_block (store_block c (d.beta.0 + 1) block) d.beta.0 new_table_lem) ≡ length c
    new_table_stored = store_length (store_block c (d.beta.0 + 1) block) d.beta.0 new_table_lem new_table_long (omega (arith, new_data_length)) ∙ new_data_length

    new_stores : (q : ℕ) → block_at (store_all c (store (d.beta.0 + 1) block ∷ set_in_new_table c d m l)) q
        ≡ pick (eqb q d.alpha.0) new_head (pick (eqb q d.beta.0) new_table_lem (pick (eqb q (d.beta.0 + 1)) block (block_at c q)))
    unfolding store_all set_in_new_table
    new_stores q =
        rw table_is
        (store_by (store_block (store_block c (d.beta.0 + 1) block) d.beta.0 new_table_lem) d.alpha.0 new_head new_head_long (omega (arith, new_table_stored, region_inside)) q (eqb q d.alpha.0) refl
        ∙ ap (λ (x : List ℕ). pick (eqb q d.alpha.0) new_head x) (store_by (store_block c (d.beta.0 + 1) block) d.beta.0 new_table_lem new_table_long (omega (arith, new_data_length)) q (eqb q d.beta.0) refl)
        ∙ ap (λ (x : List ℕ). pick (eqb q d.alpha.0) new_head (pick (eqb q d.beta.0) new_table_lem x)) (store_by c (d.beta.0 + 1) block whole (omega arith) q (eqb q (d.beta.0 + 1)) refl))

    new_head_is : splice (splice (block_at c d.alpha.0) (64 + 4 * (l / 128)) (le32 d.beta.0)) 16 (le32 (d.beta.0 + 2)) ≡ new_head
    new_head_is =
        ap (λ (x : List ℕ). splice (splice x (64 + 4 * (l / 128)) (le32 d.beta.0)) 16 (le32 (d.beta.0 + 2))) is_block
        ∙ ap (λ (x : List ℕ). splice x 16 (le32 (d.beta.0 + 2))) (put_phi d (tail_at c d.alpha.0) region_name_lem (l / 128) d.beta.0)
        ∙ put_beta d (tail_with (tail_at c d.alpha.0) (l / 128) d.beta.0) (d.beta.0 + 2)

    new_written : (q : ℕ) → block_at (store_all c (store (d.beta.0 + 1) block ∷ set_in_new_table c d m l)) q ≡ new_in (block_at c) d.alpha.0 (l / 128) (l % 128) d.beta.0 table block q
    unfolding table_with
    new_written q =
        new_stores q
        ∙ ap (λ (x : List ℕ). pick (eqb q d.alpha.0) new_head x) (order_new q d.beta.0 new_table_lem block (block_at c q) (eqb q d.beta.0) (eqb q (d.beta.0 + 1)) refl refl)
        ∙ ap (λ (x : List ℕ). pick (eqb q d.alpha.0) x (pick (eqb q (d.beta.0 + 1)) block (pick (eqb q d.beta.0) new_table_lem (block_at c q)))) (sym new_head_is)
        ∙ sym (new_value (block_at c) d.alpha.0 (l / 128) (l % 128) d.beta.0 table block region_rise q (eqb q d.alpha.0) refl)

  -- in place, or through an entry that is to be set
  one_written : (p : ℕ) → p < d.beta.0 → (q : ℕ) → block_at (store_all c (store p block ∷ [])) q ≡ put (block_at c) p block q
  unfolding store_all
  one_written p h q = store_by c p block whole (omega (arith, region_end)) q (eqb q p) refl

  module _ (m p : ℕ) (under : m < d.beta.0) (entry : (p ≡ 0 → ⊥) → p < d.beta.0) (other : table_is_new d.alpha.0 m ≡ false → m ≡ d.alpha.0 → ⊥)
      (room : d.beta.0 + need d.alpha.0 (Entry (physical m) (physical p)) ≤ length c / 512)
      (table : List ℕ) (table_is : pick (eqb m 0) zero_block (block_at c m) ≡ table) (table_whole : length table ≡ 512) where
    entry_written : (q : ℕ) (x y : Bool) → (not (eqb p 0) && leb d.alpha.0 p) ≡ x → table_is_new d.alpha.0 m ≡ y
        → block_at (store_all c (writing c d (Entry (physical m) (physical p)) l block)) q
        ≡ pick x (put (block_at c) p block) (pick y (new_in (block_at c) d.alpha.0 (l / 128) (l % 128) d.beta.0 table block) (set_in (block_at c) d.alpha.0 m (l % 128) d.beta.0 block)) q
    unfolding writing need
    entry_written q true y e f =
        rw e (one_written p (entry (eqb-false p 0 (not-true (eqb p 0) (and_left (not (eqb p 0)) (leb d.alpha.0 p) e)))) q)
    entry_written q false true e f =
        let h : d.beta.0 + 2 ≤ length c / 512 = rw (e, f) at room in
        rw (e, f) (new_written m table table_is table_whole (omega arith) q)
    entry_written q false false e f =
        let h : d.beta.0 + 1 ≤ length c / 512 = rw (e, f) at room in
        rw (e, f) (set_written m under (other f) (omega arith) q)

  -- through what was found, by the algorithm of the layout
  module _ (placed : is_misplaced (find c (descriptors_of c) d l) ≡ false) (room : d.beta.0 + need d.alpha.0 (find c (descriptors_of c) d l) ≤ length c / 512) where
    abbrev own : ℕ
    own = d.alpha.0 + 1 + l / 128

    abbrev own_entry : ℕ
    own_entry = entry_at c (d.alpha.0 + 1 + l / 128) (l % 128)

    found_1 : eqb d.layout 1 ≡ true → find c (descriptors_of c) d l ≡ Entry (physical own) (physical own_entry)
    unfolding find table_of
    found_1 e = rw e (entry_of (descriptors_of c) d own own_entry (rw e at placed))

    own_old : table_is_new d.alpha.0 own ≡ false
    unfolding table_is_new
    own_old = rw (ne_eqb own 0 (λ e. absurd (omega arith)), le-ltb own d.alpha.0 (omega arith))

    own_set : eqb own 0 ≡ false
    own_set = ne_eqb own 0 (λ e. absurd (omega arith))

    write_1 : eqb d.layout 1 ≡ true → (q : ℕ) → block_at (store_all c (writing c d (find c (descriptors_of c) d l) l block)) q ≡ algorithm2 (block_at c) d.alpha.0 l block q
    unfolding algorithm2
    write_1 e q =
        let f = found_1 e in
        let under = found_table c starts count d t l below (find c (descriptors_of c) d l) refl (physical own) (physical own_entry) f in
        rw (entry_in_lem c own (l % 128) (omega arith), beta_in_lem c starts count d t)
        (ap (λ (x : Found). block_at (store_all c (writing c d x l block)) q) f
        ∙ entry_written own own_entry under (found_entry c starts count d t l (find c (descriptors_of c) d l) refl (physical own) (physical own_entry) f) (λ o i. absurd (omega arith))
        (subst (λ (x : Found). d.beta.0 + need d.alpha.0 x ≤ length c / 512) f room) (block_at c own) (rw own_set) (length_block_at c own (omega (arith, region_end, under)))
        q (not (eqb own_entry 0) && leb d.alpha.0 own_entry) false refl own_old
        ∙ write_choice (eqb own_entry 0) (leb d.alpha.0 own_entry) (set_in (block_at c) d.alpha.0 own (l % 128) d.beta.0 block) (put (block_at c) own_entry block) q)

    abbrev phi : ℕ
    phi = phi_at c d (l / 128)

    abbrev phi_entry : ℕ
    phi_entry = entry_at c (phi_at c d (l / 128)) (l % 128)

    found_2 : eqb d.layout 1 ≡ false
        → (is_in_place (descriptors_of c) d phi ≡ true) × (find c (descriptors_of c) d l ≡ pick (eqb phi 0) (Entry (physical 0) (physical 0)) (Entry (physical phi) (physical phi_entry)))
    unfolding find table_of
    found_2 e = rw e (entry_through (descriptors_of c) d phi phi_entry (is_in_place (descriptors_of c) d phi) (eqb phi 0) (rw e at placed))

    none_new : table_is_new d.alpha.0 0 ≡ true
    unfolding table_is_new
    none_new = refl

    phi_new : eqb phi 0 ≡ false → table_is_new d.alpha.0 phi ≡ ltb phi d.alpha.0
    unfolding table_is_new
    phi_new z = rw z

    phi_other : is_in_place (descriptors_of c) d phi ≡ true → eqb phi 0 ≡ false → phi ≡ d.alpha.0 → ⊥
    phi_other i z e =
        no (sym (placed_other (descriptors_of c) d phi i (eqb-false phi 0 z)) ∙ ap (is_descriptor (descriptors_of c)) e ∙ through_descriptor c starts count d t)

    write_2 : eqb d.layout 1 ≡ false → (q : ℕ) (z : Bool) → eqb phi 0 ≡ z
        → block_at (store_all c (writing c d (find c (descriptors_of c) d l) l block)) q ≡ algorithm5 (block_at c) d.alpha.0 l block q
    unfolding algorithm5
    write_2 e q true z =
        let f : find c (descriptors_of c) d l ≡ Entry (physical 0) (physical 0) = (found_2 e).1 ∙ rw z in
        rw (phi_in_lem c d (l / 128) group, beta_in_lem c starts count d t, z)
        (ap (λ (x : Found). block_at (store_all c (writing c d x l block)) q) f
        ∙ entry_written 0 0 (omega (arith, region_rise)) (λ n. absurd (n refl)) (λ o i. no (sym o ∙ none_new))
        (subst (λ (x : Found). d.beta.0 + need d.alpha.0 x ≤ length c / 512) f room) zero_block refl (length-replicate {A = ℕ} 512 0)
        q false true refl none_new)
    write_2 e q false z =
        let f : find c (descriptors_of c) d l ≡ Entry (physical phi) (physical phi_entry) = (found_2 e).1 ∙ rw z in
        let under = found_table c starts count d t l below (find c (descriptors_of c) d l) refl (physical phi) (physical phi_entry) f in
        rw (phi_in_lem c d (l / 128) group, entry_in_lem c phi (l % 128) (omega arith), beta_in_lem c starts count d t, z)
        (ap (λ (x : Found). block_at (store_all c (writing c d x l block)) q) f
        ∙ entry_written phi phi_entry under (found_entry c starts count d t l (find c (descriptors_of c) d l) refl (physical phi) (physical phi_entry) f) (λ o i. phi_other (found_2 e).0 z i)
        (subst (λ (x : Found). d.beta.0 + need d.alpha.0 x ≤ length c / 512) f room) (block_at c phi) (rw z) (length_block_at c phi (omega (arith, region_end, under)))
        q (not (eqb phi_entry 0) && leb d.alpha.0 phi_entry) (ltb phi d.alpha.0) refl (phi_new z))

    write_by : (q : ℕ) (z : Bool) → eqb d.layout 1 ≡ z
        → block_at (store_all c (writing c d (find c (descriptors_of c) d l) l block)) q ≡ pick z (algorithm2 (block_at c) d.alpha.0 l block) (algorithm5 (block_at c) d.alpha.0 l block) q
    write_by q true e = write_1 e q
    write_by q false e = write_2 e q (eqb phi 0) refl

-- an accepted write leaves the blocks of algorithm 2 or 5
pub algorithm_write : (c : List ℕ) → AreBytes c → (l : ℕ) (block : List ℕ) → is_accepted (answer_of (Write l block) c) ≡ true → (p : ℕ) → p < block_count c
    → let d = active_of (descriptors_of c) in
    block_at (step (Write l block) c).card p ≡ pick (eqb d.layout 1) (algorithm2 (block_at c) d.alpha.0 l block) (algorithm5 (block_at c) d.alpha.0 l block) p
unfolding stores_of write_stores block_count
algorithm_write c bytes l block e p h =
    let shown = write_passed c l block e in
    let area = shown.area in
    let sound = shown.sound in
    let d : Descriptor = active_of (descriptors_of c) in
    let whole = shown.whole in
    let below = shown.below in
    let room : d.beta.0 + need d.alpha.0 (found_through c d l) ≤ length c / 512 = shown.room in
    ap (λ (x : List ℕ). block_at x p) (accepted_card (Write l block) c e)
    ∙ write_by c bytes (regions_of (chain c)).starts (regions_of (chain c)).count d (active_through c area sound) l block whole below shown.in_place room p (eqb d.layout 1) refl
