-- Locality of entries: what is found and checked through a descriptor depends on the blocks below its beta alone.
use mathlib.Core.Path.{◌≡◌, refl, sym, ap, ◌∙◌}
use mathlib.Core.Bool.{Bool, true, false, not, ◌&&◌, ◌||◌}
use mathlib.Core.List.{List, [], ◌∷◌, ◌++◌}
use Prim.Native.Nat.{ℕ, zero, suc, ◌+◌, ◌*◌, ◌/◌, ◌%◌, ◌≤◌, ◌<◌}
use native.Mathlib.Omega.{arith}
use lib.Dec.{eqb, ltb, leb}
use borrow.Author.Tests.{eq-eqb, eqb-true, eqb-false}
use Rattle.blocks.specs.Pick.{pick}
use Rattle.blocks.specs.Bytes.{u32_at, block_at}
use Rattle.blocks.specs.Descriptor.{physical, table_count}
use Rattle.blocks.specs.declared.descriptor.Descriptor.{Descriptor}
use Rattle.entries.specs.InPlace.{is_in_place}
use Rattle.entries.specs.Entry.{entry_at, phi_at, table_of, entry_found, find}
use Rattle.entries.specs.Naming.{Naming, table_namings, tables_namings, phi_namings, namings, among, at_fault, first_fault, check_one}
use Rattle.entries.specs.Found.{Misplaced, Entry}
use Rattle.entries.proofs.EntryLaws.{placed_below}
use Rattle.entries.proofs.CheckLaws.{fault_later, fault_here}
use Rattle.links.proofs.SharedLaws.{shared_number, Below}
use lib.ListN.{length}

-- a descriptor whose region lies below b, with its own tables in layout 1
pub record Region (d : Descriptor) (b : ℕ) : Type 0 where
  pub some : d.alpha.0 < d.beta.0
  pub upto : d.beta.0 ≤ b
  pub own : d.layout ≡ 1 → d.alpha.0 + table_count d.volume < d.beta.0
  pub few : table_count d.volume ≤ 112

own_at : (t : List ℕ) (d : Descriptor) (i : ℕ) {b : ℕ} → d.layout ≡ 1 → d.alpha.0 + 1 + i < b → table_of t d i < b
unfolding table_of
own_at t d i e h = rw (eq-eqb d.layout 1 e) h

-- Phi of a descriptor block that two cards share
pub phi_shared : (c t : List ℕ) (d : Descriptor) (i : ℕ) → 512 * d.alpha.0 + 512 ≤ length c → length c ≡ length t → block_at t d.alpha.0 ≡ block_at c d.alpha.0 → i < 112 → phi_at t d i ≡ phi_at c d i
unfolding phi_at
phi_shared c t d i inside long h l =
    let e : 512 * d.alpha.0 + 64 + 4 * i ≡ 512 * d.alpha.0 + (64 + 4 * i) = omega arith in
    rw e (shared_number t c d.alpha.0 (omega arith) inside h (64 + 4 * i) (omega arith))

module _ (s t : List ℕ) (b : ℕ) (below : Below s t b) where
  below_number : (p k : ℕ) → p < b → k + 4 ≤ 512 → u32_at s (512 * p + k) ≡ u32_at t (512 * p + k)
  below_number p k h l = shared_number s t p (omega (arith, below.inside)) (omega (arith, below.inside, below.long)) (below.blocks p h) k l

  pub local_entry : (m j : ℕ) → m < b → j < 128 → entry_at s m j ≡ entry_at t m j
  unfolding entry_at
  local_entry m j h l = below_number m (4 * j) h (omega arith)

  module _ (d : Descriptor) (region : Region d b) where
    pub local_phi : (i : ℕ) → i < 112 → phi_at s d i ≡ phi_at t d i
    unfolding phi_at
    local_phi i h =
        let e : 512 * d.alpha.0 + 64 + 4 * i ≡ 512 * d.alpha.0 + (64 + 4 * i) = omega arith in
        rw e (below_number d.alpha.0 (64 + 4 * i) (omega (arith, region.some, region.upto)) (omega arith))

    pub local_table : (i : ℕ) → i < 112 → table_of s d i ≡ table_of t d i
    unfolding table_of
    local_table i h = rw (local_phi i h)

    module _ (ds : List Descriptor) where
      -- finding
      found_by : (m j : ℕ) → j < 128 → (o i z : Bool) → (o ≡ true → m < d.beta.0) → is_in_place ds d m ≡ i → eqb m 0 ≡ z
          → pick o (entry_found ds d m (entry_at s m j)) (pick i (pick z (Entry (physical 0) (physical 0)) (entry_found ds d m (entry_at s m j))) (Misplaced d.alpha))
          ≡ pick o (entry_found ds d m (entry_at t m j)) (pick i (pick z (Entry (physical 0) (physical 0)) (entry_found ds d m (entry_at t m j))) (Misplaced d.alpha))
      found_by m j l true i z own hi hz = rw (local_entry m j (omega (arith, own refl, region.upto)) l)
      found_by m j l false true true own hi hz = refl
      found_by m j l false true false own hi hz = rw (local_entry m j (omega (arith, placed_below ds d m hi (eqb-false m 0 hz), region.upto)) l)
      found_by m j l false false z own hi hz = refl

      own_below : (l : ℕ) → l < d.volume → eqb d.layout 1 ≡ true → table_of t d (l / 128) < d.beta.0
      unfolding table_of table_count
      own_below l h e = rw e (omega (arith, region.own (eqb-true d.layout 1 e)))

      pub local_find : (l : ℕ) → l < d.volume → find s ds d l ≡ find t ds d l
      unfolding find table_count
      local_find l h =
          rw (local_table (l / 128) (omega (arith, region.few)))
          (found_by (table_of t d (l / 128)) (l % 128) (omega arith) (eqb d.layout 1) (is_in_place ds d (table_of t d (l / 128))) (eqb (table_of t d (l / 128)) 0) (own_below l h) refl refl)

      -- check: a table is walked only if the entry that names it is in place
      pub local_table_namings : (i m : ℕ) → m < b → (k j : ℕ) → k + j ≤ 128 → table_namings s d i m k j ≡ table_namings t d i m k j
      unfolding table_namings
      local_table_namings i m h zero j l = refl
      local_table_namings i m h (suc k) j l = rw (local_entry m j h (omega arith), local_table_namings i m h k (suc j) (omega arith))

      local_tables : d.layout ≡ 1 → (k i : ℕ) → k + i ≤ table_count d.volume → tables_namings s d k i ≡ tables_namings t d k i
      unfolding tables_namings
      local_tables e zero i h = refl
      local_tables e (suc k) i h =
          rw (local_table i (omega (arith, region.few)), local_table_namings i (table_of t d i) (own_table i (omega arith)) 128 0 (omega arith), local_tables e k (suc i) (omega arith))
        where
          own_table : (i : ℕ) → i < table_count d.volume → table_of t d i < b
          own_table i l = own_at t d i e (omega (arith, region.own e, region.upto))

-- the same entries before two lists of which nothing is told apart
prefix_by : (ds : List Descriptor) (d : Descriptor) (before : List ℕ) (e : Naming) (xs ys : List Naming) → first_fault ds d (e.value ∷ before) xs ≡ first_fault ds d (e.value ∷ before) ys → first_fault ds d before (e ∷ xs) ≡ first_fault ds d before (e ∷ ys)
unfolding first_fault
prefix_by ds d before e xs ys h = rw h

prefix_same : (ds : List Descriptor) (d : Descriptor) (es xs ys : List Naming) → ((before : List ℕ) → first_fault ds d before xs ≡ first_fault ds d before ys) → (before : List ℕ) → first_fault ds d before (es ++ xs) ≡ first_fault ds d before (es ++ ys)
prefix_same ds d [] xs ys h before = h before
prefix_same ds d (e ∷ es) xs ys h before = prefix_by ds d before e (es ++ xs) (es ++ ys) (prefix_same ds d es xs ys h (e.value ∷ before))

-- an entry that is not at fault is in place
placed_of : (p x y : Bool) → (not p || x || y) ≡ false → p ≡ true
placed_of true x y e = refl
placed_of false x y e = sym e

pub fault_placed : (ds : List Descriptor) (d : Descriptor) (before : List ℕ) (e : Naming) → at_fault ds d before e ≡ false → is_in_place ds d e.value ≡ true
unfolding at_fault
fault_placed ds d before e h =
    placed_of (is_in_place ds d e.value) (not (eqb e.value 0) && (not e.counted || among before e.value))
    (eqb d.layout 2 && not e.phi && leb d.alpha.0 e.value && ltb e.holder d.alpha.0) h

module _ (s t : List ℕ) (b : ℕ) (below : Below s t b) (d : Descriptor) (region : Region d b) (ds : List Descriptor) where
  -- the table that an entry of Phi names, where that entry is in place
  table_by_lem : (i m : ℕ) (k z : Bool) → eqb m 0 ≡ z → is_in_place ds d m ≡ true → pick (k && not z) (table_namings s d i m 128 0) [] ≡ pick (k && not z) (table_namings t d i m 128 0) []
  table_by_lem i m true true e h = refl
  table_by_lem i m true false e h = local_table_namings s t b below d region ds i m (omega (arith, placed_below ds d m h (eqb-false m 0 e), region.upto)) 128 0 (omega arith)
  table_by_lem i m false z e h = refl

  abbrev entry : ℕ → Naming
  entry i = record { holder = d.alpha.0; value = phi_at t d i; counted = ltb i (table_count d.volume); phi = true }

  phi_by_lem : (i : ℕ) (xs ys : List Naming) → ((before : List ℕ) → first_fault ds d before xs ≡ first_fault ds d before ys) → (before : List ℕ) (f : Bool) → at_fault ds d before (entry i) ≡ f
      → first_fault ds d before (entry i ∷ (pick (ltb i (table_count d.volume) && not (eqb (phi_at t d i) 0)) (table_namings s d i (phi_at t d i) 128 0) [] ++ xs))
      ≡ first_fault ds d before (entry i ∷ (pick (ltb i (table_count d.volume) && not (eqb (phi_at t d i) 0)) (table_namings t d i (phi_at t d i) 128 0) [] ++ ys))
  phi_by_lem i xs ys h before true e = fault_here ds d before (entry i) _ e ∙ sym (fault_here ds d before (entry i) _ e)
  phi_by_lem i xs ys h before false e =
      let same_table = table_by_lem i (phi_at t d i) (ltb i (table_count d.volume)) (eqb (phi_at t d i) 0) refl (fault_placed ds d before (entry i) e) in
      fault_later ds d before (entry i) _ e
      ∙ ap (λ (l : List Naming). first_fault ds d (phi_at t d i ∷ before) (l ++ xs)) same_table
      ∙ prefix_same ds d (pick (ltb i (table_count d.volume) && not (eqb (phi_at t d i) 0)) (table_namings t d i (phi_at t d i) 128 0) []) xs ys h (phi_at t d i ∷ before)
      ∙ sym (fault_later ds d before (entry i) _ e)

  local_phi_namings : (k i : ℕ) → k + i ≤ 112 → (before : List ℕ) → first_fault ds d before (phi_namings s d k i) ≡ first_fault ds d before (phi_namings t d k i)
  unfolding phi_namings
  local_phi_namings zero i h before = refl
  local_phi_namings (suc k) i h before =
      rw (local_phi s t b below d region i (omega arith))
      (phi_by_lem i (phi_namings s d k (suc i)) (phi_namings t d k (suc i)) (local_phi_namings k (suc i) (omega arith)) before (at_fault ds d before (entry i)) refl)

  check_by : (o : Bool) → eqb d.layout 1 ≡ o
      → first_fault ds d [] (pick o (tables_namings s d (table_count d.volume) 0) (phi_namings s d 112 0)) ≡ first_fault ds d [] (pick o (tables_namings t d (table_count d.volume) 0) (phi_namings t d 112 0))
  check_by true e = ap (first_fault ds d []) (local_tables s t b below d region ds (eqb-true d.layout 1 e) (table_count d.volume) 0 (omega arith))
  check_by false e = local_phi_namings 112 0 (omega arith) []

  pub local_check : check_one s ds d ≡ check_one t ds d
  unfolding check_one namings
  local_check = check_by (eqb d.layout 1) refl
