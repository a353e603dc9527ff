-- Laws of finding, as the code asks them.
use mathlib.Core.Path.{◌≡◌, refl, sym, ap, ◌∙◌, subst}
use mathlib.Core.Bool.{Bool, true, false, not, ◌&&◌, ◌||◌}
use mathlib.Core.List.{List, [], ◌∷◌}
use Prim.Native.Nat.{ℕ, ◌+◌, ◌*◌, ◌/◌, ◌%◌, ◌≤◌, ◌<◌, ◌^◌}
use native.Mathlib.Omega.{arith}
use lib.ListN.{length}
use lib.Dec.{eqb, ltb, leb}
use borrow.Author.Tests.{eq-eqb, ne_eqb, not-true, ltb-true, eqb-true, eqb-false, le-ltb, ltb-false, leb-true}
use Rattle.blocks.specs.Pick.{pick}
use Rattle.blocks.specs.Bytes.{block_count}
use Rattle.blocks.specs.Descriptor.{physical, cost_of, table_count}
use Rattle.chains.specs.Chain.{chain, descriptors, active_of}
use Rattle.blocks.specs.declared.numbers.Physical.{Physical}
use Rattle.blocks.specs.declared.descriptor.Descriptor.{Descriptor}
use Rattle.blocks.proofs.Tests.{and_right, and_left}
use Rattle.blocks.proofs.BoolLaws.{or_false_left, or_false_both, true_or, no}
use Rattle.links.proofs.SoundLaws.{form_most}
use Rattle.blocks.proofs.DescriptorLaws.{cost_least, cost_one}
use Rattle.links.proofs.LinkedLaws.{at_alpha, at_long, at_end}
use Rattle.entries.specs.InPlace.{is_descriptor, is_table, is_in_place}
use Rattle.entries.specs.Entry.{table_of, entry_at, entry_found, find, table_is_new, need}
use Rattle.entries.specs.Through.{Through}
use Rattle.entries.specs.Found.{Found, Misplaced, Entry}
use Rattle.entries.proofs.RegionLaws.{through_region}

module _ (c starts : List ℕ) (count : ℕ) (d : Descriptor) (t : Through c starts count d) where
  abbrev ds : List Descriptor
  ds = descriptors (chain c)

  -- the descriptor's blocks are on the card
  pub through_beta : d.alpha.0 + cost_of d ≤ d.beta.0
  through_beta = let r = through_region c starts count d t in omega (arith, at_alpha c _ _ d r, at_long c _ _ d r, r.beta)

  pub through_end : 512 * d.beta.0 ≤ length c
  unfolding block_count
  through_end = let r = through_region c starts count d t in let e : d.beta.0 ≤ length c / 512 = omega (arith, at_end c _ _ d r, r.beta) in omega arith

  pub through_alpha : 512 * d.alpha.0 + 512 ≤ length c
  through_alpha = omega (arith, through_beta, through_end, cost_least d.layout d.volume)

  pub through_volume : d.volume ≤ 14336
  through_volume = form_most c _ d (through_region c starts count d t).form

  -- what the code asks before it looks for the table of l
  pub table_ready : (l : ℕ) → l < d.volume → (512 * d.alpha.0 + 512 ≤ length c) × (l / 128 < 112) × (d.alpha.0 + 113 < 2 ^ 32)
  table_ready l h = (through_alpha, omega (arith, through_volume), omega (arith, through_alpha, t.small))

  -- a table block of layout 1 is on the card
  pub table_inside : (l : ℕ) → l < d.volume → d.layout ≡ 1 → (m : Physical) → m ≡ physical (table_of c d (l / 128)) → 512 * m.0 + 512 ≤ length c
  unfolding table_of table_count
  table_inside l h e m is =
      let q : m.0 ≡ d.alpha.0 + 1 + l / 128 = ap (λ (x : Physical). x.0) is ∙ rw (eq-eqb d.layout 1 e) in
      omega (arith, through_beta, through_end, cost_one d e)

-- an entry that was found is in place, and so on the card where it is set
placed_by : (ds : List Descriptor) (d : Descriptor) (m q : ℕ) (m' p : Physical) (t : Bool) → is_in_place ds d q ≡ t → pick t (Entry (physical m) (physical q)) (Misplaced (physical m)) ≡ Entry m' p → is_in_place ds d p.0 ≡ true
placed_by ds d m q m' p true h e = let k : physical q ≡ p = cc in let n : q ≡ p.0 = ap (λ (x : Physical). x.0) k in rw (← n) h
placed_by ds d m q m' p false h e = let z : ◌≡◌ {A = ℕ} 0 1 = cc in absurd (omega arith)

entry_found_placed : (ds : List Descriptor) (d : Descriptor) (m q : ℕ) (m' p : Physical) → entry_found ds d m q ≡ Entry m' p → is_in_place ds d p.0 ≡ true
unfolding entry_found
entry_found_placed ds d m q m' p e = placed_by ds d m q m' p (is_in_place ds d q) refl e

nil_placed : (ds : List Descriptor) (d : Descriptor) (p : Physical) (m' : Physical) → Entry (physical 0) (physical 0) ≡ Entry m' p → is_in_place ds d p.0 ≡ true
unfolding is_in_place
nil_placed ds d p m' e = let k : physical 0 ≡ p = cc in let n : 0 ≡ p.0 = ap (λ (x : Physical). x.0) k in rw (← n)

find_by : (ds : List Descriptor) (d : Descriptor) (m q : ℕ) (m' p : Physical) (o i z : Bool)
    → pick o (entry_found ds d m q) (pick i (pick z (Entry (physical 0) (physical 0)) (entry_found ds d m q)) (Misplaced d.alpha)) ≡ Entry m' p → is_in_place ds d p.0 ≡ true
find_by ds d m q m' p true i z e = entry_found_placed ds d m q m' p e
find_by ds d m q m' p false true true e = nil_placed ds d p m' e
find_by ds d m q m' p false true false e = entry_found_placed ds d m q m' p e
find_by ds d m q m' p false false z e = let y : ◌≡◌ {A = ℕ} 0 1 = cc in absurd (omega arith)

pub find_placed : (c : List ℕ) (ds : List Descriptor) (d : Descriptor) (l : ℕ) (m p : Physical) → find c ds d l ≡ Entry m p → is_in_place ds d p.0 ≡ true
unfolding find
find_placed c ds d l m p e =
    find_by ds d (table_of c d (l / 128)) (entry_at c (table_of c d (l / 128)) (l % 128)) m p (eqb d.layout 1) (is_in_place ds d (table_of c d (l / 128))) (eqb (table_of c d (l / 128)) 0) e

-- a set entry in place is below beta
below_by : (ds : List Descriptor) (d : Descriptor) (p : ℕ) (t : Bool) (o : Bool) → ltb p d.beta.0 ≡ t → (t && o) ≡ true → p < d.beta.0
below_by ds d p true o e h = ltb-true p d.beta.0 e
below_by ds d p false o e h = let y : ◌≡◌ {A = ℕ} 0 1 = cc in absurd (omega arith)

pub placed_below : (ds : List Descriptor) (d : Descriptor) (p : ℕ) → is_in_place ds d p ≡ true → (p ≡ 0 → ⊥) → p < d.beta.0
unfolding is_in_place
placed_below ds d p h n = below_by ds d p (ltb p d.beta.0) (not (is_descriptor ds p || is_table ds p)) refl (rw (ne_eqb p 0 n) at h)

-- and it is no descriptor of the chain
pub placed_other : (ds : List Descriptor) (d : Descriptor) (p : ℕ) → is_in_place ds d p ≡ true → (p ≡ 0 → ⊥) → is_descriptor ds p ≡ false
unfolding is_in_place
placed_other ds d p h n =
    let k : (ltb p d.beta.0 && not (is_descriptor ds p || is_table ds p)) ≡ true = rw (ne_eqb p 0 n) at h in
    or_false_left (is_descriptor ds p) (is_table ds p) (not-true (is_descriptor ds p || is_table ds p) (and_right (ltb p d.beta.0) (not (is_descriptor ds p || is_table ds p)) k))

pub found_inside : (c starts : List ℕ) (count : ℕ) (d : Descriptor) → Through c starts count d → (l : ℕ) (f : Found) → f ≡ find c (descriptors (chain c)) d l → (m p : Physical) → f ≡ Entry m p → (p.0 ≡ 0 → ⊥) → 512 * p.0 + 512 ≤ length c
found_inside c starts count d t l f is m p e n =
    omega (arith, placed_below (descriptors (chain c)) d p.0 (find_placed c (descriptors (chain c)) d l m p (sym is ∙ e)) n, through_end c starts count d t)

-- the table block of an entry that was found is below beta
table_is : (m' p : Physical) (m q : ℕ) (t : Bool) → pick t (Entry (physical m) (physical q)) (Misplaced (physical m)) ≡ Entry m' p → m'.0 ≡ m
table_is m' p m q true e = let k : physical m ≡ m' = cc in sym (ap (λ (x : Physical). x.0) k)
table_is m' p m q false e = let z : ◌≡◌ {A = ℕ} 0 1 = cc in absurd (omega arith)

pub entry_table : (ds : List Descriptor) (d : Descriptor) (m q : ℕ) (m' p : Physical) → entry_found ds d m q ≡ Entry m' p → m'.0 ≡ m
unfolding entry_found
entry_table ds d m q m' p e = table_is m' p m q (is_in_place ds d q) e

nil_table : (m' p : Physical) → Entry (physical 0) (physical 0) ≡ Entry m' p → m'.0 ≡ 0
nil_table m' p e = let k : physical 0 ≡ m' = cc in sym (ap (λ (x : Physical). x.0) k)

table_by_lem : (ds : List Descriptor) (d : Descriptor) (m q : ℕ) (m' p : Physical) (o i z : Bool) → 0 < d.beta.0 → (o ≡ true → m < d.beta.0) → is_in_place ds d m ≡ i → eqb m 0 ≡ z
    → pick o (entry_found ds d m q) (pick i (pick z (Entry (physical 0) (physical 0)) (entry_found ds d m q)) (Misplaced d.alpha)) ≡ Entry m' p → m'.0 < d.beta.0
table_by_lem ds d m q m' p true i z b f hi hz e = rw (entry_table ds d m q m' p e) (f refl)
table_by_lem ds d m q m' p false true true b f hi hz e = rw (nil_table m' p e) b
table_by_lem ds d m q m' p false true false b f hi hz e = rw (entry_table ds d m q m' p e) (placed_below ds d m hi (eqb-false m 0 hz))
table_by_lem ds d m q m' p false false z b f hi hz e = let y : ◌≡◌ {A = ℕ} 0 1 = cc in absurd (omega arith)

own_table : (c starts : List ℕ) (count : ℕ) (d : Descriptor) → Through c starts count d → (l : ℕ) → l < d.volume → d.layout ≡ 1 → table_of c d (l / 128) < d.beta.0
unfolding table_of table_count
own_table c starts count d t l h e = rw (eq-eqb d.layout 1 e) (omega (arith, through_beta c starts count d t, cost_one d e))

pub found_table : (c starts : List ℕ) (count : ℕ) (d : Descriptor) → Through c starts count d → (l : ℕ) → l < d.volume → (f : Found) → f ≡ find c (descriptors (chain c)) d l → (m p : Physical) → f ≡ Entry m p → m.0 < d.beta.0
unfolding find
found_table c starts count d t l h f is m p e =
    table_by_lem (descriptors (chain c)) d (table_of c d (l / 128)) (entry_at c (table_of c d (l / 128)) (l % 128)) m p (eqb d.layout 1) (is_in_place (descriptors (chain c)) d (table_of c d (l / 128))) (eqb (table_of c d (l / 128)) 0)
    (omega (arith, through_beta c starts count d t, cost_least d.layout d.volume))
    (λ o. own_table c starts count d t l h (eqb-true d.layout 1 o))
    refl refl (sym is ∙ e)

pub found_entry : (c starts : List ℕ) (count : ℕ) (d : Descriptor) → Through c starts count d → (l : ℕ) (f : Found) → f ≡ find c (descriptors (chain c)) d l → (m p : Physical) → f ≡ Entry m p → (p.0 ≡ 0 → ⊥) → p.0 < d.beta.0
found_entry c starts count d t l f is m p e n = placed_below (descriptors (chain c)) d p.0 (find_placed c (descriptors (chain c)) d l m p (sym is ∙ e)) n

-- no need is above 2
most_by : (s new : Bool) → pick s 0 (pick new 2 1) ≤ 2
most_by true new = omega arith
most_by false true = omega arith
most_by false false = omega arith

pub need_most : (alpha : ℕ) (f : Found) → need alpha f ≤ 2
unfolding need
need_most alpha (Misplaced h) = omega arith
need_most alpha (Entry m p) = most_by (not (eqb p.0 0) && leb alpha p.0) (table_is_new alpha m.0)

-- what a write takes, where it takes blocks
need_some : (s new : Bool) (n : ℕ) → n ≡ pick s 0 (pick new 2 1) → (n ≡ 0 → ⊥) → n ≡ pick new 2 1
need_some true new n e z = absurd (z e)
need_some false new n e z = e

pub need_more : (alpha : ℕ) (m p : Physical) → (need alpha (Entry m p) ≡ 0 → ⊥) → need alpha (Entry m p) ≡ pick (table_is_new alpha m.0) 2 1
unfolding need
need_more alpha m p z = need_some (not (eqb p.0 0) && leb alpha p.0) (table_is_new alpha m.0) (need alpha (Entry m p)) refl z

-- a table block above alpha is not new; one that is not new is set and at or above alpha
pub new_table_lem : (alpha m : ℕ) → alpha < m → table_is_new alpha m ≡ false
unfolding table_is_new
new_table_lem alpha m h = rw (ne_eqb m 0 (omega arith), le-ltb m alpha (omega arith))

pub old_table : (alpha m : ℕ) → table_is_new alpha m ≡ false → (m ≡ 0 → ⊥) × (alpha ≤ m)
unfolding table_is_new
old_table alpha m h = let r = or_false_both (eqb m 0) (ltb m alpha) h in (eqb-false m 0 r.0, ltb-false m alpha r.1)

-- the active descriptor's block is a descriptor of the chain, and so no set entry in place names it
active_descriptor : (ds : List Descriptor) → 0 < length ds → is_descriptor ds (active_of ds).alpha.0 ≡ true
unfolding is_descriptor active_of
active_descriptor [] h = absurd (omega arith)
active_descriptor (d ∷ []) h = rw (eq-eqb d.alpha.0 d.alpha.0 refl)
active_descriptor (d ∷ e ∷ ds) h = true_or (eqb (active_of (e ∷ ds)).alpha.0 d.alpha.0) (is_descriptor (e ∷ ds) (active_of (e ∷ ds)).alpha.0) (active_descriptor (e ∷ ds) (omega arith))

pub placed_not_active : (ds : List Descriptor) → 0 < length ds → (p : ℕ) → is_in_place ds (active_of ds) p ≡ true → (p ≡ 0 → ⊥) → p ≡ (active_of ds).alpha.0 → ⊥
placed_not_active ds h p placed n e =
    let f : is_descriptor ds p ≡ true = subst (λ (q : ℕ). is_descriptor ds q ≡ true) (sym e) (active_descriptor ds h) in
    no (sym (placed_other ds (active_of ds) p placed n) ∙ f)

-- what a write takes
need_set : (s new : Bool) (n : ℕ) → n ≡ pick s 0 (pick new 2 1) → n ≡ 0 → s ≡ true
need_set true new n e z = refl
need_set false true n e z = absurd (omega arith)
need_set false false n e z = absurd (omega arith)

-- none: the entry is set and at or above alpha
pub need_nothing : (alpha : ℕ) (m p : Physical) → need alpha (Entry m p) ≡ 0 → (p.0 ≡ 0 → ⊥) × (alpha ≤ p.0)
unfolding need
need_nothing alpha m p e =
    let s = need_set (not (eqb p.0 0) && leb alpha p.0) (table_is_new alpha m.0) (need alpha (Entry m p)) refl e in
    (eqb-false p.0 0 (not-true (eqb p.0 0) (and_left (not (eqb p.0 0)) (leb alpha p.0) s)), leb-true alpha p.0 (and_right (not (eqb p.0 0)) (leb alpha p.0) s))
