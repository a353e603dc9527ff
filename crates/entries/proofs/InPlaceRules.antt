-- The definition of 'in place' is 01's: a theorem over `InPlaceRules`.
use mathlib.Core.Path.{◌≡◌, refl, sym, ◌∙◌}
use mathlib.Core.Bool.{Bool, true, false, not, ◌&&◌, ◌||◌}
use mathlib.Core.List.{List, [], ◌∷◌}
use Prim.Native.Nat.{ℕ, zero, suc, ◌+◌, ◌≤◌, ◌<◌}
use native.Mathlib.Omega.{arith}
use lib.ListN.{length, get_or}
use lib.Dec.{eqb, ltb, leb}
use borrow.Author.Tests.{eq-eqb, lt-ltb, le-leb, eqb-true, ltb-true, leb-true, not-true}
use Rattle.blocks.specs.Descriptor.{no_descriptor, table_count}
use Rattle.blocks.specs.declared.descriptor.Descriptor.{Descriptor}
use Rattle.blocks.proofs.Tests.{and_left, and_right}
use Rattle.blocks.proofs.BoolLaws.{no, true_or, false_or, or_false_left, or_false_right}
use Rattle.chains.specs.Soundness.{IsTableCount}
use Rattle.entries.specs.InPlace.{is_descriptor, is_table, is_in_place}
use Rattle.entries.specs.InPlaceRules.{InPlaceRules, nil, block, InPlaceRulesClaim}

-- no descriptor of the chain
Apart : List Descriptor → ℕ → Type 0
Apart ds p = (k : ℕ) → k < length ds → p ≡ (get_or ds k no_descriptor).alpha.0 → ⊥

not_descriptor : (ds : List Descriptor) (p : ℕ) → is_descriptor ds p ≡ false → Apart ds p
unfolding is_descriptor Apart
not_descriptor [] p h k m e = omega arith
not_descriptor (d ∷ ds) p h zero m e = no (sym (or_false_left (eqb p d.alpha.0) (is_descriptor ds p) h) ∙ eq-eqb p d.alpha.0 e)
not_descriptor (d ∷ ds) p h (suc k) m e = not_descriptor ds p (or_false_right (eqb p d.alpha.0) (is_descriptor ds p) h) k (omega arith) e

apart_descriptor : (ds : List Descriptor) (p : ℕ) → Apart ds p → is_descriptor ds p ≡ false
unfolding is_descriptor Apart
apart_descriptor [] p h = refl
apart_descriptor (d ∷ ds) p h = false_or (eqb p d.alpha.0) (is_descriptor ds p) (by (eqb p d.alpha.0) refl) (apart_descriptor ds p (λ k m. h (suc k) (omega arith)))
  where
    by : (t : Bool) → eqb p d.alpha.0 ≡ t → t ≡ false
    by true e = absurd (h 0 (omega arith) (eqb-true p d.alpha.0 e))
    by false e = refl

-- no layout 1 table block
Outside : List Descriptor → ℕ → Type 0
Outside ds p = (k n : ℕ) → k < length ds → let e = get_or ds k no_descriptor in e.layout ≡ 1 → IsTableCount n e.volume → e.alpha.0 + 1 ≤ p → p ≤ e.alpha.0 + n → ⊥

module _ (d : Descriptor) (p : ℕ) where
  abbrev first : Bool
  first = eqb d.layout 1 && ltb d.alpha.0 p

  abbrev last : Bool
  last = leb p (d.alpha.0 + table_count d.volume)

  count_is : (n : ℕ) → IsTableCount n d.volume → table_count d.volume ≡ n
  unfolding table_count
  count_is n r = omega (arith, r.0, r.1)

  count_counts : IsTableCount (table_count d.volume) d.volume
  unfolding table_count
  count_counts = (omega arith, omega arith)

  in_table : (n : ℕ) → d.layout ≡ 1 → IsTableCount n d.volume → d.alpha.0 + 1 ≤ p → p ≤ d.alpha.0 + n → (first && last) ≡ true
  in_table n one r low high =
      rw (eq-eqb d.layout 1 one, lt-ltb d.alpha.0 p (omega arith), le-leb p (d.alpha.0 + table_count d.volume) (omega (arith, high, count_is n r)))

not_table : (ds : List Descriptor) (p : ℕ) → is_table ds p ≡ false → Outside ds p
unfolding is_table Outside
not_table [] p h k n m one r low high = omega arith
not_table (d ∷ ds) p h zero n m one r low high = no (sym (or_false_left (first d p && last d p) (is_table ds p) h) ∙ in_table d p n one r low high)
not_table (d ∷ ds) p h (suc k) n m one r low high = not_table ds p (or_false_right (first d p && last d p) (is_table ds p) h) k n (omega arith) one r low high

outside_table : (ds : List Descriptor) (p : ℕ) → Outside ds p → is_table ds p ≡ false
unfolding is_table Outside
outside_table [] p h = refl
outside_table (d ∷ ds) p h = false_or (first d p && last d p) (is_table ds p) (by (first d p && last d p) refl) (outside_table ds p (λ k n m. h (suc k) n (omega arith)))
  where
    by : (t : Bool) → (first d p && last d p) ≡ t → t ≡ false
    by true e =
        let f = and_left (first d p) (last d p) e in
        absurd (h 0 (table_count d.volume) (omega arith) (eqb-true d.layout 1 (and_left (eqb d.layout 1) (ltb d.alpha.0 p) f)) (count_counts d p)
        (omega (arith, ltb-true d.alpha.0 p (and_right (eqb d.layout 1) (ltb d.alpha.0 p) f))) (leb-true p (d.alpha.0 + table_count d.volume) (and_right (first d p) (last d p) e)))
    by false e = refl

module _ (ds : List Descriptor) (d : Descriptor) (p : ℕ) where
  abbrev taken : Bool
  taken = is_descriptor ds p || is_table ds p

  abbrev below : Bool
  below = ltb p d.beta.0

  in_rules : is_in_place ds d p ≡ true → InPlaceRules ds d p
  unfolding is_in_place Apart Outside
  in_rules h = by (eqb p 0) refl h
    where
      by : (t : Bool) → eqb p 0 ≡ t → (t || (below && not taken)) ≡ true → InPlaceRules ds d p
      by true e h = nil (eqb-true p 0 e)
      by false e h =
          let free = not-true taken (and_right below (not taken) h) in
          block (ltb-true p d.beta.0 (and_left below (not taken) h)) (not_descriptor ds p (or_false_left (is_descriptor ds p) (is_table ds p) free)) (not_table ds p (or_false_right (is_descriptor ds p) (is_table ds p) free))

  rules_in : InPlaceRules ds d p → is_in_place ds d p ≡ true
  unfolding is_in_place Apart Outside
  rules_in (nil e) = rw (eq-eqb p 0 e)
  rules_in (block h f g) = true_or (eqb p 0) (below && not taken) (rw (lt-ltb p d.beta.0 h, apart_descriptor ds p f, outside_table ds p g))

pub in_place_rules_claim : InPlaceRulesClaim
unfolding InPlaceRulesClaim
in_place_rules_claim ds d p = (in_rules ds d p, rules_in ds d p)
