-- Laws of step: what a refusal leaves, what an accepted call does; the area, by its tests; stores of zeros; and runs of lists of calls.
use mathlib.Core.Path.{◌≡◌, refl, ap, sym, ◌∙◌}
use mathlib.Core.Bool.{Bool, true, false}
use mathlib.Core.List.{List, [], ◌∷◌, ◌++◌}
use Prim.Native.Nat.{ℕ, zero, suc, ◌+◌, ◌/◌, ◌%◌, ◌≤◌, ◌<◌}
use native.Mathlib.Numerals.{add-one}
use native.Mathlib.Omega.{arith}
use lib.ListN.{length, take, drop, take-append-drop}
use lib.Dec.{eqb, ltb}
use borrow.Author.Tests.{eq-eqb, ne_eqb, lt-ltb, le-ltb}
use Rattle.blocks.specs.Pick.{pick}
use Rattle.blocks.specs.Bytes.{Store, store, store_block, store_all, zero_block, block_count}
use Rattle.blocks.specs.Descriptor.{clearing}
use Rattle.calls.specs.declared.answer.Answer.{Answer}
use Rattle.calls.specs.Call.{Call, Lent, NoneGiven, answer, accepted, Outcome}
use Rattle.calls.specs.Parts.{area_bad}
use Rattle.calls.specs.Ladder.{first_row, admission}
use Rattle.calls.specs.Meaning.{meaning_of, rows_of, answer_of, stores_of, lent_of, filled_of, given_of}
use Rattle.calls.specs.Step.{Done, step, done, is_accepted, after, outcomes}
use Rattle.blocks.proofs.StoreLists.{stored_append, stored_one}
use Rattle.calls.proofs.RowLaws.{not_admitted}
use lib.Seq.{length-take-le, take-add, drop_at}

-- what a call does, given its answer
module _ (k : Call) (c : List ℕ) where
  pub step_refused : (n p : ℕ) → answer_of k c ≡ answer n p → eqb n 0 ≡ false → done (answer n p) (lent_of k) c ≡ step k c
  unfolding step
  step_refused n p e z = rw (e, z)

  -- the same of a call that is not admitted
  pub step_barred : (a : Answer) → a ≡ first_row (admission c) → (a.number ≡ 0 → ⊥) → done a (lent_of k) c ≡ step k c
  unfolding step answer_of rows_of
  step_barred a asked h = rw (not_admitted c a asked ((meaning_of k).rows c) h, ne_eqb a.number 0 h)

  pub step_accepted : answer_of k c ≡ accepted → (l : Lent) → l ≡ filled_of k c → (card : List ℕ) → card ≡ store_all c (stores_of k c) → given_of k c ≡ NoneGiven → done accepted l card ≡ step k c
  unfolding step
  step_accepted e l f card g h = rw (e, f, g, h)

  -- the outcome alone, of a call that is refused, not admitted, or accepted
  pub outcome_refused : (n p : ℕ) → answer_of k c ≡ answer n p → eqb n 0 ≡ false → (step k c).outcome ≡ record { answer = answer n p; lent = lent_of k; given = NoneGiven }
  outcome_refused n p e z = ap (λ (d : Done). d.outcome) (sym (step_refused n p e z))

  pub outcome_barred : (a : Answer) → a ≡ first_row (admission c) → (a.number ≡ 0 → ⊥) → (step k c).outcome ≡ record { answer = a; lent = lent_of k; given = NoneGiven }
  outcome_barred a asked h = ap (λ (d : Done). d.outcome) (sym (step_barred a asked h))

  pub outcome_accepted : answer_of k c ≡ accepted → (step k c).outcome ≡ record { answer = accepted; lent = filled_of k c; given = given_of k c }
  unfolding step
  outcome_accepted e = rw e

  -- the answer is that of the rows, and what was lent is filled where it is accepted
  abbrev by_test : Bool → Done
  by_test t = pick t (record { outcome = record { answer = answer_of k c; lent = filled_of k c; given = given_of k c }; card = store_all c (stores_of k c) }) (done (answer_of k c) (lent_of k) c)

  -- the card after an accepted call
  pub accepted_card : is_accepted (answer_of k c) ≡ true → (step k c).card ≡ store_all c (stores_of k c)
  unfolding step
  accepted_card e = rw e

  pub step_answer : (step k c).outcome.answer ≡ answer_of k c
  unfolding step
  step_answer = by (is_accepted (answer_of k c))
    where
      by : (t : Bool) → (by_test t).outcome.answer ≡ answer_of k c
      by true = refl
      by false = refl

  pub step_lent : (step k c).outcome.lent ≡ pick (is_accepted (answer_of k c)) (filled_of k c) (lent_of k)
  unfolding step
  step_lent = by (is_accepted (answer_of k c))
    where
      by : (t : Bool) → (by_test t).outcome.lent ≡ pick t (filled_of k c) (lent_of k)
      by true = refl
      by false = refl

-- the area, by the tests of the code
module _ (c : List ℕ) where
  pub area_uneven : (length c % 512 ≡ 0 → ⊥) → true ≡ area_bad c
  unfolding area_bad
  area_uneven h = rw (ne_eqb (length c % 512) 0 h)

  pub area_small : length c % 512 ≡ 0 → length c / 512 < 2 → true ≡ area_bad c
  unfolding area_bad block_count
  area_small e h = rw (eq-eqb (length c % 512) 0 e, lt-ltb (length c / 512) 2 h)

  pub area_large : length c % 512 ≡ 0 → 2 ≤ length c / 512 → ltb 65536 (length c / 512) ≡ area_bad c
  unfolding area_bad block_count
  area_large e h = rw (eq-eqb (length c % 512) 0 e, le-ltb (length c / 512) 2 h)

-- stores of zeros, one after the other
clearing_snoc : (p n : ℕ) → clearing p (suc n) ≡ clearing p n ++ (store (p + n) zero_block ∷ [])
unfolding clearing
clearing_snoc p zero = let e : p + 0 ≡ p = omega arith in rw e
clearing_snoc p (suc n) = let e : p + suc n ≡ suc p + n = omega arith in rw e (ap (λ (l : List Store). store p zero_block ∷ l) (clearing_snoc (suc p) n))

pub cleared_none : (c : List ℕ) (p : ℕ) → c ≡ store_all c (clearing p 0)
unfolding clearing store_all
cleared_none c p = refl

pub cleared_more : (c : List ℕ) (p n : ℕ) (x y : List ℕ) → x ≡ store_all c (clearing p n) → y ≡ store_block x (p + n) zero_block → y ≡ store_all c (clearing p (n + 1))
cleared_more c p n x y e f =
    rw (add-one, clearing_snoc p n, stored_append c (clearing p n) (store (p + n) zero_block ∷ []), stored_one (store_all c (clearing p n)) (p + n) zero_block, f, e)

pub cleared_all : (c : List ℕ) (p i n : ℕ) (x : List ℕ) → x ≡ store_all c (clearing p i) → i ≤ n → n ≤ i → x ≡ store_all c (clearing p n)
cleared_all c p i n x e h k = let q : i ≡ n = omega arith in rw (← q) e

-- a run of an append
pub after_append : (xs ys : List Call) (c : List ℕ) → after (xs ++ ys) c ≡ after ys (after xs c)
unfolding after
after_append [] ys c = refl
after_append (k ∷ xs) ys c = after_append xs ys (step k c).card

outcomes_append : (xs ys : List Call) (c : List ℕ) → outcomes (xs ++ ys) c ≡ outcomes xs c ++ outcomes ys (after xs c)
unfolding after outcomes
outcomes_append [] ys c = refl
outcomes_append (k ∷ xs) ys c = ap (λ (os : List Outcome). (step k c).outcome ∷ os) (outcomes_append xs ys (step k c).card)

outcomes_length : (ks : List Call) (c : List ℕ) → length (outcomes ks c) ≡ length ks
unfolding outcomes
outcomes_length [] c = refl
outcomes_length (k ∷ ks) c = ap suc (outcomes_length ks (step k c).card)

-- a run up to n calls and on from there
pub after_split : (ks : List Call) (n m : ℕ) (c : List ℕ) → after (take (n + m) ks) c ≡ after (take m (drop n ks)) (after (take n ks) c)
after_split ks n m c = ap (λ (xs : List Call). after xs c) (take-add n m ks) ∙ after_append (take n ks) (take m (drop n ks)) c

pub outcomes_drop : (ks : List Call) (n : ℕ) (c : List ℕ) → n ≤ length ks → drop n (outcomes ks c) ≡ outcomes (drop n ks) (after (take n ks) c)
outcomes_drop ks n c h =
    ap (λ (xs : List Call). drop n (outcomes xs c)) (sym (take-append-drop n ks))
    ∙ ap (λ (os : List Outcome). drop n os) (outcomes_append (take n ks) (drop n ks) c)
    ∙ drop_at (outcomes (take n ks) c) (outcomes (drop n ks) (after (take n ks) c)) n (outcomes_length (take n ks) c ∙ length-take-le n ks h)
