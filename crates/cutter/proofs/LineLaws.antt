-- Laws of the lines of a sheet, from any byte of it on.
use mathlib.Core.Path.{◌≡◌, refl, sym, ap, ◌∙◌}
use mathlib.Core.Bool.{Bool, true, false, cond}
use mathlib.Core.List.{List, [], ◌∷◌}
use Prim.Native.Nat.{ℕ, suc, ◌+◌, ◌-◌, ◌≤◌, ◌<◌}
use native.Mathlib.Omega.{arith}
use lib.ListN.{length, take, drop, length-drop, drop_of_length-le}
use lib.Seq.{drop-drop, take_all}
use lib.Dec.{eqb, ltb}
use borrow.Author.Tests.{lt-ltb, le-ltb, ltb-true, ltb-false}
use Rattle.std.proofs.Common.{Option, None, Some}
use Rattle.std.proofs.lemmas.List.Recursion.{is_position_or_len}
use Rattle.std.proofs.lemmas.Option.{cond_some}
use Rattle.std.specs.List.{position_or_len}
use Rattle.cutter.specs.declared.line.SheetCall.{SheetCall}
use Rattle.blocks.specs.Pick.{pick}
use Rattle.blocks.specs.Bytes.{part}
use Rattle.cutter.specs.declared.line.Cut.{Cut}
use Rattle.cutter.specs.Grammar.{SheetLine, line_of, length_to, line_length, before_lines, lines_of, line_in, cut_at}

-- a line with its line feed, and a line without one
abbrev pub ended_line : List ℕ → SheetLine
ended_line bs = record { bytes = bs; ended = true }

abbrev pub open_line : List ℕ → SheetLine
open_line bs = record { bytes = bs; ended = false }

first_ended : (l : List ℕ) → line_length l < length l → lines_of l ≡ ended_line (take (line_length l) l) ∷ lines_of (drop (suc (line_length l)) l)
unfolding length_to lines_of before_lines
first_ended [] h = absurd (omega arith)
first_ended (b ∷ bs) h = by (eqb b 10) h (first_ended bs)
  where
    by : (t : Bool) → pick t 0 (suc (line_length bs)) < suc (length bs) → (line_length bs < length bs → lines_of bs ≡ ended_line (take (line_length bs) bs) ∷ lines_of (drop (suc (line_length bs)) bs))
        → pick t (ended_line [] ∷ lines_of bs) (before_lines b (lines_of bs)) ≡ ended_line (take (pick t 0 (suc (line_length bs))) (b ∷ bs)) ∷ lines_of (drop (suc (pick t 0 (suc (line_length bs)))) (b ∷ bs))
    by true k more = refl
    by false k more = ap (before_lines b) (more (omega arith))

open_step : (t : Bool) (b : ℕ) (bs : List ℕ) → suc (length bs) ≤ pick t 0 (suc (line_length bs)) → (length bs ≤ line_length bs → before_lines b (lines_of bs) ≡ open_line (b ∷ bs) ∷ [])
    → pick t (ended_line [] ∷ lines_of bs) (before_lines b (lines_of bs)) ≡ open_line (b ∷ bs) ∷ []
open_step true b bs k more = absurd (omega arith)
open_step false b bs k more = more (omega arith)

first_open : (l : List ℕ) → 0 < length l → length l ≤ line_length l → lines_of l ≡ open_line l ∷ []
unfolding length_to lines_of before_lines
first_open [] h k = absurd (omega arith)
first_open (b ∷ []) h k = open_step (eqb b 10) b [] k (λ m. refl)
first_open (b ∷ x ∷ xs) h k = open_step (eqb b 10) b (x ∷ xs) k (λ m. ap (before_lines b) (first_open (x ∷ xs) (omega arith) m))

-- where a byte stands, as `position` gives it
place_is : (b : ℕ) (l : List ℕ) → position_or_len (λ x. eqb x b) l ≡ length_to b l
unfolding length_to
place_is b l = sym (is_position_or_len (length_to b) (λ x. eqb x b) refl (λ x xs. step (eqb x b) (length_to b xs)) l)
  where
    step : (t : Bool) (k : ℕ) → pick t 0 (suc k) ≡ cond t 0 (1 + k)
    step true k = refl
    step false k = omega arith

-- the lines of a sheet s from byte at on
module _ (s : List ℕ) (at : ℕ) where
  abbrev n : ℕ
  n = line_length (drop at s)

  pub lines_none : length s ≤ at → lines_of (drop at s) ≡ []
  unfolding lines_of
  lines_none h = rw (drop_of_length-le s {i = at} h)

  pub lines_ended : at + n < length s → lines_of (drop at s) ≡ record { bytes = part s at n; ended = true } ∷ lines_of (drop (at + n + 1) s)
  lines_ended h =
      let m : at + suc n ≡ at + n + 1 = omega arith in
      first_ended (drop at s) (omega (arith, length-drop at s))
      ∙ ap (λ (r : List ℕ). ended_line (part s at n) ∷ lines_of r) (drop-drop (suc n) at s ∙ ap (λ (i : ℕ). drop i s) m)

  pub lines_open : at < length s → length s ≤ at + n → lines_of (drop at s) ≡ record { bytes = drop at s; ended = false } ∷ []
  lines_open h k = first_open (drop at s) (omega (arith, length-drop at s)) (omega (arith, length-drop at s))

  -- the first of them
  unfoldable pub line_at : SheetLine
  line_at = pick (ltb (at + n) (length s)) (ended_line (part s at n)) (open_line (drop at s))

  -- what is cut there is the first of them, and the others follow
  pub cut_lines : at < length s → lines_of (drop at s) ≡ line_at ∷ lines_of (drop (cut_at s at).next s)
  unfolding cut_at line_at lines_of
  cut_lines h = by (ltb (at + n) (length s)) refl
    where
      by : (t : Bool) → ltb (at + n) (length s) ≡ t
          → lines_of (drop at s) ≡ pick t (ended_line (part s at n)) (open_line (drop at s)) ∷ lines_of (drop (pick {A = Cut} t (record { call = line_of (part s at n); next = at + n + 1 }) (record { call = None; next = length s })).next s)
      by true e = lines_ended (ltb-true (at + n) (length s) e)
      by false e = rw (drop_of_length-le s {i = length s} (omega arith)) (lines_open h (ltb-false (at + n) (length s) e))

  pub cut_call : line_in line_at ≡ (cut_at s at).call
  unfolding cut_at line_at line_in
  cut_call = by (ltb (at + n) (length s))
    where
      by : (t : Bool) → line_in (pick t (ended_line (part s at n)) (open_line (drop at s))) ≡ (pick {A = Cut} t (record { call = line_of (part s at n); next = at + n + 1 }) (record { call = None; next = length s })).call
      by true = refl
      by false = refl

  -- as `cut_next` asks them: r is the place of the line feed in what is left of the sheet
  abbrev place_in : List ℕ → Option ℕ
  place_in l = cond (ltb (position_or_len (λ x. eqb x 10) l) (length l)) (Some (position_or_len (λ x. eqb x 10) l)) None

  module _ (r : Option ℕ) (given : r ≡ place_in (take (length s - at) (drop at s))) where
    found : r ≡ cond (ltb n (length (drop at s))) (Some n) None
    found =
        given ∙ ap place_in (take_all (length s - at) (drop at s) (omega (arith, length-drop at s)))
        ∙ ap (λ (k : ℕ). cond (ltb k (length (drop at s))) (Some k) None) (place_is 10 (drop at s))

    pub next_open : r ≡ None → record { call = None; next = length s } ≡ cut_at s at
    unfolding cut_at
    next_open e = by (ltb n (length (drop at s))) refl (sym found ∙ e)
      where
        by : (t : Bool) → ltb n (length (drop at s)) ≡ t → cond t (Some n) None ≡ None → record { call = None; next = length s } ≡ pick {A = Cut} (ltb (at + n) (length s)) (record { call = line_of (part s at n); next = at + n + 1 }) (record { call = None; next = length s })
        by true f g = absurd cc
        by false f g = rw (le-ltb (at + n) (length s) (omega (arith, ltb-false n (length (drop at s)) f, length-drop at s)))

    pub next_ended : (m : ℕ) → r ≡ Some m → (l : Option SheetCall) → l ≡ line_of (part s at (at + m - at)) → record { call = l; next = at + m + 1 } ≡ cut_at s at
    unfolding cut_at
    next_ended m e l f =
        let p = cond_some (ltb n (length (drop at s))) n m (sym found ∙ e) in
        let k : at + m - at ≡ m = omega arith in
        rw (f, k, ← p.1, lt-ltb (at + n) (length s) (omega (arith, ltb-true n (length (drop at s)) p.0, length-drop at s)))
