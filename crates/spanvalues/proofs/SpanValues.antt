-- Values of spans: what the definitions compute is what the tables say, group by group and as a whole, and not what wrong values would say.
use mathlib.Core.Path.{◌≡◌, refl, ap, ◌∙◌}
use mathlib.Core.List.{List, [], ◌∷◌, map}
use Prim.Native.Nat.{ℕ}
use native.Mathlib.Omega.{arith}
use lib.ListN.{get_or}
use Rattle.calls.specs.Step.{Done}
use Rattle.claims.specs.Claims.{lent_at_entry}
use Rattle.claims.specs.Bench.{Value, Result, expected, computed, Shown, Only, Beta, Bytes, Named, Differs}
use Rattle.claims.proofs.Bench.{apart}
use Rattle.samples.proofs.FastCheck.{done_once, done_once_lem, quick, quick_one, running_once}
use Rattle.samples.proofs.AsSaid.{AsSaid, ◌and◌, quickly}
use Rattle.cards.specs.Cards.{counting, Change, said, left}
use Rattle.spanvalues.specs.SpanValues.{fetched_values, end_values, refused_values, followed_values, failing_values, full_values, later_values, span_values, span_writes, overwrites, BlockByBlock, LeftOtherwise, WrongSpans}

fetched_values_lem : AsSaid fetched_values
unfolding running_once counting fetched_values
fetched_values_lem = quickly _ refl

end_values_lem : AsSaid end_values
unfolding running_once counting end_values
end_values_lem = quickly _ refl

refused_values_lem : AsSaid refused_values
unfolding running_once refused_values
refused_values_lem = quickly _ refl

followed_values_lem : AsSaid followed_values
unfolding running_once followed_values
followed_values_lem = quickly _ refl

failing_values_lem : AsSaid failing_values
unfolding running_once failing_values
failing_values_lem = quickly _ refl

full_values_lem : AsSaid full_values
unfolding running_once counting full_values
full_values_lem = quickly _ refl

later_values_lem : AsSaid later_values
unfolding running_once counting later_values
later_values_lem = quickly _ refl

whole : AsSaid span_values
unfolding span_values
whole =
    fetched_values_lem
    and end_values_lem
    and refused_values_lem
    and followed_values_lem
    and failing_values_lem
    and full_values_lem
    and later_values_lem

pub span_values_lem : map computed span_values ≡ map expected span_values
span_values_lem = whole.as_said

-- what a call leaves, computed with a check in one pass
unfoldable left_once : Change → Done
left_once h = done_once h.call h.before

left_once_lem : (h : Change) → left h ≡ left_once h
unfolding left left_once
left_once_lem h = done_once_lem h.call h.before

left_all : (hs : List Change) → map left hs ≡ map left_once hs
left_all [] = refl
left_all (h ∷ hs) = rw (left_once_lem h, left_all hs)

pub span_writes_leave : map left span_writes ≡ map said span_writes
unfolding running_once span_writes counting said left_once lent_at_entry
span_writes_leave = left_all span_writes ∙ refl

pub block_by_block : BlockByBlock
unfolding running_once BlockByBlock counting
block_by_block = (refl, refl, refl)

pub overwrites_leave : map left overwrites ≡ map said overwrites
unfolding running_once overwrites counting said left_once lent_at_entry
overwrites_leave = left_all overwrites ∙ refl

-- a value, and a change, that are not as said: a number by which what is computed and what is said differ
differs : (v : Value) (f : Result → ℕ) (m n : ℕ) → (m ≡ n → ⊥) → f (quick v) ≡ m → f (expected v) ≡ n → Differs v
differs v f m n h e g = apart f m n h (computed v) (expected v) (ap f (quick_one v) ∙ e) g

otherwise : (h : Change) (f : Done → ℕ) (m n : ℕ) → (m ≡ n → ⊥) → f (left_once h) ≡ m → f (said h) ≡ n → LeftOtherwise h
otherwise h f m n d e g = apart f m n d (left h) (said h) (ap f (left_once_lem h) ∙ e) g

-- byte i that is shown
unfoldable byte_in : ℕ → Shown → ℕ
byte_in i Only = 0
byte_in i (Beta n) = 0
byte_in i (Bytes b) = get_or b i 0
byte_in i (Named n) = 0

pub wrong_spans : WrongSpans
unfolding running_once WrongSpans counting said left_once lent_at_entry byte_in
wrong_spans = (
  differs _ (λ (r : Result). byte_in 1 r.shown) 10 100 (λ e. omega arith) refl refl,
  differs _ (λ (r : Result). byte_in 0 r.shown) 8 1 (λ e. omega arith) refl refl,
  differs _ (λ (r : Result). r.answer.number) 16 8 (λ e. omega arith) refl refl,
  differs _ (λ (r : Result). r.answer.number) 16 0 (λ e. omega arith) refl refl,
  differs _ (λ (r : Result). r.answer.number) 10 0 (λ e. omega arith) refl refl,
  differs _ (λ (r : Result). r.answer.place) 1 4 (λ e. omega arith) refl refl,
  differs _ (λ (r : Result). r.answer.number) 0 11 (λ e. omega arith) refl refl,
  otherwise _ (λ (d : Done). get_or d.card 1024 0) 0 7 (λ e. omega arith) refl refl,
  otherwise _ (λ (d : Done). get_or d.card 2047 0) 109 0 (λ e. omega arith) refl refl,
)
