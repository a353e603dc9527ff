-- `read_digits` meets its contract: the digits so far say v.
use mathlib.Core.Path.{◌≡◌, sym, ◌∙◌}
use mathlib.Core.Bool.{true}
use native.Mathlib.Omega.{arith}
use lib.ListN.{get_or}
use Rattle.cutter.specs.Grammar.{is_digit}
use Rattle.cutter.proofs.NumberLaws.{digits_start, digits_stop, digits_more, digits_large, digits_end}
use Rattle.cutter.proofs.number.read_digits.Goals as goal

pub loop-b-init : goal.loop-b-init
loop-b-init c = (omega arith, digits_start _)

pub returns-then-not-is_ascii_digit : goal.returns-then-not-is_ascii_digit
unfolding is_digit
returns-then-not-is_ascii_digit c =
    sym (c.loop-b.invariant.1 ∙ digits_stop _ _ _ (omega arith) (sym c.is_ascii_digit.ensures.value ∙ c.if-not-is_ascii_digit.true))

pub returns-then-v-gt-MOST_NUMBER : goal.returns-then-v-gt-MOST_NUMBER
unfolding is_digit
returns-then-v-gt-MOST_NUMBER c =
    let h : is_digit (get_or c.args.digits.now c.loop-b.b-index 0) ≡ true = sym c.is_ascii_digit.ensures.value ∙ c.if-not-is_ascii_digit.false in
    sym (c.loop-b.invariant.1 ∙ digits_more _ _ _ (omega arith) h ∙ digits_large _ _ _ (omega (arith, c.from.ensures, c.if-v-gt-MOST_NUMBER.true)))

pub loop-b-preserved : goal.loop-b-preserved
unfolding is_digit
loop-b-preserved c =
    let h : is_digit (get_or c.args.digits.now c.loop-b.b-index 0) ≡ true = sym c.is_ascii_digit.ensures.value ∙ c.if-not-is_ascii_digit.false in
    rw c.from.ensures (omega (arith, c.from.ensures), c.loop-b.invariant.1 ∙ digits_more _ _ _ (omega arith) h)

pub returns : goal.returns
returns c = sym (c.loop-b.invariant.1 ∙ digits_end _ _ _ (omega arith) (omega arith))
