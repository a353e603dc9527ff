-- `next_turn` meets its contract, by its test.
use Rattle.std.proofs.Common.{arith}
use Rattle.std.proofs.lemmas.Bool.Decides.{nat_tests}
use Rattle.entries.specs.Marks.{next_turn, next_flags}
use Rattle.flagging.proofs.flags.next_turn.Goals as goal

pub returns-then-turn-lt-OPENING : goal.returns-then-turn-lt-OPENING
unfolding next_turn next_flags
returns-then-turn-lt-OPENING c = grind (arith, nat_tests)

pub returns : goal.returns
unfolding next_turn next_flags
returns c = grind (arith, nat_tests, c.fill.ensures.after (λ y e. e))
