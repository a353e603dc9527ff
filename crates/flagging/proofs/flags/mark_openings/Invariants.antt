-- `mark_openings` meets its contract: after k turns the openings of k regions are flagged.
use Rattle.std.proofs.Common.{◌≡◌}
use Rattle.entries.specs.Marks.{openings_flagged}
use Rattle.flagging.proofs.flags.mark_openings.Given as goal

abbrev pub invariant-loop-from : goal.invariant-loop-from
invariant-loop-from l = l.seen ≡ openings_flagged l.initial.seen l.starts l.cost l.from-index
