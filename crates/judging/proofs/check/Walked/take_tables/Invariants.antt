-- `take_tables` meets its contract: at table i those from it on are left.
use Rattle.std.proofs.Common.{◌≡◌, ◌-◌}
use Rattle.entries.specs.Naming.{tables_namings}
use Rattle.entries.specs.Marks.{taking_all}
use Rattle.judging.proofs.check.Walked.take_tables.Given as goal

abbrev pub invariant-loop-i : goal.invariant-loop-i
invariant-loop-i l = taking_all l.self.d l.self.turn l.initial.seen (tables_namings l.self.card.now l.self.d l.n 0) ≡ taking_all l.self.d l.self.turn l.seen (tables_namings l.self.card.now l.self.d (l.n - l.i) l.i)
