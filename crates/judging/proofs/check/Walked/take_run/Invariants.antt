-- `take_run` meets its contract: at entry j those from it on are left.
use Rattle.std.proofs.Common.{◌≡◌, ◌-◌}
use Rattle.entries.specs.Naming.{entry_namings}
use Rattle.entries.specs.Marks.{taking_all}
use Rattle.judging.proofs.check.Walked.take_run.Given as goal

abbrev pub invariant-loop-j : goal.invariant-loop-j
invariant-loop-j l = taking_all l.self.d l.self.turn l.initial.seen (entry_namings l.self.card.now l.m.0 128 (l.to - l.from) l.from) ≡ taking_all l.self.d l.self.turn l.seen (entry_namings l.self.card.now l.m.0 128 (l.to - l.j) l.j)
