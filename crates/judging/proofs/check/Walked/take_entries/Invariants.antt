-- `take_entries` meets its contract: after k runs the entries past them are left.
use Rattle.std.proofs.Common.{◌≡◌, ◌*◌, ◌-◌}
use Rattle.entries.specs.Naming.{entry_namings}
use Rattle.entries.specs.Marks.{taking_all}
use Rattle.judging.proofs.check.Walked.take_entries.Given as goal

abbrev pub invariant-loop-k : goal.invariant-loop-k
invariant-loop-k l = taking_all l.self.d l.self.turn l.initial.seen (entry_namings l.self.card.now l.m.0 128 l.n 0) ≡ taking_all l.self.d l.self.turn l.seen (entry_namings l.self.card.now l.m.0 128 (l.n - 4 * l.k) (4 * l.k))
