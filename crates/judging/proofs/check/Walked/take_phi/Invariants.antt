-- `take_phi` meets its contract: after i turns i entries of Phi have passed, each with its table, and those past n are taken at once.
use Rattle.std.proofs.Common.{◌≡◌, ◌-◌}
use Rattle.entries.specs.Naming.{phi_namings}
use Rattle.entries.specs.Marks.{taking_all}
use Rattle.judging.proofs.check.Walked.take_phi.Given as goal

abbrev pub invariant-loop-i : goal.invariant-loop-i
invariant-loop-i l = taking_all l.self.d l.self.turn l.initial.seen (phi_namings l.self.card.now l.self.d 112 0) ≡ taking_all l.self.d l.self.turn l.seen (phi_namings l.self.card.now l.self.d (112 - l.i) l.i)
