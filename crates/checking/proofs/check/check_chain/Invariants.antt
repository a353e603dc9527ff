-- `check_chain` meets its contract: after k turns of the loop k descriptors have passed.
use Rattle.std.proofs.Common.{◌≡◌, ◌-◌, length, drop}
use Rattle.chains.specs.Chain.{chain, descriptors}
use Rattle.calls.specs.Check.{taking_chain}
use Rattle.checking.proofs.check.check_chain.Given as goal

abbrev pub invariant-loop-k : goal.invariant-loop-k
invariant-loop-k l =
    taking_chain l.chain.card.now l.chain.starts.now l.cost (length l.chain.starts.now - 1) 0 l.initial.seen (descriptors (chain l.chain.card.now))
    ≡ taking_chain l.chain.card.now l.chain.starts.now l.cost (length l.chain.starts.now - 1) l.turn l.seen (drop l.k (descriptors (chain l.chain.card.now)))
