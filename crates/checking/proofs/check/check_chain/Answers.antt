-- `check_chain` meets its contract: after k turns of the loop k descriptors have passed.
use Rattle.std.proofs.Common.{arith}
use Rattle.entries.proofs.CheckLaws.{fault_on}
use Rattle.calls.proofs.CheckCardLaws.{chain_ready, chain_ask, chain_end, chain_more, chain_stop, chain_told}
use Rattle.checking.proofs.check.check_chain.Goals as goal

pub mark_openings-requires : goal.mark_openings-requires
mark_openings-requires c =
    chain_ask _ _ c.args.chain.sound _ c.active-active.ensures.value _ c.opening_cost-cost.ensures _ c.count.ensures.value _ c.requires.1

pub next_turn-turn-requires : goal.next_turn-turn-requires
next_turn-turn-requires c =
    chain_ask _ _ c.args.chain.sound _ c.active-active.ensures.value _ c.opening_cost-cost.ensures _ c.count.ensures.value _ (omega arith)

pub check_one-requires : goal.check_one-requires
check_one-requires c = chain_ready _ _ c.args.chain.sound _ (omega arith) _ c.descriptor.ensures _ (omega arith)

pub returns-in_err-check_one : goal.returns-in_err-check_one
returns-in_err-check_one c =
    let told = chain_told _ _ c.args.chain.sound _ c.active-active.ensures.value _ c.opening_cost-cost.ensures _ c.requires.1 c.requires.0 _ c.count.ensures.value _ c.mark_openings.ensures _
    (chain_stop _ _ c.args.chain.sound _ c.count.ensures.value _ _ _ _ _ c.loop-k.invariant (omega arith) _ _ c.next_turn-turn.ensures _ c.descriptor.ensures _ _ c.in_err-check_one.ensures) in
    rw (fault_on _ _ c.from_residual.ensures.1) (record { value = told.0; seen_after = told.1 })

pub loop-k-preserved : goal.loop-k-preserved
loop-k-preserved c =
    chain_more _ _ c.args.chain.sound _ c.count.ensures.value _ _ _ _ _ c.loop-k.invariant (omega arith) _ _ c.next_turn-turn.ensures _ c.descriptor.ensures _ c.in_ok-check_one.ensures

pub returns : goal.returns
returns c =
    let told = chain_told _ _ c.args.chain.sound _ c.active-active.ensures.value _ c.opening_cost-cost.ensures _ c.requires.1 c.requires.0 _ c.count.ensures.value _ c.mark_openings.ensures _
    (chain_end _ _ c.args.chain.sound _ c.count.ensures.value _ _ _ _ c.loop-k.k c.loop-k.invariant (omega arith)) in
    record { value = told.0; seen_after = told.1 }
