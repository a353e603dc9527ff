-- `span_need` meets its contract: the sum over the blocks is what is planned for all of them.
use mathlib.Core.Path.{refl, ◌∙◌}
use native.Mathlib.Omega.{arith}
use Rattle.std.proofs.Common.{rules}
use Rattle.std.proofs.lemmas.Iterator.{YieldsList-from_map, YieldsList-from_range}
use Rattle.std.proofs.lemmas.Iterator.Consumers.{sum_from_yields_List, fits_from_yields_list}
use Rattle.entries.proofs.EntryLaws.{through_volume}
use Rattle.spanwriting.specs.Planned.{counted_at}
use Rattle.spanwriting.proofs.ActiveCards.{active_ready}
use Rattle.spanwriting.proofs.PlanLaws.{planned_sum, planned_most}
use Rattle.spanwriting.proofs.plan.span_need.Goals as goal

pub sum-requires-clause-fits : goal.sum-requires-clause-fits
sum-requires-clause-fits c = fits_from_yields_list c.map.result _ (YieldsList-from_map _ (counted_at c.args.card.now c.args.offset) (YieldsList-from_range 0 c.args.blocks c.args.blocks c.map.ensures.source (omega arith)) c.map.ensures.closure (λ x r q k. search rules)) (omega (arith, planned_sum c.args.card.now c.args.offset c.args.blocks, planned_most c.args.card.now c.args.offset c.args.blocks, c.requires.2, through_volume _ _ _ _ (active_ready _ _ _ _ c.requires.0.2)))

pub returns : goal.returns
returns c =
    let is = sum_from_yields_List c.map.result _ c.sum.ensures.ran (YieldsList-from_map _ (counted_at c.args.card.now c.args.offset) (YieldsList-from_range 0 c.args.blocks c.args.blocks c.map.ensures.source (omega arith)) c.map.ensures.closure (λ x r q k. search rules)) ∙ planned_sum c.args.card.now c.args.offset c.args.blocks in
    record { value = is; upper_bound = omega (arith, is, planned_most c.args.card.now c.args.offset c.args.blocks) }
