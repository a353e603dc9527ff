-- `list_in` meets its contract: what is answered and how many are filled is a plan for the records, and `fill` fills them by it.
use Rattle.std.proofs.Common.{refl, arith}
use Rattle.calls.proofs.PlanLaws.{plan_done}
use Rattle.listing.proofs.PlanLaws.{plan_ready, plan_made}
use Rattle.listing.proofs.list.list_in.Goals as goal

pub fill-requires : goal.fill-requires
fill-requires g c =
    let m = c.make_plan-answer.ensures in
    let ready = plan_ready _ _ _ _ m.sound m.none (omega arith) in
    (m.upper_bound.0, ready.0, ready.1)

pub returns : goal.returns
returns g c =
    let m = c.make_plan-answer.ensures in
    plan_done _ _ _ (plan_made _ _ _ _ m.sound m.none (omega arith) _ (m.value _ refl)) _ c.fill.ensures
