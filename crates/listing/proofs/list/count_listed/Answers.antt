-- `count_listed` meets its contract, by the plan.
use borrow.Author.Rules.{rules}
use Rattle.listing.proofs.PlanLaws.{walk_ready}
use Rattle.listing.proofs.list.count_listed.Goals as goal

pub returns-clause-ready : goal.returns-clause-ready
returns-clause-ready c = walk_ready _ _ _ (search rules)
