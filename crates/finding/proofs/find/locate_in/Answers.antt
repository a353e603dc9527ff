-- `locate_in` meets its contract, by its test.
use Rattle.std.proofs.lemmas.Result.{err_from_is_err_and}
use Rattle.entries.proofs.RegionLaws.{through_rising}
use Rattle.entries.proofs.OwnerLaws.{entry_placed, entry_misplaced}
use Rattle.finding.proofs.find.locate_in.Goals as goal

pub owner_at-requires : goal.owner_at-requires
owner_at-requires c = search through_rising

pub returns-in_err-owner : goal.returns-in_err-owner
returns-in_err-owner c = let p = err_from_is_err_and c.from_residual.result c.from_residual.ensures.1 in rw (p.1, p.2) (search (entry_misplaced, c.in_err-owner.was))

pub returns : goal.returns
returns c = search (entry_placed, c.in_ok-owner.was)
