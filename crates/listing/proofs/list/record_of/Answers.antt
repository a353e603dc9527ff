-- `record_of` meets its contract: the starts say all but the name.
use Rattle.calls.specs.Listing.{record_by}
use Rattle.listing.proofs.list.record_of.Goals as goal

pub returns : goal.returns
unfolding record_by
returns c = rw (c.name_at.ensures, c.next_of.ensures)
