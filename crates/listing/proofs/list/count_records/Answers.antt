-- `count_records` meets its contract, by the place of the first record whose next is 0.
use Rattle.std.proofs.lemmas.Iterator.{YieldsList-from_slice}
use Rattle.std.proofs.lemmas.Iterator.Search.{position_from_yields_List}
use borrow.Author.Rules.{rules}
use borrow.Author.Tests.{tests}
use Rattle.calls.proofs.ListingLaws.{is_last, count_first}
use Rattle.listing.proofs.list.count_records.Goals as goal

pub returns-in-Some : goal.returns-in-Some
returns-in-Some c =
    (count_first _ c.position.result (position_from_yields_List is_last _ _ c.position.result c.position.ensures.ran (YieldsList-from_slice c.args.records.now c.iter.ensures.rest) (λ x b q k. search (rules, tests)))).0 _ c.in-Some.is

pub returns-in-None : goal.returns-in-None
returns-in-None c =
    (count_first _ c.position.result (position_from_yields_List is_last _ _ c.position.result c.position.ensures.ran (YieldsList-from_slice c.args.records.now c.iter.ensures.rest) (λ x b q k. search (rules, tests)))).1 c.in-None.is
