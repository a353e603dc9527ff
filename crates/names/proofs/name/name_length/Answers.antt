-- `name_length` meets its contract: what the chain counts is how many bytes of a name come first.
use mathlib.Core.Path.{◌∙◌}
use borrow.Author.Rules.{rules}
use Rattle.std.proofs.lemmas.Iterator.{YieldsList-from_slice}
use Rattle.std.proofs.lemmas.Iterator.Consumers.{YieldsList-at, count_from_yields_List}
use Rattle.std.proofs.lemmas.Iterator.Search.{YieldsList-from_take_while}
use Rattle.blocks.specs.Name.{name_byte}
use Rattle.names.proofs.TestLaws.{name_taken}
use Rattle.names.proofs.name.name_length.Goals as goal

pub returns-clause-value : goal.returns-clause-value
returns-clause-value c =
    let bytes = YieldsList-at c.take_while.ensures.source (YieldsList-from_slice c.args.text.now c.iter.ensures.rest) in
    count_from_yields_List _ _ c.count.ensures.ran (YieldsList-from_take_while _ name_byte bytes c.take_while.ensures.closure c.take_while.ensures.done (λ x b q k. search rules)) ∙ name_taken _
