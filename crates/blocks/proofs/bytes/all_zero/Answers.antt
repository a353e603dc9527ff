-- `all_zero` meets its contract: what the two folds give.
use mathlib.Core.Path.{◌∙◌}
use Rattle.std.proofs.lemmas.Iterator.{YieldsList-from_slice}
use Rattle.std.proofs.lemmas.Iterator.Consumers.{fold_from_yields_List}
use borrow.Author.Rules.{rules}
use Rattle.blocks.proofs.ListLaws.{zero_word, zero_byte, zero_folds}
use Rattle.blocks.proofs.bytes.all_zero.Goals as goal

pub returns : goal.returns
returns c =
    zero_folds _ _ _
    (fold_from_yields_List _ zero_word _ _ c.fold-words_zero.ensures.ran (YieldsList-from_slice _ (c.iter.ensures.rest ∙ c.as_chunks.ensures.front)) (λ a x b q k. search rules))
    (fold_from_yields_List _ zero_byte _ _ c.fold-rest_zero.ensures.ran (YieldsList-from_slice _ (c.iter-2.ensures.rest ∙ c.as_chunks.ensures.back)) (λ a x b q k. search rules))
