-- `write_piece` meets its contract: the write through the entry that was found, and what the walk would find after it.
use mathlib.Core.Path.{refl, sym, ap, ◌∙◌}
use native.Mathlib.Omega.{arith}
use Rattle.entries.specs.Found.{located_as}
use Rattle.calls.proofs.ChainLaws.{card_chain}
use Rattle.spanwriting.proofs.ActiveCards.{active_ready, active_some}
use Rattle.spanwriting.proofs.PieceLaws.{piece_located, piece_ready, piece_small, piece_done, piece_after}
use Rattle.spanwriting.proofs.piece.write_piece.Goals as goal

pub overflow_sub-end : goal.overflow_sub-end
overflow_sub-end c = omega (arith, active_some _ _ _ _ c.requires.card)

pub invariant_of-chain : goal.invariant_of-chain
invariant_of-chain c = record { sound = card_chain _ _ c.requires.card.sound }

pub locate-requires : goal.locate-requires
locate-requires c = (active_ready _ _ _ _ c.requires.card, c.requires.below)

pub unwrap-owner-requires : goal.unwrap-owner-requires
unwrap-owner-requires c = piece_located _ _ _ _ _ _ _ c.requires _ c.locate.ensures

pub overflow_sub-end-2 : goal.overflow_sub-end-2
overflow_sub-end-2 c = omega (arith, active_some _ _ _ _ c.requires.card)

pub put_piece-requires : goal.put_piece-requires
put_piece-requires c = piece_ready _ _ _ _ _ _ _ c.requires _ _ (sym (ap located_as c.unwrap-owner.ensures) ∙ c.locate.ensures) _ c.need-taken.ensures

pub extended-e-requires : goal.extended-e-requires
extended-e-requires c = piece_small _ _ _ _ _ _ _ c.requires _ _ (sym (ap located_as c.unwrap-owner.ensures) ∙ c.locate.ensures) _ c.need-taken.ensures

pub bounds-starts-end : goal.bounds-starts-end
bounds-starts-end c = omega (arith, active_some _ _ _ _ c.requires.card)

pub returns-clause-card_after : goal.returns-clause-card_after
returns-clause-card_after c = piece_done _ _ _ _ _ _ _ c.requires _ _ (sym (ap located_as c.unwrap-owner.ensures) ∙ c.locate.ensures) _ c.need-taken.ensures _ c.put_piece.ensures

pub returns-clause-active_card : goal.returns-clause-active_card
returns-clause-active_card c = piece_after _ _ _ _ _ _ _ c.requires _ _ (sym (ap located_as c.unwrap-owner.ensures) ∙ c.locate.ensures) _ c.need-taken.ensures _ (piece_done _ _ _ _ _ _ _ c.requires _ _ (sym (ap located_as c.unwrap-owner.ensures) ∙ c.locate.ensures) _ c.need-taken.ensures _ c.put_piece.ensures) _ c.extended-e.ensures refl
