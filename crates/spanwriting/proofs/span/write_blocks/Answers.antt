-- `write_blocks` meets its contract: after i turns the first i blocks are written.
use mathlib.Core.Path.{refl, ◌∙◌}
use Prim.Native.Nat.{◌<◌}
use native.Mathlib.Omega.{arith}
use lib.ListN.{length}
use Rattle.pieces.specs.Span.{touched}
use Rattle.entries.proofs.EntryLaws.{through_volume}
use Rattle.spanwriting.proofs.ActiveCards.{active_ready}
use Rattle.spanwriting.proofs.BlocksLaws.{span_small, card_first, piece_next, card_more, card_all}
use Rattle.spanwriting.proofs.span.write_blocks.Goals as goal

pub blocks_touched-i-end-requires : goal.blocks_touched-i-end-requires
blocks_touched-i-end-requires c = span_small _ _ _ _ _ _ c.requires

pub loop-i-init : goal.loop-i-init
loop-i-init c = (refl, refl, card_first _ _ _ _ _ _ c.requires, c.requires.card)

pub write_piece-d-requires : goal.write_piece-d-requires
write_piece-d-requires c = let i : c.loop-i.i < touched c.args.offset (length c.args.bytes.now) = omega (arith, c.blocks_touched-i-end.ensures.value) in piece_next _ _ _ _ _ _ c.requires _ i _ c.loop-i.invariant.2 _ _ _ c.loop-i.invariant.3

pub loop-i-preserved : goal.loop-i-preserved
loop-i-preserved c = let i : c.loop-i.i < touched c.args.offset (length c.args.bytes.now) = omega (arith, c.blocks_touched-i-end.ensures.value) in (c.write_piece-d.auto.card ∙ c.loop-i.invariant.0, c.write_piece-d.auto.starts ∙ c.loop-i.invariant.1, card_more _ _ _ _ _ _ c.requires _ i _ c.loop-i.invariant.2 _ c.write_piece-d.ensures.card_after, c.write_piece-d.ensures.active_card)

pub returns : goal.returns
returns c = card_all _ _ _ c.loop-i.i _ c.blocks_touched-i-end.ensures.value (omega arith) (omega arith) _ c.loop-i.invariant.2
