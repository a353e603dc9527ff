-- `put_piece` meets its contract, by whether the span covers the block whole.
use Rattle.spanwriting.proofs.PieceLaws.{put_fits, whole_ready, whole_stored, part_ready, part_stored}
use Rattle.spanwriting.proofs.piece.put_piece.Goals as goal

pub put_block-requires : goal.put_block-requires
put_block-requires c = (whole_ready _ _ _ _ _ _ c.requires.0 c.requires.3 c.requires.4 _ c.piece_in-q.ensures.value c.if-q-eq-BLOCK_SIZE.true, c.requires.1, c.requires.2)

pub returns-then-q-eq-BLOCK_SIZE : goal.returns-then-q-eq-BLOCK_SIZE
returns-then-q-eq-BLOCK_SIZE c = whole_stored _ _ _ _ _ _ c.requires.0 c.requires.3 c.requires.4 _ c.piece_in-q.ensures.value c.if-q-eq-BLOCK_SIZE.true _ c.put_block.ensures

pub overlaid-block-requires : goal.overlaid-block-requires
overlaid-block-requires c = put_fits _ _ _ _ _ _ c.requires.0 c.requires.3 c.requires.4 _ c.piece_in-q.ensures.value

pub put_block-requires-else-q-eq-BLOCK_SIZE : goal.put_block-requires-else-q-eq-BLOCK_SIZE
put_block-requires-else-q-eq-BLOCK_SIZE c = (part_ready _ _ _ _ _ _ c.requires.0 c.requires.3 c.requires.4 _ c.piece_in-q.ensures.value _ c.overlaid-block.ensures, c.requires.1, c.requires.2)

pub returns-else-q-eq-BLOCK_SIZE : goal.returns-else-q-eq-BLOCK_SIZE
returns-else-q-eq-BLOCK_SIZE c = part_stored _ _ _ _ _ _ c.requires.0 c.requires.3 c.requires.4 _ c.piece_in-q.ensures.value _ c.overlaid-block.ensures _ c.put_block-else-q-eq-BLOCK_SIZE.ensures
