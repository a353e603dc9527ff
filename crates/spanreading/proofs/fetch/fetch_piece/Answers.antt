-- `fetch_piece` meets its contract: the piece is put where it stands.
use Rattle.entries.proofs.EntryLaws.{through_end}
use Rattle.calls.proofs.AimLaws.{entry_is}
use Rattle.calls.proofs.CellLaws.{found_long}
use Rattle.spanreading.proofs.FillLaws.{slot_block, fill_ready, piece_put}
use Rattle.spanreading.proofs.fetch.fetch_piece.Goals as goal

pub entry_of-slot-requires : goal.entry_of-slot-requires
entry_of-slot-requires c = (c.requires.0, c.requires.1, (_, _, entry_is _ c.requires.2))

pub fill_piece-requires : goal.fill_piece-requires
fill_piece-requires c = fill_ready _ _ _ _ c.requires.0.2 _ _ _ c.requires.3 c.requires.4 _ c.piece_in-q.ensures.value _ (slot_block _ _ _ _ c.entry_of-slot.ensures)

pub returns : goal.returns
returns c =
    piece_put _ _ _ _ _ _ _ (slot_block _ _ _ _ c.entry_of-slot.ensures) c.requires.3 c.requires.4 _ c.piece_in-q.ensures.value c.fill_piece.ensures
    (found_long _ _ _ (through_end _ _ _ _ c.requires.0.2) _)
