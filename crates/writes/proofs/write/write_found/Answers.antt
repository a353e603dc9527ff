-- `write_found` meets its contract, by the test for room.
use native.Mathlib.Omega.{arith}
use Rattle.calls.proofs.WriteLaws.{put_11, put_0}
use Rattle.writes.proofs.write.write_found.Goals as goal

pub returns-then-card-d : goal.returns-then-card-d
returns-then-card-d c = put_11 _ _ _ _ _ _ c.requires.1 (omega (arith, c.if-card-d.true))

pub returns : goal.returns
returns c =
    put_0 _ _ _ _ _ _ c.requires.1 (omega (arith, c.if-card-d.false)) _ c.put_block.ensures
