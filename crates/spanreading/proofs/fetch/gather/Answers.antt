-- `gather` meets its contract: after i turns the pieces of the first i blocks are filled.
use mathlib.Core.Path.{refl, ◌∙◌}
use Prim.Native.Nat.{◌<◌}
use native.Mathlib.Omega.{arith}
use lib.ListN.{length}
use Rattle.spanreading.proofs.FillLaws.{gathered_none, gathered_more, gathered_all}
use Rattle.spanreading.proofs.GroupLaws.{placed_each}
use Rattle.pieces.specs.Span.{touched}
use Rattle.pieces.proofs.SpanLaws.{begins, inside}
use Rattle.entries.proofs.EntryLaws.{through_end, through_volume}
use Rattle.spanreading.proofs.fetch.gather.Goals as goal

pub loop-i-init : goal.loop-i-init
loop-i-init c = (refl, gathered_none _ _ _ _ (through_end _ _ _ _ c.requires.0.2) _)

pub fetch_piece-requires : goal.fetch_piece-requires
fetch_piece-requires c =
    let i : c.loop-i.i < touched c.args.offset (length c.args.out.now) = omega (arith, c.blocks_touched-i-end.ensures.value) in
    let e = begins _ _ _ i in (
      c.requires.0,
      inside _ _ _ _ c.requires.1 i,
      placed_each _ _ _ _ c.requires.2 _ i,
      omega (arith, e, c.loop-i.invariant.0),
      omega arith,
      omega (arith, c.requires.1, c.loop-i.invariant.0, through_volume _ _ _ _ c.requires.0.2),
    )

pub loop-i-preserved : goal.loop-i-preserved
loop-i-preserved c =
    let i : c.loop-i.i < touched c.args.offset (length c.args.out.now) = omega (arith, c.blocks_touched-i-end.ensures.value) in
    (c.fetch_piece.auto.out ∙ c.loop-i.invariant.0, gathered_more _ _ _ _ (through_end _ _ _ _ c.requires.0.2) _ i _ _ _ refl c.loop-i.invariant.1 c.loop-i.invariant.0 c.fetch_piece.ensures)

pub returns : goal.returns
returns c = gathered_all _ _ _ _ (through_end _ _ _ _ c.requires.0.2) c.loop-i.i _ c.blocks_touched-i-end.ensures.value (omega arith) (omega arith) _ _ refl c.loop-i.invariant.1
