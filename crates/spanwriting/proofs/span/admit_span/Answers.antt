-- `admit_span` meets its contract, row by row.
use mathlib.Core.Path.{refl, sym, ◌∙◌}
use native.Mathlib.Omega.{arith}
use Rattle.entries.proofs.EntryLaws.{through_volume}
use Rattle.calls.proofs.ChainLaws.{sound_card, chain_last}
use Rattle.calls.proofs.ResultLaws.{passed_on}
use Rattle.pieces.proofs.SpanLaws.{past_upto}
use Rattle.spanwriting.proofs.BlocksLaws.{touched_upto}
use Rattle.spanwriting.proofs.WriteSpanLaws.{active_card, checked_passes, span_16, span_10, span_11, span_ready, span_0}
use Rattle.spanwriting.proofs.span.admit_span.Goals as goal

pub returns-then-is_past-clause-answer : goal.returns-then-is_past-clause-answer
returns-then-is_past-clause-answer c = sym (span_16 _ _ _ _ _ (sound_card _ _ c.requires c.args.chain.sound) _ c.active-d.ensures.read _ c.is_past.ensures c.if-is_past.true)

pub returns-in_err-check_regions-clause-answer : goal.returns-in_err-check_regions-clause-answer
returns-in_err-check_regions-clause-answer c = passed_on _ _ c.from_residual.ensures.1 ∙ sym (span_10 _ _ _ _ _ (sound_card _ _ c.requires c.args.chain.sound) _ c.active-d.ensures.read _ c.is_past.ensures c.if-is_past.false _ c.in_err-check_regions.ensures _ refl)

pub span_need-taken-requires : goal.span_need-taken-requires
span_need-taken-requires c = (
  (_, _, active_card _ _ _ (sound_card _ _ c.requires c.args.chain.sound) _ c.active-d.ensures.read),
  checked_passes _ _ _ (sound_card _ _ c.requires c.args.chain.sound) _ c.in_ok-check_regions.ensures refl,
  touched_upto _ _ _ _ (past_upto _ _ _ _ c.is_past.ensures c.if-is_past.false) c.blocks_touched.ensures.value c.blocks_touched.ensures.result_bound,
)

pub returns-then-chain-d-clause-answer : goal.returns-then-chain-d-clause-answer
returns-then-chain-d-clause-answer c =
    sym (span_11 _ _ _ _ _ (sound_card _ _ c.requires c.args.chain.sound) _ c.active-d.ensures.read _ c.is_past.ensures c.if-is_past.false _ c.in_ok-check_regions.ensures refl _ c.blocks_touched.ensures.value _ c.span_need-taken.ensures.value (omega (arith, c.if-chain-d.true)))

pub returns-clause-answer : goal.returns-clause-answer
returns-clause-answer c =
    sym (span_0 _ _ _ _ _ (sound_card _ _ c.requires c.args.chain.sound) _ c.active-d.ensures.read _ c.is_past.ensures c.if-is_past.false _ c.in_ok-check_regions.ensures refl _ c.blocks_touched.ensures.value _ c.span_need-taken.ensures.value (omega (arith, c.if-chain-d.false)))

pub returns-clause-ready : goal.returns-clause-ready
returns-clause-ready c =
    span_ready _ _ _ _ _ (sound_card _ _ c.requires c.args.chain.sound) _ c.active-d.ensures.read _ c.is_past.ensures c.if-is_past.false _ c.in_ok-check_regions.ensures refl _ c.blocks_touched.ensures.value _ c.span_need-taken.ensures.value (omega (arith, c.if-chain-d.false))
