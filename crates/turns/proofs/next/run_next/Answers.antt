-- `run_next` meets its contract: the line is cut, run and printed.
use Rattle.std.proofs.Common.{◌≤◌, not, sym, ap, ◌∙◌, subst}
use Rattle.std.proofs.Math.Bool.{not-not}
use Rattle.blocks.specs.Bytes.{splice}
use Rattle.calls.specs.Call.{answered}
use Rattle.cutter.specs.declared.line.Cut.{Cut}
use Rattle.sheet.specs.State.{State}
use Rattle.sheet.specs.Sheet.{added, size_of, line_text}
use Rattle.sheet.proofs.TurnLaws.{cut_small, turn_done}
use Rattle.turns.proofs.next.run_next.Goals as goal

pub run_line-outcome-requires : goal.run_line-outcome-requires
run_line-outcome-requires c = subst (λ (x : Cut). size_of x.call ≤ 64) (sym c.cut_next-cut.ensures.value) (cut_small _ _)

pub returns-clause-value : goal.returns-clause-value
returns-clause-value c =
    let w =
    turn_done _ _ _ _ _ _ _ _ _ c.cut_next-cut.ensures.value c.run_line-outcome.ensures.value
    (ap (λ (w : State). line_text (answered c.run_line-outcome.result) (added c.run_line-outcome.result) w.records) c.sheet.view_is) (sym (ap not c.is_none.ensures ∙ not-not _)) in
    (rw c.print_line.ensures.value.0 w.0, w.1, c.print_line.ensures.value.1 ∙ ap (splice c.args.out.now.bytes.now 0) w.2)
