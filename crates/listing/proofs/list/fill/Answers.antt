-- `fill` meets its contract: each turn sets one record more, to what `record_of` gives.
use Rattle.std.proofs.Common.{◌<◌, List, sym, ap, ◌∙◌, arith, drop, set, take-append-drop}
use Rattle.std.proofs.lemmas.List.{length-take-le, set-append_left}
use Rattle.calls.specs.declared.answer.Record.{Record}
use Rattle.calls.proofs.PlanLaws.{filled_none, filled_more, filled_all}
use Rattle.listing.proofs.PlanLaws.{record_first, record_ready}
use Rattle.listing.proofs.list.fill.Goals as goal

pub loop-k-init : goal.loop-k-init
loop-k-init c = take-append-drop _ _ ∙ sym (filled_none _ _ _ _)

pub record_of-requires : goal.record_of-requires
record_of-requires c =
    let inside : c.loop-k.k < c.args.n = omega (arith, length-take-le _ _ c.requires.0) in
    let ready = record_ready c.args.card.now c.args.starts.now c.args.n c.requires.1 c.loop-k.k inside c.requires.2 in
    (omega (arith, inside, c.requires.1, ready.0), omega (arith, c.requires.2 c.loop-k.k inside, ready.1))

pub loop-k-preserved : goal.loop-k-preserved
loop-k-preserved c =
    let inside : c.loop-k.k < c.args.n = omega (arith, length-take-le _ _ c.requires.0) in
    sym (set-append_left c.loop-k.r-items (drop c.args.n c.args.records.now) c.loop-k.k c.record_of.result (omega (arith, length-take-le _ _ c.requires.0)))
    ∙ ap (λ (rs : List Record). set rs c.loop-k.k c.record_of.result) c.loop-k.invariant
    ∙ filled_more _ _ _ _ _ _ (c.record_of.ensures ∙ record_first _ _ _ c.requires.1 _ inside)

pub returns : goal.returns
returns c = c.loop-k.invariant ∙ filled_all _ _ _ _ _ (omega (arith, length-take-le _ _ c.requires.0))
