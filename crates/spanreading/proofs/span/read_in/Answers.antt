-- `read_in` meets its contract, row by row from that of the chain on.
use mathlib.Core.Path.{refl, sym}
use Prim.Native.Nat.{◌+◌}
use native.Mathlib.Omega.{arith}
use lib.ListN.{take, length-take}
use Rattle.calls.specs.Call.{accepted}
use Rattle.calls.specs.Parts.{SoundCard}
use Rattle.calls.specs.Meaning.{lent_of}
use Rattle.calls.proofs.CardLaws.{card_first, card_ready}
use Rattle.calls.proofs.ResultLaws.{passed_on, refused_on, walk_card, walk_places}
use Rattle.calls.proofs.RowLaws.{admission_0}
use Rattle.calls.proofs.ReadLaws.{index_missing, index_there}
use Rattle.spanreading.proofs.ReadSpanLaws.{span_6, span_7, span_16, span_done}
use Rattle.spanreading.proofs.span.read_in.Given as given
use Rattle.spanreading.proofs.span.read_in.Goals as goal
use Rattle.spanreading.proofs.span.read_in.Goals.{In_ok-count}

-- the card past the walk
sound : (g : given.Over) (c : In_ok-count g) → SoundCard c.args.card.now c.in_ok-count.count (take (c.in_ok-count.count + 1) c.walk_chain.new.starts)
sound g c = walk_card _ _ c.walk_chain.ensures.value _ c.in_ok-count.was _ c.in_ok-count.ensures.starts_after c.requires.area

pub returns-in_err-count : goal.returns-in_err-count
unfolding lent_of
returns-in_err-count g c =
    refused_on _ _ _ _ c.from_residual.ensures.1
    (span_6 _ _ _ _ _ accepted (admission_0 _ _ (sym c.requires.area) refl) refl _ (sym c.requires.called) refl _ c.in_err-count.ensures.value refl)

pub invariant_of-chain : goal.invariant_of-chain
invariant_of-chain g c = record { sound = walk_places _ _ c.walk_chain.ensures.value _ c.in_ok-count.was _ c.in_ok-count.ensures.starts_after c.requires.area }

pub target_index-requires : goal.target_index-requires
target_index-requires g c =
    let s = sound g (goal.at.target_index-requires g c).In_ok-count in
    let ready = card_ready _ _ _ s in
    (omega (arith, ready.0, ready.1, length-take c.in_ok-count.count (take (c.in_ok-count.count + 1) c.walk_chain.new.starts)), card_first _ _ _ s _ (omega arith))

pub returns-in_err-k : goal.returns-in_err-k
returns-in_err-k g c =
    let s = sound g (goal.at.returns-in_err-k g c).In_ok-count in
    let none = index_missing _ _ _ s _ _ _ c.target_index.ensures.value c.target_index.ensures.upper_bound _ c.ok_or.ensures.value _ c.in_err-k.was in
    rw (passed_on _ _ c.from_residual-in_err-k.ensures.1, none.1) (span_7 _ _ _ _ _ c.requires.called _ _ s _ none.0 refl)

pub returns-then-is_past : goal.returns-then-is_past
returns-then-is_past g c =
    let s = sound g (goal.at.returns-then-is_past g c).In_ok-count in
    let k = index_there _ _ _ s _ _ _ c.target_index.ensures.value c.target_index.ensures.upper_bound _ c.ok_or.ensures.value _ c.in_ok-k.was in
    span_16 _ _ _ _ _ c.requires.called _ _ s _ k.0 k.2 _ c.descriptor-d.ensures _ c.is_past.ensures c.if-is_past.true

pub returns : goal.returns
returns g c =
    let s = sound g (goal.at.returns g c).In_ok-count in
    let k = index_there _ _ _ s _ _ _ c.target_index.ensures.value c.target_index.ensures.upper_bound _ c.ok_or.ensures.value _ c.in_ok-k.was in
    span_done _ _ _ _ _ c.requires.called _ _ s _ k.0 k.2 _ c.descriptor-d.ensures _ c.is_past.ensures c.if-is_past.false _ _ c.fetch.ensures
