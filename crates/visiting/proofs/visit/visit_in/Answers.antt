-- `visit_in` meets its contract, row by row from that of the chain on.
use mathlib.Core.Path.{refl, sym}
use Prim.Native.Nat.{◌+◌}
use native.Mathlib.Omega.{arith}
use lib.ListN.{take, length-take}
use Rattle.calls.specs.Call.{Visit, accepted}
use Rattle.calls.specs.Meaning.{given_of}
use Rattle.calls.specs.Effect.{visit_given}
use Rattle.visiting.proofs.GivenLaws.{given_told}
use Rattle.calls.specs.Parts.{SoundCard}
use Rattle.calls.proofs.CardLaws.{card_first, card_ready}
use Rattle.calls.proofs.ChainLaws.{chain_through}
use Rattle.calls.proofs.ResultLaws.{is_passed, walk_long, walk_card, walk_places}
use Rattle.calls.proofs.RowLaws.{admission_0}
use Rattle.calls.proofs.ReadLaws.{visit_6, visit_reached, index_missing, index_there, entry_7, entry_8, entry_rest, target_is, visit_refused, visit_done}
use Rattle.visiting.proofs.visit.visit_in.Given as given
use Rattle.visiting.proofs.visit.visit_in.Goals as goal
use Rattle.visiting.proofs.visit.visit_in.Goals.{In_ok-count}

-- the card past the walk
sound : (g : given.Over) (c : In_ok-count g) → SoundCard c.args.card.now c.in_ok-count.count (take (c.in_ok-count.count + 1) c.walk_chain.new.starts)
sound g c = walk_card _ _ c.walk_chain.ensures.value _ c.in_ok-count.was _ c.in_ok-count.ensures.starts_after c.requires.area

pub returns-in_err-count-clause-value : goal.returns-in_err-count-clause-value
returns-in_err-count-clause-value g c =
    rw (is_passed _ _ c.from_residual.ensures.1)
    (visit_refused _ _ _ _ _ _ (visit_6 _ _ _ _ accepted (admission_0 _ _ (sym c.requires.area) refl) refl _ (sym c.requires.called) refl _ c.in_err-count.ensures.value refl) refl)

pub invariant_of-chain : goal.invariant_of-chain
invariant_of-chain g c = record { sound = walk_places _ _ c.walk_chain.ensures.value _ c.in_ok-count.was _ c.in_ok-count.ensures.starts_after c.requires.area }

pub slice_bounds-target_index-end : goal.slice_bounds-target_index-end
slice_bounds-target_index-end g c =
    let long = walk_long _ _ c.walk_chain.ensures.value _ c.in_ok-count.was _ c.in_ok-count.ensures.starts_after in
    omega (arith, long, length-take c.in_ok-count.count (take (c.in_ok-count.count + 1) c.walk_chain.new.starts))

pub target_index-requires : goal.target_index-requires
target_index-requires g c =
    let s = sound g (goal.at.target_index-requires g c).In_ok-count in
    let ready = card_ready _ _ _ s in
    (omega (arith, ready.0, ready.1, length-take c.in_ok-count.count (take (c.in_ok-count.count + 1) c.walk_chain.new.starts)), card_first _ _ _ s _ (omega arith))

pub returns-in_err-k-clause-value : goal.returns-in_err-k-clause-value
returns-in_err-k-clause-value g c =
    let s = sound g (goal.at.returns-in_err-k-clause-value g c).In_ok-count in
    let none = index_missing _ _ _ s _ _ _ c.target_index.ensures.value c.target_index.ensures.upper_bound _ c.ok_or.ensures.value _ c.in_err-k.was in
    rw (is_passed _ _ c.from_residual-in_err-k.ensures.1, none.1) (visit_refused _ _ _ _ _ _ (entry_7 _ _ _ _ _ _ (visit_reached _ _ _ _ c.requires.called _ _ s) _ none.0 refl) refl)

pub returns-then-d-l-clause-value : goal.returns-then-d-l-clause-value
returns-then-d-l-clause-value g c =
    let s = sound g (goal.at.returns-then-d-l-clause-value g c).In_ok-count in
    let k = index_there _ _ _ s _ _ _ c.target_index.ensures.value c.target_index.ensures.upper_bound _ c.ok_or.ensures.value _ c.in_ok-k.was in
    visit_refused _ _ _ _ _ _ (entry_8 _ _ _ _ _ _ (visit_reached _ _ _ _ c.requires.called _ _ s) _ k.0 (λ e. omega (arith, e, k.1)) _ c.descriptor-d.ensures c.if-d-l.true) refl

pub name_owner-requires : goal.name_owner-requires
name_owner-requires g c =
    let s = sound g (goal.at.name_owner-requires g c).In_ok-count in
    let k = index_there _ _ _ s _ _ _ c.target_index.ensures.value c.target_index.ensures.upper_bound _ c.ok_or.ensures.value _ c.in_ok-k.was in
    let long = walk_long _ _ c.walk_chain.ensures.value _ c.in_ok-count.was _ c.in_ok-count.ensures.starts_after in
    (chain_through _ _ (walk_places _ _ c.walk_chain.ensures.value _ c.in_ok-count.was _ c.in_ok-count.ensures.starts_after c.requires.area) _ (omega (arith, k.1, long)) _ c.descriptor-d.ensures, c.if-d-l.false)

pub returns-clause-value : goal.returns-clause-value
returns-clause-value g c =
    let s = sound g (goal.at.returns-clause-value g c).In_ok-count in
    let past = visit_reached _ _ _ _ c.requires.called _ _ s in
    let k = index_there _ _ _ s _ _ _ c.target_index.ensures.value c.target_index.ensures.upper_bound _ c.ok_or.ensures.value _ c.in_ok-k.was in
    visit_done _ _ _ _ _ (target_is _ _ _ _ _ _ past _ k.0 (λ e. omega (arith, e, k.1)) _ c.descriptor-d.ensures c.if-d-l.false)
    (entry_rest _ _ _ _ _ _ past _ k.0 (λ e. omega (arith, e, k.1)) _ c.descriptor-d.ensures c.if-d-l.false) _ c.name_owner.ensures.value

pub returns-clause-given : goal.returns-clause-given
unfolding given_of visit_given
returns-clause-given g c =
    let s = sound g (goal.at.returns-clause-given g c).In_ok-count in
    let past = visit_reached _ _ _ _ c.requires.called _ _ s in
    let k = index_there _ _ _ s _ _ _ c.target_index.ensures.value c.target_index.ensures.upper_bound _ c.ok_or.ensures.value _ c.in_ok-k.was in
    let is = target_is _ _ _ _ _ _ past _ k.0 (λ e. omega (arith, e, k.1)) _ c.descriptor-d.ensures c.if-d-l.false in
    given_told (Visit _ _ _) _ _ (returns-clause-value g c) _ (rw is) c.name_owner.ensures.given
