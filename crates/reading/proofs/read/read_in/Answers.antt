-- `read_in` meets its contract, row by row from that of the chain on.
use mathlib.Core.Path.{refl, sym, ◌∙◌}
use Prim.Native.Nat.{◌+◌}
use native.Mathlib.Omega.{arith}
use lib.ListN.{take, length-take}
use Rattle.entries.proofs.EntryLaws.{found_inside}
use Rattle.entries.proofs.OwnerLaws.{located_found}
use Rattle.calls.specs.Call.{accepted}
use Rattle.calls.specs.Parts.{SoundCard}
use Rattle.calls.specs.Meaning.{lent_of}
use Rattle.calls.proofs.StepLaws.{step_refused}
use Rattle.calls.proofs.CardLaws.{card_first, card_through, card_ready}
use Rattle.calls.proofs.ResultLaws.{passed_on, refused_on, walk_card, walk_places}
use Rattle.calls.proofs.RowLaws.{admission_0}
use Rattle.calls.proofs.ReadLaws.{read_6, read_reached, index_missing, index_there, entry_7, entry_8, read_through, deliver_misplaced, deliver_entry}
use Rattle.reading.proofs.read.read_in.Given as given
use Rattle.reading.proofs.read.read_in.Goals as goal
use Rattle.reading.proofs.read.read_in.Goals.{In_ok-count}

-- the card past the walk
sound : (g : given.Over) (c : In_ok-count g) → SoundCard c.args.card.now c.in_ok-count.count (take (c.in_ok-count.count + 1) c.walk_chain.new.starts)
sound g c = walk_card _ _ c.walk_chain.ensures.value _ c.in_ok-count.was _ c.in_ok-count.ensures.starts_after c.requires.area

pub returns-in_err-count : goal.returns-in_err-count
unfolding lent_of
returns-in_err-count g c =
    refused_on _ _ _ _ c.from_residual.ensures.1
    (read_6 _ _ _ _ _ accepted (admission_0 _ _ (sym c.requires.area) refl) refl _ (sym c.requires.called) refl c.requires.whole _ c.in_err-count.ensures.value refl)

pub invariant_of-chain : goal.invariant_of-chain
invariant_of-chain g c = record { sound = walk_places _ _ c.walk_chain.ensures.value _ c.in_ok-count.was _ c.in_ok-count.ensures.starts_after c.requires.area }

pub target_index-requires : goal.target_index-requires
target_index-requires g c =
    let s = sound g (goal.at.target_index-requires g c).In_ok-count in
    let ready = card_ready _ _ _ s in
    (omega (arith, ready.0, ready.1, length-take c.in_ok-count.count (take (c.in_ok-count.count + 1) c.walk_chain.new.starts)), card_first _ _ _ s _ (omega arith))

pub returns-in_err-k : goal.returns-in_err-k
unfolding lent_of
returns-in_err-k g c =
    let s = sound g (goal.at.returns-in_err-k g c).In_ok-count in
    let past = read_reached _ _ _ _ _ c.requires.called c.requires.whole _ _ s in
    let none = index_missing _ _ _ s _ _ _ c.target_index.ensures.value c.target_index.ensures.upper_bound _ c.ok_or.ensures.value _ c.in_err-k.was in
    refused_on _ _ _ _ c.from_residual-in_err-k.ensures.1 (entry_7 _ _ _ _ _ _ past _ none.0 refl ∙ sym none.1)

pub returns-then-d-l : goal.returns-then-d-l
unfolding lent_of
returns-then-d-l g c =
    let s = sound g (goal.at.returns-then-d-l g c).In_ok-count in
    let past = read_reached _ _ _ _ _ c.requires.called c.requires.whole _ _ s in
    let k = index_there _ _ _ s _ _ _ c.target_index.ensures.value c.target_index.ensures.upper_bound _ c.ok_or.ensures.value _ c.in_ok-k.was in
    step_refused _ _ _ _ (entry_8 _ _ _ _ _ _ past _ k.0 k.2 _ c.descriptor-d.ensures c.if-d-l.true) refl

pub returns-in_err-slot : goal.returns-in_err-slot
returns-in_err-slot g c =
    let s = sound g (goal.at.returns-in_err-slot g c).In_ok-count in
    let k = index_there _ _ _ s _ _ _ c.target_index.ensures.value c.target_index.ensures.upper_bound _ c.ok_or.ensures.value _ c.in_ok-k.was in
    rw (passed_on _ _ c.from_residual-in_err-slot.ensures.1)
    (read_through _ _ _ _ _ c.requires.called c.requires.whole _ _ s _ k.0 k.2 _ c.descriptor-d.ensures c.if-d-l.false _ _
    (deliver_misplaced _ _ _ _ (sym (located_found _ _ _ _ _ c.in_err-slot.ensures))))

pub fill_block-requires : goal.fill_block-requires
fill_block-requires g c =
    let s = sound g (goal.at.fill_block-requires g c).In_ok-count in
    let k = index_there _ _ _ s _ _ _ c.target_index.ensures.value c.target_index.ensures.upper_bound _ c.ok_or.ensures.value _ c.in_ok-k.was in
    let through = card_through _ _ (sym s.regions) s.area refl _ k.1 _ c.descriptor-d.ensures in
    (c.requires.whole, found_inside _ _ _ _ through _ _ (located_found _ _ _ _ _ c.in_ok-slot.ensures) _ _ refl)

pub returns : goal.returns
returns g c =
    let s = sound g (goal.at.returns g c).In_ok-count in
    let k = index_there _ _ _ s _ _ _ c.target_index.ensures.value c.target_index.ensures.upper_bound _ c.ok_or.ensures.value _ c.in_ok-k.was in
    read_through _ _ _ _ _ c.requires.called c.requires.whole _ _ s _ k.0 k.2 _ c.descriptor-d.ensures c.if-d-l.false _ _
    (deliver_entry _ _ _ _ _ (sym (located_found _ _ _ _ _ c.in_ok-slot.ensures)) _ c.fill_block.ensures)
