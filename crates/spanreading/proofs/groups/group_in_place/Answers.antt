-- `group_in_place` meets its contract, by what the first entry tells.
use mathlib.Core.Path.{refl, sym, ◌∙◌}
use native.Mathlib.Omega.{arith}
use Rattle.std.proofs.lemmas.Result.{err_from_is_err_and}
use Rattle.entries.proofs.EntryLaws.{found_table, through_end}
use Rattle.entries.proofs.OwnerLaws.{located_found}
use Rattle.spanreading.proofs.GroupLaws.{first_fault_lem, rest_nil, rest_set}
use Rattle.spanreading.proofs.groups.group_in_place.Goals as goal

pub returns-in_err-slot : goal.returns-in_err-slot
returns-in_err-slot c =
    let p = err_from_is_err_and c.from_residual.result c.from_residual.ensures.1 in
    rw (p.1, p.2) (first_fault_lem _ _ _ _ c.requires.1 _ (located_found _ _ _ _ _ c.in_err-slot.ensures) _ refl)

pub returns-then-is_nil : goal.returns-then-is_nil
returns-then-is_nil c = rest_nil _ _ _ _ _ (sym (located_found _ _ _ _ _ c.in_ok-slot.ensures)) (sym c.if-is_nil.ensures) _ c.requires.1 c.requires.2

pub entries_in_place-requires : goal.entries_in_place-requires
entries_in_place-requires c =
    let on_card = found_table _ _ _ _ c.requires.0 _ (omega arith) _ (located_found _ _ _ _ _ c.in_ok-slot.ensures) _ _ refl in
    (c.requires.0, omega (arith, on_card, through_end _ _ _ _ c.requires.0), omega arith)

pub returns : goal.returns
returns c = c.entries_in_place.ensures ∙ sym (rest_set _ _ _ _ _ (sym (located_found _ _ _ _ _ c.in_ok-slot.ensures)) (sym c.if-is_nil.ensures) _ c.requires.1 c.requires.2)
