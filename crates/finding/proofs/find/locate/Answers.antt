-- `locate` meets its contract, by its tests.
use native.Mathlib.Omega.{arith}
use mathlib.Core.Path.{◌≡◌}
use Rattle.std.proofs.lemmas.Result.{err_from_is_err_and}
use Rattle.entries.proofs.RegionLaws.{through_rising}
use Rattle.entries.proofs.EntryLaws.{table_ready, table_inside}
use Rattle.entries.proofs.OwnerLaws.{table_on_card, locate_layout_1, locate_misplaced, locate_nil, locate_layout_2}
use Rattle.finding.proofs.find.locate.Goals as goal

pub table_of-m-requires : goal.table_of-m-requires
table_of-m-requires c = table_ready _ _ _ _ c.requires.0 _ c.requires.1

pub locate_in-requires : goal.locate_in-requires
locate_in-requires c =
    (c.requires.0, table_inside _ _ _ _ c.requires.0 _ c.requires.1 c.if-d-eq1.true _ c.table_of-m.ensures, omega arith)

pub returns-then-d-eq1 : goal.returns-then-d-eq1
returns-then-d-eq1 c = search locate_layout_1

pub owner_at-requires : goal.owner_at-requires
owner_at-requires c = search through_rising

pub returns-in_err-ok_or : goal.returns-in_err-ok_or
returns-in_err-ok_or c = let p = err_from_is_err_and c.from_residual.result c.from_residual.ensures.1 in rw (p.1, p.2) (search (locate_misplaced, c.in_err-ok_or.was))

pub returns-then-is_nil : goal.returns-then-is_nil
returns-then-is_nil c = let nil : c.table_of-m.result.0 ≡ 0 = grind arith in search (locate_nil, c.in_ok-ok_or.was)

pub locate_in-requires-2 : goal.locate_in-requires-2
locate_in-requires-2 c = let set : c.table_of-m.result.0 ≡ 0 → ⊥ = grind arith in (c.requires.0, search (table_on_card, c.in_ok-ok_or.was), omega arith)

pub returns : goal.returns
returns c = let set : c.table_of-m.result.0 ≡ 0 → ⊥ = grind arith in search (locate_layout_2, c.in_ok-ok_or.was)
