-- `run_list` meets its contract: the sheet with the records that the listing filled.
use Rattle.std.proofs.Common.{◌≡◌, ℕ, length, refl, ap, ◌∙◌, rules}
use lib.ListN.{take}
use Rattle.calls.specs.Call.{Records}
use Rattle.calls.proofs.ListingLaws.{list_count}
use Rattle.cutter.specs.declared.line.SheetCall.TheVariants.{List}
use Rattle.sheet.specs.declared.run.Addition.TheVariants.{FirstRecords}
use Rattle.sheet.specs.Sheet.{call_of, blocks_of, records_after, addition_of, count_of}
use Rattle.sheet.proofs.SheetLaws.{kept_accepted, kept_refused, count_refused, count_listed}
use Rattle.running.proofs.call.run_list.Goals as goal

pub returns-in_err-list-clause-value : goal.returns-in_err-list-clause-value
unfolding call_of blocks_of records_after
returns-in_err-list-clause-value c =
    kept_refused _ _ c.sheet.view_is List refl (Records c.list.new.records) _ (ap (λ (e : ℕ). take e c.sheet.inside.area) c.card_size-end.ensures.value) _ c.in_err-list.ensures _ c.from_residual.ensures.1

pub returns-in_err-list-clause-upper_bound : goal.returns-in_err-list-clause-upper_bound
returns-in_err-list-clause-upper_bound c = count_refused _ _ c.from_residual.ensures.1

pub returns-clause-value : goal.returns-clause-value
unfolding call_of blocks_of records_after addition_of
returns-clause-value c =
    kept_accepted _ _ c.sheet.view_is List refl (Records c.list.new.records) _ (ap (λ (e : ℕ). take e c.sheet.inside.area) c.card_size-end.ensures.value) c.in_ok-list.ensures _
    (ap FirstRecords (c.count_records.ensures ∙ list_count _ _ _ _ c.in_ok-list.ensures refl))

pub returns-clause-upper_bound : goal.returns-clause-upper_bound
unfolding count_of
returns-clause-upper_bound c =
    let long : length c.sheet.inside.records ≡ 64 = search rules in
    rw c.count_records.ensures (count_listed _ _ _ c.in_ok-list.ensures long)
