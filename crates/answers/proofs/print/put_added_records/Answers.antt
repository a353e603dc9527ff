-- `put_added_records` meets its contract, case by case.
use Rattle.std.proofs.Common.{◌≡◌, List, [], ℕ, ◌≤◌, length, sym, refl, subst, arith}
use lib.Seq.{length-take-le}
use Rattle.calls.specs.declared.answer.Record.{Record}
use Rattle.printing.proofs.TextLaws.{put_none}
use Rattle.sheet.specs.declared.run.Addition.{Addition}
use Rattle.sheet.specs.declared.run.Addition.TheVariants.{Nothing, Byte, FirstRecords}
use Rattle.sheet.specs.Sheet.{count_of, added_records}
use Rattle.answers.proofs.print.put_added_records.Goals as goal
use Rattle.answers.proofs.print.put_added_records.Goals.{In-FirstRecords}

no_records : (x : Addition) (records : List Record) → ((n : ℕ) → x ≡ FirstRecords n → ⊥) → added_records x records ≡ []
unfolding added_records
no_records Nothing records h = refl
no_records (Byte b) records h = refl
no_records (FirstRecords n) records h = absurd (h n refl)

within : (c : In-FirstRecords) → c.in-FirstRecords.n ≤ length c.args.records.now
unfolding count_of
within c = subst (λ (x : Addition). count_of x ≤ length c.args.records.now) c.in-FirstRecords.is c.requires.1

pub slice_bounds-put_records-end : goal.slice_bounds-put_records-end
slice_bounds-put_records-end c = sym (length-take-le _ _ (within (goal.at.slice_bounds-put_records-end c).In-FirstRecords))

pub returns-in-FirstRecords-clause-value : goal.returns-in-FirstRecords-clause-value
unfolding added_records
returns-in-FirstRecords-clause-value c = rw c.in-FirstRecords.is c.put_records.ensures.value

pub returns-in_default : goal.returns-in_default
returns-in_default c = record { value = rw (no_records c.args.addition c.args.records.now c.in_default.not-FirstRecords) (put_none _ _); upper_bound = omega arith; lent = (refl, refl) }
