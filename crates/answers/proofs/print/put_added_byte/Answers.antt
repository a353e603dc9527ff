-- `put_added_byte` meets its contract, case by case.
use Rattle.std.proofs.Common.{◌≡◌, [], ℕ, refl, arith}
use Rattle.printing.proofs.TextLaws.{put_none}
use Rattle.sheet.specs.declared.run.Addition.{Addition}
use Rattle.sheet.specs.declared.run.Addition.TheVariants.{Nothing, Byte, FirstRecords}
use Rattle.sheet.specs.Sheet.{added_byte}
use Rattle.answers.proofs.print.put_added_byte.Goals as goal

no_byte : (x : Addition) → ((b : ℕ) → x ≡ Byte b → ⊥) → added_byte x ≡ []
unfolding added_byte
no_byte Nothing h = refl
no_byte (Byte b) h = absurd (h b refl)
no_byte (FirstRecords n) h = refl

pub returns-in-Byte-clause-value : goal.returns-in-Byte-clause-value
unfolding added_byte
returns-in-Byte-clause-value c = rw c.in-Byte.is c.put_byte.ensures.value

pub returns-in_default : goal.returns-in_default
returns-in_default c = record { value = rw (no_byte c.args.addition c.in_default.not-Byte) (put_none _ _); upper_bound = omega arith; lent = (refl, refl) }
