-- Document 01's worked example: what the definitions compute of its ten lines is what 01 prints, to the letter.
use mathlib.Core.Path.{◌≡◌, refl}
use Rattle.sheet.specs.Sheet.{sheet_text}
use Rattle.sheet.specs.ExampleSheet.{example_in, example_out}
use Rattle.sheet.proofs.RunningSheet.{running_sheet}

pub example_sheet : sheet_text example_in ≡ example_out
unfolding running_sheet
example_sheet = refl
