-- What a sheet starts with; short sheets: what the definitions compute is what the table says.
use mathlib.Core.Path.{◌≡◌, refl, ap}
use mathlib.Core.List.{List, map}
use Prim.Native.Nat.{ℕ}
use native.Mathlib.Omega.{arith}
use lib.ListN.{get_or}
use Rattle.sheet.specs.Sheet.{start, StartClaim}
use Rattle.sheet.specs.ShortSheets.{short_sheets, expected, computed, WrongSheet}
use Rattle.sheet.proofs.RunningSheet.{running_sheet}

pub short_sheets_lem : map computed short_sheets ≡ map expected short_sheets
unfolding running_sheet short_sheets expected computed
short_sheets_lem = refl

-- the eighth byte printed is `6`, and not `0`
pub wrong_sheet : WrongSheet
unfolding running_sheet WrongSheet expected computed
wrong_sheet q = let e : ◌≡◌ {A = ℕ} 54 48 = ap (λ (text : List ℕ). get_or text 7 0) q in omega arith

pub start_claim : StartClaim
unfolding StartClaim start
start_claim = (refl, refl, refl)
