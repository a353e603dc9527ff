-- The refusal table: each row is given exactly where its condition holds and no earlier one does. When a ream is accepted.
use mathlib.Core.Path.{◌≡◌, refl, sym, ap, ◌∙◌}
use mathlib.Core.Bool.{Bool, true, false, not, ◌&&◌, ◌||◌}
use mathlib.Core.List.{List}
use Prim.Native.Nat.{ℕ}
use native.Mathlib.Omega.{arith}
use lib.Dec.{eqb, ltb, leb}
use borrow.Author.Tests.{lt-ltb, le-ltb, le-leb, lt-leb, eqb-true, eqb-false, ltb-true, ltb-false}
use Rattle.blocks.specs.Pick.{pick}
use Rattle.blocks.specs.Bytes.{block_count}
use Rattle.blocks.specs.Name.{is_name}
use Rattle.blocks.specs.Descriptor.{cost_in, revision_ok}
use Rattle.calls.specs.Parts.{area_bad}
use Rattle.calls.specs.declared.answer.Answer.{Answer}
use Rattle.calls.specs.Call.{Ream, answer, accepted}
use Rattle.calls.specs.Ladder.{first_row, ream_rows, admission}
use Rattle.calls.specs.Meaning.{rows_of, answer_of, stores_of}
use Rattle.calls.specs.Step.{step, is_accepted}
use Rattle.claims.specs.History.{formattable, formatted}
use Rattle.claims.specs.Claims.{ReamClaim, TableClaim}
use Rattle.calls.proofs.RowLaws.{rows_numbered, given, gives, none, all_passed}
use Rattle.blocks.specs.declared.descriptor.Format.{Format}

pub table_claim : TableClaim
unfolding TableClaim answer_of
table_claim k c =
    let rs = rows_of k c in
    let is = rows_numbered k c in (
      λ i l. (given rs is i l, gives rs i l),
      (λ e. none rs is (ap (λ (a : Answer). a.number) e), all_passed rs),
    )

-- a ream is accepted exactly where the area can be formatted so
ream_by : (a l z v r n k : Bool) → is_accepted (pick a (answer 1 0) (pick (not l) (answer 2 0) (pick (z || v) (answer 3 0) (pick (not r) (answer 17 0) (pick (not n) (answer 4 0) (pick k (answer 5 0) accepted)))))) ≡ (not a && l && not z && not v && r && n && not k)
ream_by true l z v r n k = refl
ream_by false false z v r n k = refl
ream_by false true true v r n k = refl
ream_by false true false true r n k = refl
ream_by false true false false false n k = refl
ream_by false true false false true false k = refl
ream_by false true false false true true true = refl
ream_by false true false false true true false = refl

-- orders and their denials
positive : (v : ℕ) (t : Bool) → eqb v 0 ≡ t → not t ≡ ltb 0 v
positive v true e = sym (le-ltb 0 v (omega (arith, eqb-true v 0 e)))
positive v false e = sym (lt-ltb 0 v (omega (arith, eqb-false v 0 e)))

at_most : (v m : ℕ) (t : Bool) → ltb m v ≡ t → not t ≡ leb v m
at_most v m true e = sym (lt-leb v m (ltb-true m v e))
at_most v m false e = sym (le-leb v m (ltb-false m v e))

ream_accepted : (area : List ℕ) (format : Format) → is_accepted (answer_of (Ream format) area) ≡ formattable area format
unfolding answer_of rows_of admission ream_rows first_row formattable
ream_accepted area format =
    ream_by (area_bad area) (eqb format.layout 1 || eqb format.layout 2) (eqb format.volume 0) (ltb 14336 format.volume) (revision_ok format.revision) (is_name format.name) (ltb (block_count area) (cost_in format))
    ∙ rw (positive format.volume (eqb format.volume 0) refl, at_most format.volume 14336 (ltb 14336 format.volume) refl, at_most (cost_in format) (block_count area) (ltb (block_count area) (cost_in format)) refl)

ream_formats : (area : List ℕ) (format : Format) → is_accepted (answer_of (Ream format) area) ≡ true → (step (Ream format) area).card ≡ formatted area format
unfolding step stores_of formatted
ream_formats area format e = rw e

pub ream_claim : ReamClaim
unfolding ReamClaim
ream_claim area format = (ream_accepted area format, λ e. ream_formats area format (ream_accepted area format ∙ e))
