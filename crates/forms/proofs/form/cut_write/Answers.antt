-- `cut_write` meets its contract, by its tests.
use Rattle.std.proofs.Common.{◌≡◌, ℕ, ◌<◌, ◌≤◌, Option, None, Some, Result, Ok, Err, sym, ◌∙◌, arith}
use Rattle.std.specs.Result.{OkIff, result_ok}
use borrow.Author.Tests.{lt-leb, le-leb}
use Rattle.cutter.specs.Words.{key_block, key_fill}
use Rattle.cutter.specs.Grammar.{line_of_write}
use Rattle.cutter.proofs.NumberLaws.{after_none, after_some}
use Rattle.forms.proofs.form.cut_write.Goals as goal

-- what `u8::try_from` and `ok` give of a number n
module _ {E : Type 0} (n : ℕ) where
  large : (r : Result ℕ E) (o : Option ℕ) → OkIff r (n < 256) n → o ≡ result_ok r → o ≡ None → 255 < n
  large (Ok x) o h e f = let z : ◌≡◌ {A = Option ℕ} None (Some x) = sym f ∙ e in absurd cc
  large (Err d) o h e f = omega (arith, h)

  byte : (r : Result ℕ E) (o : Option ℕ) (f : ℕ) → OkIff r (n < 256) n → o ≡ result_ok r → o ≡ Some f → (n ≤ 255) × (n ≡ f)
  byte (Ok x) o f h e g = let z : ◌≡◌ {A = Option ℕ} (Some f) (Some x) = sym g ∙ e in let y : f ≡ x = cc in (omega arith, sym (y ∙ h.1))
  byte (Err d) o f h e g = let z : ◌≡◌ {A = Option ℕ} None (Some f) = sym e ∙ g in absurd cc

pub returns-in_err-block : goal.returns-in_err-block
unfolding line_of_write
returns-in_err-block c = rw (c.from_residual.ensures, after_none key_block _ _ c.read_pair.ensures c.in_err-block.was)

pub returns-in_err-read_pair : goal.returns-in_err-read_pair
unfolding line_of_write
returns-in_err-read_pair c =
    rw (c.from_residual-in_err-read_pair.ensures, (after_some key_block _ _ c.read_pair.ensures _ c.in_ok-block.was).0, after_none key_fill _ _ c.read_pair-2.ensures c.in_err-read_pair.was)

pub returns-in_err-fill : goal.returns-in_err-fill
unfolding line_of_write
returns-in_err-fill c =
    let q = after_some key_fill _ _ c.read_pair-2.ensures _ c.in_ok-read_pair.was in
    rw (c.from_residual-in_err-fill.ensures, (after_some key_block _ _ c.read_pair.ensures _ c.in_ok-block.was).0, q.0, q.1, lt-leb _ 255 (large _ _ _ c.try_from.ensures c.ok.ensures.value c.in_err-fill.was))

pub returns : goal.returns
unfolding line_of_write
returns c =
    let p = after_some key_block _ _ c.read_pair.ensures _ c.in_ok-block.was in
    let q = after_some key_fill _ _ c.read_pair-2.ensures _ c.in_ok-read_pair.was in
    let h = byte _ _ _ _ c.try_from.ensures c.ok.ensures.value c.in_ok-fill.was in
    rw (p.0, p.1, q.0, q.1, le-leb _ 255 h.0, h.1)
