-- A sheet between two lines.
use Rattle.std.specs.Prelude.{List, ℕ}
use Rattle.calls.specs.declared.answer.Record.{Record}

-- its blocks, how many of them are the card, and its records
pub record State : Type 0 where
  pub area : List ℕ
  pub blocks : ℕ
  pub records : List Record
