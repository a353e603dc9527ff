-- Laws of what a line prints, as the code asks them.
use mathlib.Core.Path.{◌≡◌, ◌∙◌}
use mathlib.Core.List.{List, ◌++◌}
use Prim.Native.Nat.{ℕ, ◌≤◌}
use native.Mathlib.Nat.{zero-add}
use lib.ListN.{length}
use Rattle.blocks.specs.Bytes.{splice}
use Rattle.calls.specs.declared.answer.Answer.{Answer}
use Rattle.calls.specs.declared.answer.Record.{Record}
use Rattle.printing.specs.Text.{line_feed, answer_text}
use Rattle.printing.proofs.TextLaws.{Put, put_then}
use Rattle.sheet.specs.declared.run.Addition.{Addition}
use Rattle.sheet.specs.Sheet.{added_byte, added_records, line_text}

-- the four parts, one after the other
pub line_put : (a : Answer) (x : Addition) (records : List Record) (o o₁ o₂ o₃ o₄ : List ℕ) (b₁ b₂ b₃ b₄ : ℕ) → Put o 0 (answer_text a) b₁ o₁ → Put o₁ b₁ (added_byte x) b₂ o₂ → Put o₂ b₂ line_feed b₃ o₃
    → Put o₃ b₃ (added_records x records) b₄ o₄ → b₂ ≤ length o → b₃ ≤ length o → b₄ ≤ length o → (b₄ ≡ length (line_text a x records)) × (o₄ ≡ splice o 0 (line_text a x records))
unfolding line_text
line_put a x records o o₁ o₂ o₃ o₄ b₁ b₂ b₃ b₄ p₁ p₂ p₃ p₄ h₂ h₃ h₄ =
    let s = answer_text a in
    let t = added_byte x in
    let w = put_then o o₃ o₄ 0 b₃ b₄ (s ++ t ++ line_feed) (added_records x records) (put_then o o₂ o₃ 0 b₂ b₃ (s ++ t) line_feed (put_then o o₁ o₂ 0 b₁ b₂ s t p₁ p₂ h₂) p₃ h₃) p₄ h₄ in
    (w.0 ∙ zero-add _, w.1)
