-- Laws of texts put one after the other, and of the texts of answers and records.
use mathlib.Core.Path.{◌≡◌, refl, sym, ap, ◌∙◌}
use mathlib.Core.List.{List, [], ◌∷◌, ◌++◌, append_assoc, append-nil}
use Prim.Native.Nat.{ℕ, ◌+◌, ◌≤◌, ◌<◌, ◌/◌, ◌%◌, ◌^◌}
use native.Mathlib.Numerals.{add-one}
use native.Mathlib.Omega.{arith}
use native.Mathlib.Nat.{add-zero}
use lib.ListN.{length, take, get_or, length-append, take-append-drop}
use lib.Seq.{take-suc, take-length}
use Rattle.blocks.specs.Bytes.{splice}
use Rattle.blocks.proofs.ByteLaws.{put_next}
use Rattle.calls.specs.declared.answer.Answer.{Answer}
use Rattle.calls.specs.declared.answer.Record.{Record}
use Rattle.printing.specs.Text.{answer_key, place_key, name_key, alpha_key, beta_key, next_key, line_feed, decimal, name_text, answer_text, record_text, records_text}
use Rattle.printing.proofs.DecimalLaws.{decimal_one, decimal_more, decimal_length}

-- the area o with s put in from index at is o', and r is the index after it
abbrev pub Put : List ℕ → ℕ → List ℕ → ℕ → List ℕ → Type 0
Put o at s r o' = (r ≡ at + length s) × (o' ≡ splice o at s)

-- no text
pub put_none : (o : List ℕ) (at : ℕ) → Put o at [] at o
unfolding splice
put_none o at = rw (add-zero, append-nil) (refl, sym (take-append-drop at o))

-- a text put where the last one ended
pub put_then : (o o' o'' : List ℕ) (at b r : ℕ) (x y : List ℕ) → Put o at x b o' → Put o' b y r o'' → r ≤ length o → Put o at (x ++ y) r o''
put_then o o' o'' at b r x y p q h =
    let e : b ≡ at + length x = p.0 in
    let f : r ≡ b + length y = q.0 in
    (rw (length-append x y) (omega arith), put_next o at x b y p.1 q.1 (sym e) (omega arith))

-- the same where the second is made of two
pub put_two : (o o' o'' : List ℕ) (at b r : ℕ) (x y z : List ℕ) → Put o at x b o' → Put o' b (y ++ z) r o'' → r ≤ length o → Put o at (x ++ y ++ z) r o''
put_two o o' o'' at b r x y z p q h = rw (append_assoc x y z) (put_then o o' o'' at b r x (y ++ z) p q h)

-- a number, by the tests of the code
module _ (o : List ℕ) (at v : ℕ) where
  pub put_one : v < 10 → (r : ℕ) (o' : List ℕ) → Put o at ((48 + v) ∷ []) r o' → Put o at (decimal v) r o'
  put_one h r o' p = rw (decimal_one v h) p

  pub put_more : 10 ≤ v → v < 2 ^ 32 → (b r : ℕ) (o' o'' : List ℕ) → Put o at (decimal (v / 10)) b o' → Put o' b ((48 + v % 10) ∷ []) r o'' → r ≤ length o → Put o at (decimal v) r o''
  put_more h l b r o' o'' p q f = rw (decimal_more v h l) (put_then o o' o'' at b r (decimal (v / 10)) ((48 + v % 10) ∷ []) p q f)

-- the digits of a tenth leave room for one more
pub tenth_length : (v : ℕ) → 10 ≤ v → v < 2 ^ 32 → length (decimal (v / 10)) + 1 ≤ 10
tenth_length v h l = omega (arith, decimal_length v, ap length (decimal_more v h l), length-append (decimal (v / 10)) ((48 + v % 10) ∷ []))

-- an answer and a record
pub answer_put : (a : Answer) (o o₁ o₂ : List ℕ) (at b r : ℕ) → Put o at (answer_key ++ decimal a.number) b o₁ → Put o₁ b (place_key ++ decimal a.place) r o₂ → r ≤ length o
    → Put o at (answer_text a) r o₂
unfolding answer_text
answer_put a o o₁ o₂ at b r p q h = put_two o o₁ o₂ at b r (answer_key ++ decimal a.number) place_key (decimal a.place) p q h

pub record_put : (d : Record) (o o₁ o₂ o₃ o₄ o₅ o₆ : List ℕ) (at b₁ b₂ b₃ b₄ b₅ b₆ : ℕ) → Put o at name_key b₁ o₁ → Put o₁ b₁ (name_text d.name) b₂ o₂
    → Put o₂ b₂ (alpha_key ++ decimal d.alpha.0) b₃ o₃ → Put o₃ b₃ (beta_key ++ decimal d.beta.0) b₄ o₄ → Put o₄ b₄ (next_key ++ decimal d.next.0) b₅ o₅ → Put o₅ b₅ line_feed b₆ o₆
    → b₆ ≤ length o → Put o at (record_text d) b₆ o₆
unfolding record_text
record_put d o o₁ o₂ o₃ o₄ o₅ o₆ at b₁ b₂ b₃ b₄ b₅ b₆ p₁ p₂ p₃ p₄ p₅ p₆ h =
    let f₆ : b₆ ≡ b₅ + 1 = p₆.0 in
    let f₅ : b₅ ≡ b₄ + length (next_key ++ decimal d.next.0) = p₅.0 in
    let f₄ : b₄ ≡ b₃ + length (beta_key ++ decimal d.beta.0) = p₄.0 in
    let f₃ : b₃ ≡ b₂ + length (alpha_key ++ decimal d.alpha.0) = p₃.0 in
    let q₂ = put_then o o₁ o₂ at b₁ b₂ name_key (name_text d.name) p₁ p₂ (omega arith) in
    let q₃ = put_two o o₂ o₃ at b₂ b₃ (name_key ++ name_text d.name) alpha_key (decimal d.alpha.0) q₂ p₃ (omega arith) in
    let q₄ = put_two o o₃ o₄ at b₃ b₄ (name_key ++ name_text d.name ++ alpha_key ++ decimal d.alpha.0) beta_key (decimal d.beta.0) q₃ p₄ (omega arith) in
    let q₅ = put_two o o₄ o₅ at b₄ b₅ (name_key ++ name_text d.name ++ alpha_key ++ decimal d.alpha.0 ++ beta_key ++ decimal d.beta.0) next_key (decimal d.next.0) q₄ p₅ (omega arith) in
    put_then o o₅ o₆ at b₅ b₆ (name_key ++ name_text d.name ++ alpha_key ++ decimal d.alpha.0 ++ beta_key ++ decimal d.beta.0 ++ next_key ++ decimal d.next.0) line_feed q₅ p₆ h

-- the text of the first i records. Shut, so that `_` and `rw` find its arguments
unfoldable pub first_text : List Record → ℕ → List ℕ
first_text l i = records_text (take i l)

records_last : (l : List Record) (d : Record) → records_text (l ++ (d ∷ [])) ≡ records_text l ++ record_text d
unfolding records_text
records_last [] d = append-nil (record_text d)
records_last (x ∷ l) d = ap (λ (s : List ℕ). record_text x ++ s) (records_last l d) ∙ sym (append_assoc (record_text x) (records_text l) (record_text d))

module _ (l : List Record) where
  pub first_none : first_text l 0 ≡ []
  unfolding first_text records_text
  first_none = refl

  pub first_more : (i : ℕ) (d : Record) → i < length l → first_text l (i + 1) ≡ first_text l i ++ record_text (get_or l i d)
  unfolding first_text
  first_more i d h = rw (add-one, take-suc l i d h) (records_last (take i l) (get_or l i d))

  -- none, one more, and all
  pub records_none : (o : List ℕ) (at : ℕ) → Put o at (first_text l 0) at o
  records_none o at = rw first_none (put_none o at)

  pub records_more : (o o' o'' : List ℕ) (at b r i : ℕ) (d : Record) → i < length l → Put o at (first_text l i) b o' → Put o' b (record_text (get_or l i d)) r o'' → r ≤ length o
      → Put o at (first_text l (i + 1)) r o''
  records_more o o' o'' at b r i d h p q f = rw (first_more i d h) (put_then o o' o'' at b r (first_text l i) (record_text (get_or l i d)) p q f)

  pub records_all : (o o' : List ℕ) (at r i : ℕ) → i ≡ length l → Put o at (first_text l i) r o' → Put o at (records_text l) r o'
  unfolding first_text
  records_all o o' at r i e p = rw (e, take-length) at p
