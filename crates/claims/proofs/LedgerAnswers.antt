-- On a card that passes, number, place and 'no room' are those of its ledger.
use mathlib.Core.Path.{◌≡◌, refl, sym, ap, ◌∙◌}
use mathlib.Core.Logic.{◌⊎◌, inl, inr, ◌↔◌}
use mathlib.Core.Bool.{Bool, true, false, ◌&&◌}
use mathlib.Core.List.{List}
use Prim.Native.Nat.{ℕ, ◌+◌, ◌<◌}
use lib.Dec.{eqb, ltb}
use borrow.Author.Tests.{eq-eqb, eqb-true, ltb-true, lt-ltb}
use Rattle.blocks.specs.Pick.{pick}
use Rattle.blocks.specs.Bytes.{block_count}
use Rattle.blocks.proofs.BoolLaws.{no}
use Rattle.calls.specs.declared.answer.Answer.{Answer}
use Rattle.calls.specs.Call.{Call, answer}
use Rattle.calls.specs.Check.{Passes}
use Rattle.calls.specs.Ladder.{first_row}
use Rattle.calls.specs.Meaning.{answer_of}
use Rattle.claims.specs.History.{beta_of, is_ream}
use Rattle.claims.specs.Ledger.{ledger_rows, ledger_number, ledger_of}
use Rattle.claims.specs.Claims.{blocks_needed}
use Rattle.claims.proofs.Owed.{owed}
use Rattle.calls.proofs.RowLaws.{placeless_first}

-- number, place and room, from the answer
number_by : (t n : Bool) (a l : Answer) → eqb l.number 0 ≡ t → a ≡ pick (t && n) (answer 11 0) l → (a.number ≡ l.number) ⊎ ((l.number ≡ 0) × (a.number ≡ 11))
number_by true true a l e h = inr (eqb-true l.number 0 e, ap (λ (x : Answer). x.number) h)
number_by true false a l e h = inl (ap (λ (x : Answer). x.number) h)
number_by false n a l e h = inl (ap (λ (x : Answer). x.number) h)

room_by : (x y : ℕ) (t n : Bool) (a l : Answer) → eqb l.number 0 ≡ t → ltb x y ≡ n → a ≡ pick (t && n) (answer 11 0) l → (l.number ≡ 11 → ⊥) → (a.number ≡ 11) ↔ ((l.number ≡ 0) × (x < y))
room_by x y true true a l e r h z = (λ q. (eqb-true l.number 0 e, ltb-true x y r), λ q. ap (λ (b : Answer). b.number) h)
room_by x y true false a l e r h z = (λ q. absurd (z (sym (ap (λ (b : Answer). b.number) h) ∙ q)), λ q. no (sym r ∙ lt-ltb x y q.1))
room_by x y false n a l e r h z = (λ q. absurd (z (sym (ap (λ (b : Answer). b.number) h) ∙ q)), λ q. no (sym e ∙ eq-eqb l.number 0 q.0))

pub ledger_number_lem : (k : Call) (c : List ℕ) → Passes c → is_ream k ≡ false
    → ((answer_of k c).number ≡ ledger_number k (ledger_of c)) ⊎ ((ledger_number k (ledger_of c) ≡ 0) × ((answer_of k c).number ≡ 11))
unfolding ledger_number
ledger_number_lem k c p q =
    number_by (eqb (first_row (ledger_rows k (ledger_of c))).number 0) (ltb (block_count c) (beta_of c + blocks_needed k c)) (answer_of k c) (first_row (ledger_rows k (ledger_of c))) refl ((owed k).ledger c p q)

pub ledger_place : (k : Call) (c : List ℕ) → Passes c → (answer_of k c).place ≡ 0
ledger_place k c p = (owed k).place c p

pub ledger_no_room : (k : Call) (c : List ℕ) → Passes c → is_ream k ≡ false
    → ((answer_of k c).number ≡ 11) ↔ ((ledger_number k (ledger_of c) ≡ 0) × (block_count c < beta_of c + blocks_needed k c))
unfolding ledger_number
ledger_no_room k c p q =
    room_by (block_count c) (beta_of c + blocks_needed k c) (eqb (first_row (ledger_rows k (ledger_of c))).number 0) (ltb (block_count c) (beta_of c + blocks_needed k c)) (answer_of k c) (first_row (ledger_rows k (ledger_of c)))
    refl refl ((owed k).ledger c p q) (placeless_first (ledger_rows k (ledger_of c)) ((owed k).plain (ledger_of c))).1
