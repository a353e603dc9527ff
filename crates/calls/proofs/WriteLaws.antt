-- Laws of the write, as the code asks them.
use mathlib.Core.Path.{◌≡◌, ◌∙◌}
use mathlib.Core.List.{List}
use Prim.Native.Nat.{ℕ, ◌+◌, ◌/◌, ◌≤◌, ◌<◌}
use lib.ListN.{length}
use borrow.Author.Tests.{lt-ltb, le-ltb}
use Rattle.blocks.specs.Bytes.{block_count, store_all}
use Rattle.blocks.specs.declared.descriptor.Descriptor.{Descriptor}
use Rattle.entries.specs.Entry.{need, writing}
use Rattle.entries.specs.Found.{Found}
use Rattle.calls.specs.declared.answer.Answer.{Answer}
use Rattle.calls.specs.Call.{Call, Write, answer, accepted}
use Rattle.calls.specs.Ladder.{admission, first_row, write_rows}
use Rattle.calls.specs.Effect.{Written, written}
use Rattle.calls.specs.Meaning.{rows_of, answer_of}
use Rattle.calls.proofs.RowLaws.{admitted, block_given}

-- a write once its entry was found, by the test for room
module _ (c : List ℕ) (d : Descriptor) (found : Found) (l : ℕ) (block : List ℕ) (n : ℕ) (need_is : n ≡ need d.alpha.0 found) where
  pub put_11 : length c / 512 < d.beta.0 + n → ◌≡◌ {A = Written} (record { answer = answer 11 0; card = c }) (written c d found l block)
  unfolding written block_count
  put_11 h = rw (← need_is, lt-ltb (length c / 512) (d.beta.0 + n) h)

  pub put_0 : d.beta.0 + n ≤ length c / 512 → (c' : List ℕ) → c' ≡ store_all c (writing c d found l block) → ◌≡◌ {A = Written} (record { answer = accepted; card = c' }) (written c d found l block)
  unfolding written block_count
  put_0 room c' e = rw (← need_is, le-ltb (length c / 512) (d.beta.0 + n) room, e)

-- the row of a write that follows admission
module _ (c : List ℕ) (l : ℕ) (block : List ℕ) (a : Answer) (asked : a ≡ first_row (admission c)) (card : a.number ≡ 0) where
  abbrev call : Call
  call = Write l block

  pub write_9 : (length block ≡ 512 → ⊥) → answer_of call c ≡ answer 9 0
  unfolding answer_of rows_of write_rows
  write_9 h = admitted c a asked _ card ∙ block_given _ block h
