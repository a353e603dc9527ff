-- The meaning of each call: its rows, its stores, what is lent to it, what it leaves there and what it gives. One clause for each call.
use Rattle.std.specs.Prelude.{List, [], ◌++◌, ℕ, length, drop}
use Rattle.blocks.specs.Bytes.{Store}
use Rattle.blocks.specs.Descriptor.{opening}
use Rattle.calls.specs.declared.answer.Answer.{Answer}
use Rattle.calls.specs.Call.{Call, Ream, Read, Write, Snap, Revert, Listing, Check, Visit, SpanRead, SpanWrite, Lent, None, Block, Records, Given, NoneGiven}
use Rattle.calls.specs.Parts.{descriptors_of, target_of, found_through, block_found}
use Rattle.calls.specs.Spans.{span_bytes, write_span_stores}
use Rattle.calls.specs.Ladder.{Row, first_row, admission, ream_rows, read_rows, write_rows, snap_rows, revert_rows, list_rows, check_rows, visit_rows, span_read_rows, span_write_rows}
use Rattle.calls.specs.Stores.{write_stores, snap_stores, revert_stores}
use Rattle.calls.specs.Effect.{listed, visit_given}

-- what is said of a call. All but `lent` are by the card at entry: the rows of its own, which follow those of admission; and of an accepted call
-- the stores, what was lent as it leaves it, and what it gives
pub record Meaning : Type 0 where
  pub rows : List ℕ → List Row
  pub stores : List ℕ → List Store
  pub lent : Lent
  pub filled : List ℕ → Lent
  pub given : List ℕ → Given

-- a call that stores nothing; a call that leaves what was lent as it was. Neither gives anything. A call that only gives something
abbrev pub looking : (List ℕ → List Row) → Lent → (List ℕ → Lent) → Meaning
looking rows lent filled = record { rows = rows; stores = λ c. []; lent = lent; filled = filled; given = λ c. NoneGiven }

abbrev pub changing : (List ℕ → List Row) → (List ℕ → List Store) → Lent → Meaning
changing rows stores lent = record { rows = rows; stores = stores; lent = lent; filled = λ c. lent; given = λ c. NoneGiven }

abbrev pub giving : (List ℕ → List Row) → (List ℕ → Given) → Meaning
giving rows given = record { rows = rows; stores = λ c. []; lent = None; filled = λ c. None; given = given }

unfoldable pub meaning_of : Call → Meaning
meaning_of (Ream format) = changing (λ c. ream_rows c format) (λ c. opening format) None
meaning_of (Read target name l block) =
    looking (λ c. read_rows c target name l block) (Block block) (λ c. Block (block_found c (found_through c (target_of (descriptors_of c) target name) l)))
meaning_of (Write l block) = changing (λ c. write_rows c l block) (λ c. write_stores c l block) (Block block)
meaning_of (Snap name) = changing (λ c. snap_rows c name) (λ c. snap_stores c name) None
meaning_of (Revert name) = changing (λ c. revert_rows c name) (λ c. revert_stores c name) None
meaning_of (Listing records) = looking (λ c. list_rows c records) (Records records) (λ c. let ds = descriptors_of c in Records (listed ds (drop (length ds) records)))
meaning_of Check = looking (λ c. check_rows c) None (λ c. None)
meaning_of (SpanRead target name o bytes) =
    looking (λ c. span_read_rows c target name o bytes) (Block bytes) (λ c. Block (span_bytes c (target_of (descriptors_of c) target name) o (length bytes)))
meaning_of (SpanWrite o bytes) = changing (λ c. span_write_rows c o bytes) (λ c. write_span_stores c o bytes) (Block bytes)
meaning_of (Visit target name l) = giving (λ c. visit_rows c target name l) (λ c. visit_given c target name l)

-- the rows of a call on a card, and number and place of its answer
unfoldable pub rows_of : Call → List ℕ → List Row
unfolding meaning_of
rows_of k c = admission c ++ (meaning_of k).rows c

unfoldable pub answer_of : Call → List ℕ → Answer
answer_of k c = first_row (rows_of k c)

-- of an accepted call: its stores, what was lent as it leaves it, what it gives; and what is lent to a call, at entry
unfoldable pub stores_of : Call → List ℕ → List Store
unfolding meaning_of
stores_of k c = (meaning_of k).stores c

unfoldable pub filled_of : Call → List ℕ → Lent
unfolding meaning_of
filled_of k c = (meaning_of k).filled c

unfoldable pub given_of : Call → List ℕ → Given
unfolding meaning_of
given_of k c = (meaning_of k).given c

unfoldable pub lent_of : Call → Lent
unfolding meaning_of
lent_of k = (meaning_of k).lent
