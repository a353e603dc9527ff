-- A check of a given card, computed with little work. `entry_at` goes along the card from its first byte for each entry; here a table block is taken apart in one pass.
-- The laws say that the entries, and so the verdict, the answer of check and of a span write, what a call does and the value of a row, are those of the definitions.
use mathlib.Core.Path.{◌≡◌, refl, sym, ap, ◌∙◌}
use mathlib.Core.Bool.{true, false, not, ◌&&◌}
use mathlib.Core.List.{List, [], ◌∷◌, ◌++◌, map}
use Prim.Native.Nat.{ℕ, zero, suc, ◌+◌, ◌*◌}
use native.Mathlib.Omega.{arith}
use lib.ListN.{length, drop}
use lib.Seq.{get_or-drop, drop-drop}
use lib.Dec.{eqb, ltb}
use Rattle.blocks.specs.Pick.{pick}
use Rattle.blocks.specs.Bytes.{u32_at, block_count, store_all}
use Rattle.blocks.specs.Descriptor.{table_size, phi_size, table_count}
use Rattle.blocks.specs.declared.descriptor.Descriptor.{Descriptor}
use Rattle.entries.specs.Entry.{entry_at, phi_at, table_of}
use Rattle.entries.specs.Naming.{Naming, table_namings, tables_namings, phi_namings, namings, first_fault, check_one}
use Rattle.entries.specs.Found.{Verdict, Passed}
use Rattle.calls.specs.declared.answer.Answer.{Answer}
use Rattle.calls.specs.Call.{Call, Ream, Read, Write, Snap, Revert, Listing, Check, Visit, SpanRead, SpanWrite}
use Rattle.calls.specs.Parts.{descriptors_of}
use Rattle.calls.specs.Check.{or_else, check_all, check_card, is_fault, fault_holder}
use Rattle.calls.specs.Spans.{write_span_need}
use Rattle.calls.specs.Ladder.{Row, row, first_row, admission, chain_row, check_rows, span_row, span_write_rows}
use Rattle.calls.specs.Meaning.{rows_of, answer_of, stores_of, filled_of, given_of, lent_of}
use Rattle.calls.specs.Step.{Done, step, done, is_accepted}
use Rattle.claims.specs.History.{beta_of}
use Rattle.claims.specs.Bench.{Value, Result, expected, computed, showing, block_of}
use Rattle.claims.proofs.Running.{running}

-- the first k stored numbers of a list of bytes, each byte looked at once; 0 past its end
unfoldable pub numbers : ℕ → List ℕ → List ℕ
numbers zero xs = []
numbers (suc k) [] = 0 ∷ numbers k []
numbers (suc k) (a ∷ []) = a ∷ numbers k []
numbers (suc k) (a ∷ b ∷ []) = (a + 256 * b) ∷ numbers k []
numbers (suc k) (a ∷ b ∷ c ∷ []) = (a + 256 * b + 65536 * c) ∷ numbers k []
numbers (suc k) (a ∷ b ∷ c ∷ d ∷ xs) = (a + 256 * b + 65536 * c + 16777216 * d) ∷ numbers k xs

-- the first number is the one at 0, the others stand 4 bytes on
numbers_first : (k : ℕ) (xs : List ℕ) → numbers (suc k) xs ≡ u32_at xs 0 ∷ numbers k (drop 4 xs)
unfolding numbers u32_at
numbers_first k [] = refl
numbers_first k (a ∷ []) = ap (λ (n : ℕ). n ∷ numbers k []) (omega arith)
numbers_first k (a ∷ b ∷ []) = ap (λ (n : ℕ). n ∷ numbers k []) (omega arith)
numbers_first k (a ∷ b ∷ c ∷ []) = ap (λ (n : ℕ). n ∷ numbers k []) (omega arith)
numbers_first k (a ∷ b ∷ c ∷ d ∷ xs) = refl

-- the number at a place of the card, by the bytes from that place on
number_drop : (at : ℕ) (c : List ℕ) → u32_at (drop at c) 0 ≡ u32_at c at
unfolding u32_at
number_drop at c = let e : at + 0 ≡ at = omega arith in rw (get_or-drop at c 0 0, get_or-drop at c 1 0, get_or-drop at c 2 0, get_or-drop at c 3 0, e)

numbers_at : (k at : ℕ) (c : List ℕ) → numbers (suc k) (drop at c) ≡ u32_at c at ∷ numbers k (drop (at + 4) c)
numbers_at k at c = numbers_first k (drop at c) ∙ rw (number_drop at c, drop-drop 4 at c)

module _ (c : List ℕ) (d : Descriptor) where
  -- the entries of table block m of group i, from entry j on, by their values
  unfoldable pub table_by : ℕ → ℕ → ℕ → List ℕ → List Naming
  table_by i m j [] = []
  table_by i m j (v ∷ vs) = record { holder = m; value = v; counted = ltb (table_size * i + j) d.volume; phi = false } ∷ table_by i m (suc j) vs

  table_by_lem : (i m k j : ℕ) → table_namings c d i m k j ≡ table_by i m j (numbers k (drop (512 * m + 4 * j) c))
  unfolding table_namings table_by numbers entry_at
  table_by_lem i m zero j = refl
  table_by_lem i m (suc k) j =
      let e : 512 * m + 4 * j + 4 ≡ 512 * m + 4 * suc j = omega arith in
      ap (λ (es : List Naming). record { holder = m; value = entry_at c m j; counted = ltb (table_size * i + j) d.volume; phi = false } ∷ es) (table_by_lem i m k (suc j) ∙ rw (← e))
      ∙ sym (ap (table_by i m j) (numbers_at k (512 * m + 4 * j) c))

  -- all entries of a table block; of the tables of layout 1
  abbrev pub table_once : ℕ → ℕ → List Naming
  table_once i m = table_by i m 0 (numbers table_size (drop (512 * m) c))

  table_once_lem : (i m : ℕ) → table_namings c d i m table_size 0 ≡ table_once i m
  table_once_lem i m = let e : 512 * m + 4 * 0 ≡ 512 * m = omega arith in table_by_lem i m table_size 0 ∙ rw e

  unfoldable pub tables_once : ℕ → ℕ → List Naming
  tables_once zero i = []
  tables_once (suc k) i = table_once i (table_of c d i) ++ tables_once k (suc i)

  tables_once_lem : (k i : ℕ) → tables_namings c d k i ≡ tables_once k i
  unfolding tables_namings tables_once
  tables_once_lem zero i = refl
  tables_once_lem (suc k) i = rw (table_once_lem i (table_of c d i), tables_once_lem k (suc i))

  -- the entries of Phi by their values, each with its table
  unfoldable pub phi_by : ℕ → List ℕ → List Naming
  phi_by i [] = []
  phi_by i (m ∷ ms) =
      let counted = ltb i (table_count d.volume) in
      record { holder = d.alpha.0; value = m; counted = counted; phi = true } ∷ pick (counted && not (eqb m 0)) (table_once i m) [] ++ phi_by (suc i) ms

  phi_by_lem : (k i : ℕ) → phi_namings c d k i ≡ phi_by i (numbers k (drop (512 * d.alpha.0 + 64 + 4 * i) c))
  unfolding phi_namings phi_by numbers phi_at
  phi_by_lem zero i = refl
  phi_by_lem (suc k) i =
      let e : 512 * d.alpha.0 + 64 + 4 * i + 4 ≡ 512 * d.alpha.0 + 64 + 4 * suc i = omega arith in
      rw (table_once_lem i (phi_at c d i), phi_by_lem k (suc i), ← e) (sym (ap (phi_by i) (numbers_at k (512 * d.alpha.0 + 64 + 4 * i) c)))

  -- all entries of the descriptor
  unfoldable pub once : List Naming
  once = pick (eqb d.layout 1) (tables_once (table_count d.volume) 0) (phi_by 0 (numbers phi_size (drop (512 * d.alpha.0 + 64) c)))

  namings_once : namings c d ≡ once
  unfolding namings once
  namings_once = let e : 512 * d.alpha.0 + 64 + 4 * 0 ≡ 512 * d.alpha.0 + 64 = omega arith in rw (tables_once_lem (table_count d.volume) 0, phi_by_lem phi_size 0, e)

-- the verdict on the descriptors of the card
unfoldable pub all_once : List ℕ → List Descriptor → List Descriptor → Verdict
all_once c ds [] = Passed
all_once c ds (d ∷ rest) = or_else (first_fault ds d [] (once c d)) (all_once c ds rest)

all_once_lem : (c : List ℕ) (ds es : List Descriptor) → check_all c ds es ≡ all_once c ds es
unfolding check_all all_once check_one
all_once_lem c ds [] = refl
all_once_lem c ds (d ∷ rest) = rw (namings_once c d, all_once_lem c ds rest)

-- the row of check's fault, and the answer of check
abbrev row_once : List ℕ → Row
row_once c = let v = all_once c (descriptors_of c) (descriptors_of c) in row (is_fault v) 10 (fault_holder v)

unfoldable pub answer_once : List ℕ → Answer
answer_once c = first_row (admission c ++ (chain_row c ∷ row_once c ∷ []))

pub answer_once_lem : (c : List ℕ) → answer_of Check c ≡ answer_once c
unfolding answer_of rows_of check_rows check_card answer_once
answer_once_lem c = rw (all_once_lem c (descriptors_of c) (descriptors_of c))

-- the answer of a span write, which has check's row too
unfoldable pub span_once : List ℕ → ℕ → List ℕ → Answer
span_once c o bytes =
    let room = row (ltb (block_count c) (beta_of c + write_span_need c o bytes)) 11 0 in
    first_row (admission c ++ (chain_row c ∷ span_row c o (length bytes) ∷ row_once c ∷ room ∷ []))

pub span_once_lem : (c : List ℕ) (o : ℕ) (bytes : List ℕ) → answer_of (SpanWrite o bytes) c ≡ span_once c o bytes
unfolding answer_of rows_of span_write_rows check_card beta_of span_once
span_once_lem c o bytes = rw (all_once_lem c (descriptors_of c) (descriptors_of c))

-- the answer of a call: of check and of a span write computed as above, of the others as the ladder says
unfoldable pub answer_by : (c : List ℕ) (k : Call) → (a : Answer) × (answer_of k c ≡ a)
answer_by c (Ream format) = (answer_of (Ream format) c, refl)
answer_by c (Read target name l block) = (answer_of (Read target name l block) c, refl)
answer_by c (Write l block) = (answer_of (Write l block) c, refl)
answer_by c (Snap name) = (answer_of (Snap name) c, refl)
answer_by c (Revert name) = (answer_of (Revert name) c, refl)
answer_by c (Listing records) = (answer_of (Listing records) c, refl)
answer_by c (Visit target name l) = (answer_of (Visit target name l) c, refl)
answer_by c (SpanRead target name o bytes) = (answer_of (SpanRead target name o bytes) c, refl)
answer_by c Check = (answer_once c, answer_once_lem c)
answer_by c (SpanWrite o bytes) = (span_once c o bytes, span_once_lem c o bytes)

-- what a call does, given its answer; and with the answer computed so
unfoldable pub done_by : Call → List ℕ → Answer → Done
done_by k c a =
    pick (is_accepted a)
    (record { outcome = record { answer = a; lent = filled_of k c; given = given_of k c }; card = store_all c (stores_of k c) })
    (done a (lent_of k) c)

unfoldable pub done_once : Call → List ℕ → Done
done_once k c = done_by k c (answer_by c k).0

pub done_once_lem : (k : Call) (c : List ℕ) → step k c ≡ done_once k c
unfolding step done_by done_once
done_once_lem k c = ap (done_by k c) (answer_by c k).1

-- what a row of the table gives, computed so; it is what `computed` gives
unfoldable pub quick : Value → Result
quick v = let d = done_once v.call v.card in record { answer = d.outcome.answer; shown = showing v.shown d }

pub quick_one : (v : Value) → computed v ≡ quick v
unfolding computed quick
quick_one v = ap (λ (d : Done). record { answer = d.outcome.answer; shown = showing v.shown d }) (done_once_lem v.call v.card)

pub quick_all : (vs : List Value) → map computed vs ≡ map quick vs
quick_all [] = refl
quick_all (v ∷ vs) = rw (quick_one v, quick_all vs)

-- every definition that a row computed so goes through: `unfolding running_once` opens them all
unfoldable pub running_once : ℕ
unfolding running expected showing block_of numbers table_by tables_once phi_by once all_once answer_once span_once answer_by done_by done_once quick
running_once = 0
