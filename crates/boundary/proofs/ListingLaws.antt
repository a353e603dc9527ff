-- A listing into bytes is the listing of the records that stand in them: the bytes are read as records, the call is made, and its records are bytes again.
use mathlib.Core.Path.{◌≡◌, refl, sym, ap, ◌∙◌}
use mathlib.Core.Bool.{Bool, true, false}
use mathlib.Core.List.{List, [], ◌∷◌, ◌++◌, append_assoc}
use Prim.Native.Nat.{ℕ, zero, suc, ◌+◌, ◌*◌, ◌/◌, ◌≤◌, ◌<◌}
use native.Mathlib.Omega.{arith}
use lib.ListN.{length, take, drop, get_or, length-drop, take-append-drop}
use lib.Seq.{drop-drop, get_or-drop, take-add}
use Rattle.blocks.specs.Pick.{pick}
use Rattle.blocks.specs.declared.descriptor.Descriptor.{Descriptor}
use Rattle.blocks.proofs.ByteLaws.{number_back}
use Rattle.calls.specs.declared.answer.Record.{Record}
use Rattle.calls.specs.Call.{Listing}
use Rattle.calls.specs.Parts.{descriptors_of}
use Rattle.calls.specs.Ladder.{list_rows}
use Rattle.calls.specs.Effect.{record_of, listed}
use Rattle.calls.specs.Meaning.{rows_of, answer_of, lent_of, filled_of}
use Rattle.calls.specs.Step.{step, is_accepted}
use Rattle.calls.proofs.StepLaws.{step_answer, step_lent}
use Rattle.calls.proofs.ListingLaws.{list_room}
use Rattle.boundary.specs.RecordBytes.{record_bytes, records_bytes, record_in, records_in, lent_bytes, room_in, ListedBytes, listing_of}
use Rattle.boundary.proofs.RecordLaws.{room_size}

-- a listing's answer depends on how many records are lent, and not on what stands in them
answer_room_lem : (c : List ℕ) (rs ts : List Record) → length rs ≡ length ts → answer_of (Listing rs) c ≡ answer_of (Listing ts) c
unfolding answer_of rows_of list_rows
answer_room_lem c rs ts e = rw e

pub listing_answer : (c b : List ℕ) (rs : List Record) → length rs ≡ length b / 28 → (listing_of c b).answer ≡ (step (Listing rs) c).outcome.answer
unfolding listing_of
listing_answer c b rs e = step_answer (Listing (room_in b)) c ∙ answer_room_lem c (room_in b) rs (room_size b ∙ sym e) ∙ sym (step_answer (Listing rs) c)

-- where it is accepted, the first bytes are those of the records of the chain, and the rest is unchanged; where it is not, all are
module _ (c b : List ℕ) where
  pub listing_accepted : is_accepted (listing_of c b).answer ≡ true → (listing_of c b).bytes ≡ records_bytes (listed (descriptors_of c) []) ++ drop (28 * length (descriptors_of c)) b
  unfolding listing_of
  listing_accepted e = rw e

  pub listing_refused : is_accepted (listing_of c b).answer ≡ false → (listing_of c b).bytes ≡ b
  unfolding listing_of
  listing_refused e = rw e

-- all are bytes
abbrev pub Bytes : List ℕ → Type 0
Bytes b = (i : ℕ) → get_or b i 0 < 256

bytes_drop : (b : List ℕ) (n : ℕ) → Bytes b → Bytes (drop n b)
bytes_drop b n h i = rw (get_or-drop n b i 0) (h (n + i))

-- a record that was read is the bytes that were there
record_back : (b : List ℕ) → Bytes b → 28 ≤ length b → record_bytes (record_in b) ≡ take 28 b
unfolding record_bytes record_in
record_back b h l =
    rw (number_back b 16 h (omega arith), number_back b 20 h (omega arith), number_back b 24 h (omega arith), ← take-add 16 4 b, ← take-add 20 4 b, ← take-add 24 4 b)

length_records : (n : ℕ) (b : List ℕ) → length (records_in n b) ≡ n
unfolding records_in
length_records zero b = refl
length_records (suc n) b = ap suc (length_records n (drop 28 b))

-- the records after the first k, as bytes, with the bytes after the last record: all bytes after those of the first k
records_back : (k n : ℕ) (b : List ℕ) → Bytes b → k ≤ n → 28 * n ≤ length b → records_bytes (drop k (records_in n b)) ++ drop (28 * n) b ≡ drop (28 * k) b
unfolding records_in records_bytes
records_back zero zero b h i l = refl
records_back zero (suc n) b h i l =
    let e : 28 * suc n ≡ 28 + 28 * n = omega arith in
    let rest = records_back zero n (drop 28 b) (bytes_drop b 28 h) (omega arith) (rw (length-drop 28 b) (omega arith)) in
    append_assoc (record_bytes (record_in b)) (records_bytes (records_in n (drop 28 b))) (drop (28 * suc n) b)
    ∙ ap (λ (m : ℕ). record_bytes (record_in b) ++ (records_bytes (records_in n (drop 28 b)) ++ drop m b)) e
    ∙ ap (λ (t : List ℕ). record_bytes (record_in b) ++ (records_bytes (records_in n (drop 28 b)) ++ t)) (sym (drop-drop (28 * n) 28 b))
    ∙ ap (λ (t : List ℕ). record_bytes (record_in b) ++ t) rest
    ∙ ap (λ (t : List ℕ). t ++ drop 28 b) (record_back b h (omega arith))
    ∙ take-append-drop 28 b
records_back (suc k) zero b h i l = absurd (omega arith)
records_back (suc k) (suc n) b h i l =
    let e : 28 * suc n ≡ 28 + 28 * n = omega arith in
    let f : 28 + 28 * k ≡ 28 * suc k = omega arith in
    let rest = records_back k n (drop 28 b) (bytes_drop b 28 h) (omega arith) (rw (length-drop 28 b) (omega arith)) in
    ap (λ (m : ℕ). records_bytes (drop k (records_in n (drop 28 b))) ++ drop m b) e
    ∙ ap (λ (t : List ℕ). records_bytes (drop k (records_in n (drop 28 b))) ++ t) (sym (drop-drop (28 * n) 28 b))
    ∙ rest
    ∙ drop-drop (28 * k) 28 b
    ∙ ap (λ (m : ℕ). drop m b) f

-- records after those of descriptors
records_after_lem : (ds : List Descriptor) (rest : List Record) → records_bytes (listed ds rest) ≡ records_bytes (listed ds []) ++ records_bytes rest
unfolding records_bytes listed
records_after_lem [] rest = refl
records_after_lem (d ∷ ds) rest =
    ap (λ (l : List ℕ). record_bytes (record_of d) ++ l) (records_after_lem ds rest) ∙ sym (append_assoc (record_bytes (record_of d)) (records_bytes (listed ds [])) (records_bytes rest))

module _ (c b : List ℕ) (h : Bytes b) where
  abbrev rs : List Record
  rs = records_in (length b / 28) b

  abbrev made : List ℕ → ListedBytes
  made bytes = record { answer = answer_of (Listing rs) c; bytes = bytes }

  lent_by : (t : Bool) → is_accepted (answer_of (Listing rs) c) ≡ t
      → pick t (records_bytes (listed (descriptors_of c) []) ++ drop (28 * length (descriptors_of c)) b) b ≡ lent_bytes (pick t (filled_of (Listing rs) c) (lent_of (Listing rs))) ++ drop (28 * (length b / 28)) b
  unfolding lent_bytes filled_of lent_of
  lent_by true e =
      let ds = descriptors_of c in
      let first = records_bytes (listed ds []) in
      let after = drop (28 * (length b / 28)) b in
      sym
      (ap (λ (l : List ℕ). l ++ after) (records_after_lem ds (drop (length ds) rs))
      ∙ append_assoc first (records_bytes (drop (length ds) rs)) after
      ∙ ap (λ (l : List ℕ). first ++ l) (records_back (length ds) (length b / 28) b h (omega (arith, list_room c rs e, length_records (length b / 28) b)) (omega arith)))
  lent_by false e = sym (records_back 0 (length b / 28) b h (omega arith) (omega arith))

  pub listing_step : listing_of c b ≡ record { answer = (step (Listing rs) c).outcome.answer; bytes = lent_bytes (step (Listing rs) c).outcome.lent ++ drop (28 * (length b / 28)) b }
  unfolding listing_of
  listing_step =
      let long : length (room_in b) ≡ length rs = room_size b ∙ sym (length_records (length b / 28) b) in
      rw (step_answer (Listing (room_in b)) c, answer_room_lem c (room_in b) rs long, step_answer (Listing rs) c, step_lent (Listing rs) c) (ap made (lent_by (is_accepted (answer_of (Listing rs) c)) refl))
