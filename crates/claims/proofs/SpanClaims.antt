-- The blocks that a span touches and its pieces, byte by byte; and what a span write comes to: its whole-block writes one after the other, its need, its room.
use mathlib.Core.Path.{◌≡◌, refl, sym, ap, ◌∙◌}
use mathlib.Core.Logic.{◌⊎◌, inl, inr}
use mathlib.Core.Bool.{Bool, true, false}
use mathlib.Core.List.{List, [], ◌∷◌}
use Prim.Native.Nat.{ℕ, zero, suc, ◌+◌, ◌*◌, ◌-◌, ◌/◌, ◌≤◌, ◌<◌, min}
use native.Mathlib.Omega.{arith}
use lib.ListN.{length, get_or}
use lib.Dec.{ltb, leb}
use borrow.Author.Tests.{eq-eqb, ltb-true, ltb-false, lt-ltb, le-ltb, lt-leb, leb-true, leb-false}
use Rattle.blocks.specs.Pick.{pick}
use Rattle.blocks.specs.Bytes.{part, splice, block_count, store_all}
use Rattle.blocks.specs.declared.descriptor.Descriptor.{Descriptor}
use Rattle.blocks.proofs.BoolLaws.{no}
use Rattle.blocks.proofs.ByteLaws.{length_part, part_at, splice_in, splice_other}
use Rattle.pieces.specs.Span.{span_block, touched, merged}
use Rattle.pieces.proofs.SpanLaws.{begins, in_block, in_bytes, merged_long}
use Rattle.chains.specs.Chain.{chain, active_of}
use Rattle.calls.specs.declared.answer.Answer.{Answer}
use Rattle.calls.specs.Call.{Active, Call, Read, Write, SpanWrite, Block, answer, accepted}
use Rattle.calls.specs.Parts.{descriptors_of, target_of, found_through, block_found}
use Rattle.calls.specs.Check.{Passes}
use Rattle.calls.specs.Stores.{write_need}
use Rattle.calls.specs.Spans.{merged_on, span_stores, span_card, span_need, write_span_stores, write_span_need}
use Rattle.calls.specs.Ladder.{first_row, admission, read_rows, write_rows, span_write_rows}
use Rattle.calls.specs.Meaning.{rows_of, answer_of, filled_of, stores_of}
use Rattle.calls.specs.Step.{step, after, is_accepted}
use Rattle.calls.proofs.Passed.{WritePassed, write_accepted}
use Rattle.calls.proofs.StepLaws.{accepted_card, step_lent, after_append}
use Rattle.calls.proofs.CardLaws.{chain_is}
use Rattle.calls.proofs.ActiveLaws.{active_end}
use Rattle.changes.proofs.SpanSteps.{SpanPassed, SpanAt, card_next, need_next, need_upto, span_at, span_write, active_then, count_then, below_then, whole_then, placed_then, room_then, passed_at, passed_write}
use Rattle.claims.specs.Kinds.{kind_of}
use Rattle.claims.specs.History.{beta_of}
use Rattle.claims.specs.Claims.{blocks_taken, blocks_needed}
use Rattle.claims.specs.Spans.{TouchedClaim, MergedClaim, reads_there, span_writes, card_before, write_at, need_sum, SpanRun, SpanRunClaim, StopsAt, SpanRoom, SpanRoomClaim}
use Rattle.claims.proofs.CheckClaims.{span_allowed, passes_faultless}

-- the blocks that have a byte of the span
pub byte_among : (o n j : ℕ) → o ≤ j → j < o + n → j / 512 - o / 512 < touched o n
unfolding touched
byte_among o zero j a b = absurd (omega arith)
byte_among o (suc m) j a b = omega arith

some_byte : (o n i : ℕ) → i < touched o n → 0 < n
unfolding touched
some_byte o zero i h = absurd (omega arith)
some_byte o (suc m) i h = omega arith

first_byte : (o n i : ℕ) → i < touched o n → (z : Bool) → leb o (512 * span_block o i) ≡ z → (j : ℕ) × (o ≤ j) × (j < o + n) × (j / 512 ≡ span_block o i)
first_byte o n i h true z = (512 * span_block o i, leb-true o (512 * span_block o i) z, begins o n i h, omega arith)
first_byte o n i h false z = (o, omega arith, omega (arith, some_byte o n i h), omega (arith, leb-false o (512 * span_block o i) z))

pub touched_claim : TouchedClaim
unfolding TouchedClaim
touched_claim o n l = (
  λ s. rw s.2 (first_byte o n s.0 s.1 (leb o (512 * span_block o s.0)) refl),
  λ s. (l - o / 512, rw s.3 at (byte_among o n s.0 s.1 s.2), omega (arith, s.1, s.3)),
)

-- a block with the span's bytes laid over, byte by byte
own_small : (o n x j : ℕ) → j < 512 → o ≤ x + j → x + j < o + n → j - (o - x) < min (512 - (o - x)) (n - (x - o))
own_small o n x j a b e = by (leb x o) refl
  where
    by : (z : Bool) → leb x o ≡ z → j - (o - x) < min (512 - (o - x)) (n - (x - o))
    by true z =
        let h = leb-true x o z in
        let f : x - o ≡ 0 = omega arith in
        rw f (omega arith)
    by false z =
        let h = leb-false x o z in
        let f : o - x ≡ 0 = omega arith in
        rw f (omega arith)

own_place : (o x j : ℕ) → o ≤ x + j → o - x + (j - (o - x)) ≡ j
own_place o x j b = omega arith

own_stands : (o x j : ℕ) → o ≤ x + j → x - o + (j - (o - x)) ≡ x + j - o
own_stands o x j b = omega arith

past_piece : (o n x j : ℕ) → x < o + n → o + n ≤ x + j → o - x + min (512 - (o - x)) (n - (x - o)) ≤ j
past_piece o n x j h b = by (leb x o) refl
  where
    by : (z : Bool) → leb x o ≡ z → o - x + min (512 - (o - x)) (n - (x - o)) ≤ j
    by true z =
        let k = leb-true x o z in
        let f : x - o ≡ 0 = omega arith in
        rw f (omega arith)
    by false z =
        let k = leb-false x o z in
        let f : o - x ≡ 0 = omega arith in
        rw f (omega arith)

module _ (block : List ℕ) (o : ℕ) (bytes : List ℕ) (l : ℕ) (long : length block ≡ 512) (h : 512 * l < o + length bytes) (k : o < 512 * l + 512) where
  abbrev size : ℕ
  size = length bytes

  abbrev x : ℕ
  x = 512 * l

  abbrev count : ℕ
  count = min (512 - (o - x)) (size - (x - o))

  abbrev piece : List ℕ
  piece = part bytes (x - o) count

  piece_long : length piece ≡ count
  piece_long = length_part bytes (x - o) count (in_bytes o size x h k)

  fits : o - x + length piece ≤ length block
  fits = rw (piece_long, long) (in_block o size x h k)

  own_byte : (j : ℕ) → j < 512 → o ≤ x + j → x + j < o + size → get_or (splice block (o - x) piece) j 0 ≡ get_or bytes (x + j - o) 0
  own_byte j a b e =
      let i = j - (o - x) in
      let small = own_small o size x j a b e in
      ap (λ (y : ℕ). get_or (splice block (o - x) piece) y 0) (sym (own_place o x j b)) ∙ splice_in block (o - x) piece fits i (rw piece_long small) ∙ part_at bytes (x - o) count i small
      ∙ ap (λ (y : ℕ). get_or bytes y 0) (own_stands o x j b)

  other_byte : (j : ℕ) → (x + j < o) ⊎ (o + size ≤ x + j) → get_or (splice block (o - x) piece) j 0 ≡ get_or block j 0
  other_byte j (inl b) = splice_other block (o - x) piece fits j (inl (omega arith))
  other_byte j (inr b) = splice_other block (o - x) piece fits j (inr (rw piece_long (past_piece o size x j h b)))

pub merged_claim : MergedClaim
unfolding MergedClaim merged
merged_claim block o bytes l long h k = (merged_long block o bytes l long h k, own_byte block o bytes l long h k, λ j a. other_byte block o bytes l long h k j)

-- the whole-block writes of a span, on a card that passes
module _ (c : List ℕ) (o : ℕ) (bytes : List ℕ) where
  abbrev d : Descriptor
  d = active_of (descriptors_of c)

  abbrev n : ℕ
  n = touched o (length bytes)

  -- the write of block i, on the card as the stores before left it
  abbrev own : ℕ → Call
  own i = Write (span_block o i) (merged_on (span_card c o bytes i) o bytes (span_block o i))

  same_write : (i : ℕ) → card_before c o bytes i ≡ span_card c o bytes i → write_at c o bytes i ≡ own i
  unfolding merged_on reads_there
  same_write i e = ap (λ (s : List ℕ). Write (span_block o i) (merged (block_found s (found_through s (active_of (descriptors_of s)) (span_block o i))) o bytes (span_block o i))) e

  first_card : card_before c o bytes 0 ≡ span_card c o bytes 0
  unfolding span_writes after span_stores store_all
  first_card = refl

  card_then : (i : ℕ) → card_before c o bytes (suc i) ≡ (step (write_at c o bytes i) (card_before c o bytes i)).card
  unfolding span_writes after
  card_then i = after_append (span_writes c o bytes i) (write_at c o bytes i ∷ []) c

  card_same : (i : ℕ) → card_before c o bytes i ≡ span_card c o bytes i → is_accepted (answer_of (own i) (span_card c o bytes i)) ≡ true → card_before c o bytes (suc i) ≡ span_card c o bytes (suc i)
  unfolding stores_of
  card_same i e a =
      card_then i ∙ ap (λ (k : Call). (step k (card_before c o bytes i)).card) (same_write i e) ∙ ap (λ (s : List ℕ). (step (own i) s).card) e
      ∙ accepted_card (own i) (span_card c o bytes i) a ∙ sym (card_next c o bytes i)

  needs_are : (s : List ℕ) (l : ℕ) (block : List ℕ) → blocks_needed (Write l block) s ≡ write_need s l
  unfolding blocks_needed blocks_taken kind_of write_need
  needs_are s l block = refl

  need_then : (i : ℕ) → card_before c o bytes i ≡ span_card c o bytes i → need_sum c o bytes i ≡ span_need c o bytes i → need_sum c o bytes (suc i) ≡ span_need c o bytes (suc i)
  unfolding need_sum
  need_then i e f =
      rw f (ap (λ (x : ℕ). span_need c o bytes i + x) (needs_are (card_before c o bytes i) (span_block o i) _ ∙ ap (λ (s : List ℕ). write_need s (span_block o i)) e) ∙ sym (need_next c o bytes i))

  need_first : need_sum c o bytes 0 ≡ span_need c o bytes 0
  unfolding need_sum span_need
  need_first = refl

  -- accepted
  module _ (ok : SpanPassed c o bytes) where
    accepted_at : (i : ℕ) → i < n → is_accepted (answer_of (own i) (span_card c o bytes i)) ≡ true
    accepted_at i h = ap is_accepted (write_accepted (span_card c o bytes i) (span_block o i) _ (passed_write c o bytes ok i h))

    cards : (i : ℕ) → i ≤ n → (card_before c o bytes i ≡ span_card c o bytes i) × (need_sum c o bytes i ≡ span_need c o bytes i)
    cards zero h = (first_card, need_first)
    cards (suc i) h =
        let b = cards i (omega arith) in
        (card_same i b.0 (accepted_at i h), need_then i b.0 b.1)

    reads_by : (s : List ℕ) (l : ℕ) (block : List ℕ) → length block ≡ 512 → WritePassed s l (merged_on s o bytes l) → (step (Read Active [] l block) s).outcome.lent ≡ Block (reads_there s l)
    unfolding answer_of rows_of admission read_rows first_row filled_of reads_there target_of
    reads_by s l block long w =
        step_lent (Read Active [] l block) s
        ∙ rw (w.area, eq-eqb (length block) 512 long, w.sound, lt-leb (active_of (descriptors_of s)).volume l w.below, w.in_place)

    beta_after : beta_of (span_card c o bytes n) ≡ beta_of c + span_need c o bytes n
    unfolding beta_of
    beta_after = ap (λ (x : Descriptor). x.beta.0) (active_then c o bytes n (passed_at c o bytes ok n (omega arith)))

    span_run : is_accepted (answer_of (SpanWrite o bytes) c) ≡ true → SpanRun c o bytes
    unfolding stores_of write_span_stores blocks_needed write_span_need
    span_run e =
        let stored : (step (SpanWrite o bytes) c).card ≡ span_card c o bytes n = accepted_card (SpanWrite o bytes) c e in
        record {
          each = λ i h. rw (same_write i (cards i (omega arith)).0, (cards i (omega arith)).0) (accepted_at i h);
          reads = λ i h block long. rw (cards i (omega arith)).0 (reads_by (span_card c o bytes i) (span_block o i) block long (passed_write c o bytes ok i h));
          card = stored ∙ sym (cards n (omega arith)).0;
          need = sym (cards n (omega arith)).1;
          beta = ap beta_of stored ∙ beta_after ∙ ap (λ (x : ℕ). beta_of c + x) (sym (cards n (omega arith)).1);
        }

  -- on a card that passes, of a span that ends in the volume
  module _ (p : Passes c) (upto : o + length bytes ≤ 512 * d.volume) where
    abbrev Fits : ℕ → Type 0
    Fits k = d.beta.0 + k ≤ block_count c

    pub answer_is : answer_of (SpanWrite o bytes) c ≡ pick (ltb (block_count c) (d.beta.0 + write_span_need c o bytes)) (answer 11 0) accepted
    unfolding answer_of rows_of admission span_write_rows first_row
    answer_is = rw (p.area, p.sound, le-ltb (512 * d.volume) (o + length bytes) upto, passes_faultless c p)

    eleven_by : (b : Bool) → pick b (answer 11 0) accepted ≡ answer 11 0 → b ≡ true
    eleven_by true e = refl
    eleven_by false e = absurd (omega (arith, ap (λ (a : Answer). a.number) e))

    either : (b : Bool) → (pick b (answer 11 0) accepted ≡ accepted) ⊎ (pick b (answer 11 0) accepted ≡ answer 11 0)
    either true = inr refl
    either false = inl refl

    else : (answer_of (SpanWrite o bytes) c ≡ accepted) ⊎ (answer_of (SpanWrite o bytes) c ≡ answer 11 0)
    else = rw answer_is (either (ltb (block_count c) (d.beta.0 + write_span_need c o bytes)))

    -- as long as there is room the writes are accepted
    accepted_while : (i : ℕ) → i < n → Fits (span_need c o bytes (suc i)) → is_accepted (answer_of (own i) (span_card c o bytes i)) ≡ true
    accepted_while i h room = ap is_accepted (write_accepted (span_card c o bytes i) (span_block o i) _ (span_write c o bytes p upto i h room))

    cards_while : (i : ℕ) → i ≤ n → Fits (span_need c o bytes i) → card_before c o bytes i ≡ span_card c o bytes i
    cards_while zero h room = first_card
    cards_while (suc i) h room = card_same i (cards_while i (omega arith) (omega (arith, room, need_next c o bytes i))) (accepted_while i h room)

    -- the write of block i where those before it fit
    module _ (i : ℕ) (h : i < n) (fits : Fits (span_need c o bytes i)) where
      abbrev s : List ℕ
      s = span_card c o bytes i

      abbrev l : ℕ
      l = span_block o i

      at : SpanAt c o bytes i
      at = span_at c o bytes p upto i (omega arith) fits

      room_is : (x y : ℕ) → x ≡ block_count c → y ≡ d.beta.0 + span_need c o bytes (suc i) → pick (ltb x y) (answer 11 0) accepted ≡ pick (ltb (block_count c) (d.beta.0 + span_need c o bytes (suc i))) (answer 11 0) accepted
      room_is x y e f = rw (e, f)

      write_is : answer_of (own i) s ≡ pick (ltb (block_count c) (d.beta.0 + span_need c o bytes (suc i))) (answer 11 0) accepted
      unfolding answer_of rows_of admission write_rows first_row write_need
      write_is =
          rw (at.passes.area, eq-eqb (length (merged_on s o bytes l)) 512 (whole_then c o bytes i at h upto), at.passes.sound, lt-leb (active_of (descriptors_of s)).volume l (below_then c o bytes i at h upto), placed_then c o bytes i at h upto)
          (room_is (block_count s) _ (count_then c o bytes i at) (room_then c o bytes i at h upto))

    -- the first block that finds no room
    record Short : Type 0 where
      pub index : ℕ
      pub among : index < n
      pub fits : Fits (span_need c o bytes index)
      pub short : block_count c < d.beta.0 + span_need c o bytes (suc index)

    some_room : Fits (span_need c o bytes 0)
    unfolding span_need
    some_room = omega (arith, active_end c (descriptors_of c) (chain_is (chain c) p.sound))

    short_by : (i : ℕ) → i < n → (block_count c < d.beta.0 + span_need c o bytes i → Short) → (b : Bool) → ltb (block_count c) (d.beta.0 + span_need c o bytes i) ≡ b
        → block_count c < d.beta.0 + span_need c o bytes (suc i) → Short
    short_by i h before true e short = before (ltb-true (block_count c) (d.beta.0 + span_need c o bytes i) e)
    short_by i h before false e short = record { index = i; among = h; fits = ltb-false (block_count c) (d.beta.0 + span_need c o bytes i) e; short = short }

    first_short : (i : ℕ) → i ≤ n → block_count c < d.beta.0 + span_need c o bytes i → Short
    first_short zero h short = absurd (omega (arith, some_room))
    first_short (suc i) h short = short_by i h (first_short i (omega arith)) (ltb (block_count c) (d.beta.0 + span_need c o bytes i)) refl short

    -- what fits up to a block fits before it
    fits_before : (i j : ℕ) → j ≤ i → Fits (span_need c o bytes i) → Fits (span_need c o bytes j)
    fits_before i j h room =
        let e : j + (i - j) ≡ i = omega arith in
        omega (arith, room, ap (λ (k : ℕ). span_need c o bytes k) e, need_upto c o bytes j (i - j))

    needs_while : (i : ℕ) → i ≤ n → Fits (span_need c o bytes i) → need_sum c o bytes i ≡ span_need c o bytes i
    needs_while zero h room = need_first
    needs_while (suc i) h room =
        let before = fits_before (suc i) i (omega arith) room in
        need_then i (cards_while i (omega arith) before) (needs_while i (omega arith) before)

    sum_upto : (i j : ℕ) → need_sum c o bytes i ≤ need_sum c o bytes (i + j)
    unfolding need_sum
    sum_upto i zero = let e : i + 0 ≡ i = omega arith in rw e (omega arith)
    sum_upto i (suc j) = let e : i + suc j ≡ suc (i + j) = omega arith in rw e (omega (arith, sum_upto i j))

    stops_at : (x : Short) → StopsAt c o bytes x.index
    stops_at x =
        let i = x.index in
        record {
          among = x.among;
          earlier = λ j h.
              let room = fits_before i (suc j) h x.fits in
              let same = cards_while j (omega (arith, x.among)) (fits_before i j (omega arith) x.fits) in
              rw (same_write j same, same) (accepted_while j (omega (arith, x.among)) room);
          here =
              let same = cards_while i (omega (arith, x.among)) x.fits in
              rw (same_write i same, same) (write_is i x.among x.fits ∙ rw (lt-ltb (block_count c) (d.beta.0 + span_need c o bytes (suc i)) x.short));
        }

    sum_short : Short → block_count c < d.beta.0 + need_sum c o bytes n
    sum_short x =
        let i = x.index in
        let e : suc i + (n - suc i) ≡ n = omega (arith, x.among) in
        let same = cards_while i (omega (arith, x.among)) x.fits in
        omega (arith, x.short, need_then i same (needs_while i (omega (arith, x.among)) x.fits), sum_upto (suc i) (n - suc i), ap (λ (k : ℕ). need_sum c o bytes k) e)

    -- a write that stops at 11 finds no room, if those before it found theirs
    stopped_by : (i : ℕ) → (b : Bool) → ltb (block_count c) (d.beta.0 + span_need c o bytes (suc i)) ≡ b → pick b (answer 11 0) accepted ≡ answer 11 0 → block_count c < d.beta.0 + span_need c o bytes (suc i)
    stopped_by i true e f = ltb-true (block_count c) (d.beta.0 + span_need c o bytes (suc i)) e
    stopped_by i false e f = absurd (omega (arith, ap (λ (a : Answer). a.number) f))

    went_by : (i : ℕ) → (b : Bool) → ltb (block_count c) (d.beta.0 + span_need c o bytes (suc i)) ≡ b → is_accepted (pick b (answer 11 0) accepted) ≡ true → Fits (span_need c o bytes (suc i))
    went_by i true e f = no f
    went_by i false e f = ltb-false (block_count c) (d.beta.0 + span_need c o bytes (suc i)) e

    room_before : (i : ℕ) → i ≤ n → ((j : ℕ) → j < i → is_accepted (answer_of (write_at c o bytes j) (card_before c o bytes j)) ≡ true) → Fits (span_need c o bytes i)
    room_before zero h f = some_room
    room_before (suc i) h f =
        let before = room_before i (omega arith) (λ j b. f j (omega arith)) in
        let same = cards_while i (omega arith) before in
        went_by i (ltb (block_count c) (d.beta.0 + span_need c o bytes (suc i))) refl (rw (same_write i same, same, write_is i h before) at (f i (omega arith)))

    short_after : (i : ℕ) → StopsAt c o bytes i → block_count c < d.beta.0 + span_need c o bytes n
    short_after i x =
        let before = room_before i (omega (arith, x.among)) x.earlier in
        let same = cards_while i (omega (arith, x.among)) before in
        let e : suc i + (n - suc i) ≡ n = omega (arith, x.among) in
        omega (
          arith,
          stopped_by i (ltb (block_count c) (d.beta.0 + span_need c o bytes (suc i))) refl (rw (same_write i same, same, write_is i x.among before) at x.here),
          need_upto c o bytes (suc i) (n - suc i),
          ap (λ (k : ℕ). span_need c o bytes k) e,
        )

    lacks : answer_of (SpanWrite o bytes) c ≡ answer 11 0 → block_count c < d.beta.0 + span_need c o bytes n
    unfolding write_span_need
    lacks e = ltb-true (block_count c) (d.beta.0 + write_span_need c o bytes) (eleven_by (ltb (block_count c) (d.beta.0 + write_span_need c o bytes)) (sym answer_is ∙ e))

    refuses : block_count c < d.beta.0 + span_need c o bytes n → answer_of (SpanWrite o bytes) c ≡ answer 11 0
    unfolding write_span_need
    refuses h = answer_is ∙ rw (lt-ltb (block_count c) (d.beta.0 + write_span_need c o bytes) h)

    summed : block_count c < d.beta.0 + need_sum c o bytes n → (b : Bool) → ltb (block_count c) (d.beta.0 + span_need c o bytes n) ≡ b → block_count c < d.beta.0 + span_need c o bytes n
    summed h true e = ltb-true (block_count c) (d.beta.0 + span_need c o bytes n) e
    summed h false e = absurd (omega (arith, h, ltb-false (block_count c) (d.beta.0 + span_need c o bytes n) e, needs_while n (omega arith) (ltb-false (block_count c) (d.beta.0 + span_need c o bytes n) e)))

    span_room : SpanRoom c o bytes
    unfolding beta_of
    span_room =
        record {
          sum = (λ e. sum_short (first_short n (omega arith) (lacks e)), λ h. refuses (summed h (ltb (block_count c) (d.beta.0 + span_need c o bytes n)) refl));
          stops = (λ e. let x = first_short n (omega arith) (lacks e) in (x.index, stops_at x), λ x. refuses (short_after x.0 x.1));
          else = else;
        }

pub span_run_claim : SpanRunClaim
unfolding SpanRunClaim
span_run_claim c o bytes e = span_run c o bytes (span_allowed c o bytes e) e

pub span_room_claim : SpanRoomClaim
unfolding SpanRoomClaim
span_room_claim c o bytes p upto = span_room c o bytes p upto
