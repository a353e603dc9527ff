-- The pieces of a span as they are filled: one piece out of a block or of zeros, put where it stands, and all of them joined.
use mathlib.Core.Path.{◌≡◌, refl, sym, ap, ◌∙◌}
use mathlib.Core.Bool.{true, false}
use mathlib.Core.List.{List, ◌∷◌, ◌++◌}
use Prim.Native.Nat.{ℕ, zero, suc, ◌+◌, ◌*◌, ◌-◌, ◌≤◌, ◌<◌, min}
use native.Mathlib.Omega.{arith}
use lib.ListN.{length, take, drop, replicate, length-append}
use lib.Dec.{eqb}
use Rattle.blocks.specs.Pick.{pick}
use Rattle.blocks.specs.Bytes.{part, splice, block_at, zero_block}
use Rattle.blocks.specs.Descriptor.{physical}
use Rattle.blocks.specs.declared.numbers.Physical.{Physical}
use Rattle.blocks.specs.declared.descriptor.Descriptor.{Descriptor}
use Rattle.blocks.proofs.ByteLaws.{length_part, part_part, part_put, splice_whole, splice_join}
use Rattle.pieces.specs.declared.piece.Piece.{Piece}
use Rattle.pieces.specs.Span.{span_block, touched, piece_of, piece_in}
use Rattle.pieces.proofs.RunLaws.{splice_none}
use Rattle.pieces.proofs.SpanLaws.{begins, ends, reached, reached_none, reached_all, stands_is, next_is, in_block, in_bytes}
use Rattle.entries.specs.Entry.{found_block}
use Rattle.entries.specs.Found.{Found, Misplaced, Entry, entry_in}
use Rattle.entries.specs.declared.find.Slot.{Slot}
use Rattle.entries.specs.Through.{Through}
use Rattle.entries.proofs.EntryLaws.{found_inside}
use Rattle.calls.specs.Parts.{descriptors_of, found_through, block_found}
use Rattle.calls.specs.Spans.{gathered, span_bytes}
use Rattle.calls.proofs.CellLaws.{found_long}

-- a piece of zeros
pub part_zeros : (k first n : ℕ) → first + n ≤ k → part (replicate {A = ℕ} k 0) first n ≡ replicate n 0
part_zeros k zero zero h = refl
part_zeros (suc k) zero (suc n) h = ap (λ (xs : List ℕ). 0 ∷ xs) (part_zeros k 0 n (omega arith))
part_zeros zero zero (suc n) h = absurd (omega arith)
part_zeros zero (suc first) n h = absurd (omega arith)
part_zeros (suc k) (suc first) n h = part_zeros k first n (omega arith)

pub piece_nil : (c : List ℕ) (p first n : ℕ) (out : List ℕ) → eqb p 0 ≡ true → first + n ≤ 512 → out ≡ replicate n 0 → out ≡ part (pick (eqb p 0) zero_block (block_at c p)) first n
piece_nil c p first n out nil h e = e ∙ rw nil (sym (part_zeros 512 first n h))

-- a piece of a block
module _ (c : List ℕ) (p first n : ℕ) (some : eqb p 0 ≡ false) (fits : 512 * p + 512 ≤ length c) (h : first + n ≤ 512) where
  block_piece : part (pick (eqb p 0) zero_block (block_at c p)) first n ≡ part c (512 * p + first) n
  unfolding block_at
  block_piece = rw some (part_part c (512 * p) 512 first n h fits)

  pub piece_part : (out : List ℕ) → out ≡ part c (512 * p + first) (512 * p + first + n - (512 * p + first)) → out ≡ part (pick (eqb p 0) zero_block (block_at c p)) first n
  piece_part out e = let size : 512 * p + first + n - (512 * p + first) ≡ n = omega arith in e ∙ rw size (sym block_piece)

-- the block that is read, by the entry
pub block_by : (c : List ℕ) (f : Found) → block_found c f ≡ pick (eqb (found_block f) 0) zero_block (block_at c (found_block f))
unfolding block_found found_block
block_by c (Misplaced h) = refl
block_by c (Entry m p) = refl

-- and it is the block that the slot names
pub slot_block : (c : List ℕ) (d : Descriptor) (l : ℕ) (s : Slot) → entry_in s ≡ found_through c d l → s.entry ≡ physical (found_block (found_through c d l))
unfolding found_block
slot_block c d l s e = ap (λ (x : Found). physical (found_block x)) e

pub block_found_lem : (c : List ℕ) (d : Descriptor) (l : ℕ) (f : Found) → f ≡ found_through c d l → (p : Physical) → p ≡ physical (found_block f) → p ≡ physical (found_block (found_through c d l))
block_found_lem c d l f is p e = e ∙ ap (λ (x : Found). physical (found_block x)) is

-- a piece put where it stands
pub piece_put : (c : List ℕ) (f : Found) (o l : ℕ) (out y : List ℕ) (p : Physical) → p ≡ physical (found_block f) → 512 * l < o + length out → o < 512 * l + 512
    → (q : Piece) → q ≡ piece_of o (length out) l
    → y ≡ part (pick (eqb p.0 0) zero_block (block_at c p.0)) q.first (length (part out q.stands (q.stands + q.count - q.stands))) → length (block_found c f) ≡ 512
    → take q.stands out ++ (y ++ drop (q.stands + q.count - q.stands) (drop q.stands out)) ≡ splice out (512 * l - o) (piece_in (block_found c f) o (length out) l)
piece_put c f o l out y p is h k q q_is e long =
    let n = length out in
    let x = 512 * l in
    let count = min (512 - (o - x)) (n - (x - o)) in
    let stands : q.stands ≡ x - o = ap (λ (z : Piece). z.stands) q_is in
    let first : q.first ≡ o - x = ap (λ (z : Piece). z.first) q_is in
    let size : q.stands + q.count - q.stands ≡ count = omega (arith, ap (λ (z : Piece). z.count) q_is) in
    let lent : length (part out q.stands (q.stands + q.count - q.stands)) ≡ count =
    ap (λ (w : ℕ). length (part out q.stands w)) size ∙ length_part out q.stands count (omega (arith, stands, in_bytes o n x h k)) in
    let piece = piece_in (block_found c f) o n l in
    let lp : length piece ≡ count = length_part (block_found c f) (o - x) count (omega (arith, long, in_block o n x h k)) in
    let y_is : y ≡ piece = e ∙ rw (lent, first, is) (sym (ap (λ (b : List ℕ). part b (o - x) count) (block_by c f))) in
    let put : take q.stands out ++ (y ++ drop (q.stands + q.count - q.stands) (drop q.stands out)) ≡ splice out q.stands piece =
    part_put out q.stands (q.stands + q.count) y piece (omega (arith, lp, ap (λ (z : Piece). z.count) q_is)) (omega (arith, stands, in_bytes o n x h k, ap (λ (z : Piece). z.count) q_is))
    (y_is ∙ sym (splice_whole (part out q.stands (q.stands + q.count - q.stands)) piece (lp ∙ sym lent))) in
    put ∙ ap (λ (at : ℕ). splice out at piece) stands

-- the pieces of the first blocks: as many bytes as lie before the next one
module _ (c : List ℕ) (d : Descriptor) (o n : ℕ) (end : 512 * d.beta.0 ≤ length c) where
  piece_length : (i : ℕ) → i < touched o n
      → let x = 512 * span_block o i in
      length (piece_in (block_found c (found_through c d (span_block o i))) o n (span_block o i)) ≡ min (512 - (o - x)) (n - (x - o))
  piece_length i h =
      let x = 512 * span_block o i in
      length_part (block_found c (found_through c d (span_block o i))) (o - x) _ (omega (arith, found_long c (descriptors_of c) d end (span_block o i), in_block o n x (begins o n i h) (ends o i)))

  gathered_length : (i : ℕ) → i ≤ touched o n → length (gathered c d o n i) ≡ reached o n (span_block o i)
  unfolding gathered
  gathered_length zero h = sym (reached_none o n)
  gathered_length (suc i) h =
      let x = 512 * span_block o i in
      let e : 512 * span_block o (suc i) ≡ x + 512 = omega arith in
      length-append (gathered c d o n i) _ ∙ rw (gathered_length i (omega arith), piece_length i h, e) (sym (next_is o n x (begins o n i h) (ends o i)))

  pub gathered_none : (out : List ℕ) → out ≡ splice out 0 (gathered c d o n 0)
  unfolding gathered
  gathered_none out = sym (splice_none out 0)

  pub gathered_more : (i : ℕ) → i < touched o n → (out before after : List ℕ) → length out ≡ n → before ≡ splice out 0 (gathered c d o n i)
      → length before ≡ n → after ≡ splice before (512 * span_block o i - o) (piece_in (block_found c (found_through c d (span_block o i))) o (length before) (span_block o i))
      → after ≡ splice out 0 (gathered c d o n (i + 1))
  unfolding gathered
  gathered_more i h out before after long e same q =
      let x = 512 * span_block o i in
      let b = begins o n i h in
      let l = gathered_length i (omega arith) in
      let s = stands_is o n x b (ends o i) in
      let next : i + 1 ≡ suc i = omega arith in
      q ∙ ap (λ (k : ℕ). splice before (x - o) (piece_in (block_found c (found_through c d (span_block o i))) o k (span_block o i))) same
      ∙ rw (e, next) (splice_join out 0 (gathered c d o n i) (x - o) _ (omega (arith, l, s)) (omega (arith, piece_length i h, long, in_bytes o n x b (ends o i))))

  pub gathered_all : (i k : ℕ) → k ≡ touched o n → i ≤ k → k ≤ i → (out after : List ℕ) → length out ≡ n → after ≡ splice out 0 (gathered c d o n i) → after ≡ span_bytes c d o n
  unfolding span_bytes
  gathered_all i k t a b out after long e =
      let is : i ≡ touched o n = omega arith in
      e ∙ rw is (splice_whole out (gathered c d o n (touched o n)) (gathered_length (touched o n) (omega arith) ∙ reached_all o n ∙ sym long))

-- the block that an entry names is on the card, and a piece of it is no longer than a block
module _ (c starts : List ℕ) (count : ℕ) (d : Descriptor) (t : Through c starts count d) (l : ℕ) where
  inside_by : (f : Found) → found_through c d l ≡ f → (found_block f ≡ 0 → ⊥) → 512 * found_block f + 512 ≤ length c
  unfolding found_block
  inside_by (Misplaced h) e n = absurd (n refl)
  inside_by (Entry m p) e n = found_inside c starts count d t l (found_through c d l) refl m p e n

  pub block_ready : (p : Physical) → p ≡ physical (found_block (found_through c d l)) → (p.0 ≡ 0 → ⊥) → 512 * p.0 + 512 ≤ length c
  block_ready p is n =
      let e : p.0 ≡ found_block (found_through c d l) = ap (λ (x : Physical). x.0) is in
      rw e (inside_by (found_through c d l) refl (λ z. n (e ∙ z)))

  pub fill_ready : (o : ℕ) (out : List ℕ) → 512 * l < o + length out → o < 512 * l + 512 → (q : Piece) → q ≡ piece_of o (length out) l → (p : Physical) → p ≡ physical (found_block (found_through c d l))
      → (q.first + length (part out q.stands (q.stands + q.count - q.stands)) ≤ 512) × ((p.0 ≡ 0 → ⊥) → 512 * p.0 + 512 ≤ length c)
  fill_ready o out h k q q_is p is =
      let n = length out in
      let x = 512 * l in
      let count = min (512 - (o - x)) (n - (x - o)) in
      let counts : q.count ≡ count = ap (λ (z : Piece). z.count) q_is in
      let stands : q.stands ≡ x - o = ap (λ (z : Piece). z.stands) q_is in
      let size : q.stands + q.count - q.stands ≡ count = omega (arith, counts) in
      let lent : length (part out q.stands (q.stands + q.count - q.stands)) ≡ count =
      ap (λ (w : ℕ). length (part out q.stands w)) size ∙ length_part out q.stands count (omega (arith, stands, in_bytes o n x h k)) in
      (omega (arith, lent, ap (λ (z : Piece). z.first) q_is, in_block o n x h k), block_ready p is)
