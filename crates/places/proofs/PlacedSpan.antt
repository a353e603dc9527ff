-- A span over places: the Placed of the card after its first blocks is that of its own writes, and as long as there is room for one of the two sums they are the same.
use mathlib.Core.Path.{◌≡◌, refl, sym, ap, ◌∙◌}
use mathlib.Core.Bool.{Bool, true, false}
use mathlib.Core.List.{List}
use Prim.Native.Nat.{ℕ, zero, suc, ◌+◌, ◌*◌, ◌≤◌, ◌<◌}
use native.Mathlib.Omega.{arith}
use lib.ListN.{length, get_or}
use lib.Dec.{ltb}
use borrow.Author.Tests.{ltb-true, ltb-false}
use Rattle.blocks.specs.Bytes.{block_count, store_all}
use Rattle.blocks.specs.declared.descriptor.Descriptor.{Descriptor}
use Rattle.pieces.specs.Span.{span_block, merged}
use Rattle.pieces.proofs.SpanLaws.{inside}
use Rattle.chains.specs.Chain.{active_of}
use Rattle.calls.specs.Parts.{descriptors_of, found_through}
use Rattle.calls.specs.Check.{Passes}
use Rattle.calls.specs.Stores.{write_need}
use Rattle.calls.specs.Spans.{merged_on, span_stores, span_card, span_need, span_count, write_span_stores, write_span_need}
use Rattle.calls.proofs.CellLaws.{active_placed}
use Rattle.changes.proofs.SpanSteps.{card_next, need_next, span_at, span_write, active_then}
use Rattle.claims.specs.Kinds.{WritesSpan}
use Rattle.claims.specs.Claims.{blocks_needed}
use Rattle.claims.proofs.CheckClaims.{span_allowed}
use Rattle.places.specs.Placed.{Nil, content_of, Placed, placed_need, span_placed, span_need_placed, placed_write, with_volumes, placed_change, cell_place, placed_volume, placed_of, PlacedNeedClaim, PlacedSpanNeedClaim}
use Rattle.places.proofs.PlacedForget.{content_found}
use Rattle.places.proofs.PlacedLaws.{values_first}
use Rattle.places.proofs.PlacedNeed.{placed_need_claim}
use Rattle.places.proofs.PlacedWrite.{placed_write_lem}

-- what a span makes of a block, by the cell
merged_placed : (c : List ℕ) (o : ℕ) (bytes : List ℕ) (l : ℕ) → l < (active_of (descriptors_of c)).volume → merged_on c o bytes l ≡ merged (content_of (get_or (placed_of c).active.cells l Nil)) o bytes l
unfolding merged_on placed_of placed_volume cell_place
merged_placed c o bytes l h =
    let d = active_of (descriptors_of c) in
    ap (λ (x : List ℕ). merged x o bytes l) (sym (ap content_of (values_first (cell_place c d) d.volume l Nil h) ∙ content_found c (descriptors_of c) (found_through c d l)))

pub needs_placed : (c : List ℕ) → Passes c → (l : ℕ) → l < (active_of (descriptors_of c)).volume → write_need c l ≡ placed_need (placed_of c) l
unfolding write_need PlacedNeedClaim
needs_placed c p l h = sym (placed_need_claim c l p.sound h (active_placed c p l h))

module _ (c : List ℕ) (p : Passes c) (o : ℕ) (bytes : List ℕ) (upto : o + length bytes ≤ 512 * (active_of (descriptors_of c)).volume) where
  abbrev d : Descriptor
  d = active_of (descriptors_of c)

  abbrev Fits : ℕ → Type 0
  Fits n = d.beta.0 + n ≤ block_count c

  abbrev Matches : ℕ → Type 0
  Matches i = (placed_of (span_card c o bytes i) ≡ span_placed (placed_of c) o bytes i) × (span_need c o bytes i ≡ span_need_placed (placed_of c) o bytes i)

  next_placed : (i : ℕ) → span_need_placed (placed_of c) o bytes (suc i) ≡ span_need_placed (placed_of c) o bytes i + placed_need (span_placed (placed_of c) o bytes i) (span_block o i)
  unfolding span_need_placed
  next_placed i = refl

  -- the block after those that match takes the same
  same_next : (i : ℕ) → i < span_count o bytes → Fits (span_need c o bytes i) → Matches i → span_need c o bytes (suc i) ≡ span_need_placed (placed_of c) o bytes (suc i)
  same_next i k room m =
      let s = span_card c o bytes i in
      let at = span_at c o bytes p upto i (omega arith) room in
      let volume : (active_of (descriptors_of s)).volume ≡ d.volume = ap (λ (x : Descriptor). x.volume) (active_then c o bytes i at) in
      let below : span_block o i < (active_of (descriptors_of s)).volume = omega (arith, inside o (length bytes) d.volume i upto k, volume) in
      need_next c o bytes i ∙ (rw (m.1, needs_placed s at.passes (span_block o i) below, m.0) (sym (next_placed i)))

  matches : (i : ℕ) → i ≤ span_count o bytes → Fits (span_need c o bytes i) → Matches i
  unfolding span_stores store_all span_need span_placed span_need_placed placed_change
  matches zero k room = (refl, refl)
  matches (suc i) k room =
      let before : Fits (span_need c o bytes i) = omega (arith, room, need_next c o bytes i) in
      let m = matches i (omega arith) before in
      let s = span_card c o bytes i in
      let l = span_block o i in
      let w = span_write c o bytes p upto i k room in
      let at = span_at c o bytes p upto i (omega arith) before in (
        ap placed_of (card_next c o bytes i) ∙ placed_write_lem s l (merged_on s o bytes l) at.passes w
            ∙ ap (λ (b : List ℕ). with_volumes (placed_of s) (placed_of s).snapshots (placed_write (placed_of s) l b)) (merged_placed s o bytes l w.below)
            ∙ ap (λ (q : Placed). with_volumes q q.snapshots (placed_write q l (merged (content_of (get_or q.active.cells l Nil)) o bytes l))) m.0,
        same_next i k before m,
      )

  pub placed_span : d.beta.0 + write_span_need c o bytes ≤ block_count c → placed_of (store_all c (write_span_stores c o bytes)) ≡ placed_change (WritesSpan o bytes) (placed_of c)
  unfolding write_span_stores write_span_need placed_change
  placed_span room = (matches (span_count o bytes) (omega arith) room).0

  -- where there is room by places there is room on the card
  back : (i : ℕ) → i ≤ span_count o bytes → Fits (span_need_placed (placed_of c) o bytes i) → span_need c o bytes i ≡ span_need_placed (placed_of c) o bytes i
  unfolding span_need span_need_placed
  back zero k room = refl
  back (suc i) k room =
      let before : Fits (span_need_placed (placed_of c) o bytes i) = omega (arith, room, next_placed i) in
      let same = back i (omega arith) before in
      let fits : Fits (span_need c o bytes i) = omega (arith, before, same) in
      same_next i k fits (matches i (omega arith) fits)

  abbrev lacks : ℕ → Bool
  lacks n = ltb (block_count c) (d.beta.0 + n)

  room_by : (i : ℕ) → i ≤ span_count o bytes → (x y : Bool) → lacks (span_need c o bytes i) ≡ x → lacks (span_need_placed (placed_of c) o bytes i) ≡ y → x ≡ y
  room_by i k true true e f = refl
  room_by i k false false e f = refl
  room_by i k true false e f =
      let a = ltb-true (block_count c) (d.beta.0 + span_need c o bytes i) e in
      let b = ltb-false (block_count c) (d.beta.0 + span_need_placed (placed_of c) o bytes i) f in
      absurd (omega (arith, a, b, back i k b))
  room_by i k false true e f =
      let a = ltb-false (block_count c) (d.beta.0 + span_need c o bytes i) e in
      let b = ltb-true (block_count c) (d.beta.0 + span_need_placed (placed_of c) o bytes i) f in
      absurd (omega (arith, a, b, (matches i k a).1))

  pub span_room : lacks (write_span_need c o bytes) ≡ lacks (span_need_placed (placed_of c) o bytes (span_count o bytes))
  unfolding write_span_need
  span_room = room_by (span_count o bytes) (omega arith) _ _ refl refl

pub placed_span_need_claim : PlacedSpanNeedClaim
unfolding PlacedSpanNeedClaim blocks_needed write_span_need
placed_span_need_claim c o bytes e =
    let s = span_allowed c o bytes e in
    sym (matches c s.passes o bytes s.upto (span_count o bytes) (omega arith) s.room).1
