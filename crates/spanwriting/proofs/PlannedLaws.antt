-- What the code counts on the card at entry is what the blocks take, each counted after those before it: by places, where a write touches one cell and one table alone.
use mathlib.Core.Path.{◌≡◌, refl, sym, ap, ◌∙◌}
use mathlib.Core.Bool.{Bool, true, false, ◌||◌}
use mathlib.Core.List.{List}
use Prim.Native.Nat.{ℕ, zero, suc, ◌+◌, ◌*◌, ◌/◌, ◌%◌, ◌≤◌, ◌<◌, min}
use native.Mathlib.Omega.{arith}
use lib.ListN.{length, get_or, length-set}
use lib.Seq.{get_or-set_same, get_or-set_other}
use lib.Dec.{eqb, ltb}
use borrow.Author.Tests.{eq-eqb, ne_eqb, eqb-true, eqb-false}
use Rattle.blocks.specs.Pick.{pick}
use Rattle.blocks.specs.Bytes.{block_count}
use Rattle.blocks.specs.Descriptor.{table_count}
use Rattle.blocks.specs.declared.descriptor.Descriptor.{Descriptor}
use Rattle.pieces.specs.Span.{span_block, touched}
use Rattle.pieces.proofs.SpanLaws.{inside}
use Rattle.chains.specs.Chain.{active_of}
use Rattle.entries.proofs.TableLaws.{group_below}
use Rattle.calls.specs.Parts.{descriptors_of}
use Rattle.calls.specs.Check.{Passes}
use Rattle.calls.specs.Spans.{write_span_need}
use Rattle.claims.specs.History.{Position, Nowhere, At}
use Rattle.places.specs.Placed.{Nil, home_of, is_at, Placed, placed_need, placed_write, span_placed, span_need_placed, table_place, placed_volume, placed_of}
use Rattle.places.proofs.PlacedLaws.{values_length}
use Rattle.places.proofs.PlacedSpan.{needs_placed, span_room}
use Rattle.spanwriting.specs.Planned.{counted_at, planned_need}

-- after the first i blocks: the snapshots are as they were, so are the cells from the next block on and the tables of other groups, and the last block's table is of the
-- active region
module _ (p : Placed) (o : ℕ) (bytes : List ℕ) where
  abbrev k : ℕ
  k = length p.snapshots

  abbrev after : ℕ → Placed
  after i = span_placed p o bytes i

  same_snapshots : (i : ℕ) → (after i).snapshots ≡ p.snapshots
  unfolding span_placed
  same_snapshots zero = refl
  same_snapshots (suc i) = same_snapshots i

  same_index : (i : ℕ) → length (after i).snapshots ≡ k
  same_index i = ap length (same_snapshots i)

  cells_later : (i l : ℕ) → span_block o i ≤ l → get_or (after i).active.cells l Nil ≡ get_or p.active.cells l Nil
  unfolding span_placed placed_write
  cells_later zero l h = refl
  cells_later (suc i) l h = get_or-set_other (after i).active.cells (span_block o i) l _ Nil (omega arith) ∙ cells_later i l (omega arith)

  tables_long : (i : ℕ) → length (after i).active.tables ≡ length p.active.tables
  unfolding span_placed placed_write
  tables_long zero = refl
  tables_long (suc i) = length-set (after i).active.tables (span_block o i / 128) _ ∙ tables_long i

  tables_other : (i g : ℕ) → ((j : ℕ) → j < i → span_block o j / 128 ≡ g → ⊥) → get_or (after i).active.tables g Nowhere ≡ get_or p.active.tables g Nowhere
  unfolding span_placed placed_write
  tables_other zero g h = refl
  tables_other (suc i) g h = get_or-set_other (after i).active.tables (span_block o i / 128) g _ Nowhere (λ q. h i (omega arith) (sym q)) ∙ tables_other i g (λ j q. h j (omega arith))

  table_made : (i : ℕ) → span_block o i / 128 < length p.active.tables → get_or (after (suc i)).active.tables (span_block o i / 128) Nowhere ≡ At k
  unfolding span_placed placed_write
  table_made i h = get_or-set_same (after i).active.tables (span_block o i / 128) _ Nowhere (omega (arith, tables_long i, h)) ∙ ap At (same_index i)

  -- what block i takes then
  abbrev by : ℕ → Position → Position → ℕ
  by n cell table = pick (is_at n cell) 0 (pick (is_at n table) 1 2)

  need_then : (i : ℕ) → (table : Position) → get_or (after i).active.tables (span_block o i / 128) Nowhere ≡ table
      → placed_need (after i) (span_block o i) ≡ by k (home_of (get_or p.active.cells (span_block o i) Nil)) table
  unfolding placed_need
  need_then i table e = rw (same_index i, cells_later i (span_block o i) (omega arith), e)

  need_at : (l : ℕ) → placed_need p l ≡ by k (home_of (get_or p.active.cells l Nil)) (get_or p.active.tables (l / 128) Nowhere)
  unfolding placed_need
  need_at l = refl

  same_need : (i : ℕ) → ((j : ℕ) → j < i → span_block o j / 128 ≡ span_block o i / 128 → ⊥) → placed_need (after i) (span_block o i) ≡ placed_need p (span_block o i)
  same_need i h = need_then i _ (tables_other i (span_block o i / 128) h) ∙ sym (need_at (span_block o i))

  own_by : (own new : Bool) → pick {A = ℕ} own 0 (pick true 1 2) ≡ min (pick own 0 (pick new 1 2)) 1
  own_by true new = omega arith
  own_by false true = omega arith
  own_by false false = omega arith

  is_at_lem : is_at k (At k) ≡ true
  unfolding is_at
  is_at_lem = eq-eqb k k refl

  made_need : (i : ℕ) → span_block o i / 128 ≡ span_block o (suc i) / 128 → span_block o i / 128 < length p.active.tables
      → placed_need (after (suc i)) (span_block o (suc i)) ≡ min (placed_need p (span_block o (suc i))) 1
  made_need i g h =
      let l = span_block o (suc i) in
      need_then (suc i) (At k) (ap (λ (x : ℕ). get_or (after (suc i)).active.tables x Nowhere) (sym g) ∙ table_made i h)
      ∙ ap (λ (b : Bool). pick (is_at k (home_of (get_or p.active.cells l Nil))) 0 (pick b 1 2)) is_at_lem
      ∙ own_by (is_at k (home_of (get_or p.active.cells l Nil))) (is_at k (get_or p.active.tables (l / 128) Nowhere))
      ∙ ap (λ (n : ℕ). min n 1) (sym (need_at l))

  counted_by : (i : ℕ) → span_block o i / 128 < length p.active.tables → (z : Bool) → eqb (span_block o i % 128) 0 ≡ z
      → placed_need (after i) (span_block o i) ≡ pick (eqb i 0 || z) (placed_need p (span_block o i)) (min (placed_need p (span_block o i)) 1)
  counted_by zero h true e = same_need 0 (λ j q. absurd (omega arith))
  counted_by zero h false e = same_need 0 (λ j q. absurd (omega arith))
  counted_by (suc i) h true e =
      let g = eqb-true (span_block o (suc i) % 128) 0 e in
      rw (ne_eqb (suc i) 0 (λ q. omega arith)) (same_need (suc i) (λ j q f. omega (arith, q, f, g)))
  counted_by (suc i) h false e =
      let g = eqb-false (span_block o (suc i) % 128) 0 e in
      let f : span_block o i / 128 ≡ span_block o (suc i) / 128 = omega (arith, g) in
      rw (ne_eqb (suc i) 0 (λ q. omega arith)) (made_need i f (omega (arith, h, f)))

module _ (c : List ℕ) (passes : Passes c) (o : ℕ) (bytes : List ℕ) (upto : o + length bytes ≤ 512 * (active_of (descriptors_of c)).volume) where
  abbrev d : Descriptor
  d = active_of (descriptors_of c)

  tables_are : length (placed_of c).active.tables ≡ table_count d.volume
  unfolding placed_of placed_volume
  tables_are = values_length (table_place c d) (table_count d.volume) 0

  counted_is : (i : ℕ) → i < touched o (length bytes) → placed_need (span_placed (placed_of c) o bytes i) (span_block o i) ≡ counted_at c o i
  unfolding counted_at
  counted_is i h =
      let l = span_block o i in
      let below : l < d.volume = inside o (length bytes) d.volume i upto h in
      rw (needs_placed c passes l below)
      (counted_by (placed_of c) o bytes i (omega (arith, tables_are, group_below l d.volume below)) (eqb (l % 128) 0) refl)

  planned_is : (i : ℕ) → i ≤ touched o (length bytes) → span_need_placed (placed_of c) o bytes i ≡ planned_need c o i
  unfolding span_need_placed planned_need
  planned_is zero h = refl
  planned_is (suc i) h = rw (planned_is i (omega arith), counted_is i h)

  -- there is room for the one sum exactly where there is for the other
  pub planned_room : (n : ℕ) → n ≡ planned_need c o (touched o (length bytes)) → ltb (block_count c) (d.beta.0 + write_span_need c o bytes) ≡ ltb (block_count c) (d.beta.0 + n)
  planned_room n e =
      span_room c passes o bytes upto
      ∙ ap (λ (x : ℕ). ltb (block_count c) (d.beta.0 + x)) (planned_is (touched o (length bytes)) (omega arith) ∙ sym e)
