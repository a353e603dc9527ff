-- A volume as one run of bytes: a span read gives a part of it, and the ledger of the card after an accepted span write is the ledger's own step, which patches it.
use mathlib.Core.Path.{◌≡◌, refl, sym, ap, ◌∙◌}
use mathlib.Core.List.{List, []}
use Prim.Native.Nat.{ℕ, zero, suc, ◌+◌, ◌*◌, ◌-◌, ◌≤◌, ◌<◌, min}
use native.Mathlib.Omega.{arith}
use lib.ListN.{length, take, get_or, set, length-set}
use lib.Seq.{take-length}
use Rattle.blocks.specs.Bytes.{part, splice, store_all}
use Rattle.blocks.specs.declared.descriptor.Descriptor.{Descriptor}
use Rattle.pieces.specs.Span.{run_of, span_block, touched, piece_in, merged}
use Rattle.pieces.proofs.RunLaws.{Whole, splice_none, run_length, part_block, block_part, run_set, whole_set}
use Rattle.pieces.proofs.SpanLaws.{begins, ends, inside, reached, reached_none, reached_all, in_block, read_next, write_next, merged_length}
use Rattle.chains.specs.Chain.{active_of}
use Rattle.calls.specs.Parts.{descriptors_of, found_through, block_found}
use Rattle.calls.specs.Spans.{gathered, span_bytes, merged_on, span_stores, span_card, span_count, write_span_stores}
use Rattle.calls.proofs.CellLaws.{found_long}
use Rattle.changes.proofs.SpanSteps.{SpanPassed, card_next, passed_at, passed_write}
use Rattle.claims.specs.Kinds.{Writes, WritesSpan}
use Rattle.claims.specs.Ledger.{Ledger, changed_at, span_cells, with_cells, ledger_change, volume_of, ledger_of}
use Rattle.claims.proofs.LedgerLaws.{changed_set, changed_is, cells_length, cell_of}
use Rattle.claims.proofs.LedgerWrite.{ledger_write}

-- the cells of a volume that is read through a descriptor whose region ends on the card
module _ (c : List ℕ) (d : Descriptor) (end : 512 * d.beta.0 ≤ length c) where
  abbrev cells : List (List ℕ)
  cells = (volume_of c d).cells

  pub cells_count : length cells ≡ d.volume
  unfolding volume_of
  cells_count = cells_length c d d.volume 0

  pub cells_whole : Whole cells
  cells_whole l h = ap length (cell_of c d l (omega (arith, cells_count))) ∙ found_long c (descriptors_of c) d end l

  -- a span read: the pieces are parts of the run
  module _ (o n : ℕ) (upto : o + n ≤ 512 * d.volume) where
    gathered_at : (i : ℕ) → i ≤ touched o n → gathered c d o n i ≡ part (run_of cells) o (reached o n (span_block o i))
    unfolding gathered
    gathered_at zero h = ap (part (run_of cells) o) (sym (reached_none o n))
    gathered_at (suc i) h =
        let l = span_block o i in
        let x = 512 * l in
        let b = begins o n i h in
        let e = ends o i in
        let here : l < d.volume = inside o n d.volume i upto h in
        let piece : piece_in (block_found c (found_through c d l)) o n l ≡ part (run_of cells) (x + (o - x)) (min (512 - (o - x)) (n - (x - o))) =
        ap (λ (y : List ℕ). piece_in y o n l) (sym (cell_of c d l here)) ∙ sym (part_block cells cells_whole l (omega (arith, here, cells_count)) (o - x) _ (in_block o n x b e)) in
        let next : 512 * span_block o (suc i) ≡ x + 512 = omega arith in
        rw (gathered_at i (omega arith), piece, next) (read_next o n x b e (run_of cells))

    pub span_part : span_bytes c d o n ≡ part (run_of cells) o n
    unfolding span_bytes
    span_part = gathered_at (touched o n) (omega arith) ∙ ap (part (run_of cells) o) (reached_all o n)

-- a run with a span's bytes in it
abbrev keep : (List ℕ → List ℕ) → List ℕ → List ℕ
keep f old = f old

module _ (cells : List (List ℕ)) (whole : Whole cells) (o : ℕ) (bytes : List ℕ) (upto : o + length bytes ≤ 512 * length cells) where
  abbrev n : ℕ
  n = length bytes

  pub record Patched (i : ℕ) : Type 0 where
    pub count : length (span_cells keep cells o bytes i) ≡ length cells
    pub blocks : Whole (span_cells keep cells o bytes i)
    pub run : run_of (span_cells keep cells o bytes i) ≡ splice (run_of cells) o (take (reached o n (span_block o i)) bytes)

  first_patched : Patched 0
  unfolding span_cells
  first_patched = record { count = refl; blocks = whole; run = rw (reached_none o n) (sym (splice_none (run_of cells) o)) }

  merged_run : (cs : List (List ℕ)) → Whole cs → (l : ℕ) → l < length cs
      → merged (get_or cs l []) o bytes l ≡ splice (part (run_of cs) (512 * l) 512) (o - 512 * l) (part bytes (512 * l - o) (min (512 - (o - 512 * l)) (n - (512 * l - o))))
  unfolding merged
  merged_run cs w l h = rw (block_part cs w l h)

  next_patched : (i : ℕ) → i < touched o n → Patched i → Patched (suc i)
  unfolding span_cells
  next_patched i h p =
      let l = span_block o i in
      let x = 512 * l in
      let cs = span_cells keep cells o bytes i in
      let here : l < length cs = omega (arith, inside o n (length cells) i upto h, p.count) in
      let block = merged (get_or cs l []) o bytes l in
      let long : length block ≡ 512 = merged_length (get_or cs l []) o bytes i (p.blocks l here) h in
      let is : changed_at cs l (λ old. merged old o bytes l) ≡ set cs l block = changed_is cs l (λ old. merged old o bytes l) [] block here refl in
      let next : 512 * span_block o (suc i) ≡ x + 512 = omega arith in
      let all : length (run_of cells) ≡ 512 * length cells = run_length cells whole in
      record {
        count = ap length is ∙ length-set cs l block ∙ p.count;
        blocks = rw is (whole_set cs p.blocks l block long);
        run =
            ap run_of is ∙ run_set cs p.blocks l here block long
            ∙ rw (next) (ap (splice (run_of cs) x) (merged_run cs p.blocks l here)
            ∙ write_next o n x (begins o n i h) (ends o i) (run_of cells) (run_of cs) bytes refl (omega (arith, upto, all)) (omega (arith, here, p.count, all)) p.run);
      }

  patched_at : (i : ℕ) → i ≤ touched o n → Patched i
  patched_at zero h = first_patched
  patched_at (suc i) h = next_patched i h (patched_at i (omega arith))

  pub patched_run : run_of (span_cells keep cells o bytes (touched o n)) ≡ splice (run_of cells) o bytes
  patched_run = (patched_at (touched o n) (omega arith)).run ∙ rw (reached_all o n, take-length bytes)

  pub patched_count : length (span_cells keep cells o bytes (touched o n)) ≡ length cells
  patched_count = (patched_at (touched o n) (omega arith)).count

  pub patched_whole : Whole (span_cells keep cells o bytes (touched o n))
  patched_whole = (patched_at (touched o n) (omega arith)).blocks

-- a span write on a card that passes
module _ (c : List ℕ) (o : ℕ) (bytes : List ℕ) (ok : SpanPassed c o bytes) where
  abbrev g : Ledger
  g = ledger_of c

  abbrev then : ℕ → Ledger
  then i = with_cells g (span_cells keep g.active.cells o bytes i)

  active_count : (s : List ℕ) → length (ledger_of s).active.cells ≡ (active_of (descriptors_of s)).volume
  unfolding ledger_of volume_of
  active_count s = cells_length s (active_of (descriptors_of s)) (active_of (descriptors_of s)).volume 0

  read_there : (s : List ℕ) (l : ℕ) → l < (active_of (descriptors_of s)).volume → merged (get_or (ledger_of s).active.cells l []) o bytes l ≡ merged_on s o bytes l
  unfolding ledger_of merged_on
  read_there s l h = ap (λ (x : List ℕ). merged x o bytes l) (cell_of s (active_of (descriptors_of s)) l h)

  ledger_at : (i : ℕ) → i ≤ span_count o bytes → ledger_of (span_card c o bytes i) ≡ then i
  unfolding span_stores store_all span_cells ledger_change
  ledger_at zero h = refl
  ledger_at (suc i) h =
      let s = span_card c o bytes i in
      let l = span_block o i in
      let w = passed_write c o bytes ok i h in
      let block = merged_on s o bytes l in
      let before = ledger_at i (omega arith) in
      let cs = span_cells keep g.active.cells o bytes i in
      let same : (ledger_of s).active.cells ≡ cs = ap (λ (x : Ledger). x.active.cells) before in
      let d = active_of (descriptors_of s) in
      let count : length cs ≡ d.volume = ap length (sym same) ∙ active_count s in
      let content : merged (get_or cs l []) o bytes l ≡ block = ap (λ (x : List (List ℕ)). merged (get_or x l []) o bytes l) (sym same) ∙ read_there s l w.below in
      ap ledger_of (card_next c o bytes i) ∙ ledger_write s l block (passed_at c o bytes ok i (omega arith)).passes w
      ∙ ap (ledger_change (Writes l block)) before
      ∙ ap (with_cells g) (changed_set cs l block ∙ sym (changed_is cs l (λ old. merged old o bytes l) [] block (omega (arith, count, w.below)) content))

  pub ledger_span : ledger_of (store_all c (write_span_stores c o bytes)) ≡ ledger_change (WritesSpan o bytes) g
  unfolding write_span_stores ledger_change
  ledger_span = ledger_at (span_count o bytes) (omega arith)
