-- What a span read gives, on every card, as the reads of its blocks give it; spans of no byte; the ledger's run, and the cells that a span write changes.
use mathlib.Core.Path.{◌≡◌, refl, sym, ap, ◌∙◌, subst}
use mathlib.Core.Logic.{◌↔◌}
use mathlib.Core.Bool.{Bool, true, false, not, ◌&&◌, ◌||◌}
use mathlib.Core.List.{List, [], ◌∷◌}
use Prim.Native.Nat.{ℕ, zero, suc, ◌+◌, ◌*◌, ◌-◌, ◌/◌, ◌%◌, ◌≤◌, ◌<◌}
use native.Mathlib.Omega.{arith}
use lib.ListN.{length, get_or}
use lib.Dec.{eqb}
use borrow.Author.Tests.{eq-eqb, eqb-true, eqb-false, le-ltb, lt-leb}
use Rattle.blocks.specs.Pick.{pick}
use Rattle.blocks.specs.Bytes.{block_count, store_all}
use Rattle.blocks.specs.Name.{is_name}
use Rattle.blocks.specs.declared.descriptor.Descriptor.{Descriptor}
use Rattle.blocks.proofs.Tests.{and_right}
use Rattle.blocks.proofs.ByteLaws.{length_part, part_at, blocks_long}
use Rattle.pieces.specs.Span.{run_of, span_block, touched, merged}
use Rattle.pieces.proofs.RunLaws.{run_length, block_part}
use Rattle.chains.specs.Chain.{chain, chain_sound, named, active_of}
use Rattle.calls.specs.Call.{Target, Call, Read, SpanRead, SpanWrite, Lent, Block, accepted}
use Rattle.calls.specs.Parts.{area_bad, descriptors_of, snapshots_of, is_snapshot, target_of, found_through, is_misplaced, block_found}
use Rattle.calls.specs.Check.{Passes}
use Rattle.calls.specs.Spans.{gathered, span_bytes, span_stores, span_need, write_span_stores, write_span_need, span_verdict}
use Rattle.calls.specs.Ladder.{first_row, admission, read_rows}
use Rattle.calls.specs.Meaning.{rows_of, answer_of, lent_of, filled_of, stores_of}
use Rattle.calls.specs.Step.{Done, step, is_accepted}
use Rattle.calls.proofs.Passed.{SpanReadPassed, span_read_passed}
use Rattle.calls.proofs.StepLaws.{step_lent}
use Rattle.calls.proofs.CardLaws.{chain_is}
use Rattle.calls.proofs.ActiveLaws.{active_end, target_member, chain_some, volume_at, region_below}
use Rattle.claims.specs.Kinds.{kind_of}
use Rattle.claims.specs.Ledger.{Volume, changed_at, span_cells, change_by, ledger_step, ledger_change, run_read, volume_of, ledger_of}
use Rattle.claims.specs.Claims.{comes_to_chain}
use Rattle.claims.specs.Spans.{TouchedClaim, SpanReadClaim, EmptySpanClaim, SpanPatches, SpanLedgerClaim, SpanCellClaim}
use Rattle.claims.proofs.CheckClaims.{span_allowed}
use Rattle.claims.proofs.LedgerLaws.{cell_of}
use Rattle.claims.proofs.LedgerFacts.{volume_read_lem}
use Rattle.claims.proofs.LedgerSpan.{cells_count, cells_whole, span_part, patched_run, patched_count, patched_whole}
use Rattle.claims.proofs.Places.{given_name}
use Rattle.claims.proofs.SpanRows.{all_placed, read_accepts}
use Rattle.claims.proofs.SpanClaims.{byte_among, touched_claim, answer_is}

-- the volume of the descriptor that a call goes through, on a card with a sound chain
module _ (c : List ℕ) (sound : chain_sound (chain c) ≡ true) (target : Target) (name : List ℕ) (there : (is_snapshot target && not (named (snapshots_of (descriptors_of c)) name)) ≡ false) where
  abbrev ds : List Descriptor
  ds = descriptors_of c

  abbrev d : Descriptor
  d = target_of ds target name

  target_volume : d.volume ≡ (active_of ds).volume
  target_volume =
      let is = chain_is (chain c) sound in
      let m = target_member ds (chain_some c ds is) target name there in
      ap (λ (x : Descriptor). x.volume) m.2 ∙ volume_at c ds is m.0 m.1

  target_end : 512 * d.beta.0 ≤ length c
  target_end =
      let is = chain_is (chain c) sound in
      let m = target_member ds (chain_some c ds is) target name there in
      let upto : d.beta.0 ≤ (active_of ds).beta.0 = subst (λ (x : Descriptor). x.beta.0 ≤ (active_of ds).beta.0) (sym m.2) (region_below c ds is m.0 m.1).upto in
      blocks_long c d.beta.0 (omega (arith, upto, active_end c ds is))

  run_long : length (run_of (volume_of c d).cells) ≡ 512 * (active_of ds).volume
  run_long = run_length (volume_of c d).cells (cells_whole c d target_end) ∙ ap (λ (x : ℕ). 512 * x) (cells_count c d target_end ∙ target_volume)

  -- byte j of a span is a byte of its block
  module _ (o n : ℕ) (upto : o + n ≤ 512 * (active_of ds).volume) where
    in_volume : o + n ≤ 512 * d.volume
    in_volume = omega (arith, upto, target_volume)

    pub bytes_long : length (span_bytes c d o n) ≡ n
    bytes_long = ap length (span_part c d target_end o n in_volume) ∙ length_part (run_of (volume_of c d).cells) o n (omega (arith, upto, run_long))

    pub byte_of : (j : ℕ) → j < n → get_or (span_bytes c d o n) j 0 ≡ get_or (block_found c (found_through c d ((o + j) / 512))) ((o + j) % 512) 0
    byte_of j h =
        let l = (o + j) / 512 in
        let a = (o + j) % 512 in
        let cells = (volume_of c d).cells in
        let below : l < d.volume = omega (arith, in_volume) in
        let at : o + j ≡ 512 * l + a = omega arith in
        ap (λ (x : List ℕ). get_or x j 0) (span_part c d target_end o n in_volume) ∙ part_at (run_of cells) o n j h ∙ ap (λ (x : ℕ). get_or (run_of cells) x 0) at
        ∙ sym (part_at (run_of cells) (512 * l) 512 a (omega arith))
        ∙ ap (λ (x : List ℕ). get_or x a 0) (block_part cells (cells_whole c d target_end) l (omega (arith, below, cells_count c d target_end)) ∙ cell_of c d l below)

-- an accepted span read
module _ (c : List ℕ) (target : Target) (name : List ℕ) (o : ℕ) (bytes : List ℕ) where
  abbrev through : Descriptor
  through = target_of (descriptors_of c) target name

  abbrev call : Call
  call = SpanRead target name o bytes

  module _ (ok : answer_of call c ≡ accepted) where
    shown : SpanReadPassed c target name o bytes
    shown = span_read_passed c target name o bytes (ap is_accepted ok)

    called : (is_snapshot target && not (is_name name)) ≡ false
    unfolding comes_to_chain
    called = given_name (is_snapshot target) (is_name name) (and_right (not (area_bad c)) (not (is_snapshot target) || is_name name) ((read_accepts c target name o bytes).0 ok).0)

    lent_is : (step call c).outcome.lent ≡ Block (span_bytes c through o (length bytes))
    unfolding filled_of
    lent_is = step_lent call c ∙ rw ok

    module _ (j : ℕ) (h : j < length bytes) (block : List ℕ) (long : length block ≡ 512) where
      abbrev l : ℕ
      l = (o + j) / 512

      placed : is_misplaced (found_through c through l) ≡ false
      unfolding span_verdict
      placed =
          let i = l - o / 512 in
          let e : span_block o 0 + i ≡ l = omega arith in
          rw e at (all_placed c through (touched o (length bytes)) (span_block o 0) shown.in_place i (byte_among o (length bytes) (o + j) (omega arith) (omega arith)))

      read_accepted : answer_of (Read target name l block) c ≡ accepted
      unfolding answer_of rows_of admission read_rows first_row
      read_accepted =
          rw (shown.area, called, eq-eqb (length block) 512 long, shown.sound, shown.there, lt-leb (active_of (descriptors_of c)).volume l (omega (arith, shown.upto)), placed)

      read_lent : (step (Read target name l block) c).outcome.lent ≡ Block (block_found c (found_through c through l))
      unfolding filled_of
      read_lent = step_lent (Read target name l block) c ∙ rw read_accepted

pub span_read_claim : SpanReadClaim
unfolding SpanReadClaim
span_read_claim c target name o bytes =
    record {
      accepts = read_accepts c target name o bytes;
      fills = λ ok.
          let s = shown c target name o bytes ok in
          let n = length bytes in (
            span_bytes c (target_of (descriptors_of c) target name) o n,
            lent_is c target name o bytes ok,
            bytes_long c s.sound target name s.there o n s.upto,
            λ j h block long. (
              block_found c (found_through c (target_of (descriptors_of c) target name) ((o + j) / 512)),
              read_accepted c target name o bytes ok j h block long,
              read_lent c target name o bytes ok j h block long,
              byte_of c s.sound target name s.there o n s.upto j h,
            ),
          );
    }

-- spans of no byte
none_touched : (o : ℕ) → touched o 0 ≡ 0
unfolding touched
none_touched o = refl

module _ (c : List ℕ) (o : ℕ) where
  none_needed : write_span_need c o [] ≡ 0
  unfolding write_span_need span_need touched
  none_needed = refl

  none_stored : stores_of (SpanWrite o []) c ≡ []
  unfolding stores_of write_span_stores span_stores touched
  none_stored = refl

  none_filled : (target : Target) (name : List ℕ) → filled_of (SpanRead target name o []) c ≡ Block []
  unfolding filled_of span_bytes gathered touched
  none_filled target name = refl

  card_by : (b : Bool) (x y : Done) → x.card ≡ c → y.card ≡ c → (pick b x y).card ≡ c
  card_by true x y e f = e
  card_by false x y e f = f

  unchanged : (step (SpanWrite o []) c).card ≡ c
  unfolding step store_all
  unchanged = card_by (is_accepted (answer_of (SpanWrite o []) c)) _ _ (ap (store_all c) none_stored) refl

  lent_by : (b : Bool) (x y : Lent) → x ≡ Block [] → y ≡ Block [] → pick b x y ≡ Block []
  lent_by true x y e f = e
  lent_by false x y e f = f

  nothing : (target : Target) (name : List ℕ) → (step (SpanRead target name o []) c).outcome.lent ≡ Block []
  unfolding lent_of
  nothing target name =
      step_lent (SpanRead target name o []) c ∙ lent_by (is_accepted (answer_of (SpanRead target name o []) c)) (filled_of (SpanRead target name o []) c) (Block []) (none_filled target name) refl

  empty_write : (answer_of (SpanWrite o []) c ≡ accepted) ↔ (Passes c × (o ≤ 512 * (active_of (descriptors_of c)).volume))
  empty_write = (
    λ e. let s = span_allowed c o [] (ap is_accepted e) in (s.passes, omega (arith, s.upto)),
    λ s.
        let end = active_end c (descriptors_of c) (chain_is (chain c) s.0.sound) in
        answer_is c o [] s.0 (omega (arith, s.1))
        ∙ rw (le-ltb (block_count c) ((active_of (descriptors_of c)).beta.0 + write_span_need c o []) (omega (arith, end, none_needed))),
  )

  empty_read : (target : Target) (name : List ℕ)
      → (answer_of (SpanRead target name o []) c ≡ accepted)
      ↔ ((comes_to_chain (SpanRead target name o []) c ≡ true) × (chain_sound (chain c) ≡ true) × ((not (is_snapshot target) || named (snapshots_of (descriptors_of c)) name) ≡ true)
      × (o ≤ 512 * (active_of (descriptors_of c)).volume))
  empty_read target name =
      let r = read_accepts c target name o [] in (
        λ e. let s = r.0 e in (s.0, s.1, s.2, omega (arith, s.3)),
        λ s. r.1 (s.0, s.1, s.2, omega (arith, s.3), λ i h b n. absurd (omega (arith, b, none_touched o))),
      )

pub empty_span_claim : EmptySpanClaim
unfolding EmptySpanClaim
empty_span_claim c o = record { write = empty_write c o; unchanged = unchanged c o; read = empty_read c o; nothing = nothing c o }

-- the ledger's run
module _ (c : List ℕ) (p : Passes c) where
  abbrev active : Descriptor
  active = active_of (descriptors_of c)

  long : (target : Target) (name : List ℕ) → (not (is_snapshot target) || named (snapshots_of (descriptors_of c)) name) ≡ true → length (run_read (ledger_of c) target name) ≡ 512 * active.volume
  unfolding run_read
  long target name h =
      let there = given_name (is_snapshot target) (named (snapshots_of (descriptors_of c)) name) h in
      ap (λ (v : Volume). length (run_of v.cells)) (volume_read_lem c target name there) ∙ run_long c p.sound target name there

  active_kept : 512 * active.beta.0 ≤ length c
  active_kept = blocks_long c active.beta.0 (active_end c (descriptors_of c) (chain_is (chain c) p.sound))

  patches : (o : ℕ) (bytes : List ℕ) → SpanPatches c o bytes
  unfolding ledger_step ledger_change ledger_of kind_of
  patches o bytes =
      let cells = (volume_of c active).cells in
      let whole = cells_whole c active active_kept in
      let upto : o + length bytes ≤ 512 * active.volume → o + length bytes ≤ 512 * length cells = λ h. rw (cells_count c active active_kept) h in
      record {
        long = long;
        patched = λ h. (patched_run cells whole o bytes (upto h), patched_count cells whole o bytes (upto h), patched_whole cells whole o bytes (upto h), refl, refl, refl);
      }

pub span_ledger_claim : SpanLedgerClaim
unfolding SpanLedgerClaim
span_ledger_claim c o bytes p = patches c p o bytes

-- the cells that a span write changes, whatever is kept of them
module _ (A : Type 0) (put : (List ℕ → List ℕ) → A → A) (cells : List A) (o : ℕ) (bytes : List ℕ) (none : A) where
  abbrev then : ℕ → List A
  then i = span_cells put cells o bytes i

  abbrev becomes : ℕ → A → A
  becomes l = put (λ old. merged old o bytes l)

  changed_length : (xs : List A) (l : ℕ) (f : A → A) → length (changed_at xs l f) ≡ length xs
  unfolding changed_at
  changed_length [] l f = refl
  changed_length (x ∷ xs) zero f = refl
  changed_length (x ∷ xs) (suc l) f = ap suc (changed_length xs l f)

  changed_here : (xs : List A) (l : ℕ) (f : A → A) → l < length xs → get_or (changed_at xs l f) l none ≡ f (get_or xs l none)
  unfolding changed_at
  changed_here [] l f h = absurd (omega arith)
  changed_here (x ∷ xs) zero f h = refl
  changed_here (x ∷ xs) (suc l) f h = changed_here xs l f (omega arith)

  changed_other : (xs : List A) (m l : ℕ) (f : A → A) → (l ≡ m → ⊥) → get_or (changed_at xs m f) l none ≡ get_or xs l none
  unfolding changed_at
  changed_other [] m l f h = refl
  changed_other (x ∷ xs) zero zero f h = absurd (h refl)
  changed_other (x ∷ xs) zero (suc l) f h = refl
  changed_other (x ∷ xs) (suc m) zero f h = refl
  changed_other (x ∷ xs) (suc m) (suc l) f h = changed_other xs m l f (λ e. h (ap suc e))

  then_length : (i : ℕ) → length (then i) ≡ length cells
  unfolding span_cells
  then_length zero = refl
  then_length (suc i) = changed_length (then i) (span_block o i) (becomes (span_block o i)) ∙ then_length i

  then_other : (i l : ℕ) → ((k : ℕ) → k < i → l ≡ span_block o k → ⊥) → get_or (then i) l none ≡ get_or cells l none
  unfolding span_cells
  then_other zero l h = refl
  then_other (suc i) l h = changed_other (then i) (span_block o i) l (becomes (span_block o i)) (h i (omega arith)) ∙ then_other i l (λ k b. h k (omega arith))

  then_here : (i k : ℕ) → k < i → span_block o k < length cells → get_or (then i) (span_block o k) none ≡ becomes (span_block o k) (get_or cells (span_block o k) none)
  unfolding span_cells
  then_here zero k h b = absurd (omega arith)
  then_here (suc i) k h b = by (eqb k i) refl (λ below. then_here i k below b)
    where
      by : (z : Bool) → eqb k i ≡ z → (k < i → get_or (then i) (span_block o k) none ≡ becomes (span_block o k) (get_or cells (span_block o k) none))
          → get_or (changed_at (then i) (span_block o i) (becomes (span_block o i))) (span_block o k) none ≡ becomes (span_block o k) (get_or cells (span_block o k) none)
      by true z before =
          let e = eqb-true k i z in
          rw (← e) (changed_here (then k) (span_block o k) (becomes (span_block o k)) (omega (arith, then_length k)) ∙ ap (becomes (span_block o k)) (then_other k (span_block o k) (λ m u. λ f. absurd (omega arith))))
      by false z before = changed_other (then i) (span_block o i) (span_block o k) (becomes (span_block o i)) (λ e. eqb-false k i z (omega arith)) ∙ before (omega (arith, eqb-false k i z))

pub span_cell_claim : SpanCellClaim
unfolding SpanCellClaim change_by TouchedClaim
span_cell_claim A put g o bytes none =
    let cells = g.active.cells in
    let n = length bytes in
    let keep = put (length g.snapshots) in
    record {
      same_count = then_length A keep cells o bytes none (touched o n);
      changed = λ j a b h.
          let k = j / 512 - o / 512 in
          let e : span_block o k ≡ j / 512 = omega arith in
          rw e at (then_here A keep cells o bytes none (touched o n) k (byte_among o n j a b) (omega arith));
      others = (refl, refl, refl);
      kept = λ l h. then_other A keep cells o bytes none (touched o n) l (λ k b e.
          let s = (touched_claim o n l).0 (k, b, e) in
          h s.0 s.1 s.2 s.3);
    }
