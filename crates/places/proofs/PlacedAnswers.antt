-- The answers on a card that passes are those of its Placed.
use mathlib.Core.Path.{◌≡◌, refl, sym, ap, ◌∙◌}
use mathlib.Core.Bool.{Bool, true, false, not, ◌&&◌}
use mathlib.Core.List.{List, [], ◌∷◌, ◌++◌, append-nil}
use Prim.Native.Nat.{ℕ, ◌+◌, ◌*◌}
use native.Mathlib.Omega.{arith}
use lib.ListN.{length}
use lib.Dec.{eqb, ltb, leb}
use borrow.Author.Tests.{leb-false, le-ltb, ltb-false}
use Rattle.blocks.specs.Pick.{pick}
use Rattle.blocks.specs.Bytes.{block_count}
use Rattle.blocks.specs.Descriptor.{cost_of}
use Rattle.blocks.specs.declared.descriptor.Descriptor.{Descriptor}
use Rattle.blocks.specs.declared.descriptor.Format.{Format}
use Rattle.blocks.proofs.BoolLaws.{no}
use Rattle.chains.specs.Chain.{chain, active_of}
use Rattle.calls.specs.declared.answer.Answer.{Answer}
use Rattle.pieces.specs.Span.{touched}
use Rattle.calls.specs.Call.{Call, Ream, Write, SpanWrite, Snap, Revert, answer, accepted}
use Rattle.calls.specs.Parts.{descriptors_of}
use Rattle.calls.specs.Check.{Passes}
use Rattle.calls.specs.Ladder.{Row, row, first_row, admission, ream_rows}
use Rattle.calls.specs.Meaning.{rows_of, answer_of}
use Rattle.calls.proofs.CardLaws.{chain_is}
use Rattle.calls.proofs.ActiveLaws.{active_end}
use Rattle.claims.specs.Kinds.{Kind, Leaves, kind_of}
use Rattle.claims.specs.History.{beta_of, formats, is_ream}
use Rattle.claims.specs.Ledger.{Ledger, ledger_rows, cells_from, volume_of, ledger_of}
use Rattle.claims.specs.Claims.{blocks_taken, blocks_needed}
use Rattle.claims.proofs.LedgerFacts.{active_found}
use Rattle.claims.proofs.LedgerLaws.{cells_length}
use Rattle.claims.proofs.Owed.{owed}
use Rattle.places.specs.Placed.{forget, placed_need, span_need_placed, place_rows, placed_rows, placed_answer, placed_volume, placed_of, PlacedNeedClaim, ForgetClaim}
use Rattle.places.proofs.CallKinds.{ByKind, formatting, leaving, writing, spanning, snapping, reverting, by_kind}
use Rattle.places.proofs.PlacedForget.{forget_claim}
use Rattle.places.proofs.PlacedSpan.{span_room}
use Rattle.places.proofs.PlacedNeed.{placed_need_claim}

-- rows that all give a refusal
unfoldable refusing : List Row → Bool
refusing [] = true
refusing (r ∷ rs) = not (eqb r.number 0) && refusing rs

refusing_by : (z b : Bool) → (not z && b) ≡ true → (z ≡ false) × (b ≡ true)
refusing_by true b h = no h
refusing_by false b h = (refl, h)

-- one more row after them
row_by : (h n : Bool) (x p : ℕ) (a rest more : Answer) → eqb x 0 ≡ false → more ≡ pick (eqb rest.number 0 && n) a rest
    → pick h (answer x p) more ≡ pick (eqb (pick h (answer x p) rest).number 0 && n) a (pick h (answer x p) rest)
row_by true n x p a rest more e q = rw e
row_by false n x p a rest more e q = q

more_row : (rs : List Row) (n : Bool) → refusing rs ≡ true → first_row (rs ++ (row n 11 0 ∷ [])) ≡ pick (eqb (first_row rs).number 0 && n) (answer 11 0) (first_row rs)
unfolding first_row refusing
more_row [] n h = refl
more_row (r ∷ rs) n h =
    let e = refusing_by (eqb r.number 0) (refusing rs) h in
    row_by r.holds n r.number r.place (answer 11 0) (first_row rs) (first_row (rs ++ (row n 11 0 ∷ []))) e.0 (more_row rs n e.1)

none : {A : Type 0} (t : Bool) (x y : A) → pick (t && false) x y ≡ y
none true x y = refl
none false x y = refl

-- a choice by a test and another one that matters only where the test holds
guarded : {A : Type 0} (t n m : Bool) (x y : A) → (t ≡ true → n ≡ m) → pick (t && n) x y ≡ pick (t && m) x y
guarded true n m x y h = rw (h refl)
guarded false n m x y h = refl

below_by : (a b : Bool) → eqb (pick a (answer 9 0) (pick b (answer 8 0) accepted)).number 0 ≡ true → b ≡ false
below_by true b h = no h
below_by false true h = no h
below_by false false h = refl

module _ (c : List ℕ) (p : Passes c) where
  abbrev d : Descriptor
  d = active_of (descriptors_of c)

  abbrev g : Ledger
  g = ledger_of c

  -- where the ledger has nothing against a write, the number is below L, and the blocks needed are the need by places
  inside : (l : ℕ) (block : List ℕ) → eqb (first_row (ledger_rows (Write l block) g)).number 0 ≡ true → leb d.volume l ≡ false
  unfolding ledger_rows first_row ledger_of volume_of
  inside l block h =
      ap (λ (n : ℕ). leb n l) (sym (cells_length c d d.volume 0)) ∙ below_by (not (eqb (length block) 512)) (leb (length (cells_from c d d.volume 0)) l) h

  needs : (l : ℕ) (block : List ℕ) → eqb (first_row (ledger_rows (Write l block) g)).number 0 ≡ true → ltb (block_count c) (beta_of c + blocks_needed (Write l block) c) ≡ ltb (block_count c) (beta_of c + placed_need (placed_of c) l)
  unfolding PlacedNeedClaim blocks_needed
  needs l block h = let b = inside l block h in ap (λ (n : ℕ). ltb (block_count c) (beta_of c + n)) (sym (placed_need_claim c l p.sound (leb-false d.volume l b) (active_found c p l b)))

  -- and where it has nothing against a span, that ends in the volume, and there is room for both sums or for neither
  ends_by : (b : Bool) → eqb (pick b (answer 16 0) accepted).number 0 ≡ true → b ≡ false
  ends_by true h = no h
  ends_by false h = refl

  ends : (o : ℕ) (bytes : List ℕ) → eqb (first_row (ledger_rows (SpanWrite o bytes) g)).number 0 ≡ true → ltb (512 * d.volume) (o + length bytes) ≡ false
  unfolding ledger_rows first_row ledger_of volume_of
  ends o bytes h =
      ap (λ (n : ℕ). ltb (512 * n) (o + length bytes)) (sym (cells_length c d d.volume 0)) ∙ ends_by (ltb (512 * length (cells_from c d d.volume 0)) (o + length bytes)) h

  span_needs : (o : ℕ) (bytes : List ℕ) → eqb (first_row (ledger_rows (SpanWrite o bytes) g)).number 0 ≡ true
      → ltb (block_count c) (beta_of c + blocks_needed (SpanWrite o bytes) c) ≡ ltb (block_count c) (beta_of c + span_need_placed (placed_of c) o bytes (touched o (length bytes)))
  unfolding blocks_needed beta_of
  span_needs o bytes h = span_room c p o bytes (ltb-false (512 * d.volume) (o + length bytes) (ends o bytes h))

  -- a call that takes no block
  no_need : ltb (block_count c) (beta_of c + 0) ≡ false
  unfolding beta_of
  no_need = le-ltb (block_count c) (beta_of c + 0) (omega (arith, active_end c (descriptors_of c) (chain_is (chain c) p.sound)))

  by_ledger : (k : Call) → is_ream k ≡ false → blocks_needed k c ≡ 0 → place_rows (kind_of k) (placed_of c) ≡ [] → answer_of k c ≡ placed_answer k (placed_of c)
  unfolding placed_answer placed_rows ForgetClaim
  by_ledger k r z e =
      (owed k).ledger c p r
      ∙ ap (λ (n : ℕ). pick (eqb (first_row (ledger_rows k g)).number 0 && ltb (block_count c) (beta_of c + n)) (answer 11 0) (first_row (ledger_rows k g))) z
      ∙ guarded (eqb (first_row (ledger_rows k g)).number 0) (ltb (block_count c) (beta_of c + 0)) false (answer 11 0) (first_row (ledger_rows k g)) (λ t. no_need)
      ∙ none (eqb (first_row (ledger_rows k g)).number 0) (answer 11 0) (first_row (ledger_rows k g))
      ∙ ap first_row (sym (append-nil (ledger_rows k g)))
      ∙ ap (λ (x : Ledger). first_row (ledger_rows k x ++ [])) (sym (forget_claim c))
      ∙ ap (λ (rs : List Row). first_row (ledger_rows k (forget (placed_of c)) ++ rs)) (sym e)

  -- a call that takes blocks
  by_room : (k : Call) (n : ℕ) → is_ream k ≡ false → refusing (ledger_rows k g) ≡ true → (eqb (first_row (ledger_rows k g)).number 0 ≡ true → ltb (block_count c) (beta_of c + blocks_needed k c) ≡ ltb (block_count c) (beta_of c + n))
      → place_rows (kind_of k) (placed_of c) ≡ row (ltb (block_count c) (beta_of c + n)) 11 0 ∷ [] → answer_of k c ≡ placed_answer k (placed_of c)
  unfolding placed_answer placed_rows ForgetClaim
  by_room k n r f h e =
      (owed k).ledger c p r
      ∙ guarded (eqb (first_row (ledger_rows k g)).number 0) (ltb (block_count c) (beta_of c + blocks_needed k c)) (ltb (block_count c) (beta_of c + n)) (answer 11 0) (first_row (ledger_rows k g))
      h
      ∙ sym (more_row (ledger_rows k g) (ltb (block_count c) (beta_of c + n)) f)
      ∙ ap (λ (x : Ledger). first_row (ledger_rows k x ++ (row (ltb (block_count c) (beta_of c + n)) 11 0 ∷ []))) (sym (forget_claim c))
      ∙ ap (λ (rs : List Row). first_row (ledger_rows k (forget (placed_of c)) ++ rs)) (sym e)

  ream_answer : (format : Format) → answer_of (Ream format) c ≡ placed_answer (Ream format) (placed_of c)
  unfolding placed_answer placed_rows place_rows kind_of ledger_rows first_row answer_of rows_of admission ream_rows placed_of
  ream_answer format = rw p.area

  leaves_answer : (k : Call) → kind_of k ≡ Leaves → answer_of k c ≡ placed_answer k (placed_of c)
  unfolding is_ream formats blocks_needed blocks_taken place_rows
  leaves_answer k e = by_ledger k (ap formats e) (ap (λ (x : Kind). blocks_taken x c) e) (ap (λ (x : Kind). place_rows x (placed_of c)) e)

  answer_by_lem : {k : Call} → ByKind k → answer_of k c ≡ placed_answer k (placed_of c)
  unfolding is_ream kind_of blocks_needed place_rows ledger_rows refusing beta_of placed_of placed_volume
  answer_by_lem (formatting {format = format}) = ream_answer format
  answer_by_lem (leaving {k = k} e) = leaves_answer k e
  answer_by_lem (writing {l = l} {block = block}) = by_room (Write l block) (placed_need (placed_of c) l) refl refl (needs l block) refl
  answer_by_lem (spanning {o = o} {bytes = bytes}) = by_room (SpanWrite o bytes) (span_need_placed (placed_of c) o bytes (touched o (length bytes))) refl refl (span_needs o bytes) refl
  answer_by_lem (snapping {name = name}) = by_room (Snap name) (cost_of d) refl refl (λ t. refl) refl
  answer_by_lem (reverting {name = name}) = by_ledger (Revert name) refl refl refl

  pub placed_answer_lem : (k : Call) → answer_of k c ≡ placed_answer k (placed_of c)
  placed_answer_lem k = answer_by_lem (by_kind k)
