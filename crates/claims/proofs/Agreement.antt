-- Two cards that agree, that is with equal bytes below one beta, have one chain, and the rows of every call and what it fills are the same on both.
use mathlib.Core.Path.{◌≡◌, refl, sym, ap, ◌∙◌, subst}
use mathlib.Core.Bool.{true, false, not, ◌&&◌}
use mathlib.Core.List.{List, [], ◌∷◌}
use Prim.Native.Nat.{ℕ, zero, suc, ◌+◌, ◌*◌, ◌≤◌, ◌<◌}
use native.Mathlib.Omega.{arith}
use lib.ListN.{length, take, get_or}
use lib.Dec.{ltb}
use borrow.Author.Tests.{leb-false, ltb-false}
use Rattle.blocks.specs.Bytes.{part, block_at, block_count}
use Rattle.blocks.specs.Descriptor.{no_descriptor}
use Rattle.chains.specs.Chain.{Chain, Sound, chain, chain_sound, descriptors, named, active_of}
use Rattle.blocks.specs.declared.descriptor.Descriptor.{Descriptor}
use Rattle.blocks.proofs.ByteLaws.{blocks_long, taken_block}
use Rattle.links.proofs.LinkedLaws.{chain_few}
use Rattle.entries.specs.Entry.{find, need, located_in, locate}
use Rattle.entries.specs.Found.{Found, Verdict}
use Rattle.calls.specs.Call.{Target, Active, Read, Listing, Visit, SpanRead, Block}
use Rattle.calls.specs.Parts.{descriptors_of, snapshots_of, is_snapshot, target_of, found_through, is_misplaced, holder_of, block_found}
use Rattle.calls.specs.Check.{check_all, check_card, is_fault, fault_holder}
use Rattle.calls.specs.Spans.{misplaced_from, span_verdict, gathered, span_bytes}
use Rattle.pieces.specs.Span.{span_block, touched}
use Rattle.pieces.proofs.SpanLaws.{inside}
use Rattle.calls.specs.Ladder.{row, ream_rows, entry_rows, read_rows, visit_rows, write_rows, snap_rows, revert_rows, list_rows, check_rows, span_read_rows}
use Rattle.calls.specs.Effect.{given_at, visit_given}
use Rattle.calls.specs.Meaning.{filled_of, given_of}
use Rattle.claims.specs.History.{beta_of, Agree}
use Rattle.calls.proofs.CardLaws.{chain_is}
use Rattle.calls.proofs.Passed.{ReadPassed, SpanReadPassed}
use Rattle.links.proofs.SharedLaws.{Below, below_linked, linked_chain}
use Rattle.entries.proofs.LocalLaws.{Region, local_find, local_check}
use Rattle.calls.specs.declared.answer.Record.{Record}
use Rattle.blocks.specs.declared.descriptor.Format.{Format}
use Rattle.calls.proofs.ActiveLaws.{target_member, active_target, chain_starts, chain_some, active_rise, active_end, region_end_is, region_below, volume_at}
use Rattle.calls.proofs.CellLaws.{local_block}
use Rattle.blocks.proofs.StoreLists.{count_kept, blocks_taken_lem}
use Rattle.calls.proofs.RowLaws.{SameRows, then, same_rows}

-- a card with a sound chain: its descriptors, and its beta
module _ (s : List ℕ) (whole : chain_sound (chain s) ≡ true) where
  sound_is : chain s ≡ Sound (descriptors_of s)
  sound_is = chain_is (chain s) whole

  start_below : 0 < beta_of s
  unfolding beta_of
  start_below = omega (arith, active_rise s (descriptors_of s) sound_is)

  beta_inside : 512 * beta_of s ≤ length s
  unfolding beta_of
  beta_inside = blocks_long s (active_of (descriptors_of s)).beta.0 (active_end s (descriptors_of s) sound_is)

-- a second card of the same length with the same blocks below that beta: one chain, so the two agree
module _ (s t : List ℕ) (whole : chain_sound (chain s) ≡ true) (long : length s ≡ length t) (same : (p : ℕ) → p < beta_of s → block_at s p ≡ block_at t p) where
  abbrev below : Below s t (beta_of s)
  below = record { long = long; some = start_below s whole; inside = beta_inside s whole; blocks = same }

  chain_same : chain s ≡ chain t
  unfolding beta_of
  chain_same =
      let ds = descriptors_of s in
      let is = sound_is s whole in
      is ∙ sym (linked_chain t ds (below_linked s t (beta_of s) below (chain_starts s ds is) (omega (arith, region_end_is s ds is))) (chain_few s ds is))

  pub blocks_agree : Agree s t
  unfolding beta_of
  blocks_agree =
      record {
        long = long;
        sound = whole;
        sound' = ap chain_sound (sym chain_same) ∙ whole;
        beta = ap (λ (x : Chain). (active_of (descriptors x)).beta.0) chain_same;
        below = blocks_taken_lem s t (beta_of s) same;
      }

-- both ways
pub agree_back : (s t : List ℕ) → Agree s t → Agree t s
agree_back s t h =
    record { long = sym h.long; sound = h.sound'; sound' = h.sound; beta = sym h.beta; below = subst (λ (b : ℕ). take (512 * b) t ≡ take (512 * b) s) h.beta (sym h.below) }

module _ (s t : List ℕ) (agree : Agree s t) where
  abbrev ds : List Descriptor
  ds = descriptors_of s

  sound_ds : chain s ≡ Sound ds
  sound_ds = sound_is s agree.sound

  some : 0 < length ds
  some = chain_some s ds sound_ds

  same_below : (p : ℕ) → p < beta_of s → block_at s p ≡ block_at t p
  same_below p h =
      let inside = beta_inside s agree.sound in
      taken_block s (beta_of s) p h inside ∙ ap (λ (c : List ℕ). part c (512 * p) 512) agree.below ∙ sym (taken_block t (beta_of s) p h (omega (arith, inside, agree.long)))

  pub agree_below : Below s t (beta_of s)
  agree_below = below s t agree.sound agree.long same_below

  pub agree_chain : chain s ≡ chain t
  agree_chain = chain_same s t agree.sound agree.long same_below

  pub agree_count : block_count s ≡ block_count t
  agree_count = count_kept s t agree.long

  agree_region : (k : ℕ) → k < length ds → Region (get_or ds k no_descriptor) (beta_of s)
  unfolding beta_of
  agree_region k h = region_below s ds sound_ds k h

  -- what a read or a write finds
  module _ (target : Target) (name : List ℕ) (l : ℕ) (standing : (is_snapshot target && not (named (snapshots_of ds) name)) ≡ false) (inside : l < (active_of ds).volume) where
    target_region : Region (target_of ds target name) (beta_of s)
    target_region = let m = target_member ds some target name standing in rw m.2 (agree_region m.0 m.1)

    target_volume : l < (target_of ds target name).volume
    target_volume =
        let m = target_member ds some target name standing in
        omega (arith, inside, ap (λ (d : Descriptor). d.volume) m.2, volume_at s ds sound_ds m.0 m.1)

    pub found_same : find s ds (target_of ds target name) l ≡ find t ds (target_of ds target name) l
    found_same = local_find s t (beta_of s) agree_below (target_of ds target name) target_region ds l target_volume

    pub block_same : block_found s (find s ds (target_of ds target name) l) ≡ block_found t (find t ds (target_of ds target name) l)
    block_same = local_block s t (beta_of s) agree_below (target_of ds target name) target_region ds l ∙ ap (block_found t) found_same

  -- check
  check_rest : (rest : List Descriptor) → ((k : ℕ) → k < length rest → Region (get_or rest k no_descriptor) (beta_of s)) → check_all s ds rest ≡ check_all t ds rest
  unfolding check_all
  check_rest [] h = refl
  check_rest (d ∷ rest) h = rw (local_check s t (beta_of s) agree_below d (h 0 (omega arith)) ds, check_rest rest (λ k l. h (suc k) (omega arith)))

  pub check_card_lem : check_card s ≡ check_card t
  unfolding check_card
  check_card_lem = rw (← agree_chain) (check_rest ds agree_region)

  -- the rows of each call are the same, as far as they decide
  pub ream_rows_lem : (format : Format) → SameRows (ream_rows s format) (ream_rows t format)
  unfolding ream_rows
  ream_rows_lem format = let e : ream_rows s format ≡ ream_rows t format = rw agree_count in same_rows e

  entry_rows_lem : (target : Target) (name : List ℕ) (l : ℕ) → SameRows (entry_rows s target name l) (entry_rows t target name l)
  unfolding entry_rows
  entry_rows_lem target name l =
      rw (← agree_chain)
      (then (λ d. then (λ e. then (λ f. same_rows (ap (λ (x : Found). row (is_misplaced x) 10 (holder_of x) ∷ []) (found_same target name l e (leb-false (active_of ds).volume l f)))))))

  pub read_rows_lem : (target : Target) (name : List ℕ) (l : ℕ) (block : List ℕ) → SameRows (read_rows s target name l block) (read_rows t target name l block)
  unfolding read_rows
  read_rows_lem target name l block = then (λ b. then (λ c. entry_rows_lem target name l))

  pub visit_rows_lem : (target : Target) (name : List ℕ) (l : ℕ) → SameRows (visit_rows s target name l) (visit_rows t target name l)
  unfolding visit_rows
  visit_rows_lem target name l = then (λ b. entry_rows_lem target name l)

  -- what the blocks of a span find and give
  module _ (target : Target) (name : List ℕ) (standing : (is_snapshot target && not (named (snapshots_of ds) name)) ≡ false) where
    abbrev through : Descriptor
    through = target_of ds target name

    found_there : (l : ℕ) → l < (active_of ds).volume → found_through s through l ≡ found_through t through l
    found_there l h = found_same target name l standing h ∙ ap (λ (x : Chain). find t (descriptors x) through l) agree_chain

    block_there : (l : ℕ) → l < (active_of ds).volume → block_found s (found_through s through l) ≡ block_found t (found_through t through l)
    block_there l h = block_same target name l standing h ∙ ap (λ (x : Chain). block_found t (find t (descriptors x) through l)) agree_chain

    verdict_from : (k l : ℕ) → l + k ≤ (active_of ds).volume → misplaced_from s through l k ≡ misplaced_from t through l k
    unfolding misplaced_from
    verdict_from zero l h = refl
    verdict_from (suc k) l h = rw (found_there l (omega arith), verdict_from k (suc l) (omega arith))

    gathered_same : (o n : ℕ) → o + n ≤ 512 * (active_of ds).volume → (i : ℕ) → i ≤ touched o n → gathered s through o n i ≡ gathered t through o n i
    unfolding gathered
    gathered_same o n h zero k = refl
    gathered_same o n h (suc i) k = rw (gathered_same o n h i (omega arith), block_there (span_block o i) (inside o n (active_of ds).volume i h k))

    nothing : (l : ℕ) → misplaced_from s through l 0 ≡ misplaced_from t through l 0
    unfolding misplaced_from
    nothing l = refl

    verdict_same : (o n : ℕ) → o + n ≤ 512 * (active_of ds).volume → span_verdict s through o n ≡ span_verdict t through o n
    unfolding span_verdict
    verdict_same o n h = by (touched o n) refl
      where
        by : (k : ℕ) → touched o n ≡ k → misplaced_from s through (span_block o 0) (touched o n) ≡ misplaced_from t through (span_block o 0) (touched o n)
        by zero e = rw e (nothing (span_block o 0))
        by (suc k) e = verdict_from (touched o n) (span_block o 0) (omega (arith, e, inside o n (active_of ds).volume k h (omega (arith, e))))

  pub span_read_rows_lem : (target : Target) (name : List ℕ) (o : ℕ) (bytes : List ℕ) → SameRows (span_read_rows s target name o bytes) (span_read_rows t target name o bytes)
  unfolding span_read_rows
  span_read_rows_lem target name o bytes =
      rw (← agree_chain)
      (then (λ b. then (λ d. then (λ e. then (λ f. same_rows (ap (λ (x : Verdict). row (is_fault x) 10 (fault_holder x) ∷ [])
      (verdict_same target name e o (length bytes) (ltb-false (512 * (active_of ds).volume) (o + length bytes) f))))))))

  pub write_rows_lem : (l : ℕ) (block : List ℕ) → SameRows (write_rows s l block) (write_rows t l block)
  unfolding write_rows
  write_rows_lem l block =
      let d = active_of ds in
      rw (← agree_chain, ← agree_count)
      (then (λ b. then (λ c. then (λ e. same_rows (ap
      (λ (x : Found). row (is_misplaced x) 10 (holder_of x) ∷ row (ltb (block_count s) (d.beta.0 + need d.alpha.0 x)) 11 0 ∷ [])
      (rw (active_target ds) at (found_same Active [] l refl (leb-false d.volume l e))))))))

  pub snap_rows_lem : (name : List ℕ) → SameRows (snap_rows s name) (snap_rows t name)
  unfolding snap_rows
  snap_rows_lem name = let e : snap_rows s name ≡ snap_rows t name = rw (agree_chain, agree_count) in same_rows e

  pub revert_rows_lem : (name : List ℕ) → SameRows (revert_rows s name) (revert_rows t name)
  unfolding revert_rows
  revert_rows_lem name = let e : revert_rows s name ≡ revert_rows t name = rw agree_chain in same_rows e

  pub list_rows_lem : (records : List Record) → SameRows (list_rows s records) (list_rows t records)
  unfolding list_rows
  list_rows_lem records = let e : list_rows s records ≡ list_rows t records = rw agree_chain in same_rows e

  pub check_rows_lem : SameRows (check_rows s) (check_rows t)
  unfolding check_rows
  check_rows_lem = let e : check_rows s ≡ check_rows t = rw (agree_chain, check_card_lem) in same_rows e

  -- so is what a read and a listing leave
  pub read_filled : (target : Target) (name : List ℕ) (l : ℕ) (block : List ℕ) → ReadPassed s target name l → filled_of (Read target name l block) s ≡ filled_of (Read target name l block) t
  unfolding filled_of
  read_filled target name l block h = rw (← agree_chain) (ap Block (block_same target name l h.there h.below))

  pub span_filled : (target : Target) (name : List ℕ) (o : ℕ) (bytes : List ℕ) → SpanReadPassed s target name o bytes → filled_of (SpanRead target name o bytes) s ≡ filled_of (SpanRead target name o bytes) t
  unfolding filled_of span_bytes
  span_filled target name o bytes h = rw (← agree_chain) (ap Block (gathered_same target name h.there o (length bytes) h.upto (touched o (length bytes)) (omega arith)))

  -- and what a visit gives
  pub visit_given_lem : (target : Target) (name : List ℕ) (l : ℕ) → ReadPassed s target name l → given_of (Visit target name l) s ≡ given_of (Visit target name l) t
  unfolding given_of visit_given locate
  visit_given_lem target name l h = rw (← agree_chain) (ap (λ (x : Found). given_at ds (located_in ds x)) (found_same target name l h.there h.below))

  pub list_filled : (records : List Record) → filled_of (Listing records) s ≡ filled_of (Listing records) t
  unfolding filled_of
  list_filled records = rw agree_chain
