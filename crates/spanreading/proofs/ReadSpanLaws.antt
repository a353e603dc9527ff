-- The rows of a span read in the order of the code, and what it does by the descriptor of its target.
use mathlib.Core.Path.{◌≡◌, refl, sym, ap, ◌∙◌}
use mathlib.Core.Bool.{Bool, true, false, not, ◌&&◌}
use mathlib.Core.List.{List, ◌∷◌}
use Prim.Native.Nat.{ℕ, ◌+◌, ◌*◌, ◌-◌}
use lib.ListN.{length, take, drop, get_or}
use lib.Dec.{ltb}
use Rattle.blocks.specs.Pick.{pick}
use Rattle.blocks.specs.Bytes.{store_all}
use Rattle.blocks.specs.Name.{is_name}
use Rattle.blocks.specs.Descriptor.{physical, descriptor_at}
use Rattle.blocks.specs.declared.descriptor.Descriptor.{Descriptor}
use Rattle.chains.specs.Chain.{chain, descriptors, descriptors_at, active_of, named, Regions, walk_of}
use Rattle.chains.specs.Chain.{Walk}
use Rattle.calls.specs.declared.answer.Answer.{Answer}
use Rattle.calls.specs.Call.{Target, Call, SpanRead, Block, answer, accepted}
use Rattle.calls.specs.Parts.{snapshots_of, is_snapshot, target_index, SoundCard}
use Rattle.calls.specs.Check.{is_fault, fault_holder}
use Rattle.calls.specs.Ladder.{first_row, admission, row, span_row, span_read_rows}
use Rattle.calls.specs.Spans.{span_verdict, span_bytes}
use Rattle.calls.specs.Meaning.{rows_of, answer_of, lent_of, filled_of, stores_of, given_of}
use Rattle.calls.specs.Step.{Done, step, done}
use Rattle.calls.proofs.StepLaws.{step_refused, step_accepted}
use Rattle.calls.proofs.RowLaws.{admitted, row_given, row_passed, chain_given, Reached, reached, card_admitted}
use Rattle.calls.proofs.ReadLaws.{target_7, target_passed, target_volume, target_found}
use Rattle.spanreading.specs.Fetched.{Fetched, fetched}

-- the rows up to that of the chain
module _ (c : List ℕ) (target : Target) (name : List ℕ) (o : ℕ) (bytes : List ℕ) (a : Answer) (asked : a ≡ first_row (admission c)) (card : a.number ≡ 0) (u : Bool) (unnamed : u ≡ (is_snapshot target && not (is_name name))) where
  pub span_4 : u ≡ true → answer_of (SpanRead target name o bytes) c ≡ answer 4 0
  unfolding answer_of rows_of span_read_rows
  span_4 e = admitted c a asked _ card ∙ row_given _ _ (sym unnamed ∙ e)

  pub span_6 : u ≡ false → (w : Walk) → w ≡ walk_of (chain c) → not w.sound ≡ true → answer_of (SpanRead target name o bytes) c ≡ answer 6 w.place.0
  unfolding answer_of rows_of span_read_rows
  span_6 called w walked h = admitted c a asked _ card ∙ row_passed _ _ (sym unnamed ∙ called) ∙ chain_given _ c w walked h

-- those that follow it
abbrev regions_as : List ℕ → ℕ → List ℕ → Regions
regions_as c count starts = record { sound = true; place = physical 0; active = active_of (descriptors (chain c)); count = count; starts = starts }

module _ (c : List ℕ) (target : Target) (name : List ℕ) (o : ℕ) (bytes : List ℕ) (called : (is_snapshot target && not (is_name name)) ≡ false) (count : ℕ) (starts : List ℕ) (s : SoundCard c count starts)
    (k : ℕ) (index : k ≡ target_index (descriptors_at c (take (count - 1) starts)) target name) where
  abbrev call : Call
  call = SpanRead target name o bytes

  past : Reached call c (row (is_snapshot target && not (named (snapshots_of (descriptors (chain c))) name)) 7 0 ∷ drop 3 (span_read_rows c target name o bytes)) (regions_as c count starts)
  unfolding answer_of rows_of span_read_rows
  past = reached call c _ count starts s (card_admitted c s.area _ ∙ row_passed _ _ called)

  pub span_7 : k ≡ count → done (answer 7 0) (Block bytes) c ≡ step call c
  unfolding lent_of
  span_7 e = step_refused call c 7 0 (target_7 call c target name _ _ past k index e) refl

  module _ (some : k ≡ count → ⊥) (d : Descriptor) (d_is : d ≡ descriptor_at c (get_or starts k 0)) (b : Bool) (tested : b ≡ ltb (512 * d.volume) (o + length bytes)) where
    volume_is : ltb (512 * (active_of (descriptors (chain c))).volume) (o + length bytes) ≡ b
    volume_is = ap (λ (v : ℕ). ltb (512 * v) (o + length bytes)) (sym (target_volume call c target name _ _ past k index some d d_is)) ∙ sym tested

    pub span_16 : b ≡ true → done (answer 16 0) (Block bytes) c ≡ step call c
    unfolding lent_of span_read_rows
    span_16 e = step_refused call c 16 0 (target_passed call c target name _ _ past k index some ∙ row_given _ _ (volume_is ∙ e)) refl

    rest : b ≡ false → answer_of call c ≡ pick (is_fault (span_verdict c d o (length bytes))) (answer 10 (fault_holder (span_verdict c d o (length bytes)))) accepted
    unfolding span_read_rows first_row
    rest e =
        target_passed call c target name _ _ past k index some ∙ row_passed (span_row c o (length bytes)) (drop 4 (span_read_rows c target name o bytes)) (volume_is ∙ e)
        ∙ ap (λ (x : Descriptor). pick (is_fault (span_verdict c x o (length bytes))) (answer 10 (fault_holder (span_verdict c x o (length bytes)))) accepted) (target_found call c target name _ _ past k index some d d_is)

    done_by_lem : b ≡ false → (t : Bool) → is_fault (span_verdict c d o (length bytes)) ≡ t → (a : Answer) (out : List ℕ)
        → ◌≡◌ {A = Fetched} (record { answer = a; bytes = out }) (pick t (record { answer = answer 10 (fault_holder (span_verdict c d o (length bytes))); bytes = bytes }) (record { answer = accepted; bytes = span_bytes c d o (length bytes) }))
        → ◌≡◌ {A = Done} (done a (Block out) c) (step call c)
    unfolding lent_of filled_of stores_of given_of store_all
    done_by_lem f true e a out h =
        let a_is : a ≡ answer 10 (fault_holder (span_verdict c d o (length bytes))) = ap (λ (x : Fetched). x.answer) h in
        let out_is : out ≡ bytes = ap (λ (x : Fetched). x.bytes) h in
        rw (a_is, out_is) (step_refused call c 10 (fault_holder (span_verdict c d o (length bytes))) (rest f ∙ rw e) refl)
    done_by_lem f false e a out h =
        let a_is : a ≡ accepted = ap (λ (x : Fetched). x.answer) h in
        let out_is : out ≡ span_bytes c d o (length bytes) = ap (λ (x : Fetched). x.bytes) h in
        rw (a_is, out_is) (step_accepted call c (rest f ∙ rw e) (Block (span_bytes c d o (length bytes))) (rw (target_found call c target name _ _ past k index some d d_is)) c refl refl)

    pub span_done : b ≡ false → (a : Answer) (out : List ℕ) → ◌≡◌ {A = Fetched} (record { answer = a; bytes = out }) (fetched c d o bytes) → ◌≡◌ {A = Done} (done a (Block out) c) (step call c)
    unfolding fetched
    span_done f a out h = done_by_lem f (is_fault (span_verdict c d o (length bytes))) refl a out h
