-- The rows of a span write in the order of the code, and what it does once they are passed.
use mathlib.Core.Path.{◌≡◌, refl, sym, ap, ◌∙◌, subst}
use mathlib.Core.Bool.{Bool, true, false, not}
use mathlib.Core.List.{List, ◌∷◌}
use Prim.Native.Nat.{ℕ, ◌+◌, ◌*◌, ◌-◌, ◌/◌, ◌≤◌, ◌<◌}
use lib.ListN.{length, drop, get_or}
use lib.Dec.{ltb}
use borrow.Author.Tests.{ltb-false, lt-ltb, le-ltb}
use Rattle.blocks.specs.Bytes.{block_count, store_all}
use Rattle.blocks.specs.Descriptor.{physical, descriptor_at}
use Rattle.blocks.specs.declared.numbers.Physical.{Physical}
use Rattle.blocks.specs.declared.descriptor.Descriptor.{Descriptor}
use Rattle.pieces.specs.Span.{touched}
use Rattle.pieces.proofs.SpanLaws.{past_upto}
use Rattle.chains.specs.Chain.{chain, chain_sound, active_of, Regions, regions_of, walk_of}
use Rattle.chains.specs.Chain.{Walk}
use Rattle.entries.specs.Found.{Verdict, Passed, Fault}
use Rattle.calls.specs.Call.{Call, SpanWrite, Block, answer, accepted}
use Rattle.calls.specs.Parts.{area_bad, descriptors_of, SoundCard}
use Rattle.calls.specs.Check.{check_card, is_fault, fault_holder, Passes}
use Rattle.calls.specs.Ladder.{first_row, span_row, fault_row, row, span_write_rows}
use Rattle.calls.specs.Spans.{write_span_stores, write_span_need}
use Rattle.calls.specs.Meaning.{rows_of, answer_of, lent_of, filled_of, stores_of, given_of}
use Rattle.calls.specs.Step.{step, done}
use Rattle.calls.proofs.StepLaws.{step_refused, step_accepted}
use Rattle.calls.proofs.RowLaws.{row_given, row_passed, last_passed, chain_given, chain_passed, card_admitted}
use Rattle.calls.proofs.CardLaws.{card_sound, card_active}
use Rattle.claims.proofs.CheckClaims.{faultless_passes}
use Rattle.spanwriting.specs.Planned.{planned_need, ActiveCard, SpanReady}
use Rattle.spanwriting.proofs.PlannedLaws.{planned_room}

pub span_6 : (c : List ℕ) (o : ℕ) (bytes : List ℕ) → area_bad c ≡ false → (w : Walk) → w ≡ walk_of (chain c) → not w.sound ≡ true → answer_of (SpanWrite o bytes) c ≡ answer 6 w.place.0
unfolding answer_of rows_of span_write_rows
span_6 c o bytes area w walked h = card_admitted c area _ ∙ chain_given _ c w walked h

-- the descriptor in the last start is the active one
pub active_card : (c : List ℕ) (count : ℕ) (starts : List ℕ) → SoundCard c count starts → (d : Descriptor) → d ≡ descriptor_at c (get_or starts (count - 1) 0) → ActiveCard c starts count d
active_card c count starts s d e =
    record { sound = s; active = e ∙ sym (card_active c (record { sound = true; place = physical 0; active = active_of (descriptors_of c); count = count; starts = starts }) (sym s.regions) s.area refl) }

-- a card that check finds no fault in passes
pub checked_passes : (c : List ℕ) (count : ℕ) (starts : List ℕ) → SoundCard c count starts → (v : Verdict) → v ≡ check_card c → v ≡ Passed → Passes c
unfolding is_fault
checked_passes c count starts s v is passed =
    let r : Regions = record { sound = true; place = physical 0; active = active_of (descriptors_of c); count = count; starts = starts } in
    faultless_passes c s.area (card_sound c r (sym s.regions) refl) (ap is_fault (sym is ∙ passed))

module _ (c : List ℕ) (o : ℕ) (bytes : List ℕ) (count : ℕ) (starts : List ℕ) (s : SoundCard c count starts) (d : Descriptor) (d_is : d ≡ descriptor_at c (get_or starts (count - 1) 0)) where
  abbrev call : Call
  call = SpanWrite o bytes

  abbrev r : Regions
  r = record { sound = true; place = physical 0; active = active_of (descriptors_of c); count = count; starts = starts }

  walked : r ≡ regions_of (chain c)
  walked = sym s.regions

  sound_c : chain_sound (chain c) ≡ true
  sound_c = card_sound c r walked refl

  active_is : d ≡ active_of (descriptors_of c)
  active_is = (active_card c count starts s d d_is).active

  past : answer_of call c ≡ first_row (drop 1 (span_write_rows c o bytes))
  unfolding answer_of rows_of span_write_rows
  past = card_admitted c s.area _ ∙ chain_passed _ c sound_c

  module _ (b : Bool) (tested : b ≡ ltb (512 * d.volume) (o + length bytes)) where
    volume_is : ltb (512 * (active_of (descriptors_of c)).volume) (o + length bytes) ≡ b
    volume_is = ap (λ (x : Descriptor). ltb (512 * x.volume) (o + length bytes)) (sym active_is) ∙ sym tested

    pub span_16 : b ≡ true → answer_of call c ≡ answer 16 0
    unfolding span_write_rows
    span_16 e = past ∙ row_given (span_row c o (length bytes)) (drop 2 (span_write_rows c o bytes)) (volume_is ∙ e)

    module _ (ends : b ≡ false) where
      upto : o + length bytes ≤ 512 * d.volume
      upto = past_upto d.volume o (length bytes) b tested ends

      to_check : answer_of call c ≡ first_row (drop 2 (span_write_rows c o bytes))
      unfolding span_write_rows
      to_check = past ∙ row_passed (span_row c o (length bytes)) (drop 2 (span_write_rows c o bytes)) (volume_is ∙ ends)

      module _ (v : Verdict) (is : v ≡ check_card c) where
        pub span_10 : (h : Physical) → v ≡ Fault h → answer_of call c ≡ answer 10 h.0
        unfolding span_write_rows is_fault fault_holder
        span_10 h e =
            let f : check_card c ≡ Fault h = sym is ∙ e in
            to_check ∙ row_given (fault_row c) (drop 3 (span_write_rows c o bytes)) (ap is_fault f) ∙ ap (λ (x : Verdict). answer 10 (fault_holder x)) f

        module _ (passed : v ≡ Passed) where
          faultless : is_fault (check_card c) ≡ false
          unfolding is_fault
          faultless = ap is_fault (sym is ∙ passed)

          passes : Passes c
          passes = checked_passes c count starts s v is passed

          abbrev wants : ℕ → Bool
          wants n = ltb (block_count c) ((active_of (descriptors_of c)).beta.0 + n)

          to_room : answer_of call c ≡ first_row (row (wants (write_span_need c o bytes)) 11 0 ∷ drop 4 (span_write_rows c o bytes))
          unfolding span_write_rows
          to_room = to_check ∙ row_passed (fault_row c) (drop 3 (span_write_rows c o bytes)) faultless

          module _ (blocks : ℕ) (counted : blocks ≡ touched o (length bytes)) (n : ℕ) (planned : n ≡ planned_need c o blocks) where
            room_is : wants (write_span_need c o bytes) ≡ ltb (block_count c) (d.beta.0 + n)
            room_is =
                planned_room c passes o bytes (subst (λ (x : Descriptor). o + length bytes ≤ 512 * x.volume) active_is upto) n (planned ∙ ap (planned_need c o) counted)
                ∙ ap (λ (x : Descriptor). ltb (block_count c) (x.beta.0 + n)) (sym active_is)

            pub span_11 : length c / 512 < d.beta.0 + n → answer_of call c ≡ answer 11 0
            unfolding block_count
            span_11 h = to_room ∙ row_given _ _ (room_is ∙ lt-ltb (length c / 512) (d.beta.0 + n) h)

            module _ (fits : d.beta.0 + n ≤ length c / 512) where
              roomy : wants (write_span_need c o bytes) ≡ false
              unfolding block_count
              roomy = room_is ∙ le-ltb (length c / 512) (d.beta.0 + n) fits

              pub span_ready : SpanReady c starts count d o bytes
              span_ready =
                  record {
                    card = active_card c count starts s d d_is;
                    passes = passes;
                    upto = upto;
                    room = subst (λ (x : Descriptor). x.beta.0 + write_span_need c o bytes ≤ block_count c) (sym active_is) (ltb-false (block_count c) _ roomy);
                  }

              pub span_0 : answer_of call c ≡ accepted
              unfolding span_write_rows
              span_0 = to_room ∙ last_passed (row (wants (write_span_need c o bytes)) 11 0) roomy

-- what is done once they are passed
pub span_done : (c : List ℕ) (o : ℕ) (bytes : List ℕ) → accepted ≡ answer_of (SpanWrite o bytes) c → (card : List ℕ) → card ≡ store_all c (write_span_stores c o bytes) → done accepted (Block bytes) card ≡ step (SpanWrite o bytes) c
unfolding filled_of stores_of given_of
span_done c o bytes ok card e = step_accepted (SpanWrite o bytes) c (sym ok) (Block bytes) refl card e refl
