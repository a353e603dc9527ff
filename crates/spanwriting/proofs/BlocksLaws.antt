-- The blocks of a span written one after the other: the card after the first i of them, and what is known of the next.
use mathlib.Core.Path.{◌≡◌, refl, sym, ap, ◌∙◌, subst}
use mathlib.Core.Bool.{Bool, false}
use mathlib.Core.List.{List}
use Prim.Native.Nat.{ℕ, suc, ◌+◌, ◌*◌, ◌/◌, ◌≤◌, ◌<◌, ◌^◌}
use native.Mathlib.Omega.{arith}
use lib.ListN.{length}
use lib.Dec.{ltb}
use Rattle.blocks.specs.Bytes.{block_count, store_all}
use Rattle.blocks.specs.declared.descriptor.Descriptor.{Descriptor}
use Rattle.pieces.specs.Span.{span_block, touched}
use Rattle.pieces.proofs.SpanLaws.{begins, ends, past_upto}
use Rattle.entries.proofs.EntryLaws.{through_volume}
use Rattle.calls.specs.Parts.{found_through, is_misplaced}
use Rattle.calls.specs.Stores.{write_stores, write_need}
use Rattle.calls.specs.Spans.{merged_on, span_stores, span_card, write_span_stores, write_span_need}
use Rattle.calls.proofs.Passed.{WritePassed}
use Rattle.changes.proofs.SpanSteps.{SpanPassed, card_next, passed_write}
use Rattle.spanwriting.specs.Planned.{ActiveCard, PieceReady, SpanReady}
use Rattle.spanwriting.proofs.ActiveCards.{active_ready}

module _ (c starts : List ℕ) (count : ℕ) (active : Descriptor) (o : ℕ) (bytes : List ℕ) (ready : SpanReady c starts count active o bytes) where
  span_passed : SpanPassed c o bytes
  span_passed =
      record {
        passes = ready.passes;
        upto = subst (λ (d : Descriptor). o + length bytes ≤ 512 * d.volume) ready.card.active ready.upto;
        room = subst (λ (d : Descriptor). d.beta.0 + write_span_need c o bytes ≤ block_count c) ready.card.active ready.room;
      }

  pub span_small : o + length bytes < 2 ^ 64
  span_small = omega (arith, ready.upto, through_volume c starts count active (active_ready c starts count active ready.card))

  pub card_first : c ≡ span_card c o bytes 0
  unfolding span_stores store_all
  card_first = refl

  module _ (i : ℕ) (h : i < touched o (length bytes)) (card : List ℕ) (card_is : card ≡ span_card c o bytes i) where
    passed : WritePassed card (span_block o i) (merged_on card o bytes (span_block o i))
    passed = rw card_is (passed_write c o bytes span_passed i h)

    pub piece_next : (places : List ℕ) (n : ℕ) (d : Descriptor) → ActiveCard card places n d → PieceReady card places n d (o / 512 + i) o bytes
    unfolding write_need
    piece_next places n d a =
        record {
          card = a;
          below = subst (λ (x : Descriptor). span_block o i < x.volume) (sym a.active) passed.below;
          placed = subst (λ (x : Descriptor). is_misplaced (found_through card x (span_block o i)) ≡ false) (sym a.active) passed.in_place;
          room = subst (λ (x : Descriptor). x.beta.0 + write_need card (span_block o i) ≤ block_count card) (sym a.active) passed.room;
          begins = begins o (length bytes) i h;
          ends = ends o i;
          small = span_small;
        }

    pub card_more : (card' : List ℕ) → card' ≡ store_all card (write_stores card (o / 512 + i) (merged_on card o bytes (o / 512 + i))) → card' ≡ span_card c o bytes (i + 1)
    card_more card' e =
        let f : i + 1 ≡ suc i = omega arith in
        e ∙ ap (λ (x : List ℕ). store_all x (write_stores x (o / 512 + i) (merged_on x o bytes (o / 512 + i)))) card_is ∙ sym (card_next c o bytes i) ∙ ap (λ (n : ℕ). span_card c o bytes n) (sym f)

pub card_all : (c : List ℕ) (o : ℕ) (bytes : List ℕ) (i n : ℕ) → n ≡ touched o (length bytes) → i ≤ n → n ≤ i → (card : List ℕ) → card ≡ span_card c o bytes i → card ≡ store_all c (write_span_stores c o bytes)
unfolding write_span_stores
card_all c o bytes i n e a b card is = let f : i ≡ touched o (length bytes) = omega (arith, e) in is ∙ ap (λ (k : ℕ). span_card c o bytes k) f

-- the blocks that a span touches are of the volume in which it ends
pub touched_upto : (o n v blocks : ℕ) → o + n ≤ 512 * v → blocks ≡ touched o n → 512 * (o / 512 + blocks) < o + n + 512 → o / 512 + blocks ≤ v
touched_upto o n v blocks h e k = omega (arith, h, k)
