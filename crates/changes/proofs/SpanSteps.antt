-- A span write as its whole-block writes, one after the other: on a card that passes each of them is one that is accepted, as long as there is room, and the card passes
-- after each.
use mathlib.Core.Path.{◌≡◌, refl, sym, ap, ◌∙◌, subst}
use mathlib.Core.Bool.{false}
use mathlib.Core.List.{List, [], ◌∷◌, ◌++◌}
use Prim.Native.Nat.{ℕ, zero, suc, ◌+◌, ◌*◌, ◌-◌, ◌≤◌, ◌<◌}
use native.Mathlib.Omega.{arith}
use lib.ListN.{length}
use Rattle.blocks.specs.Bytes.{block_size, block_count, store_all}
use Rattle.blocks.specs.Descriptor.{physical, extended_of, revision_of}
use Rattle.blocks.specs.declared.descriptor.Descriptor.{Descriptor}
use Rattle.blocks.proofs.ByteLaws.{blocks_long}
use Rattle.blocks.proofs.DescriptorLaws.{extended_none}
use Rattle.blocks.proofs.StoreLists.{Whole, none, whole_append, stored_append, stored_length, count_kept}
use Rattle.pieces.specs.Span.{span_block}
use Rattle.pieces.proofs.SpanLaws.{inside, merged_length}
use Rattle.chains.specs.Chain.{Sound, chain, active_of}
use Rattle.links.proofs.ChainLaws.{active_snoc, descriptors_are}
use Rattle.calls.specs.Parts.{descriptors_of, snapshots_of, found_through, is_misplaced}
use Rattle.calls.specs.Check.{Passes}
use Rattle.calls.specs.Stores.{write_stores, write_need}
use Rattle.calls.specs.Spans.{merged_on, span_stores, span_card, span_need, span_count, write_span_need}
use Rattle.calls.proofs.Passed.{WritePassed}
use Rattle.calls.proofs.CardLaws.{chain_is, snapshots_snoc}
use Rattle.calls.proofs.CellLaws.{active_placed, found_long}
use Rattle.calls.proofs.ActiveLaws.{active_last, active_end}
use Rattle.changes.proofs.WholeLaws.{write_whole}
use Rattle.changes.proofs.WrittenChain.{written_chain, written_revision}
use Rattle.changes.proofs.WritePasses.{passes_write}

-- what a span write asks: the card passes, the span ends in the volume, and there is room for what its blocks need
pub record SpanPassed (c : List ℕ) (o : ℕ) (bytes : List ℕ) : Type 0 where
  pub passes : Passes c
  pub upto : o + length bytes ≤ block_size * (active_of (descriptors_of c)).volume
  pub room : (active_of (descriptors_of c)).beta.0 + write_span_need c o bytes ≤ block_count c

-- the card after its first i blocks: it passes, and its chain is that of the card at entry, the active region longer by what they took
pub record SpanAt (c : List ℕ) (o : ℕ) (bytes : List ℕ) (i : ℕ) : Type 0 where
  pub passes : Passes (span_card c o bytes i)
  pub chained : chain (span_card c o bytes i) ≡ Sound (snapshots_of (descriptors_of c) ++ (extended_of (active_of (descriptors_of c)) (span_need c o bytes i) ∷ []))
  pub revision : revision_of (span_card c o bytes i) ≡ revision_of c
  pub long : length (span_card c o bytes i) ≡ length c
  pub whole : Whole (length c) (span_stores c o bytes i)

extended_twice : (d : Descriptor) (a b : ℕ) → extended_of (extended_of d a) b ≡ extended_of d (a + b)
extended_twice d a b =
    let e : d.beta.0 + a + b ≡ d.beta.0 + (a + b) = omega arith in
    ap (λ (x : ℕ). record { layout = d.layout; volume = d.volume; alpha = d.alpha; beta = physical x; next = d.next; name = d.name }) e

module _ (c : List ℕ) (o : ℕ) (bytes : List ℕ) where
  abbrev d : Descriptor
  d = active_of (descriptors_of c)

  abbrev xs : List Descriptor
  xs = snapshots_of (descriptors_of c)

  -- one block more
  pub card_next : (i : ℕ) → span_card c o bytes (suc i) ≡ store_all (span_card c o bytes i) (write_stores (span_card c o bytes i) (span_block o i) (merged_on (span_card c o bytes i) o bytes (span_block o i)))
  unfolding span_stores
  card_next i = stored_append c (span_stores c o bytes i) _

  pub need_next : (i : ℕ) → span_need c o bytes (suc i) ≡ span_need c o bytes i + write_need (span_card c o bytes i) (span_block o i)
  unfolding span_need
  need_next i = refl

  module _ (i : ℕ) (at : SpanAt c o bytes i) where
    abbrev s : List ℕ
    s = span_card c o bytes i

    abbrev x : Descriptor
    x = extended_of d (span_need c o bytes i)

    descriptors_at_lem : descriptors_of s ≡ xs ++ (x ∷ [])
    descriptors_at_lem = descriptors_are s (xs ++ (x ∷ [])) at.chained

    pub active_then : active_of (descriptors_of s) ≡ x
    active_then = ap active_of descriptors_at_lem ∙ active_snoc xs x

    pub snapshots_then : snapshots_of (descriptors_of s) ≡ xs
    snapshots_then = ap snapshots_of descriptors_at_lem ∙ snapshots_snoc xs x

    pub count_then : block_count s ≡ block_count c
    count_then = count_kept s c at.long

    -- the facts of the write of the next block
    module _ (k : i < span_count o bytes) (upto : o + length bytes ≤ 512 * d.volume) where
      abbrev l : ℕ
      l = span_block o i

      pub below_then : l < (active_of (descriptors_of s)).volume
      below_then = omega (arith, inside o (length bytes) d.volume i upto k, ap (λ (y : Descriptor). y.volume) active_then)

      pub whole_then : length (merged_on s o bytes l) ≡ 512
      unfolding merged_on
      whole_then =
          let a = active_of (descriptors_of s) in
          let end = blocks_long s a.beta.0 (active_end s (descriptors_of s) (chain_is (chain s) at.passes.sound)) in
          merged_length _ o bytes i (found_long s (descriptors_of s) a end l) k

      pub placed_then : is_misplaced (found_through s (active_of (descriptors_of s)) l) ≡ false
      placed_then = active_placed s at.passes l below_then

      pub room_then : (active_of (descriptors_of s)).beta.0 + write_need s l ≡ d.beta.0 + span_need c o bytes (suc i)
      room_then = omega (arith, need_next i, ap (λ (y : Descriptor). y.beta.0) active_then)

      -- it is accepted where there is room
      pub write_then : d.beta.0 + span_need c o bytes (suc i) ≤ block_count c → WritePassed s l (merged_on s o bytes l)
      unfolding write_need
      write_then room =
          record {
            area = at.passes.area;
            sound = at.passes.sound;
            whole = whole_then;
            below = below_then;
            in_place = placed_then;
            room = omega (arith, room, room_then, count_then);
          }

    pub next_at : WritePassed s (span_block o i) (merged_on s o bytes (span_block o i)) → SpanAt c o bytes (suc i)
    unfolding write_need span_stores
    next_at ok =
        let l = span_block o i in
        let b = merged_on s o bytes l in
        let t = store_all s (write_stores s l b) in
        let w = write_whole s l b ok in
        let back : t ≡ span_card c o bytes (suc i) = sym (card_next i) in
        record {
          passes = subst Passes back (passes_write s l b at.passes ok);
          chained =
              ap chain (sym back) ∙ written_chain s l b ok
              ∙ ap (λ (ys : List Descriptor). Sound (ys ++ (extended_of (active_of (descriptors_of s)) (write_need s l) ∷ []))) snapshots_then
              ∙ ap (λ (y : Descriptor). Sound (xs ++ (extended_of y (write_need s l) ∷ []))) active_then
              ∙ ap (λ (y : Descriptor). Sound (xs ++ (y ∷ []))) (extended_twice d (span_need c o bytes i) (write_need s l) ∙ ap (extended_of d) (sym (need_next i)));
          revision = ap revision_of (sym back) ∙ written_revision s l b ok ∙ at.revision;
          long = ap length (sym back) ∙ stored_length (length s) s refl w ∙ at.long;
          whole = whole_append at.whole (subst (λ (n : ℕ). Whole n (write_stores s l b)) at.long w);
        }

  module _ (p : Passes c) (upto : o + length bytes ≤ 512 * (active_of (descriptors_of c)).volume) where
    first_at : SpanAt c o bytes 0
    unfolding span_stores span_need store_all
    first_at =
        let is = chain_is (chain c) p.sound in
        record {
          passes = p;
          chained = is ∙ ap Sound (active_last c (descriptors_of c) is) ∙ ap (λ (y : Descriptor). Sound (xs ++ (y ∷ []))) (sym (extended_none d));
          revision = refl;
          long = refl;
          whole = none;
        }

    -- as long as there is room
    pub span_at : (i : ℕ) → i ≤ span_count o bytes → d.beta.0 + span_need c o bytes i ≤ block_count c → SpanAt c o bytes i
    span_at zero k room = first_at
    span_at (suc i) k room =
        let at = span_at i (omega arith) (omega (arith, room, need_next i)) in
        next_at i at (write_then i at (omega arith) upto room)

    pub span_write : (i : ℕ) → i < span_count o bytes → d.beta.0 + span_need c o bytes (suc i) ≤ block_count c → WritePassed (span_card c o bytes i) (span_block o i) (merged_on (span_card c o bytes i) o bytes (span_block o i))
    span_write i k room = write_then i (span_at i (omega arith) (omega (arith, room, need_next i))) k upto room

  -- what its first blocks take is not more than all of them do
  pub need_upto : (i j : ℕ) → span_need c o bytes i ≤ span_need c o bytes (i + j)
  need_upto i zero = let e : i + 0 ≡ i = omega arith in rw e (omega arith)
  need_upto i (suc j) = let e : i + suc j ≡ suc (i + j) = omega arith in rw e (omega (arith, need_upto i j, need_next (i + j)))

  -- of a span write that is accepted
  module _ (ok : SpanPassed c o bytes) where
    room_upto : (i : ℕ) → i ≤ span_count o bytes → d.beta.0 + span_need c o bytes i ≤ block_count c
    unfolding write_span_need
    room_upto i k =
        let j = span_count o bytes - i in
        let e : i + j ≡ span_count o bytes = omega arith in
        omega (arith, ok.room, ap (λ (n : ℕ). span_need c o bytes n) e, need_upto i j)

    pub passed_at : (i : ℕ) → i ≤ span_count o bytes → SpanAt c o bytes i
    passed_at i k = span_at ok.passes ok.upto i k (room_upto i k)

    pub passed_write : (i : ℕ) → i < span_count o bytes → WritePassed (span_card c o bytes i) (span_block o i) (merged_on (span_card c o bytes i) o bytes (span_block o i))
    passed_write i k = span_write ok.passes ok.upto i k (room_upto (suc i) k)

    -- what holds of the card and stays with each of the writes holds after the span
    pub span_keeps : (P : List ℕ → Type 0) → P c
        → ((s : List ℕ) (l : ℕ) → Passes s → WritePassed s l (merged_on s o bytes l) → P s → P (store_all s (write_stores s l (merged_on s o bytes l))))
        → (i : ℕ) → i ≤ span_count o bytes → P (span_card c o bytes i)
    unfolding span_stores store_all
    span_keeps P h more zero k = h
    span_keeps P h more (suc i) k =
        subst P (sym (card_next i)) (more (span_card c o bytes i) (span_block o i) (passed_at i (omega arith)).passes (passed_write i k) (span_keeps P h more i (omega arith)))
