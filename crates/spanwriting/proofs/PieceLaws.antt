-- The write of one block of a span: the block with the span's bytes laid over, and the write through the entry that was found.
use mathlib.Core.Path.{◌≡◌, refl, sym, ap, ◌∙◌, subst}
use mathlib.Core.Bool.{Bool, true, false}
use mathlib.Core.List.{List}
use Prim.Native.Nat.{ℕ, ◌+◌, ◌*◌, ◌-◌, ◌/◌, ◌≤◌, ◌<◌, ◌^◌, min}
use native.Mathlib.Omega.{arith}
use lib.ListN.{length, set, length-replicate, length-set}
use lib.Dec.{eqb}
use borrow.Author.Tests.{eq-eqb, ne_eqb}
use Rattle.std.specs.Prelude.{Result, Ok, Err}
use Rattle.std.specs.Result.{IsOk}
use Rattle.blocks.specs.Pick.{pick}
use Rattle.blocks.specs.Bytes.{part, splice, block_at, zero_block, block_count, store_all}
use Rattle.blocks.specs.Descriptor.{extended_of}
use Rattle.blocks.specs.declared.numbers.Physical.{Physical}
use Rattle.blocks.specs.declared.descriptor.Descriptor.{Descriptor}
use Rattle.blocks.proofs.BoolLaws.{no}
use Rattle.blocks.proofs.ByteLaws.{length_part, length_block_at, splice_whole}
use Rattle.pieces.specs.declared.piece.Piece.{Piece}
use Rattle.pieces.specs.Span.{piece_of, merged}
use Rattle.pieces.proofs.SpanLaws.{in_block, in_bytes, merged_long}
use Rattle.entries.specs.Through.{Through, WriteReady}
use Rattle.entries.specs.Entry.{locate, need, need_by, writing}
use Rattle.entries.specs.Found.{Located, entry_in, located_as}
use Rattle.entries.specs.declared.find.Misplaced.{Misplaced as MisplacedEntry}
use Rattle.entries.specs.declared.find.Slot.{Slot}
use Rattle.entries.proofs.EntryLaws.{through_end}
use Rattle.entries.proofs.OwnerLaws.{located_found, need_active}
use Rattle.entries.proofs.PutLaws.{write_ready}
use Rattle.entries.proofs.RegionLaws.{through_linked, through_count}
use Rattle.calls.specs.Parts.{descriptors_of, found_through, is_misplaced, block_found}
use Rattle.calls.specs.Stores.{write_stores, write_need}
use Rattle.calls.specs.Spans.{merged_on}
use Rattle.calls.proofs.Passed.{WritePassed}
use Rattle.calls.proofs.CardLaws.{card_most}
use Rattle.calls.proofs.CellLaws.{found_long}
use Rattle.spanwriting.specs.Planned.{ActiveCard, PieceReady}
use Rattle.spanwriting.proofs.ActiveCards.{active_ready, active_sound, active_after}

-- a block or zeros, with bytes laid over
pub overlaid_nil : (c block bytes out : List ℕ) (p first : ℕ) → true ≡ eqb p 0 → block ≡ zero_block → out ≡ splice block first bytes → out ≡ splice (pick (eqb p 0) zero_block (block_at c p)) first bytes
overlaid_nil c block bytes out p first z b e = e ∙ rw (sym z, b)

pub overlaid_block : (c block bytes out : List ℕ) (p first : ℕ) → false ≡ eqb p 0 → block ≡ part c (512 * p) 512 → out ≡ splice block first bytes → out ≡ splice (pick (eqb p 0) zero_block (block_at c p)) first bytes
unfolding block_at
overlaid_block c block bytes out p first z b e = e ∙ rw (sym z, b)

-- the piece that is laid over, as it is lent
module _ (block : List ℕ) (whole : length block ≡ 512) (o : ℕ) (bytes : List ℕ) (l : ℕ) (h : 512 * l < o + length bytes) (k : o < 512 * l + 512) (q : Piece) (is : q ≡ piece_of o (length bytes) l) where
  abbrev x : ℕ
  x = 512 * l

  abbrev count : ℕ
  count = min (512 - (o - x)) (length bytes - (x - o))

  size : q.stands + q.count - q.stands ≡ count
  size = omega (arith, ap (λ (z : Piece). z.count) is)

  lent_is : part bytes q.stands (q.stands + q.count - q.stands) ≡ part bytes (x - o) count
  lent_is = ap (λ (n : ℕ). part bytes q.stands n) size ∙ ap (λ (n : ℕ). part bytes n count) (ap (λ (z : Piece). z.stands) is)

  lent_long : length (part bytes (x - o) count) ≡ count
  lent_long = length_part bytes (x - o) count (in_bytes o (length bytes) x h k)

  piece_fits : q.first + length (part bytes q.stands (q.stands + q.count - q.stands)) ≤ 512
  piece_fits = omega (arith, ap length lent_is, lent_long, ap (λ (z : Piece). z.first) is, in_block o (length bytes) x h k)

  merged_part : splice block q.first (part bytes q.stands (q.stands + q.count - q.stands)) ≡ merged block o bytes l
  unfolding merged
  merged_part = ap (λ (n : ℕ). splice block n (part bytes q.stands (q.stands + q.count - q.stands))) (ap (λ (z : Piece). z.first) is) ∙ ap (splice block (o - x)) lent_is

  -- where the span covers the block whole
  merged_whole : q.count ≡ 512 → part bytes q.stands (q.stands + q.count - q.stands) ≡ merged block o bytes l
  unfolding merged
  merged_whole e =
      let c : count ≡ 512 = sym (ap (λ (z : Piece). z.count) is) ∙ e in
      let f : o - x ≡ 0 = omega (arith, c, in_block o (length bytes) x h k) in
      lent_is ∙ sym (ap (λ (n : ℕ). splice block n (part bytes (x - o) count)) f ∙ splice_whole block (part bytes (x - o) count) (lent_long ∙ c ∙ sym whole))

-- what a write through an entry asks of the bytes is their length
ready_as : {c : List ℕ} {d : Descriptor} {m p l : ℕ} (x y : List ℕ) → x ≡ y → WriteReady c d m p l y → WriteReady c d m p l x
ready_as {c = c} {d = d} {m = m} {p = p} {l = l} x y e r = subst (λ (z : List ℕ). WriteReady c d m p l z) (sym e) r

entry_long : {c : List ℕ} {d : Descriptor} {m p l : ℕ} {b : List ℕ} → WriteReady c d m p l b → (p ≡ 0 → ⊥) → 512 * p + 512 ≤ length c
entry_long r n = omega (arith, r.entry n, r.upto)

named_by : {c : List ℕ} {d : Descriptor} {m p l : ℕ} {b : List ℕ} → WriteReady c d m p l b → (z : Bool) → eqb p 0 ≡ z → length (pick z zero_block (block_at c p)) ≡ 512
named_by {p = p} r true e = length-replicate {A = ℕ} 512 0
named_by {c = c} {p = p} r false e = length_block_at c p (entry_long r (λ z. no (sym e ∙ eq-eqb p 0 z)))

named_long : {c : List ℕ} {d : Descriptor} {m p l : ℕ} {b : List ℕ} → WriteReady c d m p l b → length (pick (eqb p 0) zero_block (block_at c p)) ≡ 512
named_long {p = p} r = named_by r (eqb p 0) refl

-- the piece through an entry: what is lent to the write, and what it stores
module _ (c : List ℕ) (d : Descriptor) (slot : Slot) (l o : ℕ) (bytes : List ℕ)
    (ready : WriteReady c d slot.table.0 slot.entry.0 l (merged (pick (eqb slot.entry.0 0) zero_block (block_at c slot.entry.0)) o bytes l)) (h : 512 * l < o + length bytes) (k : o < 512 * l + 512)
    (q : Piece) (is : q ≡ piece_of o (length bytes) l) where
  abbrev old : List ℕ
  old = pick (eqb slot.entry.0 0) zero_block (block_at c slot.entry.0)

  abbrev lent : List ℕ
  lent = part bytes q.stands (q.stands + q.count - q.stands)

  pub put_fits : (q.first + length lent ≤ 512) × ((slot.entry.0 ≡ 0 → ⊥) → 512 * slot.entry.0 + 512 ≤ length c)
  put_fits = (piece_fits old (named_long ready) o bytes l h k q is, λ n. entry_long ready n)

  whole_is : q.count ≡ 512 → lent ≡ merged old o bytes l
  whole_is e = merged_whole old (named_long ready) o bytes l h k q is e

  pub whole_ready : q.count ≡ 512 → WriteReady c d slot.table.0 slot.entry.0 l lent
  whole_ready e = ready_as lent (merged old o bytes l) (whole_is e) ready

  pub whole_stored : q.count ≡ 512 → (card : List ℕ) → card ≡ store_all c (writing c d (entry_in slot) l lent) → card ≡ store_all c (writing c d (entry_in slot) l (merged old o bytes l))
  whole_stored e card s = s ∙ ap (λ (b : List ℕ). store_all c (writing c d (entry_in slot) l b)) (whole_is e)

  module _ (block : List ℕ) (overlaid : block ≡ splice old q.first lent) where
    block_is : block ≡ merged old o bytes l
    block_is = overlaid ∙ merged_part old (named_long ready) o bytes l h k q is

    pub part_ready : WriteReady c d slot.table.0 slot.entry.0 l block
    part_ready = ready_as block (merged old o bytes l) block_is ready

    pub part_stored : (card : List ℕ) → card ≡ store_all c (writing c d (entry_in slot) l block) → card ≡ store_all c (writing c d (entry_in slot) l (merged old o bytes l))
    part_stored card s = s ∙ ap (λ (b : List ℕ). store_all c (writing c d (entry_in slot) l b)) block_is

-- the write of a block of the span
module _ (c starts : List ℕ) (count : ℕ) (d : Descriptor) (l o : ℕ) (bytes : List ℕ) (ready : PieceReady c starts count d l o bytes) where
  abbrev a : ActiveCard c starts count d
  a = ready.card

  abbrev t : Through c starts count d
  t = active_ready c starts count d a

  merged_block : length (merged_on c o bytes l) ≡ 512
  unfolding merged_on
  merged_block =
      rw (← a.active)
      (merged_long _ o bytes l (found_long c (descriptors_of c) d (through_end c starts count d t) l) ready.begins ready.ends)

  pub piece_passed : WritePassed c l (merged_on c o bytes l)
  unfolding write_need
  piece_passed =
      record {
        area = a.sound.area;
        sound = active_sound c starts count d a;
        whole = merged_block;
        below = subst (λ (x : Descriptor). l < x.volume) a.active ready.below;
        in_place = subst (λ (x : Descriptor). is_misplaced (found_through c x l) ≡ false) a.active ready.placed;
        room = subst (λ (x : Descriptor). x.beta.0 + write_need c l ≤ block_count c) a.active ready.room;
      }

  located_is : (at : Located) → at ≡ locate c (descriptors_of c) d l → at.found ≡ found_through c d l
  located_is at is = located_found c _ d l at is

  -- its entry is in place
  pub piece_located : (r : Result (Slot × ℕ) MisplacedEntry) → located_as r ≡ locate c (descriptors_of c) d l → IsOk r
  unfolding is_misplaced
  piece_located (Ok found) is = refl
  piece_located (Err e) is = absurd (no (sym ready.placed ∙ ap is_misplaced (sym (located_is _ is))))

  module _ (slot : Slot) (owner : ℕ) (is : ◌≡◌ {A = Located} (record { found = entry_in slot; owner = owner }) (locate c (descriptors_of c) d l)) (n : ℕ) (taken : n ≡ need_by (count - 1) d.alpha.0 (entry_in slot) owner) where
    found_entry : found_through c d l ≡ entry_in slot
    found_entry = sym (located_is _ is)

    need_is : n ≡ need d.alpha.0 (found_through c d l)
    need_is = taken ∙ need_active c (descriptors_of c) (through_linked c starts count d t) count (through_count c starts count d t) d a.active l _ is

    written_is : n ≡ write_need c l
    unfolding write_need
    written_is = need_is ∙ ap (λ (x : Descriptor). need x.alpha.0 (found_through c x l)) a.active

    merged_is : merged_on c o bytes l ≡ merged (pick (eqb slot.entry.0 0) zero_block (block_at c slot.entry.0)) o bytes l
    unfolding merged_on block_found
    merged_is = rw (← a.active, found_entry)

    pub piece_room : d.beta.0 + n ≤ length c / 512
    unfolding block_count
    piece_room = omega (arith, ready.room, written_is)

    -- what the write through it asks, and what the card is after it
    pub piece_ready : WriteReady c d slot.table.0 slot.entry.0 l (merged (pick (eqb slot.entry.0 0) zero_block (block_at c slot.entry.0)) o bytes l) × (n ≡ need d.alpha.0 (entry_in slot)) × (d.beta.0 + n ≤ length c / 512)
        × (512 * l < o + length bytes) × (o < 512 * l + 512) × (o + length bytes < 2 ^ 64)
    piece_ready = (
      write_ready c starts count d t l _ (ap length (sym merged_is) ∙ merged_block) ready.below (found_through c d l) refl slot.table slot.entry found_entry,
      need_is ∙ ap (need d.alpha.0) found_entry,
      piece_room,
      ready.begins,
      ready.ends,
      ready.small,
    )

    pub piece_small : d.beta.0 + n < 4294967296
    piece_small = omega (arith, ready.room, written_is, card_most c a.sound.area)

    pub piece_done : (card : List ℕ) → card ≡ store_all c (writing c d (entry_in slot) l (merged (pick (eqb slot.entry.0 0) zero_block (block_at c slot.entry.0)) o bytes l)) → card ≡ store_all c (write_stores c l (merged_on c o bytes l))
    unfolding write_stores
    piece_done card e = e ∙ rw (← a.active, found_entry, merged_is)

    pub piece_after : (card : List ℕ) → card ≡ store_all c (write_stores c l (merged_on c o bytes l)) → (e : Descriptor) → e ≡ extended_of d n → count ≡ length starts - 1
        → ActiveCard card (set starts count e.beta.0) (length (set starts count e.beta.0) - 1) e
    piece_after card card_is e is long =
        subst (λ (k : ℕ). ActiveCard card (set starts count e.beta.0) k e) (omega (arith, long, length-set starts count e.beta.0))
        (active_after c starts count d a l (merged_on c o bytes l) piece_passed n written_is e is card card_is)
