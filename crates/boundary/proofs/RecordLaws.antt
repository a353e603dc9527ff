-- Laws of records as bytes: a record put field by field, the records of the regions, a listing into bytes.
use mathlib.Core.Path.{◌≡◌, refl, sym, ap, ◌∙◌}
use mathlib.Core.Bool.{false}
use mathlib.Core.List.{List, [], ◌∷◌, ◌++◌, append_assoc, append-nil}
use Prim.Native.Nat.{ℕ, zero, suc, ◌+◌, ◌*◌, ◌/◌, ◌≤◌}
use native.Mathlib.Numerals.{add-one}
use native.Mathlib.Omega.{arith}
use lib.ListN.{length, take, drop, get_or, length-append, length-replicate}
use lib.Seq.{take-suc, take-length}
use lib.Dec.{eqb}
use Rattle.blocks.specs.Bytes.{le32, splice}
use Rattle.blocks.specs.Descriptor.{no_descriptor, descriptor_at}
use Rattle.blocks.specs.declared.descriptor.Descriptor.{Descriptor}
use Rattle.blocks.proofs.ByteLaws.{put_next, splice_join, splice_start, length_le32, length_part}
use Rattle.calls.specs.declared.answer.Record.{Record}
use Rattle.calls.specs.Listing.{record_by}
use Rattle.calls.specs.Call.{Listing, answer, accepted}
use Rattle.calls.specs.Parts.{descriptors_of, SoundCard}
use Rattle.calls.specs.Meaning.{answer_of}
use Rattle.calls.specs.Effect.{no_record, record_of, listed}
use Rattle.calls.proofs.StepLaws.{step_answer}
use Rattle.calls.proofs.ListingLaws.{sound_count, sound_inside, sound_record}
use Rattle.boundary.specs.RecordBytes.{record_bytes, records_bytes, room_in, listing_of, filled_bytes_to, filled_bytes}

pub record_length : (r : Record) → length r.name ≡ 16 → length (record_bytes r) ≡ 28
unfolding record_bytes le32
record_length r n = simp length-append (omega arith)

-- the fields of a record, put one after the other
pub record_put : (c₀ c₁ c₂ c₃ c₄ : List ℕ) (at : ℕ) (r : Record) → at + 28 ≤ length c₀ → length r.name ≡ 16
    → c₁ ≡ splice c₀ at r.name
    → c₂ ≡ splice c₁ (at + 16) (le32 r.alpha.0)
    → c₃ ≡ splice c₂ (at + 20) (le32 r.beta.0)
    → c₄ ≡ splice c₃ (at + 24) (le32 r.next.0)
    → c₄ ≡ splice c₀ at (record_bytes r)
unfolding record_bytes
record_put c₀ c₁ c₂ c₃ c₄ at r h n e₁ e₂ e₃ e₄ =
    let x₂ : List ℕ = r.name ++ le32 r.alpha.0 in
    let x₃ : List ℕ = x₂ ++ le32 r.beta.0 in
    let l₂ : length x₂ ≡ 20 = length-append r.name (le32 r.alpha.0) ∙ omega (arith, n, length_le32 r.alpha.0) in
    let l₃ : length x₃ ≡ 24 = length-append x₂ (le32 r.beta.0) ∙ omega (arith, l₂, length_le32 r.beta.0) in
    let f₂ = put_next c₀ at r.name (at + 16) (le32 r.alpha.0) e₁ e₂ (omega (arith, n)) (omega (arith, length_le32 r.alpha.0)) in
    let f₃ = put_next c₀ at x₂ (at + 20) (le32 r.beta.0) f₂ e₃ (omega (arith, l₂)) (omega (arith, length_le32 r.beta.0)) in
    put_next c₀ at x₃ (at + 24) (le32 r.next.0) f₃ e₄ (omega (arith, l₃)) (omega (arith, length_le32 r.next.0))

-- filling none, one more and all
module _ (c starts b : List ℕ) (n : ℕ) where
  pub bytes_none : b ≡ filled_bytes_to c starts b n 0
  unfolding filled_bytes_to
  bytes_none = refl

  pub bytes_more : (i : ℕ) (x y : List ℕ) (r : Record) → r ≡ record_by c starts n i → x ≡ filled_bytes_to c starts b n i → y ≡ splice x (28 * i) (record_bytes r) → y ≡ filled_bytes_to c starts b n (i + 1)
  unfolding filled_bytes_to
  bytes_more i x y r is e f = rw (add-one, f, e, is)

  pub bytes_all : (i : ℕ) (x : List ℕ) → i ≡ n → x ≡ filled_bytes_to c starts b n i → x ≡ filled_bytes c starts b n
  unfolding filled_bytes
  bytes_all i x q e = e ∙ rw q

-- one more record after those of a list of descriptors
records_more : (ds : List Descriptor) (d : Descriptor) → records_bytes (listed (ds ++ (d ∷ [])) []) ≡ records_bytes (listed ds []) ++ record_bytes (record_of d)
unfolding records_bytes listed
records_more [] d = append-nil (record_bytes (record_of d))
records_more (x ∷ ds) d =
    ap (λ (l : List ℕ). record_bytes (record_of x) ++ l) (records_more ds d) ∙ sym (append_assoc (record_bytes (record_of x)) (records_bytes (listed ds [])) (record_bytes (record_of d)))

-- the name of a descriptor on the card has sixteen bytes
name_size_lem : (c : List ℕ) (p : ℕ) → 512 * p + 512 ≤ length c → length (descriptor_at c p).name ≡ 16
unfolding descriptor_at
name_size_lem c p h = length_part c (512 * p + 24) 16 (omega arith)

-- the records of the regions of a card with a sound chain
module _ (c starts : List ℕ) (n : ℕ) (s : SoundCard c n starts) (b : List ℕ) (room : 28 * n ≤ length b) where
  abbrev ds : List Descriptor
  ds = descriptors_of c

  abbrev first : ℕ → List ℕ
  first i = records_bytes (listed (take i ds) [])

  bytes_from : (i : ℕ) → i ≤ n → (filled_bytes_to c starts b n i ≡ splice b 0 (first i)) × (length (first i) ≡ 28 * i)
  unfolding record_by filled_bytes_to records_bytes listed
  bytes_from zero h = (sym (splice_start b []), refl)
  bytes_from (suc i) h =
      let d : Descriptor = get_or ds i no_descriptor in
      let is = sound_record c starts n s i (omega arith) in
      let size : length (record_bytes (record_of d)) ≡ 28 = record_length (record_of d) (ap (λ (x : Record). length x.name) (sym is) ∙ name_size_lem c (get_or starts i 0) (sound_inside c starts n s i (omega arith)).1) in
      let e : first (suc i) ≡ first i ++ record_bytes (record_of d) = ap (λ (l : List Descriptor). records_bytes (listed l [])) (take-suc ds i no_descriptor (omega (arith, sound_count c starts n s))) ∙ records_more (take i ds) d in
      let before = bytes_from i (omega arith) in (
        ap (λ (x : Record). splice (filled_bytes_to c starts b n i) (28 * i) (record_bytes x)) is
            ∙ ap (λ (l : List ℕ). splice l (28 * i) (record_bytes (record_of d))) before.0
            ∙ splice_join b 0 (first i) (28 * i) (record_bytes (record_of d)) (omega (arith, before.1)) (omega (arith, size))
            ∙ ap (splice b 0) (sym e),
        ap length e ∙ length-append (first i) (record_bytes (record_of d)) ∙ omega (arith, before.1, size),
      )

  -- all of them, and the bytes after them
  bytes_listed : filled_bytes c starts b n ≡ records_bytes (listed ds []) ++ drop (28 * length ds) b
  bytes_listed =
      let all = bytes_from n (omega arith) in
      let whole : take n ds ≡ ds = ap (λ (k : ℕ). take k ds) (sound_count c starts n s) ∙ take-length ds in
      sym (bytes_all c starts b n n _ refl refl)
      ∙ all.0
      ∙ splice_start b (first n)
      ∙ ap (λ (k : ℕ). first n ++ drop k b) (all.1 ∙ ap (λ (k : ℕ). 28 * k) (sound_count c starts n s))
      ∙ ap (λ (l : List Descriptor). records_bytes (listed l []) ++ drop (28 * length ds) b) whole

pub room_size : (b : List ℕ) → length (room_in b) ≡ length b / 28
unfolding room_in
room_size b = length-replicate (length b / 28) no_record

-- a listing into bytes that is refused, and one that fills a record for each region
module _ (c b : List ℕ) where
  pub listing_barred : (n p : ℕ) → answer_of (Listing (room_in b)) c ≡ answer n p → eqb n 0 ≡ false → record { answer = answer n p; bytes = b } ≡ listing_of c b
  unfolding listing_of
  listing_barred n p e z = rw (step_answer (Listing (room_in b)) c, e, z)

  pub listing_filled : answer_of (Listing (room_in b)) c ≡ accepted → (starts : List ℕ) (n : ℕ) → SoundCard c n starts → 28 * n ≤ length b → (x : List ℕ) → x ≡ filled_bytes c starts b n
      → record { answer = accepted; bytes = x } ≡ listing_of c b
  unfolding listing_of
  listing_filled e starts n s room x is = rw (step_answer (Listing (room_in b)) c, e, is, bytes_listed c starts n s b room)
