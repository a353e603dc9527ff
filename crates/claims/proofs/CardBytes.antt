-- A card of bytes stays one: each call stores bytes, and so does a format.
use mathlib.Core.Path.{◌≡◌, refl, sym}
use mathlib.Core.Bool.{Bool, true, false, not, ◌&&◌, ◌||◌}
use mathlib.Core.List.{List, [], ◌∷◌, ◌++◌}
use Prim.Native.Nat.{ℕ, zero, suc, ◌+◌, ◌*◌, ◌-◌, ◌/◌, ◌%◌, ◌<◌}
use native.Mathlib.Omega.{arith}
use lib.ListN.{length, take, drop, replicate}
use lib.Dec.{eqb, ltb, leb}
use borrow.Author.Tests.{eqb-true, leb-true}
use Rattle.blocks.specs.Pick.{pick, all_zero}
use Rattle.blocks.specs.Bytes.{part, splice, le32, block_at, block_count, zero_block, Store, store, store_block, store_all}
use Rattle.blocks.specs.Name.{name_byte, name_length, is_name}
use Rattle.blocks.specs.Descriptor.{table_size, mark, cost_of, head_bytes, tail_at, descriptor_block, renamed_of, linked_of, extended_of, reopened_of, first_of, clearing, copying, opening, cost_in, revision_of, revision_ok, first_tail, reopening}
use Rattle.chains.specs.Chain.{chain, chain_sound, active_of}
use Rattle.blocks.specs.declared.descriptor.Descriptor.{Descriptor}
use Rattle.blocks.proofs.Tests.{and_left, and_right}
use Rattle.blocks.proofs.BoolLaws.{no}
use Rattle.entries.specs.Entry.{need, table_is_new, table_with, tail_with, set_in_table, set_in_new_table, writing}
use Rattle.entries.specs.Found.{Found, Misplaced, Entry}
use Rattle.calls.specs.Call.{Call}
use Rattle.calls.specs.Parts.{area_bad, descriptors_of, snapshots_of, with_name, found_through, block_found}
use Rattle.calls.specs.Stores.{activated_of, snapping, reverting, write_stores, snap_stores, revert_stores}
use Rattle.calls.specs.Step.{step, after}
use Rattle.claims.specs.History.{formats, is_format, AreBytes, bytes_of, written_by, Standing, none, more, formattable, formatted}
use Rattle.claims.proofs.Runs.{standing_length, step_length}
use Rattle.calls.proofs.Passed.{WritePassed, SnapPassed, RevertPassed}
use Rattle.claims.specs.Kinds.{Kind}
use Rattle.claims.proofs.Changes.{stores_by, Allowed, to_format, to_leave, to_write, to_span, to_snap, to_revert}
use Rattle.claims.proofs.Steps.{step_cases}
use Rattle.pieces.specs.Span.{piece_of, merged}
use Rattle.calls.specs.Spans.{merged_on, span_count, write_span_stores}
use Rattle.changes.proofs.SpanSteps.{span_keeps}
use Rattle.blocks.specs.declared.descriptor.Format.{Format}
use Rattle.calls.proofs.ActiveLaws.{active_name_lem}
use Rattle.calls.proofs.CardLaws.{chain_is}

-- lists of bytes: their parts and joins
bytes_nil : AreBytes []
bytes_nil i = omega arith

bytes_cons : (b : ℕ) (l : List ℕ) → b < 256 → AreBytes l → AreBytes (b ∷ l)
bytes_cons b l h t zero = h
bytes_cons b l h t (suc i) = t i

bytes_append : (xs ys : List ℕ) → AreBytes xs → AreBytes ys → AreBytes (xs ++ ys)
bytes_append [] ys h t = t
bytes_append (x ∷ xs) ys h t = bytes_cons x (xs ++ ys) (h 0) (bytes_append xs ys (λ i. h (suc i)) t)

bytes_take : (n : ℕ) (l : List ℕ) → AreBytes l → AreBytes (take n l)
bytes_take zero l h = bytes_nil
bytes_take (suc n) [] h = bytes_nil
bytes_take (suc n) (x ∷ l) h = bytes_cons x (take n l) (h 0) (bytes_take n l (λ i. h (suc i)))

pub bytes_drop : (n : ℕ) (l : List ℕ) → AreBytes l → AreBytes (drop n l)
bytes_drop zero l h = h
bytes_drop (suc n) [] h = h
bytes_drop (suc n) (x ∷ l) h = bytes_drop n l (λ i. h (suc i))

bytes_part : (l : List ℕ) (at n : ℕ) → AreBytes l → AreBytes (part l at n)
bytes_part l at n h = bytes_take n (drop at l) (bytes_drop at l h)

bytes_splice : (l : List ℕ) (at : ℕ) (d : List ℕ) → AreBytes l → AreBytes d → AreBytes (splice l at d)
unfolding splice
bytes_splice l at d h t = bytes_append (take at l ++ d) (drop (at + length d) l) (bytes_append (take at l) d (bytes_take at l h) t) (bytes_drop (at + length d) l h)

bytes_zeros : (n : ℕ) → AreBytes (replicate n 0)
bytes_zeros zero = bytes_nil
bytes_zeros (suc n) = bytes_cons 0 (replicate n 0) (omega arith) (bytes_zeros n)

bytes_four : (a b c d : ℕ) → a < 256 → b < 256 → c < 256 → d < 256 → AreBytes (a ∷ b ∷ c ∷ d ∷ [])
bytes_four a b c d p q r s = bytes_cons a (b ∷ c ∷ d ∷ []) p (bytes_cons b (c ∷ d ∷ []) q (bytes_cons c (d ∷ []) r (bytes_cons d [] s bytes_nil)))

bytes_le32 : (v : ℕ) → AreBytes (le32 v)
unfolding le32
bytes_le32 v = bytes_four (v % 256) (v / 256 % 256) (v / 65536 % 256) (v / 16777216 % 256) (omega arith) (omega arith) (omega arith) (omega arith)

-- a name is bytes
small_by : (b : ℕ) (p x q y u v : Bool) → leb b 122 ≡ x → leb b 57 ≡ y → eqb b 46 ≡ u → eqb b 45 ≡ v → ((p && x) || (q && y) || u || v) ≡ true → b < 256
small_by b p true q y u v ex ey eu ev h = omega (arith, leb-true b 122 ex)
small_by b p false q true u v ex ey eu ev h = omega (arith, leb-true b 57 ey)
small_by b p false q false true v ex ey eu ev h = omega (arith, eqb-true b 46 eu)
small_by b p false q false false true ex ey eu ev h = omega (arith, eqb-true b 45 ev)
small_by b true false true false false false ex ey eu ev h = no h
small_by b true false false false false false ex ey eu ev h = no h
small_by b false false true false false false ex ey eu ev h = no h
small_by b false false false false false false ex ey eu ev h = no h

byte_small : (b : ℕ) → name_byte b ≡ true → b < 256
unfolding name_byte
byte_small b h = small_by b (leb 97 b) (leb b 122) (leb 48 b) (leb b 57) (eqb b 46) (eqb b 45) refl refl refl refl h

bytes_zero : (l : List ℕ) → all_zero l ≡ true → AreBytes l
unfolding all_zero
bytes_zero [] h = bytes_nil
bytes_zero (x ∷ l) h = bytes_cons x l (omega (arith, eqb-true x 0 (and_left (eqb x 0) (all_zero l) h))) (bytes_zero l (and_right (eqb x 0) (all_zero l) h))

name_by : (b : ℕ) (bs : List ℕ) (z : Bool) → name_byte b ≡ z → (all_zero (drop (name_length bs) bs) ≡ true → AreBytes bs) → all_zero (drop (pick z (suc (name_length bs)) 0) (b ∷ bs)) ≡ true → AreBytes (b ∷ bs)
name_by b bs true q later h = bytes_cons b bs (byte_small b q) (later h)
name_by b bs false q later h = bytes_zero (b ∷ bs) h

name_from_lem : (n : List ℕ) → all_zero (drop (name_length n) n) ≡ true → AreBytes n
unfolding name_length
name_from_lem [] h = bytes_nil
name_from_lem (b ∷ bs) h = name_by b bs (name_byte b) refl (name_from_lem bs) h

bytes_name : (n : List ℕ) → is_name n ≡ true → AreBytes n
unfolding is_name
bytes_name n h = name_from_lem n (and_right (eqb (length n) 16 && ltb 0 (name_length n)) (all_zero (drop (name_length n) n)) h)

-- blocks of bytes
bytes_mark : AreBytes mark
bytes_mark = bytes_four 115 110 97 112 (omega arith) (omega arith) (omega arith) (omega arith)

-- one number more
bytes_number : (xs : List ℕ) (v : ℕ) → AreBytes xs → AreBytes (xs ++ le32 v)
bytes_number xs v h = bytes_append xs (le32 v) h (bytes_le32 v)

bytes_head : (d : Descriptor) → AreBytes d.name → AreBytes (head_bytes d)
unfolding head_bytes
bytes_head d h =
    let a = mark ++ le32 d.layout in
    let b = a ++ le32 d.volume in
    let e = b ++ le32 d.alpha.0 in
    let f = e ++ le32 d.beta.0 in
    bytes_append (f ++ le32 d.next.0) d.name
    (bytes_number f d.next.0 (bytes_number e d.beta.0 (bytes_number b d.alpha.0 (bytes_number a d.volume (bytes_number mark d.layout bytes_mark))))) h

bytes_descriptor : (d : Descriptor) (tail : List ℕ) → AreBytes d.name → AreBytes tail → AreBytes (descriptor_block d tail)
unfolding descriptor_block
bytes_descriptor d tail h t = bytes_append (head_bytes d) tail (bytes_head d h) t

bytes_block : (c : List ℕ) (p : ℕ) → AreBytes c → AreBytes (block_at c p)
unfolding block_at
bytes_block c p h = bytes_part c (512 * p) 512 h

bytes_tail : (c : List ℕ) (p : ℕ) → AreBytes c → AreBytes (tail_at c p)
bytes_tail c p h = bytes_part c (512 * p + 40) 472 h

bytes_table : (table : List ℕ) (j q : ℕ) → AreBytes table → AreBytes (table_with table j q)
unfolding table_with
bytes_table table j q h = bytes_splice table (4 * j) (le32 q) h (bytes_le32 q)

bytes_phi : (tail : List ℕ) (i m : ℕ) → AreBytes tail → AreBytes (tail_with tail i m)
unfolding tail_with
bytes_phi tail i m h = bytes_splice tail _ (le32 m) h (bytes_le32 m)

bytes_pick : (z : Bool) (a b : List ℕ) → AreBytes a → AreBytes b → AreBytes (pick z a b)
bytes_pick true a b h t = h
bytes_pick false a b h t = t

-- lists of stores of bytes
data ByteStores : List Store → Type 0 where
  nothing : ByteStores []
  also : (p : ℕ) (b : List ℕ) {ss : List Store} → AreBytes b → ByteStores ss → ByteStores (store p b ∷ ss)

stores_append : {xs ys : List Store} → ByteStores xs → ByteStores ys → ByteStores (xs ++ ys)
stores_append nothing ys = ys
stores_append (also p b h xs) ys = also p b h (stores_append xs ys)

stores_pick : (z : Bool) (xs ys : List Store) → ByteStores xs → ByteStores ys → ByteStores (pick z xs ys)
stores_pick true xs ys h t = h
stores_pick false xs ys h t = t

bytes_stored : (c : List ℕ) → AreBytes c → {ss : List Store} → ByteStores ss → AreBytes (store_all c ss)
unfolding store_all store_block
bytes_stored c h nothing = h
bytes_stored c h (also p b {ss = ss} w r) = bytes_stored (store_block c p b) (bytes_splice c (512 * p) b h w) r

stores_clearing : (p n : ℕ) → ByteStores (clearing p n)
unfolding clearing
stores_clearing p zero = nothing
stores_clearing p (suc n) = also p (replicate 512 0) (bytes_zeros 512) (stores_clearing (suc p) n)

stores_copying : (c : List ℕ) → AreBytes c → (from p n : ℕ) → ByteStores (copying c from p n)
unfolding copying
stores_copying c h from p zero = nothing
stores_copying c h from p (suc n) = also p (block_at c from) (bytes_block c from h) (stores_copying c h (suc from) (suc p) n)

bytes_first : (r : ℕ) → AreBytes (first_tail r)
unfolding first_tail
bytes_first r = bytes_append (le32 r) (replicate 468 0) (bytes_le32 r) (bytes_zeros 468)

stores_opening : (format : Format) → AreBytes format.name → ByteStores (opening format)
unfolding opening
stores_opening format h =
    stores_append (stores_clearing 1 (cost_in format - 1))
    (also 0 (descriptor_block (first_of format) (first_tail format.revision)) (bytes_descriptor (first_of format) (first_tail format.revision) h (bytes_first format.revision)) nothing)

-- the stores of a call, on a card of bytes
module _ (c : List ℕ) (card : AreBytes c) where
  stores_snapping : (d : Descriptor) (name : List ℕ) → AreBytes d.name → AreBytes name → ByteStores (snapping c d name)
  unfolding snapping
  stores_snapping d name h t =
      stores_append (stores_copying c card (d.alpha.0 + 1) (d.beta.0 + 1) (cost_of d - 1))
      (also d.beta.0 (descriptor_block (reopened_of d) (tail_at c d.alpha.0)) (bytes_descriptor (reopened_of d) (tail_at c d.alpha.0) h (bytes_tail c d.alpha.0 card))
      (also d.alpha.0 (descriptor_block (linked_of (renamed_of d name) d.beta) (tail_at c d.alpha.0))
      (bytes_descriptor (linked_of (renamed_of d name) d.beta) (tail_at c d.alpha.0) t (bytes_tail c d.alpha.0 card)) nothing))

  stores_reverting : (v : Descriptor) (name : List ℕ) → AreBytes name → ByteStores (reverting c v name)
  unfolding reverting
  stores_reverting v name h =
      let w = activated_of v name in
      let tail = tail_at c v.alpha.0 in
      let bytes = bytes_tail c v.alpha.0 card in
      stores_pick (eqb (revision_of c) 1) (reopening c w []) (store v.alpha.0 (descriptor_block w tail) ∷ [])
      (stores_append (stores_copying c card (v.alpha.0 + 1) (v.beta.0 + 1) (cost_of v - 1)) (also v.beta.0 (descriptor_block (reopened_of w) tail) (bytes_descriptor (reopened_of w) tail h bytes) nothing))
      (also v.alpha.0 (descriptor_block w tail) (bytes_descriptor w tail h bytes) nothing)

  stores_table : (d : Descriptor) (m l : ℕ) → AreBytes d.name → ByteStores (set_in_table c d m l)
  unfolding set_in_table
  stores_table d m l h =
      also d.alpha.0 (descriptor_block (extended_of d 1) (tail_at c d.alpha.0)) (bytes_descriptor (extended_of d 1) (tail_at c d.alpha.0) h (bytes_tail c d.alpha.0 card))
      (also m (table_with (block_at c m) (l % table_size) d.beta.0) (bytes_table (block_at c m) (l % table_size) d.beta.0 (bytes_block c m card)) nothing)

  stores_new_table : (d : Descriptor) (m l : ℕ) → AreBytes d.name → ByteStores (set_in_new_table c d m l)
  unfolding set_in_new_table
  stores_new_table d m l h =
      let table = pick (eqb m 0) zero_block (block_at c m) in
      let tail = tail_with (tail_at c d.alpha.0) (l / table_size) d.beta.0 in
      also d.beta.0 (table_with table (l % table_size) (d.beta.0 + 1))
      (bytes_table table (l % table_size) (d.beta.0 + 1) (bytes_pick (eqb m 0) zero_block (block_at c m) (bytes_zeros 512) (bytes_block c m card)))
      (also d.alpha.0 (descriptor_block (extended_of d 2) tail)
      (bytes_descriptor (extended_of d 2) tail h (bytes_phi (tail_at c d.alpha.0) (l / table_size) d.beta.0 (bytes_tail c d.alpha.0 card))) nothing)

  stores_writing : (d : Descriptor) (found : Found) (l : ℕ) (block : List ℕ) → AreBytes d.name → AreBytes block → ByteStores (writing c d found l block)
  unfolding writing
  stores_writing d (Misplaced x) l block h t = nothing
  stores_writing d (Entry m p) l block h t =
      stores_pick (eqb (need d.alpha.0 (Entry m p)) 0) (store p.0 block ∷ []) _ (also p.0 block t nothing)
      (stores_pick (table_is_new d.alpha.0 m.0) (store (d.beta.0 + 1) block ∷ set_in_new_table c d m.0 l) (store d.beta.0 block ∷ set_in_table c d m.0 l)
      (also (d.beta.0 + 1) block t (stores_new_table d m.0 l h))
      (also d.beta.0 block t (stores_table d m.0 l h)))

  -- the name of the active descriptor
  active_bytes : area_bad c ≡ false → chain_sound (chain c) ≡ true → AreBytes (active_of (descriptors_of c)).name
  active_bytes a s = bytes_name (active_of (descriptors_of c)).name (active_name_lem c (descriptors_of c) (chain_is (chain c) s))

  stores_write : (l : ℕ) (block : List ℕ) → AreBytes block → WritePassed c l block → ByteStores (write_stores c l block)
  unfolding write_stores
  stores_write l block t e =
      let d = active_of (descriptors_of c) in
      stores_writing d (found_through c d l) l block (active_bytes e.area e.sound) t

  stores_snap : (name : List ℕ) → SnapPassed c name → ByteStores (snap_stores c name)
  unfolding snap_stores
  stores_snap name e = stores_snapping (active_of (descriptors_of c)) name (active_bytes e.area e.sound) (bytes_name name e.called)

  stores_revert : (name : List ℕ) → RevertPassed c name → ByteStores (revert_stores c name)
  unfolding revert_stores
  stores_revert name e =
      let ds = descriptors_of c in
      stores_reverting (with_name (snapshots_of ds) name) (active_of ds).name (active_bytes e.area e.sound)

-- the bytes of a block that is read, and of one with a span's bytes laid over it
bytes_found : (c : List ℕ) → AreBytes c → (f : Found) → AreBytes (block_found c f)
unfolding block_found
bytes_found c h (Misplaced x) = bytes_zeros 512
bytes_found c h (Entry m p) = bytes_pick (eqb p.0 0) zero_block (block_at c p.0) (bytes_zeros 512) (bytes_block c p.0 h)

bytes_merged : (c : List ℕ) → AreBytes c → (o : ℕ) (bytes : List ℕ) → AreBytes bytes → (l : ℕ) → AreBytes (merged_on c o bytes l)
unfolding merged_on merged
bytes_merged c h o bytes w l =
    let p = piece_of o (length bytes) l in
    let f = found_through c (active_of (descriptors_of c)) l in
    bytes_splice (block_found c f) p.first (part bytes p.stands p.count) (bytes_found c h f) (bytes_part bytes p.stands p.count w)

module _ (c : List ℕ) (card : AreBytes c) where
  bytes_change : {x : Kind} → AreBytes (bytes_of x) → formats x ≡ false → Allowed c x → AreBytes (store_all c (stores_by x c))
  unfolding bytes_of formats stores_by write_span_stores
  bytes_change w f (to_format h) = no (sym f)
  bytes_change w f to_leave = bytes_stored c card nothing
  bytes_change w f (to_write {l = l} {block = block} h) = bytes_stored c card (stores_write c card l block w h)
  bytes_change w f (to_span {o = o} {bytes = bytes} h) =
      span_keeps c o bytes h AreBytes card (λ s l p e b. bytes_stored s b (stores_write s b l (merged_on s o bytes l) (bytes_merged s b o bytes w l) e)) (span_count o bytes) (omega arith)
  bytes_change w f (to_snap {name = name} h) = bytes_stored c card (stores_snap c card name h)
  bytes_change w f (to_revert {name = name} h) = bytes_stored c card (stores_revert c card name h)

-- a call that is no accepted format, and a list of them
pub bytes_step : (k : Call) (c : List ℕ) → AreBytes c → AreBytes (written_by k) → is_format k c ≡ false → AreBytes (step k c).card
unfolding written_by
bytes_step k c h w f = step_cases k c AreBytes (λ e. h) (λ e n a. bytes_change c h w n a) f

pub bytes_run : (ks : List Call) (c : List ℕ) → AreBytes c → Standing c ks → AreBytes (after ks c)
unfolding after
bytes_run [] c h none = h
bytes_run (k ∷ ks) c h (more f w r) = bytes_run ks (step k c).card (bytes_step k c h w f) (standing_length c (step k c).card (sym (step_length k c)) ks r)

-- a format
format_name : (area : List ℕ) (format : Format) → formattable area format ≡ true → is_name format.name ≡ true
unfolding formattable
format_name area format h =
    let before = not (area_bad area) && (eqb format.layout 1 || eqb format.layout 2) && ltb 0 format.volume && leb format.volume 14336 && revision_ok format.revision in
    and_right before (is_name format.name) (and_left (before && is_name format.name) (leb (cost_in format) (block_count area)) h)

pub bytes_format : (area : List ℕ) (format : Format) → AreBytes area → formattable area format ≡ true → AreBytes (formatted area format)
unfolding formatted
bytes_format area format h f = bytes_stored area h (stores_opening format (bytes_name format.name (format_name area format f)))
