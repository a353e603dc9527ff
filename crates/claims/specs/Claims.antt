-- What is claimed of the calls, each claim a theorem in proofs/: areas and names, refusals and their places, room, check, the algorithms, the ledger over whole lists of calls, and the rollback claim.
-- A card area and what is written to it are bytes; the claims that need it say so by AreBytes. What stands in quotation marks is from the order's three
-- demands, which README gives, or from document 01; what is from document 02 says so.
use Rattle.std.specs.Prelude.{◌≡◌, ◌⊎◌, ◌↔◌, Bool, true, false, not, ◌&&◌, ◌||◌, List, [], ◌∷◌, ◌++◌, map, ℕ, suc, ◌+◌, ◌*◌, ◌/◌, ◌%◌, ◌<◌, ◌≤◌, length, take, drop, get_or, replicate, eqb}
use Rattle.blocks.specs.Pick.{pick, same}
use Rattle.blocks.specs.Bytes.{block_size, part, le32, block_count, block_at, zero_block}
use Rattle.blocks.specs.Name.{is_name}
use Rattle.blocks.specs.Descriptor.{physical, no_descriptor, table_size, table_count, cost_of, revision_of, first_of, descriptor_block, renamed_of, linked_of, extended_of, reopened_of, cost_in}
use Rattle.pieces.specs.Span.{touched}
use Rattle.chains.specs.Chain.{Sound, Unsound, chain, chain_sound, index_of, named, active_of}
use Rattle.chains.specs.Chained.{FirstUnsound, Chained}
use Rattle.blocks.specs.declared.descriptor.Descriptor.{Descriptor}
use Rattle.entries.specs.InPlace.{is_in_place}
use Rattle.entries.specs.Entry.{entry_at, phi_at, need}
use Rattle.entries.specs.Naming.{Naming, namings, at_fault}
use Rattle.entries.specs.Rules.{Rules}
use Rattle.calls.specs.Call.{Target, Call, Ream, Read, Write, Snap, Revert, Listing, Check, Visit, SpanRead, SpanWrite, Lent, None, Block, Records, answer, accepted, NoneGiven}
use Rattle.calls.specs.declared.answer.Record.{Record}
use Rattle.calls.specs.Parts.{area_bad, descriptors_of, snapshots_of, with_name, is_snapshot, target_of, found_through}
use Rattle.calls.specs.Check.{Passes}
use Rattle.calls.specs.Stores.{staying}
use Rattle.calls.specs.Spans.{write_span_need}
use Rattle.calls.specs.Ladder.{row}
use Rattle.calls.specs.Meaning.{rows_of, answer_of}
use Rattle.claims.specs.Algorithms.{copy_range, close_region, open_region, algorithm1, algorithm2, algorithm3, algorithm4, algorithm5, algorithm6}
use Rattle.calls.specs.Step.{step, after, outcomes, is_accepted}
use Rattle.claims.specs.Kinds.{Kind, Formats, Leaves, Writes, WritesSpan, Snaps, Reverts, kind_of}
use Rattle.claims.specs.History.{beta_of, Agree, is_ream, is_format, AreBytes, written_by, Standing, is_snap_of, Position, Nowhere, At, latest_snap, without, formattable, formatted}
use Rattle.claims.specs.Ledger.{Ledger, ledger_step, ledger_number, cell_read, run_read, ledger_names, ledger_of}
use Rattle.blocks.specs.declared.descriptor.Format.{Format}

-- Areas and names.

-- An area is a card exactly where it is n blocks of 512 bytes, n from 2 to 65,536.
unfoldable pub AreaClaim : Type 0
AreaClaim = (c : List ℕ) → (area_bad c ≡ false) ↔ ((n : ℕ) × (2 ≤ n) × (n ≤ 65536) × (length c ≡ 512 * n))

-- Names are compared whole: two are the same exactly where every byte is.
unfoldable pub NameClaim : Type 0
NameClaim = (a b : List ℕ) → (same a b ≡ true) ↔ (a ≡ b)

-- Refusals, formats and room.

-- the blocks that a change takes on a card: a write's need, the sum of a span's, a snap's c. A revert takes none: on revision 1 too its c blocks end at or below the active beta. And
-- those that a call takes
unfoldable pub blocks_taken : Kind → List ℕ → ℕ
blocks_taken (Formats format) c = 0
blocks_taken Leaves c = 0
blocks_taken (Writes l block) c = let d = active_of (descriptors_of c) in need d.alpha.0 (found_through c d l)
blocks_taken (WritesSpan o bytes) c = write_span_need c o bytes
blocks_taken (Snaps name) c = cost_of (active_of (descriptors_of c))
blocks_taken (Reverts name) c = 0

unfoldable pub blocks_needed : Call → List ℕ → ℕ
unfolding kind_of blocks_taken
blocks_needed k c = blocks_taken (kind_of k) c

-- what is lent to a call at its entry, besides the card: the block of a read or of a write, the bytes of a span, the records of a listing
unfoldable pub lent_at_entry : Call → Lent
lent_at_entry (Ream format) = None
lent_at_entry (Read target name l block) = Block block
lent_at_entry (Write l block) = Block block
lent_at_entry (Snap name) = None
lent_at_entry (Revert name) = None
lent_at_entry (Listing records) = Records records
lent_at_entry Check = None
lent_at_entry (Visit target name l) = None
lent_at_entry (SpanRead target name o bytes) = Block bytes
lent_at_entry (SpanWrite o bytes) = Block bytes

-- A refusal alters no byte of the card or of lent memory and gives nothing, and an accepted call answers 0 with place 0.
unfoldable pub RefusalClaim : Type 0
RefusalClaim =
    (k : Call) (c : List ℕ)
    → (is_accepted (answer_of k c) ≡ false → ((step k c).card ≡ c) × ((step k c).outcome ≡ record { answer = answer_of k c; lent = lent_at_entry k; given = NoneGiven }))
    × (is_accepted (answer_of k c) ≡ true → (step k c).outcome.answer ≡ accepted)

-- A ream is accepted exactly where the area can be formatted so, whatever it holds, and leaves the format.
unfoldable pub ReamClaim : Type 0
ReamClaim =
    (area : List ℕ) (format : Format)
    → (is_accepted (answer_of (Ream format) area) ≡ formattable area format)
    × (formattable area format ≡ true → (step (Ream format) area).card ≡ formatted area format)

-- The whole chain after an accepted call: a write moves the active beta by its need, a span write by the sum of its blocks', a snap opens a region of c blocks at beta, a revert goes back to
-- the snapshot's region, with those before it; on revision 1 the snapshot stays too, and a region opens at its beta (02, W5). The active name stays, and every
-- other descriptor is as it was.
pub record MovesBeta (c : List ℕ) : Type 0 where
  pub write : (l : ℕ) (block : List ℕ) → is_accepted (answer_of (Write l block) c) ≡ true
      → descriptors_of (step (Write l block) c).card
      ≡ snapshots_of (descriptors_of c) ++ (extended_of (active_of (descriptors_of c)) (blocks_needed (Write l block) c) ∷ [])
  pub span : (o : ℕ) (bytes : List ℕ) → is_accepted (answer_of (SpanWrite o bytes) c) ≡ true
      → descriptors_of (step (SpanWrite o bytes) c).card
      ≡ snapshots_of (descriptors_of c) ++ (extended_of (active_of (descriptors_of c)) (blocks_needed (SpanWrite o bytes) c) ∷ [])
  pub snap : (name : List ℕ) → is_accepted (answer_of (Snap name) c) ≡ true
      → descriptors_of (step (Snap name) c).card
      ≡ snapshots_of (descriptors_of c) ++ (linked_of (renamed_of (active_of (descriptors_of c)) name) (active_of (descriptors_of c)).beta ∷ reopened_of (active_of (descriptors_of c)) ∷ [])
  pub revert : (name : List ℕ) → is_accepted (answer_of (Revert name) c) ≡ true → revision_of c ≡ 0
      → let ss = snapshots_of (descriptors_of c) in
      descriptors_of (step (Revert name) c).card
      ≡ take (index_of ss name) ss ++ (linked_of (renamed_of (with_name ss name) (active_of (descriptors_of c)).name) (physical 0) ∷ [])
  pub revert_1 : (name : List ℕ) → is_accepted (answer_of (Revert name) c) ≡ true → revision_of c ≡ 1
      → let ss = snapshots_of (descriptors_of c) in
      descriptors_of (step (Revert name) c).card
      ≡ take (suc (index_of ss name)) ss ++ (reopened_of (linked_of (renamed_of (with_name ss name) (active_of (descriptors_of c)).name) (physical 0)) ∷ [])

unfoldable pub RoomClaim : Type 0
RoomClaim = (c : List ℕ) → MovesBeta c

-- Every call but an accepted format, on a card with a sound chain, leaves a sound chain with the same revision, layout, L and active name.
unfoldable pub SoundClaim : Type 0
SoundClaim =
    (k : Call) (c : List ℕ) → chain_sound (chain c) ≡ true → is_format k c ≡ false
    → let d = active_of (descriptors_of c) in
    let e = active_of (descriptors_of (step k c).card) in
    (chain_sound (chain (step k c).card) ≡ true) × (revision_of (step k c).card ≡ revision_of c) × (e.layout ≡ d.layout) × (e.volume ≡ d.volume) × (e.name ≡ d.name)

-- a kind that stores nothing; a call of that kind; a call that fills what is lent
unfoldable pub leaves : Kind → Bool
leaves (Formats format) = false
leaves Leaves = true
leaves (Writes l block) = false
leaves (WritesSpan o bytes) = false
leaves (Snaps name) = false
leaves (Reverts name) = false

unfoldable pub stores_nothing : Call → Bool
unfolding kind_of leaves
stores_nothing k = leaves (kind_of k)

unfoldable pub fills : Call → Bool
fills (Ream format) = false
fills (Read target name l block) = true
fills (Write l block) = false
fills (Snap name) = false
fills (Revert name) = false
fills (Listing records) = true
fills Check = false
fills (Visit target name l) = false
fills (SpanRead target name o bytes) = true
fills (SpanWrite o bytes) = false

-- No call alters the card's length; a read, a span read, a visit, a listing and a check alter no byte of the card; only a read, a span read and a listing alter what is
-- lent.
unfoldable pub FrameClaim : Type 0
FrameClaim =
    (k : Call) (c : List ℕ)
    → (length (step k c).card ≡ length c)
    × (stores_nothing k ≡ true → (step k c).card ≡ c)
    × (fills k ≡ false → (step k c).outcome.lent ≡ lent_at_entry k)

-- What the definitions by kind say of each call by its name, on a card c: which calls alter no byte of the card, which alter nothing that is lent, the
-- blocks that each takes ("A write takes at most two blocks; a snap takes c"), the bytes that it is lent to write, whether it is a ream, whether it is an
-- accepted format of the card (a refused ream is none, and stands in lists of calls), whether it is a snap of the visit v, and that it gives nothing
-- besides its answer, as every call but a visit. Other claims go by these, and would say less if one were changed.
pub record ByName (c v : List ℕ) : Type 0 where
  pub ream : (format : Format) → let k = Ream format in
      ((step k c).outcome.lent ≡ None) × (blocks_needed k c ≡ 0) × (written_by k ≡ []) × (is_ream k ≡ true) × (is_format k c ≡ is_accepted (answer_of k c)) × (is_snap_of v k ≡ false) × ((step k c).outcome.given ≡ NoneGiven)
  pub read : (target : Target) (name : List ℕ) (l : ℕ) (block : List ℕ) → let k = Read target name l block in
      ((step k c).card ≡ c) × (blocks_needed k c ≡ 0) × (written_by k ≡ []) × (is_ream k ≡ false) × (is_format k c ≡ false) × (is_snap_of v k ≡ false) × ((step k c).outcome.given ≡ NoneGiven)
  pub write : (l : ℕ) (block : List ℕ) → let k = Write l block in
      ((step k c).outcome.lent ≡ Block block) × (blocks_needed k c ≤ 2) × (written_by k ≡ block) × (is_ream k ≡ false) × (is_format k c ≡ false) × (is_snap_of v k ≡ false) × ((step k c).outcome.given ≡ NoneGiven)
  pub snap : (name : List ℕ) → let k = Snap name in
      ((step k c).outcome.lent ≡ None) × (blocks_needed k c ≡ cost_of (active_of (descriptors_of c))) × (written_by k ≡ []) × (is_ream k ≡ false) × (is_format k c ≡ false) × (is_snap_of v k ≡ same name v) × ((step k c).outcome.given ≡ NoneGiven)
  pub revert : (name : List ℕ) → let k = Revert name in
      ((step k c).outcome.lent ≡ None) × (blocks_needed k c ≡ 0) × (written_by k ≡ []) × (is_ream k ≡ false) × (is_format k c ≡ false) × (is_snap_of v k ≡ false) × ((step k c).outcome.given ≡ NoneGiven)
  pub list : (records : List Record) → let k = Listing records in
      ((step k c).card ≡ c) × (blocks_needed k c ≡ 0) × (written_by k ≡ []) × (is_ream k ≡ false) × (is_format k c ≡ false) × (is_snap_of v k ≡ false) × ((step k c).outcome.given ≡ NoneGiven)
  pub check : ((step Check c).card ≡ c) × ((step Check c).outcome.lent ≡ None) × (blocks_needed Check c ≡ 0) × (written_by Check ≡ []) × (is_ream Check ≡ false) × (is_format Check c ≡ false) × (is_snap_of v Check ≡ false) × ((step Check c).outcome.given ≡ NoneGiven)
  pub visit : (target : Target) (name : List ℕ) (l : ℕ) → let k = Visit target name l in
      ((step k c).card ≡ c) × ((step k c).outcome.lent ≡ None) × (blocks_needed k c ≡ 0) × (written_by k ≡ []) × (is_ream k ≡ false) × (is_format k c ≡ false) × (is_snap_of v k ≡ false)
  pub span_read : (target : Target) (name : List ℕ) (o : ℕ) (bytes : List ℕ) → let k = SpanRead target name o bytes in
      ((step k c).card ≡ c) × (blocks_needed k c ≡ 0) × (written_by k ≡ []) × (is_ream k ≡ false) × (is_format k c ≡ false) × (is_snap_of v k ≡ false) × ((step k c).outcome.given ≡ NoneGiven)
  pub span_write : (o : ℕ) (bytes : List ℕ) → let k = SpanWrite o bytes in
      ((step k c).outcome.lent ≡ Block bytes) × (blocks_needed k c ≤ 2 * touched o (length bytes)) × (written_by k ≡ bytes) × (is_ream k ≡ false) × (is_format k c ≡ false) × (is_snap_of v k ≡ false) × ((step k c).outcome.given ≡ NoneGiven)

unfoldable pub ByNameClaim : Type 0
ByNameClaim = (c v : List ℕ) → ByName c v

-- An accepted listing gives each descriptor's own name, alpha, beta and next, and leaves the records after them.
unfoldable pub ListClaim : Type 0
ListClaim =
    (records : List Record) (c : List ℕ) → is_accepted (answer_of (Listing records) c) ≡ true
    → let ds = descriptors_of c in
    (filled : List Record) × ((step (Listing records) c).outcome.lent ≡ Records filled)
    × (length filled ≡ length records)
    × ((i : ℕ) (r : Record) → i < length ds
    → let d = get_or ds i no_descriptor in
    get_or filled i r ≡ record { name = d.name; alpha = d.alpha; beta = d.beta; next = d.next })
    × (drop (length ds) filled ≡ drop (length ds) records)

-- 'No room' comes only if the blocks needed exceed those free, on any card.
unfoldable pub NoRoomClaim : Type 0
NoRoomClaim = (k : Call) (c : List ℕ) → (answer_of k c).number ≡ 11 → block_count c < beta_of c + blocks_needed k c

-- Each row is given exactly where its condition holds and no earlier one does; a call is accepted exactly where none holds.
unfoldable pub TableClaim : Type 0
TableClaim =
    (k : Call) (c : List ℕ)
    → ((i : ℕ) → i < length (rows_of k c)
    → let r = get_or (rows_of k c) i (row false 0 0) in
    (answer_of k c ≡ answer r.number r.place) ↔ ((r.holds ≡ true) × ((j : ℕ) → j < i → (get_or (rows_of k c) j (row false 0 0)).holds ≡ false)))
    × ((answer_of k c ≡ accepted) ↔ ((i : ℕ) → i < length (rows_of k c) → (get_or (rows_of k c) i (row false 0 0)).holds ≡ false))

-- The places of 6 and 10.

-- whether a call comes to the chain: the area is a card, a name that is given is one, the caller's block has 512 bytes. A ream never does
unfoldable pub comes_to_chain : Call → List ℕ → Bool
comes_to_chain (Ream format) c = false
comes_to_chain (Read target name l block) c = not (area_bad c) && (not (is_snapshot target) || is_name name) && eqb (length block) block_size
comes_to_chain (Write l block) c = not (area_bad c) && eqb (length block) block_size
comes_to_chain (Snap name) c = not (area_bad c) && is_name name
comes_to_chain (Revert name) c = not (area_bad c) && is_name name
comes_to_chain (Listing records) c = not (area_bad c)
comes_to_chain Check c = not (area_bad c)
comes_to_chain (Visit target name l) c = not (area_bad c) && (not (is_snapshot target) || is_name name)
comes_to_chain (SpanRead target name o bytes) c = not (area_bad c) && (not (is_snapshot target) || is_name name)
comes_to_chain (SpanWrite o bytes) c = not (area_bad c)

-- A sound chain is all the descriptors from block 0 on; an unsound one is so at the block of its first unsound descriptor. 6 is given exactly where a
-- call comes to an unsound chain, with that place.
unfoldable pub ChainClaim : Type 0
ChainClaim =
    (c : List ℕ)
    → ((ds : List Descriptor) → (chain c ≡ Sound ds) ↔ Chained c [] 0 ds)
    × ((q : ℕ) → (chain c ≡ Unsound q) ↔ FirstUnsound c [] 0 q)
    × ((k : Call) (q : ℕ) → (answer_of k c ≡ answer 6 q) ↔ ((comes_to_chain k c ≡ true) × FirstUnsound c [] 0 q))

-- block h holds an entry that is followed on the way to logical block l through d and that is not in place: Phi's entry of l's group, held by the
-- descriptor's own block; or the entry of l, held by its table block, which layout 1 has after the descriptor and layout 2 where Phi's entry names it
pub data NotInPlace (c : List ℕ) (d : Descriptor) (l : ℕ) : ℕ → Type 0 where
  phi : d.layout ≡ 2 → is_in_place (descriptors_of c) d (phi_at c d (l / table_size)) ≡ false → NotInPlace c d l d.alpha.0
  named_table : d.layout ≡ 2 → is_in_place (descriptors_of c) d (phi_at c d (l / table_size)) ≡ true → (phi_at c d (l / table_size) ≡ 0 → ⊥)
      → is_in_place (descriptors_of c) d (entry_at c (phi_at c d (l / table_size)) (l % table_size)) ≡ false → NotInPlace c d l (phi_at c d (l / table_size))
  own_table : d.layout ≡ 1 → is_in_place (descriptors_of c) d (entry_at c (d.alpha.0 + 1 + l / table_size) (l % table_size)) ≡ false
      → NotInPlace c d l (d.alpha.0 + 1 + l / table_size)

-- 10 in reads, visits and writes: given exactly where the call comes to a sound chain, a snapshot that is named is there, the number is below L and an entry
-- that is followed is not in place; the place is the block that holds it
pub record MisplacedPlaces (c : List ℕ) : Type 0 where
  pub read : (target : Target) (name : List ℕ) (l : ℕ) (block : List ℕ) (h : ℕ)
      → (answer_of (Read target name l block) c ≡ answer 10 h)
      ↔ ((comes_to_chain (Read target name l block) c ≡ true) × (chain_sound (chain c) ≡ true) × ((not (is_snapshot target) || named (snapshots_of (descriptors_of c)) name) ≡ true)
      × (l < (active_of (descriptors_of c)).volume) × NotInPlace c (target_of (descriptors_of c) target name) l h)
  pub visit : (target : Target) (name : List ℕ) (l h : ℕ)
      → (answer_of (Visit target name l) c ≡ answer 10 h)
      ↔ ((comes_to_chain (Visit target name l) c ≡ true) × (chain_sound (chain c) ≡ true) × ((not (is_snapshot target) || named (snapshots_of (descriptors_of c)) name) ≡ true)
      × (l < (active_of (descriptors_of c)).volume) × NotInPlace c (target_of (descriptors_of c) target name) l h)
  pub write : (l : ℕ) (block : List ℕ) (h : ℕ)
      → (answer_of (Write l block) c ≡ answer 10 h)
      ↔ ((comes_to_chain (Write l block) c ≡ true) × (chain_sound (chain c) ≡ true) × (l < (active_of (descriptors_of c)).volume) × NotInPlace c (active_of (descriptors_of c)) l h)

unfoldable pub PlaceClaim : Type 0
PlaceClaim = (c : List ℕ) → MisplacedPlaces c

-- Check and the algorithms.

-- Check answers 0 exactly on the cards that pass.
unfoldable pub CheckClaim : Type 0
CheckClaim = (c : List ℕ) → (answer_of Check c ≡ accepted) ↔ Passes c

-- the values that some namings add to those named before
unfoldable pub values_of : List ℕ → List Naming → List ℕ
values_of before [] = before
values_of before (e ∷ es) = values_of (e.value ∷ before) es

-- what stands for a naming where there is none
abbrev pub no_naming : Naming
no_naming = record { holder = 0; value = 0; counted = true; phi = true }

-- the first fault: every earlier descriptor keeps the rules, every earlier naming of this one is in order, and this naming is not
pub record FirstFault (c : List ℕ) (place : ℕ) : Type 0 where
  pub index : ℕ
  pub inside : index < length (descriptors_of c)
  pub earlier : (k : ℕ) → k < index → Rules c (descriptors_of c) (get_or (descriptors_of c) k no_descriptor)
  pub naming : ℕ
  pub walked : naming < length (namings c (get_or (descriptors_of c) index no_descriptor))
  pub before : let d = get_or (descriptors_of c) index no_descriptor in
      (j : ℕ) → j < naming → at_fault (descriptors_of c) d (values_of [] (take j (namings c d))) (get_or (namings c d) j no_naming) ≡ false
  pub here : let d = get_or (descriptors_of c) index no_descriptor in
      at_fault (descriptors_of c) d (values_of [] (take naming (namings c d))) (get_or (namings c d) naming no_naming) ≡ true
  pub holder : (get_or (namings c (get_or (descriptors_of c) index no_descriptor)) naming no_naming).holder ≡ place

-- Check answers 10 with the block that holds the first entry at fault.
unfoldable pub FaultClaim : Type 0
FaultClaim = (c : List ℕ) (place : ℕ) → area_bad c ≡ false → chain_sound (chain c) ≡ true → (answer_of Check c ≡ answer 10 place) ↔ FirstFault c place

-- Accepted reads, writes and snaps are the paper's algorithms, block by block, in both layouts: "Blocks read, tables, descriptors, alpha and beta
-- are those of the paper's six algorithms as document 01 completes them". Sigma is the card's blocks, alpha the descriptor's own block.
pub record FollowsAlgorithms (c : List ℕ) : Type 0 where
  pub read : (target : Target) (name : List ℕ) (l : ℕ) (block : List ℕ) → is_accepted (answer_of (Read target name l block) c) ≡ true
      → let d = target_of (descriptors_of c) target name in
      (step (Read target name l block) c).outcome.lent ≡ Block (pick (eqb d.layout 1) (algorithm1 (block_at c) d.alpha.0 l) (algorithm4 (block_at c) d.alpha.0 l))
  pub write : (l : ℕ) (block : List ℕ) → is_accepted (answer_of (Write l block) c) ≡ true → (p : ℕ) → p < block_count c
      → let d = active_of (descriptors_of c) in
      block_at (step (Write l block) c).card p ≡ pick (eqb d.layout 1) (algorithm2 (block_at c) d.alpha.0 l block) (algorithm5 (block_at c) d.alpha.0 l block) p
  pub snap : (name : List ℕ) → is_accepted (answer_of (Snap name) c) ≡ true → (p : ℕ) → p < block_count c
      → let d = active_of (descriptors_of c) in
      block_at (step (Snap name) c).card p ≡ pick (eqb d.layout 1) (algorithm3 (block_at c) d.alpha.0 (table_count d.volume) name) (algorithm6 (block_at c) d.alpha.0 name) p
  -- "Revert gives the snapshot's descriptor the active name and a nil next", and no other byte changes; on revision 1 (02, W5) it "leaves the snapshot's
  -- descriptor as it is and opens a new active region from it, at its beta, as snap does, under the active name": a copy of c blocks, and in the first of
  -- them name, next, alpha and beta
  pub revert : (name : List ℕ) → is_accepted (answer_of (Revert name) c) ≡ true → revision_of c ≡ 0 → (p : ℕ) → p < block_count c
      → let v = with_name (snapshots_of (descriptors_of c)) name in
      block_at (step (Revert name) c).card p ≡ close_region (block_at c) v.alpha.0 0 (active_of (descriptors_of c)).name p
  pub revert_1 : (name : List ℕ) → is_accepted (answer_of (Revert name) c) ≡ true → revision_of c ≡ 1 → (p : ℕ) → p < block_count c
      → let v = with_name (snapshots_of (descriptors_of c)) name in
      block_at (step (Revert name) c).card p
      ≡ open_region (close_region (copy_range (block_at c) v.alpha.0 v.beta.0 (cost_of v)) v.beta.0 0 (active_of (descriptors_of c)).name) v.beta.0 (cost_of v) p

unfoldable pub AlgorithmClaim : Type 0
AlgorithmClaim = (c : List ℕ) → AreBytes c → FollowsAlgorithms c

-- The ledger.

-- the ledger carried along a run: its own step for each accepted call, nothing for a refused one
unfoldable pub ledger_after : List Call → List ℕ → Ledger → Ledger
ledger_after [] c g = g
ledger_after (k ∷ ks) c g = ledger_after ks (step k c).card (pick (is_accepted (answer_of k c)) (ledger_step k g) g)

-- the names of the first n records
unfoldable pub record_names : ℕ → List Record → List (List ℕ)
record_names n rs = map (λ (r : Record). r.name) (take n rs)

-- Demand 2 of one call on a card c whose ledger is g: "On a card that passes its check, reads match a plain ledger of named volumes;
-- 'no room' comes only if the blocks needed exceed those free".
pub record LedgerStep (k : Call) (c : List ℕ) (g : Ledger) : Type 0 where
  -- "reads match": what the card holds is the ledger, before the call
  pub matches : ledger_of c ≡ g
  -- 4, 7, 8, 9, 12, 13, 14 and 16 are the ledger's, in its order; besides them only 11 arises, so that 6 and 10 never do
  pub number : is_ream k ≡ false → ((answer_of k c).number ≡ ledger_number k g) ⊎ ((ledger_number k g ≡ 0) × ((answer_of k c).number ≡ 11))
  pub place : (answer_of k c).place ≡ 0
  -- 11 exactly where the ledger has nothing against the call and the blocks needed exceed those free
  pub no_room : is_ream k ≡ false → ((answer_of k c).number ≡ 11) ↔ ((ledger_number k g ≡ 0) × (block_count c < beta_of c + blocks_needed k c))
  -- an accepted read gives the ledger's cell, whole
  pub reads : (target : Target) (name : List ℕ) (l : ℕ) (block : List ℕ) → k ≡ Read target name l block → is_accepted (answer_of k c) ≡ true
      → (step k c).outcome.lent ≡ Block (cell_read g target name l)
  -- an accepted span read gives its part of the ledger's run (02, W1)
  pub spans : (target : Target) (name : List ℕ) (o : ℕ) (bytes : List ℕ) → k ≡ SpanRead target name o bytes → is_accepted (answer_of k c) ≡ true
      → (step k c).outcome.lent ≡ Block (part (run_read g target name) o (length bytes))
  -- an accepted listing gives the ledger's names in their order, and leaves the records after them
  pub lists : (records : List Record) → k ≡ Listing records → is_accepted (answer_of k c) ≡ true
      → (filled : List Record) × ((step k c).outcome.lent ≡ Records filled) × (record_names (length (ledger_names g)) filled ≡ ledger_names g) × (drop (length (ledger_names g)) filled ≡ drop (length (ledger_names g)) records)
  -- "accepted calls leave one that passes, and the ledger holds"; a refused call changes nothing
  pub passes : Passes (step k c).card
  pub next : ledger_of (step k c).card ≡ pick (is_accepted (answer_of k c)) (ledger_step k g) g

-- The ledger over whole lists: from any card that passes check, for every list of calls in which no format is accepted, and for each call of it,
-- the card before that call matches the ledger carried so far by the ledger's own step, and LedgerStep holds of the call.
unfoldable pub LedgerClaim : Type 0
LedgerClaim =
    (c : List ℕ) (ks : List Call) → Passes c → Standing c ks
    → ((i : ℕ) → i < length ks → LedgerStep (get_or ks i Check) (after (take i ks) c) (ledger_after (take i ks) c (ledger_of c)))
    × Passes (after ks c)
    × (ledger_of (after ks c) ≡ ledger_after ks c (ledger_of c))

-- the ledger that a format starts: no snapshots, and a volume of zeros
abbrev pub first_ledger : Format → Ledger
first_ledger format = record { revision = format.revision; snapshots = []; active = record { name = format.name; cells = replicate format.volume zero_block } }

-- From a format the ledger starts with no snapshots and a volume of zeros, and the card passes, whatever the area held.
unfoldable pub FormatClaim : Type 0
FormatClaim =
    (area : List ℕ) (format : Format) → formattable area format ≡ true
    → Passes (formatted area format)
    × (ledger_of (formatted area format) ≡ first_ledger format)
    × (descriptors_of (formatted area format) ≡ first_of format ∷ [])
    × (block_at (formatted area format) 0 ≡ descriptor_block (first_of format) (le32 format.revision ++ replicate 468 0))
    × (revision_of (formatted area format) ≡ format.revision)
    × ((p : ℕ) → 0 < p → p < cost_in format → block_at (formatted area format) p ≡ zero_block)
    × (drop (block_size * cost_in format) (formatted area format) ≡ drop (block_size * cost_in format) area)

-- From a format, whatever the area held, every run matches the ledger that starts with no snapshots and a volume of zeros.
unfoldable pub FormatLedgerClaim : Type 0
FormatLedgerClaim =
    (area : List ℕ) (format : Format) → formattable area format ≡ true
    → let c = formatted area format in
    let g = first_ledger format in
    (ks : List Call) → Standing c ks
    → ((i : ℕ) → i < length ks → LedgerStep (get_or ks i Check) (after (take i ks) c) (ledger_after (take i ks) c g))
    × Passes (after ks c)
    × (ledger_of (after ks c) ≡ ledger_after ks c g)

-- The rollback claim.

-- Two runs from one card, of ks from position a on and of js from position b on: "right after, and after each later call, beta and every byte
-- below it are equal in the two runs, and each later call gives the same answer". An outcome is number, place, lent memory at exit and what else is given.
pub record Matched (s : List ℕ) (ks : List Call) (a : ℕ) (js : List Call) (b : ℕ) : Type 0 where
  pub agree : (m : ℕ) → a + m ≤ length ks → Agree (after (take (a + m) ks) s) (after (take (b + m) js) s)
  pub answers : drop a (outcomes ks s) ≡ drop b (outcomes js s)

-- a run from a card in which no snap of the visit v is accepted
pub data Unsnapped (v : List ℕ) : List ℕ → List Call → Type 0 where
  end : {c : List ℕ} → Unsnapped v c []
  then : {c : List ℕ} {k : Call} {ks : List Call} → (is_snap_of v k && is_accepted (answer_of k c)) ≡ false → Unsnapped v (step k c).card ks → Unsnapped v c (k ∷ ks)

-- position i of a run from s holds the latest accepted snap of the visit v: it is accepted there, and no later one is
pub record LastSnap (v s : List ℕ) (ks : List Call) (i : ℕ) : Type 0 where
  pub inside : i < length ks
  pub is : is_snap_of v (get_or ks i Check) ≡ true
  pub accepted_there : is_accepted (answer_of (get_or ks i Check) (after (take i ks) s)) ≡ true
  pub later : Unsnapped v (after (take (suc i) ks) s) (drop (suc i) ks)

-- What a rollback to the visit v at position k comes to, given the latest accepted snap of v before it.
-- At i: "forget the calls from that visit's latest accepted snapshot up to and including the rollback and run the shorter list from the same start"; on
-- revision 1 "the forgotten calls begin after the snap" (02, W5). The card right after the revert is compared with the card after the calls before the
-- forgotten ones.
-- Nowhere: no snap of v is accepted before it, and v stands on the starting card; all calls before the rollback are forgotten, the rollback stays and is accepted there too.
unfoldable pub Forgets : List ℕ → List ℕ → List Call → ℕ → Position → Type 0
Forgets s v ks k (At i) = let stay = staying (revision_of s) i in LastSnap v s (take k ks) i × Matched s ks (suc k) (without ks stay k) stay
Forgets s v ks k Nowhere =
    Unsnapped v s (take k ks) × (named (snapshots_of (descriptors_of s)) v ≡ true) × (is_accepted (answer_of (Revert v) s) ≡ true) × Matched s ks (suc k) (drop k ks) 1

-- the call at position k is a revert to v, and it is accepted there
pub record RevertedAt (s : List ℕ) (ks : List Call) (k : ℕ) (v : List ℕ) : Type 0 where
  pub inside : k < length ks
  pub is : get_or ks k Check ≡ Revert v
  pub accepted_there : is_accepted (answer_of (Revert v) (after (take k ks) s)) ≡ true

-- For any card with a sound chain, of either revision, any list of calls in which no format is accepted, and every accepted revert in it, by itself.
unfoldable pub RollbackClaim : Type 0
RollbackClaim =
    (s : List ℕ) (ks : List Call) → AreBytes s → chain_sound (chain s) ≡ true → Standing s ks
    → (k : ℕ) (v : List ℕ) → RevertedAt s ks k v → Forgets s v ks k (latest_snap v s (take k ks))

-- On a card that a format made, whatever the area held, every accepted revert has "that visit's latest accepted snapshot".
unfoldable pub SnapshotClaim : Type 0
SnapshotClaim =
    (area : List ℕ) (format : Format) → formattable area format ≡ true
    → (ks : List Call) → Standing (formatted area format) ks
    → (k : ℕ) (v : List ℕ) → RevertedAt (formatted area format) ks k v
    → (i : ℕ) × (i < k) × (latest_snap v (formatted area format) (take k ks) ≡ At i) × LastSnap v (formatted area format) (take k ks) i

-- Demand 3, whole: the list starts from all N blocks as an accepted ream left them, in either layout and of either revision.
unfoldable pub Demand3 : Type 0
Demand3 =
    (area : List ℕ) (format : Format) → AreBytes area → formattable area format ≡ true
    → (ks : List Call) → Standing (formatted area format) ks
    → (k : ℕ) (v : List ℕ) → RevertedAt (formatted area format) ks k v
    → (i : ℕ) × (i < k) × (latest_snap v (formatted area format) (take k ks) ≡ At i) × LastSnap v (formatted area format) (take k ks) i
    × (let stay = staying format.revision i in Matched (formatted area format) ks (suc k) (without ks stay k) stay)
