-- Records that cross a block: document 02, W1. What stands in quotation marks is from there. The claims about all calls, in Claims.antt here and in Origins.antt and
-- Placed.antt of the crate `places`, hold of the span calls as they stand: refusals, frame, the ledger and the rollback over whole lists.
use Rattle.std.specs.Prelude.{◌≡◌, ◌⊎◌, ◌↔◌, true, false, not, ◌||◌, List, [], ◌∷◌, ◌++◌, ℕ, zero, suc, ◌+◌, ◌*◌, ◌-◌, ◌/◌, ◌%◌, ◌<◌, ◌≤◌, length, get_or}
use Rattle.blocks.specs.Bytes.{splice, block_count}
use Rattle.blocks.specs.declared.descriptor.Descriptor.{Descriptor}
use Rattle.pieces.specs.Span.{run_of, span_block, touched, merged}
use Rattle.chains.specs.Chain.{chain, chain_sound, named, active_of}
use Rattle.calls.specs.Call.{Target, Active, Call, Read, Write, Check, SpanRead, SpanWrite, Block, answer, accepted}
use Rattle.calls.specs.Parts.{area_bad, descriptors_of, snapshots_of, is_snapshot, target_of, found_through, block_found}
use Rattle.calls.specs.Check.{Passes}
use Rattle.calls.specs.Meaning.{answer_of}
use Rattle.calls.specs.Step.{step, after, is_accepted}
use Rattle.claims.specs.History.{beta_of}
use Rattle.claims.specs.Kinds.{WritesSpan}
use Rattle.claims.specs.Ledger.{LedgerOf, change_by, ledger_step, run_read, ledger_of}
use Rattle.claims.specs.Claims.{blocks_needed, comes_to_chain, NotInPlace, FirstFault}

-- "split at block boundaries": the blocks that a span touches are those that have a byte of it.
unfoldable pub TouchedClaim : Type 0
TouchedClaim =
    (o n l : ℕ) → ((i : ℕ) × (i < touched o n) × (l ≡ span_block o i)) ↔ ((j : ℕ) × (o ≤ j) × (j < o + n) × (j / 512 ≡ l))

-- "Bytes of a block outside the span keep their value, or zero if it was nil": byte j of logical block l is byte 512 times l plus j of the volume. Inside the span it is
-- the span's; outside it is what the block had. (That this is zeros where the entry is nil is `block_found`'s: SpanRun, `reads`.)
unfoldable pub MergedClaim : Type 0
MergedClaim =
    (block : List ℕ) (o : ℕ) (bytes : List ℕ) (l : ℕ) → length block ≡ 512 → 512 * l < o + length bytes → o < 512 * l + 512
    → (length (merged block o bytes l) ≡ 512)
    × ((j : ℕ) → j < 512 → o ≤ 512 * l + j → 512 * l + j < o + length bytes → get_or (merged block o bytes l) j 0 ≡ get_or bytes (512 * l + j - o) 0)
    × ((j : ℕ) → j < 512 → (512 * l + j < o) ⊎ (o + length bytes ≤ 512 * l + j) → get_or (merged block o bytes l) j 0 ≡ get_or block j 0)

-- "16, offset plus length past the volume's end, where 8 stands; spans have no 8 or 9": given exactly where the call comes to a sound chain, a snapshot that is named is
-- there, and the sum exceeds L times 512, over all numbers; and neither 8 nor 9 is ever given.
pub record SpanEnds (c : List ℕ) (o : ℕ) (bytes : List ℕ) : Type 0 where
  pub read : (target : Target) (name : List ℕ)
      → (answer_of (SpanRead target name o bytes) c ≡ answer 16 0)
      ↔ ((comes_to_chain (SpanRead target name o bytes) c ≡ true) × (chain_sound (chain c) ≡ true) × ((not (is_snapshot target) || named (snapshots_of (descriptors_of c)) name) ≡ true)
      × (512 * (active_of (descriptors_of c)).volume < o + length bytes))
  pub write : (answer_of (SpanWrite o bytes) c ≡ answer 16 0) ↔ ((area_bad c ≡ false) × (chain_sound (chain c) ≡ true) × (512 * (active_of (descriptors_of c)).volume < o + length bytes))
  pub read_never : (target : Target) (name : List ℕ) → ((answer_of (SpanRead target name o bytes) c).number ≡ 8 → ⊥) × ((answer_of (SpanRead target name o bytes) c).number ≡ 9 → ⊥)
  pub write_never : ((answer_of (SpanWrite o bytes) c).number ≡ 8 → ⊥) × ((answer_of (SpanWrite o bytes) c).number ≡ 9 → ⊥)

unfoldable pub SpanEndClaim : Type 0
SpanEndClaim = (c : List ℕ) (o : ℕ) (bytes : List ℕ) → SpanEnds c o bytes

-- the first block, rising, of those that a span of n bytes touches whose entry, through d, is not in place; h holds that entry
pub record FirstMisplaced (c : List ℕ) (d : Descriptor) (o n h : ℕ) : Type 0 where
  pub index : ℕ
  pub among : index < touched o n
  pub earlier : (j g : ℕ) → j < index → NotInPlace c d (span_block o j) g → ⊥
  pub here : NotInPlace c d (span_block o index) h

-- The 10 of a span read is that of the first such block; the place is the block that holds the entry. (That it fills nothing then is in RefusalClaim.)
unfoldable pub SpanPlaceClaim : Type 0
SpanPlaceClaim =
    (c : List ℕ) (target : Target) (name : List ℕ) (o : ℕ) (bytes : List ℕ) (h : ℕ)
    → (answer_of (SpanRead target name o bytes) c ≡ answer 10 h)
    ↔ ((comes_to_chain (SpanRead target name o bytes) c ≡ true) × (chain_sound (chain c) ≡ true) × ((not (is_snapshot target) || named (snapshots_of (descriptors_of c)) name) ≡ true)
    × (o + length bytes ≤ 512 * (active_of (descriptors_of c)).volume) × FirstMisplaced c (target_of (descriptors_of c) target name) o (length bytes) h)

-- An accepted span read, on every card: it asks nothing of entries that it does not follow, so it runs no check; and each of its bytes is the one that a read of the block
-- gives, which is accepted.
pub record SpanReads (c : List ℕ) (target : Target) (name : List ℕ) (o : ℕ) (bytes : List ℕ) : Type 0 where
  pub accepts : (answer_of (SpanRead target name o bytes) c ≡ accepted)
      ↔ ((comes_to_chain (SpanRead target name o bytes) c ≡ true) × (chain_sound (chain c) ≡ true) × ((not (is_snapshot target) || named (snapshots_of (descriptors_of c)) name) ≡ true)
      × (o + length bytes ≤ 512 * (active_of (descriptors_of c)).volume)
      × ((i h : ℕ) → i < touched o (length bytes) → NotInPlace c (target_of (descriptors_of c) target name) (span_block o i) h → ⊥))
  pub fills : answer_of (SpanRead target name o bytes) c ≡ accepted
      → (filled : List ℕ)
      × ((step (SpanRead target name o bytes) c).outcome.lent ≡ Block filled)
      × (length filled ≡ length bytes)
      × ((j : ℕ) → j < length bytes → (block : List ℕ) → length block ≡ 512
      → (there : List ℕ)
      × (answer_of (Read target name ((o + j) / 512) block) c ≡ accepted)
      × ((step (Read target name ((o + j) / 512) block) c).outcome.lent ≡ Block there)
      × (get_or filled j 0 ≡ get_or there ((o + j) % 512) 0))

unfoldable pub SpanReadClaim : Type 0
SpanReadClaim = (c : List ℕ) (target : Target) (name : List ℕ) (o : ℕ) (bytes : List ℕ) → SpanReads c target name o bytes

-- "On a card that fails check it gets check's answer, 10 standing where 10 stands", of a span write: where check does not answer 0, and 16 is not given, it is answered as
-- check is, number and place; and 10 with place p is given exactly where the span ends in the volume and the first fault is held by p.
pub record SpanChecks (c : List ℕ) (o : ℕ) (bytes : List ℕ) : Type 0 where
  pub as_check : (answer_of (SpanWrite o bytes) c ≡ answer 16 0 → ⊥) → (answer_of Check c ≡ accepted → ⊥) → answer_of (SpanWrite o bytes) c ≡ answer_of Check c
  pub ten : (p : ℕ) → (answer_of (SpanWrite o bytes) c ≡ answer 10 p)
      ↔ ((area_bad c ≡ false) × (chain_sound (chain c) ≡ true) × (o + length bytes ≤ 512 * (active_of (descriptors_of c)).volume) × FirstFault c p)
  -- it is accepted only on a card that passes
  pub passing : is_accepted (answer_of (SpanWrite o bytes) c) ≡ true → Passes c

unfoldable pub SpanCheckClaim : Type 0
SpanCheckClaim = (c : List ℕ) (o : ℕ) (bytes : List ℕ) → SpanChecks c o bytes

-- "split at block boundaries as document 000 says": the whole-block writes of the first i blocks, rising. Each has what a read of the active store gives there, on the card
-- as those before it left it, with the span's bytes laid over. This is said here by calls, not by the stores of which a span write is defined.
unfoldable pub reads_there : List ℕ → ℕ → List ℕ
reads_there c l = block_found c (found_through c (active_of (descriptors_of c)) l)

unfoldable pub span_writes : List ℕ → ℕ → List ℕ → ℕ → List Call
span_writes c o bytes zero = []
span_writes c o bytes (suc i) =
    let l = span_block o i in
    let before = span_writes c o bytes i in
    before ++ (Write l (merged (reads_there (after before c) l) o bytes l) ∷ [])

-- the card on which the write of block i is made, and that write
abbrev pub card_before : List ℕ → ℕ → List ℕ → ℕ → List ℕ
card_before c o bytes i = after (span_writes c o bytes i) c

abbrev pub write_at : List ℕ → ℕ → List ℕ → ℕ → Call
write_at c o bytes i = let l = span_block o i in Write l (merged (reads_there (card_before c o bytes i) l) o bytes l)

-- "the sum over its blocks in rising order, each counted after those before it"
unfoldable pub need_sum : List ℕ → ℕ → List ℕ → ℕ → ℕ
need_sum c o bytes zero = 0
need_sum c o bytes (suc i) = need_sum c o bytes i + blocks_needed (write_at c o bytes i) (card_before c o bytes i)

-- What an accepted span write comes to: "A span write is done whole".
pub record SpanRun (c : List ℕ) (o : ℕ) (bytes : List ℕ) : Type 0 where
  -- each of its writes is accepted where it comes, and a read there gives what it is merged with
  pub each : (i : ℕ) → i < touched o (length bytes) → is_accepted (answer_of (write_at c o bytes i) (card_before c o bytes i)) ≡ true
  pub reads : (i : ℕ) → i < touched o (length bytes) → (block : List ℕ) → length block ≡ 512
      → (step (Read Active [] (span_block o i) block) (card_before c o bytes i)).outcome.lent ≡ Block (reads_there (card_before c o bytes i) (span_block o i))
  -- it leaves the card that they leave, one after the other
  pub card : (step (SpanWrite o bytes) c).card ≡ after (span_writes c o bytes (touched o (length bytes))) c
  -- its need is the sum, and beta moves by it
  pub need : blocks_needed (SpanWrite o bytes) c ≡ need_sum c o bytes (touched o (length bytes))
  pub beta : beta_of (step (SpanWrite o bytes) c).card ≡ beta_of c + need_sum c o bytes (touched o (length bytes))

unfoldable pub SpanRunClaim : Type 0
SpanRunClaim = (c : List ℕ) (o : ℕ) (bytes : List ℕ) → is_accepted (answer_of (SpanWrite o bytes) c) ≡ true → SpanRun c o bytes

-- "or refused whole": on a card that passes, a span that ends in the volume is refused by 11 exactly where its writes, made one after the other, would come to one that is
-- refused by 11; and that is exactly where the sum exceeds the blocks that are free. Otherwise it is accepted. (Past a write that is refused, which leaves the card as it
-- is, the sum counts on that card: it is too large already.)
pub record StopsAt (c : List ℕ) (o : ℕ) (bytes : List ℕ) (i : ℕ) : Type 0 where
  pub among : i < touched o (length bytes)
  pub earlier : (j : ℕ) → j < i → is_accepted (answer_of (write_at c o bytes j) (card_before c o bytes j)) ≡ true
  pub here : answer_of (write_at c o bytes i) (card_before c o bytes i) ≡ answer 11 0

pub record SpanRoom (c : List ℕ) (o : ℕ) (bytes : List ℕ) : Type 0 where
  pub sum : (answer_of (SpanWrite o bytes) c ≡ answer 11 0) ↔ (block_count c < beta_of c + need_sum c o bytes (touched o (length bytes)))
  pub stops : (answer_of (SpanWrite o bytes) c ≡ answer 11 0) ↔ ((i : ℕ) × StopsAt c o bytes i)
  pub else : (answer_of (SpanWrite o bytes) c ≡ accepted) ⊎ (answer_of (SpanWrite o bytes) c ≡ answer 11 0)

unfoldable pub SpanRoomClaim : Type 0
SpanRoomClaim = (c : List ℕ) (o : ℕ) (bytes : List ℕ) → Passes c → o + length bytes ≤ 512 * (active_of (descriptors_of c)).volume → SpanRoom c o bytes

-- "A span of length 0 meets the same tests and changes nothing": a write runs check, a read follows no entry.
pub record EmptySpan (c : List ℕ) (o : ℕ) : Type 0 where
  pub write : (answer_of (SpanWrite o []) c ≡ accepted) ↔ (Passes c × (o ≤ 512 * (active_of (descriptors_of c)).volume))
  pub unchanged : (step (SpanWrite o []) c).card ≡ c
  pub read : (target : Target) (name : List ℕ)
      → (answer_of (SpanRead target name o []) c ≡ accepted)
      ↔ ((comes_to_chain (SpanRead target name o []) c ≡ true) × (chain_sound (chain c) ≡ true) × ((not (is_snapshot target) || named (snapshots_of (descriptors_of c)) name) ≡ true)
      × (o ≤ 512 * (active_of (descriptors_of c)).volume))
  pub nothing : (target : Target) (name : List ℕ) → (step (SpanRead target name o []) c).outcome.lent ≡ Block []

unfoldable pub EmptySpanClaim : Type 0
EmptySpanClaim = (c : List ℕ) (o : ℕ) → EmptySpan c o

-- "The ledger's volume is read as one run of L times 512 bytes": so long is the run of each volume that a card's ledger has. An accepted span read gives its part of it
-- (LedgerStep, `spans`). The ledger's own step for an accepted span write puts the bytes into the run, and every visit, the names and the revision stay.
pub record SpanPatches (c : List ℕ) (o : ℕ) (bytes : List ℕ) : Type 0 where
  pub long : (target : Target) (name : List ℕ) → (not (is_snapshot target) || named (snapshots_of (descriptors_of c)) name) ≡ true
      → length (run_read (ledger_of c) target name) ≡ 512 * (active_of (descriptors_of c)).volume
  pub patched : o + length bytes ≤ 512 * (active_of (descriptors_of c)).volume
      → let g = ledger_of c in
      let h = ledger_step (SpanWrite o bytes) g in
      (run_of h.active.cells ≡ splice (run_of g.active.cells) o bytes)
      × (length h.active.cells ≡ length g.active.cells)
      × ((l : ℕ) → l < length h.active.cells → length (get_or h.active.cells l []) ≡ 512)
      × (h.active.name ≡ g.active.name)
      × (h.snapshots ≡ g.snapshots)
      × (h.revision ≡ g.revision)

unfoldable pub SpanLedgerClaim : Type 0
SpanLedgerClaim = (c : List ℕ) (o : ℕ) (bytes : List ℕ) → Passes c → SpanPatches c o bytes

-- Of each thing that a ledger may keep of a cell (its content, or where it was last written: `change_by`), a span write changes the cells of the blocks that have a byte of it,
-- each once, and no other.
pub record SpanKeeps (A : Type 0) (put : ℕ → (List ℕ → List ℕ) → A → A) (g : LedgerOf A) (o : ℕ) (bytes : List ℕ) (none : A) : Type 0 where
  pub same_count : length (change_by put (WritesSpan o bytes) g).active.cells ≡ length g.active.cells
  pub changed : (j : ℕ) → o ≤ j → j < o + length bytes → j / 512 < length g.active.cells
      → get_or (change_by put (WritesSpan o bytes) g).active.cells (j / 512) none ≡ put (length g.snapshots) (λ old. merged old o bytes (j / 512)) (get_or g.active.cells (j / 512) none)
  -- snapshots, name and revision stay
  pub others : ((change_by put (WritesSpan o bytes) g).snapshots ≡ g.snapshots) × ((change_by put (WritesSpan o bytes) g).active.name ≡ g.active.name)
      × ((change_by put (WritesSpan o bytes) g).revision ≡ g.revision)
  pub kept : (l : ℕ) → ((j : ℕ) → o ≤ j → j < o + length bytes → j / 512 ≡ l → ⊥) → get_or (change_by put (WritesSpan o bytes) g).active.cells l none ≡ get_or g.active.cells l none

unfoldable pub SpanCellClaim : Type 1
SpanCellClaim = (A : Type 0) (put : ℕ → (List ℕ → List ℕ) → A → A) (g : LedgerOf A) (o : ℕ) (bytes : List ℕ) (none : A) → SpanKeeps A put g o bytes none
