-- The ledger: an ordered list of named volumes, one for each snapshot, an active one, and the revision, by which a rollback goes. Its step knows no bytes of a
-- card, no alpha, no beta and no tables.
use Rattle.std.specs.Prelude.{Bool, false, not, ◌&&◌, ◌||◌, List, [], ◌∷◌, ◌++◌, ℕ, zero, suc, ◌+◌, ◌*◌, length, get_or, eqb, ltb, leb}
use Rattle.blocks.specs.Pick.{pick, same}
use Rattle.blocks.specs.Bytes.{block_size}
use Rattle.blocks.specs.Name.{no_name}
use Rattle.blocks.specs.Descriptor.{revision_of}
use Rattle.blocks.specs.declared.descriptor.Descriptor.{Descriptor}
use Rattle.pieces.specs.Span.{run_of, span_block, touched, merged}
use Rattle.chains.specs.Chain.{active_of}
use Rattle.calls.specs.Call.{Target, Active, Snapshot, Call, Ream, Read, Write, Snap, Revert, Listing, Check, Visit, SpanRead, SpanWrite}
use Rattle.calls.specs.Parts.{descriptors_of, snapshots_of, is_snapshot, found_through, block_found}
use Rattle.calls.specs.Ladder.{Row, row, first_row, name_row, target_row, block_row}
use Rattle.claims.specs.Kinds.{Kind, Formats, Leaves, Writes, WritesSpan, Snaps, Reverts, kind_of}

-- a named volume: what is kept of each of its logical blocks
pub record VolumeOf (A : Type 0) : Type 0 where
  pub name : List ℕ
  pub cells : List A

-- an ordered list of named volumes and an active one
pub record LedgerOf (A : Type 0) : Type 0 where
  pub revision : ℕ
  pub snapshots : List (VolumeOf A)
  pub active : VolumeOf A

-- the ledger keeps the content of each logical block. (What W2 keeps beside it, in the crate `places`, is where that was last written)
abbrev pub Volume : Type 0
Volume = VolumeOf (List ℕ)

abbrev pub Ledger : Type 0
Ledger = LedgerOf (List ℕ)

abbrev pub no_volume : {A : Type 0} → VolumeOf A
no_volume = record { name = no_name; cells = [] }

-- whether a volume has the name; the volume that has it; those that stay at a rollback to it: those before it, and on revision 1 it too
unfoldable pub has_volume : {A : Type 0} → List (VolumeOf A) → List ℕ → Bool
has_volume [] name = false
has_volume (v ∷ vs) name = same v.name name || has_volume vs name

unfoldable pub volume_named : {A : Type 0} → List (VolumeOf A) → List ℕ → VolumeOf A
volume_named [] name = no_volume
volume_named (v ∷ vs) name = pick (same v.name name) v (volume_named vs name)

unfoldable pub volumes_kept : {A : Type 0} → ℕ → List (VolumeOf A) → List ℕ → List (VolumeOf A)
volumes_kept revision [] name = []
volumes_kept revision (v ∷ vs) name = pick (same v.name name) (pick (eqb revision 1) (v ∷ []) []) (v ∷ volumes_kept revision vs name)

-- a list of cells with cell l changed
unfoldable pub changed_at : {A : Type 0} → List A → ℕ → (A → A) → List A
changed_at [] l f = []
changed_at (x ∷ xs) zero f = f x ∷ xs
changed_at (x ∷ xs) (suc l) f = x ∷ changed_at xs l f

-- with the first i blocks of a span written; put says what is kept of a cell whose content is changed
unfoldable pub span_cells : {A : Type 0} → ((List ℕ → List ℕ) → A → A) → List A → ℕ → List ℕ → ℕ → List A
span_cells put cells o bytes zero = cells
span_cells put cells o bytes (suc i) = let l = span_block o i in changed_at (span_cells put cells o bytes i) l (put (λ old. merged old o bytes l))

-- the same ledger with other cells of the active volume
abbrev pub with_cells : {A : Type 0} → LedgerOf A → List A → LedgerOf A
with_cells g cells = record { revision = g.revision; snapshots = g.snapshots; active = record { name = g.active.name; cells = cells } }

-- what an accepted call makes of it; put says what is kept of a cell that is written, by the number of snapshots, what its content becomes, and what was kept
unfoldable pub change_by : {A : Type 0} → (ℕ → (List ℕ → List ℕ) → A → A) → Kind → LedgerOf A → LedgerOf A
change_by put (Formats format) g = g
change_by put Leaves g = g
change_by put (Writes l block) g = with_cells g (changed_at g.active.cells l (put (length g.snapshots) (λ old. block)))
change_by put (WritesSpan o bytes) g = with_cells g (span_cells (put (length g.snapshots)) g.active.cells o bytes (touched o (length bytes)))
change_by put (Snaps name) g = record { revision = g.revision; snapshots = g.snapshots ++ (record { name = name; cells = g.active.cells } ∷ []); active = g.active }
change_by put (Reverts name) g =
    record { revision = g.revision; snapshots = volumes_kept g.revision g.snapshots name; active = record { name = g.active.name; cells = (volume_named g.snapshots name).cells } }

-- of the ledger: what is kept is the content
unfoldable pub ledger_change : Kind → Ledger → Ledger
unfolding change_by
ledger_change x g = change_by (λ n becomes old. becomes old) x g

unfoldable pub ledger_step : Call → Ledger → Ledger
unfolding kind_of ledger_change
ledger_step k g = ledger_change (kind_of k) g

-- the rows that a ledger can judge: 4, 9, 7, 12, 13, 8, 14 of 01's table, and 16 (02, W1), by "one run of L times 512 bytes"
unfoldable pub ledger_rows : Call → Ledger → List Row
ledger_rows (Ream format) g = []
ledger_rows (Read target name l block) g =
    target_row target name
    ∷ block_row block
    ∷ row (is_snapshot target && not (has_volume g.snapshots name)) 7 0
    ∷ row (leb (length g.active.cells) l) 8 0
    ∷ []
ledger_rows (Write l block) g = block_row block ∷ row (leb (length g.active.cells) l) 8 0 ∷ []
ledger_rows (Snap name) g =
    name_row name
    ∷ row (has_volume g.snapshots name || same g.active.name name) 12 0
    ∷ row (leb 255 (length g.snapshots)) 13 0
    ∷ []
ledger_rows (Revert name) g = name_row name ∷ row (not (has_volume g.snapshots name)) 7 0 ∷ []
ledger_rows (Listing records) g = row (ltb (length records) (suc (length g.snapshots))) 14 0 ∷ []
ledger_rows Check g = []
ledger_rows (Visit target name l) g =
    target_row target name
    ∷ row (is_snapshot target && not (has_volume g.snapshots name)) 7 0
    ∷ row (leb (length g.active.cells) l) 8 0
    ∷ []
ledger_rows (SpanRead target name o bytes) g =
    target_row target name
    ∷ row (is_snapshot target && not (has_volume g.snapshots name)) 7 0
    ∷ row (ltb (block_size * length g.active.cells) (o + length bytes)) 16 0
    ∷ []
ledger_rows (SpanWrite o bytes) g = row (ltb (block_size * length g.active.cells) (o + length bytes)) 16 0 ∷ []

-- the number that the ledger gives a call: 0, or one of these
unfoldable pub ledger_number : Call → Ledger → ℕ
ledger_number k g = (first_row (ledger_rows k g)).number

-- the volume that a read goes to, and the content that it gives
unfoldable pub volume_read : {A : Type 0} → LedgerOf A → Target → List ℕ → VolumeOf A
volume_read g Active name = g.active
volume_read g Snapshot name = volume_named g.snapshots name

unfoldable pub cell_read : Ledger → Target → List ℕ → ℕ → List ℕ
cell_read g target name l = get_or (volume_read g target name).cells l []

-- what a span read gives: "The ledger's volume is read as one run of L times 512 bytes" (02, W1)
unfoldable pub run_read : Ledger → Target → List ℕ → List ℕ
run_read g target name = run_of (volume_read g target name).cells

-- the names in order, the active one last
unfoldable pub names_from : {A : Type 0} → List (VolumeOf A) → List ℕ → List (List ℕ)
names_from [] active = active ∷ []
names_from (v ∷ vs) active = v.name ∷ names_from vs active

unfoldable pub ledger_names : {A : Type 0} → LedgerOf A → List (List ℕ)
ledger_names g = names_from g.snapshots g.active.name

-- the ledger of a card: its revision, and for each descriptor its name and what a read through it gives of each logical block, n of them from l on
unfoldable pub cells_from : List ℕ → Descriptor → ℕ → ℕ → List (List ℕ)
cells_from c d zero l = []
cells_from c d (suc n) l = block_found c (found_through c d l) ∷ cells_from c d n (suc l)

unfoldable pub volume_of : List ℕ → Descriptor → Volume
volume_of c d = record { name = d.name; cells = cells_from c d d.volume 0 }

unfoldable pub volumes_of : List ℕ → List Descriptor → List Volume
volumes_of c [] = []
volumes_of c (d ∷ ds) = volume_of c d ∷ volumes_of c ds

unfoldable pub ledger_of : List ℕ → Ledger
ledger_of c = record { revision = revision_of c; snapshots = volumes_of c (snapshots_of (descriptors_of c)); active = volume_of c (active_of (descriptors_of c)) }
