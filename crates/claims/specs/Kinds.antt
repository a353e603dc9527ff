-- What each call is to the card, in document 01's words: the list of cases by which `is_ream`, `written_by`, `is_snap_of`, `ledger_step`, `blocks_needed` and `stores_nothing` go, and `placed_step`, `placed_rows` and `origins_step` of the crate `places`.
use Rattle.std.specs.Prelude.{List, ℕ}
use Rattle.calls.specs.Call.{Call, Ream, Read, Write, Snap, Revert, Listing, Check, Visit, SpanRead, SpanWrite}
use Rattle.blocks.specs.declared.descriptor.Format.{Format}

-- a call formats the card, leaves it as it is, writes a block or a span, takes a snapshot or goes back to one
pub data Kind : Type 0 where
  Formats : (format : Format) → Kind
  Leaves : Kind
  Writes : (l : ℕ) → (block : List ℕ) → Kind
  WritesSpan : (offset : ℕ) → (bytes : List ℕ) → Kind
  Snaps : (name : List ℕ) → Kind
  Reverts : (name : List ℕ) → Kind

unfoldable pub kind_of : Call → Kind
kind_of (Ream format) = Formats format
kind_of (Read target name l block) = Leaves
kind_of (Write l block) = Writes l block
kind_of (Snap name) = Snaps name
kind_of (Revert name) = Reverts name
kind_of (Listing records) = Leaves
kind_of Check = Leaves
kind_of (Visit target name l) = Leaves
kind_of (SpanRead target name o bytes) = Leaves
kind_of (SpanWrite o bytes) = WritesSpan o bytes
