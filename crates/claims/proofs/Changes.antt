-- A change of a card by the kind of a call: its stores, what must hold for it, and the kind of a snap.
use mathlib.Core.List.{List, []}
use Prim.Native.Nat.{ℕ}
use lib.ListN.{length}
use native.Mathlib.Omega.{arith}
use Rattle.blocks.specs.Bytes.{Store}
use Rattle.blocks.specs.Descriptor.{opening}
use Rattle.calls.specs.Stores.{write_stores, snap_stores, revert_stores}
use Rattle.calls.specs.Spans.{write_span_stores, span_count}
use Rattle.calls.proofs.Passed.{ReamPassed, WritePassed, SnapPassed, RevertPassed}
use Rattle.claims.specs.Kinds.{Kind, Formats, Leaves, Writes, WritesSpan, Snaps, Reverts}
use Rattle.blocks.proofs.StoreLists.{Whole, none}
use Rattle.blocks.specs.declared.descriptor.Format.{Format}
use Rattle.changes.proofs.SpanSteps.{SpanPassed, passed_at}
use Rattle.changes.proofs.WholeLaws.{ream_whole, write_whole, snap_whole, revert_whole}
use mathlib.Core.Path.{◌≡◌, ap}
use mathlib.Core.Bool.{true}
use Rattle.blocks.proofs.BoolLaws.{no}
use Rattle.blocks.proofs.ListLaws.{same_equal}
use Rattle.claims.specs.History.{snaps_as}

-- the stores of a change
unfoldable pub stores_by : Kind → List ℕ → List Store
stores_by (Formats format) c = opening format
stores_by Leaves c = []
stores_by (Writes l block) c = write_stores c l block
stores_by (WritesSpan o bytes) c = write_span_stores c o bytes
stores_by (Snaps name) c = snap_stores c name
stores_by (Reverts name) c = revert_stores c name

-- what holds of a card on which a change is made
pub data Allowed (c : List ℕ) : Kind → Type 0 where
  to_format : {format : Format} → ReamPassed c format → Allowed c (Formats format)
  to_leave : Allowed c Leaves
  to_write : {l : ℕ} {block : List ℕ} → WritePassed c l block → Allowed c (Writes l block)
  to_span : {o : ℕ} {bytes : List ℕ} → SpanPassed c o bytes → Allowed c (WritesSpan o bytes)
  to_snap : {name : List ℕ} → SnapPassed c name → Allowed c (Snaps name)
  to_revert : {name : List ℕ} → RevertPassed c name → Allowed c (Reverts name)

-- every store of a change is a whole block of the card
pub change_inside : {x : Kind} (c : List ℕ) → Allowed c x → Whole (length c) (stores_by x c)
unfolding stores_by write_span_stores
change_inside c (to_format {format = format} h) = ream_whole c format h
change_inside c to_leave = none
change_inside c (to_write {l = l} {block = block} h) = write_whole c l block h
change_inside c (to_span {o = o} {bytes = bytes} h) = (passed_at c o bytes h (span_count o bytes) (omega arith)).whole
change_inside c (to_snap {name = name} h) = snap_whole c name h
change_inside c (to_revert {name = name} h) = revert_whole c name h

-- a snap under the name
pub snap_kind : (n : List ℕ) (x : Kind) → snaps_as n x ≡ true → x ≡ Snaps n
unfolding snaps_as
snap_kind n (Formats format) e = no e
snap_kind n Leaves e = no e
snap_kind n (Writes l block) e = no e
snap_kind n (WritesSpan o bytes) e = no e
snap_kind n (Snaps name) e = ap Snaps (same_equal name n e)
snap_kind n (Reverts name) e = no e
