-- The calls by their kinds. Here alone they are listed one by one.
use mathlib.Core.Path.{◌≡◌, refl, sym, ap, ◌∙◌}
use mathlib.Core.Bool.{true}
use mathlib.Core.List.{List}
use Prim.Native.Nat.{ℕ}
use Rattle.blocks.specs.declared.descriptor.Format.{Format}
use Rattle.blocks.proofs.BoolLaws.{no}
use Rattle.calls.specs.Call.{Call, Ream, Read, Write, Snap, Revert, Listing, Check, Visit, SpanRead, SpanWrite}
use Rattle.claims.specs.Kinds.{Leaves, kind_of}
use Rattle.claims.specs.History.{formats, is_ream}

-- a call leaves the card as it is, or is the one of its kind
pub data ByKind : Call → Type 0 where
  formatting : {format : Format} → ByKind (Ream format)
  leaving : {k : Call} → kind_of k ≡ Leaves → ByKind k
  writing : {l : ℕ} {block : List ℕ} → ByKind (Write l block)
  spanning : {o : ℕ} {bytes : List ℕ} → ByKind (SpanWrite o bytes)
  snapping : {name : List ℕ} → ByKind (Snap name)
  reverting : {name : List ℕ} → ByKind (Revert name)

pub by_kind : (k : Call) → ByKind k
unfolding kind_of
by_kind (Ream format) = formatting
by_kind (Read target name l block) = leaving refl
by_kind (Write l block) = writing
by_kind (Snap name) = snapping
by_kind (Revert name) = reverting
by_kind (Listing records) = leaving refl
by_kind Check = leaving refl
by_kind (Visit target name l) = leaving refl
by_kind (SpanRead target name o bytes) = leaving refl
by_kind (SpanWrite o bytes) = spanning

-- the call of the kind of a format
ream_by : {k : Call} → ByKind k → is_ream k ≡ true → (format : Format) × (k ≡ Ream format)
unfolding is_ream
ream_by (formatting {format = format}) e = (format, refl)
ream_by (leaving q) e = no (sym (ap formats q) ∙ e)
ream_by writing e = no e
ream_by spanning e = no e
ream_by snapping e = no e
ream_by reverting e = no e

pub ream_is : (k : Call) → is_ream k ≡ true → (format : Format) × (k ≡ Ream format)
ream_is k e = ream_by (by_kind k) e
