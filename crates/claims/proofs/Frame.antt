-- What calls leave alone: no call alters the card's length, those that store nothing alter no byte of it, and lent memory is only filled by a read or a listing.
use mathlib.Core.Path.{◌≡◌, refl}
use mathlib.Core.Bool.{Bool, true, false}
use mathlib.Core.List.{List}
use Prim.Native.Nat.{ℕ, zero, suc, ◌*◌, ◌≤◌}
use native.Mathlib.Omega.{arith}
use lib.ListN.{length}
use Rattle.blocks.specs.Bytes.{store_all}
use Rattle.blocks.specs.declared.descriptor.Format.{Format}
use Rattle.blocks.proofs.BoolLaws.{no}
use Rattle.calls.specs.Call.{Call, Ream, Read, Write, Snap, Revert, Listing, Check, Visit, SpanRead, SpanWrite, NoneGiven}
use Rattle.pieces.specs.Span.{span_block, touched}
use Rattle.chains.specs.Chain.{active_of}
use Rattle.calls.specs.Parts.{descriptors_of, found_through}
use Rattle.calls.specs.Stores.{write_need}
use Rattle.calls.specs.Spans.{span_card, span_need, write_span_need}
use Rattle.calls.specs.Meaning.{answer_of, given_of}
use Rattle.calls.specs.Step.{step, is_accepted}
use Rattle.claims.specs.Claims.{lent_at_entry, leaves, stores_nothing, fills, blocks_taken, blocks_needed, FrameClaim, ByNameClaim}
use Rattle.claims.specs.History.{formats, is_ream, is_format, bytes_of, written_by, snaps_as, is_snap_of}
use Rattle.claims.specs.Kinds.{Kind, Formats, Leaves, Writes, WritesSpan, Snaps, Reverts, kind_of}
use Rattle.blocks.proofs.StoreLists.{stored_length}
use Rattle.entries.proofs.EntryLaws.{need_most}
use Rattle.claims.proofs.Changes.{stores_by}
use Rattle.claims.proofs.Steps.{stores_inside}
use Rattle.claims.proofs.Owed.{owed}

-- the card's length, and what is left as it was
length_kept : (k : Call) (c : List ℕ) (t : Bool) → is_accepted (answer_of k c) ≡ t → length (step k c).card ≡ length c
unfolding step
length_kept k c true e = rw e (stored_length (length c) c refl (stores_inside k c e))
length_kept k c false e = rw e

stores_nothing_lem : (x : Kind) (c : List ℕ) → leaves x ≡ true → store_all c (stores_by x c) ≡ c
unfolding leaves stores_by store_all
stores_nothing_lem (Formats format) c q = no q
stores_nothing_lem Leaves c q = refl
stores_nothing_lem (Writes l block) c q = no q
stores_nothing_lem (WritesSpan o bytes) c q = no q
stores_nothing_lem (Snaps name) c q = no q
stores_nothing_lem (Reverts name) c q = no q

same_kept : (k : Call) (c : List ℕ) → stores_nothing k ≡ true → (t : Bool) → is_accepted (answer_of k c) ≡ t → (step k c).card ≡ c
unfolding step stores_nothing
same_kept k c q true e = rw (e, (owed k).stores c) (stores_nothing_lem (kind_of k) c q)
same_kept k c q false e = rw e

lent_kept : (k : Call) (c : List ℕ) → fills k ≡ false → (t : Bool) → is_accepted (answer_of k c) ≡ t → (step k c).outcome.lent ≡ lent_at_entry k
unfolding step
lent_kept k c q true e = rw e ((owed k).unfilled q c)
lent_kept k c q false e = rw (e, (owed k).lent)

pub frame_claim : FrameClaim
unfolding FrameClaim
frame_claim k c = (
  length_kept k c (is_accepted (answer_of k c)) refl,
  λ q. same_kept k c q (is_accepted (answer_of k c)) refl,
  λ q. lent_kept k c q (is_accepted (answer_of k c)) refl,
)

-- a call that gives nothing where it is accepted gives nothing
given_by : (k : Call) (c : List ℕ) → given_of k c ≡ NoneGiven → (t : Bool) → is_accepted (answer_of k c) ≡ t → (step k c).outcome.given ≡ NoneGiven
unfolding step
given_by k c q true e = rw e q
given_by k c q false e = rw e

none_given : (k : Call) (c : List ℕ) → given_of k c ≡ NoneGiven → (step k c).outcome.given ≡ NoneGiven
none_given k c q = given_by k c q (is_accepted (answer_of k c)) refl

-- a ream is a format exactly where it is accepted
ream_formats : (format : Format) (c : List ℕ) → is_format (Ream format) c ≡ is_accepted (answer_of (Ream format) c)
unfolding is_format is_ream formats
ream_formats format c = refl

-- a span takes at most two blocks for each that it touches
span_upto : (c : List ℕ) (o : ℕ) (bytes : List ℕ) (i : ℕ) → span_need c o bytes i ≤ 2 * i
unfolding span_need write_need
span_upto c o bytes zero = omega arith
span_upto c o bytes (suc i) =
    let s = span_card c o bytes i in
    let d = active_of (descriptors_of s) in
    omega (arith, span_upto c o bytes i, need_most d.alpha.0 (found_through s d (span_block o i)))

span_most : (c : List ℕ) (o : ℕ) (bytes : List ℕ) → write_span_need c o bytes ≤ 2 * touched o (length bytes)
unfolding write_span_need
span_most c o bytes = span_upto c o bytes (touched o (length bytes))

-- what calls leave alone, and what the definitions by kind say, of each call by its name
pub by_name_claim : ByNameClaim
unfolding ByNameClaim FrameClaim stores_nothing leaves fills lent_at_entry blocks_needed blocks_taken written_by bytes_of is_ream formats is_format is_snap_of snaps_as given_of
by_name_claim c v =
    record {
      ream = λ format. ((frame_claim (Ream format) c).2 refl, refl, refl, refl, ream_formats format c, refl, none_given (Ream format) c refl);
      read = λ target name l block. ((frame_claim (Read target name l block) c).1 refl, refl, refl, refl, refl, refl, none_given (Read target name l block) c refl);
      write = λ l block. ((frame_claim (Write l block) c).2 refl, need_most _ _, refl, refl, refl, refl, none_given (Write l block) c refl);
      snap = λ name. ((frame_claim (Snap name) c).2 refl, refl, refl, refl, refl, refl, none_given (Snap name) c refl);
      revert = λ name. ((frame_claim (Revert name) c).2 refl, refl, refl, refl, refl, refl, none_given (Revert name) c refl);
      list = λ records. ((frame_claim (Listing records) c).1 refl, refl, refl, refl, refl, refl, none_given (Listing records) c refl);
      check = ((frame_claim Check c).1 refl, (frame_claim Check c).2 refl, refl, refl, refl, refl, refl, none_given Check c refl);
      visit = λ target name l. ((frame_claim (Visit target name l) c).1 refl, (frame_claim (Visit target name l) c).2 refl, refl, refl, refl, refl, refl);
      span_read = λ target name o bytes. ((frame_claim (SpanRead target name o bytes) c).1 refl, refl, refl, refl, refl, refl, none_given (SpanRead target name o bytes) c refl);
      span_write = λ o bytes. ((frame_claim (SpanWrite o bytes) c).2 refl, span_most c o bytes, refl, refl, refl, refl, none_given (SpanWrite o bytes) c refl);
    }
