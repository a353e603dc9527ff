-- What an accepted listing fills: the descriptors' own records, and the records after them as they were.
use mathlib.Core.Path.{◌≡◌, refl, ◌∙◌}
use mathlib.Core.Bool.{true}
use mathlib.Core.List.{List, [], ◌∷◌}
use Prim.Native.Nat.{ℕ, zero, suc, ◌+◌, ◌≤◌, ◌<◌}
use native.Mathlib.Omega.{arith}
use lib.ListN.{length, drop, get_or, length-drop}
use Rattle.blocks.specs.Descriptor.{no_descriptor}
use Rattle.blocks.specs.declared.descriptor.Descriptor.{Descriptor}
use Rattle.calls.specs.declared.answer.Record.{Record}
use Rattle.calls.specs.Call.{Listing, Records}
use Rattle.calls.specs.Parts.{descriptors_of}
use Rattle.calls.specs.Effect.{record_of, listed}
use Rattle.calls.specs.Meaning.{answer_of, filled_of}
use Rattle.calls.specs.Step.{step, is_accepted}
use Rattle.claims.specs.Claims.{ListClaim}
use Rattle.calls.proofs.Passed.{list_passed}

-- the records of descriptors, then the rest
listed_length : (ds : List Descriptor) (rest : List Record) → length (listed ds rest) ≡ length ds + length rest
unfolding listed
listed_length [] rest = omega arith
listed_length (d ∷ ds) rest = omega (arith, listed_length ds rest)

listed_at : (ds : List Descriptor) (rest : List Record) (i : ℕ) (r : Record) → i < length ds → get_or (listed ds rest) i r ≡ record_of (get_or ds i no_descriptor)
unfolding listed
listed_at [] rest i r h = absurd (omega arith)
listed_at (d ∷ ds) rest zero r h = refl
listed_at (d ∷ ds) rest (suc i) r h = listed_at ds rest i r (omega arith)

listed_rest : (ds : List Descriptor) (rest : List Record) → drop (length ds) (listed ds rest) ≡ rest
unfolding listed
listed_rest [] rest = refl
listed_rest (d ∷ ds) rest = listed_rest ds rest

-- an accepted listing
module _ (records : List Record) (c : List ℕ) (ok : is_accepted (answer_of (Listing records) c) ≡ true) where
  abbrev ds : List Descriptor
  ds = descriptors_of c

  abbrev filled : List Record
  filled = listed ds (drop (length ds) records)

  list_fills : (step (Listing records) c).outcome.lent ≡ Records filled
  unfolding step filled_of
  list_fills = rw ok

  list_room : length ds ≤ length records
  list_room = (list_passed c records ok).room

  list_length : length filled ≡ length records
  list_length = listed_length ds (drop (length ds) records) ∙ omega (arith, length-drop (length ds) records, list_room)

pub list_claim : ListClaim
unfolding ListClaim
list_claim records c ok = (
  filled records c ok,
  list_fills records c ok,
  list_length records c ok,
  λ i r h. listed_at (descriptors_of c) (drop (length (descriptors_of c)) records) i r h,
  listed_rest (descriptors_of c) (drop (length (descriptors_of c)) records),
)
