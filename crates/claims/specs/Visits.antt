-- The visit that a block dates from, on one card: document 02, W2. What stands in quotation marks is from there. What the call names over whole lists of calls is in
-- Origins.antt of the crate `places`.
use Rattle.std.specs.Prelude.{◌≡◌, ◌↔◌, Bool, true, not, ◌&&◌, ◌||◌, List, [], ◌∷◌, ℕ, ◌+◌, ◌-◌, ◌<◌, ◌≤◌, length, get_or, eqb, ltb, leb}
use Rattle.blocks.specs.Pick.{pick, same}
use Rattle.blocks.specs.Bytes.{block_size}
use Rattle.blocks.specs.Name.{is_name, no_name}
use Rattle.blocks.specs.Descriptor.{physical, no_descriptor, cost_of}
use Rattle.blocks.specs.declared.numbers.Physical.{Physical}
use Rattle.blocks.specs.declared.descriptor.Descriptor.{Descriptor}
use Rattle.chains.specs.Chain.{chain, chain_sound, active_of}
use Rattle.entries.specs.InPlace.{owner_index, owner_of, is_in_place}
use Rattle.entries.specs.Entry.{found_block, locate, need, need_by}
use Rattle.entries.specs.Naming.{Naming, namings, among, check_one}
use Rattle.entries.specs.Found.{Entry, Verdict, Passed, Fault}
use Rattle.calls.specs.Call.{Target, Read, Visit, Given, NoneGiven, NameGiven}
use Rattle.calls.specs.Parts.{descriptors_of, target_of, found_through}
use Rattle.calls.specs.Effect.{given_bytes}
use Rattle.calls.specs.Meaning.{answer_of}
use Rattle.calls.specs.Step.{step, is_accepted}

-- block p is in the region of the descriptor d, "from alpha up to beta"
abbrev pub InRegion : Descriptor → ℕ → Type 0
InRegion d p = (d.alpha.0 ≤ p) × (p < d.beta.0)

-- Descriptor k of the chain of a card c has an entry that names block p: "the descriptor whose region from alpha up to beta contains it" is one of the chain, no later
-- than k, and no other.
pub record OneRegion (c : List ℕ) (k p : ℕ) : Type 0 where
  pub upto : owner_index (descriptors_of c) p ≤ k
  pub region : InRegion (owner_of (descriptors_of c) p) p
  pub only : (j : ℕ) → j < length (descriptors_of c) → InRegion (get_or (descriptors_of c) j no_descriptor) p → j ≡ owner_index (descriptors_of c) p

-- On every sound chain the region of a set entry that is in place is one and exists, be it an entry of Phi or of a table; and "Finding an entry shall give, beside the
-- block, the descriptor", by its index.
unfoldable pub OwnerClaim : Type 0
OwnerClaim =
    (c : List ℕ) → chain_sound (chain c) ≡ true → (k : ℕ) → k < length (descriptors_of c)
    → let ds = descriptors_of c in
    let d = get_or ds k no_descriptor in
    ((p : ℕ) → is_in_place ds d p ≡ true → (p ≡ 0 → ⊥) → OneRegion c k p)
    × ((l : ℕ) (m p : Physical) → found_through c d l ≡ Entry m p → (p.0 ≡ 0 → ⊥) → ((locate c ds d l).owner ≡ owner_index ds p.0) × OneRegion c k p.0)

-- whether an entry is against a rule of check, by the regions: in place by the region that contains the block; and in layout 2 a data entry in the region of
-- descriptor k itself has its table block there
unfoldable pub at_fault_by : List Descriptor → ℕ → List ℕ → Naming → Bool
at_fault_by ds k before e =
    let d = get_or ds k no_descriptor in
    let placed = eqb e.value 0 || (ltb e.value d.beta.0 && leb ((owner_of ds e.value).alpha.0 + cost_of d) e.value) in
    not placed
    || (not (eqb e.value 0) && (not e.counted || among before e.value))
    || (eqb d.layout 2 && not e.phi && eqb (owner_index ds e.value) k && not (eqb (owner_index ds e.holder) k))

-- the verdict on some namings so
unfoldable pub first_fault_by : List Descriptor → ℕ → List ℕ → List Naming → Verdict
first_fault_by ds k before [] = Passed
first_fault_by ds k before (e ∷ es) = let rest = first_fault_by ds k (e.value ∷ before) es in pick (at_fault_by ds k before e) (Fault (physical e.holder)) rest

-- What document 01 says by beta and alpha, of descriptor k of a sound chain, is the same by the region that contains the block: check and the rules on entries are joined
-- to it by these laws. Reads and writes take it from there in code, by `locate`; need follows below.
pub record ByOwner (c : List ℕ) (k : ℕ) : Type 0 where
  -- in place: nil, or below beta and outside the opening of that region
  pub in_place : let ds = descriptors_of c in
      let d = get_or ds k no_descriptor in
      (p : ℕ) → is_in_place ds d p ≡ (eqb p 0 || (ltb p d.beta.0 && leb ((owner_of ds p).alpha.0 + cost_of d) p))
  -- at or above alpha: that region is the descriptor's own
  pub own : let ds = descriptors_of c in
      let d = get_or ds k no_descriptor in
      (p : ℕ) → p < d.beta.0 → (d.alpha.0 ≤ p) ↔ (owner_index ds p ≡ k)
  -- the verdict of check on the descriptor, its rule on old tables among the others
  pub check : let ds = descriptors_of c in
      let d = get_or ds k no_descriptor in
      check_one c ds d ≡ first_fault_by ds k [] (namings c d)

-- And what a write takes, by the active descriptor, the last of the chain: no block where the one that it replaces is in that region.
unfoldable pub ByOwnerClaim : Type 0
ByOwnerClaim =
    (c : List ℕ) → chain_sound (chain c) ≡ true
    → ((k : ℕ) → k < length (descriptors_of c) → ByOwner c k)
    × (let ds = descriptors_of c in
    let d = active_of ds in
    (l : ℕ) → need_by (length ds - 1) d.alpha.0 (locate c ds d l).found (locate c ds d l).owner ≡ need d.alpha.0 (found_through c d l))

-- sixteen bytes as what is given: none for zeros, which are no name
unfoldable pub given_in : List ℕ → Given
given_in bytes = pick (same bytes no_name) NoneGiven (NameGiven bytes)

-- What a visit gives on a card c: "that descriptor's name, or none for nil".
pub record VisitGives (c : List ℕ) (target : Target) (name : List ℕ) (l : ℕ) : Type 0 where
  -- "with a read's refusals but 9": what a read with a block of 512 bytes is answered, number and place, whatever the block holds
  pub answer : (block : List ℕ) → length block ≡ block_size → answer_of (Visit target name l) c ≡ answer_of (Read target name l block) c
  pub never_9 : (answer_of (Visit target name l) c).number ≡ 9 → ⊥
  -- the name of the descriptor whose region contains the block that is found, none where that is nil
  pub given : is_accepted (answer_of (Visit target name l) c) ≡ true
      → let ds = descriptors_of c in
      let b = found_block (found_through c (target_of ds target name) l) in
      ((step (Visit target name l) c).outcome.given ≡ pick (eqb b 0) NoneGiven (NameGiven (owner_of ds b).name))
      × ((b ≡ 0 → ⊥) → InRegion (owner_of ds b) b)
  -- a name that is given is one, so that the sixteen bytes in which it is handed over say what was given, be it a name or none
  pub a_name : (n : List ℕ) → (step (Visit target name l) c).outcome.given ≡ NameGiven n → is_name n ≡ true
  pub bytes : given_in (given_bytes (step (Visit target name l) c).outcome.given) ≡ (step (Visit target name l) c).outcome.given

unfoldable pub VisitClaim : Type 0
VisitClaim = (c : List ℕ) (target : Target) (name : List ℕ) (l : ℕ) → VisitGives c target name l
