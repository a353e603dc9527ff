-- A call with its arguments and its lent memory at entry, and an outcome with the lent memory at exit.
use Rattle.std.specs.Prelude.{List, ℕ, Result, Ok, Err}
use Rattle.blocks.specs.Name.{no_name}
use Rattle.calls.specs.declared.answer.Answer.{Answer}
use Rattle.calls.specs.declared.answer.Refusal.{Refusal}
use Rattle.calls.specs.declared.answer.Refusal.TheVariants as why
use Rattle.calls.specs.declared.answer.Target.{Target as NamedTarget}
use Rattle.calls.specs.declared.answer.Target.TheVariants as named
use Rattle.calls.specs.declared.answer.Record.{Record}
use Rattle.blocks.specs.declared.descriptor.Format.{Format}

-- what a read, a visit or a span read is asked of: the active store, or the snapshot whose name stands beside it
pub data Target : Type 0 where
  Active : Target
  Snapshot : Target

-- Each call stands with its arguments and the content, at its entry, of what is lent besides the card: a read's block, a write's block, the bytes of a span, a list.
-- A name is any sixteen bytes; a block, the bytes of a span and a list have any length. A read, a visit and a span read of the active store
-- do not look at the name beside it.
-- Visit is document 02's new call, W2: which visit's region holds what a read of this target gives. SpanRead and SpanWrite are those of W1: from byte `offset` of the
-- volume on, as many bytes as are lent.
pub data Call : Type 0 where
  Ream : (format : Format) → Call
  Read : (target : Target) → (name : List ℕ) → (l : ℕ) → (block : List ℕ) → Call
  Write : (l : ℕ) → (block : List ℕ) → Call
  Snap : (name : List ℕ) → Call
  Revert : (name : List ℕ) → Call
  Listing : (records : List Record) → Call
  Check : Call
  Visit : (target : Target) → (name : List ℕ) → (l : ℕ) → Call
  SpanRead : (target : Target) → (name : List ℕ) → (offset : ℕ) → (bytes : List ℕ) → Call
  SpanWrite : (offset : ℕ) → (bytes : List ℕ) → Call

-- what is lent to a call besides the card: nothing, bytes, or records
pub data Lent : Type 0 where
  None : Lent
  Block : List ℕ → Lent
  Records : List Record → Lent

-- what a call returns besides number and place: none, or a name. Only a visit gives a name
pub data Given : Type 0 where
  NoneGiven : Given
  NameGiven : List ℕ → Given

-- what a call answers: number and place, the content at exit of what was lent besides the card, and whatever else the call returns
pub record Outcome : Type 0 where
  pub answer : Answer
  pub lent : Lent
  pub given : Given

abbrev pub answer : ℕ → ℕ → Answer
answer n p = record { number = n; place = p }

abbrev pub accepted : Answer
accepted = answer 0 0

-- the number of each refusal, as the papers have it, and its place
abbrev pub number_of : Refusal → ℕ
number_of why.NoCard = 1
number_of why.BadLayout = 2
number_of why.BadVolume = 3
number_of why.BadName = 4
number_of why.CardTooSmall = 5
number_of (why.UnsoundChain p) = 6
number_of why.NoSnapshot = 7
number_of why.PastTheVolume = 8
number_of why.BadBlock = 9
number_of (why.Misplaced p) = 10
number_of why.NoRoom = 11
number_of why.NameInUse = 12
number_of why.TooManySnapshots = 13
number_of why.TooFewRecords = 14
number_of (why.BadLine n) = 15
number_of why.PastTheEnd = 16
number_of why.BadRevision = 17

abbrev pub place_of : Refusal → ℕ
place_of why.NoCard = 0
place_of why.BadLayout = 0
place_of why.BadVolume = 0
place_of why.BadName = 0
place_of why.CardTooSmall = 0
place_of (why.UnsoundChain p) = p.0
place_of why.NoSnapshot = 0
place_of why.PastTheVolume = 0
place_of why.BadBlock = 0
place_of (why.Misplaced p) = p.0
place_of why.NoRoom = 0
place_of why.NameInUse = 0
place_of why.TooManySnapshots = 0
place_of why.TooFewRecords = 0
place_of (why.BadLine n) = n
place_of why.PastTheEnd = 0
place_of why.BadRevision = 0

-- number and place of what the code of a call returns
abbrev pub refused : Refusal → Answer
refused r = answer (number_of r) (place_of r)

abbrev pub answered : {X : Type 0} → Result X Refusal → Answer
answered (Ok x) = accepted
answered (Err r) = refused r

-- what is read as the code takes it: which it is, and the name beside it, zeros beside the active store
abbrev pub target_as : NamedTarget → Target
target_as named.Active = Active
target_as (named.Snapshot name) = Snapshot

abbrev pub name_as : NamedTarget → List ℕ
name_as named.Active = no_name
name_as (named.Snapshot name) = name
