-- What the code of a listing plans and fills.
use Rattle.std.specs.Prelude.{Result, Ok, Err, ◌≡◌, Bool, true, List, [], ◌∷◌, ℕ, zero, suc, ◌+◌, ◌<◌, length, get_or, set, replicate, eqb, ltb}
use Rattle.blocks.specs.Pick.{pick}
use Rattle.blocks.specs.Descriptor.{physical, descriptor_at}
use Rattle.chains.specs.Chain.{chain, starts_of, starts_size, walk_of}
use Rattle.chains.specs.Walk.{places_left}
use Rattle.calls.specs.declared.answer.Record.{Record}
use Rattle.calls.specs.declared.answer.Answer.{Answer}
use Rattle.calls.specs.declared.answer.Refusal.{Refusal}
use Rattle.calls.specs.Call.{Listing, answer, accepted, refused}
use Rattle.calls.specs.Parts.{descriptors_of}
use Rattle.calls.specs.Ladder.{first_row, admission}
use Rattle.calls.specs.Meaning.{answer_of}
use Rattle.calls.specs.Step.{is_accepted}

-- the records that a sheet owns
abbrev pub sheet_records : ℕ
sheet_records = 64

-- what a listing answers, and how many records it fills: none where it is refused
pub record Filling : Type 0 where
  pub answer : Answer
  pub count : ℕ

-- the same, and the places as the walk leaves them: in the first of them where the regions start, if the chain is sound
pub record Plan : Type 0 where
  pub answer : Answer
  pub count : ℕ
  pub starts : List ℕ

-- the first from what the code returns
abbrev pub filling_as : Result ℕ Refusal → Filling
filling_as (Ok n) = record { answer = accepted; count = n }
filling_as (Err r) = record { answer = refused r; count = 0 }

-- an answer and a number of records to fill
abbrev pub filling_with : ℕ → ℕ → ℕ → Filling
filling_with n p count = record { answer = answer n p; count = count }

-- a listing's answer, and how many records it fills: one for each descriptor where it is accepted, else none
unfoldable pub filling_of : List ℕ → List Record → Filling
filling_of c records =
    let a = answer_of (Listing records) c in
    record { answer = a; count = pick (is_accepted a) (length (descriptors_of c)) 0 }

-- the same in the order of the tests, by what the walk along the chain found and the number of records
unfoldable pub filling_by : List ℕ → Bool → ℕ → ℕ → ℕ → Filling
filling_by c sound place count room =
    let a = first_row (admission c) in
    pick (is_accepted a) (pick sound (pick (ltb room count) (filling_with 14 0 0) (filling_with 0 0 count)) (filling_with 6 place 0)) (filling_with a.number a.place 0)

-- what a listing into so many records plans: its answer, how many it fills, and the places as the walk leaves them
unfoldable pub plan_of : List ℕ → ℕ → Plan
plan_of c room =
    let w = walk_of (chain c) in
    let f = filling_by c w.sound w.place.0 w.count room in
    record { answer = f.answer; count = f.count; starts = places_left c (replicate starts_size 0) }

-- what the code of a listing knows after the walk: whether the chain is sound, the place of its fault and how many descriptors it has; and, of a sound one, where its regions start
pub record ListReady (c : List ℕ) (sound : Bool) (place count : ℕ) (starts : List ℕ) : Type 0 where
  pub sound_is : sound ≡ (walk_of (chain c)).sound
  pub place_is : place ≡ (walk_of (chain c)).place.0
  pub count_is : count ≡ (walk_of (chain c)).count
  pub starts_are : sound ≡ true → starts ≡ starts_of (descriptors_of c)
  pub long : count < length starts

-- the record of region k of n, by where the regions start: the name is that of the descriptor there
unfoldable pub record_by : List ℕ → List ℕ → ℕ → ℕ → Record
record_by c starts n k =
    let start = get_or starts k 0 in
    let end = get_or starts (k + 1) 0 in
    record { name = (descriptor_at c start).name; alpha = physical start; beta = physical end; next = physical (pick (eqb (k + 1) n) 0 end) }

-- the records, of which the first i are those of the first i regions of n; and of all n
unfoldable pub filled_to : List ℕ → List ℕ → List Record → ℕ → ℕ → List Record
filled_to c starts records n zero = records
filled_to c starts records n (suc i) = set (filled_to c starts records n i) i (record_by c starts n i)

unfoldable pub filled : List ℕ → List ℕ → List Record → ℕ → List Record
filled c starts records n = filled_to c starts records n n

-- how many records a listing has filled: those up to the first whose next is nil, that one too, or all
unfoldable pub record_count : List Record → ℕ
record_count [] = 0
record_count (r ∷ rs) = pick (eqb r.next.0 0) 1 (suc (record_count rs))
