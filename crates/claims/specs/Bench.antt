-- The thirteen marked bench values of 01 as one table. Writes are of fill 1; the old bytes of every area are sevens.
use Rattle.std.specs.Prelude.{◌≡◌, List, [], ◌∷◌, ℕ, ◌*◌, replicate, set}
use Rattle.blocks.specs.Bytes.{block_size, zero_block}
use Rattle.blocks.specs.Name.{padded, no_name}
use Rattle.calls.specs.declared.answer.Answer.{Answer}
use Rattle.calls.specs.declared.answer.Record.{Record}
use Rattle.calls.specs.Call.{Active, Call, Ream, Read, Write, Snap, Revert, Listing, Lent, None, Block, Records, answer}
use Rattle.calls.specs.Effect.{given_bytes}
use Rattle.calls.specs.Step.{Done, step}
use Rattle.claims.specs.History.{beta_of, formatted}
use Rattle.blocks.specs.Descriptor.{physical, as_format}

-- what a value says besides number and place: nothing, the card's beta after the call, the block that was read, or the name that was given, sixteen zeros for none
pub data Shown : Type 0 where
  Only : Shown
  Beta : ℕ → Shown
  Bytes : List ℕ → Shown
  Named : List ℕ → Shown

-- a value: the card, the call on it, what it answers and shows
pub record Value : Type 0 where
  pub card : List ℕ
  pub call : Call
  pub answer : Answer
  pub shown : Shown

unfoldable pub block_of : Lent → List ℕ
block_of None = []
block_of (Block b) = b
block_of (Records rs) = []

-- what the call does show, of the kind that the value speaks of
unfoldable pub showing : Shown → Done → Shown
showing Only d = Only
showing (Beta n) d = Beta (beta_of d.card)
showing (Bytes b) d = Bytes (block_of d.outcome.lent)
showing (Named n) d = Named (given_bytes d.outcome.given)

pub record Result : Type 0 where
  pub answer : Answer
  pub shown : Shown

unfoldable pub expected : Value → Result
expected v = record { answer = v.answer; shown = v.shown }

unfoldable pub computed : Value → Result
computed v = let d = step v.call v.card in record { answer = d.outcome.answer; shown = showing v.shown d }

-- an area of n blocks with old bytes in it, a block of fill 1, and names as text
abbrev pub area : ℕ → List ℕ
area n = replicate (block_size * n) 7

abbrev pub ones : List ℕ
ones = replicate block_size 1

abbrev pub fs : List ℕ
fs = padded (102 ∷ 115 ∷ [])

abbrev pub mon : List ℕ
mon = padded (109 ∷ 111 ∷ 110 ∷ [])

abbrev pub tue : List ℕ
tue = padded (116 ∷ 117 ∷ 101 ∷ [])

-- layout 1, L 129, N 3; layout 2, L 14,336, N 2, and the same after a snap
abbrev pub small1 : List ℕ
small1 = formatted (area 3) (as_format 1 129 fs)

abbrev pub small2 : List ℕ
small2 = formatted (area 2) (as_format 2 14336 fs)

abbrev pub snapped2 : List ℕ
snapped2 = (step (Snap mon) small2).card

-- a block lent to a read
abbrev pub lent : List ℕ
lent = replicate block_size 9

-- a record lent to a list
abbrev pub blank : Record
blank = record { name = no_name; alpha = physical 1; beta = physical 2; next = physical 3 }

-- a text of n letters `a`
abbrev pub letters : ℕ → List ℕ
letters n = replicate n 97

unfoldable pub values : List Value
values =
    -- layout 1, L 129: N 3 accepted, beta 3; N 2: 5
    record { card = area 3; call = Ream (as_format 1 129 fs); answer = answer 0 0; shown = Beta 3 }
    ∷ record { card = area 2; call = Ream (as_format 1 129 fs); answer = answer 5 0; shown = Only }
    -- on the first, write: 11; read 128: zeros; read 129: 8
    ∷ record { card = small1; call = Write 0 ones; answer = answer 11 0; shown = Only }
    ∷ record { card = small1; call = Read Active no_name 128 lent; answer = answer 0 0; shown = Bytes zero_block }
    ∷ record { card = small1; call = Read Active no_name 129 lent; answer = answer 8 0; shown = Only }
    -- layout 2, L 14,336, N 2: write 11; snap accepted, beta 2; second snap 11
    ∷ record { card = small2; call = Write 0 ones; answer = answer 11 0; shown = Only }
    ∷ record { card = small2; call = Snap mon; answer = answer 0 0; shown = Beta 2 }
    ∷ record { card = snapped2; call = Snap tue; answer = answer 11 0; shown = Only }
    -- L 14,337: 3; a name of 17 bytes: 4, and 16 passes
    ∷ record { card = area 2; call = Ream (as_format 2 14337 fs); answer = answer 3 0; shown = Only }
    ∷ record { card = area 2; call = Ream (as_format 2 14336 (padded (letters 17))); answer = answer 4 0; shown = Only }
    ∷ record { card = area 2; call = Ream (as_format 2 14336 (padded (letters 16))); answer = answer 0 0; shown = Only }
    -- revert to the active name: 7; snap with it: 12
    ∷ record { card = small2; call = Revert fs; answer = answer 7 0; shown = Only }
    ∷ record { card = small2; call = Snap fs; answer = answer 12 0; shown = Only }
    -- two blocks of zeros, list: 6, place 0
    ∷ record { card = replicate 1024 0; call = Listing []; answer = answer 6 0; shown = Only }
    ∷ []

-- The table tells wrong from right: a value that is off in its number, its place, its beta, a byte of the block that was read, or a byte of the block that a
-- refused read leaves, is not what is computed.
abbrev pub Differs : Value → Type 0
Differs v = computed v ≡ expected v → ⊥

unfoldable pub WrongValues : Type 0
WrongValues =
    Differs (record { card = area 3; call = Ream (as_format 1 129 fs); answer = answer 5 0; shown = Only })
    × Differs (record { card = area 3; call = Ream (as_format 1 129 fs); answer = answer 0 1; shown = Only })
    × Differs (record { card = area 3; call = Ream (as_format 1 129 fs); answer = answer 0 0; shown = Beta 4 })
    × Differs (record { card = small1; call = Read Active no_name 128 lent; answer = answer 0 0; shown = Bytes (set zero_block 511 1) })
    × Differs (record { card = small1; call = Read Active no_name 129 lent; answer = answer 8 0; shown = Bytes (set lent 511 0) })
