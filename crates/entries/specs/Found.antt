-- The results of finding an entry and of a check, as the definitions have them; and from what the code returns.
use Rattle.std.specs.Prelude.{Result, Ok, Err, ⊤, ℕ}
use Rattle.blocks.specs.declared.numbers.Physical.{Physical}
use Rattle.entries.specs.declared.find.Misplaced.{Misplaced as MisplacedEntry}
use Rattle.entries.specs.declared.find.Slot.{Slot}

-- what finding an entry gives: an entry on the way is not in place, and the block that holds it; or the block that holds the entry, nil where the table block
-- itself is nil, and the entry, nil or in place
pub data Found : Type 0 where
  Misplaced : Physical → Found
  Entry : Physical → Physical → Found

-- the same, and beside it the descriptor of the region that contains the block, by its index in the chain: 0 where the entry is nil or not in place
pub record Located : Type 0 where
  pub found : Found
  pub owner : ℕ

-- what a check finds: nothing, or the block that holds the first entry at fault
pub data Verdict : Type 0 where
  Passed : Verdict
  Fault : Physical → Verdict

-- these from what the code returns
abbrev pub entry_in : Slot → Found
entry_in s = Entry s.table s.entry

abbrev pub found_as : Result Slot MisplacedEntry → Found
found_as (Ok s) = entry_in s
found_as (Err e) = Misplaced e.0

abbrev pub located_as : Result (Slot × ℕ) MisplacedEntry → Located
located_as (Ok (s, k)) = record { found = entry_in s; owner = k }
located_as (Err e) = record { found = Misplaced e.0; owner = 0 }

abbrev pub verdict_as : Result ⊤ MisplacedEntry → Verdict
verdict_as (Ok u) = Passed
verdict_as (Err e) = Fault e.0
