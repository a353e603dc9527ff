-- What the code of a call gives or does once its tests are passed: the records of a listing; what a read and a visit give once the entry is found; where a write goes and what it does there; where a snapshot is taken.
use Rattle.std.specs.Prelude.{Result, Ok, Err, Option, Some, None, List, [], ◌∷◌, ℕ, ◌+◌, get_or, eqb, ltb}
use Rattle.blocks.specs.Pick.{pick}
use Rattle.blocks.specs.Bytes.{block_count, store_all}
use Rattle.blocks.specs.Name.{no_name}
use Rattle.blocks.specs.declared.numbers.Physical.{Physical}
use Rattle.blocks.specs.Descriptor.{physical, no_descriptor}
use Rattle.blocks.specs.declared.descriptor.Descriptor.{Descriptor}
use Rattle.chains.specs.Chain.{active_of}
use Rattle.entries.specs.Entry.{need, writing, found_block, locate}
use Rattle.entries.specs.Found.{Found, Located}
use Rattle.calls.specs.declared.answer.Answer.{Answer}
use Rattle.calls.specs.declared.answer.Aim.{Aim as AimFound}
use Rattle.calls.specs.declared.answer.Refusal.{Refusal}
use Rattle.calls.specs.declared.answer.Record.{Record}
use Rattle.calls.specs.Call.{Target, Outcome, Given, NoneGiven, NameGiven, answer, accepted, refused}
use Rattle.calls.specs.Ladder.{first_row, aim_rows, site_rows}
use Rattle.calls.specs.Parts.{descriptors_of, target_of, found_through, is_misplaced, holder_of, block_found}

-- a record of zeros
abbrev pub no_record : Record
no_record = record { name = no_name; alpha = physical 0; beta = physical 0; next = physical 0 }

-- the record of a descriptor, and those of a chain followed by the records that a listing leaves unchanged
abbrev pub record_of : Descriptor → Record
record_of d = record { name = d.name; alpha = d.alpha; beta = d.beta; next = d.next }

unfoldable pub listed : List Descriptor → List Record → List Record
listed [] rest = rest
listed (d ∷ ds) rest = record_of d ∷ listed ds rest

-- what a read gives once its entry was looked for: the refusal of one that is not in place, or the block that was found
pub record Delivered : Type 0 where
  pub answer : Answer
  pub block : List ℕ

unfoldable pub delivered : List ℕ → Found → List ℕ → Delivered
delivered c found block = pick (is_misplaced found) (record { answer = answer 10 (holder_of found); block = block }) (record { answer = accepted; block = block_found c found })

-- what a visit gives once its entry was found: the name of the descriptor whose region contains the block, none for nil
unfoldable pub given_at : List Descriptor → Located → Given
given_at ds at = pick (eqb (found_block at.found) 0) NoneGiven (NameGiven (get_or ds at.owner no_descriptor).name)

unfoldable pub visit_given : List ℕ → Target → List ℕ → ℕ → Given
visit_given c target name l = let ds = descriptors_of c in given_at ds (locate c ds (target_of ds target name) l)

-- what is given as sixteen bytes: zeros, which are no name, for none
unfoldable pub given_bytes : Given → List ℕ
given_bytes NoneGiven = no_name
given_bytes (NameGiven name) = name

-- what a visit gives: number and place, and the name of the region's descriptor, sixteen zeros for none
pub record Visited : Type 0 where
  pub answer : Answer
  pub name : List ℕ

-- the outcome of a visit as its code gives it; and, once the entry was looked for, the refusal of one that is not in place, or what is given
unfoldable pub as_visited : Outcome → Visited
as_visited o = record { answer = o.answer; name = given_bytes o.given }

unfoldable pub visited : List Descriptor → Located → Visited
visited ds at = pick (is_misplaced at.found) (record { answer = answer 10 (holder_of at.found); name = no_name }) (record { answer = accepted; name = given_bytes (given_at ds at) })

-- where a write goes: its answer by the tests from that of the chain up to that of the entry, the block of the active descriptor, the table block and the block that
-- the entry names, each of these two 0 for nil, and the blocks that it takes. With a refusal all but the answer are 0
pub record Aim : Type 0 where
  pub answer : Answer
  pub alpha : Physical
  pub table : Physical
  pub entry : Physical
  pub taken : ℕ

-- where a write goes that one of its aim_rows refuses: nowhere
abbrev pub no_aim : Answer → Aim
no_aim a = record { answer = a; alpha = physical 0; table = physical 0; entry = physical 0; taken = 0 }

-- where a write of logical block l goes, by its rows from that of the chain up to that of the entry: through the active descriptor to the entry that was found
unfoldable pub aim_of : List ℕ → ℕ → Aim
aim_of c l =
    let d = active_of (descriptors_of c) in
    let found = found_through c d l in
    let a = first_row (aim_rows c l) in
    pick (eqb a.number 0)
    (record { answer = a; alpha = d.alpha; table = physical (holder_of found); entry = physical (found_block found); taken = need d.alpha.0 found })
    (no_aim a)

-- what a write does once its entry was found: the refusal for want of room, or its stores
pub record Written : Type 0 where
  pub answer : Answer
  pub card : List ℕ

unfoldable pub written : List ℕ → Descriptor → Found → ℕ → List ℕ → Written
written c d found l block =
    pick (ltb (block_count c) (d.beta.0 + need d.alpha.0 found))
    (record { answer = answer 11 0; card = c })
    (record { answer = accepted; card = store_all c (writing c d found l block) })

-- where a snapshot is taken: its answer by the tests from that of the chain up to that of the number of snapshots, and the block of the active descriptor, 0 with a
-- refusal
pub record Site : Type 0 where
  pub answer : Answer
  pub alpha : Physical

-- where a snapshot is taken that one of its site_rows refuses: nowhere
abbrev pub no_site : Answer → Site
no_site a = record { answer = a; alpha = physical 0 }

-- where a snapshot of the name is taken, by its rows from that of the chain up to that of the number of snapshots: at the active descriptor
unfoldable pub site_of : List ℕ → List ℕ → Site
site_of c name =
    let a = first_row (site_rows c name) in
    pick (eqb a.number 0) (record { answer = a; alpha = (active_of (descriptors_of c)).alpha }) (no_site a)

-- these from what the code returns: a name or none, a write's aim, a snapshot's place, or the refusal
abbrev pub name_or_none : Option (List ℕ) → List ℕ
name_or_none None = no_name
name_or_none (Some name) = name

abbrev pub visited_as : Result (Option (List ℕ)) Refusal → Visited
visited_as (Ok name) = record { answer = accepted; name = name_or_none name }
visited_as (Err r) = record { answer = refused r; name = no_name }

abbrev pub aim_as : Result AimFound Refusal → Aim
aim_as (Ok a) = record { answer = accepted; alpha = a.alpha; table = a.slot.table; entry = a.slot.entry; taken = a.taken }
aim_as (Err r) = no_aim (refused r)

abbrev pub site_as : Result Physical Refusal → Site
site_as (Ok alpha) = record { answer = accepted; alpha = alpha }
site_as (Err r) = no_site (refused r)
