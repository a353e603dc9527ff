-- Where each refusal is made: for each call the rows of 01's table that it meets, from top to bottom; the first that holds is given.
use Rattle.std.specs.Prelude.{Bool, not, ◌&&◌, ◌||◌, List, [], ◌∷◌, ◌++◌, ℕ, ◌+◌, ◌*◌, length, eqb, ltb, leb}
use Rattle.blocks.specs.Pick.{pick}
use Rattle.blocks.specs.Bytes.{block_size, block_count}
use Rattle.blocks.specs.Name.{is_name}
use Rattle.blocks.specs.Descriptor.{cost_of, most_volume, revision_ok, cost_in}
use Rattle.chains.specs.Chain.{chain, chain_sound, chain_place, named, active_of}
use Rattle.entries.specs.Entry.{need}
use Rattle.calls.specs.declared.answer.Answer.{Answer}
use Rattle.calls.specs.Call.{Target, answer, accepted}
use Rattle.calls.specs.declared.answer.Record.{Record}
use Rattle.calls.specs.Parts.{area_bad, descriptors_of, snapshots_of, target_of, is_snapshot, found_through, is_misplaced, holder_of, most_snapshots}
use Rattle.calls.specs.Check.{check_card, is_fault, fault_holder}
use Rattle.calls.specs.Spans.{span_verdict, write_span_need}
use Rattle.blocks.specs.declared.descriptor.Format.{Format}

-- a row: its condition, the number that it gives and the place
pub record Row : Type 0 where
  pub holds : Bool
  pub number : ℕ
  pub place : ℕ

abbrev pub row : Bool → ℕ → ℕ → Row
row b n p = record { holds = b; number = n; place = p }

-- the first row that holds, or acceptance
unfoldable pub first_row : List Row → Answer
first_row [] = accepted
first_row (r ∷ rs) = pick r.holds (answer r.number r.place) (first_row rs)

-- the rows that several calls share
abbrev pub area_row : List ℕ → Row
area_row c = row (area_bad c) 1 0

abbrev pub name_row : List ℕ → Row
name_row name = row (not (is_name name)) 4 0

-- a name is given where the target is a snapshot
abbrev pub target_row : Target → List ℕ → Row
target_row target name = row (is_snapshot target && not (is_name name)) 4 0

abbrev pub block_row : List ℕ → Row
block_row block = row (not (eqb (length block) block_size)) 9 0

abbrev pub chain_row : List ℕ → Row
chain_row c = row (not (chain_sound (chain c))) 6 (chain_place (chain c))

-- what is asked before the rows of any call
unfoldable pub admission : List ℕ → List Row
admission c = area_row c ∷ []

-- L is one for all descriptors of a sound chain
abbrev pub volume_row : List ℕ → ℕ → Row
volume_row c l = row (leb (active_of (descriptors_of c)).volume l) 8 0

-- the rows of each call after those of admission
-- a format of n blocks: nothing of the old card matters
unfoldable pub format_rows : ℕ → Format → List Row
format_rows n format =
    row (not (eqb format.layout 1 || eqb format.layout 2)) 2 0
    ∷ row (eqb format.volume 0 || ltb most_volume format.volume) 3 0
    ∷ row (not (revision_ok format.revision)) 17 0
    ∷ name_row format.name
    ∷ row (ltb n (cost_in format)) 5 0
    ∷ []

unfoldable pub ream_rows : List ℕ → Format → List Row
unfolding format_rows
ream_rows c format = format_rows (block_count c) format

-- the rows from that of the chain on, of a call that follows the entry of a logical block through its target
unfoldable pub entry_rows : List ℕ → Target → List ℕ → ℕ → List Row
entry_rows c target name l =
    let ds = descriptors_of c in
    let found = found_through c (target_of ds target name) l in
    chain_row c
    ∷ row (is_snapshot target && not (named (snapshots_of ds) name)) 7 0
    ∷ volume_row c l
    ∷ row (is_misplaced found) 10 (holder_of found)
    ∷ []

unfoldable pub read_rows : List ℕ → Target → List ℕ → ℕ → List ℕ → List Row
unfolding entry_rows
read_rows c target name l block = target_row target name ∷ block_row block ∷ entry_rows c target name l

-- "a read's refusals but 9" (02, W2)
unfoldable pub visit_rows : List ℕ → Target → List ℕ → ℕ → List Row
unfolding entry_rows
visit_rows c target name l = target_row target name ∷ entry_rows c target name l

-- the rows of a write between those of its arguments and that for want of room: they say where it goes
abbrev pub aim_rows : List ℕ → ℕ → List Row
aim_rows c l =
    let found = found_through c (active_of (descriptors_of c)) l in
    chain_row c
    ∷ volume_row c l
    ∷ row (is_misplaced found) 10 (holder_of found)
    ∷ []

unfoldable pub write_rows : List ℕ → ℕ → List ℕ → List Row
write_rows c l block =
    let d = active_of (descriptors_of c) in
    block_row block
    ∷ (aim_rows c l ++ (row (ltb (block_count c) (d.beta.0 + need d.alpha.0 (found_through c d l))) 11 0 ∷ []))

-- those of a snap: they say where it is taken
abbrev pub site_rows : List ℕ → List ℕ → List Row
site_rows c name =
    let ds = descriptors_of c in
    chain_row c
    ∷ row (named ds name) 12 0
    ∷ row (leb most_snapshots (length (snapshots_of ds))) 13 0
    ∷ []

unfoldable pub snap_rows : List ℕ → List ℕ → List Row
snap_rows c name =
    let d = active_of (descriptors_of c) in
    name_row name ∷ (site_rows c name ++ (row (ltb (block_count c) (d.beta.0 + cost_of d)) 11 0 ∷ []))

unfoldable pub revert_rows : List ℕ → List ℕ → List Row
revert_rows c name = name_row name ∷ chain_row c ∷ row (not (named (snapshots_of (descriptors_of c)) name)) 7 0 ∷ []

unfoldable pub list_rows : List ℕ → List Record → List Row
list_rows c records = chain_row c ∷ row (ltb (length records) (length (descriptors_of c))) 14 0 ∷ []

abbrev pub fault_row : List ℕ → Row
fault_row c = row (is_fault (check_card c)) 10 (fault_holder (check_card c))

unfoldable pub check_rows : List ℕ → List Row
check_rows c = chain_row c ∷ fault_row c ∷ []

-- "16, offset plus length past the volume's end, where 8 stands; spans have no 8 or 9" (02, W1)
abbrev pub span_row : List ℕ → ℕ → ℕ → Row
span_row c o n = row (ltb (block_size * (active_of (descriptors_of c)).volume) (o + n)) 16 0

-- a span read: the first of its blocks, rising, whose entry is not in place
unfoldable pub span_read_rows : List ℕ → Target → List ℕ → ℕ → List ℕ → List Row
span_read_rows c target name o bytes =
    let ds = descriptors_of c in
    let verdict = span_verdict c (target_of ds target name) o (length bytes) in
    target_row target name
    ∷ chain_row c
    ∷ row (is_snapshot target && not (named (snapshots_of ds) name)) 7 0
    ∷ span_row c o (length bytes)
    ∷ row (is_fault verdict) 10 (fault_holder verdict)
    ∷ []

-- a span write: "On a card that fails check it gets check's answer, 10 standing where 10 stands"
unfoldable pub span_write_rows : List ℕ → ℕ → List ℕ → List Row
span_write_rows c o bytes =
    chain_row c
    ∷ span_row c o (length bytes)
    ∷ fault_row c
    ∷ row (ltb (block_count c) ((active_of (descriptors_of c)).beta.0 + write_span_need c o bytes)) 11 0
    ∷ []
