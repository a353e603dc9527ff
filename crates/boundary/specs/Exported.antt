-- What the exported functions take and give besides what the calls do: a name and a target as the caller gives them, the padding of a name.
use Rattle.std.specs.Prelude.{◌&&◌, List, ℕ, length, eqb}
use Rattle.blocks.specs.Pick.{pick}
use Rattle.blocks.specs.Name.{name_size, no_name, is_text, padded}
use Rattle.calls.specs.Call.{Target, Active, Snapshot, Lent, answer}
use Rattle.calls.specs.Effect.{Visited}
use Rattle.calls.specs.Step.{Done, done}

-- what a call does, given the number that is returned, the place that is stored, and what is lent and the card at exit
abbrev pub exported : ℕ → ℕ → Lent → List ℕ → Done
exported number place lent card = done (answer number place) lent card

-- what a visit gives, given the number that is returned, and the place and the sixteen bytes that are stored
abbrev pub exported_visit : ℕ → ℕ → List ℕ → Visited
exported_visit number place name = record { answer = answer number place; name = name }

-- the name in lent bytes: bytes that are not sixteen are no name
unfoldable pub name_in : List ℕ → List ℕ
name_in bytes = pick (eqb (length bytes) name_size) bytes no_name

-- the target of a read, a visit or a span read: the active store at 0, else the snapshot of the name
unfoldable pub target_in : ℕ → Target
target_in snapshot = pick (eqb snapshot 0) Active Snapshot

-- the number that the padding of a name gives, and the lent sixteen bytes at exit
pub record Padding : Type 0 where
  pub number : ℕ
  pub name : List ℕ

-- the padded text where the text is 1 to 16 name bytes and sixteen bytes are lent, else 4 and the bytes as they were
unfoldable pub padding_of : List ℕ → List ℕ → Padding
padding_of text name = pick (eqb (length name) name_size && is_text text) (record { number = 0; name = padded text }) (record { number = 4; name = name })
