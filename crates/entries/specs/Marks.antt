-- Flags for the blocks of a card, which the check in code keeps: a byte for each block. Each descriptor is checked in a turn of its own, and the
-- turns rise, so that what an earlier turn left is below the turn. The flags are cleared only after turn 255, and then the turns start again.
use Rattle.std.specs.Prelude.{◌≡◌, Bool, true, false, not, ◌&&◌, ◌||◌, List, [], ◌∷◌, ℕ, zero, suc, ◌+◌, ◌*◌, ◌≤◌, ◌<◌, length, get_or, set, replicate, eqb, ltb, leb}
use Rattle.blocks.specs.Pick.{pick}
use Rattle.blocks.specs.Bytes.{block_size, most_blocks}
use Rattle.blocks.specs.Descriptor.{physical, table_size, phi_size, table_count}
use Rattle.blocks.specs.declared.descriptor.Descriptor.{Descriptor}
use Rattle.entries.specs.InPlace.{is_descriptor, is_table}
use Rattle.entries.specs.Naming.{Naming, among, table_namings}
use Rattle.entries.specs.Through.{Through}
use Rattle.entries.specs.Found.{Verdict, Passed, Fault}

-- the flag of a block of an opening, and the last turn
abbrev pub opening_flag : ℕ
opening_flag = 255

-- whether block v may not be named any more in a turn: it is of an opening, or was named in this turn
abbrev pub is_flagged : List ℕ → ℕ → ℕ → Bool
is_flagged seen turn v = leb turn (get_or seen v 0)

-- whether an entry of value v is taken: nil, or counted, below the limit and not flagged
unfoldable pub takes : List ℕ → ℕ → ℕ → Bool → ℕ → Bool
takes seen turn limit counted v = eqb v 0 || (counted && ltb v limit && not (is_flagged seen turn v))

-- the flags after it: a set entry that is taken gets the turn as its flag
unfoldable pub taking : List ℕ → ℕ → ℕ → Bool → ℕ → List ℕ
taking seen turn limit counted v = pick (not (eqb v 0) && takes seen turn limit counted v) (set seen v turn) seen

-- the flags with those of the n blocks from block from set to that of an opening
unfoldable pub flagged : List ℕ → ℕ → ℕ → List ℕ
flagged seen from zero = seen
flagged seen from (suc n) = set (flagged seen from n) (from + n) opening_flag

-- the flags with those of the first k openings set, c blocks from each start
unfoldable pub openings_flagged : List ℕ → List ℕ → ℕ → ℕ → List ℕ
openings_flagged seen starts c zero = seen
openings_flagged seen starts c (suc k) = flagged (openings_flagged seen starts c k) (get_or starts k 0) c

-- the turn after a turn, and the flags for it: once the last turn is used up they are cleared, and only those of the openings are set again
unfoldable pub next_turn : ℕ → ℕ
next_turn turn = pick (ltb turn opening_flag) (turn + 1) 1

unfoldable pub next_flags : List ℕ → List ℕ → ℕ → ℕ → ℕ → List ℕ
next_flags seen starts c k turn = pick (ltb turn opening_flag) seen (openings_flagged (replicate (length seen) 0) starts c k)

-- where an entry must stay below: alpha for one of a table block below alpha, else beta
unfoldable pub limit_of : Descriptor → Naming → ℕ
limit_of d e = pick (not e.phi && ltb e.holder d.alpha.0) d.alpha.0 d.beta.0

-- what a walk over some entries leaves: the verdict, and the flags
pub record Taken : Type 0 where
  pub verdict : Verdict
  pub flags : List ℕ

-- the walk over some entries of a descriptor in a turn: each is taken, and flagged where it is set, up to the first that is not taken
unfoldable pub taking_all : Descriptor → ℕ → List ℕ → List Naming → Taken
taking_all d turn seen [] = record { verdict = Passed; flags = seen }
taking_all d turn seen (e ∷ es) =
    let rest = taking_all d turn (taking seen turn (limit_of d e) e.counted e.value) es in
    pick (takes seen turn (limit_of d e) e.counted e.value) rest (record { verdict = Fault (physical e.holder); flags = seen })

-- what the walk over a table needs: the block is on the card, there is a flag for each block below beta, alpha is not above beta, and the group is one of 112
pub record TableReady (c : List ℕ) (d : Descriptor) (i m : ℕ) (seen : List ℕ) : Type 0 where
  pub on_card : block_size * m + block_size ≤ length c
  pub flags : d.beta.0 ≤ length seen
  pub rising : d.alpha.0 ≤ d.beta.0
  pub group : i < phi_size

-- what the walk over some entries of table block m needs: the same but for the group
pub record EntriesReady (c : List ℕ) (d : Descriptor) (m : ℕ) (seen : List ℕ) : Type 0 where
  pub on_card : block_size * m + block_size ≤ length c
  pub flags : d.beta.0 ≤ length seen
  pub rising : d.alpha.0 ≤ d.beta.0

-- the namings of the table block m, none where it is nil
unfoldable pub named_in_table : List ℕ → Descriptor → ℕ → ℕ → List Naming
named_in_table c d i m = pick (eqb m 0) [] (table_namings c d i m table_size 0)

-- what the walk over the tables of a layout 1 descriptor needs: the region is one on the card, with its n tables
pub record TablesReady (c : List ℕ) (d : Descriptor) (n : ℕ) (seen : List ℕ) : Type 0 where
  pub on_card : block_size * d.beta.0 ≤ length c
  pub flags : d.beta.0 ≤ length seen
  pub region : d.alpha.0 + 1 + n ≤ d.beta.0
  pub small : d.beta.0 ≤ most_blocks
  pub groups : n ≤ phi_size
  pub layout : d.layout ≡ 1

-- what the walk over Phi needs: the region is one on the card, and n is the number of its tables
pub record PhiReady (c : List ℕ) (d : Descriptor) (n : ℕ) (seen : List ℕ) : Type 0 where
  pub on_card : block_size * d.beta.0 ≤ length c
  pub flags : d.beta.0 ≤ length seen
  pub region : d.alpha.0 < d.beta.0
  pub small : d.beta.0 ≤ most_blocks
  pub tables : n ≡ table_count d.volume
  pub groups : n ≤ phi_size
  pub layout : d.layout ≡ 2

-- what the check of a descriptor needs: it is one of a sound chain, and there is a flag for each block of the card
pub record CheckReady (c : List ℕ) (d : Descriptor) (seen : List ℕ) : Type 0 where
  pub starts : List ℕ
  pub count : ℕ
  pub through : Through c starts count d
  pub flags : length c ≤ block_size * length seen

-- flags that are ready for a turn: they say which set blocks are in an opening or among the values named before in this turn, an opening has its own flag, and no other flag is above the turn
pub record Marks (ds : List Descriptor) (turn : ℕ) (seen before : List ℕ) : Type 0 where
  pub says : (v : ℕ) → v < length seen → (v ≡ 0 → ⊥) → is_flagged seen turn v ≡ ((is_descriptor ds v || is_table ds v) || among before v)
  pub opening : (v : ℕ) → v < length seen → (v ≡ 0 → ⊥) → (is_descriptor ds v || is_table ds v) ≡ true → get_or seen v 0 ≡ opening_flag
  pub other : (v : ℕ) → v < length seen → (v ≡ 0 → ⊥) → (is_descriptor ds v || is_table ds v) ≡ false → get_or seen v 0 ≤ turn
