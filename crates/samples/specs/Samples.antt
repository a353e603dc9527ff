-- How the cards and the values of the computed tables are written: a card block by block, a value by what it shows.
use Rattle.std.specs.Prelude.{List, [], ◌∷◌, ◌++◌, ℕ, ◌*◌, ◌-◌, replicate, set}
use Rattle.blocks.specs.Bytes.{le32, zero_block}
use Rattle.blocks.specs.Name.{padded, no_name}
use Rattle.blocks.specs.Descriptor.{physical, tail_size, descriptor_block}
use Rattle.blocks.specs.declared.descriptor.Descriptor.{Descriptor}
use Rattle.calls.specs.Call.{Active, Snapshot, Call, Read, Visit, answer}
use Rattle.claims.specs.Bench.{Only, Beta, Bytes, Named, Value, ones, fs, mon, tue, lent}

-- a descriptor by its numbers
abbrev pub descriptor : ℕ → ℕ → ℕ → ℕ → ℕ → List ℕ → Descriptor
descriptor layout volume alpha beta next name = record { layout = layout; volume = volume; alpha = physical alpha; beta = physical beta; next = physical next; name = name }

-- its block, with bytes 40 to 511 zero; with byte 40 + i set to 1; with the first two entries of Phi
abbrev pub bare : Descriptor → List ℕ
bare d = descriptor_block d (replicate tail_size 0)

abbrev pub with_tail_byte : ℕ → Descriptor → List ℕ
with_tail_byte i d = descriptor_block d (set (replicate tail_size 0) i 1)

-- its block of a revision, with zeros after it
abbrev pub of_revision : ℕ → Descriptor → List ℕ
of_revision revision d = descriptor_block d (le32 revision ++ replicate 468 0)

abbrev pub with_phi : Descriptor → ℕ → ℕ → List ℕ
with_phi d a b = descriptor_block d (replicate 24 0 ++ le32 a ++ le32 b ++ replicate 440 0)

-- a table block with its first two entries; with its last one
abbrev pub table : ℕ → ℕ → List ℕ
table a b = le32 a ++ le32 b ++ replicate 504 0

abbrev pub table_end : ℕ → List ℕ
table_end a = replicate 508 0 ++ le32 a

-- a descriptor block byte by byte: its first four bytes, layout 2, L 300, alpha 0, beta, next, the name fs, zeros, Phi's first entry
abbrev pub literal : List ℕ → ℕ → ℕ → ℕ → List ℕ
literal mark beta next m =
    mark
    ++ (2 ∷ 0 ∷ 0 ∷ 0 ∷ 44 ∷ 1 ∷ 0 ∷ 0 ∷ 0 ∷ 0 ∷ 0 ∷ 0 ∷ beta ∷ 0 ∷ 0 ∷ 0 ∷ next ∷ 0 ∷ 0 ∷ 0 ∷ 102 ∷ 115 ∷ [])
    ++ replicate 38 0
    ++ (m ∷ replicate 447 0)

-- the bytes `snap`; a name of one byte; fifteen letters `a` and one more byte; another name as text
abbrev pub snap_text : List ℕ
snap_text = 115 ∷ 110 ∷ 97 ∷ 112 ∷ []

abbrev pub one_byte : ℕ → List ℕ
one_byte b = b ∷ replicate 15 0

abbrev pub long : ℕ → List ℕ
long b = set (replicate 16 97) 15 b

abbrev pub wed : List ℕ
wed = padded (119 ∷ 101 ∷ 100 ∷ [])

-- two blocks: a descriptor of a revision, then zeros
abbrev pub revised : ℕ → List ℕ
revised revision = of_revision revision (descriptor 2 1 0 2 0 fs) ++ zero_block

-- the snapshot mon and the active store, each with its revision: layout 2, two blocks, beta = N; layout 1, four blocks, beta = N
abbrev pub pair_of : ℕ → ℕ → List ℕ
pair_of a b = of_revision a (descriptor 2 1 0 1 1 mon) ++ of_revision b (descriptor 2 1 1 2 0 fs)

abbrev pub pair_of1 : ℕ → ℕ → List ℕ
pair_of1 a b = of_revision a (descriptor 1 1 0 2 2 mon) ++ zero_block ++ of_revision b (descriptor 1 1 2 4 0 fs) ++ zero_block

-- four blocks of a revision, full: the snapshots mon, tue and wed, then the active store
abbrev pub visits : ℕ → List ℕ
visits revision =
    of_revision revision (descriptor 2 1 0 1 1 mon)
    ++ of_revision revision (descriptor 2 1 1 2 2 tue)
    ++ of_revision revision (descriptor 2 1 2 3 3 wed)
    ++ of_revision revision (descriptor 2 1 3 4 0 fs)

-- eight blocks, the same in layout 1
abbrev pub visits1 : ℕ → List ℕ
visits1 revision =
    of_revision revision (descriptor 1 1 0 2 2 mon) ++ zero_block
    ++ of_revision revision (descriptor 1 1 2 4 4 tue) ++ zero_block
    ++ of_revision revision (descriptor 1 1 4 6 6 wed) ++ zero_block
    ++ of_revision revision (descriptor 1 1 6 8 0 fs) ++ zero_block

-- one block: a descriptor that would be sound
abbrev pub one_block : List ℕ
one_block = bare (descriptor 2 1 0 1 0 fs)

-- two blocks: a descriptor with its layout, L and name, then zeros; layout 2, L 1: a descriptor with its beta and next, then zeros
abbrev pub first : ℕ → ℕ → List ℕ → List ℕ
first layout volume name = bare (descriptor layout volume 0 2 0 name) ++ zero_block

abbrev pub one : ℕ → ℕ → List ℕ
one beta next = bare (descriptor 2 1 0 beta next fs) ++ zero_block

-- three blocks: the snapshot mon, then a descriptor with its layout, L, alpha, beta and name, then zeros
abbrev pub two : ℕ → ℕ → ℕ → ℕ → List ℕ → List ℕ
two layout volume alpha beta name = bare (descriptor 2 1 0 1 1 mon) ++ bare (descriptor layout volume alpha beta 0 name) ++ zero_block

-- three blocks: a snapshot and the active store with their names, then zeros
abbrev pub two_names : List ℕ → List ℕ → List ℕ
two_names a b = bare (descriptor 2 1 0 1 1 a) ++ bare (descriptor 2 1 1 3 0 b) ++ zero_block

-- the snapshot mon, then a descriptor with byte 40 + i set: layout 1, four blocks; layout 2, three blocks
abbrev pub second1 : ℕ → List ℕ
second1 i = bare (descriptor 1 1 0 2 2 mon) ++ zero_block ++ with_tail_byte i (descriptor 1 1 2 4 0 fs) ++ zero_block

abbrev pub second2 : ℕ → List ℕ
second2 i = bare (descriptor 2 1 0 1 1 mon) ++ with_tail_byte i (descriptor 2 1 1 3 0 fs) ++ zero_block

-- three blocks: a descriptor with its beta and next, and one in block 1 or in block 2
abbrev pub apart1 : ℕ → ℕ → List ℕ
apart1 beta next = bare (descriptor 2 1 0 beta next mon) ++ bare (descriptor 2 1 1 3 0 fs) ++ zero_block

abbrev pub apart2 : ℕ → ℕ → List ℕ
apart2 beta next = bare (descriptor 2 1 0 beta next mon) ++ zero_block ++ bare (descriptor 2 1 2 3 0 fs)

-- three blocks: the snapshots mon and tue, then a descriptor with its name
abbrev pub three : List ℕ → List ℕ
three name = bare (descriptor 2 1 0 1 1 mon) ++ bare (descriptor 2 1 1 2 2 tue) ++ bare (descriptor 2 1 2 3 0 name)

-- four blocks: the snapshot mon, a descriptor in block 1 with its beta and next, one in block 2, one in block 3
abbrev pub later : ℕ → ℕ → List ℕ
later beta next = bare (descriptor 2 1 0 1 1 mon) ++ bare (descriptor 2 1 1 beta next tue) ++ bare (descriptor 2 1 2 4 0 wed) ++ bare (descriptor 2 1 3 4 0 fs)

-- layout 1: a descriptor with its L and a beta after its n table blocks, in as many blocks
abbrev pub tabled : ℕ → ℕ → List ℕ
tabled volume beta = bare (descriptor 1 volume 0 beta 0 fs) ++ replicate (512 * (beta - 1)) 0

-- four blocks, layout 2: Phi's first entry, then a table block with two entries, a block of ones, a block of nines
abbrev pub four : ℕ → ℕ → ℕ → ℕ → ℕ → List ℕ
four volume beta m p q = with_phi (descriptor 2 volume 0 beta 0 fs) m 0 ++ table p q ++ ones ++ lent

-- four blocks, layout 2: the snapshot mon, the active store with Phi's first entry, a table block with its first entry, a block of nines
abbrev pub snapped : ℕ → ℕ → List ℕ
snapped m p = bare (descriptor 2 1 0 1 1 mon) ++ with_phi (descriptor 2 1 1 4 0 fs) m 0 ++ table p 0 ++ lent

-- after the snapshot mon, the active store with its L and its table's first two entries: layout 1, six blocks; layout 2, four blocks, with the first two
-- entries of Phi
abbrev pub after1 : ℕ → ℕ → ℕ → List ℕ
after1 volume p q = bare (descriptor 1 volume 0 2 2 mon) ++ zero_block ++ bare (descriptor 1 volume 2 6 0 fs) ++ table p q ++ ones ++ lent

abbrev pub after2 : ℕ → ℕ → ℕ → ℕ → ℕ → List ℕ
after2 volume m n p q = bare (descriptor 2 volume 0 1 1 mon) ++ with_phi (descriptor 2 volume 1 4 0 fs) m n ++ table p q ++ lent

-- four blocks, layout 2: the snapshot mon, a table block below the active alpha, the active store from block 2 on, a block of ones
abbrev pub old : ℕ → List ℕ
old p = bare (descriptor 2 1 0 2 2 mon) ++ table p 0 ++ with_phi (descriptor 2 1 2 4 0 fs) 1 0 ++ ones

-- three blocks, layout 1, L 1: the table block with its first entry, a block of ones
abbrev pub plain : ℕ → List ℕ
plain p = bare (descriptor 1 1 0 3 0 fs) ++ table p 0 ++ ones

-- four blocks, layout 1, L 1: the active store with its beta and an empty table
abbrev pub empty : ℕ → List ℕ
empty beta = bare (descriptor 1 1 0 beta 0 fs) ++ zero_block ++ ones ++ ones

-- six blocks, layout 1, L 1: the snapshot mon with its table's first entry and a block of ones, the active store from block 3 on with its table's and a
-- block of nines
abbrev pub pair : ℕ → ℕ → List ℕ
pair p q = bare (descriptor 1 1 0 3 3 mon) ++ table p 0 ++ ones ++ bare (descriptor 1 1 3 6 0 fs) ++ table q 0 ++ lent

-- seven blocks, layout 2, L 1: the snapshots mon and tue, the snapshot wed in block 2 with Phi's first entry, a table block with its first entry and a
-- block of ones, the active store in block 5 with the same Phi and a block of nines
abbrev pub three_snapshots : ℕ → ℕ → List ℕ
three_snapshots m p =
    bare (descriptor 2 1 0 1 1 mon)
    ++ bare (descriptor 2 1 1 2 2 tue)
    ++ with_phi (descriptor 2 1 2 5 5 wed) m 0
    ++ table p 0
    ++ ones
    ++ with_phi (descriptor 2 1 5 7 0 fs) m 0
    ++ lent

-- four blocks, two table blocks, one with its first entry and one with its first two, a block of ones: layout 1; layout 2 with the first two entries of
-- Phi
abbrev pub tables1 : ℕ → ℕ → ℕ → ℕ → List ℕ
tables1 volume p q r = bare (descriptor 1 volume 0 4 0 fs) ++ table p 0 ++ table q r ++ ones

abbrev pub tables2 : ℕ → ℕ → ℕ → ℕ → ℕ → ℕ → List ℕ
tables2 volume m n p q r = with_phi (descriptor 2 volume 0 4 0 fs) m n ++ table p 0 ++ table q r ++ ones

-- five blocks, L 257, three table blocks with their first entries, a block of ones: layout 1; layout 2 with the first three entries of Phi
abbrev pub three1 : ℕ → ℕ → ℕ → List ℕ
three1 p q r = bare (descriptor 1 257 0 5 0 fs) ++ table p 0 ++ table q 0 ++ table r 0 ++ ones

abbrev pub three2 : ℕ → ℕ → ℕ → ℕ → ℕ → ℕ → List ℕ
three2 a b e p q r =
    descriptor_block (descriptor 2 257 0 5 0 fs) (replicate 24 0 ++ le32 a ++ le32 b ++ le32 e ++ replicate 436 0)
    ++ table p 0
    ++ table q 0
    ++ table r 0
    ++ ones

-- four blocks, layout 2, L 1: the snapshot mon with an empty table block, the active store from block 2 on; its data entry names the snapshot's table
-- block
abbrev pub named4 : List ℕ
named4 = with_phi (descriptor 2 1 0 2 2 mon) 1 0 ++ table 0 0 ++ with_phi (descriptor 2 1 2 4 0 fs) 3 0 ++ table 1 0

-- four blocks, layout 2, L 1: the snapshot mon with its table block and a block of ones, the active store in block 3 with the same Phi
abbrev pub shared4 : List ℕ
shared4 = with_phi (descriptor 2 1 0 3 3 mon) 1 0 ++ table 2 0 ++ ones ++ with_phi (descriptor 2 1 3 4 0 fs) 1 0

-- six blocks, layout 2, L 1: the snapshots mon and tue, the active store in block 4; its table block stands in the first region, its data block in the
-- second
abbrev pub region6 : List ℕ
region6 =
    bare (descriptor 2 1 0 2 2 mon)
    ++ table 3 0
    ++ bare (descriptor 2 1 2 4 4 tue)
    ++ ones
    ++ with_phi (descriptor 2 1 4 5 0 fs) 1 0
    ++ lent

-- three blocks, a table block and a block of ones: layout 1, the last entry of the table; layout 2, the last entry of Phi, and the first of the table
abbrev pub last_entry : ℕ → List ℕ
last_entry volume = bare (descriptor 1 volume 0 3 0 fs) ++ table_end 2 ++ ones

abbrev pub last_phi : ℕ → List ℕ
last_phi volume = with_tail_byte 468 (descriptor 2 volume 0 3 0 fs) ++ table 2 0 ++ ones

-- a descriptor's block with its revision and the first entry of Phi
abbrev pub phi_of : ℕ → Descriptor → ℕ → List ℕ
phi_of revision d m = descriptor_block d (le32 revision ++ replicate 20 0 ++ le32 m ++ replicate 444 0)

-- eight blocks of a revision, layout 2, L 2: the snapshot mon from block 0 on, with its table block 2, which has two entries, between two data blocks; the active store
-- from block 4 on, with the first entry of its Phi, a table block 5 with two entries and two data blocks
abbrev pub dated : ℕ → ℕ → ℕ → ℕ → ℕ → ℕ → List ℕ
dated revision a b m p q =
    phi_of revision (descriptor 2 2 0 4 4 mon) 2 ++ ones ++ table a b ++ ones
    ++ phi_of revision (descriptor 2 2 4 8 0 fs) m ++ table p q ++ lent ++ lent

-- the same in layout 1, with table block 1 between descriptor and data, and table block 5 after the descriptor in block 4
abbrev pub dated1 : ℕ → ℕ → ℕ → List ℕ
dated1 revision p q =
    of_revision revision (descriptor 1 2 0 4 4 mon) ++ table 2 3 ++ ones ++ ones
    ++ of_revision revision (descriptor 1 2 4 8 0 fs) ++ table p q ++ lent ++ lent

-- a visit of the active store; of a snapshot; a value that shows the name given; a refusal, which gives none
abbrev pub visiting : ℕ → Call
visiting l = Visit Active no_name l

abbrev pub visiting_from : List ℕ → ℕ → Call
visiting_from name l = Visit Snapshot name l

abbrev pub naming : List ℕ → Call → List ℕ → Value
naming card call name = record { card = card; call = call; answer = answer 0 0; shown = Named name }

abbrev pub naming_none : List ℕ → Call → ℕ → ℕ → Value
naming_none card call number place = record { card = card; call = call; answer = answer number place; shown = Named no_name }

abbrev pub reading : ℕ → Call
reading l = Read Active no_name l lent

abbrev pub reading_from : List ℕ → ℕ → Call
reading_from name l = Read Snapshot name l lent

-- a value that shows nothing but number and place
abbrev pub only : List ℕ → Call → ℕ → ℕ → Value
only card call number place = record { card = card; call = call; answer = answer number place; shown = Only }

abbrev pub showing_beta : List ℕ → Call → ℕ → Value
showing_beta card call beta = record { card = card; call = call; answer = answer 0 0; shown = Beta beta }

abbrev pub showing_block : List ℕ → Call → List ℕ → Value
showing_block card call block = record { card = card; call = call; answer = answer 0 0; shown = Bytes block }

-- a refusal, and the block that the call leaves with the caller
abbrev pub refusing : List ℕ → Call → ℕ → ℕ → List ℕ → Value
refusing card call number place block = record { card = card; call = call; answer = answer number place; shown = Bytes block }
