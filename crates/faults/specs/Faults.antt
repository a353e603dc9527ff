-- Values at the edges of the rules on entries: which blocks an entry may name, what is followed, where check finds its first fault, and cards that pass. The
-- cards are written out block by block, but for one that a write leaves.
use Rattle.std.specs.Prelude.{List, [], ◌∷◌, ◌++◌}
use Rattle.blocks.specs.Bytes.{zero_block}
use Rattle.calls.specs.Call.{Write, Check}
use Rattle.calls.specs.Step.{step}
use Rattle.claims.specs.Bench.{Value, ones, fs, mon, tue, lent}
use Rattle.samples.specs.Samples.{descriptor, with_phi, table, wed, four, snapped, old, after1, after2, plain, pair, three_snapshots, tables1, tables2, three1, three2, named4, shared4, region6, last_entry, last_phi, reading, reading_from, only, showing_beta, showing_block}

unfoldable pub entry_edges : List Value
entry_edges =
    -- the entry is beta - 1; Phi's entry is beta (a table's that is beta stands in `Edges`)
    showing_block (four 1 3 1 2 0) (reading 0) ones
    ∷ only (four 1 3 3 2 0) (reading 0) 10 0
    -- the entry is beta - 1 in its lowest byte, and another byte is set
    ∷ only (four 1 3 1 258 0) (reading 0) 10 1
    ∷ only (four 1 3 1 65538 0) (reading 0) 10 1
    ∷ only (four 1 3 1 16777218 0) (reading 0) 10 1
    -- the entry names its own table block: in place, but named twice
    ∷ showing_block (four 1 3 1 1 0) (reading 0) (table 1 0)
    ∷ only (four 1 3 1 1 0) Check 10 1
    -- two entries name one block
    ∷ only (four 2 3 1 2 2) Check 10 1
    -- an entry past L, and one of Phi past n: no read follows them
    ∷ showing_block (four 1 3 1 0 2) (reading 0) zero_block
    ∷ only (four 1 3 1 0 2) Check 10 1
    ∷ showing_block (with_phi (descriptor 2 1 0 2 0 fs) 0 1 ++ zero_block) (reading 0) zero_block
    ∷ only (with_phi (descriptor 2 1 0 2 0 fs) 0 1 ++ zero_block) Check 10 0
    -- Phi's entry names its own descriptor, whose next, as an entry of logical block 5, would be nil; a table's entry names it; a layout 1 entry names the
    -- table block
    ∷ only (after2 6 1 0 3 0) (reading 5) 10 1
    ∷ only (snapped 2 1) (reading 0) 10 2
    ∷ only (plain 1) (reading 0) 10 1
    -- a data entry above alpha in a table block below it: charged to the table block by check, and overwritten by a write
    ∷ only (old 3) Check 10 1
    ∷ showing_beta (old 3) (Write 0 lent) 4
    ∷ showing_block (step (Write 0 lent) (old 3)).card (reading 0) lent
    ∷ []

unfoldable pub opening_edges : List Value
opening_edges =
    -- layout 1: the active entry names its own data block, the snapshot's, the snapshot's table block, the active descriptor, the active table block
    showing_block (pair 2 5) (reading 0) lent
    ∷ showing_block (pair 2 2) (reading 0) ones
    ∷ only (pair 2 1) (reading 0) 10 4
    ∷ only (pair 2 3) (reading 0) 10 4
    ∷ only (pair 2 4) (reading 0) 10 4
    -- the same with writes, where there is no room
    ∷ showing_beta (pair 2 5) (Write 0 ones) 6
    ∷ only (pair 2 2) (Write 0 ones) 11 0
    ∷ only (pair 2 1) (Write 0 ones) 10 4
    ∷ only (pair 2 3) (Write 0 ones) 10 4
    ∷ only (pair 2 4) (Write 0 ones) 10 4
    -- the snapshot's entry names its data block, its table block, the descriptor after it, a data block after that
    ∷ showing_block (pair 2 0) (reading_from mon 0) ones
    ∷ only (pair 1 0) (reading_from mon 0) 10 1
    ∷ only (pair 3 0) (reading_from mon 0) 10 1
    ∷ only (pair 5 0) (reading_from mon 0) 10 1
    -- layout 2, a snapshot's entry: it names its data block, an earlier descriptor, its own, the later one, a data block after that; Phi's entry names an
    -- earlier descriptor
    ∷ showing_block (three_snapshots 3 4) (reading_from wed 0) ones
    ∷ only (three_snapshots 3 1) (reading_from wed 0) 10 3
    ∷ only (three_snapshots 3 2) (reading_from wed 0) 10 3
    ∷ only (three_snapshots 3 5) (reading_from wed 0) 10 3
    ∷ only (three_snapshots 3 6) (reading_from wed 0) 10 3
    ∷ only (three_snapshots 1 0) (reading_from wed 0) 10 2
    -- the same entries through the active descriptor
    ∷ showing_block (three_snapshots 3 4) (reading 0) ones
    ∷ only (three_snapshots 3 1) (reading 0) 10 3
    ∷ only (three_snapshots 3 2) (reading 0) 10 3
    ∷ only (three_snapshots 3 5) (reading 0) 10 3
    ∷ showing_block (three_snapshots 3 6) (reading 0) lent
    ∷ only (three_snapshots 1 0) (reading 0) 10 5
    ∷ only (three_snapshots 2 0) (reading 0) 10 5
    -- through a snapshot whose Phi is nil
    ∷ showing_block (three_snapshots 3 4) (reading_from tue 0) zero_block
    ∷ []

unfoldable pub table_edges : List Value
table_edges =
    -- the entry of logical block 128 stands first in the second table block, in both layouts
    showing_block (tables1 129 0 3 0) (reading 128) ones
    ∷ showing_block (tables1 129 0 3 0) (reading 0) zero_block
    ∷ showing_block (tables2 129 1 2 0 3 0) (reading 128) ones
    ∷ showing_block (tables2 129 1 2 0 3 0) (reading 0) zero_block
    -- Phi names the later block first, so that it is the table of logical blocks 0 to 127; Phi's first entry is nil
    ∷ showing_block (tables2 129 2 1 0 0 3) (reading 1) ones
    ∷ showing_block (tables2 129 0 2 0 3 0) (reading 0) zero_block
    ∷ showing_block (tables2 129 0 2 0 3 0) (reading 128) ones
    -- a layout 1 entry names the second table block, and one in it names the first
    ∷ only (tables1 129 2 0 0) (reading 0) 10 1
    ∷ only (tables1 129 0 1 0) (reading 128) 10 2
    -- the last entry of a table block, and the last of Phi
    ∷ showing_block (last_entry 128) (reading 127) ones
    ∷ showing_block (last_phi 14209) (reading 14208) ones
    ∷ []

unfoldable pub fault_edges : List Value
fault_edges =
    -- one block named in two tables, also where Phi names the later block first; a layout 1 entry past L in the second table
    only (tables1 129 3 3 0) Check 10 2
    ∷ only (tables2 129 2 1 3 3 0) Check 10 1
    ∷ only (tables1 129 0 0 3) Check 10 2
    -- a table block named by an entry, then by Phi; by Phi, then by an entry of another table; by Phi twice
    ∷ only (tables2 129 1 2 2 0 0) Check 10 0
    ∷ only (tables2 129 1 2 0 1 0) Check 10 2
    ∷ only (tables2 129 1 1 0 0 0) Check 10 0
    -- an entry past L in the second table, the first being nil; the last entry of a table block past L; the last of Phi past n
    ∷ only (tables2 129 0 2 0 0 3) Check 10 2
    ∷ only (last_entry 127) Check 10 1
    ∷ only (last_phi 14208) Check 10 0
    -- an entry that names the snapshot's table block; of two faults, that of the earlier descriptor
    ∷ only (pair 2 1) Check 10 4
    ∷ only (pair 3 1) Check 10 1
    -- an entry of Phi in a later descriptor: it names an earlier descriptor, and its own, whose mark would be an entry at fault in the same block
    ∷ only (three_snapshots 1 0) Check 10 2
    ∷ only (snapped 1 3) Check 10 1
    ∷ []

unfoldable pub walk_edges : List Value
walk_edges =
    -- of two faults: a table's entry before Phi's next one; the first table's before one past L in the second, in layout 1 and in layout 2
    only (with_phi (descriptor 2 1 0 3 0 fs) 1 2 ++ table 9 0 ++ ones) Check 10 1
    ∷ only (tables1 129 9 0 3) Check 10 1
    ∷ only (tables2 129 1 2 9 0 3) Check 10 1
    -- one named twice before one not in place; Phi's second entry not in place
    ∷ only (tables2 129 1 2 1 9 0) Check 10 1
    ∷ only (tables2 129 1 9 0 0 0) Check 10 0
    ∷ []

unfoldable pub later_edges : List Value
later_edges =
    -- under an alpha above 0, layout 1: two entries name one block; an entry past L
    only (after1 2 4 4) Check 10 3
    ∷ only (after1 1 0 4) Check 10 3
    -- layout 2: two entries name one block; an entry names its own table block; an entry past L; one of Phi past n; Phi names one block twice
    ∷ only (after2 2 2 0 3 3) Check 10 2
    ∷ only (after2 2 2 0 2 0) Check 10 2
    ∷ only (after2 1 2 0 0 3) Check 10 2
    ∷ only (after2 1 0 2 0 0) Check 10 1
    ∷ only (after2 129 2 2 0 0) Check 10 1
    ∷ []

unfoldable pub three_edges : List Value
three_edges =
    -- three tables: one block named in the second and in the third, in layout 1 and in layout 2; the third table block named in the second, then by Phi
    only (three1 0 4 4) Check 10 3
    ∷ only (three2 1 2 3 0 4 4) Check 10 3
    ∷ only (three2 1 2 3 0 3 0) Check 10 0
    ∷ []

-- cards that pass check
unfoldable pub passing_edges : List Value
passing_edges =
    -- a data entry names an older table block; a data block stands in a later region than its table block, both below alpha
    only named4 Check 0 0
    ∷ only region6 Check 0 0
    -- a table block shared with a snapshot; a data block shared with it; an entry nil where the snapshot's is set
    ∷ only shared4 Check 0 0
    ∷ only (pair 2 2) Check 0 0
    ∷ only (pair 2 0) Check 0 0
    -- an empty table block below alpha; Phi names the later block first
    ∷ only (old 0) Check 0 0
    ∷ only (tables2 129 2 1 0 0 3) Check 0 0
    -- after a snapshot, a table block and a data block of the active store's own region: layout 2, layout 1
    ∷ only (snapped 2 3) Check 0 0
    ∷ only (pair 2 5) Check 0 0
    ∷ []

unfoldable pub faults : List Value
faults =
    entry_edges
    ++ opening_edges
    ++ table_edges
    ++ fault_edges
    ++ walk_edges
    ++ later_edges
    ++ three_edges
    ++ passing_edges
