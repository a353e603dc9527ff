-- Finding the entry of a logical block in both layouts, need, and setting an entry.
use Rattle.std.specs.Prelude.{Bool, false, not, ◌&&◌, ◌||◌, List, [], ◌∷◌, ℕ, ◌+◌, ◌*◌, ◌-◌, ◌/◌, ◌%◌, eqb, ltb, leb}
use Rattle.blocks.specs.Pick.{pick, same}
use Rattle.blocks.specs.Bytes.{block_size, u32_at, le32, splice, block_at, zero_block, Store, store}
use Rattle.blocks.specs.Descriptor.{physical, table_size, phi_start, head_size, extended_of, tail_at, descriptor_block}
use Rattle.blocks.specs.declared.descriptor.Descriptor.{Descriptor}
use Rattle.entries.specs.InPlace.{is_in_place, owner_index}
use Rattle.entries.specs.Found.{Found, Misplaced, Entry, Located}

-- entry j of table block m
unfoldable pub entry_at : List ℕ → ℕ → ℕ → ℕ
entry_at c m j = u32_at c (block_size * m + 4 * j)

-- entry i of Phi
unfoldable pub phi_at : List ℕ → Descriptor → ℕ → ℕ
phi_at c d i = u32_at c (block_size * d.alpha.0 + phi_start + 4 * i)

-- the table block of group i of 128 logical blocks: in layout 1 the i-th block after the descriptor, in layout 2 as Phi names it
unfoldable pub table_of : List ℕ → Descriptor → ℕ → ℕ
table_of c d i = pick (eqb d.layout 1) (d.alpha.0 + 1 + i) (phi_at c d i)

-- an entry that stands in table block m
unfoldable pub entry_found : List Descriptor → Descriptor → ℕ → ℕ → Found
entry_found ds d m p = pick (is_in_place ds d p) (Entry (physical m) (physical p)) (Misplaced (physical m))

-- the entry of logical block l through the descriptor d: Phi's entry first, then the table's; a nil one on the way ends the search
unfoldable pub find : List ℕ → List Descriptor → Descriptor → ℕ → Found
find c ds d l =
    let m = table_of c d (l / table_size) in
    let through = entry_found ds d m (entry_at c m (l % table_size)) in
    pick (eqb d.layout 1)
    through
    (pick (is_in_place ds d m)
    (pick (eqb m 0) (Entry (physical 0) (physical 0)) through)
    (Misplaced d.alpha))

-- the block that was found, nil where the entry is nil or not in place
unfoldable pub found_block : Found → ℕ
found_block (Misplaced h) = 0
found_block (Entry m p) = p.0

-- what was found and, beside it, the descriptor whose region contains the block, by its index in the chain: 0 where there is no block
unfoldable pub located_in : List Descriptor → Found → Located
located_in ds found = record { found = found; owner = pick (eqb (found_block found) 0) 0 (owner_index ds (found_block found)) }

-- finding an entry (02, W2): "beside the block, the descriptor whose region from alpha up to beta contains it"
unfoldable pub locate : List ℕ → List Descriptor → Descriptor → ℕ → Located
locate c ds d l = located_in ds (find c ds d l)

-- whether an entry that was found stands in a table block that is nil or below alpha, so that a write makes a new one
unfoldable pub table_is_new : ℕ → ℕ → Bool
table_is_new alpha m = eqb m 0 || ltb m alpha

-- the blocks that a write takes: none where the entry is set and at or above alpha; otherwise the data block, and the table block where that is new
unfoldable pub need : ℕ → Found → ℕ
need alpha (Misplaced h) = 0
need alpha (Entry m p) = pick (not (eqb p.0 0) && leb alpha p.0) 0 (pick (table_is_new alpha m.0) 2 1)

-- the same by the owner of the block, given that the active descriptor is number k of the chain: none where the entry is set and that region contains it; the
-- table block is compared with alpha (the law `need_owner`)
unfoldable pub need_by : ℕ → ℕ → Found → ℕ → ℕ
need_by k alpha (Misplaced h) owner = 0
need_by k alpha (Entry m p) owner = pick (not (eqb p.0 0) && eqb owner k) 0 (pick (table_is_new alpha m.0) 2 1)

-- Blank pages (02, W4). No call goes by these yet: what follows up to page_stores is what the request's calls are to go by.
-- whether what was found names no block: the entry is nil, or the table block that would hold it is
unfoldable pub names_none : Found → Bool
names_none (Misplaced h) = false
names_none (Entry m p) = eqb p.0 0

-- a blank page: "512 zeros to a block whose entry is nil, or whose table block is nil"
unfoldable pub is_blank : Found → List ℕ → Bool
is_blank found bytes = names_none found && same bytes zero_block

-- the blocks that a write of these bytes is to take: none where they are a blank page
unfoldable pub page_need : ℕ → Found → List ℕ → ℕ
page_need alpha found bytes = pick (is_blank found bytes) 0 (need alpha found)

-- a table block with entry j set to q
unfoldable pub table_with : List ℕ → ℕ → ℕ → List ℕ
table_with table j q = splice table (4 * j) (le32 q)

-- bytes 40 to 511 of a descriptor block with entry i of Phi set to m
unfoldable pub tail_with : List ℕ → ℕ → ℕ → List ℕ
tail_with tail i m = splice tail (phi_start - head_size + 4 * i) (le32 m)

-- the stores that make entry l of the descriptor d name the block at beta, in the table block m of its region: the descriptor, then the table block
unfoldable pub set_in_table : List ℕ → Descriptor → ℕ → ℕ → List Store
set_in_table c d m l =
    store d.alpha.0 (descriptor_block (extended_of d 1) (tail_at c d.alpha.0))
    ∷ store m (table_with (block_at c m) (l % table_size) d.beta.0)
    ∷ []

-- the stores that make entry l name the block after beta, in a new table block at beta, all nil or a copy of m: the table block, then the descriptor
unfoldable pub set_in_new_table : List ℕ → Descriptor → ℕ → ℕ → List Store
set_in_new_table c d m l =
    store d.beta.0 (table_with (pick (eqb m 0) zero_block (block_at c m)) (l % table_size) (d.beta.0 + 1))
    ∷ store d.alpha.0 (descriptor_block (extended_of d 2) (tail_with (tail_at c d.alpha.0) (l / table_size) d.beta.0))
    ∷ []

-- the stores of a write of a block's bytes to logical block l, through the entry found: data first
unfoldable pub writing : List ℕ → Descriptor → Found → ℕ → List ℕ → List Store
writing c d (Misplaced h) l bytes = []
writing c d (Entry m p) l bytes =
    pick (eqb (need d.alpha.0 (Entry m p)) 0)
    (store p.0 bytes ∷ [])
    (pick (table_is_new d.alpha.0 m.0)
    (store (d.beta.0 + 1) bytes ∷ set_in_new_table c d m.0 l)
    (store d.beta.0 bytes ∷ set_in_table c d m.0 l))

-- the stores that such a write is to make: none where its bytes are a blank page
unfoldable pub page_stores : List ℕ → Descriptor → Found → ℕ → List ℕ → List Store
page_stores c d found l bytes = pick (is_blank found bytes) [] (writing c d found l bytes)
