-- A descriptor: its bytes both ways, n and c, its changes, and the blocks that a format leaves.
use Rattle.std.specs.Prelude.{Bool, true, ◌&&◌, ◌||◌, List, [], ◌∷◌, ◌++◌, ℕ, zero, suc, ◌+◌, ◌*◌, ◌-◌, ◌/◌, replicate, drop, eqb}
use Rattle.blocks.specs.Pick.{pick, all_zero}
use Rattle.blocks.specs.Bytes.{block_size, zero_block, part, u32_at, le32, block_at, Store, store}
use Rattle.blocks.specs.Name.{name_size, no_name}
use Rattle.blocks.specs.declared.numbers.Physical.{Physical}
use Rattle.blocks.specs.declared.descriptor.Descriptor.{Descriptor}
use Rattle.blocks.specs.declared.descriptor.Format.{Format}

abbrev pub physical : ℕ → Physical
physical p = record { 0 = p }

-- entries in a table block; entries in Phi; the most logical blocks of a volume
abbrev pub table_size : ℕ
table_size = 128

abbrev pub phi_size : ℕ
phi_size = 112

abbrev pub most_volume : ℕ
most_volume = 14336

-- bytes 0 to 3 of a descriptor block: the ASCII bytes `snap`
abbrev pub mark : List ℕ
mark = 115 ∷ 110 ∷ 97 ∷ 112 ∷ []

-- the first byte of the name, the first after those of the record, and the first of Phi
abbrev pub name_start : ℕ
name_start = 24

abbrev pub head_size : ℕ
head_size = 40

abbrev pub phi_start : ℕ
phi_start = 64

-- the first byte of the revision, and its bytes
abbrev pub revision_start : ℕ
revision_start = 40

abbrev pub revision_size : ℕ
revision_size = 4

-- the bytes after those of the record; of these the bytes before Phi, and those of Phi
abbrev pub tail_size : ℕ
tail_size = 472

abbrev pub reserved_size : ℕ
reserved_size = 24

abbrev pub phi_bytes : ℕ
phi_bytes = 448

-- n: L divided by 128, rounded up
unfoldable pub table_count : ℕ → ℕ
table_count volume = (volume + (table_size - 1)) / table_size

-- c, the opening cost: 1 + n in layout 1, 1 in layout 2
unfoldable pub cost : ℕ → ℕ → ℕ
cost layout volume = pick (eqb layout 1) (1 + table_count volume) 1

abbrev pub cost_of : Descriptor → ℕ
cost_of d = cost d.layout d.volume

-- the descriptor whose bytes are those of block p
unfoldable pub descriptor_at : List ℕ → ℕ → Descriptor
descriptor_at c p =
    record {
      layout = u32_at c (block_size * p + 4);
      volume = u32_at c (block_size * p + 8);
      alpha = physical (u32_at c (block_size * p + 12));
      beta = physical (u32_at c (block_size * p + 16));
      next = physical (u32_at c (block_size * p + 20));
      name = part c (block_size * p + name_start) name_size;
    }

-- the revision of the descriptor in block p: bytes 40 to 43; that of a card is block 0's
unfoldable pub revision_at : List ℕ → ℕ → ℕ
revision_at c p = u32_at c (block_size * p + revision_start)

abbrev pub revision_of : List ℕ → ℕ
revision_of c = revision_at c 0

-- bytes 0 to 39 of its block
unfoldable pub head_bytes : Descriptor → List ℕ
head_bytes d = mark ++ le32 d.layout ++ le32 d.volume ++ le32 d.alpha.0 ++ le32 d.beta.0 ++ le32 d.next.0 ++ d.name

-- bytes 40 to 511 of block p, which travel as they are
abbrev pub tail_at : List ℕ → ℕ → List ℕ
tail_at c p = part c (block_size * p + head_size) tail_size

-- the whole block of a descriptor, with bytes 40 to 511 given
unfoldable pub descriptor_block : Descriptor → List ℕ → List ℕ
descriptor_block d tail = head_bytes d ++ tail

-- the descriptor under another name
abbrev pub renamed_of : Descriptor → List ℕ → Descriptor
renamed_of d n = record { layout = d.layout; volume = d.volume; alpha = d.alpha; beta = d.beta; next = d.next; name = n }

-- the descriptor with another next
abbrev pub linked_of : Descriptor → Physical → Descriptor
linked_of d p = record { layout = d.layout; volume = d.volume; alpha = d.alpha; beta = d.beta; next = p; name = d.name }

-- the descriptor with k more blocks in its region
abbrev pub extended_of : Descriptor → ℕ → Descriptor
extended_of d k = record { layout = d.layout; volume = d.volume; alpha = d.alpha; beta = physical (d.beta.0 + k); next = d.next; name = d.name }

-- the descriptor of a region opened at its beta: alpha' = beta, beta' = alpha' + c
abbrev pub reopened_of : Descriptor → Descriptor
reopened_of d = record { layout = d.layout; volume = d.volume; alpha = d.beta; beta = physical (d.beta.0 + cost_of d); next = d.next; name = d.name }

-- a revision: 0 or 1
unfoldable pub revision_ok : ℕ → Bool
revision_ok revision = eqb revision 0 || eqb revision 1

-- bytes 40 to 63 of a descriptor of a card: a revision, which is the card's, then zeros
unfoldable pub reserved_ok : ℕ → List ℕ → Bool
reserved_ok revision bytes = revision_ok (u32_at bytes 0) && eqb (u32_at bytes 0) revision && all_zero (drop revision_size bytes)

-- bytes 64 to 511: zero in layout 1; in layout 2 Phi, of which soundness asks nothing
unfoldable pub phi_ok : ℕ → List ℕ → Bool
phi_ok layout bytes = pick (eqb layout 1) (all_zero bytes) true

-- layout, L, revision and name as a format takes them; and the same of revision 0
abbrev pub format_of : ℕ → ℕ → ℕ → List ℕ → Format
format_of layout volume revision name = record { layout = layout; volume = volume; revision = revision; name = name }

abbrev pub as_format : ℕ → ℕ → List ℕ → Format
as_format layout volume name = format_of layout volume 0 name

-- c of a format
abbrev pub cost_in : Format → ℕ
cost_in format = cost format.layout format.volume

-- the descriptor that a format makes
abbrev pub first_of : Format → Descriptor
first_of format =
    record { layout = format.layout; volume = format.volume; alpha = physical 0; beta = physical (cost_in format); next = physical 0; name = format.name }

-- bytes 40 to 511 of its block: the revision, then zeros
unfoldable pub first_tail : ℕ → List ℕ
first_tail revision = le32 revision ++ replicate (tail_size - revision_size) 0

-- what stands for a descriptor where there is none
abbrev pub no_descriptor : Descriptor
no_descriptor = first_of (as_format 0 0 no_name)

-- stores of zeros to the n blocks from block p, rising
unfoldable pub clearing : ℕ → ℕ → List Store
clearing p zero = []
clearing p (suc n) = store p zero_block ∷ clearing (suc p) n

-- stores of copies of the n blocks from block from to those from block p, rising
unfoldable pub copying : List ℕ → ℕ → ℕ → ℕ → List Store
copying c from p zero = []
copying c from p (suc n) = store p (block_at c from) ∷ copying c (suc from) (suc p) n

-- the stores that open a region at the beta of d, and those after them: copies of the table blocks of d, rising, then the descriptor of the region, which has
-- bytes 40 to 511 of d's block
abbrev pub reopening : List ℕ → Descriptor → List Store → List Store
reopening c d rest =
    copying c (d.alpha.0 + 1) (d.beta.0 + 1) (cost_of d - 1) ++ (store d.beta.0 (descriptor_block (reopened_of d) (tail_at c d.alpha.0)) ∷ rest)

-- the stores of a format: the c - 1 table blocks after the descriptor, rising, then the first descriptor with its revision and a cleared Phi
unfoldable pub opening : Format → List Store
opening format = clearing 1 (cost_in format - 1) ++ (store 0 (descriptor_block (first_of format) (first_tail format.revision)) ∷ [])
