-- The six algorithms of the paper over numbered blocks, as 01 completes them: nil is tested before any comparison with alpha, and a new
-- table block is all nil or a copy. Sigma gives the bytes of each physical block; alpha is the block of a region's descriptor (the paper's SDB).
use Rattle.std.specs.Prelude.{not, ◌&&◌, List, ℕ, ◌+◌, ◌*◌, ◌-◌, ◌/◌, ◌%◌, eqb, ltb, leb}
use Rattle.blocks.specs.Pick.{pick}
use Rattle.blocks.specs.Bytes.{u32_at, le32, splice, zero_block}
use Rattle.blocks.specs.Descriptor.{table_size, phi_start}

abbrev pub Sigma : Type 0
Sigma = ℕ → List ℕ

-- Sigma with other bytes in block p
abbrev pub put : Sigma → ℕ → List ℕ → Sigma
put s p bytes = λ q. pick (eqb q p) bytes (s q)

-- Sigma with the number v at a byte of block p
abbrev pub put_number : Sigma → ℕ → ℕ → ℕ → Sigma
put_number s p at v = put s p (splice (s p) at (le32 v))

-- beta of the region at alpha, entry j of table block m, and entry i of Phi
abbrev pub beta_in : Sigma → ℕ → ℕ
beta_in s alpha = u32_at (s alpha) 16

abbrev pub entry_in : Sigma → ℕ → ℕ → ℕ
entry_in s m j = u32_at (s m) (4 * j)

abbrev pub phi_in : Sigma → ℕ → ℕ → ℕ
phi_in s alpha i = u32_at (s alpha) (phi_start + 4 * i)

-- Pi of layout 1: the block after the descriptor that holds the entry of l
abbrev pub table_in : ℕ → ℕ → ℕ
table_in alpha l = alpha + 1 + l / table_size

-- Algorithm 1: block read, layout 1
unfoldable pub algorithm1 : Sigma → ℕ → ℕ → List ℕ
algorithm1 s alpha l =
    let p = entry_in s (table_in alpha l) (l % table_size) in
    pick (eqb p 0) zero_block (s p)

-- Algorithm 2: block write, layout 1
unfoldable pub algorithm2 : Sigma → ℕ → ℕ → List ℕ → Sigma
algorithm2 s alpha l bytes =
    let k = table_in alpha l in
    let j = l % table_size in
    let p = entry_in s k j in
    let beta = beta_in s alpha in
    let fresh = put_number (put (put_number s k (4 * j) beta) beta bytes) alpha 16 (beta + 1) in
    pick (eqb p 0)
    fresh
    (pick (leb alpha p) (put s p bytes) fresh)

-- the n blocks from block to on are copies of those from alpha on
abbrev pub copy_range : Sigma → ℕ → ℕ → ℕ → Sigma
copy_range s alpha to n = λ q. pick (leb to q && ltb q (to + n)) (s (alpha + (q - to))) (s q)

-- the old descriptor's name and next, the new one's alpha and beta, after the copy of c blocks
abbrev pub close_region : Sigma → ℕ → ℕ → List ℕ → Sigma
close_region s alpha beta name = put_number (put s alpha (splice (s alpha) 24 name)) alpha 20 beta

abbrev pub open_region : Sigma → ℕ → ℕ → Sigma
open_region s beta c = put_number (put_number s beta 12 beta) beta 16 (beta + c)

-- Algorithm 3: taking a snapshot, layout 1, with n table blocks
unfoldable pub algorithm3 : Sigma → ℕ → ℕ → List ℕ → Sigma
algorithm3 s alpha n name =
    let beta = beta_in s alpha in
    open_region (close_region (copy_range s alpha beta (n + 1)) alpha beta name) beta (n + 1)

-- Algorithm 4: block read, layout 2
unfoldable pub algorithm4 : Sigma → ℕ → ℕ → List ℕ
algorithm4 s alpha l =
    let m = phi_in s alpha (l / table_size) in
    let p = entry_in s m (l % table_size) in
    pick (eqb m 0) zero_block (pick (eqb p 0) zero_block (s p))

-- Algorithm 5: block write, layout 2
unfoldable pub algorithm5 : Sigma → ℕ → ℕ → List ℕ → Sigma
algorithm5 s alpha l bytes =
    let i = l / table_size in
    let j = l % table_size in
    let m = phi_in s alpha i in
    let p = entry_in s m j in
    let beta = beta_in s alpha in
    -- Phi's entry names a new table block at beta, whose entry names the data block after it
    let new_table : List ℕ → Sigma = λ table. put_number (put_number (put (put s beta (splice table (4 * j) (le32 (beta + 1)))) (beta + 1) bytes) alpha (phi_start + 4 * i) beta) alpha 16 (beta + 2) in
    let in_table = put_number (put (put_number s m (4 * j) beta) beta bytes) alpha 16 (beta + 1) in
    pick (eqb m 0)
    (new_table zero_block)
    (pick (not (eqb p 0) && leb alpha p)
    (put s p bytes)
    (pick (ltb m alpha) (new_table (s m)) in_table))

-- Algorithm 6: taking a snapshot, layout 2
unfoldable pub algorithm6 : Sigma → ℕ → List ℕ → Sigma
algorithm6 s alpha name =
    let beta = beta_in s alpha in
    open_region (close_region (put s beta (s alpha)) alpha beta name) beta 1
