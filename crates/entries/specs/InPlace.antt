-- 'In place': which blocks an entry may name; and the region that contains a block.
use Rattle.std.specs.Prelude.{Bool, false, not, ◌&&◌, ◌||◌, List, [], ◌∷◌, ℕ, suc, ◌+◌, get_or, eqb, ltb, leb}
use Rattle.blocks.specs.Pick.{pick}
use Rattle.blocks.specs.Descriptor.{table_count, no_descriptor}
use Rattle.blocks.specs.declared.descriptor.Descriptor.{Descriptor}

-- whether block p is a descriptor of the chain
unfoldable pub is_descriptor : List Descriptor → ℕ → Bool
is_descriptor [] p = false
is_descriptor (d ∷ ds) p = eqb p d.alpha.0 || is_descriptor ds p

-- whether block p is a layout 1 table block: one of the n blocks after a descriptor of the chain
unfoldable pub is_table : List Descriptor → ℕ → Bool
is_table [] p = false
is_table (d ∷ ds) p = (eqb d.layout 1 && ltb d.alpha.0 p && leb p (d.alpha.0 + table_count d.volume)) || is_table ds p

-- an entry is in place if it is nil, or below its descriptor's beta and neither a descriptor of the chain nor a layout 1 table block
unfoldable pub is_in_place : List Descriptor → Descriptor → ℕ → Bool
is_in_place ds d p = eqb p 0 || (ltb p d.beta.0 && not (is_descriptor ds p || is_table ds p))

-- a descriptor's region runs from alpha up to beta: whether it contains block p
unfoldable pub contains : Descriptor → ℕ → Bool
contains d p = leb d.alpha.0 p && ltb p d.beta.0

-- the index of the first descriptor of the list whose region contains block p, or how many there are; and that descriptor
unfoldable pub owner_index : List Descriptor → ℕ → ℕ
owner_index [] p = 0
owner_index (d ∷ ds) p = pick (contains d p) 0 (suc (owner_index ds p))

abbrev pub owner_of : List Descriptor → ℕ → Descriptor
owner_of ds p = get_or ds (owner_index ds p) no_descriptor

-- for the code, by where the regions start. The index of the region that contains block p: the first that ends above p. Region k runs from number k up to number k + 1 of the list
unfoldable pub region_of : List ℕ → ℕ → ℕ
region_of [] p = 0
region_of (s ∷ []) p = 0
region_of (s ∷ t ∷ starts) p = let rest = suc (region_of (t ∷ starts) p) in pick (ltb p t) 0 rest

-- 'in place' by regions in rising order: nil, or below beta and outside the opening of the region that contains it (the law `in_place_region`)
unfoldable pub in_place_at : List ℕ → ℕ → ℕ → ℕ → Bool
in_place_at starts cost beta p = eqb p 0 || (ltb p beta && leb (get_or starts (region_of starts p) 0 + cost) p)

-- the index of the region that contains a block that is in place, 0 where it is nil; and count where it is not in place
unfoldable pub owner_at : List ℕ → ℕ → ℕ → ℕ → ℕ → ℕ
owner_at starts cost beta count p = pick (in_place_at starts cost beta p) (pick (eqb p 0) 0 (region_of starts p)) count
