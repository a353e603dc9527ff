-- The parts of a card's Placed: lists of values, the volumes of descriptors, the place of a table block and the cell of an entry; and the same volume on two cards.
use mathlib.Core.Path.{◌≡◌, refl, sym, ap, ◌∙◌, subst}
use mathlib.Core.Bool.{Bool, true, false, ◌||◌}
use mathlib.Core.List.{List, [], ◌∷◌, ◌++◌}
use Prim.Native.Nat.{ℕ, zero, suc, ◌+◌, ◌*◌, ◌-◌, ◌≤◌, ◌<◌}
use native.Mathlib.Omega.{arith}
use lib.ListN.{length, take, get_or, set, replicate, length-append}
use lib.Seq.{get_or-append_seam}
use lib.Dec.{eqb}
use borrow.Author.Tests.{eqb-true, eqb-false, ne_eqb}
use Rattle.blocks.specs.Pick.{pick, same}
use Rattle.blocks.specs.Bytes.{Store, block_count, block_at, store_all}
use Rattle.blocks.specs.Descriptor.{table_count, cost_of, no_descriptor, descriptor_at, revision_of}
use Rattle.blocks.specs.declared.descriptor.Descriptor.{Descriptor}
use Rattle.blocks.proofs.StoreLists.{Whole, is_stored, stored_length, stored_other}
use Rattle.chains.specs.Chain.{Sound, chain, descriptors, active_of, index_of}
use Rattle.links.proofs.ChainLaws.{region_layout}
use Rattle.links.proofs.LinkedLaws.{Linked, RegionAt, region_start, active_at}
use Rattle.links.proofs.SharedLaws.{Below}
use Rattle.entries.specs.InPlace.{is_in_place, owner_index}
use Rattle.entries.specs.Entry.{phi_at, table_of, find}
use Rattle.entries.specs.Rules.{entry_of, Rules}
use Rattle.entries.proofs.EntryLaws.{placed_below}
use Rattle.entries.proofs.FoundLaws.{rules_find}
use Rattle.entries.proofs.LocalLaws.{Region}
use Rattle.entries.proofs.TableLaws.{table_own, table_phi, layout_two}
use Rattle.calls.specs.Parts.{descriptors_of, snapshots_of}
use Rattle.calls.proofs.ActiveLaws.{chain_starts, chain_some, region_at, region_below, volume_at, active_last}
use Rattle.claims.specs.History.{Position, Nowhere, At}
use Rattle.places.specs.Placed.{Cell, Nil, Held, PlacedVolume, Placed, home_of, volume_index, no_places, volumes_in, opened, place_of, cell_found, table_place, cell_place, values_from, placed_volume, placed_volumes, placed_of}
use Rattle.entries.proofs.OwnerLaws.{is_contained, owner_only, below_end, owner_upto}
use Rattle.places.proofs.OwnerLaws.{owner_front}

-- lists of values
values_at : {A : Type 0} (f : ℕ → A) (n i j : ℕ) (z : A) → j < n → get_or (values_from f n i) j z ≡ f (i + j)
unfolding values_from
values_at f zero i j z h = absurd (omega arith)
values_at f (suc n) i zero z h = ap f (omega arith)
values_at f (suc n) i (suc j) z h = values_at f n (suc i) j z (omega arith) ∙ ap f (omega arith)

pub values_first : {A : Type 0} (f : ℕ → A) (n j : ℕ) (z : A) → j < n → get_or (values_from f n 0) j z ≡ f j
values_first f n j z h = values_at f n 0 j z h ∙ ap f (omega arith)

pub values_length : {A : Type 0} (f : ℕ → A) (n i : ℕ) → length (values_from f n i) ≡ n
unfolding values_from
values_length f zero i = refl
values_length f (suc n) i = ap suc (values_length f n (suc i))

values_same : {A : Type 0} (f g : ℕ → A) (n i : ℕ) → ((j : ℕ) → i ≤ j → j < i + n → g j ≡ f j) → values_from g n i ≡ values_from f n i
unfolding values_from
values_same f g zero i h = refl
values_same f g (suc n) i h = rw (h i (omega arith) (omega arith), values_same f g n (suc i) (λ j a b. h j (omega arith) (omega arith)))

pub values_one : {A : Type 0} (f : ℕ → A) (x : A) (n i : ℕ) → ((j : ℕ) → i ≤ j → j < i + n → f j ≡ x) → values_from f n i ≡ replicate n x
unfolding values_from
values_one f x zero i h = refl
values_one f x (suc n) i h = rw (h i (omega arith) (omega arith), values_one f x n (suc i) (λ j a b. h j (omega arith) (omega arith)))

-- two lists of values, of which value k alone differs
pub values_set : {A : Type 0} (f g : ℕ → A) (x : A) (n i k : ℕ) → k < n → ((j : ℕ) → i ≤ j → j < i + n → (j ≡ i + k → ⊥) → g j ≡ f j) → ((j : ℕ) → j ≡ i + k → g j ≡ x) → values_from g n i ≡ set (values_from f n i) k x
unfolding values_from
values_set f g x zero i k b other here = absurd (omega arith)
values_set f g x (suc n) i zero b other here = rw (here i (omega arith), values_same f g n (suc i) (λ j u v. other j (omega arith) (omega arith) (λ q. omega arith)))
values_set f g x (suc n) i (suc k) b other here =
    rw (
      other i (omega arith) (omega arith) (λ q. omega arith),
      values_set f g x n (suc i) k (omega arith) (λ j u v w. other j (omega arith) (omega arith) (λ q. w (omega arith))) (λ j q. here j (omega arith)),
    )

-- the volumes of descriptors
pub placed_length : (c : List ℕ) (ds : List Descriptor) → length (placed_volumes c ds) ≡ length ds
unfolding placed_volumes
placed_length c [] = refl
placed_length c (d ∷ ds) = ap suc (placed_length c ds)

pub volumes_append : (c : List ℕ) (xs ys : List Descriptor) → placed_volumes c (xs ++ ys) ≡ placed_volumes c xs ++ placed_volumes c ys
unfolding placed_volumes
volumes_append c [] ys = refl
volumes_append c (x ∷ xs) ys = ap (λ (vs : List PlacedVolume). placed_volume c x ∷ vs) (volumes_append c xs ys)

pub volumes_take : (c : List ℕ) (ds : List Descriptor) (n : ℕ) → take n (placed_volumes c ds) ≡ placed_volumes c (take n ds)
unfolding placed_volumes
volumes_take c ds zero = refl
volumes_take c [] (suc n) = refl
volumes_take c (d ∷ ds) (suc n) = ap (λ (vs : List PlacedVolume). placed_volume c d ∷ vs) (volumes_take c ds n)

pub volumes_get : (c : List ℕ) (ds : List Descriptor) (n : ℕ) → n < length ds → get_or (placed_volumes c ds) n no_places ≡ placed_volume c (get_or ds n no_descriptor)
unfolding placed_volumes
volumes_get c [] n h = absurd (omega arith)
volumes_get c (d ∷ ds) zero h = refl
volumes_get c (d ∷ ds) (suc n) h = volumes_get c ds n (omega arith)

index_by : (b : Bool) (m n : ℕ) → m ≡ n → pick b 0 (suc m) ≡ pick b 0 (suc n)
index_by true m n h = refl
index_by false m n h = ap suc h

pub volume_index_lem : (c : List ℕ) (ds : List Descriptor) (name : List ℕ) → volume_index (placed_volumes c ds) name ≡ index_of ds name
unfolding volume_index placed_volumes placed_volume index_of
volume_index_lem c [] name = refl
volume_index_lem c (d ∷ ds) name = index_by (same d.name name) _ _ (volume_index_lem c ds name)

pub volumes_same : (c t : List ℕ) (ds : List Descriptor) → ((k : ℕ) → k < length ds → placed_volume t (get_or ds k no_descriptor) ≡ placed_volume c (get_or ds k no_descriptor)) → placed_volumes t ds ≡ placed_volumes c ds
unfolding placed_volumes
volumes_same c t [] h = refl
volumes_same c t (d ∷ ds) h = rw (h 0 (omega arith), volumes_same c t ds (λ k a. h (suc k) (omega arith)))

-- a card's Placed by N, the revision, and the snapshots and the active descriptor of its chain
pub placed_parts : (t : List ℕ) {n k q r : ℕ} {ss : List Descriptor} {y : Descriptor} {vs : List PlacedVolume} {v : PlacedVolume} → block_count t ≡ n → revision_of t ≡ r
    → snapshots_of (descriptors_of t) ≡ ss → active_of (descriptors_of t) ≡ y → cost_of y ≡ k → y.layout ≡ q → placed_volumes t ss ≡ vs → placed_volume t y ≡ v
    → placed_of t ≡ record { blocks = n; cost = k; layout = q; revision = r; snapshots = vs; active = v }
unfolding placed_of
placed_parts t blocks revision snapshots active cost layout volumes volume =
    rw (blocks, revision, snapshots, active) (placed_equal cost layout volumes volume)
  where
    placed_equal : {n k k' q q' r : ℕ} {vs vs' : List PlacedVolume} {v v' : PlacedVolume} → k ≡ k' → q ≡ q' → vs ≡ vs' → v ≡ v'
        → ◌≡◌ {A = Placed} (record { blocks = n; cost = k; layout = q; revision = r; snapshots = vs; active = v }) (record { blocks = n; cost = k'; layout = q'; revision = r; snapshots = vs'; active = v' })
    placed_equal a b c d = rw (a, b, c, d)

-- a volume by L, its tables and its cells
pub volume_parts : (t : List ℕ) (e : Descriptor) (n : ℕ) (ts : List Position) (cs : List Cell) → e.volume ≡ n → values_from (table_place t e) (table_count n) 0 ≡ ts → values_from (cell_place t e) n 0 ≡ cs
    → placed_volume t e ≡ record { name = e.name; beta = e.beta.0; tables = ts; cells = cs }
unfolding placed_volume
volume_parts t e n ts cs v a b =
    ap (λ (m : ℕ). record { name = e.name; beta = e.beta.0; tables = values_from (table_place t e) (table_count m) 0; cells = values_from (cell_place t e) m 0 }) v
    ∙ ap (λ (x : List Position). record { name = e.name; beta = e.beta.0; tables = x; cells = values_from (cell_place t e) n 0 }) a
    ∙ ap (λ (x : List Cell). record { name = e.name; beta = e.beta.0; tables = ts; cells = x }) b

-- the place of a block; the cell of an entry
place_by : (r s : ℕ) (z : Bool) → (z ≡ false → r ≡ s) → pick z Nowhere (At r) ≡ pick z Nowhere (At s)
place_by r s true h = refl
place_by r s false h = ap At (h refl)

place_same : (ds es : List Descriptor) (q : ℕ) → ((q ≡ 0 → ⊥) → owner_index es q ≡ owner_index ds q) → place_of es q ≡ place_of ds q
unfolding place_of
place_same ds es q h = place_by _ _ (eqb q 0) (λ e. h (eqb-false q 0 e))

pub place_set : (ds : List Descriptor) (q k : ℕ) → (q ≡ 0 → ⊥) → owner_index ds q ≡ k → place_of ds q ≡ At k
unfolding place_of
place_set ds q k n e = rw (ne_eqb q 0 n, e)

abbrev pub cell_named : List ℕ → List Descriptor → ℕ → Cell
cell_named c ds q = pick (eqb q 0) Nil (Held (owner_index ds q) (block_at c q))

cell_by : (r s : ℕ) (a b : List ℕ) (z : Bool) → (z ≡ false → (r ≡ s) × (a ≡ b)) → pick z Nil (Held r a) ≡ pick z Nil (Held s b)
cell_by r s a b true h = refl
cell_by r s a b false h = let e = h refl in ap (λ (x : ℕ). Held x a) e.0 ∙ ap (Held s) e.1

cell_same : (c t : List ℕ) (ds es : List Descriptor) (q : ℕ) → ((q ≡ 0 → ⊥) → (owner_index es q ≡ owner_index ds q) × (block_at t q ≡ block_at c q)) → cell_named t es q ≡ cell_named c ds q
cell_same c t ds es q h = cell_by _ _ _ _ (eqb q 0) (λ e. h (eqb-false q 0 e))

pub home_by : (r : ℕ) (b : List ℕ) (z : Bool) → home_of (pick z Nil (Held r b)) ≡ pick z Nowhere (At r)
unfolding home_of
home_by r b true = refl
home_by r b false = refl

-- what is found through a descriptor that keeps the rules is the cell of its entry
pub cell_rules : (c : List ℕ) (ds : List Descriptor) (d : Descriptor) → (eqb d.layout 1 || eqb d.layout 2) ≡ true → Rules c ds d → (l : ℕ) → l < d.volume
    → cell_found c ds (find c ds d l) ≡ cell_named c ds (entry_of c d l)
unfolding cell_found
cell_rules c ds d layout r l h = ap (cell_found c ds) (rules_find c ds d layout r l h)

-- a set table block of a descriptor that keeps the rules is below its beta
under_by : (c : List ℕ) (ds : List Descriptor) (d : Descriptor) → (eqb d.layout 1 || eqb d.layout 2) ≡ true → Rules c ds d → (d.layout ≡ 1 → d.alpha.0 + table_count d.volume < d.beta.0)
    → (i : ℕ) → i < table_count d.volume → (table_of c d i ≡ 0 → ⊥) → (o : Bool) → eqb d.layout 1 ≡ o → table_of c d i < d.beta.0
under_by c ds d layout r own i h z true o = omega (arith, table_own c d i o, own (eqb-true d.layout 1 o))
under_by c ds d layout r own i h z false o =
    placed_below ds d (table_of c d i) (subst (λ (q : ℕ). is_in_place ds d q ≡ true) (sym (table_phi c d i o)) ((r.phi (layout_two d.layout layout o)).in_place i h)) z

pub table_under : (c : List ℕ) (ds : List Descriptor) (d : Descriptor) → (eqb d.layout 1 || eqb d.layout 2) ≡ true → Rules c ds d → (d.layout ≡ 1 → d.alpha.0 + table_count d.volume < d.beta.0)
    → (i : ℕ) → i < table_count d.volume → (table_of c d i ≡ 0 → ⊥) → table_of c d i < d.beta.0
table_under c ds d layout r own i h z = under_by c ds d layout r own i h z (eqb d.layout 1) refl

-- a table block that is named by the same Phi from the same alpha
pub table_as : (s t : List ℕ) (d e : Descriptor) (i : ℕ) → e.layout ≡ d.layout → e.alpha ≡ d.alpha → phi_at t e i ≡ phi_at s d i → table_of t e i ≡ table_of s d i
unfolding table_of
table_as s t d e i a b h = rw (h, a, b)

-- the region of a descriptor of a sound chain
module _ (c : List ℕ) (ds : List Descriptor) (sound_c : chain c ≡ Sound ds) (k : ℕ) (in_chain : k < length ds) where
  abbrev at : RegionAt c (region_start 0 ds k) (region_start 0 ds (suc k)) (get_or ds k no_descriptor)
  at = region_at c ds sound_c k in_chain

  abbrev linked : Linked c [] 0 ds
  linked = chain_starts c ds sound_c

  pub owner_at_lem : (q : ℕ) → (get_or ds k no_descriptor).alpha.0 ≤ q → q < (get_or ds k no_descriptor).beta.0 → owner_index ds q ≡ k
  owner_at_lem q a b = owner_only c ds linked q (below_end c ds linked k in_chain q b) k in_chain (is_contained (get_or ds k no_descriptor) q a b)

  -- layout and c are one for all
  pub layout_at : (get_or ds k no_descriptor).layout ≡ (active_of ds).layout
  layout_at =
      region_layout (descriptor_at c 0) (block_count c) _ _ at.region
      ∙ sym (region_layout (descriptor_at c 0) (block_count c) _ _ (region_at c ds sound_c (length ds - 1) (omega (arith, in_chain))).region)
      ∙ ap (λ (d : Descriptor). d.layout) (sym (active_at ds (omega (arith, in_chain))))

  pub cost_at : cost_of (get_or ds k no_descriptor) ≡ cost_of (active_of ds)
  cost_at = rw (layout_at, volume_at c ds sound_c k in_chain)

-- that of the active one
pub active_region : (c : List ℕ) (ds : List Descriptor) → chain c ≡ Sound ds → Region (active_of ds) (active_of ds).beta.0
active_region c ds sound_c =
    let some = chain_some c ds sound_c in
    subst (λ (d : Descriptor). Region d (active_of ds).beta.0) (sym (active_at ds some)) (region_below c ds sound_c (length ds - 1) (omega (arith, some)))

-- stores that leave every block below b
pub below_stored : (c : List ℕ) (ss : List Store) (b : ℕ) → Whole (length c) ss → 0 < b → 512 * b ≤ length c → ((q : ℕ) → q < b → is_stored ss q ≡ false) → Below c (store_all c ss) b
below_stored c ss b whole some inside none =
    record { long = sym (stored_length (length c) c refl whole); some = some; inside = inside; blocks = λ q h. sym (stored_other (length c) c refl whole q (none q h)) }

-- the volumes are those of the descriptors
pub volumes_are : (c : List ℕ) (ds : List Descriptor) → chain c ≡ Sound ds → volumes_in (placed_of c) ≡ placed_volumes c ds
unfolding placed_of placed_volumes descriptors
volumes_are c ds sound_c =
    rw (ap descriptors sound_c) (sym (volumes_append c (snapshots_of ds) (active_of ds ∷ [])) ∙ ap (placed_volumes c) (sym (active_last c ds sound_c)))

-- two chains of which the second begins as the first up to a region that starts alike and ends no earlier: the owners of the blocks below its end are the same
pub same_owners : (c : List ℕ) (ds es xs : List Descriptor) (x y : Descriptor) (ys zs : List Descriptor) → chain c ≡ Sound ds → ds ≡ xs ++ (x ∷ ys) → es ≡ xs ++ (y ∷ zs) → y.alpha ≡ x.alpha → x.beta.0 ≤ y.beta.0
    → (q : ℕ) → q < x.beta.0 → owner_index es q ≡ owner_index ds q
same_owners c ds es xs x y ys zs sound_c split after alpha beta q h =
    let in_chain : length xs < length ds = omega (arith, ap length split, length-append xs (x ∷ ys)) in
    let is : get_or ds (length xs) no_descriptor ≡ x = ap (λ (l : List Descriptor). get_or l (length xs) no_descriptor) split ∙ get_or-append_seam xs x ys no_descriptor in
    let low : q < (get_or ds (length xs) no_descriptor).beta.0 = subst (λ (d : Descriptor). q < d.beta.0) (sym is) h in
    let upto : owner_index (xs ++ (x ∷ ys)) q ≤ length xs = subst (λ (l : List Descriptor). owner_index l q ≤ length xs) split (owner_upto c ds (chain_starts c ds sound_c) (length xs) in_chain q low) in
    ap (λ (l : List Descriptor). owner_index l q) after ∙ owner_front xs x y ys zs q alpha (omega (arith, h, beta)) upto ∙ ap (λ (l : List Descriptor). owner_index l q) (sym split)

-- Two cards: a descriptor d of the first, whose region lies below b, and e of the second, with the same layout and L. The owners of the blocks below b are the
-- same, and so are the blocks in place through d
module _ (c t : List ℕ) (es : List Descriptor) (b : ℕ) (after : descriptors_of t ≡ es) (owners : (q : ℕ) → q < b → owner_index es q ≡ owner_index (descriptors_of c) q) (d e : Descriptor)
    (layout : (eqb d.layout 1 || eqb d.layout 2) ≡ true) (as_layout : e.layout ≡ d.layout) (as_volume : e.volume ≡ d.volume) (rules : Rules c (descriptors_of c) d) (region : Region d b) where
  -- the same table block is in the same place
  pub table_kept : (i : ℕ) → i < table_count d.volume → table_of t e i ≡ table_of c d i → table_place t e i ≡ table_place c d i
  unfolding table_place
  table_kept i h is =
      let ds = descriptors_of c in
      let q = table_of c d i in
      ap (λ (zs : List Descriptor). place_of zs (table_of t e i)) after ∙ ap (place_of es) is
      ∙ place_same ds es q (λ z. owners q (omega (arith, region.upto, table_under c ds d layout rules region.own i h z)))

  -- the same entry gives the same cell
  pub cell_kept : Rules t es e → (l : ℕ) → l < d.volume → entry_of t e l ≡ entry_of c d l → ((entry_of c d l ≡ 0 → ⊥) → block_at t (entry_of c d l) ≡ block_at c (entry_of c d l)) → cell_place t e l ≡ cell_place c d l
  unfolding cell_place
  cell_kept then l h is block =
      let ds = descriptors_of c in
      let q = entry_of c d l in
      ap (λ (zs : List Descriptor). cell_found t zs (find t zs e l)) after
      ∙ cell_rules t es e (ap (λ (x : ℕ). eqb x 1 || eqb x 2) as_layout ∙ layout) then l (omega (arith, h, as_volume))
      ∙ ap (cell_named t es) is
      ∙ cell_same c t ds es q (λ z. (owners q (omega (arith, region.upto, placed_below ds d q (rules.tables.in_place l h) z)), block z))
      ∙ sym (cell_rules c ds d layout rules l h)

  module _ (blocks : (q : ℕ) → is_in_place (descriptors_of c) d q ≡ true → (q ≡ 0 → ⊥) → block_at t q ≡ block_at c q) (kept : Rules t es e × ((l : ℕ) → l < d.volume → entry_of t e l ≡ entry_of c d l)) where
    cells_kept : values_from (cell_place t e) d.volume 0 ≡ values_from (cell_place c d) d.volume 0
    cells_kept =
        values_same (cell_place c d) (cell_place t e) d.volume 0
        (λ j u v. let h : j < d.volume = omega arith in cell_kept kept.0 j h (kept.1 j h) (blocks (entry_of c d j) (rules.tables.in_place j h)))

    tables_kept : ((i : ℕ) → i < table_count d.volume → table_of t e i ≡ table_of c d i) → values_from (table_place t e) (table_count d.volume) 0 ≡ values_from (table_place c d) (table_count d.volume) 0
    tables_kept equal = values_same (table_place c d) (table_place t e) (table_count d.volume) 0 (λ j u v. let h : j < table_count d.volume = omega arith in table_kept j h (equal j h))

    -- the same volume, under the name and with the beta of e
    pub volume_kept : ((i : ℕ) → i < table_count d.volume → table_of t e i ≡ table_of c d i)
        → placed_volume t e ≡ record { name = e.name; beta = e.beta.0; tables = (placed_volume c d).tables; cells = (placed_volume c d).cells }
    unfolding placed_volume
    volume_kept equal = volume_parts t e d.volume _ _ as_volume (tables_kept equal) cells_kept

    -- the volume of a region opened from d, which is number k of the second chain
    module _ (sound_t : chain t ≡ Sound es) (k : ℕ) (in_chain : k < length es) (is : get_or es k no_descriptor ≡ e) (phi : (i : ℕ) → i < 112 → phi_at t e i ≡ phi_at c d i) where
      own_place : eqb e.layout 1 ≡ true → (i : ℕ) → i < table_count d.volume → table_place t e i ≡ At k
      unfolding table_place
      own_place o i h =
          let r : Region e (active_of es).beta.0 = subst (λ (x : Descriptor). Region x (active_of es).beta.0) is (region_below t es sound_t k in_chain) in
          let q = table_of t e i in
          let w = table_own t e i o in
          ap (λ (zs : List Descriptor). place_of zs q) after
          ∙ place_set es q k (λ z. omega (arith, z, w))
          (owner_at_lem t es sound_t k in_chain q (omega (arith, w, ap (λ (x : Descriptor). x.alpha.0) is)) (omega (arith, w, h, ap table_count as_volume, r.own (eqb-true e.layout 1 o), ap (λ (x : Descriptor). x.beta.0) is)))

      opened_by : (o : Bool) → eqb d.layout 1 ≡ o
          → values_from (table_place t e) (table_count d.volume) 0 ≡ pick o (replicate (length (values_from (table_place c d) (table_count d.volume) 0)) (At k)) (values_from (table_place c d) (table_count d.volume) 0)
      opened_by true o =
          values_one (table_place t e) (At k) (table_count d.volume) 0 (λ j u v. own_place (ap (λ (x : ℕ). eqb x 1) as_layout ∙ o) j (omega arith))
          ∙ ap (λ (m : ℕ). replicate m (At k)) (sym (values_length (table_place c d) (table_count d.volume) 0))
      opened_by false o =
          tables_kept (λ i h. table_phi t e i (ap (λ (x : ℕ). eqb x 1) as_layout ∙ o) ∙ phi i (omega (arith, h, region.few)) ∙ sym (table_phi c d i o))

      pub volume_opened : placed_volume t e ≡ record { name = e.name; beta = e.beta.0; tables = opened d.layout k (placed_volume c d).tables; cells = (placed_volume c d).cells }
      unfolding placed_volume opened
      volume_opened = volume_parts t e d.volume _ _ as_volume (opened_by (eqb d.layout 1) refl) cells_kept
