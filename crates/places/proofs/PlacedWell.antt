-- What is true of the Placed of every card that passes.
use mathlib.Core.Path.{◌≡◌, refl, sym, ap, ◌∙◌, subst}
use mathlib.Core.Bool.{Bool, true, false, ◌||◌}
use mathlib.Core.List.{List}
use Prim.Native.Nat.{ℕ, suc, ◌/◌, ◌%◌, ◌≤◌, ◌<◌}
use native.Mathlib.Omega.{arith}
use lib.ListN.{length, get_or}
use lib.Dec.{eqb}
use borrow.Author.Tests.{eq-eqb, ne_eqb, eqb-false, leb-true}
use Rattle.blocks.specs.Pick.{pick}
use Rattle.blocks.specs.Bytes.{block_at}
use Rattle.blocks.specs.Descriptor.{table_count, no_descriptor}
use Rattle.blocks.specs.declared.descriptor.Descriptor.{Descriptor}
use Rattle.chains.specs.Chain.{Sound, chain, active_of}
use Rattle.links.proofs.SoundLaws.{form_layout}
use Rattle.links.proofs.LinkedLaws.{RegionAt, region_start, chain_few, at_long, at_end}
use Rattle.entries.specs.InPlace.{owner_index}
use Rattle.entries.specs.Entry.{entry_at, table_of}
use Rattle.entries.specs.Rules.{entry_of, Rules}
use Rattle.entries.proofs.EntryLaws.{placed_below}
use Rattle.entries.proofs.LocalLaws.{Region}
use Rattle.entries.proofs.TableLaws.{table_own, layout_two, group_below}
use Rattle.calls.specs.Parts.{descriptors_of}
use Rattle.calls.specs.Check.{Passes}
use Rattle.calls.proofs.CardLaws.{chain_is}
use Rattle.calls.proofs.ActiveLaws.{chain_starts, region_at, region_below, volume_at as one_volume}
use Rattle.claims.specs.History.{Nowhere, At}
use Rattle.places.specs.Placed.{Nil, PlacedVolume, home_of, volumes_in, no_places, place_of, table_place, cell_place, placed_volume, placed_of, WellPlaced, WellPlacedClaim}
use Rattle.entries.proofs.OwnerLaws.{owner_own, owner_upto}
use Rattle.places.proofs.PlacedLaws.{values_first, values_length, placed_length, volumes_are, volumes_get, home_by, cell_rules, table_under, owner_at_lem, cost_at}

-- a place that is set
at_is : (i j : ℕ) → At i ≡ At j → i ≡ j
at_is i j e = cc

nowhere_not : (i : ℕ) → Nowhere ≡ At i → ⊥
nowhere_not i e = let z : ◌≡◌ {A = ℕ} 0 1 = cc in absurd (omega arith)

place_is : (r i : ℕ) (z : Bool) → pick z Nowhere (At r) ≡ At i → (z ≡ false) × (r ≡ i)
place_is r i true e = absurd (nowhere_not i e)
place_is r i false e = (refl, at_is r i e)

module _ (c : List ℕ) (p : Passes c) where
  abbrev ds : List Descriptor
  ds = descriptors_of c

  sound_c : chain c ≡ Sound ds
  sound_c = chain_is (chain c) p.sound

  count_in : length (volumes_in (placed_of c)) ≡ length ds
  count_in = ap length (volumes_are c ds sound_c) ∙ placed_length c ds

  volume_at : (j : ℕ) → j < length ds → get_or (volumes_in (placed_of c)) j no_places ≡ placed_volume c (get_or ds j no_descriptor)
  volume_at j g = ap (λ (vs : List PlacedVolume). get_or vs j no_places) (volumes_are c ds sound_c) ∙ volumes_get c ds j g

  module _ (k : ℕ) (h : k < length ds) where
    abbrev d : Descriptor
    d = get_or ds k no_descriptor

    abbrev v : PlacedVolume
    v = placed_volume c d

    r : RegionAt c (region_start 0 ds k) (region_start 0 ds (suc k)) d
    r = region_at c ds sound_c k h

    region : Region d (active_of ds).beta.0
    region = region_below c ds sound_c k h

    rules : Rules c ds d
    rules = p.rules k h

    layout : (eqb d.layout 1 || eqb d.layout 2) ≡ true
    layout = form_layout c _ d r.form

    -- a block that region k contains is at or above its alpha
    above : (q : ℕ) → q < d.beta.0 → owner_index ds q ≡ k → d.alpha.0 ≤ q
    above q b e = leb-true d.alpha.0 q (sym (owner_own c ds (chain_starts c ds sound_c) k h q b) ∙ eq-eqb (owner_index ds q) k e)

    -- tables and cells by their blocks
    long_cells : length v.cells ≡ d.volume
    unfolding placed_volume
    long_cells = values_length (cell_place c d) d.volume 0

    long_tables : length v.tables ≡ table_count d.volume
    unfolding placed_volume
    long_tables = values_length (table_place c d) (table_count d.volume) 0

    table_is : (i : ℕ) → i < table_count d.volume → get_or v.tables i Nowhere ≡ pick (eqb (table_of c d i) 0) Nowhere (At (owner_index ds (table_of c d i)))
    unfolding placed_volume table_place place_of
    table_is i b = values_first (table_place c d) (table_count d.volume) i Nowhere b

    home_is : (l : ℕ) → l < d.volume → home_of (get_or v.cells l Nil) ≡ pick (eqb (entry_of c d l) 0) Nowhere (At (owner_index ds (entry_of c d l)))
    unfolding placed_volume cell_place
    home_is l b =
        ap home_of (values_first (cell_place c d) d.volume l Nil b ∙ cell_rules c ds d layout rules l b)
        ∙ home_by (owner_index ds (entry_of c d l)) (block_at c (entry_of c d l)) (eqb (entry_of c d l) 0)

    cell_set : (l i : ℕ) → l < d.volume → home_of (get_or v.cells l Nil) ≡ At i → (entry_of c d l ≡ 0 → ⊥) × (owner_index ds (entry_of c d l) ≡ i)
    cell_set l i b e = let s = place_is _ i (eqb (entry_of c d l) 0) (sym (home_is l b) ∙ e) in (eqb-false _ 0 s.0, s.1)

    low : (l : ℕ) → l < d.volume → (entry_of c d l ≡ 0 → ⊥) → entry_of c d l < d.beta.0
    low l b z = placed_below ds d (entry_of c d l) (rules.tables.in_place l b) z

    some_table : (l : ℕ) → (entry_of c d l ≡ 0 → ⊥) → table_of c d (l / 128) ≡ 0 → ⊥
    unfolding entry_of
    some_table l n z = n (ap (λ (q : ℕ). pick (eqb q 0) 0 (entry_at c q (l % 128))) z)

    table_until : (i : ℕ) → i < table_count d.volume → (table_of c d i ≡ 0 → ⊥) → table_of c d i < d.beta.0
    table_until = table_under c ds d layout rules region.own

    table_from : (l : ℕ) → l < d.volume → (entry_of c d l ≡ 0 → ⊥) → d.alpha.0 ≤ entry_of c d l → (o : Bool) → eqb d.layout 1 ≡ o → d.alpha.0 ≤ table_of c d (l / 128)
    table_from l b n a true o = omega (arith, table_own c d (l / 128) o)
    table_from l b n a false o = (rules.phi (layout_two d.layout layout o)).table_above l b a n

    table_set : (l : ℕ) → l < d.volume → (entry_of c d l ≡ 0 → ⊥) → get_or v.tables (l / 128) Nowhere ≡ At (owner_index ds (table_of c d (l / 128)))
    table_set l b n =
        let q = table_of c d (l / 128) in
        table_is (l / 128) (group_below l d.volume b) ∙ ap (λ (z : Bool). pick z Nowhere (At (owner_index ds q))) (ne_eqb q 0 (some_table l n))

    own_table : (l : ℕ) → l < d.volume → home_of (get_or v.cells l Nil) ≡ At k → get_or v.tables (l / 128) Nowhere ≡ At k
    own_table l b e =
        let s = cell_set l k b e in
        let q = table_of c d (l / 128) in
        let a = table_from l b s.0 (above (entry_of c d l) (low l b s.0) s.1) (eqb d.layout 1) refl in
        table_set l b s.0 ∙ ap At (owner_at_lem c ds sound_c k h q a (table_until (l / 128) (group_below l d.volume b) (some_table l s.0)))

    -- L is one for all
    l_is : d.volume ≡ (active_of ds).volume
    l_is = one_volume c ds sound_c k h

    well : WellPlaced (placed_of c) k v
    unfolding placed_volume placed_of
    well =
        record {
          long_cells = long_cells ∙ l_is ∙ sym (values_length (cell_place c (active_of ds)) (active_of ds).volume 0);
          long_tables = long_tables ∙ ap table_count (sym long_cells);
          cells_upto = λ l i b e.
              let m : l < d.volume = omega (arith, b, long_cells) in
              let s = cell_set l i m e in
              omega (arith, owner_upto c ds (chain_starts c ds sound_c) k h (entry_of c d l) (low l m s.0), s.1);
          tables_upto = λ g i b e.
              let m : g < table_count d.volume = omega (arith, b, long_tables) in
              let s = place_is _ i (eqb (table_of c d g) 0) (sym (table_is g m) ∙ e) in
              omega (arith, owner_upto c ds (chain_starts c ds sound_c) k h (table_of c d g) (table_until g m (eqb-false _ 0 s.0)), s.1);
          table_set = λ l i b e z.
              let m : l < d.volume = omega (arith, b, long_cells) in
              nowhere_not _ (sym z ∙ table_set l m (cell_set l i m e).0);
          table_own = λ l b e. own_table l (omega (arith, b, long_cells)) e;
          few = omega (arith, h, chain_few c ds sound_c);
          ends_upto = omega (arith, r.beta, at_end c _ _ d r);
          rises = λ g.
              let m : suc k < length ds = omega (arith, g, count_in) in
              let s = region_at c ds sound_c (suc k) m in
              omega (arith, ap (λ (u : PlacedVolume). u.beta) (volume_at (suc k) m), s.beta, at_long c _ _ _ s, r.beta, cost_at c ds sound_c (suc k) m);
        }

pub well_placed_claim : WellPlacedClaim
unfolding WellPlacedClaim
well_placed_claim c p k h =
    let g : k < length (descriptors_of c) = omega (arith, h, count_in c p) in
    subst (WellPlaced (placed_of c) k) (sym (volume_at c p k g)) (well c p k g)
