-- The Placed of the card after a revert is its own step, on either revision.
use mathlib.Core.Path.{◌≡◌, refl, sym, ap, ◌∙◌, subst}
use mathlib.Core.Bool.{Bool, true, false, ◌||◌}
use mathlib.Core.List.{List, [], ◌∷◌, ◌++◌}
use Prim.Native.Nat.{ℕ, suc, ◌+◌, ◌/◌, ◌≤◌, ◌<◌}
use native.Mathlib.Omega.{arith}
use lib.ListN.{length, get_or, take, length-append, get_or-append}
use lib.Seq.{length-take-le, take-suc, append_snoc, get_or-append-add, get_or-append_seam}
use lib.Dec.{eqb}
use Rattle.blocks.specs.Bytes.{block_count, store_all}
use Rattle.blocks.specs.Descriptor.{no_descriptor, cost_of, revision_of, reopened_of}
use Rattle.blocks.specs.declared.descriptor.Descriptor.{Descriptor}
use Rattle.blocks.proofs.StoreLists.{stored_length}
use Rattle.chains.specs.Chain.{Sound, active_of, chain, index_of}
use Rattle.chains.proofs.NamedLaws.{index_below}
use Rattle.links.proofs.SoundLaws.{form_layout}
use Rattle.links.proofs.ChainLaws.{active_snoc, descriptors_are}
use Rattle.links.proofs.LinkedLaws.{linked_rise, at_alpha}
use Rattle.links.proofs.SharedLaws.{Below}
use Rattle.links.proofs.MemberLaws.{member_inside}
use Rattle.entries.specs.InPlace.{owner_index}
use Rattle.entries.specs.Entry.{phi_at}
use Rattle.entries.specs.Rules.{Rules}
use Rattle.entries.proofs.LocalLaws.{Region, local_table}
use Rattle.calls.specs.Parts.{descriptors_of, snapshots_of, with_name}
use Rattle.calls.specs.Check.{Passes}
use Rattle.calls.specs.Stores.{activated_of, revert_stores, staying}
use Rattle.calls.proofs.Passed.{RevertPassed}
use Rattle.calls.proofs.CardLaws.{chain_is, snapshots_snoc}
use Rattle.calls.proofs.ActiveLaws.{chain_starts, region_at, region_below}
use Rattle.calls.proofs.VisitLaws.{before, behind}
use Rattle.changes.proofs.WholeLaws.{revert_whole}
use Rattle.changes.proofs.RevertedChain.{revert_split, visit_below, reverted_0, reverted_1, reverted_revision, revert_above, below_visit}
use Rattle.changes.proofs.RevertedRules.{blocks_kept, first_is, first_kept, last_kept, old_phi}
use Rattle.changes.proofs.ReopenedRules.{below_kept, upto_visit, upto_kept, first_in, new_phi, new_kept}
use Rattle.claims.specs.Kinds.{Reverts}
use Rattle.places.specs.Placed.{PlacedVolume, volume_index, no_places, named_volume, opened, placed_opening, placed_active, placed_change, placed_volume, placed_volumes, placed_of}
use Rattle.places.proofs.PlacedLaws.{volumes_same, volumes_take, volumes_get, volume_index_lem, placed_parts, table_as, layout_at, cost_at, below_stored, same_owners, volume_kept, volume_opened}

module _ (c name : List ℕ) (p : Passes c) (acc : RevertPassed c name) where
  abbrev ds : List Descriptor
  ds = descriptors_of c

  abbrev act : Descriptor
  act = active_of ds

  abbrev ss : List Descriptor
  ss = snapshots_of ds

  abbrev i : ℕ
  i = index_of ss name

  abbrev v : Descriptor
  v = with_name ss name

  abbrev xs : List Descriptor
  xs = before ss name

  abbrev ys : List Descriptor
  ys = behind ss name ++ (act ∷ [])

  abbrev w : Descriptor
  w = activated_of v act.name

  abbrev t : List ℕ
  t = store_all c (revert_stores c name)

  sound_c : chain c ≡ Sound ds
  sound_c = chain_is (chain c) p.sound

  split : ds ≡ xs ++ (v ∷ ys)
  split = revert_split c name acc

  counted : length xs < length ds
  counted = omega (arith, ap length split, length-append xs (v ∷ ys))

  v_is : get_or ds (length xs) no_descriptor ≡ v
  v_is = ap (λ (zs : List Descriptor). get_or zs (length xs) no_descriptor) split ∙ get_or-append_seam xs v ys no_descriptor

  rise : v.alpha.0 < v.beta.0
  rise = (visit_below c name acc).0

  v_layout : (eqb v.layout 1 || eqb v.layout 2) ≡ true
  v_layout = subst (λ (d : Descriptor). (eqb d.layout 1 || eqb d.layout 2) ≡ true) v_is (form_layout c _ _ (region_at c ds sound_c (length xs) counted).form)

  v_rules : Rules c ds v
  v_rules = subst (λ (d : Descriptor). Rules c ds d) v_is (p.rules (length xs) counted)

  v_region : Region v v.beta.0
  v_region =
      let r = subst (λ (d : Descriptor). Region d act.beta.0) v_is (region_below c ds sound_c (length xs) counted) in
      record { some = r.some; upto = omega arith; own = r.own; few = r.few }

  -- a region before it ends where it starts, or before
  before_visit : (k : ℕ) → k < length xs → (get_or ds k no_descriptor).beta.0 ≤ v.alpha.0
  before_visit k h =
      let r = region_at c ds sound_c k (omega (arith, counted)) in
      let u = region_at c ds sound_c (length xs) counted in
      omega (arith, r.beta, at_alpha c _ _ _ u, ap (λ (d : Descriptor). d.alpha.0) v_is, linked_rise (chain_starts c ds sound_c) (suc k) (length xs) h (omega (arith, counted)))

  -- layout and c are one for all
  layout_act : v.layout ≡ act.layout
  layout_act = ap (λ (d : Descriptor). d.layout) (sym v_is) ∙ layout_at c ds sound_c (length xs) counted

  cost_act : cost_of v ≡ cost_of act
  cost_act = ap cost_of (sym v_is) ∙ cost_at c ds sound_c (length xs) counted

  blocks_after : block_count t ≡ block_count c
  unfolding block_count
  blocks_after = ap (λ (m : ℕ). m / 512) (stored_length (length c) c refl (revert_whole c name acc))

  -- what the step makes of the volumes before
  there : i < length ss
  there = index_below ss name acc.there

  i_is : length xs ≡ i
  i_is = length-take-le i ss (omega (arith, there))

  stays : (n : ℕ) → staying (revision_of c) i ≡ n → take (staying (revision_of c) (volume_index (placed_volumes c ss) name)) (placed_volumes c ss) ≡ placed_volumes c (take n ss)
  stays n e = ap (λ (k : ℕ). take (staying (revision_of c) k) (placed_volumes c ss)) (volume_index_lem c ss name) ∙ ap (λ (k : ℕ). take k (placed_volumes c ss)) e ∙ volumes_take c ss n

  goes : get_or (placed_volumes c ss) (volume_index (placed_volumes c ss) name) no_places ≡ placed_volume c v
  goes = ap (λ (k : ℕ). get_or (placed_volumes c ss) k no_places) (volume_index_lem c ss name) ∙ volumes_get c ss i there

  active_is : placed_active (placed_of c) (named_volume (get_or (placed_volumes c ss) (volume_index (placed_volumes c ss) name) no_places) act.name) (volume_index (placed_volumes c ss) name)
      ≡ placed_active (placed_of c) (named_volume (placed_volume c v) act.name) i
  active_is =
      ap (λ (u : PlacedVolume). placed_active (placed_of c) (named_volume u act.name) (volume_index (placed_volumes c ss) name)) goes
      ∙ ap (λ (k : ℕ). placed_active (placed_of c) (named_volume (placed_volume c v) act.name) k) (volume_index_lem c ss name)

  -- the card's, by the descriptors that stay and the active one
  reverted_by : (n : ℕ) (y : Descriptor) → staying (revision_of c) i ≡ n → descriptors_of t ≡ take n ss ++ (y ∷ []) → cost_of y ≡ cost_of v → y.layout ≡ v.layout → placed_volumes t (take n ss) ≡ placed_volumes c (take n ss)
      → placed_volume t y ≡ placed_active (placed_of c) (named_volume (placed_volume c v) act.name) i → placed_of t ≡ placed_change (Reverts name) (placed_of c)
  unfolding placed_change placed_of placed_volume
  reverted_by n y e after cost_of_lem layout_of first active =
      placed_parts t blocks_after (reverted_revision c name acc) (ap snapshots_of after ∙ snapshots_snoc (take n ss) y) (ap active_of after ∙ active_snoc (take n ss) y)
      (cost_of_lem ∙ cost_act) (layout_of ∙ layout_act) (first ∙ sym (stays n e)) (active ∙ sym active_is)

  -- revision 0: those before it stay, and its descriptor is the active one
  module _ (zero : eqb (revision_of c) 1 ≡ false) where
    abbrev chain_0 : List Descriptor
    chain_0 = xs ++ (w ∷ [])

    after_0 : descriptors_of t ≡ chain_0
    after_0 = descriptors_are t chain_0 (reverted_0 c name acc zero)

    owners_0 : (q : ℕ) → q < v.beta.0 → owner_index chain_0 q ≡ owner_index ds q
    owners_0 = same_owners c ds chain_0 xs v w ys [] sound_c split refl refl (omega arith)

    below_0 : 0 < v.alpha.0 → Below c t v.alpha.0
    below_0 h =
        below_stored c (revert_stores c name) v.alpha.0 (revert_whole c name acc) h (omega (arith, member_inside c ds xs v ys sound_c split))
        (λ q b. revert_above c name acc q (rw zero b))

    first_at : (k : ℕ) → k < length xs → placed_volume t (get_or xs k no_descriptor) ≡ placed_volume c (get_or xs k no_descriptor)
    unfolding placed_volume
    first_at k h =
        let d = get_or ds k no_descriptor in
        let in_chain : k < length ds = omega (arith, counted) in
        let r = region_below c ds sound_c k in_chain in
        let region : Region d v.alpha.0 = record { some = r.some; upto = before_visit k h; own = r.own; few = r.few } in
        subst (λ (y : Descriptor). placed_volume t y ≡ placed_volume c y) (first_is c name p acc zero k h)
        (volume_kept c t chain_0 v.alpha.0 after_0 (λ q b. owners_0 q (omega (arith, b, rise))) d d (form_layout c _ d (region_at c ds sound_c k in_chain).form) refl refl (p.rules k in_chain) region
        (blocks_kept c name p acc zero d) (first_kept c name p acc zero k h)
        (λ j b. sym (local_table c t v.alpha.0 (below_0 (omega (arith, r.some, region.upto))) d region j (omega (arith, b, r.few)))))

    phi_last : (j : ℕ) → j < 112 → phi_at t w j ≡ phi_at c v j
    unfolding phi_at
    phi_last j h = old_phi c name p acc zero j h

    volume_last : placed_volume t w ≡ placed_active (placed_of c) (named_volume (placed_volume c v) act.name) i
    unfolding placed_volume placed_active placed_of
    volume_last =
        volume_kept c t chain_0 v.beta.0 after_0 owners_0 v w v_layout refl refl v_rules v_region (blocks_kept c name p acc zero v) (last_kept c name p acc zero)
        (λ j b. table_as c t v w j refl refl (phi_last j (omega (arith, b, v_region.few))))
        ∙ sym (rw zero)

    placed_revert_0 : placed_of t ≡ placed_change (Reverts name) (placed_of c)
    unfolding staying
    placed_revert_0 = reverted_by i w (rw zero) after_0 refl refl (volumes_same c t xs first_at) volume_last

  -- revision 1: it stays too, and a region is opened from it
  module _ (one : eqb (revision_of c) 1 ≡ true) where
    abbrev new : Descriptor
    new = reopened_of w

    abbrev chain_1 : List Descriptor
    chain_1 = xs ++ (v ∷ new ∷ [])

    abbrev zs : List Descriptor
    zs = take (suc i) ss

    after_1 : descriptors_of t ≡ chain_1
    after_1 = descriptors_are t chain_1 (reverted_1 c name acc one)

    zs_is : zs ≡ xs ++ (v ∷ [])
    zs_is = take-suc ss i no_descriptor there

    after_zs : descriptors_of t ≡ zs ++ (new ∷ [])
    after_zs = after_1 ∙ sym (append_snoc xs v (new ∷ [])) ∙ ap (λ (l : List Descriptor). l ++ (new ∷ [])) (sym zs_is)

    owners_1 : (q : ℕ) → q < v.beta.0 → owner_index chain_1 q ≡ owner_index ds q
    owners_1 = same_owners c ds chain_1 xs v v ys (new ∷ []) sound_c split refl refl (omega arith)

    zs_at : (k : ℕ) → k < length zs → (k ≤ length xs) × (get_or ds k no_descriptor ≡ get_or zs k no_descriptor)
    zs_at k h =
        let n : k ≤ length xs = omega (arith, h, ap length zs_is, length-append xs (v ∷ [])) in (
          n,
          first_in c name p acc one k n
              ∙ ap (λ (l : List Descriptor). get_or l k no_descriptor) (sym (append_snoc xs v (new ∷ [])))
              ∙ get_or-append (xs ++ (v ∷ [])) (new ∷ []) no_descriptor k (omega (arith, length-append xs (v ∷ [])))
              ∙ ap (λ (l : List Descriptor). get_or l k no_descriptor) (sym zs_is),
        )

    upto_at : (k : ℕ) → k < length zs → placed_volume t (get_or zs k no_descriptor) ≡ placed_volume c (get_or zs k no_descriptor)
    unfolding placed_volume
    upto_at k h =
        let d = get_or ds k no_descriptor in
        let n = zs_at k h in
        let in_chain : k < length ds = omega (arith, counted, n.0) in
        let r = region_below c ds sound_c k in_chain in
        let upto = upto_visit c name p acc one k n.0 in
        let region : Region d v.beta.0 = record { some = r.some; upto = upto; own = r.own; few = r.few } in
        subst (λ (y : Descriptor). placed_volume t y ≡ placed_volume c y) n.1
        (volume_kept c t chain_1 v.beta.0 after_1 owners_1 d d (form_layout c _ d (region_at c ds sound_c k in_chain).form) refl refl (p.rules k in_chain) region
        (below_kept c name p acc one d upto) (upto_kept c name p acc one k n.0)
        (λ j b. sym (local_table c t v.beta.0 (below_visit c name acc one) d region j (omega (arith, b, r.few)))))

    phi_new : (j : ℕ) → j < 112 → phi_at t new j ≡ phi_at c v j
    unfolding phi_at
    phi_new j h = new_phi c name p acc one j h

    new_is : get_or chain_1 (suc i) no_descriptor ≡ new
    new_is =
        let k : suc i ≡ length xs + 1 = omega (arith, i_is) in
        ap (λ (j : ℕ). get_or chain_1 j no_descriptor) k ∙ get_or-append-add xs (v ∷ new ∷ []) 1 no_descriptor

    active_opened : placed_active (placed_of c) (named_volume (placed_volume c v) act.name) i ≡ placed_opening (placed_of c) (named_volume (placed_volume c v) act.name) (suc i)
    unfolding placed_active placed_of
    active_opened = rw one

    opening_is : placed_opening (placed_of c) (named_volume (placed_volume c v) act.name) (suc i)
        ≡ record { name = act.name; beta = (placed_volume c v).beta + cost_of v; tables = opened v.layout (suc i) (placed_volume c v).tables; cells = (placed_volume c v).cells }
    unfolding placed_opening placed_of
    opening_is = rw (cost_act, layout_act)

    volume_new : placed_volume t new ≡ placed_active (placed_of c) (named_volume (placed_volume c v) act.name) i
    unfolding placed_volume
    volume_new =
        volume_opened c t chain_1 v.beta.0 after_1 owners_1 v new v_layout refl refl v_rules v_region (below_kept c name p acc one v (omega arith)) (new_kept c name p acc one)
        (reverted_1 c name acc one) (suc i) (omega (arith, i_is, length-append xs (v ∷ new ∷ []))) new_is phi_new
        ∙ sym (active_opened ∙ opening_is)

    placed_revert_1 : placed_of t ≡ placed_change (Reverts name) (placed_of c)
    unfolding staying
    placed_revert_1 = reverted_by (suc i) new (rw one) after_zs refl refl (volumes_same c t zs upto_at) volume_new

pub placed_revert : (c name : List ℕ) → Passes c → RevertPassed c name → placed_of (store_all c (revert_stores c name)) ≡ placed_change (Reverts name) (placed_of c)
placed_revert c name p acc = by (eqb (revision_of c) 1) refl
  where
    by : (z : Bool) → eqb (revision_of c) 1 ≡ z → placed_of (store_all c (revert_stores c name)) ≡ placed_change (Reverts name) (placed_of c)
    by true q = placed_revert_1 c name p acc q
    by false q = placed_revert_0 c name p acc q
