-- What an accepted revert on revision 1 leaves of the entries of the descriptors that stay and of the region that it opens, on a card that passes; and that
-- the card still passes, on either revision.
use mathlib.Core.Path.{◌≡◌, refl, sym, ap, ◌∙◌, subst}
use mathlib.Core.Bool.{Bool, true, false, ◌||◌}
use mathlib.Core.List.{List, [], ◌∷◌, ◌++◌}
use Prim.Native.Nat.{ℕ, suc, ◌+◌, ◌*◌, ◌≤◌, ◌<◌}
use native.Mathlib.Omega.{arith}
use lib.ListN.{length, get_or, length-append, get_or-append}
use lib.Seq.{get_or-append-add, get_or-append_seam}
use lib.Dec.{eqb, ltb}
use borrow.Author.Tests.{eqb-true, eqb-false, ltb-true, ltb-false}
use Rattle.blocks.specs.Bytes.{block_at, store_all}
use Rattle.blocks.specs.Descriptor.{physical, table_count, cost_of, no_descriptor, revision_of, reopened_of}
use Rattle.blocks.specs.declared.descriptor.Descriptor.{Descriptor}
use Rattle.chains.specs.Chain.{active_of, chain, Sound}
use Rattle.links.proofs.SoundLaws.{form_most, form_layout}
use Rattle.links.proofs.ChainLaws.{descriptors_are, is_sound}
use Rattle.links.proofs.LinkedLaws.{RegionAt, region_start, linked_rise}
use Rattle.blocks.proofs.DescriptorLaws.{cost_least, cost_one}
use Rattle.blocks.proofs.RegionLaws.{reopening_table}
use Rattle.entries.specs.InPlace.{is_in_place}
use Rattle.entries.specs.Entry.{entry_at, phi_at}
use Rattle.entries.specs.Rules.{Rules, entry_of}
use Rattle.entries.proofs.EntryLaws.{placed_below}
use Rattle.entries.proofs.TableLaws.{fewer_placed, few_tables, block_entry, phi_stored, under}
use Rattle.entries.proofs.ExtendedLaws.{placed_longer}
use Rattle.entries.proofs.LocalLaws.{Region}
use Rattle.entries.proofs.RulesLaws.{shared_rules, shared_entry, rules_renamed, rules_reopened, entry_renamed, reopened_entry}
use Rattle.calls.specs.Parts.{descriptors_of, snapshots_of, with_name}
use Rattle.calls.specs.Check.{Passes}
use Rattle.calls.specs.Stores.{activated_of, revert_stores}
use Rattle.calls.proofs.Passed.{RevertPassed}
use Rattle.calls.proofs.CardLaws.{chain_is, area_kept}
use Rattle.calls.proofs.ActiveLaws.{chain_starts, region_at, region_below}
use Rattle.calls.proofs.VisitLaws.{before, behind}
use Rattle.changes.proofs.RevertedChain.{revert_split, visit_below, visit_bytes, called_long, same_long, stores_open, below_visit, new_fits, new_block, reverted_1}
use Rattle.changes.proofs.RevertedRules.{passes_revert_0}

module _ (c name : List ℕ) (pass : Passes c) (e : RevertPassed c name) (one : eqb (revision_of c) 1 ≡ true) where
  abbrev ds : List Descriptor
  ds = descriptors_of c

  abbrev v : Descriptor
  v = with_name (snapshots_of ds) name

  abbrev xs : List Descriptor
  xs = before (snapshots_of ds) name

  abbrev ys : List Descriptor
  ys = behind (snapshots_of ds) name ++ (active_of ds ∷ [])

  abbrev w : Descriptor
  w = activated_of v (active_of ds).name

  abbrev es : List Descriptor
  es = xs ++ (v ∷ reopened_of w ∷ [])

  abbrev t : List ℕ
  t = store_all c (revert_stores c name)

  sound_c : chain c ≡ Sound ds
  sound_c = chain_is (chain c) pass.sound

  split : ds ≡ xs ++ (v ∷ ys)
  split = revert_split c name e

  rise : v.alpha.0 < v.beta.0
  rise = (visit_below c name e).0

  bytes : 512 * (v.beta.0 + cost_of v) ≤ length c
  bytes = visit_bytes c name e

  cost_some : 1 ≤ cost_of v
  cost_some = cost_least v.layout v.volume

  -- what was in place through a descriptor up to the snapshot is in place through one whose region ends no earlier
  fit : (d x : Descriptor) → d.beta.0 ≤ v.beta.0 → d.beta.0 ≤ x.beta.0 → (q : ℕ) → is_in_place ds d q ≡ true → is_in_place es x q ≡ true
  fit d x a b q h =
      placed_longer v v.name v.next (reopened_of w) q xs d x a b
      (fewer_placed v v ys refl refl refl q xs d d refl (subst (λ (zs : List Descriptor). is_in_place zs d q ≡ true) split h))

  pub below_kept : (d : Descriptor) → d.beta.0 ≤ v.beta.0 → (m : ℕ) → is_in_place ds d m ≡ true → (m ≡ 0 → ⊥) → block_at t m ≡ block_at c m
  below_kept d b m q z = sym ((below_visit c name e one).blocks m (omega (arith, placed_below ds d m q z, b)))

  pub visit_counted : length xs < length ds
  visit_counted = omega (arith, ap length split, length-append xs (v ∷ ys))

  pub visit_is : get_or ds (length xs) no_descriptor ≡ v
  visit_is = ap (λ (zs : List Descriptor). get_or zs (length xs) no_descriptor) split ∙ get_or-append_seam xs v ys no_descriptor

  visit_at : RegionAt c (region_start 0 ds (length xs)) (region_start 0 ds (suc (length xs))) v
  visit_at = subst (λ (d : Descriptor). RegionAt c (region_start 0 ds (length xs)) (region_start 0 ds (suc (length xs))) d) visit_is (region_at c ds sound_c (length xs) visit_counted)

  -- the descriptors up to the snapshot
  pub upto_visit : (k : ℕ) → k ≤ length xs → (get_or ds k no_descriptor).beta.0 ≤ v.beta.0
  upto_visit k h =
      omega (arith, linked_rise (chain_starts c ds sound_c) (suc k) (suc (length xs)) (omega arith) (omega (arith, visit_counted)), (region_at c ds sound_c k (omega (arith, visit_counted))).beta, visit_at.beta)

  pub layout_at : (k : ℕ) → k ≤ length xs → (eqb (get_or ds k no_descriptor).layout 1 || eqb (get_or ds k no_descriptor).layout 2) ≡ true
  layout_at k h = form_layout c _ (get_or ds k no_descriptor) (region_at c ds sound_c k (omega (arith, visit_counted))).form

  pub upto_kept : (k : ℕ) → k ≤ length xs
      → Rules t es (get_or ds k no_descriptor) × ((l : ℕ) → l < (get_or ds k no_descriptor).volume → entry_of t (get_or ds k no_descriptor) l ≡ entry_of c (get_or ds k no_descriptor) l)
  upto_kept k h =
      let d = get_or ds k no_descriptor in
      let r = region_below c ds sound_c k (omega (arith, visit_counted)) in
      let region : Region d v.beta.0 = record { some = r.some; upto = upto_visit k h; own = r.own; few = r.few } in
      let rule = pass.rules k (omega (arith, visit_counted)) in (
        shared_rules c t v.beta.0 (below_visit c name e one) d region ds es (layout_at k h) rule (λ q p. fit d d (upto_visit k h) (omega arith) q p),
        λ l g. sym (shared_entry c t v.beta.0 (below_visit c name e one) d region ds es (layout_at k h) rule l (under l d.volume g)),
      )

  -- the region opened from it
  visit_rules : Rules c ds v
  visit_rules = subst (λ (d : Descriptor). Rules c ds d) visit_is (pass.rules (length xs) visit_counted)

  visit_layout : (eqb v.layout 1 || eqb v.layout 2) ≡ true
  visit_layout = form_layout c _ v visit_at.form

  few : table_count v.volume ≤ 112
  few = few_tables v.volume (form_most c _ v visit_at.form)

  pub new_phi : (i : ℕ) → i < 112 → phi_at t (reopened_of v) i ≡ phi_at c v i
  unfolding phi_at
  new_phi = phi_stored c t (reopened_of w) v (omega (arith, rise, bytes)) (omega (arith, same_long c name e, bytes, cost_some)) (new_block c name e one) (new_fits c name e one)

  own : v.layout ≡ 1 → (i : ℕ) → i < table_count v.volume → (j : ℕ) → j < 128 → entry_at t (v.beta.0 + 1 + i) j ≡ entry_at c (v.alpha.0 + 1 + i) j
  own l i h j g =
      block_entry t c (v.beta.0 + 1 + i) (v.alpha.0 + 1 + i) j
      (ap (λ (x : List ℕ). block_at x (v.beta.0 + 1 + i)) (ap (store_all c) (stores_open c name e one)) ∙ reopening_table c w rise bytes (called_long c name e) i (omega (arith, h, cost_one v l))) g

  placed : (m : ℕ) → is_in_place ds v m ≡ true → (m ≡ 0 → ⊥) → (j : ℕ) → j < 128 → entry_at t m j ≡ entry_at c m j
  placed m q z j g = block_entry t c m m j (below_kept v (omega arith) m q z) g

  pub new_kept : Rules t es (reopened_of w) × ((l : ℕ) → l < v.volume → entry_of t (reopened_of w) l ≡ entry_of c v l)
  new_kept =
      let wide : (q : ℕ) → is_in_place ds v q ≡ true → is_in_place es (reopened_of v) q ≡ true = fit v (reopened_of v) (omega arith) (omega arith) in (
        rules_renamed t es (reopened_of v) (active_of ds).name (physical 0) (rules_reopened c t ds es v visit_layout few visit_rules new_phi own placed wide),
        λ l h. entry_renamed t (reopened_of v) (active_of ds).name (physical 0) l ∙ reopened_entry c t ds es v visit_layout few visit_rules new_phi own placed wide l (under l v.volume h),
      )

  -- the card passes
  pub first_in : (k : ℕ) → k ≤ length xs → get_or ds k no_descriptor ≡ get_or es k no_descriptor
  first_in k h = is_by (eqb k (length xs)) refl
    where
      is_by : (b : Bool) → eqb k (length xs) ≡ b → get_or ds k no_descriptor ≡ get_or es k no_descriptor
      is_by true q =
          let n = eqb-true k (length xs) q in
          ap (λ (m : ℕ). get_or ds m no_descriptor) n ∙ visit_is ∙ sym (ap (λ (m : ℕ). get_or es m no_descriptor) n ∙ get_or-append_seam xs v (reopened_of w ∷ []) no_descriptor)
      is_by false q =
          let l : k < length xs = omega (arith, eqb-false k (length xs) q) in
          ap (λ (zs : List Descriptor). get_or zs k no_descriptor) split ∙ get_or-append xs (v ∷ ys) no_descriptor k l ∙ sym (get_or-append xs (v ∷ reopened_of w ∷ []) no_descriptor k l)

  rules_by : (k : ℕ) → k < length es → (b : Bool) → ltb (length xs) k ≡ b → Rules t es (get_or es k no_descriptor)
  rules_by k h true q =
      let is : k ≡ length xs + 1 = omega (arith, ltb-true (length xs) k q, length-append xs (v ∷ reopened_of w ∷ [])) in
      subst (λ (x : Descriptor). Rules t es x) (sym (ap (λ (n : ℕ). get_or es n no_descriptor) is ∙ get_or-append-add xs (v ∷ reopened_of w ∷ []) 1 no_descriptor)) new_kept.0
  rules_by k h false q =
      let l = ltb-false (length xs) k q in
      subst (λ (x : Descriptor). Rules t es x) (first_in k l) (upto_kept k l).0

  rules_after : (k : ℕ) → k < length (descriptors_of t) → Rules t (descriptors_of t) (get_or (descriptors_of t) k no_descriptor)
  rules_after =
      subst (λ (zs : List Descriptor). (k : ℕ) → k < length zs → Rules t zs (get_or zs k no_descriptor)) (sym (descriptors_are t es (reverted_1 c name e one)))
      (λ k h. rules_by k h (ltb (length xs) k) refl)

  passes_revert_1 : Passes t
  passes_revert_1 = record { area = sym (area_kept c t (same_long c name e)) ∙ pass.area; sound = is_sound t es (reverted_1 c name e one); rules = rules_after }

pub passes_revert : (c name : List ℕ) → Passes c → RevertPassed c name → Passes (store_all c (revert_stores c name))
passes_revert c name pass e = by (eqb (revision_of c) 1) refl
  where
    by : (z : Bool) → eqb (revision_of c) 1 ≡ z → Passes (store_all c (revert_stores c name))
    by true q = passes_revert_1 c name pass e q
    by false q = passes_revert_0 c name pass e q
