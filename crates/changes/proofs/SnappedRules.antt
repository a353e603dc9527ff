-- What an accepted snap leaves of the entries of each descriptor, on a card that passes; and that the card still passes.
use mathlib.Core.Path.{◌≡◌, refl, sym, ap, ◌∙◌, subst}
use mathlib.Core.Bool.{Bool, true, false, ◌||◌}
use mathlib.Core.List.{List, [], ◌∷◌, ◌++◌}
use Prim.Native.Nat.{ℕ, suc, ◌+◌, ◌*◌, ◌-◌, ◌≤◌, ◌<◌}
use native.Mathlib.Omega.{arith}
use lib.ListN.{length, get_or, length-append, get_or-append}
use lib.Seq.{get_or-append-add, get_or-append_seam}
use lib.Dec.{eqb, ltb}
use borrow.Author.Tests.{eqb-true, eqb-false, ltb-true, ltb-false}
use Rattle.blocks.specs.Bytes.{block_at, Store, store, store_all}
use Rattle.blocks.specs.Descriptor.{table_count, cost_of, no_descriptor, tail_at, descriptor_block, renamed_of, linked_of, reopened_of, copying}
use Rattle.blocks.specs.declared.descriptor.Descriptor.{Descriptor}
use Rattle.chains.specs.Chain.{active_of, chain, Sound}
use Rattle.links.proofs.SoundLaws.{form_most, form_layout}
use Rattle.links.proofs.ChainLaws.{descriptors_are, is_sound}
use Rattle.blocks.proofs.DescriptorLaws.{cost_least, cost_one}
use Rattle.links.proofs.LinkedLaws.{RegionAt, region_start, linked_rise, at_alpha, at_long}
use Rattle.entries.specs.InPlace.{is_in_place}
use Rattle.entries.specs.Entry.{entry_at, phi_at}
use Rattle.entries.specs.Rules.{Rules, entry_of}
use Rattle.entries.proofs.EntryLaws.{placed_below}
use Rattle.calls.specs.Parts.{descriptors_of, snapshots_of}
use Rattle.calls.specs.Check.{Passes}
use Rattle.calls.specs.Stores.{snap_stores}
use Rattle.blocks.proofs.StoreLists.{Whole, none, also, stored_join, stored_length, stored_other, stored_append, copies_stored, copied_in, pair_stored}
use Rattle.entries.proofs.TableLaws.{placed_apart, own_inside, few_tables, block_entry, phi_stored, under}
use Rattle.calls.proofs.Passed.{SnapPassed}
use Rattle.entries.proofs.ExtendedLaws.{placed_longer}
use Rattle.calls.proofs.CardLaws.{chain_is, area_kept}
use Rattle.calls.proofs.ActiveLaws.{chain_starts, region_at}
use Rattle.entries.proofs.RulesLaws.{rules_renamed, rules_moved, rules_reopened, entry_renamed, moved_entry, reopened_entry}
use Rattle.entries.proofs.LocalLaws.{phi_shared}
use Rattle.changes.proofs.SnappedChain.{stores_are, whole, d_low, room_bytes, old_fits, new_fits, old_long, new_long, new_inside, d_inside, copies_whole, old_block, new_block, same_long, split, snapped_chain}

-- a snap
module _ (c name : List ℕ) (pass : Passes c) (e : SnapPassed c name) where
  abbrev chn : List Descriptor
  chn = descriptors_of c

  abbrev act : Descriptor
  act = active_of (descriptors_of c)

  abbrev base : ℕ
  base = act.alpha.0

  abbrev top : ℕ
  top = act.beta.0

  abbrev snaps : List Descriptor
  snaps = snapshots_of (descriptors_of c)

  abbrev old : Descriptor
  old = linked_of (renamed_of act name) act.beta

  abbrev opened : Descriptor
  opened = reopened_of act

  abbrev then_chain : List Descriptor
  then_chain = snaps ++ (old ∷ opened ∷ [])

  abbrev t : List ℕ
  t = store_all c (snap_stores c name)

  abbrev copies : List Store
  copies = copying c (base + 1) (top + 1) (cost_of act - 1)

  abbrev pair : List Store
  pair = store top (descriptor_block opened (tail_at c base)) ∷ store base (descriptor_block old (tail_at c base)) ∷ []

  sound_c : chain c ≡ Sound chn
  sound_c = chain_is (chain c) pass.sound

  are : snap_stores c name ≡ copies ++ pair
  are = stores_are c name e

  cut : chn ≡ snaps ++ (act ∷ [])
  cut = split c name e

  long : length c ≡ length t
  long = same_long c name e

  low : base < top
  low = d_low c name e

  room : 512 * (top + cost_of act) ≤ length c
  room = room_bytes c name e

  base_inside : 512 * base + 512 ≤ length c
  base_inside = d_inside c name e

  top_inside : 512 * top + 512 ≤ length c
  top_inside = new_inside c name e

  pub old_phi : (i : ℕ) → i < 112 → phi_at t act i ≡ phi_at c act i
  unfolding phi_at
  old_phi = phi_stored c t old act base_inside (omega (arith, long, base_inside)) (old_block c name e) (old_fits c name e)

  pub new_phi : (i : ℕ) → i < 112 → phi_at t opened i ≡ phi_at c act i
  new_phi = phi_stored c t opened act base_inside (omega (arith, long, top_inside)) (new_block c name e) (new_fits c name e)

  kept : (q : ℕ) → (base ≡ q → ⊥) → q < top → block_at t q ≡ block_at c q
  kept q n h =
      stored_other (length c) c refl (whole c name e) q
      (rw (are, stored_join copies pair q, copies_stored c (base + 1) (top + 1) (cost_of act - 1) q (omega (arith, h)))
      (pair_stored top base (descriptor_block opened (tail_at c base)) (descriptor_block old (tail_at c base)) q (λ k. omega (arith, k, h)) n))

  pair_whole : Whole (length c) pair
  pair_whole =
      also top (descriptor_block opened (tail_at c base)) (new_long c name e) top_inside
      (also base (descriptor_block old (tail_at c base)) (old_long c name e) base_inside none)

  copied : act.layout ≡ 1 → (i : ℕ) → i < table_count act.volume → block_at t (top + 1 + i) ≡ block_at c (base + 1 + i)
  copied one i h =
      let n = cost_one act one in
      let back : base + 1 + (top + 1 + i - (top + 1)) ≡ base + 1 + i = omega arith in
      rw are
      (ap (λ (x : List ℕ). block_at x (top + 1 + i)) (stored_append c copies pair)
      ∙ stored_other (length c) (store_all c copies) (stored_length (length c) c refl (copies_whole c name e)) pair_whole (top + 1 + i)
      (pair_stored top base (descriptor_block opened (tail_at c base)) (descriptor_block old (tail_at c base)) (top + 1 + i) (λ k. omega (arith, k)) (λ k. omega (arith, k, low)))
      ∙ copied_in c c refl (base + 1) (top + 1) (cost_of act - 1) (omega (arith, low)) (omega (arith, room, n)) (top + 1 + i) (omega arith) (omega (arith, n, h)) (eqb (top + 1 + i) (top + 1)) refl
      ∙ ap (λ (x : ℕ). block_at c x) back)

  -- blocks in place of a region that stood before are no descriptors
  pub blocks_kept : (d : Descriptor) → d.beta.0 ≤ top → (m : ℕ) → is_in_place chn d m ≡ true → (m ≡ 0 → ⊥) → block_at t m ≡ block_at c m
  blocks_kept d b m q z =
      kept m (placed_apart snaps act [] d m (subst (λ (zs : List Descriptor). is_in_place zs d m ≡ true) cut q) z) (omega (arith, placed_below chn d m q z, b))

  placed_entry : (d : Descriptor) → d.beta.0 ≤ top → (m : ℕ) → is_in_place chn d m ≡ true → (m ≡ 0 → ⊥) → (j : ℕ) → j < 128 → entry_at t m j ≡ entry_at c m j
  placed_entry d b m q z j l = block_entry t c m m j (blocks_kept d b m q z) l

  -- a descriptor that stays where it is: its rules and its entries
  moved : (d : Descriptor) (p end : ℕ) → RegionAt c p end d → end ≤ top → Rules c chn d → ((i : ℕ) → i < 112 → phi_at t d i ≡ phi_at c d i)
      → (d.layout ≡ 1 → (i : ℕ) → i < table_count d.volume → base ≡ d.alpha.0 + 1 + i → ⊥) → Rules t then_chain d × ((l : ℕ) → l < d.volume → entry_of t d l ≡ entry_of c d l)
  moved d p end r b rule phi apart =
      let layout = form_layout c p d r.form in
      let few = few_tables d.volume (form_most c p d r.form) in
      let own : d.layout ≡ 1 → (i : ℕ) → i < table_count d.volume → (j : ℕ) → j < 128 → entry_at t (d.alpha.0 + 1 + i) j ≡ entry_at c (d.alpha.0 + 1 + i) j =
      λ one i h j l. block_entry t c (d.alpha.0 + 1 + i) (d.alpha.0 + 1 + i) j
      (kept (d.alpha.0 + 1 + i) (apart one i h) (omega (arith, own_inside d p end one (at_long c p end d r), at_alpha c p end d r, b))) l in
      let placed = placed_entry d (omega (arith, b, r.beta)) in (
        rules_moved c t chn d layout few rule phi own placed then_chain
            (λ q h. placed_longer act name act.beta opened q snaps d d (omega (arith, b, r.beta)) (omega arith) (subst (λ (zs : List Descriptor). is_in_place zs d q ≡ true) cut h)),
        moved_entry c t chn d layout few rule phi own placed,
      )

  pub counted : length snaps < length chn
  counted = omega (arith, ap length cut, length-append snaps (act ∷ []))

  act_is : get_or chn (length snaps) no_descriptor ≡ act
  act_is = ap (λ (zs : List Descriptor). get_or zs (length snaps) no_descriptor) cut ∙ get_or-append_seam snaps act [] no_descriptor

  act_at : RegionAt c (region_start 0 chn (length snaps)) (region_start 0 chn (suc (length snaps))) act
  act_at = subst (λ (d : Descriptor). RegionAt c (region_start 0 chn (length snaps)) (region_start 0 chn (suc (length snaps))) d) act_is (region_at c chn sound_c (length snaps) counted)

  pub act_rules : Rules c chn act
  act_rules = subst (λ (d : Descriptor). Rules c chn d) act_is (pass.rules (length snaps) counted)

  -- what stays of the snapshot made, of the region opened and of those before
  pub old_kept : Rules t then_chain old × ((l : ℕ) → l < act.volume → entry_of t old l ≡ entry_of c act l)
  old_kept =
      let m = moved act (region_start 0 chn (length snaps)) (region_start 0 chn (suc (length snaps))) act_at (omega (arith, act_at.beta)) act_rules old_phi (λ one i h q. omega (arith, q)) in (
        rules_renamed t then_chain act name act.beta m.0,
        λ l h. entry_renamed t act name act.beta l ∙ m.1 l h,
      )

  pub act_layout : (eqb act.layout 1 || eqb act.layout 2) ≡ true
  act_layout = form_layout c _ act act_at.form

  pub new_kept : Rules t then_chain opened × ((l : ℕ) → l < act.volume → entry_of t opened l ≡ entry_of c act l)
  new_kept =
      let few = few_tables act.volume (form_most c _ act act_at.form) in
      let own : act.layout ≡ 1 → (i : ℕ) → i < table_count act.volume → (j : ℕ) → j < 128 → entry_at t (top + 1 + i) j ≡ entry_at c (base + 1 + i) j = λ one i h j l. block_entry t c (top + 1 + i) (base + 1 + i) j (copied one i h) l in
      let placed = placed_entry act (omega arith) in
      let fit : (q : ℕ) → is_in_place chn act q ≡ true → is_in_place then_chain opened q ≡ true =
      λ q h. placed_longer act name act.beta opened q snaps act opened (omega arith) (omega arith) (subst (λ (zs : List Descriptor). is_in_place zs act q ≡ true) cut h) in (
        rules_reopened c t chn then_chain act act_layout few act_rules new_phi own placed fit,
        λ l h. reopened_entry c t chn then_chain act act_layout few act_rules new_phi own placed fit l (under l act.volume h),
      )

  pub first_is : (k : ℕ) → k < length snaps → get_or chn k no_descriptor ≡ get_or snaps k no_descriptor
  first_is k h = ap (λ (zs : List Descriptor). get_or zs k no_descriptor) cut ∙ get_or-append snaps (act ∷ []) no_descriptor k h

  first_below : (k : ℕ) → k < length snaps → region_start 0 chn (suc k) ≤ base
  first_below k h = omega (arith, linked_rise (chain_starts c chn sound_c) (suc k) (length snaps) h (omega (arith, counted)), at_alpha c _ _ act act_at)

  pub first_kept : (k : ℕ) → k < length snaps
      → Rules t then_chain (get_or chn k no_descriptor) × ((l : ℕ) → l < (get_or chn k no_descriptor).volume → entry_of t (get_or chn k no_descriptor) l ≡ entry_of c (get_or chn k no_descriptor) l)
  first_kept k h =
      let d = get_or chn k no_descriptor in
      let p = region_start 0 chn k in
      let end = region_start 0 chn (suc k) in
      let in_chain : k < length chn = omega (arith, counted) in
      let r = region_at c chn sound_c k in_chain in
      let below : end ≤ base = first_below k h in
      let starts : d.alpha.0 < end = omega (arith, at_alpha c p end d r, at_long c p end d r, cost_least d.layout d.volume) in
      moved d p end r (omega (arith, below, low)) (pass.rules k in_chain)
      (λ i g. phi_shared c t d i (omega (arith, starts, below, base_inside)) long (kept d.alpha.0 (λ q. omega (arith, q, below, starts)) (omega (arith, below, starts, low))) g)
      (λ one i g q. omega (arith, q, below, own_inside d p end one (at_long c p end d r), at_alpha c p end d r))

  rules_by : (k : ℕ) → k < length then_chain → (b m : Bool) → ltb k (length snaps) ≡ b → eqb k (length snaps) ≡ m → Rules t then_chain (get_or then_chain k no_descriptor)
  rules_by k h true m q u =
      let l = ltb-true k (length snaps) q in
      subst (λ (x : Descriptor). Rules t then_chain x) (first_is k l ∙ sym (get_or-append snaps (old ∷ opened ∷ []) no_descriptor k l)) (first_kept k l).0
  rules_by k h false true q u =
      subst (λ (x : Descriptor). Rules t then_chain x) (sym (ap (λ (n : ℕ). get_or then_chain n no_descriptor) (eqb-true k (length snaps) u) ∙ get_or-append_seam snaps old (opened ∷ []) no_descriptor)) old_kept.0
  rules_by k h false false q u =
      let is : k ≡ length snaps + 1 = omega (arith, ltb-false k (length snaps) q, eqb-false k (length snaps) u, length-append snaps (old ∷ opened ∷ [])) in
      subst (λ (x : Descriptor). Rules t then_chain x) (sym (ap (λ (n : ℕ). get_or then_chain n no_descriptor) is ∙ get_or-append-add snaps (old ∷ opened ∷ []) 1 no_descriptor)) new_kept.0

  snapped_rules : (k : ℕ) → k < length (descriptors_of t) → Rules t (descriptors_of t) (get_or (descriptors_of t) k no_descriptor)
  snapped_rules =
      subst (λ (zs : List Descriptor). (k : ℕ) → k < length zs → Rules t zs (get_or zs k no_descriptor)) (sym (descriptors_are t then_chain (snapped_chain c name e)))
      (λ k h. rules_by k h (ltb k (length snaps)) (eqb k (length snaps)) refl refl)

  pub passes_snap : Passes t
  passes_snap = record { area = sym (area_kept c t long) ∙ pass.area; sound = is_sound t then_chain (snapped_chain c name e); rules = snapped_rules }
