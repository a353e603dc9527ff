-- The Placed of the card after a write is its own step.
use mathlib.Core.Path.{◌≡◌, refl, sym, ap, ◌∙◌, subst}
use mathlib.Core.Bool.{Bool, true, false, ◌||◌}
use mathlib.Core.List.{List, [], ◌∷◌, ◌++◌}
use Prim.Native.Nat.{ℕ, ◌+◌, ◌-◌, ◌/◌, ◌%◌, ◌≤◌, ◌<◌}
use native.Mathlib.Omega.{arith}
use lib.ListN.{length, get_or, set, length-append, get_or-append}
use lib.Seq.{get_or-append_seam}
use lib.Dec.{eqb}
use borrow.Author.Tests.{ne_eqb}
use Rattle.blocks.specs.Pick.{pick}
use Rattle.blocks.specs.Bytes.{block_count, store_all}
use Rattle.blocks.specs.Descriptor.{no_descriptor, table_count, extended_of}
use Rattle.blocks.specs.declared.descriptor.Descriptor.{Descriptor}
use Rattle.blocks.proofs.StoreLists.{stored_length}
use Rattle.chains.specs.Chain.{Sound, active_of, chain}
use Rattle.links.proofs.SoundLaws.{form_layout}
use Rattle.links.proofs.ChainLaws.{active_snoc, descriptors_are}
use Rattle.links.proofs.LinkedLaws.{active_at}
use Rattle.entries.specs.InPlace.{owner_index}
use Rattle.entries.specs.Entry.{table_of, find, need, entry_at}
use Rattle.entries.specs.Rules.{entry_of, Rules}
use Rattle.entries.proofs.EntryLaws.{placed_below}
use Rattle.entries.proofs.LocalLaws.{Region, local_table}
use Rattle.entries.proofs.RulesLaws.{shared_entry}
use Rattle.entries.proofs.TableLaws.{table_own, layout_two, group_below}
use Rattle.calls.specs.Parts.{descriptors_of, snapshots_of, found_through}
use Rattle.calls.specs.Check.{Passes}
use Rattle.calls.specs.Stores.{write_stores}
use Rattle.calls.proofs.Passed.{WritePassed}
use Rattle.calls.proofs.CardLaws.{chain_is, snapshots_snoc}
use Rattle.calls.proofs.ActiveLaws.{chain_some, region_at, active_last, active_form, active_rise}
use Rattle.changes.proofs.WholeLaws.{write_whole}
use Rattle.changes.proofs.WrittenChain.{written_chain, written_revision}
use Rattle.changes.proofs.WrittenRules.{snapshot_region, write_below, snapshot_rules}
use Rattle.changes.proofs.WriteFacts.{WriteFacts, WritePlaces}
use Rattle.changes.proofs.WritePasses.{write_facts, write_places}
use Rattle.claims.specs.History.{At}
use Rattle.claims.specs.Kinds.{Writes}
use Rattle.places.specs.Placed.{Held, placed_need, placed_write, placed_change, place_of, table_place, cell_found, cell_place, values_from, placed_volume, placed_volumes, placed_of, PlacedNeedClaim}
use Rattle.places.proofs.PlacedLaws.{values_set, placed_length, volumes_same, placed_parts, volume_parts, place_set, cell_named, cell_rules, table_under, owner_at_lem, active_region, same_owners, table_kept, cell_kept, volume_kept}
use Rattle.places.proofs.PlacedNeed.{placed_need_claim}

module _ (c : List ℕ) (passes : Passes c) (l : ℕ) (block : List ℕ) (ok : WritePassed c l block) where
  abbrev ds : List Descriptor
  ds = descriptors_of c

  abbrev d : Descriptor
  d = active_of ds

  abbrev xs : List Descriptor
  xs = snapshots_of ds

  abbrev n : ℕ
  n = need d.alpha.0 (found_through c d l)

  abbrev x : Descriptor
  x = extended_of d n

  abbrev es : List Descriptor
  es = xs ++ (x ∷ [])

  abbrev t : List ℕ
  t = store_all c (write_stores c l block)

  sound_c : chain c ≡ Sound ds
  sound_c = chain_is (chain c) passes.sound

  sound_t : chain t ≡ Sound es
  sound_t = written_chain c l block ok

  split : ds ≡ xs ++ (d ∷ [])
  split = active_last c ds sound_c

  after : descriptors_of t ≡ es
  after = descriptors_are t es sound_t

  count : length ds ≡ length xs + 1
  count = ap length split ∙ length-append xs (d ∷ [])

  inside : l < d.volume
  inside = ok.below

  facts : WriteFacts c t es d x l block
  facts = write_facts c passes l block ok

  places : WritePlaces c t d x l
  places = write_places c passes l block ok

  owners : (q : ℕ) → q < d.beta.0 → owner_index es q ≡ owner_index ds q
  owners = same_owners c ds es xs d x [] [] sound_c split refl refl (omega arith)

  rise : d.alpha.0 < d.beta.0
  rise = active_rise c ds sound_c

  -- the snapshots: their regions end at or below the active alpha, and every block below that is kept
  snapshot_at : (k : ℕ) → k < length xs → placed_volume t (get_or ds k no_descriptor) ≡ placed_volume c (get_or ds k no_descriptor)
  unfolding placed_volume
  snapshot_at k h =
      let e = get_or ds k no_descriptor in
      let r = snapshot_region c passes l block ok k h in
      let low = write_below c passes l block ok (omega (arith, r.some, r.upto)) in
      let in_c : k < length ds = omega (arith, count) in
      let layout = form_layout c _ e (region_at c ds sound_c k in_c).form in
      let rules = passes.rules k in_c in
      volume_kept c t es d.alpha.0 after (λ q b. owners q (omega (arith, b, rise))) e e layout refl refl rules r
      (λ q p z. sym (low.blocks q (omega (arith, placed_below ds e q p z, r.upto))))
      (snapshot_rules c passes l block ok k h, λ j b. sym (shared_entry c t d.alpha.0 low e r ds es layout rules j (omega (arith, group_below j e.volume b))))
      (λ i b. sym (local_table c t d.alpha.0 low e r i (omega (arith, b, r.few))))

  at_before : (k : ℕ) → k < length xs → get_or ds k no_descriptor ≡ get_or xs k no_descriptor
  at_before k h = ap (λ (zs : List Descriptor). get_or zs k no_descriptor) split ∙ get_or-append xs (d ∷ []) no_descriptor k h

  snapshots_after : placed_volumes t xs ≡ placed_volumes c xs
  snapshots_after = volumes_same c t xs (λ k h. subst (λ (y : Descriptor). placed_volume t y ≡ placed_volume c y) (at_before k h) (snapshot_at k h))

  -- the active one
  active_rules : Rules c ds d
  active_rules =
      let some = chain_some c ds sound_c in
      subst (λ (y : Descriptor). Rules c ds y) (sym (active_at ds some)) (passes.rules (length ds - 1) (omega (arith, some)))

  layout_is : (eqb d.layout 1 || eqb d.layout 2) ≡ true
  layout_is = form_layout c _ d (active_form c ds sound_c)

  region : Region d d.beta.0
  region = active_region c ds sound_c

  in_es : length xs < length es
  in_es = omega (arith, length-append xs (x ∷ []))

  x_is : get_or es (length xs) no_descriptor ≡ x
  x_is = get_or-append_seam xs x [] no_descriptor

  owner_active : (q : ℕ) → d.alpha.0 ≤ q → q < x.beta.0 → owner_index es q ≡ length xs
  owner_active q a b =
      owner_at_lem t es sound_t (length xs) in_es q (omega (arith, a, ap (λ (y : Descriptor). y.alpha.0) x_is)) (omega (arith, b, ap (λ (y : Descriptor). y.beta.0) x_is))

  group : l / 128 < table_count d.volume
  group = group_below l d.volume inside

  entry_some : entry_of t x l ≡ 0 → ⊥
  entry_some z = facts.some (sym facts.set ∙ z)

  table_some : table_of t x (l / 128) ≡ 0 → ⊥
  unfolding entry_of
  table_some z = entry_some (ap (λ (q : ℕ). pick (eqb q 0) 0 (entry_at t q (l % 128))) z)

  table_from : (o : Bool) → eqb d.layout 1 ≡ o → d.alpha.0 ≤ table_of t x (l / 128)
  table_from true o = omega (arith, table_own t x (l / 128) o)
  table_from false o = (facts.rules.phi (layout_two d.layout layout_is o)).table_above l inside places.own entry_some

  table_until : table_of t x (l / 128) < x.beta.0
  table_until = table_under t es x layout_is facts.rules (λ one. omega (arith, region.own one)) (l / 128) group table_some

  table_set : table_place t x (l / 128) ≡ At (length xs)
  unfolding table_place
  table_set =
      let q = table_of t x (l / 128) in
      ap (λ (zs : List Descriptor). place_of zs q) after ∙ place_set es q (length xs) table_some (owner_active q (table_from (eqb d.layout 1) refl) table_until)

  table_other : (i : ℕ) → i < table_count d.volume → (i ≡ l / 128 → ⊥) → table_place t x i ≡ table_place c d i
  table_other i h z = table_kept c t es d.beta.0 after owners d x layout_is refl refl active_rules region i h (places.tables i h z)

  cell_set : cell_place t x l ≡ Held (length xs) block
  unfolding cell_place
  cell_set =
      let q = facts.to in
      let own : d.alpha.0 ≤ q = subst (λ (m : ℕ). d.alpha.0 ≤ m) facts.set places.own in
      let until : q < x.beta.0 = subst (λ (m : ℕ). m < x.beta.0) facts.set (placed_below es x (entry_of t x l) (facts.rules.tables.in_place l inside) entry_some) in
      ap (λ (zs : List Descriptor). cell_found t zs (find t zs x l)) after
      ∙ cell_rules t es x layout_is facts.rules l inside
      ∙ ap (cell_named t es) facts.set
      ∙ rw (ne_eqb q 0 facts.some, owner_active q own until, facts.bytes)

  cell_other : (j : ℕ) → j < d.volume → (j ≡ l → ⊥) → cell_place t x j ≡ cell_place c d j
  cell_other j h z = cell_kept c t es d.beta.0 after owners d x layout_is refl refl active_rules region facts.rules j h (facts.other j h z) (facts.kept j h z)

  tables_after : values_from (table_place t x) (table_count d.volume) 0 ≡ set (values_from (table_place c d) (table_count d.volume) 0) (l / 128) (At (length xs))
  tables_after =
      values_set (table_place c d) (table_place t x) (At (length xs)) (table_count d.volume) 0 (l / 128) group (λ j u v w. table_other j (omega arith) (λ q. w (omega arith)))
      (λ j q. let e : j ≡ l / 128 = omega arith in ap (table_place t x) e ∙ table_set)

  cells_after : values_from (cell_place t x) d.volume 0 ≡ set (values_from (cell_place c d) d.volume 0) l (Held (length xs) block)
  cells_after =
      values_set (cell_place c d) (cell_place t x) (Held (length xs) block) d.volume 0 l inside (λ j u v w. cell_other j (omega arith) (λ q. w (omega arith)))
      (λ j q. let e : j ≡ l = omega arith in ap (cell_place t x) e ∙ cell_set)

  needs : placed_need (placed_of c) l ≡ n
  unfolding PlacedNeedClaim
  needs = placed_need_claim c l passes.sound inside ok.in_place

  active_after : placed_volume t x ≡ placed_write (placed_of c) l block
  unfolding placed_write placed_of placed_volume
  active_after = volume_parts t x d.volume _ _ refl tables_after cells_after ∙ rw (needs, placed_length c xs)

  blocks_after : block_count t ≡ block_count c
  unfolding block_count
  blocks_after = ap (λ (k : ℕ). k / 512) (stored_length (length c) c refl (write_whole c l block ok))

  written_placed : placed_of t ≡ placed_change (Writes l block) (placed_of c)
  unfolding placed_change placed_of
  written_placed =
      placed_parts t blocks_after (written_revision c l block ok) (ap snapshots_of after ∙ snapshots_snoc xs x) (ap active_of after ∙ active_snoc xs x) refl refl snapshots_after active_after

pub placed_write_lem : (c : List ℕ) (l : ℕ) (block : List ℕ) → Passes c → WritePassed c l block → placed_of (store_all c (write_stores c l block)) ≡ placed_change (Writes l block) (placed_of c)
placed_write_lem c l block p ok = written_placed c p l block ok
