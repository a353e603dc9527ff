-- What an accepted revert on revision 0 leaves of the entries of the descriptors that stay, on a card that passes; and that the card still passes.
use mathlib.Core.Path.{◌≡◌, refl, sym, ap, ◌∙◌, subst}
use mathlib.Core.Bool.{Bool, true, false}
use mathlib.Core.List.{List, [], ◌∷◌, ◌++◌}
use Prim.Native.Nat.{ℕ, suc, ◌+◌, ◌*◌, ◌≤◌, ◌<◌}
use native.Mathlib.Omega.{arith}
use lib.ListN.{length, get_or, length-append, get_or-append}
use lib.Seq.{get_or-append_seam}
use lib.Dec.{eqb, ltb}
use borrow.Author.Tests.{ltb-true, ltb-false}
use Rattle.blocks.specs.Bytes.{block_at, store_all}
use Rattle.blocks.specs.Descriptor.{physical, table_count, no_descriptor, revision_of, tail_at, descriptor_block}
use Rattle.chains.specs.Chain.{active_of, chain, Sound}
use Rattle.blocks.specs.declared.descriptor.Descriptor.{Descriptor}
use Rattle.links.proofs.SoundLaws.{form_most, form_layout}
use Rattle.links.proofs.ChainLaws.{descriptors_are, is_sound}
use Rattle.blocks.proofs.DescriptorLaws.{cost_least}
use Rattle.links.proofs.LinkedLaws.{RegionAt, region_start, linked_rise, at_alpha, at_long}
use Rattle.entries.specs.InPlace.{is_in_place}
use Rattle.entries.specs.Entry.{entry_at, phi_at}
use Rattle.entries.specs.Rules.{Rules, entry_of}
use Rattle.calls.specs.Parts.{descriptors_of, snapshots_of, with_name}
use Rattle.calls.specs.Check.{Passes}
use Rattle.calls.specs.Stores.{activated_of, revert_stores}
use Rattle.blocks.proofs.StoreLists.{stored_other, one_stored}
use Rattle.entries.proofs.TableLaws.{fewer_placed, placed_apart, own_inside, few_tables, block_entry, phi_stored}
use Rattle.calls.proofs.Passed.{RevertPassed}
use Rattle.links.proofs.MemberLaws.{member_inside}
use Rattle.calls.proofs.CardLaws.{chain_is, area_kept}
use Rattle.calls.proofs.ActiveLaws.{chain_starts, region_at}
use Rattle.entries.proofs.RulesLaws.{rules_renamed, rules_moved, entry_renamed, moved_entry}
use Rattle.entries.proofs.LocalLaws.{phi_shared}
use Rattle.calls.proofs.VisitLaws.{before, behind}
use Rattle.changes.proofs.RevertedChain.{revert_split, stores_are, whole, fits, block, same_long, reverted_0}

-- a revert
module _ (c name : List ℕ) (pass : Passes c) (e : RevertPassed c name) (zero : eqb (revision_of c) 1 ≡ false) where
  abbrev ds : List Descriptor
  ds = descriptors_of c

  abbrev old : Descriptor
  old = with_name (snapshots_of ds) name

  abbrev a : ℕ
  a = old.alpha.0

  abbrev xs : List Descriptor
  xs = before (snapshots_of ds) name

  abbrev ys : List Descriptor
  ys = behind (snapshots_of ds) name ++ (active_of ds ∷ [])

  abbrev made : Descriptor
  made = activated_of old (active_of ds).name

  abbrev es : List Descriptor
  es = xs ++ (made ∷ [])

  abbrev t : List ℕ
  t = store_all c (revert_stores c name)

  sound_c : chain c ≡ Sound ds
  sound_c = chain_is (chain c) pass.sound

  split : ds ≡ xs ++ (old ∷ ys)
  split = revert_split c name e

  long : length c ≡ length t
  long = same_long c name e

  kept : (q : ℕ) → (a ≡ q → ⊥) → block_at t q ≡ block_at c q
  kept q h = stored_other (length c) c refl (whole c name e) q (rw (stores_are c name e zero) (one_stored a (descriptor_block made (tail_at c a)) q h))

  -- blocks in place are no descriptors
  pub blocks_kept : (d : Descriptor) (q : ℕ) → is_in_place ds d q ≡ true → (q ≡ 0 → ⊥) → block_at t q ≡ block_at c q
  blocks_kept d q h n = kept q (placed_apart xs old ys d q (subst (λ (zs : List Descriptor). is_in_place zs d q ≡ true) split h) n)

  inside : 512 * a + 512 ≤ length c
  inside = member_inside c ds xs old ys sound_c split

  pub old_phi : (i : ℕ) → i < 112 → phi_at t old i ≡ phi_at c old i
  unfolding phi_at
  old_phi = phi_stored c t made old inside (omega (arith, long, inside)) (block c name e zero) (fits c name e zero)

  -- a descriptor whose own blocks stay: its rules and its entries
  moved : (d : Descriptor) (p end : ℕ) → RegionAt c p end d → Rules c ds d → ((i : ℕ) → i < 112 → phi_at t d i ≡ phi_at c d i)
      → (d.layout ≡ 1 → (i : ℕ) → i < table_count d.volume → a ≡ d.alpha.0 + 1 + i → ⊥) → Rules t es d × ((l : ℕ) → l < d.volume → entry_of t d l ≡ entry_of c d l)
  moved d p end r rule phi apart =
      let layout = form_layout c p d r.form in
      let few = few_tables d.volume (form_most c p d r.form) in
      let own : d.layout ≡ 1 → (i : ℕ) → i < table_count d.volume → (j : ℕ) → j < 128 → entry_at t (d.alpha.0 + 1 + i) j ≡ entry_at c (d.alpha.0 + 1 + i) j =
      λ one i h j l. block_entry t c (d.alpha.0 + 1 + i) (d.alpha.0 + 1 + i) j (kept (d.alpha.0 + 1 + i) (apart one i h)) l in
      let placed : (m : ℕ) → is_in_place ds d m ≡ true → (m ≡ 0 → ⊥) → (j : ℕ) → j < 128 → entry_at t m j ≡ entry_at c m j = λ m q z j l. block_entry t c m m j (blocks_kept d m q z) l in (
        rules_moved c t ds d layout few rule phi own placed es
            (λ q h. fewer_placed old made ys refl refl refl q xs d d refl (subst (λ (zs : List Descriptor). is_in_place zs d q ≡ true) split h)),
        moved_entry c t ds d layout few rule phi own placed,
      )

  pub counted : length xs < length ds
  counted = omega (arith, ap length split, length-append xs (old ∷ ys))

  pub first_is : (k : ℕ) → k < length xs → get_or ds k no_descriptor ≡ get_or xs k no_descriptor
  first_is k h = ap (λ (zs : List Descriptor). get_or zs k no_descriptor) split ∙ get_or-append xs (old ∷ ys) no_descriptor k h

  pub old_is : get_or ds (length xs) no_descriptor ≡ old
  old_is = ap (λ (zs : List Descriptor). get_or zs (length xs) no_descriptor) split ∙ get_or-append_seam xs old ys no_descriptor

  old_at : RegionAt c (region_start 0 ds (length xs)) (region_start 0 ds (suc (length xs))) old
  old_at = subst (λ (d : Descriptor). RegionAt c (region_start 0 ds (length xs)) (region_start 0 ds (suc (length xs))) d) old_is (region_at c ds sound_c (length xs) counted)

  old_rules : Rules c ds old
  old_rules = subst (λ (d : Descriptor). Rules c ds d) old_is (pass.rules (length xs) counted)

  -- what stays of the last one and of those before it
  pub last_kept : Rules t es made × ((l : ℕ) → l < old.volume → entry_of t made l ≡ entry_of c old l)
  last_kept =
      let m = moved old (region_start 0 ds (length xs)) (region_start 0 ds (suc (length xs))) old_at old_rules old_phi (λ one i h q. omega (arith, q)) in (
        rules_renamed t es old (active_of ds).name (physical 0) m.0,
        λ l h. entry_renamed t old (active_of ds).name (physical 0) l ∙ m.1 l h,
      )

  pub first_kept : (k : ℕ) → k < length xs → Rules t es (get_or ds k no_descriptor) × ((l : ℕ) → l < (get_or ds k no_descriptor).volume → entry_of t (get_or ds k no_descriptor) l ≡ entry_of c (get_or ds k no_descriptor) l)
  first_kept k h =
      let d = get_or ds k no_descriptor in
      let p = region_start 0 ds k in
      let end = region_start 0 ds (suc k) in
      let in_chain : k < length ds = omega (arith, counted) in
      let r = region_at c ds sound_c k in_chain in
      let below : end ≤ a = omega (arith, linked_rise (chain_starts c ds sound_c) (suc k) (length xs) h (omega (arith, counted)), at_alpha c _ _ old old_at) in
      let starts : d.alpha.0 < end = omega (arith, at_alpha c p end d r, at_long c p end d r, cost_least d.layout d.volume) in
      moved d p end r (pass.rules k in_chain)
      (λ i g. phi_shared c t d i (omega (arith, starts, below, inside)) long (kept d.alpha.0 (λ q. omega (arith, q, below, starts))) g)
      (λ one i g q. omega (arith, q, below, own_inside d p end one (at_long c p end d r), at_alpha c p end d r))

  rules_by : (k : ℕ) → k < length es → (b : Bool) → ltb k (length xs) ≡ b → Rules t es (get_or es k no_descriptor)
  rules_by k h true q =
      let l = ltb-true k (length xs) q in
      subst (λ (x : Descriptor). Rules t es x) (first_is k l ∙ sym (get_or-append xs (made ∷ []) no_descriptor k l)) (first_kept k l).0
  rules_by k h false q =
      let is : k ≡ length xs = omega (arith, ltb-false k (length xs) q, length-append xs (made ∷ [])) in
      subst (λ (x : Descriptor). Rules t es x) (sym (ap (λ (n : ℕ). get_or es n no_descriptor) is ∙ get_or-append_seam xs made [] no_descriptor)) last_kept.0

  reverted_rules : (k : ℕ) → k < length (descriptors_of t) → Rules t (descriptors_of t) (get_or (descriptors_of t) k no_descriptor)
  reverted_rules =
      subst (λ (zs : List Descriptor). (k : ℕ) → k < length zs → Rules t zs (get_or zs k no_descriptor)) (sym (descriptors_are t es (reverted_0 c name e zero)))
      (λ k h. rules_by k h (ltb k (length xs)) refl)

  pub passes_revert_0 : Passes t
  passes_revert_0 = record { area = sym (area_kept c t long) ∙ pass.area; sound = is_sound t es (reverted_0 c name e zero); rules = reverted_rules }
