-- The ledger of the card after an accepted revert on revision 1 is the ledger's own step, and so it is on either revision.
use mathlib.Core.Path.{◌≡◌, refl, sym, ap, ◌∙◌, subst}
use mathlib.Core.Bool.{Bool, true, false, ◌||◌}
use mathlib.Core.List.{List, [], ◌∷◌, ◌++◌}
use Prim.Native.Nat.{ℕ, suc, ◌≤◌, ◌<◌}
use native.Mathlib.Omega.{arith}
use lib.ListN.{length, get_or, take, length-append, get_or-append}
use lib.Seq.{take-suc, append_snoc}
use lib.Dec.{eqb}
use Rattle.blocks.specs.Pick.{pick}
use Rattle.blocks.specs.Bytes.{store_all}
use Rattle.blocks.specs.Descriptor.{no_descriptor, revision_of, reopened_of}
use Rattle.blocks.specs.declared.descriptor.Descriptor.{Descriptor}
use Rattle.chains.specs.Chain.{active_of, index_of}
use Rattle.chains.proofs.NamedLaws.{index_below}
use Rattle.entries.specs.Entry.{find}
use Rattle.calls.specs.Parts.{descriptors_of, snapshots_of, with_name, found_through, block_found}
use Rattle.claims.specs.Ledger.{Volume, volumes_kept, volume_named, cells_from, volume_of, volumes_of, ledger_of, ledger_change}
use Rattle.calls.specs.Check.{Passes}
use Rattle.calls.specs.Stores.{activated_of, revert_stores, staying}
use Rattle.links.proofs.ChainLaws.{active_snoc, descriptors_are}
use Rattle.calls.proofs.Passed.{RevertPassed}
use Rattle.claims.specs.Kinds.{Reverts}
use Rattle.calls.proofs.CardLaws.{snapshots_snoc}
use Rattle.calls.proofs.CellLaws.{cell_as}
use Rattle.claims.proofs.LedgerLaws.{volume_named_lem, volumes_kept_lem, volumes_same, ledger_parts, cells_same}
use Rattle.entries.specs.Rules.{entry_of, Rules}
use Rattle.calls.proofs.VisitLaws.{before}
use Rattle.changes.proofs.RevertedChain.{reverted_1, reverted_revision}
use Rattle.claims.proofs.LedgerRevert.{ledger_revert_0}
use Rattle.changes.proofs.ReopenedRules.{below_kept, visit_counted, visit_is, upto_visit, layout_at, upto_kept, new_kept, first_in}

module _ (c name : List ℕ) (p : Passes c) (acc : RevertPassed c name) (one : eqb (revision_of c) 1 ≡ true) where
  abbrev ds : List Descriptor
  ds = descriptors_of c

  abbrev ss : List Descriptor
  ss = snapshots_of ds

  abbrev v : Descriptor
  v = with_name ss name

  abbrev new : Descriptor
  new = reopened_of (activated_of v (active_of ds).name)

  abbrev xs : List Descriptor
  xs = before ss name

  abbrev zs : List Descriptor
  zs = take (suc (index_of ss name)) ss

  abbrev es : List Descriptor
  es = xs ++ (v ∷ new ∷ [])

  abbrev t : List ℕ
  t = store_all c (revert_stores c name)

  zs_is : zs ≡ xs ++ (v ∷ [])
  zs_is = take-suc ss (index_of ss name) no_descriptor (index_below ss name acc.there)

  zs_long : length zs ≡ suc (length xs)
  zs_long = ap length zs_is ∙ omega (arith, length-append xs (v ∷ []))

  -- the chain after the revert, both ways
  after_es : descriptors_of t ≡ es
  after_es = descriptors_are t es (reverted_1 c name acc one)

  after_zs : descriptors_of t ≡ zs ++ (new ∷ [])
  after_zs = after_es ∙ sym (append_snoc xs v (new ∷ [])) ∙ ap (λ (l : List Descriptor). l ++ (new ∷ [])) (sym zs_is)

  first_at : (k : ℕ) → k ≤ length xs → get_or zs k no_descriptor ≡ get_or ds k no_descriptor
  first_at k h =
      ap (λ (l : List Descriptor). get_or l k no_descriptor) zs_is
      ∙ sym (get_or-append (xs ++ (v ∷ [])) (new ∷ []) no_descriptor k (omega (arith, length-append xs (v ∷ []))))
      ∙ ap (λ (l : List Descriptor). get_or l k no_descriptor) (append_snoc xs v (new ∷ []))
      ∙ sym (first_in c name p acc one k h)

  cell_at : (d y : Descriptor) → (eqb d.layout 1 || eqb d.layout 2) ≡ true → y.layout ≡ d.layout → y.volume ≡ d.volume → Rules c ds d → d.beta.0 ≤ v.beta.0
      → Rules t es y × ((l : ℕ) → l < d.volume → entry_of t y l ≡ entry_of c d l) → (l : ℕ) → l < d.volume → block_found t (found_through t y l) ≡ block_found c (found_through c d l)
  cell_at d y layout a b rule low kept l h =
      ap (λ (l' : List Descriptor). block_found t (find t l' y l)) after_es
      ∙ cell_as c t ds es d y layout a b rule kept.0 l h (kept.1 l h) (below_kept c name p acc one d low (entry_of c d l) (rule.tables.in_place l h))

  cell_first : (k : ℕ) → k < length zs → (l : ℕ) → l < (get_or zs k no_descriptor).volume → block_found t (found_through t (get_or zs k no_descriptor) l) ≡ block_found c (found_through c (get_or zs k no_descriptor) l)
  cell_first k h =
      let n : k ≤ length xs = omega (arith, zs_long) in
      let d = get_or ds k no_descriptor in
      subst (λ (x : Descriptor). (l : ℕ) → l < x.volume → block_found t (found_through t x l) ≡ block_found c (found_through c x l)) (sym (first_at k n))
      (cell_at d d (layout_at c name p acc one k n) refl refl (p.rules k (omega (arith, visit_counted c name p acc one))) (upto_visit c name p acc one k n) (upto_kept c name p acc one k n))

  cell_new : (l : ℕ) → l < v.volume → block_found t (found_through t new l) ≡ block_found c (found_through c v l)
  cell_new =
      let n = visit_is c name p acc one in
      let at : length xs ≤ length xs = omega arith in
      cell_at v new (subst (λ (x : Descriptor). (eqb x.layout 1 || eqb x.layout 2) ≡ true) n (layout_at c name p acc one (length xs) at)) refl refl
      (subst (λ (x : Descriptor). Rules c ds x) n (p.rules (length xs) (visit_counted c name p acc one))) (omega arith) (new_kept c name p acc one)

  snapshots_after : volumes_of t zs ≡ volumes_kept (revision_of c) (volumes_of c ss) name
  unfolding staying
  snapshots_after =
      volumes_same c t zs cell_first
      ∙ sym (volumes_kept_lem (revision_of c) c ss name ∙ ap (λ (z : Bool). volumes_of c (take (pick z (suc (index_of ss name)) (index_of ss name)) ss)) one)

  cells_after : cells_from t new new.volume 0 ≡ (volume_named (volumes_of c ss) name).cells
  unfolding volume_of
  cells_after = cells_same c t v new v.volume 0 (λ j a b. cell_new j (omega arith)) ∙ sym (ap (λ (x : Volume). x.cells) (volume_named_lem c ss name acc.there))

  ledger_revert_1 : ledger_of t ≡ ledger_change (Reverts name) (ledger_of c)
  unfolding ledger_change ledger_of volume_of
  ledger_revert_1 =
      ledger_parts t (revision_of c) zs new (reverted_revision c name acc) (ap snapshots_of after_zs ∙ snapshots_snoc zs new) (ap active_of after_zs ∙ active_snoc zs new)
      ∙ rw (snapshots_after, cells_after)

pub ledger_revert : (c name : List ℕ) → Passes c → RevertPassed c name → ledger_of (store_all c (revert_stores c name)) ≡ ledger_change (Reverts name) (ledger_of c)
ledger_revert c name p acc = by (eqb (revision_of c) 1) refl
  where
    by : (z : Bool) → eqb (revision_of c) 1 ≡ z → ledger_of (store_all c (revert_stores c name)) ≡ ledger_change (Reverts name) (ledger_of c)
    by true q = ledger_revert_1 c name p acc q
    by false q = ledger_revert_0 c name p acc q
