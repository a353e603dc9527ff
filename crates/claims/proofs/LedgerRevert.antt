-- The ledger of the card after an accepted revert on revision 0 is the ledger's own step.
use mathlib.Core.Path.{◌≡◌, refl, sym, ap, ◌∙◌, subst}
use mathlib.Core.Bool.{Bool, true, false, ◌||◌}
use mathlib.Core.List.{List, [], ◌∷◌, ◌++◌}
use Prim.Native.Nat.{ℕ, suc, ◌<◌}
use native.Mathlib.Omega.{arith}
use lib.ListN.{length, get_or, take}
use lib.Dec.{eqb}
use Rattle.blocks.specs.Pick.{pick}
use Rattle.blocks.specs.Bytes.{store_all}
use Rattle.blocks.specs.Descriptor.{no_descriptor, revision_of}
use Rattle.blocks.specs.declared.descriptor.Descriptor.{Descriptor}
use Rattle.chains.specs.Chain.{active_of, chain, index_of}
use Rattle.entries.specs.Entry.{find}
use Rattle.calls.specs.Parts.{descriptors_of, snapshots_of, with_name, found_through, block_found}
use Rattle.claims.specs.Ledger.{Volume, volumes_kept, volume_named, cells_from, volume_of, volumes_of, ledger_of, ledger_change}
use Rattle.calls.specs.Check.{Passes}
use Rattle.calls.specs.Stores.{activated_of, revert_stores, staying}
use Rattle.links.proofs.ChainLaws.{active_snoc, descriptors_are}
use Rattle.calls.proofs.Passed.{RevertPassed}
use Rattle.claims.specs.Kinds.{Reverts}
use Rattle.calls.proofs.CardLaws.{snapshots_snoc, chain_is}
use Rattle.calls.proofs.CellLaws.{cell_as}
use Rattle.claims.proofs.LedgerLaws.{volume_named_lem, volumes_kept_lem, volumes_same, ledger_parts, cells_same}
use Rattle.calls.proofs.ActiveLaws.{region_at}
use Rattle.entries.specs.Rules.{entry_of, Rules}
use Rattle.links.proofs.SoundLaws.{form_layout}
use Rattle.calls.proofs.VisitLaws.{before}
use Rattle.changes.proofs.RevertedChain.{reverted_0, reverted_revision}
use Rattle.changes.proofs.RevertedRules.{blocks_kept, counted, old_is, last_kept, first_is, first_kept}

module _ (c name : List ℕ) (p : Passes c) (acc : RevertPassed c name) (zero : eqb (revision_of c) 1 ≡ false) where
  abbrev ds : List Descriptor
  ds = descriptors_of c

  abbrev xs : List Descriptor
  xs = before (snapshots_of ds) name

  abbrev v : Descriptor
  v = with_name (snapshots_of ds) name

  abbrev w : Descriptor
  w = activated_of v (active_of ds).name

  abbrev t : List ℕ
  t = store_all c (revert_stores c name)

  after : descriptors_of t ≡ xs ++ (w ∷ [])
  after = descriptors_are t (xs ++ (w ∷ [])) (reverted_0 c name acc zero)

  -- the descriptor at k of the chain before, and one of its layout and L in the chain after
  cell_at : (k : ℕ) → k < length ds → (d y : Descriptor) → get_or ds k no_descriptor ≡ d → y.layout ≡ d.layout → y.volume ≡ d.volume
      → Rules t (xs ++ (w ∷ [])) y × ((l : ℕ) → l < d.volume → entry_of t y l ≡ entry_of c d l) → (l : ℕ) → l < d.volume → block_found t (found_through t y l) ≡ block_found c (found_through c d l)
  cell_at k h d y is a v kept l m =
      let rule : Rules c ds d = subst (λ (x : Descriptor). Rules c ds x) is (p.rules k h) in
      let layout = subst (λ (x : Descriptor). (eqb x.layout 1 || eqb x.layout 2) ≡ true) is (form_layout c _ _ (region_at c ds (chain_is (chain c) p.sound) k h).form) in
      ap (λ (zs : List Descriptor). block_found t (find t zs y l)) after
      ∙ cell_as c t ds (xs ++ (w ∷ [])) d y layout a v rule kept.0 l m (kept.1 l m) (blocks_kept c name p acc zero d (entry_of c d l) (rule.tables.in_place l m))

  cell_v : (l : ℕ) → l < v.volume → block_found t (found_through t w l) ≡ block_found c (found_through c v l)
  cell_v = cell_at (length xs) (counted c name p acc zero) v w (old_is c name p acc zero) refl refl (last_kept c name p acc zero)

  cell_x : (k : ℕ) → k < length xs → (l : ℕ) → l < (get_or xs k no_descriptor).volume → block_found t (found_through t (get_or xs k no_descriptor) l) ≡ block_found c (found_through c (get_or xs k no_descriptor) l)
  cell_x k h =
      let d = get_or ds k no_descriptor in
      subst (λ (x : Descriptor). (l : ℕ) → l < x.volume → block_found t (found_through t x l) ≡ block_found c (found_through c x l)) (first_is c name p acc zero k h)
      (cell_at k (omega (arith, counted c name p acc zero)) d d refl refl refl (first_kept c name p acc zero k h))

  snapshots_after : volumes_of t xs ≡ volumes_kept (revision_of c) (volumes_of c (snapshots_of ds)) name
  unfolding staying
  snapshots_after =
      volumes_same c t xs cell_x
      ∙ sym (volumes_kept_lem (revision_of c) c (snapshots_of ds) name ∙ ap (λ (z : Bool). volumes_of c (take (pick z (suc (index_of (snapshots_of ds) name)) (index_of (snapshots_of ds) name)) (snapshots_of ds))) zero)

  cells_after : cells_from t w w.volume 0 ≡ (volume_named (volumes_of c (snapshots_of ds)) name).cells
  unfolding volume_of
  cells_after = cells_same c t v w v.volume 0 (λ j a b. cell_v j (omega arith)) ∙ sym (ap (λ (x : Volume). x.cells) (volume_named_lem c (snapshots_of ds) name acc.there))

  pub ledger_revert_0 : ledger_of t ≡ ledger_change (Reverts name) (ledger_of c)
  unfolding ledger_change ledger_of volume_of
  ledger_revert_0 =
      ledger_parts t (revision_of c) xs w (reverted_revision c name acc) (ap snapshots_of after ∙ snapshots_snoc xs w) (ap active_of after ∙ active_snoc xs w)
      ∙ rw (snapshots_after, cells_after)
