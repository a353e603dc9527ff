-- The ledger of the card after an accepted snap is the ledger's own step.
use mathlib.Core.Path.{◌≡◌, refl, sym, ap, ◌∙◌, subst}
use mathlib.Core.Bool.{true, ◌||◌}
use mathlib.Core.List.{List, [], ◌∷◌, ◌++◌, append_assoc}
use Prim.Native.Nat.{ℕ, ◌≤◌, ◌<◌}
use native.Mathlib.Omega.{arith}
use lib.ListN.{length, get_or}
use lib.Dec.{eqb}
use Rattle.blocks.specs.Bytes.{store_all}
use Rattle.blocks.specs.Descriptor.{no_descriptor, revision_of, renamed_of, linked_of, reopened_of}
use Rattle.blocks.specs.declared.descriptor.Descriptor.{Descriptor}
use Rattle.chains.specs.Chain.{active_of, chain}
use Rattle.links.proofs.SoundLaws.{form_layout}
use Rattle.links.proofs.ChainLaws.{active_snoc, descriptors_are}
use Rattle.entries.specs.Entry.{find}
use Rattle.entries.specs.Rules.{entry_of, Rules}
use Rattle.calls.specs.Parts.{descriptors_of, snapshots_of, found_through, block_found}
use Rattle.calls.specs.Check.{Passes}
use Rattle.calls.specs.Stores.{snap_stores}
use Rattle.claims.specs.Ledger.{Volume, volume_of, volumes_of, ledger_of, ledger_change}
use Rattle.calls.proofs.Passed.{SnapPassed}
use Rattle.claims.specs.Kinds.{Snaps}
use Rattle.calls.proofs.CardLaws.{snapshots_snoc, chain_is}
use Rattle.calls.proofs.CellLaws.{cell_as}
use Rattle.claims.proofs.LedgerLaws.{cells_same, volumes_same, volumes_append, ledger_parts}
use Rattle.calls.proofs.ActiveLaws.{region_at, region_below}
use Rattle.changes.proofs.SnappedChain.{snapped_chain, snapped_revision}
use Rattle.changes.proofs.SnappedRules.{counted, act_rules, blocks_kept, old_kept, new_kept, first_is, first_kept, act_layout}

module _ (c name : List ℕ) (pass : Passes c) (e : SnapPassed c name) where
  abbrev ds : List Descriptor
  ds = descriptors_of c

  abbrev act : Descriptor
  act = active_of (descriptors_of c)

  abbrev snaps : List Descriptor
  snaps = snapshots_of (descriptors_of c)

  abbrev old : Descriptor
  old = linked_of (renamed_of act name) act.beta

  abbrev opened : Descriptor
  opened = reopened_of act

  abbrev es : List Descriptor
  es = snaps ++ (old ∷ opened ∷ [])

  abbrev t : List ℕ
  t = store_all c (snap_stores c name)

  after : descriptors_of t ≡ es
  after = descriptors_are t es (snapped_chain c name e)

  after_snoc : descriptors_of t ≡ (snaps ++ (old ∷ [])) ++ (opened ∷ [])
  after_snoc = after ∙ sym (append_assoc snaps (old ∷ []) (opened ∷ []))

  -- a descriptor of the chain before whose region ends at or below the active beta, and one of its layout and L in the chain after
  cell_at : (d y : Descriptor) → (eqb d.layout 1 || eqb d.layout 2) ≡ true → y.layout ≡ d.layout → y.volume ≡ d.volume → Rules c ds d → d.beta.0 ≤ act.beta.0
      → Rules t es y × ((l : ℕ) → l < d.volume → entry_of t y l ≡ entry_of c d l) → (l : ℕ) → l < d.volume → block_found t (found_through t y l) ≡ block_found c (found_through c d l)
  cell_at d y layout a v rule b kept l h =
      ap (λ (zs : List Descriptor). block_found t (find t zs y l)) after
      ∙ cell_as c t ds es d y layout a v rule kept.0 l h (kept.1 l h) (blocks_kept c name pass e d b (entry_of c d l) (rule.tables.in_place l h))

  -- the snapshots that stood before, the snapshot made and the region opened
  cell_first : (k : ℕ) → k < length snaps → (l : ℕ) → l < (get_or snaps k no_descriptor).volume
      → block_found t (found_through t (get_or snaps k no_descriptor) l) ≡ block_found c (found_through c (get_or snaps k no_descriptor) l)
  cell_first k h =
      let d = get_or ds k no_descriptor in
      let in_chain : k < length ds = omega (arith, counted c name pass e) in
      let sound_c = chain_is (chain c) pass.sound in
      subst (λ (x : Descriptor). (l : ℕ) → l < x.volume → block_found t (found_through t x l) ≡ block_found c (found_through c x l)) (first_is c name pass e k h)
      (cell_at d d (form_layout c _ d (region_at c ds sound_c k in_chain).form) refl refl (pass.rules k in_chain) (region_below c ds sound_c k in_chain).upto (first_kept c name pass e k h))

  cell_old : (l : ℕ) → l < act.volume → block_found t (found_through t old l) ≡ block_found c (found_through c act l)
  cell_old = cell_at act old (act_layout c name pass e) refl refl (act_rules c name pass e) (omega arith) (old_kept c name pass e)

  cell_opened : (l : ℕ) → l < act.volume → block_found t (found_through t opened l) ≡ block_found c (found_through c act l)
  cell_opened = cell_at act opened (act_layout c name pass e) refl refl (act_rules c name pass e) (omega arith) (new_kept c name pass e)

  -- the ledger
  volume_old : volume_of t old ≡ record { name = name; cells = (volume_of c act).cells }
  unfolding volume_of
  volume_old = ap (λ (x : List (List ℕ)). record { name = name; cells = x }) (cells_same c t act old act.volume 0 (λ j a b. cell_old j (omega arith)))

  volume_opened : volume_of t opened ≡ volume_of c act
  unfolding volume_of
  volume_opened = ap (λ (x : List (List ℕ)). record { name = act.name; cells = x }) (cells_same c t act opened act.volume 0 (λ j a b. cell_opened j (omega arith)))

  volumes_after : volumes_of t (snaps ++ (old ∷ [])) ≡ volumes_of c snaps ++ (record { name = name; cells = (volume_of c act).cells } ∷ [])
  unfolding volumes_of
  volumes_after =
      volumes_append t snaps (old ∷ []) ∙ ap (λ (vs : List Volume). vs ++ (volume_of t old ∷ [])) (volumes_same c t snaps cell_first)
      ∙ ap (λ (v : Volume). volumes_of c snaps ++ (v ∷ [])) volume_old

  pub ledger_snap : ledger_of t ≡ ledger_change (Snaps name) (ledger_of c)
  unfolding ledger_change ledger_of
  ledger_snap =
      ledger_parts t (revision_of c) (snaps ++ (old ∷ [])) opened (snapped_revision c name e) (ap snapshots_of after_snoc ∙ snapshots_snoc (snaps ++ (old ∷ [])) opened) (ap active_of after_snoc ∙ active_snoc (snaps ++ (old ∷ [])) opened)
      ∙ ap (λ (x : List Volume). record { revision = revision_of c; snapshots = x; active = volume_of t opened }) volumes_after
      ∙ ap (λ (x : Volume). record { revision = revision_of c; snapshots = volumes_of c snaps ++ (record { name = name; cells = (volume_of c act).cells } ∷ []); active = x }) volume_opened
