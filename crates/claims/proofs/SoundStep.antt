-- Every call but an accepted format leaves a sound chain with the same revision, layout, L and active name.
use mathlib.Core.Path.{◌≡◌, refl, sym, ap, ◌∙◌}
use mathlib.Core.Bool.{true, false}
use mathlib.Core.List.{List, [], ◌∷◌, ◌++◌}
use Prim.Native.Nat.{ℕ}
use Rattle.blocks.specs.Bytes.{block_count, store_all}
use Rattle.blocks.specs.Descriptor.{descriptor_at, revision_of, linked_of, renamed_of, reopened_of}
use Rattle.chains.specs.Chain.{chain, chain_sound, active_of, index_of, Sound}
use Rattle.blocks.specs.declared.descriptor.Descriptor.{Descriptor}
use native.Mathlib.Omega.{arith}
use lib.ListN.{take}
use lib.Seq.{append_snoc}
use Rattle.blocks.proofs.BoolLaws.{no}
use Rattle.links.proofs.ChainLaws.{descriptors_are, region_layout, region_volume, active_snoc}
use Rattle.calls.specs.Parts.{descriptors_of, snapshots_of, with_name}
use Rattle.calls.specs.Stores.{write_stores, snap_stores, revert_stores, staying}
use Rattle.calls.specs.Call.{Call}
use Rattle.calls.specs.Step.{step, after}
use Rattle.claims.specs.History.{Agree, formats, Standing, more}
use Rattle.claims.proofs.Runs.{standing_length, step_length}
use Rattle.claims.specs.Claims.{SoundClaim}
use Rattle.claims.proofs.AgreeStep.{agree_step}
use Rattle.calls.proofs.Passed.{SnapPassed, RevertPassed}
use Rattle.claims.specs.Kinds.{Kind}
use Rattle.claims.proofs.Changes.{stores_by, Allowed, to_format, to_leave, to_write, to_span, to_snap, to_revert}
use Rattle.claims.proofs.Steps.{step_cases}
use Rattle.calls.proofs.ActiveLaws.{active_last}
use Rattle.links.proofs.MemberLaws.{member_region}
use Rattle.calls.proofs.CardLaws.{chain_is}
use Rattle.changes.proofs.RevertedChain.{revert_split, reverted_chain, reverted_revision, returned}
use Rattle.calls.proofs.VisitLaws.{before, behind}
use Rattle.changes.proofs.SpanSteps.{passed_at}
use Rattle.calls.specs.Spans.{span_count, write_span_stores}
use Rattle.changes.proofs.SnappedChain.{snapped_chain, snapped_revision}
use Rattle.changes.proofs.WrittenChain.{written_chain, written_revision}

-- a card with a sound chain agrees with itself
agree_self : (c : List ℕ) → chain_sound (chain c) ≡ true → Agree c c
agree_self c ok = record { long = refl; sound = ok; sound' = ok; beta = refl; below = refl }

abbrev Kept : Descriptor → Descriptor → Type 0
Kept e d = (e.layout ≡ d.layout) × (e.volume ≡ d.volume) × (e.name ≡ d.name)

kept_as : (e x d : Descriptor) → e ≡ x → Kept x d → Kept e d
kept_as e x d q k = (ap (λ (y : Descriptor). y.layout) q ∙ k.0, ap (λ (y : Descriptor). y.volume) q ∙ k.1, ap (λ (y : Descriptor). y.name) q ∙ k.2)

module _ (c : List ℕ) where
  abbrev d : Descriptor
  d = active_of (descriptors_of c)

  abbrev Keeps : List ℕ → Type 0
  Keeps t = (revision_of t ≡ revision_of c) × Kept (active_of (descriptors_of t)) d

  kept_chain : (t : List ℕ) (xs : List Descriptor) (x : Descriptor) → chain t ≡ Sound (xs ++ (x ∷ [])) → revision_of t ≡ revision_of c → Kept x d → Keeps t
  kept_chain t xs x is r k = (r, kept_as _ x d (ap active_of (descriptors_are t (xs ++ (x ∷ [])) is) ∙ active_snoc xs x) k)

  kept_snap : (name : List ℕ) → SnapPassed c name → Keeps (store_all c (snap_stores c name))
  kept_snap name e =
      let old = linked_of (renamed_of d name) d.beta in
      kept_chain (store_all c (snap_stores c name)) (snapshots_of (descriptors_of c) ++ (old ∷ [])) (reopened_of d)
      (snapped_chain c name e ∙ ap Sound (sym (append_snoc (snapshots_of (descriptors_of c)) old (reopened_of d ∷ [])))) (snapped_revision c name e) (refl, refl, refl)

  kept_revert : (name : List ℕ) → RevertPassed c name → Keeps (store_all c (revert_stores c name))
  kept_revert name e =
      let ss = snapshots_of (descriptors_of c) in
      let v = with_name ss name in
      let one = member_region c (descriptors_of c) (before ss name) v (behind ss name ++ (d ∷ [])) (chain_is (chain c) e.sound) (revert_split c name e) in
      let other = member_region c (descriptors_of c) ss d [] (chain_is (chain c) e.sound) (active_last c (descriptors_of c) (chain_is (chain c) e.sound)) in
      let x = returned c name e in
      kept_chain (store_all c (revert_stores c name)) (take (staying (revision_of c) (index_of ss name)) ss) _ (reverted_chain c name e) (reverted_revision c name e) (
        x.0 ∙ region_layout (descriptor_at c 0) (block_count c) _ v one ∙ sym (region_layout (descriptor_at c 0) (block_count c) _ d other),
        x.1 ∙ region_volume (descriptor_at c 0) (block_count c) _ v one ∙ sym (region_volume (descriptor_at c 0) (block_count c) _ d other),
        x.2,
      )

  kept_change : {x : Kind} → formats x ≡ false → Allowed c x → Keeps (store_all c (stores_by x c))
  unfolding formats stores_by store_all write_span_stores
  kept_change f (to_format e) = no (sym f)
  kept_change f to_leave = (refl, (refl, refl, refl))
  kept_change f (to_write {l = l} {block = block} e) = kept_chain (store_all c (write_stores c l block)) (snapshots_of (descriptors_of c)) _ (written_chain c l block e) (written_revision c l block e) (refl, refl, refl)
  kept_change f (to_span {o = o} {bytes = bytes} e) =
      let at = passed_at c o bytes e (span_count o bytes) (omega arith) in
      kept_chain (store_all c (write_span_stores c o bytes)) (snapshots_of (descriptors_of c)) _ at.chained at.revision (refl, refl, refl)
  kept_change f (to_snap {name = name} e) = kept_snap name e
  kept_change f (to_revert {name = name} e) = kept_revert name e

pub sound_claim : SoundClaim
unfolding SoundClaim
sound_claim k c ok f =
    let kept = step_cases k c (Keeps c) (λ e. (refl, (refl, refl, refl))) (λ e n a. kept_change c n a) f in
    ((agree_step c c (agree_self c ok) k f).sound, kept.0, kept.1.0, kept.1.1, kept.1.2)

-- the revision stays over a list of calls
pub revision_run : (ks : List Call) (c : List ℕ) → chain_sound (chain c) ≡ true → Standing c ks → revision_of (after ks c) ≡ revision_of c
unfolding after SoundClaim
revision_run [] c ok s = refl
revision_run (k ∷ ks) c ok (more f b rest) =
    let one = sound_claim k c ok f in
    revision_run ks (step k c).card one.0 (standing_length c (step k c).card (sym (step_length k c)) ks rest) ∙ one.1
