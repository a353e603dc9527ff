-- `revert` meets its contract: admission, the name, what it goes back to, and what is stored.
use mathlib.Core.Path.{◌≡◌, refl, sym, ap, ◌∙◌}
use mathlib.Core.List.{List}
use Prim.Native.Nat.{ℕ, ◌+◌, ◌*◌, ◌≤◌, ◌<◌}
use native.Mathlib.Omega.{arith}
use lib.ListN.{length}
use Rattle.blocks.specs.Descriptor.{physical, cost_of, renamed_of, linked_of}
use Rattle.blocks.specs.declared.descriptor.Descriptor.{Descriptor}
use Rattle.chains.specs.Chain.{active_of}
use Rattle.calls.specs.Call.{Revert, accepted}
use Rattle.calls.specs.Parts.{descriptors_of, snapshots_of, with_name}
use Rattle.calls.specs.Ladder.{revert_rows}
use Rattle.calls.specs.Stores.{activated}
use Rattle.calls.specs.Meaning.{lent_of, answer_of, rows_of}
use Rattle.calls.proofs.StepLaws.{step_refused}
use Rattle.calls.proofs.ResultLaws.{barred_on, refused_on, admitted}
use Rattle.calls.proofs.RowLaws.{named_4}
use Rattle.calls.proofs.RevertLaws.{revert_ready, revert_inside, reopened, reverted}
use Rattle.reverts.proofs.revert.revert.Goals as goal

-- the snapshot with a nil next: with the active name it is what is gone back to, and its region and its block are its own whatever name it gets
module _ (c name n : List ℕ) (d r v : Descriptor) (found : d ≡ with_name (snapshots_of (descriptors_of c)) name) (named : r ≡ renamed_of d n) (linked : v ≡ linked_of r (physical 0)) where
  gone_back : n ≡ (active_of (descriptors_of c)).name → v ≡ activated c name
  gone_back e = rw (linked, named, found, e)

  module _ (ok : accepted ≡ answer_of (Revert name) c) where
    ready : (k : ℕ) → k ≡ cost_of v → (k ≡ cost_of v) × (v.alpha.0 + k ≤ v.beta.0) × (512 * (v.beta.0 + k) ≤ length c) × (v.beta.0 + k < 4294967296) × (1 ≤ k)
    ready k e = rw (e, linked, named, found) (revert_ready c name ok _ refl _ refl)

    inside : 512 * v.alpha.0 + 512 ≤ length c
    inside = rw (linked, named, found) (revert_inside c name ok _ refl)

pub returns-in_err-admit : goal.returns-in_err-admit
unfolding lent_of
returns-in_err-admit c = barred_on _ _ _ _ c.from_residual.ensures.1 c.in_err-admit.ensures

pub returns-then-not-is_name : goal.returns-then-not-is_name
unfolding lent_of answer_of rows_of revert_rows
returns-then-not-is_name c = step_refused _ _ _ _ (search (named_4, c.in_ok-admit.ensures)) refl

pub snapshot-requires : goal.snapshot-requires
snapshot-requires c = (admitted _ c.in_ok-admit.ensures, sym c.is_name.ensures ∙ c.if-not-is_name.false)

pub returns-in_err-v : goal.returns-in_err-v
unfolding lent_of
returns-in_err-v c = refused_on _ _ _ _ c.from_residual-in_err-v.ensures.1 (sym c.in_err-v.ensures.answer)

pub revision_at-requires : goal.revision_at-requires
revision_at-requires c = omega (arith, inside _ _ _ _ _ _ c.in_ok-v.ensures.value.0 c.renamed.ensures c.linked-v.ensures c.in_ok-v.ensures.answer)

pub open_region-requires : goal.open_region-requires
open_region-requires c = ready _ _ _ _ _ _ c.in_ok-v.ensures.value.0 c.renamed.ensures c.linked-v.ensures c.in_ok-v.ensures.answer _ c.cost.ensures

pub put_descriptor-requires : goal.put_descriptor-requires
put_descriptor-requires c = inside _ _ _ _ _ _ c.in_ok-v.ensures.value.0 c.renamed.ensures c.linked-v.ensures c.in_ok-v.ensures.answer

pub returns-in-1 : goal.returns-in-1
returns-in-1 c =
    let back = gone_back _ _ _ _ _ _ c.in_ok-v.ensures.value.0 c.renamed.ensures c.linked-v.ensures (ap (λ (a : Descriptor). a.name) c.in_ok-v.ensures.value.1) in
    reopened _ _ c.in_ok-v.ensures.answer _ back _ c.revision_at.ensures _ c.in-1.is c.open_region.ensures

pub returns-in_default : goal.returns-in_default
returns-in_default c =
    let back = gone_back _ _ _ _ _ _ c.in_ok-v.ensures.value.0 c.renamed.ensures c.linked-v.ensures (ap (λ (a : Descriptor). a.name) c.in_ok-v.ensures.value.1) in
    search (reverted, c.in_ok-v.ensures.answer, back, c.put_descriptor.ensures.card_after)
