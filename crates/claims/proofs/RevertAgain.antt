-- A revert on revision 1 to a snapshot from which a region stands open as the revert would open it changes no block.
use mathlib.Core.Path.{◌≡◌, refl, sym, ap, ◌∙◌, subst}
use mathlib.Core.Bool.{Bool, true, false}
use mathlib.Core.List.{List, []}
use Prim.Native.Nat.{ℕ, ◌+◌, ◌*◌, ◌-◌, ◌≤◌, ◌<◌}
use native.Mathlib.Omega.{arith}
use lib.ListN.{length}
use lib.Seq.{take_all}
use lib.Dec.{eqb, ltb}
use borrow.Author.Tests.{eqb-true, eqb-false, ltb-true, ltb-false}
use Rattle.blocks.specs.Bytes.{block_count, block_at, store_all}
use Rattle.blocks.specs.Descriptor.{cost_of, revision_of, tail_at, descriptor_block, reopened_of, reopening}
use Rattle.blocks.specs.declared.descriptor.Descriptor.{Descriptor}
use Rattle.chains.specs.Chain.{active_of}
use Rattle.blocks.proofs.RegionLaws.{reopening_kept, reopening_block, reopening_table, reopening_past, reopening_length}
use Rattle.blocks.proofs.StoreLists.{blocks_taken_lem}
use Rattle.calls.specs.Parts.{descriptors_of, snapshots_of, with_name}
use Rattle.calls.specs.Stores.{activated_of, revert_stores}
use Rattle.calls.proofs.Passed.{RevertPassed}
use Rattle.claims.specs.History.{Agree}
use Rattle.claims.proofs.Agreement.{blocks_agree, agree_back}
use Rattle.changes.proofs.RevertedChain.{stores_open, visit_below, visit_bytes, called_long}

-- w is the snapshot under the active name and with a nil next
module _ (x name : List ℕ) (e : RevertPassed x name) (one : eqb (revision_of x) 1 ≡ true) (w : Descriptor)
    (w_is : activated_of (with_name (snapshots_of (descriptors_of x)) name) (active_of (descriptors_of x)).name ≡ w)
    (opened : block_at x w.beta.0 ≡ descriptor_block (reopened_of w) (tail_at x w.alpha.0))
    (copied : (t : ℕ) → t + 1 < cost_of w → block_at x (w.beta.0 + 1 + t) ≡ block_at x (w.alpha.0 + 1 + t)) where
  abbrev u : List ℕ
  u = store_all x (revert_stores x name)

  rise : w.alpha.0 < w.beta.0
  rise = subst (λ (d : Descriptor). d.alpha.0 < d.beta.0) w_is (visit_below x name e).0

  room : 512 * (w.beta.0 + cost_of w) ≤ length x
  room = subst (λ (d : Descriptor). 512 * (d.beta.0 + cost_of d) ≤ length x) w_is (visit_bytes x name e)

  called : length w.name ≡ 16
  called = subst (λ (d : Descriptor). length d.name ≡ 16) w_is (called_long x name e)

  stores_are : revert_stores x name ≡ reopening x w []
  stores_are = stores_open x name e one ∙ ap (λ (d : Descriptor). reopening x d []) w_is

  u_is : u ≡ store_all x (reopening x w [])
  u_is = ap (store_all x) stores_are

  block_by : (p : ℕ) (low high here : Bool) → ltb p w.beta.0 ≡ low → ltb p (w.beta.0 + cost_of w) ≡ high → eqb p w.beta.0 ≡ here → block_at (store_all x (reopening x w [])) p ≡ block_at x p
  block_by p true high here a b c = reopening_kept x w rise room called p (ltb-true p w.beta.0 a)
  block_by p false false here a b c = reopening_past x w rise room called p (ltb-false p (w.beta.0 + cost_of w) b)
  block_by p false true true a b c =
      subst (λ (q : ℕ). block_at (store_all x (reopening x w [])) q ≡ block_at x q) (sym (eqb-true p w.beta.0 c)) (reopening_block x w rise room called ∙ sym opened)
  block_by p false true false a b c =
      let t = p - w.beta.0 - 1 in
      let l = ltb-false p w.beta.0 a in
      let n = eqb-false p w.beta.0 c in
      let h : t + 1 < cost_of w = omega (arith, ltb-true p (w.beta.0 + cost_of w) b, l, n) in
      let at : w.beta.0 + 1 + t ≡ p = omega (arith, l, n) in
      subst (λ (q : ℕ). block_at (store_all x (reopening x w [])) q ≡ block_at x q) at (reopening_table x w rise room called t h ∙ sym (copied t h))

  again_block : (p : ℕ) → block_at u p ≡ block_at x p
  again_block p = ap (λ (y : List ℕ). block_at y p) u_is ∙ block_by p (ltb p w.beta.0) (ltb p (w.beta.0 + cost_of w)) (eqb p w.beta.0) refl refl refl

  again_long : length u ≡ length x
  again_long = ap length u_is ∙ reopening_length x w rise room called

  pub again_agree : Agree (store_all x (revert_stores x name)) x
  again_agree = agree_back x u (blocks_agree x u e.sound (sym again_long) (λ p h. sym (again_block p)))

  -- so it is the same card, where that is whole blocks
  pub again_same : length x ≡ 512 * block_count x → store_all x (revert_stores x name) ≡ x
  again_same whole =
      sym (take_all (512 * block_count x) u (omega (arith, again_long, whole)))
      ∙ blocks_taken_lem u x (block_count x) (λ p h. again_block p)
      ∙ take_all (512 * block_count x) x (omega (arith, whole))
