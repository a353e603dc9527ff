-- An accepted revert block by block, on either revision; and so every accepted call is the paper's.
use mathlib.Core.Path.{◌≡◌, refl, sym, ap, ◌∙◌, subst}
use mathlib.Core.Bool.{Bool, true, false}
use mathlib.Core.List.{List, []}
use Prim.Native.Nat.{ℕ, ◌+◌, ◌*◌, ◌-◌, ◌≤◌, ◌<◌}
use native.Mathlib.Omega.{arith}
use lib.ListN.{length}
use lib.Dec.{eqb, ltb, leb}
use borrow.Author.Tests.{eq-eqb, eqb-true, eqb-false, le-leb, lt-ltb, ltb-true, ltb-false}
use Rattle.blocks.specs.Pick.{pick}
use Rattle.blocks.specs.Bytes.{block_at, store_block, store_all}
use Rattle.blocks.specs.Descriptor.{cost_of, revision_of, tail_at, descriptor_block, reopening}
use Rattle.chains.specs.Chain.{chain, regions_of, active_of}
use Rattle.blocks.specs.declared.descriptor.Descriptor.{Descriptor}
use Rattle.blocks.proofs.DescriptorLaws.{tail_length, block_whole, cost_least}
use Rattle.blocks.proofs.RegionLaws.{reopening_kept, reopening_block, reopening_table, reopening_past}
use Rattle.blocks.proofs.StoreLists.{stored_one}
use Rattle.entries.specs.Through.{Through}
use Rattle.entries.proofs.EntryLaws.{through_alpha}
use Rattle.calls.specs.Call.{Revert}
use Rattle.calls.specs.Parts.{descriptors_of, snapshots_of, with_name}
use Rattle.calls.specs.Stores.{activated_of, revert_stores}
use Rattle.calls.specs.Meaning.{answer_of, stores_of}
use Rattle.calls.specs.Step.{step, is_accepted}
use Rattle.calls.proofs.Passed.{RevertPassed, revert_passed}
use Rattle.calls.proofs.StepLaws.{accepted_card}
use Rattle.claims.specs.Algorithms.{Sigma, copy_range, close_region, open_region}
use Rattle.claims.specs.History.{AreBytes}
use Rattle.claims.specs.Claims.{AlgorithmClaim}
use Rattle.changes.proofs.RevertedChain.{stores_are, stores_open, visit_below, visit_bytes, called_long}
use Rattle.claims.proofs.AlgorithmLaws.{through_block, through_name, snapshot_through, close_by, closed_block, store_by, range_by, open_by, opened_block, algorithm_read, algorithm_write, algorithm_snap}

-- a revert on revision 0: the snapshot's region closed with the active name and a nil next
reverted : (c : List ℕ) (v : Descriptor) (name : List ℕ) → block_at c v.alpha.0 ≡ descriptor_block v (tail_at c v.alpha.0) → 512 * v.alpha.0 + 512 ≤ length c → length v.name ≡ 16 → length name ≡ 16
    → (p : ℕ) → block_at (store_block c v.alpha.0 (descriptor_block (activated_of v name) (tail_at c v.alpha.0))) p ≡ close_region (block_at c) v.alpha.0 0 name p
reverted c v name is h e f p =
    let b : List ℕ = descriptor_block (activated_of v name) (tail_at c v.alpha.0) in
    store_by c v.alpha.0 b (block_whole (activated_of v name) (tail_at c v.alpha.0) f (tail_length c v.alpha.0 h)) h p (eqb p v.alpha.0) refl
    ∙ ap (λ (x : List ℕ). pick (eqb p v.alpha.0) x (block_at c p)) (sym (closed_block (block_at c v.alpha.0) v (tail_at c v.alpha.0) is e name f 0))
    ∙ sym (close_by (block_at c) v.alpha.0 0 name p (eqb p v.alpha.0) refl)

-- a revert on revision 1: a copy of c blocks, closed so, and opened
module _ (c : List ℕ) (v : Descriptor) (name : List ℕ) (is : block_at c v.alpha.0 ≡ descriptor_block v (tail_at c v.alpha.0)) (rise : v.alpha.0 < v.beta.0)
    (room : 512 * (v.beta.0 + cost_of v) ≤ length c) (e : length v.name ≡ 16) (f : length name ≡ 16) where
  abbrev w : Descriptor
  w = activated_of v name

  abbrev b : ℕ
  b = v.beta.0

  abbrev k : ℕ
  k = cost_of v

  abbrev s : Sigma
  s = copy_range (block_at c) v.alpha.0 b k

  first_of : s b ≡ descriptor_block v (tail_at c v.alpha.0)
  first_of =
      let n : v.alpha.0 + (b - b) ≡ v.alpha.0 = omega arith in
      rw (le-leb b b (omega arith), lt-ltb b (b + k) (omega (arith, cost_least v.layout v.volume)), n) is

  closed_first : close_region s b 0 name b ≡ descriptor_block w (tail_at c v.alpha.0)
  closed_first = close_by s b 0 name b (eqb b b) refl ∙ rw (eq-eqb b b refl) (closed_block (s b) v (tail_at c v.alpha.0) first_of e name f 0)

  copied_by : (p : ℕ) → (p ≡ b → ⊥) → block_at (store_all c (reopening c w [])) p ≡ s p
  copied_by p n =
      range_by (block_at c) v.alpha.0 b k p (leb b p) (ltb p (b + k)) refl refl _
      (λ l h.
      let t = p - b - 1 in
      let at : b + 1 + t ≡ p = omega (arith, n) in
      let from : v.alpha.0 + 1 + t ≡ v.alpha.0 + (p - b) = omega (arith, n) in
      subst (λ (q : ℕ). block_at (store_all c (reopening c w [])) q ≡ block_at c (v.alpha.0 + (p - b))) at (reopening_table c w rise room f t (omega (arith, n)) ∙ ap (block_at c) from))
      (λ out. outside_by p (ltb p b) refl out)
    where
      outside_by : (p : ℕ) (z : Bool) → ltb p b ≡ z → (b ≤ p → p < b + k → ⊥) → block_at (store_all c (reopening c w [])) p ≡ block_at c p
      outside_by p true q out = reopening_kept c w rise room f p (ltb-true p b q)
      outside_by p false q out = past_by (ltb p (b + k)) refl
        where
          past_by : (y : Bool) → ltb p (b + k) ≡ y → block_at (store_all c (reopening c w [])) p ≡ block_at c p
          past_by true r = absurd (out (ltb-false p b q) (ltb-true p (b + k) r))
          past_by false r = reopening_past c w rise room f p (ltb-false p (b + k) r)

  reopened : (p : ℕ) (z : Bool) → eqb p b ≡ z → block_at (store_all c (reopening c w [])) p ≡ open_region (close_region s b 0 name) b k p
  reopened p true q =
      ap (block_at (store_all c (reopening c w []))) (eqb-true p b q)
      ∙ reopening_block c w rise room f
      ∙ sym (open_by (close_region s b 0 name) b k p true q ∙ opened_block (close_region s b 0 name b) w (tail_at c v.alpha.0) closed_first k refl)
  reopened p false q =
      copied_by p (eqb-false p b q)
      ∙ sym (open_by (close_region s b 0 name) b k p false q ∙ close_by s b 0 name p false q)

-- an accepted revert
module _ (c : List ℕ) (bytes : AreBytes c) (name : List ℕ) (e : is_accepted (answer_of (Revert name) c) ≡ true) (p : ℕ) where
  abbrev ds : List Descriptor
  ds = descriptors_of c

  abbrev v : Descriptor
  v = with_name (snapshots_of ds) name

  shown : RevertPassed c name
  shown = revert_passed c name e

  through : Through c (regions_of (chain c)).starts (regions_of (chain c)).count v
  through = snapshot_through c shown.area shown.sound name shown.there

  v_block : block_at c v.alpha.0 ≡ descriptor_block v (tail_at c v.alpha.0)
  v_block = through_block c bytes _ _ v through

  card_is : (step (Revert name) c).card ≡ store_all c (revert_stores c name)
  unfolding stores_of
  card_is = accepted_card (Revert name) c e

  pub algorithm_revert : revision_of c ≡ 0 → block_at (step (Revert name) c).card p ≡ close_region (block_at c) (with_name (snapshots_of (descriptors_of c)) name).alpha.0 0 (active_of (descriptors_of c)).name p
  algorithm_revert z =
      ap (λ (x : List ℕ). block_at x p) (card_is ∙ ap (store_all c) (stores_are c name shown (rw z)) ∙ stored_one c v.alpha.0 (descriptor_block (activated_of v (active_of ds).name) (tail_at c v.alpha.0)))
      ∙ reverted c v (active_of ds).name v_block (through_alpha c _ _ v through) (through_name c _ _ v through) (called_long c name shown) p

  pub algorithm_revert_1 : revision_of c ≡ 1
      → let u = with_name (snapshots_of (descriptors_of c)) name in
      block_at (step (Revert name) c).card p ≡ open_region (close_region (copy_range (block_at c) u.alpha.0 u.beta.0 (cost_of u)) u.beta.0 0 (active_of (descriptors_of c)).name) u.beta.0 (cost_of u) p
  algorithm_revert_1 o =
      ap (λ (x : List ℕ). block_at x p) (card_is ∙ ap (store_all c) (stores_open c name shown (rw o)))
      ∙ reopened c v (active_of ds).name v_block (visit_below c name shown).0 (visit_bytes c name shown) (through_name c _ _ v through) (called_long c name shown) p (eqb p v.beta.0) refl

-- accepted calls are the paper's algorithms
pub algorithm_claim : AlgorithmClaim
unfolding AlgorithmClaim
algorithm_claim c bytes =
    record {
      read = algorithm_read c bytes;
      write = algorithm_write c bytes;
      snap = algorithm_snap c bytes;
      revert = λ name e z p h. algorithm_revert c bytes name e p z;
      revert_1 = λ name e o p h. algorithm_revert_1 c bytes name e p o;
    }
