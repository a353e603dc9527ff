-- On two cards that agree, a write, a snap and a revert make the same stores, and store every block that they take.
use mathlib.Core.Path.{◌≡◌, refl}
use mathlib.Core.List.{List, [], ◌∷◌, ◌++◌}
use Prim.Native.Nat.{ℕ, ◌+◌, ◌-◌, ◌≤◌, ◌<◌}
use native.Mathlib.Omega.{arith}
use Rattle.blocks.specs.Bytes.{block_at}
use Rattle.blocks.specs.Descriptor.{cost_of, tail_at, copying}
use Rattle.chains.specs.Chain.{active_of, chain}
use Rattle.blocks.specs.declared.numbers.Physical.{Physical}
use Rattle.blocks.specs.declared.descriptor.Descriptor.{Descriptor}
use Rattle.blocks.proofs.DescriptorLaws.{cost_least}
use Rattle.blocks.proofs.StoreLists.{copying_same}
use Rattle.entries.specs.Entry.{find}
use Rattle.entries.specs.Found.{Entry}
use Rattle.entries.proofs.EntryLaws.{found_table}
use Rattle.calls.specs.Call.{Active}
use Rattle.calls.specs.Parts.{descriptors_of, snapshots_of, with_name}
use Rattle.calls.specs.Stores.{snapping, reverting, write_stores, snap_stores, revert_stores}
use Rattle.claims.specs.History.{beta_of, Agree}
use Rattle.links.proofs.SharedLaws.{shared_bytes, below_revision}
use Rattle.claims.proofs.Agreement.{agree_below, agree_chain, found_same}
use Rattle.calls.proofs.Passed.{WritePassed, SnapPassed, RevertPassed}
use Rattle.calls.proofs.ActiveLaws.{active_target, active_rise, active_through, active_long}
use Rattle.calls.proofs.CardLaws.{chain_is}
use Rattle.entries.proofs.PutLaws.{writing_same}
use Rattle.links.proofs.MemberLaws.{member_long}
use Rattle.calls.proofs.VisitLaws.{before, behind}
use Rattle.changes.proofs.RevertedChain.{revert_split, visit_below}

module _ (s t : List ℕ) (agree : Agree s t) where
  abbrev ds : List Descriptor
  ds = descriptors_of s

  abbrev d : Descriptor
  d = active_of ds

  beta_is : beta_of s ≡ d.beta.0
  unfolding beta_of
  beta_is = refl

  -- blocks and tails below beta
  below_block : (p : ℕ) → p < d.beta.0 → block_at s p ≡ block_at t p
  below_block p h = (agree_below s t agree).blocks p (rw beta_is h)

  below_tail : (p : ℕ) → p < d.beta.0 → tail_at s p ≡ tail_at t p
  below_tail p h =
      let b = agree_below s t agree in
      shared_bytes s t p (omega (arith, b.inside, beta_is)) (omega (arith, b.inside, b.long, beta_is)) (below_block p h) 40 472 (omega arith)

  same_copies : (from p n : ℕ) → from + n ≤ d.beta.0 → copying s from p n ≡ copying t from p n
  same_copies = copying_same s t d.beta.0 below_block

  -- a revert
  module _ (name : List ℕ) (e : RevertPassed s name) where
    abbrev ss : List Descriptor
    ss = snapshots_of ds

    abbrev v : Descriptor
    v = with_name ss name

    v_below : (v.alpha.0 < v.beta.0) × (v.beta.0 ≤ d.beta.0)
    v_below = visit_below s name e

    v_long : v.alpha.0 + cost_of v ≤ v.beta.0
    v_long = member_long s ds (before ss name) v (behind ss name ++ (d ∷ [])) (chain_is (chain s) e.sound) (revert_split s name e)

    pub same_revert : revert_stores s name ≡ revert_stores t name
    unfolding revert_stores reverting
    same_revert =
        rw (
          ← (agree_chain s t agree),
          below_revision s t (beta_of s) (agree_below s t agree),
          below_tail v.alpha.0 (omega (arith, v_below.0, v_below.1)),
          same_copies (v.alpha.0 + 1) (v.beta.0 + 1) (cost_of v - 1) (omega (arith, v_long, v_below.1, cost_least v.layout v.volume)),
        )

  -- a snap
  module _ (name : List ℕ) (e : SnapPassed s name) where
    d_long : d.alpha.0 + cost_of d ≤ d.beta.0
    d_long = active_long s (descriptors_of s) (chain_is (chain s) e.sound)

    d_least : 1 ≤ cost_of d
    d_least = cost_least d.layout d.volume

    pub same_snap : snap_stores s name ≡ snap_stores t name
    unfolding snap_stores snapping
    same_snap = rw (← (agree_chain s t agree), below_tail d.alpha.0 (omega (arith, d_long, d_least)), same_copies (d.alpha.0 + 1) (d.beta.0 + 1) (cost_of d - 1) (omega (arith, d_long, d_least)))

  -- a write
  module _ (l : ℕ) (block : List ℕ) (e : WritePassed s l block) where
    pub found_is : find s ds d l ≡ find t ds d l
    found_is = rw (active_target ds) at (found_same s t agree Active [] l refl e.below)

    table_below : (m p : Physical) → find s ds d l ≡ Entry m p → m.0 < d.beta.0
    table_below m p q = found_table s _ _ d (active_through s e.area e.sound) l e.below (find s ds d l) refl m p q

    d_low : d.alpha.0 < d.beta.0
    d_low = active_rise s (descriptors_of s) (chain_is (chain s) e.sound)

    pub same_write : write_stores s l block ≡ write_stores t l block
    unfolding write_stores
    same_write = rw (← (agree_chain s t agree), ← found_is) (writing_same s t d l block (below_tail d.alpha.0 d_low) (find s ds d l) (λ m p q. below_block m.0 (table_below m p q)))
