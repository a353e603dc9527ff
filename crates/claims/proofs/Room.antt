-- The chain after accepted calls.
use mathlib.Core.Path.{◌≡◌, ap, ◌∙◌}
use mathlib.Core.Bool.{true}
use mathlib.Core.List.{List, [], ◌∷◌, ◌++◌}
use Prim.Native.Nat.{ℕ}
use native.Mathlib.Omega.{arith}
use lib.ListN.{take}
use Rattle.blocks.specs.Bytes.{store_all}
use Rattle.blocks.specs.Descriptor.{revision_of}
use Rattle.chains.specs.Chain.{Sound, chain, index_of, active_of}
use Rattle.blocks.specs.declared.descriptor.Descriptor.{Descriptor}
use Rattle.links.proofs.ChainLaws.{descriptors_are}
use Rattle.calls.specs.Call.{Call, Write, SpanWrite, Snap, Revert}
use Rattle.calls.specs.Parts.{descriptors_of, snapshots_of, with_name}
use Rattle.calls.specs.Stores.{revert_stores, staying}
use Rattle.calls.specs.Spans.{span_count, write_span_stores, write_span_need}
use Rattle.calls.specs.Meaning.{answer_of, stores_of}
use Rattle.calls.specs.Step.{step, is_accepted}
use Rattle.calls.proofs.StepLaws.{accepted_card}
use Rattle.claims.specs.Claims.{blocks_needed, RoomClaim}
use Rattle.calls.proofs.Passed.{RevertPassed, write_passed, snap_passed, revert_passed}
use Rattle.changes.proofs.SpanSteps.{passed_at}
use Rattle.claims.proofs.CheckClaims.{span_allowed}
use Rattle.changes.proofs.RevertedChain.{returned_of, reverted_chain}
use Rattle.changes.proofs.SnappedChain.{snapped_chain}
use Rattle.changes.proofs.WrittenChain.{written_chain}

-- the chain after an accepted call
after_is : (k : Call) (c : List ℕ) → is_accepted (answer_of k c) ≡ true → (ds : List Descriptor) → chain (store_all c (stores_of k c)) ≡ Sound ds → descriptors_of (step k c).card ≡ ds
after_is k c e ds q = ap descriptors_of (accepted_card k c e) ∙ descriptors_are (store_all c (stores_of k c)) ds q

-- after a revert, on the revision that is given
reverted_as : (c name : List ℕ) → RevertPassed c name → (r : ℕ) → revision_of c ≡ r
    → let ss = snapshots_of (descriptors_of c) in
    chain (store_all c (revert_stores c name)) ≡ Sound (take (staying r (index_of ss name)) ss ++ (returned_of r (with_name ss name) (active_of (descriptors_of c)).name ∷ []))
reverted_as c name e r is = rw (← is) (reverted_chain c name e)

pub room_claim : RoomClaim
unfolding RoomClaim blocks_needed stores_of staying returned_of write_span_stores write_span_need
room_claim c =
    record {
      write = λ l block e. after_is (Write l block) c e _ (written_chain c l block (write_passed c l block e));
      span = λ o bytes e. after_is (SpanWrite o bytes) c e _ (passed_at c o bytes (span_allowed c o bytes e) (span_count o bytes) (omega arith)).chained;
      snap = λ name e. after_is (Snap name) c e _ (snapped_chain c name (snap_passed c name e));
      revert = λ name e z. after_is (Revert name) c e _ (reverted_as c name (revert_passed c name e) 0 z);
      revert_1 = λ name e o. after_is (Revert name) c e _ (reverted_as c name (revert_passed c name e) 1 o);
    }
