-- `target_index` meets its contract, case by case.
use Prim.Native.Nat.{◌-◌, ◌<◌}
use native.Mathlib.Omega.{arith}
use lib.ListN.{length, length-take}
use lib.Seq.{get_or-take}
use Rattle.chains.proofs.NamedLaws.{length_descriptors, descriptors_counted}
use Rattle.calls.proofs.ReadLaws.{index_active, index_found}
use Rattle.targets.proofs.target.target_index.Goals as goal

pub index_of-requires : goal.index_of-requires
index_of-requires c j h =
    let below : j < length c.args.starts.now - 1 = omega (arith, length-take (length c.args.starts.now - 1) c.args.starts.now) in
    rw (get_or-take (length c.args.starts.now - 1) c.args.starts.now j 0 below) (c.requires.1 j (omega arith))

pub returns-in-Active-clause-value : goal.returns-in-Active-clause-value
returns-in-Active-clause-value c = rw c.in-Active.is (index_active _ _ _ (descriptors_counted _ _ _ (omega arith)))

pub returns-in-Snapshot-clause-value : goal.returns-in-Snapshot-clause-value
returns-in-Snapshot-clause-value c =
    rw c.in-Snapshot.is (index_found _ _ _ (length_descriptors _ _) _ (omega (arith, length-take (length c.args.starts.now - 1) c.args.starts.now, c.requires.0)) _ c.index_of.ensures.value c.index_of.ensures.upper_bound)
