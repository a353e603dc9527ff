-- The edges of the rules on entries: what the definitions compute is what the table says, group by group and as a whole.
use mathlib.Core.Path.{◌≡◌, refl}
use mathlib.Core.List.{List, [], ◌∷◌, map}
use Prim.Native.Nat.{ℕ}
use Rattle.calls.specs.Call.{Check}
use Rattle.claims.specs.Bench.{expected, computed}
use Rattle.faults.specs.Faults.{entry_edges, opening_edges, table_edges, fault_edges, walk_edges, later_edges, three_edges, passing_edges, faults}
use Rattle.samples.proofs.FastCheck.{running_once}
use Rattle.samples.proofs.AsSaid.{AsSaid, ◌and◌, quickly}
use Rattle.samples.specs.Samples.{snapped, old, pair, tables2, named4, shared4, region6, only}

entry_edges_lem : AsSaid entry_edges
unfolding running_once entry_edges
entry_edges_lem = quickly _ refl

opening_edges_lem : AsSaid opening_edges
unfolding running_once opening_edges
opening_edges_lem = quickly _ refl

table_edges_lem : AsSaid table_edges
unfolding running_once table_edges
table_edges_lem = quickly _ refl

fault_edges_lem : AsSaid fault_edges
unfolding running_once fault_edges
fault_edges_lem = quickly _ refl

walk_edges_lem : AsSaid walk_edges
unfolding running_once walk_edges
walk_edges_lem = quickly _ refl

later_edges_lem : AsSaid later_edges
unfolding running_once later_edges
later_edges_lem = quickly _ refl

three_edges_lem : AsSaid three_edges
unfolding running_once three_edges
three_edges_lem = quickly _ refl

-- check answers 0: one theorem for each card, since it takes every entry
abbrev Passing : List ℕ → Type 0
Passing c = AsSaid (only c Check 0 0 ∷ [])

named_passes : Passing named4
unfolding running_once
named_passes = quickly _ refl

region_passes : Passing region6
unfolding running_once
region_passes = quickly _ refl

shared_passes : Passing shared4
unfolding running_once
shared_passes = quickly _ refl

both_passes : Passing (pair 2 2)
unfolding running_once
both_passes = quickly _ refl

freed_passes : Passing (pair 2 0)
unfolding running_once
freed_passes = quickly _ refl

old_passes : Passing (old 0)
unfolding running_once
old_passes = quickly _ refl

turned_passes : Passing (tables2 129 2 1 0 0 3)
unfolding running_once
turned_passes = quickly _ refl

own_passes : Passing (snapped 2 3)
unfolding running_once
own_passes = quickly _ refl

pair_passes : Passing (pair 2 5)
unfolding running_once
pair_passes = quickly _ refl

passing_edges_lem : AsSaid passing_edges
unfolding passing_edges
passing_edges_lem = named_passes and region_passes and shared_passes and both_passes and freed_passes and old_passes and turned_passes and own_passes and pair_passes

whole : AsSaid faults
unfolding faults
whole =
    entry_edges_lem
    and opening_edges_lem
    and table_edges_lem
    and fault_edges_lem
    and walk_edges_lem
    and later_edges_lem
    and three_edges_lem
    and passing_edges_lem

pub fault_values : map computed faults ≡ map expected faults
fault_values = whole.as_said
