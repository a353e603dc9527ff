-- `are_name` meets its contract: each test carried along, and what is left of it to pass.
use mathlib.Core.Path.{◌≡◌}
use mathlib.Core.Bool.{not, ◌&&◌, ◌||◌}
use Rattle.blocks.specs.Pick.{all_zero}
use Rattle.blocks.specs.Name.{name_or_zero, zeros_last}
use Rattle.names.proofs.TestLaws.{good_from, last_from, some_from}
use Rattle.names.proofs.name.are_name.Given as goal

abbrev pub invariant-loop-b : goal.invariant-loop-b
invariant-loop-b l = record {
  good : name_or_zero l.bytes ≡ (l.good && good_from l.bytes l.b-index);
  last : zeros_last l.bytes ≡ (l.last && last_from l.bytes l.before l.b-index);
  some : not (all_zero l.bytes) ≡ (l.some || some_from l.bytes l.b-index);
}
