-- `put_records` meets its contract: after i turns the text of the first i records is put, up to `next`, and the length of the text is not yet set.
use Rattle.std.proofs.Common.{◌≡◌, ◌+◌, ◌*◌, ◌≤◌, length}
use Rattle.printing.proofs.TextLaws.{Put, first_text}
use Rattle.reporting.proofs.report.put_records.Given as goal

abbrev pub invariant-loop-r : goal.invariant-loop-r
invariant-loop-r l = record {
  put : Put l.initial.out.bytes.now l.initial.out.length (first_text l.records l.r-index) l.next l.out.bytes.now;
  short : l.next ≤ l.initial.out.length + 80 * l.r-index;
  kept : l.out.length ≡ l.initial.out.length;
  lent : (l.out.bytes.ghost_name ≡ l.initial.out.bytes.ghost_name) × (length l.out.bytes.now ≡ length l.initial.out.bytes.now);
}
