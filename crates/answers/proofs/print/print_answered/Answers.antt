-- `print_answered` meets its contract: its four parts, one after the other.
use Rattle.std.proofs.Common.{◌≤◌, length, arith}
use Rattle.answers.proofs.PrintLaws.{line_put}
use Rattle.answers.proofs.print.print_answered.Goals as goal

pub returns-clause-value : goal.returns-clause-value
returns-clause-value c =
    let p = rw (c.clear.ensures.value.0, c.clear.ensures.value.1) at c.put_answer.ensures.value in
    let h₂ : c.put_added_byte.new.out.length ≤ length c.args.out.now.bytes.now = omega (arith, c.requires.0, p.0, c.put_answer.ensures.upper_bound, c.clear.ensures.value.0, c.put_added_byte.ensures.upper_bound) in
    let h₃ : c.put.new.self.length ≤ length c.args.out.now.bytes.now = omega (arith, c.requires.0, c.put_answer.ensures.upper_bound, c.clear.ensures.value.0, c.put_added_byte.ensures.upper_bound, c.put.ensures.value.0) in
    let h₄ : c.put_added_records.new.out.length ≤ length c.args.out.now.bytes.now =
    omega (arith, c.requires.0, c.put_answer.ensures.upper_bound, c.clear.ensures.value.0, c.put_added_byte.ensures.upper_bound, c.put.ensures.value.0, c.put_added_records.ensures.upper_bound) in
    line_put _ _ _ _ _ _ _ _ _ _ _ _ p c.put_added_byte.ensures.value c.put.ensures.value c.put_added_records.ensures.value h₂ h₃ h₄
