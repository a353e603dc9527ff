-- Every definition that a sheet goes through, from its lines to what they print, so that a statement about given sheets is computed: `unfolding running_sheet` opens them all.
use Prim.Native.Nat.{ℕ}
use Rattle.calls.proofs.Stepping.{stepping}
use Rattle.cutter.specs.Grammar.{with_byte, words_of, has_key, is_digit, all_digits, digits_from, is_number, has_number, number_of, line_of_one, line_of_two, read_from, line_of_write, line_of_read, line_of_three, line_of_five, line_of_words, line_of, before_lines, lines_of, line_in}
use Rattle.printing.specs.Text.{digits, decimal, name_text, answer_text, byte_text, record_text, records_text}
use Rattle.sheet.specs.Sheet.{start, call_of, blocks_of, first_byte_of, records_after, addition_of, after_call, after_line, added_byte, added_records, line_text, lines_text, too_long, sheet_text}

unfoldable pub running_sheet : ℕ
unfolding sheet_text too_long lines_text line_text added_records added_byte after_line after_call addition_of records_after first_byte_of blocks_of call_of start
    records_text record_text byte_text answer_text name_text decimal digits
    line_in lines_of before_lines line_of line_of_words line_of_five line_of_three line_of_write line_of_read read_from line_of_two line_of_one number_of has_number is_number digits_from all_digits is_digit has_key words_of with_byte
    stepping
running_sheet = 0
