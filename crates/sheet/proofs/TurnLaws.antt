-- Laws of the program's turns: a line asks for at most 64 blocks, and turn after turn is the fold of the sheet's lines.
use mathlib.Core.Path.{◌≡◌, refl, sym, ap, ◌∙◌}
use mathlib.Core.Bool.{Bool, true, false, ◌&&◌}
use mathlib.Core.List.{List, [], ◌∷◌, ◌++◌}
use Prim.Native.Nat.{ℕ, zero, suc, ◌+◌, ◌≤◌, ◌<◌}
use native.Mathlib.Omega.{arith}
use lib.ListN.{length, drop}
use lib.Dec.{ltb, leb}
use borrow.Author.Tests.{leb-true, le-ltb, ltb-true, ltb-false}
use Rattle.std.proofs.Common.{Option, None, Some, Result, is_none}
use Rattle.blocks.specs.Pick.{pick, same}
use Rattle.blocks.specs.Bytes.{part}
use Rattle.blocks.specs.Name.{padded}
use Rattle.blocks.specs.declared.numbers.Logical.{Logical}
use Rattle.calls.specs.declared.answer.Target.{Target}
use Rattle.calls.specs.declared.answer.Target.TheVariants.{Active, Snapshot}
use Rattle.blocks.proofs.BoolLaws.{no}
use Rattle.cutter.specs.declared.line.SheetCall.TheVariants.{Ream, Write, Read, Snap, Revert, List as Listing, Check}
use Rattle.cutter.specs.declared.line.SheetCall.{SheetCall}
use Rattle.cutter.specs.declared.line.Cut.{Cut}
use Rattle.cutter.specs.Words.{op_ream, key_layout, key_blocks, key_volume, key_name, op_write, op_read, key_block, key_fill, key_from, op_snap, op_revert, op_list, op_check, star}
use Rattle.cutter.specs.Grammar.{has_key, value_of, has_number, number_of, logical, line_of_one, line_of_two, read_from, line_of_write, line_of_read, line_of_three, line_of_five, line_of_words, words_of, line_of, line_length, lines_of, cut_at}
use Rattle.cutter.proofs.LineLaws.{cut_lines, cut_call, lines_none}
use Rattle.calls.specs.declared.answer.Refusal.{Refusal}
use Rattle.calls.specs.Call.{answered}
use Rattle.sheet.specs.declared.run.Addition.{Addition}
use Rattle.sheet.specs.State.{State}
use Rattle.sheet.specs.Sheet.{LineResult, left_by, added, line_text, blocks_of, size_of, after_line, state_after, printed, turn_of, turns_text, lines_text, start, too_long, sheet_text, TurnsClaim}

-- a line asks for at most 64 blocks
abbrev Small : Option SheetCall → Type 0
Small l = size_of l ≤ 64

small_none : Small None
unfolding size_of
small_none = omega arith

small_if : (b : Bool) (x y : Option SheetCall) → Small x → Small y → Small (pick b x y)
small_if true x y h k = h
small_if false x y h k = k

small_one : (op : List ℕ) → Small (line_of_one op)
unfolding line_of_one size_of blocks_of
small_one op = small_if (same op op_list) (Some Listing) (pick (same op op_check) (Some Check) None) (omega arith) (small_if (same op op_check) (Some Check) None (omega arith) small_none)

small_two : (op a : List ℕ) → Small (line_of_two op a)
unfolding line_of_two size_of blocks_of
small_two op a =
    let name = padded (value_of key_name a) in
    let snap = same op op_snap && has_key key_name a in
    let revert = same op op_revert && has_key key_name a in
    small_if snap (Some (Snap name)) (pick revert (Some (Revert name)) None) (omega arith) (small_if revert (Some (Revert name)) None (omega arith) small_none)

small_from : (b : Bool) (x y : Target) (l : Logical) → Small (Some (pick b (Read x l) (Read y l)))
unfolding size_of blocks_of
small_from true x y l = omega arith
small_from false x y l = omega arith

small_write : (a b : List ℕ) → Small (line_of_write a b)
unfolding line_of_write size_of blocks_of
small_write a b =
    small_if (has_number key_block a && has_number key_fill b && leb (number_of key_fill b) 255) (Some (Write (logical (number_of key_block a)) (number_of key_fill b))) None (omega arith) small_none

small_read : (a b : List ℕ) → Small (line_of_read a b)
unfolding line_of_read read_from
small_read a b =
    let from = value_of key_from a in
    let l = number_of key_block b in
    small_if (has_key key_from a && has_number key_block b) (Some (read_from from l)) None (small_from (same from star) Active (Snapshot (padded from)) (logical l)) small_none

five_test : (a b c d e f : Bool) → (a && b && c && d && e && f) ≡ true → d ≡ true
five_test true true true true e f h = refl
five_test true true true false e f h = no h
five_test true true false d e f h = no h
five_test true false c d e f h = no h
five_test false b c d e f h = no h

five_by : (t : Bool) (layout size volume : ℕ) (name : List ℕ) → (t ≡ true → size ≤ 64) → Small (pick t (Some (Ream layout size volume name)) None)
unfolding size_of blocks_of
five_by true layout size volume name h = h refl
five_by false layout size volume name h = omega arith

small_words : (ws : List (List ℕ)) → Small (line_of_words ws)
unfolding line_of_words line_of_three line_of_five
small_words [] = small_none
small_words (a ∷ []) = small_one a
small_words (a ∷ b ∷ []) = small_two a b
small_words (a ∷ b ∷ c ∷ []) =
    small_if (same a op_write) (line_of_write b c) (pick (same a op_read) (line_of_read b c) None) (small_write b c)
    (small_if (same a op_read) (line_of_read b c) None (small_read b c) small_none)
small_words (a ∷ b ∷ c ∷ d ∷ []) = small_none
small_words (a ∷ b ∷ c ∷ d ∷ e ∷ []) =
    five_by (same a op_ream && has_number key_layout b && has_number key_blocks c && leb (number_of key_blocks c) 64 && has_number key_volume d && has_key key_name e)
    (number_of key_layout b) (number_of key_blocks c) (number_of key_volume d) (padded (value_of key_name e))
    (λ h. leb-true (number_of key_blocks c) 64 (five_test (same a op_ream) (has_number key_layout b) (has_number key_blocks c) (leb (number_of key_blocks c) 64) (has_number key_volume d) (has_key key_name e) h))
small_words (a ∷ b ∷ c ∷ d ∷ e ∷ f ∷ ws) = small_none

small_line : (bytes : List ℕ) → Small (line_of bytes)
unfolding line_of
small_line bytes = small_if (ltb 127 (length bytes)) None (line_of_words (words_of bytes)) small_none (small_words (words_of bytes))

cut_by : (b : Bool) (l : Option SheetCall) (n m : ℕ) → Small l → Small (pick {A = Cut} b (record { call = l; next = n }) (record { call = None; next = m })).call
cut_by true l n m h = h
cut_by false l n m h = small_none

pub cut_small : (s : List ℕ) (at : ℕ) → size_of (cut_at s at).call ≤ 64
unfolding cut_at
cut_small s at =
    let n = line_length (drop at s) in
    cut_by (ltb (at + n) (length s)) (line_of (part s at n)) (at + n + 1) (length s) (small_line (part s at n))

-- a turn, from the line that was cut and what it left
pub turn_done : (s t : State) (number : ℕ) (sheet : List ℕ) (at : ℕ) (cut : Cut) (q : Result Addition Refusal) (o : List ℕ) (ended : Bool) → cut ≡ cut_at sheet at → left_by q (is_none cut.call) t ≡ after_line s number cut.call
    → o ≡ line_text (answered q) (added q) t.records → ended ≡ is_none cut.call
    → (record { next = cut.next; length = length o; blocks = t.blocks; records = t.records; ended = ended } ≡ (turn_of s number sheet at).turn) × (t.area ≡ (turn_of s number sheet at).area) × (o ≡ (turn_of s number sheet at).text)
unfolding turn_of
turn_done s t number sheet at cut q o ended e f p k =
    let g : left_by q (is_none cut.call) t ≡ after_line s number (cut_at sheet at).call = f ∙ ap (λ (c : Cut). after_line s number c.call) e in (
      rw (k, p)
          (ap (λ (c : Cut). record { next = c.next; length = length (printed (left_by q (is_none cut.call) t).ran); blocks = t.blocks; records = t.records; ended = is_none cut.call }) e
          ∙ ap (λ (a : LineResult). record { next = (cut_at sheet at).next; length = length (printed a.ran); blocks = a.ran.blocks; records = a.ran.records; ended = a.ran.ended }) g),
      ap (λ (a : LineResult). a.area) g,
      p ∙ ap (λ (a : LineResult). printed a.ran) g,
    )

-- the next line starts further on
next_by : (b : Bool) (x y : Cut) (at : ℕ) → at < x.next → at < y.next → at < (pick b x y).next
next_by true x y at h k = h
next_by false x y at h k = k

next_on : (s : List ℕ) (at : ℕ) → at < length s → at < (cut_at s at).next
unfolding cut_at
next_on s at h =
    let n = line_length (drop at s) in
    next_by (ltb (at + n) (length s)) (record { call = line_of (part s at n); next = at + n + 1 }) (record { call = None; next = length s }) at (omega arith) h

-- turn after turn is the fold of the lines
turns_by : (k : ℕ) → ((s : State) (number : ℕ) (sheet : List ℕ) (at : ℕ) → length sheet ≤ at + k → turns_text k s number sheet at ≡ lines_text s number (lines_of (drop at sheet)))
    → (s : State) (number : ℕ) (sheet : List ℕ) (at : ℕ) → length sheet ≤ at + suc k → (b : Bool) → ltb at (length sheet) ≡ b → turns_text (suc k) s number sheet at ≡ lines_text s number (lines_of (drop at sheet))
unfolding turns_text turn_of lines_text
turns_by k more s number sheet at h true e =
    let inside = ltb-true at (length sheet) e in
    let l = (cut_at sheet at).call in
    let next = (cut_at sheet at).next in
    let a = after_line s number l in
    rw (e, cut_lines sheet at inside, cut_call sheet at)
    (ap (λ (x : List ℕ). printed a.ran ++ pick a.ran.ended [] x) (more (state_after a) (suc number) sheet next (omega (arith, next_on sheet at inside))))
turns_by k more s number sheet at h false e = rw (e, lines_none sheet at (ltb-false at (length sheet) e))

turns_lines : (k : ℕ) (s : State) (number : ℕ) (sheet : List ℕ) (at : ℕ) → length sheet ≤ at + k → turns_text k s number sheet at ≡ lines_text s number (lines_of (drop at sheet))
unfolding turns_text lines_text
turns_lines zero s number sheet at h = rw (lines_none sheet at (omega arith))
turns_lines (suc k) s number sheet at h = turns_by k (turns_lines k) s number sheet at h (ltb at (length sheet)) refl

pub turns_claim : TurnsClaim
unfolding TurnsClaim sheet_text
turns_claim sheet h = turns_lines (length sheet) start 1 sheet 0 (omega arith) ∙ sym (ap (λ (b : Bool). pick b too_long (lines_text start 1 (lines_of sheet))) (le-ltb 16384 (length sheet) h))
