-- The lines of a work sheet: where each ends, its words, and the call that they ask for.
use Rattle.std.specs.Prelude.{Bool, true, false, not, ◌&&◌, ◌||◌, List, [], ◌∷◌, ℕ, suc, ◌+◌, ◌*◌, ◌-◌, length, drop, get_or, eqb, ltb, leb, Option, None, Some}
use Rattle.blocks.specs.Pick.{pick, same}
use Rattle.blocks.specs.Bytes.{part}
use Rattle.blocks.specs.Name.{padded}
use Rattle.blocks.specs.declared.numbers.Logical.{Logical}
use Rattle.calls.specs.declared.answer.Target.TheVariants.{Active, Snapshot}
use Rattle.cutter.specs.declared.line.SheetCall.{SheetCall}
use Rattle.cutter.specs.declared.line.SheetCall.TheVariants.{Ream, Write, Read, Snap, Revert, List as Listing, Check}
use Rattle.cutter.specs.declared.line.Cut.{Cut}
use Rattle.cutter.specs.Words.{op_ream, op_write, op_read, op_snap, op_revert, op_list, op_check, key_layout, key_blocks, key_volume, key_name, key_block, key_fill, key_from, star}

-- the words of a line: it is cut at each space, so that two spaces have an empty word between them
unfoldable pub with_byte : ℕ → List (List ℕ) → List (List ℕ)
with_byte b [] = (b ∷ []) ∷ []
with_byte b (w ∷ ws) = (b ∷ w) ∷ ws

unfoldable pub words_of : List ℕ → List (List ℕ)
words_of [] = [] ∷ []
words_of (b ∷ bs) = pick (eqb b 32) ([] ∷ words_of bs) (with_byte b (words_of bs))

-- whether a word begins with a key, and the value that follows it
unfoldable pub has_key : List ℕ → List ℕ → Bool
has_key [] word = true
has_key (k ∷ ks) [] = false
has_key (k ∷ ks) (b ∷ bs) = eqb k b && has_key ks bs

abbrev pub value_of : List ℕ → List ℕ → List ℕ
value_of key word = drop (length key) word

-- a number: digits, no leading zero, 0 to 65,535
unfoldable pub is_digit : ℕ → Bool
is_digit b = leb 48 b && leb b 57

unfoldable pub all_digits : List ℕ → Bool
all_digits [] = true
all_digits (b ∷ bs) = is_digit b && all_digits bs

-- n is what the digits before say
unfoldable pub digits_from : ℕ → List ℕ → ℕ
digits_from n [] = n
digits_from n (b ∷ bs) = digits_from (10 * n + (b - 48)) bs

abbrev pub most_number : ℕ
most_number = 65535

unfoldable pub is_number : List ℕ → Bool
is_number ds = ltb 0 (length ds) && all_digits ds && (eqb (length ds) 1 || not (eqb (get_or ds 0 0) 48)) && leb (digits_from 0 ds) most_number

-- the same of the value after a key
unfoldable pub has_number : List ℕ → List ℕ → Bool
has_number key word = has_key key word && is_number (value_of key word)

unfoldable pub number_of : List ℕ → List ℕ → ℕ
number_of key word = digits_from 0 (value_of key word)

-- the call that a line asks for, by its words: none where it is not of the form
abbrev pub logical : ℕ → Logical
logical l = record { 0 = l }

-- `op=list`, `op=check`
unfoldable pub line_of_one : List ℕ → Option SheetCall
line_of_one op = pick (same op op_list) (Some Listing) (pick (same op op_check) (Some Check) None)

-- `op=snap name=`, `op=revert name=`
unfoldable pub line_of_two : List ℕ → List ℕ → Option SheetCall
line_of_two op a =
    pick (same op op_snap && has_key key_name a)
    (Some (Snap (padded (value_of key_name a))))
    (pick (same op op_revert && has_key key_name a)
    (Some (Revert (padded (value_of key_name a))))
    None)

-- a read from `*` is of the active store, any other of the snapshot that has the name
unfoldable pub read_from : List ℕ → ℕ → SheetCall
read_from from l = pick (same from star) (Read Active (logical l)) (Read (Snapshot (padded from)) (logical l))

-- the largest byte, which a write may fill a block with
abbrev pub most_fill : ℕ
most_fill = 255

-- `op=write block= fill=`, by the two words after the first
unfoldable pub line_of_write : List ℕ → List ℕ → Option SheetCall
line_of_write a b =
    pick (has_number key_block a && has_number key_fill b && leb (number_of key_fill b) most_fill)
    (Some (Write (logical (number_of key_block a)) (number_of key_fill b)))
    None

-- `op=read from= block=`, by the two words after the first
unfoldable pub line_of_read : List ℕ → List ℕ → Option SheetCall
line_of_read a b = pick (has_key key_from a && has_number key_block b) (Some (read_from (value_of key_from a) (number_of key_block b))) None

-- `op=write` and `op=read`, each with its two words
unfoldable pub line_of_three : List ℕ → List ℕ → List ℕ → Option SheetCall
line_of_three op a b = pick (same op op_write) (line_of_write a b) (pick (same op op_read) (line_of_read a b) None)

-- the blocks that a sheet owns: a format asks for at most these
abbrev pub sheet_blocks : ℕ
sheet_blocks = 64

-- `op=ream layout= blocks= volume= name=`
unfoldable pub line_of_five : List ℕ → List ℕ → List ℕ → List ℕ → List ℕ → Option SheetCall
line_of_five op a b c d =
    pick (same op op_ream && has_number key_layout a && has_number key_blocks b && leb (number_of key_blocks b) sheet_blocks && has_number key_volume c && has_key key_name d)
    (Some (Ream (number_of key_layout a) (number_of key_blocks b) (number_of key_volume c) (padded (value_of key_name d))))
    None

unfoldable pub line_of_words : List (List ℕ) → Option SheetCall
line_of_words [] = None
line_of_words (a ∷ []) = line_of_one a
line_of_words (a ∷ b ∷ []) = line_of_two a b
line_of_words (a ∷ b ∷ c ∷ []) = line_of_three a b c
line_of_words (a ∷ b ∷ c ∷ d ∷ []) = None
line_of_words (a ∷ b ∷ c ∷ d ∷ e ∷ []) = line_of_five a b c d e
line_of_words (a ∷ b ∷ c ∷ d ∷ e ∷ f ∷ ws) = None

-- the most bytes of a line, its line feed not counted
abbrev pub most_line : ℕ
most_line = 127

-- the line that has these bytes before its line feed
unfoldable pub line_of : List ℕ → Option SheetCall
line_of bytes = pick (ltb most_line (length bytes)) None (line_of_words (words_of bytes))

-- how many bytes stand before the first that is b, all where none is
unfoldable pub length_to : ℕ → List ℕ → ℕ
length_to b [] = 0
length_to b (x ∷ xs) = pick (eqb x b) 0 (suc (length_to b xs))

-- the same before the first line feed
abbrev pub line_length : List ℕ → ℕ
line_length bytes = length_to 10 bytes

-- a line as it stands in a sheet: its bytes, and whether a line feed ends it
pub record SheetLine : Type 0 where
  pub bytes : List ℕ
  pub ended : Bool

unfoldable pub before_lines : ℕ → List SheetLine → List SheetLine
before_lines b [] = record { bytes = b ∷ []; ended = false } ∷ []
before_lines b (l ∷ ls) = record { bytes = b ∷ l.bytes; ended = l.ended } ∷ ls

-- the lines of a sheet: it is cut after each line feed, and what follows the last is a line without one
unfoldable pub lines_of : List ℕ → List SheetLine
lines_of [] = []
lines_of (b ∷ bs) = pick (eqb b 10) (record { bytes = []; ended = true } ∷ lines_of bs) (before_lines b (lines_of bs))

-- what a line of a sheet asks for: one that no line feed ends is not of the form
unfoldable pub line_in : SheetLine → Option SheetCall
line_in l = pick l.ended (line_of l.bytes) None

-- the line that starts at a byte of the sheet, and where the next one starts
unfoldable pub cut_at : List ℕ → ℕ → Cut
cut_at s at =
    let n = line_length (drop at s) in
    pick (ltb (at + n) (length s))
    (record { call = line_of (part s at n); next = at + n + 1 })
    (record { call = None; next = length s })
