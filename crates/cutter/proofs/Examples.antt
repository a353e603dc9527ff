-- Lines as bytes: each form of 01 is cut to its call, and lines that are not of a form are not.
use mathlib.Core.Path.{◌≡◌, refl}
use mathlib.Core.List.{List, [], ◌∷◌, ◌++◌}
use Prim.Native.Nat.{ℕ}
use lib.ListN.{replicate}
use Rattle.std.proofs.Common.{None, Some}
use Rattle.blocks.specs.Pick.{same}
use Rattle.blocks.specs.Name.{name_byte, name_length, is_text, padded, no_name}
use Rattle.calls.specs.declared.answer.Target.TheVariants.{Active, Snapshot}
use Rattle.cutter.specs.declared.line.SheetCall.TheVariants.{Ream, Write, Read, Snap, Revert, List as Listing, Check}
use Rattle.cutter.specs.Grammar.{with_byte, words_of, has_key, is_digit, all_digits, digits_from, is_number, has_number, number_of, logical, line_of_one, line_of_two, read_from, line_of_write, line_of_read, line_of_three, line_of_five, line_of_words, line_of}

-- `op=ream layout=2 blocks=16 volume=200 name=fs`
abbrev ream_line : List ℕ
ream_line = 111 ∷ 112 ∷ 61 ∷ 114 ∷ 101 ∷ 97 ∷ 109 ∷ 32 ∷ 108 ∷ 97 ∷ 121 ∷ 111 ∷ 117 ∷ 116 ∷ 61 ∷ 50 ∷ 32 ∷ 98 ∷ 108 ∷ 111 ∷ 99 ∷ 107 ∷ 115 ∷ 61 ∷ 49 ∷ 54 ∷ 32 ∷ 118 ∷ 111 ∷ 108 ∷ 117 ∷ 109 ∷ 101 ∷ 61 ∷ 50 ∷ 48 ∷ 48 ∷ 32 ∷ 110 ∷ 97 ∷ 109 ∷ 101 ∷ 61 ∷ 102 ∷ 115 ∷ []

-- `op=write block=5 fill=7`
abbrev write_line : List ℕ
write_line = 111 ∷ 112 ∷ 61 ∷ 119 ∷ 114 ∷ 105 ∷ 116 ∷ 101 ∷ 32 ∷ 98 ∷ 108 ∷ 111 ∷ 99 ∷ 107 ∷ 61 ∷ 53 ∷ 32 ∷ 102 ∷ 105 ∷ 108 ∷ 108 ∷ 61 ∷ 55 ∷ []

-- `op=read from=mon block=5`
abbrev read_line : List ℕ
read_line = 111 ∷ 112 ∷ 61 ∷ 114 ∷ 101 ∷ 97 ∷ 100 ∷ 32 ∷ 102 ∷ 114 ∷ 111 ∷ 109 ∷ 61 ∷ 109 ∷ 111 ∷ 110 ∷ 32 ∷ 98 ∷ 108 ∷ 111 ∷ 99 ∷ 107 ∷ 61 ∷ 53 ∷ []

-- `op=read from=* block=65535`
abbrev read_active_line : List ℕ
read_active_line = 111 ∷ 112 ∷ 61 ∷ 114 ∷ 101 ∷ 97 ∷ 100 ∷ 32 ∷ 102 ∷ 114 ∷ 111 ∷ 109 ∷ 61 ∷ 42 ∷ 32 ∷ 98 ∷ 108 ∷ 111 ∷ 99 ∷ 107 ∷ 61 ∷ 54 ∷ 53 ∷ 53 ∷ 51 ∷ 53 ∷ []

-- `op=read from=*x block=5`
abbrev read_star_line : List ℕ
read_star_line = 111 ∷ 112 ∷ 61 ∷ 114 ∷ 101 ∷ 97 ∷ 100 ∷ 32 ∷ 102 ∷ 114 ∷ 111 ∷ 109 ∷ 61 ∷ 42 ∷ 120 ∷ 32 ∷ 98 ∷ 108 ∷ 111 ∷ 99 ∷ 107 ∷ 61 ∷ 53 ∷ []

-- `op=snap name=mon`
abbrev snap_line : List ℕ
snap_line = 111 ∷ 112 ∷ 61 ∷ 115 ∷ 110 ∷ 97 ∷ 112 ∷ 32 ∷ 110 ∷ 97 ∷ 109 ∷ 101 ∷ 61 ∷ 109 ∷ 111 ∷ 110 ∷ []

-- `op=revert name=mon`
abbrev revert_line : List ℕ
revert_line = 111 ∷ 112 ∷ 61 ∷ 114 ∷ 101 ∷ 118 ∷ 101 ∷ 114 ∷ 116 ∷ 32 ∷ 110 ∷ 97 ∷ 109 ∷ 101 ∷ 61 ∷ 109 ∷ 111 ∷ 110 ∷ []

-- `op=list`
abbrev list_line : List ℕ
list_line = 111 ∷ 112 ∷ 61 ∷ 108 ∷ 105 ∷ 115 ∷ 116 ∷ []

-- `op=check`
abbrev check_line : List ℕ
check_line = 111 ∷ 112 ∷ 61 ∷ 99 ∷ 104 ∷ 101 ∷ 99 ∷ 107 ∷ []

-- `op=snap name=`
abbrev no_name_line : List ℕ
no_name_line = 111 ∷ 112 ∷ 61 ∷ 115 ∷ 110 ∷ 97 ∷ 112 ∷ 32 ∷ 110 ∷ 97 ∷ 109 ∷ 101 ∷ 61 ∷ []

-- `op=snap name=m<zero byte>n`
abbrev zero_byte_line : List ℕ
zero_byte_line = 111 ∷ 112 ∷ 61 ∷ 115 ∷ 110 ∷ 97 ∷ 112 ∷ 32 ∷ 110 ∷ 97 ∷ 109 ∷ 101 ∷ 61 ∷ 109 ∷ 0 ∷ 110 ∷ []

-- `op=snap name=` and 114 bytes more: 127 in all, the most that a line may have. And one byte more
abbrev longest : List ℕ
longest = no_name_line ++ replicate 114 97

abbrev too_long : List ℕ
too_long = no_name_line ++ replicate 115 97

-- the names `fs` and `mon`
abbrev fs : List ℕ
fs = 102 ∷ 115 ∷ 0 ∷ 0 ∷ 0 ∷ 0 ∷ 0 ∷ 0 ∷ 0 ∷ 0 ∷ 0 ∷ 0 ∷ 0 ∷ 0 ∷ 0 ∷ 0 ∷ []

abbrev mon : List ℕ
mon = 109 ∷ 111 ∷ 110 ∷ 0 ∷ 0 ∷ 0 ∷ 0 ∷ 0 ∷ 0 ∷ 0 ∷ 0 ∷ 0 ∷ 0 ∷ 0 ∷ 0 ∷ 0 ∷ []

-- each form is cut to its call. A text that is no name gives no name
pub forms :
    (line_of ream_line ≡ Some (Ream 2 16 200 fs))
    × (line_of write_line ≡ Some (Write (logical 5) 7))
    × (line_of read_line ≡ Some (Read (Snapshot mon) (logical 5)))
    × (line_of read_active_line ≡ Some (Read Active (logical 65535)))
    × (line_of read_star_line ≡ Some (Read (Snapshot no_name) (logical 5)))
    × (line_of snap_line ≡ Some (Snap mon))
    × (line_of revert_line ≡ Some (Revert mon))
    × (line_of list_line ≡ Some Listing)
    × (line_of check_line ≡ Some Check)
    × (line_of no_name_line ≡ Some (Snap no_name))
    × (line_of zero_byte_line ≡ Some (Snap no_name))
    × (line_of longest ≡ Some (Snap no_name))
unfolding line_of words_of with_byte line_of_words line_of_one line_of_two line_of_three line_of_write line_of_read line_of_five read_from same has_key has_number number_of is_number all_digits is_digit digits_from padded is_text name_length name_byte
forms = (refl, refl, refl, refl, refl, refl, refl, refl, refl, refl, refl, refl)

-- two spaces: `op=snap  name=mon`
abbrev double_space : List ℕ
double_space = 111 ∷ 112 ∷ 61 ∷ 115 ∷ 110 ∷ 97 ∷ 112 ∷ 32 ∷ 32 ∷ 110 ∷ 97 ∷ 109 ∷ 101 ∷ 61 ∷ 109 ∷ 111 ∷ 110 ∷ []

-- a space at the end: `op=list `
abbrev trailing_space : List ℕ
trailing_space = 111 ∷ 112 ∷ 61 ∷ 108 ∷ 105 ∷ 115 ∷ 116 ∷ 32 ∷ []

-- a space at the start: ` op=list`
abbrev leading_space : List ℕ
leading_space = 32 ∷ 111 ∷ 112 ∷ 61 ∷ 108 ∷ 105 ∷ 115 ∷ 116 ∷ []

-- a leading zero: `op=write block=05 fill=7`
abbrev leading_zero : List ℕ
leading_zero = 111 ∷ 112 ∷ 61 ∷ 119 ∷ 114 ∷ 105 ∷ 116 ∷ 101 ∷ 32 ∷ 98 ∷ 108 ∷ 111 ∷ 99 ∷ 107 ∷ 61 ∷ 48 ∷ 53 ∷ 32 ∷ 102 ∷ 105 ∷ 108 ∷ 108 ∷ 61 ∷ 55 ∷ []

-- 65,536: `op=read from=* block=65536`
abbrev too_large : List ℕ
too_large = 111 ∷ 112 ∷ 61 ∷ 114 ∷ 101 ∷ 97 ∷ 100 ∷ 32 ∷ 102 ∷ 114 ∷ 111 ∷ 109 ∷ 61 ∷ 42 ∷ 32 ∷ 98 ∷ 108 ∷ 111 ∷ 99 ∷ 107 ∷ 61 ∷ 54 ∷ 53 ∷ 53 ∷ 51 ∷ 54 ∷ []

-- a number without digits: `op=write block= fill=7`
abbrev no_digits : List ℕ
no_digits = 111 ∷ 112 ∷ 61 ∷ 119 ∷ 114 ∷ 105 ∷ 116 ∷ 101 ∷ 32 ∷ 98 ∷ 108 ∷ 111 ∷ 99 ∷ 107 ∷ 61 ∷ 32 ∷ 102 ∷ 105 ∷ 108 ∷ 108 ∷ 61 ∷ 55 ∷ []

-- a byte that is no digit: `op=write block=5x fill=7`
abbrev not_digit : List ℕ
not_digit = 111 ∷ 112 ∷ 61 ∷ 119 ∷ 114 ∷ 105 ∷ 116 ∷ 101 ∷ 32 ∷ 98 ∷ 108 ∷ 111 ∷ 99 ∷ 107 ∷ 61 ∷ 53 ∷ 120 ∷ 32 ∷ 102 ∷ 105 ∷ 108 ∷ 108 ∷ 61 ∷ 55 ∷ []

-- a fill above 255: `op=write block=5 fill=256`
abbrev fill256 : List ℕ
fill256 = 111 ∷ 112 ∷ 61 ∷ 119 ∷ 114 ∷ 105 ∷ 116 ∷ 101 ∷ 32 ∷ 98 ∷ 108 ∷ 111 ∷ 99 ∷ 107 ∷ 61 ∷ 53 ∷ 32 ∷ 102 ∷ 105 ∷ 108 ∷ 108 ∷ 61 ∷ 50 ∷ 53 ∷ 54 ∷ []

-- blocks above 64: `op=ream layout=2 blocks=65 volume=200 name=fs`
abbrev blocks65 : List ℕ
blocks65 = 111 ∷ 112 ∷ 61 ∷ 114 ∷ 101 ∷ 97 ∷ 109 ∷ 32 ∷ 108 ∷ 97 ∷ 121 ∷ 111 ∷ 117 ∷ 116 ∷ 61 ∷ 50 ∷ 32 ∷ 98 ∷ 108 ∷ 111 ∷ 99 ∷ 107 ∷ 115 ∷ 61 ∷ 54 ∷ 53 ∷ 32 ∷ 118 ∷ 111 ∷ 108 ∷ 117 ∷ 109 ∷ 101 ∷ 61 ∷ 50 ∷ 48 ∷ 48 ∷ 32 ∷ 110 ∷ 97 ∷ 109 ∷ 101 ∷ 61 ∷ 102 ∷ 115 ∷ []

-- a pair missing: `op=ream layout=2 blocks=16 volume=200`
abbrev missing_pair : List ℕ
missing_pair = 111 ∷ 112 ∷ 61 ∷ 114 ∷ 101 ∷ 97 ∷ 109 ∷ 32 ∷ 108 ∷ 97 ∷ 121 ∷ 111 ∷ 117 ∷ 116 ∷ 61 ∷ 50 ∷ 32 ∷ 98 ∷ 108 ∷ 111 ∷ 99 ∷ 107 ∷ 115 ∷ 61 ∷ 49 ∷ 54 ∷ 32 ∷ 118 ∷ 111 ∷ 108 ∷ 117 ∷ 109 ∷ 101 ∷ 61 ∷ 50 ∷ 48 ∷ 48 ∷ []

-- pairs in another order: `op=write fill=7 block=5`
abbrev wrong_order : List ℕ
wrong_order = 111 ∷ 112 ∷ 61 ∷ 119 ∷ 114 ∷ 105 ∷ 116 ∷ 101 ∷ 32 ∷ 102 ∷ 105 ∷ 108 ∷ 108 ∷ 61 ∷ 55 ∷ 32 ∷ 98 ∷ 108 ∷ 111 ∷ 99 ∷ 107 ∷ 61 ∷ 53 ∷ []

-- upper case: `op=LIST`
abbrev upper_case : List ℕ
upper_case = 111 ∷ 112 ∷ 61 ∷ 76 ∷ 73 ∷ 83 ∷ 84 ∷ []

-- a carriage return before the line feed: `op=list<carriage return>`
abbrev carriage_return : List ℕ
carriage_return = 111 ∷ 112 ∷ 61 ∷ 108 ∷ 105 ∷ 115 ∷ 116 ∷ 13 ∷ []

-- a pair too many: `op=list name=mon`
abbrev one_pair_more : List ℕ
one_pair_more = 111 ∷ 112 ∷ 61 ∷ 108 ∷ 105 ∷ 115 ∷ 116 ∷ 32 ∷ 110 ∷ 97 ∷ 109 ∷ 101 ∷ 61 ∷ 109 ∷ 111 ∷ 110 ∷ []

-- two zeros: `op=write block=00 fill=7`
abbrev two_zeros : List ℕ
two_zeros = 111 ∷ 112 ∷ 61 ∷ 119 ∷ 114 ∷ 105 ∷ 116 ∷ 101 ∷ 32 ∷ 98 ∷ 108 ∷ 111 ∷ 99 ∷ 107 ∷ 61 ∷ 48 ∷ 48 ∷ 32 ∷ 102 ∷ 105 ∷ 108 ∷ 108 ∷ 61 ∷ 55 ∷ []

-- the byte before `0`: `op=write block=/ fill=7`
abbrev below_digits : List ℕ
below_digits = 111 ∷ 112 ∷ 61 ∷ 119 ∷ 114 ∷ 105 ∷ 116 ∷ 101 ∷ 32 ∷ 98 ∷ 108 ∷ 111 ∷ 99 ∷ 107 ∷ 61 ∷ 47 ∷ 32 ∷ 102 ∷ 105 ∷ 108 ∷ 108 ∷ 61 ∷ 55 ∷ []

-- the byte after `9`: `op=write block=: fill=7`
abbrev above_digits : List ℕ
above_digits = 111 ∷ 112 ∷ 61 ∷ 119 ∷ 114 ∷ 105 ∷ 116 ∷ 101 ∷ 32 ∷ 98 ∷ 108 ∷ 111 ∷ 99 ∷ 107 ∷ 61 ∷ 58 ∷ 32 ∷ 102 ∷ 105 ∷ 108 ∷ 108 ∷ 61 ∷ 55 ∷ []

-- a fill without digits: `op=write block=5 fill=`
abbrev no_fill : List ℕ
no_fill = 111 ∷ 112 ∷ 61 ∷ 119 ∷ 114 ∷ 105 ∷ 116 ∷ 101 ∷ 32 ∷ 98 ∷ 108 ∷ 111 ∷ 99 ∷ 107 ∷ 61 ∷ 53 ∷ 32 ∷ 102 ∷ 105 ∷ 108 ∷ 108 ∷ 61 ∷ []

-- a layout that is no number: `op=ream layout=x blocks=16 volume=200 name=fs`
abbrev layout_x : List ℕ
layout_x = 111 ∷ 112 ∷ 61 ∷ 114 ∷ 101 ∷ 97 ∷ 109 ∷ 32 ∷ 108 ∷ 97 ∷ 121 ∷ 111 ∷ 117 ∷ 116 ∷ 61 ∷ 120 ∷ 32 ∷ 98 ∷ 108 ∷ 111 ∷ 99 ∷ 107 ∷ 115 ∷ 61 ∷ 49 ∷ 54 ∷ 32 ∷ 118 ∷ 111 ∷ 108 ∷ 117 ∷ 109 ∷ 101 ∷ 61 ∷ 50 ∷ 48 ∷ 48 ∷ 32 ∷ 110 ∷ 97 ∷ 109 ∷ 101 ∷ 61 ∷ 102 ∷ 115 ∷ []

-- a volume with a leading zero: `op=ream layout=2 blocks=16 volume=0200 name=fs`
abbrev volume_zero : List ℕ
volume_zero = 111 ∷ 112 ∷ 61 ∷ 114 ∷ 101 ∷ 97 ∷ 109 ∷ 32 ∷ 108 ∷ 97 ∷ 121 ∷ 111 ∷ 117 ∷ 116 ∷ 61 ∷ 50 ∷ 32 ∷ 98 ∷ 108 ∷ 111 ∷ 99 ∷ 107 ∷ 115 ∷ 61 ∷ 49 ∷ 54 ∷ 32 ∷ 118 ∷ 111 ∷ 108 ∷ 117 ∷ 109 ∷ 101 ∷ 61 ∷ 48 ∷ 50 ∷ 48 ∷ 48 ∷ 32 ∷ 110 ∷ 97 ∷ 109 ∷ 101 ∷ 61 ∷ 102 ∷ 115 ∷ []

-- a sixth pair: `op=ream layout=2 blocks=16 volume=200 name=fs name=fs`
abbrev sixth_pair : List ℕ
sixth_pair = 111 ∷ 112 ∷ 61 ∷ 114 ∷ 101 ∷ 97 ∷ 109 ∷ 32 ∷ 108 ∷ 97 ∷ 121 ∷ 111 ∷ 117 ∷ 116 ∷ 61 ∷ 50 ∷ 32 ∷ 98 ∷ 108 ∷ 111 ∷ 99 ∷ 107 ∷ 115 ∷ 61 ∷ 49 ∷ 54 ∷ 32 ∷ 118 ∷ 111 ∷ 108 ∷ 117 ∷ 109 ∷ 101 ∷ 61 ∷ 50 ∷ 48 ∷ 48 ∷ 32 ∷ 110 ∷ 97 ∷ 109 ∷ 101 ∷ 61 ∷ 102 ∷ 115 ∷ 32 ∷ 110 ∷ 97 ∷ 109 ∷ 101 ∷ 61 ∷ 102 ∷ 115 ∷ []

-- a word that is longer by a letter: `op=checks`
abbrev checks : List ℕ
checks = 111 ∷ 112 ∷ 61 ∷ 99 ∷ 104 ∷ 101 ∷ 99 ∷ 107 ∷ 115 ∷ []

-- the same before a pair: `op=snaps name=mon`
abbrev snaps : List ℕ
snaps = 111 ∷ 112 ∷ 61 ∷ 115 ∷ 110 ∷ 97 ∷ 112 ∷ 115 ∷ 32 ∷ 110 ∷ 97 ∷ 109 ∷ 101 ∷ 61 ∷ 109 ∷ 111 ∷ 110 ∷ []

-- a line with no bytes
abbrev empty : List ℕ
empty = []

-- lines of no form
pub no_forms :
    (line_of double_space ≡ None)
    × (line_of trailing_space ≡ None)
    × (line_of leading_space ≡ None)
    × (line_of leading_zero ≡ None)
    × (line_of too_large ≡ None)
    × (line_of no_digits ≡ None)
    × (line_of not_digit ≡ None)
    × (line_of fill256 ≡ None)
    × (line_of blocks65 ≡ None)
    × (line_of missing_pair ≡ None)
    × (line_of wrong_order ≡ None)
    × (line_of upper_case ≡ None)
    × (line_of carriage_return ≡ None)
    × (line_of one_pair_more ≡ None)
    × (line_of two_zeros ≡ None)
    × (line_of below_digits ≡ None)
    × (line_of above_digits ≡ None)
    × (line_of no_fill ≡ None)
    × (line_of layout_x ≡ None)
    × (line_of volume_zero ≡ None)
    × (line_of sixth_pair ≡ None)
    × (line_of checks ≡ None)
    × (line_of snaps ≡ None)
    × (line_of empty ≡ None)
    × (line_of too_long ≡ None)
unfolding line_of words_of with_byte line_of_words line_of_one line_of_two line_of_three line_of_write line_of_read line_of_five read_from same has_key has_number number_of is_number all_digits is_digit digits_from padded is_text name_length name_byte
no_forms = (refl, refl, refl, refl, refl, refl, refl, refl, refl, refl, refl, refl, refl, refl, refl, refl, refl, refl, refl, refl, refl, refl, refl, refl, refl)
