-- Short sheets at the edges of 01's rules of the sheet, and what each prints, worked out from 01.
use Rattle.std.specs.Prelude.{◌≡◌, List, [], ◌∷◌, ◌++◌, ℕ, replicate}
use Rattle.sheet.specs.Sheet.{sheet_text}

-- a sheet, and what it prints
pub record ShortSheet : Type 0 where
  pub sheet : List ℕ
  pub prints : List ℕ

unfoldable pub expected : ShortSheet → List ℕ
expected s = s.prints

unfoldable pub computed : ShortSheet → List ℕ
computed s = sheet_text s.sheet

-- Lines of the sheets, each with its line feed where nothing else is said.

-- `op=list`
abbrev list_line : List ℕ
list_line = 111 ∷ 112 ∷ 61 ∷ 108 ∷ 105 ∷ 115 ∷ 116 ∷ 10 ∷ []

-- `op=list`, with no line feed after it
abbrev unended : List ℕ
unended = 111 ∷ 112 ∷ 61 ∷ 108 ∷ 105 ∷ 115 ∷ 116 ∷ []

-- `op=check`
abbrev check_line : List ℕ
check_line = 111 ∷ 112 ∷ 61 ∷ 99 ∷ 104 ∷ 101 ∷ 99 ∷ 107 ∷ 10 ∷ []

-- `op=check`, with a tab after it
abbrev check_tab : List ℕ
check_tab = 111 ∷ 112 ∷ 61 ∷ 99 ∷ 104 ∷ 101 ∷ 99 ∷ 107 ∷ 9 ∷ 10 ∷ []

-- `op=snap`
abbrev snap_alone : List ℕ
snap_alone = 111 ∷ 112 ∷ 61 ∷ 115 ∷ 110 ∷ 97 ∷ 112 ∷ 10 ∷ []

-- `op=snap name`
abbrev snap_name : List ℕ
snap_name = 111 ∷ 112 ∷ 61 ∷ 115 ∷ 110 ∷ 97 ∷ 112 ∷ 32 ∷ 110 ∷ 97 ∷ 109 ∷ 101 ∷ 10 ∷ []

-- `op=snap oame=fs`
abbrev snap_oame : List ℕ
snap_oame = 111 ∷ 112 ∷ 61 ∷ 115 ∷ 110 ∷ 97 ∷ 112 ∷ 32 ∷ 111 ∷ 97 ∷ 109 ∷ 101 ∷ 61 ∷ 102 ∷ 115 ∷ 10 ∷ []

-- `op=snap name=`, which a name follows
abbrev snap_key : List ℕ
snap_key = 111 ∷ 112 ∷ 61 ∷ 115 ∷ 110 ∷ 97 ∷ 112 ∷ 32 ∷ 110 ∷ 97 ∷ 109 ∷ 101 ∷ 61 ∷ []

-- `op=snap name=fs`
abbrev snap_fs : List ℕ
snap_fs = 111 ∷ 112 ∷ 61 ∷ 115 ∷ 110 ∷ 97 ∷ 112 ∷ 32 ∷ 110 ∷ 97 ∷ 109 ∷ 101 ∷ 61 ∷ 102 ∷ 115 ∷ 10 ∷ []

-- `op=snap name=mon`
abbrev snap_mon : List ℕ
snap_mon = 111 ∷ 112 ∷ 61 ∷ 115 ∷ 110 ∷ 97 ∷ 112 ∷ 32 ∷ 110 ∷ 97 ∷ 109 ∷ 101 ∷ 61 ∷ 109 ∷ 111 ∷ 110 ∷ 10 ∷ []

-- `op=revert name=fs`
abbrev revert_fs : List ℕ
revert_fs = 111 ∷ 112 ∷ 61 ∷ 114 ∷ 101 ∷ 118 ∷ 101 ∷ 114 ∷ 116 ∷ 32 ∷ 110 ∷ 97 ∷ 109 ∷ 101 ∷ 61 ∷ 102 ∷ 115 ∷ 10 ∷ []

-- `op=revert name=mon`
abbrev revert_mon : List ℕ
revert_mon = 111 ∷ 112 ∷ 61 ∷ 114 ∷ 101 ∷ 118 ∷ 101 ∷ 114 ∷ 116 ∷ 32 ∷ 110 ∷ 97 ∷ 109 ∷ 101 ∷ 61 ∷ 109 ∷ 111 ∷ 110 ∷ 10 ∷ []

-- `op=write block=0 fill=255`
abbrev write0 : List ℕ
write0 = 111 ∷ 112 ∷ 61 ∷ 119 ∷ 114 ∷ 105 ∷ 116 ∷ 101 ∷ 32 ∷ 98 ∷ 108 ∷ 111 ∷ 99 ∷ 107 ∷ 61 ∷ 48 ∷ 32 ∷ 102 ∷ 105 ∷ 108 ∷ 108 ∷ 61 ∷ 50 ∷ 53 ∷ 53 ∷ 10 ∷ []

-- `op=write block=0 fill=10`
abbrev write10 : List ℕ
write10 = 111 ∷ 112 ∷ 61 ∷ 119 ∷ 114 ∷ 105 ∷ 116 ∷ 101 ∷ 32 ∷ 98 ∷ 108 ∷ 111 ∷ 99 ∷ 107 ∷ 61 ∷ 48 ∷ 32 ∷ 102 ∷ 105 ∷ 108 ∷ 108 ∷ 61 ∷ 49 ∷ 48 ∷ 10 ∷ []

-- `op=write block=1 fill=9`
abbrev write1 : List ℕ
write1 = 111 ∷ 112 ∷ 61 ∷ 119 ∷ 114 ∷ 105 ∷ 116 ∷ 101 ∷ 32 ∷ 98 ∷ 108 ∷ 111 ∷ 99 ∷ 107 ∷ 61 ∷ 49 ∷ 32 ∷ 102 ∷ 105 ∷ 108 ∷ 108 ∷ 61 ∷ 57 ∷ 10 ∷ []

-- `op=read from=* block=0`
abbrev read0 : List ℕ
read0 = 111 ∷ 112 ∷ 61 ∷ 114 ∷ 101 ∷ 97 ∷ 100 ∷ 32 ∷ 102 ∷ 114 ∷ 111 ∷ 109 ∷ 61 ∷ 42 ∷ 32 ∷ 98 ∷ 108 ∷ 111 ∷ 99 ∷ 107 ∷ 61 ∷ 48 ∷ 10 ∷ []

-- `op=read from=* block=1`
abbrev read1 : List ℕ
read1 = 111 ∷ 112 ∷ 61 ∷ 114 ∷ 101 ∷ 97 ∷ 100 ∷ 32 ∷ 102 ∷ 114 ∷ 111 ∷ 109 ∷ 61 ∷ 42 ∷ 32 ∷ 98 ∷ 108 ∷ 111 ∷ 99 ∷ 107 ∷ 61 ∷ 49 ∷ 10 ∷ []

-- `op=read from=* block=65535`
abbrev read65535 : List ℕ
read65535 = 111 ∷ 112 ∷ 61 ∷ 114 ∷ 101 ∷ 97 ∷ 100 ∷ 32 ∷ 102 ∷ 114 ∷ 111 ∷ 109 ∷ 61 ∷ 42 ∷ 32 ∷ 98 ∷ 108 ∷ 111 ∷ 99 ∷ 107 ∷ 61 ∷ 54 ∷ 53 ∷ 53 ∷ 51 ∷ 53 ∷ 10 ∷ []

-- `op=read from=* block=65536`
abbrev read65536 : List ℕ
read65536 = 111 ∷ 112 ∷ 61 ∷ 114 ∷ 101 ∷ 97 ∷ 100 ∷ 32 ∷ 102 ∷ 114 ∷ 111 ∷ 109 ∷ 61 ∷ 42 ∷ 32 ∷ 98 ∷ 108 ∷ 111 ∷ 99 ∷ 107 ∷ 61 ∷ 54 ∷ 53 ∷ 53 ∷ 51 ∷ 54 ∷ 10 ∷ []

-- `op=read from=fs block=0`
abbrev read_fs : List ℕ
read_fs = 111 ∷ 112 ∷ 61 ∷ 114 ∷ 101 ∷ 97 ∷ 100 ∷ 32 ∷ 102 ∷ 114 ∷ 111 ∷ 109 ∷ 61 ∷ 102 ∷ 115 ∷ 32 ∷ 98 ∷ 108 ∷ 111 ∷ 99 ∷ 107 ∷ 61 ∷ 48 ∷ 10 ∷ []

-- `op=read from=mon block=0`
abbrev read_mon : List ℕ
read_mon = 111 ∷ 112 ∷ 61 ∷ 114 ∷ 101 ∷ 97 ∷ 100 ∷ 32 ∷ 102 ∷ 114 ∷ 111 ∷ 109 ∷ 61 ∷ 109 ∷ 111 ∷ 110 ∷ 32 ∷ 98 ∷ 108 ∷ 111 ∷ 99 ∷ 107 ∷ 61 ∷ 48 ∷ 10 ∷ []

-- `op=read from=A block=x`
abbrev read_x : List ℕ
read_x = 111 ∷ 112 ∷ 61 ∷ 114 ∷ 101 ∷ 97 ∷ 100 ∷ 32 ∷ 102 ∷ 114 ∷ 111 ∷ 109 ∷ 61 ∷ 65 ∷ 32 ∷ 98 ∷ 108 ∷ 111 ∷ 99 ∷ 107 ∷ 61 ∷ 120 ∷ 10 ∷ []

-- `op=ream layout=2 blocks=1 volume=1 name=fs`
abbrev ream1 : List ℕ
ream1 = 111 ∷ 112 ∷ 61 ∷ 114 ∷ 101 ∷ 97 ∷ 109 ∷ 32 ∷ 108 ∷ 97 ∷ 121 ∷ 111 ∷ 117 ∷ 116 ∷ 61 ∷ 50 ∷ 32 ∷ 98 ∷ 108 ∷ 111 ∷ 99 ∷ 107 ∷ 115 ∷ 61 ∷ 49 ∷ 32 ∷ 118 ∷ 111 ∷ 108 ∷ 117 ∷ 109 ∷ 101 ∷ 61 ∷ 49 ∷ 32 ∷ 110 ∷ 97 ∷ 109 ∷ 101 ∷ 61 ∷ 102 ∷ 115 ∷ 10 ∷ []

-- `op=ream layout=2 blocks=2 volume=1 name=fs`
abbrev ream2 : List ℕ
ream2 = 111 ∷ 112 ∷ 61 ∷ 114 ∷ 101 ∷ 97 ∷ 109 ∷ 32 ∷ 108 ∷ 97 ∷ 121 ∷ 111 ∷ 117 ∷ 116 ∷ 61 ∷ 50 ∷ 32 ∷ 98 ∷ 108 ∷ 111 ∷ 99 ∷ 107 ∷ 115 ∷ 61 ∷ 50 ∷ 32 ∷ 118 ∷ 111 ∷ 108 ∷ 117 ∷ 109 ∷ 101 ∷ 61 ∷ 49 ∷ 32 ∷ 110 ∷ 97 ∷ 109 ∷ 101 ∷ 61 ∷ 102 ∷ 115 ∷ 10 ∷ []

-- `op=ream layout=2 blocks=3 volume=2 name=fs`
abbrev ream3 : List ℕ
ream3 = 111 ∷ 112 ∷ 61 ∷ 114 ∷ 101 ∷ 97 ∷ 109 ∷ 32 ∷ 108 ∷ 97 ∷ 121 ∷ 111 ∷ 117 ∷ 116 ∷ 61 ∷ 50 ∷ 32 ∷ 98 ∷ 108 ∷ 111 ∷ 99 ∷ 107 ∷ 115 ∷ 61 ∷ 51 ∷ 32 ∷ 118 ∷ 111 ∷ 108 ∷ 117 ∷ 109 ∷ 101 ∷ 61 ∷ 50 ∷ 32 ∷ 110 ∷ 97 ∷ 109 ∷ 101 ∷ 61 ∷ 102 ∷ 115 ∷ 10 ∷ []

-- `op=ream layout=2 blocks=65 volume=1 name=fs`
abbrev ream65 : List ℕ
ream65 = 111 ∷ 112 ∷ 61 ∷ 114 ∷ 101 ∷ 97 ∷ 109 ∷ 32 ∷ 108 ∷ 97 ∷ 121 ∷ 111 ∷ 117 ∷ 116 ∷ 61 ∷ 50 ∷ 32 ∷ 98 ∷ 108 ∷ 111 ∷ 99 ∷ 107 ∷ 115 ∷ 61 ∷ 54 ∷ 53 ∷ 32 ∷ 118 ∷ 111 ∷ 108 ∷ 117 ∷ 109 ∷ 101 ∷ 61 ∷ 49 ∷ 32 ∷ 110 ∷ 97 ∷ 109 ∷ 101 ∷ 61 ∷ 102 ∷ 115 ∷ 10 ∷ []

-- `op=ream layout=3 blocks=64 volume=2 name=tue`
abbrev layout3 : List ℕ
layout3 = 111 ∷ 112 ∷ 61 ∷ 114 ∷ 101 ∷ 97 ∷ 109 ∷ 32 ∷ 108 ∷ 97 ∷ 121 ∷ 111 ∷ 117 ∷ 116 ∷ 61 ∷ 51 ∷ 32 ∷ 98 ∷ 108 ∷ 111 ∷ 99 ∷ 107 ∷ 115 ∷ 61 ∷ 54 ∷ 52 ∷ 32 ∷ 118 ∷ 111 ∷ 108 ∷ 117 ∷ 109 ∷ 101 ∷ 61 ∷ 50 ∷ 32 ∷ 110 ∷ 97 ∷ 109 ∷ 101 ∷ 61 ∷ 116 ∷ 117 ∷ 101 ∷ 10 ∷ []

-- `op=ream layout=1 blocks=3 volume=129 name=home`
abbrev tables2 : List ℕ
tables2 = 111 ∷ 112 ∷ 61 ∷ 114 ∷ 101 ∷ 97 ∷ 109 ∷ 32 ∷ 108 ∷ 97 ∷ 121 ∷ 111 ∷ 117 ∷ 116 ∷ 61 ∷ 49 ∷ 32 ∷ 98 ∷ 108 ∷ 111 ∷ 99 ∷ 107 ∷ 115 ∷ 61 ∷ 51 ∷ 32 ∷ 118 ∷ 111 ∷ 108 ∷ 117 ∷ 109 ∷ 101 ∷ 61 ∷ 49 ∷ 50 ∷ 57 ∷ 32 ∷ 110 ∷ 97 ∷ 109 ∷ 101 ∷ 61 ∷ 104 ∷ 111 ∷ 109 ∷ 101 ∷ 10 ∷ []

-- `op=ream layout=1 blocks=64 volume=8064 name=home`
abbrev tables63 : List ℕ
tables63 = 111 ∷ 112 ∷ 61 ∷ 114 ∷ 101 ∷ 97 ∷ 109 ∷ 32 ∷ 108 ∷ 97 ∷ 121 ∷ 111 ∷ 117 ∷ 116 ∷ 61 ∷ 49 ∷ 32 ∷ 98 ∷ 108 ∷ 111 ∷ 99 ∷ 107 ∷ 115 ∷ 61 ∷ 54 ∷ 52 ∷ 32 ∷ 118 ∷ 111 ∷ 108 ∷ 117 ∷ 109 ∷ 101 ∷ 61 ∷ 56 ∷ 48 ∷ 54 ∷ 52 ∷ 32 ∷ 110 ∷ 97 ∷ 109 ∷ 101 ∷ 61 ∷ 104 ∷ 111 ∷ 109 ∷ 101 ∷ 10 ∷ []

-- `op=ream layout=1 blocks=64 volume=8065 name=home`
abbrev tables64 : List ℕ
tables64 = 111 ∷ 112 ∷ 61 ∷ 114 ∷ 101 ∷ 97 ∷ 109 ∷ 32 ∷ 108 ∷ 97 ∷ 121 ∷ 111 ∷ 117 ∷ 116 ∷ 61 ∷ 49 ∷ 32 ∷ 98 ∷ 108 ∷ 111 ∷ 99 ∷ 107 ∷ 115 ∷ 61 ∷ 54 ∷ 52 ∷ 32 ∷ 118 ∷ 111 ∷ 108 ∷ 117 ∷ 109 ∷ 101 ∷ 61 ∷ 56 ∷ 48 ∷ 54 ∷ 53 ∷ 32 ∷ 110 ∷ 97 ∷ 109 ∷ 101 ∷ 61 ∷ 104 ∷ 111 ∷ 109 ∷ 101 ∷ 10 ∷ []

-- a text of n letters `a`, and the line feed
abbrev letters : ℕ → List ℕ
letters n = replicate n 97

abbrev line_feed : List ℕ
line_feed = 10 ∷ []

-- Lines that are printed.

-- `answer=0 place=0`
abbrev accepted : List ℕ
accepted = 97 ∷ 110 ∷ 115 ∷ 119 ∷ 101 ∷ 114 ∷ 61 ∷ 48 ∷ 32 ∷ 112 ∷ 108 ∷ 97 ∷ 99 ∷ 101 ∷ 61 ∷ 48 ∷ 10 ∷ []

-- `answer=0 place=0 byte=0`
abbrev byte0 : List ℕ
byte0 = 97 ∷ 110 ∷ 115 ∷ 119 ∷ 101 ∷ 114 ∷ 61 ∷ 48 ∷ 32 ∷ 112 ∷ 108 ∷ 97 ∷ 99 ∷ 101 ∷ 61 ∷ 48 ∷ 32 ∷ 98 ∷ 121 ∷ 116 ∷ 101 ∷ 61 ∷ 48 ∷ 10 ∷ []

-- `answer=0 place=0 byte=10`
abbrev byte10 : List ℕ
byte10 = 97 ∷ 110 ∷ 115 ∷ 119 ∷ 101 ∷ 114 ∷ 61 ∷ 48 ∷ 32 ∷ 112 ∷ 108 ∷ 97 ∷ 99 ∷ 101 ∷ 61 ∷ 48 ∷ 32 ∷ 98 ∷ 121 ∷ 116 ∷ 101 ∷ 61 ∷ 49 ∷ 48 ∷ 10 ∷ []

-- `answer=0 place=0 byte=255`
abbrev byte255 : List ℕ
byte255 = 97 ∷ 110 ∷ 115 ∷ 119 ∷ 101 ∷ 114 ∷ 61 ∷ 48 ∷ 32 ∷ 112 ∷ 108 ∷ 97 ∷ 99 ∷ 101 ∷ 61 ∷ 48 ∷ 32 ∷ 98 ∷ 121 ∷ 116 ∷ 101 ∷ 61 ∷ 50 ∷ 53 ∷ 53 ∷ 10 ∷ []

-- `answer=1 place=0`
abbrev refused1 : List ℕ
refused1 = 97 ∷ 110 ∷ 115 ∷ 119 ∷ 101 ∷ 114 ∷ 61 ∷ 49 ∷ 32 ∷ 112 ∷ 108 ∷ 97 ∷ 99 ∷ 101 ∷ 61 ∷ 48 ∷ 10 ∷ []

-- `answer=2 place=0`
abbrev refused2 : List ℕ
refused2 = 97 ∷ 110 ∷ 115 ∷ 119 ∷ 101 ∷ 114 ∷ 61 ∷ 50 ∷ 32 ∷ 112 ∷ 108 ∷ 97 ∷ 99 ∷ 101 ∷ 61 ∷ 48 ∷ 10 ∷ []

-- `answer=4 place=0`
abbrev refused4 : List ℕ
refused4 = 97 ∷ 110 ∷ 115 ∷ 119 ∷ 101 ∷ 114 ∷ 61 ∷ 52 ∷ 32 ∷ 112 ∷ 108 ∷ 97 ∷ 99 ∷ 101 ∷ 61 ∷ 48 ∷ 10 ∷ []

-- `answer=5 place=0`
abbrev refused5 : List ℕ
refused5 = 97 ∷ 110 ∷ 115 ∷ 119 ∷ 101 ∷ 114 ∷ 61 ∷ 53 ∷ 32 ∷ 112 ∷ 108 ∷ 97 ∷ 99 ∷ 101 ∷ 61 ∷ 48 ∷ 10 ∷ []

-- `answer=6 place=0`
abbrev refused6 : List ℕ
refused6 = 97 ∷ 110 ∷ 115 ∷ 119 ∷ 101 ∷ 114 ∷ 61 ∷ 54 ∷ 32 ∷ 112 ∷ 108 ∷ 97 ∷ 99 ∷ 101 ∷ 61 ∷ 48 ∷ 10 ∷ []

-- `answer=7 place=0`
abbrev refused7 : List ℕ
refused7 = 97 ∷ 110 ∷ 115 ∷ 119 ∷ 101 ∷ 114 ∷ 61 ∷ 55 ∷ 32 ∷ 112 ∷ 108 ∷ 97 ∷ 99 ∷ 101 ∷ 61 ∷ 48 ∷ 10 ∷ []

-- `answer=8 place=0`
abbrev refused8 : List ℕ
refused8 = 97 ∷ 110 ∷ 115 ∷ 119 ∷ 101 ∷ 114 ∷ 61 ∷ 56 ∷ 32 ∷ 112 ∷ 108 ∷ 97 ∷ 99 ∷ 101 ∷ 61 ∷ 48 ∷ 10 ∷ []

-- `answer=11 place=0`
abbrev refused11 : List ℕ
refused11 = 97 ∷ 110 ∷ 115 ∷ 119 ∷ 101 ∷ 114 ∷ 61 ∷ 49 ∷ 49 ∷ 32 ∷ 112 ∷ 108 ∷ 97 ∷ 99 ∷ 101 ∷ 61 ∷ 48 ∷ 10 ∷ []

-- `answer=12 place=0`
abbrev refused12 : List ℕ
refused12 = 97 ∷ 110 ∷ 115 ∷ 119 ∷ 101 ∷ 114 ∷ 61 ∷ 49 ∷ 50 ∷ 32 ∷ 112 ∷ 108 ∷ 97 ∷ 99 ∷ 101 ∷ 61 ∷ 48 ∷ 10 ∷ []

-- `answer=15 place=0`
abbrev malformed0 : List ℕ
malformed0 = 97 ∷ 110 ∷ 115 ∷ 119 ∷ 101 ∷ 114 ∷ 61 ∷ 49 ∷ 53 ∷ 32 ∷ 112 ∷ 108 ∷ 97 ∷ 99 ∷ 101 ∷ 61 ∷ 48 ∷ 10 ∷ []

-- `answer=15 place=1`
abbrev malformed1 : List ℕ
malformed1 = 97 ∷ 110 ∷ 115 ∷ 119 ∷ 101 ∷ 114 ∷ 61 ∷ 49 ∷ 53 ∷ 32 ∷ 112 ∷ 108 ∷ 97 ∷ 99 ∷ 101 ∷ 61 ∷ 49 ∷ 10 ∷ []

-- `answer=15 place=2`
abbrev malformed2 : List ℕ
malformed2 = 97 ∷ 110 ∷ 115 ∷ 119 ∷ 101 ∷ 114 ∷ 61 ∷ 49 ∷ 53 ∷ 32 ∷ 112 ∷ 108 ∷ 97 ∷ 99 ∷ 101 ∷ 61 ∷ 50 ∷ 10 ∷ []

-- `answer=15 place=14`
abbrev malformed14 : List ℕ
malformed14 = 97 ∷ 110 ∷ 115 ∷ 119 ∷ 101 ∷ 114 ∷ 61 ∷ 49 ∷ 53 ∷ 32 ∷ 112 ∷ 108 ∷ 97 ∷ 99 ∷ 101 ∷ 61 ∷ 49 ∷ 52 ∷ 10 ∷ []

-- `name=fs alpha=0 beta=1 next=0`
abbrev fs_to1 : List ℕ
fs_to1 = 110 ∷ 97 ∷ 109 ∷ 101 ∷ 61 ∷ 102 ∷ 115 ∷ 32 ∷ 97 ∷ 108 ∷ 112 ∷ 104 ∷ 97 ∷ 61 ∷ 48 ∷ 32 ∷ 98 ∷ 101 ∷ 116 ∷ 97 ∷ 61 ∷ 49 ∷ 32 ∷ 110 ∷ 101 ∷ 120 ∷ 116 ∷ 61 ∷ 48 ∷ 10 ∷ []

-- `name=mon alpha=0 beta=1 next=1`
abbrev mon_to1 : List ℕ
mon_to1 = 110 ∷ 97 ∷ 109 ∷ 101 ∷ 61 ∷ 109 ∷ 111 ∷ 110 ∷ 32 ∷ 97 ∷ 108 ∷ 112 ∷ 104 ∷ 97 ∷ 61 ∷ 48 ∷ 32 ∷ 98 ∷ 101 ∷ 116 ∷ 97 ∷ 61 ∷ 49 ∷ 32 ∷ 110 ∷ 101 ∷ 120 ∷ 116 ∷ 61 ∷ 49 ∷ 10 ∷ []

-- `name=fs alpha=1 beta=2 next=0`
abbrev fs_to2 : List ℕ
fs_to2 = 110 ∷ 97 ∷ 109 ∷ 101 ∷ 61 ∷ 102 ∷ 115 ∷ 32 ∷ 97 ∷ 108 ∷ 112 ∷ 104 ∷ 97 ∷ 61 ∷ 49 ∷ 32 ∷ 98 ∷ 101 ∷ 116 ∷ 97 ∷ 61 ∷ 50 ∷ 32 ∷ 110 ∷ 101 ∷ 120 ∷ 116 ∷ 61 ∷ 48 ∷ 10 ∷ []

-- `name=fs alpha=0 beta=3 next=0`
abbrev fs_to3 : List ℕ
fs_to3 = 110 ∷ 97 ∷ 109 ∷ 101 ∷ 61 ∷ 102 ∷ 115 ∷ 32 ∷ 97 ∷ 108 ∷ 112 ∷ 104 ∷ 97 ∷ 61 ∷ 48 ∷ 32 ∷ 98 ∷ 101 ∷ 116 ∷ 97 ∷ 61 ∷ 51 ∷ 32 ∷ 110 ∷ 101 ∷ 120 ∷ 116 ∷ 61 ∷ 48 ∷ 10 ∷ []

-- `name=home alpha=0 beta=3 next=0`
abbrev home_to3 : List ℕ
home_to3 = 110 ∷ 97 ∷ 109 ∷ 101 ∷ 61 ∷ 104 ∷ 111 ∷ 109 ∷ 101 ∷ 32 ∷ 97 ∷ 108 ∷ 112 ∷ 104 ∷ 97 ∷ 61 ∷ 48 ∷ 32 ∷ 98 ∷ 101 ∷ 116 ∷ 97 ∷ 61 ∷ 51 ∷ 32 ∷ 110 ∷ 101 ∷ 120 ∷ 116 ∷ 61 ∷ 48 ∷ 10 ∷ []

unfoldable pub short_sheets : List ShortSheet
short_sheets =
    -- the empty sheet prints nothing
    record { sheet = []; prints = [] }
    -- a list on the blocks as they are at the start, all zero
    ∷ record { sheet = list_line; prints = refused6 }
    -- a last line that no line feed ends, after one that has its own
    ∷ record { sheet = check_line ++ unended; prints = refused6 ++ malformed2 }
    -- a line that is not of the form, and after it one that is
    ∷ record { sheet = snap_alone ++ check_line; prints = malformed1 }
    -- a key without its `=`; a key of which one byte is another; a byte below the line feed, which ends no line
    ∷ record { sheet = snap_name ++ check_line; prints = malformed1 }
    ∷ record { sheet = snap_oame ++ check_line; prints = malformed1 }
    ∷ record { sheet = check_tab ++ check_line; prints = malformed1 }
    -- a line of 127 bytes, of which 114 are no name; one byte more
    ∷ record { sheet = snap_key ++ letters 114 ++ line_feed ++ snap_key ++ letters 115 ++ line_feed; prints = refused4 ++ malformed2 }
    -- a line that is not of the form, though what would be its name is none
    ∷ record { sheet = read_x; prints = malformed1 }
    -- 16,384 bytes are a sheet, here of empty lines; one byte more is too long
    ∷ record { sheet = replicate 16384 10; prints = malformed1 }
    ∷ record { sheet = replicate 16385 10; prints = malformed0 }
    -- one block is no card; 65 are not of the form
    ∷ record { sheet = ream1 ++ ream65; prints = refused1 ++ malformed2 }
    -- 64 tables and a descriptor exceed the 64 blocks, 63 tables fill them
    ∷ record { sheet = tables64 ++ tables63; prints = refused5 ++ accepted }
    -- a format of two blocks, too few for a write, then one of three in layout 1, which its tables fill
    ∷ record { sheet = ream2 ++ write0 ++ tables2 ++ list_line ++ write0; prints = accepted ++ refused11 ++ accepted ++ accepted ++ home_to3 ++ refused11 }
    -- the least number of two digits, read and printed
    ∷ record { sheet = ream3 ++ write10 ++ read0; prints = accepted ++ accepted ++ byte10 }
    -- a refused format of 64 blocks leaves a card of three as it is: no room for a second block, and the first is there
    ∷ record {
      sheet = ream3 ++ write0 ++ layout3 ++ write1 ++ read0 ++ list_line;
      prints = accepted ++ accepted ++ refused2 ++ refused11 ++ byte255 ++ accepted ++ fs_to3;
    }
    -- a refused read adds no byte; two records, and one after the revert; 65,535 is a number and 65,536 is none
    ∷ record {
      sheet = ream2 ++ read_mon ++ read_fs ++ read1 ++ read0 ++ snap_fs ++ revert_fs ++ check_line ++ snap_mon ++ list_line ++ revert_mon ++ list_line ++ read65535 ++ read65536 ++ check_line;
      prints = accepted ++ refused7 ++ refused7 ++ refused8 ++ byte0 ++ refused12 ++ refused7 ++ accepted ++ accepted ++ accepted ++ mon_to1 ++ fs_to2 ++ accepted ++ accepted ++ fs_to1 ++ refused8 ++ malformed14;
    }
    ∷ []

-- The table tells wrong from right: a list on blocks of zeros is not accepted.
unfoldable pub WrongSheet : Type 0
WrongSheet = computed (record { sheet = list_line; prints = accepted }) ≡ expected (record { sheet = list_line; prints = accepted }) → ⊥
