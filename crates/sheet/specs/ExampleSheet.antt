-- Document 01's worked example as a sheet: its ten lines, and what they print.
use Rattle.std.specs.Prelude.{List, [], ◌∷◌, ◌++◌, ℕ}

-- `op=ream layout=2 blocks=16 volume=200 name=fs`
abbrev example_in1 : List ℕ
example_in1 = 111 ∷ 112 ∷ 61 ∷ 114 ∷ 101 ∷ 97 ∷ 109 ∷ 32 ∷ 108 ∷ 97 ∷ 121 ∷ 111 ∷ 117 ∷ 116 ∷ 61 ∷ 50 ∷ 32 ∷ 98 ∷ 108 ∷ 111 ∷ 99 ∷ 107 ∷ 115 ∷ 61 ∷ 49 ∷ 54 ∷ 32 ∷ 118 ∷ 111 ∷ 108 ∷ 117 ∷ 109 ∷ 101 ∷ 61 ∷ 50 ∷ 48 ∷ 48 ∷ 32 ∷ 110 ∷ 97 ∷ 109 ∷ 101 ∷ 61 ∷ 102 ∷ 115 ∷ 10 ∷ []

-- `op=write block=5 fill=7`
abbrev example_in2 : List ℕ
example_in2 = 111 ∷ 112 ∷ 61 ∷ 119 ∷ 114 ∷ 105 ∷ 116 ∷ 101 ∷ 32 ∷ 98 ∷ 108 ∷ 111 ∷ 99 ∷ 107 ∷ 61 ∷ 53 ∷ 32 ∷ 102 ∷ 105 ∷ 108 ∷ 108 ∷ 61 ∷ 55 ∷ 10 ∷ []

-- `op=snap name=mon`
abbrev example_in3 : List ℕ
example_in3 = 111 ∷ 112 ∷ 61 ∷ 115 ∷ 110 ∷ 97 ∷ 112 ∷ 32 ∷ 110 ∷ 97 ∷ 109 ∷ 101 ∷ 61 ∷ 109 ∷ 111 ∷ 110 ∷ 10 ∷ []

-- `op=write block=5 fill=9`
abbrev example_in4 : List ℕ
example_in4 = 111 ∷ 112 ∷ 61 ∷ 119 ∷ 114 ∷ 105 ∷ 116 ∷ 101 ∷ 32 ∷ 98 ∷ 108 ∷ 111 ∷ 99 ∷ 107 ∷ 61 ∷ 53 ∷ 32 ∷ 102 ∷ 105 ∷ 108 ∷ 108 ∷ 61 ∷ 57 ∷ 10 ∷ []

-- `op=read from=mon block=5`
abbrev example_in5 : List ℕ
example_in5 = 111 ∷ 112 ∷ 61 ∷ 114 ∷ 101 ∷ 97 ∷ 100 ∷ 32 ∷ 102 ∷ 114 ∷ 111 ∷ 109 ∷ 61 ∷ 109 ∷ 111 ∷ 110 ∷ 32 ∷ 98 ∷ 108 ∷ 111 ∷ 99 ∷ 107 ∷ 61 ∷ 53 ∷ 10 ∷ []

-- `op=read from=* block=5`
abbrev example_in6 : List ℕ
example_in6 = 111 ∷ 112 ∷ 61 ∷ 114 ∷ 101 ∷ 97 ∷ 100 ∷ 32 ∷ 102 ∷ 114 ∷ 111 ∷ 109 ∷ 61 ∷ 42 ∷ 32 ∷ 98 ∷ 108 ∷ 111 ∷ 99 ∷ 107 ∷ 61 ∷ 53 ∷ 10 ∷ []

-- `op=list`
abbrev example_in7 : List ℕ
example_in7 = 111 ∷ 112 ∷ 61 ∷ 108 ∷ 105 ∷ 115 ∷ 116 ∷ 10 ∷ []

-- `op=revert name=mon`
abbrev example_in8 : List ℕ
example_in8 = 111 ∷ 112 ∷ 61 ∷ 114 ∷ 101 ∷ 118 ∷ 101 ∷ 114 ∷ 116 ∷ 32 ∷ 110 ∷ 97 ∷ 109 ∷ 101 ∷ 61 ∷ 109 ∷ 111 ∷ 110 ∷ 10 ∷ []

-- `op=read from=* block=5`
abbrev example_in9 : List ℕ
example_in9 = 111 ∷ 112 ∷ 61 ∷ 114 ∷ 101 ∷ 97 ∷ 100 ∷ 32 ∷ 102 ∷ 114 ∷ 111 ∷ 109 ∷ 61 ∷ 42 ∷ 32 ∷ 98 ∷ 108 ∷ 111 ∷ 99 ∷ 107 ∷ 61 ∷ 53 ∷ 10 ∷ []

-- `op=list`
abbrev example_in10 : List ℕ
example_in10 = 111 ∷ 112 ∷ 61 ∷ 108 ∷ 105 ∷ 115 ∷ 116 ∷ 10 ∷ []

abbrev pub example_in : List ℕ
example_in = example_in1 ++ example_in2 ++ example_in3 ++ example_in4 ++ example_in5 ++ example_in6 ++ example_in7 ++ example_in8 ++ example_in9 ++ example_in10

-- `answer=0 place=0`
abbrev example_out1 : List ℕ
example_out1 = 97 ∷ 110 ∷ 115 ∷ 119 ∷ 101 ∷ 114 ∷ 61 ∷ 48 ∷ 32 ∷ 112 ∷ 108 ∷ 97 ∷ 99 ∷ 101 ∷ 61 ∷ 48 ∷ 10 ∷ []

-- `answer=0 place=0`
abbrev example_out2 : List ℕ
example_out2 = 97 ∷ 110 ∷ 115 ∷ 119 ∷ 101 ∷ 114 ∷ 61 ∷ 48 ∷ 32 ∷ 112 ∷ 108 ∷ 97 ∷ 99 ∷ 101 ∷ 61 ∷ 48 ∷ 10 ∷ []

-- `answer=0 place=0`
abbrev example_out3 : List ℕ
example_out3 = 97 ∷ 110 ∷ 115 ∷ 119 ∷ 101 ∷ 114 ∷ 61 ∷ 48 ∷ 32 ∷ 112 ∷ 108 ∷ 97 ∷ 99 ∷ 101 ∷ 61 ∷ 48 ∷ 10 ∷ []

-- `answer=0 place=0`
abbrev example_out4 : List ℕ
example_out4 = 97 ∷ 110 ∷ 115 ∷ 119 ∷ 101 ∷ 114 ∷ 61 ∷ 48 ∷ 32 ∷ 112 ∷ 108 ∷ 97 ∷ 99 ∷ 101 ∷ 61 ∷ 48 ∷ 10 ∷ []

-- `answer=0 place=0 byte=7`
abbrev example_out5 : List ℕ
example_out5 = 97 ∷ 110 ∷ 115 ∷ 119 ∷ 101 ∷ 114 ∷ 61 ∷ 48 ∷ 32 ∷ 112 ∷ 108 ∷ 97 ∷ 99 ∷ 101 ∷ 61 ∷ 48 ∷ 32 ∷ 98 ∷ 121 ∷ 116 ∷ 101 ∷ 61 ∷ 55 ∷ 10 ∷ []

-- `answer=0 place=0 byte=9`
abbrev example_out6 : List ℕ
example_out6 = 97 ∷ 110 ∷ 115 ∷ 119 ∷ 101 ∷ 114 ∷ 61 ∷ 48 ∷ 32 ∷ 112 ∷ 108 ∷ 97 ∷ 99 ∷ 101 ∷ 61 ∷ 48 ∷ 32 ∷ 98 ∷ 121 ∷ 116 ∷ 101 ∷ 61 ∷ 57 ∷ 10 ∷ []

-- `answer=0 place=0`
abbrev example_out7 : List ℕ
example_out7 = 97 ∷ 110 ∷ 115 ∷ 119 ∷ 101 ∷ 114 ∷ 61 ∷ 48 ∷ 32 ∷ 112 ∷ 108 ∷ 97 ∷ 99 ∷ 101 ∷ 61 ∷ 48 ∷ 10 ∷ []

-- `name=mon alpha=0 beta=3 next=3`
abbrev example_out8 : List ℕ
example_out8 = 110 ∷ 97 ∷ 109 ∷ 101 ∷ 61 ∷ 109 ∷ 111 ∷ 110 ∷ 32 ∷ 97 ∷ 108 ∷ 112 ∷ 104 ∷ 97 ∷ 61 ∷ 48 ∷ 32 ∷ 98 ∷ 101 ∷ 116 ∷ 97 ∷ 61 ∷ 51 ∷ 32 ∷ 110 ∷ 101 ∷ 120 ∷ 116 ∷ 61 ∷ 51 ∷ 10 ∷ []

-- `name=fs alpha=3 beta=6 next=0`
abbrev example_out9 : List ℕ
example_out9 = 110 ∷ 97 ∷ 109 ∷ 101 ∷ 61 ∷ 102 ∷ 115 ∷ 32 ∷ 97 ∷ 108 ∷ 112 ∷ 104 ∷ 97 ∷ 61 ∷ 51 ∷ 32 ∷ 98 ∷ 101 ∷ 116 ∷ 97 ∷ 61 ∷ 54 ∷ 32 ∷ 110 ∷ 101 ∷ 120 ∷ 116 ∷ 61 ∷ 48 ∷ 10 ∷ []

-- `answer=0 place=0`
abbrev example_out10 : List ℕ
example_out10 = 97 ∷ 110 ∷ 115 ∷ 119 ∷ 101 ∷ 114 ∷ 61 ∷ 48 ∷ 32 ∷ 112 ∷ 108 ∷ 97 ∷ 99 ∷ 101 ∷ 61 ∷ 48 ∷ 10 ∷ []

-- `answer=0 place=0 byte=7`
abbrev example_out11 : List ℕ
example_out11 = 97 ∷ 110 ∷ 115 ∷ 119 ∷ 101 ∷ 114 ∷ 61 ∷ 48 ∷ 32 ∷ 112 ∷ 108 ∷ 97 ∷ 99 ∷ 101 ∷ 61 ∷ 48 ∷ 32 ∷ 98 ∷ 121 ∷ 116 ∷ 101 ∷ 61 ∷ 55 ∷ 10 ∷ []

-- `answer=0 place=0`
abbrev example_out12 : List ℕ
example_out12 = 97 ∷ 110 ∷ 115 ∷ 119 ∷ 101 ∷ 114 ∷ 61 ∷ 48 ∷ 32 ∷ 112 ∷ 108 ∷ 97 ∷ 99 ∷ 101 ∷ 61 ∷ 48 ∷ 10 ∷ []

-- `name=fs alpha=0 beta=3 next=0`
abbrev example_out13 : List ℕ
example_out13 = 110 ∷ 97 ∷ 109 ∷ 101 ∷ 61 ∷ 102 ∷ 115 ∷ 32 ∷ 97 ∷ 108 ∷ 112 ∷ 104 ∷ 97 ∷ 61 ∷ 48 ∷ 32 ∷ 98 ∷ 101 ∷ 116 ∷ 97 ∷ 61 ∷ 51 ∷ 32 ∷ 110 ∷ 101 ∷ 120 ∷ 116 ∷ 61 ∷ 48 ∷ 10 ∷ []

abbrev pub example_out : List ℕ
example_out = example_out1 ++ example_out2 ++ example_out3 ++ example_out4 ++ example_out5 ++ example_out6 ++ example_out7 ++ example_out8 ++ example_out9 ++ example_out10 ++ example_out11 ++ example_out12 ++ example_out13
