-- The words of a work sheet, as ASCII bytes.
use Rattle.std.specs.Prelude.{List, [], ◌∷◌, ℕ}

-- `op=ream`
abbrev pub op_ream : List ℕ
op_ream = 111 ∷ 112 ∷ 61 ∷ 114 ∷ 101 ∷ 97 ∷ 109 ∷ []

-- `op=write`
abbrev pub op_write : List ℕ
op_write = 111 ∷ 112 ∷ 61 ∷ 119 ∷ 114 ∷ 105 ∷ 116 ∷ 101 ∷ []

-- `op=read`
abbrev pub op_read : List ℕ
op_read = 111 ∷ 112 ∷ 61 ∷ 114 ∷ 101 ∷ 97 ∷ 100 ∷ []

-- `op=snap`
abbrev pub op_snap : List ℕ
op_snap = 111 ∷ 112 ∷ 61 ∷ 115 ∷ 110 ∷ 97 ∷ 112 ∷ []

-- `op=revert`
abbrev pub op_revert : List ℕ
op_revert = 111 ∷ 112 ∷ 61 ∷ 114 ∷ 101 ∷ 118 ∷ 101 ∷ 114 ∷ 116 ∷ []

-- `op=list`
abbrev pub op_list : List ℕ
op_list = 111 ∷ 112 ∷ 61 ∷ 108 ∷ 105 ∷ 115 ∷ 116 ∷ []

-- `op=check`
abbrev pub op_check : List ℕ
op_check = 111 ∷ 112 ∷ 61 ∷ 99 ∷ 104 ∷ 101 ∷ 99 ∷ 107 ∷ []

-- `layout=`
abbrev pub key_layout : List ℕ
key_layout = 108 ∷ 97 ∷ 121 ∷ 111 ∷ 117 ∷ 116 ∷ 61 ∷ []

-- `blocks=`
abbrev pub key_blocks : List ℕ
key_blocks = 98 ∷ 108 ∷ 111 ∷ 99 ∷ 107 ∷ 115 ∷ 61 ∷ []

-- `volume=`
abbrev pub key_volume : List ℕ
key_volume = 118 ∷ 111 ∷ 108 ∷ 117 ∷ 109 ∷ 101 ∷ 61 ∷ []

-- `name=`
abbrev pub key_name : List ℕ
key_name = 110 ∷ 97 ∷ 109 ∷ 101 ∷ 61 ∷ []

-- `block=`
abbrev pub key_block : List ℕ
key_block = 98 ∷ 108 ∷ 111 ∷ 99 ∷ 107 ∷ 61 ∷ []

-- `fill=`
abbrev pub key_fill : List ℕ
key_fill = 102 ∷ 105 ∷ 108 ∷ 108 ∷ 61 ∷ []

-- `from=`
abbrev pub key_from : List ℕ
key_from = 102 ∷ 114 ∷ 111 ∷ 109 ∷ 61 ∷ []

-- `*`
abbrev pub star : List ℕ
star = 42 ∷ []
