-- What a sheet prints: numbers in decimal, an answer, a record of a listing.
use Rattle.std.specs.Prelude.{List, [], ◌∷◌, ◌++◌, ℕ, zero, suc, ◌+◌, ◌/◌, ◌%◌, take, ltb}
use Rattle.blocks.specs.Pick.{pick}
use Rattle.blocks.specs.Name.{name_length}
use Rattle.calls.specs.declared.answer.Answer.{Answer}
use Rattle.calls.specs.declared.answer.Record.{Record}

-- `answer=`
abbrev pub answer_key : List ℕ
answer_key = 97 ∷ 110 ∷ 115 ∷ 119 ∷ 101 ∷ 114 ∷ 61 ∷ []

-- ` place=`
abbrev pub place_key : List ℕ
place_key = 32 ∷ 112 ∷ 108 ∷ 97 ∷ 99 ∷ 101 ∷ 61 ∷ []

-- ` byte=`
abbrev pub byte_key : List ℕ
byte_key = 32 ∷ 98 ∷ 121 ∷ 116 ∷ 101 ∷ 61 ∷ []

-- `name=`
abbrev pub name_key : List ℕ
name_key = 110 ∷ 97 ∷ 109 ∷ 101 ∷ 61 ∷ []

-- ` alpha=`
abbrev pub alpha_key : List ℕ
alpha_key = 32 ∷ 97 ∷ 108 ∷ 112 ∷ 104 ∷ 97 ∷ 61 ∷ []

-- ` beta=`
abbrev pub beta_key : List ℕ
beta_key = 32 ∷ 98 ∷ 101 ∷ 116 ∷ 97 ∷ 61 ∷ []

-- ` next=`
abbrev pub next_key : List ℕ
next_key = 32 ∷ 110 ∷ 101 ∷ 120 ∷ 116 ∷ 61 ∷ []

-- a line feed
abbrev pub line_feed : List ℕ
line_feed = 10 ∷ []

-- a number in decimal, with at most k digits: its last digit after those of a tenth of it
unfoldable pub digits : ℕ → ℕ → List ℕ
digits zero n = []
digits (suc k) n = pick (ltb n 10) ((48 + n) ∷ []) (digits k (n / 10) ++ ((48 + n % 10) ∷ []))

-- ten digits hold any number of 32 bits
abbrev pub most_digits : ℕ
most_digits = 10

unfoldable pub decimal : ℕ → List ℕ
decimal n = digits most_digits n

-- a name without the zero bytes that pad it
unfoldable pub name_text : List ℕ → List ℕ
name_text name = take (name_length name) name

-- bytes that are enough for what a line prints
abbrev pub line_room : ℕ
line_room = 8192

-- bytes that are enough for an answer, for the byte of a read and for a record
abbrev pub answer_room : ℕ
answer_room = 40

abbrev pub byte_room : ℕ
byte_room = 20

abbrev pub record_room : ℕ
record_room = 80

-- `answer= place=`
unfoldable pub answer_text : Answer → List ℕ
answer_text a = answer_key ++ decimal a.number ++ place_key ++ decimal a.place

-- ` byte=`
unfoldable pub byte_text : ℕ → List ℕ
byte_text b = byte_key ++ decimal b

-- a record of a listing, on a line of its own
unfoldable pub record_text : Record → List ℕ
record_text r = name_key ++ name_text r.name ++ alpha_key ++ decimal r.alpha.0 ++ beta_key ++ decimal r.beta.0 ++ next_key ++ decimal r.next.0 ++ line_feed

unfoldable pub records_text : List Record → List ℕ
records_text [] = []
records_text (r ∷ rs) = record_text r ++ records_text rs
