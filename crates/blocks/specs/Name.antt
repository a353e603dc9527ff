-- Names: sixteen bytes, 1 to 16 of `a-z`, `0-9`, `.`, `-`, then zero bytes; how a text becomes such sixteen bytes; and, for the code alone, two tests and a hash.
use Rattle.std.specs.Prelude.{Bool, true, not, ◌&&◌, ◌||◌, List, [], ◌∷◌, ◌++◌, ℕ, suc, ◌+◌, ◌-◌, ◌*◌, ◌/◌, ◌%◌, length, drop, replicate, eqb, ltb, leb}
use Rattle.blocks.specs.Pick.{pick, all_zero}
use Rattle.blocks.specs.Bytes.{u32_at}

-- bytes in a name
abbrev pub name_size : ℕ
name_size = 16

-- a byte that a name may have: a-z, 0-9, '.', '-'
unfoldable pub name_byte : ℕ → Bool
name_byte b = (leb 97 b && leb b 122) || (leb 48 b && leb b 57) || eqb b 46 || eqb b 45

-- how many such bytes a list starts with
unfoldable pub name_length : List ℕ → ℕ
name_length [] = 0
name_length (b ∷ bs) = pick (name_byte b) (suc (name_length bs)) 0

-- what makes sixteen bytes a name
unfoldable pub is_name : List ℕ → Bool
is_name n = eqb (length n) name_size && ltb 0 (name_length n) && all_zero (drop (name_length n) n)

-- no name at all: what stands for a text that is none
abbrev pub no_name : List ℕ
no_name = replicate name_size 0

-- a text that can be a name: 1 to 16 bytes, each of them one that a name may have
unfoldable pub is_text : List ℕ → Bool
is_text t = ltb 0 (length t) && leb (length t) name_size && eqb (name_length t) (length t)

-- any text as sixteen bytes: the text and zeros after it, or sixteen zeros where it is too long, empty or has another byte in it
unfoldable pub padded : List ℕ → List ℕ
padded t = pick (is_text t) (t ++ replicate (name_size - length t) 0) no_name

-- for the code: each byte is one that a name may have, or zero. Sixteen zeros pass this test and the next, and are no name
unfoldable pub name_or_zero : List ℕ → Bool
name_or_zero [] = true
name_or_zero (b ∷ bs) = (name_byte b || eqb b 0) && name_or_zero bs

-- for the code: after a zero byte there are only zero bytes, by each byte and the next
unfoldable pub zeros_last : List ℕ → Bool
zeros_last [] = true
zeros_last (b ∷ []) = true
zeros_last (b ∷ c ∷ bs) = (not (eqb b 0) || eqb c 0) && zeros_last (c ∷ bs)

-- for the code: how many hashes there are. The walk keeps a flag for each
abbrev pub hash_count : ℕ
hash_count = 1024

-- for the code: a hash of sixteen bytes, below hash_count, by which the walk tells most names apart
unfoldable pub hash_of : List ℕ → ℕ
hash_of n = (u32_at n 0 + 5 * (u32_at n 4 + u32_at n 8) + u32_at n 12) * 44407899 / 4194304 % hash_count
