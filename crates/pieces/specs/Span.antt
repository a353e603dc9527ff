-- A volume read as one run of bytes, and a span of it: n bytes from byte o of the run on, in pieces that end where the blocks do (02, W1).
use Rattle.std.specs.Prelude.{List, [], ◌∷◌, ◌++◌, ℕ, zero, suc, ◌+◌, ◌*◌, ◌-◌, ◌/◌, min, length}
use Rattle.blocks.specs.Bytes.{block_size, part, splice}
use Rattle.pieces.specs.declared.piece.Piece.{Piece}

-- the blocks of a volume one after the other
unfoldable pub run_of : List (List ℕ) → List ℕ
run_of [] = []
run_of (x ∷ xs) = x ++ run_of xs

-- block i of those that a span touches, and how many it touches: none where the span has no byte
abbrev pub span_block : ℕ → ℕ → ℕ
span_block o i = o / block_size + i

unfoldable pub touched : ℕ → ℕ → ℕ
touched o zero = 0
touched o (suc n) = (o + n) / block_size - o / block_size + 1

-- its piece in logical block l: the first byte of the piece in the block, where the piece stands among the span's bytes, and how many bytes it has. Subtraction ends at
-- 0, so that this is right for the first block, the last and each between; of a block that the span does not touch the piece has no byte
abbrev pub piece_of : ℕ → ℕ → ℕ → Piece
piece_of o n l =
    record {
      first = o - block_size * l;
      stands = block_size * l - o;
      count = min (block_size - (o - block_size * l)) (n - (block_size * l - o));
    }

-- the bytes of the piece, taken out of logical block l
abbrev pub piece_in : List ℕ → ℕ → ℕ → ℕ → List ℕ
piece_in block o n l = part block (piece_of o n l).first (piece_of o n l).count

-- logical block l with the span's bytes laid over it: its bytes outside the span keep their value
unfoldable pub merged : List ℕ → ℕ → List ℕ → ℕ → List ℕ
merged block o bytes l = let p = piece_of o (length bytes) l in splice block p.first (part bytes p.stands p.count)
