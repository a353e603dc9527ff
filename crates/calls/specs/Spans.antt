-- Spans (02, W1): what a span read gives, and what a span write stores and takes: its blocks' whole-block writes one after the other, rising, each on the card as
-- those before it left it.
use Rattle.std.specs.Prelude.{List, [], ◌++◌, ℕ, zero, suc, ◌+◌, length}
use Rattle.blocks.specs.Pick.{pick}
use Rattle.blocks.specs.Bytes.{Store, store_all}
use Rattle.blocks.specs.Descriptor.{physical}
use Rattle.blocks.specs.declared.descriptor.Descriptor.{Descriptor}
use Rattle.pieces.specs.Span.{span_block, touched, piece_in, merged}
use Rattle.chains.specs.Chain.{active_of}
use Rattle.entries.specs.Found.{Verdict, Passed, Fault}
use Rattle.calls.specs.Parts.{descriptors_of, found_through, is_misplaced, holder_of, block_found}
use Rattle.calls.specs.Stores.{write_stores, write_need}

-- A span read.

-- the first of k logical blocks from l on whose entry, through the descriptor d, is not in place: a fault, with the block that holds it
unfoldable pub misplaced_from : List ℕ → Descriptor → ℕ → ℕ → Verdict
misplaced_from c d l zero = Passed
misplaced_from c d l (suc k) =
    let found = found_through c d l in
    let rest = misplaced_from c d (suc l) k in
    pick (is_misplaced found) (Fault (physical (holder_of found))) rest

-- among those that a span of n bytes touches
unfoldable pub span_verdict : List ℕ → Descriptor → ℕ → ℕ → Verdict
span_verdict c d o n = misplaced_from c d (span_block o 0) (touched o n)

-- the bytes of the span's pieces in its first i blocks, joined; and all of them
unfoldable pub gathered : List ℕ → Descriptor → ℕ → ℕ → ℕ → List ℕ
gathered c d o n zero = []
gathered c d o n (suc i) = let l = span_block o i in gathered c d o n i ++ piece_in (block_found c (found_through c d l)) o n l

unfoldable pub span_bytes : List ℕ → Descriptor → ℕ → ℕ → List ℕ
span_bytes c d o n = gathered c d o n (touched o n)

-- A span write.

-- logical block l of the active store with the span's bytes laid over it: "Bytes of a block outside the span keep their value, or zero if it was nil"
unfoldable pub merged_on : List ℕ → ℕ → List ℕ → ℕ → List ℕ
merged_on c o bytes l = merged (block_found c (found_through c (active_of (descriptors_of c)) l)) o bytes l

-- the stores of its first i blocks, and the card after them
unfoldable pub span_stores : List ℕ → ℕ → List ℕ → ℕ → List Store
span_stores c o bytes zero = []
span_stores c o bytes (suc i) =
    let l = span_block o i in
    let before = span_stores c o bytes i in
    let s = store_all c before in
    before ++ write_stores s l (merged_on s o bytes l)

abbrev pub span_card : List ℕ → ℕ → List ℕ → ℕ → List ℕ
span_card c o bytes i = store_all c (span_stores c o bytes i)

-- what its first i blocks take, "each counted after those before it". Where there is no room for one of them, what the later ones take says
-- nothing, since a store past the end makes the area longer: the sum is too large already
unfoldable pub span_need : List ℕ → ℕ → List ℕ → ℕ → ℕ
span_need c o bytes zero = 0
span_need c o bytes (suc i) = span_need c o bytes i + write_need (span_card c o bytes i) (span_block o i)

-- how many blocks it touches, all its stores, and all that it takes
abbrev pub span_count : ℕ → List ℕ → ℕ
span_count o bytes = touched o (length bytes)

unfoldable pub write_span_stores : List ℕ → ℕ → List ℕ → List Store
write_span_stores c o bytes = span_stores c o bytes (span_count o bytes)

unfoldable pub write_span_need : List ℕ → ℕ → List ℕ → ℕ
write_span_need c o bytes = span_need c o bytes (span_count o bytes)
