-- What the code of a span write counts before it stores anything, and what it knows of the card and of the block that it comes to.
use Rattle.std.specs.Prelude.{◌≡◌, false, ◌||◌, List, ℕ, zero, suc, ◌+◌, ◌*◌, ◌%◌, ◌≤◌, ◌<◌, ◌^◌, min, length, eqb}
use Rattle.blocks.specs.Pick.{pick}
use Rattle.blocks.specs.Bytes.{block_size, block_count}
use Rattle.blocks.specs.Descriptor.{table_size}
use Rattle.blocks.specs.declared.descriptor.Descriptor.{Descriptor}
use Rattle.pieces.specs.Span.{span_block}
use Rattle.chains.specs.Chain.{active_of}
use Rattle.calls.specs.Parts.{descriptors_of, found_through, is_misplaced, SoundCard}
use Rattle.calls.specs.Stores.{write_need}
use Rattle.calls.specs.Check.{Passes}
use Rattle.calls.specs.Spans.{write_span_need}

-- what block i of a span takes, counted on the card at entry: that of a write, but at most one block where the block before it is of the same group and of the span, since
-- the table block is then one of the active region (on a card that passes: where the block before takes nothing, by the rule `table_above`)
unfoldable pub counted_at : List ℕ → ℕ → ℕ → ℕ
counted_at c o i =
    let l = span_block o i in
    pick (eqb i 0 || eqb (l % table_size) 0) (write_need c l) (min (write_need c l) 1)

-- the first i blocks together
unfoldable pub planned_need : List ℕ → ℕ → ℕ → ℕ
planned_need c o zero = 0
planned_need c o (suc i) = planned_need c o i + counted_at c o i

-- the active descriptor of a card with a sound chain, of which the walk has found so many descriptors and where their regions start
pub record ActiveCard (c starts : List ℕ) (count : ℕ) (d : Descriptor) : Type 0 where
  pub sound : SoundCard c count starts
  pub active : d ≡ active_of (descriptors_of c)

-- what is known of a block that is written: its number is below L, its entry is in place, there is room for what it takes, and the span touches it
pub record PieceReady (c starts : List ℕ) (count : ℕ) (d : Descriptor) (l o : ℕ) (bytes : List ℕ) : Type 0 where
  pub card : ActiveCard c starts count d
  pub below : l < d.volume
  pub placed : is_misplaced (found_through c d l) ≡ false
  pub room : d.beta.0 + write_need c l ≤ block_count c
  pub begins : block_size * l < o + length bytes
  pub ends : o < block_size * l + block_size
  pub small : o + length bytes < 2 ^ 64

-- what is known once all tests are done: the card passes, the span ends in the volume, and there is room for what its blocks need
pub record SpanReady (c starts : List ℕ) (count : ℕ) (d : Descriptor) (o : ℕ) (bytes : List ℕ) : Type 0 where
  pub card : ActiveCard c starts count d
  pub passes : Passes c
  pub upto : o + length bytes ≤ block_size * d.volume
  pub room : d.beta.0 + write_span_need c o bytes ≤ block_count c
