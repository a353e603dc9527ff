-- What a span read gives once the descriptor of its target was found and the span ends in the volume; and what its code looks at.
use Rattle.std.specs.Prelude.{Bool, true, ◌&&◌, List, ℕ, zero, suc, length}
use Rattle.blocks.specs.Pick.{pick}
use Rattle.blocks.specs.declared.descriptor.Descriptor.{Descriptor}
use Rattle.entries.specs.InPlace.{is_in_place}
use Rattle.entries.specs.Entry.{entry_at}
use Rattle.calls.specs.declared.answer.Answer.{Answer}
use Rattle.calls.specs.Call.{answer, accepted}
use Rattle.calls.specs.Parts.{descriptors_of}
use Rattle.calls.specs.Check.{is_fault, fault_holder}
use Rattle.calls.specs.Spans.{span_verdict, span_bytes}

-- whether k entries of table block m from entry j on are in place
unfoldable pub placed_from : List ℕ → Descriptor → ℕ → ℕ → ℕ → Bool
placed_from c d m j zero = true
placed_from c d m j (suc k) = is_in_place (descriptors_of c) d (entry_at c m j) && placed_from c d m (suc j) k

-- the refusal of an entry that is not in place, which fills nothing, or the bytes
pub record Fetched : Type 0 where
  pub answer : Answer
  pub bytes : List ℕ

unfoldable pub fetched : List ℕ → Descriptor → ℕ → List ℕ → Fetched
fetched c d o bytes =
    let verdict = span_verdict c d o (length bytes) in
    pick (is_fault verdict) (record { answer = answer 10 (fault_holder verdict); bytes = bytes }) (record { answer = accepted; bytes = span_bytes c d o (length bytes) })
