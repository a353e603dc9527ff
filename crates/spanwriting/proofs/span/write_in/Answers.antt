-- `write_in` meets its contract: the walk with the places that it has, the tests by what it found, and the blocks.
use mathlib.Core.Path.{refl, sym}
use Rattle.calls.specs.Meaning.{lent_of}
use Rattle.calls.proofs.ResultLaws.{refused_on, walk_places}
use Rattle.spanwriting.proofs.WriteSpanLaws.{span_6, span_done}
use Rattle.spanwriting.proofs.span.write_in.Goals as goal

pub returns-in_err-count : goal.returns-in_err-count
unfolding lent_of
returns-in_err-count g c = refused_on _ _ _ _ c.from_residual.ensures.1 (span_6 _ _ _ c.requires.0 _ c.in_err-count.ensures.value refl)

pub invariant_of-chain : goal.invariant_of-chain
invariant_of-chain g c = record { sound = walk_places _ _ c.in_ok-count.ensures.value _ refl _ c.in_ok-count.ensures.starts_after c.requires.0 }

pub returns-in_err-d : goal.returns-in_err-d
unfolding lent_of
returns-in_err-d g c = refused_on _ _ _ _ c.from_residual-in_err-d.ensures.1 (sym c.in_err-d.ensures.answer)

pub returns : goal.returns
returns g c = span_done _ _ _ c.in_ok-d.ensures.answer _ c.write_blocks.ensures
