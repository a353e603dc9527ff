-- `fetch` meets its contract, by the verdict on the entries.
use mathlib.Core.Path.{refl}
use Rattle.calls.proofs.ResultLaws.{passed_on}
use Rattle.spanreading.proofs.FetchLaws.{fetched_10, faultless, fetched_0}
use Rattle.spanreading.proofs.fetch.fetch.Goals as goal

pub returns-in_err-blocks_in_place : goal.returns-in_err-blocks_in_place
returns-in_err-blocks_in_place c = rw (passed_on _ _ c.from_residual.ensures.1) (fetched_10 _ _ _ _ _ c.blocks_touched.ensures.value _ c.in_err-blocks_in_place.ensures _ refl)

pub gather-requires : goal.gather-requires
gather-requires c = ((_, _, c.requires.0), c.requires.1, faultless _ _ _ c.args.out.now _ c.blocks_touched.ensures.value _ c.in_ok-blocks_in_place.ensures refl)

pub returns : goal.returns
returns c = fetched_0 _ _ _ _ _ c.blocks_touched.ensures.value _ c.in_ok-blocks_in_place.ensures refl _ c.gather.ensures
