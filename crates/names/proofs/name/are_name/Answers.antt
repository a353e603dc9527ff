-- `are_name` meets its contract: each test carried along, and what is left of it to pass.
use native.Mathlib.Omega.{arith}
use Rattle.blocks.proofs.NameLaws.{name_wrong_length}
use Rattle.names.proofs.TestLaws.{good_start, good_next, good_end, last_start, last_next, last_end, some_start, some_next, some_end, name_loop}
use Rattle.names.proofs.name.are_name.Goals as goal

pub returns-then-bytes-ne-NAME_SIZE : goal.returns-then-bytes-ne-NAME_SIZE
returns-then-bytes-ne-NAME_SIZE c = search name_wrong_length

pub loop-b-init : goal.loop-b-init
loop-b-init c = record { good = good_start _; last = last_start _; some = some_start _ }

pub loop-b-preserved : goal.loop-b-preserved
loop-b-preserved c =
    let h = c.loop-b.invariant in
    record { good = good_next _ _ _ _ (omega arith) c.is_name_byte.ensures h.good; last = last_next _ _ _ _ (omega arith) h.last; some = some_next _ _ _ (omega arith) h.some }

pub returns : goal.returns
returns c =
    let l = c.loop-b in
    name_loop _ (omega arith) l.good l.last l.some (good_end _ _ _ (omega arith) l.invariant.good) (last_end _ _ _ _ (omega arith) l.invariant.last) (some_end _ _ _ (omega arith) l.invariant.some)
