-- `copy_rest` meets its contract: two copies, the second where the first ends, are one.
use native.Mathlib.Omega.{arith}
use Rattle.copying.proofs.CopyLaws.{copies_join}
use Rattle.copying.proofs.copy.copy_rest.Goals as goal

pub returns : goal.returns
returns c =
    let r = c.requires in
    copies_join _ _ _ c.args.from.0 c.args.«to».0 _ _ _ (omega arith) (omega arith) r.2 r.3 r.4 c.copy_part.ensures c.copy_part-2.ensures
