-- Values that are as a table says, group by group and joined, computed with a check that takes a table block apart in one pass.
use mathlib.Core.Path.{◌≡◌, sym, ap, ◌∙◌}
use mathlib.Core.List.{List, ◌++◌, map, map-append}
use Rattle.claims.specs.Bench.{Value, Result, expected, computed}
use Rattle.samples.proofs.FastCheck.{quick, quick_all}

-- the values of a list are as the table says; so are those of two lists
pub record AsSaid (vs : List Value) : Type 0 where
  pub as_said : map computed vs ≡ map expected vs

infixl 20 ◌and◌
pub ◌and◌ : {xs ys : List Value} → AsSaid xs → AsSaid ys → AsSaid (xs ++ ys)
◌and◌ {xs = xs} {ys = ys} e f =
    record {
      as_said =
          map-append computed xs ys
          ∙ ap (λ (rs : List Result). rs ++ map computed ys) e.as_said
          ∙ ap (λ (rs : List Result). map expected xs ++ rs) f.as_said
          ∙ sym (map-append expected xs ys);
    }

-- values that are as the table says where check is computed in one pass
pub quickly : (vs : List Value) → map quick vs ≡ map expected vs → AsSaid vs
quickly vs e = record { as_said = quick_all vs ∙ e }
