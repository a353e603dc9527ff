-- One call as a change of the card: an accepted one stores whole blocks of it, and one that is no accepted format leaves it or makes the change of its kind.
use mathlib.Core.Path.{◌≡◌, refl}
use mathlib.Core.Bool.{Bool, true, false, ◌&&◌}
use mathlib.Core.List.{List}
use Prim.Native.Nat.{ℕ}
use lib.ListN.{length}
use Rattle.blocks.specs.Bytes.{store_all}
use Rattle.calls.specs.Call.{Call}
use Rattle.calls.specs.Meaning.{answer_of, stores_of}
use Rattle.calls.specs.Step.{step, is_accepted}
use Rattle.claims.specs.History.{formats, is_ream, is_format}
use Rattle.claims.specs.Kinds.{kind_of}
use Rattle.blocks.proofs.StoreLists.{Whole}
use Rattle.claims.proofs.Changes.{stores_by, Allowed, change_inside}
use Rattle.claims.proofs.Owed.{owed}

-- the stores of an accepted call
pub stores_inside : (k : Call) (c : List ℕ) → is_accepted (answer_of k c) ≡ true → Whole (length c) (stores_of k c)
stores_inside k c e = rw ((owed k).stores c) (change_inside c ((owed k).allowed c e))

-- a call that is no accepted format leaves the card, or makes the change of its kind, which is no format
and_true : (b : Bool) → (b && true) ≡ false → b ≡ false
and_true true q = q
and_true false q = refl

module _ (k : Call) (c : List ℕ) (P : List ℕ → Type 0) (refused : is_accepted (answer_of k c) ≡ false → P c)
    (changed : is_accepted (answer_of k c) ≡ true → formats (kind_of k) ≡ false → Allowed c (kind_of k) → P (store_all c (stores_by (kind_of k) c))) where
  card_by : (b : Bool) → is_accepted (answer_of k c) ≡ b → (is_ream k && b) ≡ false → P (step k c).card
  unfolding step is_ream
  card_by true e f = rw (e, (owed k).stores c) (changed e (and_true (formats (kind_of k)) f) ((owed k).allowed c e))
  card_by false e f = rw e (refused e)

  pub step_cases : is_format k c ≡ false → P (step k c).card
  unfolding is_format
  step_cases f = card_by (is_accepted (answer_of k c)) refl f
