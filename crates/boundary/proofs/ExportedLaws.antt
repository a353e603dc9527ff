-- Laws of names as a caller gives them, of the padding of a name, and of the name that a visit stores.
use mathlib.Core.Path.{◌≡◌, refl, sym, ap, ◌∙◌}
use mathlib.Core.Bool.{Bool, true, false}
use mathlib.Core.List.{List}
use Prim.Native.Nat.{ℕ}
use lib.ListN.{length, take}
use lib.Seq.{take-length}
use borrow.Author.Tests.{eq-eqb, ne_eqb}
use Rattle.std.specs.Prelude.{Option, Some, None, Result, Ok, Err, MatchResult, ⊤, is_ok, unwrap_or}
use Rattle.std.specs.Option.{option_flatten}
use Rattle.std.specs.Result.{result_ok}
use Rattle.blocks.specs.Bytes.{part}
use Rattle.blocks.specs.Name.{is_name, is_text, padded, no_name}
use Rattle.blocks.proofs.NameLaws.{padded_name}
use Rattle.calls.specs.declared.answer.Refusal.{Refusal}
use Rattle.calls.specs.Call.{answered}
use Rattle.calls.specs.Effect.{visited_as}
use Rattle.boundary.specs.Exported.{name_in, Padding, padding_of}

-- the name in lent bytes, by whether they are sixteen
pub name_other : (lent : List ℕ) → (length lent ≡ 16 → ⊥) → no_name ≡ name_in lent
unfolding name_in
name_other lent h = rw (ne_eqb (length lent) 16 h)

pub name_whole : (lent name : List ℕ) → length lent ≡ 16 → name ≡ part lent 0 16 → name ≡ name_in lent
unfolding name_in
name_whole lent name h e = rw (eq-eqb (length lent) 16 h, e) (ap (λ (n : ℕ). take n lent) (sym h) ∙ take-length lent)

-- the padding of a name, by the tests of the code
module _ (text name : List ℕ) where
  abbrev left : Padding
  left = record { number = 4; name = name }

  pub padding_other : (length name ≡ 16 → ⊥) → left ≡ padding_of text name
  unfolding padding_of
  padding_other h = rw (ne_eqb (length name) 16 h)

  module _ (long : length name ≡ 16) (p : List ℕ) (is : p ≡ padded text) (t : Bool) (tested : t ≡ is_name p) where
    text_tested : t ≡ is_text text
    text_tested = rw (← padded_name text, ← is) tested

    pub padding_none : t ≡ false → left ≡ padding_of text name
    unfolding padding_of
    padding_none h = rw (eq-eqb (length name) 16 long, ← text_tested, h)

    pub padding_made : t ≡ true → record { number = 0; name = p } ≡ padding_of text name
    unfolding padding_of
    padding_made h = rw (eq-eqb (length name) 16 long, ← text_tested, h, is)

-- the name that a visit stores, sixteen zeros for none
pub visit_stored : (Q : Option (List ℕ) → Type 0) (r : Result (Option (List ℕ)) Refusal) (called : Result ⊤ Refusal) → is_ok called ≡ is_ok r → MatchResult r Q (λ e. called ≡ Err e)
    → record { answer = answered called; name = unwrap_or (option_flatten (result_ok r)) no_name } ≡ visited_as r
visit_stored Q (Ok (Some name)) (Ok u) v h = refl
visit_stored Q (Ok None) (Ok u) v h = refl
visit_stored Q (Ok name) (Err e) v h = cc
visit_stored Q (Err e) called v h = ap (λ (x : Result ⊤ Refusal). record { answer = answered x; name = no_name }) h
