-- One call, and a run of a list of calls.
use Rattle.std.specs.Prelude.{Bool, List, [], ◌∷◌, ℕ, eqb}
use Rattle.blocks.specs.Pick.{pick}
use Rattle.blocks.specs.Bytes.{store_all}
use Rattle.calls.specs.declared.answer.Answer.{Answer}
use Rattle.calls.specs.Call.{Call, Lent, NoneGiven, Outcome}
use Rattle.calls.specs.Meaning.{answer_of, stores_of, filled_of, given_of, lent_of}

-- what a call does: its outcome, and the card after it
pub record Done : Type 0 where
  pub outcome : Outcome
  pub card : List ℕ

-- the same of a call that gives nothing
abbrev pub done : Answer → Lent → List ℕ → Done
done a lent card = record { outcome = record { answer = a; lent = lent; given = NoneGiven }; card = card }

abbrev pub is_accepted : Answer → Bool
is_accepted a = eqb a.number 0

-- a refusal alters no byte of the card or of lent memory and gives nothing; an accepted call makes its stores, fills what was lent and gives what its meaning says
unfoldable pub step : Call → List ℕ → Done
step k c =
    let a = answer_of k c in
    pick (is_accepted a)
    (record { outcome = record { answer = a; lent = filled_of k c; given = given_of k c }; card = store_all c (stores_of k c) })
    (done a (lent_of k) c)

-- the card after a list of calls, and their outcomes in order
unfoldable pub after : List Call → List ℕ → List ℕ
after [] c = c
after (k ∷ ks) c = after ks (step k c).card

unfoldable pub outcomes : List Call → List ℕ → List Outcome
outcomes [] c = []
outcomes (k ∷ ks) c = let s = step k c in s.outcome ∷ outcomes ks s.card
