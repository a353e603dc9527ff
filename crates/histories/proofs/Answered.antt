-- What the answers of a list of calls say of it: which reverts are accepted, and where the latest accepted snap of a visit stands. And a check in a list, which from a format is accepted.
use mathlib.Core.Path.{◌≡◌, refl, sym, ap, ◌∙◌}
use mathlib.Core.Bool.{true, ◌&&◌}
use mathlib.Core.List.{List, [], ◌∷◌, ◌++◌, map}
use Prim.Native.Nat.{ℕ, zero, suc, ◌<◌}
use native.Mathlib.Omega.{arith}
use lib.ListN.{length, take, drop, get_or}
use Rattle.blocks.specs.Pick.{pick}
use Rattle.blocks.specs.Bytes.{store_all}
use Rattle.blocks.specs.declared.descriptor.Format.{Format}
use Rattle.calls.specs.declared.answer.Answer.{Answer}
use Rattle.calls.specs.Call.{Call, Check, Revert, None, Outcome, accepted}
use Rattle.calls.specs.Check.{Passes}
use Rattle.calls.specs.Meaning.{answer_of, stores_of, filled_of, given_of}
use Rattle.calls.specs.Step.{Done, step, after, outcomes, is_accepted}
use Rattle.calls.proofs.StepLaws.{step_answer, step_accepted}
use Rattle.claims.specs.History.{Standing, is_snap_of, Position, Nowhere, At, latest_from, latest_snap, formattable, formatted}
use Rattle.claims.specs.Claims.{RevertedAt, FormatLedgerClaim, CheckClaim}
use Rattle.histories.specs.Example.{yields}
use Rattle.claims.proofs.CheckClaims.{check_claim}
use Rattle.claims.proofs.LedgerRun.{format_ledger_claim}

-- number and place of each call
abbrev pub answers : List Call → List ℕ → List Answer
answers ks c = map (λ (o : Outcome). o.answer) (outcomes ks c)

-- the answer at a position
answer_at : (ks : List Call) (c : List ℕ) (i : ℕ) → i < length ks → get_or (answers ks c) i accepted ≡ answer_of (get_or ks i Check) (after (take i ks) c)
unfolding outcomes after
answer_at [] c i h = absurd (omega arith)
answer_at (k ∷ ks) c zero h = step_answer k c
answer_at (k ∷ ks) c (suc i) h = answer_at ks (step k c).card i (omega arith)

-- the answers from a position on are those of the calls from there on
pub rest_answers : (n : ℕ) (ks : List Call) (c : List ℕ) → answers (drop n ks) (after (take n ks) c) ≡ drop n (answers ks c)
unfolding outcomes after
rest_answers zero ks c = refl
rest_answers (suc n) [] c = refl
rest_answers (suc n) (k ∷ ks) c = rest_answers n ks (step k c).card

-- a revert at a position whose answer is accepted
pub reverted_by : (ks : List Call) (c : List ℕ) (said : List Answer) → answers ks c ≡ said → (k : ℕ) (v : List ℕ) → k < length ks → get_or ks k Check ≡ Revert v → is_accepted (get_or said k accepted) ≡ true → RevertedAt c ks k v
reverted_by ks c said e k v h is ok =
    record {
      inside = h;
      is = is;
      accepted_there =
          ap (λ (x : Call). is_accepted (answer_of x (after (take k ks) c))) (sym is)
          ∙ ap is_accepted (sym (answer_at ks c k h))
          ∙ ap (λ (xs : List Answer). is_accepted (get_or xs k accepted)) e
          ∙ ok;
    }

-- the position of the latest accepted snap under the name, by the answers
unfoldable pub latest_by : List ℕ → List Call → List Answer → ℕ → Position → Position
latest_by name [] said i best = best
latest_by name (k ∷ ks) [] i best = best
latest_by name (k ∷ ks) (a ∷ said) i best = latest_by name ks said (suc i) (pick (is_snap_of name k && is_accepted a) (At i) best)

latest_from_lem : (name : List ℕ) (n : ℕ) (ks : List Call) (c : List ℕ) (i : ℕ) (best : Position) → latest_from name c (take n ks) i best ≡ latest_by name (take n ks) (answers ks c) i best
unfolding latest_from latest_by outcomes
latest_from_lem name zero ks c i best = refl
latest_from_lem name (suc n) [] c i best = refl
latest_from_lem name (suc n) (k ∷ ks) c i best =
    rw (step_answer k c) (latest_from_lem name n ks (step k c).card (suc i) (pick (is_snap_of name k && is_accepted (answer_of k c)) (At i) best))

pub latest_by_lem : (name : List ℕ) (n : ℕ) (ks : List Call) (c : List ℕ) (said : List Answer) → answers ks c ≡ said → latest_snap name c (take n ks) ≡ latest_by name (take n ks) said 0 Nowhere
unfolding latest_snap
latest_by_lem name n ks c said e = latest_from_lem name n ks c 0 Nowhere ∙ ap (λ (xs : List Answer). latest_by name (take n ks) xs 0 Nowhere) e

-- the outcomes of an append
outcomes_append : (xs ys : List Call) (c : List ℕ) → outcomes (xs ++ ys) c ≡ outcomes xs c ++ outcomes ys (after xs c)
unfolding outcomes after
outcomes_append [] ys c = refl
outcomes_append (k ∷ xs) ys c = ap (λ (os : List Outcome). (step k c).outcome ∷ os) (outcomes_append xs ys (step k c).card)

-- a check of a card that passes
check_first : (c : List ℕ) → Passes c → (ys : List Call) → outcomes (Check ∷ ys) c ≡ yields None ∷ outcomes ys c
unfolding outcomes store_all stores_of filled_of given_of CheckClaim
check_first c p ys =
    ap (λ (d : Done). d.outcome ∷ outcomes ys d.card) (sym (step_accepted Check c ((check_claim c).1 p) None refl c refl refl))

-- a check after some calls that follow a format
pub check_among : (area : List ℕ) (format : Format) → formattable area format ≡ true → (xs ys : List Call) → Standing (formatted area format) xs
    → outcomes (xs ++ (Check ∷ ys)) (formatted area format) ≡ outcomes xs (formatted area format) ++ (yields None ∷ outcomes ys (after xs (formatted area format)))
unfolding FormatLedgerClaim
check_among area format can xs ys standing =
    let c = formatted area format in
    outcomes_append xs (Check ∷ ys) c ∙ ap (λ (os : List Outcome). outcomes xs c ++ os) (check_first (after xs c) (format_ledger_claim area format can xs standing).1 ys)
