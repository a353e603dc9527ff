-- Lists of calls: those without an accepted format, the length that a run keeps, what stays of a list, runs from two cards that agree, and two lists that end alike.
use mathlib.Core.Path.{◌≡◌, refl, sym, ap, ◌∙◌}
use mathlib.Core.Bool.{false}
use mathlib.Core.List.{List, [], ◌∷◌}
use Prim.Native.Nat.{ℕ, zero, suc, ◌≤◌, ◌<◌}
use native.Mathlib.Omega.{arith}
use lib.ListN.{length, take, drop}
use lib.Seq.{length-take-le, take_at, drop_at}
use Rattle.calls.specs.Call.{Call, Outcome}
use Rattle.calls.specs.Step.{step, after, outcomes}
use Rattle.claims.specs.History.{Agree, is_format, Standing, none, more, without}
use Rattle.claims.specs.Claims.{FrameClaim, Matched}
use Rattle.claims.proofs.AgreeAnswer.{agree_outcome}
use Rattle.claims.proofs.Owed.{owed}
use Rattle.claims.proofs.Frame.{frame_claim}
use Rattle.calls.proofs.StepLaws.{after_split, outcomes_drop}

-- whether a call is an accepted format depends on the card's length alone
pub format_length : (k : Call) (s t : List ℕ) → length s ≡ length t → is_format k s ≡ is_format k t
format_length k s t e = (owed k).format s t e

-- lists in which no format is accepted: on any card of that length, and the parts of such a list
pub standing_length : (s t : List ℕ) → length s ≡ length t → (ks : List Call) → Standing s ks → Standing t ks
standing_length s t e [] none = none
standing_length s t e (k ∷ ks) (more f w r) = more (sym (format_length k s t e) ∙ f) w (standing_length s t e ks r)

pub standing_drop : (c : List ℕ) (ks : List Call) (n : ℕ) → Standing c ks → Standing c (drop n ks)
standing_drop c ks zero h = h
standing_drop c [] (suc n) none = none
standing_drop c (k ∷ ks) (suc n) (more f w r) = standing_drop c ks n r

pub standing_take : (c : List ℕ) (ks : List Call) (n : ℕ) → Standing c ks → Standing c (take n ks)
standing_take c ks zero h = none
standing_take c [] (suc n) none = none
standing_take c (k ∷ ks) (suc n) (more f w r) = more f w (standing_take c ks n r)

-- no run alters the card's length
pub step_length : (k : Call) (c : List ℕ) → length (step k c).card ≡ length c
unfolding FrameClaim
step_length k c = (frame_claim k c).0

pub after_length : (ks : List Call) (c : List ℕ) → length (after ks c) ≡ length c
unfolding after
after_length [] c = refl
after_length (k ∷ ks) c = after_length ks (step k c).card ∙ step_length k c

-- what stays of a list without its calls from i up to and including k
pub without_drop : (ks : List Call) (i k : ℕ) → i ≤ k → k < length ks → drop i (without ks i k) ≡ drop (suc k) ks
unfolding without
without_drop ks i k h l = drop_at (take i ks) (drop (suc k) ks) i (length-take-le i ks (omega (arith, h, l)))

pub without_take : (ks : List Call) (i k : ℕ) → i ≤ k → k < length ks → take i (without ks i k) ≡ take i ks
unfolding without
without_take ks i k h l = take_at (take i ks) (drop (suc k) ks) i (length-take-le i ks (omega (arith, h, l)))

-- runs from two cards that agree, given that they agree after every call that is no accepted format
module _ (agree_step : (s t : List ℕ) → Agree s t → (k : Call) → is_format k s ≡ false → Agree (step k s).card (step k t).card) where
  pub agree_run : (ks : List Call) (s t : List ℕ) → Agree s t → Standing s ks → Agree (after ks s) (after ks t)
  unfolding after
  agree_run [] s t g none = g
  agree_run (k ∷ ks) s t g (more f w r) = agree_run ks (step k s).card (step k t).card (agree_step s t g k f) (standing_length s (step k s).card (sym (step_length k s)) ks r)

  pub agree_outcomes : (ks : List Call) (s t : List ℕ) → Agree s t → Standing s ks → outcomes ks s ≡ outcomes ks t
  unfolding outcomes
  agree_outcomes [] s t g none = refl
  agree_outcomes (k ∷ ks) s t g (more f w r) =
      ap (λ (o : Outcome). o ∷ outcomes ks (step k s).card) (agree_outcome s t g k)
      ∙ ap (λ (os : List Outcome). (step k t).outcome ∷ os) (agree_outcomes ks (step k s).card (step k t).card (agree_step s t g k f) (standing_length s (step k s).card (sym (step_length k s)) ks r))

  -- two lists that end alike, from where their runs agree
  pub matched_from : (s : List ℕ) (ks : List Call) (a : ℕ) (js : List Call) (b : ℕ) → Standing s ks → a ≤ length ks → b ≤ length js → drop a ks ≡ drop b js
      → Agree (after (take a ks) s) (after (take b js) s) → Matched s ks a js b
  matched_from s ks a js b h la lb e g =
      let u = after (take a ks) s in
      let v = after (take b js) s in
      let rest : Standing u (drop a ks) = standing_length s u (sym (after_length (take a ks) s)) (drop a ks) (standing_drop s ks a h) in
      record {
        agree = λ m l. rw (after_split ks a m s, after_split js b m s, ← e) (agree_run (take m (drop a ks)) u v g (standing_take u (drop a ks) m rest));
        answers = outcomes_drop ks a s la ∙ agree_outcomes (drop a ks) u v g rest ∙ ap (λ (xs : List Call). outcomes xs v) e ∙ sym (outcomes_drop js b s lb);
      }
