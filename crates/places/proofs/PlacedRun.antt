-- Placed over one call and over whole lists of calls.
use mathlib.Core.Path.{◌≡◌, refl, sym, ap, ◌∙◌, subst}
use mathlib.Core.Bool.{Bool, true, false}
use mathlib.Core.List.{List, [], ◌∷◌}
use Prim.Native.Nat.{ℕ, zero, suc}
use lib.ListN.{take, get_or}
use Rattle.blocks.specs.Pick.{pick}
use Rattle.blocks.specs.Bytes.{block_count, store_all}
use Rattle.blocks.specs.declared.descriptor.Format.{Format}
use Rattle.blocks.proofs.BoolLaws.{no}
use Rattle.calls.specs.Call.{Call, Ream, Check}
use Rattle.calls.specs.Check.{Passes}
use Rattle.calls.specs.Meaning.{answer_of}
use Rattle.calls.specs.Step.{step, after, is_accepted}
use Rattle.claims.specs.Kinds.{Kind}
use Rattle.claims.specs.History.{formats, is_ream, is_format, formatted}
use Rattle.claims.specs.Claims.{ReamClaim}
use Rattle.claims.proofs.Changes.{stores_by, Allowed, to_format, to_leave, to_write, to_span, to_snap, to_revert}
use Rattle.claims.proofs.Format.{formatted_passes}
use Rattle.claims.proofs.LedgerRun.{passes_change}
use Rattle.claims.proofs.Rows.{ream_claim}
use Rattle.claims.proofs.Steps.{step_cases}
use Rattle.places.specs.Placed.{Placed, first_placed, placed_change, placed_step, placed_answer, placed_after, placed_of, FollowsPlaced, PlacedClaim, PlacedRunClaim}
use Rattle.places.proofs.CallKinds.{ream_is}
use Rattle.places.proofs.PlacedAnswers.{placed_answer_lem}
use Rattle.places.proofs.PlacedWrite.{placed_write_lem}
use Rattle.places.proofs.PlacedSpan.{placed_span}
use Rattle.places.proofs.PlacedSnap.{placed_snap}
use Rattle.places.proofs.PlacedRevert.{placed_revert}
use Rattle.places.proofs.PlacedFormat.{first_placed_lem}

-- one call on a card that passes
abbrev Next : Call → List ℕ → List ℕ → Type 0
Next k c t = Passes t × (is_accepted (answer_of k c) ≡ true → placed_of t ≡ placed_step k (placed_of c))

module _ (c : List ℕ) (passing : Passes c) where
  placed_change_lem : {x : Kind} → formats x ≡ false → Allowed c x → placed_of (store_all c (stores_by x c)) ≡ placed_change x (placed_of c)
  unfolding formats stores_by store_all placed_change
  placed_change_lem f (to_format e) = no (sym f)
  placed_change_lem f to_leave = refl
  placed_change_lem f (to_write {l = l} {block = block} e) = placed_write_lem c l block passing e
  placed_change_lem f (to_span {o = o} {bytes = bytes} e) = placed_span c e.passes o bytes e.upto e.room
  placed_change_lem f (to_snap {name = name} e) = placed_snap c name passing e
  placed_change_lem f (to_revert {name = name} e) = placed_revert c name passing e

  -- an accepted format
  formatted_next : (format : Format) → is_accepted (answer_of (Ream format) c) ≡ true → Next (Ream format) c (step (Ream format) c).card
  unfolding ReamClaim placed_step placed_of
  formatted_next format e =
      let r = ream_claim c format in
      let can = sym r.0 ∙ e in
      subst (Next (Ream format) c) (sym (r.1 can)) (formatted_passes c format can, λ a. first_placed_lem c format can)

  next_by : (k : Call) (f : Bool) → is_ream k ≡ f → (a : Bool) → is_accepted (answer_of k c) ≡ a → Next k c (step k c).card
  unfolding step is_format placed_step
  next_by k f r false e = rw e (passing, λ q. no q)
  next_by k true r true e =
      let i = ream_is k r in
      subst (λ (j : Call). Next j c (step j c).card) (sym i.1) (formatted_next i.0 (subst (λ (j : Call). is_accepted (answer_of j c) ≡ true) i.1 e))
  next_by k false r true e = step_cases k c (Next k c) (λ q. no (sym q ∙ e)) (λ q n a. (passes_change c passing n a, λ s. placed_change_lem n a)) (rw r)

  next : (k : Call) → Next k c (step k c).card
  next k = next_by k (is_ream k) refl (is_accepted (answer_of k c)) refl

pub placed_claim : PlacedClaim
unfolding PlacedClaim
placed_claim k c p = (placed_answer_lem c p k, (next c p k).1)

-- a refused call leaves it as it is
carried_by : (k : Call) (c : List ℕ) → Passes c → (a : Bool) → is_accepted (answer_of k c) ≡ a → placed_of (step k c).card ≡ pick a (placed_step k (placed_of c)) (placed_of c)
unfolding step
carried_by k c p true e = (next c p k).1 e
carried_by k c p false e = rw e

carried : (k : Call) (c : List ℕ) → Passes c → placed_of (step k c).card ≡ pick (is_accepted (placed_answer k (placed_of c))) (placed_step k (placed_of c)) (placed_of c)
carried k c p = carried_by k c p (is_accepted (placed_answer k (placed_of c))) (ap is_accepted (placed_answer_lem c p k))

-- over the first i calls of a list
passes_after : (i : ℕ) (ks : List Call) (c : List ℕ) → Passes c → Passes (after (take i ks) c)
unfolding after
passes_after zero ks c p = p
passes_after (suc i) [] c p = p
passes_after (suc i) (k ∷ ks) c p = passes_after i ks (step k c).card (next c p k).0

matches_after : (i : ℕ) (ks : List Call) (c : List ℕ) (x : Placed) → Passes c → placed_of c ≡ x → placed_of (after (take i ks) c) ≡ placed_after (take i ks) x
unfolding after placed_after
matches_after zero ks c x p q = q
matches_after (suc i) [] c x p q = q
matches_after (suc i) (k ∷ ks) c x p q =
    matches_after i ks (step k c).card (pick (is_accepted (placed_answer k x)) (placed_step k x) x) (next c p k).0
    (carried k c p ∙ ap (λ (y : Placed). pick (is_accepted (placed_answer k y)) (placed_step k y) y) q)

follows : (c : List ℕ) (x : Placed) → Passes c → placed_of c ≡ x → (ks : List Call) → FollowsPlaced c ks x
follows c x p q ks =
    record {
      passes = λ i. passes_after i ks c p;
      matches = λ i. matches_after i ks c x p q;
      answers = λ i h. placed_answer_lem (after (take i ks) c) (passes_after i ks c p) (get_or ks i Check) ∙ ap (placed_answer (get_or ks i Check)) (matches_after i ks c x p q);
    }

pub placed_run_claim : PlacedRunClaim
unfolding PlacedRunClaim
placed_run_claim = (
  λ c p ks. follows c (placed_of c) p refl ks,
  λ area format can ks. follows (formatted area format) (first_placed (block_count area) format) (formatted_passes area format can) (first_placed_lem area format can) ks,
)
