-- Laws of what the code of a call returns: a refusal's number, a call that is not admitted, a walk that found no fault, and a target whose name is not looked at.
use mathlib.Core.Path.{◌≡◌, refl, ap, sym, subst, ◌∙◌}
use mathlib.Core.Bool.{false, not}
use mathlib.Core.List.{List}
use Prim.Native.Nat.{ℕ, ◌+◌, ◌-◌}
use native.Mathlib.Omega.{arith}
use lib.ListN.{length}
use lib.Dec.{eqb}
use borrow.Author.Tests.{ne_eqb}
use Rattle.std.specs.Prelude.{Result, Ok, Err}
use Rattle.std.specs.Result.{IsErrAnd}
use Rattle.std.proofs.lemmas.Result.{err_from_is_err_and}
use Rattle.chains.specs.Chain.{walk_as, walk_of, chain, starts_of, descriptors}
use Rattle.chains.specs.declared.chain.UnsoundChain.{UnsoundChain}
use Rattle.calls.specs.declared.answer.Refusal.{Refusal}
use Rattle.calls.specs.declared.answer.Refusal.TheVariants as why
use Rattle.calls.specs.declared.answer.Target.{Target as NamedTarget}
use Rattle.calls.specs.declared.answer.Target.TheVariants as named
use Rattle.calls.specs.Call.{Call, Read, Visit, SpanRead, Snapshot, number_of, place_of, refused, accepted, target_as, name_as, answered}
use Rattle.calls.specs.Parts.{area_bad, SoundCard, target_of}
use Rattle.calls.specs.Ladder.{first_row, admission, read_rows, visit_rows, span_read_rows, entry_rows}
use Rattle.calls.specs.Meaning.{answer_of, rows_of, lent_of, filled_of, given_of, stores_of}
use Rattle.calls.specs.Effect.{visit_given}
use Rattle.calls.specs.Step.{step, done}
use Rattle.calls.proofs.StepLaws.{step_barred, step_refused}
use Rattle.calls.proofs.RowLaws.{admitted_card}
use Rattle.entries.specs.Through.{SoundChain}
use Rattle.calls.proofs.CardLaws.{places_long, places_card}
use Rattle.calls.proofs.ChainLaws.{card_chain}

-- the number of a refusal is set
pub refused_set : (r : Refusal) → number_of r ≡ 0 → ⊥
refused_set why.NoCard e = absurd (omega arith)
refused_set why.BadLayout e = absurd (omega arith)
refused_set why.BadVolume e = absurd (omega arith)
refused_set why.BadName e = absurd (omega arith)
refused_set why.CardTooSmall e = absurd (omega arith)
refused_set (why.UnsoundChain p) e = absurd (omega arith)
refused_set why.NoSnapshot e = absurd (omega arith)
refused_set why.PastTheVolume e = absurd (omega arith)
refused_set why.BadBlock e = absurd (omega arith)
refused_set (why.Misplaced p) e = absurd (omega arith)
refused_set why.NoRoom e = absurd (omega arith)
refused_set why.NameInUse e = absurd (omega arith)
refused_set why.TooManySnapshots e = absurd (omega arith)
refused_set why.TooFewRecords e = absurd (omega arith)
refused_set (why.BadLine n) e = absurd (omega arith)
refused_set why.PastTheEnd e = absurd (omega arith)
refused_set why.BadRevision e = absurd (omega arith)

pub refused_test : (r : Refusal) → eqb (number_of r) 0 ≡ false
refused_test r = ne_eqb (number_of r) 0 (refused_set r)

-- a call that is not admitted, and a card that is
pub barred : (k : Call) (c : List ℕ) (r : Refusal) → refused r ≡ first_row (admission c) → done (refused r) (lent_of k) c ≡ step k c
barred k c r asked = step_barred k c (refused r) asked (refused_set r)

pub admitted : (c : List ℕ) → accepted ≡ first_row (admission c) → area_bad c ≡ false
admitted c asked = admitted_card c accepted asked refl

-- a call that is refused
pub refused_by : (k : Call) (c : List ℕ) (r : Refusal) → answer_of k c ≡ refused r → done (refused r) (lent_of k) c ≡ step k c
refused_by k c r e = step_refused k c (number_of r) (place_of r) e (refused_test r)

-- a refusal that `?` passes on, and the call that it leaves
pub is_passed : {X : Type 0} (r : Result X Refusal) (e : Refusal) → IsErrAnd r (λ (f : Refusal). f ≡ e) → r ≡ Err e
is_passed r e h = let f = err_from_is_err_and r h in f.1 ∙ ap Err f.2

pub passed_on : {X : Type 0} (r : Result X Refusal) (e : Refusal) → IsErrAnd r (λ (f : Refusal). f ≡ e) → answered r ≡ refused e
passed_on r e h = ap answered (is_passed r e h)

pub barred_on : (k : Call) (c : List ℕ) {X : Type 0} (r : Result X Refusal) (e : Refusal) → IsErrAnd r (λ (f : Refusal). f ≡ e) → refused e ≡ first_row (admission c) → done (answered r) (lent_of k) c ≡ step k c
barred_on k c r e h asked = rw (passed_on r e h) (barred k c e asked)

pub refused_on : (k : Call) (c : List ℕ) {X : Type 0} (r : Result X Refusal) (e : Refusal) → IsErrAnd r (λ (f : Refusal). f ≡ e) → answer_of k c ≡ refused e → done (answered r) (lent_of k) c ≡ step k c
refused_on k c r e h is = rw (passed_on r e h) (refused_by k c e is)

-- the name beside the active store is not looked at
pub read_unnamed : (t : NamedTarget) (name : List ℕ) (l : ℕ) (block : List ℕ) (c : List ℕ) → (target_as t ≡ Snapshot → name ≡ name_as t) → step (Read (target_as t) (name_as t) l block) c ≡ step (Read (target_as t) name l block) c
unfolding step answer_of rows_of read_rows entry_rows lent_of filled_of given_of stores_of target_of
read_unnamed named.Active name l block c e = refl
read_unnamed (named.Snapshot n) name l block c e = ap (λ (m : List ℕ). step (Read Snapshot m l block) c) (sym (e refl))

pub visit_unnamed : (t : NamedTarget) (name : List ℕ) (l : ℕ) (c : List ℕ) → (target_as t ≡ Snapshot → name ≡ name_as t) → step (Visit (target_as t) (name_as t) l) c ≡ step (Visit (target_as t) name l) c
unfolding step answer_of rows_of visit_rows entry_rows lent_of filled_of given_of stores_of target_of visit_given
visit_unnamed named.Active name l c e = refl
visit_unnamed (named.Snapshot n) name l c e = ap (λ (m : List ℕ). step (Visit Snapshot m l) c) (sym (e refl))

pub span_read_unnamed : (t : NamedTarget) (name : List ℕ) (o : ℕ) (bytes : List ℕ) (c : List ℕ) → (target_as t ≡ Snapshot → name ≡ name_as t) → step (SpanRead (target_as t) (name_as t) o bytes) c ≡ step (SpanRead (target_as t) name o bytes) c
unfolding step answer_of rows_of span_read_rows lent_of filled_of given_of stores_of target_of
span_read_unnamed named.Active name o bytes c e = refl
span_read_unnamed (named.Snapshot n) name o bytes c e = ap (λ (m : List ℕ). step (SpanRead Snapshot m o bytes) c) (sym (e refl))

-- what the walk returned, where it found no fault: the places are as many as there are descriptors and one more, and the card is one with a sound chain
module _ (c : List ℕ) (r : Result ℕ UnsoundChain) (walked : walk_as r ≡ walk_of (chain c)) (n : ℕ) (whole : r ≡ Ok n) where
  walk_sound : not (walk_as r).sound ≡ false
  walk_sound = ap (λ (x : Result ℕ UnsoundChain). not (walk_as x).sound) whole

  walk_count : (walk_as r).count ≡ n
  walk_count = ap (λ (x : Result ℕ UnsoundChain). (walk_as x).count) whole

  module _ (starts : List ℕ) (are : starts ≡ starts_of (descriptors (chain c))) where
    pub walk_long : n + 1 ≡ length starts
    walk_long = rw (sym walk_count) (places_long c (walk_as r) walked walk_sound starts (λ h. are))

    pub walk_card : area_bad c ≡ false → SoundCard c n starts
    walk_card area = rw (sym walk_count) (places_card c (walk_as r) walked walk_sound starts (λ h. are) area)

    -- and so they are a `Chain`'s
    pub walk_places : area_bad c ≡ false → SoundChain c starts
    walk_places area = let e : n ≡ length starts - 1 = omega (arith, walk_long) in card_chain c starts (subst (λ (k : ℕ). SoundCard c k starts) e (walk_card area))
