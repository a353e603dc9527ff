-- Laws of what the code of a listing plans and fills: its answer by what the walk along the chain finds, its plan, and the record of a region by the places.
use mathlib.Core.Path.{◌≡◌, refl, sym, ap, ◌∙◌}
use mathlib.Core.Bool.{true, false}
use mathlib.Core.List.{List}
use Prim.Native.Nat.{ℕ, ◌+◌, ◌*◌, ◌-◌, ◌≤◌, ◌<◌}
use native.Mathlib.Omega.{arith}
use lib.ListN.{length, take, get_or, replicate, length-take}
use lib.Seq.{length-take-le, get_or-take}
use borrow.Author.Tests.{lt-ltb, le-ltb}
use Rattle.std.specs.Prelude.{Result, Ok, Err, IfOk}
use Rattle.std.specs.Result.{IfErr}
use Rattle.blocks.specs.Pick.{pick}
use Rattle.chains.specs.Chain.{Chain, Walk, Regions, chain, walk_of, regions_of, starts_of}
use Rattle.chains.specs.Walk.{places_left}
use Rattle.calls.specs.declared.answer.Refusal.{Refusal}
use Rattle.calls.specs.declared.answer.Record.{Record}
use Rattle.calls.specs.Call.{accepted, refused, answered}
use Rattle.calls.specs.Parts.{descriptors_of, SoundCard}
use Rattle.calls.specs.Ladder.{admission, first_row}
use Rattle.calls.specs.Step.{is_accepted}
use Rattle.calls.specs.Listing.{Filling, Plan, filling_as, filling_with, filling_of, filling_by, plan_of, ListReady, record_by}
use Rattle.calls.proofs.CardLaws.{card_sound, chain_is}
use Rattle.calls.proofs.ResultLaws.{refused_test}
use Rattle.calls.proofs.ListingLaws.{sound_long, sound_inside}
use Rattle.calls.proofs.PlanLaws.{PlanFor}

-- what a listing answers and fills, by what the walk finds
abbrev pub walk_filling : List ℕ → ℕ → Filling
walk_filling c room =
    let w = walk_of (chain c) in
    filling_by c w.sound w.place.0 w.count room

-- the tests of the code
pub found_1 : (c : List ℕ) (room : ℕ) (r : Refusal) → refused r ≡ first_row (admission c) → filling_as (Err r) ≡ walk_filling c room
unfolding filling_by
found_1 c room r asked = rw (← asked, refused_test r)

module _ (c : List ℕ) (room : ℕ) (card : accepted ≡ first_row (admission c)) (w : Walk) (walked : w ≡ walk_of (chain c)) where
  pub found_6 : w.sound ≡ false → filling_with 6 w.place.0 0 ≡ walk_filling c room
  unfolding filling_by
  found_6 h = rw (← walked, ← card, h)

  module _ (whole : w.sound ≡ true) where
    pub found_14 : room < w.count → filling_with 14 0 0 ≡ walk_filling c room
    unfolding filling_by
    found_14 h = rw (← walked, ← card, whole, lt-ltb room w.count h)

    pub found_0 : w.count ≤ room → filling_with 0 0 w.count ≡ walk_filling c room
    unfolding filling_by
    found_0 h = rw (← walked, ← card, whole, le-ltb room w.count h)

-- these and the places as the walk leaves them
pub plan_is : (c : List ℕ) (room : ℕ) (f : Filling) → f ≡ walk_filling c room → (before after : List ℕ) → after ≡ pick (is_accepted (first_row (admission c))) (places_left c before) before
    → is_accepted (first_row (admission c)) ≡ true → before ≡ replicate 257 0 → ◌≡◌ {A = Plan} (record { answer = f.answer; count = f.count; starts = after }) (plan_of c room)
unfolding plan_of
plan_is c room f planned before after left card zeros = rw (planned, left, card, zeros)

-- past the tests of a listing of n records the first of the places are the starts, and what is asked to fill so many holds
module _ (c starts : List ℕ) (n : ℕ) (s : SoundCard c n (take (n + 1) starts)) where
  places_long : n < length starts
  places_long = omega (arith, sound_long c (take (n + 1) starts) n s, length-take (n + 1) starts)

  places_are : take (n + 1) starts ≡ starts_of (descriptors_of c)
  unfolding regions_of
  places_are = sym (ap (λ (r : Regions). r.starts) s.regions) ∙ ap (λ (ch : Chain). (regions_of ch).starts) (chain_is (chain c) (card_sound c _ (sym s.regions) refl))

  -- so the code knows of the walk what a listing must know
  pub walk_ready : ListReady c true 0 n (take (n + 1) starts)
  unfolding walk_of
  walk_ready = record { sound_is = rw s.regions; place_is = rw s.regions; count_is = rw s.regions; starts_are = λ whole. places_are; long = omega (arith, sound_long c (take (n + 1) starts) n s) }

  pub fill_ready : (n < length starts) × ((j : ℕ) → j < n → 512 * get_or starts j 0 + 512 ≤ length c)
  fill_ready = (places_long, λ j h. omega (arith, (sound_inside c (take (n + 1) starts) n s j h).1, get_or-take (n + 1) starts j 0 (omega arith)))

-- so what the code makes is a plan for the records; one that is refused fills none
module _ (c starts : List ℕ) (records : List Record) where
  pub plan_refused : (r : Refusal) → filling_as (Err r) ≡ filling_of c records → 0 < length starts → PlanFor c records (record { answer = refused r; count = 0; starts = starts })
  plan_refused r told some = record { filling = told; starts_are = λ ok. none ok; some = some }
    where
      none : is_accepted (refused r) ≡ true → take (0 + 1) starts ≡ starts_of (descriptors_of c)
      none ok =
          let f : false ≡ true = sym (refused_test r) ∙ ok in
          let z : ◌≡◌ {A = ℕ} 0 1 = cc in
          absurd (omega arith)

  pub plan_accepted : (n : ℕ) → SoundCard c n (take (n + 1) starts) → filling_as (Ok n) ≡ filling_of c records → PlanFor c records (record { answer = accepted; count = n; starts = starts })
  plan_accepted n s told = record { filling = told; starts_are = λ ok. places_are c starts n s; some = omega (arith, places_long c starts n s) }

-- the same of an answer and a number of records to fill, and what is asked to fill them
module _ (c starts : List ℕ) {X : Type 0} (r : Result X Refusal) (n : ℕ) (told : IfOk r (λ x. SoundCard c n (take (n + 1) starts))) (none : IfErr r (λ e. n ≡ 0)) (some : n < length starts) where
  pub plan_ready : (n < length starts) × ((j : ℕ) → j < n → 512 * get_or starts j 0 + 512 ≤ length c)
  plan_ready = by r told none
    where
      by : (q : Result X Refusal) → IfOk q (λ x. SoundCard c n (take (n + 1) starts)) → IfErr q (λ e. n ≡ 0) → (n < length starts) × ((j : ℕ) → j < n → 512 * get_or starts j 0 + 512 ≤ length c)
      by (Ok x) s z = fill_ready c starts n s
      by (Err e) s z = (some, λ j h. absurd (omega (arith, h, z)))

  pub plan_made : (records : List Record) → record { answer = answered r; count = n } ≡ filling_of c records → PlanFor c records (record { answer = answered r; count = n; starts = starts })
  plan_made records = by r told none
    where
      by : (q : Result X Refusal) → IfOk q (λ x. SoundCard c n (take (n + 1) starts)) → IfErr q (λ e. n ≡ 0) → record { answer = answered q; count = n } ≡ filling_of c records
          → PlanFor c records (record { answer = answered q; count = n; starts = starts })
      by (Ok x) s z e = plan_accepted c starts records n s e
      by (Err f) s z e = rw z (plan_refused c starts records f (rw z at e) (omega (arith, some)))

-- the record of region k of n by the first places alone, and what is asked for it
module _ (c starts : List ℕ) (n : ℕ) (long : n < length starts) (k : ℕ) (h : k < n) where
  size : length (take (n + 1) starts) ≡ n + 1
  size = length-take-le (n + 1) starts (omega arith)

  pub record_first : record_by c (take (n + 1) starts) (length (take (n + 1) starts) - 1) k ≡ record_by c starts n k
  unfolding record_by
  record_first =
      let e : length (take (n + 1) starts) - 1 ≡ n = omega (arith, size) in
      rw (e, get_or-take (n + 1) starts k 0 (omega arith), get_or-take (n + 1) starts (k + 1) 0 (omega arith))

  pub record_ready : ((j : ℕ) → j < n → 512 * get_or starts j 0 + 512 ≤ length c) → (k + 1 < length (take (n + 1) starts)) × (512 * get_or (take (n + 1) starts) k 0 + 512 ≤ length c)
  record_ready inside = (omega (arith, size), omega (arith, inside k h, get_or-take (n + 1) starts k 0 (omega arith)))
