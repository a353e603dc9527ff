-- Laws of a listing as it is planned and filled: the definitions of specs/Listing.antt, one after the other, give what `step` says of a listing.
use mathlib.Core.Path.{◌≡◌, refl, sym, ap, ◌∙◌}
use mathlib.Core.Bool.{Bool, true, false}
use mathlib.Core.List.{List, [], ◌∷◌, ◌++◌}
use Prim.Native.Nat.{ℕ, zero, suc, ◌+◌, ◌≤◌, ◌<◌}
use native.Mathlib.Numerals.{add-one}
use native.Mathlib.Omega.{arith}
use lib.ListN.{length, take, drop, get_or, set, replicate, length-set}
use lib.Seq.{drop-cons, take-suc, take-length, length-take-le, get_or-take}
use lib.Dec.{ltb}
use borrow.Author.Tests.{eqb-true, eqb-false}
use Rattle.blocks.specs.Pick.{pick}
use Rattle.blocks.specs.Bytes.{store_all}
use Rattle.blocks.specs.Descriptor.{physical, no_descriptor}
use Rattle.chains.specs.Chain.{active_of, chain, starts_of, regions_of, walk_of}
use Rattle.chains.specs.Walk.{places_left}
use Rattle.blocks.specs.declared.descriptor.Descriptor.{Descriptor}
use Rattle.chains.specs.Chain.{Walk}
use Rattle.links.proofs.ChainLaws.{places_starts, length_places, suffice_all}
use Rattle.links.proofs.LinkedLaws.{region_of_lem, found_descriptor}
use Rattle.calls.specs.declared.answer.Answer.{Answer}
use Rattle.calls.specs.declared.answer.Record.{Record}
use Rattle.calls.specs.Call.{Listing, Records}
use Rattle.calls.specs.Parts.{descriptors_of}
use Rattle.calls.specs.Ladder.{admission, first_row, list_rows}
use Rattle.calls.specs.Effect.{record_of, listed}
use Rattle.calls.specs.Meaning.{rows_of, answer_of, stores_of, lent_of, filled_of, given_of}
use Rattle.calls.specs.Step.{step, is_accepted, done}
use Rattle.calls.specs.Listing.{Filling, Plan, filling_with, filling_of, filling_by, record_by, filled_to, filled, plan_of, ListReady}
use Rattle.calls.proofs.CardLaws.{walk_whole, walk_accords, walk_few, chain_is}
use Rattle.calls.proofs.Passed.{list_passed}
use Rattle.calls.proofs.RowLaws.{row_given, last_passed, not_admitted, admitted, chain_given, chain_passed}
use Rattle.calls.proofs.ListingLaws.{list_room}

-- a plan for the records: the listing's answer, how many it fills and, where it is accepted, where the regions start, in one place more than that; there is at least one place
pub record PlanFor (c : List ℕ) (records : List Record) (plan : Plan) : Type 0 where
  pub filling : record { answer = plan.answer; count = plan.count } ≡ filling_of c records
  pub starts_are : is_accepted plan.answer ≡ true → take (plan.count + 1) plan.starts ≡ starts_of (descriptors_of c)
  pub some : 0 < length plan.starts

-- what a listing answers and fills, by its tests
module _ (c : List ℕ) (records : List Record) (r : Walk) (walked : r ≡ walk_of (chain c)) (room : ℕ) (long : length records ≡ room) where
  abbrev a : Answer
  a = first_row (admission c)

  module _ (card : a.number ≡ 0) where
    filling_6 : r.sound ≡ false → filling_with 6 r.place.0 0 ≡ filling_of c records
    unfolding filling_of answer_of rows_of list_rows
    filling_6 h = rw (admitted c a refl _ card, chain_given _ c r walked (rw h))

    module _ (whole : r.sound ≡ true) where
      count_is : length (descriptors_of c) ≡ r.count
      count_is = sym (walk_whole (chain c) r walked whole).1

      to_room : answer_of (Listing records) c ≡ first_row (drop 1 (list_rows c records))
      unfolding answer_of rows_of list_rows
      to_room = admitted c a refl _ card ∙ chain_passed _ c (walk_whole (chain c) r walked whole).0

      filling_room : (t : Bool) → ltb room r.count ≡ t → pick t (filling_with 14 0 0) (filling_with 0 0 r.count) ≡ filling_of c records
      unfolding filling_of list_rows
      filling_room true h = rw (to_room ∙ row_given _ _ (rw (long, count_is) h))
      filling_room false h = rw (to_room ∙ last_passed _ (rw (long, count_is) h), count_is)

    filling_chain : (s : Bool) → r.sound ≡ s → pick s (pick (ltb room r.count) (filling_with 14 0 0) (filling_with 0 0 r.count)) (filling_with 6 r.place.0 0) ≡ filling_of c records
    filling_chain true e = filling_room e (ltb room r.count) refl
    filling_chain false e = filling_6 e

  filling_none : is_accepted a ≡ false → filling_with a.number a.place 0 ≡ filling_of c records
  unfolding filling_of answer_of rows_of list_rows
  filling_none e = rw (not_admitted c a refl (list_rows c records) (eqb-false a.number 0 e), e)

  filling_by_lem : (t : Bool) → is_accepted a ≡ t
      → pick t (pick r.sound (pick (ltb room r.count) (filling_with 14 0 0) (filling_with 0 0 r.count)) (filling_with 6 r.place.0 0)) (filling_with a.number a.place 0) ≡ filling_of c records
  filling_by_lem true e = filling_chain (eqb-true a.number 0 e) r.sound refl
  filling_by_lem false e = filling_none e

  pub filling_told : (f : Filling) → f ≡ filling_by c r.sound r.place.0 r.count room → f ≡ filling_of c records
  unfolding filling_by
  filling_told f e = e ∙ filling_by_lem (is_accepted a) refl

-- filling none, one more, and the length
module _ (c starts : List ℕ) (records : List Record) (n : ℕ) where
  pub filled_none : filled_to c starts records n 0 ≡ records
  unfolding filled_to
  filled_none = refl

  pub filled_more : (i : ℕ) (r : Record) → r ≡ record_by c starts n i → set (filled_to c starts records n i) i r ≡ filled_to c starts records n (i + 1)
  unfolding filled_to
  filled_more i r e = rw (add-one, e)

  pub filled_all : (i : ℕ) → i ≡ n → filled_to c starts records n i ≡ filled c starts records n
  unfolding filled
  filled_all i e = rw e

  pub length_filled : (i : ℕ) → length (filled_to c starts records n i) ≡ length records
  unfolding filled_to
  length_filled zero = refl
  length_filled (suc i) = length-set (filled_to c starts records n i) i (record_by c starts n i) ∙ length_filled i

-- one more record after those of a list of descriptors
listed_more : (ds : List Descriptor) (r : Record) (rest : List Record) (d : Descriptor) (n : ℕ) → length ds ≡ n → set (listed ds (r ∷ rest)) n (record_of d) ≡ listed (ds ++ (d ∷ [])) rest
unfolding listed
listed_more [] r rest d zero e = refl
listed_more [] r rest d (suc n) e = absurd (omega arith)
listed_more (x ∷ ds) r rest d zero e = absurd (omega arith)
listed_more (x ∷ ds) r rest d (suc n) e = ap (λ (t : List Record). record_of x ∷ t) (listed_more ds r rest d n (omega arith))

module _ (c starts : List ℕ) (ds : List Descriptor) (same : (k : ℕ) → k < length ds → record_by c starts (length ds) k ≡ record_of (get_or ds k no_descriptor))
    (records : List Record) (room : length ds ≤ length records) where
  filled_from : (i : ℕ) → i ≤ length ds → filled_to c starts records (length ds) i ≡ listed (take i ds) (drop i records)
  unfolding filled_to listed
  filled_from zero h = refl
  filled_from (suc i) h =
      let none : Record = record_of no_descriptor in
      rw (filled_from i (omega arith), drop-cons records i none (omega arith), same i (omega arith), take-suc ds i no_descriptor (omega arith))
      (listed_more (take i ds) (get_or records i none) (drop (suc i) records) (get_or ds i no_descriptor) i (length-take-le i ds (omega arith)))

  filled_listed : filled c starts records (length ds) ≡ listed ds (drop (length ds) records)
  filled_listed =
      sym (filled_all c starts records (length ds) (length ds) refl)
      ∙ filled_from (length ds) (omega arith)
      ∙ ap (λ (es : List Descriptor). listed es (drop (length ds) records)) (take-length ds)

-- what an accepted listing shows
module _ (c : List ℕ) (records : List Record) (ok : is_accepted (answer_of (Listing records) c) ≡ true) where
  abbrev ds : List Descriptor
  ds = descriptors_of c

  list_whole : regions_of (chain c) ≡ record { sound = true; place = physical 0; active = active_of ds; count = length ds; starts = starts_of ds }
  unfolding regions_of
  list_whole = ap regions_of (chain_is (chain c) (list_passed c records ok).sound)

  -- the record of each region is that of its descriptor
  pub list_record : (k : ℕ) → k < length ds → record_by c (starts_of ds) (length ds) k ≡ record_of (get_or ds k no_descriptor)
  unfolding record_by
  list_record k h =
      ap record_of (found_descriptor c (active_of ds) (length ds) (starts_of ds) list_whole k h _ refl _ refl ∙ sym (region_of_lem c (active_of ds) (length ds) (starts_of ds) list_whole k h).is)

-- a listing as planned and filled is that of the definition
step_by : (c starts : List ℕ) (records : List Record) (t : Bool) → is_accepted (answer_of (Listing records) c) ≡ t → (t ≡ true → starts ≡ starts_of (descriptors_of c))
    → done (answer_of (Listing records) c) (Records (filled c starts records (pick t (length (descriptors_of c)) 0))) c ≡ step (Listing records) c
unfolding step stores_of store_all lent_of filled_of given_of
step_by c starts records true e is = rw (e, is refl, filled_listed c (starts_of (descriptors_of c)) (descriptors_of c) (list_record c records e) records (list_room c records e))
step_by c starts records false e is = rw (e, ← (filled_all c starts records 0 0 refl), filled_none c starts records 0)

-- by what the code knows after the walk
module _ (c : List ℕ) (sound : Bool) (place count : ℕ) (starts : List ℕ) (ready : ListReady c sound place count starts) (records : List Record) (room : ℕ) (long : length records ≡ room) (f : Filling)
    (planned : f ≡ filling_by c sound place count room) where
  pub listing_told : f ≡ filling_of c records
  listing_told = filling_told c records (walk_of (chain c)) refl room long f (planned ∙ rw (ready.sound_is, ready.place_is, ready.count_is))

-- a plan, of which the first places alone are the starts
fill_prefix : (c xs ys : List ℕ) (records : List Record) (n i : ℕ) → i ≤ n → take (n + 1) xs ≡ ys → filled_to c xs records n i ≡ filled_to c ys records n i
unfolding filled_to record_by
fill_prefix c xs ys records n zero h e = refl
fill_prefix c xs ys records n (suc i) h e =
    let one : get_or xs i 0 ≡ get_or ys i 0 = sym (get_or-take (n + 1) xs i 0 (omega arith)) ∙ ap (λ (l : List ℕ). get_or l i 0) e in
    let two : get_or xs (i + 1) 0 ≡ get_or ys (i + 1) 0 = sym (get_or-take (n + 1) xs (i + 1) 0 (omega arith)) ∙ ap (λ (l : List ℕ). get_or l (i + 1) 0) e in
    rw (fill_prefix c xs ys records n i (omega arith) e, one, two)

module _ (c : List ℕ) (records : List Record) (r : Plan) (for : PlanFor c records r) where
  accepted_is : is_accepted (answer_of (Listing records) c) ≡ is_accepted r.answer
  unfolding filling_of
  accepted_is = ap (λ (f : Filling). is_accepted f.answer) (sym for.filling)

  planned_starts : is_accepted (answer_of (Listing records) c) ≡ true → take (length (descriptors_of c) + 1) r.starts ≡ starts_of (descriptors_of c)
  unfolding filling_of
  planned_starts ok =
      let n : r.count ≡ length (descriptors_of c) = ap (λ (f : Filling). f.count) for.filling ∙ rw ok in
      ap (λ (x : ℕ). take (x + 1) r.starts) (sym n) ∙ for.starts_are (sym accepted_is ∙ ok)

  done_by_lem : (t : Bool) → is_accepted (answer_of (Listing records) c) ≡ t → done (answer_of (Listing records) c) (Records (filled c r.starts records (pick t (length (descriptors_of c)) 0))) c ≡ step (Listing records) c
  unfolding filled filled_to
  done_by_lem true e = rw (fill_prefix c r.starts (starts_of (descriptors_of c)) records (length (descriptors_of c)) (length (descriptors_of c)) (omega arith) (planned_starts e)) (step_by c (starts_of (descriptors_of c)) records true e (λ t. refl))
  done_by_lem false e = step_by c r.starts records false e (λ t. let z : ◌≡◌ {A = ℕ} 0 1 = cc in absurd (omega arith))

  pub plan_done : (l : List Record) → l ≡ filled c r.starts records r.count → done r.answer (Records l) c ≡ step (Listing records) c
  unfolding filling_of
  plan_done l e =
      let a : r.answer ≡ answer_of (Listing records) c = ap (λ (f : Filling). f.answer) for.filling in
      let n : r.count ≡ pick (is_accepted (answer_of (Listing records) c)) (length (descriptors_of c)) 0 = ap (λ (f : Filling). f.count) for.filling in
      rw (e, n, a) (done_by_lem (is_accepted (answer_of (Listing records) c)) refl)

-- what the code knows after the walk
pub walked_listed : (c : List ℕ) (w : Walk) → w ≡ walk_of (chain c) → (starts : List ℕ) → (w.sound ≡ true → starts ≡ starts_of (descriptors_of c)) → length starts ≡ w.count + 1
    → ListReady c w.sound w.place.0 w.count starts
walked_listed c w walked starts are long = record { sound_is = rw walked; place_is = rw walked; count_is = rw walked; starts_are = are; long = omega arith }

-- the plan that the code makes
plan_for : (c : List ℕ) (sound : Bool) (place count : ℕ) (starts : List ℕ) → ListReady c sound place count (take (count + 1) starts) → (records : List Record) (room : ℕ) → length records ≡ room → (f : Filling)
    → f ≡ filling_by c sound place count room → 0 < length starts → PlanFor c records (record { answer = f.answer; count = f.count; starts = starts })
unfolding filling_of
plan_for c sound place count starts ready records room long f planned some = record { filling = told; starts_are = λ ok. are ok; some = some }
  where
    told : f ≡ filling_of c records
    told = listing_told c sound place count (take (count + 1) starts) ready records room long f planned

    are : is_accepted f.answer ≡ true → take (f.count + 1) starts ≡ starts_of (descriptors_of c)
    are ok =
        let yes : is_accepted (answer_of (Listing records) c) ≡ true = sym (ap (λ (x : Filling). is_accepted x.answer) told) ∙ ok in
        let n : f.count ≡ length (descriptors_of c) = ap (λ (x : Filling). x.count) told ∙ rw yes in
        let whole : (walk_of (chain c)).sound ≡ true = walk_accords (chain c) (walk_of (chain c)) refl (list_passed c records yes).sound in
        let m : count ≡ length (descriptors_of c) = ready.count_is ∙ (walk_whole (chain c) (walk_of (chain c)) refl whole).1 in
        ap (λ (x : ℕ). take (x + 1) starts) (n ∙ sym m) ∙ ready.starts_are (ready.sound_is ∙ whole)

-- so it is a plan for records of that number
pub plan_told : (c : List ℕ) (records : List Record) (room : ℕ) → length records ≡ room → (r : Plan) → r ≡ plan_of c room → PlanFor c records r
unfolding plan_of
plan_told c records room long r e =
    let w = walk_of (chain c) in
    let starts = places_left c (replicate 257 0) in
    let size : length starts ≡ 257 = length_places c (replicate 257 0) in
    let few = walk_few c w refl in
    rw e (plan_for c w.sound w.place.0 w.count starts (walked_listed c w refl (take (w.count + 1) starts) are (length-take-le (w.count + 1) starts (omega (arith, few, size)))) records room long (filling_by c w.sound w.place.0 w.count room) refl (omega (arith, size)))
  where
    are : (walk_of (chain c)).sound ≡ true → take ((walk_of (chain c)).count + 1) (places_left c (replicate 257 0)) ≡ starts_of (descriptors_of c)
    are h =
        let whole = walk_whole (chain c) (walk_of (chain c)) refl h in
        rw whole.1 (places_starts c (replicate 257 0) (omega arith) (suffice_all c 257 refl) (descriptors_of c) (chain_is (chain c) whole.0))
