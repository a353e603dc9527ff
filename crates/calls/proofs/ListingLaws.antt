-- Laws of a listing: its rows, and how many records it fills; the record of each region; what the filled records are, and how many.
use mathlib.Core.Path.{◌≡◌, refl, sym, ap, ◌∙◌}
use mathlib.Core.Bool.{Bool, true, false, not, cond}
use mathlib.Core.List.{List, [], ◌∷◌, ◌++◌}
use Prim.Native.Nat.{ℕ, suc, ◌+◌, ◌*◌, ◌≤◌, ◌<◌, min}
use native.Mathlib.Omega.{arith}
use lib.ListN.{length, drop, get_or}
use lib.Dec.{eqb, ltb}
use borrow.Author.Tests.{lt-ltb, le-ltb, ltb-true, ltb-false, eq-eqb, ne_eqb}
use Rattle.std.specs.Prelude.{Option, Some, None}
use Rattle.std.specs.List.{position_or_len}
use Rattle.blocks.specs.Pick.{pick}
use Rattle.blocks.specs.Descriptor.{physical, no_descriptor}
use Rattle.chains.specs.Chain.{Walk, active_of, chain, starts_of, walk_of}
use Rattle.blocks.specs.declared.descriptor.Descriptor.{Descriptor}
use Rattle.links.proofs.LinkedLaws.{Linked, last, more, chain_linked, regions_sound, found_inside, region_of_lem, found_descriptor}
use Rattle.links.proofs.ChainLaws.{length_ends}
use Rattle.calls.specs.declared.answer.Answer.{Answer}
use Rattle.calls.specs.declared.answer.Refusal.{Refusal}
use Rattle.calls.specs.declared.answer.Record.{Record}
use Rattle.calls.specs.Listing.{Filling, filling_with, filling_of, record_by, record_count}
use Rattle.calls.specs.Call.{Call, Listing, Records, answer, accepted, refused}
use Rattle.calls.specs.Parts.{area_bad, descriptors_of, SoundCard}
use Rattle.calls.specs.Ladder.{admission, first_row, list_rows}
use Rattle.calls.specs.Effect.{no_record, record_of, listed}
use Rattle.calls.specs.Meaning.{rows_of, answer_of, lent_of, filled_of}
use Rattle.calls.specs.Step.{Done, step, is_accepted, done}
use Rattle.calls.proofs.CardLaws.{card_count, chain_is}
use Rattle.calls.proofs.Passed.{list_passed}
use Rattle.calls.proofs.StepLaws.{step_answer, step_lent}
use Rattle.calls.proofs.ResultLaws.{refused_set}
use Rattle.calls.proofs.RowLaws.{row_given, last_passed, not_admitted, chain_given, Reached, reached, card_admitted}

-- records that are those of descriptors, one after the other
listed_from : (ds : List Descriptor) (xs rest : List Record) → length xs ≡ length ds → ((k : ℕ) → k < length ds → get_or xs k no_record ≡ record_of (get_or ds k no_descriptor)) → xs ++ rest ≡ listed ds rest
unfolding listed
listed_from [] [] rest e same = refl
listed_from [] (x ∷ xs) rest e same = absurd (omega arith)
listed_from (d ∷ ds) [] rest e same = absurd (omega arith)
listed_from (d ∷ ds) (x ∷ xs) rest e same =
    let first : x ≡ record_of d = same 0 (omega arith) in
    rw (first, listed_from ds xs rest (omega arith) (λ k h. same (suc k) (omega arith)))

-- on a card with a sound chain the record of each region is that of its descriptor, and so those of all of them
module _ (c starts : List ℕ) (n : ℕ) (s : SoundCard c n starts) where
  abbrev ds : List Descriptor
  ds = descriptors_of c

  pub sound_count : n ≡ length ds
  sound_count = card_count c _ (sym s.regions) s.area refl

  pub sound_long : length starts ≡ n + 1
  unfolding starts_of
  sound_long = let r = regions_sound (chain c) (active_of ds) n starts s.regions in omega (arith, ap length r.2, length_ends ds, r.1)

  pub sound_inside : (k : ℕ) → k < n → (k + 1 < length starts) × (512 * get_or starts k 0 + 512 ≤ length c)
  sound_inside = found_inside c (active_of ds) n starts s.regions

  pub sound_record : (k : ℕ) → k < n → record_by c starts n k ≡ record_of (get_or ds k no_descriptor)
  unfolding record_by
  sound_record k h =
      ap record_of (found_descriptor c (active_of ds) n starts s.regions k h _ refl _ refl ∙ sym (region_of_lem c (active_of ds) n starts s.regions k h).is)

  pub sound_listed : (xs rest : List Record) → length xs ≡ n → ((k : ℕ) → k < n → get_or xs k no_record ≡ record_by c starts n k) → xs ++ rest ≡ listed ds rest
  sound_listed xs rest long same = listed_from ds xs rest (omega (arith, long, sound_count)) (λ k h. let m : k < n = omega (arith, sound_count) in same k m ∙ sound_record k m)

-- what a listing answers, row by row, and so how many records it fills
module _ (c : List ℕ) (records : List Record) where
  abbrev call : Call
  call = Listing records

  pub list_1 : (r : Refusal) → refused r ≡ first_row (admission c) → answer_of call c ≡ refused r
  unfolding answer_of rows_of
  list_1 r asked = not_admitted c (refused r) asked (list_rows c records) (refused_set r)

  pub list_6 : area_bad c ≡ false → (w : Walk) → w ≡ walk_of (chain c) → not w.sound ≡ true → answer_of call c ≡ answer 6 w.place.0
  unfolding answer_of rows_of list_rows
  list_6 area w walked h = card_admitted c area _ ∙ chain_given _ c w walked h

  pub filling_answer : (f : Filling) → f ≡ filling_of c records → answer_of call c ≡ f.answer
  unfolding filling_of
  filling_answer f e = rw e

  pub filling_refused : (n p : ℕ) → answer_of call c ≡ answer n p → eqb n 0 ≡ false → filling_with n p 0 ≡ filling_of c records
  unfolding filling_of
  filling_refused n p e z = rw (e, z)

  module _ (n : ℕ) (starts : List ℕ) (s : SoundCard c n starts) where
    list_reached : Reached call c (drop 1 (list_rows c records)) (record { sound = true; place = physical 0; active = active_of (descriptors_of c); count = n; starts = starts })
    unfolding answer_of rows_of list_rows
    list_reached = reached call c _ n starts s (card_admitted c s.area _)

    pub list_14 : length records < n → answer_of call c ≡ answer 14 0
    unfolding list_rows
    list_14 h = list_reached.rest ∙ row_given _ _ (lt-ltb _ _ (omega (arith, sound_count c starts n s, h)))

    pub list_0 : n ≤ length records → answer_of call c ≡ accepted
    unfolding list_rows
    list_0 h = list_reached.rest ∙ last_passed _ (le-ltb _ _ (omega (arith, sound_count c starts n s, h)))

    pub filling_accepted : n ≤ length records → filling_with 0 0 n ≡ filling_of c records
    unfolding filling_of
    filling_accepted h = rw (list_0 h, ← sound_count c starts n s)

-- what an accepted listing shows
pub list_room : (c : List ℕ) (records : List Record) → is_accepted (answer_of (Listing records) c) ≡ true → length (descriptors_of c) ≤ length records
list_room c records ok = (list_passed c records ok).room

-- how many records a listing has filled, by the place of the first whose next is nil
abbrev pub is_last : Record → Bool
is_last r = eqb r.next.0 0

count_by : (rs : List Record) → record_count rs ≡ min (position_or_len is_last rs + 1) (length rs)
unfolding record_count
count_by [] = refl
count_by (r ∷ rs) = by (is_last r) (record_count rs) (position_or_len is_last rs) (count_by rs)
  where
    by : (t : Bool) (n p : ℕ) → n ≡ min (p + 1) (length rs) → pick t 1 (suc n) ≡ min (cond (not t) (1 + p) 0 + 1) (suc (length rs))
    by true n p e = omega arith
    by false n p e = omega arith

pub count_first : (rs : List Record) (r : Option ℕ) → r ≡ cond (ltb (position_or_len is_last rs) (length rs)) (Some (position_or_len is_last rs)) None
    → ((i : ℕ) → r ≡ Some i → i + 1 ≡ record_count rs) × (r ≡ None → length rs ≡ record_count rs)
count_first rs r e = by (ltb (position_or_len is_last rs) (length rs)) refl e
  where
    by : (t : Bool) → ltb (position_or_len is_last rs) (length rs) ≡ t → r ≡ cond t (Some (position_or_len is_last rs)) None → ((i : ℕ) → r ≡ Some i → i + 1 ≡ record_count rs) × (r ≡ None → length rs ≡ record_count rs)
    by true h q = (λ i f. let same : i ≡ position_or_len is_last rs = cc in omega (arith, same, count_by rs, ltb-true _ _ h), λ f. cc)
    by false h q = (λ i f. cc, λ f. omega (arith, count_by rs, ltb-false _ _ h))

-- in a sound chain just the last descriptor has a nil next
count_linked : {c : List ℕ} {es : List Descriptor} {p : ℕ} {ds : List Descriptor} → Linked c es p ds → (rest : List Record) → record_count (listed ds rest) ≡ length ds
unfolding record_count listed
count_linked (last {d = d} is ok z) rest = rw (eq-eqb d.next.0 0 z)
count_linked (more {d = d} is ok z l) rest = rw (ne_eqb d.next.0 0 z) (ap suc (count_linked l rest))

-- so an accepted listing has filled a record for each descriptor, and no more
pub list_count : (c : List ℕ) (records l : List Record) (a : Answer) → done a (Records l) c ≡ step (Listing records) c → a.number ≡ 0 → record_count l ≡ length (descriptors_of c)
unfolding filled_of
list_count c records l a made e =
    let ok : is_accepted (answer_of (Listing records) c) ≡ true = ap is_accepted (sym (ap (λ (d : Done). d.outcome.answer) made ∙ step_answer (Listing records) c)) ∙ eq-eqb a.number 0 e in
    let ds = descriptors_of c in
    let lent : Records l ≡ Records (listed ds (drop (length ds) records)) =
    ap (λ (d : Done). d.outcome.lent) made ∙ step_lent (Listing records) c ∙ ap (λ (t : Bool). pick t (filled_of (Listing records) c) (lent_of (Listing records))) ok in
    let is : l ≡ listed ds (drop (length ds) records) = cc in
    rw is (count_linked (chain_linked c ds (chain_is (chain c) (list_passed c records ok).sound)) (drop (length ds) records))
