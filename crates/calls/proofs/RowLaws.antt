-- Laws of the rows of a refusal table: which row is given, which are passed by an accepted call, rows that are the same as far as they decide, and rows without a place.
use mathlib.Core.Path.{◌≡◌, refl, sym, ap, ◌∙◌, subst}
use mathlib.Core.Bool.{Bool, true, false, not, ◌&&◌}
use mathlib.Core.List.{List, [], ◌∷◌, ◌++◌}
use Prim.Native.Nat.{ℕ, zero, suc, ◌≤◌, ◌<◌}
use native.Mathlib.Omega.{arith}
use lib.ListN.{length, get_or}
use lib.Dec.{eqb}
use borrow.Author.Tests.{eq-eqb, ne_eqb, le-leb, lt-leb, eqb-true, eqb-false, not-true}
use Rattle.blocks.specs.Pick.{pick}
use Rattle.blocks.specs.Name.{is_name}
use Rattle.blocks.specs.Descriptor.{physical}
use Rattle.chains.specs.Chain.{chain, chain_sound, Regions, regions_of, walk_of, descriptors, active_of}
use Rattle.chains.specs.Chain.{Walk}
use Rattle.blocks.proofs.Tests.{and_left, and_right}
use Rattle.calls.specs.declared.answer.Answer.{Answer}
use Rattle.calls.specs.Call.{Call, Ream, Read, Write, Snap, Revert, Listing, Check, Visit, SpanRead, SpanWrite, answer, accepted}
use Rattle.calls.specs.Parts.{area_bad, SoundCard}
use Rattle.calls.specs.Ladder.{Row, row, first_row, admission, area_row, name_row, block_row, chain_row, volume_row, ream_rows, read_rows, write_rows, snap_rows, revert_rows, list_rows, check_rows, visit_rows, span_read_rows, span_write_rows}
use Rattle.calls.specs.Meaning.{rows_of, answer_of}
use Rattle.calls.specs.Step.{is_accepted}
use Rattle.calls.proofs.CardLaws.{card_fault, card_sound, card_found}

-- no row of the list has the number; the numbers of a list are set and each its own
unfoldable pub fresh : ℕ → List Row → Bool
fresh n [] = true
fresh n (r ∷ rs) = not (eqb r.number n) && fresh n rs

unfoldable pub numbered : List Row → Bool
numbered [] = true
numbered (r ∷ rs) = not (eqb r.number 0) && fresh r.number rs && numbered rs

-- the condition of the row that has the number, false where no row has it
unfoldable pub holds_of : ℕ → List Row → Bool
holds_of n [] = false
holds_of n (r ∷ rs) = pick (eqb r.number n) r.holds (holds_of n rs)

-- so it is in each call's list
pub rows_numbered : (k : Call) (c : List ℕ) → numbered (rows_of k c) ≡ true
unfolding numbered fresh rows_of admission ream_rows read_rows write_rows snap_rows revert_rows list_rows check_rows visit_rows span_read_rows span_write_rows
rows_numbered (Ream format) c = refl
rows_numbered (Read target name l block) c = refl
rows_numbered (Write l block) c = refl
rows_numbered (Snap name) c = refl
rows_numbered (Revert name) c = refl
rows_numbered (Listing records) c = refl
rows_numbered Check c = refl
rows_numbered (Visit target name l) c = refl
rows_numbered (SpanRead target name o bytes) c = refl
rows_numbered (SpanWrite o bytes) c = refl

-- a number that no row has is not given
fresh_by : (r : Row) (rs : List Row) (n : ℕ) (h : Bool) → (r.number ≡ n → ⊥) → ((first_row rs).number ≡ n → ⊥) → (pick h (answer r.number r.place) (first_row rs)).number ≡ n → ⊥
fresh_by r rs n true here later e = here e
fresh_by r rs n false here later e = later e

pub fresh_never : (rs : List Row) (n : ℕ) → fresh n rs ≡ true → (n ≡ 0 → ⊥) → (first_row rs).number ≡ n → ⊥
unfolding fresh first_row
fresh_never [] n f z e = z (sym e)
fresh_never (r ∷ rs) n f z e =
    fresh_by r rs n r.holds (eqb-false r.number n (not-true (eqb r.number n) (and_left (not (eqb r.number n)) (fresh n rs) f)))
    (fresh_never rs n (and_right (not (eqb r.number n)) (fresh n rs) f) z) e

fresh_other : (rs : List Row) (n : ℕ) → fresh n rs ≡ true → (i : ℕ) → i < length rs → (get_or rs i (row false 0 0)).number ≡ n → ⊥
unfolding fresh
fresh_other [] n f i h e = absurd (omega arith)
fresh_other (r ∷ rs) n f zero h e = eqb-false r.number n (not-true (eqb r.number n) (and_left (not (eqb r.number n)) (fresh n rs) f)) e
fresh_other (r ∷ rs) n f (suc i) h e = fresh_other rs n (and_right (not (eqb r.number n)) (fresh n rs) f) i (omega arith) e

-- the parts of a numbered list
module _ (r : Row) (rs : List Row) (is : numbered (r ∷ rs) ≡ true) where
  head_set : r.number ≡ 0 → ⊥
  unfolding numbered
  head_set =
      eqb-false r.number 0
      (not-true (eqb r.number 0) (and_left (not (eqb r.number 0)) (fresh r.number rs) (and_left (not (eqb r.number 0) && fresh r.number rs) (numbered rs) is)))

  head_own : fresh r.number rs ≡ true
  unfolding numbered
  head_own = and_right (not (eqb r.number 0)) (fresh r.number rs) (and_left (not (eqb r.number 0) && fresh r.number rs) (numbered rs) is)

  tail_numbered : numbered rs ≡ true
  unfolding numbered
  tail_numbered = and_right (not (eqb r.number 0) && fresh r.number rs) (numbered rs) is

abbrev pub at : List Row → ℕ → Row
at rs i = get_or rs i (row false 0 0)

abbrev pub FirstThatHolds : List Row → ℕ → Type 0
FirstThatHolds rs i = ((at rs i).holds ≡ true) × ((j : ℕ) → j < i → (at rs j).holds ≡ false)

-- the row that is given is the first that holds
given_by : (r : Row) (rs : List Row) → numbered (r ∷ rs) ≡ true → (i : ℕ) → i < length (r ∷ rs) → ((n : ℕ) → n < length rs → first_row rs ≡ answer (at rs n).number (at rs n).place → FirstThatHolds rs n)
    → (h : Bool) → r.holds ≡ h → pick h (answer r.number r.place) (first_row rs) ≡ answer (at (r ∷ rs) i).number (at (r ∷ rs) i).place → FirstThatHolds (r ∷ rs) i
given_by r rs is zero l later true q e = (q, λ j m. absurd (omega arith))
given_by r rs is zero l later false q e = absurd (fresh_never rs r.number (head_own r rs is) (head_set r rs is) (ap (λ (a : Answer). a.number) e))
given_by r rs is (suc i) l later true q e = absurd (fresh_other rs r.number (head_own r rs is) i (omega arith) (sym (ap (λ (a : Answer). a.number) e)))
given_by r rs is (suc i) l later false q e =
    let g = later i (omega arith) e in
    (g.0, λ j m. before j m g.1)
  where
    before : (j : ℕ) → j < suc i → ((n : ℕ) → n < i → (at rs n).holds ≡ false) → (at (r ∷ rs) j).holds ≡ false
    before zero m f = q
    before (suc j) m f = f j (omega arith)

pub given : (rs : List Row) → numbered rs ≡ true → (i : ℕ) → i < length rs → first_row rs ≡ answer (at rs i).number (at rs i).place → FirstThatHolds rs i
unfolding first_row
given [] is i l e = absurd (omega arith)
given (r ∷ rs) is i l e = given_by r rs is i l (given rs (tail_numbered r rs is)) r.holds refl e

-- one row at the head of a list: it is given, or it is passed
module _ (r : Row) (rs : List Row) where
  pub row_given : r.holds ≡ true → first_row (r ∷ rs) ≡ answer r.number r.place
  unfolding first_row
  row_given e = rw e

  pub row_passed : r.holds ≡ false → first_row (r ∷ rs) ≡ first_row rs
  unfolding first_row
  row_passed e = rw e

-- the last row of a call passed: it is accepted
pub last_passed : (r : Row) → r.holds ≡ false → first_row (r ∷ []) ≡ accepted
unfolding first_row
last_passed r e = rw e

-- the first row that holds is given
pub gives : (rs : List Row) (i : ℕ) → i < length rs → FirstThatHolds rs i → first_row rs ≡ answer (at rs i).number (at rs i).place
gives [] i l g = absurd (omega arith)
gives (r ∷ rs) zero l g = row_given r rs g.0
gives (r ∷ rs) (suc i) l g = row_passed r rs (g.1 0 (omega arith)) ∙ gives rs i (omega arith) (g.0, λ j m. g.1 (suc j) (omega arith))

-- acceptance: no row holds
none_by : (r : Row) (rs : List Row) → numbered (r ∷ rs) ≡ true → ((first_row rs).number ≡ 0 → (i : ℕ) → i < length rs → (at rs i).holds ≡ false) → (h : Bool) → r.holds ≡ h
    → (pick h (answer r.number r.place) (first_row rs)).number ≡ 0 → (i : ℕ) → i < length (r ∷ rs) → (at (r ∷ rs) i).holds ≡ false
none_by r rs is later true q e i l = absurd (head_set r rs is e)
none_by r rs is later false q e zero l = q
none_by r rs is later false q e (suc i) l = later e i (omega arith)

pub none : (rs : List Row) → numbered rs ≡ true → (first_row rs).number ≡ 0 → (i : ℕ) → i < length rs → (at rs i).holds ≡ false
unfolding first_row
none [] is e i l = absurd (omega arith)
none (r ∷ rs) is e i l = none_by r rs is (none rs (tail_numbered r rs is)) r.holds refl e i l

pub all_passed : (rs : List Row) → ((i : ℕ) → i < length rs → (at rs i).holds ≡ false) → first_row rs ≡ accepted
unfolding first_row
all_passed [] f = refl
all_passed (r ∷ rs) f = row_passed r rs (f 0 (omega arith)) ∙ all_passed rs (λ i l. f (suc i) (omega arith))

-- where no row holds, none does that has a given number
passed_by : (r : Row) (n : ℕ) (later : Answer) (rest h own : Bool) → r.holds ≡ h → (r.number ≡ 0 → ⊥) → (later.number ≡ 0 → rest ≡ false) → (pick h (answer r.number r.place) later).number ≡ 0
    → pick own r.holds rest ≡ false
passed_by r n later rest true own q z more e = absurd (z e)
passed_by r n later rest false true q z more e = q
passed_by r n later rest false false q z more e = more e

pub number_passed : (rs : List Row) → numbered rs ≡ true → (first_row rs).number ≡ 0 → (n : ℕ) → holds_of n rs ≡ false
unfolding first_row holds_of
number_passed [] is e n = refl
number_passed (r ∷ rs) is e n =
    passed_by r n (first_row rs) (holds_of n rs) r.holds (eqb r.number n) refl (head_set r rs is) (λ q. number_passed rs (tail_numbered r rs is) q n) e

-- an accepted call has passed the row of every number
pub rows_passed : (k : Call) (c : List ℕ) → is_accepted (answer_of k c) ≡ true → (n : ℕ) → holds_of n (rows_of k c) ≡ false
unfolding answer_of
rows_passed k c e = number_passed (rows_of k c) (rows_numbered k c) (eqb-true (first_row (rows_of k c)).number 0 e)

-- a number that is given is that of a row that holds
given_by_number : (r : Row) (rs : List Row) (n : ℕ) (h own : Bool) → r.holds ≡ h → eqb r.number n ≡ own → numbered (r ∷ rs) ≡ true → (n ≡ 0 → ⊥)
    → ((first_row rs).number ≡ n → holds_of n rs ≡ true) → (pick h (answer r.number r.place) (first_row rs)).number ≡ n → pick own r.holds (holds_of n rs) ≡ true
given_by_number r rs n true true q o is z later e = q
given_by_number r rs n true false q o is z later e = absurd (eqb-false r.number n o e)
given_by_number r rs n false true q o is z later e = absurd (fresh_never rs n (subst (λ (m : ℕ). fresh m rs ≡ true) (eqb-true r.number n o) (head_own r rs is)) z e)
given_by_number r rs n false false q o is z later e = later e

pub number_given : (rs : List Row) → numbered rs ≡ true → (n : ℕ) → (n ≡ 0 → ⊥) → (first_row rs).number ≡ n → holds_of n rs ≡ true
unfolding first_row holds_of
number_given [] is n z e = absurd (z (sym e))
number_given (r ∷ rs) is n z e = given_by_number r rs n r.holds (eqb r.number n) refl refl is z (number_given rs (tail_numbered r rs is) n z) e

-- rows before others: the first of them that holds is given, and where none holds the others decide
append_by : (r : Row) (rest all : Answer) (later : Answer) (h : Bool) → (r.number ≡ 0 → ⊥) → rest ≡ pick (is_accepted all) later all
    → pick h (answer r.number r.place) rest ≡ pick (is_accepted (pick h (answer r.number r.place) all)) later (pick h (answer r.number r.place) all)
append_by r rest all later true z e = rw (ne_eqb r.number 0 z)
append_by r rest all later false z e = e

pub first_append : (xs ys : List Row) → numbered xs ≡ true → first_row (xs ++ ys) ≡ pick (is_accepted (first_row xs)) (first_row ys) (first_row xs)
unfolding first_row
first_append [] ys is = refl
first_append (r ∷ xs) ys is = append_by r (first_row (xs ++ ys)) (first_row xs) (first_row ys) r.holds (head_set r xs is) (first_append xs ys (tail_numbered r xs is))

-- what is asked before the rows of any call, by the answer to it
module _ (c : List ℕ) where
  admission_numbered : numbered (admission c) ≡ true
  unfolding numbered fresh admission
  admission_numbered = refl

  module _ (a : Answer) (asked : a ≡ first_row (admission c)) where
    pub not_admitted : (rs : List Row) → (a.number ≡ 0 → ⊥) → first_row (admission c ++ rs) ≡ a
    not_admitted rs h = first_append (admission c) rs admission_numbered ∙ rw (← asked, ne_eqb a.number 0 h)

    pub admitted : (rs : List Row) → a.number ≡ 0 → first_row (admission c ++ rs) ≡ first_row rs
    admitted rs h = first_append (admission c) rs admission_numbered ∙ rw (← asked, eq-eqb a.number 0 h)

    -- an admitted call has a card
    pub admitted_card : a.number ≡ 0 → area_bad c ≡ false
    unfolding admission holds_of
    admitted_card h = number_passed (admission c) admission_numbered (sym (ap (λ (x : Answer). x.number) asked) ∙ h) 1

  -- the same by the test of the area
  pub admission_1 : (bad : Bool) → bad ≡ area_bad c → bad ≡ true → answer 1 0 ≡ first_row (admission c)
  unfolding admission
  admission_1 bad area e = sym (row_given (area_row c) [] (sym area ∙ e))

  pub admission_0 : (bad : Bool) → bad ≡ area_bad c → bad ≡ false → accepted ≡ first_row (admission c)
  unfolding admission
  admission_0 bad area e = sym (last_passed (area_row c) (sym area ∙ e))

-- the rows that several calls share, each at the head of a list, by the tests of the code
module _ (rs : List Row) where
  module _ (name : List ℕ) (n : Bool) (called : n ≡ is_name name) where
    pub name_given : not n ≡ true → first_row (name_row name ∷ rs) ≡ answer 4 0
    name_given h = row_given (name_row name) rs (rw (← called) h)

    pub name_passed : not n ≡ false → first_row (name_row name ∷ rs) ≡ first_row rs
    name_passed h = row_passed (name_row name) rs (rw (← called) h)

  module _ (block : List ℕ) where
    pub block_given : (length block ≡ 512 → ⊥) → first_row (block_row block ∷ rs) ≡ answer 9 0
    block_given h = row_given (block_row block) rs (rw (ne_eqb (length block) 512 h))

    pub block_passed : length block ≡ 512 → first_row (block_row block ∷ rs) ≡ first_row rs
    block_passed h = row_passed (block_row block) rs (rw (eq-eqb (length block) 512 h))

  module _ (c : List ℕ) where
    pub chain_given : (w : Walk) → w ≡ walk_of (chain c) → not w.sound ≡ true → first_row (chain_row c ∷ rs) ≡ answer 6 w.place.0
    chain_given w walked h = let f = card_fault c w walked (not-true w.sound h) in row_given (chain_row c) rs (rw f.0) ∙ ap (answer 6) f.1

    pub chain_passed : chain_sound (chain c) ≡ true → first_row (chain_row c ∷ rs) ≡ first_row rs
    chain_passed h = row_passed (chain_row c) rs (rw h)

  module _ (c : List ℕ) (r : Regions) (walked : r ≡ regions_of (chain c)) where
    module _ (good : area_bad c ≡ false) (ok : r.sound ≡ true) (l : ℕ) where
      pub volume_given : r.active.volume ≤ l → first_row (volume_row c l ∷ rs) ≡ answer 8 0
      volume_given h = row_given (volume_row c l) rs (rw (← (card_found c r walked good ok)) (le-leb r.active.volume l h))

      pub volume_passed : l < r.active.volume → first_row (volume_row c l ∷ rs) ≡ first_row rs
      volume_passed h = row_passed (volume_row c l) rs (rw (← (card_found c r walked good ok)) (lt-leb r.active.volume l h))

-- the first row of a snap and of a revert, after admission: the name
module _ (rs : List Row) (c : List ℕ) (name : List ℕ) (a : Answer) (asked : a ≡ first_row (admission c)) (card : a.number ≡ 0) (n : Bool) (called : n ≡ is_name name) where
  pub named_4 : not n ≡ true → first_row (admission c ++ (name_row name ∷ rs)) ≡ answer 4 0
  named_4 h = admitted c a asked _ card ∙ name_given _ name n called h

-- an area that is a card is admitted
pub card_admitted : (c : List ℕ) → area_bad c ≡ false → (rs : List Row) → first_row (admission c ++ rs) ≡ first_row rs
card_admitted c area rs = admitted c accepted (admission_0 c false (sym area) refl) rs refl

-- a call that has passed all rows before rs, that of the chain among them: r is what the walk found
pub record Reached (k : Call) (c : List ℕ) (rs : List Row) (r : Regions) : Type 0 where
  pub rest : answer_of k c ≡ first_row rs
  pub area : area_bad c ≡ false
  pub walked : r ≡ regions_of (chain c)
  pub sound : r.sound ≡ true

pub reached : (k : Call) (c : List ℕ) (rs : List Row) (count : ℕ) (starts : List ℕ) → SoundCard c count starts → answer_of k c ≡ first_row (chain_row c ∷ rs)
    → Reached k c rs (record { sound = true; place = physical 0; active = active_of (descriptors (chain c)); count = count; starts = starts })
reached k c rs count starts s to_chain =
    record { rest = to_chain ∙ chain_passed rs c (card_sound c _ (sym s.regions) refl); area = s.area; walked = sym s.regions; sound = refl }

-- rows that are the same as far as they decide
pub data SameRows : List Row → List Row → Type 0 where
  same_rows : {xs ys : List Row} → xs ≡ ys → SameRows xs ys
  then : {r : Row} {xs ys : List Row} → (r.holds ≡ false → SameRows xs ys) → SameRows (r ∷ xs) (r ∷ ys)

rows_by : (r : Row) (x y : Answer) (b : Bool) → r.holds ≡ b → (r.holds ≡ false → x ≡ y) → pick b (answer r.number r.place) x ≡ pick b (answer r.number r.place) y
rows_by r x y true e h = refl
rows_by r x y false e h = h e

-- so they are after the same rows
pub prefix_same : (zs : List Row) {xs ys : List Row} → SameRows xs ys → SameRows (zs ++ xs) (zs ++ ys)
prefix_same [] h = h
prefix_same (z ∷ zs) h = then (λ e. prefix_same zs h)

pub first_same : {xs ys : List Row} → SameRows xs ys → first_row xs ≡ first_row ys
unfolding first_row
first_same (same_rows e) = ap first_row e
first_same (then {r = r} {xs = xs} {ys = ys} h) = rows_by r (first_row xs) (first_row ys) r.holds refl (λ e. first_same (h e))

-- rows that neither name a place nor give 11
unfoldable pub placeless : List Row → Bool
placeless [] = true
placeless (r ∷ rs) = eqb r.place 0 && not (eqb r.number 11) && placeless rs

abbrev pub Plain : Answer → Type 0
Plain a = (a.place ≡ 0) × (a.number ≡ 11 → ⊥)

placeless_by : (a b : Answer) (h : Bool) → Plain a → Plain b → Plain (pick h a b)
placeless_by a b true x y = x
placeless_by a b false x y = y

placeless_row : (r : Row) (t : Bool) → (eqb r.place 0 && not (eqb r.number 11) && t) ≡ true → Plain (answer r.number r.place) × (t ≡ true)
placeless_row r t e =
    let z = eqb r.place 0 in
    let n = not (eqb r.number 11) in
    let both = and_left (z && n) t e in
    ((eqb-true r.place 0 (and_left z n both), eqb-false r.number 11 (not-true (eqb r.number 11) (and_right z n both))), and_right (z && n) t e)

pub placeless_first : (rs : List Row) → placeless rs ≡ true → Plain (first_row rs)
unfolding placeless first_row
placeless_first [] e = (refl, λ h. absurd (omega (arith, h)))
placeless_first (r ∷ rs) e =
    let parts = placeless_row r (placeless rs) e in
    placeless_by (answer r.number r.place) (first_row rs) r.holds parts.0 (placeless_first rs parts.1)
