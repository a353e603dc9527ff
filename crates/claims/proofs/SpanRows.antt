-- The rows of the span calls: 16, the 10 of a span read and of a span write, and where a span read is accepted.
use mathlib.Core.Path.{◌≡◌, refl, sym, ap, ◌∙◌}
use mathlib.Core.Logic.{◌↔◌}
use mathlib.Core.Bool.{Bool, true, false, not, ◌&&◌, ◌||◌}
use mathlib.Core.List.{List, [], ◌∷◌, ◌++◌}
use Prim.Native.Nat.{ℕ, zero, suc, ◌+◌, ◌*◌, ◌≤◌, ◌<◌}
use native.Mathlib.Omega.{arith}
use lib.ListN.{length}
use lib.Dec.{eqb, ltb}
use borrow.Author.Tests.{eqb-false, ltb-true, ltb-false, lt-ltb, le-ltb, not-true}
use Rattle.blocks.specs.Pick.{pick}
use Rattle.blocks.specs.Bytes.{block_count}
use Rattle.blocks.specs.Name.{is_name}
use Rattle.blocks.specs.Descriptor.{physical}
use Rattle.blocks.specs.declared.descriptor.Descriptor.{Descriptor}
use Rattle.blocks.proofs.Tests.{and_left, and_right}
use Rattle.blocks.proofs.BoolLaws.{no}
use Rattle.pieces.specs.Span.{span_block, touched}
use Rattle.chains.specs.Chain.{chain, chain_sound, chain_place, named, active_of}
use Rattle.entries.specs.Found.{Verdict, Fault}
use Rattle.calls.specs.declared.answer.Answer.{Answer}
use Rattle.calls.specs.Call.{Target, Call, Check, SpanRead, SpanWrite, answer, accepted}
use Rattle.calls.specs.Parts.{area_bad, descriptors_of, snapshots_of, is_snapshot, target_of, found_through, is_misplaced, holder_of}
use Rattle.calls.specs.Check.{check_card, is_fault, fault_holder}
use Rattle.calls.specs.Spans.{misplaced_from, span_verdict, write_span_need}
use Rattle.calls.specs.Ladder.{Row, row, area_row, target_row, chain_row, span_row, fault_row, first_row, admission, check_rows, span_read_rows, span_write_rows}
use Rattle.calls.specs.Meaning.{rows_of, answer_of}
use Rattle.calls.proofs.RowLaws.{fresh, fresh_never}
use Rattle.claims.specs.Claims.{comes_to_chain, NotInPlace, FirstFault, FaultClaim}
use Rattle.claims.specs.Spans.{SpanEndClaim, FirstMisplaced, SpanPlaceClaim, SpanCheckClaim}
use Rattle.claims.proofs.CheckClaims.{span_allowed, fault_claim}
use Rattle.claims.proofs.Places.{clear, row_is, is_row, clear_two, given_name, and_both, not_false_of, target_layout, out_of_place_by, found_out_of_place}

-- the rows above that of 16, of a span read
clear_span : (a s n u t : Bool) → (not a && (not (s && not n) && (not (not u) && (not (s && not t) && true)))) ≡ (((not a && (not s || n)) && u) && (not s || t))
clear_span true s n u t = refl
clear_span false true true true true = refl
clear_span false true true true false = refl
clear_span false true true false t = refl
clear_span false true false u t = refl
clear_span false false n true t = refl
clear_span false false n false t = refl

-- and those above 10
clear_ten : (a s n u t v : Bool) → (not a && (not (s && not n) && (not (not u) && (not (s && not t) && (not v && true))))) ≡ ((((not a && (not s || n)) && u) && (not s || t)) && not v)
clear_ten true s n u t v = refl
clear_ten false true true true true true = refl
clear_ten false true true true true false = refl
clear_ten false true true true false v = refl
clear_ten false true true false t v = refl
clear_ten false true false u t v = refl
clear_ten false false n true t true = refl
clear_ten false false n true t false = refl
clear_ten false false n false t v = refl

clear_checks : (a u v : Bool) → (not a && (not (not u) && (not v && true))) ≡ ((not a && u) && not v)
clear_checks true u v = refl
clear_checks false true true = refl
clear_checks false true false = refl
clear_checks false false v = refl

good_area : (a : Bool) → not a ≡ true → a ≡ false
good_area true h = sym h
good_area false h = refl

-- in place, by the found entry and by the rules
module _ (c : List ℕ) (d : Descriptor) (l : ℕ) where
  pub placed_not : is_misplaced (found_through c d l) ≡ false → (h : ℕ) → NotInPlace c d l h → ⊥
  placed_not e h n = no (sym e ∙ (found_out_of_place c d l h n).0)

  pub not_placed : (eqb d.layout 1 || eqb d.layout 2) ≡ true → ((h : ℕ) → NotInPlace c d l h → ⊥) → (t : Bool) → is_misplaced (found_through c d l) ≡ t → is_misplaced (found_through c d l) ≡ false
  not_placed form n true e = absurd (n _ (out_of_place_by c d l (holder_of (found_through c d l)) form (eqb d.layout 1) refl e refl))
  not_placed form n false e = e

-- no row holds, of an accepted call
clear_by : (r : Row) (rs : List Row) (b : Bool) → (r.number ≡ 0 → ⊥) → pick b (answer r.number r.place) (first_row rs) ≡ accepted → (b ≡ false) × (first_row rs ≡ accepted)
clear_by r rs true other e = absurd (other (ap (λ (a : Answer). a.number) e))
clear_by r rs false other e = (refl, e)

accepted_clear : (rs : List Row) → fresh 0 rs ≡ true → first_row rs ≡ accepted → clear rs ≡ true
unfolding fresh first_row clear
accepted_clear [] f e = refl
accepted_clear (r ∷ rs) f e =
    let first = clear_by r rs r.holds (eqb-false r.number 0 (not-true _ (and_left (not (eqb r.number 0)) (fresh 0 rs) f))) e in
    rw first.0 (accepted_clear rs (and_right (not (eqb r.number 0)) (fresh 0 rs) f) first.1)

clear_accepted : (rs : List Row) → clear rs ≡ true → first_row rs ≡ accepted
unfolding first_row clear
clear_accepted [] e = refl
clear_accepted (r ∷ rs) e = rw (not-true r.holds (and_left (not r.holds) (clear rs) e)) (clear_accepted rs (and_right (not r.holds) (clear rs) e))

and_moved : (x y z : Bool) → (x && (y && z)) ≡ ((x && y) && z)
and_moved true y z = refl
and_moved false y z = refl

clear_last : (rs : List Row) (b : Bool) (n p : ℕ) → clear (rs ++ (row b n p ∷ [])) ≡ (clear rs && not b)
unfolding clear
clear_last [] true n p = refl
clear_last [] false n p = refl
clear_last (r ∷ rs) b n p = ap (λ (x : Bool). not r.holds && x) (clear_last rs b n p) ∙ and_moved (not r.holds) (clear rs) (not b)

-- all of some blocks are in place
pub all_placed : (c : List ℕ) (d : Descriptor) (k l : ℕ) → is_fault (misplaced_from c d l k) ≡ false → (i : ℕ) → i < k → is_misplaced (found_through c d (l + i)) ≡ false
unfolding misplaced_from is_fault
all_placed c d zero l e i h = absurd (omega arith)
all_placed c d (suc k) l e i h = by (all_placed c d k (suc l)) (is_misplaced (found_through c d l)) refl e i h
  where
    by : (is_fault (misplaced_from c d (suc l) k) ≡ false → (j : ℕ) → j < k → is_misplaced (found_through c d (suc l + j)) ≡ false)
        → (t : Bool) → is_misplaced (found_through c d l) ≡ t → is_fault (pick t (Fault (physical (holder_of (found_through c d l)))) (misplaced_from c d (suc l) k)) ≡ false
        → (j : ℕ) → j < suc k → is_misplaced (found_through c d (l + j)) ≡ false
    by later true q f j b = no (sym f)
    by later false q f zero b = let z : l + 0 ≡ l = omega arith in rw z q
    by later false q f (suc j) b = let s : l + suc j ≡ suc l + j = omega arith in rw s (later f j (omega arith))

pub placed_all : (c : List ℕ) (d : Descriptor) (k l : ℕ) → ((i : ℕ) → i < k → is_misplaced (found_through c d (l + i)) ≡ false) → is_fault (misplaced_from c d l k) ≡ false
unfolding misplaced_from is_fault
placed_all c d zero l f = refl
placed_all c d (suc k) l f =
    let z : l + 0 ≡ l = omega arith in
    let q : is_misplaced (found_through c d l) ≡ false = rw z at (f 0 (omega arith)) in
    rw q (placed_all c d k (suc l) (λ i b. let w : l + suc i ≡ suc l + i = omega arith in rw w at (f (suc i) (omega arith))))

-- what is asked before the span's own rows
module _ (c : List ℕ) where
  abbrev ds : List Descriptor
  ds = descriptors_of c

  abbrev sounds : Bool
  sounds = chain_sound (chain c)

  abbrev volume : ℕ
  volume = (active_of ds).volume

  module _ (target : Target) (name : List ℕ) (o : ℕ) (bytes : List ℕ) where
    abbrev call : Call
    call = SpanRead target name o bytes

    abbrev there : Bool
    there = not (is_snapshot target) || named (snapshots_of ds) name

    abbrev comes : Bool
    comes = comes_to_chain call c

    abbrev past : Bool
    past = ltb (512 * volume) (o + length bytes)

    abbrev above : List Row
    above = area_row c ∷ target_row target name ∷ chain_row c ∷ row (is_snapshot target && not (named (snapshots_of ds) name)) 7 0 ∷ []

    abbrev verdict : Verdict
    verdict = span_verdict c (target_of ds target name) o (length bytes)

    above_clear : clear above ≡ ((comes && sounds) && there)
    unfolding clear comes_to_chain
    above_clear = clear_span (area_bad c) (is_snapshot target) (is_name name) sounds (named (snapshots_of ds) name)

    above_ten : clear (above ++ (span_row c o (length bytes) ∷ [])) ≡ (((comes && sounds) && there) && not past)
    unfolding clear comes_to_chain
    above_ten = clear_ten (area_bad c) (is_snapshot target) (is_name name) sounds (named (snapshots_of ds) name) past

    read_16 : (answer_of call c ≡ answer 16 0) ↔ ((comes ≡ true) × (sounds ≡ true) × (there ≡ true) × (512 * volume < o + length bytes))
    unfolding answer_of rows_of admission span_read_rows fresh
    read_16 = (to, from)
      where
        to : first_row (above ++ (span_row c o (length bytes) ∷ row (is_fault verdict) 10 (fault_holder verdict) ∷ [])) ≡ answer 16 0
            → (comes ≡ true) × (sounds ≡ true) × (there ≡ true) × (512 * volume < o + length bytes)
        to e =
            let r = row_is above (row (is_fault verdict) 10 (fault_holder verdict) ∷ []) past 16 0 0 refl refl (λ z. omega arith) e in
            let w = sym above_clear ∙ r.0 in
            let two = and_left (comes && sounds) there w in
            (and_left comes sounds two, and_right comes sounds two, and_right (comes && sounds) there w, ltb-true (512 * volume) (o + length bytes) r.1)

        from : (comes ≡ true) × (sounds ≡ true) × (there ≡ true) × (512 * volume < o + length bytes)
            → first_row (above ++ (span_row c o (length bytes) ∷ row (is_fault verdict) 10 (fault_holder verdict) ∷ [])) ≡ answer 16 0
        from s =
            is_row above (row (is_fault verdict) 10 (fault_holder verdict) ∷ []) past 16 0 0
            (above_clear ∙ and_both (comes && sounds) there (and_both comes sounds s.0 s.1) s.2) (lt-ltb (512 * volume) (o + length bytes) s.3) refl

    never : (n : ℕ) → fresh n (rows_of call c) ≡ true → (n ≡ 0 → ⊥) → (answer_of call c).number ≡ n → ⊥
    unfolding answer_of
    never n f z e = fresh_never (rows_of call c) n f z e

    read_never : ((answer_of call c).number ≡ 8 → ⊥) × ((answer_of call c).number ≡ 9 → ⊥)
    unfolding rows_of admission span_read_rows fresh
    read_never = (never 8 refl (λ z. omega arith), never 9 refl (λ z. omega arith))

    -- the verdict as the first of the blocks
    module _ (d : Descriptor) (h : ℕ) where
      pub record FirstFrom (l k : ℕ) : Type 0 where
        pub index : ℕ
        pub among : index < k
        pub earlier : (j : ℕ) → j < index → is_misplaced (found_through c d (l + j)) ≡ false
        pub here : is_misplaced (found_through c d (l + index)) ≡ true
        pub holder : holder_of (found_through c d (l + index)) ≡ h

      fault_by : (l k : ℕ) → (is_fault (misplaced_from c d (suc l) k) ≡ true → fault_holder (misplaced_from c d (suc l) k) ≡ h → FirstFrom (suc l) k)
          → (t : Bool) → is_misplaced (found_through c d l) ≡ t
          → is_fault (pick t (Fault (physical (holder_of (found_through c d l)))) (misplaced_from c d (suc l) k)) ≡ true
          → fault_holder (pick t (Fault (physical (holder_of (found_through c d l)))) (misplaced_from c d (suc l) k)) ≡ h → FirstFrom l (suc k)
      unfolding fault_holder
      fault_by l k later true q e f =
          let z : l + 0 ≡ l = omega arith in
          record { index = 0; among = omega arith; earlier = λ j b. absurd (omega arith); here = rw z q; holder = rw z f }
      fault_by l k later false q e f =
          let r = later e f in
          let s : l + suc r.index ≡ suc l + r.index = omega arith in
          record { index = suc r.index; among = omega (arith, r.among); earlier = before r.index r.earlier; here = rw s r.here; holder = rw s r.holder }
        where
          before : (n : ℕ) → ((j : ℕ) → j < n → is_misplaced (found_through c d (suc l + j)) ≡ false) → (j : ℕ) → j < suc n → is_misplaced (found_through c d (l + j)) ≡ false
          before n g zero b = let z : l + 0 ≡ l = omega arith in rw z q
          before n g (suc j) b = let s : l + suc j ≡ suc l + j = omega arith in rw s (g j (omega arith))

      fault_first : (k l : ℕ) → is_fault (misplaced_from c d l k) ≡ true → fault_holder (misplaced_from c d l k) ≡ h → FirstFrom l k
      unfolding misplaced_from is_fault
      fault_first zero l e f = no e
      fault_first (suc k) l e f = fault_by l k (fault_first k (suc l)) (is_misplaced (found_through c d l)) refl e f

      first_fault_lem : (k l i : ℕ) → i < k → ((j : ℕ) → j < i → is_misplaced (found_through c d (l + j)) ≡ false) → is_misplaced (found_through c d (l + i)) ≡ true → holder_of (found_through c d (l + i)) ≡ h
          → (is_fault (misplaced_from c d l k) ≡ true) × (fault_holder (misplaced_from c d l k) ≡ h)
      unfolding misplaced_from is_fault fault_holder
      first_fault_lem zero l i b g e f = absurd (omega arith)
      first_fault_lem (suc k) l zero b g e f =
          let z : l + 0 ≡ l = omega arith in
          let q : is_misplaced (found_through c d l) ≡ true = rw z at e in
          rw q (refl, rw z at f)
      first_fault_lem (suc k) l (suc i) b g e f =
          let z : l + 0 ≡ l = omega arith in
          let s : l + suc i ≡ suc l + i = omega arith in
          let q : is_misplaced (found_through c d l) ≡ false = rw z at (g 0 (omega arith)) in
          rw q (first_fault_lem k (suc l) i (omega arith) (λ j u. let w : l + suc j ≡ suc l + j = omega arith in rw w at (g (suc j) (omega arith))) (rw s at e) (rw s at f))

    abbrev through : Descriptor
    through = target_of ds target name

    abbrev Placed : ℕ → Type 0
    Placed h = (comes ≡ true) × (sounds ≡ true) × (there ≡ true) × (o + length bytes ≤ 512 * volume) × FirstMisplaced c through o (length bytes) h

    start : (i : ℕ) → span_block o 0 + i ≡ span_block o i
    start i = omega arith

    read_10 : (h : ℕ) → (answer_of call c ≡ answer 10 h) ↔ Placed h
    unfolding answer_of rows_of admission span_read_rows fresh span_verdict
    read_10 h = (to, from)
      where
        to : first_row ((above ++ (span_row c o (length bytes) ∷ [])) ++ (row (is_fault verdict) 10 (fault_holder verdict) ∷ [])) ≡ answer 10 h → Placed h
        to e =
            let r = row_is (above ++ (span_row c o (length bytes) ∷ [])) [] (is_fault verdict) 10 (fault_holder verdict) h refl refl (λ z. omega arith) e in
            let w = sym above_ten ∙ r.0 in
            let three = and_left ((comes && sounds) && there) (not past) w in
            let two = and_left (comes && sounds) there three in
            let ok = and_right comes sounds two in
            let named_there = and_right (comes && sounds) there three in
            let f = fault_first through h (touched o (length bytes)) (span_block o 0) r.1 r.2 in
            let l = span_block o f.index in
            let s = start f.index in
            let form = target_layout c ok target name (given_name (is_snapshot target) (named (snapshots_of ds) name) named_there) in (
              and_left comes sounds two,
              ok,
              named_there,
              ltb-false (512 * volume) (o + length bytes) (not-true past (and_right ((comes && sounds) && there) (not past) w)),
              record {
                index = f.index;
                among = f.among;
                earlier = λ j g b. placed_not c through (span_block o j) (rw (start j) at (f.earlier j b)) g;
                here = out_of_place_by c through l h form (eqb through.layout 1) refl (rw s at f.here) (rw s at f.holder);
              },
            )

        from : Placed h → first_row ((above ++ (span_row c o (length bytes) ∷ [])) ++ (row (is_fault verdict) 10 (fault_holder verdict) ∷ [])) ≡ answer 10 h
        from s =
            let f = s.4 in
            let q = found_out_of_place c through (span_block o f.index) h f.here in
            let t = start f.index in
            let form = target_layout c s.1 target name (given_name (is_snapshot target) (named (snapshots_of ds) name) s.2) in
            let v = first_fault_lem through h (touched o (length bytes)) (span_block o 0) f.index f.among (λ j b. rw (start j) (not_placed c through (span_block o j) form (λ g. f.earlier j g b) (is_misplaced (found_through c through (span_block o j))) refl)) (rw t q.0) (rw t q.1) in
            let w = and_both ((comes && sounds) && there) (not past) (and_both (comes && sounds) there (and_both comes sounds s.0 s.1) s.2) (not_false_of past (le-ltb (512 * volume) (o + length bytes) s.3)) in
            is_row (above ++ (span_row c o (length bytes) ∷ [])) [] (is_fault verdict) 10 (fault_holder verdict) h (above_ten ∙ w) v.0 v.1

    abbrev Follows : Type 0
    Follows = (comes ≡ true) × (sounds ≡ true) × (there ≡ true) × (o + length bytes ≤ 512 * volume) × ((i h : ℕ) → i < touched o (length bytes) → NotInPlace c through (span_block o i) h → ⊥)

    pub read_accepts : (answer_of call c ≡ accepted) ↔ Follows
    unfolding answer_of rows_of admission span_read_rows fresh span_verdict
    read_accepts = (to, from)
      where
        rest : List Row
        rest = above ++ (span_row c o (length bytes) ∷ [])

        to : first_row (rest ++ (row (is_fault verdict) 10 (fault_holder verdict) ∷ [])) ≡ accepted → Follows
        to e =
            let r = sym (clear_last rest (is_fault verdict) 10 (fault_holder verdict)) ∙ accepted_clear (rest ++ (row (is_fault verdict) 10 (fault_holder verdict) ∷ [])) refl e in
            let w = sym above_ten ∙ and_left (clear rest) (not (is_fault verdict)) r in
            let three = and_left ((comes && sounds) && there) (not past) w in
            let two = and_left (comes && sounds) there three in
            let f = all_placed c through (touched o (length bytes)) (span_block o 0) (not-true (is_fault verdict) (and_right (clear rest) (not (is_fault verdict)) r)) in (
              and_left comes sounds two,
              and_right comes sounds two,
              and_right (comes && sounds) there three,
              ltb-false (512 * volume) (o + length bytes) (not-true past (and_right ((comes && sounds) && there) (not past) w)),
              λ i h b. placed_not c through (span_block o i) (rw (start i) at (f i b)) h,
            )

        from : Follows → first_row (rest ++ (row (is_fault verdict) 10 (fault_holder verdict) ∷ [])) ≡ accepted
        from s =
            let form = target_layout c s.1 target name (given_name (is_snapshot target) (named (snapshots_of ds) name) s.2) in
            let f = placed_all c through (touched o (length bytes)) (span_block o 0)
            (λ i b. rw (start i) (not_placed c through (span_block o i) form (λ h. s.4 i h b) (is_misplaced (found_through c through (span_block o i))) refl)) in
            let w = and_both ((comes && sounds) && there) (not past) (and_both (comes && sounds) there (and_both comes sounds s.0 s.1) s.2) (not_false_of past (le-ltb (512 * volume) (o + length bytes) s.3)) in
            clear_accepted (rest ++ (row (is_fault verdict) 10 (fault_holder verdict) ∷ []))
            (clear_last rest (is_fault verdict) 10 (fault_holder verdict) ∙ and_both (clear rest) (not (is_fault verdict)) (above_ten ∙ w) (not_false_of (is_fault verdict) f))

  -- a span write
  module _ (o : ℕ) (bytes : List ℕ) where
    abbrev put : Call
    put = SpanWrite o bytes

    abbrev beyond : Bool
    beyond = ltb (512 * volume) (o + length bytes)

    abbrev fault : Bool
    fault = is_fault (check_card c)

    abbrev wants : Bool
    wants = ltb (block_count c) ((active_of ds).beta.0 + write_span_need c o bytes)

    write_16 : (answer_of put c ≡ answer 16 0) ↔ ((area_bad c ≡ false) × (sounds ≡ true) × (512 * volume < o + length bytes))
    unfolding answer_of rows_of admission span_write_rows fresh clear
    write_16 = (to, from)
      where
        rest : List Row
        rest = fault_row c ∷ row wants 11 0 ∷ []

        to : first_row ((area_row c ∷ chain_row c ∷ []) ++ (span_row c o (length bytes) ∷ rest)) ≡ answer 16 0 → (area_bad c ≡ false) × (sounds ≡ true) × (512 * volume < o + length bytes)
        to e =
            let r = row_is (area_row c ∷ chain_row c ∷ []) rest beyond 16 0 0 refl refl (λ z. omega arith) e in
            let w = sym (clear_two (area_bad c) sounds) ∙ r.0 in
            (good_area (area_bad c) (and_left (not (area_bad c)) sounds w), and_right (not (area_bad c)) sounds w, ltb-true (512 * volume) (o + length bytes) r.1)

        from : (area_bad c ≡ false) × (sounds ≡ true) × (512 * volume < o + length bytes) → first_row ((area_row c ∷ chain_row c ∷ []) ++ (span_row c o (length bytes) ∷ rest)) ≡ answer 16 0
        from s =
            is_row (area_row c ∷ chain_row c ∷ []) rest beyond 16 0 0
            (clear_two (area_bad c) sounds ∙ and_both (not (area_bad c)) sounds (not_false_of (area_bad c) s.0) s.1) (lt-ltb (512 * volume) (o + length bytes) s.2) refl

    put_never : (n : ℕ) → fresh n (rows_of put c) ≡ true → (n ≡ 0 → ⊥) → (answer_of put c).number ≡ n → ⊥
    unfolding answer_of
    put_never n f z e = fresh_never (rows_of put c) n f z e

    write_never : ((answer_of put c).number ≡ 8 → ⊥) × ((answer_of put c).number ≡ 9 → ⊥)
    unfolding rows_of admission span_write_rows fresh
    write_never = (put_never 8 refl (λ z. omega arith), put_never 9 refl (λ z. omega arith))

    -- where 16 is not given, check decides as far as it refuses
    checks_by : (a u v f r : Bool) (pl h : ℕ) → (pick a (answer 1 0) (pick u (answer 6 pl) (pick v (answer 16 0) (pick f (answer 10 h) (pick r (answer 11 0) accepted)))) ≡ answer 16 0 → ⊥)
        → (pick a (answer 1 0) (pick u (answer 6 pl) (pick f (answer 10 h) accepted)) ≡ accepted → ⊥)
        → pick a (answer 1 0) (pick u (answer 6 pl) (pick v (answer 16 0) (pick f (answer 10 h) (pick r (answer 11 0) accepted)))) ≡ pick a (answer 1 0) (pick u (answer 6 pl) (pick f (answer 10 h) accepted))
    checks_by true u v f r pl h m n = refl
    checks_by false true v f r pl h m n = refl
    checks_by false false true f r pl h m n = absurd (m refl)
    checks_by false false false true r pl h m n = refl
    checks_by false false false false r pl h m n = absurd (n refl)

    as_check : (answer_of put c ≡ answer 16 0 → ⊥) → (answer_of Check c ≡ accepted → ⊥) → answer_of put c ≡ answer_of Check c
    unfolding answer_of rows_of admission span_write_rows check_rows first_row
    as_check m n = checks_by (area_bad c) (not sounds) beyond fault wants (chain_place (chain c)) (fault_holder (check_card c)) m n

    write_10 : (p : ℕ) → (answer_of put c ≡ answer 10 p) ↔ ((area_bad c ≡ false) × (sounds ≡ true) × (o + length bytes ≤ 512 * volume) × FirstFault c p)
    unfolding answer_of rows_of admission span_write_rows check_rows fresh clear FaultClaim
    write_10 p = (to, from)
      where
        before : List Row
        before = area_row c ∷ chain_row c ∷ span_row c o (length bytes) ∷ []

        to : first_row (before ++ (fault_row c ∷ row wants 11 0 ∷ [])) ≡ answer 10 p → (area_bad c ≡ false) × (sounds ≡ true) × (o + length bytes ≤ 512 * volume) × FirstFault c p
        to e =
            let r = row_is before (row wants 11 0 ∷ []) fault 10 (fault_holder (check_card c)) p refl refl (λ z. omega arith) e in
            let w = sym (clear_checks (area_bad c) sounds beyond) ∙ r.0 in
            let two = and_left (not (area_bad c) && sounds) (not beyond) w in
            let area = good_area (area_bad c) (and_left (not (area_bad c)) sounds two) in
            let ok = and_right (not (area_bad c)) sounds two in (
              area,
              ok,
              ltb-false (512 * volume) (o + length bytes) (not-true beyond (and_right (not (area_bad c) && sounds) (not beyond) w)),
              (fault_claim c p area ok).0 (is_row (area_row c ∷ chain_row c ∷ []) [] fault 10 (fault_holder (check_card c)) p (clear_two (area_bad c) sounds ∙ two) r.1 r.2),
            )

        from : (area_bad c ≡ false) × (sounds ≡ true) × (o + length bytes ≤ 512 * volume) × FirstFault c p → first_row (before ++ (fault_row c ∷ row wants 11 0 ∷ [])) ≡ answer 10 p
        from s =
            let r = row_is (area_row c ∷ chain_row c ∷ []) [] fault 10 (fault_holder (check_card c)) p refl refl (λ z. omega arith) ((fault_claim c p s.0 s.1).1 s.3) in
            is_row before (row wants 11 0 ∷ []) fault 10 (fault_holder (check_card c)) p
            (clear_checks (area_bad c) sounds beyond
            ∙ and_both (not (area_bad c) && sounds) (not beyond) (and_both (not (area_bad c)) sounds (not_false_of (area_bad c) s.0) s.1) (not_false_of beyond (le-ltb (512 * volume) (o + length bytes) s.2)))
            r.1 r.2

pub span_end_claim : SpanEndClaim
unfolding SpanEndClaim
span_end_claim c o bytes =
    record {
      read = λ target name. read_16 c target name o bytes;
      write = write_16 c o bytes;
      read_never = λ target name. read_never c target name o bytes;
      write_never = write_never c o bytes;
    }

pub span_place_claim : SpanPlaceClaim
unfolding SpanPlaceClaim
span_place_claim c target name o bytes h = read_10 c target name o bytes h

pub span_check_claim : SpanCheckClaim
unfolding SpanCheckClaim
span_check_claim c o bytes = record { as_check = as_check c o bytes; ten = write_10 c o bytes; passing = λ e. (span_allowed c o bytes e).passes }
