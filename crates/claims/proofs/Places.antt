-- The places of 6 and 10: the block of the first unsound descriptor, and the block that holds an entry that is followed and not in place.
use mathlib.Core.Path.{◌≡◌, refl, sym, ap, ◌∙◌, subst}
use mathlib.Core.Logic.{◌↔◌}
use mathlib.Core.Bool.{Bool, true, false, not, ◌&&◌, ◌||◌}
use mathlib.Core.List.{List, [], ◌∷◌, ◌++◌}
use Prim.Native.Nat.{ℕ, ◌+◌, ◌/◌, ◌%◌, ◌<◌}
use native.Mathlib.Omega.{arith}
use lib.ListN.{length}
use lib.Dec.{eqb, leb}
use borrow.Author.Tests.{eqb-true, eqb-false, eq-eqb, ne_eqb, leb-false, lt-leb, not-true}
use Rattle.blocks.specs.Pick.{pick}
use Rattle.blocks.specs.Name.{is_name}
use Rattle.blocks.specs.Descriptor.{physical}
use Rattle.chains.specs.Chain.{Chain, Unsound, Sound, chain, chain_sound, chain_place, named, active_of}
use Rattle.blocks.specs.declared.descriptor.Descriptor.{Descriptor}
use Rattle.blocks.proofs.Tests.{and_left, and_right}
use Rattle.blocks.proofs.BoolLaws.{no}
use Rattle.links.proofs.SoundLaws.{form_layout}
use Rattle.entries.specs.InPlace.{is_in_place}
use Rattle.entries.specs.Entry.{entry_at, phi_at, table_of, entry_found, find}
use Rattle.entries.specs.Found.{Found, Misplaced, Entry}
use Rattle.calls.specs.declared.answer.Answer.{Answer}
use Rattle.calls.specs.Call.{Target, Active, Call, Ream, Read, Write, Snap, Revert, Listing, Check, Visit, SpanRead, SpanWrite, answer}
use Rattle.calls.specs.Parts.{area_bad, descriptors_of, snapshots_of, is_snapshot, target_of, found_through, is_misplaced, holder_of}
use Rattle.calls.specs.Ladder.{Row, row, area_row, name_row, target_row, block_row, chain_row, volume_row, first_row, ream_rows, read_rows, visit_rows, write_rows, snap_rows, revert_rows, list_rows, check_rows, span_read_rows, span_write_rows, admission}
use Rattle.calls.specs.Meaning.{rows_of, answer_of}
use Rattle.chains.specs.Chained.{FirstUnsound}
use Rattle.chains.proofs.ChainedLaws.{chain_place_lem, place_chain}
use Rattle.claims.specs.Claims.{comes_to_chain, NotInPlace, phi, named_table, own_table, PlaceClaim}
use Rattle.calls.proofs.RowLaws.{fresh, fresh_never}
use Rattle.calls.proofs.CardLaws.{chain_is}
use Rattle.entries.proofs.TableLaws.{layout_two}
use Rattle.calls.specs.declared.answer.Record.{Record}
use Rattle.blocks.specs.declared.descriptor.Format.{Format}
use Rattle.calls.proofs.ActiveLaws.{target_member, chain_some, region_at}

-- no row of a list holds
unfoldable pub clear : List Row → Bool
clear [] = true
clear (r ∷ rs) = not r.holds && clear rs

-- a row with a number of its own is given exactly where it holds and none before it does, with its place
first_by : (n q : ℕ) (r : Row) (rs : List Row) (b : Bool) → (r.number ≡ n → ⊥) → pick b (answer r.number r.place) (first_row rs) ≡ answer n q → (b ≡ false) × (first_row rs ≡ answer n q)
first_by n q r rs true other e = absurd (other (ap (λ (a : Answer). a.number) e))
first_by n q r rs false other e = (refl, e)

last_by : (n p q : ℕ) (ys : List Row) (b : Bool) → fresh n ys ≡ true → (n ≡ 0 → ⊥) → pick b (answer n p) (first_row ys) ≡ answer n q → (b ≡ true) × (p ≡ q)
last_by n p q ys true f z e = (refl, ap (λ (a : Answer). a.place) e)
last_by n p q ys false f z e = absurd (fresh_never ys n f z (ap (λ (a : Answer). a.number) e))

pub row_is : (xs ys : List Row) (b : Bool) (n p q : ℕ) → fresh n xs ≡ true → fresh n ys ≡ true → (n ≡ 0 → ⊥) → first_row (xs ++ (row b n p ∷ ys)) ≡ answer n q
    → (clear xs ≡ true) × (b ≡ true) × (p ≡ q)
unfolding first_row fresh clear
row_is [] ys b n p q f g z e = let r = last_by n p q ys b g z e in (refl, r.0, r.1)
row_is (r ∷ xs) ys b n p q f g z e =
    let first = first_by n q r (xs ++ (row b n p ∷ ys)) r.holds (eqb-false r.number n (not-true _ (and_left (not (eqb r.number n)) (fresh n xs) f))) e in
    let rest = row_is xs ys b n p q (and_right (not (eqb r.number n)) (fresh n xs) f) g z first.1 in
    (rw first.0 rest.0, rest.1, rest.2)

pub is_row : (xs ys : List Row) (b : Bool) (n p q : ℕ) → clear xs ≡ true → b ≡ true → p ≡ q → first_row (xs ++ (row b n p ∷ ys)) ≡ answer n q
unfolding first_row clear
is_row [] ys b n p q f h e = rw (h, e)
is_row (r ∷ xs) ys b n p q f h e = rw (not-true r.holds (and_left (not r.holds) (clear xs) f)) (is_row xs ys b n p q (and_right (not r.holds) (clear xs) f) h e)

-- the row of 6 says so
unsound_is : (ch : Chain) (q : ℕ) → not (chain_sound ch) ≡ true → chain_place ch ≡ q → ch ≡ Unsound q
unfolding chain_sound chain_place
unsound_is (Unsound p) q h e = ap Unsound e
unsound_is (Sound ds) q h e = no h

unsound_row : (ch : Chain) (q : ℕ) → ch ≡ Unsound q → (not (chain_sound ch) ≡ true) × (chain_place ch ≡ q)
unfolding chain_sound chain_place
unsound_row ch q e = rw e (refl, refl)

-- rows that do not hold, by the tests that pass
pub clear_one : (a : Bool) → (not a && true) ≡ not a
clear_one true = refl
clear_one false = refl

pub clear_two : (a b : Bool) → (not a && (not (not b) && true)) ≡ (not a && b)
clear_two true b = refl
clear_two false true = refl
clear_two false false = refl

clear_target : (a s n : Bool) → (not a && (not (s && not n) && true)) ≡ (not a && (not s || n))
clear_target true s n = refl
clear_target false true true = refl
clear_target false true false = refl
clear_target false false n = refl

clear_three : (a s n b : Bool) → (not a && (not (s && not n) && (not (not b) && true))) ≡ (not a && (not s || n) && b)
clear_three true s n b = refl
clear_three false true true true = refl
clear_three false true true false = refl
clear_three false true false b = refl
clear_three false false n true = refl
clear_three false false n false = refl

module _ (c : List ℕ) (q : ℕ) where
  abbrev Six : Call → Type 0
  Six k = (comes_to_chain k c ≡ true) × FirstUnsound c [] 0 q

  six : (k : Call) (xs ys : List Row) → rows_of k c ≡ xs ++ (chain_row c ∷ ys) → fresh 6 xs ≡ true → fresh 6 ys ≡ true → clear xs ≡ comes_to_chain k c → answer_of k c ≡ answer 6 q → Six k
  unfolding answer_of
  six k xs ys is f g h e =
      let r = row_is xs ys (not (chain_sound (chain c))) 6 (chain_place (chain c)) q f g (λ z. omega arith) (rw is at e) in
      (sym h ∙ r.0, chain_place_lem c q (unsound_is (chain c) q r.1 r.2))

  six_given : (k : Call) (xs ys : List Row) → rows_of k c ≡ xs ++ (chain_row c ∷ ys) → clear xs ≡ comes_to_chain k c → Six k → answer_of k c ≡ answer 6 q
  unfolding answer_of
  six_given k xs ys is h s =
      let r = unsound_row (chain c) q (place_chain c q s.1) in
      rw is (is_row xs ys (not (chain_sound (chain c))) 6 (chain_place (chain c)) q (h ∙ s.0) r.0 r.1)

  abbrev SixExactly : Call → Type 0
  SixExactly k = (answer_of k c ≡ answer 6 q) ↔ Six k

  six_by : (k : Call) (xs ys : List Row) → rows_of k c ≡ xs ++ (chain_row c ∷ ys) → fresh 6 xs ≡ true → fresh 6 ys ≡ true → clear xs ≡ comes_to_chain k c → SixExactly k
  six_by k xs ys is f g h = (six k xs ys is f g h, six_given k xs ys is h)

  pub ream_six : (format : Format) → SixExactly (Ream format)
  unfolding answer_of rows_of admission ream_rows fresh comes_to_chain
  ream_six format = (
    λ e. absurd (fresh_never (rows_of (Ream format) c) 6 refl (λ z. omega arith) (ap (λ (a : Answer). a.number) e)),
    λ s. no s.0,
  )

  pub read_six : (target : Target) (name : List ℕ) (l : ℕ) (block : List ℕ) → SixExactly (Read target name l block)
  unfolding rows_of admission read_rows fresh clear comes_to_chain
  read_six target name l block =
      six_by (Read target name l block) (area_row c ∷ target_row target name ∷ block_row block ∷ []) _ refl refl refl
      (clear_three (area_bad c) (is_snapshot target) (is_name name) (eqb (length block) 512))

  pub visit_six : (target : Target) (name : List ℕ) (l : ℕ) → SixExactly (Visit target name l)
  unfolding rows_of admission visit_rows fresh clear comes_to_chain
  visit_six target name l = six_by (Visit target name l) (area_row c ∷ target_row target name ∷ []) _ refl refl refl (clear_target (area_bad c) (is_snapshot target) (is_name name))

  pub write_six : (l : ℕ) (block : List ℕ) → SixExactly (Write l block)
  unfolding rows_of admission write_rows fresh clear comes_to_chain
  write_six l block = six_by (Write l block) (area_row c ∷ block_row block ∷ []) _ refl refl refl (clear_two (area_bad c) (eqb (length block) 512))

  pub snap_six : (name : List ℕ) → SixExactly (Snap name)
  unfolding rows_of admission snap_rows fresh clear comes_to_chain
  snap_six name = six_by (Snap name) (area_row c ∷ name_row name ∷ []) _ refl refl refl (clear_two (area_bad c) (is_name name))

  pub revert_six : (name : List ℕ) → SixExactly (Revert name)
  unfolding rows_of admission revert_rows fresh clear comes_to_chain
  revert_six name = six_by (Revert name) (area_row c ∷ name_row name ∷ []) _ refl refl refl (clear_two (area_bad c) (is_name name))

  pub list_six : (records : List Record) → SixExactly (Listing records)
  unfolding rows_of admission list_rows fresh clear comes_to_chain
  list_six records = six_by (Listing records) (area_row c ∷ []) _ refl refl refl (clear_one (area_bad c))

  pub check_six : SixExactly Check
  unfolding rows_of admission check_rows fresh clear comes_to_chain
  check_six = six_by Check (area_row c ∷ []) _ refl refl refl (clear_one (area_bad c))

  pub span_read_six : (target : Target) (name : List ℕ) (o : ℕ) (bytes : List ℕ) → SixExactly (SpanRead target name o bytes)
  unfolding rows_of admission span_read_rows fresh clear comes_to_chain
  span_read_six target name o bytes =
      six_by (SpanRead target name o bytes) (area_row c ∷ target_row target name ∷ []) _ refl refl refl (clear_target (area_bad c) (is_snapshot target) (is_name name))

  pub span_write_six : (o : ℕ) (bytes : List ℕ) → SixExactly (SpanWrite o bytes)
  unfolding rows_of admission span_write_rows fresh clear comes_to_chain
  span_write_six o bytes = six_by (SpanWrite o bytes) (area_row c ∷ []) _ refl refl refl (clear_one (area_bad c))

-- what find gives of an entry that is not in place
module _ (ds : List Descriptor) (d : Descriptor) (m p h : ℕ) where
  misplaced_by : (t : Bool) → is_in_place ds d p ≡ t → is_misplaced (pick t (Entry (physical m) (physical p)) (Misplaced (physical m))) ≡ true
      → holder_of (pick t (Entry (physical m) (physical p)) (Misplaced (physical m))) ≡ h → (is_in_place ds d p ≡ false) × (m ≡ h)
  unfolding is_misplaced holder_of
  misplaced_by true e q k = no q
  misplaced_by false e q k = (e, k)

  misplaced_entry : is_misplaced (entry_found ds d m p) ≡ true → holder_of (entry_found ds d m p) ≡ h → (is_in_place ds d p ≡ false) × (m ≡ h)
  unfolding entry_found
  misplaced_entry q k = misplaced_by (is_in_place ds d p) refl q k

  entry_misplaced : is_in_place ds d p ≡ false → (is_misplaced (entry_found ds d m p) ≡ true) × (holder_of (entry_found ds d m p) ≡ m)
  unfolding entry_found is_misplaced holder_of
  entry_misplaced e = rw e (refl, refl)

module _ (c : List ℕ) (d : Descriptor) (l : ℕ) where
  abbrev ds : List Descriptor
  ds = descriptors_of c

  abbrev f : ℕ
  f = phi_at c d (l / 128)

  abbrev o : ℕ
  o = d.alpha.0 + 1 + l / 128

  -- through Phi
  phi_by_lem : (h : ℕ) → d.layout ≡ 2 → (i z : Bool) → is_in_place ds d f ≡ i → eqb f 0 ≡ z
      → is_misplaced (pick i (pick z (Entry (physical 0) (physical 0)) (entry_found ds d f (entry_at c f (l % 128)))) (Misplaced d.alpha)) ≡ true
      → holder_of (pick i (pick z (Entry (physical 0) (physical 0)) (entry_found ds d f (entry_at c f (l % 128)))) (Misplaced d.alpha)) ≡ h
      → NotInPlace c d l h
  unfolding is_misplaced holder_of
  phi_by_lem h two true true hi hz q k = no q
  phi_by_lem h two true false hi hz q k =
      let r = misplaced_entry ds d f (entry_at c f (l % 128)) h q k in
      subst (NotInPlace c d l) r.1 (named_table two hi (eqb-false f 0 hz) r.0)
  phi_by_lem h two false z hi hz q k = subst (NotInPlace c d l) k (phi two hi)

  pub out_of_place_by : (h : ℕ) → (eqb d.layout 1 || eqb d.layout 2) ≡ true → (t : Bool) → eqb d.layout 1 ≡ t
      → is_misplaced (found_through c d l) ≡ true → holder_of (found_through c d l) ≡ h → NotInPlace c d l h
  unfolding find table_of
  out_of_place_by h form true e q k =
      let r = misplaced_entry ds d o (entry_at c o (l % 128)) h (rw e at q) (rw e at k) in
      subst (NotInPlace c d l) r.1 (own_table (eqb-true d.layout 1 e) r.0)
  out_of_place_by h form false e q k = phi_by_lem h (layout_two d.layout form e) (is_in_place ds d f) (eqb f 0) refl refl (rw e at q) (rw e at k)

  pub found_out_of_place : (h : ℕ) → NotInPlace c d l h → (is_misplaced (found_through c d l) ≡ true) × (holder_of (found_through c d l) ≡ h)
  unfolding find table_of is_misplaced holder_of
  found_out_of_place h (phi two e) = rw (ne_eqb d.layout 1 (omega (arith, two)), e) (refl, refl)
  found_out_of_place h (named_table two e set p) = rw (ne_eqb d.layout 1 (omega (arith, two)), e, ne_eqb f 0 set) (entry_misplaced ds d f (entry_at c f (l % 128)) 0 p)
  found_out_of_place h (own_table one p) = rw (eq-eqb d.layout 1 one) (entry_misplaced ds d o (entry_at c o (l % 128)) 0 p)

-- the descriptor that a call goes through has layout 1 or 2
pub target_layout : (c : List ℕ) → chain_sound (chain c) ≡ true → (target : Target) (name : List ℕ) → (is_snapshot target && not (named (snapshots_of (descriptors_of c)) name)) ≡ false
    → (eqb (target_of (descriptors_of c) target name).layout 1 || eqb (target_of (descriptors_of c) target name).layout 2) ≡ true
target_layout c ok target name h =
    let sound_c = chain_is (chain c) ok in
    let m = target_member (descriptors_of c) (chain_some c (descriptors_of c) sound_c) target name h in
    subst (λ (d : Descriptor). (eqb d.layout 1 || eqb d.layout 2) ≡ true) (sym m.2) (form_layout c _ _ (region_at c (descriptors_of c) sound_c m.0 m.1).form)

-- the rows before 10
clear_read : (a s n b u t v : Bool)
    → (not a && (not (s && not n) && (not (not b) && (not (not u) && (not (s && not t) && (not v && true)))))) ≡ ((((not a && (not s || n) && b) && u) && (not s || t)) && not v)
clear_read true s n b u t v = refl
clear_read false true true true true true true = refl
clear_read false true true true true true false = refl
clear_read false true true true true false v = refl
clear_read false true true true false t v = refl
clear_read false true true false u t v = refl
clear_read false true false b u t v = refl
clear_read false false n true true t true = refl
clear_read false false n true true t false = refl
clear_read false false n true false t v = refl
clear_read false false n false u t v = refl

clear_visit : (a s n u t v : Bool)
    → (not a && (not (s && not n) && (not (not u) && (not (s && not t) && (not v && true))))) ≡ ((((not a && (not s || n)) && u) && (not s || t)) && not v)
clear_visit true s n u t v = refl
clear_visit false true true true true true = refl
clear_visit false true true true true false = refl
clear_visit false true true true false v = refl
clear_visit false true true false t v = refl
clear_visit false true false u t v = refl
clear_visit false false n true t true = refl
clear_visit false false n true t false = refl
clear_visit false false n false t v = refl

clear_write : (a b u v : Bool) → (not a && (not (not b) && (not (not u) && (not v && true)))) ≡ (((not a && b) && u) && not v)
clear_write true b u v = refl
clear_write false false u v = refl
clear_write false true false v = refl
clear_write false true true true = refl
clear_write false true true false = refl

pub given_name : (s t : Bool) → (not s || t) ≡ true → (s && not t) ≡ false
given_name true true h = refl
given_name true false h = no h
given_name false t h = refl

pub and_both : (a b : Bool) → a ≡ true → b ≡ true → (a && b) ≡ true
and_both a b h k = rw (h, k)

pub not_false_of : (v : Bool) → v ≡ false → not v ≡ true
not_false_of v e = rw e

module _ (c : List ℕ) (l : ℕ) (block : List ℕ) (h : ℕ) where
  abbrev all : List Descriptor
  all = descriptors_of c

  abbrev sounds : Bool
  sounds = chain_sound (chain c)

  abbrev beyond : Bool
  beyond = leb (active_of all).volume l

  -- a call that follows an entry through its target, with the rows above that of 10
  module _ (target : Target) (name : List ℕ) (k : Call) where
    abbrev comes : Bool
    comes = comes_to_chain k c

    abbrev there : Bool
    there = not (is_snapshot target) || named (snapshots_of all) name

    abbrev found : Found
    found = found_through c (target_of all target name) l

    abbrev TargetMisplaced : Type 0
    TargetMisplaced = (comes ≡ true) × (sounds ≡ true) × (there ≡ true) × (l < (active_of all).volume) × NotInPlace c (target_of all target name) l h

    module _ (above : List Row) (fresh_above : fresh 10 above ≡ true) (rows_are : rows_of k c ≡ above ++ (row (is_misplaced found) 10 (holder_of found) ∷ [])) (above_clear : clear above ≡ (((comes && sounds) && there) && not beyond)) where
      target_out_of_place : answer_of k c ≡ answer 10 h → TargetMisplaced
      unfolding answer_of fresh
      target_out_of_place e =
          let r = row_is above [] (is_misplaced found) 10 (holder_of found) h fresh_above refl (λ z. omega arith) (ap first_row (sym rows_are) ∙ e) in
          let w = sym above_clear ∙ r.0 in
          let three = and_left ((comes && sounds) && there) (not beyond) w in
          let two = and_left (comes && sounds) there three in
          let ok = and_right comes sounds two in
          let here_name = and_right (comes && sounds) there three in
          let form = target_layout c ok target name (given_name (is_snapshot target) (named (snapshots_of all) name) here_name) in (
            and_left comes sounds two,
            ok,
            here_name,
            leb-false (active_of all).volume l (not-true beyond (and_right ((comes && sounds) && there) (not beyond) w)),
            out_of_place_by c (target_of all target name) l h form (eqb (target_of all target name).layout 1) refl r.1 r.2,
          )

      out_of_place_target : TargetMisplaced → answer_of k c ≡ answer 10 h
      unfolding answer_of
      out_of_place_target s =
          let r = found_out_of_place c (target_of all target name) l h s.4 in
          let v = not_false_of beyond (lt-leb (active_of all).volume l s.3) in
          let w = and_both ((comes && sounds) && there) (not beyond) (and_both (comes && sounds) there (and_both comes sounds s.0 s.1) s.2) v in
          ap first_row rows_are ∙ is_row above [] (is_misplaced found) 10 (holder_of found) h (above_clear ∙ w) r.0 r.1

      ten_exactly : (answer_of k c ≡ answer 10 h) ↔ TargetMisplaced
      ten_exactly = (target_out_of_place, out_of_place_target)

  -- a read, and a visit
  read_ten : (target : Target) (name : List ℕ) → (answer_of (Read target name l block) c ≡ answer 10 h) ↔ TargetMisplaced target name (Read target name l block)
  unfolding rows_of admission read_rows fresh clear comes_to_chain
  read_ten target name =
      ten_exactly target name (Read target name l block)
      (area_row c ∷ target_row target name ∷ block_row block ∷ chain_row c ∷ row (is_snapshot target && not (named (snapshots_of all) name)) 7 0 ∷ volume_row c l ∷ []) refl refl
      (clear_read (area_bad c) (is_snapshot target) (is_name name) (eqb (length block) 512) sounds (named (snapshots_of all) name) beyond)

  visit_ten : (target : Target) (name : List ℕ) → (answer_of (Visit target name l) c ≡ answer 10 h) ↔ TargetMisplaced target name (Visit target name l)
  unfolding rows_of admission visit_rows fresh clear comes_to_chain
  visit_ten target name =
      ten_exactly target name (Visit target name l)
      (area_row c ∷ target_row target name ∷ chain_row c ∷ row (is_snapshot target && not (named (snapshots_of all) name)) 7 0 ∷ volume_row c l ∷ []) refl refl
      (clear_visit (area_bad c) (is_snapshot target) (is_name name) sounds (named (snapshots_of all) name) beyond)

  -- a write
  abbrev reaches : Bool
  reaches = comes_to_chain (Write l block) c

  abbrev before : List Row
  before = area_row c ∷ block_row block ∷ chain_row c ∷ volume_row c l ∷ []

  before_clear : clear before ≡ ((reaches && sounds) && not beyond)
  unfolding clear comes_to_chain
  before_clear = clear_write (area_bad c) (eqb (length block) 512) sounds beyond

  abbrev WriteMisplaced : Type 0
  WriteMisplaced = (reaches ≡ true) × (sounds ≡ true) × (l < (active_of all).volume) × NotInPlace c (active_of all) l h

  write_out_of_place : answer_of (Write l block) c ≡ answer 10 h → WriteMisplaced
  unfolding answer_of rows_of admission write_rows fresh target_of
  write_out_of_place e =
      let found = found_through c (active_of all) l in
      let r = row_is before _ (is_misplaced found) 10 (holder_of found) h refl refl (λ z. omega arith) e in
      let w = sym before_clear ∙ r.0 in
      let two = and_left (reaches && sounds) (not beyond) w in
      let ok = and_right reaches sounds two in
      let form = target_layout c ok Active [] refl in (
        and_left reaches sounds two,
        ok,
        leb-false (active_of all).volume l (not-true beyond (and_right (reaches && sounds) (not beyond) w)),
        out_of_place_by c (active_of all) l h form (eqb (active_of all).layout 1) refl r.1 r.2,
      )

  out_of_place_write : WriteMisplaced → answer_of (Write l block) c ≡ answer 10 h
  unfolding answer_of rows_of admission write_rows
  out_of_place_write s =
      let found = found_through c (active_of all) l in
      let r = found_out_of_place c (active_of all) l h s.3 in
      let v = not_false_of beyond (lt-leb (active_of all).volume l s.2) in
      let w = and_both (reaches && sounds) (not beyond) (and_both reaches sounds s.0 s.1) v in
      is_row before _ (is_misplaced found) 10 (holder_of found) h (before_clear ∙ w) r.0 r.1

pub place_claim : PlaceClaim
unfolding PlaceClaim
place_claim c =
    record {
      read = λ target name l block h. read_ten c l block h target name;
      visit = λ target name l h. visit_ten c l [] h target name;
      write = λ l block h. (write_out_of_place c l block h, out_of_place_write c l block h);
    }
