-- The visit that survives its rollback: what a revert on revision 1 leaves, that it always has room, and that below beta the card is as just after the snap.
use mathlib.Core.Path.{◌≡◌, refl, sym, ap, ◌∙◌, subst}
use mathlib.Core.Logic.{◌⊎◌, inl, inr}
use mathlib.Core.Bool.{Bool, true, false, not, ◌||◌}
use mathlib.Core.List.{List, [], ◌∷◌, ◌++◌}
use Prim.Native.Nat.{ℕ, suc, ◌+◌, ◌*◌, ◌-◌, ◌/◌, ◌%◌, ◌≤◌, ◌<◌}
use native.Mathlib.Omega.{arith}
use lib.ListN.{length, take, get_or}
use lib.Seq.{append_snoc, get_or-take, get_or-append-add}
use lib.Dec.{eqb, ltb}
use borrow.Author.Tests.{ne_eqb, le-ltb, eqb-true, eqb-false, ltb-true, ltb-false}
use Rattle.blocks.specs.Pick.{same}
use Rattle.blocks.specs.Bytes.{le32, block_count, block_at, store_all}
use Rattle.blocks.specs.Descriptor.{cost_of, cost_in, revision_of, revision_ok, head_bytes, tail_at, descriptor_block, reopened_of, reopening}
use Rattle.blocks.specs.declared.descriptor.Descriptor.{Descriptor}
use Rattle.chains.specs.Chain.{Sound, chain, named, active_of}
use Rattle.blocks.proofs.BoolLaws.{no, or_true}
use Rattle.blocks.proofs.ListLaws.{same_self}
use Rattle.blocks.proofs.ByteLaws.{part_at}
use Rattle.blocks.proofs.DescriptorLaws.{head_length, block_back, revision_large, small_revision}
use Rattle.blocks.proofs.RegionLaws.{reopening_table, reopening_past, reopening_tail}
use Rattle.chains.proofs.NamedLaws.{named_append, named_one, index_below}
use Rattle.links.proofs.ChainLaws.{active_snoc, descriptors_are, is_sound}
use Rattle.links.proofs.MemberLaws.{member_is, member_form, member_inside, member_long, member_name, member_fresh}
use Rattle.links.proofs.SoundLaws.{form_mark}
use Rattle.blocks.proofs.NameLaws.{name_size_lem}
use Rattle.calls.specs.declared.answer.Answer.{Answer}
use Rattle.calls.specs.Call.{Revert, answer}
use Rattle.calls.specs.Parts.{area_bad, descriptors_of, snapshots_of, with_name}
use Rattle.blocks.specs.Name.{is_name}
use Rattle.calls.specs.Ladder.{row, first_row, admission, ream_rows, revert_rows}
use Rattle.calls.specs.Stores.{activated_of, revert_stores, staying}
use Rattle.calls.specs.Meaning.{rows_of, answer_of}
use Rattle.calls.specs.Step.{step, after, is_accepted}
use Rattle.calls.proofs.ActiveLaws.{active_end, snapshots_few}
use Rattle.calls.proofs.CardLaws.{chain_is, area_kept, snapshots_snoc, card_even}
use Rattle.calls.proofs.Passed.{RevertPassed, revert_passed, revert_accepted}
use Rattle.calls.proofs.VisitLaws.{before, behind, visit_room}
use Rattle.claims.specs.History.{beta_of, Agree, AreBytes}
use Rattle.claims.specs.Surviving.{Survives, SurvivesClaim, RoomAtVisitClaim, RevisionClaim, StayingClaim, AsAfterSnapClaim}
use Rattle.changes.proofs.RevertedChain.{revert_split, same_long, visit_below, visit_bytes, called_long, stores_open, below_visit, new_block, reverted_1, reverted_revision}
use Rattle.claims.proofs.CardBytes.{bytes_run}
use Rattle.claims.proofs.Latest.{latest_at}
use Rattle.claims.proofs.RevertAgain.{again_same}
use Rattle.claims.proofs.Rollback.{revert_card, with_name_is, as_then}
use Rattle.claims.proofs.Undone.{with_snoc}
use Rattle.claims.proofs.Runs.{standing_take}

-- a byte of a block that two cards share
byte_shared : (s t : List ℕ) (j : ℕ) → block_at s (j / 512) ≡ block_at t (j / 512) → get_or s j 0 ≡ get_or t j 0
unfolding block_at
byte_shared s t j e =
    let q = j / 512 in
    let r = j % 512 in
    let at : 512 * q + r ≡ j = omega arith in
    let few : r < 512 = omega arith in
    ap (λ (i : ℕ). get_or s i 0) (sym at)
    ∙ sym (part_at s (512 * q) 512 r few)
    ∙ ap (λ (b : List ℕ). get_or b r 0) e
    ∙ part_at t (512 * q) 512 r few
    ∙ ap (λ (i : ℕ). get_or t i 0) at

-- two descriptor blocks with the same layout, L and tail: the same bytes before alpha, and after the name
first_twelve : (d x : Descriptor) (tail : List ℕ) → d.layout ≡ x.layout → d.volume ≡ x.volume → take 12 (head_bytes d ++ tail) ≡ take 12 (head_bytes x ++ tail)
unfolding head_bytes le32
first_twelve d x tail l v = rw (l, v)

past_head : (d : Descriptor) (tail : List ℕ) → length d.name ≡ 16 → (i : ℕ) → 40 ≤ i → get_or (head_bytes d ++ tail) i 0 ≡ get_or tail (i - 40) 0
past_head d tail n i h =
    let at : i ≡ length (head_bytes d) + (i - 40) = omega (arith, head_length d n) in
    ap (λ (j : ℕ). get_or (head_bytes d ++ tail) j 0) at ∙ get_or-append-add (head_bytes d) tail (i - 40) 0

block_others : (d x : Descriptor) (tail : List ℕ) → d.layout ≡ x.layout → d.volume ≡ x.volume → length d.name ≡ 16 → length x.name ≡ 16 → (i : ℕ) → (i < 12) ⊎ ((40 ≤ i) × (i < 512))
    → get_or (descriptor_block d tail) i 0 ≡ get_or (descriptor_block x tail) i 0
unfolding descriptor_block
block_others d x tail l v n m i (inl h) =
    sym (get_or-take 12 (head_bytes d ++ tail) i 0 h) ∙ ap (λ (y : List ℕ). get_or y i 0) (first_twelve d x tail l v) ∙ get_or-take 12 (head_bytes x ++ tail) i 0 h
block_others d x tail l v n m i (inr h) = past_head d tail n i h.0 ∙ sym (past_head x tail m i h.0)

module _ (c name : List ℕ) (bytes : AreBytes c) (revision : revision_of c ≡ 1) (accepted : is_accepted (answer_of (Revert name) c) ≡ true) where
  e : RevertPassed c name
  e = revert_passed c name accepted

  one : eqb (revision_of c) 1 ≡ true
  one = rw revision

  abbrev ds : List Descriptor
  ds = descriptors_of c

  abbrev xs : List Descriptor
  xs = before (snapshots_of ds) name

  abbrev ys : List Descriptor
  ys = behind (snapshots_of ds) name ++ (active_of ds ∷ [])

  abbrev v : Descriptor
  v = with_name (snapshots_of ds) name

  abbrev w : Descriptor
  w = activated_of v (active_of ds).name

  abbrev t : List ℕ
  t = store_all c (revert_stores c name)

  card_is : (step (Revert name) c).card ≡ t
  card_is = revert_card c name accepted

  sound_c : chain c ≡ Sound ds
  sound_c = chain_is (chain c) e.sound

  rise : v.alpha.0 < v.beta.0
  rise = (visit_below c name e).0

  long : v.alpha.0 + cost_of v ≤ v.beta.0
  long = member_long c ds xs v ys sound_c (revert_split c name e)

  t_is : t ≡ store_all c (reopening c w [])
  t_is = ap (store_all c) (stores_open c name e one)

  kept_block : (q : ℕ) → q < v.beta.0 → block_at t q ≡ block_at c q
  kept_block q h = sym ((below_visit c name e one).blocks q h)

  past_block : (q : ℕ) → v.beta.0 + cost_of v ≤ q → block_at t q ≡ block_at c q
  past_block q h = ap (λ (x : List ℕ). block_at x q) t_is ∙ reopening_past c w rise (visit_bytes c name e) (called_long c name e) q h

  table_block : (i : ℕ) → i + 1 < cost_of v → block_at t (v.beta.0 + 1 + i) ≡ block_at c (v.alpha.0 + 1 + i)
  table_block i h = ap (λ (x : List ℕ). block_at x (v.beta.0 + 1 + i)) t_is ∙ reopening_table c w rise (visit_bytes c name e) (called_long c name e) i h

  -- the chain
  after_is : descriptors_of t ≡ (xs ++ (v ∷ [])) ++ (reopened_of w ∷ [])
  after_is = descriptors_are t (xs ++ (v ∷ reopened_of w ∷ [])) (reverted_1 c name e one) ∙ sym (append_snoc xs v (reopened_of w ∷ []))

  active_is : active_of (descriptors_of t) ≡ reopened_of w
  active_is = ap active_of after_is ∙ active_snoc (xs ++ (v ∷ [])) (reopened_of w)

  snapshots_are : snapshots_of (descriptors_of t) ≡ xs ++ (v ∷ [])
  snapshots_are = ap snapshots_of after_is ∙ snapshots_snoc (xs ++ (v ∷ [])) (reopened_of w)

  v_name : v.name ≡ name
  v_name = with_name_is (snapshots_of ds) name e.there

  v_same : same v.name name ≡ true
  v_same = ap (λ (n : List ℕ). same n name) v_name ∙ same_self name

  listed_there : named (snapshots_of (descriptors_of t)) name ≡ true
  listed_there = ap (λ (ss : List Descriptor). named ss name) snapshots_are ∙ named_append xs (v ∷ []) name ∙ rw (named_one v name, v_same) (or_true (named xs name))

  fresh : named xs name ≡ false
  fresh = subst (λ (n : List ℕ). named xs n ≡ false) v_name (member_fresh c ds xs v ys sound_c (revert_split c name e))

  visit_is : with_name (snapshots_of (descriptors_of t)) name ≡ v
  visit_is = ap (λ (ss : List Descriptor). with_name ss name) snapshots_are ∙ with_snoc v name v_same xs fresh

  -- the bytes of v's block
  v_inside : 512 * v.alpha.0 + 512 ≤ length c
  v_inside = member_inside c ds xs v ys sound_c (revert_split c name e)

  v_block : block_at c v.alpha.0 ≡ descriptor_block v (tail_at c v.alpha.0)
  v_block =
      sym (block_back c v.alpha.0 bytes v_inside (form_mark c v.alpha.0 v (member_form c ds xs v ys sound_c (revert_split c name e))))
      ∙ ap (λ (d : Descriptor). descriptor_block d (tail_at c v.alpha.0)) (sym (member_is c ds xs v ys sound_c (revert_split c name e)))

  byte_in_lem : (x : List ℕ) (p i : ℕ) → i < 512 → get_or x (512 * p + i) 0 ≡ get_or (block_at x p) i 0
  unfolding block_at
  byte_in_lem x p i h = sym (part_at x (512 * p) 512 i h)

  other_bytes : (i : ℕ) → (i < 12) ⊎ ((40 ≤ i) × (i < 512)) → i < 512 → get_or t (512 * v.beta.0 + i) 0 ≡ get_or c (512 * v.alpha.0 + i) 0
  other_bytes i h l =
      byte_in_lem t v.beta.0 i l
      ∙ ap (λ (b : List ℕ). get_or b i 0) (new_block c name e one)
      ∙ block_others (reopened_of w) v (tail_at c v.alpha.0) refl refl (called_long c name e) (name_size_lem v.name (member_name c ds xs v ys sound_c (revert_split c name e))) i h
      ∙ ap (λ (b : List ℕ). get_or b i 0) (sym v_block)
      ∙ sym (byte_in_lem c v.alpha.0 i l)

  few : (i : ℕ) → (i < 12) ⊎ ((40 ≤ i) × (i < 512)) → i < 512
  few i (inl h) = omega arith
  few i (inr h) = h.1

  -- the same revert again
  passed_again : RevertPassed t name
  passed_again =
      record { area = sym (area_kept c t (same_long c name e)) ∙ e.area; sound = is_sound t (xs ++ (v ∷ reopened_of w ∷ [])) (reverted_1 c name e one); called = e.called; there = listed_there }

  again_card : store_all t (revert_stores t name) ≡ t
  again_card =
      again_same t name passed_again (ap (λ (r : ℕ). eqb r 1) (reverted_revision c name e) ∙ one) w
      (ap (λ (d : Descriptor). activated_of d (active_of (descriptors_of t)).name) visit_is ∙ ap (λ (d : Descriptor). activated_of v d.name) active_is)
      (new_block c name e one ∙ ap (descriptor_block (reopened_of w)) (sym tail_is))
      (λ i h. table_block i h ∙ sym (kept_block (v.alpha.0 + 1 + i) (omega (arith, long))))
      (card_even t passed_again.area)
    where
      tail_is : tail_at t v.alpha.0 ≡ tail_at c v.alpha.0
      tail_is = ap (λ (x : List ℕ). tail_at x v.alpha.0) t_is ∙ reopening_tail c w rise (visit_bytes c name e) (called_long c name e)

  accepted_again : is_accepted (answer_of (Revert name) t) ≡ true
  accepted_again = ap is_accepted (revert_accepted t name passed_again)

  survives : Survives c name
  survives =
      record {
        kept = λ j h. rw card_is (byte_shared t c j (kept_block (j / 512) (omega arith)));
        rest = λ j h. rw card_is (byte_shared t c j (past_block (j / 512) (omega arith)));
        tables = λ i h. rw card_is (table_block i h);
        opened = rw (card_is, active_is) (refl, refl, refl, refl);
        others = λ i h. rw card_is (other_bytes i h (few i h));
        listed = rw card_is listed_there;
        again = rw card_is (accepted_again, revert_card t name accepted_again ∙ again_card);
      }

pub survives_claim : SurvivesClaim
unfolding SurvivesClaim
survives_claim c name bytes revision accepted = survives c name bytes revision accepted

-- two answers with other numbers are not the same
other : {A : Type 0} (n : ℕ) → answer n 0 ≡ answer 17 0 → (n ≡ 17 → ⊥) → A
other n e f = absurd (f (ap (λ (a : Answer). a.number) e))

either_layout : (l : ℕ) → (eqb l 1 || eqb l 2) ≡ true → (l ≡ 1) ⊎ (l ≡ 2)
either_layout l = by (eqb l 1) (eqb l 2) refl refl
  where
    by : (x y : Bool) → eqb l 1 ≡ x → eqb l 2 ≡ y → (x || y) ≡ true → (l ≡ 1) ⊎ (l ≡ 2)
    by true y e f h = inl (eqb-true l 1 e)
    by false true e f h = inr (eqb-true l 2 f)
    by false false e f h = no h

layout_is : (l : ℕ) → (l ≡ 1) ⊎ (l ≡ 2) → (eqb l 1 || eqb l 2) ≡ true
layout_is l (inl e) = rw e
layout_is l (inr e) = rw e

no_revision : (r : ℕ) → revision_ok r ≡ false → 2 ≤ r
no_revision r h = by (ltb r 2) refl
  where
    by : (z : Bool) → ltb r 2 ≡ z → 2 ≤ r
    by true e = no (sym h ∙ small_revision r (omega (arith, ltb-true r 2 e)))
    by false e = ltb-false r 2 e

-- the numbers that a revert can give
number_by : (a n y s : Bool) (p : ℕ) → (first_row (row a 1 0 ∷ row n 4 0 ∷ row y 6 p ∷ row s 7 0 ∷ [])).number ≤ 7
unfolding first_row
number_by true n y s p = omega arith
number_by false true y s p = omega arith
number_by false false true s p = omega arith
number_by false false false true p = omega arith
number_by false false false false p = omega arith

number_small : (c name : List ℕ) → (answer_of (Revert name) c).number ≤ 7
unfolding answer_of rows_of admission revert_rows
number_small c name = number_by _ _ _ _ _

pub room_at_visit_claim : RoomAtVisitClaim
unfolding RoomAtVisitClaim beta_of
room_at_visit_claim c name = (
  λ ok there.
      let ds = descriptors_of c in
      let is = chain_is (chain c) ok in
      (visit_room c ds is name there, active_end c ds is, omega (arith, index_below (snapshots_of ds) name there, snapshots_few c ds is)),
  (
    λ e. let p = revert_passed c name (ap is_accepted e) in (p.area, p.called, p.sound, p.there),
    λ h. revert_accepted c name (record { area = h.0; called = h.1; sound = h.2; there = h.3 }),
  ),
  λ n. omega (arith, n, number_small c name),
  λ n. omega (arith, n, number_small c name),
)

-- a ream's 17: by the rows before it and its own
revision_by : (a l z v r n k : Bool) → first_row (row a 1 0 ∷ row (not l) 2 0 ∷ row (z || v) 3 0 ∷ row (not r) 17 0 ∷ row (not n) 4 0 ∷ row k 5 0 ∷ []) ≡ answer 17 0
    → (a ≡ false) × (l ≡ true) × (z ≡ false) × (v ≡ false) × (r ≡ false)
unfolding first_row
revision_by true l z v r n k e = other 1 e (λ q. omega (arith, q))
revision_by false false z v r n k e = other 2 e (λ q. omega (arith, q))
revision_by false true true v r n k e = other 3 e (λ q. omega (arith, q))
revision_by false true false true r n k e = other 3 e (λ q. omega (arith, q))
revision_by false true false false false n k e = (refl, refl, refl, refl, refl)
revision_by false true false false true false k e = other 4 e (λ q. omega (arith, q))
revision_by false true false false true true true e = other 5 e (λ q. omega (arith, q))
revision_by false true false false true true false e = other 0 e (λ q. omega (arith, q))

pub revision_claim : RevisionClaim
unfolding RevisionClaim answer_of rows_of admission ream_rows first_row
revision_claim c format = (
  λ e.
      let h = revision_by (area_bad c) (eqb format.layout 1 || eqb format.layout 2) (eqb format.volume 0) (ltb 14336 format.volume) (revision_ok format.revision) (is_name format.name) (ltb (block_count c) (cost_in format)) e in
      (h.0, either_layout format.layout h.1, omega (arith, eqb-false format.volume 0 h.2), ltb-false 14336 format.volume h.3, no_revision format.revision h.4),
  λ h. rw (h.0, layout_is format.layout h.1, ne_eqb format.volume 0 (omega (arith, h.2)), le-ltb 14336 format.volume h.3, revision_large format.revision h.4),
)

pub staying_claim : StayingClaim
unfolding StayingClaim staying
staying_claim i = (refl, refl)

pub as_after_snap_claim : AsAfterSnapClaim
unfolding AsAfterSnapClaim staying
as_after_snap_claim s ks bytes ok revision standing k v reverted i latest =
    subst (λ (r : ℕ). Agree (after (take (suc k) ks) s) (after (take (staying r i) ks) s)) revision
    (as_then s ks ok standing k v reverted i (latest_at v s (take k ks) i latest) (bytes_run (take i ks) s bytes (standing_take s ks i standing)))
