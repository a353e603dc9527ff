-- What the rollback claim rests on: a revert to a snapshot that stands agrees with the card before its snap, on revision 1 with the card after it, and so do
-- the runs from there.
use mathlib.Core.Path.{◌≡◌, refl, sym, ap, ◌∙◌, subst}
use mathlib.Core.Logic.{◌⊎◌, inl, inr}
use mathlib.Core.Bool.{Bool, true, false, ◌||◌}
use mathlib.Core.List.{List, [], ◌∷◌, ◌++◌, append-nil}
use Prim.Native.Nat.{ℕ, suc, ◌+◌, ◌*◌, ◌-◌, ◌≤◌, ◌<◌}
use native.Mathlib.Omega.{arith}
use lib.ListN.{length, take, drop, get_or, take-append-drop, length-append, length-drop}
use lib.Dec.{eqb, ltb}
use borrow.Author.Tests.{ltb-true, ltb-false}
use lib.Seq.{take-append_seam, take-append-add, get_or-append_seam, take-take, take-suc, drop-cons, length-take-le}
use Rattle.blocks.specs.Pick.{pick, same}
use Rattle.blocks.specs.Bytes.{block_at, store, store_all}
use Rattle.blocks.specs.Descriptor.{no_descriptor, cost_of, revision_of, tail_at, descriptor_block, renamed_of, linked_of, reopened_of, copying, reopening}
use Rattle.chains.specs.Chain.{Sound, chain, chain_sound, named, active_of, index_of}
use Rattle.blocks.specs.declared.descriptor.Descriptor.{Descriptor}
use Rattle.blocks.proofs.BoolLaws.{no}
use Rattle.blocks.proofs.ListLaws.{same_equal, same_self}
use Rattle.chains.proofs.NamedLaws.{named_none, named_cons, index_at}
use Rattle.links.proofs.ChainLaws.{active_snoc, descriptors_are, is_sound}
use Rattle.calls.specs.Call.{Call, Revert, Check}
use Rattle.calls.specs.Parts.{descriptors_of, snapshots_of, with_name}
use Rattle.calls.specs.Stores.{activated_of, reverting, snap_stores, revert_stores, staying}
use Rattle.calls.specs.Meaning.{answer_of, stores_of}
use Rattle.calls.specs.Step.{step, after, is_accepted}
use Rattle.claims.specs.History.{beta_of, Agree, AreBytes, Standing, without, is_snap_of}
use Rattle.claims.specs.Claims.{Unsnapped, LastSnap, Matched, RevertedAt}
use Rattle.links.proofs.SharedLaws.{shared_bytes, shared_revision}
use Rattle.calls.proofs.CardLaws.{chain_is, area_kept}
use Rattle.calls.proofs.StepLaws.{accepted_card, after_append}
use Rattle.blocks.proofs.StoreLists.{Whole, is_stored, stored_length, stored_both, stored_anyway, blocks_taken_lem, copying_same}
use Rattle.blocks.proofs.DescriptorLaws.{cost_least}
use Rattle.claims.proofs.Kept.{Stands, stands_snapshots, stands_active}
use Rattle.claims.proofs.AgreeStep.{agree_step}
use Rattle.claims.proofs.Latest.{gone_run, stands_run}
use Rattle.claims.proofs.Runs.{standing_length, standing_take, standing_drop, after_length, matched_from, without_drop, without_take}
use Rattle.claims.proofs.Undone.{undone, undone_passed, unchanged}
use Rattle.claims.proofs.SoundStep.{revision_run}
use Rattle.calls.proofs.Passed.{SnapPassed, RevertPassed, revert_passed, revert_accepted}
use Rattle.claims.specs.Kinds.{Kind, Snaps, kind_of}
use Rattle.claims.proofs.Changes.{stores_by, Allowed, to_snap, snap_kind}
use Rattle.claims.proofs.Owed.{owed}
use Rattle.links.proofs.MemberLaws.{member_fresh, member_inside, member_rise, member_long}
use Rattle.changes.proofs.WholeLaws.{revert_whole}
use Rattle.calls.proofs.VisitLaws.{before, behind}
use Rattle.changes.proofs.RevertedChain.{returned_of, revert_split, reverted_chain, revert_covers}
use Rattle.changes.proofs.SnappedChain.{snapped_chain}

-- v stands on t: a revert to it leaves the descriptors before it, on revision 1 v too, and then the one that is active
module _ (s : List ℕ) (xs : List Descriptor) (v : Descriptor) (n t : List ℕ) (h : Stands s xs v n t) (e : RevertPassed t v.name) where
  abbrev w : Descriptor
  w = activated_of v n

  fresh : named xs v.name ≡ false
  fresh = member_fresh t (xs ++ (v ∷ h.rest)) xs v h.rest h.is refl

  index_is : index_of (snapshots_of (descriptors_of t)) v.name ≡ length xs
  index_is = ap (λ (ss : List Descriptor). index_of ss v.name) (stands_snapshots s xs v n t h) ∙ index_at xs v (snapshots_of h.rest) v.name fresh (same_self v.name)

  with_is : with_name (snapshots_of (descriptors_of t)) v.name ≡ v
  with_is =
      ap (λ (j : ℕ). get_or (snapshots_of (descriptors_of t)) j no_descriptor) index_is
      ∙ ap (λ (ss : List Descriptor). get_or ss (length xs) no_descriptor) (stands_snapshots s xs v n t h)
      ∙ get_or-append_seam xs v (snapshots_of h.rest) no_descriptor

  name_is : (active_of (descriptors_of t)).name ≡ n
  name_is = ap (λ (d : Descriptor). d.name) (stands_active s xs v n t h) ∙ h.active

  -- those that stay
  stay_by : (z : Bool) (zs : List Descriptor) → take (pick z (suc (length xs)) (length xs)) (xs ++ (v ∷ zs)) ≡ xs ++ pick z (v ∷ []) []
  stay_by true zs = let q : suc (length xs) ≡ length xs + 1 = omega arith in ap (λ (k : ℕ). take k (xs ++ (v ∷ zs))) q ∙ take-append-add xs (v ∷ zs) 1
  stay_by false zs = take-append_seam xs (v ∷ zs) ∙ sym (append-nil xs)

  stay_is : take (staying (revision_of t) (index_of (snapshots_of (descriptors_of t)) v.name)) (snapshots_of (descriptors_of t)) ≡ xs ++ pick (eqb (revision_of t) 1) (v ∷ []) []
  unfolding staying
  stay_is =
      ap (λ (k : ℕ). take (pick (eqb (revision_of t) 1) (suc k) k) (snapshots_of (descriptors_of t))) index_is
      ∙ ap (λ (ss : List Descriptor). take (pick (eqb (revision_of t) 1) (suc (length xs)) (length xs)) ss) (stands_snapshots s xs v n t h)
      ∙ stay_by (eqb (revision_of t) 1) (snapshots_of h.rest)

  made_is : returned_of (revision_of t) (with_name (snapshots_of (descriptors_of t)) v.name) (active_of (descriptors_of t)).name ≡ returned_of (revision_of t) v n
  made_is =
      ap (λ (m : List ℕ). returned_of (revision_of t) (with_name (snapshots_of (descriptors_of t)) v.name) m) name_is
      ∙ ap (λ (d : Descriptor). returned_of (revision_of t) d n) with_is

  back_chain : chain (store_all t (revert_stores t v.name)) ≡ Sound ((xs ++ pick (eqb (revision_of t) 1) (v ∷ []) []) ++ (returned_of (revision_of t) v n ∷ []))
  back_chain =
      reverted_chain t v.name e
      ∙ ap (λ (ys : List Descriptor). Sound (ys ++ (returned_of (revision_of t) (with_name (snapshots_of (descriptors_of t)) v.name) (active_of (descriptors_of t)).name ∷ []))) stay_is
      ∙ ap (λ (d : Descriptor). Sound ((xs ++ pick (eqb (revision_of t) 1) (v ∷ []) []) ++ (d ∷ []))) made_is

  back_stores : revert_stores t v.name ≡ pick (eqb (revision_of t) 1) (reopening t w []) (store v.alpha.0 (descriptor_block w (tail_at t v.alpha.0)) ∷ [])
  unfolding revert_stores reverting
  back_stores =
      ap (λ (d : Descriptor). reverting t d (active_of (descriptors_of t)).name) with_is
      ∙ ap (λ (m : List ℕ). reverting t v m) name_is

  back_inside : 512 * v.alpha.0 + 512 ≤ length t
  back_inside = member_inside t (xs ++ (v ∷ h.rest)) xs v h.rest h.is refl

  back_low : v.alpha.0 < v.beta.0
  back_low = member_rise t (xs ++ (v ∷ h.rest)) xs v h.rest h.is refl

  back_long : v.alpha.0 + cost_of v ≤ v.beta.0
  back_long = member_long t (xs ++ (v ∷ h.rest)) xs v h.rest h.is refl

  -- every block from v's beta up to where the active region ends then is stored
  back_covers : (q : ℕ) → v.beta.0 ≤ q → q < (returned_of (revision_of t) v n).beta.0 → is_stored (revert_stores t v.name) q ≡ true
  back_covers q a b =
      revert_covers t v.name e q (omega (arith, a, ap (λ (d : Descriptor). d.beta.0) with_is)) (omega (arith, b, ap (λ (d : Descriptor). d.beta.0) made_is))

-- two cards on which v stands agree after a revert to it
beta_of_lem : (c : List ℕ) (ds : List Descriptor) → chain c ≡ Sound ds → beta_of c ≡ (active_of ds).beta.0
unfolding beta_of
beta_of_lem c ds e = ap (λ (xs : List Descriptor). (active_of xs).beta.0) (descriptors_are c ds e)

module _ (s : List ℕ) (xs : List Descriptor) (v : Descriptor) (n t : List ℕ) (at_s : Stands s xs v n s) (at_t : Stands s xs v n t)
    (in_s : RevertPassed s v.name) (in_t : RevertPassed t v.name) where
  low : v.alpha.0 < v.beta.0
  low = back_low s xs v n t at_t in_t

  same_revision : revision_of t ≡ revision_of s
  same_revision =
      let a = back_inside s xs v n s at_s in_s in
      let b = back_inside s xs v n t at_t in_t in
      sym (shared_revision s t 0 (omega (arith, a)) (omega (arith, b)) (at_t.blocks 0 (omega (arith, low))))

  same_tail : tail_at s v.alpha.0 ≡ tail_at t v.alpha.0
  same_tail = shared_bytes s t v.alpha.0 (back_inside s xs v n s at_s in_s) (back_inside s xs v n t at_t in_t) (at_t.blocks v.alpha.0 low) 40 472 (omega arith)

  same_copies : copying t (v.alpha.0 + 1) (v.beta.0 + 1) (cost_of v - 1) ≡ copying s (v.alpha.0 + 1) (v.beta.0 + 1) (cost_of v - 1)
  same_copies = sym (copying_same s t v.beta.0 at_t.blocks (v.alpha.0 + 1) (v.beta.0 + 1) (cost_of v - 1) (omega (arith, back_long s xs v n t at_t in_t, cost_least v.layout v.volume)))

  same_stores : revert_stores t v.name ≡ revert_stores s v.name
  same_stores =
      back_stores s xs v n t at_t in_t
      ∙ rw (same_revision, ← same_tail, same_copies)
      (sym (back_stores s xs v n s at_s in_s))

  abbrev after_t : List ℕ
  after_t = store_all t (revert_stores t v.name)

  abbrev after_s : List ℕ
  after_s = store_all s (revert_stores s v.name)

  abbrev stay : List Descriptor
  stay = xs ++ pick (eqb (revision_of s) 1) (v ∷ []) []

  abbrev made : Descriptor
  made = returned_of (revision_of s) v n

  whole_t : Whole (length t) (revert_stores t v.name)
  whole_t = revert_whole t v.name in_t

  chain_t : chain after_t ≡ Sound (stay ++ (made ∷ []))
  chain_t =
      subst (λ (r : ℕ). chain after_t ≡ Sound ((xs ++ pick (eqb r 1) (v ∷ []) []) ++ (returned_of r v n ∷ []))) same_revision (back_chain s xs v n t at_t in_t)

  beta_is : (c : List ℕ) → chain c ≡ Sound (stay ++ (made ∷ [])) → beta_of c ≡ made.beta.0
  beta_is c q = beta_of_lem c (stay ++ (made ∷ [])) q ∙ ap (λ (d : Descriptor). d.beta.0) (active_snoc stay made)

  covers : (p : ℕ) → v.beta.0 ≤ p → p < made.beta.0 → is_stored (revert_stores t v.name) p ≡ true
  covers p a b = back_covers s xs v n t at_t in_t p a (subst (λ (r : ℕ). p < (returned_of r v n).beta.0) (sym same_revision) b)

  block_by : (p : ℕ) → p < made.beta.0 → (z : Bool) → ltb p v.beta.0 ≡ z → block_at after_t p ≡ block_at after_s p
  block_by p l true z = rw (← same_stores) (stored_both (length t) p t s refl at_t.long whole_t (sym (at_t.blocks p (ltb-true p v.beta.0 z))))
  block_by p l false z = rw (← same_stores) (stored_anyway (length t) p t s refl at_t.long whole_t (covers p (ltb-false p v.beta.0 z) l))

  back_agree : Agree (store_all t (revert_stores t v.name)) (store_all s (revert_stores s v.name))
  back_agree =
      let cs = back_chain s xs v n s at_s in_s in
      record {
        long = stored_length (length t) t refl whole_t ∙ sym at_t.long ∙ sym (stored_length (length s) s refl (revert_whole s v.name in_s));
        sound = is_sound after_t (stay ++ (made ∷ [])) chain_t;
        sound' = is_sound after_s (stay ++ (made ∷ [])) cs;
        beta = beta_is after_t chain_t ∙ sym (beta_is after_s cs);
        below = rw (beta_is after_t chain_t) (blocks_taken_lem after_t after_s made.beta.0 (λ p l. block_by p l (ltb p v.beta.0) refl));
      }

agree_trans : (a b c : List ℕ) → Agree a b → Agree b c → Agree a c
agree_trans a b c x y =
    record {
      long = x.long ∙ y.long;
      sound = x.sound;
      sound' = y.sound';
      beta = x.beta ∙ y.beta;
      below = x.below ∙ subst (λ (m : ℕ). take (512 * m) b ≡ take (512 * m) c) (sym x.beta) y.below;
    }

-- a snapshot of a name stands on its own card
pub with_name_is : (ss : List Descriptor) (n : List ℕ) → named ss n ≡ true → (with_name ss n).name ≡ n
unfolding index_of
with_name_is [] n h = no (sym (named_none n) ∙ h)
with_name_is (d ∷ ss) n h = name_by d ss n (same d.name n) refl (sym (named_cons d ss n) ∙ h) (with_name_is ss n)
  where
    name_by : (d : Descriptor) (ss : List Descriptor) (n : List ℕ) (z : Bool) → same d.name n ≡ z → (z || named ss n) ≡ true → (named ss n ≡ true → (with_name ss n).name ≡ n) → (get_or (d ∷ ss) (pick z 0 (suc (index_of ss n))) no_descriptor).name ≡ n
    name_by d ss n true e h f = same_equal d.name n e
    name_by d ss n false e h f = f h

-- the card after an accepted revert
pub revert_card : (c name : List ℕ) → is_accepted (answer_of (Revert name) c) ≡ true → (step (Revert name) c).card ≡ store_all c (revert_stores c name)
unfolding stores_of
revert_card c name e = accepted_card (Revert name) c e

-- the facts of a snap
snap_facts : {c name : List ℕ} → Allowed c (Snaps name) → SnapPassed c name
snap_facts (to_snap h) = h

-- the card at the end of a list with a revert that is accepted there
after_one : (ks : List Call) (k : ℕ) (x : Call) (c : List ℕ) → k < length ks → get_or ks k Check ≡ x → after (take (suc k) ks) c ≡ (step x (after (take k ks) c)).card
unfolding after
after_one ks k x c l q = ap (λ (js : List Call). after js c) (take-suc ks k Check l) ∙ after_append (take k ks) (get_or ks k Check ∷ []) c ∙ ap (λ (y : Call). (step y (after (take k ks) c)).card) q

-- the visit stands on the starting card
module _ (s : List ℕ) (ks : List Call) (sound_s : chain_sound (chain s) ≡ true) (standing : Standing s ks) (k : ℕ) (v : List ℕ) (reverted : RevertedAt s ks k v) where
  abbrev t : List ℕ
  t = after (take k ks) s

  there : RevertPassed t v
  there = revert_passed t v reverted.accepted_there

  t_long : length t ≡ length s
  t_long = after_length (take k ks) s

  t_named : named (snapshots_of (descriptors_of t)) v ≡ true
  t_named = there.there

  t_after : after (take (suc k) ks) s ≡ store_all t (revert_stores t v)
  t_after = after_one ks k (Revert v) s reverted.inside reverted.is ∙ revert_card t v reverted.accepted_there

  not_gone : {A : Type 0} → named (snapshots_of (descriptors_of t)) v ≡ false → A
  not_gone g = no (sym g ∙ t_named)

  module _ (unsnapped : Unsnapped v s (take k ks)) where
    named_by : (z : Bool) → named (snapshots_of (descriptors_of s)) v ≡ z → z ≡ true
    named_by true q = refl
    named_by false q = not_gone (gone_run v (take k ks) s q (standing_take s ks k standing) unsnapped)

    pub s_named : named (snapshots_of (descriptors_of s)) v ≡ true
    s_named = let z = named (snapshots_of (descriptors_of s)) v in named_by z refl

    s_passed : RevertPassed s v
    s_passed = record { area = area_kept s t (sym t_long) ∙ there.area; sound = sound_s; called = there.called; there = s_named }

    pub s_accepted : is_accepted (answer_of (Revert v) s) ≡ true
    s_accepted = ap is_accepted (revert_accepted s v s_passed)

    abbrev ss : List Descriptor
    ss = snapshots_of (descriptors_of s)

    abbrev d : Descriptor
    d = with_name ss v

    d_name : d.name ≡ v
    d_name = with_name_is ss v s_named

    abbrev n : List ℕ
    n = (active_of (descriptors_of s)).name

    start : Stands s (before ss v) d n s
    start =
        record {
          long = refl;
          rest = behind ss v ++ (active_of (descriptors_of s) ∷ []);
          some = omega (arith, length-append (behind ss v) (active_of (descriptors_of s) ∷ []));
          is = chain_is (chain s) sound_s ∙ ap Sound (revert_split s v s_passed);
          active = ap (λ (x : Descriptor). x.name) (active_snoc (behind ss v) (active_of (descriptors_of s)));
          blocks = λ p l. refl;
        }

    back_by : Stands s (before ss v) d n t ⊎ (named (snapshots_of (descriptors_of t)) d.name ≡ false) → Agree (store_all t (revert_stores t v)) (store_all s (revert_stores s v))
    back_by (inl h) =
        subst (λ (m : List ℕ). Agree (store_all t (revert_stores t m)) (store_all s (revert_stores s m))) d_name
        (back_agree s (before ss v) d n t start h (subst (λ (m : List ℕ). RevertPassed s m) (sym d_name) s_passed) (subst (λ (m : List ℕ). RevertPassed t m) (sym d_name) there))
    back_by (inr g) = not_gone (subst (λ (m : List ℕ). named (snapshots_of (descriptors_of t)) m ≡ false) d_name g)

    start_agree : Agree (store_all t (revert_stores t v)) (store_all s (revert_stores s v))
    start_agree = back_by (stands_run s (before ss v) d n (take k ks) s start (standing_take s ks k standing) (subst (λ (m : List ℕ). Unsnapped m s (take k ks)) (sym d_name) unsnapped))

    first_after : after (take 1 (drop k ks)) s ≡ store_all s (revert_stores s v)
    unfolding after
    first_after =
        ap (λ (js : List Call). after (take 1 js) s) (drop-cons ks k Check reverted.inside)
        ∙ ap (λ (x : Call). (step x s).card) reverted.is
        ∙ revert_card s v s_accepted

    pub forgets_start : Matched s ks (suc k) (drop k ks) 1
    forgets_start =
        matched_from agree_step s ks (suc k) (drop k ks) 1 standing (omega (arith, reverted.inside)) (simp length-drop (omega (arith, reverted.inside)))
        (ap (λ (js : List Call). drop 1 js) (sym (drop-cons ks k Check reverted.inside)))
        (rw (t_after, first_after) start_agree)

  -- the visit's latest accepted snap is at i
  module _ (i : ℕ) (l : LastSnap v s (take k ks) i) where
    taken : length (take k ks) ≡ k
    taken = length-take-le k ks (omega (arith, reverted.inside))

    pub earlier : i < k
    earlier = omega (arith, l.inside, taken)

    abbrev c : List ℕ
    c = after (take i ks) s

    c_is : after (take i (take k ks)) s ≡ c
    c_is = ap (λ (js : List Call). after js s) (take-take i k ks (omega (arith, earlier)))

    abbrev call : Call
    call = get_or (take k ks) i Check

    kind_is : kind_of call ≡ Snaps v
    unfolding is_snap_of
    kind_is = snap_kind v (kind_of call) l.is

    accepted_c : is_accepted (answer_of call c) ≡ true
    accepted_c = subst (λ (x : List ℕ). is_accepted (answer_of call x) ≡ true) c_is l.accepted_there

    snapped : SnapPassed c v
    snapped = snap_facts (subst (λ (x : Kind). Allowed c x) kind_is ((owed call).allowed c accepted_c))

    abbrev c' : List ℕ
    c' = store_all c (snap_stores c v)

    c'_is : after (take (suc i) (take k ks)) s ≡ c'
    unfolding stores_by
    c'_is =
        after_one (take k ks) i call s l.inside refl
        ∙ ap (λ (x : List ℕ). (step call x).card) c_is
        ∙ accepted_card call c accepted_c
        ∙ ap (store_all c) ((owed call).stores c)
        ∙ ap (λ (x : Kind). store_all c (stores_by x c)) kind_is

    abbrev js : List Call
    js = drop (suc i) (take k ks)

    t_is : after js c' ≡ t
    t_is =
        ap (after js) (sym c'_is)
        ∙ sym (after_append (take (suc i) (take k ks)) js s)
        ∙ ap (λ (xs : List Call). after xs s) (take-append-drop (suc i) (take k ks))

    c'_long : length s ≡ length c'
    c'_long = sym (ap length (sym c'_is) ∙ after_length (take (suc i) (take k ks)) s)

    abbrev a : Descriptor
    a = active_of (descriptors_of c)

    abbrev old : Descriptor
    old = linked_of (renamed_of a v) a.beta

    made_there : Stands c' (snapshots_of (descriptors_of c)) old a.name c'
    made_there =
        record {
          long = refl;
          rest = reopened_of a ∷ [];
          some = omega arith;
          is = snapped_chain c v snapped;
          active = ap (λ (x : Descriptor). x.name) (active_snoc [] (reopened_of a));
          blocks = λ p h. refl;
        }

    kept_by : Stands c' (snapshots_of (descriptors_of c)) old a.name t ⊎ (named (snapshots_of (descriptors_of t)) v ≡ false) → Agree (store_all t (revert_stores t v)) (store_all c' (revert_stores c' v))
    kept_by (inl h) = back_agree c' (snapshots_of (descriptors_of c)) old a.name t made_there h (undone_passed c v snapped) there
    kept_by (inr g) = not_gone g

    still : Agree (store_all t (revert_stores t v)) (store_all c' (revert_stores c' v))
    still =
        kept_by
        (subst (λ (x : List ℕ). Stands c' (snapshots_of (descriptors_of c)) old a.name x ⊎ (named (snapshots_of (descriptors_of x)) v ≡ false)) t_is
        (stands_run c' (snapshots_of (descriptors_of c)) old a.name js c' made_there
        (standing_length s c' c'_long js (standing_drop s (take k ks) (suc i) (standing_take s ks k standing)))
        (subst (λ (x : List ℕ). Unsnapped v x js) c'_is l.later)))

    -- the revision is that of the start
    c_revision : revision_of c ≡ revision_of s
    c_revision = revision_run (take i ks) s sound_s (standing_take s ks i standing)

    later_is : after (take (suc i) ks) s ≡ c'
    later_is = sym (ap (λ (js : List Call). after js s) (take-take (suc i) k ks (omega (arith, earlier)))) ∙ c'_is

    -- the card after the calls that stay
    back_to : AreBytes c → (z : Bool) → eqb (revision_of s) 1 ≡ z → Agree (store_all t (revert_stores t v)) (after (take (pick z (suc i) i) ks) s)
    back_to bytes true z =
        rw later_is (agree_trans (store_all t (revert_stores t v)) (store_all c' (revert_stores c' v)) c' still (unchanged c v snapped (ap (λ (r : ℕ). eqb r 1) c_revision ∙ z)))
    back_to bytes false z =
        agree_trans (store_all t (revert_stores t v)) (store_all c' (revert_stores c' v)) c still (undone c v bytes snapped (ap (λ (r : ℕ). eqb r 1) c_revision ∙ z))

    abbrev stays : ℕ
    stays = staying (revision_of s) i

    stays_by : (z : Bool) → pick z (suc i) i ≤ k
    stays_by true = omega (arith, earlier)
    stays_by false = omega (arith, earlier)

    stays_below : stays ≤ k
    unfolding staying
    stays_below = stays_by (eqb (revision_of s) 1)

    pub as_then : AreBytes (after (take i ks) s) → Agree (after (take (suc k) ks) s) (after (take (staying (revision_of s) i) ks) s)
    unfolding staying
    as_then bytes = rw t_after (back_to bytes (eqb (revision_of s) 1) refl)

    without_long : stays ≤ length (without ks stays k)
    unfolding without
    without_long = omega (arith, length-append (take stays ks) (drop (suc k) ks), length-take-le stays ks (omega (arith, stays_below, reverted.inside)))

    pub forgets_snap : AreBytes (after (take i ks) s) → Matched s ks (suc k) (without ks (staying (revision_of s) i) k) (staying (revision_of s) i)
    forgets_snap bytes =
        matched_from agree_step s ks (suc k) (without ks stays k) stays standing (omega (arith, reverted.inside)) without_long (sym (without_drop ks stays k stays_below reverted.inside))
        (rw (without_take ks stays k stays_below reverted.inside) (as_then bytes))
