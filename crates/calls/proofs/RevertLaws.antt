-- Laws of the revert, as the code asks them.
use mathlib.Core.Path.{◌≡◌, refl, sym, ap, ◌∙◌}
use mathlib.Core.Bool.{true, false, not}
use mathlib.Core.List.{List, [], ◌∷◌, ◌++◌}
use Prim.Native.Nat.{ℕ, ◌+◌, ◌*◌, ◌-◌, ◌/◌, ◌≤◌, ◌<◌}
use native.Mathlib.Omega.{arith}
use lib.ListN.{length, length-take, take, drop, get_or}
use lib.Dec.{eqb}
use borrow.Author.Tests.{eq-eqb, ne_eqb}
use Rattle.std.specs.Prelude.{Option, Some, IfSome, is_some, unwrap_or, ok_or, Result, Ok, Err}
use Rattle.std.specs.Prelude.{None as Nothing}
use Rattle.blocks.specs.Pick.{pick}
use Rattle.blocks.specs.Bytes.{block_count, store, store_block, store_all}
use Rattle.blocks.specs.Name.{is_name}
use Rattle.blocks.specs.Descriptor.{cost_of, descriptor_at, revision_of, tail_at, descriptor_block, reopening}
use Rattle.blocks.specs.declared.descriptor.Descriptor.{Descriptor}
use Rattle.blocks.proofs.StoreLists.{stored_one}
use Rattle.blocks.proofs.DescriptorLaws.{cost_least}
use Rattle.chains.specs.Chain.{Sound, Walk, chain, descriptors, index_of, named, descriptors_at, walk_of, active_of}
use Rattle.calls.specs.declared.answer.Refusal.{Refusal}
use Rattle.calls.specs.declared.answer.Refusal.TheVariants as why
use Rattle.calls.specs.Call.{Revert, None, answer, accepted, refused}
use Rattle.calls.specs.Parts.{area_bad, snapshots_of, with_name, SoundCard}
use Rattle.calls.specs.Ladder.{first_row, revert_rows}
use Rattle.calls.specs.Stores.{activated, reverting, revert_stores}
use Rattle.calls.specs.Meaning.{rows_of, answer_of, stores_of, filled_of, given_of}
use Rattle.calls.specs.Step.{step, done, is_accepted}
use Rattle.calls.proofs.CardLaws.{chain_is, card_sound, card_most, card_snapshots, card_snapshot}
use Rattle.calls.proofs.RowLaws.{row_given, last_passed, card_admitted, name_passed, chain_given, chain_passed}
use Rattle.calls.proofs.StepLaws.{step_accepted}
use Rattle.calls.proofs.VisitLaws.{before, behind, visit_split, visit_end}
use Rattle.calls.proofs.Passed.{RevertPassed, revert_passed}
use Rattle.chains.proofs.NamedLaws.{named_found}
use Rattle.links.proofs.MemberLaws.{member_long, member_inside}

-- the rows of a revert past that of its name, in the order of the code
module _ (c name : List ℕ) (area : area_bad c ≡ false) (called : is_name name ≡ true) where
  to_chain : answer_of (Revert name) c ≡ first_row (drop 1 (revert_rows c name))
  unfolding answer_of rows_of revert_rows
  to_chain = card_admitted c area _ ∙ name_passed _ name (is_name name) refl (rw called)

  pub revert_6 : (w : Walk) → w ≡ walk_of (chain c) → not w.sound ≡ true → answer_of (Revert name) c ≡ answer 6 w.place.0
  unfolding revert_rows
  revert_6 w walked h = to_chain ∙ chain_given _ c w walked h

  -- with the snapshot as the code looks it up
  module _ (count : ℕ) (starts : List ℕ) (s : SoundCard c count starts) (o : Option ℕ) (told : unwrap_or o (length (take (count - 1) starts)) ≡ index_of (descriptors_at c (take (count - 1) starts)) name)
      (bound : IfSome o (λ k. k < length (take (count - 1) starts))) (r : Result ℕ Refusal) (tested : r ≡ ok_or o why.NoSnapshot) where
    abbrev ss : List Descriptor
    ss = snapshots_of (descriptors (chain c))

    are : descriptors_at c (take (count - 1) starts) ≡ ss
    are = card_snapshots c _ (sym s.regions) s.area refl

    found_is : named ss name ≡ is_some o
    found_is = ap (λ (ds : List Descriptor). named ds name) (sym are) ∙ sym (named_found c (take (count - 1) starts) name o told bound)

    to_found : answer_of (Revert name) c ≡ first_row (drop 2 (revert_rows c name))
    unfolding revert_rows
    to_found = to_chain ∙ chain_passed _ c (card_sound c _ (sym s.regions) refl)

    pub revert_7 : (e : Refusal) → r ≡ Err e → answer_of (Revert name) c ≡ refused e
    unfolding revert_rows
    revert_7 e f = by o found_is tested
      where
        by : (x : Option ℕ) → named ss name ≡ is_some x → r ≡ ok_or x why.NoSnapshot → answer_of (Revert name) c ≡ refused e
        by Nothing n q = let same : why.NoSnapshot ≡ e = cc in to_found ∙ row_given _ _ (rw n) ∙ ap refused same
        by (Some k) n q = cc

    module _ (k : ℕ) (there : r ≡ Ok k) where
      abbrev Index : Option ℕ → Type 0
      Index x = (named ss name ≡ true) × (k ≡ index_of ss name) × (k < count - 1)

      index_is : Index o
      index_is = by o found_is told bound tested
        where
          by : (x : Option ℕ) → named ss name ≡ is_some x → unwrap_or x (length (take (count - 1) starts)) ≡ index_of (descriptors_at c (take (count - 1) starts)) name
              → IfSome x (λ j. j < length (take (count - 1) starts)) → r ≡ ok_or x why.NoSnapshot → Index x
          by Nothing n t b q = cc
          by (Some j) n t b q =
              let same : k ≡ j = cc in
              (n, same ∙ t ∙ ap (λ (ds : List Descriptor). index_of ds name) are, omega (arith, b, same, length-take (count - 1) starts))

      snapshot_counted : k < count - 1
      snapshot_counted = index_is.2

      pub revert_0 : answer_of (Revert name) c ≡ accepted
      unfolding revert_rows
      revert_0 = to_found ∙ last_passed _ (rw index_is.0)

      pub snapshot_found : with_name ss name ≡ descriptor_at c (get_or starts k 0)
      snapshot_found = rw (← index_is.1) (card_snapshot c _ (sym s.regions) s.area refl k snapshot_counted)

-- what a revert does with the snapshot, as the active one
module _ (c name : List ℕ) (ok : accepted ≡ answer_of (Revert name) c) (v : Descriptor) (v_is : v ≡ activated c name) where
  abbrev ds : List Descriptor
  ds = descriptors (chain c)

  passed : RevertPassed c name
  passed = revert_passed c name (ap is_accepted (sym ok))

  chained : chain c ≡ Sound ds
  chained = chain_is (chain c) passed.sound

  abbrev snapshot : Descriptor
  snapshot = with_name (snapshots_of ds) name

  pub revert_ready : (k : ℕ) → k ≡ cost_of v → (k ≡ cost_of v) × (v.alpha.0 + k ≤ v.beta.0) × (512 * (v.beta.0 + k) ≤ length c) × (v.beta.0 + k < 4294967296) × (1 ≤ k)
  unfolding block_count
  revert_ready k k_is =
      let long : snapshot.alpha.0 + cost_of snapshot ≤ snapshot.beta.0 = member_long c ds (before (snapshots_of ds) name) snapshot (behind (snapshots_of ds) name ++ (active_of ds ∷ [])) chained (visit_split c ds chained name passed.there) in
      let end : snapshot.beta.0 + cost_of snapshot ≤ length c / 512 = visit_end c ds chained name passed.there in
      let most : length c / 512 ≤ 65536 = card_most c passed.area in
      rw (k_is, v_is) (refl, long, omega (arith, end), omega (arith, end, most), cost_least snapshot.layout snapshot.volume)

  pub revert_inside : 512 * v.alpha.0 + 512 ≤ length c
  revert_inside = rw v_is (member_inside c ds (before (snapshots_of ds) name) snapshot (behind (snapshots_of ds) name ++ (active_of ds ∷ [])) chained (visit_split c ds chained name passed.there))

  -- on revision 1 and on revision 0
  stores_are : stores_of (Revert name) c ≡ pick (eqb (revision_of c) 1) (reopening c v []) (store v.alpha.0 (descriptor_block v (tail_at c v.alpha.0)) ∷ [])
  unfolding stores_of revert_stores reverting
  stores_are = rw v_is

  module _ (n : ℕ) (n_is : n ≡ revision_of c) (c' : List ℕ) where
    pub reopened : n ≡ 1 → c' ≡ store_all c (reopening c v []) → done accepted None c' ≡ step (Revert name) c
    unfolding filled_of given_of
    reopened one e = step_accepted (Revert name) c (sym ok) None refl c' (e ∙ sym (ap (store_all c) (stores_are ∙ rw (eq-eqb (revision_of c) 1 (sym n_is ∙ one))))) refl

    pub reverted : (n ≡ 1 → ⊥) → c' ≡ store_block c v.alpha.0 (descriptor_block v (tail_at c v.alpha.0)) → done accepted None c' ≡ step (Revert name) c
    unfolding filled_of given_of
    reverted other e =
        step_accepted (Revert name) c (sym ok) None refl c'
        (e ∙ sym (stored_one c v.alpha.0 (descriptor_block v (tail_at c v.alpha.0))) ∙ sym (ap (store_all c) (stores_are ∙ rw (ne_eqb (revision_of c) 1 (λ f. other (n_is ∙ f)))))) refl
