-- A snap's pass, stopped anywhere: its first k bytes are those of the snap, every other byte is as it was, and the card agrees with the card at entry.
use mathlib.Core.Path.{◌≡◌, refl, sym, ap, ◌∙◌}
use mathlib.Core.Logic.{◌⊎◌, inl, inr}
use mathlib.Core.List.{List, [], ◌∷◌}
use Prim.Native.Nat.{ℕ, ◌+◌, ◌*◌, ◌-◌, ◌/◌, ◌%◌, ◌<◌, ◌≤◌}
use native.Mathlib.Omega.{arith}
use lib.ListN.{length, get_or}
use lib.Dec.{eqb}
use Rattle.blocks.specs.Bytes.{block_at, store, store_block, store_all}
use Rattle.blocks.specs.Descriptor.{cost_of, tail_at, descriptor_block, renamed_of, linked_of, reopened_of, copying}
use Rattle.blocks.specs.declared.descriptor.Descriptor.{Descriptor}
use Rattle.chains.specs.Chain.{active_of}
use Rattle.calls.specs.Call.{Snap}
use Rattle.calls.specs.Parts.{descriptors_of}
use Rattle.calls.specs.Stores.{snap_stores}
use Rattle.calls.specs.Meaning.{stores_of}
use Rattle.claims.specs.History.{beta_of}
use Rattle.claims.specs.OnePass.{StoreUptoClaim, before_pass, during_pass, OnePassClaim}
use Rattle.blocks.proofs.ByteLaws.{part_at, part_ext, upto_length, upto_in, upto_other, upto_whole}
use Rattle.blocks.proofs.DescriptorLaws.{cost_least}
use Rattle.blocks.proofs.StoreLists.{stored_append, stored_length, copied_in, copied_out}
use Rattle.calls.proofs.Passed.{SnapPassed, snap_passed}
use Rattle.calls.proofs.StepLaws.{accepted_card}
use Rattle.changes.proofs.SnappedChain.{stores_are, d_low, room_bytes, copies_whole, new_long, new_inside, new_block}
use Rattle.claims.proofs.Agreement.{blocks_agree}

module _ (c name : List ℕ) (e : SnapPassed c name) where
  abbrev d : Descriptor
  d = active_of (descriptors_of c)

  abbrev new : List ℕ
  new = descriptor_block (reopened_of d) (tail_at c d.alpha.0)

  abbrev snapped : List ℕ
  snapped = store_all c (snap_stores c name)

  before_length : length (before_pass c) ≡ length c
  unfolding before_pass
  before_length = stored_length (length c) c refl (copies_whole c name e)

  inside : 512 * d.beta.0 + 512 ≤ length (before_pass c)
  inside = omega (arith, before_length, new_inside c name e)

  -- the copies, and every other byte
  tables_are : (t : ℕ) → t + 1 < cost_of d → block_at (before_pass c) (beta_of c + 1 + t) ≡ block_at c (d.alpha.0 + 1 + t)
  unfolding before_pass beta_of
  tables_are t h =
      let p = d.beta.0 + 1 + t in
      let n : d.alpha.0 + 1 + (p - (d.beta.0 + 1)) ≡ d.alpha.0 + 1 + t = omega arith in
      copied_in c c refl (d.alpha.0 + 1) (d.beta.0 + 1) (cost_of d - 1) (omega (arith, d_low c name e)) (omega (arith, room_bytes c name e)) p (omega arith) (omega arith) (eqb p (d.beta.0 + 1)) refl
      ∙ ap (block_at c) n

  outside_is : (p : ℕ) → (d.beta.0 + 1 ≤ p → p < d.beta.0 + cost_of d → ⊥) → block_at (before_pass c) p ≡ block_at c p
  unfolding before_pass
  outside_is p out =
      copied_out c c refl (d.alpha.0 + 1) (d.beta.0 + 1) (cost_of d - 1) (omega (arith, d_low c name e)) (omega (arith, room_bytes c name e, cost_least d.layout d.volume)) p
      (λ h l. out h (omega arith))

  found_is : (j : ℕ) → (j < 512 * (beta_of c + 1)) ⊎ (512 * (beta_of c + cost_of d) ≤ j) → get_or (before_pass c) j 0 ≡ get_or c j 0
  unfolding beta_of block_at
  found_is j o =
      let p = j / 512 in
      let i = j % 512 in
      let at : 512 * p + i ≡ j = omega arith in
      ap (λ (n : ℕ). get_or (before_pass c) n 0) (sym at)
      ∙ sym (part_at (before_pass c) (512 * p) 512 i (omega arith))
      ∙ ap (λ (x : List ℕ). get_or x i 0) (outside_is p (apart o))
      ∙ part_at c (512 * p) 512 i (omega arith)
      ∙ ap (λ (n : ℕ). get_or c n 0) at
    where
      apart : (j < 512 * (d.beta.0 + 1)) ⊎ (512 * (d.beta.0 + cost_of d) ≤ j) → d.beta.0 + 1 ≤ j / 512 → j / 512 < d.beta.0 + cost_of d → ⊥
      apart (inl h) l m = omega arith
      apart (inr h) l m = omega arith

  -- after its last byte, the old descriptor
  end_is : store_block (during_pass c 512) d.alpha.0 (descriptor_block (linked_of (renamed_of d name) d.beta) (tail_at c d.alpha.0)) ≡ snapped
  unfolding during_pass before_pass store_all
  end_is =
      let old = descriptor_block (linked_of (renamed_of d name) d.beta) (tail_at c d.alpha.0) in
      ap (λ (x : List ℕ). store_block x d.alpha.0 old) (upto_whole (before_pass c) d.beta.0 new (new_long c name e) inside)
      ∙ sym (ap (store_all c) (stores_are c name e) ∙ stored_append c (copying c (d.alpha.0 + 1) (d.beta.0 + 1) (cost_of d - 1)) (store d.beta.0 new ∷ store d.alpha.0 old ∷ []))

  module _ (k : ℕ) (few : k ≤ 512) where
    last_is : (i : ℕ) → i < k → get_or (during_pass c k) (512 * beta_of c + i) 0 ≡ get_or snapped (512 * beta_of c + i) 0
    unfolding during_pass beta_of block_at
    last_is i h =
        upto_in (before_pass c) d.beta.0 new (new_long c name e) inside k few i h
        ∙ ap (λ (x : List ℕ). get_or x i 0) (sym (new_block c name e))
        ∙ part_at snapped (512 * d.beta.0) 512 i (omega arith)

    rest_is : (j : ℕ) → (j < 512 * beta_of c) ⊎ (512 * beta_of c + k ≤ j) → get_or (during_pass c k) j 0 ≡ get_or (before_pass c) j 0
    unfolding during_pass beta_of
    rest_is j o = upto_other (before_pass c) d.beta.0 new (new_long c name e) inside k few j o

    long_is : length (during_pass c k) ≡ length c
    unfolding during_pass
    long_is = upto_length (before_pass c) d.beta.0 new (new_long c name e) inside k few ∙ before_length

    below_is : (p : ℕ) → p < beta_of c → block_at c p ≡ block_at (during_pass c k) p
    unfolding block_at beta_of
    below_is p h =
        sym (part_ext (during_pass c k) (before_pass c) (512 * p) 512 (long_is ∙ sym before_length) (λ j l m. rest_is j (inl (omega arith))) ∙ outside_is p (λ l m. omega arith))

pub store_upto_claim : StoreUptoClaim
unfolding StoreUptoClaim
store_upto_claim c p b k whole inside few =
    (upto_in c p b whole inside k few, upto_other c p b whole inside k few, upto_length c p b whole inside k few, upto_whole c p b whole inside)

pub one_pass_claim : OnePassClaim
unfolding OnePassClaim stores_of
one_pass_claim c name e =
    let shown = snap_passed c name e in
    let done = accepted_card (Snap name) c e in
    record {
      long = before_length c name shown;
      tables = tables_are c name shown;
      found = found_is c name shown;
      stopped = λ k few.
          record {
            last_form = λ i h. last_is c name shown k few i h ∙ ap (λ (x : List ℕ). get_or x (512 * beta_of c + i) 0) (sym done);
            rest = rest_is c name shown k few;
            long = long_is c name shown k few;
            agrees = blocks_agree c (during_pass c k) shown.sound (sym (long_is c name shown k few)) (below_is c name shown k few);
          };
      ended = end_is c name shown ∙ sym done;
    }
