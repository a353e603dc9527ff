-- Laws of the format, as the code asks them.
use mathlib.Core.Path.{◌≡◌, refl, sym, ap, ◌∙◌}
use mathlib.Core.Bool.{Bool, true, false, not, ◌||◌}
use mathlib.Core.List.{List, [], ◌∷◌, ◌++◌, append_assoc}
use Prim.Native.Nat.{ℕ, ◌-◌, ◌/◌, ◌≤◌, ◌<◌}
use native.Mathlib.Omega.{arith}
use lib.ListN.{length, replicate, drop}
use lib.Seq.{take-append_seam, drop-append-add}
use lib.Dec.{eqb}
use borrow.Author.Tests.{eq-eqb, ne_eqb, lt-ltb, le-ltb, eqb-false}
use Rattle.blocks.specs.Bytes.{splice, le32, store, store_block, store_all, block_count}
use Rattle.blocks.specs.Name.{is_name}
use Rattle.blocks.specs.Descriptor.{physical, head_bytes, descriptor_block, first_tail, clearing, opening, cost_in}
use Rattle.blocks.specs.declared.descriptor.Descriptor.{Descriptor}
use Rattle.blocks.proofs.ByteLaws.{splice_start}
use Rattle.blocks.proofs.NameLaws.{drop_replicate}
use Rattle.blocks.proofs.DescriptorLaws.{revision_large, small_revision}
use Rattle.calls.specs.Call.{Ream, answer, accepted}
use Rattle.calls.specs.Ladder.{admission, first_row, ream_rows}
use Rattle.calls.specs.Meaning.{rows_of, answer_of}
use Rattle.blocks.proofs.StoreLists.{stored_append, stored_one}
use Rattle.calls.proofs.RowLaws.{admitted, row_given, row_passed, last_passed, name_given, name_passed}
use Rattle.calls.specs.declared.answer.Answer.{Answer}
use Rattle.blocks.specs.declared.descriptor.Format.{Format}

-- a head put into a block of zeros, then a revision
head_on_zeros : (d : Descriptor) (b : List ℕ) → length (head_bytes d) ≡ 40 → b ≡ splice (replicate 512 0) 0 (head_bytes d) → b ≡ descriptor_block d (replicate 472 0)
unfolding descriptor_block
head_on_zeros d b n e =
    e ∙ splice_start (replicate 512 0) (head_bytes d) ∙ ap (λ (k : ℕ). head_bytes d ++ drop k (replicate 512 0)) n ∙ ap (λ (l : List ℕ). head_bytes d ++ l) (drop_replicate 512 40)

put_after : (x y z : List ℕ) → splice (x ++ y) (length x) z ≡ x ++ (z ++ drop (length z) y)
unfolding splice
put_after x y z = rw (take-append_seam x y, drop-append-add x y (length z)) (append_assoc x z (drop (length z) y))

pub revision_on_zeros : (d : Descriptor) (r : ℕ) (b b' : List ℕ) → length (head_bytes d) ≡ 40 → b ≡ splice (replicate 512 0) 0 (head_bytes d) → b' ≡ splice b 40 (le32 r) → b' ≡ descriptor_block d (first_tail r)
unfolding descriptor_block first_tail le32
revision_on_zeros d r b b' n e f =
    f
    ∙ ap (λ (x : List ℕ). splice x 40 (le32 r)) (head_on_zeros d b n e)
    ∙ ap (λ (k : ℕ). splice (head_bytes d ++ replicate 472 0) k (le32 r)) (sym n)
    ∙ put_after (head_bytes d) (replicate 472 0) (le32 r)
    ∙ ap (λ (l : List ℕ). head_bytes d ++ (le32 r ++ l)) (drop_replicate 472 4)

-- tables, then the first descriptor
pub opened : (c c₁ c₂ : List ℕ) (format : Format) (k : ℕ) (b : List ℕ) → k ≡ cost_in format
    → b ≡ descriptor_block (record { layout = format.layout; volume = format.volume; alpha = physical 0; beta = physical k; next = physical 0; name = format.name }) (first_tail format.revision)
    → c₁ ≡ store_all c (clearing 1 (k - 1)) → c₂ ≡ store_block c₁ 0 b → c₂ ≡ store_all c (opening format)
unfolding opening
opened c c₁ c₂ format k b e f g h =
    h
    ∙ ap (λ (x : List ℕ). store_block x 0 b) g
    ∙ sym (stored_one (store_all c (clearing 1 (k - 1))) 0 b)
    ∙ sym (stored_append c (clearing 1 (k - 1)) (store 0 b ∷ []))
    ∙ rw (f, e)

-- the rows of a ream that follow admission, in the order of the code
module _ (c : List ℕ) (format : Format) (a : Answer) (asked : a ≡ first_row (admission c)) (card : a.number ≡ 0) where
  to_layout : answer_of (Ream format) c ≡ first_row (drop 0 (ream_rows c format))
  unfolding answer_of rows_of ream_rows
  to_layout = admitted c a asked _ card

  pub ream_2_low : format.layout ≡ 0 → answer_of (Ream format) c ≡ answer 2 0
  unfolding ream_rows
  ream_2_low e = to_layout ∙ row_given _ _ (rw e)

  pub ream_2_high : 2 < format.layout → answer_of (Ream format) c ≡ answer 2 0
  unfolding ream_rows
  ream_2_high h = to_layout ∙ row_given _ _ (rw (ne_eqb format.layout 1 (omega arith), ne_eqb format.layout 2 (omega arith)))

  module _ (some : format.layout ≡ 0 → ⊥) (low : format.layout ≤ 2) where
    layout_by : (t : Bool) → eqb format.layout 1 ≡ t → (eqb format.layout 1 || eqb format.layout 2) ≡ true
    layout_by true e = rw e
    layout_by false e = rw (e, eq-eqb format.layout 2 (omega (arith, some, eqb-false format.layout 1 e)))

    to_volume : answer_of (Ream format) c ≡ first_row (drop 1 (ream_rows c format))
    unfolding ream_rows
    to_volume = to_layout ∙ row_passed _ _ (rw (layout_by (eqb format.layout 1) refl))

    pub ream_3_none : format.volume ≡ 0 → answer_of (Ream format) c ≡ answer 3 0
    unfolding ream_rows
    ream_3_none e = to_volume ∙ row_given _ _ (rw e)

    pub ream_3_large : 14336 < format.volume → answer_of (Ream format) c ≡ answer 3 0
    unfolding ream_rows
    ream_3_large h = to_volume ∙ row_given _ _ (rw (ne_eqb format.volume 0 (omega arith), lt-ltb 14336 format.volume h))

    module _ (least : format.volume ≡ 0 → ⊥) (most : format.volume ≤ 14336) where
      to_revision : answer_of (Ream format) c ≡ first_row (drop 2 (ream_rows c format))
      unfolding ream_rows
      to_revision = to_volume ∙ row_passed _ _ (rw (ne_eqb format.volume 0 least, le-ltb 14336 format.volume most))

      pub ream_17 : 1 < format.revision → answer_of (Ream format) c ≡ answer 17 0
      unfolding ream_rows
      ream_17 h = to_revision ∙ row_given _ _ (rw (revision_large format.revision h))

      module _ (one : format.revision ≤ 1) (n : Bool) (called : n ≡ is_name format.name) where
        to_name : answer_of (Ream format) c ≡ first_row (drop 3 (ream_rows c format))
        unfolding ream_rows
        to_name = to_revision ∙ row_passed _ _ (rw (small_revision format.revision one))

        pub ream_4 : not n ≡ true → answer_of (Ream format) c ≡ answer 4 0
        unfolding ream_rows
        ream_4 h = to_name ∙ name_given _ format.name n called h

        module _ (is : not n ≡ false) (k : ℕ) (cost_is : k ≡ cost_in format) where
          to_cost : answer_of (Ream format) c ≡ first_row (drop 4 (ream_rows c format))
          unfolding ream_rows
          to_cost = to_name ∙ name_passed _ format.name n called is

          pub ream_5 : length c / 512 < k → answer_of (Ream format) c ≡ answer 5 0
          unfolding ream_rows block_count
          ream_5 h = to_cost ∙ row_given _ _ (rw (← cost_is) (lt-ltb (length c / 512) k h))

          pub ream_0 : k ≤ length c / 512 → answer_of (Ream format) c ≡ accepted
          unfolding ream_rows block_count
          ream_0 h = to_cost ∙ last_passed _ (rw (← cost_is) (le-ltb (length c / 512) k h))
