-- Laws of the words of a line, of `==` and of keys.
use mathlib.Core.Path.{◌≡◌, refl, sym, ap, ◌∙◌, subst}
use mathlib.Core.Bool.{Bool, true, false, not, ◌&&◌, cond}
use mathlib.Core.List.{List, [], ◌∷◌, ◌++◌}
use Prim.Native.Nat.{ℕ, ◌≤◌, ◌<◌}
use native.Mathlib.Omega.{arith}
use lib.ListN.{length, take, get_or}
use lib.Dec.{eqb}
use lib.Pointwise.{pointwise}
use borrow.Author.Tests.{eq-eqb, ne_eqb, eqb-true, eqb-false, not-false}
use denote.Param.Members.{Mut}
use denote.Ref.{Bor}
use Rattle.std.proofs.Common.{Some}
use Rattle.std.proofs.lemmas.Grind.{common_steps}
use Rattle.std.proofs.lemmas.List.Sorted.{answers_always}
use Rattle.std.proofs.lemmas.List.Splits.{slice_split_none, slice_split_at}
use Rattle.std.specs.Bool.{MatchBool}
use Rattle.std.specs.Fn.{Called}
use Rattle.std.specs.List.{slice_split, onto_first, All, IsFirstMatchOrLen}
use Rattle.std.specs.Slice.Iter.{split_steps, split_rest, split_done, split_callee}
use Rattle.std.specs.declared.slice.Split.{Split}
use Rattle.blocks.specs.Pick.{pick, same}
use Rattle.cutter.specs.Grammar.{with_byte, words_of, has_key}

-- the words of a line are what `split` cuts it to
abbrev is_space : ℕ → Bool
is_space b = eqb b 32

words_are : (l : List ℕ) → slice_split is_space l ≡ words_of l
unfolding words_of with_byte
words_are [] = refl
words_are (b ∷ bs) = by (eqb b 32) (words_are bs)
  where
    onto : (ws : List (List ℕ)) → onto_first b ws ≡ with_byte b ws
    onto [] = refl
    onto (w ∷ ws) = refl

    by : (t : Bool) → slice_split is_space bs ≡ words_of bs → cond t ([] ∷ slice_split is_space bs) (onto_first b (slice_split is_space bs)) ≡ pick t ([] ∷ words_of bs) (with_byte b (words_of bs))
    by true e = ap (λ (ws : List (List ℕ)). [] ∷ ws) e
    by false e = ap (onto_first b) e ∙ onto (words_of bs)

-- the words that are left
abbrev pub left : {F : Type 0} → Split ℕ F → List (List ℕ)
left s = pick (split_done s) [] (words_of (split_rest s))

pub all_left : {F : Type 0} (s : Split ℕ F) (l : List ℕ) → split_rest s ≡ l → split_done s ≡ false → words_of l ≡ left s
all_left s l e h = sym (ap (λ (b : Bool). pick b [] (words_of (split_rest s))) h ∙ ap words_of e)

-- the next of them
cut_word : (l w rest : List ℕ) (done : Bool) → MatchBool done (l ≡ w) ((y : ℕ) × (l ≡ w ++ (y ∷ rest))) → IsFirstMatchOrLen is_space l (length w) → words_of l ≡ w ∷ pick done [] (words_of rest)
cut_word l w rest true e h = sym (words_are l) ∙ ap (slice_split is_space) e ∙ slice_split_none is_space w (λ k d m. subst (λ ys. is_space (get_or ys k d) ≡ false) e (h.0 k d (omega arith) m))
cut_word l w rest false e h =
    let front : All (λ z. is_space z ≡ false) w = λ k d m. let a = h.0 k d (omega arith) m in let b = e.1 in grind (arith, common_steps) in
    let hit : is_space e.0 ≡ true = let b = e.1 in let a = h.1 (grind (arith, common_steps)) e.0 in grind (arith, common_steps) in
    sym (words_are l) ∙ ap (slice_split is_space) e.1 ∙ slice_split_at is_space w e.0 rest front hit ∙ ap (λ (ws : List (List ℕ)). w ∷ ws) (words_are rest)

module _ {F : Type 0} (g : Mut F (Bor ℕ × Unit {0}) Bool) (s t : Split ℕ F) where
  pub next_word : (w : Bor (List ℕ)) → split_steps g s (Some w) t → ((f : F) (a : Bor ℕ × Unit {0}) (r : Bool) (f' : F) → Called g f a r f' → r ≡ is_space a.0.now) → left s ≡ w.now ∷ left t
  next_word w k tests =
      let cut = k.2 is_space (answers_always g (λ a r. r ≡ is_space a.0.now) (split_callee s) tests) in
      ap (λ (b : Bool). pick b [] (words_of (split_rest s))) k.0 ∙ cut_word (split_rest s) w.now (split_rest t) (split_done t) k.1 cut.1

pub no_word : {F : Type 0} (s t : Split ℕ F) → (split_done s ≡ true) × (t ≡ s) → left s ≡ []
no_word s t k = ap (λ (b : Bool). pick b [] (words_of (split_rest s))) k.0

-- `==` of the code, of a word w and the text x that is k
word_is : (a b : List ℕ) → pointwise eqb a b ≡ same a b
unfolding same
word_is [] [] = refl
word_is [] (y ∷ ys) = refl
word_is (x ∷ xs) [] = refl
word_is (x ∷ xs) (y ∷ ys) = ap (λ (t : Bool). eqb x y && t) (word_is xs ys)

pub same_by : (w x k : List ℕ) (r t : Bool) → r ≡ pointwise eqb w x → x ≡ k → r ≡ t → same w k ≡ t
same_by w x k r t is e f = sym (word_is w k) ∙ ap (pointwise eqb w) (sym e) ∙ sym is ∙ f

-- a key: the bytes that a word begins with
key_is : (k w : List ℕ) → pointwise eqb (take (length k) w) k ≡ has_key k w
unfolding has_key
key_is [] w = refl
key_is (k ∷ ks) [] = refl
key_is (k ∷ ks) (b ∷ bs) = by (eqb k b) refl (key_is ks bs)
  where
    by : (t : Bool) → eqb k b ≡ t → pointwise eqb (take (length ks) bs) ks ≡ has_key ks bs → (eqb b k && pointwise eqb (take (length ks) bs) ks) ≡ (t && has_key ks bs)
    by true e more = rw (eq-eqb b k (sym (eqb-true k b e))) more
    by false e more = rw (ne_eqb b k (λ z. eqb-false k b e (sym z)))

pub key_by : (k w : List ℕ) (t : Bool) → pointwise eqb (take (length k) w) k ≡ t → has_key k w ≡ t
key_by k w t e = sym (key_is k w) ∙ e

-- there is a first word
pub words_first : (l : List ℕ) → words_of l ≡ [] → ⊥
unfolding words_of with_byte
words_first [] e = let z : ◌≡◌ {A = ℕ} 0 1 = cc in absurd (omega arith)
words_first (b ∷ bs) e = by (eqb b 32) (words_of bs) e
  where
    by : (t : Bool) (ws : List (List ℕ)) → pick t ([] ∷ ws) (with_byte b ws) ≡ [] → ⊥
    by true ws e = let z : ◌≡◌ {A = ℕ} 0 1 = cc in absurd (omega arith)
    by false [] e = let z : ◌≡◌ {A = ℕ} 0 1 = cc in absurd (omega arith)
    by false (w ∷ ws) e = let z : ◌≡◌ {A = ℕ} 0 1 = cc in absurd (omega arith)

-- a word that is shorter than a key does not begin with it, and one that begins with it is at least as long
pub key_short : (k w : List ℕ) → length w < length k → has_key k w ≡ false
unfolding has_key
key_short [] w h = absurd (omega arith)
key_short (k ∷ ks) [] h = refl
key_short (k ∷ ks) (b ∷ bs) h = by (eqb k b) (key_short ks bs (omega arith))
  where
    by : (t : Bool) → has_key ks bs ≡ false → (t && has_key ks bs) ≡ false
    by true more = more
    by false more = refl

pub key_fits : (k w : List ℕ) (r : Bool) → r ≡ has_key k w → not r ≡ false → length k ≤ length w
key_fits k w r e f = omega (arith, by)
  where
    by : length w < length k → ⊥
    by h = let z : true ≡ false = sym (not-false r f) ∙ e ∙ key_short k w h in let y : ◌≡◌ {A = ℕ} 0 1 = cc in absurd (omega arith)
