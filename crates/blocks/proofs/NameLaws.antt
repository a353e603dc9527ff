-- Laws of names and of texts.
use mathlib.Core.Path.{◌≡◌, refl, sym, ap, ◌∙◌, subst}
use mathlib.Core.Bool.{Bool, true, false, not, ◌&&◌, ◌||◌}
use mathlib.Core.List.{List, [], ◌∷◌, ◌++◌}
use Prim.Native.Nat.{ℕ, zero, suc, ◌-◌, ◌≤◌, ◌<◌}
use native.Mathlib.Omega.{arith}
use lib.ListN.{length, take, drop, get_or, replicate, length-append, length-replicate}
use lib.Seq.{take_at, drop_at}
use lib.Dec.{eqb, ltb, leb}
use borrow.Author.Tests.{eq-eqb, ne_eqb, lt-ltb, eqb-true, ltb-true, leb-true}
use Rattle.blocks.specs.Pick.{pick, all_zero}
use Rattle.blocks.specs.Bytes.{splice}
use Rattle.blocks.proofs.Tests.{and_left, and_right}
use Rattle.blocks.proofs.BoolLaws.{no, or_true, and_true, and_false}
use Rattle.blocks.proofs.ByteLaws.{splice_start}
use Rattle.blocks.specs.Name.{name_byte, name_length, name_or_zero, zeros_last, is_name, is_text, padded, no_name}

-- a name has sixteen bytes
pub name_size_lem : (n : List ℕ) → is_name n ≡ true → length n ≡ 16
unfolding is_name
name_size_lem n h = eqb-true (length n) 16 (and_left (eqb (length n) 16) (ltb 0 (name_length n)) (and_left (eqb (length n) 16 && ltb 0 (name_length n)) (all_zero (drop (name_length n) n)) h))

-- bytes of another length are no name
module _ (n : List ℕ) where
  pub name_wrong_length : (length n ≡ 16 → ⊥) → false ≡ is_name n
  unfolding is_name
  name_wrong_length h = rw (ne_eqb (length n) 16 h)

-- what stands after a zero byte is all zero exactly where it passes `name_or_zero`, and `zeros_last` with that byte before it
after_zero : (l : List ℕ) → all_zero l ≡ (name_or_zero l && zeros_last (0 ∷ l))
unfolding all_zero name_or_zero zeros_last
after_zero [] = refl
after_zero (b ∷ l) = by (eqb b 0) refl (after_zero l)
  where
    by : (z : Bool) → eqb b 0 ≡ z → all_zero l ≡ (name_or_zero l && zeros_last (0 ∷ l)) → (z && all_zero l) ≡ (((name_byte b || z) && name_or_zero l) && (z && zeros_last (b ∷ l)))
    by true e more = subst (λ (x : ℕ). (true && all_zero l) ≡ (((name_byte x || true) && name_or_zero l) && (true && zeros_last (x ∷ l)))) (sym (eqb-true b 0 e)) (rw (or_true (name_byte 0)) more)
    by false e more = sym (and_false ((name_byte b || false) && name_or_zero l))

-- a byte that a name may have is not zero
name_not_zero : (b : ℕ) → name_byte b ≡ true → eqb b 0 ≡ false
unfolding name_byte
name_not_zero b h = by (eqb b 0) refl
  where
    by : (z : Bool) → eqb b 0 ≡ z → z ≡ false
    by true e = sym h ∙ ap name_byte (eqb-true b 0 e)
    by false e = refl

-- a first byte that is not zero leaves `zeros_last` to the bytes after it
zeros_last_after : (b : ℕ) (l : List ℕ) → eqb b 0 ≡ false → zeros_last (b ∷ l) ≡ zeros_last l
unfolding zeros_last
zeros_last_after b [] e = refl
zeros_last_after b (c ∷ l) e = rw e

-- what comes after the bytes of a name is zero, as the code tests it
name_after : (l : List ℕ) → all_zero (drop (name_length l) l) ≡ (name_or_zero l && zeros_last l)
unfolding name_length name_or_zero zeros_last all_zero
name_after [] = refl
name_after (b ∷ l) = by (name_byte b) refl (name_after l)
  where
    zero_or : (z : Bool) → eqb b 0 ≡ z → (z && all_zero l) ≡ ((z && name_or_zero l) && zeros_last (b ∷ l))
    zero_or true e = subst (λ (x : ℕ). (true && all_zero l) ≡ ((true && name_or_zero l) && zeros_last (x ∷ l))) (sym (eqb-true b 0 e)) (after_zero l)
    zero_or false e = refl

    by : (t : Bool) → name_byte b ≡ t → all_zero (drop (name_length l) l) ≡ (name_or_zero l && zeros_last l)
        → all_zero (drop (pick t (suc (name_length l)) 0) (b ∷ l)) ≡ (((t || eqb b 0) && name_or_zero l) && zeros_last (b ∷ l))
    by true e more = rw (zeros_last_after b l (name_not_zero b e)) more
    by false e more = zero_or (eqb b 0) refl

-- the first byte is one of a name, as the code tests it
name_first : (n : List ℕ) → 0 < length n → (ltb 0 (name_length n) && (name_or_zero n && zeros_last n)) ≡ (name_or_zero n && zeros_last n && not (eqb (get_or n 0 0) 0))
unfolding name_length name_or_zero
name_first [] h = absurd (omega arith)
name_first (b ∷ l) h = by (name_byte b) (eqb b 0) (name_or_zero l) (zeros_last (b ∷ l)) (name_not_zero b)
  where
    by : (t z s r : Bool) → (t ≡ true → z ≡ false) → (ltb 0 (pick t (suc (name_length l)) 0) && (((t || z) && s) && r)) ≡ ((((t || z) && s) && r) && not z)
    by true true s r q = no (sym (q refl))
    by true false s r q = rw (lt-ltb 0 (suc (name_length l)) (omega arith)) (sym (and_true (s && r)))
    by false true s r q = sym (and_false (s && r))
    by false false s r q = refl

-- sixteen bytes are a name exactly where they pass the tests of the code: each of a name or zero, zeros last, and the first not zero
pub name_tests : (n : List ℕ) → length n ≡ 16 → (p z : Bool) → p ≡ name_or_zero n → z ≡ zeros_last n → (p && z && not (eqb (get_or n 0 0) 0)) ≡ is_name n
unfolding is_name
name_tests n h p z e f = rw (eq-eqb (length n) 16 h, name_after n, e, f) (sym (name_first n (omega arith)))

-- zeros less some zeros
pub drop_replicate : (n k : ℕ) → drop {A = ℕ} k (replicate n 0) ≡ replicate (n - k) 0
drop_replicate n zero = let e : n - 0 ≡ n = omega arith in rw e
drop_replicate zero (suc k) = let e : 0 - suc k ≡ 0 = omega arith in rw e
drop_replicate (suc n) (suc k) = let e : suc n - suc k ≡ n - k = omega arith in rw e (drop_replicate n k)

-- a text of name bytes followed by zeros starts with just that many name bytes
name_then_zeros : (t : List ℕ) (k : ℕ) → name_length t ≡ length t → name_length (t ++ replicate k 0) ≡ length t
unfolding name_length name_byte
name_then_zeros [] zero e = refl
name_then_zeros [] (suc k) e = refl
name_then_zeros (b ∷ t) k e = by (name_byte b) refl (name_then_zeros t k) e
  where
    by : (z : Bool) → name_byte b ≡ z → (name_length t ≡ length t → name_length (t ++ replicate k 0) ≡ length t) → pick z (suc (name_length t)) 0 ≡ suc (length t)
        → pick z (suc (name_length (t ++ replicate k 0))) 0 ≡ suc (length t)
    by true q more h = ap suc (more (omega arith))
    by false q more h = absurd (omega arith)

zeros_zero : (k : ℕ) → all_zero (replicate k 0) ≡ true
unfolding all_zero
zeros_zero zero = refl
zeros_zero (suc k) = zeros_zero k

-- what makes a text one
module _ (t : List ℕ) (is : is_text t ≡ true) where
  abbrev short : Bool
  short = ltb 0 (length t) && leb (length t) 16

  text_some : 0 < length t
  unfolding is_text
  text_some = ltb-true 0 (length t) (and_left (ltb 0 (length t)) (leb (length t) 16) (and_left short (eqb (name_length t) (length t)) is))

  pub text_short : length t ≤ 16
  unfolding is_text
  text_short = leb-true (length t) 16 (and_right (ltb 0 (length t)) (leb (length t) 16) (and_left short (eqb (name_length t) (length t)) is))

  text_bytes : name_length t ≡ length t
  unfolding is_text
  text_bytes = eqb-true (name_length t) (length t) (and_right short (eqb (name_length t) (length t)) is)

  pub padded_is : padded t ≡ t ++ replicate (16 - length t) 0
  unfolding padded
  padded_is = rw is

  pub padded_length : name_length (padded t) ≡ length t
  padded_length = ap name_length padded_is ∙ name_then_zeros t (16 - length t) text_bytes

  text_padded : is_name (padded t) ≡ true
  unfolding is_name
  text_padded =
      let long : length (padded t) ≡ 16 = ap length padded_is ∙ length-append t (replicate (16 - length t) 0) ∙ omega (arith, length-replicate {A = ℕ} (16 - length t) 0, text_short) in
      rw (eq-eqb (length (padded t)) 16 long, padded_length, lt-ltb 0 (length t) text_some, padded_is, drop_at t (replicate (16 - length t) 0) (length t) refl) (zeros_zero (16 - length t))

-- padded, as the code makes it: the text put over zeros, or zeros alone
module _ (t : List ℕ) where
  pub padded_put : is_text t ≡ true → (r : List ℕ) → r ≡ splice no_name 0 t → r ≡ padded t
  padded_put is r e = rw (e, padded_is t is) (splice_start no_name t ∙ ap (λ (l : List ℕ). t ++ l) (drop_replicate 16 (length t)))

  pub padded_none : is_text t ≡ false → no_name ≡ padded t
  unfolding padded
  padded_none no = rw no

-- a padded text is a name exactly where the text is 1 to 16 name bytes
pub padded_name : (t : List ℕ) → is_name (padded t) ≡ is_text t
unfolding padded is_name name_length name_byte all_zero
padded_name t = by (is_text t) refl
  where
    by : (z : Bool) → is_text t ≡ z → is_name (padded t) ≡ z
    by true e = text_padded t e
    by false e = rw e

-- and then no other text gives it
pub padded_once : (t u : List ℕ) → is_text t ≡ true → is_text u ≡ true → padded t ≡ padded u → t ≡ u
padded_once t u ht hu e =
    let same_length : length t ≡ length u = sym (padded_length t ht) ∙ ap name_length e ∙ padded_length u hu in
    sym (take_at t (replicate (16 - length t) 0) (length t) refl)
    ∙ ap (take (length t)) (sym (padded_is t ht) ∙ e ∙ padded_is u hu)
    ∙ take_at u (replicate (16 - length u) 0) (length t) (sym same_length)
