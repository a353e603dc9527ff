-- Lists of whole-block stores: the length stays, what is stored is the same on any card, other blocks stay, the last store to a block decides; which blocks are stored, and copies.
use mathlib.Core.Path.{◌≡◌, refl, sym, ap, ◌∙◌}
use mathlib.Core.Logic.{◌⊎◌, inl, inr}
use mathlib.Core.Bool.{Bool, true, false, ◌||◌}
use mathlib.Core.List.{List, [], ◌∷◌, ◌++◌}
use Prim.Native.Nat.{ℕ, zero, suc, ◌+◌, ◌*◌, ◌≤◌, ◌<◌, ◌-◌}
use native.Mathlib.Omega.{arith}
use lib.ListN.{length, take, length-replicate}
use lib.Seq.{take-add}
use lib.Dec.{eqb}
use borrow.Author.Tests.{eqb-true, eqb-false, ne_eqb}
use Rattle.blocks.specs.Bytes.{block_at, Store, store, store_block, store_all, zero_block, block_count}
use Rattle.blocks.proofs.BoolLaws.{or_assoc, or_false_both}
use Rattle.blocks.proofs.ByteLaws.{store_length, store_same, store_other, length_block_at}
use Rattle.blocks.specs.Descriptor.{clearing, copying}

-- stores, one after the other
pub stored_append : (c : List ℕ) (xs ys : List Store) → store_all c (xs ++ ys) ≡ store_all (store_all c xs) ys
unfolding store_all
stored_append c [] ys = refl
stored_append c (x ∷ xs) ys = stored_append (store_block c x.at x.bytes) xs ys

pub stored_one : (c : List ℕ) (p : ℕ) (b : List ℕ) → store_all c (store p b ∷ []) ≡ store_block c p b
unfolding store_all
stored_one c p b = refl

-- stores of whole blocks to a card of n bytes
pub data Whole (n : ℕ) : List Store → Type 0 where
  none : Whole n []
  also : (p : ℕ) (b : List ℕ) {ss : List Store} → length b ≡ 512 → 512 * p + 512 ≤ n → Whole n ss → Whole n (store p b ∷ ss)

-- whether block p is stored
unfoldable pub is_stored : List Store → ℕ → Bool
is_stored [] p = false
is_stored (s ∷ ss) p = eqb s.at p || is_stored ss p

pub whole_append : {n : ℕ} {xs ys : List Store} → Whole n xs → Whole n ys → Whole n (xs ++ ys)
whole_append none ys = ys
whole_append (also p b w i xs) ys = also p b w i (whole_append xs ys)

pub stored_join : (xs ys : List Store) (p : ℕ) → is_stored (xs ++ ys) p ≡ (is_stored xs p || is_stored ys p)
unfolding is_stored
stored_join [] ys p = refl
stored_join (x ∷ xs) ys p = rw (stored_join xs ys p) (or_assoc (eqb x.at p) (is_stored xs p) (is_stored ys p))

module _ (n : ℕ) where
  pub stored_length : (c : List ℕ) → length c ≡ n → {ss : List Store} → Whole n ss → length (store_all c ss) ≡ n
  unfolding store_all
  stored_length c e none = e
  stored_length c e (also at bytes {ss = ss} b i w) = stored_length (store_block c at bytes) (store_length c at bytes b (omega arith) ∙ e) w

  -- a block that is not stored
  pub stored_other : (c : List ℕ) → length c ≡ n → {ss : List Store} → Whole n ss → (p : ℕ) → is_stored ss p ≡ false → block_at (store_all c ss) p ≡ block_at c p
  unfolding store_all is_stored
  stored_other c e none p h = refl
  stored_other c e (also at bytes {ss = ss} b i w) p h =
      let r = or_false_both (eqb at p) (is_stored ss p) h in
      let m = eqb-false at p r.0 in
      stored_other (store_block c at bytes) (store_length c at bytes b (omega arith) ∙ e) w p r.1
      ∙ store_other c at bytes b (omega arith) p (λ q. m (sym q))

  -- the last store to a block decides
  pub stored_last : (c : List ℕ) → length c ≡ n → {xs : List Store} → Whole n xs → (p : ℕ) (b : List ℕ) → length b ≡ 512 → 512 * p + 512 ≤ n → {ys : List Store} → Whole n ys → is_stored ys p ≡ false
      → block_at (store_all c (xs ++ (store p b ∷ ys))) p ≡ b
  unfolding store_all
  stored_last c e {xs = xs} w p b l i {ys = ys} v h =
      let f = stored_length c e w in
      ap (λ (x : List ℕ). block_at x p) (stored_append c xs (store p b ∷ ys))
      ∙ stored_other (store_block (store_all c xs) p b) (store_length (store_all c xs) p b l (omega arith) ∙ f) v p h
      ∙ store_same (store_all c xs) p b l (omega arith)

  -- two cards
  module _ (p : ℕ) where
    head_by : (c d : List ℕ) → length c ≡ n → length d ≡ n → (at : ℕ) (bytes : List ℕ) → length bytes ≡ 512 → 512 * at + 512 ≤ n → (z : Bool) → eqb at p ≡ z → (z ≡ false → block_at c p ≡ block_at d p)
        → block_at (store_block c at bytes) p ≡ block_at (store_block d at bytes) p
    head_by c d e f at bytes b i true q h =
        let r = eqb-true at p q in
        rw (← r) (store_same c at bytes b (omega arith) ∙ sym (store_same d at bytes b (omega arith)))
    head_by c d e f at bytes b i false q h =
        let m = eqb-false at p q in
        store_other c at bytes b (omega arith) p (λ r. m (sym r)) ∙ h refl ∙ sym (store_other d at bytes b (omega arith) p (λ r. m (sym r)))

    pub stored_both : (c d : List ℕ) → length c ≡ n → length d ≡ n → {ss : List Store} → Whole n ss → block_at c p ≡ block_at d p → block_at (store_all c ss) p ≡ block_at (store_all d ss) p
    unfolding store_all
    stored_both c d e f none h = h
    stored_both c d e f (also at bytes {ss = ss} b i w) h =
        stored_both (store_block c at bytes) (store_block d at bytes)
        (store_length c at bytes b (omega arith) ∙ e) (store_length d at bytes b (omega arith) ∙ f) w
        (head_by c d e f at bytes b i (eqb at p) refl (λ q. h))

    either : (a b : Bool) → (a || b) ≡ true → (a ≡ true) ⊎ (b ≡ true)
    either true b e = inl refl
    either false b e = inr e

    anyway_by : (c d : List ℕ) → length c ≡ n → length d ≡ n → {ss : List Store} → Whole n ss → (at : ℕ) (bytes : List ℕ) → length bytes ≡ 512 → 512 * at + 512 ≤ n → eqb at p ≡ true
        → block_at (store_all (store_block c at bytes) ss) p ≡ block_at (store_all (store_block d at bytes) ss) p
    anyway_by c d e f w at bytes b i q =
        stored_both (store_block c at bytes) (store_block d at bytes)
        (store_length c at bytes b (omega arith) ∙ e) (store_length d at bytes b (omega arith) ∙ f) w
        (head_by c d e f at bytes b i true q (λ r. let z : ◌≡◌ {A = ℕ} 0 1 = cc in absurd (omega arith)))

    join : {A : Type 0} {x y : Bool} → (x ≡ true) ⊎ (y ≡ true) → (x ≡ true → A) → (y ≡ true → A) → A
    join (inl e) f g = f e
    join (inr e) f g = g e

    pub stored_anyway : (c d : List ℕ) → length c ≡ n → length d ≡ n → {ss : List Store} → Whole n ss → is_stored ss p ≡ true → block_at (store_all c ss) p ≡ block_at (store_all d ss) p
    unfolding store_all is_stored
    stored_anyway c d e f none h = let z : ◌≡◌ {A = ℕ} 0 1 = cc in absurd (omega arith)
    stored_anyway c d e f (also at bytes {ss = ss} b i w) h =
        join (either (eqb at p) (is_stored ss p) h) (λ q. anyway_by c d e f w at bytes b i q)
        (λ q. stored_anyway (store_block c at bytes) (store_block d at bytes)
        (store_length c at bytes b (omega arith) ∙ e) (store_length d at bytes b (omega arith) ∙ f) w q)

-- equal blocks below b are equal bytes below it
pub blocks_taken_lem : (s t : List ℕ) (b : ℕ) → ((p : ℕ) → p < b → block_at s p ≡ block_at t p) → take (512 * b) s ≡ take (512 * b) t
unfolding block_at
blocks_taken_lem s t zero h = refl
blocks_taken_lem s t (suc b) h =
    let e : 512 * suc b ≡ 512 * b + 512 = omega arith in
    rw (e, take-add (512 * b) 512 s, take-add (512 * b) 512 t, blocks_taken_lem s t b (λ p l. h p (omega arith)), h b (omega arith))

-- clearing and copying store whole blocks of the area
pub inside_clearing : (n p k : ℕ) → 512 * (p + k) ≤ n → Whole n (clearing p k)
unfolding clearing
inside_clearing n p zero h = none
inside_clearing n p (suc k) h = also p zero_block (length-replicate {A = ℕ} 512 0) (omega arith) (inside_clearing n (suc p) k (omega arith))

pub inside_copying : (c : List ℕ) (from to k : ℕ) → from ≤ to → 512 * (to + k) ≤ length c → Whole (length c) (copying c from to k)
unfolding copying
inside_copying c from to zero h l = none
inside_copying c from to (suc k) h l = also to (block_at c from) (length_block_at c from (omega arith)) (omega arith) (inside_copying c (suc from) (suc to) k (omega arith) (omega arith))

-- areas of one length have as many blocks
pub count_kept : (s t : List ℕ) → length s ≡ length t → block_count s ≡ block_count t
unfolding block_count
count_kept s t e = rw e

-- which blocks no store, one store and copies name
pub none_stored : (p : ℕ) → is_stored [] p ≡ false
unfolding is_stored
none_stored p = refl

pub one_stored : (p : ℕ) (b : List ℕ) (q : ℕ) → (p ≡ q → ⊥) → is_stored (store p b ∷ []) q ≡ false
unfolding is_stored
one_stored p b q h = rw (ne_eqb p q h)

pub copies_outside : (c : List ℕ) (from p n q : ℕ) → (p ≤ q → q < p + n → ⊥) → is_stored (copying c from p n) q ≡ false
unfolding is_stored copying
copies_outside c from p zero q out = refl
copies_outside c from p (suc n) q out = rw (ne_eqb p q (λ e. out (omega arith) (omega arith))) (copies_outside c (suc from) (suc p) n q (λ i l. out (omega arith) (omega arith)))

pub copies_stored : (c : List ℕ) (from p n q : ℕ) → q < p → is_stored (copying c from p n) q ≡ false
copies_stored c from p n q h = copies_outside c from p n q (λ i l. omega arith)

-- a block that the first store does not name, nor the others
pub not_stored : (p : ℕ) (b : List ℕ) (ss : List Store) (q : ℕ) → (p ≡ q → ⊥) → is_stored ss q ≡ false → is_stored (store p b ∷ ss) q ≡ false
unfolding is_stored
not_stored p b ss q n h = rw (ne_eqb p q n) h

-- which blocks two stores name
pub pair_stored : (x y : ℕ) (f g : List ℕ) (q : ℕ) → (x ≡ q → ⊥) → (y ≡ q → ⊥) → is_stored (store x f ∷ store y g ∷ []) q ≡ false
pair_stored x y f g q h k = not_stored x f (store y g ∷ []) q h (one_stored y g q k)

-- the first of a list of whole-block stores, and the others
whole_parts : {n : ℕ} {s : Store} {ss : List Store} → Whole n (s ∷ ss) → (length s.bytes ≡ 512) × (512 * s.at + 512 ≤ n) × Whole n ss
whole_parts (also p b w i ss) = (w, i, ss)

whole_split : {n : ℕ} (xs : List Store) {ys : List Store} → Whole n (xs ++ ys) → Whole n xs × Whole n ys
whole_split [] w = (none, w)
whole_split (x ∷ xs) (also p b l i w) = let r = whole_split xs w in (also p b l i r.0, r.1)

-- of a list of whole-block stores the last one to block p decides what it holds
pub stored_among : (n p : ℕ) (b : List ℕ) (ys : List Store) → is_stored ys p ≡ false → (c : List ℕ) → length c ≡ n → (xs : List Store) → Whole n (xs ++ (store p b ∷ ys))
    → block_at (store_all c (xs ++ (store p b ∷ ys))) p ≡ b
stored_among n p b ys after c e xs w =
    let r = whole_split xs w in
    let h = whole_parts r.1 in
    stored_last n c e r.0 p b h.0 h.1 h.2 after

-- copies of blocks: the others stay, and each copy is its block
module _ (c : List ℕ) where
  pub copied_out : (x : List ℕ) → length x ≡ length c → (from to k : ℕ) → from ≤ to → 512 * (to + k) ≤ length c → (p : ℕ) → (to ≤ p → p < to + k → ⊥) → block_at (store_all x (copying c from to k)) p ≡ block_at x p
  copied_out x e from to k f h p out = stored_other (length c) x e (inside_copying c from to k f h) p (copies_outside c from to k p out)

  pub copied_in : (x : List ℕ) → length x ≡ length c → (from to k : ℕ) → from ≤ to → 512 * (to + k) ≤ length c → (p : ℕ) → to ≤ p → p < to + k → (z : Bool) → eqb p to ≡ z
      → block_at (store_all x (copying c from to k)) p ≡ block_at c (from + (p - to))
  unfolding copying store_all
  copied_in x e from to zero f h p i j z q = absurd (omega arith)
  copied_in x e from to (suc k) f h p i j true q =
      let w = eqb-true p to q in
      let n : from ≡ from + (p - to) = omega arith in
      copied_out (store_block x to (block_at c from)) (store_length x to (block_at c from) (length_block_at c from (omega arith)) (omega arith) ∙ e) (suc from) (suc to) k (omega arith) (omega arith) p
      (λ i j. absurd (omega arith))
      ∙ ap (block_at (store_block x to (block_at c from))) w
      ∙ store_same x to (block_at c from) (length_block_at c from (omega arith)) (omega arith)
      ∙ ap (block_at c) n
  copied_in x e from to (suc k) f h p i j false q =
      let w = eqb-false p to q in
      let n : suc from + (p - suc to) ≡ from + (p - to) = omega arith in
      copied_in (store_block x to (block_at c from)) (store_length x to (block_at c from) (length_block_at c from (omega arith)) (omega arith) ∙ e) (suc from) (suc to) k (omega arith) (omega arith) p
      (omega arith) (omega arith) (eqb p (suc to)) refl
      ∙ ap (block_at c) n

-- copies that take the n blocks from p on
pub copies_cover : (c : List ℕ) (from p n q : ℕ) → p ≤ q → q < p + n → is_stored (copying c from p n) q ≡ true
unfolding is_stored copying
copies_cover c from p zero q h l = absurd (omega arith)
copies_cover c from p (suc n) q h l = by (eqb p q) refl (copies_cover c (suc from) (suc p) n q)
  where
    by : (z : Bool) → eqb p q ≡ z → (suc p ≤ q → q < suc p + n → is_stored (copying c (suc from) (suc p) n) q ≡ true) → (z || is_stored (copying c (suc from) (suc p) n) q) ≡ true
    by true e f = refl
    by false e f = f (omega (arith, eqb-false p q e)) (omega arith)

-- copies of blocks that two cards share
pub copying_same : (s t : List ℕ) (b : ℕ) → ((p : ℕ) → p < b → block_at s p ≡ block_at t p) → (from p n : ℕ) → from + n ≤ b → copying s from p n ≡ copying t from p n
unfolding copying
copying_same s t b shared from p zero h = refl
copying_same s t b shared from p (suc n) h = rw (shared from (omega arith), copying_same s t b shared (suc from) (suc p) n (omega arith))
