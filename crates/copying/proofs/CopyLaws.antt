-- Laws of copies within a card: a part of a block byte by byte, blocks one after the other, and a descriptor's first bytes followed by a part of a block.
use mathlib.Core.Path.{◌≡◌, refl, sym, ap, ◌∙◌}
use mathlib.Core.Bool.{Bool, true, false}
use mathlib.Core.List.{List, [], ◌∷◌, ◌++◌, append-nil}
use Prim.Native.Nat.{ℕ, zero, suc, ◌+◌, ◌*◌, ◌-◌, ◌≤◌, ◌<◌, min}
use native.Mathlib.Numerals.{add-one}
use native.Mathlib.Nat.{add-zero}
use native.Mathlib.Omega.{arith}
use lib.ListN.{length, get_or, set, take}
use lib.Seq.{length-take-le, take-length, take-append-le, take-append-add}
use lib.Dec.{ltb}
use borrow.Author.Tests.{ltb-true, ltb-false}
use Rattle.blocks.specs.Bytes.{Store, store, part, splice, block_at, store_block, store_all, store_upto}
use Rattle.blocks.specs.Descriptor.{head_bytes, tail_at, descriptor_block, copying}
use Rattle.blocks.specs.declared.descriptor.Descriptor.{Descriptor}
use Rattle.blocks.proofs.ByteLaws.{outside, copied, copied_more, copied_all, copied_splice, copied_other, length_part, part_at, part_part, part_ext, part_join, splice_other, splice_join, splice_whole, length_splice}
use Rattle.blocks.proofs.StoreLists.{stored_append, stored_one, copied_out}

-- bytes s to e of block p copied to block q, one by one: the byte that comes next is as it was
module _ (c : List ℕ) (p q s e : ℕ) (rise : s ≤ e) (few : e ≤ 512) (inside_p : 512 * p + 512 ≤ length c) (inside_q : 512 * q + 512 ≤ length c) where
  abbrev made : ℕ → List ℕ
  made i = copied c (512 * q + s) (part c (512 * p + s) (e - s)) (i - s)

  part_long : length (part c (512 * p + s) (e - s)) ≡ e - s
  part_long = length_part c (512 * p + s) (e - s) (omega arith)

  pub part_more : (x : List ℕ) (i : ℕ) → s ≤ i → i < e → x ≡ made i → set x (512 * q + i) (get_or x (512 * p + i) 0) ≡ made (i + 1)
  part_more x i l h f =
      let n : 512 * q + s + (i - s) ≡ 512 * q + i = omega arith in
      let m : i - s + 1 ≡ i + 1 - s = omega arith in
      ap (set x (512 * q + i)) byte
      ∙ ap (λ (y : List ℕ). set y (512 * q + i) (get_or (part c (512 * p + s) (e - s)) (i - s) 0)) f
      ∙ ap (λ (j : ℕ). set (made i) j (get_or (part c (512 * p + s) (e - s)) (i - s) 0)) (sym n)
      ∙ copied_more c (512 * q + s) (part c (512 * p + s) (e - s)) (i - s) (omega arith) (omega (arith, part_long))
      ∙ ap (copied c (512 * q + s) (part c (512 * p + s) (e - s))) m
    where
      byte : get_or x (512 * p + i) 0 ≡ get_or (part c (512 * p + s) (e - s)) (i - s) 0
      byte =
          let n : 512 * p + s + (i - s) ≡ 512 * p + i = omega arith in
          ap (λ (y : List ℕ). get_or y (512 * p + i) 0) f
          ∙ copied_other c (512 * q + s) (part c (512 * p + s) (e - s)) (i - s) (512 * p + i) (omega (arith, part_long)) (omega arith)
          (outside (512 * p + i) (512 * q + s) (i - s) (λ j k. omega arith))
          ∙ ap (λ (j : ℕ). get_or c j 0) (sym n)
          ∙ sym (part_at c (512 * p + s) (e - s) (i - s) (omega arith))

  pub part_end : (x : List ℕ) (i : ℕ) → i ≤ e → e ≤ i → x ≡ made i → x ≡ splice c (512 * q + s) (part c (512 * p + s) (e - s))
  part_end x i h l f = f ∙ copied_all c (512 * q + s) (part c (512 * p + s) (e - s)) (i - s) (omega (arith, part_long))

-- copies of blocks that stand before where they go
copying_snoc : (c : List ℕ) (from to n : ℕ) → copying c from to (suc n) ≡ copying c from to n ++ (store (to + n) (block_at c (from + n)) ∷ [])
unfolding copying
copying_snoc c from to zero = let e : to + 0 ≡ to = omega arith in let f : from + 0 ≡ from = omega arith in rw (e, f)
copying_snoc c from to (suc n) =
    let e : to + suc n ≡ suc to + n = omega arith in
    let f : from + suc n ≡ suc from + n = omega arith in
    rw (e, f) (ap (λ (l : List Store). store to (block_at c from) ∷ l) (copying_snoc c (suc from) (suc to) n))

module _ (c : List ℕ) (from to : ℕ) where
  abbrev after : ℕ → List ℕ
  after n = store_all c (copying c from to n)

  after_suc : (n : ℕ) → after (suc n) ≡ store_block (after n) (to + n) (block_at c (from + n))
  after_suc n =
      ap (store_all c) (copying_snoc c from to n)
      ∙ stored_append c (copying c from to n) (store (to + n) (block_at c (from + n)) ∷ [])
      ∙ stored_one (after n) (to + n) (block_at c (from + n))

  pub copies_none : c ≡ after 0
  unfolding copying store_all
  copies_none = refl

  pub copies_more : (n i : ℕ) (x y b : List ℕ) → i < n → from + n ≤ to → 512 * (to + n) ≤ length c → x ≡ after i → b ≡ block_at x (from + i) → y ≡ store_block x (to + i) b → y ≡ after (i + 1)
  copies_more n i x y b m h l e f g =
      let q : b ≡ block_at c (from + i) = f ∙ ap (λ (z : List ℕ). block_at z (from + i)) e ∙ copied_out c c refl from to i (omega arith) (omega arith) (from + i) (λ j k. omega arith) in
      rw add-one (g ∙ ap (λ (z : List ℕ). store_block z (to + i) b) e ∙ ap (store_block (after i) (to + i)) q ∙ sym (after_suc i))

  pub copies_all : (n i : ℕ) (x : List ℕ) → x ≡ after i → i ≤ n → n ≤ i → x ≡ after n
  copies_all n i x e h k = let q : i ≡ n = omega arith in rw (← q) e

-- a copy of bytes 0 to 512 is a copy of the block
pub block_copied : (c x : List ℕ) (p q : ℕ) → x ≡ splice c (512 * q + 0) (part c (512 * p + 0) (512 - 0)) → x ≡ store_block c q (block_at c p)
unfolding store_block block_at
block_copied c x p q e = e ∙ rw (add-zero (512 * q), add-zero (512 * p))

-- what stands in block p from m on is as it was when bytes s to m of block q have been put
part_kept : (c x : List ℕ) (p q s m e : ℕ) → s + length x ≡ m → m ≤ e → e ≤ 512 → 512 * q + 512 ≤ length c → part (splice c (512 * q + s) x) (512 * p + m) (e - m) ≡ part c (512 * p + m) (e - m)
part_kept c x p q s m e long h few inside =
    part_ext (splice c (512 * q + s) x) c (512 * p + m) (e - m) (length_splice c (512 * q + s) x (omega arith))
    (λ i j k. splice_other c (512 * q + s) x (omega arith) i (outside i (512 * q + s) (length x) (λ u v. omega arith)))

-- two copies, the second where the first ends, are one
pub copies_join : (c x y : List ℕ) (p q s m e : ℕ) → s ≤ m → m ≤ e → e ≤ 512 → 512 * p + 512 ≤ length c → 512 * q + 512 ≤ length c → x ≡ splice c (512 * q + s) (part c (512 * p + s) (m - s))
    → y ≡ splice x (512 * q + m) (part x (512 * p + m) (e - m)) → y ≡ splice c (512 * q + s) (part c (512 * p + s) (e - s))
copies_join c x y p q s m e l h few inside_p inside_q f g =
    let first : List ℕ = part c (512 * p + s) (m - s) in
    let last : List ℕ = part c (512 * p + m) (e - m) in
    let long = length_part c (512 * p + s) (m - s) (omega arith) in
    let last_long = length_part c (512 * p + m) (e - m) (omega arith) in
    let at_p : 512 * p + s + (m - s) ≡ 512 * p + m = omega arith in
    let at_q : 512 * q + s + length first ≡ 512 * q + m = omega (arith, long) in
    g
    ∙ ap (splice x (512 * q + m)) (ap (λ (z : List ℕ). part z (512 * p + m) (e - m)) f ∙ part_kept c first p q s m e (omega (arith, long)) h few inside_q)
    ∙ ap (λ (z : List ℕ). splice z (512 * q + m) last) f
    ∙ splice_join c (512 * q + s) first (512 * q + m) last at_q (omega (arith, last_long))
    ∙ ap (splice c (512 * q + s)) (part_join c (512 * p + s) (m - s) (e - m) (e - s) first last (omega arith) refl (ap (λ (n : ℕ). part c n (e - m)) (sym at_p)))

-- the pass: the first bytes of the head, then those of block p from there on, are the first k bytes of the descriptor's block
module _ (c : List ℕ) (p q k : ℕ) (d : Descriptor) (few : k ≤ 512) (inside_p : 512 * p + 512 ≤ length c) (inside_q : 512 * q + 512 ≤ length c) (long : length (head_bytes d) ≡ 40) where
  abbrev block : List ℕ
  block = descriptor_block d (tail_at c p)

  -- what is still to be copied is as it was
  tail_kept : 40 ≤ k → part (splice c (512 * q) (head_bytes d)) (512 * p + 40) (k - 40) ≡ part c (512 * p + 40) (k - 40)
  tail_kept h = ap (λ (at : ℕ). part (splice c at (head_bytes d)) (512 * p + 40) (k - 40)) (sym (add-zero (512 * q))) ∙ part_kept c (head_bytes d) p q 0 40 k (omega (arith, long)) h few inside_q

  tail_first : 40 ≤ k → take (k - 40) (tail_at c p) ≡ part c (512 * p + 40) (k - 40)
  tail_first h = part_part c (512 * p + 40) 472 0 (k - 40) (omega arith) (omega arith) ∙ rw (add-zero (512 * p + 40))

  by_end : (e : ℕ) (x : List ℕ) (t : Bool) → ltb k 40 ≡ t → e ≡ min k 40 → x ≡ splice c (512 * q) (take e (head_bytes d)) → take e (head_bytes d) ++ part x (512 * p + e) (k - e) ≡ take k block
  unfolding descriptor_block
  by_end e x true f g h =
      let is : e ≡ k = omega (arith, ltb-true k 40 f) in
      let n : k - k ≡ 0 = omega arith in
      rw (is, n) (append-nil (take k (head_bytes d)) ∙ sym (take-append-le k (head_bytes d) (tail_at c p) (omega (arith, long, ltb-true k 40 f))))
  by_end e x false f g h =
      let l = ltb-false k 40 f in
      let is : e ≡ 40 = omega arith in
      let whole : take 40 (head_bytes d) ≡ head_bytes d = rw (← long, take-length (head_bytes d)) in
      let m : length (head_bytes d) + (k - 40) ≡ k = omega arith in
      rw (h, is, whole, tail_kept l, ← (tail_first l)) (sym (take-append-add (head_bytes d) (tail_at c p) (k - 40)) ∙ ap (λ (j : ℕ). take j block) m)

  pub pass_made : (e i : ℕ) (x y zeros head : List ℕ) → e ≡ min k 40 → length zeros ≡ 40 → head ≡ splice zeros 0 (head_bytes d) → x ≡ copied c (512 * q) head i → i ≤ e → e ≤ i
      → y ≡ splice x (512 * q + e) (part x (512 * p + e) (k - e)) → y ≡ store_upto c q block k
  unfolding store_upto
  pass_made e i x y zeros head g z put f l m s =
      let h : head ≡ head_bytes d = put ∙ splice_whole zeros (head_bytes d) (long ∙ sym z) in
      let fits : e ≤ length head = rw (h, long) (omega arith) in
      let n : length (take e head) ≡ e = length-take-le e head fits in
      let at : 512 * q + length (take e head) ≡ 512 * q + e = omega arith in
      let w : i ≡ e = omega arith in
      let first : x ≡ splice c (512 * q) (take e head) = f ∙ ap (copied c (512 * q) head) w ∙ copied_splice c (512 * q) head e fits in
      let x_long : length x ≡ length c = ap length first ∙ length_splice c (512 * q) (take e head) (omega arith) in
      let rest = length_part x (512 * p + e) (k - e) (omega arith) in
      s
      ∙ ap (λ (z : List ℕ). splice z (512 * q + e) (part x (512 * p + e) (k - e))) first
      ∙ splice_join c (512 * q) (take e head) (512 * q + e) (part x (512 * p + e) (k - e)) at (omega arith)
      ∙ ap (splice c (512 * q)) (rw h (by_end e x (ltb k 40) refl g (rw (← h) first)))
