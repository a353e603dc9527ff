-- Laws of a write through an entry that was found: what it needs, that new data goes to beta or after it, so that what is set afterwards is that of the card at entry;
-- that it stores whole blocks, which blocks these are, and that it stores the same on two cards.
use mathlib.Core.Path.{◌≡◌, refl, sym, ap, ◌∙◌}
use mathlib.Core.Bool.{Bool, true, false, not, ◌&&◌}
use mathlib.Core.List.{List, [], ◌∷◌}
use Prim.Native.Nat.{ℕ, ◌+◌, ◌*◌, ◌/◌, ◌≤◌, ◌<◌, ◌%◌}
use native.Mathlib.Omega.{arith}
use lib.ListN.{length}
use lib.Dec.{eqb, leb, ltb}
use borrow.Author.Tests.{eq-eqb, ne_eqb, eqb-false, leb-true, ltb-false, ltb-true, eqb-true}
use Rattle.blocks.specs.Pick.{pick}
use Rattle.blocks.specs.Bytes.{block_at, store_block, store_all, store, Store, zero_block}
use Rattle.blocks.specs.Descriptor.{tail_at, extended_of}
use Rattle.blocks.specs.declared.numbers.Physical.{Physical}
use Rattle.blocks.specs.declared.descriptor.Descriptor.{Descriptor}
use Rattle.blocks.proofs.ByteLaws.{store_other, length_block_at}
use Rattle.blocks.proofs.DescriptorLaws.{store_tail, tail_length, block_whole, cost_least}
use Rattle.entries.specs.Through.{WriteReady, Through}
use Rattle.entries.specs.Entry.{table_is_new, need, set_in_table, set_in_new_table, writing, find, tail_with}
use Rattle.entries.specs.Found.{Found, Misplaced, Entry}
use Rattle.chains.specs.Chain.{chain, descriptors}
use Rattle.entries.proofs.EntryLaws.{through_beta, through_end, through_volume, found_table, found_entry, need_more}
use Rattle.blocks.proofs.Tests.{and_right}
use Rattle.blocks.proofs.BoolLaws.{or_false_right}
use Rattle.blocks.proofs.StoreLists.{is_stored, Whole, none, also}
use mathlib.Core.Logic.{◌⊎◌, inl, inr}
use Rattle.entries.proofs.SetLaws.{table_length, tail_with_length, source_length}

-- need, where a set entry is not overwritten, says whether the table block is new
new_by : (s t : Bool) (n : ℕ) → n ≡ pick s 0 (pick t 2 1) → (n ≡ 0 → ⊥) → t ≡ eqb n 2
new_by true t n e z = absurd (z e)
new_by false true n e z = sym (eq-eqb n 2 e)
new_by false false n e z = sym (ne_eqb n 2 (omega arith))

need_new : (alpha n : ℕ) (m p : Physical) → n ≡ need alpha (Entry m p) → (n ≡ 0 → ⊥) → table_is_new alpha m.0 ≡ eqb n 2
unfolding need
need_new alpha n m p e z = new_by (not (eqb p.0 0) && leb alpha p.0) (table_is_new alpha m.0) n e z

pub need_one : (alpha : ℕ) (m p : Physical) → need alpha (Entry m p) ≡ 1 → table_is_new alpha m.0 ≡ false
need_one alpha m p e = need_new alpha (need alpha (Entry m p)) m p refl (λ z. omega (arith, z, e)) ∙ rw e

pub need_two : (alpha : ℕ) (m p : Physical) → need alpha (Entry m p) ≡ 2 → table_is_new alpha m.0 ≡ true
need_two alpha m p e = need_new alpha (need alpha (Entry m p)) m p refl (λ z. omega (arith, z, e)) ∙ rw e

zero_by : (z a t : Bool) (n : ℕ) → n ≡ pick (not z && a) 0 (pick t 2 1) → n ≡ 0 → z ≡ false
zero_by false a t n e h = refl
zero_by true a true n e h = absurd (omega arith)
zero_by true a false n e h = absurd (omega arith)

need_none : (alpha n : ℕ) (m p : Physical) → n ≡ need alpha (Entry m p) → n ≡ 0 → p.0 ≡ 0 → ⊥
unfolding need
need_none alpha n m p e z q = eqb-false p.0 0 (zero_by (eqb p.0 0) (leb alpha p.0) (table_is_new alpha m.0) n e z) q

-- what is set is the same after the store of a block at or above beta
module _ (c : List ℕ) (d : Descriptor) (m p l : ℕ) (block : List ℕ) (ready : WriteReady c d m p l block) (q : ℕ) (above : d.beta.0 ≤ q) (inside : 512 * q + 512 ≤ length c) where
  abbrev after : List ℕ
  after = store_block c q block

  tail_kept : tail_at after d.alpha.0 ≡ tail_at c d.alpha.0
  tail_kept = store_tail c q block d.alpha.0 ready.whole inside (omega (arith, ready.region, ready.upto)) (omega (arith, ready.region))

  table_kept : block_at after m ≡ block_at c m
  table_kept = store_other c q block ready.whole inside m (omega (arith, ready.table))

  set_kept : set_in_table after d m l ≡ set_in_table c d m l
  unfolding set_in_table
  set_kept = rw (tail_kept, table_kept)

  new_set_kept : set_in_new_table after d m l ≡ set_in_new_table c d m l
  unfolding set_in_new_table
  new_set_kept = rw (tail_kept, table_kept)

-- a write through an entry, by its need
module _ (c : List ℕ) (d : Descriptor) (m p : Physical) (l : ℕ) (block : List ℕ) (ready : WriteReady c d m.0 p.0 l block) (n : ℕ) (need_is : n ≡ need d.alpha.0 (Entry m p)) where
  pub put_inside : n ≡ 0 → (length block ≡ 512) × (512 * p.0 + 512 ≤ length c)
  put_inside z = (ready.whole, omega (arith, ready.entry (need_none d.alpha.0 n m p need_is z), ready.upto))

  pub put_over : n ≡ 0 → (c' : List ℕ) → c' ≡ store_block c p.0 block → c' ≡ store_all c (writing c d (Entry m p) l block)
  unfolding writing store_all
  put_over z c' e = e ∙ rw (← need_is, z)

  module _ (room : d.beta.0 + n ≤ length c / 512) (some : n ≡ 0 → ⊥) where
    pub put_in_new_table : n ≡ 2 → (c₁ c₂ : List ℕ) → c₁ ≡ store_block c (d.beta.0 + 1) block → c₂ ≡ store_all c₁ (set_in_new_table c₁ d m.0 l) → c₂ ≡ store_all c (writing c d (Entry m p) l block)
    unfolding writing store_all
    put_in_new_table z c₁ c₂ e f =
        let kept = new_set_kept c d m.0 p.0 l block ready (d.beta.0 + 1) (omega arith) (omega (arith, ready.upto)) in
        f
        ∙ ap (λ (x : List ℕ). store_all x (set_in_new_table x d m.0 l)) e
        ∙ ap (store_all (store_block c (d.beta.0 + 1) block)) kept
        ∙ rw (← need_is, ne_eqb n 0 some, need_new d.alpha.0 n m p need_is some, eq-eqb n 2 z)

    pub put_in_table : (n ≡ 2 → ⊥) → (c₁ c₂ : List ℕ) → c₁ ≡ store_block c d.beta.0 block → c₂ ≡ store_all c₁ (set_in_table c₁ d m.0 l) → c₂ ≡ store_all c (writing c d (Entry m p) l block)
    unfolding writing store_all
    put_in_table z c₁ c₂ e f =
        let kept = set_kept c d m.0 p.0 l block ready d.beta.0 (omega arith) (omega (arith, some)) in
        f
        ∙ ap (λ (x : List ℕ). store_all x (set_in_table x d m.0 l)) e
        ∙ ap (store_all (store_block c d.beta.0 block)) kept
        ∙ rw (← need_is, ne_eqb n 0 some, need_new d.alpha.0 n m p need_is some, ne_eqb n 2 z)

-- what a write through an entry must know, of a descriptor of a sound chain
pub write_ready : (c starts : List ℕ) (count : ℕ) (d : Descriptor) (t : Through c starts count d) (l : ℕ) (block : List ℕ) → length block ≡ 512 → l < d.volume
    → (f : Found) → f ≡ find c (descriptors (chain c)) d l → (m p : Physical) → f ≡ Entry m p → WriteReady c d m.0 p.0 l block
write_ready c starts count d t l block long below f found_is m p e =
    record {
      small = t.small;
      region = omega (arith, through_beta c starts count d t, cost_least d.layout d.volume);
      upto = through_end c starts count d t;
      table = found_table c starts count d t l below f found_is m p e;
      entry = found_entry c starts count d t l f found_is m p e;
      number = omega (arith, through_volume c starts count d t);
      whole = long;
    }

-- a write stores no block below the active alpha
module _ (c : List ℕ) (d : Descriptor) (low : d.alpha.0 < d.beta.0) (l : ℕ) (block : List ℕ) (q : ℕ) (h : q < d.alpha.0) where
  above_by : (m o : ℕ) (a n : Bool) → (a ≡ true → d.alpha.0 ≤ o) → (n ≡ false → d.alpha.0 ≤ m)
      → is_stored (pick (eqb (pick a 0 (pick n 2 1)) 0) (store o block ∷ []) (pick n (store (d.beta.0 + 1) block ∷ set_in_new_table c d m l) (store d.beta.0 block ∷ set_in_table c d m l))) q ≡ false
  unfolding is_stored set_in_new_table set_in_table
  above_by m o true n f g = rw (ne_eqb o q (omega (arith, f refl)))
  above_by m o false true f g = rw (ne_eqb (d.beta.0 + 1) q (omega arith), ne_eqb d.beta.0 q (omega arith), ne_eqb d.alpha.0 q (omega arith))
  above_by m o false false f g = rw (ne_eqb d.beta.0 q (omega arith), ne_eqb d.alpha.0 q (omega arith), ne_eqb m q (omega (arith, g refl)))

  not_new : (m : ℕ) → table_is_new d.alpha.0 m ≡ false → d.alpha.0 ≤ m
  unfolding table_is_new
  not_new m e = ltb-false m d.alpha.0 (or_false_right (eqb m 0) (ltb m d.alpha.0) e)

  pub writing_above : (f : Found) → is_stored (writing c d f l block) q ≡ false
  unfolding writing need is_stored
  writing_above (Misplaced x) = refl
  writing_above (Entry m o) =
      above_by m.0 o.0 (not (eqb o.0 0) && leb d.alpha.0 o.0) (table_is_new d.alpha.0 m.0)
      (λ e. leb-true d.alpha.0 o.0 (and_right (not (eqb o.0 0)) (leb d.alpha.0 o.0) e)) (not_new m.0)

-- each block that it takes is stored
module _ (c : List ℕ) (d : Descriptor) (l : ℕ) (block : List ℕ) where
  one_more : (x : List ℕ) (rest : List Store) (p : ℕ) → p < d.beta.0 + 1 → (z : Bool) → ltb p d.beta.0 ≡ z → (p < d.beta.0) ⊎ (is_stored (store d.beta.0 x ∷ rest) p ≡ true)
  unfolding is_stored
  one_more x rest p h true q = inl (ltb-true p d.beta.0 q)
  one_more x rest p h false q = inr (rw (eq-eqb d.beta.0 p (omega (arith, ltb-false p d.beta.0 q))))

  two_more : (x y : List ℕ) (rest : List Store) (p : ℕ) → p < d.beta.0 + 2 → (z o : Bool) → ltb p d.beta.0 ≡ z → eqb (d.beta.0 + 1) p ≡ o
      → (p < d.beta.0) ⊎ (is_stored (store (d.beta.0 + 1) x ∷ store d.beta.0 y ∷ rest) p ≡ true)
  unfolding is_stored
  two_more x y rest p h true o q r = inl (ltb-true p d.beta.0 q)
  two_more x y rest p h false true q r = inr (rw r)
  two_more x y rest p h false false q r = inr (rw (r, eq-eqb d.beta.0 p (omega (arith, ltb-false p d.beta.0 q, eqb-false (d.beta.0 + 1) p r))))

  taken_by : (m o p : ℕ) (a n : Bool) → p < d.beta.0 + pick a 0 (pick n 2 1)
      → (p < d.beta.0) ⊎ (is_stored (pick (eqb (pick a 0 (pick n 2 1)) 0) (store o block ∷ []) (pick n (store (d.beta.0 + 1) block ∷ set_in_new_table c d m l) (store d.beta.0 block ∷ set_in_table c d m l))) p ≡ true)
  unfolding set_in_new_table
  taken_by m o p true n h = inl (omega arith)
  taken_by m o p false true h = two_more block _ _ p h (ltb p d.beta.0) (eqb (d.beta.0 + 1) p) refl refl
  taken_by m o p false false h = one_more block _ p h (ltb p d.beta.0) refl

  pub writing_covers : (f : Found) (p : ℕ) → p < d.beta.0 + need d.alpha.0 f → (p < d.beta.0) ⊎ (is_stored (writing c d f l block) p ≡ true)
  unfolding writing need
  writing_covers (Misplaced h) p b = inl (omega arith)
  writing_covers (Entry m o) p b = taken_by m.0 o.0 p (not (eqb o.0 0) && leb d.alpha.0 o.0) (table_is_new d.alpha.0 m.0) b

-- on two cards with the same tail of the descriptor's block and the same table block it stores the same
pub writing_same : (s t : List ℕ) (d : Descriptor) (l : ℕ) (block : List ℕ) → tail_at s d.alpha.0 ≡ tail_at t d.alpha.0 → (f : Found) → ((m p : Physical) → f ≡ Entry m p → block_at s m.0 ≡ block_at t m.0)
    → writing s d f l block ≡ writing t d f l block
unfolding writing set_in_table set_in_new_table
writing_same s t d l block tail (Misplaced h) table = refl
writing_same s t d l block tail (Entry m p) table = rw (tail, table m p refl)

-- a write through an entry
module _ (c : List ℕ) (d : Descriptor) (m p : Physical) (l : ℕ) (block : List ℕ) (ready : WriteReady c d m.0 p.0 l block) (called : length d.name ≡ 16) where
  alpha_inside : 512 * d.alpha.0 + 512 ≤ length c
  alpha_inside = omega (arith, ready.region, ready.upto)

  table_inside : 512 * m.0 + 512 ≤ length c
  table_inside = omega (arith, ready.table, ready.upto)

  set_inside : Whole (length c) (set_in_table c d m.0 l)
  unfolding set_in_table
  set_inside =
      also d.alpha.0 _ (block_whole (extended_of d 1) (tail_at c d.alpha.0) called (tail_length c d.alpha.0 alpha_inside)) alpha_inside
      (also m.0 _ (table_length (block_at c m.0) (l % 128) d.beta.0 (length_block_at c m.0 table_inside) (omega arith)) table_inside none)

  new_set_inside : 512 * d.beta.0 + 512 ≤ length c → Whole (length c) (set_in_new_table c d m.0 l)
  unfolding set_in_new_table
  new_set_inside h =
      also d.beta.0 _ (table_length (pick (eqb m.0 0) zero_block (block_at c m.0)) (l % 128) (d.beta.0 + 1) (source_length c m.0 (eqb m.0 0) (λ e. table_inside)) (omega arith)) h
      (also d.alpha.0 _
      (block_whole (extended_of d 2) (tail_with (tail_at c d.alpha.0) (l / 128) d.beta.0) called (tail_with_length (tail_at c d.alpha.0) (l / 128) d.beta.0 (tail_length c d.alpha.0 alpha_inside) (omega (arith, ready.number))))
      alpha_inside none)

  module _ (room : d.beta.0 + need d.alpha.0 (Entry m p) ≤ length c / 512) where
    made_inside : (t : Bool) → d.beta.0 + pick t 2 1 ≤ length c / 512
        → Whole (length c) (pick t (store (d.beta.0 + 1) block ∷ set_in_new_table c d m.0 l) (store d.beta.0 block ∷ set_in_table c d m.0 l))
    made_inside true h = also (d.beta.0 + 1) block ready.whole (omega arith) (new_set_inside (omega arith))
    made_inside false h = also d.beta.0 block ready.whole (omega arith) set_inside

    entry_by : (z : Bool) → eqb (need d.alpha.0 (Entry m p)) 0 ≡ z
        → Whole (length c) (pick z (store p.0 block ∷ []) (pick (table_is_new d.alpha.0 m.0) (store (d.beta.0 + 1) block ∷ set_in_new_table c d m.0 l) (store d.beta.0 block ∷ set_in_table c d m.0 l)))
    entry_by true e = also p.0 block ready.whole (put_inside c d m p l block ready (need d.alpha.0 (Entry m p)) refl (eqb-true _ _ e)).1 none
    entry_by false e = made_inside (table_is_new d.alpha.0 m.0) (rw (← (need_more d.alpha.0 m p (eqb-false _ _ e))) room)

    pub entry_inside : Whole (length c) (writing c d (Entry m p) l block)
    unfolding writing
    entry_inside = entry_by (eqb (need d.alpha.0 (Entry m p)) 0) refl
