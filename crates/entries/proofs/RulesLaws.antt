-- The rules that check holds entries to, on a card and on another whose entries are the same, or the same but for one that was set.
use mathlib.Core.List.{List}
use Prim.Native.Nat.{ℕ, ◌+◌, ◌*◌, ◌/◌, ◌%◌, ◌≤◌, ◌<◌}
use Rattle.blocks.specs.Descriptor.{renamed_of, linked_of, extended_of, table_count, reopened_of}
use Rattle.blocks.specs.declared.numbers.Physical.{Physical}
use Rattle.blocks.specs.declared.descriptor.Descriptor.{Descriptor}
use Rattle.entries.specs.InPlace.{is_in_place}
use Rattle.entries.specs.Entry.{phi_at, table_of, entry_at}
use Rattle.entries.specs.Rules.{entry_of, Rules, PhiRules, TableRules}
use mathlib.Core.Path.{◌≡◌, refl, sym, ap, ◌∙◌, subst}
use mathlib.Core.Logic.{◌⊎◌, inl, inr}
use mathlib.Core.Bool.{Bool, true, false, ◌||◌}
use native.Mathlib.Omega.{arith}
use lib.ListN.{length}
use lib.Dec.{eqb}
use borrow.Author.Tests.{eqb-true, eqb-false, ne_eqb}
use Rattle.blocks.specs.Pick.{pick}
use Rattle.blocks.specs.Bytes.{block_at}
use Rattle.blocks.proofs.BoolLaws.{no}
use Rattle.entries.proofs.EntryLaws.{placed_below}
use Rattle.links.proofs.SharedLaws.{shared_number, Below}
use Rattle.entries.proofs.LocalLaws.{Region, local_entry, local_phi, local_table}
use Rattle.entries.proofs.TableLaws.{table_two, under, table_own, table_phi, layout_two}

-- of a descriptor under another name, linked otherwise
pub entry_renamed : (c : List ℕ) (v : Descriptor) (n : List ℕ) (q : Physical) (l : ℕ) → entry_of c (linked_of (renamed_of v n) q) l ≡ entry_of c v l
unfolding phi_at table_of entry_of
entry_renamed c v n q l = refl

pub rules_renamed : (c : List ℕ) (ds : List Descriptor) (v : Descriptor) (n : List ℕ) (q : Physical) → Rules c ds v → Rules c ds (linked_of (renamed_of v n) q)
unfolding is_in_place phi_at table_of entry_of
rules_renamed c ds v n q r =
    record {
      phi = λ two. record {
        in_place = (r.phi two).in_place;
        past_n = (r.phi two).past_n;
        once = (r.phi two).once;
        tables_and_entries = (r.phi two).tables_and_entries;
        table_above = (r.phi two).table_above;
      };
      tables = record { in_place = r.tables.in_place; past_volume = r.tables.past_volume; once = r.tables.once };
    }

-- the rules depend on the entries and on what is in place
module _ (s t : List ℕ) (ds es : List Descriptor) (d : Descriptor) (few : table_count d.volume ≤ 112) (wider : (p : ℕ) → is_in_place ds d p ≡ true → is_in_place es d p ≡ true)
    (phi : (i : ℕ) → i < 112 → phi_at s d i ≡ phi_at t d i) (entry : (l : ℕ) → l < 128 * table_count d.volume → entry_of s d l ≡ entry_of t d l) where
  same_table : (i : ℕ) → i < 112 → table_of s d i ≡ table_of t d i
  unfolding table_of
  same_table i h = rw (phi i h)

  group_few : (l : ℕ) → l < d.volume → l / 128 < 112
  group_few l h = omega (arith, under l d.volume h, few)

  phi_rules : PhiRules s ds d → PhiRules t es d
  phi_rules r =
      record {
        in_place = λ i h. rw (← phi i (omega (arith, few))) (wider (phi_at s d i) (r.in_place i h));
        past_n = λ i h k. sym (phi i k) ∙ r.past_n i h k;
        once = λ i k h g e n. r.once i k h g (phi i (omega (arith, few)) ∙ e ∙ sym (phi k (omega (arith, few)))) (λ z. n (sym (phi i (omega (arith, few))) ∙ z));
        tables_and_entries = λ i l h g e. sym (phi i (omega (arith, few))) ∙ r.tables_and_entries i l h g (phi i (omega (arith, few)) ∙ e ∙ sym (entry l (under l d.volume g)));
        table_above = λ l h g n. subst (λ (m : ℕ). d.alpha.0 ≤ m) (same_table (l / 128) (group_few l h))
            (r.table_above l h (subst (λ (m : ℕ). d.alpha.0 ≤ m) (sym (entry l (under l d.volume h))) g) (λ z. n (sym (entry l (under l d.volume h)) ∙ z)));
      }

  table_rules : TableRules s ds d → TableRules t es d
  table_rules r =
      record {
        in_place = λ l h. rw (← entry l (under l d.volume h)) (wider (entry_of s d l) (r.in_place l h));
        past_volume = λ l h k. sym (entry l k) ∙ r.past_volume l h k;
        once = λ l k h g e n. r.once l k h g (entry l (under l d.volume h) ∙ e ∙ sym (entry k (under k d.volume g))) (λ z. n (sym (entry l (under l d.volume h)) ∙ z));
      }

  same_rules : Rules s ds d → Rules t es d
  same_rules r = record { phi = λ e. phi_rules (r.phi e); tables = table_rules r.tables }

-- the rules of a descriptor on a card with the same blocks below its beta
module _ (s t : List ℕ) (b : ℕ) (below : Below s t b) (d : Descriptor) (region : Region d b) (ds es : List Descriptor) (layout : (eqb d.layout 1 || eqb d.layout 2) ≡ true) (rules : Rules s ds d) where
  shared_by : (m j : ℕ) → j < 128 → (z : Bool) → (z ≡ false → m < b) → pick z 0 (entry_at s m j) ≡ pick z 0 (entry_at t m j)
  shared_by m j l true h = refl
  shared_by m j l false h = local_entry s t b below m j (h refl) l

  table_below : (i : ℕ) → i < table_count d.volume → eqb (table_of s d i) 0 ≡ false → (o w : Bool) → eqb d.layout 1 ≡ o → eqb d.layout 2 ≡ w → (o || w) ≡ true → table_of s d i < b
  unfolding table_of
  table_below i h z true w e f k = rw e (omega (arith, region.own (eqb-true d.layout 1 e), region.upto))
  table_below i h z false true e f k =
      let y : eqb (phi_at s d i) 0 ≡ false = rw e at z in
      rw e (omega (arith, placed_below ds d (phi_at s d i) ((rules.phi (eqb-true d.layout 2 f)).in_place i h) (eqb-false (phi_at s d i) 0 y), region.upto))
  table_below i h z false false e f k = no k

  pub shared_entry : (l : ℕ) → l < 128 * table_count d.volume → entry_of s d l ≡ entry_of t d l
  unfolding entry_of
  shared_entry l h =
      rw (← local_table s t b below d region (l / 128) (omega (arith, region.few)))
      (shared_by (table_of s d (l / 128)) (l % 128) (omega arith) (eqb (table_of s d (l / 128)) 0)
      (λ z. table_below (l / 128) (omega arith) z (eqb d.layout 1) (eqb d.layout 2) refl refl layout))

  pub shared_rules : ((p : ℕ) → is_in_place ds d p ≡ true → is_in_place es d p ≡ true) → Rules t es d
  shared_rules wider = same_rules s t ds es d region.few wider (λ i h. local_phi s t b below d region i h) shared_entry rules

-- the tables' rules where one entry is set to a block at or above beta, and the others stay
module _ (c t : List ℕ) (ds es : List Descriptor) (d : Descriptor) (k : ℕ) (wider : (p : ℕ) → is_in_place ds d p ≡ true → is_in_place es (extended_of d k) p ≡ true) (l q : ℕ) (inside : l < d.volume)
    (new : is_in_place es (extended_of d k) q ≡ true) (fresh : d.beta.0 ≤ q) (set : entry_of t (extended_of d k) l ≡ q)
    (other : (i : ℕ) → i < 128 * table_count d.volume → (i ≡ l → ⊥) → entry_of t (extended_of d k) i ≡ entry_of c d i) (rules : TableRules c ds d) where
  set_placed : (i : ℕ) → i < d.volume → (b : Bool) → eqb i l ≡ b → is_in_place es (extended_of d k) (entry_of t (extended_of d k) i) ≡ true
  set_placed i h true e = subst (λ (n : ℕ). is_in_place es (extended_of d k) n ≡ true) (sym (ap (λ (n : ℕ). entry_of t (extended_of d k) n) (eqb-true i l e) ∙ set)) new
  set_placed i h false e = subst (λ (n : ℕ). is_in_place es (extended_of d k) n ≡ true) (sym (other i (under i d.volume h) (eqb-false i l e))) (wider (entry_of c d i) (rules.in_place i h))

  -- an entry that stays is no block at or above beta
  old_other : (i : ℕ) → i < d.volume → entry_of c d i ≡ q → (q ≡ 0 → ⊥) → ⊥
  old_other i h e n = omega (arith, placed_below ds d (entry_of c d i) (rules.in_place i h) (λ z. n (sym e ∙ z)))

  set_once : (i j : ℕ) → i < d.volume → j < d.volume → entry_of t (extended_of d k) i ≡ entry_of t (extended_of d k) j → (entry_of t (extended_of d k) i ≡ 0 → ⊥)
      → (a b : Bool) → eqb i l ≡ a → eqb j l ≡ b → i ≡ j
  set_once i j h g e n true true u v = eqb-true i l u ∙ sym (eqb-true j l v)
  set_once i j h g e n true false u v =
      let w : entry_of t (extended_of d k) i ≡ q = ap (λ (n : ℕ). entry_of t (extended_of d k) n) (eqb-true i l u) ∙ set in
      absurd (old_other j g (sym (other j (under j d.volume g) (eqb-false j l v)) ∙ sym e ∙ w) (λ z. n (w ∙ z)))
  set_once i j h g e n false true u v =
      let w : entry_of t (extended_of d k) j ≡ q = ap (λ (n : ℕ). entry_of t (extended_of d k) n) (eqb-true j l v) ∙ set in
      absurd (old_other i h (sym (other i (under i d.volume h) (eqb-false i l u)) ∙ e ∙ w) (λ z. n (e ∙ w ∙ z)))
  set_once i j h g e n false false u v =
      let y = other i (under i d.volume h) (eqb-false i l u) in
      let w = other j (under j d.volume g) (eqb-false j l v) in
      rules.once i j h g (sym y ∙ e ∙ w) (λ z. n (y ∙ z))

  pub set_table_rules : TableRules t es (extended_of d k)
  set_table_rules =
      record {
        in_place = λ i h. set_placed i h (eqb i l) refl;
        past_volume = λ i h g. other i g (λ z. omega (arith, z)) ∙ rules.past_volume i h g;
        once = λ i j h g e n. set_once i j h g e n (eqb i l) (eqb j l) refl refl;
      }

-- Phi's own rules where its entry g is as it was or names a block at or above beta, and the others stay
module _ (c t : List ℕ) (ds es : List Descriptor) (d : Descriptor) (k : ℕ) (wider : (p : ℕ) → is_in_place ds d p ≡ true → is_in_place es (extended_of d k) p ≡ true) (g : ℕ) (inside : g < table_count d.volume) (few : table_count d.volume ≤ 112)
    (each : (i : ℕ) → i < 112 → (phi_at t (extended_of d k) i ≡ phi_at c d i) ⊎ ((i ≡ g) × (d.beta.0 ≤ phi_at t (extended_of d k) i) × (is_in_place es (extended_of d k) (phi_at t (extended_of d k) i) ≡ true)))
    (rules : PhiRules c ds d) where
  abbrev New : ℕ → Type 0
  New i = (i ≡ g) × (d.beta.0 ≤ phi_at t (extended_of d k) i) × (is_in_place es (extended_of d k) (phi_at t (extended_of d k) i) ≡ true)

  phi_placed_by : (i : ℕ) → i < table_count d.volume → (phi_at t (extended_of d k) i ≡ phi_at c d i) ⊎ New i → is_in_place es (extended_of d k) (phi_at t (extended_of d k) i) ≡ true
  phi_placed_by i h (inl e) = subst (λ (n : ℕ). is_in_place es (extended_of d k) n ≡ true) (sym e) (wider (phi_at c d i) (rules.in_place i h))
  phi_placed_by i h (inr n) = n.2

  set_phi_placed : (i : ℕ) → i < table_count d.volume → is_in_place es (extended_of d k) (phi_at t (extended_of d k) i) ≡ true
  set_phi_placed i h = phi_placed_by i h (each i (omega (arith, few)))

  phi_past_by : (i : ℕ) → table_count d.volume ≤ i → i < 112 → (phi_at t (extended_of d k) i ≡ phi_at c d i) ⊎ New i → phi_at t (extended_of d k) i ≡ 0
  phi_past_by i h u (inl e) = e ∙ rules.past_n i h u
  phi_past_by i h u (inr n) = absurd (omega (arith, n.0))

  set_phi_past : (i : ℕ) → table_count d.volume ≤ i → i < 112 → phi_at t (extended_of d k) i ≡ 0
  set_phi_past i h u = phi_past_by i h u (each i u)

  phi_old : (i : ℕ) → i < table_count d.volume → (phi_at c d i ≡ 0 → ⊥) → phi_at c d i < d.beta.0
  phi_old i h n = placed_below ds d (phi_at c d i) (rules.in_place i h) n

  phi_once_by : (i j : ℕ) → i < table_count d.volume → j < table_count d.volume → phi_at t (extended_of d k) i ≡ phi_at t (extended_of d k) j → (phi_at t (extended_of d k) i ≡ 0 → ⊥)
      → (phi_at t (extended_of d k) i ≡ phi_at c d i) ⊎ New i → (phi_at t (extended_of d k) j ≡ phi_at c d j) ⊎ New j → i ≡ j
  phi_once_by i j h u e n (inl a) (inl b) = rules.once i j h u (sym a ∙ e ∙ b) (λ z. n (a ∙ z))
  phi_once_by i j h u e n (inl a) (inr b) = absurd (omega (arith, phi_old i h (λ z. n (a ∙ z)), b.1, a, e))
  phi_once_by i j h u e n (inr a) (inl b) = absurd (omega (arith, phi_old j u (λ z. n (e ∙ b ∙ z)), a.1, b, e))
  phi_once_by i j h u e n (inr a) (inr b) = a.0 ∙ sym b.0

  set_phi_once : (i j : ℕ) → i < table_count d.volume → j < table_count d.volume → phi_at t (extended_of d k) i ≡ phi_at t (extended_of d k) j → (phi_at t (extended_of d k) i ≡ 0 → ⊥) → i ≡ j
  set_phi_once i j h u e n = phi_once_by i j h u e n (each i (omega (arith, few))) (each j (omega (arith, few)))

  -- Phi and the entries together, where entry l is set to the block q at or above beta that Phi does not name
  module _ (two : d.layout ≡ 2) (low : d.alpha.0 < d.beta.0) (l q : ℕ) (fresh : d.beta.0 ≤ q) (apart : (i : ℕ) → i < 112 → phi_at t (extended_of d k) i ≡ q → ⊥) (set : entry_of t (extended_of d k) l ≡ q)
      (other : (i : ℕ) → i < d.volume → (i ≡ l → ⊥) → entry_of t (extended_of d k) i ≡ entry_of c d i) (own : d.alpha.0 ≤ table_of t (extended_of d k) (l / 128)) (tables : TableRules c ds d) where
    both_by : (i j : ℕ) → i < table_count d.volume → j < d.volume → phi_at t (extended_of d k) i ≡ entry_of t (extended_of d k) j → (b z : Bool) → eqb j l ≡ b → eqb (entry_of c d j) 0 ≡ z
        → (phi_at t (extended_of d k) i ≡ phi_at c d i) ⊎ New i → phi_at t (extended_of d k) i ≡ 0
    both_by i j h u e true z v w a = absurd (apart i (omega (arith, few)) (e ∙ ap (λ (n : ℕ). entry_of t (extended_of d k) n) (eqb-true j l v) ∙ set))
    both_by i j h u e false true v w a = e ∙ other j u (eqb-false j l v) ∙ eqb-true (entry_of c d j) 0 w
    both_by i j h u e false false v w (inl a) = a ∙ rules.tables_and_entries i j h u (sym a ∙ e ∙ other j u (eqb-false j l v))
    both_by i j h u e false false v w (inr a) =
        absurd (omega (arith, a.1, e, other j u (eqb-false j l v), placed_below ds d (entry_of c d j) (tables.in_place j u) (eqb-false (entry_of c d j) 0 w)))

    kept_above : (i : ℕ) → d.alpha.0 ≤ table_of c d i → (phi_at t (extended_of d k) i ≡ phi_at c d i) ⊎ New i → d.alpha.0 ≤ table_of t (extended_of d k) i
    kept_above i h (inl a) = omega (arith, h, a, table_two c d i two, table_two t (extended_of d k) i two)
    kept_above i h (inr a) = omega (arith, a.1, low, table_two t (extended_of d k) i two)

    few_group : (j : ℕ) → j < d.volume → j / 128 < 112
    few_group j h = omega (arith, few, under j d.volume h)

    above_by : (j : ℕ) → j < d.volume → d.alpha.0 ≤ entry_of t (extended_of d k) j → (entry_of t (extended_of d k) j ≡ 0 → ⊥) → (b : Bool) → eqb j l ≡ b → d.alpha.0 ≤ table_of t (extended_of d k) (j / 128)
    above_by j h u n true v = subst (λ (i : ℕ). d.alpha.0 ≤ table_of t (extended_of d k) (i / 128)) (sym (eqb-true j l v)) own
    above_by j h u n false v =
        let e = other j h (eqb-false j l v) in
        kept_above (j / 128) (rules.table_above j h (omega (arith, u, e)) (λ z. n (e ∙ z))) (each (j / 128) (few_group j h))

    pub set_phi_rules : PhiRules t es (extended_of d k)
    set_phi_rules =
        record {
          in_place = set_phi_placed;
          past_n = set_phi_past;
          once = set_phi_once;
          tables_and_entries = λ i j h u e. both_by i j h u e (eqb j l) (eqb (entry_of c d j) 0) refl refl (each i (omega (arith, few)));
          table_above = λ j h u n. above_by j h u n (eqb j l) refl;
        }

-- the rules where the blocks of the descriptor and of its tables stay
module _ (s t : List ℕ) (ds es : List Descriptor) (d : Descriptor) (few : table_count d.volume ≤ 112) (wider : (p : ℕ) → is_in_place ds d p ≡ true → is_in_place es d p ≡ true) (long : length s ≡ length t)
    (here : 512 * d.alpha.0 + 512 ≤ length s) (kept : block_at s d.alpha.0 ≡ block_at t d.alpha.0)
    (table : (i : ℕ) → i < table_count d.volume → eqb (table_of s d i) 0 ≡ false → (512 * table_of s d i + 512 ≤ length s) × (block_at s (table_of s d i) ≡ block_at t (table_of s d i))) where
  kept_phi : (i : ℕ) → i < 112 → phi_at s d i ≡ phi_at t d i
  unfolding phi_at
  kept_phi i h =
      let e : 512 * d.alpha.0 + 64 + 4 * i ≡ 512 * d.alpha.0 + (64 + 4 * i) = omega arith in
      rw e (shared_number s t d.alpha.0 here (omega (arith, here, long)) kept (64 + 4 * i) (omega arith))

  kept_table : (i : ℕ) → i < 112 → table_of s d i ≡ table_of t d i
  unfolding table_of
  kept_table i h = rw (kept_phi i h)

  kept_by : (m j : ℕ) → j < 128 → (z : Bool) → (z ≡ false → (512 * m + 512 ≤ length s) × (block_at s m ≡ block_at t m)) → pick z 0 (entry_at s m j) ≡ pick z 0 (entry_at t m j)
  unfolding entry_at
  kept_by m j l true h = refl
  kept_by m j l false h = shared_number s t m (h refl).0 (omega (arith, (h refl).0, long)) (h refl).1 (4 * j) (omega arith)

  pub kept_entry : (l : ℕ) → l < 128 * table_count d.volume → entry_of s d l ≡ entry_of t d l
  unfolding entry_of
  kept_entry l h =
      rw (← kept_table (l / 128) (omega (arith, few)))
      (kept_by (table_of s d (l / 128)) (l % 128) (omega arith) (eqb (table_of s d (l / 128)) 0) (λ z. table (l / 128) (omega arith) z))

  pub kept_rules : Rules s ds d → Rules t es d
  kept_rules r = same_rules s t ds es d few wider kept_phi kept_entry r

-- the same entries on another card
module _ (c t : List ℕ) (ds : List Descriptor) (d : Descriptor) (layout : (eqb d.layout 1 || eqb d.layout 2) ≡ true) (few : table_count d.volume ≤ 112) (r : Rules c ds d)
    (phi : (i : ℕ) → i < 112 → phi_at t d i ≡ phi_at c d i)
    (own : d.layout ≡ 1 → (i : ℕ) → i < table_count d.volume → (j : ℕ) → j < 128 → entry_at t (d.alpha.0 + 1 + i) j ≡ entry_at c (d.alpha.0 + 1 + i) j)
    (placed : (m : ℕ) → is_in_place ds d m ≡ true → (m ≡ 0 → ⊥) → (j : ℕ) → j < 128 → entry_at t m j ≡ entry_at c m j) where
  moved_table : (i : ℕ) → i < 112 → table_of t d i ≡ table_of c d i
  unfolding table_of
  moved_table i h = rw (phi i h)

  moved_by : (i j : ℕ) → i < table_count d.volume → j < 128 → (o z : Bool) → eqb d.layout 1 ≡ o → eqb (table_of c d i) 0 ≡ z → pick z 0 (entry_at t (table_of c d i) j) ≡ pick z 0 (entry_at c (table_of c d i) j)
  moved_by i j h k o true e q = refl
  moved_by i j h k true false e q = rw (table_own c d i e) (own (eqb-true d.layout 1 e) i h j k)
  moved_by i j h k false false e q =
      rw (table_phi c d i e)
      (placed (phi_at c d i) ((r.phi (layout_two d.layout layout e)).in_place i h) (λ z. eqb-false (table_of c d i) 0 q (table_phi c d i e ∙ z)) j k)

  moved_all : (l : ℕ) → l < 128 * table_count d.volume → entry_of t d l ≡ entry_of c d l
  unfolding entry_of
  moved_all l h =
      rw (moved_table (l / 128) (omega (arith, few)))
      (moved_by (l / 128) (l % 128) (omega arith) (omega arith) (eqb d.layout 1) (eqb (table_of c d (l / 128)) 0) refl refl)

  pub moved_entry : (l : ℕ) → l < d.volume → entry_of t d l ≡ entry_of c d l
  moved_entry l h = moved_all l (under l d.volume h)

  pub rules_moved : (es : List Descriptor) → ((p : ℕ) → is_in_place ds d p ≡ true → is_in_place es d p ≡ true) → Rules t es d
  rules_moved es fit = same_rules c t ds es d few fit (λ i h. sym (phi i h)) (λ l h. sym (moved_all l h)) r

-- the rules of the region that a snap opens, whose entries are those of the region before
module _ (c s : List ℕ) (ds es : List Descriptor) (d : Descriptor) (layout : (eqb d.layout 1 || eqb d.layout 2) ≡ true) (few : table_count d.volume ≤ 112) (r : Rules c ds d)
    (phi : (i : ℕ) → i < 112 → phi_at s (reopened_of d) i ≡ phi_at c d i)
    (own : d.layout ≡ 1 → (i : ℕ) → i < table_count d.volume → (j : ℕ) → j < 128 → entry_at s (d.beta.0 + 1 + i) j ≡ entry_at c (d.alpha.0 + 1 + i) j)
    (placed : (m : ℕ) → is_in_place ds d m ≡ true → (m ≡ 0 → ⊥) → (j : ℕ) → j < 128 → entry_at s m j ≡ entry_at c m j)
    (fit : (p : ℕ) → is_in_place ds d p ≡ true → is_in_place es (reopened_of d) p ≡ true) where
  abbrev new : Descriptor
  new = reopened_of d

  same_phi : (i : ℕ) → i < table_count d.volume → phi_at s new i ≡ phi_at c d i
  same_phi i h = phi i (omega (arith, few))

  new_by : (i j : ℕ) → i < table_count d.volume → j < 128 → (o z : Bool) → eqb d.layout 1 ≡ o → eqb (phi_at c d i) 0 ≡ z
      → pick (eqb (table_of s new i) 0) 0 (entry_at s (table_of s new i) j) ≡ pick (eqb (table_of c d i) 0) 0 (entry_at c (table_of c d i) j)
  new_by i j h k true z e q =
      rw (table_own s new i e, table_own c d i e, ne_eqb (d.beta.0 + 1 + i) 0 (λ y. omega (arith, y)), ne_eqb (d.alpha.0 + 1 + i) 0 (λ y. omega (arith, y)))
      (own (eqb-true d.layout 1 e) i h j k)
  new_by i j h k false true e q = rw (table_phi s new i e, table_phi c d i e, same_phi i h, q)
  new_by i j h k false false e q =
      rw (table_phi s new i e, table_phi c d i e, same_phi i h, q)
      (placed (phi_at c d i) ((r.phi (layout_two d.layout layout e)).in_place i h) (eqb-false (phi_at c d i) 0 q) j k)

  pub reopened_entry : (l : ℕ) → l < 128 * table_count d.volume → entry_of s new l ≡ entry_of c d l
  unfolding entry_of
  reopened_entry l h = new_by (l / 128) (l % 128) (omega arith) (omega arith) (eqb d.layout 1) (eqb (phi_at c d (l / 128)) 0) refl refl

  same_below : (l : ℕ) → l < d.volume → entry_of s new l ≡ entry_of c d l
  same_below l h = reopened_entry l (under l d.volume h)

  pub rules_reopened : Rules s es (reopened_of d)
  rules_reopened =
      record {
        phi = λ two. record {
          in_place = λ i h. rw (same_phi i h) (fit (phi_at c d i) ((r.phi two).in_place i h));
          past_n = λ i h k. phi i k ∙ (r.phi two).past_n i h k;
          once = λ i k h g e z. (r.phi two).once i k h g (sym (same_phi i h) ∙ e ∙ same_phi k g) (λ y. z (same_phi i h ∙ y));
          tables_and_entries = λ i l h g e. same_phi i h ∙ (r.phi two).tables_and_entries i l h g (sym (same_phi i h) ∙ e ∙ same_below l g);
          table_above = λ l h a z. absurd (omega (arith, a, same_below l h, placed_below ds d (entry_of c d l) (r.tables.in_place l h) (λ y. z (same_below l h ∙ y))));
        };
        tables = record {
          in_place = λ l h. rw (same_below l h) (fit (entry_of c d l) (r.tables.in_place l h));
          past_volume = λ l h k. reopened_entry l k ∙ r.tables.past_volume l h k;
          once = λ l k h g e z. r.tables.once l k h g (sym (same_below l h) ∙ e ∙ same_below k g) (λ y. z (same_below l h ∙ y));
        };
      }
