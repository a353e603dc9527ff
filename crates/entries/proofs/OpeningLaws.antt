-- The flags of all openings say which blocks are descriptors or layout 1 table blocks, and the check of one descriptor starts from them.
use mathlib.Core.Path.{◌≡◌, refl, sym, ap, ◌∙◌}
use mathlib.Core.Logic.{◌⊎◌, inl, inr}
use mathlib.Core.Bool.{Bool, true, false, not, ◌&&◌, ◌||◌}
use mathlib.Core.List.{List, [], ◌∷◌, ◌++◌}
use Prim.Native.Nat.{ℕ, zero, suc, ◌+◌, ◌*◌, ◌≤◌, ◌<◌}
use native.Mathlib.Omega.{arith}
use lib.ListN.{length, take, get_or, set, replicate, length-set, length-replicate}
use lib.Seq.{get_or-set_same, get_or-set_other, take-suc, take-length}
use lib.Dec.{eqb, ltb, leb}
use borrow.Author.Tests.{eq-eqb, ne_eqb, lt-ltb, le-ltb, le-leb, lt-leb, eqb-true, eqb-false, ltb-true, ltb-false, leb-true, leb-false}
use Rattle.blocks.specs.Pick.{pick}
use Rattle.blocks.specs.Bytes.{block_count}
use Rattle.blocks.specs.Descriptor.{table_count, cost, cost_of, no_descriptor}
use Rattle.chains.specs.Chain.{chain, descriptors}
use Rattle.blocks.specs.declared.descriptor.Descriptor.{Descriptor}
use Rattle.blocks.proofs.BoolLaws.{no, or_assoc, or_nil}
use Rattle.links.proofs.SoundLaws.{form_layout}
use Rattle.blocks.proofs.DescriptorLaws.{cost_least, cost_one}
use Rattle.links.proofs.LinkedLaws.{at_alpha, at_cost, at_long, at_end}
use Rattle.entries.specs.InPlace.{is_descriptor, is_table}
use Rattle.entries.specs.Through.{Through}
use Rattle.entries.specs.Naming.{among, tables_namings, phi_namings, namings, check_one}
use Rattle.entries.specs.Marks.{flagged, openings_flagged, next_turn, next_flags, Marks, Taken, taking_all, TablesReady, PhiReady}
use Rattle.entries.specs.Found.{Passed}
use Rattle.entries.proofs.RegionLaws.{opening_alone, through_count, through_at, through_region, through_rising}
use Rattle.entries.proofs.EntryLaws.{through_beta, through_end, through_volume}
use Rattle.entries.proofs.CheckLaws.{Agrees, above_all, above_tables, taking_agrees}
use Rattle.blocks.proofs.ByteLaws.{zeros_at}

-- a run of flags
flagged_length : (seen : List ℕ) (from n : ℕ) → length (flagged seen from n) ≡ length seen
unfolding flagged
flagged_length seen from zero = refl
flagged_length seen from (suc n) = length-set (flagged seen from n) (from + n) 255 ∙ flagged_length seen from n

in_run : ℕ → ℕ → ℕ → Bool
in_run from n v = leb from v && ltb v (from + n)

run_none : (from v : ℕ) → in_run from 0 v ≡ false
unfolding in_run
run_none from v = by (leb from v) refl
  where
    by : (t : Bool) → leb from v ≡ t → (t && ltb v (from + 0)) ≡ false
    by true e = le-ltb v (from + 0) (omega (arith, leb-true from v e))
    by false e = refl

run_last : (from n : ℕ) → in_run from (suc n) (from + n) ≡ true
unfolding in_run
run_last from n = rw (le-leb from (from + n) (omega arith), lt-ltb (from + n) (from + suc n) (omega arith))

run_other : (from n v : ℕ) → (v ≡ from + n → ⊥) → in_run from (suc n) v ≡ in_run from n v
unfolding in_run
run_other from n v h = by (leb from v) refl
  where
    ends : (t : Bool) → ltb v (from + n) ≡ t → ltb v (from + suc n) ≡ t
    ends true e = lt-ltb v (from + suc n) (omega (arith, ltb-true v (from + n) e))
    ends false e = le-ltb v (from + suc n) (omega (arith, ltb-false v (from + n) e, h))

    by : (t : Bool) → leb from v ≡ t → (t && ltb v (from + suc n)) ≡ (t && ltb v (from + n))
    by true e = ends (ltb v (from + n)) refl
    by false e = refl

flagged_by : (seen : List ℕ) (from n v : ℕ) → from + suc n ≤ length seen → get_or (flagged seen from n) v 0 ≡ pick (in_run from n v) 255 (get_or seen v 0)
    → (t : Bool) → eqb v (from + n) ≡ t → get_or (set (flagged seen from n) (from + n) 255) v 0 ≡ pick (in_run from (suc n) v) 255 (get_or seen v 0)
flagged_by seen from n v h before true e =
    let q = eqb-true v (from + n) e in
    rw (q, run_last from n) (get_or-set_same (flagged seen from n) (from + n) 255 0 (omega (arith, flagged_length seen from n)))
flagged_by seen from n v h before false e =
    let q = eqb-false v (from + n) e in
    rw (run_other from n v q) (get_or-set_other (flagged seen from n) (from + n) v 255 0 q ∙ before)

flagged_says : (seen : List ℕ) (from n v : ℕ) → from + n ≤ length seen → get_or (flagged seen from n) v 0 ≡ pick (in_run from n v) 255 (get_or seen v 0)
unfolding flagged
flagged_says seen from zero v h = rw (run_none from v)
flagged_says seen from (suc n) v h = flagged_by seen from n v h (flagged_says seen from n v (omega arith)) (eqb v (from + n)) refl

-- in an opening of the descriptors of a list, in 01's words
opened : List Descriptor → ℕ → Bool
opened ds v = is_descriptor ds v || is_table ds v

abbrev tables : Descriptor → ℕ → Bool
tables d v = eqb d.layout 1 && ltb d.alpha.0 v && leb v (d.alpha.0 + table_count d.volume)

descriptor_snoc : (ds : List Descriptor) (d : Descriptor) (v : ℕ) → is_descriptor (ds ++ (d ∷ [])) v ≡ (is_descriptor ds v || (eqb v d.alpha.0 || false))
unfolding is_descriptor
descriptor_snoc [] d v = refl
descriptor_snoc (e ∷ ds) d v = rw (descriptor_snoc ds d v) (or_assoc (eqb v e.alpha.0) (is_descriptor ds v) (eqb v d.alpha.0 || false))

table_snoc : (ds : List Descriptor) (d : Descriptor) (v : ℕ) → is_table (ds ++ (d ∷ [])) v ≡ (is_table ds v || (tables d v || false))
unfolding is_table
table_snoc [] d v = refl
table_snoc (e ∷ ds) d v = rw (table_snoc ds d v) (or_assoc (tables e v) (is_table ds v) (tables d v || false))

-- the blocks of one opening
one_by : (d : Descriptor) (v : ℕ) (t : Bool) → ltb v d.alpha.0 ≡ t → ((eqb v d.alpha.0 || false) || (tables d v || false)) ≡ in_run d.alpha.0 (cost_of d) v
unfolding in_run
one_by d v true e =
    let l = ltb-true v d.alpha.0 e in
    rw (ne_eqb v d.alpha.0 (omega arith), le-ltb d.alpha.0 v (omega arith), lt-leb d.alpha.0 v l) (both (eqb d.layout 1) (leb v (d.alpha.0 + table_count d.volume)))
  where
    both : (x y : Bool) → ((x && false && y) || false) ≡ false
    both true y = refl
    both false y = refl
one_by d v false e =
    let l = ltb-false v d.alpha.0 e in
    rw (le-leb d.alpha.0 v l)
    (flip ((eqb v d.alpha.0 || false) || (tables d v || false)) (leb (d.alpha.0 + cost_of d) v) (opening_alone d v l) ∙ below (leb (d.alpha.0 + cost_of d) v) refl)
  where
    flip : (x y : Bool) → not x ≡ y → x ≡ not y
    flip true y h = ap not h
    flip false y h = ap not h

    below : (t : Bool) → leb (d.alpha.0 + cost_of d) v ≡ t → not t ≡ ltb v (d.alpha.0 + cost_of d)
    below true q = sym (le-ltb v (d.alpha.0 + cost_of d) (leb-true (d.alpha.0 + cost_of d) v q))
    below false q = sym (lt-ltb v (d.alpha.0 + cost_of d) (leb-false (d.alpha.0 + cost_of d) v q))

opened_more : (ds : List Descriptor) (d : Descriptor) (v : ℕ) → opened (ds ++ (d ∷ [])) v ≡ (in_run d.alpha.0 (cost_of d) v || opened ds v)
unfolding opened
opened_more ds d v =
    rw (descriptor_snoc ds d v, table_snoc ds d v, ← (one_by d v (ltb v d.alpha.0) refl))
    (shuffle (is_descriptor ds v) (eqb v d.alpha.0 || false) (is_table ds v) (tables d v || false))
  where
    shuffle : (a x b y : Bool) → ((a || x) || (b || y)) ≡ ((x || y) || (a || b))
    shuffle true true b y = refl
    shuffle true false b true = refl
    shuffle true false b false = refl
    shuffle false true b y = refl
    shuffle false false true true = refl
    shuffle false false true false = refl
    shuffle false false false y = sym (or_nil y)

pick_or : (x y : Bool) → ◌≡◌ {A = ℕ} (pick x 255 (pick y 255 0)) (pick (x || y) 255 0)
pick_or true y = refl
pick_or false y = refl

-- flags of the openings alone say which blocks are in an opening, in the first turn
marks_first : (ds : List Descriptor) (seen : List ℕ) → ((v : ℕ) → get_or seen v 0 ≡ pick (opened ds v) 255 0) → Marks ds 1 seen []
unfolding opened among
marks_first ds seen at =
    record {
      says = λ v l n. ap (λ (x : ℕ). leb 1 x) (at v) ∙ first (is_descriptor ds v || is_table ds v);
      opening = λ v l n o. at v ∙ ap (λ (x : Bool). pick x 255 0) o;
      other = λ v l n o. omega (arith, at v ∙ ap (λ (x : Bool). pick x 255 0) o);
    }
  where
    first : (x : Bool) → leb 1 (pick x 255 0) ≡ (x || false)
    first true = refl
    first false = refl

-- what a turn leaves is below the next
marks_next : (ds : List Descriptor) (turn : ℕ) (seen before : List ℕ) → turn < 255 → Marks ds turn seen before → Marks ds (turn + 1) seen []
unfolding among
marks_next ds turn seen before h marks =
    record {
      says = λ v l n. by v l n (is_descriptor ds v || is_table ds v) refl;
      opening = marks.opening;
      other = λ v l n o. omega (arith, marks.other v l n o);
    }
  where
    by : (v : ℕ) → v < length seen → (v ≡ 0 → ⊥) → (x : Bool) → (is_descriptor ds v || is_table ds v) ≡ x → leb (turn + 1) (get_or seen v 0) ≡ ((is_descriptor ds v || is_table ds v) || false)
    by v l n true e = rw e (le-leb (turn + 1) (get_or seen v 0) (omega (arith, marks.opening v l n e)))
    by v l n false e = rw e (lt-leb (turn + 1) (get_or seen v 0) (omega (arith, marks.other v l n e)))

pub openings_length : (seen : List ℕ) (starts : List ℕ) (k n : ℕ) → length (openings_flagged seen starts k n) ≡ length seen
unfolding openings_flagged
openings_length seen starts k zero = refl
openings_length seen starts k (suc n) = flagged_length (openings_flagged seen starts k n) (get_or starts n 0) k ∙ openings_length seen starts k n

pub turn_length : (seen starts : List ℕ) (k n turn : ℕ) → length (next_flags seen starts k n turn) ≡ length seen
unfolding next_flags
turn_length seen starts k n turn = by (ltb turn 255)
  where
    by : (t : Bool) → length (pick t seen (openings_flagged (replicate (length seen) 0) starts k n)) ≡ length seen
    by true = refl
    by false = openings_length (replicate (length seen) 0) starts k n ∙ length-replicate {A = ℕ} (length seen) 0

module _ (c starts : List ℕ) (count : ℕ) (d : Descriptor) (t : Through c starts count d) where
  abbrev ds : List Descriptor
  ds = descriptors (chain c)

  -- each opening is on the card, and so among the flags
  opening_inside : (k : ℕ) → k < count → 512 * (get_or starts k 0 + cost_of d) ≤ length c
  unfolding block_count
  opening_inside k h =
      let r = through_at c starts count d t k h in
      let same = at_cost c _ _ (get_or ds k no_descriptor) r ∙ sym (at_cost c _ _ d (through_region c starts count d t)) in
      omega (arith, at_long c _ _ (get_or ds k no_descriptor) r, at_end c _ _ (get_or ds k no_descriptor) r, same)

  pub openings_ask : (cost : ℕ) → cost ≡ cost_of d → (n : ℕ) → length c ≤ 512 * n → (count ≤ length starts) × ((k : ℕ) → k < count → get_or starts k 0 + cost ≤ n)
  openings_ask k e n long = (omega (arith, (through_rising c starts count d t).long), λ j h. omega (arith, opening_inside j h))

  -- from flags that are all clear
  module _ (flags : List ℕ) (long : length c ≤ 512 * length flags) (clear : (v : ℕ) → get_or flags v 0 ≡ 0) where
    one_more : (k v : ℕ) → k < count → in_run (get_or starts k 0) (cost_of d) v ≡ in_run (get_or ds k no_descriptor).alpha.0 (cost_of (get_or ds k no_descriptor)) v
    one_more k v h =
        let r = through_at c starts count d t k h in
        let same = at_cost c _ _ (get_or ds k no_descriptor) r ∙ sym (at_cost c _ _ d (through_region c starts count d t)) in
        rw (same, at_alpha c _ _ (get_or ds k no_descriptor) r)

    opened_to : (v k : ℕ) → k ≤ count → get_or (openings_flagged flags starts (cost_of d) k) v 0 ≡ pick (opened (take k ds) v) 255 0
    unfolding openings_flagged opened is_descriptor is_table
    opened_to v zero h = clear v
    opened_to v (suc k) h =
        let n : k < length ds = omega (arith, through_count c starts count d t) in
        flagged_says (openings_flagged flags starts (cost_of d) k) (get_or starts k 0) (cost_of d) v (omega (arith, openings_length flags starts (cost_of d) k, opening_inside k (omega arith)))
        ∙ rw (one_more k v (omega arith), opened_to v k (omega arith))
        (pick_or (in_run (get_or ds k no_descriptor).alpha.0 (cost_of (get_or ds k no_descriptor)) v) (opened (take k ds) v))
        ∙ ap (λ (x : Bool). pick x 255 0) (sym (opened_more (take k ds) (get_or ds k no_descriptor) v) ∙ ap (λ (l : List Descriptor). opened l v) (sym (take-suc ds k no_descriptor n)))

    opened_all : (v : ℕ) → get_or (openings_flagged flags starts (cost_of d) count) v 0 ≡ pick (opened ds v) 255 0
    opened_all v =
        opened_to v count (omega arith)
        ∙ ap (λ (x : Bool). pick x 255 0) (ap (λ (k : ℕ). opened (take k ds) v) (through_count c starts count d t) ∙ ap (λ (l : List Descriptor). opened l v) (take-length ds))

    pub openings_marked : (cost : ℕ) → cost ≡ cost_of d → (seen : List ℕ) → seen ≡ openings_flagged flags starts cost count → Marks ds 1 seen []
    openings_marked cost e seen is =
        let at : (v : ℕ) → get_or seen v 0 ≡ pick (opened ds v) 255 0 = λ v. rw (is, e) (opened_all v) in
        marks_first ds seen at

-- the flags of the next turn
module _ (c starts : List ℕ) (count : ℕ) (d : Descriptor) (t : Through c starts count d) (cost : ℕ) (cost_is : cost ≡ cost_of d) (turn : ℕ) (seen : List ℕ) (long : length c ≤ 512 * length seen)
    (marks : turn < 255 → Marks (descriptors (chain c)) (turn + 1) seen []) where
  turn_by : (b : Bool) → ltb turn 255 ≡ b → Marks (descriptors (chain c)) (next_turn turn) (next_flags seen starts cost count turn) []
  unfolding next_turn next_flags
  turn_by true e = rw e (marks (ltb-true turn 255 e))
  turn_by false e =
      let n = length seen in
      let zeros = replicate {A = ℕ} n 0 in
      rw e (openings_marked c starts count d t zeros (omega (arith, length-replicate {A = ℕ} n 0)) (zeros_at n) cost cost_is (openings_flagged zeros starts cost count) refl)

  pub turn_marked : Marks (descriptors (chain c)) (next_turn turn) (next_flags seen starts cost count turn) []
  turn_marked = turn_by (ltb turn 255) refl

-- a descriptor of the chain that has not layout 1 has layout 2
layout_2 : (c starts : List ℕ) (count : ℕ) (d : Descriptor) → Through c starts count d → (b : Bool) → eqb d.layout 2 ≡ b → (d.layout ≡ 1 → ⊥) → d.layout ≡ 2
layout_2 c starts count d t true q e = eqb-true d.layout 2 q
layout_2 c starts count d t false q e =
    let f : false ≡ true = sym (rw (ne_eqb d.layout 1 e, q)) ∙ form_layout c _ d (through_region c starts count d t).form in
    no f

-- the check of one descriptor, as the code makes it
module _ (c starts : List ℕ) (count : ℕ) (d : Descriptor) (t : Through c starts count d) (n : ℕ) (tables_are : n ≡ table_count d.volume) where
  small_beta : d.beta.0 ≤ 65536
  small_beta = omega (arith, through_end c starts count d t, t.small)

  few_tables : n ≤ 112
  unfolding table_count
  few_tables = omega (arith, through_volume c starts count d t)

  pub one_tables_ready : d.layout ≡ 1 → (seen : List ℕ) → length c ≤ 512 * length seen → TablesReady c d n seen
  one_tables_ready e seen long =
      record {
        on_card = through_end c starts count d t;
        flags = omega (arith, through_end c starts count d t);
        region = omega (arith, through_beta c starts count d t, cost_one d e);
        small = small_beta;
        groups = few_tables;
        layout = e;
      }

  pub one_phi_ready : (d.layout ≡ 1 → ⊥) → (seen : List ℕ) → length c ≤ 512 * length seen → PhiReady c d n seen
  one_phi_ready e seen long =
      record {
        on_card = through_end c starts count d t;
        flags = omega (arith, through_end c starts count d t);
        region = omega (arith, through_beta c starts count d t, cost_least d.layout d.volume);
        small = small_beta;
        tables = tables_are;
        groups = few_tables;
        layout = layout_2 c starts count d t (eqb d.layout 2) refl e;
      }

  -- the walk of the layout is that over all entries of the descriptor
  module _ (turn : ℕ) (seen : List ℕ) (w : Taken) where
    pub one_by_tables : d.layout ≡ 1 → w ≡ taking_all d turn seen (tables_namings c d n 0) → w ≡ taking_all d turn seen (namings c d)
    unfolding namings
    one_by_tables e walk = walk ∙ rw (tables_are, eq-eqb d.layout 1 e)

    pub one_by_phi : (d.layout ≡ 1 → ⊥) → w ≡ taking_all d turn seen (phi_namings c d 112 0) → w ≡ taking_all d turn seen (namings c d)
    unfolding namings
    one_by_phi e walk = walk ∙ rw (ne_eqb d.layout 1 e)

-- from flags that are ready for the turn, the walk over all entries of a descriptor gives the verdict on it, and leaves flags that are ready for the next turn
module _ (c starts : List ℕ) (count : ℕ) (d : Descriptor) (t : Through c starts count d) where
  own_by : (o : Bool) → eqb d.layout 1 ≡ o → (d.layout ≡ 2) ⊎ (above_all d.alpha.0 (namings c d) ≡ true)
  unfolding namings
  own_by true e = inr (rw e (above_tables c d (eqb-true d.layout 1 e) (table_count d.volume) 0))
  own_by false e = inl (layout_2 c starts count d t (eqb d.layout 2) refl (eqb-false d.layout 1 e))

  module _ (turn : ℕ) (seen : List ℕ) (long : length c ≤ 512 * length seen) (marks : Marks (descriptors (chain c)) turn seen []) where
    agrees : Agrees (descriptors (chain c)) d turn (omega (arith, through_beta c starts count d t)) seen [] (namings c d)
    agrees = taking_agrees (descriptors (chain c)) d turn (omega (arith, through_beta c starts count d t)) (namings c d) (own_by (eqb d.layout 1) refl) seen [] (omega (arith, through_end c starts count d t)) marks

    pub one_verdict : (taking_all d turn seen (namings c d)).verdict ≡ check_one c (descriptors (chain c)) d
    unfolding check_one
    one_verdict = agrees.0

    pub one_marked : (taking_all d turn seen (namings c d)).verdict ≡ Passed → turn < 255 → Marks (descriptors (chain c)) (turn + 1) (taking_all d turn seen (namings c d)).flags []
    one_marked e h = let p = agrees.1 e in marks_next (descriptors (chain c)) turn (taking_all d turn seen (namings c d)).flags p.0 h p.1
