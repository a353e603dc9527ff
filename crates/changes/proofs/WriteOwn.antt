-- What an accepted write leaves of the entries where it takes no block, or one: it stores over a block of the active region, or sets an entry of a
-- table block of that region.
use mathlib.Core.Path.{◌≡◌, refl, sym, ap, ◌∙◌, subst}
use mathlib.Core.Logic.{inl}
use mathlib.Core.Bool.{Bool, true, false, not, ◌&&◌, ◌||◌}
use mathlib.Core.List.{List, [], ◌∷◌, ◌++◌}
use Prim.Native.Nat.{ℕ, ◌+◌, ◌*◌, ◌-◌, ◌/◌, ◌%◌, ◌≤◌, ◌<◌}
use native.Mathlib.Omega.{arith}
use lib.ListN.{length, get_or}
use lib.Dec.{eqb, ltb, leb}
use borrow.Author.Tests.{eq-eqb, ne_eqb, lt-ltb, le-leb, eqb-true, eqb-false, ltb-true, ltb-false, not-true}
use Rattle.blocks.specs.Pick.{pick}
use Rattle.blocks.specs.Bytes.{u32_at, block_count, block_at, Store, store, store_all}
use Rattle.blocks.specs.Descriptor.{table_count, no_descriptor, tail_at, descriptor_block, extended_of}
use Rattle.chains.specs.Chain.{Sound, chain, active_of}
use Rattle.blocks.specs.declared.numbers.Physical.{Physical}
use Rattle.blocks.specs.declared.descriptor.Descriptor.{Descriptor}
use Rattle.blocks.proofs.Tests.{and_right}
use Rattle.blocks.proofs.BoolLaws.{no, true_or, or_false_right}
use Rattle.blocks.proofs.ByteLaws.{length_block_at}
use Rattle.blocks.proofs.DescriptorLaws.{Fits, fits_of, extended_none}
use Rattle.links.proofs.SoundLaws.{form_layout}
use Rattle.links.proofs.LinkedLaws.{chain_linked, linked_some, active_at}
use Rattle.entries.specs.InPlace.{is_descriptor, is_table, is_in_place}
use Rattle.entries.specs.Entry.{entry_at, phi_at, table_of, find, table_is_new, need, table_with, set_in_table, writing}
use Rattle.entries.specs.Rules.{entry_of, Rules}
use Rattle.entries.specs.Found.{Found, Entry}
use Rattle.entries.proofs.EntryLaws.{placed_below, old_table, placed_not_active, need_nothing}
use Rattle.calls.specs.Parts.{descriptors_of, snapshots_of, found_through}
use Rattle.calls.specs.Check.{Passes}
use Rattle.calls.specs.Stores.{write_stores}
use Rattle.calls.proofs.CardLaws.{card_most, chain_is, active_split}
use Rattle.blocks.proofs.StoreLists.{Whole, stored_length, stored_other, none_stored, one_stored, not_stored, stored_among}
use Rattle.entries.proofs.LocalLaws.{Region, phi_shared}
use Rattle.entries.proofs.FoundLaws.{found_holder, found_value}
use Rattle.entries.proofs.TableLaws.{table_own, table_phi, own_inside, few_tables, under, layout_two, group_below, entry_in_lem, phi_stored, block_entry}
use Rattle.calls.proofs.Passed.{WritePassed}
use Rattle.entries.proofs.ExtendedLaws.{extended_stays, extended_new}
use Rattle.links.proofs.MemberLaws.{layout_small, member_form}
use Rattle.calls.proofs.ActiveLaws.{active_next, active_inside, active_long, active_rise, active_end, active_volume, active_name_lem}
use Rattle.entries.proofs.RulesLaws.{set_table_rules, set_phi_rules, kept_entry, kept_rules}
use Rattle.changes.proofs.WholeLaws.{write_whole}
use Rattle.changes.proofs.WrittenRules.{write_region}
use Rattle.changes.proofs.WriteFacts.{WriteFacts, WritePlaces}
use Rattle.entries.proofs.SetLaws.{with_set, with_other}
use Rattle.entries.proofs.PutLaws.{need_one}

-- the stores of a write that takes no block, and of one that takes one
writing_none : (c : List ℕ) (d : Descriptor) (m p : Physical) (l : ℕ) (block : List ℕ) → need d.alpha.0 (Entry m p) ≡ 0 → writing c d (Entry m p) l block ≡ store p.0 block ∷ []
unfolding writing
writing_none c d m p l block e = rw (eq-eqb (need d.alpha.0 (Entry m p)) 0 e)

writing_one : (c : List ℕ) (d : Descriptor) (m p : Physical) (l : ℕ) (block : List ℕ) → need d.alpha.0 (Entry m p) ≡ 1
    → writing c d (Entry m p) l block ≡ store d.beta.0 block ∷ set_in_table c d m.0 l
unfolding writing
writing_one c d m p l block e = rw (ne_eqb (need d.alpha.0 (Entry m p)) 0 (λ z. omega (arith, e, z)), need_one d.alpha.0 m p e)

-- the blocks after the active descriptor are table blocks in layout 1, and so no set entry in place names them
active_table : (ds : List Descriptor) → 0 < length ds → (q : ℕ) → eqb (active_of ds).layout 1 ≡ true → (active_of ds).alpha.0 < q → q ≤ (active_of ds).alpha.0 + table_count (active_of ds).volume → is_table ds q ≡ true
unfolding is_table active_of
active_table [] h q e a b = absurd (omega arith)
active_table (d ∷ []) h q e a b = rw (e, lt-ltb d.alpha.0 q a, le-leb q (d.alpha.0 + table_count d.volume) b)
active_table (d ∷ x ∷ ds) h q e a b =
    true_or (eqb d.layout 1 && ltb d.alpha.0 q && leb q (d.alpha.0 + table_count d.volume)) (is_table (x ∷ ds) q) (active_table (x ∷ ds) (omega arith) q e a b)

placed_no_table : (ds : List Descriptor) (d : Descriptor) (p : ℕ) → is_in_place ds d p ≡ true → (p ≡ 0 → ⊥) → is_table ds p ≡ false
unfolding is_in_place
placed_no_table ds d p h n =
    let k : (ltb p d.beta.0 && not (is_descriptor ds p || is_table ds p)) ≡ true = rw (ne_eqb p 0 n) at h in
    or_false_right (is_descriptor ds p) (is_table ds p) (not-true (is_descriptor ds p || is_table ds p) (and_right (ltb p d.beta.0) (not (is_descriptor ds p || is_table ds p)) k))

-- an entry of a table block with one entry set
module _ (c t : List ℕ) (m k q : ℕ) (inside : 512 * m + 512 ≤ length c) (number : k < 128) (is : block_at t m ≡ table_with (block_at c m) k q) where
  table_set : q < 4294967296 → entry_at t m k ≡ q
  table_set h = sym (entry_in_lem t m k number) ∙ ap (λ (b : List ℕ). u32_at b (4 * k)) is ∙ with_set (block_at c m) k q number (length_block_at c m inside) h

  table_rest : (j : ℕ) → j < 128 → (j ≡ k → ⊥) → entry_at t m j ≡ entry_at c m j
  table_rest j h n = sym (entry_in_lem t m j h) ∙ ap (λ (b : List ℕ). u32_at b (4 * j)) is ∙ with_other (block_at c m) k q number (length_block_at c m inside) j n ∙ entry_in_lem c m j h

-- the active descriptor of a sound chain that keeps the rules
module _ (c : List ℕ) (ds : List Descriptor) (chained : chain c ≡ Sound ds) (rules : Rules c ds (active_of ds)) where
  abbrev d : Descriptor
  d = active_of ds

  abbrev xs : List Descriptor
  xs = snapshots_of ds

  abbrev n : ℕ
  n = table_count d.volume

  filled : 0 < length ds
  filled = linked_some (chain_linked c ds chained)

  cut : ds ≡ xs ++ (d ∷ [])
  cut = active_split ds filled

  layout : (eqb d.layout 1 || eqb d.layout 2) ≡ true
  layout = form_layout c d.alpha.0 d (member_form c ds xs d [] chained cut)

  few : n ≤ 112
  few = few_tables d.volume (active_volume c ds chained)

  two_of : eqb d.layout 1 ≡ false → d.layout ≡ 2
  two_of e = layout_two d.layout layout e

  own_end : eqb d.layout 1 ≡ true → d.alpha.0 + n < d.beta.0
  own_end e = own_inside d d.alpha.0 d.beta.0 (eqb-true d.layout 1 e) (active_long c ds chained)

  end_inside : 512 * d.beta.0 ≤ length c
  unfolding block_count
  end_inside = let h : d.beta.0 ≤ length c / 512 = active_end c ds chained in omega arith

  -- a set table block is below beta and is not the descriptor's block
  table_low_by : (i : ℕ) → i < n → (table_of c d i ≡ 0 → ⊥) → (b : Bool) → eqb d.layout 1 ≡ b → (table_of c d i ≡ d.alpha.0 → ⊥) × (table_of c d i < d.beta.0)
  table_low_by i h z true e = (λ k. omega (arith, k, table_own c d i e), omega (arith, table_own c d i e, own_end e))
  table_low_by i h z false e =
      let q = table_phi c d i e in
      let p : is_in_place ds d (table_of c d i) ≡ true = subst (λ (m : ℕ). is_in_place ds d m ≡ true) (sym q) ((rules.phi (two_of e)).in_place i h) in
      (placed_not_active ds filled (table_of c d i) p z, placed_below ds d (table_of c d i) p z)

  table_low : (i : ℕ) → i < n → (table_of c d i ≡ 0 → ⊥) → (table_of c d i ≡ d.alpha.0 → ⊥) × (table_of c d i < d.beta.0)
  table_low i h z = table_low_by i h z (eqb d.layout 1) refl

  -- no two groups have one table block
  table_once_by : (i k : ℕ) → i < n → k < n → table_of c d i ≡ table_of c d k → (table_of c d i ≡ 0 → ⊥) → (b : Bool) → eqb d.layout 1 ≡ b → i ≡ k
  table_once_by i k h g e z true o = omega (arith, e, table_own c d i o, table_own c d k o)
  table_once_by i k h g e z false o =
      let u = table_phi c d i o in
      let v = table_phi c d k o in
      (rules.phi (two_of o)).once i k h g (sym u ∙ e ∙ v) (λ y. z (u ∙ y))

  pub table_once_lem : (i k : ℕ) → i < n → k < n → table_of c d i ≡ table_of c d k → (table_of c d i ≡ 0 → ⊥) → i ≡ k
  table_once_lem i k h g e z = table_once_by i k h g e z (eqb d.layout 1) refl

  -- no set entry names a table block
  table_entry_by : (i j : ℕ) → i < n → j < d.volume → (entry_of c d j ≡ 0 → ⊥) → table_of c d i ≡ entry_of c d j → (b : Bool) → eqb d.layout 1 ≡ b → ⊥
  table_entry_by i j h g z e true o =
      let q = table_own c d i o in
      no (sym (placed_no_table ds d (entry_of c d j) (rules.tables.in_place j g) z) ∙ active_table ds filled (entry_of c d j) o (omega (arith, q, e)) (omega (arith, q, e)))
  table_entry_by i j h g z e false o =
      let q = table_phi c d i o in
      z (sym e ∙ q ∙ (rules.phi (two_of o)).tables_and_entries i j h g (sym q ∙ e))

  table_entry : (i j : ℕ) → i < n → j < d.volume → (entry_of c d j ≡ 0 → ⊥) → table_of c d i ≡ entry_of c d j → ⊥
  table_entry i j h g z e = table_entry_by i j h g z e (eqb d.layout 1) refl

  -- a set entry is below beta and is not the descriptor's block
  entry_low : (j : ℕ) → j < d.volume → (entry_of c d j ≡ 0 → ⊥) → (entry_of c d j ≡ d.alpha.0 → ⊥) × (entry_of c d j < d.beta.0)
  entry_low j h z =
      let p = rules.tables.in_place j h in
      (placed_not_active ds filled (entry_of c d j) p z, placed_below ds d (entry_of c d j) p z)

  -- a write through the entry found
  module _ (l : ℕ) (block : List ℕ) (below : l < d.volume) (m p : Physical) (is : find c ds d l ≡ Entry m p) where
    abbrev a : ℕ
    a = d.alpha.0

    abbrev b : ℕ
    b = d.beta.0

    entry_is : entry_of c d l ≡ p.0
    entry_is = found_value c ds d l m p is

    table_is : m.0 ≡ table_of c d (l / 128)
    table_is = found_holder c ds d l m p is

    group : l / 128 < n
    group = group_below l d.volume below

    -- over a block of the region
    module _ (nothing : need a (Entry m p) ≡ 0) (whole : Whole (length c) (store p.0 block ∷ [])) where
      abbrev over : List ℕ
      over = store_all c (store p.0 block ∷ [])

      entry_some : p.0 ≡ 0 → ⊥
      entry_some = (need_nothing a m p nothing).0

      entry_set : entry_of c d l ≡ 0 → ⊥
      entry_set z = entry_some (sym entry_is ∙ z)

      over_long : length c ≡ length over
      over_long = sym (stored_length (length c) c refl whole)

      over_other : (q : ℕ) → (p.0 ≡ q → ⊥) → block_at over q ≡ block_at c q
      over_other q h = stored_other (length c) c refl whole q (one_stored p.0 block q h)

      over_here : block_at c a ≡ block_at over a
      over_here = sym (over_other a (λ e. (entry_low l below entry_set).0 (entry_is ∙ e)))

      over_table : (i : ℕ) → i < n → eqb (table_of c d i) 0 ≡ false → (512 * table_of c d i + 512 ≤ length c) × (block_at c (table_of c d i) ≡ block_at over (table_of c d i))
      over_table i h z = (
        omega (arith, (table_low i h (eqb-false (table_of c d i) 0 z)).1, end_inside),
        sym (over_other (table_of c d i) (λ e. table_entry i l h below entry_set (sym e ∙ sym entry_is))),
      )

      over_entry : (j : ℕ) → j < 128 * n → entry_of over d j ≡ entry_of c d j
      over_entry j h = sym (kept_entry c over ds ds d few (λ q k. k) over_long (active_inside c ds chained) over_here over_table j h)

      over_tables : (i : ℕ) → i < n → table_of over d i ≡ table_of c d i
      unfolding table_of
      over_tables i h = rw (phi_shared c over d i (active_inside c ds chained) over_long (sym over_here) (omega (arith, h, few)))

      places_none : WritePlaces c over d d l
      places_none = record { own = omega (arith, over_entry l (under l d.volume below), entry_is, (need_nothing a m p nothing).1); tables = λ i h k. over_tables i h }

      facts_none : WriteFacts c over ds d d l block
      facts_none =
          record {
            to = p.0;
            some = entry_some;
            bytes = stored_among (length c) p.0 block [] (none_stored p.0) c refl [] whole;
            set = over_entry l (under l d.volume below) ∙ entry_is;
            other = λ j h k. over_entry j (under j d.volume h);
            kept = λ j h k z. over_other (entry_of c d j) (λ e. k (sym (rules.tables.once l j below h (entry_is ∙ e) entry_set)));
            rules = kept_rules c over ds ds d few (λ q k. k) over_long (active_inside c ds chained) over_here over_table rules;
          }

    -- through a table block of the region, which takes the block at beta
    module _ (new : table_is_new a m.0 ≡ false) (small : block_count c ≤ 65536) (room : b + 1 ≤ block_count c) (regions : (j : ℕ) → j < length ds → Region (get_or ds j no_descriptor) b) where
      abbrev x : Descriptor
      x = extended_of d 1

      abbrev es : List Descriptor
      es = xs ++ (x ∷ [])

      abbrev head : List ℕ
      head = descriptor_block x (tail_at c a)

      abbrev table : List ℕ
      table = table_with (block_at c m.0) (l % 128) b

      abbrev three : List Store
      three = store b block ∷ store a head ∷ store m.0 table ∷ []

      table_some : m.0 ≡ 0 → ⊥
      table_some = (old_table a m.0 new).0

      table_where : (m.0 ≡ a → ⊥) × (m.0 < b)
      table_where =
          let r = table_low (l / 128) group (λ z. table_some (table_is ∙ z)) in
          (λ e. r.0 (sym table_is ∙ e), omega (arith, r.1, table_is))

      table_inside : 512 * m.0 + 512 ≤ length c
      table_inside = omega (arith, table_where.1, end_inside)

      rise : a < b
      rise = active_rise c ds chained

      x_fits : Fits x
      x_fits =
          fits_of x (layout_small d.layout layout) (active_volume c ds chained) (omega (arith, rise, room, small)) (omega (arith, room, small)) (omega (arith, active_next c ds chained)) (active_name_lem c ds chained)

      wider : (q : ℕ) → is_in_place ds d q ≡ true → is_in_place es x q ≡ true
      wider q h = extended_stays xs d 1 q (subst (λ (ys : List Descriptor). is_in_place ys d q ≡ true) cut h)

      next_placed : is_in_place es x b ≡ true
      next_placed =
          let e : b + 0 ≡ b = omega arith in
          subst (λ (q : ℕ). is_in_place es x q ≡ true) e
          (extended_new xs d 1 0 (omega arith) (subst (λ (ys : List Descriptor). (j : ℕ) → j < length ys → Region (get_or ys j no_descriptor) b) cut regions))

      module _ (whole : Whole (length c) three) where
        abbrev then : List ℕ
        then = store_all c three

        then_long : length c ≡ length then
        then_long = sym (stored_length (length c) c refl whole)

        then_other : (q : ℕ) → q < b → (q ≡ a → ⊥) → (q ≡ m.0 → ⊥) → block_at then q ≡ block_at c q
        then_other q h i j =
            stored_other (length c) c refl whole q
            (not_stored b block (store a head ∷ store m.0 table ∷ []) q (λ e. omega (arith, e, h))
            (not_stored a head (store m.0 table ∷ []) q (λ e. i (sym e)) (not_stored m.0 table [] q (λ e. j (sym e)) (none_stored q))))

        then_data : block_at then b ≡ block
        then_data =
            stored_among (length c) b block (store a head ∷ store m.0 table ∷ [])
            (not_stored a head (store m.0 table ∷ []) b (λ e. omega (arith, e, rise)) (not_stored m.0 table [] b (λ e. omega (arith, e, table_where.1)) (none_stored b)))
            c refl [] whole

        then_head : block_at then a ≡ head
        then_head =
            stored_among (length c) a head (store m.0 table ∷ []) (not_stored m.0 table [] a table_where.0 (none_stored a)) c refl (store b block ∷ []) whole

        then_table : block_at then m.0 ≡ table
        then_table = stored_among (length c) m.0 table [] (none_stored m.0) c refl (store b block ∷ store a head ∷ []) whole

        -- Phi and the table blocks are as they were
        phi_same : (i : ℕ) → i < 112 → phi_at then x i ≡ phi_at c d i
        phi_same i h = phi_stored c then x d (active_inside c ds chained) (omega (arith, active_inside c ds chained, then_long)) then_head x_fits i h

        table_same : (i : ℕ) → i < 112 → table_of then x i ≡ table_of c d i
        unfolding table_of
        table_same i h = rw (phi_same i h)

        table_then : table_of then x (l / 128) ≡ m.0
        table_then = table_same (l / 128) (omega (arith, group, few)) ∙ sym table_is

        -- entry l names the block at beta
        entry_then : entry_of then x l ≡ b
        unfolding entry_of
        entry_then =
            rw (table_then, ne_eqb m.0 0 table_some) (table_set c then m.0 (l % 128) b table_inside (omega arith) then_table (omega (arith, room, small)))

        -- an entry of another number in a table block
        rest_by : (j : ℕ) → j < 128 * n → (j ≡ l → ⊥) → (table_of c d (j / 128) ≡ 0 → ⊥) → (s : Bool) → eqb (j / 128) (l / 128) ≡ s
            → entry_at then (table_of c d (j / 128)) (j % 128) ≡ entry_at c (table_of c d (j / 128)) (j % 128)
        rest_by j h k z true e =
            let q = eqb-true (j / 128) (l / 128) e in
            let r : table_of c d (j / 128) ≡ m.0 = ap (λ (i : ℕ). table_of c d i) q ∙ sym table_is in
            rw r (table_rest c then m.0 (l % 128) b table_inside (omega arith) then_table (j % 128) (omega arith) (λ y. k (omega (arith, q, y))))
        rest_by j h k z false e =
            let g : j / 128 < n = omega arith in
            let r = table_low (j / 128) g z in
            block_entry then c (table_of c d (j / 128)) (table_of c d (j / 128)) (j % 128)
            (then_other (table_of c d (j / 128)) r.1 r.0 (λ y. eqb-false (j / 128) (l / 128) e (table_once_lem (j / 128) (l / 128) g group (y ∙ table_is) z))) (omega arith)

        pick_by : (u v : ℕ) (k : ℕ) (s : Bool) → eqb k 0 ≡ s → ((k ≡ 0 → ⊥) → u ≡ v) → pick s 0 u ≡ pick s 0 v
        pick_by u v k true e h = refl
        pick_by u v k false e h = h (eqb-false k 0 e)

        entry_rest : (j : ℕ) → j < 128 * n → (j ≡ l → ⊥) → entry_of then x j ≡ entry_of c d j
        unfolding entry_of
        entry_rest j h k =
            let i : j / 128 < 112 = omega (arith, few) in
            rw (table_same (j / 128) i)
            (pick_by (entry_at then (table_of c d (j / 128)) (j % 128)) (entry_at c (table_of c d (j / 128)) (j % 128)) (table_of c d (j / 128)) (eqb (table_of c d (j / 128)) 0) refl
            (λ z. rest_by j h k z (eqb (j / 128) (l / 128)) refl))

        -- Phi does not name the block at beta
        phi_by_lem : d.layout ≡ 2 → (i : ℕ) → i < 112 → (s z : Bool) → ltb i n ≡ s → eqb (phi_at c d i) 0 ≡ z → phi_at c d i < b
        phi_by_lem two i h s true e f = omega (arith, eqb-true (phi_at c d i) 0 f, rise)
        phi_by_lem two i h true false e f = placed_below ds d (phi_at c d i) ((rules.phi two).in_place i (ltb-true i n e)) (eqb-false (phi_at c d i) 0 f)
        phi_by_lem two i h false false e f = absurd (eqb-false (phi_at c d i) 0 f ((rules.phi two).past_n i (ltb-false i n e) h))

        phi_apart : d.layout ≡ 2 → (i : ℕ) → i < 112 → phi_at then x i ≡ b → ⊥
        phi_apart two i h e = omega (arith, e, phi_same i h, phi_by_lem two i h (ltb i n) (eqb (phi_at c d i) 0) refl refl)

        then_rules : Rules then es x
        then_rules =
            record {
              phi = λ two. set_phi_rules c then ds es d 1 wider (l / 128) group few (λ i h. inl (phi_same i h)) (rules.phi two) two rise l b (omega arith) (phi_apart two) entry_then
                  (λ j h k. entry_rest j (under j d.volume h) k) (omega (arith, table_then, (old_table a m.0 new).1)) rules.tables;
              tables = set_table_rules c then ds es d 1 wider l b below next_placed (omega arith) entry_then entry_rest rules.tables;
            }

        places_one : WritePlaces c then d x l
        places_one = record { own = omega (arith, entry_then, rise); tables = λ i h k. table_same i (omega (arith, h, few)) }

        facts_one : WriteFacts c then es d x l block
        facts_one =
            record {
              to = b;
              some = λ z. omega (arith, z, rise);
              bytes = then_data;
              set = entry_then;
              other = λ j h k. entry_rest j (under j d.volume h) k;
              kept = λ j h k z.
                  let r = entry_low j h z in
                  then_other (entry_of c d j) r.1 r.0 (λ e. table_entry (l / 128) j group h z (sym table_is ∙ sym e));
              rules = then_rules;
            }

-- an accepted write on a card that passes
module _ (c : List ℕ) (passes : Passes c) (l : ℕ) (block : List ℕ) (ok : WritePassed c l block) where
  abbrev all : List Descriptor
  all = descriptors_of c

  abbrev active : Descriptor
  active = active_of all

  abbrev snapshots : List Descriptor
  snapshots = snapshots_of all

  abbrev t : List ℕ
  t = store_all c (write_stores c l block)

  sound_c : chain c ≡ Sound all
  sound_c = chain_is (chain c) passes.sound

  some_c : 0 < length all
  some_c = linked_some (chain_linked c all sound_c)

  active_rules : Rules c all active
  active_rules = subst (λ (y : Descriptor). Rules c all y) (sym (active_at all some_c)) (passes.rules (length all - 1) (omega (arith, some_c)))

  inside : l < active.volume
  inside = ok.below

  enough : active.beta.0 + need active.alpha.0 (found_through c active l) ≤ block_count c
  enough = ok.room

  stores_through : (m p : Physical) → found_through c active l ≡ Entry m p → write_stores c l block ≡ writing c active (Entry m p) l block
  unfolding write_stores
  stores_through m p is = ap (λ (f : Found). writing c active f l block) is

  -- where it takes no block
  pub own_none : (m p : Physical) → found_through c active l ≡ Entry m p → need active.alpha.0 (Entry m p) ≡ 0
      → WriteFacts c t (snapshots ++ (extended_of active 0 ∷ [])) active (extended_of active 0) l block
  own_none m p is e =
      let are : write_stores c l block ≡ store p.0 block ∷ [] = stores_through m p is ∙ writing_none c active m p l block e in
      let w : Whole (length c) (store p.0 block ∷ []) = subst (λ (ss : List Store). Whole (length c) ss) are (write_whole c l block ok) in
      let f : WriteFacts c (store_all c (store p.0 block ∷ [])) all active active l block = facts_none c all sound_c active_rules l block inside m p is e w in
      let g : WriteFacts c t all active active l block = subst (λ (ss : List Store). WriteFacts c (store_all c ss) all active active l block) (sym are) f in
      let h : WriteFacts c t (snapshots ++ (active ∷ [])) active active l block = subst (λ (ys : List Descriptor). WriteFacts c t ys active active l block) (active_split all some_c) g in
      subst (λ (y : Descriptor). WriteFacts c t (snapshots ++ (y ∷ [])) active y l block) (sym (extended_none active)) h

  pub none_places : (m p : Physical) → found_through c active l ≡ Entry m p → need active.alpha.0 (Entry m p) ≡ 0 → WritePlaces c t active (extended_of active 0) l
  none_places m p is e =
      let are : write_stores c l block ≡ store p.0 block ∷ [] = stores_through m p is ∙ writing_none c active m p l block e in
      let w : Whole (length c) (store p.0 block ∷ []) = subst (λ (ss : List Store). Whole (length c) ss) are (write_whole c l block ok) in
      let f : WritePlaces c (store_all c (store p.0 block ∷ [])) active active l = places_none c all sound_c active_rules l block inside m p is e w in
      let g : WritePlaces c t active active l = subst (λ (ss : List Store). WritePlaces c (store_all c ss) active active l) (sym are) f in
      subst (λ (y : Descriptor). WritePlaces c t active y l) (sym (extended_none active)) g

  -- where it takes one
  stores_one : (m p : Physical) → found_through c active l ≡ Entry m p → need active.alpha.0 (Entry m p) ≡ 1
      → write_stores c l block
      ≡ store active.beta.0 block
      ∷ store active.alpha.0 (descriptor_block (extended_of active 1) (tail_at c active.alpha.0))
      ∷ store m.0 (table_with (block_at c m.0) (l % 128) active.beta.0)
      ∷ []
  unfolding set_in_table
  stores_one m p is e = stores_through m p is ∙ writing_one c active m p l block e

  pub own_one : (m p : Physical) → found_through c active l ≡ Entry m p → need active.alpha.0 (Entry m p) ≡ 1
      → WriteFacts c t (snapshots ++ (extended_of active 1 ∷ [])) active (extended_of active 1) l block
  own_one m p is e =
      let are = stores_one m p is e in
      let room : active.beta.0 + 1 ≤ block_count c = omega (arith, enough, ap (λ (f : Found). need active.alpha.0 f) is, e) in
      subst (λ (ss : List Store). WriteFacts c (store_all c ss) (snapshots ++ (extended_of active 1 ∷ [])) active (extended_of active 1) l block) (sym are)
      (facts_one c all sound_c active_rules l block inside m p is (need_one active.alpha.0 m p e) (card_most c passes.area) room (write_region c passes l block ok)
      (subst (λ (ss : List Store). Whole (length c) ss) are (write_whole c l block ok)))

  pub one_places : (m p : Physical) → found_through c active l ≡ Entry m p → need active.alpha.0 (Entry m p) ≡ 1 → WritePlaces c t active (extended_of active 1) l
  one_places m p is e =
      let are = stores_one m p is e in
      let room : active.beta.0 + 1 ≤ block_count c = omega (arith, enough, ap (λ (f : Found). need active.alpha.0 f) is, e) in
      subst (λ (ss : List Store). WritePlaces c (store_all c ss) active (extended_of active 1) l) (sym are)
      (places_one c all sound_c active_rules l block inside m p is (need_one active.alpha.0 m p e) (card_most c passes.area) room (write_region c passes l block ok)
      (subst (λ (ss : List Store). Whole (length c) ss) are (write_whole c l block ok)))
