-- What an accepted write leaves where it takes two blocks: a new table block at beta and the data block after it, in layout 2.
use mathlib.Core.Path.{◌≡◌, refl, sym, ap, ◌∙◌, subst}
use mathlib.Core.Logic.{◌⊎◌, inl, inr}
use mathlib.Core.Bool.{Bool, true, false}
use mathlib.Core.List.{List, [], ◌∷◌, ◌++◌}
use Prim.Native.Nat.{ℕ, ◌+◌, ◌-◌, ◌*◌, ◌/◌, ◌%◌, ◌≤◌, ◌<◌}
use native.Mathlib.Omega.{arith}
use lib.ListN.{length, get_or}
use lib.Dec.{eqb, ltb}
use borrow.Author.Tests.{ne_eqb, eqb-true, eqb-false, ltb-true, ltb-false}
use Rattle.blocks.specs.Pick.{pick}
use Rattle.blocks.specs.Bytes.{u32_at, block_count, block_at, zero_block, Store, store, store_all}
use Rattle.blocks.specs.Descriptor.{extended_of, table_count, no_descriptor, tail_at, descriptor_block}
use Rattle.chains.specs.Chain.{Sound, chain, active_of}
use Rattle.blocks.specs.declared.numbers.Physical.{Physical}
use Rattle.blocks.specs.declared.descriptor.Descriptor.{Descriptor}
use Rattle.blocks.proofs.BoolLaws.{no}
use Rattle.blocks.proofs.ByteLaws.{u32_part, number_of, zero_number, blocks_long}
use Rattle.blocks.proofs.DescriptorLaws.{Fits, tail_length}
use Rattle.links.proofs.SoundLaws.{form_layout}
use Rattle.links.proofs.LinkedLaws.{active_at}
use Rattle.blocks.proofs.NameLaws.{name_size_lem}
use Rattle.entries.specs.InPlace.{is_in_place}
use Rattle.entries.specs.Entry.{entry_at, phi_at, table_of, find, table_is_new, need, table_with, tail_with, set_in_new_table, writing}
use Rattle.entries.specs.Rules.{entry_of, Rules}
use Rattle.entries.specs.Found.{Found, Entry}
use Rattle.entries.proofs.EntryLaws.{placed_below, new_table_lem, placed_not_active}
use Rattle.entries.proofs.SetLaws.{tail_with_length, source_length, with_set, tail_set, with_other, tail_other}
use Rattle.calls.specs.Parts.{descriptors_of, snapshots_of, found_through}
use Rattle.calls.specs.Check.{Passes}
use Rattle.calls.specs.Stores.{write_stores}
use Rattle.calls.proofs.CardLaws.{card_most, chain_is, active_split}
use Rattle.links.proofs.StoredLaws.{stored_bytes, block_tail}
use Rattle.blocks.proofs.StoreLists.{Whole, is_stored, stored_length, stored_other, none_stored, not_stored, stored_among}
use Rattle.entries.proofs.FoundLaws.{found_holder, found_own}
use Rattle.entries.proofs.LocalLaws.{Region}
use Rattle.entries.proofs.TableLaws.{table_phi, few_tables, under, layout_two, group_below, entry_in_lem, block_entry}
use Rattle.calls.proofs.Passed.{WritePassed}
use Rattle.entries.proofs.ExtendedLaws.{extended_stays, extended_new}
use Rattle.calls.proofs.ActiveLaws.{active_next, active_form, active_rise, active_volume, active_name_lem, chain_some}
use Rattle.entries.proofs.RulesLaws.{set_table_rules, set_phi_rules}
use Rattle.changes.proofs.WholeLaws.{write_whole}
use Rattle.changes.proofs.WrittenRules.{write_region}
use Rattle.changes.proofs.WriteFacts.{WriteFacts, WritePlaces}
use Rattle.entries.proofs.PutLaws.{need_two}

-- Phi of a card whose block a holds a descriptor and a tail, and of the tail of block a
phi_tail : (t : List ℕ) (a : ℕ) → 512 * a + 512 ≤ length t → (x : Descriptor) (tail : List ℕ) → block_at t a ≡ descriptor_block x tail → Fits x → length tail ≡ 472
    → (i : ℕ) → i < 112 → u32_at t (512 * a + 64 + 4 * i) ≡ u32_at tail (24 + 4 * i)
phi_tail t a inside x tail is f whole i h =
    let q : 512 * a + 64 + 4 * i ≡ 512 * a + (40 + (24 + 4 * i)) = omega arith in
    ap (u32_at t) q
    ∙ sym (number_of t (512 * a + (40 + (24 + 4 * i))))
    ∙ ap (λ (y : List ℕ). u32_at y 0) (stored_bytes t a inside x tail is f whole (40 + (24 + 4 * i)) 4 (omega arith) ∙ block_tail x tail f whole (24 + 4 * i) 4)
    ∙ number_of tail (24 + 4 * i)

phi_own : (c : List ℕ) (a i : ℕ) → i < 112 → u32_at (tail_at c a) (24 + 4 * i) ≡ u32_at c (512 * a + 64 + 4 * i)
phi_own c a i h =
    let q : 512 * a + 40 + (24 + 4 * i) ≡ 512 * a + 64 + 4 * i = omega arith in
    u32_part c (512 * a + 40) 472 (24 + 4 * i) (omega arith) ∙ ap (u32_at c) q

-- an entry of layout 2 through the table block that Phi names
entry_through : (s : List ℕ) (y : Descriptor) (j n : ℕ) → eqb y.layout 1 ≡ false → phi_at s y (j / 128) ≡ n → entry_of s y j ≡ pick (eqb n 0) 0 (entry_at s n (j % 128))
unfolding entry_of
entry_through s y j n e h = ap (λ (m : ℕ). pick (eqb m 0) 0 (entry_at s m (j % 128))) (table_phi s y (j / 128) e ∙ h)

-- the entries of the table block that a new one is made from
copied_entry : (c : List ℕ) (m j : ℕ) → j < 128 → (z : Bool) → u32_at (pick z zero_block (block_at c m)) (4 * j) ≡ pick z 0 (entry_at c m j)
copied_entry c m j h true = zero_number 512 (4 * j)
copied_entry c m j h false = entry_in_lem c m j h

-- the blocks that a write of two blocks leaves
module _ (c t : List ℕ) (ds es : List Descriptor) (d : Descriptor) (l m : ℕ) (block : List ℕ) (long : length c ≡ length t) (inside : l < d.volume) (most : d.volume ≤ 14336)
    (two : d.layout ≡ 2) (low : d.alpha.0 < d.beta.0) (room : 512 * d.beta.0 + 1024 ≤ length c) (small : d.beta.0 + 2 ≤ 65536) (fits : Fits (extended_of d 2))
    (bytes : block_at t (d.beta.0 + 1) ≡ block) (table : block_at t d.beta.0 ≡ table_with (pick (eqb m 0) zero_block (block_at c m)) (l % 128) (d.beta.0 + 1))
    (head : block_at t d.alpha.0 ≡ descriptor_block (extended_of d 2) (tail_with (tail_at c d.alpha.0) (l / 128) d.beta.0))
    (stays : (q : ℕ) → q < d.beta.0 → (q ≡ d.alpha.0 → ⊥) → block_at t q ≡ block_at c q) (through : m ≡ table_of c d (l / 128))
    (wider : (p : ℕ) → is_in_place ds d p ≡ true → is_in_place es (extended_of d 2) p ≡ true) (new_table_placed : is_in_place es (extended_of d 2) d.beta.0 ≡ true)
    (new_block_placed : is_in_place es (extended_of d 2) (d.beta.0 + 1) ≡ true) (not_active : (p : ℕ) → is_in_place ds d p ≡ true → (p ≡ 0 → ⊥) → p ≡ d.alpha.0 → ⊥) (rules : Rules c ds d) where
  abbrev x : Descriptor
  x = extended_of d 2

  abbrev a : ℕ
  a = d.alpha.0

  abbrev b : ℕ
  b = d.beta.0

  abbrev g : ℕ
  g = l / 128

  abbrev old_tail : List ℕ
  old_tail = tail_at c a

  abbrev old_table : List ℕ
  old_table = pick (eqb m 0) zero_block (block_at c m)

  other_layout : eqb d.layout 1 ≡ false
  other_layout = ne_eqb d.layout 1 (λ z. omega (arith, z, two))

  few : table_count d.volume ≤ 112
  few = few_tables d.volume most

  group : g < table_count d.volume
  group = group_below l d.volume inside

  number : g < 112
  number = omega (arith, group, few)

  old_long : length old_tail ≡ 472
  old_long = tail_length c a (omega arith)

  -- Phi names the new table block, and otherwise what it named
  phi_as : (i : ℕ) → i < 112 → phi_at t x i ≡ u32_at (tail_with old_tail g b) (24 + 4 * i)
  unfolding phi_at
  phi_as i h = phi_tail t a (omega arith) x (tail_with old_tail g b) head fits (tail_with_length old_tail g b old_long number) i h

  phi_was : (i : ℕ) → i < 112 → u32_at old_tail (24 + 4 * i) ≡ phi_at c d i
  unfolding phi_at
  phi_was i h = phi_own c a i h

  phi_set : phi_at t x g ≡ b
  phi_set = phi_as g number ∙ tail_set old_tail g b number old_long (omega arith)

  phi_other : (i : ℕ) → i < 112 → (i ≡ g → ⊥) → phi_at t x i ≡ phi_at c d i
  phi_other i h n = phi_as i h ∙ tail_other old_tail g b number old_long i n ∙ phi_was i h

  -- the table block that was named
  phi_m : phi_at c d g ≡ m
  phi_m = sym (through ∙ table_phi c d g other_layout)

  m_inside : eqb m 0 ≡ false → 512 * m + 512 ≤ length c
  m_inside z =
      let p : is_in_place ds d m ≡ true = subst (λ (n : ℕ). is_in_place ds d n ≡ true) phi_m ((rules.phi two).in_place g group) in
      omega (arith, placed_below ds d m p (eqb-false m 0 z))

  table_long : length old_table ≡ 512
  table_long = source_length c m (eqb m 0) m_inside

  new_entry : (j : ℕ) → j < 128 → entry_at t b j ≡ u32_at (table_with old_table (l % 128) (b + 1)) (4 * j)
  new_entry j h = sym (entry_in_lem t b j h) ∙ ap (λ (y : List ℕ). u32_at y (4 * j)) table

  through_new : (j : ℕ) → j / 128 ≡ g → entry_of t x j ≡ u32_at (table_with old_table (l % 128) (b + 1)) (4 * (j % 128))
  through_new j e =
      entry_through t x j b other_layout (ap (λ (i : ℕ). phi_at t x i) e ∙ phi_set)
      ∙ ap (λ (z : Bool). pick z 0 (entry_at t b (j % 128))) (ne_eqb b 0 (λ z. omega (arith, z)))
      ∙ new_entry (j % 128) (omega arith)

  -- entry l names the new block
  entry_set : entry_of t x l ≡ b + 1
  entry_set = through_new l refl ∙ with_set old_table (l % 128) (b + 1) (omega arith) table_long (omega arith)

  -- the others name what they named
  same_group : (j : ℕ) → j / 128 ≡ g → (j ≡ l → ⊥) → entry_of t x j ≡ entry_of c d j
  same_group j e n =
      through_new j e
      ∙ with_other old_table (l % 128) (b + 1) (omega arith) table_long (j % 128) (λ z. n (omega (arith, z, e)))
      ∙ copied_entry c m (j % 128) (omega arith) (eqb m 0)
      ∙ sym (entry_through c d j m other_layout (ap (λ (i : ℕ). phi_at c d i) e ∙ phi_m))

  table_stays : (n j : ℕ) → j < 128 → is_in_place ds d n ≡ true → (z : Bool) → eqb n 0 ≡ z → pick z 0 (entry_at t n j) ≡ pick z 0 (entry_at c n j)
  table_stays n j h p true e = refl
  table_stays n j h p false e =
      let s = eqb-false n 0 e in
      block_entry t c n n j (stays n (placed_below ds d n p s) (not_active n p s)) h

  other_group : (j : ℕ) → j / 128 < table_count d.volume → (j / 128 ≡ g → ⊥) → entry_of t x j ≡ entry_of c d j
  other_group j h n =
      let q = phi_at c d (j / 128) in
      entry_through t x j q other_layout (phi_other (j / 128) (omega (arith, few)) n)
      ∙ table_stays q (j % 128) (omega arith) ((rules.phi two).in_place (j / 128) h) (eqb q 0) refl
      ∙ sym (entry_through c d j q other_layout refl)

  entry_by : (j : ℕ) → j / 128 < table_count d.volume → (j ≡ l → ⊥) → (z : Bool) → eqb (j / 128) g ≡ z → entry_of t x j ≡ entry_of c d j
  entry_by j h n true e = same_group j (eqb-true (j / 128) g e) n
  entry_by j h n false e = other_group j h (eqb-false (j / 128) g e)

  entry_other : (j : ℕ) → j < 128 * table_count d.volume → (j ≡ l → ⊥) → entry_of t x j ≡ entry_of c d j
  entry_other j h n = entry_by j (omega arith) n (eqb (j / 128) g) refl

  entry_kept : (j : ℕ) → j < d.volume → (j ≡ l → ⊥) → entry_of t x j ≡ entry_of c d j
  entry_kept j h n = entry_other j (under j d.volume h) n

  block_kept : (j : ℕ) → j < d.volume → (entry_of c d j ≡ 0 → ⊥) → block_at t (entry_of c d j) ≡ block_at c (entry_of c d j)
  block_kept j h n =
      let p = rules.tables.in_place j h in
      stays (entry_of c d j) (placed_below ds d (entry_of c d j) p n) (not_active (entry_of c d j) p n)

  -- the rules
  abbrev Each : ℕ → Type 0
  Each i = (phi_at t x i ≡ phi_at c d i) ⊎ ((i ≡ g) × (b ≤ phi_at t x i) × (is_in_place es x (phi_at t x i) ≡ true))

  each_by : (i : ℕ) → i < 112 → (z : Bool) → eqb i g ≡ z → Each i
  each_by i h true e =
      let k : i ≡ g = eqb-true i g e in
      let q : phi_at t x i ≡ b = ap (λ (n : ℕ). phi_at t x n) k ∙ phi_set in
      inr (k, omega (arith, q), subst (λ (n : ℕ). is_in_place es x n ≡ true) (sym q) new_table_placed)
  each_by i h false e = inl (phi_other i h (eqb-false i g e))

  phi_each : (i : ℕ) → i < 112 → Each i
  phi_each i h = each_by i h (eqb i g) refl

  old_apart : (i : ℕ) → i < 112 → phi_at c d i ≡ b + 1 → (z : Bool) → ltb i (table_count d.volume) ≡ z → ⊥
  old_apart i h e true q = omega (arith, e, placed_below ds d (phi_at c d i) ((rules.phi two).in_place i (ltb-true i (table_count d.volume) q)) (λ z. omega (arith, z, e)))
  old_apart i h e false q = omega (arith, e, (rules.phi two).past_n i (ltb-false i (table_count d.volume) q) h)

  apart_by : (i : ℕ) → i < 112 → phi_at t x i ≡ b + 1 → (z : Bool) → eqb i g ≡ z → ⊥
  apart_by i h e true q = omega (arith, e, ap (λ (n : ℕ). phi_at t x n) (eqb-true i g q), phi_set)
  apart_by i h e false q = old_apart i h (sym (phi_other i h (eqb-false i g q)) ∙ e) (ltb i (table_count d.volume)) refl

  table_now : a ≤ table_of t x g
  table_now = omega (arith, table_phi t x g other_layout, phi_set)

  places_two : WritePlaces c t d x l
  places_two =
      record {
        own = omega (arith, entry_set, low);
        tables = λ i h n. table_phi t x i other_layout ∙ phi_other i (omega (arith, h, few)) n ∙ sym (table_phi c d i other_layout);
      }

  two_facts : WriteFacts c t es d x l block
  two_facts =
      record {
        to = b + 1;
        some = λ z. omega (arith, z);
        bytes = bytes;
        set = entry_set;
        other = entry_kept;
        kept = λ j h n s. block_kept j h s;
        rules = record {
          phi = λ e. set_phi_rules c t ds es d 2 wider g group few phi_each (rules.phi two) two low l (b + 1) (omega arith)
              (λ i h q. apart_by i h q (eqb i g) refl) entry_set entry_kept table_now rules.tables;
          tables = set_table_rules c t ds es d 2 wider l (b + 1) inside new_block_placed (omega arith) entry_set entry_other rules.tables;
        };
      }

  both : WriteFacts c t es d x l block × WritePlaces c t d x l
  both = (two_facts, places_two)

-- a new table block arises only in layout 2
new_layout : (c : List ℕ) (ds : List Descriptor) (d : Descriptor) (l : ℕ) (m p : Physical) → find c ds d l ≡ Entry m p → table_is_new d.alpha.0 m.0 ≡ true
    → (o : Bool) → eqb d.layout 1 ≡ o → o ≡ false
new_layout c ds d l m p is e true h = no (sym (new_table_lem d.alpha.0 m.0 (omega (arith, found_own c ds d l m p is h))) ∙ e)
new_layout c ds d l m p is e false h = refl

-- the stores of a write of two blocks
new_stores : (c : List ℕ) (d : Descriptor) (l : ℕ) (block : List ℕ) (m p : Physical) → need d.alpha.0 (Entry m p) ≡ 2 → writing c d (Entry m p) l block
    ≡ store (d.beta.0 + 1) block
    ∷ store d.beta.0 (table_with (pick (eqb m.0 0) zero_block (block_at c m.0)) (l % 128) (d.beta.0 + 1))
    ∷ store d.alpha.0 (descriptor_block (extended_of d 2) (tail_with (tail_at c d.alpha.0) (l / 128) d.beta.0))
    ∷ []
unfolding writing set_in_new_table
new_stores c d l block m p e = rw (e, need_two d.alpha.0 m p e)

-- an accepted write of two blocks on a card that passes
module _ (c : List ℕ) (passes : Passes c) (l : ℕ) (block : List ℕ) (ok : WritePassed c l block) where
  abbrev chn : List Descriptor
  chn = descriptors_of c

  abbrev act : Descriptor
  act = active_of chn

  abbrev snaps : List Descriptor
  snaps = snapshots_of chn

  sound_c : chain c ≡ Sound chn
  sound_c = chain_is (chain c) passes.sound

  chn_some : 0 < length chn
  chn_some = chain_some c chn sound_c

  split : chn ≡ snaps ++ (act ∷ [])
  split = active_split chn chn_some

  act_rules : Rules c chn act
  act_rules = subst (λ (y : Descriptor). Rules c chn y) (sym (active_at chn chn_some)) (passes.rules (length chn - 1) (omega (arith, chn_some)))

  regions : (i : ℕ) → i < length (snaps ++ (act ∷ [])) → Region (get_or (snaps ++ (act ∷ [])) i no_descriptor) act.beta.0
  regions = subst (λ (ys : List Descriptor). (i : ℕ) → i < length ys → Region (get_or ys i no_descriptor) act.beta.0) split (write_region c passes l block ok)

  act_wider : (p : ℕ) → is_in_place chn act p ≡ true → is_in_place (snaps ++ (extended_of act 2 ∷ [])) (extended_of act 2) p ≡ true
  act_wider p h = extended_stays snaps act 2 p (subst (λ (ys : List Descriptor). is_in_place ys act p ≡ true) split h)

  act_new : is_in_place (snaps ++ (extended_of act 2 ∷ [])) (extended_of act 2) act.beta.0 ≡ true
  act_new =
      let e : act.beta.0 + 0 ≡ act.beta.0 = omega arith in
      subst (λ (n : ℕ). is_in_place (snaps ++ (extended_of act 2 ∷ [])) (extended_of act 2) n ≡ true) e (extended_new snaps act 2 0 (omega arith) regions)

  write_inside : l < act.volume
  write_inside = ok.below

  write_room : act.beta.0 + need act.alpha.0 (found_through c act l) ≤ block_count c
  write_room = ok.room

  module _ (m p : Physical) (is : found_through c act l ≡ Entry m p) (takes : need act.alpha.0 (Entry m p) ≡ 2) where
    abbrev new_bytes : List ℕ
    new_bytes = table_with (pick (eqb m.0 0) zero_block (block_at c m.0)) (l % 128) (act.beta.0 + 1)

    abbrev head_bytes_lem : List ℕ
    head_bytes_lem = descriptor_block (extended_of act 2) (tail_with (tail_at c act.alpha.0) (l / 128) act.beta.0)

    abbrev ss : List Store
    ss = store (act.beta.0 + 1) block ∷ store act.beta.0 new_bytes ∷ store act.alpha.0 head_bytes_lem ∷ []

    stores_are : write_stores c l block ≡ ss
    unfolding write_stores
    stores_are = ap (λ (f : Found). writing c act f l block) is ∙ new_stores c act l block m p takes

    whole : Whole (length c) ss
    whole = subst (λ (ys : List Store). Whole (length c) ys) stores_are (write_whole c l block ok)

    room_two : act.beta.0 + 2 ≤ block_count c
    room_two = subst (λ (n : ℕ). act.beta.0 + n ≤ block_count c) (ap (λ (f : Found). need act.alpha.0 f) is ∙ takes) write_room

    rise : act.alpha.0 < act.beta.0
    rise = active_rise c chn sound_c

    in_layout : act.layout ≡ 2
    in_layout =
        layout_two act.layout (form_layout c act.alpha.0 act (active_form c chn sound_c))
        (new_layout c chn act l m p is (need_two act.alpha.0 m p takes) (eqb act.layout 1) refl)

    act_small : act.beta.0 + 2 ≤ 65536
    act_small = omega (arith, room_two, card_most c passes.area)

    act_fits : Fits (extended_of act 2)
    act_fits =
        record {
          layout = omega (arith, in_layout);
          volume = omega (arith, active_volume c chn sound_c);
          alpha = omega (arith, rise, act_small);
          beta = omega (arith, act_small);
          next = omega (arith, active_next c chn sound_c);
          name = name_size_lem act.name (active_name_lem c chn sound_c);
        }

    not_in : (q : ℕ) → q < act.beta.0 → (q ≡ act.alpha.0 → ⊥) → is_stored ss q ≡ false
    not_in q h n =
        not_stored (act.beta.0 + 1) block (store act.beta.0 new_bytes ∷ store act.alpha.0 head_bytes_lem ∷ []) q (λ v. omega (arith, h, v))
        (not_stored act.beta.0 new_bytes (store act.alpha.0 head_bytes_lem ∷ []) q (λ v. omega (arith, h, v)) (not_stored act.alpha.0 head_bytes_lem [] q (λ v. n (sym v)) (none_stored q)))

    left : WriteFacts c (store_all c ss) (snaps ++ (extended_of act 2 ∷ [])) act (extended_of act 2) l block × WritePlaces c (store_all c ss) act (extended_of act 2) l
    left =
        both c (store_all c ss) chn (snaps ++ (extended_of act 2 ∷ [])) act l m.0 block (sym (stored_length (length c) c refl whole)) write_inside (active_volume c chn sound_c)
        in_layout rise (omega (arith, blocks_long c (act.beta.0 + 2) room_two)) act_small act_fits
        (stored_among (length c) (act.beta.0 + 1) block (store act.beta.0 new_bytes ∷ store act.alpha.0 head_bytes_lem ∷ [])
        (not_stored act.beta.0 new_bytes (store act.alpha.0 head_bytes_lem ∷ []) (act.beta.0 + 1) (λ v. omega (arith, v))
        (not_stored act.alpha.0 head_bytes_lem [] (act.beta.0 + 1) (λ v. omega (arith, v, rise)) (none_stored (act.beta.0 + 1))))
        c refl [] whole)
        (stored_among (length c) act.beta.0 new_bytes (store act.alpha.0 head_bytes_lem ∷ [])
        (not_stored act.alpha.0 head_bytes_lem [] act.beta.0 (λ v. omega (arith, v, rise)) (none_stored act.beta.0))
        c refl (store (act.beta.0 + 1) block ∷ []) whole)
        (stored_among (length c) act.alpha.0 head_bytes_lem [] (none_stored act.alpha.0) c refl (store (act.beta.0 + 1) block ∷ store act.beta.0 new_bytes ∷ []) whole)
        (λ q h n. stored_other (length c) c refl whole q (not_in q h n)) (found_holder c chn act l m p is)
        act_wider act_new (extended_new snaps act 2 1 (omega arith) regions) (placed_not_active chn chn_some) act_rules

    facts : WriteFacts c (store_all c ss) (snaps ++ (extended_of act 2 ∷ [])) act (extended_of act 2) l block
    facts = left.0

    pub new_two_lem : WriteFacts c (store_all c (write_stores c l block)) (snaps ++ (extended_of act 2 ∷ [])) act (extended_of act 2) l block
    new_two_lem = subst (λ (ys : List Store). WriteFacts c (store_all c ys) (snaps ++ (extended_of act 2 ∷ [])) act (extended_of act 2) l block) (sym stores_are) facts

    pub two_places : WritePlaces c (store_all c (write_stores c l block)) act (extended_of act 2) l
    two_places = subst (λ (ys : List Store). WritePlaces c (store_all c ys) act (extended_of act 2) l) (sym stores_are) left.1
