-- What a format leaves: a descriptor and blocks of zeros in the first region, the bytes after it as they were, and a card that passes, whose ledger is a
-- volume of zeros.
use mathlib.Core.Path.{◌≡◌, refl, sym, ap, ◌∙◌, subst}
use mathlib.Core.Logic.{inl}
use mathlib.Core.Bool.{Bool, true, false, not, ◌&&◌, ◌||◌}
use mathlib.Core.List.{List, [], ◌∷◌}
use Prim.Native.Nat.{ℕ, zero, suc, ◌+◌, ◌*◌, ◌-◌, ◌/◌, ◌%◌, ◌≤◌, ◌<◌}
use native.Mathlib.Omega.{arith}
use lib.ListN.{length, take, drop, get_or, replicate, length-drop, length-replicate}
use lib.Seq.{get_or-drop, ext_get_or}
use lib.Dec.{eqb, ltb, leb}
use borrow.Author.Tests.{ne_eqb, lt-ltb, le-leb, eqb-true, eqb-false, leb-true, ltb-true, not-true}
use Rattle.blocks.specs.Pick.{pick, all_zero}
use Rattle.blocks.specs.Bytes.{part, u32_at, splice, store, block_count, block_at, zero_block, store_block, store_all}
use Rattle.blocks.specs.Name.{is_name}
use Rattle.blocks.specs.Descriptor.{mark, table_count, cost, first_of, first_tail, no_descriptor, descriptor_at, revision_of, descriptor_block, revision_ok, phi_ok, clearing, opening, cost_in}
use Rattle.chains.specs.Chain.{form_ok, sound, Sound, chain, chain_sound, descriptors, active_of}
use Rattle.blocks.specs.declared.descriptor.Descriptor.{Descriptor}
use Rattle.blocks.proofs.Tests.{and_left, and_right}
use Rattle.blocks.proofs.ByteLaws.{length_splice, splice_after, store_length, store_same, store_other, u32_part, zero_number}
use Rattle.blocks.proofs.ListLaws.{same_self}
use Rattle.blocks.proofs.NameLaws.{drop_replicate, name_size_lem}
use Rattle.blocks.proofs.DescriptorLaws.{Fits, block_whole, cost_least, revision_small, first_tail_length, first_tail_revision, first_tail_number, first_tail_zeros, first_tail_reserved}
use Rattle.chains.proofs.NamedLaws.{named_none}
use Rattle.links.proofs.LinkedLaws.{last}
use Rattle.entries.specs.InPlace.{is_in_place}
use Rattle.entries.specs.Entry.{entry_at, phi_at, table_of}
use Rattle.entries.specs.Rules.{entry_of, PhiRules, TableRules, Rules}
use Rattle.calls.specs.Parts.{area_bad, descriptors_of, snapshots_of, block_found, found_through}
use Rattle.calls.specs.Check.{Passes}
use Rattle.claims.specs.History.{formattable, formatted}
use Rattle.claims.specs.Ledger.{cells_from, volume_of, volumes_of, ledger_of}
use Rattle.claims.specs.Claims.{FormatClaim}
use Rattle.calls.proofs.CardLaws.{card_most}
use Rattle.links.proofs.SharedLaws.{linked_chain}
use Rattle.links.proofs.StoredLaws.{block_tail, stored_descriptor, stored_revision, stored_bytes, stored_mark, region_ok_lem}
use Rattle.blocks.proofs.StoreLists.{is_stored, stored_length, stored_other, stored_append, stored_one, inside_clearing}
use Rattle.blocks.specs.declared.descriptor.Format.{Format}
use Rattle.links.proofs.MemberLaws.{layout_small}
use Rattle.entries.proofs.TableLaws.{table_own, table_phi}
use Rattle.calls.proofs.CellLaws.{cell_rules, block_named}

-- a store before block b leaves the bytes from block b on
store_past : (c : List ℕ) (p : ℕ) (bytes : List ℕ) (b : ℕ) → length bytes ≡ 512 → 512 * p + 512 ≤ length c → p < b → drop (512 * b) (store_block c p bytes) ≡ drop (512 * b) c
unfolding store_block
store_past c p bytes b w i h =
    ext_get_or 0 (drop (512 * b) (splice c (512 * p) bytes)) (drop (512 * b) c)
    (length-drop (512 * b) (splice c (512 * p) bytes) ∙ ap (λ (n : ℕ). n - 512 * b) (length_splice c (512 * p) bytes (omega arith)) ∙ sym (length-drop (512 * b) c))
    (λ j l.
    get_or-drop (512 * b) (splice c (512 * p) bytes) j 0
    ∙ splice_after c (512 * p) bytes (omega arith) (512 * b + j) (omega arith)
    ∙ sym (get_or-drop (512 * b) c j 0))

zero_long : length zero_block ≡ 512
zero_long = length-replicate {A = ℕ} 512 0

-- so do zeros stored before it
clearing_past : (c : List ℕ) (p k b : ℕ) → p + k ≤ b → 512 * (p + k) ≤ length c → drop (512 * b) (store_all c (clearing p k)) ≡ drop (512 * b) c
unfolding clearing store_all
clearing_past c p zero b h l = refl
clearing_past c p (suc k) b h l =
    let i : 512 * p + 512 ≤ length c = omega arith in
    clearing_past (store_block c p zero_block) (suc p) k b (omega arith) (omega (arith, store_length c p zero_block zero_long i))
    ∙ store_past c p zero_block b zero_long i (omega arith)

-- the blocks that are cleared
clearing_low : (p k q : ℕ) → q < p → is_stored (clearing p k) q ≡ false
unfolding clearing is_stored
clearing_low p zero q h = refl
clearing_low p (suc k) q h = rw (ne_eqb p q (omega arith)) (clearing_low (suc p) k q (omega arith))

cleared_by : (c : List ℕ) (p k q : ℕ) → p ≤ q → 512 * (p + suc k) ≤ length c
    → (suc p ≤ q → block_at (store_all (store_block c p zero_block) (clearing (suc p) k)) q ≡ zero_block)
    → (z : Bool) → eqb p q ≡ z → block_at (store_all (store_block c p zero_block) (clearing (suc p) k)) q ≡ zero_block
cleared_by c p k q a l later true e =
    let r = eqb-true p q e in
    let i : 512 * p + 512 ≤ length c = omega arith in
    rw (← r)
    (stored_other (length c) (store_block c p zero_block) (store_length c p zero_block zero_long i) (inside_clearing (length c) (suc p) k (omega arith)) p (clearing_low (suc p) k p (omega arith))
    ∙ store_same c p zero_block zero_long i)
cleared_by c p k q a l later false e = later (omega (arith, eqb-false p q e))

cleared_block : (c : List ℕ) (p k q : ℕ) → p ≤ q → q < p + k → 512 * (p + k) ≤ length c → block_at (store_all c (clearing p k)) q ≡ zero_block
unfolding clearing store_all
cleared_block c p zero q a b l = absurd (omega arith)
cleared_block c p (suc k) q a b l =
    let i : 512 * p + 512 ≤ length c = omega arith in
    cleared_by c p k q a l
    (λ h. cleared_block (store_block c p zero_block) (suc p) k q h (omega arith) (omega (arith, store_length c p zero_block zero_long i)))
    (eqb p q) refl

-- zeros
zeros_taken : (m n : ℕ) → all_zero (take m (replicate n 0)) ≡ true
unfolding all_zero
zeros_taken zero n = refl
zeros_taken (suc m) zero = refl
zeros_taken (suc m) (suc n) = zeros_taken m n

zero_part : (n k m : ℕ) → all_zero (part (replicate n 0) k m) ≡ true
zero_part n k m = rw (drop_replicate n k) (zeros_taken m (n - k))

phi_by_lem : (z : Bool) (bytes : List ℕ) → all_zero bytes ≡ true → pick z (all_zero bytes) true ≡ true
phi_by_lem true bytes h = h
phi_by_lem false bytes h = refl

phi_clear : (layout : ℕ) (bytes : List ℕ) → all_zero bytes ≡ true → phi_ok layout bytes ≡ true
unfolding phi_ok
phi_clear layout bytes h = phi_by_lem (eqb layout 1) bytes h

pick_nil : (z : Bool) (v : ℕ) → v ≡ 0 → pick z 0 v ≡ 0
pick_nil true v e = refl
pick_nil false v e = e

-- a nil entry is in place, and zeros are read through it
nil_placed : (ds : List Descriptor) (d : Descriptor) → is_in_place ds d 0 ≡ true
unfolding is_in_place
nil_placed ds d = refl

-- an area that can be formatted
module _ (area : List ℕ) (format : Format) (ok : formattable area format ≡ true) where
  abbrev to_layout : Bool
  to_layout = not (area_bad area) && (eqb format.layout 1 || eqb format.layout 2)

  abbrev to_most : Bool
  to_most = to_layout && ltb 0 format.volume && leb format.volume 14336

  abbrev to_revision : Bool
  to_revision = to_most && revision_ok format.revision

  abbrev to_name : Bool
  to_name = to_revision && is_name format.name

  name_ok : to_name ≡ true
  unfolding formattable
  name_ok = and_left to_name (leb (cost_in format) (block_count area)) ok

  format_room : cost_in format ≤ block_count area
  unfolding formattable
  format_room = leb-true _ _ (and_right to_name (leb (cost_in format) (block_count area)) ok)

  format_name : is_name format.name ≡ true
  format_name = and_right to_revision (is_name format.name) name_ok

  revision_ok_lem : to_revision ≡ true
  revision_ok_lem = and_left to_revision (is_name format.name) name_ok

  format_revision : format.revision ≤ 1
  format_revision = revision_small format.revision (and_right to_most (revision_ok format.revision) revision_ok_lem)

  room_bytes : 512 * cost_in format ≤ length area
  unfolding block_count
  room_bytes = omega (arith, format_room)

  abbrev first : Descriptor
  first = first_of format

  abbrev tail : List ℕ
  tail = first_tail format.revision

  abbrev first_bytes : List ℕ
  first_bytes = descriptor_block first tail

  abbrev cleared : List ℕ
  cleared = store_all area (clearing 1 (cost_in format - 1))

  first_long : length first_bytes ≡ 512
  first_long = block_whole first tail (name_size_lem format.name format_name) (first_tail_length format.revision)

  cleared_room : 512 * (1 + (cost_in format - 1)) ≤ length area
  cleared_room = omega (arith, room_bytes, cost_least format.layout format.volume)

  cleared_length : length cleared ≡ length area
  cleared_length = stored_length (length area) area refl (inside_clearing (length area) 1 (cost_in format - 1) cleared_room)

  first_inside : 512 * 0 + 512 ≤ length cleared
  first_inside = omega (arith, cleared_length, room_bytes, cost_least format.layout format.volume)

  abbrev card : List ℕ
  card = formatted area format

  stored_last : card ≡ store_block cleared 0 first_bytes
  unfolding formatted opening
  stored_last = stored_append area (clearing 1 (cost_in format - 1)) (store 0 first_bytes ∷ []) ∙ stored_one cleared 0 first_bytes

  -- the area keeps its length
  pub formatted_length : length (formatted area format) ≡ length area
  formatted_length = ap length stored_last ∙ store_length cleared 0 first_bytes first_long first_inside ∙ cleared_length

  -- the bytes after the first region stay
  pub formatted_rest : drop (512 * cost_in format) (formatted area format) ≡ drop (512 * cost_in format) area
  formatted_rest =
      ap (drop (512 * cost_in format)) stored_last
      ∙ store_past cleared 0 first_bytes (cost_in format) first_long first_inside (omega (arith, cost_least format.layout format.volume))
      ∙ clearing_past area 1 (cost_in format - 1) (cost_in format) (omega (arith, cost_least format.layout format.volume)) cleared_room

  -- the blocks after the descriptor are zeros
  pub formatted_zero : (p : ℕ) → 0 < p → p < cost_in format → block_at (formatted area format) p ≡ zero_block
  formatted_zero p some low =
      ap (λ (c : List ℕ). block_at c p) stored_last
      ∙ store_other cleared 0 first_bytes first_long first_inside p (omega arith)
      ∙ cleared_block area 1 (cost_in format - 1) p (omega arith) (omega arith) cleared_room

  -- block 0 is the first descriptor's
  pub formatted_first : block_at (formatted area format) 0 ≡ descriptor_block (first_of format) (first_tail format.revision)
  formatted_first = ap (λ (c : List ℕ). block_at c 0) stored_last ∙ store_same cleared 0 first_bytes first_long first_inside

  -- the first descriptor's fields
  most_ok : to_most ≡ true
  most_ok = and_left to_most (revision_ok format.revision) revision_ok_lem

  format_most : format.volume ≤ 14336
  format_most = leb-true _ _ (and_right (to_layout && ltb 0 format.volume) (leb format.volume 14336) most_ok)

  format_least : 0 < format.volume
  format_least = ltb-true _ _ (and_right to_layout (ltb 0 format.volume) (and_left (to_layout && ltb 0 format.volume) (leb format.volume 14336) most_ok))

  layout_parts : to_layout ≡ true
  layout_parts = and_left to_layout (ltb 0 format.volume) (and_left (to_layout && ltb 0 format.volume) (leb format.volume 14336) most_ok)

  pub format_layout : (eqb format.layout 1 || eqb format.layout 2) ≡ true
  format_layout = and_right (not (area_bad area)) (eqb format.layout 1 || eqb format.layout 2) layout_parts

  format_area : area_bad area ≡ false
  format_area = not-true (area_bad area) (and_left (not (area_bad area)) (eqb format.layout 1 || eqb format.layout 2) layout_parts)

  first_fits : Fits first
  first_fits =
      record {
        layout = omega (arith, layout_small format.layout format_layout);
        volume = omega (arith, format_most);
        alpha = omega arith;
        beta = omega (arith, format_room, card_most area format_area);
        next = omega arith;
        name = name_size_lem format.name format_name;
      }

  formatted_inside : 512 * 0 + 512 ≤ length card
  formatted_inside = omega (arith, formatted_length, room_bytes, cost_least format.layout format.volume)

  tail_whole : length tail ≡ 472
  tail_whole = first_tail_length format.revision

  formatted_descriptor : descriptor_at card 0 ≡ first
  formatted_descriptor = stored_descriptor card 0 formatted_inside first tail formatted_first first_fits tail_whole

  -- bytes 40 to 511 of block 0
  formatted_tail : (k n : ℕ) → k + n ≤ 472 → part card (512 * 0 + (40 + k)) n ≡ part tail k n
  formatted_tail k n h =
      stored_bytes card 0 formatted_inside first tail formatted_first first_fits tail_whole (40 + k) n (omega arith)
      ∙ block_tail first tail first_fits tail_whole k n

  pub formatted_revision : revision_of (formatted area format) ≡ format.revision
  formatted_revision = stored_revision card 0 formatted_inside first tail formatted_first first_fits tail_whole ∙ first_tail_revision format.revision format_revision

  formatted_form : form_ok card 0 first ≡ true
  unfolding form_ok
  formatted_form =
      rw (
        stored_mark card 0 formatted_inside first tail formatted_first first_fits tail_whole,
        same_self mark,
        format_layout,
        lt-ltb 0 format.volume format_least,
        le-leb format.volume 14336 format_most,
        format_name,
        formatted_revision,
        formatted_tail 0 24 (omega arith),
        first_tail_reserved format.revision format_revision,
        formatted_tail 24 448 (omega arith),
      )
      (phi_clear format.layout (part tail 24 448) (first_tail_zeros format.revision))

  pub formatted_count : block_count card ≡ block_count area
  unfolding block_count
  formatted_count = ap (λ (n : ℕ). n / 512) formatted_length

  formatted_sound : sound card [] 0 ≡ true
  unfolding sound
  formatted_sound =
      rw (
        named_none (descriptor_at card 0).name,
        formatted_descriptor,
        formatted_form,
        formatted_count,
        region_ok_lem first (block_count area) 0 first refl refl refl (omega arith) format_room (inl refl),
      )

  -- the chain is the first descriptor
  pub formatted_chain : chain (formatted area format) ≡ Sound (first_of format ∷ [])
  formatted_chain = linked_chain card (first ∷ []) (last (sym formatted_descriptor) formatted_sound refl) (omega arith)

  pub formatted_descriptors : descriptors_of (formatted area format) ≡ first_of format ∷ []
  unfolding descriptors
  formatted_descriptors = ap descriptors formatted_chain

  -- Phi and the tables are nil
  phi_zero : (i : ℕ) → i < 112 → phi_at card first i ≡ 0
  unfolding phi_at
  phi_zero i h =
      let e : 512 * 0 + 64 + 4 * i ≡ 512 * 0 + (40 + (24 + 4 * i)) + 0 = omega arith in
      ap (u32_at card) e
      ∙ sym (u32_part card (512 * 0 + (40 + (24 + 4 * i))) 4 0 (omega arith))
      ∙ ap (λ (b : List ℕ). u32_at b 0) (formatted_tail (24 + 4 * i) 4 (omega arith))
      ∙ u32_part tail (24 + 4 * i) 4 0 (omega arith)
      ∙ first_tail_number format.revision (24 + 4 * i + 0) (omega arith)

  entry_zero : (m j : ℕ) → 0 < m → m < cost_in format → j < 128 → entry_at card m j ≡ 0
  unfolding entry_at block_at
  entry_zero m j some low h =
      sym (u32_part card (512 * m) 512 (4 * j) (omega arith)) ∙ ap (λ (b : List ℕ). u32_at b (4 * j)) (formatted_zero m some low) ∙ zero_number 512 (4 * j)

  pub tables_few : table_count format.volume ≤ 112
  unfolding table_count
  tables_few = omega (arith, format_most)

  tables_hold : format.volume ≤ 128 * table_count format.volume
  unfolding table_count
  tables_hold = omega arith

  -- layout 1: the tables follow the descriptor
  module _ (one : eqb format.layout 1 ≡ true) where
    one_table : (i : ℕ) → table_of card first i ≡ 1 + i
    one_table i = omega (arith, table_own card first i one)

    one_cost : cost_in format ≡ 1 + table_count format.volume
    unfolding cost
    one_cost = rw one

    one_entry : (l : ℕ) → l < 128 * table_count format.volume → entry_at card (table_of card first (l / 128)) (l % 128) ≡ 0
    one_entry l h = rw (one_table (l / 128)) (entry_zero (1 + l / 128) (l % 128) (omega arith) (omega (arith, one_cost)) (omega arith))

  -- layout 2: Phi names no table
  pub two_table : eqb format.layout 1 ≡ false → (i : ℕ) → i < 112 → table_of card first i ≡ 0
  two_table two i h = table_phi card first i two ∙ phi_zero i h

  entry_by : (z : Bool) → eqb format.layout 1 ≡ z → (l : ℕ) → l < 128 * table_count format.volume → entry_of card first l ≡ 0
  unfolding entry_of
  entry_by true e l h = pick_nil (eqb (table_of card first (l / 128)) 0) _ (one_entry e l h)
  entry_by false e l h = rw (two_table e (l / 128) (omega (arith, tables_few)))

  pub entries_nil : (l : ℕ) → l < 128 * table_count format.volume → entry_of card first l ≡ 0
  entries_nil l h = entry_by (eqb format.layout 1) refl l h

  formatted_phi : PhiRules card (first ∷ []) first
  formatted_phi =
      record {
        in_place = λ i h. rw (phi_zero i (omega (arith, tables_few))) (nil_placed (first ∷ []) first);
        past_n = λ i h l. phi_zero i l;
        once = λ i k h l e z. absurd (z (phi_zero i (omega (arith, tables_few))));
        tables_and_entries = λ i l h k e. phi_zero i (omega (arith, tables_few));
        table_above = λ l h k z. absurd (z (entries_nil l (omega (arith, tables_hold))));
      }

  formatted_tables : TableRules card (first ∷ []) first
  formatted_tables =
      record {
        in_place = λ l h. rw (entries_nil l (omega (arith, tables_hold))) (nil_placed (first ∷ []) first);
        past_volume = λ l h k. entries_nil l k;
        once = λ l k h i e z. absurd (z (entries_nil l (omega (arith, tables_hold))));
      }

  pub formatted_rules : Rules card (first ∷ []) first
  formatted_rules = record { phi = λ e. formatted_phi; tables = formatted_tables }

  formatted_area : area_bad card ≡ false
  unfolding area_bad
  formatted_area = rw (formatted_length, formatted_count) format_area

  rules_at : (k : ℕ) → k < 1 → Rules card (first ∷ []) (get_or (first ∷ []) k no_descriptor)
  rules_at zero h = formatted_rules
  rules_at (suc k) h = absurd (omega arith)

  -- the card passes
  pub formatted_passes : Passes (formatted area format)
  unfolding chain_sound
  formatted_passes =
      record {
        area = formatted_area;
        sound = ap chain_sound formatted_chain;
        rules = subst (λ (ds : List Descriptor). (k : ℕ) → k < length ds → Rules card ds (get_or ds k no_descriptor)) (sym formatted_descriptors) rules_at;
      }

  -- a read gives zeros
  read_zero : (l : ℕ) → l < format.volume → block_found card (found_through card first l) ≡ zero_block
  read_zero l h =
      rw formatted_descriptors
      (cell_rules card (first ∷ []) first format_layout formatted_rules l h ∙ ap (block_named card) (entries_nil l (omega (arith, tables_hold))))

  cells_zero : (n l : ℕ) → l + n ≤ format.volume → cells_from card first n l ≡ replicate n zero_block
  unfolding cells_from
  cells_zero zero l h = refl
  cells_zero (suc n) l h =
      rw (read_zero l (omega arith))
      (ap (λ (cs : List (List ℕ)). zero_block ∷ cs) (cells_zero n (suc l) (omega arith)))

  -- the ledger: no snapshots and a volume of zeros
  pub formatted_ledger : ledger_of (formatted area format) ≡ record { revision = format.revision; snapshots = []; active = record { name = format.name; cells = replicate format.volume zero_block } }
  unfolding ledger_of volumes_of volume_of snapshots_of active_of
  formatted_ledger = rw (formatted_revision, formatted_descriptors, cells_zero format.volume 0 (omega arith))

-- the claim, whole
pub format_claim : FormatClaim
unfolding FormatClaim first_tail
format_claim area format ok = (
  formatted_passes area format ok,
  formatted_ledger area format ok,
  formatted_descriptors area format ok,
  formatted_first area format ok,
  formatted_revision area format ok,
  formatted_zero area format ok,
  formatted_rest area format ok,
)
