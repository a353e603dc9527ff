-- Laws of the read and of the visit, as the code asks them.
use mathlib.Core.Path.{◌≡◌, refl, sym, ap, ◌∙◌}
use mathlib.Core.Bool.{Bool, true, false, not, ◌&&◌}
use mathlib.Core.List.{List, ◌∷◌}
use Prim.Native.Nat.{ℕ, ◌+◌, ◌-◌, ◌≤◌, ◌<◌, ◌*◌}
use native.Mathlib.Omega.{arith}
use lib.ListN.{length, take, drop, get_or, replicate}
use lib.Seq.{length-take-le}
use lib.Dec.{eqb}
use Rattle.std.specs.Prelude.{Option, Some, None, IfSome, unwrap_or, ok_or, Result, Ok, Err}
use Rattle.std.proofs.Common.{take-take}
use borrow.Author.Tests.{eq-eqb, ne_eqb, lt-ltb, le-ltb, eqb-true, eqb-false}
use Rattle.blocks.specs.Pick.{pick}
use Rattle.blocks.specs.Bytes.{block_count, part, block_at, zero_block, splice, store_all}
use Rattle.blocks.specs.Name.{is_name, no_name}
use Rattle.blocks.specs.Descriptor.{physical, descriptor_at, no_descriptor}
use Rattle.chains.specs.Chain.{chain, descriptors, named, descriptors_at, Regions, regions_of, walk_of, index_of, active_of}
use Rattle.blocks.specs.declared.numbers.Physical.{Physical}
use Rattle.blocks.specs.declared.descriptor.Descriptor.{Descriptor}
use Rattle.chains.specs.Chain.{Walk}
use Rattle.blocks.proofs.ByteLaws.{splice_whole, length_part}
use Rattle.chains.proofs.NamedLaws.{index_le}
use Rattle.links.proofs.ChainLaws.{region_volume}
use Rattle.entries.specs.Entry.{find, found_block, located_in, locate}
use Rattle.entries.proofs.RegionLaws.{through_region}
use Rattle.entries.specs.Found.{Found, Misplaced, Entry, Located}
use Rattle.calls.specs.declared.answer.Answer.{Answer}
use Rattle.calls.specs.Call.{Target, Active, Snapshot, Call, Read, Visit, Block, answer, accepted, refused}
use Rattle.calls.specs.declared.answer.Refusal.{Refusal}
use Rattle.calls.specs.declared.answer.Refusal.TheVariants as why
use Rattle.calls.specs.Effect.{Visited, Delivered, delivered, given_at, visit_given, given_bytes, as_visited, visited}
use Rattle.calls.specs.Parts.{area_bad, snapshots_of, is_snapshot, target_of, target_index, is_misplaced, holder_of, block_found, SoundCard}
use Rattle.calls.specs.Ladder.{Row, row, admission, first_row, block_row, entry_rows, read_rows, visit_rows}
use Rattle.calls.specs.Meaning.{rows_of, answer_of, lent_of, filled_of, stores_of, given_of}
use Rattle.calls.specs.Step.{Done, step, done}
use Rattle.calls.proofs.StepLaws.{step_refused, step_accepted, outcome_refused, outcome_barred, outcome_accepted}
use Rattle.calls.proofs.CardLaws.{card_ready, card_some, card_snapshots, card_snapshot_count, card_snapshot, card_found, card_active, card_through, card_active_through}
use Rattle.calls.proofs.RowLaws.{admitted, row_given, row_passed, block_given, block_passed, chain_given, volume_given, volume_passed, Reached, reached, card_admitted}

-- the index of what is read
module _ (ss : List Descriptor) (name : List ℕ) (n : ℕ) (counted : length ss ≡ n) where
  pub index_active : n ≡ target_index ss Active name
  unfolding target_index
  index_active = sym counted

  pub index_found : (m : ℕ) → m ≡ n + 1 → (k : Option ℕ) → unwrap_or k n ≡ index_of ss name → IfSome k (λ i. i < n) → unwrap_or k m ≡ target_index ss Snapshot name
  unfolding target_index
  index_found m e (Some i) is h = rw (← is, counted, ne_eqb i n (omega (arith, h)))
  index_found m e None is h = rw (← is, counted, eq-eqb n n refl) e

-- the index as the code looks it up, among the first count places of a chain, and what it makes of none
module _ (c starts : List ℕ) (count : ℕ) (s : SoundCard c count starts) (target : Target) (name : List ℕ) (o : Option ℕ)
    (told : unwrap_or o (length (take count starts)) ≡ target_index (descriptors_at c (take (length (take count starts) - 1) (take count starts))) target name)
    (bound : IfSome o (λ k. k < length (take count starts))) (r : Result ℕ Refusal) (tested : r ≡ ok_or o why.NoSnapshot) where
  abbrev index : ℕ
  index = target_index (descriptors_at c (take (count - 1) starts)) target name

  counted : length (take count starts) ≡ count
  counted = length-take-le count starts (omega (arith, (card_ready c count starts s).1))

  told_index : unwrap_or o count ≡ index
  told_index =
      let first : take (count - 1) (take count starts) ≡ take (count - 1) starts = take-take (count - 1) count starts (omega arith) in
      rw first at rw counted at told

  pub index_missing : (e : Refusal) → r ≡ Err e → (count ≡ index) × (refused e ≡ answer 7 0)
  index_missing e f = by o told_index tested
    where
      by : (x : Option ℕ) → unwrap_or x count ≡ index → r ≡ ok_or x why.NoSnapshot → (count ≡ index) × (refused e ≡ answer 7 0)
      by None t q = let same : why.NoSnapshot ≡ e = cc in (t, ap refused (sym same))
      by (Some k) t q = cc

  pub index_there : (k : ℕ) → r ≡ Ok k → (k ≡ index) × (k < count) × (k ≡ count → ⊥)
  index_there k f = by o told_index bound tested
    where
      by : (x : Option ℕ) → unwrap_or x count ≡ index → IfSome x (λ j. j < length (take count starts)) → r ≡ ok_or x why.NoSnapshot → (k ≡ index) × (k < count) × (k ≡ count → ⊥)
      by None t b q = cc
      by (Some j) t b q = let same : j ≡ k = cc in (sym same ∙ t, omega (arith, b, counted), λ e. omega (arith, b, counted, e))

-- no snapshot has the name exactly where the index is past the chain
module _ (ss : List Descriptor) (name : List ℕ) where
  missing_by : (t : Bool) → eqb (index_of ss name) (length ss) ≡ t → not (named ss name) ≡ eqb (pick t (length ss + 1) (index_of ss name)) (length ss + 1)
  unfolding named
  missing_by true e = rw (le-ltb (index_of ss name) (length ss) (omega (arith, eqb-true (index_of ss name) (length ss) e)), eq-eqb (length ss + 1) (length ss + 1) refl)
  missing_by false e =
      let l : index_of ss name < length ss = omega (arith, index_le ss name, eqb-false (index_of ss name) (length ss) e) in
      rw (lt-ltb (index_of ss name) (length ss) l, ne_eqb (index_of ss name) (length ss + 1) (omega arith))

  pub missing_is : (target : Target) → (is_snapshot target && not (named ss name)) ≡ eqb (target_index ss target name) (length ss + 1)
  unfolding target_index
  missing_is Active = sym (ne_eqb (length ss) (length ss + 1) (omega arith))
  missing_is Snapshot = missing_by (eqb (index_of ss name) (length ss)) refl

  found_by : (t : Bool) → eqb (index_of ss name) (length ss) ≡ t → (pick t (length ss + 1) (index_of ss name) ≡ length ss + 1 → ⊥)
      → (index_of ss name < length ss) × (pick t (length ss + 1) (index_of ss name) ≡ index_of ss name)
  found_by true e h = absurd (h refl)
  found_by false e h = (omega (arith, index_le ss name, eqb-false (index_of ss name) (length ss) e), refl)

  pub found_index : (target_index ss Snapshot name ≡ length ss + 1 → ⊥) → (index_of ss name < length ss) × (target_index ss Snapshot name ≡ index_of ss name)
  unfolding target_index
  found_index h = found_by (eqb (index_of ss name) (length ss)) refl h

-- what is delivered, case by case
module _ (c : List ℕ) (f : Found) (out : List ℕ) where
  pub deliver_misplaced : (h : Physical) → f ≡ Misplaced h → ◌≡◌ {A = Delivered} (record { answer = answer 10 h.0; block = out }) (delivered c f out)
  unfolding delivered is_misplaced holder_of
  deliver_misplaced h e = rw e

  pub deliver_entry : (m p : Physical) → f ≡ Entry m p → (out' : List ℕ) → out' ≡ pick (eqb p.0 0) zero_block (block_at c p.0) → ◌≡◌ {A = Delivered} (record { answer = accepted; block = out' }) (delivered c f out)
  unfolding delivered is_misplaced block_found
  deliver_entry m p e out' g = rw (e, g)

-- the caller's block filled
pub filled_nil : (c out out' : List ℕ) (p : ℕ) → eqb p 0 ≡ true → length out ≡ 512 → out' ≡ replicate (length out) 0 → out' ≡ pick (eqb p 0) zero_block (block_at c p)
filled_nil c out out' p nil long zeros = rw nil (zeros ∙ ap (λ (n : ℕ). replicate n 0) long)

pub filled_block_lem : (c out out' : List ℕ) (p : ℕ) → eqb p 0 ≡ false → length out ≡ 512 → 512 * p + 512 ≤ length c → out' ≡ splice out 0 (part c (512 * p) (512 * p + 512 - 512 * p)) → out' ≡ pick (eqb p 0) zero_block (block_at c p)
unfolding block_at
filled_block_lem c out out' p some long fits e =
    let size : 512 * p + 512 - 512 * p ≡ 512 = omega arith in
    e ∙ rw (size, some) (splice_whole out (part c (512 * p) 512) (length_part c (512 * p) 512 fits ∙ sym long))

-- what a visit gives once its entry was looked for, case by case
module _ (c : List ℕ) (d : Descriptor) (l : ℕ) where
  abbrev all : List Descriptor
  all = descriptors (chain c)

  module _ (at : Located) (is : at ≡ locate c all d l) where
    pub visit_misplaced : (h : Physical) → at.found ≡ Misplaced h → ◌≡◌ {A = Visited} (record { answer = answer 10 h.0; name = no_name }) (visited all (locate c all d l))
    unfolding visited is_misplaced holder_of
    visit_misplaced h e = rw (← is, e)

    pub visit_nil : (m p : Physical) → at.found ≡ Entry m p → p.0 ≡ 0 → ◌≡◌ {A = Visited} (record { answer = accepted; name = no_name }) (visited all (locate c all d l))
    unfolding visited is_misplaced given_at found_block given_bytes
    visit_nil m p e z = rw (← is, e, eq-eqb p.0 0 z)

    pub visit_named : (m p : Physical) → at.found ≡ Entry m p → (p.0 ≡ 0 → ⊥) → (name : List ℕ) → name ≡ (get_or all at.owner no_descriptor).name
        → ◌≡◌ {A = Visited} (record { answer = accepted; name = name }) (visited all (locate c all d l))
    unfolding visited is_misplaced given_at found_block given_bytes
    visit_named m p e n name q = rw (← is, e, ne_eqb p.0 0 n, q)

-- the rows of a read that follow admission, in the order of the code
module _ (c : List ℕ) (target : Target) (name : List ℕ) (l : ℕ) (block : List ℕ) (a : Answer) (asked : a ≡ first_row (admission c)) (card : a.number ≡ 0) (u : Bool) (unnamed : u ≡ (is_snapshot target && not (is_name name))) where
  abbrev call : Call
  call = Read target name l block

  pub read_4 : u ≡ true → answer_of call c ≡ answer 4 0
  unfolding answer_of rows_of read_rows
  read_4 e = admitted c a asked _ card ∙ row_given _ _ (sym unnamed ∙ e)

  module _ (called : u ≡ false) where
    to_block : answer_of call c ≡ first_row (block_row block ∷ entry_rows c target name l)
    unfolding answer_of rows_of read_rows
    to_block = admitted c a asked _ card ∙ row_passed _ _ (sym unnamed ∙ called)

    pub read_9 : (length block ≡ 512 → ⊥) → answer_of call c ≡ answer 9 0
    read_9 h = to_block ∙ block_given _ block h

    pub read_6 : length block ≡ 512 → (w : Walk) → w ≡ walk_of (chain c) → not w.sound ≡ true → answer_of call c ≡ answer 6 w.place.0
    unfolding entry_rows
    read_6 long w walked h = to_block ∙ block_passed _ block long ∙ chain_given _ c w walked h

pub read_reached : (c : List ℕ) (target : Target) (name : List ℕ) (l : ℕ) (block : List ℕ) → (is_snapshot target && not (is_name name)) ≡ false → length block ≡ 512
    → (count : ℕ) (starts : List ℕ) → SoundCard c count starts
    → Reached (Read target name l block) c (drop 1 (entry_rows c target name l)) (record { sound = true; place = physical 0; active = active_of (descriptors (chain c)); count = count; starts = starts })
unfolding answer_of rows_of read_rows entry_rows
read_reached c target name l block called long count starts s =
    reached (Read target name l block) c _ count starts s (card_admitted c s.area _ ∙ row_passed _ _ called ∙ block_passed _ block long)

-- those of a visit
module _ (c : List ℕ) (target : Target) (name : List ℕ) (l : ℕ) (a : Answer) (asked : a ≡ first_row (admission c)) (card : a.number ≡ 0) (u : Bool) (unnamed : u ≡ (is_snapshot target && not (is_name name))) where
  pub visit_4 : u ≡ true → answer_of (Visit target name l) c ≡ answer 4 0
  unfolding answer_of rows_of visit_rows
  visit_4 e = admitted c a asked _ card ∙ row_given _ _ (sym unnamed ∙ e)

  pub visit_6 : u ≡ false → (w : Walk) → w ≡ walk_of (chain c) → not w.sound ≡ true → answer_of (Visit target name l) c ≡ answer 6 w.place.0
  unfolding answer_of rows_of visit_rows entry_rows
  visit_6 called w walked h = admitted c a asked _ card ∙ row_passed _ _ (sym unnamed ∙ called) ∙ chain_given _ c w walked h

pub visit_reached : (c : List ℕ) (target : Target) (name : List ℕ) (l : ℕ) → (is_snapshot target && not (is_name name)) ≡ false → (count : ℕ) (starts : List ℕ) → SoundCard c count starts
    → Reached (Visit target name l) c (drop 1 (entry_rows c target name l)) (record { sound = true; place = physical 0; active = active_of (descriptors (chain c)); count = count; starts = starts })
unfolding answer_of rows_of visit_rows entry_rows
visit_reached c target name l called count starts s =
    reached (Visit target name l) c _ count starts s (card_admitted c s.area _ ∙ row_passed _ _ called)

-- the rows that follow that of the chain, of a call that goes to a target: that of 7, and the rest
module _ (call : Call) (c : List ℕ) (target : Target) (name : List ℕ) (rest : List Row) (r : Regions)
    (h : Reached call c (row (is_snapshot target && not (named (snapshots_of (descriptors (chain c))) name)) 7 0 ∷ rest) r) where
  walked : r ≡ regions_of (chain c)
  walked = h.walked

  good : area_bad c ≡ false
  good = h.area

  ok : r.sound ≡ true
  ok = h.sound

  module _ (k : ℕ) (index : k ≡ target_index (descriptors_at c (take (r.count - 1) r.starts)) target name) where
    abbrev ds : List Descriptor
    ds = descriptors (chain c)

    index_is : k ≡ target_index (snapshots_of ds) target name
    index_is = index ∙ ap (λ (ss : List Descriptor). target_index ss target name) (card_snapshots c r walked good ok)

    count_is : length (snapshots_of ds) + 1 ≡ r.count
    count_is = omega (arith, card_snapshot_count c r walked good ok, card_some c r walked good ok)

    missing : (is_snapshot target && not (named (snapshots_of ds) name)) ≡ eqb k r.count
    missing = missing_is (snapshots_of ds) name target ∙ rw (← index_is, count_is)

    pub target_7 : k ≡ r.count → answer_of call c ≡ answer 7 0
    target_7 e = h.rest ∙ row_given _ _ (missing ∙ eq-eqb k r.count e)

    -- which descriptor is read
    place_of : (t : Target) → k ≡ target_index (snapshots_of ds) t name → (k ≡ r.count → ⊥) → (k < r.count) × (target_of ds t name ≡ descriptor_at c (get_or r.starts k 0))
    unfolding target_of target_index
    place_of Active e n =
        let q : k ≡ r.count - 1 = omega (arith, card_snapshot_count c r walked good ok) in
        (omega (arith, card_some c r walked good ok), rw q (sym (card_found c r walked good ok) ∙ card_active c r walked good ok))
    place_of Snapshot e n =
        let f = found_index (snapshots_of ds) name (λ h. n (e ∙ h ∙ count_is)) in
        let q : k ≡ index_of (snapshots_of ds) name = e ∙ f.1 in
        let s : k < r.count - 1 = omega (arith, f.0, card_snapshot_count c r walked good ok) in
        (omega arith, rw (← q) (card_snapshot c r walked good ok k s))

    index_inside : (k ≡ r.count → ⊥) → k < r.count
    index_inside n = (place_of target index_is n).0

    module _ (some : k ≡ r.count → ⊥) where
      pub target_passed : answer_of call c ≡ first_row rest
      target_passed = h.rest ∙ row_passed _ _ (missing ∙ ne_eqb k r.count some)

      module _ (d : Descriptor) (d_is : d ≡ descriptor_at c (get_or r.starts k 0)) where
        -- L is the same in all descriptors
        pub target_volume : d.volume ≡ r.active.volume
        target_volume =
            let one = through_region c r.starts r.count d (card_through c r walked good ok k (index_inside some) d d_is) in
            let other = through_region c r.starts r.count r.active (card_active_through c r walked good ok) in
            region_volume (descriptor_at c 0) (block_count c) _ d one.region ∙ sym (region_volume (descriptor_at c 0) (block_count c) _ r.active other.region)

        pub target_found : target_of ds target name ≡ d
        target_found = (place_of target index_is some).1 ∙ sym d_is

-- of a call that follows an entry through its target
module _ (call : Call) (c : List ℕ) (target : Target) (name : List ℕ) (l : ℕ) (r : Regions) (h : Reached call c (drop 1 (entry_rows c target name l)) r) where
  past : Reached call c (row (is_snapshot target && not (named (snapshots_of (descriptors (chain c))) name)) 7 0 ∷ drop 2 (entry_rows c target name l)) r
  unfolding entry_rows
  past = h

  module _ (k : ℕ) (index : k ≡ target_index (descriptors_at c (take (r.count - 1) r.starts)) target name) where
    pub entry_7 : k ≡ r.count → answer_of call c ≡ answer 7 0
    entry_7 e = target_7 call c target name (drop 2 (entry_rows c target name l)) r past k index e

    module _ (some : k ≡ r.count → ⊥) where
      to_volume : answer_of call c ≡ first_row (drop 2 (entry_rows c target name l))
      to_volume = target_passed call c target name (drop 2 (entry_rows c target name l)) r past k index some

      module _ (d : Descriptor) (d_is : d ≡ descriptor_at c (get_or r.starts k 0)) where
        volume_is : d.volume ≡ r.active.volume
        volume_is = target_volume call c target name (drop 2 (entry_rows c target name l)) r past k index some d d_is

        pub entry_8 : d.volume ≤ l → answer_of call c ≡ answer 8 0
        unfolding entry_rows
        entry_8 e = to_volume ∙ volume_given _ c r h.walked h.area h.sound l (omega (arith, e, volume_is))

        module _ (below : l < d.volume) where
          pub target_is : target_of (descriptors (chain c)) target name ≡ d
          target_is = target_found call c target name (drop 2 (entry_rows c target name l)) r past k index some d d_is

          abbrev found : Found
          found = find c (descriptors (chain c)) d l

          to_found : answer_of call c ≡ first_row (drop 3 (entry_rows c target name l))
          unfolding entry_rows
          to_found = to_volume ∙ volume_passed _ c r h.walked h.area h.sound l (omega (arith, below, volume_is))

          pub entry_rest : answer_of call c ≡ pick (is_misplaced found) (answer 10 (holder_of found)) accepted
          unfolding entry_rows first_row
          entry_rest = to_found ∙ rw target_is

-- what a read does, by the block that was found through the target's descriptor
module _ (c : List ℕ) (target : Target) (name : List ℕ) (l : ℕ) (block : List ℕ) (d : Descriptor) (target_is : target_of (descriptors (chain c)) target name ≡ d)
    (rest : let f = find c (descriptors (chain c)) d l in answer_of (Read target name l block) c ≡ pick (is_misplaced f) (answer 10 (holder_of f)) accepted) where
  abbrev block_at_lem : Found
  block_at_lem = find c (descriptors (chain c)) d l

  done_by_lem : (t : Bool) → is_misplaced block_at_lem ≡ t → (a : Answer) (out : List ℕ)
      → ◌≡◌ {A = Delivered} (record { answer = a; block = out }) (pick t (record { answer = answer 10 (holder_of block_at_lem); block = block }) (record { answer = accepted; block = block_found c block_at_lem }))
      → ◌≡◌ {A = Done} (done a (Block out) c) (step (Read target name l block) c)
  unfolding lent_of filled_of stores_of given_of store_all
  done_by_lem true e a out h =
      let a_is : a ≡ answer 10 (holder_of block_at_lem) = ap (λ (x : Delivered). x.answer) h in
      let out_is : out ≡ block = ap (λ (x : Delivered). x.block) h in
      rw (a_is, out_is) (step_refused (Read target name l block) c 10 (holder_of block_at_lem) (rest ∙ rw e) refl)
  done_by_lem false e a out h =
      let a_is : a ≡ accepted = ap (λ (x : Delivered). x.answer) h in
      let out_is : out ≡ block_found c block_at_lem = ap (λ (x : Delivered). x.block) h in
      rw (a_is, out_is) (step_accepted (Read target name l block) c (rest ∙ rw e) (Block (block_found c block_at_lem)) (rw target_is) c refl refl)

  pub read_done : (a : Answer) (out : List ℕ) → ◌≡◌ {A = Delivered} (record { answer = a; block = out }) (delivered c block_at_lem block)
      → ◌≡◌ {A = Done} (done a (Block out) c) (step (Read target name l block) c)
  unfolding delivered
  read_done a out h = done_by_lem (is_misplaced block_at_lem) refl a out h

-- so it is after all tests before that of the entry
pub read_through : (c : List ℕ) (target : Target) (name : List ℕ) (l : ℕ) (block : List ℕ) → (is_snapshot target && not (is_name name)) ≡ false → length block ≡ 512
    → (count : ℕ) (starts : List ℕ) → SoundCard c count starts → (k : ℕ) → k ≡ target_index (descriptors_at c (take (count - 1) starts)) target name → (k ≡ count → ⊥)
    → (d : Descriptor) → d ≡ descriptor_at c (get_or starts k 0) → l < d.volume → (a : Answer) (out : List ℕ)
    → ◌≡◌ {A = Delivered} (record { answer = a; block = out }) (delivered c (find c (descriptors (chain c)) d l) block) → ◌≡◌ {A = Done} (done a (Block out) c) (step (Read target name l block) c)
read_through c target name l block called long count starts s k index some d d_is below =
    let past = read_reached c target name l block called long count starts s in
    read_done c target name l block d (target_is _ c target name l _ past k index some d d_is below) (entry_rest _ c target name l _ past k index some d d_is below)

-- and what a visit gives
module _ (c : List ℕ) (target : Target) (name : List ℕ) (l : ℕ) (d : Descriptor) (target_is : target_of (descriptors (chain c)) target name ≡ d)
    (rest : let f = find c (descriptors (chain c)) d l in answer_of (Visit target name l) c ≡ pick (is_misplaced f) (answer 10 (holder_of f)) accepted) where
  abbrev at : Located
  at = locate c (descriptors (chain c)) d l

  given_by : (t : Bool) → is_misplaced (find c (descriptors (chain c)) d l) ≡ t
      → pick t (record { answer = answer 10 (holder_of (find c (descriptors (chain c)) d l)); name = no_name }) (record { answer = accepted; name = given_bytes (given_at (descriptors (chain c)) at) })
      ≡ as_visited (step (Visit target name l) c).outcome
  unfolding as_visited given_bytes given_of visit_given
  given_by true e = rw (outcome_refused (Visit target name l) c 10 (holder_of (find c (descriptors (chain c)) d l)) (rest ∙ rw e) refl)
  given_by false e = rw (outcome_accepted (Visit target name l) c (rest ∙ rw e), target_is)

  pub visit_done : (v : Visited) → v ≡ visited (descriptors (chain c)) at → v ≡ as_visited (step (Visit target name l) c).outcome
  unfolding visited locate located_in
  visit_done v h = h ∙ given_by (is_misplaced (find c (descriptors (chain c)) d l)) refl

-- a visit that is refused gives no name
pub visit_refused : (c : List ℕ) (target : Target) (name : List ℕ) (l n p : ℕ) → answer_of (Visit target name l) c ≡ answer n p → eqb n 0 ≡ false
    → ◌≡◌ {A = Visited} (record { answer = answer n p; name = no_name }) (as_visited (step (Visit target name l) c).outcome)
unfolding as_visited given_bytes
visit_refused c target name l n p e z = rw (outcome_refused (Visit target name l) c n p e z)

pub visit_barred : (c : List ℕ) (target : Target) (name : List ℕ) (l : ℕ) (a : Answer) → a ≡ first_row (admission c) → (a.number ≡ 0 → ⊥)
    → ◌≡◌ {A = Visited} (record { answer = a; name = no_name }) (as_visited (step (Visit target name l) c).outcome)
unfolding as_visited given_bytes
visit_barred c target name l a asked h = rw (outcome_barred (Visit target name l) c a asked h)
