-- What a call answers and gives on a card that passes is what the card's ledger says of it.
use mathlib.Core.Path.{◌≡◌, refl, sym, ap, ◌∙◌, subst}
use mathlib.Core.Bool.{Bool, true, false, not, ◌&&◌, ◌||◌}
use mathlib.Core.List.{List, [], ◌∷◌, ◌++◌, map}
use Prim.Native.Nat.{ℕ, zero, suc, ◌+◌, ◌*◌, ◌≤◌, ◌<◌}
use native.Mathlib.Omega.{arith}
use lib.ListN.{length, drop, get_or, length-append}
use lib.Dec.{eqb, ltb, leb}
use borrow.Author.Tests.{leb-false, le-ltb, ltb-false, not-false}
use Rattle.blocks.specs.Pick.{pick, same}
use Rattle.blocks.specs.Bytes.{block_count, part}
use Rattle.blocks.proofs.ByteLaws.{blocks_long}
use Rattle.blocks.specs.Descriptor.{no_descriptor}
use Rattle.chains.specs.Chain.{chain, named, active_of}
use Rattle.blocks.specs.declared.descriptor.Descriptor.{Descriptor}
use Rattle.chains.proofs.NamedLaws.{named_one, named_append}
use Rattle.calls.specs.declared.answer.Answer.{Answer}
use Rattle.calls.specs.Call.{Target, Active, Snapshot, Call, Ream, Read, Write, Snap, Revert, Listing, Check, Visit, SpanRead, SpanWrite, Block, Records, answer, accepted}
use Rattle.calls.specs.declared.answer.Record.{Record}
use Rattle.calls.specs.Parts.{descriptors_of, snapshots_of, is_snapshot, target_of, found_through, is_misplaced, block_found, area_bad}
use Rattle.calls.specs.Check.{Passes, is_fault}
use Rattle.calls.specs.Spans.{misplaced_from, span_verdict}
use Rattle.pieces.specs.Span.{run_of, span_block, touched}
use Rattle.pieces.proofs.SpanLaws.{inside}
use Rattle.claims.proofs.LedgerSpan.{span_part}
use Rattle.calls.specs.Ladder.{Row, row, first_row, ream_rows, read_rows, visit_rows, write_rows, snap_rows, revert_rows, list_rows, span_read_rows, span_write_rows, admission}
use Rattle.calls.specs.Effect.{no_record}
use Rattle.calls.specs.Meaning.{rows_of, answer_of, filled_of}
use Rattle.calls.specs.Step.{step, is_accepted}
use Rattle.claims.specs.History.{beta_of}
use Rattle.claims.specs.Ledger.{Volume, ledger_rows, volume_read, cell_read, run_read, names_from, ledger_names, volume_of, volumes_of, ledger_of}
use Rattle.claims.specs.Claims.{blocks_needed, record_names, CheckClaim, ListClaim}
use Rattle.calls.proofs.CardLaws.{chain_is, active_split}
use Rattle.claims.proofs.Lists.{list_claim}
use Rattle.claims.proofs.CheckClaims.{check_claim, passes_faultless}
use Rattle.calls.proofs.Passed.{read_passed, span_read_passed, list_passed}
use Rattle.calls.proofs.RowLaws.{admitted, admission_0, placeless_first, placeless}
use Rattle.blocks.specs.declared.descriptor.Format.{Format}
use Rattle.calls.proofs.ActiveLaws.{target_member, active_target, chain_some, volume_at, active_last, active_end, region_below}
use Rattle.calls.proofs.CellLaws.{passing_found}
use Rattle.claims.proofs.LedgerLaws.{cells_length, volume_named_lem, volumes_length, cell_of, has_volume_lem}

pub volume_read_lem : (c : List ℕ) (target : Target) (name : List ℕ) → (is_snapshot target && not (named (snapshots_of (descriptors_of c)) name)) ≡ false
    → volume_read (ledger_of c) target name ≡ volume_of c (target_of (descriptors_of c) target name)
unfolding volume_read ledger_of target_of
volume_read_lem c Active name h = refl
volume_read_lem c Snapshot name h = volume_named_lem c (snapshots_of (descriptors_of c)) name (not-false (named (snapshots_of (descriptors_of c)) name) h)

-- what a read goes through
module _ (c : List ℕ) (p : Passes c) (target : Target) (name : List ℕ) (l : ℕ) (standing : (is_snapshot target && not (named (snapshots_of (descriptors_of c)) name)) ≡ false) (inside : l < (active_of (descriptors_of c)).volume) where
  below_target : l < (target_of (descriptors_of c) target name).volume
  below_target =
      let m = target_member (descriptors_of c) (chain_some c (descriptors_of c) (chain_is (chain c) p.sound)) target name standing in
      omega (arith, inside, ap (λ (d : Descriptor). d.volume) m.2, volume_at c (descriptors_of c) (chain_is (chain c) p.sound) m.0 m.1)

  target_found : is_misplaced (found_through c (target_of (descriptors_of c) target name) l) ≡ false
  target_found =
      let m = target_member (descriptors_of c) (chain_some c (descriptors_of c) (chain_is (chain c) p.sound)) target name standing in
      rw m.2
      (passing_found c p m.0 m.1 l (omega (arith, inside, volume_at c (descriptors_of c) (chain_is (chain c) p.sound) m.0 m.1)))

  target_cell : cell_read (ledger_of c) target name l ≡ block_found c (found_through c (target_of (descriptors_of c) target name) l)
  unfolding cell_read
  target_cell = ap (λ (v : Volume). get_or v.cells l []) (volume_read_lem c target name standing) ∙ cell_of c (target_of (descriptors_of c) target name) l below_target

-- an accepted read gives the ledger's cell
pub ledger_reads : (c : List ℕ) → Passes c → (target : Target) (name : List ℕ) (l : ℕ) (block : List ℕ) → is_accepted (answer_of (Read target name l block) c) ≡ true
    → (step (Read target name l block) c).outcome.lent ≡ Block (cell_read (ledger_of c) target name l)
unfolding step filled_of
ledger_reads c p target name l block ok =
    let shown = read_passed c target name l block ok in
    rw ok (ap Block (sym (target_cell c p target name l shown.there shown.below)))

-- an accepted span read gives its part of the ledger's run
pub ledger_spans : (c : List ℕ) → Passes c → (target : Target) (name : List ℕ) (o : ℕ) (bytes : List ℕ) → is_accepted (answer_of (SpanRead target name o bytes) c) ≡ true
    → (step (SpanRead target name o bytes) c).outcome.lent ≡ Block (part (run_read (ledger_of c) target name) o (length bytes))
unfolding step filled_of run_read
ledger_spans c p target name o bytes ok =
    let ds = descriptors_of c in
    let d = target_of ds target name in
    let is = chain_is (chain c) p.sound in
    let shown = span_read_passed c target name o bytes ok in
    let m = target_member ds (chain_some c ds is) target name shown.there in
    let volume : d.volume ≡ (active_of ds).volume = ap (λ (x : Descriptor). x.volume) m.2 ∙ volume_at c ds is m.0 m.1 in
    let upto : d.beta.0 ≤ (active_of ds).beta.0 = subst (λ (x : Descriptor). x.beta.0 ≤ (active_of ds).beta.0) (sym m.2) (region_below c ds is m.0 m.1).upto in
    let end = blocks_long c d.beta.0 (omega (arith, upto, active_end c ds is)) in
    rw ok (ap Block (span_part c d end o (length bytes) (omega (arith, shown.upto, volume)) ∙ ap (λ (v : Volume). part (run_of v.cells) o (length bytes)) (sym (volume_read_lem c target name shown.there))))

-- the ledger's names are the chain's
abbrev names_of : List Descriptor → List (List ℕ)
names_of ds = map (λ (d : Descriptor). d.name) ds

names_length : (ds : List Descriptor) → length (names_of ds) ≡ length ds
names_length [] = refl
names_length (d ∷ ds) = ap suc (names_length ds)

names_from_lem : (c : List ℕ) (ds : List Descriptor) (d : Descriptor) → names_from (volumes_of c ds) d.name ≡ names_of (ds ++ (d ∷ []))
unfolding names_from volumes_of volume_of
names_from_lem c [] d = refl
names_from_lem c (e ∷ ds) d = ap (λ (ns : List (List ℕ)). e.name ∷ ns) (names_from_lem c ds d)

ledger_names_lem : (c : List ℕ) → 0 < length (descriptors_of c) → ledger_names (ledger_of c) ≡ names_of (descriptors_of c)
unfolding ledger_names ledger_of volume_of
ledger_names_lem c h = names_from_lem c (snapshots_of (descriptors_of c)) (active_of (descriptors_of c)) ∙ ap names_of (sym (active_split (descriptors_of c) h))

taken_names : (ds : List Descriptor) (filled : List Record) (r : Record) → length ds ≤ length filled → ((i : ℕ) → i < length ds → (get_or filled i r).name ≡ (get_or ds i no_descriptor).name)
    → record_names (length ds) filled ≡ names_of ds
unfolding record_names
taken_names [] filled r h f = refl
taken_names (d ∷ ds) [] r h f = absurd (omega arith)
taken_names (d ∷ ds) (x ∷ filled) r h f =
    ap (λ (n : List ℕ). n ∷ record_names (length ds) filled) (f 0 (omega arith))
    ∙ ap (λ (ns : List (List ℕ)). d.name ∷ ns) (taken_names ds filled r (omega arith) (λ i l. f (suc i) (omega arith)))

list_fits : (c : List ℕ) (records : List Record) → is_accepted (answer_of (Listing records) c) ≡ true → length (descriptors_of c) ≤ length records
list_fits c records ok = (list_passed c records ok).room

-- an accepted listing gives the ledger's names in their order, and leaves the records after them
pub ledger_lists : (c : List ℕ) → Passes c → (records : List Record) → is_accepted (answer_of (Listing records) c) ≡ true
    → let g = ledger_of c in
    (filled : List Record) × ((step (Listing records) c).outcome.lent ≡ Records filled)
    × (record_names (length (ledger_names g)) filled ≡ ledger_names g)
    × (drop (length (ledger_names g)) filled ≡ drop (length (ledger_names g)) records)
unfolding ListClaim
ledger_lists c p records ok =
    let ds = descriptors_of c in
    let listing = list_claim records c ok in
    let names = ledger_names_lem c (chain_some c (descriptors_of c) (chain_is (chain c) p.sound)) in
    let count : length (ledger_names (ledger_of c)) ≡ length ds = ap length names ∙ names_length ds in (
      listing.0,
      listing.1,
      ap (λ (n : ℕ). record_names n listing.0) count
          ∙ taken_names ds listing.0 no_record (omega (arith, listing.2, list_fits c records ok)) (λ i h. ap (λ (r : Record). r.name) (listing.3 i no_record h))
          ∙ sym names,
      ap (λ (n : ℕ). drop n listing.0) count ∙ listing.4 ∙ sym (ap (λ (n : ℕ). drop n records) count),
    )

ream_placeless : (c : List ℕ) (format : Format) → placeless (rows_of (Ream format) c) ≡ true
unfolding placeless rows_of admission ream_rows
ream_placeless c format = refl

pub ream_place : (c : List ℕ) (format : Format) → (answer_of (Ream format) c).place ≡ 0
unfolding answer_of
ream_place c format = (placeless_first (rows_of (Ream format) c) (ream_placeless c format)).0

-- the rows of each call after admission, where chain and entries are in order
read_by : (pl h : ℕ) (a b y s v f : Bool) → y ≡ false → (s ≡ false → v ≡ false → f ≡ false)
    → first_row (row a 4 0 ∷ row b 9 0 ∷ row y 6 pl ∷ row s 7 0 ∷ row v 8 0 ∷ row f 10 h ∷ []) ≡ first_row (row a 4 0 ∷ row b 9 0 ∷ row s 7 0 ∷ row v 8 0 ∷ [])
unfolding first_row
read_by pl h true b y s v f ey g = refl
read_by pl h false true y s v f ey g = refl
read_by pl h false false y true v f ey g = rw ey
read_by pl h false false y false true f ey g = rw ey
read_by pl h false false y false false f ey g = rw (ey, g refl refl)

visit_by : (pl h : ℕ) (a y s v f : Bool) → y ≡ false → (s ≡ false → v ≡ false → f ≡ false)
    → first_row (row a 4 0 ∷ row y 6 pl ∷ row s 7 0 ∷ row v 8 0 ∷ row f 10 h ∷ []) ≡ first_row (row a 4 0 ∷ row s 7 0 ∷ row v 8 0 ∷ [])
unfolding first_row
visit_by pl h true y s v f ey g = refl
visit_by pl h false y true v f ey g = rw ey
visit_by pl h false y false true f ey g = rw ey
visit_by pl h false y false false f ey g = rw (ey, g refl refl)

span_read_by : (pl h : ℕ) (a y s v f : Bool) → y ≡ false → (s ≡ false → v ≡ false → f ≡ false)
    → first_row (row a 4 0 ∷ row y 6 pl ∷ row s 7 0 ∷ row v 16 0 ∷ row f 10 h ∷ []) ≡ first_row (row a 4 0 ∷ row s 7 0 ∷ row v 16 0 ∷ [])
unfolding first_row
span_read_by pl h true y s v f ey g = refl
span_read_by pl h false y true v f ey g = rw ey
span_read_by pl h false y false true f ey g = rw ey
span_read_by pl h false y false false f ey g = rw (ey, g refl refl)

span_write_by : (pl h : ℕ) (y v f n : Bool) → y ≡ false → f ≡ false
    → first_row (row y 6 pl ∷ row v 16 0 ∷ row f 10 h ∷ row n 11 0 ∷ []) ≡ pick (eqb (first_row (row v 16 0 ∷ [])).number 0 && n) (answer 11 0) (first_row (row v 16 0 ∷ []))
unfolding first_row
span_write_by pl h y true f n ey ef = rw ey
span_write_by pl h y false f n ey ef = rw (ey, ef)

write_by : (pl h : ℕ) (b y v f n : Bool) → y ≡ false → (v ≡ false → f ≡ false)
    → first_row (row b 9 0 ∷ row y 6 pl ∷ row v 8 0 ∷ row f 10 h ∷ row n 11 0 ∷ [])
    ≡ pick (eqb (first_row (row b 9 0 ∷ row v 8 0 ∷ [])).number 0 && n) (answer 11 0) (first_row (row b 9 0 ∷ row v 8 0 ∷ []))
unfolding first_row
write_by pl h true y v f n ey g = refl
write_by pl h false y true f n ey g = rw ey
write_by pl h false y false f n ey g = rw (ey, g refl)

snap_by : (pl : ℕ) (a y q t n : Bool) → y ≡ false
    → first_row (row a 4 0 ∷ row y 6 pl ∷ row q 12 0 ∷ row t 13 0 ∷ row n 11 0 ∷ [])
    ≡ pick (eqb (first_row (row a 4 0 ∷ row q 12 0 ∷ row t 13 0 ∷ [])).number 0 && n) (answer 11 0) (first_row (row a 4 0 ∷ row q 12 0 ∷ row t 13 0 ∷ []))
unfolding first_row
snap_by pl true y q t n ey = refl
snap_by pl false y true t n ey = rw ey
snap_by pl false y false true n ey = rw ey
snap_by pl false y false false n ey = rw ey

revert_by : (pl : ℕ) (a y s : Bool) → y ≡ false → first_row (row a 4 0 ∷ row y 6 pl ∷ row s 7 0 ∷ []) ≡ first_row (row a 4 0 ∷ row s 7 0 ∷ [])
unfolding first_row
revert_by pl true y s ey = refl
revert_by pl false y s ey = rw ey

list_by : (pl : ℕ) (y t : Bool) → y ≡ false → first_row (row y 6 pl ∷ row t 14 0 ∷ []) ≡ first_row (row t 14 0 ∷ [])
unfolding first_row
list_by pl y t ey = rw ey

-- nothing needed is nothing wanting
roomy_by : (t n : Bool) (a b : Answer) → n ≡ false → b ≡ pick (t && n) a b
roomy_by true n a b e = rw e
roomy_by false n a b e = refl

named_active : (ss : List Descriptor) (d : Descriptor) (name : List ℕ) → named (ss ++ (d ∷ [])) name ≡ (named ss name || same d.name name)
named_active ss d name = named_append ss (d ∷ []) name ∙ ap (λ (b : Bool). named ss name || b) (named_one d name)

-- the answer of a call on a card that passes, by its ledger: the ledger's, or 11 where that is 0 and the blocks needed exceed those free
abbrev pub ledger_answer : Call → List ℕ → Answer
ledger_answer k c = pick (eqb (first_row (ledger_rows k (ledger_of c))).number 0 && ltb (block_count c) (beta_of c + blocks_needed k c)) (answer 11 0) (first_row (ledger_rows k (ledger_of c)))

module _ (c : List ℕ) (p : Passes c) where
  passing_admitted : (rs : List Row) → first_row (admission c ++ rs) ≡ first_row rs
  passing_admitted rs = admitted c accepted (admission_0 c (area_bad c) refl p.area) rs refl

  no_need : ltb (block_count c) (beta_of c + 0) ≡ false
  unfolding beta_of
  no_need = le-ltb (block_count c) (beta_of c + 0) (omega (arith, active_end c (descriptors_of c) (chain_is (chain c) p.sound)))

  no_more : (l : Answer) → l ≡ pick (eqb l.number 0 && ltb (block_count c) (beta_of c + 0)) (answer 11 0) l
  no_more l = roomy_by (eqb l.number 0) (ltb (block_count c) (beta_of c + 0)) (answer 11 0) l no_need

  read_own : (target : Target) (name : List ℕ) (l : ℕ) (block : List ℕ) → first_row (read_rows c target name l block) ≡ first_row (ledger_rows (Read target name l block) (ledger_of c))
  unfolding read_rows ledger_rows ledger_of volume_of
  read_own target name l block =
      rw (has_volume_lem c (snapshots_of (descriptors_of c)) name, cells_length c (active_of (descriptors_of c)) (active_of (descriptors_of c)).volume 0)
      (read_by _ _ _ _ _ _ _ _ (ap not p.sound) (λ s v. target_found c p target name l s (leb-false (active_of (descriptors_of c)).volume l v)))

  pub read_answer : (target : Target) (name : List ℕ) (l : ℕ) (block : List ℕ) → answer_of (Read target name l block) c ≡ ledger_answer (Read target name l block) c
  unfolding answer_of rows_of blocks_needed
  read_answer target name l block = passing_admitted (read_rows c target name l block) ∙ read_own target name l block ∙ no_more (first_row (ledger_rows (Read target name l block) (ledger_of c)))

  visit_own : (target : Target) (name : List ℕ) (l : ℕ) → first_row (visit_rows c target name l) ≡ first_row (ledger_rows (Visit target name l) (ledger_of c))
  unfolding visit_rows ledger_rows ledger_of volume_of
  visit_own target name l =
      rw (has_volume_lem c (snapshots_of (descriptors_of c)) name, cells_length c (active_of (descriptors_of c)) (active_of (descriptors_of c)).volume 0)
      (visit_by _ _ _ _ _ _ _ (ap not p.sound) (λ s v. target_found c p target name l s (leb-false (active_of (descriptors_of c)).volume l v)))

  pub visit_answer : (target : Target) (name : List ℕ) (l : ℕ) → answer_of (Visit target name l) c ≡ ledger_answer (Visit target name l) c
  unfolding answer_of rows_of blocks_needed
  visit_answer target name l = passing_admitted (visit_rows c target name l) ∙ visit_own target name l ∙ no_more (first_row (ledger_rows (Visit target name l) (ledger_of c)))

  pub active_found : (l : ℕ) → leb (active_of (descriptors_of c)).volume l ≡ false → is_misplaced (found_through c (active_of (descriptors_of c)) l) ≡ false
  active_found l v = rw (active_target (descriptors_of c)) at (target_found c p Active [] l refl (leb-false (active_of (descriptors_of c)).volume l v))

  pub write_answer : (l : ℕ) (block : List ℕ) → answer_of (Write l block) c ≡ ledger_answer (Write l block) c
  unfolding answer_of rows_of write_rows ledger_rows ledger_of volume_of beta_of blocks_needed
  write_answer l block =
      passing_admitted (write_rows c l block)
      ∙ rw (cells_length c (active_of (descriptors_of c)) (active_of (descriptors_of c)).volume 0)
      (write_by _ _ _ _ _ _ _ (ap not p.sound) (λ v. active_found l v))

  -- the blocks of a span that ends in the volume
  placed_from_lem : (target : Target) (name : List ℕ) → (is_snapshot target && not (named (snapshots_of (descriptors_of c)) name)) ≡ false → (k l : ℕ) → l + k ≤ (active_of (descriptors_of c)).volume
      → is_fault (misplaced_from c (target_of (descriptors_of c) target name) l k) ≡ false
  unfolding misplaced_from is_fault
  placed_from_lem target name s zero l h = refl
  placed_from_lem target name s (suc k) l h = rw (target_found c p target name l s (omega arith)) (placed_from_lem target name s k (suc l) (omega arith))

  placed_span : (target : Target) (name : List ℕ) (o n : ℕ) → (is_snapshot target && not (named (snapshots_of (descriptors_of c)) name)) ≡ false → o + n ≤ 512 * (active_of (descriptors_of c)).volume
      → is_fault (span_verdict c (target_of (descriptors_of c) target name) o n) ≡ false
  unfolding span_verdict
  placed_span target name o n s h = placed_by (touched o n) refl
    where
      placed_by : (k : ℕ) → touched o n ≡ k → is_fault (misplaced_from c (target_of (descriptors_of c) target name) (span_block o 0) (touched o n)) ≡ false
      placed_by zero e = rw e (placed_from_lem target name s 0 (span_block o 0) (omega arith))
      placed_by (suc k) e = placed_from_lem target name s (touched o n) (span_block o 0) (omega (arith, e, inside o n (active_of (descriptors_of c)).volume k h (omega (arith, e))))

  span_read_own : (target : Target) (name : List ℕ) (o : ℕ) (bytes : List ℕ) → first_row (span_read_rows c target name o bytes) ≡ first_row (ledger_rows (SpanRead target name o bytes) (ledger_of c))
  unfolding span_read_rows ledger_rows ledger_of volume_of
  span_read_own target name o bytes =
      let d = active_of (descriptors_of c) in
      rw (has_volume_lem c (snapshots_of (descriptors_of c)) name, cells_length c d d.volume 0)
      (span_read_by _ _ _ _ _ _ _ (ap not p.sound) (λ s v. placed_span target name o (length bytes) s (ltb-false (512 * d.volume) (o + length bytes) v)))

  pub span_read_answer : (target : Target) (name : List ℕ) (o : ℕ) (bytes : List ℕ) → answer_of (SpanRead target name o bytes) c ≡ ledger_answer (SpanRead target name o bytes) c
  unfolding answer_of rows_of blocks_needed
  span_read_answer target name o bytes =
      passing_admitted (span_read_rows c target name o bytes) ∙ span_read_own target name o bytes ∙ no_more (first_row (ledger_rows (SpanRead target name o bytes) (ledger_of c)))

  pub span_write_answer : (o : ℕ) (bytes : List ℕ) → answer_of (SpanWrite o bytes) c ≡ ledger_answer (SpanWrite o bytes) c
  unfolding answer_of rows_of span_write_rows ledger_rows ledger_of volume_of beta_of blocks_needed
  span_write_answer o bytes =
      let d = active_of (descriptors_of c) in
      passing_admitted (span_write_rows c o bytes) ∙ rw (cells_length c d d.volume 0) (span_write_by _ _ _ _ _ _ (ap not p.sound) (passes_faultless c p))

  snap_named : (name : List ℕ) → named (descriptors_of c) name ≡ (named (snapshots_of (descriptors_of c)) name || same (active_of (descriptors_of c)).name name)
  snap_named name =
      ap (λ (ds : List Descriptor). named ds name) (active_last c (descriptors_of c) (chain_is (chain c) p.sound))
      ∙ named_active (snapshots_of (descriptors_of c)) (active_of (descriptors_of c)) name

  pub snap_answer : (name : List ℕ) → answer_of (Snap name) c ≡ ledger_answer (Snap name) c
  unfolding answer_of rows_of snap_rows ledger_rows ledger_of volume_of beta_of blocks_needed
  snap_answer name =
      passing_admitted (snap_rows c name)
      ∙ rw (has_volume_lem c (snapshots_of (descriptors_of c)) name, volumes_length c (snapshots_of (descriptors_of c)), ← snap_named name)
      (snap_by _ _ _ _ _ _ (ap not p.sound))

  revert_own : (name : List ℕ) → first_row (revert_rows c name) ≡ first_row (ledger_rows (Revert name) (ledger_of c))
  unfolding revert_rows ledger_rows ledger_of
  revert_own name = rw (has_volume_lem c (snapshots_of (descriptors_of c)) name) (revert_by _ _ _ _ (ap not p.sound))

  pub revert_answer : (name : List ℕ) → answer_of (Revert name) c ≡ ledger_answer (Revert name) c
  unfolding answer_of rows_of blocks_needed
  revert_answer name = passing_admitted (revert_rows c name) ∙ revert_own name ∙ no_more (first_row (ledger_rows (Revert name) (ledger_of c)))

  chain_count : suc (length (snapshots_of (descriptors_of c))) ≡ length (descriptors_of c)
  chain_count =
      let ds = descriptors_of c in
      omega (arith, ap length (active_last c ds (chain_is (chain c) p.sound)), length-append (snapshots_of ds) (active_of ds ∷ []))

  list_own : (records : List Record) → first_row (list_rows c records) ≡ first_row (ledger_rows (Listing records) (ledger_of c))
  unfolding list_rows ledger_rows ledger_of
  list_own records = rw (volumes_length c (snapshots_of (descriptors_of c)), chain_count) (list_by _ _ _ (ap not p.sound))

  pub list_answer : (records : List Record) → answer_of (Listing records) c ≡ ledger_answer (Listing records) c
  unfolding answer_of rows_of blocks_needed
  list_answer records = passing_admitted (list_rows c records) ∙ list_own records ∙ no_more (first_row (ledger_rows (Listing records) (ledger_of c)))

  pub check_answer : answer_of Check c ≡ ledger_answer Check c
  unfolding CheckClaim ledger_rows first_row blocks_needed
  check_answer = (check_claim c).1 p ∙ no_more accepted

-- an answer that is `ledger_answer` has the place 0
place_by : (t : Bool) (a l : Answer) → l.place ≡ 0 → a ≡ pick t (answer 11 0) l → a.place ≡ 0
place_by true a l z h = ap (λ (x : Answer). x.place) h
place_by false a l z h = ap (λ (x : Answer). x.place) h ∙ z

pub answer_place : (k : Call) (c : List ℕ) → placeless (ledger_rows k (ledger_of c)) ≡ true → answer_of k c ≡ ledger_answer k c → (answer_of k c).place ≡ 0
answer_place k c h e =
    place_by (eqb (first_row (ledger_rows k (ledger_of c))).number 0 && ltb (block_count c) (beta_of c + blocks_needed k c)) (answer_of k c) (first_row (ledger_rows k (ledger_of c)))
    (placeless_first (ledger_rows k (ledger_of c)) h).0 e
