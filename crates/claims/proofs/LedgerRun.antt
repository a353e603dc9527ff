-- The ledger over whole lists of calls.
use mathlib.Core.Path.{◌≡◌, refl, sym, subst}
use mathlib.Core.Bool.{true, false}
use mathlib.Core.List.{List, [], ◌∷◌}
use Prim.Native.Nat.{ℕ, zero, suc, ◌<◌}
use native.Mathlib.Omega.{arith}
use lib.ListN.{length, take, drop, get_or}
use Rattle.blocks.specs.Pick.{pick}
use Rattle.blocks.specs.Bytes.{part, store_all}
use Rattle.blocks.proofs.BoolLaws.{no}
use Rattle.calls.specs.Call.{Target, Call, Read, SpanRead, Listing, Check, Block, Records}
use Rattle.calls.specs.declared.answer.Record.{Record}
use Rattle.calls.specs.Spans.{span_count, write_span_stores}
use Rattle.calls.specs.Check.{Passes}
use Rattle.calls.specs.Meaning.{answer_of}
use Rattle.calls.specs.Step.{step, after, is_accepted}
use Rattle.claims.specs.History.{Standing, more, is_format, formatted, formats}
use Rattle.claims.specs.Ledger.{Ledger, ledger_step, ledger_of, ledger_names, cell_read, run_read, ledger_change}
use Rattle.claims.specs.Claims.{ledger_after, record_names, first_ledger, LedgerStep, LedgerClaim, FormatClaim, FormatLedgerClaim}
use Rattle.claims.proofs.Runs.{standing_length, step_length}
use Rattle.claims.proofs.Format.{format_claim}
use Rattle.claims.proofs.LedgerFacts.{ledger_reads, ledger_spans, ledger_lists}
use Rattle.claims.proofs.LedgerAnswers.{ledger_number_lem, ledger_place, ledger_no_room}
use Rattle.claims.proofs.LedgerSnap.{ledger_snap}
use Rattle.claims.proofs.LedgerWrite.{ledger_write}
use Rattle.claims.proofs.LedgerSpan.{ledger_span}
use Rattle.changes.proofs.SpanSteps.{passed_at}
use Rattle.claims.specs.Kinds.{Kind}
use Rattle.claims.proofs.Changes.{stores_by, Allowed, to_format, to_leave, to_write, to_span, to_snap, to_revert}
use Rattle.claims.proofs.Steps.{step_cases}
use Rattle.claims.proofs.LedgerReopened.{ledger_revert}
use Rattle.changes.proofs.ReopenedRules.{passes_revert}
use Rattle.changes.proofs.SnappedRules.{passes_snap}
use Rattle.changes.proofs.WritePasses.{passes_write}

-- one call on a card that passes
module _ (c : List ℕ) (passing : Passes c) where
  pub passes_change : {x : Kind} → formats x ≡ false → Allowed c x → Passes (store_all c (stores_by x c))
  unfolding formats stores_by store_all write_span_stores
  passes_change f (to_format e) = no (sym f)
  passes_change f to_leave = passing
  passes_change f (to_write {l = l} {block = block} e) = passes_write c l block passing e
  passes_change f (to_span {o = o} {bytes = bytes} e) = (passed_at c o bytes e (span_count o bytes) (omega arith)).passes
  passes_change f (to_snap {name = name} e) = passes_snap c name passing e
  passes_change f (to_revert {name = name} e) = passes_revert c name passing e

  ledger_change_lem : {x : Kind} → formats x ≡ false → Allowed c x → ledger_of (store_all c (stores_by x c)) ≡ ledger_change x (ledger_of c)
  unfolding formats stores_by store_all ledger_change
  ledger_change_lem f (to_format e) = no (sym f)
  ledger_change_lem f to_leave = refl
  ledger_change_lem f (to_write {l = l} {block = block} e) = ledger_write c l block passing e
  ledger_change_lem f (to_span {o = o} {bytes = bytes} e) = ledger_span c o bytes e
  ledger_change_lem f (to_snap {name = name} e) = ledger_snap c name passing e
  ledger_change_lem f (to_revert {name = name} e) = ledger_revert c name passing e

  next_by : (k : Call) → is_format k c ≡ false → ledger_of (step k c).card ≡ pick (is_accepted (answer_of k c)) (ledger_step k (ledger_of c)) (ledger_of c)
  unfolding ledger_step
  next_by k f =
      step_cases k c (λ (t : List ℕ). ledger_of t ≡ pick (is_accepted (answer_of k c)) (ledger_step k (ledger_of c)) (ledger_of c)) (λ e. rw e) (λ e n a. rw e (ledger_change_lem n a)) f

  one_step : (k : Call) → is_format k c ≡ false → LedgerStep k c (ledger_of c)
  one_step k f =
      record {
        matches = refl;
        number = λ r. ledger_number_lem k c passing r;
        place = ledger_place k c passing;
        no_room = λ r. ledger_no_room k c passing r;
        reads = λ target name l block q e. reads_by k target name l block q e;
        spans = λ target name o bytes q e. spans_by k target name o bytes q e;
        lists = λ records q e. lists_by k records q e;
        passes = step_cases k c Passes (λ e. passing) (λ e n a. passes_change n a) f;
        next = next_by k f;
      }
    where
      reads_by : (k : Call) (target : Target) (name : List ℕ) (l : ℕ) (block : List ℕ) → k ≡ Read target name l block → is_accepted (answer_of k c) ≡ true → (step k c).outcome.lent ≡ Block (cell_read (ledger_of c) target name l)
      reads_by k target name l block q e = rw q (ledger_reads c passing target name l block (rw q at e))

      spans_by : (k : Call) (target : Target) (name : List ℕ) (o : ℕ) (bytes : List ℕ) → k ≡ SpanRead target name o bytes → is_accepted (answer_of k c) ≡ true
          → (step k c).outcome.lent ≡ Block (part (run_read (ledger_of c) target name) o (length bytes))
      spans_by k target name o bytes q e = rw q (ledger_spans c passing target name o bytes (rw q at e))

      lists_by : (k : Call) (records : List Record) → k ≡ Listing records → is_accepted (answer_of k c) ≡ true
          → (filled : List Record) × ((step k c).outcome.lent ≡ Records filled) × (record_names (length (ledger_names (ledger_of c))) filled ≡ ledger_names (ledger_of c)) × (drop (length (ledger_names (ledger_of c))) filled ≡ drop (length (ledger_names (ledger_of c))) records)
      lists_by k records q e = rw q (ledger_lists c passing records (rw q at e))

abbrev FollowsLedger : List ℕ → List Call → Ledger → Type 0
FollowsLedger c ks g =
    ((i : ℕ) → i < length ks → LedgerStep (get_or ks i Check) (after (take i ks) c) (ledger_after (take i ks) c g))
    × Passes (after ks c)
    × (ledger_of (after ks c) ≡ ledger_after ks c g)

whole_run : (ks : List Call) (c : List ℕ) (g : Ledger) → ledger_of c ≡ g → Passes c → Standing c ks → FollowsLedger c ks g
unfolding after ledger_after
whole_run [] c g q p s = (λ i l. absurd (omega arith), p, q)
whole_run (k ∷ ks) c g q p (more f b rest) =
    let one = one_step c p k f in
    let r = whole_run ks (step k c).card (pick (is_accepted (answer_of k c)) (ledger_step k g) g) (rw (← q) one.next) one.passes (standing_length c (step k c).card (sym (step_length k c)) ks rest) in
    (steps one r.0, r.1, r.2)
  where
    steps : LedgerStep k c (ledger_of c) → ((i : ℕ) → i < length ks → LedgerStep (get_or ks i Check) (after (take i ks) (step k c).card) (ledger_after (take i ks) (step k c).card (pick (is_accepted (answer_of k c)) (ledger_step k g) g)))
        → (i : ℕ) → i < length (k ∷ ks) → LedgerStep (get_or (k ∷ ks) i Check) (after (take i (k ∷ ks)) c) (ledger_after (take i (k ∷ ks)) c g)
    steps one later zero l = subst (λ (x : Ledger). LedgerStep k c x) q one
    steps one later (suc i) l = later i (omega arith)

pub ledger_claim : LedgerClaim
unfolding LedgerClaim
ledger_claim c ks p s = whole_run ks c (ledger_of c) refl p s

-- from a format
pub format_ledger_claim : FormatLedgerClaim
unfolding FormatLedgerClaim FormatClaim
format_ledger_claim area format can ks s =
    let f = format_claim area format can in
    whole_run ks (formatted area format) (first_ledger format) f.1 f.0 s
