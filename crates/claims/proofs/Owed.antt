-- What each call owes to the theorems about all calls, and that each has it: one clause for each call.
use mathlib.Core.Path.{◌≡◌, refl, sym}
use mathlib.Core.Logic.{◌↔◌}
use mathlib.Core.Bool.{true, false}
use mathlib.Core.List.{List, []}
use Prim.Native.Nat.{ℕ, ◌+◌, ◌<◌}
use native.Mathlib.Omega.{arith}
use lib.ListN.{length}
use borrow.Author.Tests.{ltb-true}
use Rattle.blocks.specs.Bytes.{block_count}
use Rattle.blocks.proofs.BoolLaws.{no}
use Rattle.calls.specs.Call.{Target, Call, Ream, Read, Write, Snap, Revert, Listing, Check, Visit, SpanRead, SpanWrite, answer}
use Rattle.calls.specs.declared.answer.Record.{Record}
use Rattle.calls.specs.Parts.{area_bad}
use Rattle.calls.specs.Check.{Passes}
use Rattle.calls.specs.Ladder.{admission, ream_rows, read_rows, write_rows, snap_rows, revert_rows, list_rows, check_rows, visit_rows, span_read_rows, span_write_rows}
use Rattle.calls.specs.Meaning.{meaning_of, rows_of, answer_of, stores_of, filled_of, given_of, lent_of}
use Rattle.calls.specs.Step.{is_accepted}
use Rattle.calls.proofs.RowLaws.{fresh, holds_of, rows_numbered, fresh_never, number_given, SameRows, placeless}
use Rattle.calls.proofs.Passed.{ream_passed, read_passed, visit_passed, write_passed, snap_passed, revert_passed, span_read_passed}
use Rattle.claims.specs.Kinds.{kind_of}
use Rattle.claims.specs.History.{beta_of, Agree, is_ream, is_format}
use Rattle.claims.specs.Ledger.{Ledger, ledger_rows}
use Rattle.chains.specs.Chained.{FirstUnsound}
use Rattle.claims.specs.Claims.{blocks_needed, lent_at_entry, fills, comes_to_chain}
use Rattle.claims.proofs.Agreement.{ream_rows_lem, read_rows_lem, write_rows_lem, snap_rows_lem, revert_rows_lem, list_rows_lem, check_rows_lem, visit_rows_lem, span_read_rows_lem, span_filled, read_filled, list_filled, visit_given_lem}
use Rattle.claims.proofs.Places.{ream_six, read_six, write_six, snap_six, revert_six, list_six, check_six, visit_six, span_read_six, span_write_six}
use Rattle.claims.proofs.AgreeChange.{span_write_rows_lem}
use Rattle.claims.proofs.CheckClaims.{span_allowed}
use Rattle.claims.proofs.Changes.{stores_by, Allowed, to_format, to_leave, to_write, to_span, to_snap, to_revert}
use Rattle.claims.proofs.LedgerFacts.{ledger_answer, read_answer, write_answer, snap_answer, revert_answer, list_answer, check_answer, visit_answer, span_read_answer, span_write_answer, ream_place, answer_place}
use Rattle.blocks.specs.declared.descriptor.Format.{Format}

pub record Owed (k : Call) : Type 0 where
  -- an accepted call makes the change of its kind, and the tests have shown what that asks
  pub stores : (c : List ℕ) → stores_of k c ≡ stores_by (kind_of k) c
  pub allowed : (c : List ℕ) → is_accepted (answer_of k c) ≡ true → Allowed c (kind_of k)
  -- whether it is an accepted format depends on the card's length alone
  pub format : (s t : List ℕ) → length s ≡ length t → is_format k s ≡ is_format k t
  -- what is lent to it is its own argument, and stays unless the call fills it
  pub lent : lent_of k ≡ lent_at_entry k
  pub unfilled : fills k ≡ false → (c : List ℕ) → filled_of k c ≡ lent_at_entry k
  -- 11 is given only where there is no room, 6 exactly where it comes to an unsound chain
  pub room : (c : List ℕ) → (answer_of k c).number ≡ 11 → block_count c < beta_of c + blocks_needed k c
  pub unsound : (c : List ℕ) (q : ℕ) → (answer_of k c ≡ answer 6 q) ↔ ((comes_to_chain k c ≡ true) × FirstUnsound c [] 0 q)
  -- on two cards that agree: the same rows after that of the area, as far as they decide, and the same in lent memory and in what is given
  pub rows : (s t : List ℕ) → Agree s t → area_bad s ≡ false → SameRows ((meaning_of k).rows s) ((meaning_of k).rows t)
  pub filled : (s t : List ℕ) → Agree s t → is_accepted (answer_of k s) ≡ true → filled_of k s ≡ filled_of k t
  pub given : (s t : List ℕ) → Agree s t → is_accepted (answer_of k s) ≡ true → given_of k s ≡ given_of k t
  -- on a card that passes: the answer is the ledger's or 11, with place 0
  pub ledger : (c : List ℕ) → Passes c → is_ream k ≡ false → answer_of k c ≡ ledger_answer k c
  pub plain : (g : Ledger) → placeless (ledger_rows k g) ≡ true
  pub place : (c : List ℕ) → Passes c → (answer_of k c).place ≡ 0

ream_owed : (format : Format) → Owed (Ream format)
unfolding stores_of stores_by kind_of is_format is_ream answer_of rows_of admission ream_rows area_bad block_count lent_of lent_at_entry filled_of given_of fresh ledger_rows placeless
ream_owed format =
    record {
      stores = λ c. refl;
      allowed = λ c e. to_format (ream_passed c format e);
      format = λ s t e. rw e;
      lent = refl;
      unfilled = λ q c. refl;
      room = λ c e. absurd (fresh_never (rows_of (Ream format) c) 11 refl (omega arith) e);
      unsound = λ c q. ream_six c q format;
      rows = λ s t g a. ream_rows_lem s t g format;
      filled = λ s t g e. refl;
      given = λ s t g e. refl;
      ledger = λ c p q. no (sym q);
      plain = λ g. refl;
      place = λ c p. ream_place c format;
    }

read_owed : (target : Target) (name : List ℕ) (l : ℕ) (block : List ℕ) → Owed (Read target name l block)
unfolding stores_of stores_by kind_of is_format is_ream answer_of rows_of admission read_rows lent_of lent_at_entry fills filled_of given_of fresh ledger_rows placeless
read_owed target name l block =
    record {
      stores = λ c. refl;
      allowed = λ c e. to_leave;
      format = λ s t e. refl;
      lent = refl;
      unfilled = λ q c. no (sym q);
      room = λ c e. absurd (fresh_never (rows_of (Read target name l block) c) 11 refl (omega arith) e);
      unsound = λ c q. read_six c q target name l block;
      rows = λ s t g a. read_rows_lem s t g target name l block;
      filled = λ s t g e. read_filled s t g target name l block (read_passed s target name l block e);
      given = λ s t g e. refl;
      ledger = λ c p q. read_answer c p target name l block;
      plain = λ g. refl;
      place = λ c p. answer_place (Read target name l block) c refl (read_answer c p target name l block);
    }

write_owed : (l : ℕ) (block : List ℕ) → Owed (Write l block)
unfolding stores_of stores_by kind_of is_format is_ream answer_of rows_of admission write_rows lent_of lent_at_entry filled_of given_of holds_of blocks_needed beta_of ledger_rows placeless
write_owed l block =
    record {
      stores = λ c. refl;
      allowed = λ c e. to_write (write_passed c l block e);
      format = λ s t e. refl;
      lent = refl;
      unfilled = λ q c. refl;
      room = λ c e. ltb-true _ _ (number_given (rows_of (Write l block) c) (rows_numbered (Write l block) c) 11 (omega arith) e);
      unsound = λ c q. write_six c q l block;
      rows = λ s t g a. write_rows_lem s t g l block;
      filled = λ s t g e. refl;
      given = λ s t g e. refl;
      ledger = λ c p q. write_answer c p l block;
      plain = λ g. refl;
      place = λ c p. answer_place (Write l block) c refl (write_answer c p l block);
    }

snap_owed : (name : List ℕ) → Owed (Snap name)
unfolding stores_of stores_by kind_of is_format is_ream answer_of rows_of admission snap_rows lent_of lent_at_entry filled_of given_of holds_of blocks_needed beta_of ledger_rows placeless
snap_owed name =
    record {
      stores = λ c. refl;
      allowed = λ c e. to_snap (snap_passed c name e);
      format = λ s t e. refl;
      lent = refl;
      unfilled = λ q c. refl;
      room = λ c e. ltb-true _ _ (number_given (rows_of (Snap name) c) (rows_numbered (Snap name) c) 11 (omega arith) e);
      unsound = λ c q. snap_six c q name;
      rows = λ s t g a. snap_rows_lem s t g name;
      filled = λ s t g e. refl;
      given = λ s t g e. refl;
      ledger = λ c p q. snap_answer c p name;
      plain = λ g. refl;
      place = λ c p. answer_place (Snap name) c refl (snap_answer c p name);
    }

revert_owed : (name : List ℕ) → Owed (Revert name)
unfolding stores_of stores_by kind_of is_format is_ream answer_of rows_of admission revert_rows lent_of lent_at_entry filled_of given_of fresh ledger_rows placeless
revert_owed name =
    record {
      stores = λ c. refl;
      allowed = λ c e. to_revert (revert_passed c name e);
      format = λ s t e. refl;
      lent = refl;
      unfilled = λ q c. refl;
      room = λ c e. absurd (fresh_never (rows_of (Revert name) c) 11 refl (omega arith) e);
      unsound = λ c q. revert_six c q name;
      rows = λ s t g a. revert_rows_lem s t g name;
      filled = λ s t g e. refl;
      given = λ s t g e. refl;
      ledger = λ c p q. revert_answer c p name;
      plain = λ g. refl;
      place = λ c p. answer_place (Revert name) c refl (revert_answer c p name);
    }

list_owed : (records : List Record) → Owed (Listing records)
unfolding stores_of stores_by kind_of is_format is_ream answer_of rows_of admission list_rows lent_of lent_at_entry fills filled_of given_of fresh ledger_rows placeless
list_owed records =
    record {
      stores = λ c. refl;
      allowed = λ c e. to_leave;
      format = λ s t e. refl;
      lent = refl;
      unfilled = λ q c. no (sym q);
      room = λ c e. absurd (fresh_never (rows_of (Listing records) c) 11 refl (omega arith) e);
      unsound = λ c q. list_six c q records;
      rows = λ s t g a. list_rows_lem s t g records;
      filled = λ s t g e. list_filled s t g records;
      given = λ s t g e. refl;
      ledger = λ c p q. list_answer c p records;
      plain = λ g. refl;
      place = λ c p. answer_place (Listing records) c refl (list_answer c p records);
    }

check_owed : Owed Check
unfolding stores_of stores_by kind_of is_format is_ream answer_of rows_of admission check_rows lent_of lent_at_entry filled_of given_of fresh ledger_rows placeless
check_owed =
    record {
      stores = λ c. refl;
      allowed = λ c e. to_leave;
      format = λ s t e. refl;
      lent = refl;
      unfilled = λ q c. refl;
      room = λ c e. absurd (fresh_never (rows_of Check c) 11 refl (omega arith) e);
      unsound = λ c q. check_six c q;
      rows = λ s t g a. check_rows_lem s t g;
      filled = λ s t g e. refl;
      given = λ s t g e. refl;
      ledger = λ c p q. check_answer c p;
      plain = λ g. refl;
      place = λ c p. answer_place Check c refl (check_answer c p);
    }

visit_owed : (target : Target) (name : List ℕ) (l : ℕ) → Owed (Visit target name l)
unfolding stores_of stores_by kind_of is_format is_ream answer_of rows_of admission visit_rows lent_of lent_at_entry filled_of fresh ledger_rows placeless
visit_owed target name l =
    record {
      stores = λ c. refl;
      allowed = λ c e. to_leave;
      format = λ s t e. refl;
      lent = refl;
      unfilled = λ q c. refl;
      room = λ c e. absurd (fresh_never (rows_of (Visit target name l) c) 11 refl (omega arith) e);
      unsound = λ c q. visit_six c q target name l;
      rows = λ s t g a. visit_rows_lem s t g target name l;
      filled = λ s t g e. refl;
      given = λ s t g e. visit_given_lem s t g target name l (visit_passed s target name l e);
      ledger = λ c p q. visit_answer c p target name l;
      plain = λ g. refl;
      place = λ c p. answer_place (Visit target name l) c refl (visit_answer c p target name l);
    }

span_read_owed : (target : Target) (name : List ℕ) (o : ℕ) (bytes : List ℕ) → Owed (SpanRead target name o bytes)
unfolding stores_of stores_by kind_of is_format is_ream answer_of rows_of admission span_read_rows lent_of lent_at_entry fills filled_of given_of fresh ledger_rows placeless
span_read_owed target name o bytes =
    record {
      stores = λ c. refl;
      allowed = λ c e. to_leave;
      format = λ s t e. refl;
      lent = refl;
      unfilled = λ q c. no (sym q);
      room = λ c e. absurd (fresh_never (rows_of (SpanRead target name o bytes) c) 11 refl (omega arith) e);
      unsound = λ c q. span_read_six c q target name o bytes;
      rows = λ s t g a. span_read_rows_lem s t g target name o bytes;
      filled = λ s t g e. span_filled s t g target name o bytes (span_read_passed s target name o bytes e);
      given = λ s t g e. refl;
      ledger = λ c p q. span_read_answer c p target name o bytes;
      plain = λ g. refl;
      place = λ c p. answer_place (SpanRead target name o bytes) c refl (span_read_answer c p target name o bytes);
    }

span_write_owed : (o : ℕ) (bytes : List ℕ) → Owed (SpanWrite o bytes)
unfolding stores_of stores_by kind_of is_format is_ream answer_of rows_of admission span_write_rows lent_of lent_at_entry filled_of given_of holds_of blocks_needed beta_of ledger_rows placeless
span_write_owed o bytes =
    record {
      stores = λ c. refl;
      allowed = λ c e. to_span (span_allowed c o bytes e);
      format = λ s t e. refl;
      lent = refl;
      unfilled = λ q c. refl;
      room = λ c e. ltb-true _ _ (number_given (rows_of (SpanWrite o bytes) c) (rows_numbered (SpanWrite o bytes) c) 11 (omega arith) e);
      unsound = λ c q. span_write_six c q o bytes;
      rows = λ s t g a. span_write_rows_lem s t g a o bytes;
      filled = λ s t g e. refl;
      given = λ s t g e. refl;
      ledger = λ c p q. span_write_answer c p o bytes;
      plain = λ g. refl;
      place = λ c p. answer_place (SpanWrite o bytes) c refl (span_write_answer c p o bytes);
    }

pub owed : (k : Call) → Owed k
owed (Ream format) = ream_owed format
owed (Read target name l block) = read_owed target name l block
owed (Write l block) = write_owed l block
owed (Snap name) = snap_owed name
owed (Revert name) = revert_owed name
owed (Listing records) = list_owed records
owed Check = check_owed
owed (Visit target name l) = visit_owed target name l
owed (SpanRead target name o bytes) = span_read_owed target name o bytes
owed (SpanWrite o bytes) = span_write_owed o bytes
