-- Laws of a line on a sheet, as the code of each call asks them.
use mathlib.Core.Path.{◌≡◌, refl, sym, ap, ◌∙◌, subst}
use mathlib.Core.Bool.{Bool, true, false}
use mathlib.Core.List.{List, ◌++◌}
use Prim.Native.Nat.{ℕ, ◌*◌, ◌≤◌}
use native.Mathlib.Omega.{arith}
use lib.ListN.{length, take, drop, take-append-drop}
use Rattle.std.proofs.Common.{Option, None as none, Some as some, Result, Ok, Err, is_none}
use Rattle.std.proofs.lemmas.Result.{err_from_is_err_and}
use Rattle.std.specs.Option.{ok_or}
use Rattle.std.specs.Result.{IsErrAnd, result_ok}
use Rattle.blocks.specs.Pick.{pick}
use Rattle.calls.specs.declared.answer.Answer.{Answer}
use Rattle.calls.specs.declared.answer.Record.{Record}
use Rattle.calls.specs.declared.answer.Refusal.{Refusal}
use Rattle.calls.specs.declared.answer.Refusal.TheVariants.{BadLine}
use Rattle.calls.specs.Call.{Listing, Lent, Records, accepted, refused}
use Rattle.calls.specs.Step.{Done, step, is_accepted, done}
use Rattle.calls.specs.Listing.{record_count}
use Rattle.calls.proofs.StepLaws.{step_answer}
use Rattle.calls.proofs.ListingLaws.{list_room, list_count}
use Rattle.calls.proofs.ResultLaws.{refused_test}
use Rattle.cutter.specs.declared.line.SheetCall.{SheetCall}
use Rattle.sheet.specs.declared.run.Addition.{Addition}
use Rattle.sheet.specs.declared.run.Addition.TheVariants.{Nothing}
use Rattle.sheet.specs.State.{State}
use Rattle.sheet.specs.Sheet.{LineResult, left_by, added, card_of, with_card, call_of, blocks_of, addition_of, count_of, records_after, after_call, after_line}

abbrev pub line_result : Answer → ℕ → Addition → List Record → List ℕ → LineResult
line_result a blocks addition records area = record { ran = record { answer = a; blocks = blocks; addition = addition; records = records; ended = false }; area = area }

-- a call that was made on the first n blocks of the area: s is the sheet as the code sees its parts, and w as it was given
module _ (s w : State) (view : s ≡ w) (call : SheetCall) (lent : Lent) (card : List ℕ) where
  abbrev n : ℕ
  n = blocks_of call s.blocks

  abbrev Made : Answer → Type 0
  Made a = done a lent card ≡ step (call_of call s.records) (card_of s.area n)

  made_after : (a : Answer) → Made a
      → line_result a (pick (is_accepted a) n s.blocks) (pick (is_accepted a) (addition_of call lent (card_of s.area n)) Nothing) (records_after lent s.records) (with_card s.area n card) ≡ after_call s call
  unfolding after_call
  made_after a made =
      ap (λ (d : Done). line_result d.outcome.answer (pick (is_accepted d.outcome.answer) n s.blocks) (pick (is_accepted d.outcome.answer) (addition_of call d.outcome.lent (card_of s.area n)) Nothing)
      (records_after d.outcome.lent s.records) (with_card s.area n d.card)) made

  pub call_accepted : Made accepted → (addition : Addition) → addition ≡ addition_of call lent (card_of s.area n)
      → left_by (Ok addition) false (record { area = with_card s.area n card; blocks = n; records = records_after lent s.records }) ≡ after_call w call
  call_accepted made addition e = rw (e, ← view) (made_after accepted made)

  pub call_refused : (e : Refusal) → Made (refused e) → (q : Result Addition Refusal) → IsErrAnd q (λ (f : Refusal). f ≡ e)
      → left_by q false (record { area = with_card s.area n card; blocks = s.blocks; records = records_after lent s.records }) ≡ after_call w call
  call_refused e made q h =
      let f = err_from_is_err_and q h in
      rw (f.1, f.2, ← view)
      (ap (λ (b : Bool). line_result (refused e) (pick b n s.blocks) (pick b (addition_of call lent (card_of s.area n)) Nothing) (records_after lent s.records) (with_card s.area n card)) (sym (refused_test e))
      ∙ made_after (refused e) made)

-- a call on the card, which ends at byte `end`, and which stays as large as it is
module _ (s w : State) (view : s ≡ w) (end : ℕ) (size : end ≡ 512 * w.blocks) (call : SheetCall) (own : blocks_of call s.blocks ≡ s.blocks) (lent : Lent) (card : List ℕ) where
  ends : end ≡ 512 * blocks_of call s.blocks
  ends = size ∙ sym (ap (λ (t : State). 512 * t.blocks) view) ∙ ap (λ (b : ℕ). 512 * b) (sym own)

  pub card_accepted : done accepted lent card ≡ step (call_of call s.records) (take end s.area) → (addition : Addition) → addition ≡ addition_of call lent (take end s.area)
      → left_by (Ok addition) false (record { area = card ++ drop end s.area; blocks = s.blocks; records = records_after lent s.records }) ≡ after_call w call
  card_accepted made addition e = rw (← own, ends) (call_accepted s w view call lent card (rw ends at made) addition (rw ends at e))

  pub card_refused : (e : Refusal) → done (refused e) lent card ≡ step (call_of call s.records) (take end s.area) → (q : Result Addition Refusal) → IsErrAnd q (λ (f : Refusal). f ≡ e)
      → left_by q false (record { area = card ++ drop end s.area; blocks = s.blocks; records = records_after lent s.records }) ≡ after_call w call
  card_refused e made q h = rw ends (call_refused s w view call lent card e (rw ends at made) q h)

-- the same of a call that leaves the card as it is
module _ (s w : State) (view : s ≡ w) (call : SheetCall) (own : blocks_of call s.blocks ≡ s.blocks) (lent : Lent) (card : List ℕ) (is : card ≡ card_of s.area w.blocks) where
  whole : card ++ drop (512 * w.blocks) s.area ≡ s.area
  whole = ap (λ (c : List ℕ). c ++ drop (512 * w.blocks) s.area) is ∙ take-append-drop (512 * w.blocks) s.area

  pub kept_accepted : done accepted lent card ≡ step (call_of call s.records) card → (addition : Addition) → addition ≡ addition_of call lent card
      → left_by (Ok addition) false (record { area = s.area; blocks = s.blocks; records = records_after lent s.records }) ≡ after_call w call
  kept_accepted made addition e =
      ap (λ (a : List ℕ). left_by (Ok addition) false (record { area = a; blocks = s.blocks; records = records_after lent s.records })) (sym whole)
      ∙ card_accepted s w view (512 * w.blocks) refl call own lent card (made ∙ ap (step (call_of call s.records)) is) addition (e ∙ ap (addition_of call lent) is)

  pub kept_refused : (e : Refusal) → done (refused e) lent card ≡ step (call_of call s.records) card → (q : Result Addition Refusal) → IsErrAnd q (λ (f : Refusal). f ≡ e)
      → left_by q false (record { area = s.area; blocks = s.blocks; records = records_after lent s.records }) ≡ after_call w call
  kept_refused e made q h =
      ap (λ (a : List ℕ). left_by q false (record { area = a; blocks = s.blocks; records = records_after lent s.records })) (sym whole)
      ∙ card_refused s w view (512 * w.blocks) refl call own lent card e (made ∙ ap (step (call_of call s.records)) is) q h

-- what bounds the records that a call adds, where it is no listing
count_by : (b : Bool) (x : Addition) (m : ℕ) → count_of x ≤ m → count_of (pick b x Nothing) ≤ m
unfolding count_of
count_by true x m h = h
count_by false x m h = omega arith

pub count_plain : (s t : State) (call : SheetCall) → ((lent : Lent) (card : List ℕ) → count_of (addition_of call lent card) ≤ 64) → (q : Result Addition Refusal) → left_by q false t ≡ after_call s call → count_of (added q) ≤ 64
unfolding after_call
count_plain s t call h q e =
    let card = card_of s.area (blocks_of call s.blocks) in
    let d = step (call_of call s.records) card in
    subst (λ (a : LineResult). count_of a.ran.addition ≤ 64) (sym e) (count_by (is_accepted d.outcome.answer) (addition_of call d.outcome.lent card) 64 (h d.outcome.lent card))

pub count_refused : (q : Result Addition Refusal) (e : Refusal) → IsErrAnd q (λ (f : Refusal). f ≡ e) → count_of (added q) ≤ 64
unfolding count_of
count_refused (Ok a) e h = absurd h
count_refused (Err f) e h = omega arith

-- an accepted listing adds no more records than it was lent
pub count_listed : (card : List ℕ) (records filled : List Record) → done accepted (Records filled) card ≡ step (Listing records) card → length records ≡ 64 → record_count filled ≤ 64
count_listed card records filled made long =
    omega (arith, list_count card records filled accepted made refl, list_room card records (sym (ap is_accepted (step_answer (Listing records) card)) ∙ ap (λ (d : Done). is_accepted d.outcome.answer) (sym made)), long)

-- a line that is of the form is its call, by what `ok_or` gives
module _ (line : Option SheetCall) (r : Result SheetCall Refusal) (part : line ≡ result_ok r) where
  pub line_is : (x call : SheetCall) → r ≡ Ok x → x ≡ call → line ≡ some call
  line_is x call e f = part ∙ ap result_ok e ∙ ap (λ (c : SheetCall). some c) f

  pub line_malformed : (s : State) (number : ℕ) (e : Refusal) → r ≡ ok_or line (BadLine number) → r ≡ Err e → (q : Result Addition Refusal) → IsErrAnd q (λ (f : Refusal). f ≡ e) → left_by q (is_none line) s ≡ after_line s number line
  unfolding after_line
  line_malformed s number e value was q h = by line value
    where
      by : (l : Option SheetCall) → r ≡ ok_or l (BadLine number) → left_by q (is_none l) s ≡ after_line s number l
      by none v = let f = err_from_is_err_and q h in let z : ◌≡◌ {A = Result SheetCall Refusal} (Err (BadLine number)) (Err e) = sym v ∙ was in let y : BadLine number ≡ e = cc in rw (f.1, f.2, ← y)
      by (some c) v = let z : ◌≡◌ {A = Result SheetCall Refusal} (Ok c) (Err e) = sym v ∙ was in absurd cc

pub line_done : (s t : State) (number : ℕ) (line : Option SheetCall) (call : SheetCall) → line ≡ some call → (q : Result Addition Refusal) → left_by q false t ≡ after_call s call → left_by q (is_none line) t ≡ after_line s number line
unfolding after_line
line_done s t number line call is q e = rw is e
