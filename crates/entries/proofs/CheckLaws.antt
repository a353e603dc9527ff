-- Laws that tie the check in code, with its flags, to the namings of a descriptor.
use mathlib.Core.Path.{◌≡◌, refl, sym, ap, ◌∙◌}
use mathlib.Core.Logic.{◌⊎◌, inl, inr}
use mathlib.Core.Bool.{Bool, true, false, not, ◌&&◌, ◌||◌}
use mathlib.Core.List.{List, [], ◌∷◌, ◌++◌}
use Prim.Native.Nat.{ℕ, zero, suc, min, ◌+◌, ◌*◌, ◌-◌, ◌≤◌, ◌<◌}
use native.Mathlib.Numerals.{add-one}
use native.Mathlib.Nat.{add_assoc, add-zero, zero-add, add-suc, suc-add}
use native.Mathlib.Omega.{arith}
use lib.ListN.{length, get_or, set, length-set}
use lib.Seq.{get_or-set_same, get_or-set_other, drop-cons}
use lib.Dec.{eqb, ltb, leb}
use borrow.Author.Tests.{eq-eqb, ne_eqb, lt-ltb, le-ltb, le-leb, lt-leb, eqb-true, eqb-false, ltb-true, ltb-false, leb-true, not-true, not-false}
use Rattle.blocks.specs.Pick.{pick, all_zero}
use Rattle.blocks.specs.Bytes.{u32_at, part}
use Rattle.blocks.specs.Descriptor.{physical, table_count}
use Rattle.blocks.specs.declared.numbers.Physical.{Physical}
use Rattle.blocks.specs.declared.descriptor.Descriptor.{Descriptor}
use Rattle.blocks.proofs.BoolLaws.{no, or_false_left, or_false_right, or_true, and_true, and_false}
use Rattle.blocks.proofs.Tests.{and_left, and_right}
use Rattle.entries.specs.InPlace.{is_descriptor, is_table, is_in_place}
use Rattle.entries.specs.Entry.{entry_at, phi_at, table_of}
use Rattle.entries.specs.Naming.{Naming, among, at_fault, table_namings, entry_namings, tables_namings, phi_namings, first_fault}
use Rattle.entries.specs.Marks.{is_flagged, takes, taking, Marks, limit_of, Taken, taking_all, named_in_table, TableReady, EntriesReady, TablesReady, PhiReady}
use Rattle.entries.proofs.MarkLaws.{takes_below, takes_free, taking_refused, length_taking}
use Rattle.std.specs.Prelude.{Result, ⊤}
use Rattle.std.specs.Result.{IsErrAnd}
use Rattle.std.proofs.lemmas.Result.{err_from_is_err_and}
use Rattle.entries.specs.declared.find.Misplaced.{Misplaced as MisplacedEntry}
use Rattle.entries.specs.Found.{Verdict, Passed, Fault, verdict_as}

-- one entry, as tests: z nil, b below beta, o in an opening, k counted, a named before, f against the rule on old tables, t below the limit, s flagged
module _ (b o a f t s : Bool) (lower : t ≡ true → b ≡ true) (rule : b ≡ true → f ≡ not t) where
  -- a set entry that is taken is not at fault
  set_taken : (k : Bool) → (t ≡ true → s ≡ (o || a)) → (k && t && not s) ≡ true → (not (b && not o) || (not k || a) || f) ≡ false
  set_taken false flags e = no e
  set_taken true flags e = by t refl e
    where
      by : (t' : Bool) → t ≡ t' → (t && not s) ≡ true → (not (b && not o) || (not true || a) || f) ≡ false
      by true q h =
          let s_is : s ≡ false = not-true s (rw q at h) in
          let oa : (o || a) ≡ false = sym (flags q) ∙ s_is in
          rw (lower q, or_false_left o a oa, or_false_right o a oa, rule (lower q), q)
      by false q h = no (rw q at h)

  -- one that is not taken is at fault
  set_refused : (k : Bool) → (t ≡ true → s ≡ (o || a)) → (k && t && not s) ≡ false → (not (b && not o) || (not k || a) || f) ≡ true
  set_refused false flags e = rw (or_true (not (b && not o)))
  set_refused true flags e = by t b o refl refl refl
    where
      by : (t' b' o' : Bool) → t ≡ t' → b ≡ b' → o ≡ o' → (not (b && not o) || (not true || a) || f) ≡ true
      by t' false o' qt qb qo = rw qb
      by t' true true qt qb qo = rw (qb, qo)
      by true true false qt qb qo =
          let s_is : s ≡ true = not-false s (rw qt at e) in
          let a_is : a ≡ true = sym (rw qo at (flags qt)) ∙ s_is in
          rw (qb, qo, a_is)
      by false true false qt qb qo = rw (rule qb, qt, or_true (not (b && not o) || (not true || a)))

-- an entry of value v in block holder, after the values named before, with flags that say which blocks may not be named any more
module _ (ds : List Descriptor) (d : Descriptor) (holder v : ℕ) (counted phi : Bool) (limit : ℕ) (before : List ℕ) (turn : ℕ) (seen : List ℕ) (marks : Marks ds turn seen before) (low : limit ≤ d.beta.0) (long : d.beta.0 ≤ length seen) where
  abbrev entry : Naming
  entry = record { holder = holder; value = v; counted = counted; phi = phi }

  abbrev old_table : Bool
  old_table = eqb d.layout 2 && not phi && leb d.alpha.0 v && ltb holder d.alpha.0

  module _ (rule : v < d.beta.0 → old_table ≡ not (ltb v limit)) (nil : v ≡ 0 → old_table ≡ false) where
    lower : ltb v limit ≡ true → ltb v d.beta.0 ≡ true
    lower e = lt-ltb v d.beta.0 (omega (arith, ltb-true v limit e))

    flags : (v ≡ 0 → ⊥) → ltb v limit ≡ true → is_flagged seen turn v ≡ ((is_descriptor ds v || is_table ds v) || among before v)
    flags n e = marks.says v (omega (arith, ltb-true v limit e)) n

    fault_nil : v ≡ 0 → at_fault ds d before entry ≡ false
    unfolding at_fault is_in_place
    fault_nil e = rw (eq-eqb v 0 e, nil e)

    fault_set : (v ≡ 0 → ⊥) → at_fault ds d before entry ≡ (not (ltb v d.beta.0 && not (is_descriptor ds v || is_table ds v)) || (not counted || among before v) || old_table)
    unfolding at_fault is_in_place
    fault_set n = rw (ne_eqb v 0 n)

    taken_by : (z : Bool) → eqb v 0 ≡ z → takes seen turn limit counted v ≡ true → at_fault ds d before entry ≡ false
    unfolding takes
    taken_by true e h = fault_nil (eqb-true v 0 e)
    taken_by false e h =
        let n = eqb-false v 0 e in
        fault_set n
        ∙ set_taken (ltb v d.beta.0) (is_descriptor ds v || is_table ds v) (among before v) old_table (ltb v limit) (is_flagged seen turn v) lower (λ b. rule (ltb-true v d.beta.0 b)) counted (flags n) (rw e at h)

    pub entry_taken : takes seen turn limit counted v ≡ true → at_fault ds d before entry ≡ false
    entry_taken h = taken_by (eqb v 0) refl h

    refused_by : (z : Bool) → eqb v 0 ≡ z → takes seen turn limit counted v ≡ false → at_fault ds d before entry ≡ true
    unfolding takes
    refused_by true e h = no (sym (rw e at h))
    refused_by false e h =
        let n = eqb-false v 0 e in
        fault_set n
        ∙ set_refused (ltb v d.beta.0) (is_descriptor ds v || is_table ds v) (among before v) old_table (ltb v limit) (is_flagged seen turn v) lower (λ b. rule (ltb-true v d.beta.0 b)) counted (flags n) (rw e at h)

    pub entry_refused : takes seen turn limit counted v ≡ false → at_fault ds d before entry ≡ true
    entry_refused h = refused_by (eqb v 0) refl h

  -- the flags after it
  among_other : (w : ℕ) → (w ≡ v → ⊥) → among (v ∷ before) w ≡ among before w
  unfolding among
  among_other w n = rw (ne_eqb v w (λ e. n (sym e)))

  among_same : among (v ∷ before) v ≡ true
  unfolding among
  among_same = rw (eq-eqb v v refl)

  -- a flag of the turn, on a block that had none
  module _ (free : takes seen turn limit counted v ≡ true) (n : v ≡ 0 → ⊥) where
    in_range : v < length seen
    in_range = omega (arith, takes_below seen turn limit counted v free n)

    not_opened : (is_descriptor ds v || is_table ds v) ≡ false
    not_opened = or_false_left (is_descriptor ds v || is_table ds v) (among before v) (sym (marks.says v in_range n) ∙ takes_free seen turn limit counted v free n)

    flag_same : (w : ℕ) → w ≡ v → get_or (set seen v turn) w 0 ≡ turn
    flag_same w q = rw q (get_or-set_same seen v turn 0 in_range)

    module _ (w : ℕ) (m : w < length seen) (k : w ≡ 0 → ⊥) where
      says_at : (t : Bool) → eqb w v ≡ t → is_flagged (set seen v turn) turn w ≡ ((is_descriptor ds w || is_table ds w) || among (v ∷ before) w)
      says_at true e =
          let q = eqb-true w v e in
          ap (λ (x : ℕ). leb turn x) (flag_same w q) ∙ le-leb turn turn (omega arith) ∙ rw (q, among_same) (sym (or_true (is_descriptor ds v || is_table ds v)))
      says_at false e =
          let q = eqb-false w v e in
          ap (λ (x : ℕ). leb turn x) (get_or-set_other seen v w turn 0 q) ∙ marks.says w m k ∙ ap (λ (x : Bool). (is_descriptor ds w || is_table ds w) || x) (sym (among_other w q))

      opening_at : (t : Bool) → eqb w v ≡ t → (is_descriptor ds w || is_table ds w) ≡ true → get_or (set seen v turn) w 0 ≡ 255
      opening_at true e o = let q = eqb-true w v e in no (sym not_opened ∙ rw q at o)
      opening_at false e o = get_or-set_other seen v w turn 0 (eqb-false w v e) ∙ marks.opening w m k o

      other_at : (t : Bool) → eqb w v ≡ t → (is_descriptor ds w || is_table ds w) ≡ false → get_or (set seen v turn) w 0 ≤ turn
      other_at true e o = omega (arith, flag_same w (eqb-true w v e))
      other_at false e o = omega (arith, get_or-set_other seen v w turn 0 (eqb-false w v e), marks.other w m k o)

  marks_by : (z : Bool) → eqb v 0 ≡ z → takes seen turn limit counted v ≡ true → Marks ds turn (taking seen turn limit counted v) (v ∷ before)
  unfolding taking
  marks_by true e h =
      rw e
      record {
        says = λ w m k. marks.says w m k ∙ ap (λ (x : Bool). (is_descriptor ds w || is_table ds w) || x) (sym (among_other w (λ q. k (q ∙ eqb-true v 0 e))));
        opening = marks.opening;
        other = marks.other;
      }
  marks_by false e h =
      let n = eqb-false v 0 e in
      let l = length-set seen v turn in
      rw (e, h)
      record {
        says = λ w m k. says_at h n w (omega arith) k (eqb w v) refl;
        opening = λ w m k o. opening_at h n w (omega arith) k (eqb w v) refl o;
        other = λ w m k o. other_at h n w (omega arith) k (eqb w v) refl o;
      }

  pub marks_taken : takes seen turn limit counted v ≡ true → Marks ds turn (taking seen turn limit counted v) (v ∷ before)
  marks_taken h = marks_by (eqb v 0) refl h

-- the limit of an entry that block m holds: alpha where m is an old table, else beta
limit_to : (d : Descriptor) → d.alpha.0 ≤ d.beta.0 → (t : Bool) → pick t d.alpha.0 d.beta.0 ≤ d.beta.0
limit_to d rising true = rising
limit_to d rising false = omega arith

module _ (d : Descriptor) (m v : ℕ) (own : (d.layout ≡ 2) ⊎ (d.alpha.0 ≤ m)) where
  abbrev limit_for : Bool → ℕ
  limit_for phi = pick (not phi && ltb m d.alpha.0) d.alpha.0 d.beta.0

  abbrev old : Bool → Bool
  old phi = eqb d.layout 2 && not phi && leb d.alpha.0 v && ltb m d.alpha.0

  above : (t : Bool) → ltb v d.alpha.0 ≡ t → leb d.alpha.0 v ≡ not t
  above true e = lt-leb d.alpha.0 v (ltb-true v d.alpha.0 e)
  above false e = le-leb d.alpha.0 v (ltb-false v d.alpha.0 e)

  rule_old : m < d.alpha.0 → (d.layout ≡ 2) ⊎ (d.alpha.0 ≤ m) → old false ≡ not (ltb v (limit_for false))
  rule_old h (inl e) = rw (lt-ltb m d.alpha.0 h, eq-eqb d.layout 2 e, above (ltb v d.alpha.0) refl) (and_true (not (ltb v d.alpha.0)))
  rule_old h (inr l) = absurd (omega arith)

  rule_own : d.alpha.0 ≤ m → v < d.beta.0 → old false ≡ not (ltb v (limit_for false))
  rule_own h l = rw (le-ltb m d.alpha.0 h, lt-ltb v d.beta.0 l, and_false (eqb d.layout 2 && not false && leb d.alpha.0 v))

  rule_by : (t : Bool) → ltb m d.alpha.0 ≡ t → v < d.beta.0 → old false ≡ not (ltb v (limit_for false))
  rule_by true e l = rule_old (ltb-true m d.alpha.0 e) own
  rule_by false e l = rule_own (ltb-false m d.alpha.0 e) l

  nil_by : (t : Bool) → leb d.alpha.0 v ≡ t → v ≡ 0 → old false ≡ false
  nil_by true e z =
      rw (le-ltb m d.alpha.0 (omega (arith, leb-true d.alpha.0 v e)), and_false (eqb d.layout 2 && not false && leb d.alpha.0 v))
  nil_by false e z = rw (e, and_false (eqb d.layout 2 && not false))

  -- an entry of Phi is of no table
  old_phi : old true ≡ false
  old_phi = rw (and_false (eqb d.layout 2))

  entry_rule : (phi : Bool) → v < d.beta.0 → old phi ≡ not (ltb v (limit_for phi))
  entry_rule true l = rw (lt-ltb v d.beta.0 l) old_phi
  entry_rule false l = rule_by (ltb m d.alpha.0) refl l

  entry_nil : (phi : Bool) → v ≡ 0 → old phi ≡ false
  entry_nil true z = old_phi
  entry_nil false z = nil_by (leb d.alpha.0 v) refl z

-- the first fault of a list, by its first entry
module _ (ds : List Descriptor) (d : Descriptor) (before : List ℕ) (e : Naming) (es : List Naming) where
  pub fault_later : at_fault ds d before e ≡ false → first_fault ds d before (e ∷ es) ≡ first_fault ds d (e.value ∷ before) es
  unfolding first_fault
  fault_later h = rw h

  pub fault_here : at_fault ds d before e ≡ true → first_fault ds d before (e ∷ es) ≡ Fault (physical e.holder)
  unfolding first_fault
  fault_here h = rw h

-- the walk, by its first entry
module _ (d : Descriptor) (turn : ℕ) (seen : List ℕ) (e : Naming) (es : List Naming) where
  taking_first : takes seen turn (limit_of d e) e.counted e.value ≡ true → taking_all d turn seen (e ∷ es) ≡ taking_all d turn (taking seen turn (limit_of d e) e.counted e.value) es
  unfolding taking_all
  taking_first h = rw h

  taking_stop : takes seen turn (limit_of d e) e.counted e.value ≡ false → taking_all d turn seen (e ∷ es) ≡ record { verdict = Fault (physical e.holder); flags = seen }
  unfolding taking_all
  taking_stop h = rw h

-- the walk keeps the length of the flags
length_by : (n : ℕ) (some stop : Taken) (t : Bool) → length some.flags ≡ n → length stop.flags ≡ n → length (pick t some stop).flags ≡ n
length_by n some stop true e f = e
length_by n some stop false e f = f

pub taking_length : (d : Descriptor) (turn : ℕ) (es : List Naming) (seen : List ℕ) → length (taking_all d turn seen es).flags ≡ length seen
unfolding taking_all
taking_length d turn [] seen = refl
taking_length d turn (e ∷ es) seen =
    let next = taking seen turn (limit_of d e) e.counted e.value in
    length_by (length seen) (taking_all d turn next es) (record { verdict = Fault (physical e.holder); flags = seen }) (takes seen turn (limit_of d e) e.counted e.value)
    (taking_length d turn es next ∙ length_taking seen turn (limit_of d e) e.counted e.value) refl

-- a fault that `?` passes on
pub fault_on : (r : Result ⊤ MisplacedEntry) (e : MisplacedEntry) → IsErrAnd r (λ (f : MisplacedEntry). f ≡ e) → verdict_as r ≡ Fault e.0
fault_on r e h = let f = err_from_is_err_and r h in ap verdict_as f.1 ∙ ap (λ (x : MisplacedEntry). Fault x.0) f.2

-- a fault is no pass
not_passed : {A : Type 0} (h : Physical) → Fault h ≡ Passed → A
not_passed h e = let z : ◌≡◌ {A = ℕ} 0 1 = cc in absurd (omega arith)

-- the walk over two lists: that over the second starts from the flags that the first left, and is not made after a fault
module _ (d : Descriptor) (turn : ℕ) (ys : List Naming) where
  onward : Verdict → List ℕ → Taken
  onward Passed seen = taking_all d turn seen ys
  onward (Fault h) seen = record { verdict = Fault h; flags = seen }

  append_by : (all some : Taken) (h : Physical) (seen : List ℕ) (t : Bool) → all ≡ onward some.verdict some.flags → pick t all (record { verdict = Fault h; flags = seen }) ≡ onward (pick t some (record { verdict = Fault h; flags = seen })).verdict (pick t some (record { verdict = Fault h; flags = seen })).flags
  unfolding onward
  append_by all some h seen true e = e
  append_by all some h seen false e = refl

  taking_append : (xs : List Naming) (seen : List ℕ) → taking_all d turn seen (xs ++ ys) ≡ onward (taking_all d turn seen xs).verdict (taking_all d turn seen xs).flags
  unfolding taking_all onward
  taking_append [] seen = refl
  taking_append (e ∷ xs) seen =
      let next = taking seen turn (limit_of d e) e.counted e.value in
      append_by (taking_all d turn next (xs ++ ys)) (taking_all d turn next xs) (physical e.holder) seen (takes seen turn (limit_of d e) e.counted e.value) (taking_append xs next)

  -- the first passed, or has a fault
  module _ (xs : List Naming) (w : Taken) (seen : List ℕ) (walk : w ≡ taking_all d turn seen (xs ++ ys)) (seen' : List ℕ) where
    walk_more : record { verdict = Passed; flags = seen' } ≡ taking_all d turn seen xs → w ≡ taking_all d turn seen' ys
    unfolding onward
    walk_more took = walk ∙ taking_append xs seen ∙ ap (λ (t : Taken). onward t.verdict t.flags) (sym took)

    walk_stop : (h : Physical) → record { verdict = Fault h; flags = seen' } ≡ taking_all d turn seen xs → record { verdict = Fault h; flags = seen' } ≡ w
    unfolding onward
    walk_stop h took = sym (walk ∙ taking_append xs seen ∙ ap (λ (t : Taken). onward t.verdict t.flags) (sym took))

-- the walk over an entry and those after it, as the code makes it: b says whether the entry is taken
module _ (d : Descriptor) (turn : ℕ) (seen : List ℕ) (e : Naming) (es : List Naming) (w : Taken) (walk : w ≡ taking_all d turn seen (e ∷ es)) (b : Bool) (seen' : List ℕ)
    (took : (b ≡ takes seen turn (limit_of d e) e.counted e.value) × (seen' ≡ taking seen turn (limit_of d e) e.counted e.value)) where
  entry_more : b ≡ true → w ≡ taking_all d turn seen' es
  entry_more t = rw took.1 (walk ∙ taking_first d turn seen e es (sym took.0 ∙ t))

  entry_stop : b ≡ false → record { verdict = Fault (physical e.holder); flags = seen' } ≡ w
  entry_stop t =
      let f : takes seen turn (limit_of d e) e.counted e.value ≡ false = sym took.0 ∙ t in
      rw (took.1, taking_refused seen turn (limit_of d e) e.counted e.value f) (sym (walk ∙ taking_stop d turn seen e es f))

-- whether the blocks that hold some entries are at or above alpha
pub above_all : ℕ → List Naming → Bool
above_all alpha [] = true
above_all alpha (e ∷ es) = leb alpha e.holder && above_all alpha es

-- the walk with flags finds the first fault, and where it passes its flags say what was named; in layout 1 no table may be an old one
module _ (ds : List Descriptor) (d : Descriptor) (turn : ℕ) (rising : d.alpha.0 ≤ d.beta.0) where
  abbrev pub Agrees : List ℕ → List ℕ → List Naming → Type 0
  Agrees seen before es =
      ((taking_all d turn seen es).verdict ≡ first_fault ds d before es)
      × ((taking_all d turn seen es).verdict ≡ Passed → (after : List ℕ) × Marks ds turn (taking_all d turn seen es).flags after)

  module _ (e : Naming) (es : List Naming) (seen before : List ℕ) (own : (d.layout ≡ 2) ⊎ (d.alpha.0 ≤ e.holder)) (long : d.beta.0 ≤ length seen) (marks : Marks ds turn seen before) where
    abbrev next : List ℕ
    next = taking seen turn (limit_of d e) e.counted e.value

    low : limit_of d e ≤ d.beta.0
    unfolding limit_of
    low = limit_to d rising (not e.phi && ltb e.holder d.alpha.0)

    rule : e.value < d.beta.0 → old d e.holder e.value own e.phi ≡ not (ltb e.value (limit_of d e))
    unfolding limit_of
    rule = entry_rule d e.holder e.value own e.phi

    agrees_by : (d.beta.0 ≤ length next → Marks ds turn next (e.value ∷ before) → Agrees next (e.value ∷ before) es)
        → (t : Bool) → takes seen turn (limit_of d e) e.counted e.value ≡ t → Agrees seen before (e ∷ es)
    agrees_by rest true q =
        let f = entry_taken ds d e.holder e.value e.counted e.phi (limit_of d e) before turn seen marks low long rule (entry_nil d e.holder e.value own e.phi) q in
        rw (taking_first d turn seen e es q, fault_later ds d before e es f)
        (rest (omega (arith, length_taking seen turn (limit_of d e) e.counted e.value))
        (marks_taken ds d e.holder e.value e.counted e.phi (limit_of d e) before turn seen marks low long q))
    agrees_by rest false q =
        let f = entry_refused ds d e.holder e.value e.counted e.phi (limit_of d e) before turn seen marks low long rule (entry_nil d e.holder e.value own e.phi) q in
        rw (taking_stop d turn seen e es q, fault_here ds d before e es f) (refl, λ p. not_passed (physical e.holder) p)

  own_first : (e : Naming) (es : List Naming) → (d.layout ≡ 2) ⊎ (above_all d.alpha.0 (e ∷ es) ≡ true) → ((d.layout ≡ 2) ⊎ (d.alpha.0 ≤ e.holder)) × ((d.layout ≡ 2) ⊎ (above_all d.alpha.0 es ≡ true))
  unfolding above_all
  own_first e es (inl l) = (inl l, inl l)
  own_first e es (inr h) =
      (inr (leb-true d.alpha.0 e.holder (and_left (leb d.alpha.0 e.holder) (above_all d.alpha.0 es) h)), inr (and_right (leb d.alpha.0 e.holder) (above_all d.alpha.0 es) h))

  pub taking_agrees : (es : List Naming) → (d.layout ≡ 2) ⊎ (above_all d.alpha.0 es ≡ true) → (seen before : List ℕ) → d.beta.0 ≤ length seen → Marks ds turn seen before → Agrees seen before es
  unfolding taking_all first_fault
  taking_agrees [] own seen before long marks = (refl, λ p. (before, marks))
  taking_agrees (e ∷ es) own seen before long marks =
      let o = own_first e es own in
      let next = taking seen turn (limit_of d e) e.counted e.value in
      agrees_by e es seen before o.0 long marks (taking_agrees es o.1 next (e.value ∷ before)) (takes seen turn (limit_of d e) e.counted e.value) refl

-- the tables of a layout 1 descriptor are above it
above_table : (c : List ℕ) (d : Descriptor) (i m : ℕ) → d.alpha.0 ≤ m → (k j : ℕ) (rest : List Naming) → above_all d.alpha.0 rest ≡ true → above_all d.alpha.0 (table_namings c d i m k j ++ rest) ≡ true
unfolding above_all table_namings
above_table c d i m h zero j rest e = e
above_table c d i m h (suc k) j rest e = rw (le-leb d.alpha.0 m h) (above_table c d i m h k (suc j) rest e)

pub above_tables : (c : List ℕ) (d : Descriptor) → d.layout ≡ 1 → (k i : ℕ) → above_all d.alpha.0 (tables_namings c d k i) ≡ true
unfolding above_all tables_namings table_of
above_tables c d e zero i = refl
above_tables c d e (suc k) i =
    let q : table_of c d i ≡ d.alpha.0 + 1 + i = rw (eq-eqb d.layout 1 e) in
    above_table c d i (table_of c d i) (omega arith) 128 0 (tables_namings c d k (suc i)) (above_tables c d e k (suc i))

-- what the walk over the entries of a table needs
pub table_ready : (c : List ℕ) (d : Descriptor) (i m : ℕ) (seen : List ℕ) → TableReady c d i m seen → EntriesReady c d m seen
table_ready c d i m seen ready = record { on_card = ready.on_card; flags = ready.flags; rising = ready.rising }

-- some entries of table block m, and those after them
entries_join : (c : List ℕ) (m left : ℕ) (n k j : ℕ) → entry_namings c m left (n + k) j ≡ entry_namings c m left n j ++ entry_namings c m left k (j + n)
unfolding entry_namings
entries_join c m left zero k j = rw (zero-add k, add-zero j)
entries_join c m left (suc n) k j = rw (suc-add n k, entries_join c m left n k (suc j), suc-add j n, add-suc j n)

-- the walk over the entries of table block m from entry j up to entry n, all counted, as the code makes it
module _ (c : List ℕ) (d : Descriptor) (turn m n : ℕ) (w : Taken) (seen : List ℕ) (j : ℕ) (walk : w ≡ taking_all d turn seen (entry_namings c m 128 (n - j) j)) where
  pub entries_end : n ≤ j → record { verdict = Passed; flags = seen } ≡ w
  unfolding taking_all entry_namings
  entries_end h = let none : n - j ≡ zero = omega arith in sym (rw none at walk)

  module _ (more : j < n) (few : n ≤ 128) (limit v : Physical) (limit_is : limit ≡ physical (pick (ltb m d.alpha.0) d.alpha.0 d.beta.0)) (v_is : v ≡ physical (entry_at c m j)) (b : Bool) (seen' : List ℕ)
      (took : (b ≡ takes seen turn limit.0 true v.0) × (seen' ≡ taking seen turn limit.0 true v.0)) where
    abbrev entry_here : Naming
    entry_here = record { holder = m; value = entry_at c m j; counted = true; phi = false }

    abbrev entries_later : List Naming
    entries_later = entry_namings c m 128 (n - (j + 1)) (j + 1)

    entries_split : w ≡ taking_all d turn seen (entry_here ∷ entries_later)
    unfolding entry_namings
    entries_split =
        let e : n - j ≡ suc (n - (j + 1)) = omega arith in
        let next : j + 1 ≡ suc j = add-one j in
        let counted : ltb j 128 ≡ true = lt-ltb j 128 (omega arith) in
        walk ∙ ap (taking_all d turn seen) (rw (e, counted, next))

    entry_took : (b ≡ takes seen turn (limit_of d entry_here) true (entry_at c m j)) × (seen' ≡ taking seen turn (limit_of d entry_here) true (entry_at c m j))
    unfolding limit_of
    entry_took = rw (limit_is, v_is) at took

    pub entries_more : b ≡ true → w ≡ taking_all d turn seen' entries_later
    entries_more = entry_more d turn seen entry_here entries_later w entries_split b seen' entry_took

    pub entries_stop : b ≡ false → record { verdict = Fault (physical m); flags = seen' } ≡ w
    entries_stop = entry_stop d turn seen entry_here entries_later w entries_split b seen' entry_took

  -- a run of them, up to entry i
  module _ (i : ℕ) (low : j ≤ i) (high : i ≤ n) (seen' : List ℕ) where
    abbrev run : List Naming
    run = entry_namings c m 128 (i - j) j

    abbrev run_later : List Naming
    run_later = entry_namings c m 128 (n - i) i

    run_split : w ≡ taking_all d turn seen (run ++ run_later)
    run_split =
        let e : n - j ≡ i - j + (n - i) = omega arith in
        let f : j + (i - j) ≡ i = omega arith in
        walk ∙ ap (taking_all d turn seen) (rw e (entries_join c m 128 (i - j) (n - i) j ∙ rw f))

    pub run_more : record { verdict = Passed; flags = seen' } ≡ taking_all d turn seen run → w ≡ taking_all d turn seen' run_later
    run_more = walk_more d turn run_later run w seen run_split seen'

    pub run_stop : (h : Physical) → record { verdict = Fault h; flags = seen' } ≡ taking_all d turn seen run → record { verdict = Fault h; flags = seen' } ≡ w
    run_stop = walk_stop d turn run_later run w seen run_split seen'

-- entries before left are counted, as all 128 are in a full table
pub entries_counted : (c : List ℕ) (m left : ℕ) (k j : ℕ) → j + k ≤ left → j + k ≤ 128 → entry_namings c m left k j ≡ entry_namings c m 128 k j
unfolding entry_namings
entries_counted c m left zero j h l = refl
entries_counted c m left (suc k) j h l = rw (lt-ltb j left (omega arith), lt-ltb j 128 (omega arith), entries_counted c m left k (suc j) (omega arith) (omega arith))

-- a table block that may be nil
module _ (c : List ℕ) (d : Descriptor) (turn i m : ℕ) (seen : List ℕ) where
  pub named_nil : m ≡ 0 → record { verdict = Passed; flags = seen } ≡ taking_all d turn seen (named_in_table c d i m)
  unfolding named_in_table taking_all
  named_nil e = rw (eq-eqb m 0 e)

  pub named_table : (w : Taken) → (m ≡ 0 → ⊥) → w ≡ taking_all d turn seen (table_namings c d i m 128 0) → w ≡ taking_all d turn seen (named_in_table c d i m)
  unfolding named_in_table
  named_table w n e = rw (ne_eqb m 0 n) e

-- the namings that are left, table by table
module _ (c : List ℕ) (d : Descriptor) where
  pub tables_next : (n i : ℕ) → i < n → tables_namings c d (n - i) i ≡ table_namings c d i (table_of c d i) 128 0 ++ tables_namings c d (n - (i + 1)) (i + 1)
  unfolding tables_namings
  tables_next n i h = let e : n - i ≡ suc (n - (i + 1)) = omega arith in rw (e, ← (add-one i))

  pub tables_none : (n i : ℕ) → n ≤ i → tables_namings c d (n - i) i ≡ []
  unfolding tables_namings
  tables_none n i h = let e : n - i ≡ zero = omega arith in rw e

  -- a counted entry of Phi, and its table where it is set
  follows : (t : List Naming) (z : Bool) → pick (not z) t [] ≡ pick z [] t
  follows t true = refl
  follows t false = refl

  pub phi_next : (i : ℕ) → i < 112 → i < table_count d.volume
      → phi_namings c d (112 - i) i ≡ record { holder = d.alpha.0; value = phi_at c d i; counted = true; phi = true } ∷ (named_in_table c d i (phi_at c d i) ++ phi_namings c d (112 - (i + 1)) (i + 1))
  unfolding phi_namings named_in_table
  phi_next i h l =
      let e : 112 - i ≡ suc (112 - (i + 1)) = omega arith in
      rw (e, lt-ltb i (table_count d.volume) l, follows (table_namings c d i (phi_at c d i) 128 0) (eqb (phi_at c d i) 0), ← (add-one i))

-- the walk over the tables of a layout 1 descriptor, as the code makes it
module _ (c : List ℕ) (d : Descriptor) (n : ℕ) (seen₀ : List ℕ) (ready : TablesReady c d n seen₀) where
  pub tables_ready : (i : ℕ) → i < n → (m : Physical) → m ≡ physical (table_of c d i) → (seen : List ℕ) → length seen ≡ length seen₀ → TableReady c d i m.0 seen
  unfolding table_of
  tables_ready i h m is seen long =
      let q : m.0 ≡ d.alpha.0 + 1 + i = ap (λ (x : Physical). x.0) is ∙ rw (eq-eqb d.layout 1 ready.layout) in
      record {
        on_card = omega (arith, ready.on_card, ready.region);
        flags = omega (arith, long, ready.flags);
        rising = omega (arith, ready.region);
        group = omega (arith, ready.groups);
      }

module _ (c : List ℕ) (d : Descriptor) (n turn : ℕ) (w : Taken) (seen : List ℕ) (i : ℕ) (walk : w ≡ taking_all d turn seen (tables_namings c d (n - i) i)) where
  pub tables_end : n ≤ i → record { verdict = Passed; flags = seen } ≡ w
  unfolding taking_all
  tables_end h = sym (rw (tables_none c d n i h) at walk)

  module _ (more : i < n) (m : Physical) (is : m ≡ physical (table_of c d i)) (seen' : List ℕ) where
    abbrev later : List Naming
    later = tables_namings c d (n - (i + 1)) (i + 1)

    split : w ≡ taking_all d turn seen (table_namings c d i m.0 128 0 ++ later)
    split = let q : m.0 ≡ table_of c d i = ap (λ (x : Physical). x.0) is in rw (q, ← (tables_next c d n i more)) walk

    pub tables_more : record { verdict = Passed; flags = seen' } ≡ taking_all d turn seen (table_namings c d i m.0 128 0) → w ≡ taking_all d turn seen' later
    tables_more = walk_more d turn later (table_namings c d i m.0 128 0) w seen split seen'

    pub tables_stop : (h : Physical) → record { verdict = Fault h; flags = seen' } ≡ taking_all d turn seen (table_namings c d i m.0 128 0) → record { verdict = Fault h; flags = seen' } ≡ w
    tables_stop = walk_stop d turn later (table_namings c d i m.0 128 0) w seen split seen'

-- bytes are all zero where the number of the first four is 0 and the others are zero
module _ (w x y z v : ℕ) (is : v ≡ w + 256 * x + 65536 * y + 16777216 * z) (r : Bool) where
  number_by : (a b c d : Bool) → eqb w 0 ≡ a → eqb x 0 ≡ b → eqb y 0 ≡ c → eqb z 0 ≡ d → (a && (b && (c && (d && r)))) ≡ (eqb v 0 && r)
  number_by true true true true p q s t = rw (eq-eqb v 0 (omega (arith, eqb-true w 0 p, eqb-true x 0 q, eqb-true y 0 s, eqb-true z 0 t)))
  number_by false b c d p q s t = rw (ne_eqb v 0 (λ e. eqb-false w 0 p (omega arith)))
  number_by true false c d p q s t = rw (ne_eqb v 0 (λ e. eqb-false x 0 q (omega arith)))
  number_by true true false d p q s t = rw (ne_eqb v 0 (λ e. eqb-false y 0 s (omega arith)))
  number_by true true true false p q s t = rw (ne_eqb v 0 (λ e. eqb-false z 0 t (omega arith)))

  number_zero : (eqb w 0 && (eqb x 0 && (eqb y 0 && (eqb z 0 && r)))) ≡ (eqb v 0 && r)
  number_zero = number_by (eqb w 0) (eqb x 0) (eqb y 0) (eqb z 0) refl refl refl refl

zero_byte : (c : List ℕ) (at m : ℕ) → at < length c → all_zero (part c at (suc m)) ≡ (eqb (get_or c at 0) 0 && all_zero (part c (at + 1) m))
unfolding all_zero
zero_byte c at m h = rw (add-one, drop-cons c at 0 h)

zero_bytes : (c : List ℕ) (at m n : ℕ) → n ≡ m + 4 → at + 4 ≤ length c → all_zero (part c at n) ≡ (eqb (u32_at c at) 0 && all_zero (part c (at + 4) m))
unfolding u32_at
zero_bytes c at m n e h =
    let q : n ≡ suc (suc (suc (suc m))) = omega arith in
    rw (q, zero_byte c at (suc (suc (suc m))) (omega arith), zero_byte c (at + 1) (suc (suc m)) (omega arith), add_assoc at 1 1, zero_byte c (at + 2) (suc m) (omega arith), add_assoc at 2 1, zero_byte c (at + 3) m (omega arith), add_assoc at 3 1)
    (number_zero (get_or c at 0) (get_or c (at + 1) 0) (get_or c (at + 2) 0) (get_or c (at + 3) 0) _ refl (all_zero (part c (at + 4) m)))

-- an entry that is not counted is refused where it is set
past_step : (d : Descriptor) (turn : ℕ) (seen : List ℕ) (h v : ℕ) (phi : Bool) (rest : List Naming) (r : Bool) → taking_all d turn seen rest ≡ record { verdict = pick r Passed (Fault (physical h)); flags = seen } → (z : Bool) → eqb v 0 ≡ z
    → taking_all d turn seen (record { holder = h; value = v; counted = false; phi = phi } ∷ rest) ≡ record { verdict = pick (z && r) Passed (Fault (physical h)); flags = seen }
unfolding taking_all takes taking
past_step d turn seen h v phi rest r f true e = rw e f
past_step d turn seen h v phi rest r f false e = rw e

-- k entries of table block m from entry j on, none of them counted: nil where their bytes are zero, and else the first that is set is refused
module _ (c : List ℕ) (d : Descriptor) (turn m left : ℕ) (seen : List ℕ) where
  entries_past : (k j : ℕ) → left ≤ j → 512 * m + 4 * j + 4 * k ≤ length c
      → taking_all d turn seen (entry_namings c m left k j) ≡ record { verdict = pick (all_zero (part c (512 * m + 4 * j) (4 * k))) Passed (Fault (physical m)); flags = seen }
  unfolding taking_all entry_namings entry_at all_zero
  entries_past zero j h l = refl
  entries_past (suc k) j h l =
      let next : 512 * m + 4 * suc j ≡ 512 * m + 4 * j + 4 = omega arith in
      let rest = entries_past k (suc j) (omega arith) (omega arith) in
      ap (λ (t : Bool). taking_all d turn seen (record { holder = m; value = entry_at c m j; counted = t; phi = false } ∷ entry_namings c m left k (suc j))) (le-ltb j left h)
      ∙ past_step d turn seen m (entry_at c m j) false (entry_namings c m left k (suc j)) (all_zero (part c (512 * m + 4 * j + 4) (4 * k))) (rw next at rest) (eqb (entry_at c m j) 0) refl
      ∙ ap (λ (z : Bool). record { verdict = pick z Passed (Fault (physical m)); flags = seen }) (sym (zero_bytes c (512 * m + 4 * j) (4 * k) (4 * suc k) (omega arith) (omega arith)))

-- the walk over the table of group i, as the code makes it: the entries before L, then those past it
module _ (c : List ℕ) (d : Descriptor) (i m left : ℕ) (left_is : left ≡ min 128 (d.volume - 128 * i)) where
  counted_is : (j : ℕ) → j < 128 → (t : Bool) → ltb j left ≡ t → ltb (128 * i + j) d.volume ≡ t
  counted_is j h true e = lt-ltb (128 * i + j) d.volume (omega (arith, ltb-true j left e, left_is))
  counted_is j h false e = le-ltb (128 * i + j) d.volume (omega (arith, ltb-false j left e, left_is))

  table_entries : (k j : ℕ) → j + k ≤ 128 → table_namings c d i m k j ≡ entry_namings c m left k j
  unfolding table_namings entry_namings
  table_entries zero j h = refl
  table_entries (suc k) j h = rw (counted_is j (omega arith) (ltb j left) refl, table_entries k (suc j) (omega arith))

  abbrev table_past : List Naming
  table_past = entry_namings c m left (128 - left) left

  table_is : table_namings c d i m 128 0 ≡ entry_namings c m 128 left 0 ++ table_past
  table_is =
      let e : 128 ≡ left + (128 - left) = omega (arith, left_is) in
      table_entries 128 0 (omega arith)
      ∙ ap (λ (k : ℕ). entry_namings c m left k 0) e
      ∙ entries_join c m left left (128 - left) 0
      ∙ rw (zero-add left, entries_counted c m left left 0 (omega arith) (omega (arith, left_is)))

  module _ (turn : ℕ) (seen seen' : List ℕ) where
    pub table_stop : (h : Physical) → record { verdict = Fault h; flags = seen' } ≡ taking_all d turn seen (entry_namings c m 128 left 0) → record { verdict = Fault h; flags = seen' } ≡ taking_all d turn seen (table_namings c d i m 128 0)
    table_stop = walk_stop d turn table_past (entry_namings c m 128 left 0) (taking_all d turn seen (table_namings c d i m 128 0)) seen (ap (taking_all d turn seen) table_is) seen'

    -- z says whether the entries past L are nil
    pub table_end : record { verdict = Passed; flags = seen' } ≡ taking_all d turn seen (entry_namings c m 128 left 0) → 512 * m + 512 ≤ length c → (z : Bool) → z ≡ all_zero (part c (512 * m + 4 * left) (512 - 4 * left))
        → record { verdict = pick z Passed (Fault (physical m)); flags = seen' } ≡ taking_all d turn seen (table_namings c d i m 128 0)
    table_end took l z clear =
        let q : 512 - 4 * left ≡ 4 * (128 - left) = omega (arith, left_is) in
        rw (clear, q)
        (sym (walk_more d turn table_past (entry_namings c m 128 left 0) (taking_all d turn seen (table_namings c d i m 128 0)) seen (ap (taking_all d turn seen) table_is) seen' took ∙ entries_past c d turn m left seen' (128 - left) left (omega arith) (omega (arith, left_is))))

-- the entries of Phi past n, which are refused where they are set
module _ (c : List ℕ) (d : Descriptor) (turn : ℕ) (seen : List ℕ) where
  past_next : (k i : ℕ) → table_count d.volume ≤ i → phi_namings c d (suc k) i ≡ record { holder = d.alpha.0; value = phi_at c d i; counted = false; phi = true } ∷ phi_namings c d k (i + 1)
  unfolding phi_namings
  past_next k i h = rw (le-ltb i (table_count d.volume) h, ← (add-one i))

  abbrev phi_place : ℕ → ℕ
  phi_place i = 512 * d.alpha.0 + 64 + 4 * i

  -- k of them from entry i on: nil where their bytes are zero, and else the first that is set is refused
  pub phi_past : (k i : ℕ) → table_count d.volume ≤ i → phi_place i + 4 * k ≤ length c
      → taking_all d turn seen (phi_namings c d k i) ≡ record { verdict = pick (all_zero (part c (phi_place i) (4 * k))) Passed (Fault d.alpha); flags = seen }
  unfolding taking_all phi_namings phi_at all_zero
  phi_past zero i h l = refl
  phi_past (suc k) i h l =
      let next : phi_place (i + 1) ≡ phi_place i + 4 = omega arith in
      let rest = phi_past k (i + 1) (omega arith) (omega arith) in
      ap (taking_all d turn seen) (past_next k i h)
      ∙ past_step d turn seen d.alpha.0 (phi_at c d i) true (phi_namings c d k (i + 1)) (all_zero (part c (phi_place i + 4) (4 * k))) (rw next at rest) (eqb (phi_at c d i) 0) refl
      ∙ ap (λ (z : Bool). record { verdict = pick z Passed (Fault d.alpha); flags = seen }) (sym (zero_bytes c (phi_place i) (4 * k) (4 * suc k) (omega arith) (omega arith)))

-- the walk over Phi of a layout 2 descriptor, as the code makes it
module _ (c : List ℕ) (d : Descriptor) (n : ℕ) (seen₀ : List ℕ) (ready : PhiReady c d n seen₀) where
  module _ (turn : ℕ) (w : Taken) (seen : List ℕ) (i : ℕ) (walk : w ≡ taking_all d turn seen (phi_namings c d (112 - i) i)) where
    -- all counted entries have passed, and z says whether those past n are nil
    pub phi_end : n ≤ i → i ≤ n → (z : Bool) → z ≡ all_zero (part c (512 * d.alpha.0 + (64 + 4 * n)) (512 - (64 + 4 * n))) → record { verdict = pick z Passed (Fault d.alpha); flags = seen } ≡ w
    phi_end low high z clear =
        let q : i ≡ n = omega arith in
        let p : 512 * d.alpha.0 + (64 + 4 * n) ≡ 512 * d.alpha.0 + 64 + 4 * n = omega arith in
        let k : 512 - (64 + 4 * n) ≡ 4 * (112 - n) = omega (arith, ready.groups) in
        rw (clear, p, k) (sym (rw q at walk ∙ phi_past c d turn seen (112 - n) n (omega (arith, ready.tables)) (omega (arith, ready.groups, ready.on_card, ready.region))))

    module _ (more : i < n) (m : Physical) (is : m ≡ physical (table_of c d i)) (b : Bool) (seen' : List ℕ)
        (took : (b ≡ takes seen turn d.beta.0 true m.0) × (seen' ≡ taking seen turn d.beta.0 true m.0)) where
      phi_is : m.0 ≡ phi_at c d i
      unfolding table_of
      phi_is = ap (λ (x : Physical). x.0) is ∙ rw (ne_eqb d.layout 1 (omega (arith, ready.layout)))

      abbrev phi_entry : Naming
      phi_entry = record { holder = d.alpha.0; value = m.0; counted = true; phi = true }

      abbrev phi_later : List Naming
      phi_later = phi_namings c d (112 - (i + 1)) (i + 1)

      here_phi : w ≡ taking_all d turn seen (phi_entry ∷ (named_in_table c d i m.0 ++ phi_later))
      here_phi = rw (phi_is, ← (phi_next c d i (omega (arith, ready.groups)) (omega (arith, ready.tables)))) walk

      pub phi_refused : b ≡ false → record { verdict = Fault d.alpha; flags = seen' } ≡ w
      unfolding limit_of
      phi_refused = entry_stop d turn seen phi_entry (named_in_table c d i m.0 ++ phi_later) w here_phi b seen' took

      module _ (e : b ≡ true) where
        pub phi_table_ready : length seen ≡ length seen₀ → (m.0 ≡ 0 → ⊥) → TableReady c d i m.0 seen'
        phi_table_ready kept z =
            let l : m.0 < d.beta.0 = takes_below seen turn d.beta.0 true m.0 (sym took.0 ∙ e) z in
            record {
              on_card = omega (arith, ready.on_card);
              flags = omega (arith, ap length took.1, length_taking seen turn d.beta.0 true m.0, kept, ready.flags);
              rising = omega (arith, ready.region);
              group = omega (arith, ready.groups);
            }

        after_entry : w ≡ taking_all d turn seen' (named_in_table c d i m.0 ++ phi_later)
        unfolding limit_of
        after_entry = entry_more d turn seen phi_entry (named_in_table c d i m.0 ++ phi_later) w here_phi b seen' took e

        module _ (seen'' : List ℕ) where
          pub phi_stop : (h : Physical) → (m.0 ≡ 0 → ⊥) → record { verdict = Fault h; flags = seen'' } ≡ taking_all d turn seen' (table_namings c d i m.0 128 0) → record { verdict = Fault h; flags = seen'' } ≡ w
          phi_stop h z took' = walk_stop d turn phi_later (named_in_table c d i m.0) w seen' after_entry seen'' h (named_table c d turn i m.0 seen' _ z took')

          pub phi_more : record { verdict = Passed; flags = seen'' } ≡ taking_all d turn seen' (named_in_table c d i m.0) → w ≡ taking_all d turn seen'' phi_later
          phi_more = walk_more d turn phi_later (named_in_table c d i m.0) w seen' after_entry seen''
