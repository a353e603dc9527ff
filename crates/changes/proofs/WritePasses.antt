-- What an accepted write leaves of the entries, by the blocks that it takes: none, one or two; and that the card still passes.
use mathlib.Core.Path.{◌≡◌, refl, sym, subst}
use mathlib.Core.Bool.{Bool, true, false, not, ◌&&◌}
use mathlib.Core.List.{List, [], ◌∷◌, ◌++◌}
use Prim.Native.Nat.{ℕ}
use lib.Dec.{eqb, leb}
use borrow.Author.Tests.{eqb-true, eqb-false}
use Rattle.blocks.specs.Pick.{pick}
use Rattle.blocks.specs.Bytes.{store_all}
use Rattle.blocks.specs.Descriptor.{extended_of}
use Rattle.blocks.specs.declared.numbers.Physical.{Physical}
use Rattle.chains.specs.Chain.{active_of}
use Rattle.blocks.proofs.BoolLaws.{no}
use Rattle.entries.specs.Entry.{table_is_new, need}
use Rattle.entries.specs.Found.{Found, Misplaced, Entry}
use Rattle.calls.specs.Parts.{descriptors_of, snapshots_of, found_through, is_misplaced}
use Rattle.calls.specs.Check.{Passes}
use Rattle.calls.specs.Stores.{write_stores}
use Rattle.calls.proofs.Passed.{WritePassed}
use Rattle.changes.proofs.WrittenRules.{passes_write_by}
use Rattle.changes.proofs.WriteFacts.{WriteFacts, WritePlaces}
use Rattle.changes.proofs.WriteOwn.{own_none, own_one, none_places, one_places}
use Rattle.changes.proofs.WriteNew.{new_two_lem, two_places}

-- a write takes no block, one or two
need_by_lem : (s new : Bool) (n : ℕ) → n ≡ pick s 0 (pick new 2 1) → (n ≡ 0 → ⊥) → (n ≡ 1 → ⊥) → n ≡ 2
need_by_lem true new n e z o = absurd (z e)
need_by_lem false true n e z o = e
need_by_lem false false n e z o = absurd (o e)

need_other : (alpha : ℕ) (m p : Physical) → (need alpha (Entry m p) ≡ 0 → ⊥) → (need alpha (Entry m p) ≡ 1 → ⊥) → need alpha (Entry m p) ≡ 2
unfolding need
need_other alpha m p z o = need_by_lem (not (eqb p.0 0) && leb alpha p.0) (table_is_new alpha m.0) (need alpha (Entry m p)) refl z o

taken : (c : List ℕ) (l : ℕ) (block : List ℕ) {n k : ℕ} → n ≡ k
    → let d = active_of (descriptors_of c) in
    let t = store_all c (write_stores c l block) in
    let xs = snapshots_of (descriptors_of c) in
    WriteFacts c t (xs ++ (extended_of d k ∷ [])) d (extended_of d k) l block → WriteFacts c t (xs ++ (extended_of d n ∷ [])) d (extended_of d n) l block
taken c l block e facts =
    let d = active_of (descriptors_of c) in
    subst (λ (n : ℕ). WriteFacts c (store_all c (write_stores c l block)) (snapshots_of (descriptors_of c) ++ (extended_of d n ∷ [])) d (extended_of d n) l block) (sym e) facts

placed_at : (c : List ℕ) (l : ℕ) (block : List ℕ) {n k : ℕ} → n ≡ k
    → let d = active_of (descriptors_of c) in
    let t = store_all c (write_stores c l block) in
    WritePlaces c t d (extended_of d k) l → WritePlaces c t d (extended_of d n) l
placed_at c l block e places = let d = active_of (descriptors_of c) in subst (λ (n : ℕ). WritePlaces c (store_all c (write_stores c l block)) d (extended_of d n) l) (sym e) places

-- what the write leaves, by the blocks that it takes
facts_by : (c : List ℕ) → Passes c → (l : ℕ) (block : List ℕ) → WritePassed c l block
    → let d = active_of (descriptors_of c) in
    (f : Found) → found_through c d l ≡ f → is_misplaced f ≡ false → (z o : Bool) → eqb (need d.alpha.0 f) 0 ≡ z → eqb (need d.alpha.0 f) 1 ≡ o
    → WriteFacts c (store_all c (write_stores c l block)) (snapshots_of (descriptors_of c) ++ (extended_of d (need d.alpha.0 f) ∷ [])) d (extended_of d (need d.alpha.0 f)) l block
unfolding is_misplaced
facts_by c p l block ok (Misplaced h) e m z o u v = no (sym m)
facts_by c p l block ok (Entry a b) e m true o u v = taken c l block (eqb-true _ 0 u) (own_none c p l block ok a b e (eqb-true _ 0 u))
facts_by c p l block ok (Entry a b) e m false true u v = taken c l block (eqb-true _ 1 v) (own_one c p l block ok a b e (eqb-true _ 1 v))
facts_by c p l block ok (Entry a b) e m false false u v =
    let two = need_other (active_of (descriptors_of c)).alpha.0 a b (eqb-false _ 0 u) (eqb-false _ 1 v) in
    taken c l block two (new_two_lem c p l block ok a b e two)

pub write_facts : (c : List ℕ) → Passes c → (l : ℕ) (block : List ℕ) → WritePassed c l block
    → let d = active_of (descriptors_of c) in
    let x = extended_of d (need d.alpha.0 (found_through c d l)) in
    WriteFacts c (store_all c (write_stores c l block)) (snapshots_of (descriptors_of c) ++ (x ∷ [])) d x l block
write_facts c p l block ok =
    let d = active_of (descriptors_of c) in
    let f = found_through c d l in
    facts_by c p l block ok f refl ok.in_place (eqb (need d.alpha.0 f) 0) (eqb (need d.alpha.0 f) 1) refl refl

-- and of its table blocks
places_by : (c : List ℕ) → Passes c → (l : ℕ) (block : List ℕ) → WritePassed c l block
    → let d = active_of (descriptors_of c) in
    (f : Found) → found_through c d l ≡ f → is_misplaced f ≡ false → (z o : Bool) → eqb (need d.alpha.0 f) 0 ≡ z → eqb (need d.alpha.0 f) 1 ≡ o
    → WritePlaces c (store_all c (write_stores c l block)) d (extended_of d (need d.alpha.0 f)) l
unfolding is_misplaced
places_by c p l block ok (Misplaced h) e m z o u v = no (sym m)
places_by c p l block ok (Entry a b) e m true o u v = placed_at c l block (eqb-true _ 0 u) (none_places c p l block ok a b e (eqb-true _ 0 u))
places_by c p l block ok (Entry a b) e m false true u v = placed_at c l block (eqb-true _ 1 v) (one_places c p l block ok a b e (eqb-true _ 1 v))
places_by c p l block ok (Entry a b) e m false false u v =
    let two = need_other (active_of (descriptors_of c)).alpha.0 a b (eqb-false _ 0 u) (eqb-false _ 1 v) in
    placed_at c l block two (two_places c p l block ok a b e two)

pub write_places : (c : List ℕ) → Passes c → (l : ℕ) (block : List ℕ) → WritePassed c l block
    → let d = active_of (descriptors_of c) in
    WritePlaces c (store_all c (write_stores c l block)) d (extended_of d (need d.alpha.0 (found_through c d l))) l
write_places c p l block ok =
    let d = active_of (descriptors_of c) in
    let f = found_through c d l in
    places_by c p l block ok f refl ok.in_place (eqb (need d.alpha.0 f) 0) (eqb (need d.alpha.0 f) 1) refl refl

-- the card after an accepted write passes
pub passes_write : (c : List ℕ) (l : ℕ) (block : List ℕ) → Passes c → WritePassed c l block → Passes (store_all c (write_stores c l block))
passes_write c l block p ok = passes_write_by c p l block ok (write_facts c p l block ok).rules
