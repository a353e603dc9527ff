-- Laws of the flags that the check in code keeps.
use mathlib.Core.Path.{◌≡◌, refl, sym, ap, subst, ◌∙◌}
use mathlib.Core.Bool.{Bool, true, false, not, ◌&&◌}
use mathlib.Core.List.{List, []}
use Prim.Native.Nat.{ℕ, zero, suc, ◌+◌, ◌≤◌, ◌<◌}
use native.Mathlib.Numerals.{add-one}
use lib.ListN.{length, set, take, replicate, length-set}
use lib.Seq.{paste, paste-zero}
use lib.Dec.{eqb, ltb}
use borrow.Author.Tests.{ne_eqb, ltb-true, not-true}
use Rattle.std.proofs.lemmas.List.{get_or-take, length-take-le}
use native.Mathlib.Omega.{arith}
use Rattle.std.proofs.lemmas.List.Edits.{fill_from_more}
use Rattle.blocks.specs.Pick.{pick}
use Rattle.blocks.proofs.BoolLaws.{and_false}
use Rattle.entries.specs.Marks.{is_flagged, takes, taking, flagged, openings_flagged, next_flags}

-- flags of a run of blocks, written at once
pub flagged_run : (seen : List ℕ) (from n : ℕ) → from + n ≤ length seen → paste seen from (replicate n 255) n ≡ flagged seen from n
unfolding flagged
flagged_run seen from zero h = sym (paste-zero seen from [])
flagged_run seen from (suc n) h =
    subst (λ (m : ℕ). paste seen from (replicate m 255) m ≡ set (flagged seen from n) (from + n) 255) (add-one n)
    (sym (fill_from_more seen from n 255 (omega arith)) ∙ ap (λ (x : List ℕ). set x (from + n) 255) (flagged_run seen from n (omega arith)))

-- the openings of the first n regions, where the code is lent their starts alone
module _ (seen starts : List ℕ) (c n : ℕ) where
  openings_of : (k : ℕ) → k ≤ n → openings_flagged seen (take n starts) c k ≡ openings_flagged seen starts c k
  unfolding openings_flagged
  openings_of zero h = refl
  openings_of (suc k) h = rw (openings_of k (omega arith), get_or-take n starts k 0 (omega arith))

  pub openings_taken : n ≤ length starts → openings_flagged seen (take n starts) c (length (take n starts)) ≡ openings_flagged seen starts c n
  openings_taken h = rw (length-take-le n starts h) (openings_of n (omega arith))

pub turn_taken : (seen starts : List ℕ) (c n turn : ℕ) → n ≤ length starts → next_flags seen (take n starts) c (length (take n starts)) turn ≡ next_flags seen starts c n turn
unfolding next_flags
turn_taken seen starts c n turn h = rw (openings_taken (replicate (length seen) 0) starts c n h)

-- a set entry that is taken is below the limit, and the flags keep their length
and_middle : (a b c : Bool) → (a && b && c) ≡ true → b ≡ true
and_middle true true c h = refl
and_middle true false c h = h
and_middle false b c h = let z : ◌≡◌ {A = ℕ} 0 1 = cc in absurd (omega arith)

pub takes_below : (seen : List ℕ) (turn limit : ℕ) (counted : Bool) (v : ℕ) → takes seen turn limit counted v ≡ true → (v ≡ 0 → ⊥) → v < limit
unfolding takes
takes_below seen turn limit counted v h n = ltb-true v limit (and_middle counted (ltb v limit) (not (is_flagged seen turn v)) (rw (ne_eqb v 0 n) at h))

-- and it was not flagged
and_end : (a b c : Bool) → (a && b && c) ≡ true → c ≡ true
and_end true true c h = h
and_end true false c h = let z : ◌≡◌ {A = ℕ} 0 1 = cc in absurd (omega arith)
and_end false b c h = let z : ◌≡◌ {A = ℕ} 0 1 = cc in absurd (omega arith)

pub takes_free : (seen : List ℕ) (turn limit : ℕ) (counted : Bool) (v : ℕ) → takes seen turn limit counted v ≡ true → (v ≡ 0 → ⊥) → is_flagged seen turn v ≡ false
unfolding takes
takes_free seen turn limit counted v h n = not-true (is_flagged seen turn v) (and_end counted (ltb v limit) (not (is_flagged seen turn v)) (rw (ne_eqb v 0 n) at h))

-- one that is refused leaves the flags
pub taking_refused : (seen : List ℕ) (turn limit : ℕ) (counted : Bool) (v : ℕ) → takes seen turn limit counted v ≡ false → taking seen turn limit counted v ≡ seen
unfolding taking
taking_refused seen turn limit counted v h = rw (h, and_false (not (eqb v 0)))

length_pick : (seen : List ℕ) (turn v : ℕ) (t : Bool) → length (pick t (set seen v turn) seen) ≡ length seen
length_pick seen turn v true = length-set seen v turn
length_pick seen turn v false = refl

pub length_taking : (seen : List ℕ) (turn limit : ℕ) (counted : Bool) (v : ℕ) → length (taking seen turn limit counted v) ≡ length seen
unfolding taking
length_taking seen turn limit counted v = length_pick seen turn v (not (eqb v 0) && takes seen turn limit counted v)
