-- Laws of blank pages: what they are, and what they take.
use mathlib.Core.Path.{◌≡◌, sym, ap, ◌∙◌}
use mathlib.Core.Bool.{Bool, true, false, ◌&&◌}
use mathlib.Core.List.{List}
use Prim.Native.Nat.{ℕ, ◌≤◌}
use native.Mathlib.Omega.{arith}
use lib.ListN.{length}
use lib.Dec.{eqb}
use Rattle.blocks.specs.Pick.{pick, same, all_zero}
use Rattle.blocks.specs.Bytes.{zero_block}
use Rattle.blocks.specs.declared.numbers.Physical.{Physical}
use Rattle.blocks.proofs.Tests.{and_left, and_right}
use Rattle.blocks.proofs.ListLaws.{same_equal}
use Rattle.blocks.proofs.ZeroLaws.{same_zeros}
use Rattle.entries.specs.Entry.{need, names_none, is_blank, page_need}
use Rattle.entries.specs.Found.{Found, Entry}
use Rattle.entries.proofs.EntryLaws.{need_most}

pub blank_none : (f : Found) (b : List ℕ) → is_blank f b ≡ true → names_none f ≡ true
unfolding is_blank
blank_none f b e = and_left (names_none f) (same b zero_block) e

pub blank_zeros : (f : Found) (b : List ℕ) → is_blank f b ≡ true → b ≡ zero_block
unfolding is_blank
blank_zeros f b e = same_equal b zero_block (and_right (names_none f) (same b zero_block) e)

-- of a whole block, by the tests of the code
pub blank_entry : (m p : Physical) (b : List ℕ) → length b ≡ 512 → (r : Bool) → r ≡ (eqb p.0 0 && all_zero b) → is_blank (Entry m p) b ≡ r
unfolding is_blank names_none
blank_entry m p b h r e = ap (λ (z : Bool). eqb p.0 0 && z) (same_zeros b h) ∙ sym e

most_by : (blank : Bool) (n : ℕ) → n ≤ 2 → pick blank 0 n ≤ 2
most_by true n h = omega arith
most_by false n h = h

pub page_most : (alpha : ℕ) (f : Found) (b : List ℕ) → page_need alpha f b ≤ 2
unfolding page_need
page_most alpha f b = most_by (is_blank f b) (need alpha f) (need_most alpha f)
