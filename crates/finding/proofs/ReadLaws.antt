-- An entry that is in place, read: what the table block and its entry hold is what finding gives.
use mathlib.Core.Path.{◌≡◌, refl, sym, ap, ◌∙◌}
use mathlib.Core.List.{List}
use Prim.Native.Nat.{ℕ, ◌+◌, ◌*◌, ◌/◌, ◌%◌, ◌≤◌, ◌<◌}
use native.Mathlib.Omega.{arith}
use lib.ListN.{length}
use borrow.Author.Tests.{eq-eqb, ne_eqb}
use Rattle.blocks.specs.Descriptor.{physical}
use Rattle.blocks.specs.declared.numbers.Physical.{Physical}
use Rattle.blocks.specs.declared.descriptor.Descriptor.{Descriptor}
use Rattle.chains.specs.Chain.{chain, descriptors}
use Rattle.entries.specs.Entry.{table_of, entry_at, find}
use Rattle.entries.specs.Rules.{entry_of}
use Rattle.entries.specs.Through.{Through}
use Rattle.entries.specs.Found.{Entry}
use Rattle.entries.proofs.EntryLaws.{through_end, found_table}
use Rattle.entries.proofs.FoundLaws.{found_holder, found_value}

module _ (c starts : List ℕ) (count : ℕ) (d : Descriptor) (t : Through c starts count d) (l : ℕ) (below : l < d.volume)
    (x y : Physical) (placed : find c (descriptors (chain c)) d l ≡ Entry x y) (m : Physical) (is : m ≡ physical (table_of c d (l / 128))) where
  table_is : m.0 ≡ table_of c d (l / 128)
  table_is = ap (λ (z : Physical). z.0) is

  holder_is : x ≡ m
  holder_is = ap physical (found_holder c (descriptors (chain c)) d l x y placed) ∙ sym is

  value_is : y ≡ physical (entry_of c d l)
  value_is = ap physical (sym (found_value c (descriptors (chain c)) d l x y placed))

  -- the table block is on the card
  pub read_ready : (512 * m.0 + 512 ≤ length c) × (l % 128 < 128)
  read_ready =
      let h = found_table c starts count d t l below (find c (descriptors (chain c)) d l) refl x y placed in
      (omega (arith, h, ap (λ (z : Physical). z.0) holder_is, through_end c starts count d t), omega arith)

  -- the entry in a table block that is nil, and in one that is set
  pub read_nil : m.0 ≡ 0 → Entry m (physical 0) ≡ find c (descriptors (chain c)) d l
  unfolding entry_of
  read_nil z =
      let e : y ≡ physical 0 = value_is ∙ rw (eq-eqb (table_of c d (l / 128)) 0 (sym table_is ∙ z)) in
      sym (placed ∙ rw (e, holder_is))

  pub read_set : (m.0 ≡ 0 → ⊥) → (p : Physical) → p ≡ physical (entry_at c m.0 (l % 128)) → Entry m p ≡ find c (descriptors (chain c)) d l
  unfolding entry_of
  read_set z p e =
      let f : y ≡ p = value_is ∙ rw (ne_eqb (table_of c d (l / 128)) 0 (λ q. z (table_is ∙ q)), ← table_is) (sym e) in
      sym (placed ∙ rw (f, holder_is))
