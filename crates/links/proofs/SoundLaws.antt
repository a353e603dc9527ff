-- Laws of soundness: the tests of the code, in their order, and what a sound descriptor's fields satisfy.
use mathlib.Core.Path.{◌≡◌, refl, sym, ◌∙◌}
use mathlib.Core.Bool.{Bool, true, false, ◌&&◌, ◌||◌}
use mathlib.Core.List.{List}
use Prim.Native.Nat.{ℕ, ◌+◌, ◌*◌, ◌-◌, ◌≤◌, ◌<◌}
use native.Mathlib.Omega.{arith}
use lib.ListN.{length, take, drop, length-drop}
use lib.Seq.{take_all}
use lib.Dec.{eqb, ltb, leb}
use borrow.Author.Tests.{lt-ltb, le-leb, eqb-true, eqb-false, ltb-true, leb-true, leb-false}
use Rattle.blocks.specs.Pick.{same, all_zero}
use Rattle.blocks.specs.Bytes.{part, u64_at}
use Rattle.blocks.specs.Name.{is_name}
use Rattle.blocks.specs.Descriptor.{mark, descriptor_at, revision_of, reserved_ok, phi_ok}
use Rattle.chains.specs.Chain.{form_ok}
use Rattle.blocks.specs.declared.descriptor.Descriptor.{Descriptor}
use Rattle.blocks.proofs.Tests.{and_left, and_right}
use Rattle.blocks.proofs.ListLaws.{same_equal}
use Rattle.blocks.proofs.DescriptorLaws.{reserved_large, reserved_other, reserved_same}

-- the name where it stands
pub called_at : (c : List ℕ) (p : ℕ) (n : Bool) → n ≡ is_name (take (512 * p + 40 - (512 * p + 24)) (drop (512 * p + 24) c)) → n ≡ is_name (descriptor_at c p).name
unfolding descriptor_at
called_at c p n e = let f : 512 * p + 40 - (512 * p + 24) ≡ 16 = omega arith in e ∙ rw f

-- the reserved bytes, by the tests of the code: the first eight as one number, and those after them
pub reserved_tests : (r : ℕ) (b : List ℕ) → 8 ≤ length b → reserved_ok r b ≡ (leb r 1 && eqb (u64_at b 0) r && all_zero (take (length b - 8) (drop 8 b)))
reserved_tests r b long = rw (take_all (length b - 8) (drop 8 b) (simp length-drop (omega arith))) (by (leb r 1) (eqb (u64_at b 0) r) refl refl)
  where
    by : (s t : Bool) → leb r 1 ≡ s → eqb (u64_at b 0) r ≡ t → reserved_ok r b ≡ (s && t && all_zero (drop 8 b))
    by true true e f = sym (reserved_same r b (leb-true r 1 e) long (eqb-true (u64_at b 0) r f) _ refl)
    by true false e f = sym (reserved_other r b (leb-true r 1 e) long (eqb-false (u64_at b 0) r f))
    by false t e f = sym (reserved_large r b (leb-false r 1 e))

-- what a formed descriptor's fields satisfy
module _ (c : List ℕ) (p : ℕ) (d : Descriptor) (ok : form_ok c p d ≡ true) where
  abbrev of_mark : Bool
  of_mark = same (part c (512 * p) 4) mark

  abbrev of_layout : Bool
  of_layout = eqb d.layout 1 || eqb d.layout 2

  abbrev to_volume : Bool
  to_volume = of_mark && of_layout && ltb 0 d.volume && leb d.volume 14336

  form_to_volume : to_volume ≡ true
  unfolding form_ok
  form_to_volume =
      and_left to_volume (is_name d.name)
      (and_left (to_volume && is_name d.name) (reserved_ok (revision_of c) (part c (512 * p + 40) 24))
      (and_left (to_volume && is_name d.name && reserved_ok (revision_of c) (part c (512 * p + 40) 24)) (phi_ok d.layout (part c (512 * p + 64) 448)) ok))

  form_to_least : (of_mark && of_layout && ltb 0 d.volume) ≡ true
  form_to_least = and_left (of_mark && of_layout && ltb 0 d.volume) (leb d.volume 14336) form_to_volume

  pub form_mark : part c (512 * p) 4 ≡ mark
  form_mark = same_equal (part c (512 * p) 4) mark (and_left of_mark of_layout (and_left (of_mark && of_layout) (ltb 0 d.volume) form_to_least))

  pub form_most : d.volume ≤ 14336
  form_most = leb-true _ _ (and_right (of_mark && of_layout && ltb 0 d.volume) (leb d.volume 14336) form_to_volume)

  pub form_least : 0 < d.volume
  form_least = ltb-true _ _ (and_right (of_mark && of_layout) (ltb 0 d.volume) form_to_least)

  pub form_layout : (eqb d.layout 1 || eqb d.layout 2) ≡ true
  form_layout = and_right of_mark of_layout (and_left (of_mark && of_layout) (ltb 0 d.volume) form_to_least)

  pub form_range : ((eqb d.layout 1 || eqb d.layout 2) && ltb 0 d.volume && leb d.volume 14336) ≡ true
  form_range = rw (form_layout, lt-ltb 0 d.volume form_least, le-leb d.volume 14336 form_most)

-- in layout 2 soundness asks nothing of Phi
pub phi_any : (layout : ℕ) (bytes : List ℕ) → eqb layout 1 ≡ false → phi_ok layout bytes ≡ true
unfolding phi_ok
phi_any layout bytes e = rw e
