-- The definition of a sound descriptor is 01's: theorems over `SoundRules` and `NameRules`.
use mathlib.Core.Path.{◌≡◌, refl, sym, ap, ◌∙◌, subst}
use mathlib.Core.Logic.{◌⊎◌, inl, inr}
use mathlib.Core.Bool.{Bool, true, false, not, ◌&&◌, ◌||◌}
use mathlib.Core.List.{List, [], ◌∷◌}
use Prim.Native.Nat.{ℕ, zero, suc, ◌+◌, ◌*◌, ◌-◌, ◌/◌, ◌≤◌, ◌<◌}
use native.Mathlib.Omega.{arith}
use lib.ListN.{length, take, drop, get_or, length-take, length-drop}
use lib.Seq.{get_or-drop}
use lib.Dec.{eqb, ltb, leb}
use borrow.Author.Tests.{eq-eqb, ne_eqb, lt-ltb, le-leb, eqb-true, ltb-true, leb-true, not-true}
use Rattle.blocks.specs.Pick.{pick, same, all_zero}
use Rattle.blocks.specs.Bytes.{part, u32_at, block_count}
use Rattle.blocks.specs.Name.{name_byte, name_length, is_name}
use Rattle.blocks.specs.Descriptor.{mark, descriptor_at, no_descriptor, table_count, cost, cost_of, revision_at, revision_of, revision_ok, reserved_ok, phi_ok}
use Rattle.blocks.specs.declared.descriptor.Descriptor.{Descriptor}
use Rattle.blocks.proofs.Tests.{and_left, and_right}
use Rattle.blocks.proofs.BoolLaws.{no, true_or, or_false_both}
use Rattle.blocks.proofs.ListLaws.{same_equal, same_self}
use Rattle.blocks.proofs.ByteLaws.{part_at, drop_part}
use Rattle.blocks.proofs.DescriptorLaws.{revision_part}
use Rattle.chains.specs.Chain.{form_ok, region_ok, named, sound}
use Rattle.chains.specs.Soundness.{number_at, NameByte, NameRules, SoundRules, NameRulesClaim, SoundRulesClaim}
use Rattle.chains.proofs.NamedLaws.{named_none, named_cons}

-- both of a conjunction, one of a disjunction
both : {a b : Bool} → a ≡ true → b ≡ true → (a && b) ≡ true
both e f = rw (e, f)

halves : {a b : Bool} → (a && b) ≡ true → (a ≡ true) × (b ≡ true)
halves {a} {b} h = (and_left a b h, and_right a b h)

left_or : (a b : Bool) → a ≡ true → (a || b) ≡ true
left_or a b e = rw e

either : (a b : Bool) → (a || b) ≡ true → (a ≡ true) ⊎ (b ≡ true)
either true b e = inl refl
either false b e = inr e

-- zeros
zero_at : (l : List ℕ) → all_zero l ≡ true → (i : ℕ) → get_or l i 0 ≡ 0
unfolding all_zero
zero_at [] h i = refl
zero_at (x ∷ xs) h zero = eqb-true x 0 (and_left (eqb x 0) (all_zero xs) h)
zero_at (x ∷ xs) h (suc i) = zero_at xs (and_right (eqb x 0) (all_zero xs) h) i

at_zero : (l : List ℕ) → ((i : ℕ) → i < length l → get_or l i 0 ≡ 0) → all_zero l ≡ true
unfolding all_zero
at_zero [] h = refl
at_zero (x ∷ xs) h = both (eq-eqb x 0 (h 0 (omega arith))) (at_zero xs (λ i k. h (suc i) (omega arith)))

module _ (c : List ℕ) (b n : ℕ) where
  part_short : length (part c b n) ≤ n
  part_short = simp length-take (omega arith)

  part_zero : all_zero (part c b n) ≡ true → (i : ℕ) → i < n → get_or c (b + i) 0 ≡ 0
  part_zero h i k = sym (part_at c b n i k) ∙ zero_at (part c b n) h i

  zero_part : ((i : ℕ) → i < n → get_or c (b + i) 0 ≡ 0) → all_zero (part c b n) ≡ true
  zero_part h = at_zero (part c b n) (λ i k. let m : i < n = omega (arith, part_short) in part_at c b n i m ∙ h i m)

-- names
module _ (b : ℕ) where
  abbrev letter : Bool
  letter = leb 97 b && leb b 122

  abbrev digit : Bool
  digit = leb 48 b && leb b 57

  byte_rule : name_byte b ≡ true → NameByte b
  unfolding name_byte
  byte_rule h = by_last (either (letter || digit || eqb b 46) (eqb b 45) h)
    where
      between : (x y : ℕ) → (leb x b && leb b y) ≡ true → (x ≤ b) × (b ≤ y)
      between x y e = (leb-true x b (and_left (leb x b) (leb b y) e), leb-true b y (and_right (leb x b) (leb b y) e))

      by_first : (letter ≡ true) ⊎ (digit ≡ true) → NameByte b
      by_first (inl e) = inl (between 97 122 e)
      by_first (inr e) = inr (inl (between 48 57 e))

      by_dot : ((letter || digit) ≡ true) ⊎ (eqb b 46 ≡ true) → NameByte b
      by_dot (inl e) = by_first (either letter digit e)
      by_dot (inr e) = inr (inr (inl (eqb-true b 46 e)))

      by_last : ((letter || digit || eqb b 46) ≡ true) ⊎ (eqb b 45 ≡ true) → NameByte b
      by_last (inl e) = by_dot (either (letter || digit) (eqb b 46) e)
      by_last (inr e) = inr (inr (inr (eqb-true b 45 e)))

  rule_byte : NameByte b → name_byte b ≡ true
  unfolding name_byte
  rule_byte (inl r) = left_or (letter || digit || eqb b 46) _ (left_or (letter || digit) _ (left_or letter _ (both (le-leb 97 b r.0) (le-leb b 122 r.1))))
  rule_byte (inr (inl r)) = left_or (letter || digit || eqb b 46) _ (left_or (letter || digit) _ (true_or letter digit (both (le-leb 48 b r.0) (le-leb b 57 r.1))))
  rule_byte (inr (inr (inl r))) = left_or (letter || digit || eqb b 46) _ (true_or (letter || digit) (eqb b 46) (eq-eqb b 46 r))
  rule_byte (inr (inr (inr r))) = true_or (letter || digit || eqb b 46) (eqb b 45) (eq-eqb b 45 r)

length_by : (t : Bool) (k n : ℕ) → k ≤ n → pick t (suc k) 0 ≤ suc n
length_by true k n h = omega arith
length_by false k n h = omega arith

name_short : (l : List ℕ) → name_length l ≤ length l
unfolding name_length
name_short [] = omega arith
name_short (b ∷ l) = length_by (name_byte b) (name_length l) (length l) (name_short l)

name_byte_at : (l : List ℕ) (i : ℕ) → i < name_length l → name_byte (get_or l i 0) ≡ true
unfolding name_length
name_byte_at [] i h = absurd (omega arith)
name_byte_at (b ∷ l) zero h = by (name_byte b) h
  where
    by : (t : Bool) → 0 < pick t (suc (name_length l)) 0 → t ≡ true
    by true h = refl
    by false h = absurd (omega arith)
name_byte_at (b ∷ l) (suc i) h = name_byte_at l i (by (name_byte b) h)
  where
    by : (t : Bool) → suc i < pick t (suc (name_length l)) 0 → i < name_length l
    by true h = omega arith
    by false h = omega arith

name_length_is : (l : List ℕ) (k : ℕ) → k ≤ length l → ((i : ℕ) → i < k → name_byte (get_or l i 0) ≡ true) → ((i : ℕ) → k ≤ i → i < length l → get_or l i 0 ≡ 0) → name_length l ≡ k
unfolding name_length name_byte
name_length_is [] k h f g = omega arith
name_length_is (b ∷ l) zero h f g = let e : b ≡ 0 = g 0 (omega arith) (omega arith) in rw e
name_length_is (b ∷ l) (suc k) h f g = rw (f 0 (omega arith)) (ap suc (name_length_is l k (omega arith) (λ i m. f (suc i) (omega arith)) (λ i m n. g (suc i) (omega arith) (omega arith))))

module _ (n : List ℕ) where
  abbrev long : Bool
  long = eqb (length n) 16

  abbrev some : Bool
  some = ltb 0 (name_length n)

  name_rules : is_name n ≡ true → NameRules n
  unfolding is_name
  name_rules h =
      let rest = all_zero (drop (name_length n) n) in
      let front = and_left (long && some) rest h in
      let sixteen = eqb-true (length n) 16 (and_left long some front) in
      record {
        sixteen = sixteen;
        size = name_length n;
        least = omega (arith, ltb-true 0 (name_length n) (and_right long some front));
        most = omega (arith, name_short n, sixteen);
        allowed = λ i k. byte_rule (get_or n i 0) (name_byte_at n i k);
        zeros = λ i k m. let e : name_length n + (i - name_length n) ≡ i = omega arith in
            ap (λ (j : ℕ). get_or n j 0) (sym e) ∙ sym (get_or-drop (name_length n) n (i - name_length n) 0) ∙ zero_at (drop (name_length n) n) (and_right (long && some) rest h) (i - name_length n);
      }

  rules_name : NameRules n → is_name n ≡ true
  unfolding is_name
  rules_name r =
      let e : name_length n ≡ r.size = name_length_is n r.size (omega (arith, r.most, r.sixteen)) (λ i k. rule_byte (get_or n i 0) (r.allowed i k)) (λ i k m. r.zeros i k (omega (arith, r.sixteen))) in
      both
      (both (eq-eqb (length n) 16 r.sixteen) (lt-ltb 0 (name_length n) (omega (arith, e, r.least))))
      (at_zero (drop (name_length n) n) (λ i k. get_or-drop (name_length n) n i 0 ∙ zero_after e i k))
    where
      zero_after : name_length n ≡ r.size → (i : ℕ) → i < length (drop (name_length n) n) → get_or n (name_length n + i) 0 ≡ 0
      zero_after e i k = let m : name_length n + i < 16 = omega (arith, rw length-drop at k, r.sixteen) in r.zeros (name_length n + i) (omega (arith, e)) m

pub name_rules_claim : NameRulesClaim
unfolding NameRulesClaim
name_rules_claim n = (name_rules n, rules_name n)

-- the name of no earlier descriptor
unnamed_at : (ds : List Descriptor) (n : List ℕ) → named ds n ≡ false → (k : ℕ) → k < length ds → (get_or ds k no_descriptor).name ≡ n → ⊥
unnamed_at [] n h k m e = omega arith
unnamed_at (d ∷ ds) n h zero m e = no (sym (or_false_both (same d.name n) (named ds n) (sym (named_cons d ds n) ∙ h)).0 ∙ rw e (same_self n))
unnamed_at (d ∷ ds) n h (suc k) m e = unnamed_at ds n (or_false_both (same d.name n) (named ds n) (sym (named_cons d ds n) ∙ h)).1 k (omega arith) e

at_unnamed : (ds : List Descriptor) (n : List ℕ) → ((k : ℕ) → k < length ds → (get_or ds k no_descriptor).name ≡ n → ⊥) → named ds n ≡ false
at_unnamed [] n h = named_none n
at_unnamed (d ∷ ds) n h = named_cons d ds n ∙ by (same d.name n) refl (at_unnamed ds n (λ k m. h (suc k) (omega arith)))
  where
    by : (t : Bool) → same d.name n ≡ t → named ds n ≡ false → (t || named ds n) ≡ false
    by true e f = absurd (h 0 (omega arith) (same_equal d.name n e))
    by false e f = f

-- c
cost_1 : (layout volume : ℕ) → layout ≡ 1 → cost layout volume ≡ 1 + (volume + 127) / 128
unfolding cost table_count
cost_1 layout volume e = rw (eq-eqb layout 1 e)

cost_2 : (layout volume : ℕ) → layout ≡ 2 → cost layout volume ≡ 1
unfolding cost
cost_2 layout volume e = rw (ne_eqb layout 1 (omega (arith, e)))

module _ (c : List ℕ) (earlier : List Descriptor) (p : ℕ) where
  abbrev d : Descriptor
  d = descriptor_at c p

  -- the numbers of the descriptor in a block
  number_is : (q k : ℕ) → u32_at c (512 * q + k) ≡ number_at c q k
  unfolding u32_at
  number_is q k = omega arith

  layout_is : (q : ℕ) → (descriptor_at c q).layout ≡ number_at c q 4
  unfolding descriptor_at
  layout_is q = number_is q 4

  volume_is : (q : ℕ) → (descriptor_at c q).volume ≡ number_at c q 8
  unfolding descriptor_at
  volume_is q = number_is q 8

  alpha_is : d.alpha.0 ≡ number_at c p 12
  unfolding descriptor_at
  alpha_is = number_is p 12

  beta_is : d.beta.0 ≡ number_at c p 16
  unfolding descriptor_at
  beta_is = number_is p 16

  next_is : d.next.0 ≡ number_at c p 20
  unfolding descriptor_at
  next_is = number_is p 20

  revision_is : (q : ℕ) → revision_at c q ≡ number_at c q 40
  unfolding revision_at
  revision_is q = number_is q 40

  reserved_is : reserved_ok (revision_of c) (part c (512 * p + 40) 24) ≡ ((revision_ok (revision_at c p) && eqb (revision_at c p) (revision_of c)) && all_zero (part c (512 * p + 44) 20))
  unfolding reserved_ok
  reserved_is = let e : 512 * p + 40 + 4 ≡ 512 * p + 44 = omega arith in rw (revision_part c p, drop_part c (512 * p + 40) 4 20, e)

  name_is : d.name ≡ take 16 (drop (512 * p + 24) c)
  unfolding descriptor_at
  name_is = refl

  -- the tests, each by itself, and what 01 says
  record Tests : Type 0 where
    mark_test : same (part c (512 * p) 4) mark ≡ true
    layout_test : (eqb d.layout 1 || eqb d.layout 2) ≡ true
    least_test : ltb 0 d.volume ≡ true
    most_test : leb d.volume 14336 ≡ true
    name_test : is_name d.name ≡ true
    reserved_test : reserved_ok (revision_of c) (part c (512 * p + 40) 24) ≡ true
    phi_test : phi_ok d.layout (part c (512 * p + 64) 448) ≡ true
    same_layout_test : eqb d.layout (descriptor_at c 0).layout ≡ true
    same_volume_test : eqb d.volume (descriptor_at c 0).volume ≡ true
    alpha_test : eqb d.alpha.0 p ≡ true
    opening_test : leb (d.alpha.0 + cost_of d) d.beta.0 ≡ true
    end_test : leb d.beta.0 (block_count c) ≡ true
    next_test : (eqb d.next.0 0 || (eqb d.next.0 d.beta.0 && ltb d.beta.0 (block_count c))) ≡ true
    own_name_test : not (named earlier d.name) ≡ true

  tested : Tests → sound c earlier p ≡ true
  unfolding sound form_ok region_ok
  tested t =
      both (both
      (both (both (both (both (both (both t.mark_test t.layout_test) t.least_test) t.most_test) t.name_test) t.reserved_test) t.phi_test)
      (both (both (both (both (both t.same_layout_test t.same_volume_test) t.alpha_test) t.opening_test) t.end_test) t.next_test))
      t.own_name_test

  tests : sound c earlier p ≡ true → Tests
  unfolding sound form_ok region_ok
  tests h =
      let u = halves h in
      let v = halves u.0 in
      let f₆ = halves v.0 in
      let f₅ = halves f₆.0 in
      let f₄ = halves f₅.0 in
      let f₃ = halves f₄.0 in
      let f₂ = halves f₃.0 in
      let f₁ = halves f₂.0 in
      let r₅ = halves v.1 in
      let r₄ = halves r₅.0 in
      let r₃ = halves r₄.0 in
      let r₂ = halves r₃.0 in
      let r₁ = halves r₂.0 in
      record {
        mark_test = f₁.0;
        layout_test = f₁.1;
        least_test = f₂.1;
        most_test = f₃.1;
        name_test = f₄.1;
        reserved_test = f₅.1;
        phi_test = f₆.1;
        same_layout_test = r₁.0;
        same_volume_test = r₁.1;
        alpha_test = r₂.1;
        opening_test = r₃.1;
        end_test = r₄.1;
        next_test = r₅.1;
        own_name_test = u.1;
      }

  rules : Tests → length earlier < 256 → SoundRules c earlier p
  unfolding revision_ok phi_ok block_count
  rules t few =
      let layout_eq : d.layout ≡ number_at c p 4 = layout_is p in
      let volume_eq : d.volume ≡ number_at c p 8 = volume_is p in
      let opening : d.alpha.0 + cost_of d ≤ d.beta.0 = leb-true _ _ t.opening_test in
      record {
        mark = same_equal _ _ t.mark_test;
        layout = layout_by (either (eqb d.layout 1) (eqb d.layout 2) t.layout_test);
        volume_least = omega (arith, volume_eq, ltb-true 0 d.volume t.least_test);
        volume_most = omega (arith, volume_eq, leb-true d.volume 14336 t.most_test);
        name = subst NameRules name_is (name_rules d.name t.name_test);
        revision = revision_by (either (eqb (revision_at c p) 0) (eqb (revision_at c p) 1) kept.0.0);
        same_revision = sym (revision_is p) ∙ eqb-true _ _ kept.0.1 ∙ revision_is 0;
        zeros = λ i low high. zero_from_lem 44 20 kept.1 i low (omega arith);
        zeros_layout_1 = λ e i low high. zero_from_lem 64 448 (rw (eq-eqb d.layout 1 (layout_eq ∙ e)) at t.phi_test) i low (omega arith);
        same_layout = sym layout_eq ∙ eqb-true _ _ t.same_layout_test ∙ layout_is 0;
        same_volume = sym volume_eq ∙ eqb-true _ _ t.same_volume_test ∙ volume_is 0;
        alpha = sym alpha_is ∙ eqb-true _ _ t.alpha_test;
        opening_1 = λ e n r. omega (arith, opening, cost_1 d.layout d.volume (layout_eq ∙ e), volume_eq, alpha_is, beta_is, r.0, r.1);
        opening_2 = λ e. omega (arith, opening, cost_2 d.layout d.volume (layout_eq ∙ e), alpha_is, beta_is);
        end = omega (arith, beta_is, leb-true d.beta.0 (length c / 512) t.end_test);
        next = next_by (either (eqb d.next.0 0) (eqb d.next.0 d.beta.0 && ltb d.beta.0 (length c / 512)) t.next_test);
        own_name = λ k m e. unnamed_at earlier d.name (not-true (named earlier d.name) t.own_name_test) k m (e ∙ sym name_is);
        among = few;
      }
    where
      kept : ((revision_ok (revision_at c p) ≡ true) × (eqb (revision_at c p) (revision_of c) ≡ true)) × (all_zero (part c (512 * p + 44) 20) ≡ true)
      kept = let h = halves (sym reserved_is ∙ t.reserved_test) in (halves h.0, h.1)

      revision_by : (eqb (revision_at c p) 0 ≡ true) ⊎ (eqb (revision_at c p) 1 ≡ true) → (number_at c p 40 ≡ 0) ⊎ (number_at c p 40 ≡ 1)
      revision_by (inl e) = inl (sym (revision_is p) ∙ eqb-true (revision_at c p) 0 e)
      revision_by (inr e) = inr (sym (revision_is p) ∙ eqb-true (revision_at c p) 1 e)

      layout_by : (eqb d.layout 1 ≡ true) ⊎ (eqb d.layout 2 ≡ true) → (number_at c p 4 ≡ 1) ⊎ (number_at c p 4 ≡ 2)
      layout_by (inl e) = inl (sym (layout_is p) ∙ eqb-true d.layout 1 e)
      layout_by (inr e) = inr (sym (layout_is p) ∙ eqb-true d.layout 2 e)

      zero_from_lem : (b n : ℕ) → all_zero (part c (512 * p + b) n) ≡ true → (i : ℕ) → b ≤ i → i < b + n → get_or c (512 * p + i) 0 ≡ 0
      zero_from_lem b n h i low high =
          let e : 512 * p + b + (i - b) ≡ 512 * p + i = omega arith in
          ap (λ (j : ℕ). get_or c j 0) (sym e) ∙ part_zero c (512 * p + b) n h (i - b) (omega arith)

      next_by : (eqb d.next.0 0 ≡ true) ⊎ ((eqb d.next.0 d.beta.0 && ltb d.beta.0 (length c / 512)) ≡ true)
          → (number_at c p 20 ≡ 0) ⊎ ((number_at c p 20 ≡ number_at c p 16) × (number_at c p 16 < length c / 512))
      next_by (inl e) = inl (sym next_is ∙ eqb-true d.next.0 0 e)
      next_by (inr e) =
          let f = and_left (eqb d.next.0 d.beta.0) (ltb d.beta.0 (length c / 512)) e in
          let g = and_right (eqb d.next.0 d.beta.0) (ltb d.beta.0 (length c / 512)) e in
          inr (sym next_is ∙ eqb-true d.next.0 d.beta.0 f ∙ beta_is, omega (arith, beta_is, ltb-true d.beta.0 (length c / 512) g))

  ruled : SoundRules c earlier p → Tests
  unfolding revision_ok phi_ok block_count
  ruled r =
      let layout_eq : d.layout ≡ number_at c p 4 = layout_is p in
      let volume_eq : d.volume ≡ number_at c p 8 = volume_is p in
      record {
        mark_test = rw r.mark (same_self mark);
        layout_test = layout_by r.layout;
        least_test = lt-ltb 0 d.volume (omega (arith, volume_eq, r.volume_least));
        most_test = le-leb d.volume 14336 (omega (arith, volume_eq, r.volume_most));
        name_test = rules_name d.name (subst NameRules (sym name_is) r.name);
        reserved_test = reserved_is ∙ both (both (revision_by r.revision) (eq-eqb _ _ (revision_is p ∙ r.same_revision ∙ sym (revision_is 0))))
            (zero_part c (512 * p + 44) 20 (λ i k. let e : 512 * p + 44 + i ≡ 512 * p + (44 + i) = omega arith in rw e (r.zeros (44 + i) (omega arith) (omega arith))));
        phi_test = phi_by_lem (eqb d.layout 1) refl;
        same_layout_test = eq-eqb _ _ (layout_eq ∙ r.same_layout ∙ sym (layout_is 0));
        same_volume_test = eq-eqb _ _ (volume_eq ∙ r.same_volume ∙ sym (volume_is 0));
        alpha_test = eq-eqb _ _ (alpha_is ∙ r.alpha);
        opening_test = le-leb _ _ (opening_by r.layout);
        end_test = le-leb d.beta.0 (length c / 512) (omega (arith, beta_is, r.end));
        next_test = next_by r.next;
        own_name_test = rw (at_unnamed earlier d.name (λ k m e. r.own_name k m (e ∙ name_is)));
      }
    where
      revision_by : (number_at c p 40 ≡ 0) ⊎ (number_at c p 40 ≡ 1) → (eqb (revision_at c p) 0 || eqb (revision_at c p) 1) ≡ true
      revision_by (inl e) = left_or (eqb (revision_at c p) 0) (eqb (revision_at c p) 1) (eq-eqb (revision_at c p) 0 (revision_is p ∙ e))
      revision_by (inr e) = true_or (eqb (revision_at c p) 0) (eqb (revision_at c p) 1) (eq-eqb (revision_at c p) 1 (revision_is p ∙ e))

      layout_by : (number_at c p 4 ≡ 1) ⊎ (number_at c p 4 ≡ 2) → (eqb d.layout 1 || eqb d.layout 2) ≡ true
      layout_by (inl e) = left_or (eqb d.layout 1) (eqb d.layout 2) (eq-eqb d.layout 1 (layout_is p ∙ e))
      layout_by (inr e) = true_or (eqb d.layout 1) (eqb d.layout 2) (eq-eqb d.layout 2 (layout_is p ∙ e))

      phi_by_lem : (t : Bool) → eqb d.layout 1 ≡ t → pick t (all_zero (part c (512 * p + 64) 448)) true ≡ true
      phi_by_lem true h =
          zero_part c (512 * p + 64) 448 (λ i k. let e : 512 * p + 64 + i ≡ 512 * p + (64 + i) = omega arith in
          rw e (r.zeros_layout_1 (sym (layout_is p) ∙ eqb-true d.layout 1 h) (64 + i) (omega arith) (omega arith)))
      phi_by_lem false h = refl

      opening_by : (number_at c p 4 ≡ 1) ⊎ (number_at c p 4 ≡ 2) → d.alpha.0 + cost_of d ≤ d.beta.0
      opening_by (inl e) =
          let n = (number_at c p 8 + 127) / 128 in
          let q : number_at c p 12 + (1 + n) ≤ number_at c p 16 = r.opening_1 e n (omega arith, omega arith) in
          omega (arith, q, cost_1 d.layout d.volume (layout_is p ∙ e), volume_is p, alpha_is, beta_is)
      opening_by (inr e) = omega (arith, r.opening_2 e, cost_2 d.layout d.volume (layout_is p ∙ e), alpha_is, beta_is)

      next_by : (number_at c p 20 ≡ 0) ⊎ ((number_at c p 20 ≡ number_at c p 16) × (number_at c p 16 < length c / 512))
          → (eqb d.next.0 0 || (eqb d.next.0 d.beta.0 && ltb d.beta.0 (length c / 512))) ≡ true
      next_by (inl e) = left_or (eqb d.next.0 0) _ (eq-eqb d.next.0 0 (next_is ∙ e))
      next_by (inr e) =
          true_or (eqb d.next.0 0) (eqb d.next.0 d.beta.0 && ltb d.beta.0 (length c / 512))
          (both {a = eqb d.next.0 d.beta.0} {b = ltb d.beta.0 (length c / 512)} (eq-eqb d.next.0 d.beta.0 (next_is ∙ e.0 ∙ sym beta_is)) (lt-ltb d.beta.0 (length c / 512) (omega (arith, beta_is, e.1))))

pub sound_rules_claim : SoundRulesClaim
unfolding SoundRulesClaim
sound_rules_claim c earlier p = (λ h. rules c earlier p (tests c earlier p h.0) h.1, λ r. (tested c earlier p (ruled c earlier p r), r.among))
