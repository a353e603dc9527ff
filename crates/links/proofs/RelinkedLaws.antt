-- Where the descriptors of a chain stand; chains after stores: descriptors before the one that changes stay linked, and a descriptor that was stored is sound.
use mathlib.Core.Path.{◌≡◌, sym, ap, ◌∙◌, subst}
use mathlib.Core.Bool.{true}
use mathlib.Core.List.{List, [], ◌∷◌, ◌++◌, append-nil}
use Prim.Native.Nat.{ℕ, ◌*◌, ◌≤◌, ◌<◌}
use native.Mathlib.Omega.{arith}
use lib.ListN.{length, length-append}
use lib.Seq.{append_snoc}
use Rattle.blocks.specs.Bytes.{block_at}
use Rattle.blocks.specs.Descriptor.{descriptor_at}
use Rattle.chains.specs.Chain.{sound}
use Rattle.blocks.specs.declared.descriptor.Descriptor.{Descriptor}
use Rattle.blocks.proofs.DescriptorLaws.{cost_least}
use Rattle.links.proofs.LinkedLaws.{Linked, last, more, sound_alpha, sound_long, sound_next, linked_some}
use Rattle.links.proofs.SharedLaws.{shared_descriptor, shared_revision, shared_sound}

-- where the descriptors of a chain stand
module _ (s : List ℕ) where
  pub first_alpha : {es : List Descriptor} {p : ℕ} {ds : List Descriptor} → Linked s es p ds → (d : Descriptor) (ys : List Descriptor) → ds ≡ d ∷ ys → d.alpha.0 ≡ p
  first_alpha (last {es = es} {p = p} {d = e} is ok z) d ys q = let k : e ≡ d = cc in rw (← k) (sound_alpha s es p e is ok)
  first_alpha (more {es = es} {p = p} {d = e} is ok z rest) d ys q = let k : e ≡ d = cc in rw (← k) (sound_alpha s es p e is ok)

  pub later_alpha : {es : List Descriptor} {p : ℕ} {ds : List Descriptor} → Linked s es p ds → (xs : List Descriptor) (d : Descriptor) (ys : List Descriptor) → ds ≡ xs ++ (d ∷ ys) → p ≤ d.alpha.0
  later_alpha h [] d ys q = omega (arith, first_alpha h d ys q)
  later_alpha (last is ok z) (x ∷ xs) d ys q = omega (arith, ap length q, length-append xs (d ∷ ys))
  later_alpha (more {es = es} {p = p} {d = e} {ds = ds} is ok z rest) (x ∷ xs) d ys q =
      let k : ds ≡ xs ++ (d ∷ ys) = cc in
      omega (arith, later_alpha rest xs d ys k, sound_long s es p e is ok, sound_next s es p e is ok z)

  -- the chain from one of its descriptors on
  pub linked_from : {es : List Descriptor} {p : ℕ} {ds : List Descriptor} → Linked s es p ds → (xs : List Descriptor) (d : Descriptor) (ys : List Descriptor) → ds ≡ xs ++ (d ∷ ys)
      → Linked s (es ++ xs) d.alpha.0 (d ∷ ys)
  linked_from {es = es} {p = p} h [] d ys q =
      rw (append-nil es) (subst (λ (n : ℕ). Linked s es n (d ∷ ys)) (sym (first_alpha h d ys q)) (subst (λ (x : List Descriptor). Linked s es p x) q h))
  linked_from (last is ok z) (x ∷ xs) d ys q = absurd (omega (arith, ap length q, length-append xs (d ∷ ys)))
  linked_from (more {es = es} {p = p} {d = e} {ds = ds} is ok z rest) (x ∷ xs) d ys q =
      let k : ds ≡ xs ++ (d ∷ ys) = cc in
      let x_is : e ≡ x = cc in
      rw (← x_is, ← (append_snoc es e xs)) (linked_from rest xs d ys k)

  pub linked_head : {es : List Descriptor} {p : ℕ} {ds : List Descriptor} → Linked s es p ds → (d : Descriptor) (ys : List Descriptor) → ds ≡ d ∷ ys → (d ≡ descriptor_at s p) × (sound s es p ≡ true)
  linked_head (last {d = e} is ok z) d ys q = let k : e ≡ d = cc in (sym k ∙ is, ok)
  linked_head (more {d = e} is ok z rest) d ys q = let k : e ≡ d = cc in (sym k ∙ is, ok)

  pub linked_next : {es : List Descriptor} {p : ℕ} {ds : List Descriptor} → Linked s es p ds → (d : Descriptor) → ds ≡ d ∷ [] → d.next.0 ≡ 0
  linked_next (last {d = e} is ok z) d q = let k : e ≡ d = cc in rw (← k) z
  linked_next (more {d = e} {ds = ds} is ok z rest) d q = let k : ds ≡ [] = cc in absurd (omega (arith, linked_some rest, ap length k))

  pub linked_follows : {es : List Descriptor} {p : ℕ} {ds : List Descriptor} → Linked s es p ds → (d z : Descriptor) (zs : List Descriptor) → ds ≡ d ∷ z ∷ zs → (d.next.0 ≡ d.beta.0) × (z.alpha.0 ≡ d.beta.0)
  linked_follows (last is ok n) d z zs q = absurd (omega (arith, ap length q))
  linked_follows (more {es = es} {p = p} {d = e} {ds = ds} is ok n rest) d z zs q =
      let k : ds ≡ z ∷ zs = cc in
      let x : e ≡ d = cc in
      let next = sound_next s es p e is ok n in
      let alpha = first_alpha rest z zs k in
      let beta = ap (λ (y : Descriptor). y.beta.0) x in
      (omega (arith, next, beta, ap (λ (y : Descriptor). y.next.0) x), omega (arith, next, alpha, beta))

-- the descriptors before the one at d stay, where the blocks before it do
module _ (s t : List ℕ) (long : length s ≡ length t) where
  module _ (d : Descriptor) (ys zs : List Descriptor) (inside : 512 * d.alpha.0 ≤ length s) (kept : (q : ℕ) → q < d.alpha.0 → block_at s q ≡ block_at t q) where
    kept_descriptor : (q : ℕ) → q < d.alpha.0 → descriptor_at s q ≡ descriptor_at t q
    kept_descriptor q h = shared_descriptor s t q (omega arith) (omega arith) (kept q h)

    kept_sound : (es : List Descriptor) (q : ℕ) → q < d.alpha.0 → sound s es q ≡ sound t es q
    kept_sound es q h =
        let first = kept_descriptor 0 (omega arith) in
        shared_sound s t q (omega arith) (omega arith) (kept q h) long (shared_revision s t 0 (omega arith) (omega arith) (kept 0 (omega arith))) (ap (λ (x : Descriptor). x.layout) first) (ap (λ (x : Descriptor). x.volume) first) es

    pub relinked : {es : List Descriptor} {p : ℕ} {ds : List Descriptor} → Linked s es p ds → (xs : List Descriptor) → ds ≡ xs ++ (d ∷ ys) → Linked t (es ++ xs) d.alpha.0 zs → Linked t es p (xs ++ zs)
    relinked {es = es} h [] q new = rw (← (append-nil es), ← (first_alpha s h d ys q)) new
    relinked (last is ok z) (x ∷ xs) q new = absurd (omega (arith, ap length q, length-append xs (d ∷ ys)))
    relinked (more {es = es} {p = p} {d = e} {ds = ds} is ok z rest) (x ∷ xs) q new =
        let k : ds ≡ xs ++ (d ∷ ys) = cc in
        let x_is : e ≡ x = cc in
        let l : p < d.alpha.0 = omega (arith, later_alpha s rest xs d ys k, sound_long s es p e is ok, sound_next s es p e is ok z, cost_least (descriptor_at s 0).layout (descriptor_at s 0).volume) in
        rw (← x_is)
        (more (is ∙ kept_descriptor p l) (sym (kept_sound es p l) ∙ ok) z
        (relinked rest xs k (rw (append_snoc es e xs) (rw x_is new))))

-- a later region starts where an earlier one ends, or after
pub beta_before : {c : List ℕ} {es : List Descriptor} {p : ℕ} {ds : List Descriptor} → Linked c es p ds → (v : Descriptor) (us : List Descriptor) (u : Descriptor) (ws : List Descriptor) → ds ≡ v ∷ (us ++ (u ∷ ws))
    → v.beta.0 ≤ u.alpha.0
beta_before (last is ok z) v us u ws q = absurd (omega (arith, ap length q, length-append us (u ∷ ws)))
beta_before {c = c} (more {es = es} {p = p} {d = e} {ds = ds} is ok z rest) v us u ws q =
    let k : ds ≡ us ++ (u ∷ ws) = cc in
    let x : e ≡ v = cc in
    omega (arith, later_alpha c rest us u ws k, sound_next c es p e is ok z, ap (λ (y : Descriptor). y.beta.0) x)
