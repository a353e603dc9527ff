-- A chain is `Sound` exactly with its descriptors, and `Unsound` exactly at its first unsound one.
use mathlib.Core.Path.{◌≡◌, refl, sym, ap, ◌∙◌, subst}
use mathlib.Core.Bool.{Bool, true, false}
use mathlib.Core.List.{List, [], ◌∷◌, ◌++◌}
use Prim.Native.Nat.{ℕ, zero, suc, ◌+◌}
use native.Mathlib.Omega.{arith}
use lib.ListN.{length, length-append}
use lib.Seq.{append_snoc}
use lib.Dec.{eqb}
use borrow.Author.Tests.{eqb-true, eqb-false, eq-eqb, ne_eqb}
use Rattle.blocks.specs.Pick.{pick}
use Rattle.blocks.specs.Descriptor.{descriptor_at}
use Rattle.blocks.specs.declared.descriptor.Descriptor.{Descriptor}
use Rattle.chains.specs.Chain.{sound, Chain, Unsound, Sound, chain_from, chain, chain_place}
use Rattle.chains.specs.Chained.{FirstUnsound, here, past, on, Chained, last, link}

-- the walk along the chain, with as much fuel as there may be more descriptors
module _ (c : List ℕ) where
  stopped : (ch : Chain) (p q : ℕ) → ch ≡ Unsound p → ch ≡ Unsound q → p ≡ q
  unfolding chain_place
  stopped ch p q e f = ap chain_place (sym e ∙ f)

  walk_by : (fuel : ℕ) (es : List Descriptor) (p q : ℕ) → length es + suc fuel ≡ 256
      → ((es' : List Descriptor) (p' : ℕ) → length es' + fuel ≡ 256 → chain_from c fuel es' p' ≡ Unsound q → FirstUnsound c es' p' q)
      → (s z : Bool) → sound c es p ≡ s → eqb (descriptor_at c p).next.0 0 ≡ z
      → pick s (pick z (Sound (es ++ (descriptor_at c p ∷ []))) (chain_from c fuel (es ++ (descriptor_at c p ∷ [])) (descriptor_at c p).next.0)) (Unsound p) ≡ Unsound q
      → FirstUnsound c es p q
  walk_by fuel es p q l later true true hs hz e = let y : ◌≡◌ {A = ℕ} 0 1 = cc in absurd (omega arith)
  walk_by fuel es p q l later true false hs hz e =
      on {earlier = es} (omega arith) hs (eqb-false _ _ hz) (later (es ++ (descriptor_at c p ∷ [])) (descriptor_at c p).next.0 (omega (arith, length-append es (descriptor_at c p ∷ []))) e)
  walk_by fuel es p q l later false z hs hz e = subst (λ (x : ℕ). FirstUnsound c es p x) (stopped (Unsound p) p q refl e) (here {earlier = es} (omega arith) hs)

  walk_place : (fuel : ℕ) (es : List Descriptor) (p q : ℕ) → length es + fuel ≡ 256 → chain_from c fuel es p ≡ Unsound q → FirstUnsound c es p q
  unfolding chain_from
  walk_place zero es p q l e = subst (λ (x : ℕ). FirstUnsound c es p x) (stopped (Unsound p) p q refl e) (past {earlier = es} (omega arith))
  walk_place (suc fuel) es p q l e = walk_by fuel es p q l (λ es' p'. walk_place fuel es' p' q) (sound c es p) (eqb (descriptor_at c p).next.0 0) refl refl e

  place_walk : (fuel : ℕ) (es : List Descriptor) (p q : ℕ) → length es + fuel ≡ 256 → FirstUnsound c es p q → chain_from c fuel es p ≡ Unsound q
  unfolding chain_from
  place_walk zero es p q l (here few h) = absurd (omega arith)
  place_walk zero es p q l (past many) = refl
  place_walk zero es p q l (on few h n rest) = absurd (omega arith)
  place_walk (suc fuel) es p q l (here few h) = rw h
  place_walk (suc fuel) es p q l (past many) = absurd (omega arith)
  place_walk (suc fuel) es p q l (on few h n rest) =
      rw (h, ne_eqb (descriptor_at c p).next.0 0 n)
      (place_walk fuel (es ++ (descriptor_at c p ∷ [])) (descriptor_at c p).next.0 q (omega (arith, length-append es (descriptor_at c p ∷ []))) rest)

  pub chain_place_lem : (q : ℕ) → chain c ≡ Unsound q → FirstUnsound c [] 0 q
  unfolding chain
  chain_place_lem q e = walk_place 256 [] 0 q refl e

  pub place_chain : (q : ℕ) → FirstUnsound c [] 0 q → chain c ≡ Unsound q
  unfolding chain
  place_chain q f = place_walk 256 [] 0 q refl f

-- the same walk where it finds no fault
module _ (c : List ℕ) where
  abbrev Rest : List Descriptor → List Descriptor → ℕ → Type 0
  Rest ds es p = (rest : List Descriptor) × (ds ≡ es ++ rest) × Chained c es p rest

  sound_by : (fuel : ℕ) (es : List Descriptor) (p : ℕ) (ds : List Descriptor) → length es + suc fuel ≡ 256
      → ((es' : List Descriptor) (p' : ℕ) → length es' + fuel ≡ 256 → chain_from c fuel es' p' ≡ Sound ds → Rest ds es' p')
      → (s z : Bool) → sound c es p ≡ s → eqb (descriptor_at c p).next.0 0 ≡ z
      → pick s (pick z (Sound (es ++ (descriptor_at c p ∷ []))) (chain_from c fuel (es ++ (descriptor_at c p ∷ [])) (descriptor_at c p).next.0)) (Unsound p) ≡ Sound ds
      → Rest ds es p
  sound_by fuel es p ds l later true true hs hz e = (descriptor_at c p ∷ [], cc, last {earlier = es} (omega arith) hs (eqb-true _ _ hz))
  sound_by fuel es p ds l later true false hs hz e =
      let r = later (es ++ (descriptor_at c p ∷ [])) (descriptor_at c p).next.0 (omega (arith, length-append es (descriptor_at c p ∷ []))) e in
      (descriptor_at c p ∷ r.0, r.1 ∙ append_snoc es (descriptor_at c p) r.0, link {earlier = es} (omega arith) hs (eqb-false _ _ hz) r.2)
  sound_by fuel es p ds l later false z hs hz e = let y : ◌≡◌ {A = ℕ} 0 1 = cc in absurd (omega arith)

  walk_sound : (fuel : ℕ) (es : List Descriptor) (p : ℕ) (ds : List Descriptor) → length es + fuel ≡ 256 → chain_from c fuel es p ≡ Sound ds → Rest ds es p
  unfolding chain_from
  walk_sound zero es p ds l e = let y : ◌≡◌ {A = ℕ} 0 1 = cc in absurd (omega arith)
  walk_sound (suc fuel) es p ds l e = sound_by fuel es p ds l (λ es' p'. walk_sound fuel es' p' ds) (sound c es p) (eqb (descriptor_at c p).next.0 0) refl refl e

  sound_walk : (fuel : ℕ) (es : List Descriptor) (p : ℕ) (ds : List Descriptor) → length es + fuel ≡ 256 → Chained c es p ds → chain_from c fuel es p ≡ Sound (es ++ ds)
  unfolding chain_from
  sound_walk zero es p ds l (last few h z) = absurd (omega arith)
  sound_walk zero es p ds l (link few h n rest) = absurd (omega arith)
  sound_walk (suc fuel) es p ds l (last few h z) = rw (h, eq-eqb (descriptor_at c p).next.0 0 z)
  sound_walk (suc fuel) es p ds l (link {ds = ds'} few h n rest) =
      rw (h, ne_eqb (descriptor_at c p).next.0 0 n)
      (sound_walk fuel (es ++ (descriptor_at c p ∷ [])) (descriptor_at c p).next.0 ds' (omega (arith, length-append es (descriptor_at c p ∷ []))) rest
      ∙ ap Sound (append_snoc es (descriptor_at c p) ds'))

  pub chain_chained : (ds : List Descriptor) → chain c ≡ Sound ds → Chained c [] 0 ds
  unfolding chain
  chain_chained ds e = let r = walk_sound 256 [] 0 ds refl e in rw r.1 r.2

  pub chained_chain : (ds : List Descriptor) → Chained c [] 0 ds → chain c ≡ Sound ds
  unfolding chain
  chained_chain ds h = sound_walk 256 [] 0 ds refl h
