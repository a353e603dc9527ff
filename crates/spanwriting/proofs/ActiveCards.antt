-- A card with its active descriptor, as the code of a span write knows it; and the card after a write, with what the walk would find.
use mathlib.Core.Path.{◌≡◌, refl, sym, ap, ◌∙◌, subst}
use mathlib.Core.Bool.{true}
use mathlib.Core.List.{List, [], ◌∷◌, ◌++◌}
use Prim.Native.Nat.{ℕ, suc, ◌+◌, ◌≤◌, ◌<◌}
use native.Mathlib.Omega.{arith}
use lib.ListN.{length, set, length-append}
use Rattle.blocks.specs.Bytes.{store_all}
use Rattle.blocks.specs.Descriptor.{physical, extended_of}
use Rattle.blocks.specs.declared.descriptor.Descriptor.{Descriptor}
use Rattle.blocks.proofs.StoreLists.{stored_length}
use Rattle.chains.specs.Chain.{Sound, chain, chain_sound, active_of, ends, starts_of, Regions, regions_of}
use Rattle.links.proofs.ChainLaws.{active_snoc, descriptors_are}
use Rattle.entries.specs.Through.{Through}
use Rattle.entries.proofs.RegionLaws.{through_rising, through_starts, through_count}
use Rattle.calls.specs.Parts.{descriptors_of, snapshots_of}
use Rattle.calls.specs.Stores.{write_stores, write_need}
use Rattle.calls.proofs.Passed.{WritePassed}
use Rattle.calls.proofs.CardLaws.{chain_is, area_kept, card_sound, card_some, card_few, card_active_through}
use Rattle.calls.proofs.ActiveLaws.{active_last}
use Rattle.changes.proofs.WholeLaws.{write_whole}
use Rattle.changes.proofs.WrittenChain.{written_chain}
use Rattle.spanwriting.specs.Planned.{ActiveCard}

-- where the regions start, with the last one ending elsewhere
ends_last : (xs : List Descriptor) (d x : Descriptor) → ends (xs ++ (x ∷ [])) ≡ set (ends (xs ++ (d ∷ []))) (length xs) x.beta.0
unfolding ends
ends_last [] d x = refl
ends_last (y ∷ xs) d x = ap (λ (es : List ℕ). y.beta.0 ∷ es) (ends_last xs d x)

starts_last : (xs : List Descriptor) (d x : Descriptor) → starts_of (xs ++ (x ∷ [])) ≡ set (starts_of (xs ++ (d ∷ []))) (suc (length xs)) x.beta.0
unfolding starts_of
starts_last xs d x = ap (λ (es : List ℕ). 0 ∷ es) (ends_last xs d x)

regions_are : (t : List ℕ) (ds : List Descriptor) → chain t ≡ Sound ds → regions_of (chain t) ≡ record { sound = true; place = physical 0; active = active_of (descriptors_of t); count = length ds; starts = starts_of ds }
unfolding regions_of
regions_are t ds e =
    ap regions_of e ∙ ap (λ (d : Descriptor). record { sound = true; place = physical 0; active = d; count = length ds; starts = starts_of ds }) (sym (ap active_of (descriptors_are t ds e)))

module _ (c starts : List ℕ) (count : ℕ) (d : Descriptor) (a : ActiveCard c starts count d) where
  abbrev r : Regions
  r = record { sound = true; place = physical 0; active = active_of (descriptors_of c); count = count; starts = starts }

  pub active_ready : Through c starts count d
  active_ready = subst (λ (x : Descriptor). Through c starts count x) (sym a.active) (card_active_through c r (sym a.sound.regions) a.sound.area refl)

  pub active_some : 0 < count
  active_some = card_some c r (sym a.sound.regions) a.sound.area refl

  pub active_sound : chain_sound (chain c) ≡ true
  active_sound = card_sound c r (sym a.sound.regions) refl

  -- after a write
  module _ (l : ℕ) (block : List ℕ) (ok : WritePassed c l block) (n : ℕ) (taken : n ≡ write_need c l) where
    abbrev t : List ℕ
    t = store_all c (write_stores c l block)

    abbrev xs : List Descriptor
    xs = snapshots_of (descriptors_of c)

    chain_after : chain t ≡ Sound (xs ++ (extended_of d n ∷ []))
    unfolding write_need
    chain_after =
        written_chain c l block ok
        ∙ ap (λ (k : ℕ). Sound (xs ++ (extended_of (active_of (descriptors_of c)) k ∷ []))) (sym taken)
        ∙ ap (λ (x : Descriptor). Sound (xs ++ (extended_of x n ∷ []))) (sym a.active)

    all_before : descriptors_of c ≡ xs ++ (d ∷ [])
    all_before = active_last c (descriptors_of c) (chain_is (chain c) active_sound) ∙ ap (λ (x : Descriptor). xs ++ (x ∷ [])) (sym a.active)

    count_is : count ≡ suc (length xs)
    count_is = omega (arith, through_count c starts count d active_ready, ap length all_before, length-append xs (d ∷ []))

    starts_are : starts ≡ starts_of (xs ++ (d ∷ []))
    starts_are = through_starts c starts count d active_ready ∙ ap starts_of all_before

    count_after : length (xs ++ (extended_of d n ∷ [])) ≡ count
    count_after = omega (arith, length-append xs (extended_of d n ∷ []), count_is)

    starts_after : starts_of (xs ++ (extended_of d n ∷ [])) ≡ set starts count (d.beta.0 + n)
    starts_after = starts_last xs d (extended_of d n) ∙ ap (λ (k : ℕ). set (starts_of (xs ++ (d ∷ []))) k (d.beta.0 + n)) (sym count_is) ∙ ap (λ (ss : List ℕ). set ss count (d.beta.0 + n)) (sym starts_are)

    pub active_after : (e : Descriptor) → e ≡ extended_of d n → (card : List ℕ) → card ≡ t → ActiveCard card (set starts count e.beta.0) count e
    active_after e is card card_is =
        let regions =
        regions_are t (xs ++ (extended_of d n ∷ [])) chain_after
        ∙ ap (λ (k : ℕ). record { sound = true; place = physical 0; active = active_of (descriptors_of t); count = k; starts = starts_of (xs ++ (extended_of d n ∷ [])) }) count_after
        ∙ ap (λ (ss : List ℕ). record { sound = true; place = physical 0; active = active_of (descriptors_of t); count = count; starts = ss }) starts_after in
        rw (card_is, is)
        (record {
          sound = record { area = sym (area_kept c t (sym (stored_length (length c) c refl (write_whole c l block ok)))) ∙ a.sound.area; regions = regions };
          active = sym (ap active_of (descriptors_are t (xs ++ (extended_of d n ∷ [])) chain_after) ∙ active_snoc xs (extended_of d n));
        })
