-- The need by places is that of the card.
use mathlib.Core.Path.{◌≡◌, refl, sym, ap, ◌∙◌, subst}
use mathlib.Core.Bool.{Bool, true, false, not, ◌&&◌, ◌||◌}
use mathlib.Core.List.{List, [], ◌∷◌}
use Prim.Native.Nat.{ℕ, suc, ◌-◌, ◌/◌, ◌<◌}
use native.Mathlib.Omega.{arith}
use lib.ListN.{length, get_or, length-append}
use lib.Dec.{eqb, ltb, leb}
use borrow.Author.Tests.{eqb-true, eqb-false, lt-ltb, le-ltb, leb-true, leb-false}
use Rattle.blocks.specs.Pick.{pick}
use Rattle.blocks.specs.Bytes.{block_at}
use Rattle.blocks.specs.Descriptor.{table_count, no_descriptor}
use Rattle.blocks.specs.declared.numbers.Physical.{Physical}
use Rattle.blocks.specs.declared.descriptor.Descriptor.{Descriptor}
use Rattle.blocks.proofs.BoolLaws.{no}
use Rattle.chains.specs.Chain.{Sound, chain, chain_sound, active_of}
use Rattle.links.proofs.LinkedLaws.{active_at}
use Rattle.entries.specs.InPlace.{owner_index}
use Rattle.entries.specs.Entry.{table_of, table_is_new, need}
use Rattle.entries.specs.Found.{Found, Misplaced, Entry}
use Rattle.entries.proofs.EntryLaws.{placed_below, find_placed}
use Rattle.entries.proofs.FoundLaws.{found_holder, found_own, found_placed}
use Rattle.entries.proofs.TableLaws.{group_below}
use Rattle.entries.proofs.LocalLaws.{Region}
use Rattle.calls.specs.Parts.{descriptors_of, snapshots_of, found_through, is_misplaced}
use Rattle.calls.proofs.CardLaws.{chain_is}
use Rattle.calls.proofs.ActiveLaws.{chain_starts, chain_some, active_last}
use Rattle.claims.specs.History.{Nowhere, At}
use Rattle.places.specs.Placed.{Nil, Held, home_of, is_at, placed_need, place_of, cell_found, table_place, cell_place, placed_volume, placed_of, PlacedNeedClaim}
use Rattle.entries.proofs.OwnerLaws.{owner_own}
use Rattle.places.proofs.PlacedLaws.{values_first, placed_length, active_region}

module _ (c : List ℕ) (sound : chain_sound (chain c) ≡ true) where
  abbrev ds : List Descriptor
  ds = descriptors_of c

  abbrev d : Descriptor
  d = active_of ds

  abbrev t : ℕ
  t = length (snapshots_of ds)

  sound_c : chain c ≡ Sound ds
  sound_c = chain_is (chain c) sound

  count : length ds ≡ suc t
  count = omega (arith, ap length (active_last c ds sound_c), length-append (snapshots_of ds) (d ∷ []))

  active_is : get_or ds t no_descriptor ≡ d
  active_is =
      let k : length ds - 1 ≡ t = omega (arith, count) in
      ap (λ (i : ℕ). get_or ds i no_descriptor) (sym k) ∙ sym (active_at ds (chain_some c ds sound_c))

  in_chain : t < length ds
  in_chain = omega (arith, count)

  region : Region d d.beta.0
  region = active_region c ds sound_c

  -- a block of the active region, or of an earlier one
  owner_active : (q : ℕ) → q < d.beta.0 → eqb (owner_index ds q) t ≡ leb d.alpha.0 q
  owner_active q h =
      subst (λ (x : Descriptor). q < x.beta.0 → eqb (owner_index ds q) t ≡ leb x.alpha.0 q) active_is (owner_own c ds (chain_starts c ds sound_c) t in_chain q) h

  module _ (l : ℕ) (inside : l < d.volume) (m p : Physical) (is : found_through c d l ≡ Entry m p) where
    -- the table block of an entry that was found is below beta
    below_by : (o : Bool) → eqb d.layout 1 ≡ o → (m.0 ≡ 0 → ⊥) → m.0 < d.beta.0
    below_by true o n = omega (arith, found_own c ds d l m p is o, region.own (eqb-true d.layout 1 o), group_below l d.volume inside)
    below_by false o n = placed_below ds d m.0 (found_placed c ds d l m p is o) n

    cell_need : (z : Bool) → eqb p.0 0 ≡ z → is_at t (home_of (pick z Nil (Held (owner_index ds p.0) (block_at c p.0)))) ≡ (not z && leb d.alpha.0 p.0)
    unfolding is_at home_of
    cell_need true e = refl
    cell_need false e = owner_active p.0 (placed_below ds d p.0 (find_placed c ds d l m p is) (eqb-false p.0 0 e))

    flip : (q : ℕ) (b : Bool) → leb d.alpha.0 q ≡ b → pick {A = ℕ} b 1 2 ≡ pick (ltb q d.alpha.0) 2 1
    flip q true e = rw (le-ltb q d.alpha.0 (leb-true d.alpha.0 q e))
    flip q false e = rw (lt-ltb q d.alpha.0 (leb-false d.alpha.0 q e))

    table_need : (z : Bool) → eqb m.0 0 ≡ z → pick {A = ℕ} (is_at t (pick z Nowhere (At (owner_index ds m.0)))) 1 2 ≡ pick (z || ltb m.0 d.alpha.0) 2 1
    unfolding is_at
    table_need true h = refl
    table_need false h = rw (owner_active m.0 (below_by (eqb d.layout 1) refl (eqb-false m.0 0 h))) (flip m.0 (leb d.alpha.0 m.0) refl)

    both : pick (is_at t (home_of (cell_found c ds (Entry m p)))) 0 (pick (is_at t (place_of ds m.0)) 1 2) ≡ need d.alpha.0 (Entry m p)
    unfolding cell_found place_of need table_is_new
    both =
        ap (λ (b : Bool). pick b 0 (pick (is_at t (pick (eqb m.0 0) Nowhere (At (owner_index ds m.0)))) 1 2)) (cell_need (eqb p.0 0) refl)
        ∙ ap (λ (n : ℕ). pick (not (eqb p.0 0) && leb d.alpha.0 p.0) 0 n) (table_need (eqb m.0 0) refl)

    entry_need : pick (is_at t (home_of (cell_found c ds (found_through c d l)))) 0 (pick (is_at t (place_of ds (table_of c d (l / 128)))) 1 2) ≡ need d.alpha.0 (found_through c d l)
    entry_need =
        ap (λ (f : Found). pick (is_at t (home_of (cell_found c ds f))) 0 (pick (is_at t (place_of ds (table_of c d (l / 128)))) 1 2)) is
        ∙ ap (λ (q : ℕ). pick (is_at t (home_of (cell_found c ds (Entry m p)))) 0 (pick (is_at t (place_of ds q)) 1 2)) (sym (found_holder c ds d l m p is))
        ∙ both
        ∙ ap (need d.alpha.0) (sym is)

  found_need : (l : ℕ) → l < d.volume → (f : Found) → found_through c d l ≡ f → is_misplaced f ≡ false
      → pick (is_at t (home_of (cell_found c ds (found_through c d l)))) 0 (pick (is_at t (place_of ds (table_of c d (l / 128)))) 1 2) ≡ need d.alpha.0 (found_through c d l)
  unfolding is_misplaced
  found_need l h (Misplaced x) e o = no (sym o)
  found_need l h (Entry m p) e o = entry_need l h m p e

  placed_need_lem : (l : ℕ) → l < d.volume → is_misplaced (found_through c d l) ≡ false → placed_need (placed_of c) l ≡ need d.alpha.0 (found_through c d l)
  unfolding placed_need placed_of placed_volume table_place cell_place
  placed_need_lem l h o =
      rw (placed_length c (snapshots_of ds), values_first (cell_place c d) d.volume l Nil h, values_first (table_place c d) (table_count d.volume) (l / 128) Nowhere (group_below l d.volume h))
      (found_need l h (found_through c d l) refl o)

pub placed_need_claim : PlacedNeedClaim
unfolding PlacedNeedClaim
placed_need_claim c l s h o = placed_need_lem c s l h o
