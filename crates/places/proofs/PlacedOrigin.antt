-- The origin of what a read gives, and its name, are the card's.
use mathlib.Core.Path.{◌≡◌, refl, ap, ◌∙◌}
use mathlib.Core.Bool.{Bool, true, false, not, ◌&&◌}
use mathlib.Core.List.{List, [], ◌∷◌}
use Prim.Native.Nat.{ℕ, zero, suc, ◌<◌}
use native.Mathlib.Omega.{arith}
use lib.ListN.{get_or}
use lib.Dec.{eqb}
use borrow.Author.Tests.{not-false}
use Rattle.blocks.specs.Pick.{pick}
use Rattle.blocks.specs.Bytes.{block_at}
use Rattle.blocks.specs.Name.{no_name}
use Rattle.blocks.specs.Descriptor.{no_descriptor}
use Rattle.blocks.specs.declared.descriptor.Descriptor.{Descriptor}
use Rattle.chains.specs.Chain.{Sound, chain, chain_sound, named, active_of, index_of}
use Rattle.chains.proofs.NamedLaws.{index_below}
use Rattle.entries.specs.InPlace.{owner_index, owner_of}
use Rattle.entries.specs.Entry.{found_block}
use Rattle.entries.specs.Found.{Found, Misplaced, Entry}
use Rattle.calls.specs.Call.{Target, Active, Snapshot}
use Rattle.calls.specs.Parts.{descriptors_of, snapshots_of, is_snapshot, target_of, found_through}
use Rattle.calls.proofs.CardLaws.{chain_is}
use Rattle.calls.proofs.ActiveLaws.{chain_some, volume_at, target_member}
use Rattle.claims.specs.History.{Nowhere, At}
use Rattle.places.specs.Placed.{Nil, PlacedVolume, home_of, no_places, placed_target, origin_of, name_at, cell_found, cell_place, placed_volume, placed_volumes, placed_of, PlacedOriginClaim}
use Rattle.places.proofs.PlacedLaws.{values_first, volumes_are, volumes_get, volume_index_lem, home_by}

-- what was found stands in the region that contains it
home_found : (c : List ℕ) (ds : List Descriptor) (f : Found) → home_of (cell_found c ds f) ≡ pick (eqb (found_block f) 0) Nowhere (At (owner_index ds (found_block f)))
unfolding home_of cell_found found_block
home_found c ds (Misplaced h) = refl
home_found c ds (Entry m p) = home_by (owner_index ds p.0) (block_at c p.0) (eqb p.0 0)

-- the name of a volume is that of its descriptor, also where there is none
name_get : (c : List ℕ) (ds : List Descriptor) (k : ℕ) → (get_or (placed_volumes c ds) k no_places).name ≡ (get_or ds k no_descriptor).name
unfolding placed_volumes placed_volume
name_get c [] k = refl
name_get c (d ∷ ds) zero = refl
name_get c (d ∷ ds) (suc k) = name_get c ds k

module _ (c : List ℕ) (sound : chain_sound (chain c) ≡ true) where
  abbrev ds : List Descriptor
  ds = descriptors_of c

  sound_c : chain c ≡ Sound ds
  sound_c = chain_is (chain c) sound

  name_by : (k : ℕ) (z : Bool) → name_at (placed_of c) (pick z Nowhere (At k)) ≡ pick z no_name (get_or ds k no_descriptor).name
  unfolding name_at
  name_by k true = refl
  name_by k false = ap (λ (vs : List PlacedVolume). (get_or vs k no_places).name) (volumes_are c ds sound_c) ∙ name_get c ds k

  -- the volume that a read goes to is that of the descriptor that it goes through
  pub target_is : (target : Target) (name : List ℕ) → (is_snapshot target && not (named (snapshots_of ds) name)) ≡ false → placed_target (placed_of c) target name ≡ placed_volume c (target_of ds target name)
  unfolding placed_target placed_of target_of
  target_is Active name h = refl
  target_is Snapshot name h =
      ap (λ (k : ℕ). get_or (placed_volumes c (snapshots_of ds)) k no_places) (volume_index_lem c (snapshots_of ds) name)
      ∙ volumes_get c (snapshots_of ds) (index_of (snapshots_of ds) name) (index_below (snapshots_of ds) name (not-false (named (snapshots_of ds) name) h))

  module _ (target : Target) (name : List ℕ) (l : ℕ) (standing : (is_snapshot target && not (named (snapshots_of ds) name)) ≡ false) (inside : l < (active_of ds).volume) where
    abbrev d : Descriptor
    d = target_of ds target name

    abbrev b : ℕ
    b = found_block (found_through c d l)

    pub below : l < d.volume
    below =
        let m = target_member ds (chain_some c ds sound_c) target name standing in
        omega (arith, inside, ap (λ (x : Descriptor). x.volume) m.2, volume_at c ds sound_c m.0 m.1)

    origin_is : origin_of (placed_of c) target name l ≡ pick (eqb b 0) Nowhere (At (owner_index ds b))
    unfolding origin_of placed_volume cell_place
    origin_is =
        ap (λ (v : PlacedVolume). home_of (get_or v.cells l Nil)) (target_is target name standing)
        ∙ ap home_of (values_first (cell_place c d) d.volume l Nil below)
        ∙ home_found c ds (found_through c d l)

    name_is : name_at (placed_of c) (origin_of (placed_of c) target name l) ≡ pick (eqb b 0) no_name (owner_of ds b).name
    name_is = ap (name_at (placed_of c)) origin_is ∙ name_by (owner_index ds b) (eqb b 0)

pub placed_origin_claim : PlacedOriginClaim
unfolding PlacedOriginClaim
placed_origin_claim c target name l sound standing inside = (origin_is c sound target name l standing inside, name_is c sound target name l standing inside)
