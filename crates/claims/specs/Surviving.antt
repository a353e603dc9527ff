-- The visit that survives its rollback: document 02, W5. What stands in quotation marks is from there. The other claims hold of both revisions as they stand.
use Rattle.std.specs.Prelude.{◌≡◌, ◌⊎◌, ◌↔◌, true, false, List, ℕ, suc, ◌+◌, ◌*◌, ◌<◌, ◌≤◌, take, get_or}
use Rattle.blocks.specs.Bytes.{block_size, block_at, block_count}
use Rattle.blocks.specs.Descriptor.{cost_of, revision_of}
use Rattle.chains.specs.Chain.{chain, chain_sound, index_of, named, active_of}
use Rattle.calls.specs.Call.{Call, Ream, Revert, answer, accepted}
use Rattle.blocks.specs.Name.{is_name}
use Rattle.blocks.specs.declared.descriptor.Format.{Format}
use Rattle.calls.specs.Parts.{area_bad, descriptors_of, snapshots_of, with_name}
use Rattle.calls.specs.Stores.{staying}
use Rattle.calls.specs.Meaning.{answer_of}
use Rattle.calls.specs.Step.{step, after, is_accepted}
use Rattle.claims.specs.History.{beta_of, Agree, AreBytes, Standing, At, latest_snap}
use Rattle.claims.specs.Claims.{RevertedAt}

-- What an accepted revert on revision 1 comes to, to the snapshot v of the name on a card c: "revert leaves the snapshot's descriptor as it is and opens a
-- new active region from it, at its beta, as snap does, under the active name".
pub record Survives (c name : List ℕ) : Type 0 where
  -- every byte below v's beta is as it was, those of v's descriptor among them; so is every byte past the blocks that the region opens with
  pub kept : (j : ℕ) → j < block_size * (with_name (snapshots_of (descriptors_of c)) name).beta.0 → get_or (step (Revert name) c).card j 0 ≡ get_or c j 0
  pub rest : let v = with_name (snapshots_of (descriptors_of c)) name in
      (j : ℕ) → block_size * (v.beta.0 + cost_of v) ≤ j → get_or (step (Revert name) c).card j 0 ≡ get_or c j 0
  -- the region's table blocks are v's: c - 1 of them, which layout 1 has
  pub tables : let v = with_name (snapshots_of (descriptors_of c)) name in
      (t : ℕ) → t + 1 < cost_of v → block_at (step (Revert name) c).card (v.beta.0 + 1 + t) ≡ block_at c (v.alpha.0 + 1 + t)
  -- its descriptor, at v's beta: alpha, beta, a nil next and the active name, and every other byte of its block from v's
  pub opened : let v = with_name (snapshots_of (descriptors_of c)) name in
      let a = active_of (descriptors_of (step (Revert name) c).card) in
      (a.alpha.0 ≡ v.beta.0) × (a.beta.0 ≡ v.beta.0 + cost_of v) × (a.next.0 ≡ 0) × (a.name ≡ (active_of (descriptors_of c)).name)
  pub others : let v = with_name (snapshots_of (descriptors_of c)) name in
      (i : ℕ) → (i < 12) ⊎ ((40 ≤ i) × (i < 512)) → get_or (step (Revert name) c).card (block_size * v.beta.0 + i) 0 ≡ get_or c (block_size * v.alpha.0 + i) 0
  -- "a visit rolled back to remains listed", and may be rolled back to again, which changes no byte
  pub listed : named (snapshots_of (descriptors_of (step (Revert name) c).card)) name ≡ true
  pub again : (is_accepted (answer_of (Revert name) (step (Revert name) c).card) ≡ true) × ((step (Revert name) (step (Revert name) c).card).card ≡ (step (Revert name) c).card)

unfoldable pub SurvivesClaim : Type 0
SurvivesClaim = (c name : List ℕ) → AreBytes c → revision_of c ≡ 1 → is_accepted (answer_of (Revert name) c) ≡ true → Survives c name

-- "neither 11 nor 13 can arise, and this is shown": on every sound chain, of either revision, there is room for c blocks at the beta of each snapshot, none of
-- them a free one, and after those before it and itself one more is among the first 256. And a revert asks for neither: it is accepted exactly where the area is a
-- card, the name is one, the chain is sound and a snapshot has the name, and it is never answered 11 or 13.
unfoldable pub RoomAtVisitClaim : Type 0
RoomAtVisitClaim =
    (c name : List ℕ)
    → (chain_sound (chain c) ≡ true → named (snapshots_of (descriptors_of c)) name ≡ true
    → let ss = snapshots_of (descriptors_of c) in
    let v = with_name ss name in
    (v.beta.0 + cost_of v ≤ beta_of c) × (beta_of c ≤ block_count c) × (index_of ss name + 2 ≤ 256))
    × ((answer_of (Revert name) c ≡ accepted)
    ↔ ((area_bad c ≡ false) × (is_name name ≡ true) × (chain_sound (chain c) ≡ true) × (named (snapshots_of (descriptors_of c)) name ≡ true)))
    × ((answer_of (Revert name) c).number ≡ 11 → ⊥)
    × ((answer_of (Revert name) c).number ≡ 13 → ⊥)

-- "17, revision not 0 or 1, after 3 in ream": given exactly where neither 1, 2 nor 3 is and the revision is another number, whatever the name and c.
unfoldable pub RevisionClaim : Type 0
RevisionClaim =
    (c : List ℕ) (format : Format)
    → (answer_of (Ream format) c ≡ answer 17 0)
    ↔ ((area_bad c ≡ false) × ((format.layout ≡ 1) ⊎ (format.layout ≡ 2)) × (1 ≤ format.volume) × (format.volume ≤ 14336) × (2 ≤ format.revision))

-- What stays of a list at a rollback to its item i, be it a list of snapshots or of calls: on revision 0 the i items before it, on revision 1 the item too.
unfoldable pub StayingClaim : Type 0
StayingClaim = (i : ℕ) → (staying 0 i ≡ i) × (staying 1 i ≡ suc i)

-- "Below beta the card is then as it was just after the snap": over whole lists, from any card of revision 1 with a sound chain; the snap is the visit's latest
-- accepted one before the rollback.
unfoldable pub AsAfterSnapClaim : Type 0
AsAfterSnapClaim =
    (s : List ℕ) (ks : List Call) → AreBytes s → chain_sound (chain s) ≡ true → revision_of s ≡ 1 → Standing s ks
    → (k : ℕ) (v : List ℕ) → RevertedAt s ks k v → (i : ℕ) → latest_snap v s (take k ks) ≡ At i
    → Agree (after (take (suc k) ks) s) (after (take (suc i) ks) s)
