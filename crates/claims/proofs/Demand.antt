-- The rollback claim from any card with a sound chain, and demand 3 from all N blocks as an accepted ream left them.
use mathlib.Core.Path.{◌≡◌, refl, sym, ap, ◌∙◌, subst}
use mathlib.Core.Bool.{true, false}
use mathlib.Core.List.{List}
use Prim.Native.Nat.{ℕ, suc, ◌<◌}
use lib.ListN.{take}
use Rattle.chains.specs.Chain.{chain, chain_sound, named}
use Rattle.blocks.specs.declared.descriptor.Descriptor.{Descriptor}
use Rattle.blocks.proofs.BoolLaws.{no}
use Rattle.chains.proofs.NamedLaws.{named_none}
use Rattle.calls.specs.Call.{Call}
use Rattle.calls.specs.Parts.{descriptors_of, snapshots_of}
use Rattle.claims.specs.History.{AreBytes, Standing, Position, Nowhere, At, latest_snap, without, formattable, formatted}
use Rattle.claims.specs.Claims.{Matched, LastSnap, Forgets, RevertedAt, RollbackClaim, SnapshotClaim, Demand3}
use Rattle.claims.proofs.Runs.{standing_take}
use Rattle.claims.proofs.Latest.{latest_nowhere, latest_at}
use Rattle.claims.proofs.Format.{formatted_passes, formatted_descriptors, formatted_revision}
use Rattle.calls.specs.Stores.{staying}
use Rattle.claims.proofs.CardBytes.{bytes_run, bytes_format}
use Rattle.claims.proofs.Rollback.{s_named, s_accepted, forgets_start, earlier, forgets_snap}
use Rattle.blocks.specs.declared.descriptor.Format.{Format}

forgets_by : (s : List ℕ) (ks : List Call) → AreBytes s → chain_sound (chain s) ≡ true → Standing s ks → (k : ℕ) (v : List ℕ) → RevertedAt s ks k v
    → (place : Position) → latest_snap v s (take k ks) ≡ place → Forgets s v ks k place
unfolding Forgets
forgets_by s ks bytes ok standing k v reverted Nowhere e =
    let u = latest_nowhere v s (take k ks) e in
    (u, s_named s ks ok standing k v reverted u, s_accepted s ks ok standing k v reverted u, forgets_start s ks ok standing k v reverted u)
forgets_by s ks bytes ok standing k v reverted (At i) e =
    let l = latest_at v s (take k ks) i e in
    (l, forgets_snap s ks ok standing k v reverted i l (bytes_run (take i ks) s bytes (standing_take s ks i standing)))

pub rollback_claim : RollbackClaim
unfolding RollbackClaim
rollback_claim s ks bytes ok standing k v reverted = forgets_by s ks bytes ok standing k v reverted (latest_snap v s (take k ks)) refl

-- on a card that a format made, an accepted revert has its visit's snap among the calls before it
module _ (area : List ℕ) (format : Format) (can : formattable area format ≡ true) (ks : List Call) (standing : Standing (formatted area format) ks)
    (k : ℕ) (v : List ℕ) (reverted : RevertedAt (formatted area format) ks k v) where
  abbrev card : List ℕ
  card = formatted area format

  card_sound : chain_sound (chain card) ≡ true
  card_sound = (formatted_passes area format can).sound

  none_named : named (snapshots_of (descriptors_of card)) v ≡ false
  unfolding snapshots_of
  none_named = ap (λ (ds : List Descriptor). named (snapshots_of ds) v) (formatted_descriptors area format can) ∙ named_none v

  snap_by : (place : Position) → latest_snap v card (take k ks) ≡ place → (i : ℕ) × (i < k) × (latest_snap v card (take k ks) ≡ At i) × LastSnap v card (take k ks) i
  snap_by Nowhere e = no (sym none_named ∙ s_named card ks card_sound standing k v reverted (latest_nowhere v card (take k ks) e))
  snap_by (At i) e = let l = latest_at v card (take k ks) i e in (i, earlier card ks card_sound standing k v reverted i l, e, l)

  found : (i : ℕ) × (i < k) × (latest_snap v card (take k ks) ≡ At i) × LastSnap v card (take k ks) i
  found = snap_by (latest_snap v card (take k ks)) refl

  whole : AreBytes area → (i : ℕ) × (i < k) × (latest_snap v card (take k ks) ≡ At i) × LastSnap v card (take k ks) i × (let stay = staying format.revision i in Matched card ks (suc k) (without ks stay k) stay)
  whole bytes =
      let f = found in (
        f.0,
        f.1,
        f.2,
        f.3,
        subst (λ (r : ℕ). Matched card ks (suc k) (without ks (staying r f.0) k) (staying r f.0)) (formatted_revision area format can)
            (forgets_snap card ks card_sound standing k v reverted f.0 f.3
            (bytes_run (take f.0 ks) card (bytes_format area format bytes can) (standing_take card ks f.0 standing))),
      )

pub snapshot_claim : SnapshotClaim
unfolding SnapshotClaim
snapshot_claim area format can ks standing k v reverted = found area format can ks standing k v reverted

pub demand_3 : Demand3
unfolding Demand3
demand_3 area format bytes can ks standing k v reverted = whole area format can ks standing k v reverted bytes
