-- A card's Placed without its places is its ledger, and so it is after its own step.
use mathlib.Core.Path.{◌≡◌, refl, sym, ap, ◌∙◌}
use mathlib.Core.Bool.{Bool, true, false}
use mathlib.Core.List.{List, [], ◌∷◌, ◌++◌}
use Prim.Native.Nat.{ℕ, zero, suc}
use lib.ListN.{length, take, get_or, set}
use lib.Dec.{eqb}
use Rattle.blocks.specs.Pick.{pick, same}
use Rattle.blocks.specs.Bytes.{block_at, zero_block}
use Rattle.blocks.specs.declared.descriptor.Descriptor.{Descriptor}
use Rattle.blocks.proofs.BoolLaws.{no}
use Rattle.pieces.specs.Span.{span_block, touched, merged}
use Rattle.chains.specs.Chain.{active_of}
use Rattle.entries.specs.Found.{Found, Misplaced, Entry}
use Rattle.calls.specs.Parts.{descriptors_of, snapshots_of, found_through, block_found}
use Rattle.calls.specs.Stores.{staying}
use Rattle.claims.specs.Kinds.{Kind, Formats, Leaves, Writes, WritesSpan, Snaps, Reverts}
use Rattle.claims.specs.History.{formats}
use Rattle.claims.specs.Ledger.{VolumeOf, LedgerOf, volume_named, volumes_kept, cells_from, volume_of, volumes_of, ledger_of, changed_at, span_cells, with_cells, change_by, ledger_change}
use Rattle.places.specs.Placed.{Cell, Nil, Held, PlacedVolume, Placed, content_of, cells_by, volume_by, volumes_by, ledger_by, forget, volume_index, no_places, named_volume, placed_write, placed_opening, placed_active, with_volumes, span_placed, placed_change, values_from, cell_found, cell_place, placed_volume, placed_volumes, placed_of, ForgetClaim, ForgetStepClaim}

-- of a card
held_by : (r : ℕ) (b : List ℕ) (z : Bool) → content_of (pick z Nil (Held r b)) ≡ pick z zero_block b
unfolding content_of
held_by r b true = refl
held_by r b false = refl

pub content_found : (c : List ℕ) (ds : List Descriptor) (f : Found) → content_of (cell_found c ds f) ≡ block_found c f
unfolding content_of cell_found block_found
content_found c ds (Misplaced h) = refl
content_found c ds (Entry m p) = held_by _ (block_at c p.0) (eqb p.0 0)

contents_from : (c : List ℕ) (d : Descriptor) (n l : ℕ) → cells_by content_of (values_from (cell_place c d) n l) ≡ cells_from c d n l
unfolding cells_by values_from cells_from cell_place
contents_from c d zero l = refl
contents_from c d (suc n) l = rw (content_found c (descriptors_of c) (found_through c d l), contents_from c d n (suc l))

forget_volume : (c : List ℕ) (d : Descriptor) → volume_by content_of (placed_volume c d) ≡ volume_of c d
unfolding volume_by placed_volume volume_of
forget_volume c d = ap (λ (x : List (List ℕ)). record { name = d.name; cells = x }) (contents_from c d d.volume 0)

forget_volumes : (c : List ℕ) (ds : List Descriptor) → volumes_by content_of (placed_volumes c ds) ≡ volumes_of c ds
unfolding volumes_by placed_volumes volumes_of
forget_volumes c [] = refl
forget_volumes c (d ∷ ds) = rw (forget_volume c d, forget_volumes c ds)

pub forget_claim : ForgetClaim
unfolding ForgetClaim forget placed_of ledger_of
forget_claim c = rw (forget_volumes c (snapshots_of (descriptors_of c)), forget_volume c (active_of (descriptors_of c)))

-- of a step, whatever is kept of a cell: keep says it of a cell, put of one that is written in region k, by what its content becomes and what was kept
module _ {A : Type 0} (keep : Cell → A) (put : ℕ → (List ℕ → List ℕ) → A → A) (held : (k : ℕ) (f : List ℕ → List ℕ) (x : Cell) → keep (Held k (f (content_of x))) ≡ put k f (keep x)) where
  cells_set : (xs : List Cell) (l k : ℕ) (f : List ℕ → List ℕ) → cells_by keep (set xs l (Held k (f (content_of (get_or xs l Nil))))) ≡ changed_at (cells_by keep xs) l (put k f)
  unfolding cells_by changed_at
  cells_set [] l k f = refl
  cells_set (x ∷ xs) zero k f = ap (λ (y : A). y ∷ cells_by keep xs) (held k f x)
  cells_set (x ∷ xs) (suc l) k f = ap (λ (ys : List A). keep x ∷ ys) (cells_set xs l k f)

  by_length : (vs : List PlacedVolume) → length (volumes_by keep vs) ≡ length vs
  unfolding volumes_by
  by_length [] = refl
  by_length (v ∷ vs) = ap suc (by_length vs)

  by_append : (vs ws : List PlacedVolume) → volumes_by keep (vs ++ ws) ≡ volumes_by keep vs ++ volumes_by keep ws
  unfolding volumes_by
  by_append [] ws = refl
  by_append (v ∷ vs) ws = ap (λ (xs : List (VolumeOf A)). volume_by keep v ∷ xs) (by_append vs ws)

  -- the volumes that stay at a rollback, and the one that it goes to
  kept_by : (o b : Bool) (v : PlacedVolume) (vs : List PlacedVolume) (i : ℕ) (kept : List (VolumeOf A)) → volumes_by keep (take (pick o (suc i) i) vs) ≡ kept
      → volumes_by keep (take (pick o (suc (pick b 0 (suc i))) (pick b 0 (suc i))) (v ∷ vs)) ≡ pick b (pick o (volume_by keep v ∷ []) []) (volume_by keep v ∷ kept)
  unfolding volumes_by
  kept_by true true v vs i kept h = refl
  kept_by false true v vs i kept h = refl
  kept_by true false v vs i kept h = ap (λ (xs : List (VolumeOf A)). volume_by keep v ∷ xs) h
  kept_by false false v vs i kept h = ap (λ (xs : List (VolumeOf A)). volume_by keep v ∷ xs) h

  none_by : (o : Bool) → volumes_by keep (take (pick o 1 0) []) ≡ []
  unfolding volumes_by
  none_by true = refl
  none_by false = refl

  by_kept : (r : ℕ) (vs : List PlacedVolume) (name : List ℕ) → volumes_by keep (take (staying r (volume_index vs name)) vs) ≡ volumes_kept r (volumes_by keep vs) name
  unfolding staying volume_index volumes_kept volumes_by volume_by
  by_kept r [] name = none_by (eqb r 1)
  by_kept r (v ∷ vs) name = kept_by (eqb r 1) (same v.name name) v vs (volume_index vs name) (volumes_kept r (volumes_by keep vs) name) (by_kept r vs name)

  which_by : (b : Bool) (v : PlacedVolume) (vs : List PlacedVolume) (i : ℕ) (w : VolumeOf A) → cells_by keep (get_or vs i no_places).cells ≡ w.cells
      → cells_by keep (get_or (v ∷ vs) (pick b 0 (suc i)) no_places).cells ≡ (pick b (volume_by keep v) w).cells
  unfolding volume_by
  which_by true v vs i w h = refl
  which_by false v vs i w h = h

  pub by_named : (vs : List PlacedVolume) (name : List ℕ) → cells_by keep (get_or vs (volume_index vs name) no_places).cells ≡ (volume_named (volumes_by keep vs) name).cells
  unfolding volume_index volume_named volumes_by volume_by cells_by
  by_named [] name = refl
  by_named (v ∷ vs) name = which_by (same v.name name) v vs (volume_index vs name) (volume_named (volumes_by keep vs) name) (by_named vs name)

  active_by : (o : Bool) (p : Placed) (v : PlacedVolume) (k : ℕ) → volume_by keep (pick o (placed_opening p v k) v) ≡ volume_by keep v
  unfolding volume_by placed_opening
  active_by true p v k = refl
  active_by false p v k = refl

  by_active : (p : Placed) (v : PlacedVolume) (i : ℕ) → volume_by keep (placed_active p v i) ≡ volume_by keep v
  unfolding placed_active
  by_active p v i = active_by (eqb p.revision 1) p v (suc i)

  -- a span, block by block
  by_write : (p : Placed) (l : ℕ) (f : List ℕ → List ℕ)
      → ledger_by keep (with_volumes p p.snapshots (placed_write p l (f (content_of (get_or p.active.cells l Nil))))) ≡ with_cells (ledger_by keep p) (changed_at (ledger_by keep p).active.cells l (put (length p.snapshots) f))
  unfolding ledger_by placed_write volume_by
  by_write p l f = ap (λ (xs : List A). with_cells (ledger_by keep p) xs) (cells_set p.active.cells l (length p.snapshots) f)

  same_snapshots : (p : Placed) (o : ℕ) (bytes : List ℕ) (i : ℕ) → (span_placed p o bytes i).snapshots ≡ p.snapshots
  unfolding span_placed
  same_snapshots p o bytes zero = refl
  same_snapshots p o bytes (suc i) = same_snapshots p o bytes i

  by_span : (p : Placed) (o : ℕ) (bytes : List ℕ) (i : ℕ) → ledger_by keep (span_placed p o bytes i) ≡ with_cells (ledger_by keep p) (span_cells (put (length p.snapshots)) (ledger_by keep p).active.cells o bytes i)
  unfolding span_placed span_cells
  by_span p o bytes zero = refl
  by_span p o bytes (suc i) =
      let q = span_placed p o bytes i in
      let l = span_block o i in
      by_write q l (λ old. merged old o bytes l)
      ∙ ap (λ (n : ℕ). with_cells (ledger_by keep q) (changed_at (ledger_by keep q).active.cells l (put n (λ old. merged old o bytes l)))) (ap length (same_snapshots p o bytes i))
      ∙ ap (λ (g : LedgerOf A). with_cells g (changed_at g.active.cells l (put (length p.snapshots) (λ old. merged old o bytes l)))) (by_span p o bytes i)

  pub by_change : (x : Kind) (p : Placed) → formats x ≡ false → ledger_by keep (placed_change x p) ≡ change_by put x (ledger_by keep p)
  unfolding formats ledger_by placed_change change_by placed_write placed_opening volume_by volumes_by
  by_change (Formats format) p f = no (sym f)
  by_change Leaves p f = refl
  by_change (Writes l block) p f = rw (by_length p.snapshots) (by_write p l (λ old. block))
  by_change (WritesSpan o bytes) p f = rw (by_length p.snapshots) (by_span p o bytes (touched o (length bytes)))
  by_change (Snaps name) p f = rw (by_append p.snapshots (named_volume p.active name ∷ []))
  by_change (Reverts name) p f =
      let i = volume_index p.snapshots name in
      rw (by_kept p.revision p.snapshots name, by_active p (named_volume (get_or p.snapshots i no_places) p.active.name) i, by_named p.snapshots name)

-- the ledger keeps the content
pub forget_step_claim : ForgetStepClaim
unfolding ForgetStepClaim forget ledger_change content_of
forget_step_claim x p f = by_change content_of (λ k becomes old. becomes old) (λ k g y. refl) x p f
