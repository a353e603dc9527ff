-- The stores of a write, a snap and a revert, in order and computed from the card at entry; and what stays of a list at a rollback.
use Rattle.std.specs.Prelude.{List, [], ◌∷◌, ℕ, suc, eqb}
use Rattle.blocks.specs.Pick.{pick}
use Rattle.blocks.specs.Bytes.{Store, store}
use Rattle.blocks.specs.Descriptor.{physical, revision_of, tail_at, descriptor_block, renamed_of, linked_of, reopening}
use Rattle.blocks.specs.declared.descriptor.Descriptor.{Descriptor}
use Rattle.chains.specs.Chain.{active_of}
use Rattle.entries.specs.Entry.{need, writing}
use Rattle.calls.specs.Parts.{descriptors_of, snapshots_of, with_name, found_through}

-- a snapshot of the active descriptor d: the copy at beta, tables first and rising, then the old descriptor under the visit's name, linked to the copy
unfoldable pub snapping : List ℕ → Descriptor → List ℕ → List Store
snapping c d name = reopening c d (store d.alpha.0 (descriptor_block (linked_of (renamed_of d name) d.beta) (tail_at c d.alpha.0)) ∷ [])

-- the snapshot v with the active name and a nil next
abbrev pub activated_of : Descriptor → List ℕ → Descriptor
activated_of v active_name = linked_of (renamed_of v active_name) (physical 0)

-- what a revert of a card goes back to: the snapshot of the name, so altered
abbrev pub activated : List ℕ → List ℕ → Descriptor
activated c name = let ds = descriptors_of c in activated_of (with_name (snapshots_of ds) name) (active_of ds).name

-- a revert to the snapshot v: on revision 0 its descriptor gets the active name and a nil next; on revision 1 it stays as it is, and a region opens at its
-- beta, as a snap opens one, under the active name
unfoldable pub reverting : List ℕ → Descriptor → List ℕ → List Store
reverting c v active_name =
    let w = activated_of v active_name in
    pick (eqb (revision_of c) 1) (reopening c w []) (store w.alpha.0 (descriptor_block w (tail_at c w.alpha.0)) ∷ [])

-- how many of a list a rollback to its item i leaves: those before it, and on revision 1 the item too
unfoldable pub staying : ℕ → ℕ → ℕ
staying revision i = pick (eqb revision 1) (suc i) i

-- the stores of a write, of a snap and of a revert on a card: through the active descriptor, and to the snapshot of the name
unfoldable pub write_stores : List ℕ → ℕ → List ℕ → List Store
write_stores c l block = let d = active_of (descriptors_of c) in writing c d (found_through c d l) l block

-- the blocks that such a write takes
unfoldable pub write_need : List ℕ → ℕ → ℕ
write_need c l = let d = active_of (descriptors_of c) in need d.alpha.0 (found_through c d l)

unfoldable pub snap_stores : List ℕ → List ℕ → List Store
snap_stores c name = snapping c (active_of (descriptors_of c)) name

unfoldable pub revert_stores : List ℕ → List ℕ → List Store
revert_stores c name = let ds = descriptors_of c in reverting c (with_name (snapshots_of ds) name) (active_of ds).name
