-- The snapshot of a name among the descriptors of a sound chain: those before it, those behind it, and the room that the one after it leaves at its beta.
use mathlib.Core.Path.{◌≡◌, refl, ap, ◌∙◌}
use mathlib.Core.Bool.{true}
use mathlib.Core.List.{List, [], ◌∷◌, ◌++◌, append_assoc}
use Prim.Native.Nat.{ℕ, suc, ◌+◌, ◌≤◌}
use native.Mathlib.Omega.{arith}
use lib.ListN.{length, take, drop, length-append}
use lib.Seq.{split_at}
use Rattle.blocks.specs.Bytes.{block_count}
use Rattle.blocks.specs.Descriptor.{cost_of, no_descriptor}
use Rattle.chains.specs.Chain.{named, Sound, chain, active_of, index_of}
use Rattle.blocks.specs.declared.descriptor.Descriptor.{Descriptor}
use Rattle.chains.proofs.NamedLaws.{index_below}
use Rattle.links.proofs.MemberLaws.{member_next, member_room, member_room_end}
use Rattle.calls.specs.Parts.{snapshots_of, with_name}
use Rattle.calls.proofs.ActiveLaws.{active_last}

-- the descriptors before the one of a name, and those behind it
abbrev pub before : List Descriptor → List ℕ → List Descriptor
before ss name = take (index_of ss name) ss

abbrev pub behind : List Descriptor → List ℕ → List Descriptor
behind ss name = drop (suc (index_of ss name)) ss

pub name_split : (ss : List Descriptor) (name : List ℕ) → named ss name ≡ true → ss ≡ before ss name ++ (with_name ss name ∷ behind ss name)
name_split ss name h = split_at ss (index_of ss name) no_descriptor (index_below ss name h)

module _ (c : List ℕ) (ds : List Descriptor) (sound_c : chain c ≡ Sound ds) (name : List ℕ) (there : named (snapshots_of ds) name ≡ true) where
  abbrev ss : List Descriptor
  ss = snapshots_of ds

  abbrev v : Descriptor
  v = with_name ss name

  pub visit_split : ds ≡ before ss name ++ (v ∷ (behind ss name ++ (active_of ds ∷ [])))
  visit_split =
      active_last c ds sound_c
      ∙ ap (λ (xs : List Descriptor). xs ++ (active_of ds ∷ [])) (name_split ss name there)
      ∙ append_assoc (before ss name) (v ∷ behind ss name) (active_of ds ∷ [])

  -- another follows it, the active one at the latest
  abbrev Room : Type 0
  Room = (v.next.0 ≡ v.beta.0) × (v.beta.0 + cost_of v ≤ (active_of ds).beta.0) × (v.beta.0 + cost_of v ≤ block_count c)

  room_by : (ys : List Descriptor) → behind ss name ++ (active_of ds ∷ []) ≡ ys → Room
  room_by [] e = absurd (omega (arith, ap length e, length-append (behind ss name) (active_of ds ∷ [])))
  room_by (y ∷ ys) e =
      let split : ds ≡ before ss name ++ (v ∷ y ∷ ys) = visit_split ∙ ap (λ (zs : List Descriptor). before ss name ++ (v ∷ zs)) e in
      (member_next c ds (before ss name) v y ys sound_c split, member_room c ds (before ss name) v y ys sound_c split, member_room_end c ds (before ss name) v y ys sound_c split)

  visit_follows : Room
  visit_follows = room_by (behind ss name ++ (active_of ds ∷ [])) refl

  pub visit_next : v.next.0 ≡ v.beta.0
  visit_next = visit_follows.0

  pub visit_room : v.beta.0 + cost_of v ≤ (active_of ds).beta.0
  visit_room = visit_follows.1

  pub visit_end : v.beta.0 + cost_of v ≤ block_count c
  visit_end = visit_follows.2
