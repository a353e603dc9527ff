-- The Placed of what a format leaves.
use mathlib.Core.Path.{◌≡◌, refl, sym, ap, ◌∙◌}
use mathlib.Core.Bool.{Bool, true, false}
use mathlib.Core.List.{List, [], ◌∷◌}
use Prim.Native.Nat.{ℕ, ◌<◌}
use native.Mathlib.Omega.{arith}
use lib.ListN.{length, replicate, length-replicate}
use lib.Dec.{eqb}
use borrow.Author.Tests.{eqb-true}
use Rattle.blocks.specs.Pick.{pick}
use Rattle.blocks.specs.Bytes.{block_count}
use Rattle.blocks.specs.Descriptor.{table_count, first_of}
use Rattle.blocks.specs.declared.descriptor.Descriptor.{Descriptor}
use Rattle.blocks.specs.declared.descriptor.Format.{Format}
use Rattle.blocks.proofs.DescriptorLaws.{cost_one}
use Rattle.chains.specs.Chain.{active_of}
use Rattle.entries.specs.Entry.{table_of, find}
use Rattle.entries.proofs.TableLaws.{table_own, under}
use Rattle.calls.specs.Parts.{descriptors_of, snapshots_of}
use Rattle.claims.specs.History.{Nowhere, At, formattable, formatted}
use Rattle.claims.proofs.Format.{format_layout, formatted_count, formatted_revision, formatted_chain, formatted_descriptors, tables_few, two_table, entries_nil, formatted_rules}
use Rattle.places.specs.Placed.{Nil, opened, first_placed, place_of, cell_found, table_place, cell_place, values_from, placed_volumes, placed_of, FirstPlacedClaim}
use Rattle.places.proofs.PlacedLaws.{cell_named, cell_rules, values_one, volume_parts, placed_parts, place_set, owner_at_lem}

module _ (area : List ℕ) (format : Format) (ok : formattable area format ≡ true) where
  abbrev card : List ℕ
  card = formatted area format

  abbrev first : Descriptor
  first = first_of format

  abbrev n : ℕ
  n = table_count format.volume

  is : descriptors_of card ≡ first ∷ []
  is = formatted_descriptors area format ok

  -- every entry is nil
  cell_nil : (l : ℕ) → l < format.volume → cell_place card first l ≡ Nil
  unfolding cell_place
  cell_nil l h =
      ap (λ (zs : List Descriptor). cell_found card zs (find card zs first l)) is
      ∙ cell_rules card (first ∷ []) first (format_layout area format ok) (formatted_rules area format ok) l h
      ∙ ap (cell_named card (first ∷ [])) (entries_nil area format ok l (under l format.volume h))

  -- layout 1 has its tables in the first region, layout 2 has none
  place_after : (i : ℕ) → table_place card first i ≡ place_of (first ∷ []) (table_of card first i)
  unfolding table_place
  place_after i = ap (λ (zs : List Descriptor). place_of zs (table_of card first i)) is

  own_place : eqb format.layout 1 ≡ true → (i : ℕ) → i < n → table_place card first i ≡ At 0
  own_place o i h =
      let q = table_of card first i in
      let e = table_own card first i o in
      place_after i
      ∙ place_set (first ∷ []) q 0 (λ z. omega (arith, z, e))
      (owner_at_lem card (first ∷ []) (formatted_chain area format ok) 0 (omega arith) q (omega arith) (omega (arith, e, h, cost_one first (eqb-true format.layout 1 o))))

  tables_by : (o : Bool) → eqb format.layout 1 ≡ o → values_from (table_place card first) n 0 ≡ pick o (replicate (length (replicate n Nowhere)) (At 0)) (replicate n Nowhere)
  unfolding place_of
  tables_by true o = values_one (table_place card first) (At 0) n 0 (λ j a b. own_place o j (omega arith)) ∙ ap (λ (m : ℕ). replicate m (At 0)) (sym (length-replicate n Nowhere))
  tables_by false o =
      values_one (table_place card first) Nowhere n 0
      (λ j a b. place_after j ∙ ap (place_of (first ∷ [])) (two_table area format ok o j (omega (arith, b, tables_few area format ok))))

  pub first_placed_lem : placed_of (formatted area format) ≡ first_placed (block_count area) format
  unfolding first_placed opened placed_volumes snapshots_of active_of
  first_placed_lem =
      placed_parts card (formatted_count area format ok) (formatted_revision area format ok) (ap snapshots_of is) (ap active_of is) refl refl refl
      (volume_parts card first format.volume _ _ refl (tables_by (eqb format.layout 1) refl) (values_one (cell_place card first) Nil format.volume 0 (λ j a b. cell_nil j (omega arith))))

pub first_placed_claim : FirstPlacedClaim
unfolding FirstPlacedClaim
first_placed_claim area format ok = first_placed_lem area format ok
