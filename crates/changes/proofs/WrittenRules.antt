-- What an accepted write leaves of the snapshots, on a card that passes; the card passes if the active descriptor keeps the rules.
use mathlib.Core.Path.{◌≡◌, refl, sym, ap, ◌∙◌, subst}
use mathlib.Core.Bool.{Bool, true, false}
use mathlib.Core.List.{List, [], ◌∷◌, ◌++◌}
use Prim.Native.Nat.{ℕ, ◌+◌, ◌≤◌, ◌<◌}
use native.Mathlib.Omega.{arith}
use lib.ListN.{length, get_or, length-append, get_or-append}
use lib.Seq.{get_or-append_seam}
use lib.Dec.{ltb}
use borrow.Author.Tests.{ltb-true, ltb-false}
use Rattle.blocks.specs.Bytes.{store_all}
use Rattle.chains.specs.Chain.{Sound, chain, chain_sound, active_of}
use Rattle.links.proofs.SoundLaws.{form_layout}
use Rattle.links.proofs.ChainLaws.{descriptors_are}
use Rattle.blocks.specs.Descriptor.{extended_of, no_descriptor}
use Rattle.blocks.specs.declared.descriptor.Descriptor.{Descriptor}
use Rattle.entries.specs.InPlace.{is_in_place}
use Rattle.entries.specs.Entry.{need}
use Rattle.entries.specs.Rules.{Rules}
use Rattle.calls.specs.Parts.{descriptors_of, snapshots_of, found_through}
use Rattle.calls.specs.Check.{Passes}
use Rattle.calls.specs.Stores.{write_stores}
use Rattle.calls.proofs.CardLaws.{chain_is, area_kept}
use Rattle.blocks.proofs.StoreLists.{stored_length, stored_other}
use Rattle.links.proofs.SharedLaws.{Below}
use Rattle.entries.proofs.LocalLaws.{Region}
use Rattle.calls.proofs.Passed.{WritePassed}
use Rattle.entries.proofs.ExtendedLaws.{extended_placed}
use Rattle.calls.proofs.ActiveLaws.{active_inside, region_below, region_at, active_last, active_after}
use Rattle.entries.proofs.RulesLaws.{shared_rules}
use Rattle.changes.proofs.WholeLaws.{write_whole}
use Rattle.changes.proofs.WrittenChain.{written_chain, write_above}

-- an accepted write on a card that passes
module _ (c : List ℕ) (passes : Passes c) (l : ℕ) (block : List ℕ) (ok : WritePassed c l block) where
  abbrev ds : List Descriptor
  ds = descriptors_of c

  abbrev d : Descriptor
  d = active_of ds

  abbrev xs : List Descriptor
  xs = snapshots_of ds

  abbrev x : Descriptor
  x = extended_of d (need d.alpha.0 (found_through c d l))

  abbrev t : List ℕ
  t = store_all c (write_stores c l block)

  sound_c : chain c ≡ Sound ds
  sound_c = chain_is (chain c) passes.sound

  split : ds ≡ xs ++ (d ∷ [])
  split = active_last c ds sound_c

  count : length ds ≡ length xs + 1
  count = ap length split ∙ length-append xs (d ∷ [])

  long : length c ≡ length t
  long = sym (stored_length (length c) c refl (write_whole c l block ok))

  -- every region ends at or below the active beta, those of snapshots at or below the active alpha
  pub write_region : (j : ℕ) → j < length ds → Region (get_or ds j no_descriptor) d.beta.0
  write_region j h = region_below c ds sound_c j h

  snapshot_end : (j : ℕ) → j < length xs → (get_or ds j no_descriptor).beta.0 ≤ d.alpha.0
  snapshot_end j h = active_after c ds sound_c j (omega (arith, count))

  pub snapshot_region : (j : ℕ) → j < length xs → Region (get_or ds j no_descriptor) d.alpha.0
  snapshot_region j h =
      let r = write_region j (omega (arith, count)) in
      record { some = r.some; upto = snapshot_end j h; own = r.own; few = r.few }

  pub write_below : 0 < d.alpha.0 → Below c t d.alpha.0
  write_below h =
      record {
        long = long;
        some = h;
        inside = omega (arith, active_inside c ds sound_c);
        blocks = λ q k. sym (stored_other (length c) c refl (write_whole c l block ok) q (write_above c l block ok q k));
      }

  -- the rules of the snapshots
  pub snapshot_rules : (j : ℕ) → j < length xs → Rules t (xs ++ (x ∷ [])) (get_or ds j no_descriptor)
  snapshot_rules j h =
      let e = get_or ds j no_descriptor in
      let r = snapshot_region j h in
      shared_rules c t d.alpha.0 (write_below (omega (arith, r.some, r.upto))) e r ds (xs ++ (x ∷ []))
      (form_layout c _ e (region_at c ds sound_c j (omega (arith, count))).form) (passes.rules j (omega (arith, count)))
      (λ p k. extended_placed xs d (need d.alpha.0 (found_through c d l)) e p ∙ subst (λ (ys : List Descriptor). is_in_place ys e p ≡ true) split k)

  -- the card passes if the active descriptor keeps the rules
  chain_after : chain t ≡ Sound (xs ++ (x ∷ []))
  chain_after = written_chain c l block ok

  rules_by : Rules t (xs ++ (x ∷ [])) x → (j : ℕ) → j < length (xs ++ (x ∷ [])) → (b : Bool) → ltb j (length xs) ≡ b → Rules t (xs ++ (x ∷ [])) (get_or (xs ++ (x ∷ [])) j no_descriptor)
  rules_by a j h true e =
      let k = ltb-true j (length xs) e in
      let q : get_or ds j no_descriptor ≡ get_or (xs ++ (x ∷ [])) j no_descriptor = ap (λ (ys : List Descriptor). get_or ys j no_descriptor) split ∙ get_or-append xs (d ∷ []) no_descriptor j k ∙ sym (get_or-append xs (x ∷ []) no_descriptor j k) in
      subst (λ (y : Descriptor). Rules t (xs ++ (x ∷ [])) y) q (snapshot_rules j k)
  rules_by a j h false e =
      let k : j ≡ length xs = omega (arith, ltb-false j (length xs) e, length-append xs (x ∷ [])) in
      let q : get_or (xs ++ (x ∷ [])) j no_descriptor ≡ x = ap (λ (n : ℕ). get_or (xs ++ (x ∷ [])) n no_descriptor) k ∙ get_or-append_seam xs x [] no_descriptor in
      subst (λ (y : Descriptor). Rules t (xs ++ (x ∷ [])) y) (sym q) a

  pub passes_write_by : Rules t (xs ++ (x ∷ [])) x → Passes t
  unfolding chain_sound
  passes_write_by a =
      let q = descriptors_are t (xs ++ (x ∷ [])) chain_after in
      record {
        area = sym (area_kept c t long) ∙ passes.area;
        sound = ap chain_sound chain_after;
        rules = subst (λ (ys : List Descriptor). (j : ℕ) → j < length ys → Rules t ys (get_or ys j no_descriptor)) (sym q) (λ j h. rules_by a j h (ltb j (length xs)) refl);
      }
