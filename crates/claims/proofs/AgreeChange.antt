-- Two cards that agree still agree after every change that is no format; and a span takes the same on both.
use mathlib.Core.Path.{◌≡◌, refl, sym, ap, ◌∙◌, subst}
use mathlib.Core.Logic.{◌⊎◌, inl, inr}
use mathlib.Core.Bool.{Bool, true, false}
use mathlib.Core.List.{List, [], ◌∷◌, ◌++◌}
use Prim.Native.Nat.{ℕ, zero, suc, ◌+◌, ◌*◌, ◌≤◌, ◌<◌}
use native.Mathlib.Omega.{arith}
use lib.ListN.{length, take}
use lib.Dec.{ltb}
use borrow.Author.Tests.{ltb-true, ltb-false}
use Rattle.blocks.specs.Bytes.{block_at, block_count, Store, store_all}
use Rattle.blocks.specs.Descriptor.{revision_of, renamed_of, linked_of, extended_of, reopened_of}
use Rattle.chains.specs.Chain.{Chain, Sound, chain, chain_sound, descriptors, index_of, active_of}
use Rattle.blocks.specs.declared.descriptor.Descriptor.{Descriptor}
use Rattle.blocks.proofs.BoolLaws.{no}
use Rattle.links.proofs.ChainLaws.{active_snoc}
use Rattle.entries.specs.Entry.{find, need}
use Rattle.calls.specs.Parts.{area_bad, descriptors_of, snapshots_of, with_name}
use Rattle.calls.specs.Check.{check_card, is_fault, Passes}
use Rattle.calls.specs.Ladder.{row, span_write_rows}
use Rattle.calls.proofs.RowLaws.{SameRows, then, same_rows}
use Rattle.calls.proofs.CardLaws.{area_kept}
use Rattle.claims.proofs.CheckClaims.{faultless_passes}
use Rattle.calls.specs.Spans.{merged_on, span_stores, span_card, span_need, span_count, write_span_stores, write_span_need}
use Rattle.calls.specs.Stores.{write_stores, write_need, snap_stores, revert_stores, staying}
use Rattle.claims.specs.History.{beta_of, Agree, formats}
use Rattle.claims.proofs.Agreement.{agree_below, agree_chain, agree_count, check_card_lem, found_same, block_same, agree_back}
use Rattle.blocks.proofs.StoreLists.{Whole, is_stored, stored_length, stored_both, stored_anyway, blocks_taken_lem}
use Rattle.claims.proofs.SameStores.{same_revert, same_snap, same_write, found_is}
use Rattle.calls.proofs.Passed.{WritePassed, SnapPassed, RevertPassed}
use Rattle.claims.specs.Kinds.{Kind}
use Rattle.claims.proofs.Changes.{stores_by, Allowed, to_format, to_leave, to_write, to_span, to_snap, to_revert}
use Rattle.links.proofs.LinkedLaws.{active_append}
use Rattle.pieces.specs.Span.{span_block, merged}
use Rattle.calls.specs.Call.{Active}
use Rattle.calls.proofs.ActiveLaws.{active_target}
use Rattle.changes.proofs.SpanSteps.{card_next, need_next, span_write}
use Rattle.changes.proofs.WholeLaws.{write_whole, snap_whole, revert_whole}
use Rattle.links.proofs.SharedLaws.{below_revision}
use Rattle.changes.proofs.RevertedChain.{returned_of, reverted_chain, returned}
use Rattle.changes.proofs.SnappedChain.{snapped_chain, snap_covered}
use Rattle.changes.proofs.WrittenChain.{written_chain, write_covered}

-- the same stores on two cards that agree: they agree again, where every block below the new beta was below the old one or is stored
module _ (s t : List ℕ) (agree : Agree s t) (ss : List Store) (whole : Whole (length s) ss) (ds : List Descriptor)
    (in_s : chain (store_all s ss) ≡ Sound ds) (in_t : chain (store_all t ss) ≡ Sound ds)
    (covered : (p : ℕ) → p < (active_of ds).beta.0 → (p < beta_of s) ⊎ (is_stored ss p ≡ true)) where
  beta_is : (c : List ℕ) → chain c ≡ Sound ds → beta_of c ≡ (active_of ds).beta.0
  unfolding beta_of descriptors
  beta_is c e = ap (λ (x : Chain). (active_of (descriptors x)).beta.0) e

  is_sound : (c : List ℕ) → chain c ≡ Sound ds → chain_sound (chain c) ≡ true
  unfolding chain_sound
  is_sound c e = rw e

  same_block : (p : ℕ) → (p < beta_of s) ⊎ (is_stored ss p ≡ true) → block_at (store_all s ss) p ≡ block_at (store_all t ss) p
  same_block p (inl h) = stored_both (length s) p s t refl (sym agree.long) whole ((agree_below s t agree).blocks p h)
  same_block p (inr h) = stored_anyway (length s) p s t refl (sym agree.long) whole h

  agree_stored : Agree (store_all s ss) (store_all t ss)
  agree_stored =
      record {
        long = stored_length (length s) s refl whole ∙ sym (stored_length (length s) t (sym agree.long) whole);
        sound = is_sound (store_all s ss) in_s;
        sound' = is_sound (store_all t ss) in_t;
        beta = beta_is (store_all s ss) in_s ∙ sym (beta_is (store_all t ss) in_t);
        below = rw (beta_is (store_all s ss) in_s) (blocks_taken_lem (store_all s ss) (store_all t ss) (active_of ds).beta.0 (λ p h. same_block p (covered p h)));
      }

active_two : (x y : Descriptor) → active_of (x ∷ y ∷ []) ≡ y
unfolding active_of
active_two x y = refl

-- an accepted call on two cards that agree
module _ (s t : List ℕ) (agree : Agree s t) where
  abbrev ds : List Descriptor
  ds = descriptors_of s

  abbrev d : Descriptor
  d = active_of ds

  active_beta : beta_of s ≡ d.beta.0
  unfolding beta_of
  active_beta = refl

  -- both cards after the same stores, given what their chain is then
  both : (xs ys : List Store) (zs : List Descriptor) → Whole (length s) xs → xs ≡ ys → chain (store_all s xs) ≡ Sound zs → chain (store_all t ys) ≡ Sound zs
      → ((p : ℕ) → p < (active_of zs).beta.0 → (p < d.beta.0) ⊎ (is_stored xs p ≡ true)) → Agree (store_all s xs) (store_all t ys)
  both xs ys zs whole same_stores in_s in_t covered =
      subst (λ (ss : List Store). Agree (store_all s xs) (store_all t ss)) same_stores
      (agree_stored s t agree xs whole zs in_s (subst (λ (ss : List Store). chain (store_all t ss) ≡ Sound zs) (sym same_stores) in_t) (λ p h. rw active_beta (covered p h)))

  after_revert : (name : List ℕ) → RevertPassed s name → RevertPassed t name → Agree (store_all s (revert_stores s name)) (store_all t (revert_stores t name))
  after_revert name e e' =
      let ss = snapshots_of ds in
      let r = revision_of s in
      let xs = take (staying r (index_of ss name)) ss in
      let w = returned_of r (with_name ss name) d.name in
      both (revert_stores s name) (revert_stores t name) (xs ++ (w ∷ [])) (revert_whole s name e) (same_revert s t agree name e) (reverted_chain s name e)
      (subst (λ (n : ℕ). chain (store_all t (revert_stores t name)) ≡ Sound (take (staying n (index_of ss name)) ss ++ (returned_of n (with_name ss name) d.name ∷ []))) (sym (below_revision s t (beta_of s) (agree_below s t agree)))
      (subst (λ (x : Chain). let ys = descriptors x in
      chain (store_all t (revert_stores t name)) ≡ Sound (take (staying (revision_of t) (index_of (snapshots_of ys) name)) (snapshots_of ys) ++ (returned_of (revision_of t) (with_name (snapshots_of ys) name) (active_of ys).name ∷ [])))
      (sym (agree_chain s t agree)) (reverted_chain t name e')))
      (λ p h. inl (omega (arith, (returned s name e).5, ap (λ (x : Descriptor). x.beta.0) (active_snoc xs w))))

  after_snap : (name : List ℕ) → SnapPassed s name → SnapPassed t name → Agree (store_all s (snap_stores s name)) (store_all t (snap_stores t name))
  after_snap name e e' =
      let old = linked_of (renamed_of d name) d.beta in
      both (snap_stores s name) (snap_stores t name) (snapshots_of ds ++ (old ∷ reopened_of d ∷ [])) (snap_whole s name e) (same_snap s t agree name e) (snapped_chain s name e)
      (subst (λ (x : Chain). let xs = descriptors x in chain (store_all t (snap_stores t name)) ≡ Sound (snapshots_of xs ++ (linked_of (renamed_of (active_of xs) name) (active_of xs).beta ∷ reopened_of (active_of xs) ∷ [])))
      (sym (agree_chain s t agree)) (snapped_chain t name e'))
      (λ p h. snap_covered s name e p (omega (arith, ap (λ (x : Descriptor). x.beta.0) (active_append (snapshots_of ds) old (reopened_of d ∷ [])), ap (λ (x : Descriptor). x.beta.0) (active_two old (reopened_of d)))))

  after_write : (l : ℕ) (block : List ℕ) → WritePassed s l block → WritePassed t l block → Agree (store_all s (write_stores s l block)) (store_all t (write_stores t l block))
  after_write l block e e' =
      let more = need d.alpha.0 (find s ds d l) in
      both (write_stores s l block) (write_stores t l block) (snapshots_of ds ++ (extended_of d more ∷ [])) (write_whole s l block e) (same_write s t agree l block e) (written_chain s l block e)
      (rw (found_is s t agree l block e)
      (subst (λ (x : Chain). let xs = descriptors x in chain (store_all t (write_stores t l block)) ≡ Sound (snapshots_of xs ++ (extended_of (active_of xs) (need (active_of xs).alpha.0 (find t xs (active_of xs) l)) ∷ [])))
      (sym (agree_chain s t agree)) (written_chain t l block e')))
      (λ p h. write_covered s l block p (omega (arith, ap (λ (x : Descriptor). x.beta.0) (active_snoc (snapshots_of ds) (extended_of d more)))))

  -- a write of a block whose number is below L takes the same on both, and finds the same there
  needs_same : (l : ℕ) → l < d.volume → write_need s l ≡ write_need t l
  unfolding write_need
  needs_same l h = rw (← (agree_chain s t agree), ← (rw (active_target ds) at (found_same s t agree Active [] l refl h)))

  merged_same : (o : ℕ) (bytes : List ℕ) (l : ℕ) → l < d.volume → merged_on s o bytes l ≡ merged_on t o bytes l
  unfolding merged_on
  merged_same o bytes l h =
      rw (← (agree_chain s t agree)) (ap (λ (x : List ℕ). merged x o bytes l) (rw (active_target ds) at (block_same s t agree Active [] l refl h)))

-- a span on two cards that agree, both of which pass: as long as there is room on the first, they agree after its first i blocks, and these take the same
module _ (s t : List ℕ) (agree : Agree s t) (p : Passes s) (q : Passes t) (o : ℕ) (bytes : List ℕ) (upto : o + length bytes ≤ 512 * (active_of (descriptors_of s)).volume) where
  same_active : active_of (descriptors_of s) ≡ active_of (descriptors_of t)
  same_active = ap (λ (x : Chain). active_of (descriptors x)) (agree_chain s t agree)

  upto_t : o + length bytes ≤ 512 * (active_of (descriptors_of t)).volume
  upto_t = subst (λ (x : Descriptor). o + length bytes ≤ 512 * x.volume) same_active upto

  abbrev Both : ℕ → Type 0
  Both i = Agree (span_card s o bytes i) (span_card t o bytes i) × (span_need s o bytes i ≡ span_need t o bytes i)

  both_next : (i : ℕ) → i < span_count o bytes → (active_of (descriptors_of s)).beta.0 + span_need s o bytes (suc i) ≤ block_count s → Both i → Both (suc i)
  both_next i k room b =
      let u = span_card s o bytes i in
      let v = span_card t o bytes i in
      let l = span_block o i in
      let e = span_write s o bytes p upto i k room in
      let same_need : span_need s o bytes (suc i) ≡ span_need t o bytes (suc i) = need_next s o bytes i ∙ (rw (b.1, needs_same u v b.0 l e.below) (sym (need_next t o bytes i))) in
      let room_t : (active_of (descriptors_of t)).beta.0 + span_need t o bytes (suc i) ≤ block_count t = rw (← same_active, ← same_need, ← (agree_count s t agree)) room in
      let e' = span_write t o bytes q upto_t i k room_t in
      let m = merged_same u v b.0 o bytes l e.below in
      let a = after_write u v b.0 l (merged_on u o bytes l) e (subst (WritePassed v l) (sym m) e') in
      (rw (card_next s o bytes i, card_next t o bytes i, ← m) a, same_need)

  both_at : (i : ℕ) → i ≤ span_count o bytes → (active_of (descriptors_of s)).beta.0 + span_need s o bytes i ≤ block_count s → Both i
  unfolding span_stores span_need store_all
  both_at zero k room = (agree, refl)
  both_at (suc i) k room = both_next i k room (both_at i (omega arith) (omega (arith, room, need_next s o bytes i)))

  pub after_span : (active_of (descriptors_of s)).beta.0 + write_span_need s o bytes ≤ block_count s → Agree (store_all s (write_span_stores s o bytes)) (store_all t (write_span_stores t o bytes))
  unfolding write_span_stores write_span_need
  after_span room = (both_at (span_count o bytes) (omega arith) room).0

  pub same_span_need : (active_of (descriptors_of s)).beta.0 + write_span_need s o bytes ≤ block_count s → write_span_need s o bytes ≡ write_span_need t o bytes
  unfolding write_span_need
  same_span_need room = (both_at (span_count o bytes) (omega arith) room).1

-- so there is room on both or on neither
abbrev wants : ℕ → List ℕ → List ℕ → Bool
wants o bytes c = ltb (block_count c) ((active_of (descriptors_of c)).beta.0 + write_span_need c o bytes)

module _ (s t : List ℕ) (agree : Agree s t) (p : Passes s) (q : Passes t) (o : ℕ) (bytes : List ℕ) (upto : o + length bytes ≤ 512 * (active_of (descriptors_of s)).volume) where
  same_beta : (active_of (descriptors_of s)).beta.0 ≡ (active_of (descriptors_of t)).beta.0
  same_beta = ap (λ (x : Descriptor). x.beta.0) (same_active s t agree p q o bytes upto)

  room_by : (b c : Bool) → wants o bytes s ≡ b → wants o bytes t ≡ c → b ≡ c
  room_by true true e f = refl
  room_by false false e f = refl
  room_by true false e f =
      let r = ltb-false (block_count t) ((active_of (descriptors_of t)).beta.0 + write_span_need t o bytes) f in
      let n = same_span_need t s (agree_back s t agree) q p o bytes (upto_t s t agree p q o bytes upto) r in
      absurd (omega (arith, ltb-true (block_count s) ((active_of (descriptors_of s)).beta.0 + write_span_need s o bytes) e, r, n, same_beta, agree_count s t agree))
  room_by false true e f =
      let r = ltb-false (block_count s) ((active_of (descriptors_of s)).beta.0 + write_span_need s o bytes) e in
      let n = same_span_need s t agree p q o bytes upto r in
      absurd (omega (arith, ltb-true (block_count t) ((active_of (descriptors_of t)).beta.0 + write_span_need t o bytes) f, r, n, same_beta, agree_count s t agree))

  pub same_room : wants o bytes s ≡ wants o bytes t
  same_room = room_by (wants o bytes s) (wants o bytes t) refl refl

-- the rows of a span write are the same, as far as they decide, where the area is a card
module _ (s t : List ℕ) (agree : Agree s t) (area : area_bad s ≡ false) (o : ℕ) (bytes : List ℕ) where
  passes_s : is_fault (check_card s) ≡ false → Passes s
  passes_s f = faultless_passes s area agree.sound f

  passes_t : is_fault (check_card s) ≡ false → Passes t
  passes_t f = faultless_passes t (sym (area_kept s t agree.long) ∙ area) agree.sound' (ap is_fault (sym (check_card_lem s t agree)) ∙ f)

  room_same : is_fault (check_card s) ≡ false → ltb (512 * (active_of (descriptors_of s)).volume) (o + length bytes) ≡ false
      → wants o bytes s ≡ ltb (block_count t) ((active_of (descriptors_of s)).beta.0 + write_span_need t o bytes)
  room_same f v =
      same_room s t agree (passes_s f) (passes_t f) o bytes (ltb-false (512 * (active_of (descriptors_of s)).volume) (o + length bytes) v)
      ∙ ap (λ (x : Chain). ltb (block_count t) ((active_of (descriptors x)).beta.0 + write_span_need t o bytes)) (sym (agree_chain s t agree))

  pub span_write_rows_lem : SameRows (span_write_rows s o bytes) (span_write_rows t o bytes)
  unfolding span_write_rows
  span_write_rows_lem = rw (← (agree_chain s t agree), ← (check_card_lem s t agree)) (then (λ y. then (λ v. then (λ f. same_rows (ap (λ (b : Bool). row b 11 0 ∷ []) (room_same f v))))))

-- every change that is no format, on two cards that agree
module _ (s t : List ℕ) (agree : Agree s t) where
  pub after_change : {x : Kind} → formats x ≡ false → Allowed s x → Allowed t x → Agree (store_all s (stores_by x s)) (store_all t (stores_by x t))
  unfolding formats stores_by store_all
  after_change f (to_format e) e' = no (sym f)
  after_change f to_leave e' = agree
  after_change f (to_write {l = l} {block = block} e) (to_write e') = after_write s t agree l block e e'
  after_change f (to_span {o = o} {bytes = bytes} e) (to_span e') = after_span s t agree e.passes e'.passes o bytes e.upto e.room
  after_change f (to_snap {name = name} e) (to_snap e') = after_snap s t agree name e e'
  after_change f (to_revert {name = name} e) (to_revert e') = after_revert s t agree name e e'
