-- A snapshot stays as it is under every call but a format and a revert to an earlier one, or on revision 0 to itself: its descriptor, those before it and all
-- blocks below its beta; and so does the active name.
use mathlib.Core.Path.{◌≡◌, refl, sym, ap, ◌∙◌}
use mathlib.Core.Logic.{◌⊎◌, inl, inr}
use mathlib.Core.Bool.{Bool, true, false}
use mathlib.Core.List.{List, [], ◌∷◌, ◌++◌, append_assoc}
use Prim.Native.Nat.{ℕ, suc, ◌+◌, ◌-◌, ◌≤◌, ◌<◌}
use native.Mathlib.Omega.{arith}
use lib.ListN.{length, take, drop, get_or, length-append, take-append-drop}
use lib.Seq.{take-append-le, take-append-add, append_snoc, get_or-append_seam}
use lib.Dec.{eqb, leb}
use borrow.Author.Tests.{eqb-true, eqb-false, leb-true, leb-false}
use Rattle.blocks.specs.Pick.{pick}
use Rattle.blocks.specs.Bytes.{block_at, store_all, Store}
use Rattle.blocks.specs.Descriptor.{no_descriptor, revision_of, renamed_of, linked_of, extended_of, reopened_of}
use Rattle.chains.specs.Chain.{Sound, chain, index_of, named, active_of}
use Rattle.blocks.specs.declared.descriptor.Descriptor.{Descriptor}
use Rattle.blocks.proofs.BoolLaws.{no}
use Rattle.links.proofs.ChainLaws.{active_snoc, descriptors_are}
use Rattle.entries.specs.Entry.{need}
use Rattle.calls.specs.Call.{Call}
use Rattle.calls.specs.Parts.{descriptors_of, snapshots_of, with_name, found_through}
use Rattle.calls.specs.Stores.{write_stores, snap_stores, revert_stores, staying}
use Rattle.calls.specs.Step.{step}
use Rattle.claims.specs.History.{is_format, formats}
use Rattle.links.proofs.RelinkedLaws.{beta_before}
use Rattle.blocks.proofs.StoreLists.{is_stored, stored_length, stored_other, Whole}
use Rattle.calls.proofs.Passed.{WritePassed, SnapPassed, RevertPassed}
use Rattle.claims.specs.Kinds.{Kind}
use Rattle.claims.proofs.Changes.{stores_by, Allowed, to_format, to_leave, to_write, to_span, to_snap, to_revert}
use Rattle.claims.proofs.Steps.{step_cases}
use Rattle.calls.proofs.CardLaws.{active_split, snapshots_snoc, snapshots_are, active_is}
use Rattle.links.proofs.MemberLaws.{member_from, member_fresh}
use Rattle.changes.proofs.WholeLaws.{write_whole, snap_whole, revert_whole}
use Rattle.calls.proofs.VisitLaws.{behind}
use Rattle.changes.proofs.RevertedChain.{returned_of, revert_split, visit_below, reverted_chain, returned, revert_above}
use Rattle.changes.proofs.SpanSteps.{span_keeps}
use Rattle.calls.specs.Spans.{merged_on, span_count, write_span_stores}
use Rattle.changes.proofs.SnappedChain.{snap_above, snapped_chain}
use Rattle.changes.proofs.WrittenChain.{written_chain, write_above}
use Rattle.chains.proofs.NamedLaws.{named_left}

-- v stands on t after the descriptors xs, with the blocks below its beta as on s, and the active name is n
pub record Stands (s : List ℕ) (xs : List Descriptor) (v : Descriptor) (n : List ℕ) (t : List ℕ) : Type 0 where
  pub long : length s ≡ length t
  pub rest : List Descriptor
  pub some : 0 < length rest
  pub is : chain t ≡ Sound (xs ++ (v ∷ rest))
  pub active : (active_of rest).name ≡ n
  pub blocks : (p : ℕ) → p < v.beta.0 → block_at s p ≡ block_at t p

module _ (s : List ℕ) (xs : List Descriptor) (v : Descriptor) (n : List ℕ) (t : List ℕ) (h : Stands s xs v n t) where
  abbrev rest : List Descriptor
  rest = h.rest

  ds_is : descriptors_of t ≡ xs ++ (v ∷ rest)
  ds_is = descriptors_are t (xs ++ (v ∷ rest)) h.is

  pub stands_snapshots : snapshots_of (descriptors_of t) ≡ xs ++ (v ∷ snapshots_of rest)
  stands_snapshots = ap snapshots_of ds_is ∙ snapshots_are xs v rest h.some

  pub stands_active : active_of (descriptors_of t) ≡ active_of rest
  stands_active = ap active_of ds_is ∙ active_is xs v rest h.some

  -- what stands after v starts where v ends
  after_v : (us : List Descriptor) (u : Descriptor) (ws : List Descriptor) → rest ≡ us ++ (u ∷ ws) → v.beta.0 ≤ u.alpha.0
  after_v us u ws q = beta_before (member_from t (xs ++ (v ∷ rest)) xs v rest h.is refl) v us u ws (ap (λ (zs : List Descriptor). v ∷ zs) q)

  active_above : v.beta.0 ≤ (active_of (descriptors_of t)).alpha.0
  active_above = omega (arith, after_v (snapshots_of rest) (active_of rest) [] (active_split rest h.some), ap (λ (x : Descriptor). x.alpha.0) stands_active)

  -- stores at or above v's beta, and a chain that still has v
  stands_by : (ss : List Store) → Whole (length t) ss → (ys : List Descriptor) → 0 < length ys → chain (store_all t ss) ≡ Sound (xs ++ (v ∷ ys)) → (active_of ys).name ≡ n
      → ((p : ℕ) → p < v.beta.0 → is_stored ss p ≡ false) → Stands s xs v n (store_all t ss)
  stands_by ss w ys m is a low =
      record {
        long = h.long ∙ sym (stored_length (length t) t refl w);
        rest = ys;
        some = m;
        is = is;
        active = a;
        blocks = λ p l. h.blocks p l ∙ sym (stored_other (length t) t refl w p (low p l));
      }

  grown : (zs : List Descriptor) → snapshots_of (descriptors_of t) ++ zs ≡ xs ++ (v ∷ (snapshots_of rest ++ zs))
  grown zs = ap (λ (ys : List Descriptor). ys ++ zs) stands_snapshots ∙ append_assoc xs (v ∷ snapshots_of rest) zs

  active_called : (active_of (descriptors_of t)).name ≡ n
  active_called = ap (λ (x : Descriptor). x.name) stands_active ∙ h.active

  -- a write
  stands_write : (l : ℕ) (block : List ℕ) → WritePassed t l block → Stands s xs v n (store_all t (write_stores t l block))
  stands_write l block e =
      let d = active_of (descriptors_of t) in
      let x = extended_of d (need d.alpha.0 (found_through t d l)) in
      stands_by (write_stores t l block) (write_whole t l block e) (snapshots_of rest ++ (x ∷ [])) (omega (arith, length-append (snapshots_of rest) (x ∷ [])))
      (written_chain t l block e ∙ ap Sound (grown (x ∷ []))) (ap (λ (y : Descriptor). y.name) (active_snoc (snapshots_of rest) x) ∙ active_called) (λ p q. write_above t l block e p (omega (arith, active_above)))

  -- a snap
  stands_snap : (name : List ℕ) → SnapPassed t name → Stands s xs v n (store_all t (snap_stores t name))
  stands_snap name e =
      let d = active_of (descriptors_of t) in
      let old = linked_of (renamed_of d name) d.beta in
      let new = reopened_of d in
      stands_by (snap_stores t name) (snap_whole t name e) (snapshots_of rest ++ (old ∷ new ∷ [])) (omega (arith, length-append (snapshots_of rest) (old ∷ new ∷ [])))
      (snapped_chain t name e ∙ ap Sound (grown (old ∷ new ∷ [])))
      (ap (λ (ys : List Descriptor). (active_of ys).name) (sym (append_snoc (snapshots_of rest) old (new ∷ []))) ∙ ap (λ (y : Descriptor). y.name) (active_snoc (snapshots_of rest ++ (old ∷ [])) new) ∙ active_called)
      (λ p q. snap_above t name e p (omega (arith, active_above)))

  -- a revert: v stays where it is among those that stay, otherwise it is gone
  module _ (name : List ℕ) (e : RevertPassed t name) where
    abbrev ss : List Descriptor
    ss = snapshots_of (descriptors_of t)

    abbrev zs : List Descriptor
    zs = snapshots_of rest

    abbrev u : Descriptor
    u = with_name ss name

    abbrev r : ℕ
    r = revision_of t

    abbrev j : ℕ
    j = staying r (index_of ss name)

    abbrev w : Descriptor
    w = returned_of r u (active_of (descriptors_of t)).name

    abbrev ws : List Descriptor
    ws = behind ss name ++ (active_of (descriptors_of t) ∷ [])

    sound_t : chain t ≡ Sound (descriptors_of t)
    sound_t = h.is ∙ ap Sound (sym ds_is)

    kept_split : (m i : ℕ) → m ≡ length xs + suc i → take m ss ≡ xs ++ (v ∷ take i zs)
    kept_split m i q = ap (λ (ys : List Descriptor). take m ys) stands_snapshots ∙ rw q (take-append-add xs (v ∷ zs) (suc i))

    -- a later snapshot starts where v ends, or after; v itself ends there
    later_above : (i : ℕ) → index_of ss name ≡ length xs + suc i → v.beta.0 ≤ u.alpha.0
    later_above i q =
        let split : descriptors_of t ≡ xs ++ (v ∷ (take i zs ++ (u ∷ ws))) = revert_split t name e ∙ ap (λ (ys : List Descriptor). ys ++ (u ∷ ws)) (kept_split (index_of ss name) i q) ∙ append_assoc xs (v ∷ take i zs) (u ∷ ws) in
        beta_before (member_from t (descriptors_of t) xs v (take i zs ++ (u ∷ ws)) sound_t split) v (take i zs) u ws refl

    itself : index_of ss name ≡ length xs → u ≡ v
    itself q = ap (λ (n : ℕ). get_or ss n no_descriptor) q ∙ ap (λ (ys : List Descriptor). get_or ys (length xs) no_descriptor) stands_snapshots ∙ get_or-append_seam xs v zs no_descriptor

    floor_by : (z : Bool) → length xs < pick z (suc (index_of ss name)) (index_of ss name) → v.beta.0 ≤ pick z u.beta.0 u.alpha.0
    floor_by true l = at_or_after (eqb (index_of ss name) (length xs)) refl
      where
        at_or_after : (y : Bool) → eqb (index_of ss name) (length xs) ≡ y → v.beta.0 ≤ u.beta.0
        at_or_after true q = omega (arith, ap (λ (x : Descriptor). x.beta.0) (itself (eqb-true (index_of ss name) (length xs) q)))
        at_or_after false q =
            omega (arith, later_above (index_of ss name - suc (length xs)) (omega (arith, eqb-false (index_of ss name) (length xs) q)), (visit_below t name e).0)
    floor_by false l = later_above (index_of ss name - suc (length xs)) (omega arith)

    floor : length xs < j → v.beta.0 ≤ pick (eqb r 1) u.beta.0 u.alpha.0
    unfolding staying
    floor l = floor_by (eqb r 1) l

    stands_later : length xs < j → Stands s xs v n (store_all t (revert_stores t name))
    stands_later l =
        let i = j - suc (length xs) in
        let split : take j ss ≡ xs ++ (v ∷ take i zs) = kept_split j i (omega arith) in
        stands_by (revert_stores t name) (revert_whole t name e) (take i zs ++ (w ∷ [])) (omega (arith, length-append (take i zs) (w ∷ [])))
        (reverted_chain t name e ∙ ap Sound (ap (λ (ys : List Descriptor). ys ++ (w ∷ [])) split ∙ append_assoc xs (v ∷ take i zs) (w ∷ [])))
        (ap (λ (y : Descriptor). y.name) (active_snoc (take i zs) w) ∙ (returned t name e).2 ∙ active_called) (λ p h. revert_above t name e p (omega (arith, floor l)))

    gone : j ≤ length xs → named (snapshots_of (descriptors_of (store_all t (revert_stores t name)))) v.name ≡ false
    gone q =
        let f : take j ss ≡ take j xs = ap (λ (ys : List Descriptor). take j ys) stands_snapshots ∙ take-append-le j xs (v ∷ zs) q in
        let g : snapshots_of (descriptors_of (store_all t (revert_stores t name))) ≡ take j xs = ap snapshots_of (descriptors_are (store_all t (revert_stores t name)) (take j ss ++ (w ∷ [])) (reverted_chain t name e)) ∙ snapshots_snoc (take j ss) w ∙ f in
        ap (λ (ys : List Descriptor). named ys v.name) g
        ∙ named_left (take j xs) (drop j xs) v.name (ap (λ (ys : List Descriptor). named ys v.name) (take-append-drop j xs) ∙ member_fresh t (xs ++ (v ∷ rest)) xs v rest h.is refl)

    revert_by : (z : Bool) → leb j (length xs) ≡ z
        → Stands s xs v n (store_all t (revert_stores t name)) ⊎ (named (snapshots_of (descriptors_of (store_all t (revert_stores t name)))) v.name ≡ false)
    revert_by true q = inr (gone (leb-true j (length xs) q))
    revert_by false q = inl (stands_later (leb-false j (length xs) q))

-- every change that is no format
module _ (s : List ℕ) (xs : List Descriptor) (v : Descriptor) (n : List ℕ) (t : List ℕ) (h : Stands s xs v n t) where
  abbrev Either : List ℕ → Type 0
  Either c = Stands s xs v n c ⊎ (named (snapshots_of (descriptors_of c)) v.name ≡ false)

  stands_change : {x : Kind} → formats x ≡ false → Allowed t x → Either (store_all t (stores_by x t))
  unfolding formats stores_by store_all write_span_stores
  stands_change f (to_format e) = no (sym f)
  stands_change f to_leave = inl h
  stands_change f (to_write {l = l} {block = block} e) = inl (stands_write s xs v n t h l block e)
  stands_change f (to_span {o = o} {bytes = bytes} e) =
      inl (span_keeps t o bytes e (Stands s xs v n) h (λ u l p w k. stands_write s xs v n u k l (merged_on u o bytes l) w) (span_count o bytes) (omega arith))
  stands_change f (to_snap {name = name} e) = inl (stands_snap s xs v n t h name e)
  stands_change f (to_revert {name = name} e) = revert_by s xs v n t h name e (leb (staying (revision_of t) (index_of (snapshots_of (descriptors_of t)) name)) (length xs)) refl

  pub stands_step : (k : Call) → is_format k t ≡ false → Stands s xs v n (step k t).card ⊎ (named (snapshots_of (descriptors_of (step k t).card)) v.name ≡ false)
  stands_step k f = step_cases k t Either (λ e. inl h) (λ e g a. stands_change g a) f
