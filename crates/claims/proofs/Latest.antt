-- The latest accepted snap of a name in a run: after it a snapshot of that name stands as it was made, or none does.
use mathlib.Core.Path.{◌≡◌, refl, sym, ap, ◌∙◌, subst}
use mathlib.Core.Logic.{◌⊎◌, inl, inr}
use mathlib.Core.Bool.{Bool, true, false, ◌&&◌}
use mathlib.Core.List.{List, [], ◌∷◌, ◌++◌}
use Prim.Native.Nat.{ℕ, suc, ◌+◌}
use native.Mathlib.Omega.{arith}
use lib.ListN.{take, drop, take-append-drop}
use lib.Seq.{append_snoc}
use Rattle.blocks.specs.Pick.{pick, same}
use Rattle.blocks.specs.Bytes.{store_all}
use Rattle.blocks.specs.Descriptor.{revision_of, renamed_of, linked_of, reopened_of}
use Rattle.chains.specs.Chain.{Sound, chain, index_of, named, active_of}
use Rattle.blocks.specs.declared.descriptor.Descriptor.{Descriptor}
use Rattle.blocks.proofs.BoolLaws.{no}
use Rattle.chains.proofs.NamedLaws.{named_one, named_append, named_left}
use Rattle.links.proofs.ChainLaws.{descriptors_are}
use Rattle.calls.specs.Call.{Call}
use Rattle.calls.specs.Parts.{descriptors_of, snapshots_of}
use Rattle.calls.specs.Meaning.{answer_of}
use Rattle.calls.specs.Stores.{write_stores, snap_stores, revert_stores, staying}
use Rattle.calls.specs.Step.{step, after, is_accepted}
use Rattle.claims.specs.History.{is_format, Standing, more, is_snap_of, Position, Nowhere, At, latest_from, latest_snap, formats, snaps_as}
use Rattle.claims.specs.Claims.{Unsnapped, end, then, LastSnap}
use Rattle.claims.proofs.Kept.{Stands, stands_step}
use Rattle.claims.proofs.Runs.{standing_length, step_length}
use Rattle.calls.proofs.Passed.{WritePassed, SnapPassed, RevertPassed}
use Rattle.claims.specs.Kinds.{Kind, kind_of}
use Rattle.claims.proofs.Changes.{stores_by, Allowed, to_format, to_leave, to_write, to_span, to_snap, to_revert}
use Rattle.claims.proofs.Steps.{step_cases}
use Rattle.calls.proofs.CardLaws.{snapshots_snoc}
use Rattle.changes.proofs.RevertedChain.{reverted_chain}
use Rattle.changes.proofs.SpanSteps.{passed_at}
use Rattle.calls.specs.Spans.{span_count, write_span_stores}
use Rattle.changes.proofs.SnappedChain.{snapped_chain}
use Rattle.changes.proofs.WrittenChain.{written_chain}

-- a call that is no accepted snap of the name makes no snapshot of it
module _ (n t : List ℕ) (gone : named (snapshots_of (descriptors_of t)) n ≡ false) where
  gone_by : (c : List ℕ) (ss : List Descriptor) (e : Descriptor) → chain c ≡ Sound (ss ++ (e ∷ [])) → named ss n ≡ false → named (snapshots_of (descriptors_of c)) n ≡ false
  gone_by c ss e is h = ap (λ (ds : List Descriptor). named (snapshots_of ds) n) (descriptors_are c (ss ++ (e ∷ [])) is) ∙ ap (λ (ds : List Descriptor). named ds n) (snapshots_snoc ss e) ∙ h

  gone_write : (l : ℕ) (block : List ℕ) → WritePassed t l block → named (snapshots_of (descriptors_of (store_all t (write_stores t l block)))) n ≡ false
  gone_write l block e = gone_by (store_all t (write_stores t l block)) (snapshots_of (descriptors_of t)) _ (written_chain t l block e) gone

  gone_snap : (name : List ℕ) → SnapPassed t name → same name n ≡ false → named (snapshots_of (descriptors_of (store_all t (snap_stores t name)))) n ≡ false
  gone_snap name e other =
      let d = active_of (descriptors_of t) in
      let old = linked_of (renamed_of d name) d.beta in
      gone_by (store_all t (snap_stores t name)) (snapshots_of (descriptors_of t) ++ (old ∷ [])) (reopened_of d)
      (snapped_chain t name e ∙ ap Sound (sym (append_snoc (snapshots_of (descriptors_of t)) old (reopened_of d ∷ []))))
      (named_append (snapshots_of (descriptors_of t)) (old ∷ []) n ∙ rw (gone, named_one old n, other))

  gone_revert : (name : List ℕ) → RevertPassed t name → named (snapshots_of (descriptors_of (store_all t (revert_stores t name)))) n ≡ false
  gone_revert name e =
      let ss = snapshots_of (descriptors_of t) in
      let j = staying (revision_of t) (index_of ss name) in
      gone_by (store_all t (revert_stores t name)) (take j ss) _ (reverted_chain t name e)
      (named_left (take j ss) (drop j ss) n (ap (λ (ds : List Descriptor). named ds n) (take-append-drop j ss) ∙ gone))

  gone_change : {x : Kind} → formats x ≡ false → snaps_as n x ≡ false → Allowed t x → named (snapshots_of (descriptors_of (store_all t (stores_by x t)))) n ≡ false
  unfolding formats snaps_as stores_by store_all write_span_stores
  gone_change f o (to_format e) = no (sym f)
  gone_change f o to_leave = gone
  gone_change f o (to_write {l = l} {block = block} e) = gone_write l block e
  gone_change f o (to_span {o = offset} {bytes = bytes} e) =
      gone_by (store_all t (write_span_stores t offset bytes)) (snapshots_of (descriptors_of t)) _ (passed_at t offset bytes e (span_count offset bytes) (omega arith)).chained gone
  gone_change f o (to_snap {name = name} e) = gone_snap name e o
  gone_change f o (to_revert {name = name} e) = gone_revert name e

  other_by : (b a : Bool) → (b && a) ≡ false → a ≡ true → b ≡ false
  other_by true a o e = no (sym o ∙ e)
  other_by false a o e = refl

  gone_step : (k : Call) → is_format k t ≡ false → (is_snap_of n k && is_accepted (answer_of k t)) ≡ false → named (snapshots_of (descriptors_of (step k t).card)) n ≡ false
  unfolding is_snap_of
  gone_step k f o =
      step_cases k t (λ (c : List ℕ). named (snapshots_of (descriptors_of c)) n ≡ false) (λ e. gone) (λ e g a. gone_change g (other_by (snaps_as n (kind_of k)) (is_accepted (answer_of k t)) o e) a) f

-- no snapshot of the name comes to be in a run without an accepted snap of it
pub gone_run : (n : List ℕ) (ks : List Call) (t : List ℕ) → named (snapshots_of (descriptors_of t)) n ≡ false → Standing t ks → Unsnapped n t ks → named (snapshots_of (descriptors_of (after ks t))) n ≡ false
unfolding after
gone_run n [] t g s u = g
gone_run n (k ∷ ks) t g (more f b rest) (then o u) =
    gone_run n ks (step k t).card (gone_step n t g k f o) (standing_length t (step k t).card (sym (step_length k t)) ks rest) u

-- and one that stands at its start stands as it was, or is gone
module _ (s : List ℕ) (xs : List Descriptor) (v : Descriptor) (a : List ℕ) where
  run_by : (k : Call) (ks : List Call) (t : List ℕ) → Standing (step k t).card ks → Unsnapped v.name (step k t).card ks
      → (Stands s xs v a (step k t).card → Stands s xs v a (after ks (step k t).card) ⊎ (named (snapshots_of (descriptors_of (after ks (step k t).card))) v.name ≡ false))
      → Stands s xs v a (step k t).card ⊎ (named (snapshots_of (descriptors_of (step k t).card)) v.name ≡ false)
      → Stands s xs v a (after ks (step k t).card) ⊎ (named (snapshots_of (descriptors_of (after ks (step k t).card))) v.name ≡ false)
  run_by k ks t f u again (inl h) = again h
  run_by k ks t f u again (inr g) = inr (gone_run v.name ks (step k t).card g f u)

  pub stands_run : (ks : List Call) (t : List ℕ) → Stands s xs v a t → Standing t ks → Unsnapped v.name t ks
      → Stands s xs v a (after ks t) ⊎ (named (snapshots_of (descriptors_of (after ks t))) v.name ≡ false)
  unfolding after
  stands_run [] t h f u = inl h
  stands_run (k ∷ ks) t h (more f b rest) (then o u) =
      let g = standing_length t (step k t).card (sym (step_length k t)) ks rest in
      run_by k ks t g u (λ x. stands_run ks (step k t).card x g u) (stands_step s xs v a t h k f)

at_is : {i j : ℕ} → At i ≡ At j → i ≡ j
at_is e = cc

-- nowhere
none_by : (i : ℕ) (best : Position) (h : Bool) → pick h (At i) best ≡ Nowhere → (h ≡ false) × (best ≡ Nowhere)
none_by i best true e = let z : ◌≡◌ {A = ℕ} 0 1 = cc in absurd (omega arith)
none_by i best false e = (refl, e)

latest_none : (n : List ℕ) (ks : List Call) (c : List ℕ) (i : ℕ) (best : Position) → latest_from n c ks i best ≡ Nowhere → (best ≡ Nowhere) × Unsnapped n c ks
unfolding latest_from
latest_none n [] c i best e = (e, end)
latest_none n (k ∷ ks) c i best e =
    let r = latest_none n ks (step k c).card (suc i) (pick (is_snap_of n k && is_accepted (answer_of k c)) (At i) best) e in
    let b = none_by i best (is_snap_of n k && is_accepted (answer_of k c)) r.0 in
    (b.1, then b.0 r.1)

pub latest_nowhere : (n c : List ℕ) (ks : List Call) → latest_snap n c ks ≡ Nowhere → Unsnapped n c ks
unfolding latest_snap
latest_nowhere n c ks e = (latest_none n ks c 0 Nowhere e).1

-- at a position: the best so far, and no later one, or one in the list
both_true : (x y : Bool) → (x && y) ≡ true → (x ≡ true) × (y ≡ true)
both_true true y e = (refl, e)
both_true false y e = no e

last_here : (n c : List ℕ) (k : Call) (ks : List Call) → (is_snap_of n k && is_accepted (answer_of k c)) ≡ true → Unsnapped n (step k c).card ks → LastSnap n c (k ∷ ks) 0
unfolding after
last_here n c k ks h u = let b = both_true (is_snap_of n k) (is_accepted (answer_of k c)) h in record { inside = omega arith; is = b.0; accepted_there = b.1; later = u }

last_later : (n c : List ℕ) (k : Call) (ks : List Call) (j : ℕ) → LastSnap n (step k c).card ks j → LastSnap n c (k ∷ ks) (suc j)
unfolding after
last_later n c k ks j l = record { inside = omega (arith, l.inside); is = l.is; accepted_there = l.accepted_there; later = l.later }

abbrev Found : List ℕ → List ℕ → List Call → ℕ → ℕ → Type 0
Found n c ks i r = (j : ℕ) × (r ≡ i + j) × LastSnap n c ks j

here_by : (n c : List ℕ) (k : Call) (ks : List Call) (i r : ℕ) (best : Position) (h : Bool) → (is_snap_of n k && is_accepted (answer_of k c)) ≡ h → Unsnapped n (step k c).card ks → pick h (At i) best ≡ At r
    → ((best ≡ At r) × Unsnapped n c (k ∷ ks)) ⊎ Found n c (k ∷ ks) i r
here_by n c k ks i r best true q u e = inr (0, (let w : i ≡ r = at_is e in omega arith), last_here n c k ks q u)
here_by n c k ks i r best false q u e = inl (e, then q u)

tail_by : (n c : List ℕ) (k : Call) (ks : List Call) (i r : ℕ) (best : Position) → ((pick (is_snap_of n k && is_accepted (answer_of k c)) (At i) best ≡ At r) × Unsnapped n (step k c).card ks) ⊎ Found n (step k c).card ks (suc i) r
    → ((best ≡ At r) × Unsnapped n c (k ∷ ks)) ⊎ Found n c (k ∷ ks) i r
tail_by n c k ks i r best (inl h) = here_by n c k ks i r best (is_snap_of n k && is_accepted (answer_of k c)) refl h.1 h.0
tail_by n c k ks i r best (inr f) = inr (suc f.0, omega (arith, f.1), last_later n c k ks f.0 f.2)

latest_some : (n : List ℕ) (ks : List Call) (c : List ℕ) (i r : ℕ) (best : Position) → latest_from n c ks i best ≡ At r → ((best ≡ At r) × Unsnapped n c ks) ⊎ Found n c ks i r
unfolding latest_from
latest_some n [] c i r best e = inl (e, end)
latest_some n (k ∷ ks) c i r best e = tail_by n c k ks i r best (latest_some n ks (step k c).card (suc i) r (pick (is_snap_of n k && is_accepted (answer_of k c)) (At i) best) e)

at_by : (n c : List ℕ) (ks : List Call) (r : ℕ) → ((Nowhere ≡ At r) × Unsnapped n c ks) ⊎ Found n c ks 0 r → LastSnap n c ks r
at_by n c ks r (inl h) = let e = h.0 in let z : ◌≡◌ {A = ℕ} 0 1 = cc in absurd (omega arith)
at_by n c ks r (inr f) = let e : f.0 ≡ r = omega (arith, f.1) in subst (λ (j : ℕ). LastSnap n c ks j) e f.2

pub latest_at : (n c : List ℕ) (ks : List Call) (r : ℕ) → latest_snap n c ks ≡ At r → LastSnap n c ks r
unfolding latest_snap
latest_at n c ks r e = at_by n c ks r (latest_some n ks c 0 r Nowhere e)
