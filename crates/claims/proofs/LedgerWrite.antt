-- The ledger of the card after an accepted write is the ledger's own step.
use mathlib.Core.Path.{◌≡◌, refl, sym, ap, ◌∙◌, subst}
use mathlib.Core.Bool.{Bool, ◌||◌, true}
use mathlib.Core.List.{List, [], ◌∷◌, ◌++◌}
use Prim.Native.Nat.{ℕ, zero, suc, ◌+◌, ◌-◌, ◌≤◌, ◌<◌}
use native.Mathlib.Omega.{arith}
use lib.ListN.{length, get_or, set, length-append, get_or-append}
use borrow.Author.Tests.{ne_eqb}
use Rattle.blocks.specs.Pick.{pick}
use Rattle.blocks.specs.Bytes.{block_at, zero_block, store_all}
use Rattle.blocks.specs.Descriptor.{no_descriptor, revision_of, extended_of}
use Rattle.blocks.specs.declared.descriptor.Descriptor.{Descriptor}
use Rattle.chains.specs.Chain.{active_of, chain, Sound}
use Rattle.links.proofs.SoundLaws.{form_layout}
use Rattle.links.proofs.LinkedLaws.{active_at}
use Rattle.links.proofs.ChainLaws.{active_snoc, descriptors_are}
use Rattle.entries.specs.Entry.{need, find}
use Rattle.entries.specs.Rules.{entry_of, Rules}
use Rattle.entries.proofs.EntryLaws.{placed_below}
use Rattle.calls.specs.Parts.{descriptors_of, snapshots_of, found_through, block_found}
use Rattle.claims.specs.Ledger.{Volume, cells_from, volume_of, volumes_of, ledger_of, ledger_change}
use Rattle.calls.specs.Check.{Passes}
use Rattle.calls.specs.Stores.{write_stores}
use Rattle.calls.proofs.Passed.{WritePassed}
use Rattle.claims.specs.Kinds.{Writes}
use Rattle.entries.proofs.TableLaws.{group_below}
use Rattle.calls.proofs.CardLaws.{snapshots_snoc, chain_is}
use Rattle.entries.proofs.RulesLaws.{shared_entry}
use Rattle.calls.proofs.CellLaws.{block_named, cell_as, cell_rules}
use Rattle.claims.proofs.LedgerLaws.{changed_set, cells_same, volumes_same, ledger_parts}
use Rattle.calls.proofs.ActiveLaws.{chain_some, region_at, active_last, active_form}
use Rattle.changes.proofs.WrittenChain.{written_chain, written_revision}
use Rattle.changes.proofs.WrittenRules.{snapshot_region, write_below, snapshot_rules}
use Rattle.changes.proofs.WriteFacts.{WriteFacts}
use Rattle.changes.proofs.WritePasses.{write_facts}
use lib.Dec.{eqb}

-- the cells of two cards, of which cell i alone differs
cells_set : (s t : List ℕ) (d e : Descriptor) (block : List ℕ) (n k i : ℕ) → i < n
    → ((j : ℕ) → k ≤ j → j < k + n → (j ≡ k + i → ⊥) → block_found t (found_through t e j) ≡ block_found s (found_through s d j))
    → ((j : ℕ) → j ≡ k + i → block_found t (found_through t e j) ≡ block)
    → cells_from t e n k ≡ set (cells_from s d n k) i block
unfolding cells_from
cells_set s t d e block zero k i b other here = absurd (omega arith)
cells_set s t d e block (suc n) k zero b other here =
    rw (here k (omega arith), cells_same s t d e n (suc k) (λ j u v. other j (omega arith) (omega arith) (λ q. omega arith)))
cells_set s t d e block (suc n) k (suc i) b other here =
    rw (
      other k (omega arith) (omega arith) (λ q. omega arith),
      cells_set s t d e block n (suc k) i (omega arith) (λ j u v w. other j (omega arith) (omega arith) (λ q. w (omega arith))) (λ j q. here j (omega arith)),
    )

-- an accepted write on a card that passes
module _ (c : List ℕ) (passes : Passes c) (l : ℕ) (block : List ℕ) (ok : WritePassed c l block) where
  abbrev ds : List Descriptor
  ds = descriptors_of c

  abbrev d : Descriptor
  d = active_of ds

  abbrev xs : List Descriptor
  xs = snapshots_of ds

  abbrev x : Descriptor
  x = extended_of d (need d.alpha.0 (found_through c d l))

  abbrev t : List ℕ
  t = store_all c (write_stores c l block)

  sound_c : chain c ≡ Sound ds
  sound_c = chain_is (chain c) passes.sound

  split : ds ≡ xs ++ (d ∷ [])
  split = active_last c ds sound_c

  layout_is : (eqb d.layout 1 || eqb d.layout 2) ≡ true
  layout_is = form_layout c _ d (active_form c ds sound_c)

  active_rules : Rules c ds d
  active_rules =
      let n = chain_some c ds sound_c in
      subst (λ (y : Descriptor). Rules c ds y) (sym (active_at ds n)) (passes.rules (length ds - 1) (omega (arith, n)))

  after : descriptors_of t ≡ xs ++ (x ∷ [])
  after = descriptors_are t (xs ++ (x ∷ [])) (written_chain c l block ok)

  inside : l < d.volume
  inside = ok.below

  count : length ds ≡ length xs + 1
  count = ap length split ∙ length-append xs (d ∷ [])

  at_before : (k : ℕ) → k < length xs → get_or ds k no_descriptor ≡ get_or xs k no_descriptor
  at_before k h = ap (λ (zs : List Descriptor). get_or zs k no_descriptor) split ∙ get_or-append xs (d ∷ []) no_descriptor k h

  module _ (facts : WriteFacts c t (xs ++ (x ∷ [])) d x l block) where
    -- a snapshot's region ends at or below the active alpha, and every block below that is kept
    snapshot_by : (k : ℕ) → k < length xs → (j : ℕ) → j < (get_or ds k no_descriptor).volume
        → block_found t (found_through t (get_or ds k no_descriptor) j) ≡ block_found c (found_through c (get_or ds k no_descriptor) j)
    snapshot_by k h j b =
        let e = get_or ds k no_descriptor in
        let r = snapshot_region c passes l block ok k h in
        let below = write_below c passes l block ok (omega (arith, r.some, r.upto)) in
        let in_c : k < length ds = omega (arith, count) in
        let layout = form_layout c _ e (region_at c ds sound_c k in_c).form in
        let rule = passes.rules k in_c in
        ap (λ (zs : List Descriptor). block_found t (find t zs e j)) after
        ∙ cell_as c t ds (xs ++ (x ∷ [])) e e layout refl refl rule (snapshot_rules c passes l block ok k h) j b
        (sym (shared_entry c t d.alpha.0 below e r ds (xs ++ (x ∷ [])) layout rule j (omega (arith, group_below j e.volume b))))
        (λ n. sym (below.blocks (entry_of c e j) (omega (arith, placed_below ds e (entry_of c e j) (rule.tables.in_place j b) n, r.upto))))

    snapshot_cell : (k : ℕ) → k < length xs → (j : ℕ) → j < (get_or xs k no_descriptor).volume
        → block_found t (found_through t (get_or xs k no_descriptor) j) ≡ block_found c (found_through c (get_or xs k no_descriptor) j)
    snapshot_cell k h =
        subst (λ (y : Descriptor). (j : ℕ) → j < y.volume → block_found t (found_through t y j) ≡ block_found c (found_through c y j)) (at_before k h) (snapshot_by k h)

    active_after : active_of (descriptors_of t) ≡ x
    active_after = ap active_of after ∙ active_snoc xs x

    -- a read of another logical block gives what it gave
    other_cell : (j : ℕ) → j < d.volume → (j ≡ l → ⊥) → block_found t (found_through t x j) ≡ block_found c (found_through c d j)
    other_cell j b n =
        ap (λ (zs : List Descriptor). block_found t (find t zs x j)) after
        ∙ cell_as c t ds (xs ++ (x ∷ [])) d x layout_is refl refl active_rules facts.rules j b (facts.other j b n) (λ z. facts.kept j b n z)

    -- a read of the one that was written gives the bytes
    set_block : block_named t facts.to ≡ block
    set_block = ap (λ (z : Bool). pick z zero_block (block_at t facts.to)) (ne_eqb facts.to 0 facts.some) ∙ facts.bytes

    set_cell : block_found t (found_through t x l) ≡ block
    set_cell =
        ap (λ (zs : List Descriptor). block_found t (find t zs x l)) after
        ∙ cell_rules t (xs ++ (x ∷ [])) x layout_is facts.rules l inside ∙ ap (block_named t) facts.set ∙ set_block

    cells_after : cells_from t x x.volume 0 ≡ set (cells_from c d d.volume 0) l block
    cells_after =
        cells_set c t d x block d.volume 0 l inside (λ j u v n. other_cell j (omega arith) (λ q. n (omega arith)))
        (λ j q. let e : j ≡ l = omega arith in ap (λ (i : ℕ). block_found t (found_through t x i)) e ∙ set_cell)

    written_ledger : ledger_of t ≡ ledger_change (Writes l block) (ledger_of c)
    unfolding ledger_change ledger_of volume_of
    written_ledger =
        ledger_parts t (revision_of c) xs x (written_revision c l block ok) (ap snapshots_of after ∙ snapshots_snoc xs x) active_after
        ∙ ap (λ (vs : List Volume). record { revision = revision_of c; snapshots = vs; active = record { name = d.name; cells = cells_from t x x.volume 0 } }) (volumes_same c t xs snapshot_cell)
        ∙ ap (λ (bs : List (List ℕ)). record { revision = revision_of c; snapshots = volumes_of c xs; active = record { name = d.name; cells = bs } }) (cells_after ∙ sym (changed_set (cells_from c d d.volume 0) l block))

-- and its ledger is the ledger's step
pub ledger_write : (c : List ℕ) (l : ℕ) (block : List ℕ) → Passes c → WritePassed c l block → ledger_of (store_all c (write_stores c l block)) ≡ ledger_change (Writes l block) (ledger_of c)
ledger_write c l block p ok = written_ledger c p l block ok (write_facts c p l block ok)
