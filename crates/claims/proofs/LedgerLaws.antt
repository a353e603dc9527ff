-- The ledger of a card, by its volumes: which volume has a name, the cells of a volume, and the ledgers of two cards.
use mathlib.Core.Path.{◌≡◌, refl, sym, ap, ◌∙◌}
use mathlib.Core.Bool.{Bool, true, false, ◌||◌}
use mathlib.Core.List.{List, [], ◌∷◌, ◌++◌}
use Prim.Native.Nat.{ℕ, zero, suc, ◌+◌, ◌<◌, ◌≤◌}
use native.Mathlib.Omega.{arith}
use lib.ListN.{length, get_or, set, take}
use lib.Dec.{eqb}
use Rattle.blocks.specs.Pick.{pick, same}
use Rattle.blocks.specs.Descriptor.{no_descriptor, revision_of}
use Rattle.chains.specs.Chain.{index_of, named, active_of}
use Rattle.blocks.specs.declared.descriptor.Descriptor.{Descriptor}
use Rattle.blocks.proofs.BoolLaws.{no}
use Rattle.chains.proofs.NamedLaws.{named_none, named_cons}
use Rattle.calls.specs.Parts.{with_name, found_through, block_found, descriptors_of, snapshots_of}
use Rattle.calls.specs.Stores.{staying}
use Rattle.claims.specs.Ledger.{Volume, changed_at, has_volume, volume_named, cells_from, volume_of, volumes_of, volumes_kept, ledger_of}

other_then : (a b : Bool) → (a || b) ≡ true → a ≡ false → b ≡ true
other_then true b h e = no (sym e)
other_then false b h e = h

-- one cell changed: given what it becomes, and by two changes that are the same there
pub changed_set : {A : Type 0} (xs : List A) (l : ℕ) (x : A) → changed_at xs l (λ old. x) ≡ set xs l x
unfolding changed_at
changed_set [] l x = refl
changed_set (y ∷ ys) zero x = refl
changed_set {A = A} (y ∷ ys) (suc l) x = ap (λ (zs : List A). y ∷ zs) (changed_set ys l x)

pub changed_is : {A : Type 0} (xs : List A) (l : ℕ) (f : A → A) (z x : A) → l < length xs → f (get_or xs l z) ≡ x → changed_at xs l f ≡ set xs l x
unfolding changed_at
changed_is [] l f z x h e = absurd (omega arith)
changed_is {A = A} (y ∷ ys) zero f z x h e = ap (λ (w : A). w ∷ ys) e
changed_is {A = A} (y ∷ ys) (suc l) f z x h e = ap (λ (zs : List A). y ∷ zs) (changed_is ys l f z x (omega arith) e)

-- the ledger's volumes
pub cells_length : (c : List ℕ) (d : Descriptor) (n l : ℕ) → length (cells_from c d n l) ≡ n
unfolding cells_from
cells_length c d zero l = refl
cells_length c d (suc n) l = ap suc (cells_length c d n (suc l))

cells_at : (c : List ℕ) (d : Descriptor) (n l j : ℕ) → j < n → get_or (cells_from c d n l) j [] ≡ block_found c (found_through c d (l + j))
unfolding cells_from
cells_at c d zero l j h = absurd (omega arith)
cells_at c d (suc n) l zero h = let e : l + 0 ≡ l = omega arith in rw e
cells_at c d (suc n) l (suc j) h = let e : l + suc j ≡ suc l + j = omega arith in rw e (cells_at c d n (suc l) j (omega arith))

pub cell_of : (c : List ℕ) (d : Descriptor) (l : ℕ) → l < d.volume → get_or (volume_of c d).cells l [] ≡ block_found c (found_through c d l)
unfolding volume_of
cell_of c d l h = let e : 0 + l ≡ l = omega arith in cells_at c d d.volume 0 l h ∙ ap (λ (n : ℕ). block_found c (found_through c d n)) e

pub volumes_length : (c : List ℕ) (ds : List Descriptor) → length (volumes_of c ds) ≡ length ds
unfolding volumes_of
volumes_length c [] = refl
volumes_length c (d ∷ ds) = ap suc (volumes_length c ds)

pub has_volume_lem : (c : List ℕ) (ds : List Descriptor) (name : List ℕ) → has_volume (volumes_of c ds) name ≡ named ds name
unfolding has_volume volumes_of volume_of
has_volume_lem c [] name = sym (named_none name)
has_volume_lem c (d ∷ ds) name = ap (λ (b : Bool). same d.name name || b) (has_volume_lem c ds name) ∙ sym (named_cons d ds name)

which_volume : (c : List ℕ) (d : Descriptor) (ds : List Descriptor) (i : ℕ) (v : Volume) (b : Bool) → (b ≡ false → v ≡ volume_of c (get_or ds i no_descriptor))
    → pick b (volume_of c d) v ≡ volume_of c (get_or (d ∷ ds) (pick b 0 (suc i)) no_descriptor)
which_volume c d ds i v true h = refl
which_volume c d ds i v false h = h refl

pub volume_named_lem : (c : List ℕ) (ds : List Descriptor) (name : List ℕ) → named ds name ≡ true → volume_named (volumes_of c ds) name ≡ volume_of c (with_name ds name)
unfolding volume_named volumes_of index_of volume_of
volume_named_lem c [] name h = no (sym (named_none name) ∙ h)
volume_named_lem c (d ∷ ds) name h =
    which_volume c d ds (index_of ds name) (volume_named (volumes_of c ds) name) (same d.name name)
    (λ e. volume_named_lem c ds name (other_then (same d.name name) (named ds name) (sym (named_cons d ds name) ∙ h) e))

-- the volumes that stay at a rollback are those of the descriptors that stay
kept_by : (o : Bool) (c : List ℕ) (d : Descriptor) (ds : List Descriptor) (i : ℕ) (vs : List Volume) (b : Bool) → vs ≡ volumes_of c (take (pick o (suc i) i) ds)
    → pick b (pick o (volume_of c d ∷ []) []) (volume_of c d ∷ vs) ≡ volumes_of c (take (pick o (suc (pick b 0 (suc i))) (pick b 0 (suc i))) (d ∷ ds))
unfolding volumes_of
kept_by true c d ds i vs true h = refl
kept_by false c d ds i vs true h = refl
kept_by true c d ds i vs false h = ap (λ (xs : List Volume). volume_of c d ∷ xs) h
kept_by false c d ds i vs false h = ap (λ (xs : List Volume). volume_of c d ∷ xs) h

none_by : (o : Bool) → ◌≡◌ {A = List Descriptor} (take (pick o 1 0) []) []
none_by true = refl
none_by false = refl

pub volumes_kept_lem : (r : ℕ) (c : List ℕ) (ds : List Descriptor) (name : List ℕ) → volumes_kept r (volumes_of c ds) name ≡ volumes_of c (take (staying r (index_of ds name)) ds)
unfolding volumes_kept volumes_of volume_of index_of staying
volumes_kept_lem r c [] name = ap (volumes_of c) (sym (none_by (eqb r 1)))
volumes_kept_lem r c (d ∷ ds) name = kept_by (eqb r 1) c d ds (index_of ds name) (volumes_kept r (volumes_of c ds) name) (same d.name name) (volumes_kept_lem r c ds name)

pub volumes_append : (c : List ℕ) (xs ys : List Descriptor) → volumes_of c (xs ++ ys) ≡ volumes_of c xs ++ volumes_of c ys
unfolding volumes_of
volumes_append c [] ys = refl
volumes_append c (x ∷ xs) ys = ap (λ (vs : List Volume). volume_of c x ∷ vs) (volumes_append c xs ys)

-- the same cells of two cards, each through its descriptor
pub cells_same : (s t : List ℕ) (d e : Descriptor) (n l : ℕ) → ((j : ℕ) → l ≤ j → j < l + n → block_found t (found_through t e j) ≡ block_found s (found_through s d j)) → cells_from t e n l ≡ cells_from s d n l
unfolding cells_from
cells_same s t d e zero l h = refl
cells_same s t d e (suc n) l h = rw (h l (omega arith) (omega arith), cells_same s t d e n (suc l) (λ j a b. h j (omega arith) (omega arith)))

pub volumes_same : (s t : List ℕ) (ds : List Descriptor)
    → ((i : ℕ) → i < length ds → (j : ℕ) → j < (get_or ds i no_descriptor).volume → block_found t (found_through t (get_or ds i no_descriptor) j) ≡ block_found s (found_through s (get_or ds i no_descriptor) j))
    → volumes_of t ds ≡ volumes_of s ds
unfolding volumes_of volume_of
volumes_same s t [] h = refl
volumes_same s t (d ∷ ds) h =
    rw (cells_same s t d d d.volume 0 (λ j a b. h 0 (omega arith) j (omega arith)), volumes_same s t ds (λ i a j b. h (suc i) (omega arith) j b))

-- a card's ledger by its revision, the snapshots and the active descriptor of its chain
pub ledger_parts : (t : List ℕ) (r : ℕ) (ss : List Descriptor) (d : Descriptor) → revision_of t ≡ r → snapshots_of (descriptors_of t) ≡ ss → active_of (descriptors_of t) ≡ d
    → ledger_of t ≡ record { revision = r; snapshots = volumes_of t ss; active = volume_of t d }
unfolding ledger_of
ledger_parts t r ss d e a b =
    ap (λ (n : ℕ). record { revision = n; snapshots = volumes_of t (snapshots_of (descriptors_of t)); active = volume_of t (active_of (descriptors_of t)) }) e
    ∙ ap (λ (y : List Descriptor). record { revision = r; snapshots = volumes_of t y; active = volume_of t (active_of (descriptors_of t)) }) a
    ∙ ap (λ (y : Descriptor). record { revision = r; snapshots = volumes_of t ss; active = volume_of t y }) b
