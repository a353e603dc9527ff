-- A visit names the region in which the version that a read gives was last written, over whole lists of calls from a format.
use mathlib.Core.Path.{◌≡◌, refl, sym, ap, ◌∙◌, subst}
use mathlib.Core.Logic.{◌↔◌}
use mathlib.Core.Bool.{Bool, true, false, ◌&&◌}
use mathlib.Core.List.{List, [], ◌∷◌, ◌++◌}
use Prim.Native.Nat.{ℕ, zero, suc}
use native.Mathlib.Omega.{arith}
use lib.ListN.{length, get_or, replicate}
use lib.Seq.{take-length}
use lib.Dec.{eqb}
use Rattle.blocks.specs.Pick.{pick}
use Rattle.blocks.specs.Bytes.{part, block_count}
use Rattle.blocks.specs.Name.{no_name}
use Rattle.blocks.specs.declared.descriptor.Descriptor.{Descriptor}
use Rattle.blocks.specs.declared.descriptor.Format.{Format}
use Rattle.entries.specs.InPlace.{owner_index, owner_of}
use Rattle.entries.specs.Entry.{find, found_block, located_in}
use Rattle.calls.specs.Call.{Target, Active, Snapshot, Call, Read, Visit, Block, Given, NoneGiven, NameGiven}
use Rattle.calls.specs.Parts.{descriptors_of, target_of, found_through}
use Rattle.calls.specs.Check.{Passes}
use Rattle.calls.specs.Effect.{given_at}
use Rattle.calls.specs.Meaning.{answer_of, filled_of}
use Rattle.calls.specs.Step.{step, after, is_accepted}
use Rattle.calls.proofs.Passed.{ReadPassed, read_passed, visit_passed}
use Rattle.claims.specs.Kinds.{kind_of}
use Rattle.claims.specs.History.{Position, Nowhere, At, Standing, more, formats, is_ream, is_format, formatted}
use Rattle.claims.specs.Ledger.{Ledger, run_read, volume_named, volume_read, names_from, ledger_names}
use Rattle.claims.proofs.Runs.{standing_length, step_length}
use Rattle.claims.proofs.Visits.{given_is}
use Rattle.claims.proofs.LedgerFacts.{ledger_spans}
use Rattle.places.specs.Placed.{Cell, Nil, PlacedVolume, Placed, home_of, content_of, cells_by, volume_by, volumes_by, volume_index, no_places, first_placed, placed_step, placed_after, placed_target, origin_of, name_at, cell_found, cell_place, placed_volume, placed_of, placed_visit, PlacedClaim, PlacedRunClaim, PlacedOriginClaim, PlacedGivesClaim, ForgetClaim}
use Rattle.places.specs.Origins.{Origins, first_origins, origins_step, origins_after, origin_read, region_name, origin_given, origins_of, LastWritten, OriginsClaim, LastWrittenClaim}
use Rattle.places.proofs.PlacedForget.{content_found, by_change, by_named, forget_claim}
use Rattle.places.proofs.PlacedLaws.{values_first}
use Rattle.places.proofs.PlacedOrigin.{target_is, below, placed_origin_claim}
use Rattle.places.proofs.PlacedRun.{placed_claim, placed_run_claim}

-- the origins of a Placed: what is read in them, and the names of its regions
cell_home : (xs : List Cell) (l : ℕ) → get_or (cells_by home_of xs) l Nowhere ≡ home_of (get_or xs l Nil)
unfolding cells_by home_of
cell_home [] l = refl
cell_home (x ∷ xs) zero = refl
cell_home (x ∷ xs) (suc l) = cell_home xs l

home_named : (vs : List PlacedVolume) (name : List ℕ) → cells_by home_of (get_or vs (volume_index vs name) no_places).cells ≡ (volume_named (volumes_by home_of vs) name).cells
unfolding home_of
home_named vs name = by_named home_of (λ n becomes old. At n) (λ k f x. refl) vs name

read_origin : (p : Placed) (target : Target) (name : List ℕ) (l : ℕ) → origin_read (origins_of p) target name l ≡ origin_of p target name l
unfolding origin_read origins_of origin_of volume_read placed_target volume_by
read_origin p Active name l = cell_home p.active.cells l
read_origin p Snapshot name l =
    ap (λ (xs : List Position). get_or xs l Nowhere) (sym (home_named p.snapshots name))
    ∙ cell_home (get_or p.snapshots (volume_index p.snapshots name) no_places).cells l

names_at : (vs : List PlacedVolume) (v : PlacedVolume) (k : ℕ) → get_or (names_from (volumes_by home_of vs) v.name) k no_name ≡ (get_or (vs ++ (v ∷ [])) k no_places).name
unfolding names_from volumes_by volume_by
names_at [] v zero = refl
names_at [] v (suc k) = refl
names_at (w ∷ vs) v zero = refl
names_at (w ∷ vs) v (suc k) = names_at vs v k

name_origin : (p : Placed) (k : ℕ) → region_name (origins_of p) k ≡ name_at p (At k)
unfolding region_name origins_of ledger_names name_at volume_by
name_origin p k = names_at p.snapshots p.active k

-- carried by their own step
home_step : (k : Call) (p : Placed) → formats (kind_of k) ≡ false → origins_of (placed_step k p) ≡ origins_step k (origins_of p)
unfolding origins_of origins_step placed_step home_of
home_step k p f = by_change home_of (λ n becomes old. At n) (λ i g x. refl) (kind_of k) p f

no_format : (k : Call) (c : List ℕ) → is_format k c ≡ false → is_accepted (answer_of k c) ≡ true → formats (kind_of k) ≡ false
unfolding is_format is_ream
no_format k c f e = by (formats (kind_of k)) (subst (λ (b : Bool). (formats (kind_of k) && b) ≡ false) e f)
  where
    by : (b : Bool) → (b && true) ≡ false → b ≡ false
    by true q = q
    by false q = refl

module _ (k : Call) (c : List ℕ) (passing : Passes c) (f : is_format k c ≡ false) where
  carried : (a : Bool) → is_accepted (answer_of k c) ≡ a → origins_of (placed_of (step k c).card) ≡ pick a (origins_step k (origins_of (placed_of c))) (origins_of (placed_of c))
  unfolding PlacedClaim step
  carried true e = ap origins_of ((placed_claim k c passing).1 e) ∙ home_step k (placed_of c) (no_format k c f e)
  carried false e = rw e

run_passes : (k : Call) (c : List ℕ) → Passes c → Passes (step k c).card
unfolding PlacedRunClaim after
run_passes k c p = (placed_run_claim.0 c p (k ∷ [])).passes 1

origins_after_lem : (ks : List Call) (c : List ℕ) (o : Origins) → Passes c → Standing c ks → origins_of (placed_of c) ≡ o → origins_of (placed_of (after ks c)) ≡ origins_after ks c o
unfolding after origins_after
origins_after_lem [] c o p s q = q
origins_after_lem (k ∷ ks) c o p (more f b rest) q =
    origins_after_lem ks (step k c).card (pick (is_accepted (answer_of k c)) (origins_step k o) o) (run_passes k c p) (standing_length c (step k c).card (sym (step_length k c)) ks rest)
    (carried k c p f (is_accepted (answer_of k c)) refl ∙ ap (λ (x : Origins). pick (is_accepted (answer_of k c)) (origins_step k x) x) q)

first_homes : (n : ℕ) → cells_by home_of (replicate n Nil) ≡ replicate n Nowhere
unfolding cells_by home_of
first_homes zero = refl
first_homes (suc n) = ap (λ (xs : List Position). Nowhere ∷ xs) (first_homes n)

first_origins_lem : (n : ℕ) (format : Format) → origins_of (first_placed n format) ≡ first_origins format
unfolding origins_of first_placed volume_by volumes_by
first_origins_lem n format = rw (first_homes format.volume)

-- what a visit and a read give on a card that passes, by its Placed
module _ (c : List ℕ) (passing : Passes c) (target : Target) (name : List ℕ) (l : ℕ) where
  abbrev ds : List Descriptor
  ds = descriptors_of c

  abbrev d : Descriptor
  d = target_of ds target name

  abbrev b : ℕ
  b = found_block (found_through c d l)

  module _ (shown : ReadPassed c target name l) where
    origin_is : origin_of (placed_of c) target name l ≡ pick (eqb b 0) Nowhere (At (owner_index ds b))
    unfolding PlacedOriginClaim
    origin_is = (placed_origin_claim c target name l passing.sound shown.there shown.below).0

    name_is : name_at (placed_of c) (origin_of (placed_of c) target name l) ≡ pick (eqb b 0) no_name (owner_of ds b).name
    unfolding PlacedOriginClaim
    name_is = (placed_origin_claim c target name l passing.sound shown.there shown.below).1

    visit_by : (z : Bool) → eqb b 0 ≡ z → given_at ds (located_in ds (find c ds d l)) ≡ origin_given (origins_of (placed_of c)) (pick z Nowhere (At (owner_index ds b)))
    unfolding given_at located_in origin_given
    visit_by true e = rw e
    visit_by false e =
        let named_so : name_at (placed_of c) (At (owner_index ds b)) ≡ (owner_of ds b).name = ap (λ (z : Bool). name_at (placed_of c) (pick z Nowhere (At (owner_index ds b)))) (sym e) ∙ ap (name_at (placed_of c)) (sym origin_is) ∙ name_is ∙ rw e in
        rw e (ap NameGiven (sym (name_origin (placed_of c) (owner_index ds b) ∙ named_so)))

  visit_gives : is_accepted (answer_of (Visit target name l) c) ≡ true → (step (Visit target name l) c).outcome.given ≡ origin_given (origins_of (placed_of c)) (origin_read (origins_of (placed_of c)) target name l)
  visit_gives ok =
      let shown = visit_passed c target name l ok in
      given_is c target name l ok ∙ visit_by shown (eqb b 0) refl ∙ ap (origin_given (origins_of (placed_of c))) (sym (origin_is shown) ∙ sym (read_origin (placed_of c) target name l))

  read_gives : (block : List ℕ) → is_accepted (answer_of (Read target name l block) c) ≡ true
      → (step (Read target name l block) c).outcome.lent ≡ Block (content_of (get_or (placed_target (placed_of c) target name).cells l Nil))
  unfolding step filled_of placed_volume cell_place
  read_gives block ok =
      let shown = read_passed c target name l block ok in
      let cell : get_or (placed_target (placed_of c) target name).cells l Nil ≡ cell_found c ds (found_through c d l) =
      ap (λ (v : PlacedVolume). get_or v.cells l Nil) (target_is c passing.sound target name shown.there) ∙ values_first (cell_place c d) d.volume l Nil (below c passing.sound target name l shown.there shown.below) in
      rw ok (ap Block (sym (ap content_of cell ∙ content_found c ds (found_through c d l))))

-- by Placed and by its origins the same is given
given_same : (p : Placed) (x : Position) → origin_given (origins_of p) x ≡ placed_visit p x
unfolding origin_given placed_visit
given_same p Nowhere = refl
given_same p (At k) = ap NameGiven (name_origin p k)

pub placed_gives_claim : PlacedGivesClaim
unfolding PlacedGivesClaim ForgetClaim
placed_gives_claim c passing target name l = (
  read_gives c passing target name l,
  λ o bytes ok. ledger_spans c passing target name o bytes ok ∙ ap (λ (g : Ledger). Block (part (run_read g target name) o (length bytes))) (sym (forget_claim c)),
  λ ok. visit_gives c passing target name l ok ∙ ap (origin_given (origins_of (placed_of c))) (read_origin (placed_of c) target name l) ∙ given_same (placed_of c) (origin_of (placed_of c) target name l),
)

pub origins_claim : OriginsClaim
unfolding OriginsClaim
origins_claim c ks passing s = origins_after_lem ks c (origins_of (placed_of c)) passing s refl

-- none exactly where there is no origin
none_only : (o : Origins) (x : Position) → (origin_given o x ≡ NoneGiven) ↔ (x ≡ Nowhere)
unfolding origin_given
none_only o Nowhere = (λ e. refl, λ e. refl)
none_only o (At k) = (λ e. let z : ◌≡◌ {A = ℕ} 0 1 = cc in absurd (omega arith), λ e. let z : ◌≡◌ {A = ℕ} 0 1 = cc in absurd (omega arith))

module _ (c : List ℕ) (passing : Passes c) (o : Origins) (p : Placed) (origins_are : origins_of (placed_of c) ≡ o) (placed_is : placed_of c ≡ p) (target : Target) (name : List ℕ) (l : ℕ) where
  gives : is_accepted (answer_of (Visit target name l) c) ≡ true → (step (Visit target name l) c).outcome.given ≡ origin_given o (origin_read o target name l)
  gives ok = visit_gives c passing target name l ok ∙ ap (λ (x : Origins). origin_given x (origin_read x target name l)) origins_are

  home_read : origin_read (origins_of (placed_of c)) target name l ≡ home_of (get_or (placed_target (placed_of c) target name).cells l Nil)
  unfolding origin_of
  home_read = read_origin (placed_of c) target name l

  last_written : LastWritten c o p target name l
  last_written =
      record {
        given = gives;
        none = λ ok. subst (λ (g : Given). (g ≡ NoneGiven) ↔ (origin_read o target name l ≡ Nowhere)) (sym (gives ok)) (none_only o (origin_read o target name l));
        version = λ block ok. rw (← origins_are, ← placed_is) (read_gives c passing target name l block ok, home_read);
      }

pub last_written_claim : LastWrittenClaim
unfolding LastWrittenClaim PlacedRunClaim after placed_after
last_written_claim area format can ks s target name l =
    let c = formatted area format in
    let p = first_placed (block_count area) format in
    let run = placed_run_claim.1 area format can ks in
    let all = take-length ks in
    let start : placed_of c ≡ p = (placed_run_claim.1 area format can []).matches 0 in
    last_written (after ks c) (subst (λ (js : List Call). Passes (after js c)) all (run.passes (length ks))) _ _
    (origins_after_lem ks c (first_origins format) (run.passes 0) s (ap origins_of start ∙ first_origins_lem (block_count area) format))
    (subst (λ (js : List Call). placed_of (after js c) ≡ placed_after js p) all (run.matches (length ks))) target name l
