-- The region in which each version was last written: document 02, W2, over whole lists of calls. What stands in quotation marks is from there.
use Rattle.std.specs.Prelude.{◌≡◌, ◌↔◌, true, List, [], ◌∷◌, ℕ, get_or, replicate}
use Rattle.blocks.specs.Pick.{pick}
use Rattle.blocks.specs.Bytes.{block_count}
use Rattle.blocks.specs.Name.{no_name}
use Rattle.blocks.specs.declared.descriptor.Format.{Format}
use Rattle.calls.specs.Call.{Target, Call, Read, Visit, Block, Given, NoneGiven, NameGiven}
use Rattle.calls.specs.Check.{Passes}
use Rattle.calls.specs.Meaning.{answer_of}
use Rattle.calls.specs.Step.{step, after, is_accepted}
use Rattle.claims.specs.Kinds.{kind_of}
use Rattle.claims.specs.History.{Position, Nowhere, At, Standing, formattable, formatted}
use Rattle.claims.specs.Ledger.{LedgerOf, change_by, volume_read, ledger_names}
use Rattle.places.specs.Placed.{Nil, home_of, content_of, Placed, ledger_by, first_placed, placed_target, placed_after, placed_of}

-- The origins stand beside the ledger and have its shape: for each logical block of each named volume none, where no write of it stands, or the region in which its
-- version was last written, by its index in the chain. Region k is that of volume k; the active one comes after the snapshots.
abbrev pub Origins : Type 0
Origins = LedgerOf Position

-- after a format nothing was written
abbrev pub first_origins : Format → Origins
first_origins format = record { revision = format.revision; snapshots = []; active = record { name = format.name; cells = replicate format.volume Nowhere } }

-- their step is the ledger's, which knows no bytes of a card, no alpha, no beta and no tables: a write sets the active region, whose index is the number of the
-- snapshots, whatever the block holds, and a span write does so with each block that it touches; a snap copies; a rollback takes the visit's back
unfoldable pub origins_step : Call → Origins → Origins
unfolding kind_of change_by
origins_step k o = change_by (λ n becomes old. At n) (kind_of k) o

-- carried along a run: their own step for each accepted call, nothing for a refused one
unfoldable pub origins_after : List Call → List ℕ → Origins → Origins
origins_after [] c o = o
origins_after (k ∷ ks) c o = origins_after ks (step k c).card (pick (is_accepted (answer_of k c)) (origins_step k o) o)

-- the origin of what a read of the target gives; the present name of a region; and what a visit gives by them
unfoldable pub origin_read : Origins → Target → List ℕ → ℕ → Position
origin_read o target name l = get_or (volume_read o target name).cells l Nowhere

unfoldable pub region_name : Origins → ℕ → List ℕ
region_name o k = get_or (ledger_names o) k no_name

unfoldable pub origin_given : Origins → Position → Given
origin_given o Nowhere = NoneGiven
origin_given o (At k) = NameGiven (region_name o k)

-- those of a Placed
unfoldable pub origins_of : Placed → Origins
unfolding ledger_by
origins_of p = ledger_by home_of p

-- What a visit gives on a card c whose origins are o and whose Placed is p: "It names the region in which the version that a read of this target gives was last written".
pub record LastWritten (c : List ℕ) (o : Origins) (p : Placed) (target : Target) (name : List ℕ) (l : ℕ) : Type 0 where
  -- the present name of that region, or none
  pub given : is_accepted (answer_of (Visit target name l) c) ≡ true → (step (Visit target name l) c).outcome.given ≡ origin_given o (origin_read o target name l)
  -- none exactly where no write of it stands
  pub none : is_accepted (answer_of (Visit target name l) c) ≡ true → ((step (Visit target name l) c).outcome.given ≡ NoneGiven) ↔ (origin_read o target name l ≡ Nowhere)
  -- the version is what a read gives: one cell of Placed has both its content and its origin
  pub version : (block : List ℕ) → is_accepted (answer_of (Read target name l block) c) ≡ true
      → let x = get_or (placed_target p target name).cells l Nil in
      ((step (Read target name l block) c).outcome.lent ≡ Block (content_of x)) × (origin_read o target name l ≡ home_of x)

-- On a card that passes, the origins of its Placed are carried by their own step over every list of calls in which no format is accepted.
unfoldable pub OriginsClaim : Type 0
OriginsClaim = (c : List ℕ) (ks : List Call) → Passes c → Standing c ks → origins_of (placed_of (after ks c)) ≡ origins_after ks c (origins_of (placed_of c))

-- "for each card made by these calls since its format": from a format of either layout and revision, whatever the area held, after every list of calls, refused calls of
-- every kind among them, in which no format is accepted.
unfoldable pub LastWrittenClaim : Type 0
LastWrittenClaim =
    (area : List ℕ) (format : Format) → formattable area format ≡ true
    → let c = formatted area format in
    (ks : List Call) → Standing c ks → (target : Target) (name : List ℕ) (l : ℕ)
    → LastWritten (after ks c) (origins_after ks c (first_origins format)) (placed_after ks (first_placed (block_count area) format)) target name l
