-- Where the content of a card that passes check stands: its volumes as the ledger has them, and for each cell and each table the region that holds it. A region
-- is named by its index in the chain. Nothing above `A card's` knows alpha, the number of a block or a byte of a table; beta and N are counts, and a cell's content is
-- what a write put there. Which entries of two descriptors differ is no function of it: two cards that pass can have one Placed and different entries.
use Rattle.std.specs.Prelude.{◌≡◌, Bool, true, false, not, ◌&&◌, List, [], ◌∷◌, ◌++◌, ℕ, zero, suc, ◌+◌, ◌/◌, ◌<◌, ◌≤◌, length, take, get_or, set, replicate, eqb, ltb}
use Rattle.blocks.specs.Pick.{pick, same}
use Rattle.blocks.specs.Bytes.{part, block_count, block_at, zero_block}
use Rattle.blocks.specs.Name.{no_name}
use Rattle.blocks.specs.Descriptor.{table_size, table_count, cost_of, cost_in, revision_of}
use Rattle.blocks.specs.declared.descriptor.Descriptor.{Descriptor}
use Rattle.blocks.specs.declared.descriptor.Format.{Format}
use Rattle.pieces.specs.Span.{span_block, touched, merged}
use Rattle.chains.specs.Chain.{most_descriptors, chain, chain_sound, named, active_of}
use Rattle.entries.specs.InPlace.{owner_index, owner_of}
use Rattle.entries.specs.Entry.{table_of, found_block, need}
use Rattle.entries.specs.Found.{Found, Misplaced, Entry}
use Rattle.calls.specs.declared.answer.Answer.{Answer}
use Rattle.calls.specs.Call.{Target, Active, Snapshot, Call, Read, SpanRead, SpanWrite, Check, Visit, Block, Given, NoneGiven, NameGiven}
use Rattle.calls.specs.Parts.{descriptors_of, snapshots_of, is_snapshot, target_of, found_through, is_misplaced}
use Rattle.calls.specs.Check.{Passes}
use Rattle.calls.specs.Ladder.{Row, row, first_row, format_rows}
use Rattle.calls.specs.Stores.{staying}
use Rattle.calls.specs.Meaning.{answer_of}
use Rattle.calls.specs.Step.{step, after, is_accepted}
use Rattle.claims.specs.Kinds.{Kind, Formats, Leaves, Writes, WritesSpan, Snaps, Reverts, kind_of}
use Rattle.claims.specs.History.{Position, Nowhere, At, formats, formattable, formatted}
use Rattle.claims.specs.Claims.{blocks_needed}
use Rattle.claims.specs.Ledger.{VolumeOf, LedgerOf, Ledger, ledger_rows, run_read, ledger_of, ledger_change}

-- a cell: nil, or the region that holds it and its content
pub data Cell : Type 0 where
  Nil : Cell
  Held : (region : ℕ) → (content : List ℕ) → Cell

-- a volume with its places: for each group of 128 logical blocks the region of its table, for each logical block its cell; beta is where its region ends
pub record PlacedVolume : Type 0 where
  pub name : List ℕ
  pub beta : ℕ
  pub tables : List Position
  pub cells : List Cell

-- N, c, layout and revision are one for all volumes; the active one comes after the snapshots
pub record Placed : Type 0 where
  pub blocks : ℕ
  pub cost : ℕ
  pub layout : ℕ
  pub revision : ℕ
  pub snapshots : List PlacedVolume
  pub active : PlacedVolume

-- where a cell stands, and what a read of it gives
unfoldable pub home_of : Cell → Position
home_of Nil = Nowhere
home_of (Held k b) = At k

unfoldable pub content_of : Cell → List ℕ
content_of Nil = zero_block
content_of (Held k b) = b

-- whether a place is region k
unfoldable pub is_at : ℕ → Position → Bool
is_at k Nowhere = false
is_at k (At i) = eqb i k

-- The ledger: the same without places. What is kept of each cell is given, since a ledger of the places alone has its use too (Origins.antt).

unfoldable pub cells_by : {A : Type 0} → (Cell → A) → List Cell → List A
cells_by keep [] = []
cells_by keep (x ∷ xs) = keep x ∷ cells_by keep xs

unfoldable pub volume_by : {A : Type 0} → (Cell → A) → PlacedVolume → VolumeOf A
volume_by keep v = record { name = v.name; cells = cells_by keep v.cells }

unfoldable pub volumes_by : {A : Type 0} → (Cell → A) → List PlacedVolume → List (VolumeOf A)
volumes_by keep [] = []
volumes_by keep (v ∷ vs) = volume_by keep v ∷ volumes_by keep vs

unfoldable pub ledger_by : {A : Type 0} → (Cell → A) → Placed → LedgerOf A
ledger_by keep p = record { revision = p.revision; snapshots = volumes_by keep p.snapshots; active = volume_by keep p.active }

unfoldable pub forget : Placed → Ledger
unfolding ledger_by
forget p = ledger_by content_of p

-- One call.

-- the index of the first volume of the list that has the name, or how many there are
unfoldable pub volume_index : List PlacedVolume → List ℕ → ℕ
volume_index [] name = 0
volume_index (v ∷ vs) name = pick (same v.name name) 0 (suc (volume_index vs name))

-- what stands for a volume where there is none
abbrev pub no_places : PlacedVolume
no_places = record { name = no_name; beta = 0; tables = []; cells = [] }

-- the volumes in chain order: volume k is that of region k, the active one is last
abbrev pub volumes_in : Placed → List PlacedVolume
volumes_in p = p.snapshots ++ (p.active ∷ [])

-- the index of the active region
abbrev pub active_index : Placed → ℕ
active_index p = length p.snapshots

-- the tables of a volume as the opening of region k leaves them: layout 1 has a table for each group in every opening, layout 2 keeps those that there are.
-- This, and c, tell the layouts apart
unfoldable pub opened : ℕ → ℕ → List Position → List Position
opened layout k tables = pick (eqb layout 1) (replicate (length tables) (At k)) tables

-- what a format leaves of N blocks: one region of c blocks, all nil
unfoldable pub first_placed : ℕ → Format → Placed
first_placed n format =
    record {
      blocks = n;
      cost = cost_in format;
      layout = format.layout;
      revision = format.revision;
      snapshots = [];
      active = record {
        name = format.name;
        beta = cost_in format;
        tables = opened format.layout 0 (replicate (table_count format.volume) Nowhere);
        cells = replicate format.volume Nil;
      };
    }

-- the blocks that a write of logical block l takes: none where its cell is in the active region, else one where its table is, else two
unfoldable pub placed_need : Placed → ℕ → ℕ
placed_need p l =
    let k = active_index p in
    pick (is_at k (home_of (get_or p.active.cells l Nil))) 0 (pick (is_at k (get_or p.active.tables (l / table_size) Nowhere)) 1 2)

-- the same with other volumes
abbrev pub with_volumes : Placed → List PlacedVolume → PlacedVolume → Placed
with_volumes p vs v = record { blocks = p.blocks; cost = p.cost; layout = p.layout; revision = p.revision; snapshots = vs; active = v }

-- the active volume after a write: cell and table are in the active region, and beta has moved by the need
unfoldable pub placed_write : Placed → ℕ → List ℕ → PlacedVolume
placed_write p l block =
    let k = active_index p in
    let v = p.active in
    record { name = v.name; beta = v.beta + placed_need p l; tables = set v.tables (l / table_size) (At k); cells = set v.cells l (Held k block) }

-- the Placed after the first i blocks of a span, each written on what those before left; and the blocks that they take
unfoldable pub span_placed : Placed → ℕ → List ℕ → ℕ → Placed
span_placed p o bytes zero = p
span_placed p o bytes (suc i) =
    let l = span_block o i in
    let q = span_placed p o bytes i in
    with_volumes q q.snapshots (placed_write q l (merged (content_of (get_or q.active.cells l Nil)) o bytes l))

unfoldable pub span_need_placed : Placed → ℕ → List ℕ → ℕ → ℕ
span_need_placed p o bytes zero = 0
span_need_placed p o bytes (suc i) = span_need_placed p o bytes i + placed_need (span_placed p o bytes i) (span_block o i)

-- a volume under another name
abbrev pub named_volume : PlacedVolume → List ℕ → PlacedVolume
named_volume v name = record { name = name; beta = v.beta; tables = v.tables; cells = v.cells }

-- the volume of a region of c blocks that is opened at the beta of the volume v, as region k
unfoldable pub placed_opening : Placed → PlacedVolume → ℕ → PlacedVolume
placed_opening p v k = record { name = v.name; beta = v.beta + p.cost; tables = opened p.layout k v.tables; cells = v.cells }

-- the active volume after a rollback to v, which has the active name and is that of region i: v itself, and on revision 1 a region opened from it
unfoldable pub placed_active : Placed → PlacedVolume → ℕ → PlacedVolume
placed_active p v i = pick (eqb p.revision 1) (placed_opening p v (suc i)) v

-- what an accepted call makes of it
unfoldable pub placed_change : Kind → Placed → Placed
placed_change (Formats format) p = first_placed p.blocks format
placed_change Leaves p = p
placed_change (Writes l block) p = with_volumes p p.snapshots (placed_write p l block)
placed_change (WritesSpan o bytes) p = span_placed p o bytes (touched o (length bytes))
placed_change (Snaps name) p = with_volumes p (p.snapshots ++ (named_volume p.active name ∷ [])) (placed_opening p p.active (suc (active_index p)))
placed_change (Reverts name) p =
    let i = volume_index p.snapshots name in
    with_volumes p (take (staying p.revision i) p.snapshots) (placed_active p (named_volume (get_or p.snapshots i no_places) p.active.name) i)

unfoldable pub placed_step : Call → Placed → Placed
unfolding kind_of placed_change
placed_step k p = placed_change (kind_of k) p

-- no room for n more blocks
abbrev pub room_row : Placed → ℕ → Row
room_row p n = row (ltb p.blocks (p.active.beta + n)) 11 0

-- the rows that a ledger cannot judge: 11, and all those of a format
unfoldable pub place_rows : Kind → Placed → List Row
unfolding format_rows
place_rows (Formats format) p = format_rows p.blocks format
place_rows Leaves p = []
place_rows (Writes l block) p = room_row p (placed_need p l) ∷ []
place_rows (WritesSpan o bytes) p = room_row p (span_need_placed p o bytes (touched o (length bytes))) ∷ []
place_rows (Snaps name) p = room_row p p.cost ∷ []
place_rows (Reverts name) p = []

-- the rows of the calls that it can judge: all but 1, 6 and 10, which a card that passes does not meet. The ledger's come first
unfoldable pub placed_rows : Call → Placed → List Row
unfolding kind_of place_rows
placed_rows k p = ledger_rows k (forget p) ++ place_rows (kind_of k) p

unfoldable pub placed_answer : Call → Placed → Answer
placed_answer k p = first_row (placed_rows k p)

-- what a list of calls makes of it
unfoldable pub placed_after : List Call → Placed → Placed
placed_after [] p = p
placed_after (k ∷ ks) p = placed_after ks (pick (is_accepted (placed_answer k p)) (placed_step k p) p)

-- the volume that a read goes to; the region that holds what the read gives, if any; and the present name of a region, sixteen zeros for none
unfoldable pub placed_target : Placed → Target → List ℕ → PlacedVolume
placed_target p Active name = p.active
placed_target p Snapshot name = get_or p.snapshots (volume_index p.snapshots name) no_places

unfoldable pub origin_of : Placed → Target → List ℕ → ℕ → Position
origin_of p target name l = home_of (get_or (placed_target p target name).cells l Nil)

unfoldable pub name_at : Placed → Position → List ℕ
name_at p Nowhere = no_name
name_at p (At k) = (get_or (volumes_in p) k no_places).name

-- A card's.

-- the values of a function at n numbers from i on
unfoldable pub values_from : {A : Type 0} → (ℕ → A) → ℕ → ℕ → List A
values_from f zero i = []
values_from f (suc n) i = f i ∷ values_from f n (suc i)

-- the region of the chain ds that contains block p, none for nil
unfoldable pub place_of : List Descriptor → ℕ → Position
place_of ds p = pick (eqb p 0) Nowhere (At (owner_index ds p))

-- the cell of an entry that was found
unfoldable pub cell_found : List ℕ → List Descriptor → Found → Cell
cell_found c ds (Misplaced h) = Nil
cell_found c ds (Entry m p) = pick (eqb p.0 0) Nil (Held (owner_index ds p.0) (block_at c p.0))

unfoldable pub table_place : List ℕ → Descriptor → ℕ → Position
table_place c d i = place_of (descriptors_of c) (table_of c d i)

unfoldable pub cell_place : List ℕ → Descriptor → ℕ → Cell
cell_place c d l = cell_found c (descriptors_of c) (found_through c d l)

unfoldable pub placed_volume : List ℕ → Descriptor → PlacedVolume
placed_volume c d =
    record {
      name = d.name;
      beta = d.beta.0;
      tables = values_from (table_place c d) (table_count d.volume) 0;
      cells = values_from (cell_place c d) d.volume 0;
    }

unfoldable pub placed_volumes : List ℕ → List Descriptor → List PlacedVolume
placed_volumes c [] = []
placed_volumes c (d ∷ ds) = placed_volume c d ∷ placed_volumes c ds

unfoldable pub placed_of : List ℕ → Placed
placed_of c =
    let ds = descriptors_of c in
    let d = active_of ds in
    record {
      blocks = block_count c;
      cost = cost_of d;
      layout = d.layout;
      revision = revision_of c;
      snapshots = placed_volumes c (snapshots_of ds);
      active = placed_volume c d;
    }

-- What is claimed of it.

-- Without its places it is the ledger: of every card.
unfoldable pub ForgetClaim : Type 0
ForgetClaim = (c : List ℕ) → forget (placed_of c) ≡ ledger_of c

-- The ledger's step is its own step without the places, whatever the places are.
unfoldable pub ForgetStepClaim : Type 0
ForgetStepClaim = (x : Kind) (p : Placed) → formats x ≡ false → forget (placed_change x p) ≡ ledger_change x (forget p)

-- The need is that of the card, wherever the chain is sound and what is followed is in place.
unfoldable pub PlacedNeedClaim : Type 0
PlacedNeedClaim =
    (c : List ℕ) (l : ℕ) → chain_sound (chain c) ≡ true
    → let d = active_of (descriptors_of c) in
    let found = found_through c d l in
    l < d.volume → is_misplaced found ≡ false → placed_need (placed_of c) l ≡ need d.alpha.0 found

-- So is that of a span write which is accepted.
unfoldable pub PlacedSpanNeedClaim : Type 0
PlacedSpanNeedClaim =
    (c : List ℕ) (o : ℕ) (bytes : List ℕ) → is_accepted (answer_of (SpanWrite o bytes) c) ≡ true
    → span_need_placed (placed_of c) o bytes (touched o (length bytes)) ≡ blocks_needed (SpanWrite o bytes) c

-- Wherever the chain is sound: the origin of what a read gives is the region that contains the block found, none where there is none, and the name of it is
-- that of the descriptor.
unfoldable pub PlacedOriginClaim : Type 0
PlacedOriginClaim =
    (c : List ℕ) (target : Target) (name : List ℕ) (l : ℕ) → chain_sound (chain c) ≡ true
    → let ds = descriptors_of c in
    (is_snapshot target && not (named (snapshots_of ds) name)) ≡ false → l < (active_of ds).volume
    → let b = found_block (found_through c (target_of ds target name) l) in
    let origin = origin_of (placed_of c) target name l in
    (origin ≡ pick (eqb b 0) Nowhere (At (owner_index ds b))) × (name_at (placed_of c) origin ≡ pick (eqb b 0) no_name (owner_of ds b).name)

-- what a visit gives by it: the present name of the region, none where there is none
unfoldable pub placed_visit : Placed → Position → Given
placed_visit p Nowhere = NoneGiven
placed_visit p (At k) = NameGiven (name_at p (At k))

-- On a card that passes it gives every answer, number and place, and is carried by its own step; formats included.
unfoldable pub PlacedClaim : Type 0
PlacedClaim =
    (k : Call) (c : List ℕ) → Passes c
    → (answer_of k c ≡ placed_answer k (placed_of c))
    × (is_accepted (answer_of k c) ≡ true → placed_of (step k c).card ≡ placed_step k (placed_of c))

-- And it gives what is answered besides: the block of an accepted read, the bytes of an accepted span read, and what an accepted visit gives.
unfoldable pub PlacedGivesClaim : Type 0
PlacedGivesClaim =
    (c : List ℕ) → Passes c → (target : Target) (name : List ℕ) (l : ℕ)
    → ((block : List ℕ) → is_accepted (answer_of (Read target name l block) c) ≡ true → (step (Read target name l block) c).outcome.lent ≡ Block (content_of (get_or (placed_target (placed_of c) target name).cells l Nil)))
    × ((o : ℕ) (bytes : List ℕ) → is_accepted (answer_of (SpanRead target name o bytes) c) ≡ true → (step (SpanRead target name o bytes) c).outcome.lent ≡ Block (part (run_read (forget (placed_of c)) target name) o (length bytes)))
    × (is_accepted (answer_of (Visit target name l) c) ≡ true → (step (Visit target name l) c).outcome.given ≡ placed_visit (placed_of c) (origin_of (placed_of c) target name l))

-- A format leaves the first, whatever the area held.
unfoldable pub FirstPlacedClaim : Type 0
FirstPlacedClaim = (area : List ℕ) (format : Format) → formattable area format ≡ true → placed_of (formatted area format) ≡ first_placed (block_count area) format

-- a run of calls from a card whose Placed is p: after each number of calls the card passes and has what p has become by its own steps, and each call
-- answers by it
pub record FollowsPlaced (c : List ℕ) (ks : List Call) (p : Placed) : Type 0 where
  pub passes : (i : ℕ) → Passes (after (take i ks) c)
  pub matches : (i : ℕ) → placed_of (after (take i ks) c) ≡ placed_after (take i ks) p
  pub answers : (i : ℕ) → i < length ks → answer_of (get_or ks i Check) (after (take i ks) c) ≡ placed_answer (get_or ks i Check) (placed_after (take i ks) p)

-- Over whole lists of calls of any kind, formats among them, from any card that passes, and from a format, whatever the area held.
unfoldable pub PlacedRunClaim : Type 0
PlacedRunClaim =
    ((c : List ℕ) → Passes c → (ks : List Call) → FollowsPlaced c ks (placed_of c))
    × ((area : List ℕ) (format : Format) → formattable area format ≡ true → (ks : List Call) → FollowsPlaced (formatted area format) ks (first_placed (block_count area) format))

-- What is true of the Placed of every card that passes, for laws of Placed alone to ask: volume k is that of region k.
pub record WellPlaced (p : Placed) (k : ℕ) (v : PlacedVolume) : Type 0 where
  -- every volume has L cells, and a table for each group of them
  pub long_cells : length v.cells ≡ length p.active.cells
  pub long_tables : length v.tables ≡ table_count (length v.cells)
  -- nothing stands in a later region
  pub cells_upto : (l i : ℕ) → l < length v.cells → home_of (get_or v.cells l Nil) ≡ At i → i ≤ k
  pub tables_upto : (g i : ℕ) → g < length v.tables → get_or v.tables g Nowhere ≡ At i → i ≤ k
  -- a cell that is set has a table; one in the volume's own region has its table there (the fourth rule of check)
  pub table_set : (l i : ℕ) → l < length v.cells → home_of (get_or v.cells l Nil) ≡ At i → get_or v.tables (l / table_size) Nowhere ≡ Nowhere → ⊥
  pub table_own : (l : ℕ) → l < length v.cells → home_of (get_or v.cells l Nil) ≡ At k → get_or v.tables (l / table_size) Nowhere ≡ At k
  -- it is among the first 256; its region ends within N, and the next one has its opening after it
  pub few : k < most_descriptors
  pub ends_upto : v.beta ≤ p.blocks
  pub rises : suc k < length (volumes_in p) → v.beta + p.cost ≤ (get_or (volumes_in p) (suc k) no_places).beta

unfoldable pub WellPlacedClaim : Type 0
WellPlacedClaim = (c : List ℕ) → Passes c → (k : ℕ) → k < length (volumes_in (placed_of c)) → WellPlaced (placed_of c) k (get_or (volumes_in (placed_of c)) k no_places)
