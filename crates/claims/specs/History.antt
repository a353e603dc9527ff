-- Agreement of two cards, and which calls an accepted rollback forgets.
use Rattle.std.specs.Prelude.{◌≡◌, Bool, true, false, not, ◌&&◌, ◌||◌, List, [], ◌∷◌, ◌++◌, ℕ, suc, ◌*◌, ◌<◌, length, get_or, take, drop, eqb, ltb, leb}
use Rattle.blocks.specs.Pick.{pick, same}
use Rattle.blocks.specs.Bytes.{block_size, block_count, store_all}
use Rattle.blocks.specs.Name.{is_name}
use Rattle.blocks.specs.Descriptor.{most_volume, revision_ok, opening, cost_in}
use Rattle.chains.specs.Chain.{chain, chain_sound, active_of}
use Rattle.calls.specs.Call.{Call}
use Rattle.calls.specs.Parts.{area_bad, descriptors_of}
use Rattle.calls.specs.Meaning.{answer_of}
use Rattle.calls.specs.Step.{step, is_accepted}
use Rattle.claims.specs.Kinds.{Kind, Formats, Leaves, Writes, WritesSpan, Snaps, Reverts, kind_of}
use Rattle.blocks.specs.declared.descriptor.Format.{Format}

-- beta, the active descriptor's
unfoldable pub beta_of : List ℕ → ℕ
beta_of c = (active_of (descriptors_of c)).beta.0

-- two cards agree: same length, sound chains, equal beta, equal bytes below it
pub record Agree (s t : List ℕ) : Type 0 where
  pub long : length s ≡ length t
  pub sound : chain_sound (chain s) ≡ true
  pub sound' : chain_sound (chain t) ≡ true
  pub beta : beta_of s ≡ beta_of t
  pub below : take (block_size * beta_of s) s ≡ take (block_size * beta_of s) t

-- whether a kind is a format; whether a call is a ream
unfoldable pub formats : Kind → Bool
formats (Formats format) = true
formats Leaves = false
formats (Writes l block) = false
formats (WritesSpan o bytes) = false
formats (Snaps name) = false
formats (Reverts name) = false

unfoldable pub is_ream : Call → Bool
unfolding kind_of formats
is_ream k = formats (kind_of k)

-- whether it is an accepted format of the card; on cards of one length that depends on nothing else of the card
unfoldable pub is_format : Call → List ℕ → Bool
is_format k c = is_ream k && is_accepted (answer_of k c)

-- numbers below 256: what a card area holds, and what is lent
abbrev pub AreBytes : List ℕ → Type 0
AreBytes bytes = (i : ℕ) → get_or bytes i 0 < 256

-- the bytes that a change of a kind is lent to put on the card; those of a call
unfoldable pub bytes_of : Kind → List ℕ
bytes_of (Formats format) = []
bytes_of Leaves = []
bytes_of (Writes l block) = block
bytes_of (WritesSpan o bytes) = bytes
bytes_of (Snaps name) = []
bytes_of (Reverts name) = []

unfoldable pub written_by : Call → List ℕ
unfolding kind_of bytes_of
written_by k = bytes_of (kind_of k)

-- the lists of calls that the claims speak of: reads, writes of bytes, snaps, reverts, lists, checks, visits, span reads, span writes of bytes and refused reams, in any order
pub data Standing (c : List ℕ) : List Call → Type 0 where
  none : Standing c []
  more : {k : Call} {ks : List Call} → is_format k c ≡ false → AreBytes (written_by k) → Standing c ks → Standing c (k ∷ ks)

-- whether a kind, and whether a call, is a snap under the name
unfoldable pub snaps_as : List ℕ → Kind → Bool
snaps_as name (Formats format) = false
snaps_as name Leaves = false
snaps_as name (Writes l block) = false
snaps_as name (WritesSpan o bytes) = false
snaps_as name (Snaps n) = same n name
snaps_as name (Reverts n) = false

unfoldable pub is_snap_of : List ℕ → Call → Bool
unfolding kind_of snaps_as
is_snap_of name k = snaps_as name (kind_of k)

-- a position in a list, or none
pub data Position : Type 0 where
  Nowhere : Position
  At : ℕ → Position

-- the position of the latest accepted snap under the name, in a run from a card; i calls have passed, and best is the latest so far
unfoldable pub latest_from : List ℕ → List ℕ → List Call → ℕ → Position → Position
latest_from name c [] i best = best
latest_from name c (k ∷ ks) i best =
    let here = is_snap_of name k && is_accepted (answer_of k c) in
    latest_from name (step k c).card ks (suc i) (pick here (At i) best)

unfoldable pub latest_snap : List ℕ → List ℕ → List Call → Position
latest_snap name c ks = latest_from name c ks 0 Nowhere

-- the list without the calls from position i up to and including position k: those that the rollback at k forgets
unfoldable pub without : List Call → ℕ → ℕ → List Call
without ks i k = take i ks ++ drop (suc k) ks

-- what a card can be formatted to: the area is a card, and layout, L, revision, name and c are those of one
unfoldable pub formattable : List ℕ → Format → Bool
formattable area format =
    not (area_bad area) && (eqb format.layout 1 || eqb format.layout 2) && ltb 0 format.volume && leb format.volume most_volume && revision_ok format.revision && is_name format.name && leb (cost_in format) (block_count area)

-- all N blocks as an accepted ream leaves them, whatever the untouched blocks held
unfoldable pub formatted : List ℕ → Format → List ℕ
formatted area format = store_all area (opening format)
