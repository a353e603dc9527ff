-- Records as bytes, and a listing into them.
use Rattle.std.specs.Prelude.{List, [], ◌∷◌, ◌++◌, ℕ, zero, suc, ◌+◌, ◌*◌, ◌/◌, length, take, drop, replicate}
use Rattle.blocks.specs.Pick.{pick}
use Rattle.blocks.specs.Bytes.{u32_at, le32, splice}
use Rattle.blocks.specs.Name.{name_size}
use Rattle.blocks.specs.Descriptor.{physical}
use Rattle.calls.specs.declared.answer.Answer.{Answer}
use Rattle.calls.specs.declared.answer.Record.{Record}
use Rattle.calls.specs.Call.{Listing, Lent, None, Block, Records}
use Rattle.calls.specs.Parts.{descriptors_of}
use Rattle.calls.specs.Effect.{no_record, listed}
use Rattle.calls.specs.Step.{step, is_accepted}
use Rattle.calls.specs.Listing.{record_by}

-- bytes of a record
abbrev pub record_size : ℕ
record_size = 28

-- a record as bytes: the name, then alpha, beta and next
unfoldable pub record_bytes : Record → List ℕ
record_bytes r = r.name ++ le32 r.alpha.0 ++ le32 r.beta.0 ++ le32 r.next.0

-- records, one after the other
unfoldable pub records_bytes : List Record → List ℕ
records_bytes [] = []
records_bytes (r ∷ rs) = record_bytes r ++ records_bytes rs

-- and back: the record that bytes start with, and n records from the start of bytes
unfoldable pub record_in : List ℕ → Record
record_in bytes = record { name = take name_size bytes; alpha = physical (u32_at bytes name_size); beta = physical (u32_at bytes (name_size + 4)); next = physical (u32_at bytes (name_size + 8)) }

unfoldable pub records_in : ℕ → List ℕ → List Record
records_in zero bytes = []
records_in (suc n) bytes = record_in bytes ∷ records_in n (drop record_size bytes)

-- what is lent to a call, as bytes
unfoldable pub lent_bytes : Lent → List ℕ
lent_bytes None = []
lent_bytes (Block block) = block
lent_bytes (Records records) = records_bytes records

-- as many records as lent bytes have room for. A listing's answer does not depend on what stands in them
unfoldable pub room_in : List ℕ → List Record
room_in bytes = replicate (length bytes / record_size) no_record

-- the answer of a listing, and the lent bytes at exit
pub record ListedBytes : Type 0 where
  pub answer : Answer
  pub bytes : List ℕ

-- where it is accepted, the records of the chain's descriptors in chain order, then the bytes that were there; else the bytes as they were.
-- It does not go through the records that `step` leaves: bytes read as records give the same bytes again only where each is below 256, and there the law `listing_step` joins the two
unfoldable pub listing_of : List ℕ → List ℕ → ListedBytes
listing_of c bytes =
    let ds = descriptors_of c in
    let a = (step (Listing (room_in bytes)) c).outcome.answer in
    record { answer = a; bytes = pick (is_accepted a) (records_bytes (listed ds []) ++ drop (record_size * length ds) bytes) bytes }

-- the bytes, of which the first i records are those of the first i regions of n; and of all n
unfoldable pub filled_bytes_to : List ℕ → List ℕ → List ℕ → ℕ → ℕ → List ℕ
filled_bytes_to c starts bytes n zero = bytes
filled_bytes_to c starts bytes n (suc i) = splice (filled_bytes_to c starts bytes n i) (record_size * i) (record_bytes (record_by c starts n i))

unfoldable pub filled_bytes : List ℕ → List ℕ → List ℕ → ℕ → List ℕ
filled_bytes c starts bytes n = filled_bytes_to c starts bytes n n
