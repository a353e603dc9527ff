-- Values of the definitions of the exported functions: what they compute is what is said.
use mathlib.Core.Path.{refl}
use Prim.Native.Nat.{suc}
use native.Mathlib.Omega.{arith}
use borrow.Author.Tests.{ne_eqb}
use Rattle.blocks.specs.Bytes.{u32_at, le32}
use Rattle.blocks.specs.Name.{name_byte, name_length, is_text, padded}
use Rattle.calls.proofs.Stepping.{stepping}
use Rattle.boundary.specs.Exported.{name_in, target_in, padding_of}
use Rattle.boundary.specs.RecordBytes.{record_bytes, records_bytes, record_in, room_in, listing_of}
use Rattle.boundary.specs.Values.{NameValues, TargetValues, PaddedValues, PaddingValues, RecordValues, ListingValues}

pub name_values : NameValues
unfolding NameValues name_in
name_values = (refl, refl, refl)

pub target_values : TargetValues
unfolding TargetValues target_in
target_values = (refl, λ n. rw (ne_eqb (suc n) 0 (omega arith)))

pub padded_values : PaddedValues
unfolding PaddedValues padded is_text name_length name_byte
padded_values = (refl, refl, refl, refl, refl)

pub padding_values : PaddingValues
unfolding PaddingValues padding_of padded is_text name_length name_byte
padding_values = (refl, refl, refl, refl, refl)

pub record_values : RecordValues
unfolding RecordValues record_bytes record_in le32 u32_at
record_values = (refl, refl)

pub listing_values : ListingValues
unfolding ListingValues listing_of room_in records_bytes record_bytes
    stepping
listing_values = (refl, refl, refl)
