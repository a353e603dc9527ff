-- `list_in` meets its contract: what the tests counted is filled.
use Rattle.std.proofs.Common.{arith}
use Rattle.calls.proofs.ResultLaws.{is_passed, refused_test}
use Rattle.calls.proofs.ListingLaws.{filling_answer, sound_inside}
use Rattle.boundary.proofs.RecordLaws.{room_size, listing_barred, listing_filled}
use Rattle.boundary.proofs.record.list_in.Goals as goal

pub returns-in_err-count : goal.returns-in_err-count
returns-in_err-count g c =
    rw (is_passed _ _ c.from_residual.ensures.1) (listing_barred _ _ _ _ (filling_answer _ _ _ (c.in_err-count.ensures.value _ (room_size _))) (refused_test _))

pub fill_bytes-requires : goal.fill_bytes-requires
fill_bytes-requires g c =
    let sound = c.in_ok-count.ensures.sound in
    (omega (arith, c.in_ok-count.ensures.upper_bound), c.in_ok-count.ensures.ready.long, λ j h. (sound_inside _ _ _ sound j h).1)

pub returns : goal.returns
returns g c = listing_filled _ _ (filling_answer _ _ _ (c.in_ok-count.ensures.value _ (room_size _))) _ _ c.in_ok-count.ensures.sound (omega (arith, c.in_ok-count.ensures.upper_bound)) _ c.fill_bytes.ensures
