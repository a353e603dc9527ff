-- The theorems about Placed, and the laws that they rest on.
pub mod CallKinds
pub mod OwnerLaws
pub mod PlacedForget
pub mod PlacedLaws
pub mod PlacedNeed
pub mod PlacedOrigin
pub mod PlacedWrite
pub mod PlacedSnap
pub mod PlacedRevert
pub mod PlacedFormat
pub mod PlacedSpan
pub mod PlacedAnswers
pub mod PlacedRun
pub mod PlacedWell
pub mod Origins
