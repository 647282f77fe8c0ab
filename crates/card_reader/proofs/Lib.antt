-- `ReadingLaws`, `FetchingLaws` and `ListingLaws` have what proofs cite of the definitions of those names; `SoundLaws` takes the reading order apart,
-- `AdmittedLaws` says that an admitted card's entries hold, `RefusalNumbers` says by which numbers the reader refuses, `Determined` that each contract has one outcome, `Steps` that a head lists the
-- entries, `FrontLaws` that bytes after the longest card change no refusal; `Examples` runs the definitions on the scope's cards and edges.
pub mod ReadingLaws
pub mod FetchingLaws
pub mod ListingLaws
pub mod SoundLaws
pub mod AdmittedLaws
pub mod RefusalNumbers
pub mod Determined
pub mod Steps
pub mod FrontLaws
pub mod Examples
