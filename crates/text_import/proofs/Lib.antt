-- `ImportingLaws`: what importing answers, for proofs to cite. `WordBack`, `SoundCard`: the card of a sound text, entry by entry.
-- Of a list that is imported, `Imported`: its kind, l, m and words are the lines'; `NoShift`: no place is shifted. `Refusals`,
-- `RefusalNumbers`, `Numbers`: what is refused, by which line, and by which numbers. `Determined`: the contract determines the outcome, and
-- `Ends`: each call meets it.
pub mod ImportingLaws
pub mod WordBack
pub mod SoundCard
pub mod Imported
pub mod NoShift
pub mod RefusalNumbers
pub mod Refusals
pub mod Numbers
pub mod Determined
pub mod Ends
