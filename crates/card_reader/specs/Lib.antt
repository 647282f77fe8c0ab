-- `Reading` is the reading order, `Fetching` what admitting, entry fetch and the head answer,
-- `Listing` what admitting into lent lists writes.
pub mod Reading
pub mod Fetching
pub mod Listing
