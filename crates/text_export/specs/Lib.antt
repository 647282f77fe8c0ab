-- `Exporting` is what a card is listed as, and what exporting answers and writes. `Back` is what comes back of an imported list.
pub mod Exporting
pub mod Back
