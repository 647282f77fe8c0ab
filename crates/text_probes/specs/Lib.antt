-- `Line` is what a line says and its text, `Reading` a line read from its bytes, `Lines` the lines of a text, `Testing` the tests of a text,
-- `Listing` the entries that its lines stand for, `Faults` which line is at fault. For inner functions alone: `Says` is what the line reader answers,
-- `Keeping` what is kept of the lines.
pub mod Line
pub mod Reading
pub mod Lines
pub mod Testing
pub mod Listing
pub mod Faults
pub mod Says
pub mod Keeping
