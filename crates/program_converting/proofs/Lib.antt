-- `ConvertingLaws`, `FastaLaws`: what is written by each answer. `ByVerdict`: what `card2fasta` writes by each verdict. `LongInput`: the
-- first bytes of a card are enough. `NeverRoom`: 12 never comes. `Determined`: each contract has one outcome. `Ends`: each call ends.
-- `Examples`: the list of GATTACA, and lists that are refused. `FastaExamples`: the record of S2, and what is written of other cards and by other
-- names.
pub mod ConvertingLaws
pub mod FastaLaws
pub mod ByVerdict
pub mod LongInput
pub mod NeverRoom
pub mod Determined
pub mod Ends
pub mod Examples
pub mod FastaExamples
