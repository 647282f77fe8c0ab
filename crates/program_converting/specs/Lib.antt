-- `Converting` is what the programs `list2card` and `card2list` write, `Fasta` what `card2fasta` writes. For an inner function alone: `Lined` is
-- what an answer leaves for standard error.
pub mod Converting
pub mod Fasta
pub mod Lined
