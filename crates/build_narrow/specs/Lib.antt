-- `Settling` is what settling a narrow span card answers and writes. For inner functions alone: `Passing` is lists that pass every test of
-- it.
pub mod Settling
pub mod Passing
