-- `Arrangement` is what an arrangement is, `Build` the sequence it spells, `Matches` the same in the client's own words, `Verdict` what a verdict
-- says of all builds, `Many` how many builds there are, `Tables` the small tables of 01. For inner contracts and laws: `Worded` is an arrangement
-- by its words, `Compared` what demand 3 says of two verdicts.
pub mod Arrangement
pub mod Build
pub mod Matches
pub mod Worded
pub mod Verdict
pub mod Compared
pub mod Many
pub mod Tables
