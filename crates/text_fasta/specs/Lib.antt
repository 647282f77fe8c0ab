-- `Record` is what a record is, `Writing` what writing one answers, `Reading` what reading one answers, `Profile` a record in one statement, and
-- what departs from it. For inner functions alone: `Inner`.
pub mod Record
pub mod Writing
pub mod Reading
pub mod Profile
pub mod Inner
