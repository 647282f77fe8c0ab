-- `Hash` is by what a line tells a whole list, `Record` how long the parts of a record are at the most.
pub mod Hash
pub mod Record
