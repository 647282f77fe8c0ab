-- `Numbers` is the table of refusals, `Answer` what an answer is, how tests give one and what an output is after it.
pub mod Numbers
pub mod Answer
