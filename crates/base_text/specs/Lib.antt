-- `Text` is text in ASCII, `Putting` what it is to put it into a buffer.
pub mod Text
pub mod Putting
