-- `Input` is how much of standard input a program takes.
pub mod Input
