-- `Choosing` is what choosing the words of the places comes to.
pub mod Choosing
