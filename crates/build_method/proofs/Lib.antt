-- `RightLaws`: two answers of a method that are right are one, and so are the words of the build that they give.
pub mod RightLaws
