-- `Method` is what a method answers, and what makes that right.
pub mod Method
