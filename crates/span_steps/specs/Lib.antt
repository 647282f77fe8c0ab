-- `Steps` is what the steps of a method for span cards find: who is left, who may be tried at a place, and the tables that tell it.
pub mod Steps
