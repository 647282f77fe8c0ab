-- `Letters` is the table of the letters, and what it says both ways.
pub mod Letters
