-- `Walk` is the walk as 01 words it, `Settling` what an answer under a budget means, `Tables` the span tables of 01 under one. `Run` is a run under a
-- budget, and what it comes to, and `Compared` what demand 3 says of two outcomes: for inner contracts and laws.
pub mod Walk
pub mod Settling
pub mod Run
pub mod Compared
pub mod Tables
