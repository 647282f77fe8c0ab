-- `Within` says that a card that was written stands within its output.
pub mod Within
