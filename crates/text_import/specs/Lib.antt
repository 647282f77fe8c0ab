-- `Importing` is what importing a probe list answers, and what it writes.
pub mod Importing
