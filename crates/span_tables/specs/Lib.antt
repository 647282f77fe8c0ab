-- `Prepared` is the tables that a method reads, `TableRoom` what a caller lends for them; `Spread` is how entries
-- are spread over keys, `Order` how they are sorted.
pub mod Prepared
pub mod Spread
pub mod Order
pub mod TableRoom
