-- `Layout` is where things stand on a card, `Card` the bytes of a card.
pub mod Layout
pub mod Card
