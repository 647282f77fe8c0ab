-- `Following` is what one placement forces, with a trail of the entries placed, `Common` the words that can still stand at a place.
pub mod Following
pub mod Common
