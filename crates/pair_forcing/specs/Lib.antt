-- `Forcing` is what places with one entry force.
pub mod Forcing
