-- `Slot` is how an entry is stored, `Fault` what makes one wrong, `Bounds` what kind, l and m may be, `Hold` entries that meet all of that,
-- `KindLists` lists of such entries by their kind, `Entry` the places that an entry allows.
pub mod Slot
pub mod Fault
pub mod Bounds
pub mod Hold
pub mod KindLists
pub mod Entry
