-- `Row` is a list by its elements, `Members` who is in a list, and lists by their members, `At` a member by its number. For inner contracts and
-- laws: `Numbers` is the numbers of a list's members, `Parts` parts of a list.
pub mod Row
pub mod Members
pub mod At
pub mod Numbers
pub mod Parts
