pub mod Body
pub mod Halves
pub mod Laws
pub mod SlotFields
pub mod Slots
