pub mod Order
pub mod Below
pub mod Granted
pub mod Held
pub mod OneVersionNumbers
pub mod MendWorking
pub mod RoomRests
