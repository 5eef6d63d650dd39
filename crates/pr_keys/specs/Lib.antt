pub mod Types
pub mod Reservations
pub mod Actions
pub mod Sound
pub mod Bytes
