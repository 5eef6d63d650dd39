pub mod Rooms
pub mod PlainLemmas
