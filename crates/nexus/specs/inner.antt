pub mod Gates
pub mod Seats
pub mod Rooms
pub mod Keeping
pub mod Building
pub mod Closing
