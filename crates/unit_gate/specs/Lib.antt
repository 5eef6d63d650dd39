pub mod Asking
pub mod Recorded
pub mod Counting
pub mod UnitActs
pub mod SeatActs
pub mod Opening
pub mod inner
