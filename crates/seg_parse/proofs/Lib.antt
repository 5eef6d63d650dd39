pub mod Preceded
pub mod Copies
pub mod Written
pub mod RoundTrip
