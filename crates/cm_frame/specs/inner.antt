pub mod DataOut
pub mod Gathering
