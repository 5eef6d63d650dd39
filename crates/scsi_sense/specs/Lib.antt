pub mod SenseCode
pub mod SenseBytes
pub mod Codes
pub mod Faults
