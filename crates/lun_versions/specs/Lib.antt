pub mod Chains
pub mod Pins
pub mod Segments
pub mod Units
pub mod Versioned
pub mod Alike
pub mod inner
