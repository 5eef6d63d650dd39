pub mod RangeDescriptors
pub mod Written
pub mod RoundTrip
pub mod PublicLaws
