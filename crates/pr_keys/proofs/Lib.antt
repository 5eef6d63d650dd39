mod Maps
mod Registered
mod Sound
pub mod PublicLaws
