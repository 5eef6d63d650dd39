mod Counted
mod Found
pub mod PublicLaws
