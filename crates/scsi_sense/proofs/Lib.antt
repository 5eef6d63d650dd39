pub mod FaultLaws
pub mod PublicLaws
