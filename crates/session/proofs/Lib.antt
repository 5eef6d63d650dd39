pub mod Events
pub mod CommandSteps
pub mod Hearing
pub mod Turning
pub mod Running
pub mod Talking
pub mod Leading
pub mod PublicLaws
