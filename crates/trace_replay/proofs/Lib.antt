pub mod Alone
pub mod Steps
pub mod Grows
pub mod Exits
pub mod ShownShortages
pub mod Written
pub mod Legally
pub mod UnitActs
pub mod CommandSteps
pub mod Running
pub mod Sizes
pub mod Playing
pub mod Counted
pub mod Machining
mod Quiet
mod PlayedWrites
pub mod LoopLaws
pub mod SoundHistory
pub mod SaidReplies
pub mod Belonging
