mod Sized
mod Told
mod Quiet
mod Source
mod Commands
mod Requests
mod Target
mod Rounds
mod Plays
pub mod PublicLaws
