mod Moments
mod Writes
mod Gates
mod Kept
mod Past
mod Told
mod Since
mod Found
mod Entries
mod NewFiles
mod FileReads
mod Scans
mod Shapes
mod Openings
pub mod Good
pub mod Fits
pub mod PublicLaws
