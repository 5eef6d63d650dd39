pub mod Tables
pub mod Agreeing
pub mod Seen
pub mod Shown
pub mod BlockChanges
pub mod JobChanges
pub mod Planning
pub mod VersionUnits
