pub mod Disk
pub mod Opened
pub mod Log
pub mod Journal
pub mod Recording
pub mod Memory
pub mod inner
