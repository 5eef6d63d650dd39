pub mod Told
pub mod Steps
pub mod Acting
pub mod FrontJob
