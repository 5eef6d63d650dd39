pub mod NewFile
pub mod Scanning
pub mod Texts
