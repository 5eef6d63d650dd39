pub mod Spoken
pub mod Talking
pub mod inner
pub mod Places
pub mod Keeping
