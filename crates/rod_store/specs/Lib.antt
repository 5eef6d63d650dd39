pub mod Kept
pub mod Judging
pub mod Store
pub mod inner
pub mod Pinning
pub mod TokenChanges
