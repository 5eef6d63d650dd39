pub mod CheckedTrace
pub mod Verdict
pub mod Checked
pub mod inner
