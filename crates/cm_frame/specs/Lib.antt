pub mod Grammar
pub mod Reading
pub mod Laws
pub mod Taking
pub mod Framing
pub mod inner
