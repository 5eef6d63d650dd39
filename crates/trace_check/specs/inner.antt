pub mod Endings
pub mod Machines
pub mod Loops
pub mod Pulls
