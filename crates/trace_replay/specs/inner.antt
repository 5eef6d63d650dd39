pub mod Laws
pub mod Machines
pub mod Counting
pub mod Writing
pub mod Players
