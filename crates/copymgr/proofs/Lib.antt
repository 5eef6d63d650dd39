mod Spelled
mod EndsWell
mod ToldCounts
mod AnyBytes
