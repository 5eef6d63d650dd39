pub mod Luns
