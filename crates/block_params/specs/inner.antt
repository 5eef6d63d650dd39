pub mod RangesRead
pub mod Lists
