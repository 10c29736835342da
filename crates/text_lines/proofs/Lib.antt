pub mod Digits
pub mod Feeds
pub mod FirstLine
pub mod LineLaws
pub mod ManyLaws
pub mod Numerals
pub mod Units
