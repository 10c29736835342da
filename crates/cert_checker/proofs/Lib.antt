pub mod Closing
pub mod Law
pub mod Places
