pub mod Batch
pub mod Known
pub mod Laying
pub mod Places
pub mod Plays
pub mod Rule
pub mod Threads
pub mod Views
