pub mod Boards
pub mod Slots
pub mod Versions
pub mod Views
