pub mod Guesses
pub mod Lawful
pub mod Legal
pub mod Loops
pub mod Squares
