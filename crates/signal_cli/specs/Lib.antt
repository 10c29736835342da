pub mod Meanings
pub mod Programs
pub use Rattle.command_words.specs.Calls
pub use Rattle.commands.specs.Outcome
