pub mod Places
pub mod Verdicts
pub use Rattle.schedule_meaning.specs.Best
pub use Rattle.dp_certificate.specs.Proves
