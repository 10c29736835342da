pub mod Joins
pub mod Next
pub mod Pieces
pub mod Ways
pub use Rattle.dp_certificate.specs.Certificates
pub use Rattle.schedule_meaning.specs.Instances
