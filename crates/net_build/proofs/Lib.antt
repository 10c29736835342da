pub mod Building
pub mod FirstFaults
pub mod Greens
pub mod Outline
pub mod Plans
pub mod Stages
