pub mod Sums
pub mod LightLaws
pub mod MoveLaws
pub mod FlowLaws
pub mod Turning
pub mod Sound
pub mod Standing
pub mod Keeping
pub mod Lighting
pub mod Conserving
pub mod EveryWorld
pub mod Outside
pub mod Passing
pub mod Seeing
pub mod AtNodes
pub mod ExtraGreenLaws
mod WorkedRow
