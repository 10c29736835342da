mod LowerBoundLaws
pub mod KeyPlaces
pub mod LimitLaws
pub mod NextLaws
pub mod RestLaws
pub mod Servings
pub mod Stages
