mod FactorLaws
mod LineLaws
