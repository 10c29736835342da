-- Which of two clusters, or of two platoons, comes first.
use Rattle.std.specs.Prelude.{◌≡◌, ℕ, ◌<◌, ◌≤◌, ◌⊎◌}

-- of two that one comes first which arrives first, and of two that arrive together the one of the lower phase; those of one phase
-- keep their order
abbrev pub ComesFirst : ℕ → ℕ → ℕ → ℕ → Type 0
ComesFirst arr phase other_arr other_phase = (arr < other_arr) ⊎ ((arr ≡ other_arr) × (phase ≤ other_phase))
