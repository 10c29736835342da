-- What becomes of the tasks that were laid out together.
use Rattle.std.specs.Prelude.{◌≡◌, ◌<◌, ℕ, List, length, slice_index_or}

-- each task is what became of the one at its place
pub record AreDone {T : Type 0} (done : T → T → Type 0) (before after : List T) : Type 0 where
  pub count : length after ≡ length before
  pub each : (k : ℕ) (x y : T) → k < length before → done (slice_index_or before k x) (slice_index_or after k y)
