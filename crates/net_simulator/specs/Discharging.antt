-- What leaves one link, second by second, where it is green in some seconds.
use Rattle.std.specs.Prelude.{◌≡◌, ℕ, zero, suc, ◌+◌, ◌-◌, ◌<◌, ◌≤◌, min, Bool, true, false, if◌then◌else◌}

-- for how many seconds directly before second x, without a break, the link was green
abbrev pub green_for : (ℕ → Bool) → ℕ → ℕ
green_for on zero = 0
green_for on (suc x) = if on x then suc (green_for on x) else 0

-- the second in which the green that lasts up to second x began
abbrev pub begun : (ℕ → Bool) → ℕ → ℕ
begun on x = x - green_for on x

-- What has left a link in the first n seconds, `left n`, where `came n` has reached its end in them: nothing while it is not green,
-- nothing in the first `loss` seconds of a green before which a queue stood, and else the lesser of sat and what waits.
pub record Discharges (on : ℕ → Bool) (loss : ℕ → ℕ) (sat : ℕ) (came left : ℕ → ℕ) : Type 0 where
  pub start : left 0 ≡ 0
  pub rests : (x : ℕ) → on x ≡ false → left (suc x) ≡ left x
  pub lost : (x : ℕ) → on x ≡ true → green_for on x < loss x → left (begun on x) < came (begun on x)
      → left (suc x) ≡ left x
  pub late : (x : ℕ) → on x ≡ true → loss x ≤ green_for on x → left (suc x) ≡ left x + min sat (came (suc x) - left x)
  pub free : (x : ℕ) → on x ≡ true → came (begun on x) ≤ left (begun on x)
      → left (suc x) ≡ left x + min sat (came (suc x) - left x)

-- in each second in which a link is green by its home it is green by all its greens
abbrev pub IsWithin : (ℕ → Bool) → (ℕ → Bool) → Type 0
IsWithin home all = (x : ℕ) → home x ≡ true → all x ≡ true

-- what has reached the end of a link never falls
abbrev pub Rises : (ℕ → ℕ) → Type 0
Rises came = (x : ℕ) → came x ≤ came (suc x)

-- Two ways to serve a link for the same inflow: `left` has left it by its home alone, and `more` by all its greens. A green loses by the phase of
-- the second, so in the seconds of the home both lose as many seconds, `most`.
pub record AreWays (home all : ℕ → Bool) (loss losses : ℕ → ℕ) (most sat : ℕ) (came left more : ℕ → ℕ) : Type 0 where
  pub within : IsWithin home all
  pub home_loss : (x : ℕ) → home x ≡ true → loss x ≡ most
  pub same_loss : (x : ℕ) → home x ≡ true → losses x ≡ most
  pub rises : Rises came
  pub by_home : Discharges home loss sat came left
  pub by_all : Discharges all losses sat came more
