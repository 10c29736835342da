-- Arrivals scaled by a factor in thousandths.
use Rattle.std.specs.Prelude.{◌≡◌, ℕ, ◌*◌, ◌/◌, length}
use Rattle.net_parts.specs.Numbers.{Net}
use Rattle.road_net.specs.Totals.{total}
use Rattle.net_parts.specs.Limits.{most_seconds}

-- the greatest factor
abbrev pub greatest_factor : ℕ
greatest_factor = 10000

-- this many thousandths of an amount, rounded down
abbrev pub share_of : ℕ → ℕ → ℕ
share_of factor amount = amount * factor / 1000

-- all that enters a link in the first n seconds, where `arriving second link` enters it in a second
abbrev pub total_entered : (ℕ → ℕ → ℕ) → ℕ → ℕ → ℕ
total_entered arriving link n = total (λ second. arriving second link) n

-- what enters is scaled by a factor: of all that entered a link in the first n seconds, `factor` thousandths then do, rounded down
abbrev pub IsScaled : ℕ → (ℕ → ℕ → ℕ) → (ℕ → ℕ → ℕ) → Type 0
IsScaled factor arriving scaled =
    (link n : ℕ) → total_entered scaled link n ≡ share_of factor (total_entered arriving link n)

-- all that enters the links of a network once it is scaled by a factor
abbrev pub scaled_whole : Net → ℕ → (ℕ → ℕ → ℕ) → ℕ
scaled_whole net factor arriving =
    total (λ link. share_of factor (total_entered arriving link most_seconds)) (length net.link_names)
