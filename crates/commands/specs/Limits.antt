-- How long a text may be.
use Rattle.std.specs.Prelude.{ℕ}

-- the greatest length of a text, in bytes
abbrev pub most_bytes : ℕ
most_bytes = 100663296
