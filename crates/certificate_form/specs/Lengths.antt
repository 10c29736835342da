-- How many bytes the text of a certificate has at the most.
use Rattle.std.specs.Prelude.{ℕ, ◌+◌, ◌*◌}

-- the line of an entry
abbrev pub entry_bytes : ℕ
entry_bytes = 49

-- all other lines, but for the places of the answer's sequence
abbrev pub other_bytes : ℕ
other_bytes = 3500

-- the text with this many entries, and this many places of the answer's sequence
abbrev pub text_bytes : ℕ → ℕ → ℕ
text_bytes entries places = entry_bytes * entries + 4 * places + other_bytes
