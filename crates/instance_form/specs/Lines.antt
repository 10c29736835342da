-- No public clause names these: reading one line from the front of the bytes, its values and the bytes after it.
use Rattle.std.specs.Prelude.{ℕ, ◌^◌, Bool, true, false, ◌&&◌, ◌==◌, nat_le, List, [], ◌∷◌, ◌++◌, Option, Some, None, if◌then◌else◌, codes, slice_index}
use Rattle.std.specs.Borrow.{Bor}
use Rattle.std.specs.Option.{option_map, option_or}
use Rattle.foundation.specs.Options.{◌>>=◌}
use Rattle.text_lines.specs.Fields.{literal_at, field_at}
use Rattle.phase_plan.specs.declared.Phase.{Phase}
use Rattle.switch_rules.specs.declared.Head.{Head}
use Rattle.switch_rules.specs.declared.Cluster.{Cluster}
use Rattle.instance_form.specs.declared.form.Version.{Version}
use Rattle.instance_form.specs.declared.form.Version.TheVariants.{One, Two, Three, Four, Five}
use Rattle.instance_form.specs.InstanceText.{first_line, mark, freshness}

-- a value and the bytes after it, as contracts see them
abbrev pub seen : {A : Type 0} → A × Bor (List ℕ) → A × List ℕ
seen x = (x.0, x.1.now)

-- the byte between a number and these, or what follows the last number
abbrev pub separator : List ℕ → ℕ → ℕ
separator [] last = last
separator (n ∷ ns) last = 32

-- numbers below these limits, one after another, the last with the byte `last` after it
unfoldable pub numbers_at : List ℕ → ℕ → List ℕ → Option (List ℕ × List ℕ)
numbers_at [] last bytes = Some ([], bytes)
numbers_at (limit ∷ limits) last bytes = do
  first ← field_at limit (separator limits last) bytes
  others ← numbers_at limits last first.1
  Some (first.0 ∷ others.0, others.1)

-- the first of these values whose text is at the front
unfoldable pub value_at : {A : Type 0} → (A → List ℕ) → List A → List ℕ → Option (A × List ℕ)
value_at text [] bytes = None
value_at text (x ∷ xs) bytes =
    option_or (option_map (λ rest. (x, rest)) (literal_at (text x) bytes)) (value_at text xs bytes)

-- ---- the first two lines

abbrev pub version_line_at : List ℕ → Option (Version × List ℕ)
version_line_at bytes = value_at first_line (One ∷ Two ∷ Three ∷ Four ∷ Five ∷ []) bytes

unfoldable pub count_line_at : List ℕ → Option (ℕ × List ℕ)
count_line_at bytes = do
  rest ← literal_at (codes "phases ") bytes
  count ← field_at (2 ^ 8) 10 rest
  if nat_le 2 count.0 && nat_le count.0 4 then Some count else None

-- ---- a phase

abbrev pub phase_limits : List ℕ
phase_limits = 2 ^ 32 ∷ 2 ^ 32 ∷ 2 ^ 32 ∷ 2 ^ 32 ∷ 2 ^ 32 ∷ 2 ^ 32 ∷ []

-- the byte after the times of a phase
abbrev pub times_end : Version → ℕ
times_end One = 10
times_end Two = 32
times_end Three = 32
times_end Four = 32
times_end Five = 32

-- what ends the line of a phase with this mark
abbrev pub mark_end : Bool → List ℕ
mark_end skip = mark skip ++ 10 ∷ []

-- what follows the times in the line of a phase with this mark, in each version
abbrev pub marked_end : Version → Bool → List ℕ
marked_end One skip = 10 ∷ []
marked_end Two skip = 32 ∷ mark_end skip
marked_end Three skip = 32 ∷ mark_end skip
marked_end Four skip = 32 ∷ mark_end skip
marked_end Five skip = 32 ∷ mark_end skip

-- the mark of a phase, which version 1 does not say; in version 4 each phase is marked
abbrev pub mark_at : Version → List ℕ → Option (Bool × List ℕ)
mark_at One bytes = Some (false, bytes)
mark_at Two bytes = value_at mark_end (true ∷ false ∷ []) bytes
mark_at Three bytes = value_at mark_end (true ∷ false ∷ []) bytes
mark_at Four bytes = value_at mark_end (true ∷ []) bytes
mark_at Five bytes = value_at mark_end (true ∷ false ∷ []) bytes

-- the phase with these times and this mark
abbrev pub phase_of : List ℕ → Bool → Phase
phase_of ns skip = record {
  least = slice_index ns 0;
  greatest = slice_index ns 1;
  yellow = slice_index ns 2;
  clear = slice_index ns 3;
  loss = slice_index ns 4;
  wait = slice_index ns 5;
  skip = skip;
}

unfoldable pub phase_line_at : Version → List ℕ → Option (Phase × List ℕ)
phase_line_at v bytes = do
  rest ← literal_at (codes "phase ") bytes
  times ← numbers_at phase_limits (times_end v) rest
  skip ← mark_at v times.1
  Some (phase_of times.0 skip.0, skip.1)

-- ---- the head

abbrev pub head_limits : List ℕ
head_limits = 2 ^ 8 ∷ 2 ^ 32 ∷ 2 ^ 32 ∷ []

-- what ends the line of a head
abbrev pub head_end : Bool → List ℕ
head_end fresh = freshness fresh ++ 10 ∷ []

abbrev pub freshness_at : List ℕ → Option (Bool × List ℕ)
freshness_at bytes = value_at head_end (true ∷ false ∷ []) bytes

-- the head with these numbers
abbrev pub head_of : List ℕ → Bool → Head
head_of ns fresh = record { phase = slice_index ns 0; since = slice_index ns 1; at = slice_index ns 2; fresh = fresh }

unfoldable pub head_line_at : List ℕ → Option (Head × List ℕ)
head_line_at bytes = do
  rest ← literal_at (codes "head ") bytes
  numbers ← numbers_at head_limits 32 rest
  fresh ← freshness_at numbers.1
  Some (head_of numbers.0 fresh.0, fresh.1)

-- ---- a cluster

-- the load of a cluster of this size, which is its size where the version does not say it
abbrev pub load_at : Version → ℕ → List ℕ → Option (ℕ × List ℕ)
load_at One size bytes = Some (size, bytes)
load_at Two size bytes = Some (size, bytes)
load_at Three size bytes = field_at (2 ^ 32) 32 bytes
load_at Four size bytes = field_at (2 ^ 32) 32 bytes
load_at Five size bytes = field_at (2 ^ 32) 32 bytes

-- when a cluster arrives, and how long it takes
abbrev pub span_limits : List ℕ
span_limits = 2 ^ 32 ∷ 2 ^ 32 ∷ []

-- a cluster of this phase
unfoldable pub cluster_line_at : Version → ℕ → List ℕ → Option (Cluster × List ℕ)
cluster_line_at v k bytes = do
  rest ← literal_at (codes "cluster ") bytes
  phase ← field_at (2 ^ 8) 32 rest
  own ← (if phase.0 == k then Some phase.1 else None)
  size ← field_at (2 ^ 32) 32 own
  load ← load_at v size.0 size.1
  span ← numbers_at span_limits 10 load.1
  Some (record { size = size.0; load = load.0; arr = slice_index span.0 0; len = slice_index span.0 1 }, span.1)
