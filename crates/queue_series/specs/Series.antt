-- The text of the queues of a network over time.
use Rattle.std.specs.Prelude.{◌≡◌, ℕ, ◌+◌, ◌-◌, ◌<◌, ◌≤◌, ◌==◌, ◌&&◌, Bool, if◌then◌else◌, List, [], ◌∷◌, ◌++◌, codes, length, map}
use Rattle.std.specs.Fmt.{decimal}
use Rattle.std.specs.List.{flat_map, range_with_len}
use Rattle.net_parts.specs.Numbers.{Net}
use Rattle.net_parts.specs.Outline.{link_name_at}
use Rattle.net_simulator.specs.Flow.{Cumulative, queue}
use Rattle.world_records.specs.Records.{records_text}
use Rattle.queue_series.specs.declared.link_states.Peak.{Peak}

-- Below, `past n l` is what passed link l in the first n seconds, and second n is the moment when these are over. What is on a link
-- then: all that entered it less all that left it.
abbrev pub on_link : (ℕ → ℕ → Cumulative) → ℕ → ℕ → ℕ
on_link past n l = (past n l).entered - (past n l).left

-- the queue of a link and what is on it are the same at second n + 1 as at second n
abbrev pub is_still : Net → (ℕ → ℕ → Cumulative) → ℕ → ℕ → Bool
is_still net past n l = (queue net past n l == queue net past (n + 1) l) && (on_link past n l == on_link past (n + 1) l)

-- the record of a link at second n
abbrev pub link_record : Net → (ℕ → ℕ → Cumulative) → ℕ → ℕ → List (List ℕ)
link_record net past n l =
    decimal n ∷ link_name_at net l ∷ decimal (queue net past n l) ∷ decimal (on_link past n l) ∷ []

-- that of a link at second n + 1, where it is not still
abbrev pub change_records : Net → (ℕ → ℕ → Cumulative) → ℕ → ℕ → List (List (List ℕ))
change_records net past n l = if is_still net past n l then [] else link_record net past (n + 1) l ∷ []

-- those of all links at second n + 1, in their order
abbrev pub second_records : Net → (ℕ → ℕ → Cumulative) → ℕ → List (List (List ℕ))
second_records net past n = flat_map (change_records net past n) (range_with_len 0 (length net.link_names))

-- this is the longest queue of a link up to second `end`, and the first second at which it was so long
pub record IsPeak (net : Net) (past : ℕ → ℕ → Cumulative) (end l : ℕ) (peak : Peak) : Type 0 where
  pub by : peak.second ≤ end
  pub is : queue net past peak.second l ≡ peak.queue
  pub longest : (n : ℕ) → n ≤ end → queue net past n l ≤ peak.queue
  pub first : (n : ℕ) → n < peak.second → queue net past n l < peak.queue

-- the record of the longest queue of a link
abbrev pub peak_record : Net → (ℕ → Peak) → ℕ → List (List ℕ)
peak_record net peaks l = codes "most" ∷ link_name_at net l ∷ decimal (peaks l).queue ∷ decimal (peaks l).second ∷ []

-- the header
abbrev pub header : List (List ℕ)
header = codes "second" ∷ codes "link" ∷ codes "queue" ∷ codes "on" ∷ []

-- The bytes are the text of the queues up to second `end`: a record for each second and link that is not still, and then one for
-- each link with its longest queue.
pub record IsSeries (net : Net) (past : ℕ → ℕ → Cumulative) (end : ℕ) (bytes : List ℕ) : Type 0 where
  pub peaks : ℕ → Peak
  pub are : (l : ℕ) → l < length net.link_names → IsPeak net past end l (peaks l)
  pub text : bytes
      ≡ records_text
      (header ∷ (flat_map (second_records net past) (range_with_len 0 end)
      ++ map (peak_record net peaks) (range_with_len 0 (length net.link_names))))
