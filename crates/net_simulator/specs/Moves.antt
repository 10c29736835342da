-- One second of any world: what each link discharges, and what enters each from outside.
use Rattle.std.specs.Prelude.{ℕ, zero, suc, ◌+◌, List, [], ◌∷◌, ◌++◌, map, length}
use Rattle.std.specs.List.{range_with_len}
use Rattle.net_parts.specs.Numbers.{Net}
use Rattle.net_parts.specs.Outline.{turns_at}
use Rattle.road_net.specs.Joins.{split_of}
use Rattle.road_net.specs.Totals.{total}
use Rattle.net_simulator.specs.Flow.{Cumulative, passed_in}

-- what each link discharges in a second, and what enters each from outside
pub record Moves : Type 0 where
  pub goes : ℕ → ℕ
  pub comes : ℕ → ℕ

-- what passed a link with one second more
abbrev pub moved : Net → Moves → (ℕ → ℕ → Cumulative) → ℕ → ℕ → Cumulative
moved net m past x l = record {
  entered = (past x l).entered
      + (m.comes l + total (λ k. split_of (turns_at net k) (m.goes k) l) (length net.link_names));
  left = (past x l).left + m.goes l;
}

-- the rows of the first 0, 1, .., n seconds, where a rule tells what moves in second x by the rows of the seconds below it
unfoldable pub history_by : Net → (List (List Cumulative) → ℕ → Moves) → ℕ → List (List Cumulative)
history_by net rule zero = [] ∷ []
history_by net rule (suc x) =
    let before = history_by net rule x in
    before ++ map (moved net (rule before x) (passed_in before) x) (range_with_len 0 (length net.link_names)) ∷ []
