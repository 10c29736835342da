-- No public clause names these: what completes the sequences that reach a key, at the least cost.
use Rattle.std.specs.Prelude.{◌≡◌, ℕ, zero, suc, ◌+◌, ◌-◌, ◌*◌, ◌<◌, ◌≤◌, ◌⊎◌, List, [], ◌∷◌, length, slice_index, slice_index_or, Option, Some, None}
use Rattle.schedule_meaning.specs.Instances.{Problem, list_at}
use Rattle.dp_certificate.specs.Certificates.{entry_at}
use Rattle.dp_certificate.specs.Prefixes.{Stage, key_of, stage_after, stage_from}
use Rattle.dp_certificate.specs.Proves.{key_of_entry, stage_of_entry}
use Rattle.dp_certificate.specs.declared.Entry.{Entry}
use Rattle.forward_dp.specs.Numbers.{order_number}
use Rattle.forward_dp.specs.declared.completions.Completion.{Completion}
use Rattle.forward_dp.specs.declared.completions.Completion.TheVariants.{Never, Complete, By}

-- what a completion costs; none where nothing completes the sequences
abbrev pub cost_of : Completion → Option ℕ
cost_of Never = None
cost_of Complete = Some 0
cost_of (By cost phase next) = Some cost

-- the completion at a place
abbrev pub completion_at : List Completion → ℕ → Completion
completion_at all place = slice_index_or all place Never

-- following completions from one on gives these phases, at this cost
abbrev pub Follows : List Completion → Completion → List ℕ → ℕ → Type 0
Follows all Never rest cost = ⊥
Follows all Complete [] cost = cost ≡ 0
Follows all Complete (k ∷ ks) cost = ⊥
Follows all (By own phase next) [] cost = ⊥
Follows all (By own phase next) (k ∷ ks) cost =
    (own ≡ cost) × (phase ≡ k) × (next < length all) × (left : ℕ) × Follows all (completion_at all next) ks left

-- phases that serve all that is left after a stage, and what they cost
pub record Completes (p : Problem) (s : Stage) (rest : List ℕ) (cost : ℕ) : Type 0 where
  pub end : Stage
  pub leads : stage_from p s rest ≡ Some end
  pub delay : end.delay ≡ s.delay + cost
  pub all : (k : ℕ) → slice_index end.counts k ≡ length (list_at p.lists k)

-- no phases, or a first one below this number
abbrev pub BeginsBelow : ℕ → List ℕ → Type 0
BeginsBelow n [] = Unit {0}
BeginsBelow n (k ∷ ks) = k < n

-- of the phases that complete a stage and begin below a number, a completion gives the cheapest, and of several the first
pub record IsCheapest (p : Problem) (all : List Completion) (s : Stage) (n : ℕ) (c : Completion) : Type 0 where
  pub rest : List ℕ
  pub cost : ℕ
  pub value : cost_of c ≡ Some cost
  pub follows : Follows all c rest cost
  pub completes : Completes p s rest cost
  pub begins : BeginsBelow n rest
  pub least : (other : List ℕ) (d : ℕ) → Completes p s other d → BeginsBelow n other
      → (cost < d) ⊎ ((cost ≡ d) × (order_number rest ≤ order_number other))

-- no phases complete a stage and begin below a number, and the completion is none
pub record IsNever (p : Problem) (s : Stage) (n : ℕ) (c : Completion) : Type 0 where
  pub value : cost_of c ≡ None
  pub none : (other : List ℕ) (d : ℕ) → Completes p s other d → BeginsBelow n other → ⊥

-- what completes a stage with a first phase below a number
abbrev pub IsBestBelow : Problem → List Completion → Stage → ℕ → Completion → Type 0
IsBestBelow p all s n c = IsNever p s n c ⊎ IsCheapest p all s n c

-- what completes a stage
abbrev pub IsCompletion : Problem → List Completion → Stage → Completion → Type 0
IsCompletion p all s c = IsBestBelow p all s (length p.plan) c

-- the completions of the last entries, from the last one back
abbrev pub AreCompletions : Problem → List Entry → List Completion → Type 0
AreCompletions p entries all =
    (far : ℕ) → far < length all
    → IsCompletion p all (stage_of_entry p (entry_at entries (length entries - 1 - far))) (completion_at all far)

-- following completions from one on gives at most this many phases
pub record IsFollowed (all : List Completion) (first : Completion) (most : ℕ) : Type 0 where
  pub rest : List ℕ
  pub cost : ℕ
  pub follows : Follows all first rest cost
  pub few : length rest ≤ most

-- the better of a completion and the one by a phase at this cost, which another completion goes on from
pub record IsBetter (best : Completion) (phase cost next : ℕ) (rest result : Completion) : Type 0 where
  pub never : cost_of rest ≡ None → result ≡ best
  pub stays : (left least : ℕ) → cost_of rest ≡ Some left → cost_of best ≡ Some least → least ≤ cost + left
      → result ≡ best
  pub less : (left least : ℕ) → cost_of rest ≡ Some left → cost_of best ≡ Some least → cost + left < least
      → result ≡ By (cost + left) phase next
  pub first : (left : ℕ) → cost_of rest ≡ Some left → cost_of best ≡ None → result ≡ By (cost + left) phase next

-- by a phase, the entry at a place leads to the key of the one at another place, at this cost
pub record IsAfter (p : Problem) (entries : List Entry) (place k there cost : ℕ) : Type 0 where
  pub next : Stage
  pub leads : stage_after p (stage_of_entry p (entry_at entries place)) k ≡ Some next
  pub rise : next.delay ≡ (entry_at entries place).delay + cost
  pub few : cost ≤ 60000000000000
  pub later : place < there
  pub within : there < length entries
  pub key : key_of_entry (entry_at entries there) ≡ key_of next
