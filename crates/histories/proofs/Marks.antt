-- Events with their links, in the order of all.
use Rattle.std.proofs.Common.{◌≡◌, ℕ, eqb, cond, Bool, true, false, List, map, filter, refl, inl, inr, arith}
use Rattle.std.specs.Prelude.{AllPairs, ◌&&◌, if◌then◌else◌}
use Rattle.board_model.specs.declared.boards.BoardEvent.{BoardEvent}
use Rattle.board_model.specs.Calls.{IsBefore}
use Rattle.histories.specs.declared.steps.BoardStep.{BoardStep}
use Rattle.histories.specs.declared.steps.BoardStep.TheVariants.{Read, Publish}
use Rattle.histories.specs.Steps.{is_publish_of}
use Rattle.histories.proofs.EventKinds.{is_publish}

-- an event with its link
pub record Marked : Type 0 where
  pub link : ℕ
  pub event : BoardEvent

-- the events at a link, and those of a node
abbrev pub at_link : ℕ → List Marked → List Marked
at_link link all = filter (λ m. eqb m.link link) all

abbrev pub of_node : ℕ → List Marked → List Marked
of_node node all = filter (λ m. eqb m.event.node node) all

-- all events of all logs, in the order of (stamp, node)
pub record AreMarked (logs : ℕ → List BoardEvent) (all : List Marked) : Type 0 where
  pub ordered : AllPairs (λ a b. IsBefore a.event b.event) all
  pub each : (link : ℕ) → map (λ m. m.event) (at_link link all) ≡ logs link

-- of two events of different nodes not both come before the other
pub apart : (a b : Marked) → (a.event.node ≡ b.event.node → ⊥) → IsBefore a.event b.event → IsBefore b.event a.event → ⊥
apart a b other (inl p) (inl q) = omega arith
apart a b other (inl p) (inr q) = omega arith
apart a b other (inr p) (inl q) = omega arith
apart a b other (inr p) (inr q) = other (omega arith)

-- the history of these, marked
abbrev pub IsMarkedMerge : (ℕ → List BoardEvent) → List ℕ → Type 0
IsMarkedMerge logs history = (all : List Marked) × AreMarked logs all × (history ≡ map (λ m. m.event.node) all)

-- the step of an event
abbrev pub step_in : Marked → BoardStep
step_in m = if is_publish m.event.kind then Publish m.link else Read m.link

-- a step publishes on a link where it publishes, and that is its link
pub publish-of : (link own : ℕ) (b : Bool) → is_publish_of link (cond b (Publish own) (Read own)) ≡ b && eqb own link
publish-of link own true = refl
publish-of link own false = refl
