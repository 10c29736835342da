-- A core that goes along a lawful history.
use Rattle.std.proofs.Common.{◌≡◌, ℕ, ◌+◌, ◌<◌, ◌≤◌, cond, false, List, [], ◌∷◌, ◌++◌, Some, length, get_or, take, drop, refl, sym, ap, ◌∙◌, subst, arith, ne_eqb}
use Rattle.std.specs.Prelude.{slice_get}
use Rattle.std.proofs.lemmas.Bool.{false≢true}
use Rattle.std.proofs.lemmas.List.{take_all, take_more}
use Rattle.std.proofs.lemmas.Option.{slice_get-get_or}
use Rattle.arrivals.specs.Amounts.{Amounts}
use Rattle.histories.specs.Histories.{count, IsLawful, IsUnderWay}
use Rattle.histories.specs.Steps.{board_steps}
use Rattle.histories.specs.declared.steps.BoardStep.{BoardStep}
use Rattle.histories.specs.declared.steps.BoardStep.TheVariants as steps
use Rattle.histories.proofs.HowFar.{lawful-cut}
use Rattle.histories.proofs.Rounds.{all-done, next}
use Rattle.histories.proofs.StepLaws.{steps-beyond}
use Rattle.intersection_actor.specs.declared.records.Want.TheVariants.{Done}
use Rattle.net_parts.specs.Numbers.{Net}
use Rattle.road_net.specs.Network.{IsNetwork}
use Rattle.net_core.specs.Cores.{Course, IsStepFault, IsWanted, wanted_step}
use Rattle.net_core.specs.declared.faults.StepFault.{StepFault}
use Rattle.net_core.specs.declared.faults.StepFault.TheVariants.{UnknownNode, Spent, Over, NotItsTurn, NoMemory}

-- a core that has done the first steps of a history
abbrev pub gone : Net → Amounts → List ℕ → ℕ → Course
gone net arrivals h place = record { net = net; arrivals = arrivals; steps = take place h; spent = false }

-- a step is wanted
pub wants-it : (step : BoardStep) → Done ≡ wanted_step (Some step) → ⊥
wants-it (steps.Read link) e = cc
wants-it (steps.Publish link) e = cc

module _ (net : Net) (arrivals : Amounts) (h : List ℕ) where
  -- with one step more
  pub gone-more : (place : ℕ) (old new : Course) → place < length h → old ≡ gone net arrivals h place → new ≡ record old { steps = old.steps ++ get_or h place 0 ∷ [] } → new ≡ gone net arrivals h (place + 1)
  gone-more place old new inside was is =
      is ∙ ap (λ (c : Course). record c { steps = c.steps ++ get_or h place 0 ∷ [] }) was
      ∙ ap (λ (l : List ℕ). record { net = net; arrivals = arrivals; steps = l; spent = false }) (sym (take_more h place 0 inside))

  -- with all
  pub gone-all : (place : ℕ) (core : Course) → length h ≤ place → core ≡ gone net arrivals h place → core ≡ record { net = net; arrivals = arrivals; steps = h; spent = false }
  gone-all place core past is = is ∙ ap (λ (l : List ℕ). record { net = net; arrivals = arrivals; steps = l; spent = false }) (take_all place h past)

  module _ (network : IsNetwork net) (lawful : IsLawful net h) (place : ℕ) (inside : place < length h) where
    node : ℕ
    node = get_or h place 0

    ahead : (done : ℕ) (way : IsUnderWay (board_steps net) net.run.rounds done (take place h)) → (done < net.run.rounds) × (count node way.part < length (board_steps net node))
    unfolding node
    ahead done way = next (board_steps net) net.run.rounds done (take place h) way node (drop (place + 1) h) (lawful-cut net h place inside lawful)

    turn-comes : IsWanted net (take place h) node Done → ⊥
    turn-comes w =
        let (less, fewer) = ahead w.done w.way in
        wants-it (get_or (board_steps net node) (count node w.way.part) (steps.Read 0)) (
        w.is
        ∙ ap (λ b. cond b Done (wanted_step (slice_get (board_steps net node) (count node w.way.part)))) (ne_eqb w.done net.run.rounds (λ e. omega arith))
        ∙ ap wanted_step (slice_get-get_or (board_steps net node) (count node w.way.part) (steps.Read 0) fewer))

    -- its next step is not done only where memory runs out
    pub no-fault : (done : ℕ) → IsUnderWay (board_steps net) net.run.rounds done (take place h) → (old : Course) → old ≡ gone net arrivals h place → (fault : StepFault) → IsStepFault old (get_or h place 0) fault → fault ≡ NoMemory
    unfolding node
    no-fault done way old is fault why = by fault (subst (λ (c : Course). IsStepFault c (get_or h place 0) fault) is why)
      where
        by : (fault : StepFault) → IsStepFault (gone net arrivals h place) (get_or h place 0) fault → fault ≡ NoMemory
        by UnknownNode past = absurd (let both = ahead done way in let none : length (board_steps net node) ≡ 0 = ap length (steps-beyond net network node past) in omega (arith, both.1, none))
        by Spent w = absurd (false≢true w.spent)
        by Over w = absurd (let both = ahead done way in let over = all-done (board_steps net) net.run.rounds done (take place h) way w.lawful in omega (arith, both.0, over))
        by NotItsTurn w = absurd (turn-comes w.wanted)
        by NoMemory w = refl
