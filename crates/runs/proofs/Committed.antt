-- What a commit makes is one.
use Rattle.std.proofs.Common.{◌≡◌, ℕ, ◌+◌, List, sym, ap, subst, ◌∙◌}
use Rattle.std.proofs.lemmas.Option.{same_Some}
use Rattle.board_model.specs.declared.boards.Heard.{Heard}
use Rattle.clusters.specs.Sound.{cluster_lists}
use Rattle.clusters.specs.Options.{AreExpected}
use Rattle.clusters.specs.Windows.{IsWindow}
use Rattle.clusters.specs.declared.vehicle_groups.Platoon.{Platoon}
use Rattle.clusters.specs.declared.vehicle_groups.Window.{Window}
use Rattle.control_flow.specs.Greens.{spliced}
use Rattle.control_flow.specs.declared.greens.Green.{Green}
use Rattle.intersection_actor.specs.Commits.{Commitment, IsCommit, AreServedBy, line_for, round_plan}
use Rattle.net_parts.specs.Numbers.{Net}
use Rattle.road_net.specs.declared.senses.Sensed.{Sensed}
use Rattle.schedule_meaning.specs.Best.{IsBest}
use Rattle.schedule_meaning.specs.Instances.{Problem}
use Rattle.schedule_meaning.specs.declared.planners.Answer.{Answer}
use Rattle.schedule_meaning.specs.declared.planners.Answer.TheVariants.{Plan, NoPlan}
use Rattle.schedule_meaning.proofs.Choosing.{best-one}
use Rattle.switch_rules.specs.declared.Head.{Head}
use Rattle.switch_rules.specs.declared.Served.{Served}
use Rattle.runs.proofs.Expected.{one-expected, one-window}

one-served : (p : Problem) (answer : Answer) (a b : List Served) → AreServedBy p answer a → AreServedBy p answer b → a ≡ b
one-served p (Plan sequence delay) a b h g = same_Some a b (sym h ∙ g)
one-served p NoPlan a b h g = h ∙ sym g

problem_of : Net → ℕ → Sensed → Head → Window → Problem
problem_of net node sensed head window = record { plan = round_plan net node sensed; head = head; lists = cluster_lists window.lists }

pub one-commit : (net : Net) (node round : ℕ) (old : List Green) (sensed : Sensed) (heard : List Heard) (a b : Commitment) → IsCommit net node round old sensed heard a → IsCommit net node round old sensed heard b → a ≡ b
unfolding problem_of
one-commit net node round old sensed heard a b h g =
    let head : a.head ≡ b.head = same_Some a.head b.head (sym h.problem.at ∙ g.problem.at) in
    let platoons : a.platoons ≡ b.platoons = one-expected net node b.head sensed heard a.platoons b.platoons (subst (λ (x : Head). AreExpected net node x sensed heard a.platoons) head h.problem.expected) g.problem.expected in
    let window : a.window ≡ b.window = one-window b.platoons a.window b.window (subst (λ (p : List (List Platoon)). IsWindow p a.window) platoons h.problem.taken) g.problem.taken in
    let problem : a.problem ≡ b.problem = h.problem.is ∙ ap (λ x. problem_of net node sensed x a.window) head ∙ ap (problem_of net node sensed b.head) window ∙ sym g.problem.is in
    let answer : a.answer ≡ b.answer = best-one b.problem a.answer b.answer (subst (λ (p : Problem). IsBest p a.answer) problem h.answer) g.answer in
    let same : AreServedBy b.problem b.answer a.served = subst (λ (x : Answer). AreServedBy b.problem x a.served) answer (subst (λ (p : Problem). AreServedBy p a.answer a.served) problem h.served) in
    let served : a.served ≡ b.served = one-served b.problem b.answer a.served b.served same g.served in
    let next : a.next ≡ b.next =
    h.next
    ∙ ap (λ x. line_for (round_plan net node sensed) x a.answer a.served (sensed.now + net.run.look)) head
    ∙ ap (λ x. line_for (round_plan net node sensed) b.head x a.served (sensed.now + net.run.look)) answer
    ∙ ap (λ x. line_for (round_plan net node sensed) b.head b.answer x (sensed.now + net.run.look)) served
    ∙ sym g.next in
    let line : a.line ≡ b.line = h.line ∙ ap (spliced old) next ∙ sym g.line in
    λ i. record { head = head i; platoons = platoons i; window = window i; problem = problem i; answer = answer i; served = served i; next = next i; line = line i }
