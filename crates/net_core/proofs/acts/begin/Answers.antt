use Rattle.std.proofs.Common.{◌≡◌, ℕ, OnOk, Result, subst, ◌∙◌, ap}
use Rattle.intersection_actor.specs.Acting.{Acting, begun, reading}
use Rattle.net_parts.specs.Numbers.{Net}
use Rattle.road_net.specs.Network.{heard_links}
use Rattle.road_net.specs.declared.senses.Sensed.{Sensed}
use Rattle.net_core.specs.Acts.{Settles}
use Rattle.net_core.proofs.acts.begin.Goals as goal

begun-as : {E : Type 0} (r : Result (Unit {0}) E) (net : Net) (round : ℕ) (sensed s : Sensed) (a mid new : Acting) → sensed ≡ s → mid ≡ begun net round sensed a → OnOk r (Settles net mid.want mid new)
    → OnOk r (Settles net (reading (heard_links net a.node)) (begun net round s a) new)
begun-as r net round sensed s a mid new e begins settles = subst (λ (m : Acting). OnOk r (Settles net m.want m new)) (begins ∙ ap (λ (x : Sensed). begun net round x a) e) settles

pub returns-clause-begun : goal.returns-clause-begun
returns-clause-begun g c = λ arriving lines stands. begun-as c.settle.result c.args.net.now c.args.round c.in_ok-sensed.sensed _ c.args.actor.now _ _ (c.in_ok-sensed.ensures.value arriving lines stands) (c.in_ok-begin.ensures.ok ∙ ap (begun c.args.net.now c.args.round c.in_ok-sensed.sensed) c.take_spare-spare.ensures) c.settle.ensures.settles
