-- What the commands over a network mean whose nodes plan.
use Rattle.std.specs.Prelude.{◌≡◌, ℕ, ◌≤◌, List, None, IsSome}
use Rattle.histories.specs.Histories.{turn_order}
use Rattle.net_file.specs.Upgrade.{IsUpgraded}
use Rattle.net_parts.specs.Numbers.{Net, number_of}
use Rattle.commands.specs.Meanings.{Meaning, writer}
use Rattle.commands.specs.Texts.{NoMore}
use Rattle.commands.specs.declared.refusals.Named.{Named}
use Rattle.commands.specs.declared.refusals.Named.TheVariants.{Node, Round, Factor}
use Rattle.scene_jobs.specs.Meanings.{over_network, over_scene, over_scene_with, three_texts}
use Rattle.network_jobs.specs.Headline.{Headline, IsGridSummary, IsPlannedText, IsTotalsText, ToldHeadline}
use Rattle.network_jobs.specs.Kinds.{HistoryText}

-- `turns NET ARR`
abbrev pub turns_meaning : List ℕ → List ℕ → Meaning
turns_meaning = over_scene (λ net arriving bytes. Headline net arriving (turn_order net) bytes)

-- `totals NET ARR`
abbrev pub totals_meaning : List ℕ → List ℕ → Meaning
totals_meaning = over_scene IsTotalsText

-- `replay NET ARR HIST`
abbrev pub replay_meaning : List ℕ → List ℕ → List ℕ → Meaning
replay_meaning = over_scene_with HistoryText (λ net arriving history bytes. Headline net arriving history bytes)

-- `net NET ARR`
abbrev pub net_meaning : List ℕ → List ℕ → Meaning
net_meaning = over_scene ToldHeadline

-- what the words of `instance` name is not in the network: it has no such node, or it has, and no such round
abbrev pub Misses : Net → List ℕ → ℕ → Named → Type 0
Misses net node round Node = number_of net.node_names node ≡ None
Misses net node round Round = IsSome (number_of net.node_names node) × (net.run.rounds ≤ round)
Misses net node round Factor = ⊥

-- `instance NET ARR HIST NODE ROUND`
abbrev pub instance_meaning : List ℕ → List ℕ → List ℕ → List ℕ → ℕ → Meaning
instance_meaning net arr hist node round = record {
  texts = three_texts HistoryText net arr hist;
  writes = λ said bytes. IsPlannedText said.0 said.1.0 said.1.1.0 node round bytes;
  against = λ said. ⊥;
  rejects = λ said bytes. ⊥;
  misses = λ said what. Misses said.0 node round what;
}

-- `grid NUMBER SIDE ROUNDS`
abbrev pub grid_meaning : ℕ → ℕ → ℕ → Meaning
grid_meaning number side rounds = writer NoMore (λ said bytes. IsGridSummary number side rounds bytes)

-- `upgrade NET`
abbrev pub upgrade_meaning : List ℕ → Meaning
upgrade_meaning = over_network (λ net bytes. IsUpgraded bytes net)
