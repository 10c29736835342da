-- What commands over a network mean: the texts that they read, and what they write.
use Rattle.std.specs.Prelude.{ℕ, List}
use Rattle.net_parts.specs.Numbers.{Net}
use Rattle.commands.specs.Kinds.{Kind}
use Rattle.commands.specs.Meanings.{Meaning, writer}
use Rattle.commands.specs.Texts.{Next, NoMore, Texts, one_text}
use Rattle.scene_jobs.specs.Kinds.{ArrivalsText, NetworkText}

-- a network's text, and one of a kind that holds the network
abbrev pub two_texts : (Net → Kind) → List ℕ → List ℕ → Texts
two_texts kind net second = Next NetworkText net (λ network. Next (kind network) second (λ said. NoMore))

-- a network's text, one of arrivals at it, and one of a kind that holds the network
abbrev pub three_texts : (Net → Kind) → List ℕ → List ℕ → List ℕ → Texts
three_texts kind net arr third =
    Next NetworkText net
    (λ network. Next (ArrivalsText network) arr (λ arriving. Next (kind network) third (λ said. NoMore)))

-- a command that writes this of a network
abbrev pub over_network : (Net → List ℕ → Type 0) → List ℕ → Meaning
over_network writes net = writer (one_text NetworkText net) (λ said bytes. writes said.0 bytes)

-- a command that writes this of a network and of what enters it
abbrev pub over_scene : (Net → (ℕ → ℕ → ℕ) → List ℕ → Type 0) → List ℕ → List ℕ → Meaning
over_scene writes net arr = writer (two_texts ArrivalsText net arr) (λ said bytes. writes said.0 said.1.0 bytes)

-- a command that writes this of a network and of what a second text says of it
abbrev pub over_network_with : (kind : Net → Kind) → ((net : Net) → (kind net).Said → List ℕ → Type 0) → List ℕ → List ℕ
    → Meaning
over_network_with kind writes net second =
    writer (two_texts kind net second) (λ said bytes. writes said.0 said.1.0 bytes)

-- a command that writes this of a network, of what enters it and of what a third text says of it
abbrev pub over_scene_with : (kind : Net → Kind) → ((net : Net) → (ℕ → ℕ → ℕ) → (kind net).Said → List ℕ → Type 0)
    → List ℕ → List ℕ → List ℕ → Meaning
over_scene_with kind writes net arr third =
    writer (three_texts kind net arr third) (λ said bytes. writes said.0 said.1.0 said.1.1.0 bytes)
