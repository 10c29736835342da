-- What the code does in one second, by what it keeps. No public clause names these terms.
use Rattle.std.specs.Prelude.{◌≡◌, ◌≢◌, ℕ, ◌+◌, ◌*◌, ◌≤◌, ◌<◌, ◌==◌, min, Bool, if◌then◌else◌, List, Option, Some, None, length, replicate, slice_index, slice_index_or}
use Rattle.net_parts.specs.Numbers.{Net}
use Rattle.net_parts.specs.Outline.{link_at, turns_at}
use Rattle.net_simulator.specs.LinkSeconds.{is_open, rate_by}
use Rattle.spillback_world.specs.Filling.{fitting, room_of}
use Rattle.road_net.specs.Joins.{split_of}
use Rattle.road_net.specs.Totals.{total}
use Rattle.net_simulator.specs.Rows.{kept_seconds}
use Rattle.spillback_world.specs.declared.totals.SpillTotals.{SpillTotals}
use Rattle.spillback_world.specs.declared.worlds.Links.{Links}
use Rattle.spillback_world.specs.Storage.{Opening, all_goes, inward}
use Rattle.spillback_world.specs.Worlds.{SpillState, Stands}
use Rattle.control_flow.specs.declared.greens.Sign.{Sign}
use Rattle.control_flow.specs.declared.greens.Sign.TheVariants.{Dark}

-- how much link l, which ends at a node, may discharge in second x at the most, by the queues after each of the last seconds, what the nodes
-- show, since when each link is green, and what waits at the end of each, `ready`
abbrev pub rate_at : Net → List ℕ → List Sign → List ℕ → List ℕ → ℕ → ℕ → Option ℕ → ℕ
rate_at net waits signs since ready x l None = 0
rate_at net waits signs since ready x l (Some node) =
    if is_open net waits since x l node (slice_index_or signs node Dark) then rate_by net since ready x l else 0

-- how a second begins, by the queues, what leaves the network, how much links may discharge, and what is on each link
abbrev pub opening_by : List ℕ → List ℕ → List ℕ → List ℕ → Opening
opening_by queues leaving rates held = record {
  waits = λ l. slice_index queues l + slice_index leaving l;
  rate = λ l node. slice_index rates l;
  holds = slice_index held;
}

-- what link l, which ends at a node, discharges of its queue
abbrev pub link_goes : Net → List ℕ → List ℕ → List ℕ → List ℕ → ℕ → ℕ
link_goes net store held queues rates l =
    fitting (turns_at net l) (room_of store held) (min (slice_index rates l) (slice_index queues l))

-- what link l discharges, by the node where it ends; what leaves the network has left
abbrev pub discharge_of : Net → List ℕ → List ℕ → List ℕ → List ℕ → List ℕ → ℕ → Option ℕ → ℕ
discharge_of net store held queues leaving rates l None = slice_index leaving l
discharge_of net store held queues leaving rates l (Some node) = link_goes net store held queues rates l

-- an amount at a link, and nothing elsewhere
abbrev pub only_at : ℕ → ℕ → ℕ → ℕ
only_at l amount k = if k == l then amount else 0

-- there is a place for each link in the lists of storages, of what leaves, of the queues, of what enters, of what is held, and of
-- how much links may discharge
pub record HaveLinks (net : Net) (ss ls qs es hs vs : List ℕ) : Type 0 where
  pub store : length ss ≡ length net.link_names
  pub leaving : length ls ≡ length net.link_names
  pub queues : length qs ≡ length net.link_names
  pub entering : length es ≡ length net.link_names
  pub held : length hs ≡ length net.link_names
  pub rates : length vs ≡ length net.link_names

-- what waits on a link and what entered it in this second are on it, and no link holds more than its storage
pub record AreHeld (net : Net) (store queues entering held : List ℕ) : Type 0 where
  pub there : (l : ℕ) → l < length net.link_names → slice_index queues l + slice_index entering l ≤ slice_index held l
  pub within : (l : ℕ) → l < length net.link_names → slice_index held l ≤ slice_index store l

-- what leaves the network has left: a link that ends at no node has no queue, and no other one has left anything
pub record HaveLeft (net : Net) (queues leaving : List ℕ) : Type 0 where
  pub out : (l : ℕ) → l < length net.link_names → (link_at net l).to ≡ None → slice_index queues l ≡ 0
  pub stays : (l node : ℕ) → l < length net.link_names → (link_at net l).to ≡ Some node → slice_index leaving l ≡ 0

-- Link l has discharged: what it left its queue and what is on it, and its parts entered its exits. The lists of what leaves, of the
-- queues, of what enters and of what is held are given as they were and as they are.
pub record HasDischarged (net : Net) (store : List ℕ) (rates : List ℕ) (l : ℕ)
    (lv qs en hs leaving queues entering held : List ℕ) : Type 0 where
  pub links : HaveLinks net store leaving queues entering held rates
  pub are : AreHeld net store queues entering held
  pub here : slice_index leaving l ≡ discharge_of net store hs qs lv rates l (link_at net l).to
  pub others : (k : ℕ) → k ≢ l → slice_index leaving k ≡ slice_index lv k
  pub waits : (k : ℕ)
      → slice_index queues k + only_at l (inward (link_at net l).to (slice_index leaving l)) k ≡ slice_index qs k
  pub enters : (k : ℕ) → slice_index entering k ≡ slice_index en k + split_of (turns_at net l) (slice_index leaving l) k
  pub holds : (k : ℕ)
      → slice_index held k + only_at l (inward (link_at net l).to (slice_index leaving l)) k
      ≡ slice_index hs k + split_of (turns_at net l) (slice_index leaving l) k

-- what the first n links discharge, by what their queues, what leaves the network, and what is held were, and what of it enters a link
abbrev pub first_goes : Net → List ℕ → List ℕ → ℕ → List ℕ → List ℕ → List ℕ → List ℕ
first_goes net store rates n lv qs hs = all_goes net (slice_index store) (opening_by qs lv rates hs) n

abbrev pub first_given : Net → List ℕ → List ℕ → ℕ → List ℕ → List ℕ → List ℕ → ℕ → ℕ
first_given net store rates n lv qs hs l =
    total (λ k. split_of (turns_at net k) (slice_index (first_goes net store rates n lv qs hs) k) l) n

-- The first n links have discharged, one after another. The lists are given as they were and as they are.
pub record HaveDischarged (net : Net) (store : List ℕ) (rates : List ℕ) (n : ℕ)
    (lv qs en hs leaving queues entering held : List ℕ) : Type 0 where
  pub links : HaveLinks net store leaving queues entering held rates
  pub are : AreHeld net store queues entering held
  pub goes : (k : ℕ) → k < n → slice_index leaving k ≡ slice_index (first_goes net store rates n lv qs hs) k
  pub rest : (k : ℕ) → n ≤ k → slice_index leaving k ≡ slice_index lv k
  pub waits : (k : ℕ)
      → slice_index queues k + inward (link_at net k).to (slice_index (first_goes net store rates n lv qs hs) k)
      ≡ slice_index qs k
  pub enters : (k : ℕ) → slice_index entering k ≡ slice_index en k + first_given net store rates n lv qs hs k
  pub holds : (k : ℕ)
      → slice_index held k + inward (link_at net k).to (slice_index (first_goes net store rates n lv qs hs) k)
      ≡ slice_index hs k + first_given net store rates n lv qs hs k

-- what enters a link from outside: as much of what waits there and of what arrives as there is room for
abbrev pub comes_of : List ℕ → List ℕ → List ℕ → (ℕ → ℕ) → ℕ → ℕ
comes_of store held outside arriving l = min (slice_index outside l + arriving l) (room_of store held l)

-- a world by what is kept of its links
abbrev pub state_of : Links → ℕ → List Sign → List ℕ → Bool → SpillTotals → SpillState
state_of links second signs since walks totals = record {
  second = second;
  signs = signs;
  since = since;
  walks = walks;
  queues = links.queues.items;
  recent = links.recent.items;
  waits = links.waits.items;
  stood = links.stood.items;
  outside = links.outside.items;
  held = links.held.items;
  totals = totals;
}

-- A world of these links, at this second and with these totals, stands with some signs and greens. Of what is shown in this second it says
-- nothing.
pub record IsLookedAt (net : Net) (arriving : ℕ → ℕ → ℕ) (store : ℕ → ℕ) (shown : ℕ → ℕ → Sign) (links : Links)
    (second : ℕ) (walks : Bool) (totals : SpillTotals) : Type 0 where
  pub signs : List Sign
  pub since : List ℕ
  pub stands : Stands net arriving store shown (state_of links second signs since walks totals)

-- there is a place for each link in what a second needs
pub record HaveScratch (links : Links) : Type 0 where
  pub leaving : length links.leaving.items ≡ length links.queues.items
  pub entering : length links.entering.items ≡ length links.queues.items
  pub rates : length links.rates.items ≡ length links.queues.items

-- what is kept of n links at second 0
pub record AreEmpty (n : ℕ) (links : Links) : Type 0 where
  pub queues : links.queues.items ≡ replicate n 0
  pub recent : links.recent.items ≡ replicate (n * kept_seconds) 0
  pub waits : links.waits.items ≡ replicate (n * kept_seconds) 0
  pub stood : links.stood.items ≡ replicate n 0
  pub outside : links.outside.items ≡ replicate n 0
  pub held : links.held.items ≡ replicate n 0
  pub scratch : HaveScratch links
