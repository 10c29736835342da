-- What one node does: it begins a round, reads, and publishes; and it commits as soon as it has read all. No public clause names
-- this.
use Rattle.std.specs.Prelude.{◌≡◌, ◌⊎◌}
use Rattle.intersection_actor.specs.Acting.{Acting, resting, wanting}
use Rattle.intersection_actor.specs.Rounds.{IsCommitted, KeepsPast}
use Rattle.intersection_actor.specs.declared.records.Want.{Want}
use Rattle.intersection_actor.specs.declared.records.Want.TheVariants.{Read, Commit, Publish, Done}
use Rattle.net_parts.specs.Numbers.{Net}

-- a node that wants this commits at once where it has read all, and else stays as it is
abbrev pub Settles : Net → Want → Acting → Acting → Type 0
Settles net (Read link) old new = new ≡ old
Settles net Commit old new = IsCommitted net old new × KeepsPast net old new
Settles net (Publish link) old new = new ≡ old
Settles net Done old new = new ≡ old

-- a node has published, and wants this next; where that is nothing, it may rest
abbrev pub HasTold : Want → Acting → Acting → Type 0
HasTold want old new = (new ≡ wanting want old) ⊎ ((want ≡ Done) × (new ≡ resting (wanting want old)))
