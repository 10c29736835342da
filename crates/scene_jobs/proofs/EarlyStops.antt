-- Why the network or the arrivals could not be had is why they and a third text could not.
use Rattle.std.proofs.Common.{ℕ, List}
use Rattle.outside_world.specs.Shelf.{Files, GainsLast, ShelfState}
use Rattle.net_parts.specs.Numbers.{Net}
use Rattle.commands.specs.Kinds.{Kind}
use Rattle.commands.specs.Stops.{StopsIn}
use Rattle.commands.specs.Texts.{At, IsBad}
use Rattle.commands.specs.declared.refusals.TextPlace.{TextPlace}
use Rattle.commands.specs.declared.refusals.TextPlace.TheVariants.{First, Second, Third}
use Rattle.commands.specs.declared.refusals.Refusal.{Refusal}
use Rattle.commands.specs.declared.refusals.Refusal.TheVariants as refusal
use Rattle.scene_jobs.specs.Kinds.{ArrivalsText}
use Rattle.scene_jobs.specs.Meanings.{three_texts, two_texts}

-- a place among the first two texts is one among all three
among_three : (here : Kind → List ℕ → Type 0) (kind : Net → Kind) (files : Files) (net arr third : List ℕ) (place : TextPlace) → At here files (two_texts ArrivalsText net arr) place → At here files (three_texts kind net arr third) place
among_three here kind files net arr third First at = at
among_three here kind files net arr third Second at = at
among_three here kind files net arr third Third at = absurd at.2.2

pub early_stops : (kind : Net → Kind) (old new : ShelfState) (net arr third : List ℕ) (why : Refusal) → StopsIn (two_texts ArrivalsText net arr) old new why → StopsIn (three_texts kind net arr third) old new why
early_stops kind old new net arr third (refusal.Bad place code) stop = (stop.0, among_three (IsBad old.files code.items) kind old.files net arr third place stop.1)
early_stops kind old new net arr third (refusal.Unread place) stop = (stop.0, among_three (λ kind name. GainsLast old.failed new.failed name) kind old.files net arr third place stop.1)
early_stops kind old new net arr third refusal.NoMemory stop = stop
early_stops kind old new net arr third refusal.Usage stop = stop
early_stops kind old new net arr third (refusal.Missing what) stop = stop
early_stops kind old new net arr third refusal.Unwritten stop = stop
