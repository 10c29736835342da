use Rattle.std.proofs.Common.{◌≡◌, ◌+◌, ◌≤◌, ◌++◌, List, All, length, map, vec_capacity, vec_len, refl, sym, ap, subst, ◌∙◌}
use Rattle.link_boards.specs.Passes.{BoardsView, PassView, highest}
use Rattle.intersection_actor.specs.Acting.{Acting, without_records}
use Rattle.net_parts.specs.declared.drafts.Run.{Run}
use Rattle.net_parts.specs.Numbers.{Net}
use Rattle.arrivals.specs.Amounts.{arriving_of}
use Rattle.net_simulator.specs.Worlds.{Stands, signs_by}
use Rattle.runs.specs.Ending.{records_in}
use Rattle.runs.specs.Resting.{lines_of}
use Rattle.node_rounds.specs.Rounds.{Between, names}
use Rattle.node_rounds.proofs.Passes.{all-boards, own-same, raised-names}
use Rattle.node_rounds.proofs.Rounding.{can-play, over-before, plans-room, round-over}
use Rattle.net_threads.specs.Tasks.{actors_in, passes_in, settings_in}
use Rattle.net_threads.proofs.Rounding.{all-links, all-played, can-begin}
use Rattle.net_threads.proofs.rounds.Rounds.play_round.Goals as goal

pub play-requires-clause-can : goal.play-requires-clause-can
play-requires-clause-can g c κs within =
    let r = c.args.self.now in
    let at = c.requires.at in
    let tasks = r.nodes.all.items in
    can-begin r.net.now r.boards.now c.args.round (length (actors_in tasks)) r.world tasks at.tasks
    (can-play r.net.now c.run-step.ensures.network r.arrivals.now c.args.round r.boards.now (passes_in tasks) (actors_in tasks) r.world r.plans at.between c.requires.round at.arrivals (length (actors_in tasks)) at.between.all)

pub play-requires-clause-links : goal.play-requires-clause-links
play-requires-clause-links g c κs within =
    let r = c.args.self.now in
    all-links r.net.now r.boards.now r.nodes.all.items c.requires.at.tasks c.requires.at.links

pub meet-requires-clause-boards : goal.meet-requires-clause-boards
meet-requires-clause-boards g c =
    let r = c.args.self.now in
    all-boards r.boards.now (passes_in c.play.new.self.all.items) (own-same r.boards.now (passes_in r.nodes.all.items) (passes_in c.play.new.self.all.items) c.in_ok-play.ensures.same c.requires.at.between.own.own)

pub move_world-requires-clause-stands : goal.move_world-requires-clause-stands
move_world-requires-clause-stands g c =
    let r = c.args.self.now in
    subst (λ (l : List Acting). Stands r.net.now (arriving_of r.arrivals.now) (signs_by (lines_of l)) r.world) (sym c.meet.ensures.actors)
    (over-before r.net.now c.run-step.ensures.network r.arrivals.now c.args.round r.boards.now (passes_in r.nodes.all.items) (actors_in r.nodes.all.items) r.world r.plans c.requires.at.between c.requires.round
    (actors_in c.play.new.self.all.items) (passes_in c.play.new.self.all.items) (all-played r.net.now r.boards.now c.args.round r.world r.nodes.all.items c.play.new.self.all.items c.requires.at.tasks c.in_ok-play.ensures.played))

pub move_records-requires : goal.move_records-requires
move_records-requires g c =
    let r = c.args.self.now in
    subst (λ (l : List Acting). vec_len r.plans + length (records_in l) ≤ vec_capacity r.plans) (sym c.meet.ensures.actors)
    (plans-room r.net.now c.run-step.ensures.network r.arrivals.now c.args.round r.boards.now (passes_in r.nodes.all.items) (actors_in r.nodes.all.items) r.world r.plans c.requires.at.between c.requires.round
    (actors_in c.play.new.self.all.items) (passes_in c.play.new.self.all.items) (all-played r.net.now r.boards.now c.args.round r.world r.nodes.all.items c.play.new.self.all.items c.requires.at.tasks c.in_ok-play.ensures.played))

pub returns-clause-same : goal.returns-clause-same
returns-clause-same g c = record {
  net = refl;
  arrivals = refl;
  boards = refl;
  passes = ap names (c.move_records.ensures.passes ∙ c.meet.ensures.met) ∙ raised-names (highest (passes_in c.play.new.self.all.items)) (passes_in c.play.new.self.all.items) ∙ c.in_ok-play.ensures.same;
}

pub returns-clause-at : goal.returns-clause-at
returns-clause-at g c =
    let r = c.args.self.now in
    let at = c.requires.at in
    let old = r.nodes.all.items in
    let new = c.play.new.self.all.items in
    let net = r.net.now in
    let world = c.move_world.new.world in
    let played = all-played net r.boards.now c.args.round r.world old new at.tasks c.in_ok-play.ensures.played in
    let stands : Stands net (arriving_of r.arrivals.now) (signs_by (lines_of (actors_in new))) world =
    subst (λ (l : List Acting). Stands net (arriving_of r.arrivals.now) (signs_by (lines_of l)) world) c.meet.ensures.actors c.move_world.ensures.stands in
    let added = c.move_records.ensures.plans ∙ ap (λ (l : List Acting). r.plans.items ++ records_in l) c.meet.ensures.actors in
    let over = round-over net c.run-step.ensures.network r.arrivals.now c.args.round r.boards.now (passes_in old) (actors_in old) r.world r.plans at.between c.requires.round (actors_in new) (passes_in new) played
    c.in_ok-play.ensures.same world c.move_records.new.plans (c.move_world.ensures.second ∙ ap (λ (x : Run). r.world.second + x.step) c.run-step.ensures.value) stands added c.move_records.ensures.capacity in
    let all : settings_in c.move_records.new.self.all.items ≡ settings_in old = c.move_records.ensures.settings ∙ c.meet.ensures.settings ∙ c.in_ok-play.ensures.settings in
    record {
      arrivals = at.arrivals;
      links = at.links;
      tasks = subst (λ (l : List (Net × BoardsView)). All (λ (s : Net × BoardsView). (s.0 ≡ net) × (s.1 ≡ r.boards.now)) l) (sym all) at.tasks;
      between = subst (λ (z : List PassView × List Acting). Between net r.arrivals.now r.boards.now (c.args.round + 1) z.0 z.1 world c.move_records.new.plans)
          (λ i. (sym (c.move_records.ensures.passes ∙ c.meet.ensures.met) i, sym (c.move_records.ensures.actors ∙ ap (map without_records) c.meet.ensures.actors) i)) over;
    }
