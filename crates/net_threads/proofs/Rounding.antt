-- A round of all nodes, from its begin to its end.
use Rattle.std.proofs.Common.{◌≡◌, ℕ, ◌<◌, List, All, Result, Ok, Err, OnOk, IsOk, length, get_or, refl, sym, subst, ◌∙◌, arith}
use Rattle.std.proofs.lemmas.Bool.{false≢true}
use Rattle.std.proofs.lemmas.List.{get_or-map, length-map}
use Rattle.link_boards.specs.Passes.{BoardsView, PassView}
use Rattle.intersection_actor.specs.Acting.{Acting}
use Rattle.net_parts.specs.Numbers.{Net}
use Rattle.net_simulator.specs.Worlds.{WorldState}
use Rattle.node_rounds.specs.Nodes.{CanGoOn, CanPlay, HasPlayed, HasPlayedOn}
use Rattle.node_rounds.specs.Rounds.{CanAllPlay, HaveAllPlayed}
use Rattle.task_pool.specs.Batch.{AreDone}
use Rattle.net_threads.specs.Tasks.{AreEach, AreTasksOf, CanBeginTask, CanPlayTask, HasBegunTask, HasEnded, HasPlayedRound, HasPlayedTask, actor_of, actors_in, pass_of, passes_in}
use Rattle.net_threads.specs.declared.node_tasks.NodeTask.{NodeTask}
use Rattle.net_threads.proofs.TaskLists.{setting_of, some-of}

pub on-ok : {X E : Type 0} (r : Result X E) (A : Type 0) → OnOk r A → IsOk r → A
on-ok (Ok x) A a ok = a
on-ok (Err e) A a bad = absurd (false≢true bad)

pub ok-map : {X E : Type 0} (r : Result X E) (A B : Type 0) → (IsOk r → A → B) → OnOk r A → OnOk r B
ok-map (Ok x) A B f a = f refl a
ok-map (Err e) A B f a = tt

module _ {P S G Ready : Type 0} where
  -- tasks that came back, and ended well
  pub all-ended : (old new : List (NodeTask P S G Ready)) → AreDone HasPlayedTask old new → All (λ (t : NodeTask P S G Ready). IsOk t.ended) new → AreEach HasEnded old new
  all-ended old new done well = record {
    count = done.count;
    each = λ k s t inside. on-ok (get_or new k t).ended _ (done.each k s t inside).played (well k t (omega (arith, done.count, inside)));
  }

  -- a node that has begun may go on
  pub may-go-on : (round : ℕ) (world : WorldState) (o m : NodeTask P S G Ready) → o.setting.boards.now.links ≡ length o.setting.net.now.link_names → CanBeginTask round world o → HasBegunTask round world o m → CanPlayTask m
  may-go-on round world o m links can has = record {
    links = subst (λ (z : Net × BoardsView). z.1.links ≡ length z.0.link_names) (λ i. ((sym has.same.net i).now, (sym has.same.boards i).now)) links;
    can = subst (λ (z : Net × BoardsView × ℕ × PassView). CanGoOn z.0 z.2 z.1 (actor_of m) z.3) (λ i. ((sym has.same.net i).now, (sym has.same.boards i).now, sym has.round_is i, sym has.pass i))
        (record { world = world; rested = actor_of o; can = can; begins = has.begun; of = has.of });
  }

  -- a node that has begun and ended a round has played it
  pub has-played : (round : ℕ) (world : WorldState) (o m n : NodeTask P S G Ready) → CanBeginTask round world o → HasBegunTask round world o m → HasEnded m n → HasPlayedRound round world o n
  has-played round world o m n can has ended =
      let on : HasPlayedOn o.setting.net.now round o.setting.boards.now (actor_of m) (actor_of n) (pass_of o) (pass_of n) =
      subst (λ (z : Net × BoardsView × ℕ × PassView). HasPlayedOn z.0 z.2 z.1 (actor_of m) (actor_of n) z.3 (pass_of n)) (λ i. ((has.same.net i).now, (has.same.boards i).now, has.round_is i, has.pass i)) ended in
      on world (actor_of o) can has.begun

  -- the place of a task, as its setting
  setting-at : (net : Net) (boards : BoardsView) (tasks : List (NodeTask P S G Ready)) (k : ℕ) (d : NodeTask P S G Ready) → AreTasksOf net boards tasks → k < length tasks → ((get_or tasks k d).setting.net.now ≡ net) × ((get_or tasks k d).setting.boards.now ≡ boards)
  setting-at net boards tasks k d of inside =
      subst (λ (s : Net × BoardsView). (s.0 ≡ net) × (s.1 ≡ boards)) (get_or-map setting_of tasks k d (setting_of d) inside) (of k (setting_of d) (omega (arith, length-map tasks setting_of)))

  -- what all nodes need to play, and have done, as of their tasks
  pub can-begin : (net : Net) (boards : BoardsView) (round count : ℕ) (world : WorldState) (tasks : List (NodeTask P S G Ready)) → AreTasksOf net boards tasks → CanAllPlay net round world boards count (actors_in tasks) (passes_in tasks) → All (CanBeginTask round world) tasks
  can-begin net boards round count world tasks of can k d inside =
      let s = setting-at net boards tasks k d of inside in
      subst (λ (z : Net × BoardsView × Acting × PassView). CanPlay z.0 round world z.1 z.2 z.3)
      (λ i. (sym s.0 i, sym s.1 i, get_or-map actor_of tasks k d (actor_of d) inside i, get_or-map pass_of tasks k d (pass_of d) inside i))
      (can.each k (actor_of d) (pass_of d) (omega (arith, length-map tasks pass_of)))

  pub all-links : (net : Net) (boards : BoardsView) (tasks : List (NodeTask P S G Ready)) → AreTasksOf net boards tasks → boards.links ≡ length net.link_names → All (λ (t : NodeTask P S G Ready). t.setting.boards.now.links ≡ length t.setting.net.now.link_names) tasks
  all-links net boards tasks of links k d inside =
      let s = setting-at net boards tasks k d of inside in
      subst (λ (z : Net × BoardsView). z.1.links ≡ length z.0.link_names) (λ i. (sym s.0 i, sym s.1 i)) links

  pub all-played : (net : Net) (boards : BoardsView) (round : ℕ) (world : WorldState) (old new : List (NodeTask P S G Ready)) → AreTasksOf net boards old → AreEach (HasPlayedRound round world) old new
      → HaveAllPlayed net round world (actors_in old) (actors_in new) (passes_in old) (passes_in new)
  all-played net boards round world old new of each = record {
    actors = length-map new actor_of ∙ each.count ∙ sym (length-map old actor_of);
    passes = length-map new pass_of ∙ each.count ∙ sym (length-map old pass_of);
    each = λ k a p within.
        let inside : k < length old = omega (arith, length-map old pass_of) in
        let there : k < length new = omega (arith, each.count) in
        let s = some-of old k inside in
        subst (λ (z : Net × (Acting × Acting) × PassView × PassView). HasPlayed z.0 round world z.1.0 z.1.1 z.2 z.3) (λ i. (
          (setting-at net boards old k s of inside).0 i,
          (sym (get_or-map actor_of old k s a inside) i, sym (get_or-map actor_of new k s a there) i),
          sym (get_or-map pass_of old k s p inside) i,
          sym (get_or-map pass_of new k s p there) i,
        )) (each.each k s s inside);
  }

  -- the rounds of all nodes, from their begins and ends
  pub each-played : (round : ℕ) (world : WorldState) (old mid new : List (NodeTask P S G Ready)) → All (CanBeginTask round world) old → AreEach (HasBegunTask round world) old mid → AreEach HasEnded mid new → AreEach (HasPlayedRound round world) old new
  each-played round world old mid new can begun ended = record {
    count = ended.count ∙ begun.count;
    each = λ k s t inside. let m = some-of mid k (omega (arith, begun.count, inside)) in
        has-played round world (get_or old k s) (get_or mid k m) (get_or new k t) (can k s inside) (begun.each k s m inside) (ended.each k m t (omega (arith, begun.count, inside)));
  }
