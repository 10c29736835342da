-- What the steps of a run need of where it stands.
use Rattle.std.proofs.Common.{◌≡◌, ℕ, ◌+◌, ◌-◌, ◌*◌, ◌<◌, ◌≤◌, true, List, [], ◌∷◌, ◌++◌, Result, Ok, Err, OnOk, All, length, map, get_or, set, drop, refl, sym, ap, subst, ◌∙◌, inl, inr, arith, eq-eqb}
use Rattle.std.proofs.lemmas.Bool.{cases_lt}
use Rattle.std.proofs.lemmas.List.{get_or_default}
use Rattle.std.proofs.lemmas.Result.{on_ok_weaker}
use Rattle.arrivals.specs.Amounts.{Amounts, AreArrivals, arriving_of}
use Rattle.clusters.specs.Windows.{counts_of}
use Rattle.control_flow.specs.declared.greens.Green.{Green}
use Rattle.histories.specs.Histories.{count, step_at}
use Rattle.histories.specs.Steps.{board_steps, is_publish_of}
use Rattle.histories.proofs.StepLaws.{step-count}
use Rattle.intersection_actor.specs.Acting.{Acting, begun, reading, tells_from, with_heard, without_records}
use Rattle.intersection_actor.specs.Rounds.{IsOf}
use Rattle.intersection_actor.specs.declared.records.PlanRecord.{PlanRecord}
use Rattle.intersection_actor.specs.declared.records.Want.{Want}
use Rattle.intersection_actor.specs.declared.records.Want.TheVariants.{Read, Commit, Publish, Done}
use Rattle.net_parts.proofs.OutlineLaws.{run-over}
use Rattle.net_parts.specs.Limits.{most_rounds, most_seconds}
use Rattle.net_parts.specs.Numbers.{Net}
use Rattle.net_simulator.specs.Flow.{cumulative_under}
use Rattle.net_simulator.specs.Senses.{sense}
use Rattle.net_simulator.specs.Worlds.{IsWorldOf, WorldState, Stands, signs_by}
use Rattle.outflow.specs.Outflow.{departures, told_forecast}
use Rattle.road_net.specs.Network.{IsNetwork, heard_links, told_links}
use Rattle.schedule_meaning.specs.Best.{IsLeast}
use Rattle.runs.specs.Runs.{line_before}
use Rattle.runs.proofs.Heard.{heard-ends}
use Rattle.runs.specs.Ending.{records_in}
use Rattle.runs.specs.Resting.{Rests, lines_of}
use Rattle.runs.proofs.Resting.{no_acting}
use Rattle.net_core.specs.Acts.{HasTold, Settles}
use Rattle.net_core.specs.States.{AllDone, AreBeginning, AreInRound, Begins, Between, InRound, Plays, Wants, telling_first}
use Rattle.net_core.specs.declared.parts.Board.{Board}
use Rattle.net_core.specs.declared.parts.Parts.{Parts}
use Rattle.net_core.proofs.Playing.{told-ends}
use Rattle.net_core.proofs.Prefixes.{now-published, own-step}
use Rattle.net_core.proofs.Rounds.{begin-stands, begin-world, begins-more}
use Rattle.net_core.proofs.Steps.{over-before, over-least, over-records, read-next, reading-next, round-over, tell-next, telling-next, telling-none, told-step, way}

-- an element, whatever the default
pub at-any : {X : Type 0} (xs : List X) (n : ℕ) (x : X) → n < length xs → x ≡ get_or xs n x → (d : X) → get_or xs n d ≡ x
at-any xs n x inside is d = get_or_default xs n d x inside ∙ sym is

on-three : {E A B C D : Type 0} (r : Result (Unit {0}) E) → (A → B → C → D) → OnOk r A → OnOk r B → OnOk r C → OnOk r D
on-three (Ok u) f a b c = f a b c
on-three (Err e) f a b c = tt

-- a node that tells neither reads nor commits
not-read : (l : ℕ) (L : List ℕ) → telling_first L ≡ Read l → ⊥
not-read l [] e = cc
not-read l (k ∷ L) e = cc

not-commit : (L : List ℕ) → telling_first L ≡ Commit → ⊥
not-commit [] e = cc
not-commit (k ∷ L) e = cc

module _ (net : Net) (network : IsNetwork net) (arrivals : Amounts) (h : List ℕ) (plans : List PlanRecord) (p : Parts) where
  -- a node begins the round
  module _ (node : ℕ) (inside : node < length net.node_names) (b : AreBeginning net arrivals h plans p node) where
    pub begin-there : node < length p.actors.all.items
    begin-there = omega (arith, b.all)

    pub rests-at : (old : Acting) → old ≡ get_or p.actors.all.items node old → Rests net b.made p.round node old
    rests-at old is = subst (Rests net b.made p.round node) (sym is) (b.rests node old (omega arith) inside)

    pub world-at : AreArrivals net arrivals → IsWorldOf net p.world
    world-at enter = begin-world net network arrivals h p.round p.boards.items p.world plans p.actors.all.items node inside b enter

    pub on-begun : {E : Type 0} (r : Result (Unit {0}) E) (old new : Acting) → old ≡ get_or p.actors.all.items node old → IsOf net new
        → ((arriving : ℕ → ℕ → ℕ) (lines : ℕ → List Green) → Stands net arriving (signs_by lines) p.world
        → OnOk r (Settles net (reading (heard_links net old.node)) (begun net p.round (sense net (cumulative_under net arriving (signs_by lines) p.world.second) p.world.second node) old) new))
        → OnOk r (Begins net arrivals h p.round (set p.actors.all.items node new) p.boards.items p.world plans (node + 1))
    on-begun r old new is of_new settles =
        on_ok_weaker r (begins-more net network arrivals h p.round p.boards.items p.world plans p.actors.all.items node inside b old new (at-any p.actors.all.items node old begin-there is) of_new)
        (settles (arriving_of arrivals) (line_before net b.made p.round) (begin-stands net network arrivals h p.round p.boards.items p.world plans p.actors.all.items node inside b))

  module _ (i : AreInRound net arrivals h plans p) where
    -- the round ends
    module _ (done : AllDone p.actors.all.items) where
      pub end-stands : Stands net (arriving_of arrivals) (signs_by (lines_of p.actors.all.items)) p.world
      end-stands = over-before net network arrivals h p.round p.actors.all.items p.boards.items p.world plans i done no_acting

      pub end-records : length (records_in p.actors.all.items) ≡ length net.node_names
      end-records = over-records net network arrivals h p.round p.actors.all.items p.boards.items p.world plans i done

      pub end-least : All (λ (q : PlanRecord). IsLeast q.instance q.answer) (records_in p.actors.all.items)
      end-least = over-least net network arrivals h p.round p.actors.all.items p.boards.items p.world plans i done no_acting

      pub end-between : (moved : WorldState) (rested : List Acting) → moved.second ≡ p.world.second + net.run.step → Stands net (arriving_of arrivals) (signs_by (lines_of p.actors.all.items)) moved
          → rested ≡ map without_records p.actors.all.items → Between net arrivals h (p.round + 1) rested p.boards.items moved (plans ++ records_in p.actors.all.items)
      end-between moved rested second stands rests =
          subst (λ (z : List Acting). Between net arrivals h (p.round + 1) z p.boards.items moved (plans ++ records_in p.actors.all.items)) (sym rests)
          (round-over net network arrivals h p.round p.actors.all.items p.boards.items p.world plans i done moved no_acting second stands)

    pub end-room : p.world.second + net.run.step ≤ most_seconds
    end-room = (let over = run-over net.run network.outline.run p.round i.below in omega (arith, over, i.running.second))

    pub few-rounds : p.round + 1 ≤ most_rounds
    few-rounds = (let less = i.below in let few = network.outline.run.rounds.1 in omega arith)

    -- a node does its next step
    module _ (n : ℕ) (below : n < length net.node_names) where
      abbrev c : ℕ
      c = count n i.part

      pub actor-there : n < length p.actors.all.items
      actor-there = omega (arith, i.all)

      pub plays-at : (old : Acting) → old ≡ get_or p.actors.all.items n old → Plays net arrivals i.heard i.made p.round c n old
      plays-at old is = subst (Plays net arrivals i.heard i.made p.round c n) (sym is) (i.plays n old below)

      pub want-at : (want : Want) → Wants p n want → (old : Acting) → old ≡ get_or p.actors.all.items n old → old.want ≡ want
      want-at want wants old is = ap (λ (a : Acting). a.want) is ∙ wants old

      pub wants-this : (old : Acting) → old ≡ get_or p.actors.all.items n old → Wants p n old.want
      wants-this old is d = ap (λ (a : Acting). a.want) (at-any p.actors.all.items n old actor-there is d)

      -- it is not about to commit
      pub no-commit : (old : Acting) → old ≡ get_or p.actors.all.items n old → old.want ≡ Commit → ⊥
      no-commit old is want = elim (plays-at old is).stage [
        | inl x ↦ (let e : Read (get_or (heard_links net n) c 0) ≡ Commit = sym (reading-next (heard_links net n) c x.more) ∙ sym x.listens.want ∙ want in cc)
        | inr x ↦ not-commit (drop (c - length (heard_links net n)) (told_links net n)) (sym x.want ∙ want)
      ]

      pub read-there : (link : ℕ) → Wants p n (Read link) → link < length p.boards.items
      read-there link wants = elim (i.plays n no_acting below).stage [
        | inr x ↦ absurd (not-read link (drop (c - length (heard_links net n)) (told_links net n)) (sym x.want ∙ wants no_acting))
        | inl x ↦
            let e : Read (get_or (heard_links net n) c 0) ≡ Read link = sym (reading-next (heard_links net n) c x.more) ∙ sym x.listens.want ∙ wants no_acting in
            let same : get_or (heard_links net n) c 0 ≡ link = cc in
            let there = (heard-ends net n c network x.more).exists in
            omega (arith, same, there, network.outline.road_count, i.running.boards_are.all)
      ]

      pub on-read : {E : Type 0} (r : Result (Unit {0}) E) (link : ℕ) (b : Board) (old new : Acting) → Wants p n (Read link) → b ≡ get_or p.boards.items link b → old ≡ get_or p.actors.all.items n old → IsOf net new
          → OnOk r (Settles net (with_heard (record { link = link; version = b.version; forecast = b.forecast }) old).want (with_heard (record { link = link; version = b.version; forecast = b.forecast }) old) new)
          → OnOk r (InRound net arrivals (h ++ n ∷ []) p.round (set p.actors.all.items n new) p.boards.items p.world plans)
      on-read r link b old new wants board is of_new settles =
          on_ok_weaker r (read-next net network arrivals h p.round p.actors.all.items p.boards.items p.world plans i n below old (at-any p.actors.all.items n old actor-there is) link b new (want-at (Read link) wants old is)
          (at-any p.boards.items link b (read-there link wants) board) of_new) settles

      -- it publishes the version of the round
      pub tell-there : (link : ℕ) → Wants p n (Publish link) → (link < length p.boards.items) × ((b : Board) → b ≡ get_or p.boards.items link b → b.version ≤ most_rounds)
      tell-there link wants = elim (i.plays n no_acting below).stage [
        | inl x ↦ absurd (let e : Read (get_or (heard_links net n) c 0) ≡ Publish link = sym (reading-next (heard_links net n) c x.more) ∙ sym x.listens.want ∙ wants no_acting in cc)
        | inr x ↦ elim (cases_lt (c - length (heard_links net n)) (length (told_links net n))) [
          | inr past ↦ absurd (let e : Done ≡ Publish link = sym (telling-none (told_links net n) (c - length (heard_links net n)) past) ∙ sym x.want ∙ wants no_acting in cc)
          | inl inside ↦
              let k : ℕ = c - length (heard_links net n) in
              let L : ℕ = get_or (told_links net n) k 0 in
              let e : Publish L ≡ Publish link = sym (telling-next (told_links net n) k inside) ∙ sym x.want ∙ wants no_acting in
              let same : L ≡ link = cc in
              let ends = told-ends net n k inside in
              let there = ends.exists in
              let enough : length (heard_links net n) ≤ c = x.enough in
              let small : c < length (board_steps net n) = omega (arith, step-count net n) in
              let at : (b : Board) → b ≡ get_or p.boards.items L b → b.version ≤ most_rounds = λ b is.
              let told : is_publish_of L (step_at (board_steps net) (h ++ n ∷ []) (length h)) ≡ true = ap (is_publish_of L) (own-step net network h p.round (way net network arrivals h p.round p.actors.all.items p.boards.items p.world plans i) n c refl small ∙ told-step net n c enough inside) ∙ eq-eqb L L refl in
              let version = ap (λ (y : Board). y.version) is ∙ i.running.boards_are.versions L n ends.hearer b ends.from ends.to in
              let now = now-published net network h p.round (way net network arrivals h p.round p.actors.all.items p.boards.items p.world plans i) L n ends.hearer c ends.from ends.to refl small told in
              omega (arith, version, now, few-rounds) in
              (omega (arith, same, there, network.outline.road_count, i.running.boards_are.all), subst (λ l. (b : Board) → b ≡ get_or p.boards.items l b → b.version ≤ most_rounds) same at)
        ]
      ]

      pub on-told : {E : Type 0} (r : Result (Unit {0}) E) (link : ℕ) (b nb : Board) (old new : Acting) → Wants p n (Publish link) → b ≡ get_or p.boards.items link b → old ≡ get_or p.actors.all.items n old → IsOf net new
          → OnOk r (HasTold (tells_from net old.node (link + 1)) old new) → OnOk r (nb.version ≡ b.version + 1)
          → OnOk r (nb.forecast ≡ told_forecast net link old.sensed.now (departures old.window.lists (counts_of old.window.lists) old.phases old.served))
          → OnOk r (InRound net arrivals (h ++ n ∷ []) p.round (set p.actors.all.items n new) (set p.boards.items link nb) p.world plans)
      on-told r link b nb old new wants board is of_new told version forecast =
          on-three r (tell-next net network arrivals h p.round p.actors.all.items p.boards.items p.world plans i n below old (at-any p.actors.all.items n old actor-there is) link b nb new (want-at (Publish link) wants old is)
          (at-any p.boards.items link b (tell-there link wants).0 board) of_new) told version forecast
