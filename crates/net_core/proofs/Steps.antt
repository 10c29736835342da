-- A node does its next board step, and a round ends.
use Rattle.std.proofs.Common.{◌≡◌, ℕ, suc, ◌+◌, ◌-◌, ◌*◌, ◌<◌, ◌≤◌, Bool, true, false, List, [], ◌∷◌, ◌++◌, All, length, map, drop, get_or, set, refl, sym, ap, subst, ◌∙◌, inl, inr, arith, append_assoc, length-set, get_or-set_same, get_or-set_other}
use Rattle.std.proofs.lemmas.Bool.{cases_eq, cases_lt}
use Rattle.std.proofs.lemmas.List.{drop_all, drop_more, get_or-append_right, get_or-map, length-map, length-drop}
use Rattle.arrivals.specs.Amounts.{Amounts, arriving_of}
use Rattle.board_model.specs.declared.boards.Heard.{Heard}
use Rattle.board_model.specs.declared.forecasts.Row.{Row}
use Rattle.clusters.specs.Windows.{counts_of}
use Rattle.clusters.specs.declared.vehicle_groups.Window.{Window}
use Rattle.control_flow.specs.Signs.{sign_at}
use Rattle.control_flow.specs.declared.greens.Green.{Green}
use Rattle.histories.specs.Histories.{count, HasRounds, IsRound, version_at}
use Rattle.histories.specs.Steps.{board_steps}
use Rattle.histories.specs.declared.steps.BoardStep.TheVariants as steps
use Rattle.histories.proofs.Counts.{count-append, count-else, count-one}
use Rattle.histories.proofs.StepLaws.{step-count, steps-beyond}
use Rattle.intersection_actor.specs.Acting.{Acting, reading, tells_from, with_heard, without_records}
use Rattle.intersection_actor.specs.Commits.{Commitment, phases_of, record_of}
use Rattle.intersection_actor.specs.Rounds.{IsCommitted, IsOf}
use Rattle.intersection_actor.specs.declared.records.Want.{Want}
use Rattle.intersection_actor.specs.declared.records.Want.TheVariants.{Read, Commit, Publish, Done}
use Rattle.intersection_actor.specs.declared.records.PlanRecord.{PlanRecord}
use Rattle.net_parts.specs.Numbers.{Net}
use Rattle.net_simulator.specs.Worlds.{WorldState, Stands, signs_by}
use Rattle.outflow.specs.Outflow.{departures, told_forecast}
use Rattle.road_net.specs.Network.{IsNetwork, heard_links, told_links}
use Rattle.schedule_meaning.specs.Best.{IsLeast}
use Rattle.switch_rules.specs.declared.Served.{Served}
use Rattle.runs.specs.Runs.{AllCommit, Commits, forecast_at, hearing, line_before, shown_by, told_in}
use Rattle.runs.proofs.Agree.{SameBefore}
use Rattle.runs.proofs.Heard.{heard-ends}
use Rattle.runs.proofs.Places.{first-small}
use Rattle.runs.proofs.PlanLaws.{round-least}
use Rattle.runs.proofs.PlanLists.{plans-more, plans-of-round, round-plans}
use Rattle.runs.specs.Ending.{records_in}
use Rattle.runs.specs.Resting.{Rests, lines_of}
use Rattle.intersection_actor.proofs.RoundLaws.{of-without}
use Rattle.runs.proofs.Resting.{before-shows}
use Rattle.net_simulator.proofs.AtNodes.{stands-at-nodes}
use Rattle.net_core.specs.Acts.{HasTold, Settles}
use Rattle.net_core.specs.States.{AllDone, Between, Hears, InRound, IsRunning, Listens, Plays, Tells, telling_first}
use Rattle.net_core.specs.declared.parts.Board.{Board}
use Rattle.net_core.proofs.Playing.{commits-on, listens-on, plays-moved, tells-on, told-node, told-ends, took}
use Rattle.net_core.proofs.Prefixes.{Begun}
use Rattle.net_core.proofs.Put.{put, put-node, put-round}
use Rattle.net_core.proofs.Running.{commit-on, read-on, tell-on}

-- what wants are
is_read : Want → Bool
is_read (Read l) = true
is_read Commit = false
is_read (Publish l) = false
is_read Done = false

is_publish : Want → Bool
is_publish (Read l) = false
is_publish Commit = false
is_publish (Publish l) = true
is_publish Done = false

link_in : Want → ℕ
link_in (Read l) = l
link_in Commit = 0
link_in (Publish l) = l
link_in Done = 0

-- what is heard of a link
abbrev heard_of : ℕ → ℕ → List Row → Heard
heard_of k v f = record { link = k; version = v; forecast = f }

apart : true ≡ false → ⊥
apart e = cc

-- with links left to read a node wants to read the next
pub reading-next : (L : List ℕ) (c : ℕ) → c < length L → reading (drop c L) ≡ Read (get_or L c 0)
reading-next L c inside = ap reading (drop_more L c 0 inside)

pub telling-next : (L : List ℕ) (c : ℕ) → c < length L → telling_first (drop c L) ≡ Publish (get_or L c 0)
telling-next L c inside = ap telling_first (drop_more L c 0 inside)

pub telling-none : (L : List ℕ) (c : ℕ) → length L ≤ c → telling_first (drop c L) ≡ Done
telling-none L c past = ap telling_first (drop_all c L past)

-- the steps after the readings publish
pub told-step : (net : Net) (n c : ℕ) → length (heard_links net n) ≤ c → c - length (heard_links net n) < length (told_links net n) → get_or (board_steps net n) c (steps.Read 0) ≡ steps.Publish (get_or (told_links net n) (c - length (heard_links net n)) 0)
told-step net n c past inside =
    let reads : length (map steps.Read (heard_links net n)) ≡ length (heard_links net n) = length-map (heard_links net n) steps.Read in
    get_or-append_right (map steps.Read (heard_links net n)) (map steps.Publish (told_links net n)) (length (heard_links net n)) c (steps.Read 0) reads past
    ∙ get_or-map steps.Publish (told_links net n) (c - length (heard_links net n)) 0 (steps.Read 0) inside

module _ (net : Net) (network : IsNetwork net) (arrivals : Amounts) (history : List ℕ) (round : ℕ) (actors : List Acting) (boards : List Board) (world : WorldState) (plans : List PlanRecord) (i : InRound net arrivals history round actors boards world plans) where
  abbrev pub way : Begun net network round history
  way = record { early = i.early; part = i.part; whole = i.whole; rounds_done = i.rounds_done; within = i.within; most = (let less = i.below in omega arith); over = λ e. absurd (let less = i.below in omega arith) }

  module _ (n : ℕ) (below : n < length net.node_names) (old : Acting) (is : (d : Acting) → get_or actors n d ≡ old) where
    abbrev c : ℕ
    c = count n i.part

    plays : Plays net arrivals i.heard i.made round c n old
    plays = subst (Plays net arrivals i.heard i.made round c n) (is old) (i.plays n old below)

    own-more : count n (i.part ++ n ∷ []) ≡ c + 1
    own-more = count-append n i.part (n ∷ []) ∙ ap (λ k. c + k) (count-one n)

    other-more : (k : ℕ) → (k ≡ n → ⊥) → count k (i.part ++ n ∷ []) ≡ count k i.part
    other-more k other = count-append k i.part (n ∷ []) ∙ (let e = count-else n k [] (λ e. other (sym e)) in let z : count k i.part + count k (n ∷ []) ≡ count k i.part = omega arith in z)

    within-more : c < length (board_steps net n) → (k : ℕ) → count k (i.part ++ n ∷ []) ≤ length (board_steps net k)
    within-more small k = elim (cases_eq k n) [
      | inl own ↦ (let P : ℕ → Type 0 = λ m. count m (i.part ++ n ∷ []) ≤ length (board_steps net m) in subst P (sym own) (omega (arith, own-more)))
      | inr other ↦ omega (arith, other-more k other, i.within k)
    ]

    whole-more : history ++ n ∷ [] ≡ i.early ++ (i.part ++ n ∷ [])
    whole-more = ap (λ l. l ++ n ∷ []) i.whole ∙ append_assoc i.early i.part (n ∷ [])

    abbrev way-more : c < length (board_steps net n) → Begun net network round (history ++ n ∷ [])
    way-more small = record { early = i.early; part = i.part ++ n ∷ []; whole = whole-more; rounds_done = i.rounds_done; within = within-more small; most = (let less = i.below in omega arith); over = λ e. absurd (let less = i.below in omega arith) }

    at-other : (new : Acting) (k : ℕ) (d : Acting) → (k ≡ n → ⊥) → get_or actors k d ≡ get_or (set actors n new) k d
    at-other new k d other = sym (get_or-set_other actors n k new d other)

    at-own : (new : Acting) (d : Acting) → get_or (set actors n new) n d ≡ new
    at-own new d = get_or-set_same actors n new d (omega (arith, i.all))

    -- it reads
    module _ (x : Hears net arrivals i.heard i.made round c n old) where
      abbrev link : ℕ
      link = get_or (heard_links net n) c 0

      abbrev version : ℕ
      version = version_at (board_steps net) history link (length history)

      abbrev h : Heard
      h = hearing net i.made link version

      abbrev seen : ℕ → ℕ → List Heard
      seen = put i.heard round n (i.heard round n ++ h ∷ [])

      small : c < length (board_steps net n)
      small = first-small net n c x.more

      running : IsRunning net arrivals seen i.made (history ++ n ∷ []) round boards world plans
      running = read-on net network arrivals i.heard i.made history round boards world plans way i.running n c refl x.more

      fresh-more : (later node : ℕ) → round < later → seen later node ≡ []
      fresh-more later node more = put-round i.heard round n (i.heard round n ++ h ∷ []) later node (λ e. omega arith) ∙ i.fresh later node more

      others : (made : ℕ → ℕ → Commitment) → SameBefore net network (arriving_of arrivals) i.made made round → ((s k : ℕ) → (k ≡ n → ⊥) → i.made s k ≡ made s k) → (new : Acting) (k : ℕ) (d : Acting) → (k ≡ n → ⊥) → k < length net.node_names
          → Plays net arrivals seen made round (count k (i.part ++ n ∷ [])) k (get_or (set actors n new) k d)
      others made before same new k d other inside =
          subst (Plays net arrivals seen made round (count k (i.part ++ n ∷ [])) k) (at-other new k d other)
          (subst (λ z. Plays net arrivals seen made round z k (get_or actors k d)) (sym (other-more k other))
          (plays-moved net network arrivals i.heard seen i.made made round k inside before (sym (put-node i.heard round n (i.heard round n ++ h ∷ []) round k other)) (same round k other) (count k i.part) (get_or actors k d) (i.plays k d inside)))

      listens : Listens net arrivals seen i.made round (c + 1) n (with_heard h old)
      listens = took net network arrivals i.heard i.made round n below c old h x.listens

      built : (new : Acting) (made : ℕ → ℕ → Commitment) → SameBefore net network (arriving_of arrivals) i.made made round → ((s k : ℕ) → (k ≡ n → ⊥) → i.made s k ≡ made s k) → IsRunning net arrivals seen made (history ++ n ∷ []) round boards world plans
          → Plays net arrivals seen made round (c + 1) n new → InRound net arrivals (history ++ n ∷ []) round (set actors n new) boards world plans
      built new made before same runs own = record {
        heard = seen;
        made = made;
        early = i.early;
        part = i.part ++ n ∷ [];
        whole = whole-more;
        rounds_done = i.rounds_done;
        within = within-more small;
        below = i.below;
        running = runs;
        all = length-set actors n new ∙ i.all;
        fresh = fresh-more;
        plays = λ k d inside. elim (cases_eq k n) [
          | inl same_node ↦ subst (λ m. Plays net arrivals seen made round (count m (i.part ++ n ∷ [])) m (get_or (set actors n new) m d)) (sym same_node)
              (subst (Plays net arrivals seen made round (count n (i.part ++ n ∷ [])) n) (sym (at-own new d)) (subst (λ z. Plays net arrivals seen made round z n new) (sym own-more) own))
          | inr other ↦ others made before same new k d other inside
        ];
      }

      read-settled : (new : Acting) → IsOf net new → Settles net (with_heard h old).want (with_heard h old) new → InRound net arrivals (history ++ n ∷ []) round (set actors n new) boards world plans
      read-settled new of_new settles = by (drop (c + 1) (heard_links net n)) refl
        where
          want : (with_heard h old).want ≡ reading (drop (c + 1) (heard_links net n))
          want = listens.want

          by : (L : List ℕ) → drop (c + 1) (heard_links net n) ≡ L → InRound net arrivals (history ++ n ∷ []) round (set actors n new) boards world plans
          by [] e =
              let more = x.more in
              let long : length (heard_links net n) ≡ c + 1 = (let z = length-drop (c + 1) (heard_links net n) in omega (arith, ap length e)) in
              let both : Settles net Commit (with_heard h old) new = subst (λ (w : Want). Settles net w (with_heard h old) new) (want ∙ ap reading e) settles in
              let k : IsCommitted net (with_heard h old) new = both.0 in
              let made : ℕ → ℕ → Commitment = put i.made round n k.made in
              built new made
              (λ s m less inside. sym (put-round i.made round n k.made s m (λ e. omega arith)))
              (λ s m other. sym (put-node i.made round n k.made s m other))
              (commit-on net network arrivals seen i.made (history ++ n ∷ []) round boards world plans (way-more small) running n (omega (arith, own-more)) k.made)
              (subst (λ z. Plays net arrivals seen made round z n new) long
              (commits-on net network arrivals seen i.made round n below (with_heard h old) new (subst (λ z. Listens net arrivals seen i.made round z n (with_heard h old)) (sym long) listens) k both.1 of_new))
          by (l ∷ L) e =
              let more : c + 1 < length (heard_links net n) = (let z = length-drop (c + 1) (heard_links net n) in omega (arith, ap length e)) in
              let same : new ≡ with_heard h old = subst (λ (w : Want). Settles net w (with_heard h old) new) (want ∙ ap reading e) settles in
              built new i.made (λ s m less inside. refl) (λ s m other. refl) running
              (listens-on net network arrivals seen i.made round n below (c + 1) new of_new (subst (Listens net arrivals seen i.made round (c + 1) n) (sym same) listens) more)

    pub read-next : (l : ℕ) (b : Board) (new : Acting) → old.want ≡ Read l → ((d : Board) → get_or boards l d ≡ b) → IsOf net new
        → Settles net (with_heard (record { link = l; version = b.version; forecast = b.forecast }) old).want (with_heard (record { link = l; version = b.version; forecast = b.forecast }) old) new
        → InRound net arrivals (history ++ n ∷ []) round (set actors n new) boards world plans
    unfolding is_read link_in
    read-next l b new want board of_new settles = elim plays.stage [
      | inr x ↦ absurd (not-read (drop (c - length (heard_links net n)) (told_links net n)) (sym x.want ∙ want))
      | inl x ↦
          let same : get_or (heard_links net n) c 0 ≡ l = ap link_in (sym (reading-next (heard_links net n) c x.more) ∙ sym x.listens.want ∙ want) in
          let ends = heard-ends net n c network x.more in
          let v : ℕ = version_at (board_steps net) history (get_or (heard_links net n) c 0) (length history) in
          let there : get_or boards (get_or (heard_links net n) c 0) b ≡ b = ap (λ k. get_or boards k b) same ∙ board b in
          let version : b.version ≡ v = ap (λ (y : Board). y.version) (sym there) ∙ i.running.boards_are.versions (get_or (heard_links net n) c 0) ends.teller n b ends.from ends.to in
          let forecast : b.forecast ≡ forecast_at net i.made (get_or (heard_links net n) c 0) v = ap (λ (y : Board). y.forecast) (sym there) ∙ i.running.boards_are.forecasts (get_or (heard_links net n) c 0) ends.teller n b ends.from ends.to in
          let heard_is : heard_of l b.version b.forecast ≡ hearing net i.made (get_or (heard_links net n) c 0) v = ap (λ k. heard_of k b.version b.forecast) (sym same) ∙ ap (λ k. heard_of (get_or (heard_links net n) c 0) k b.forecast) version ∙ ap (heard_of (get_or (heard_links net n) c 0) v) forecast in
          read-settled x new of_new (subst (λ (y : Heard). Settles net (with_heard y old).want (with_heard y old) new) heard_is settles)
    ]
      where
        not-read : (L : List ℕ) → telling_first L ≡ Read l → ⊥
        not-read [] e = apart (sym (ap is_read e))
        not-read (k ∷ L) e = apart (sym (ap is_read e))

    -- it publishes
    pub tell-next : (l : ℕ) (b nb : Board) (new : Acting) → old.want ≡ Publish l → ((d : Board) → get_or boards l d ≡ b) → IsOf net new
        → HasTold (tells_from net old.node (l + 1)) old new → nb.version ≡ b.version + 1
        → nb.forecast ≡ told_forecast net l old.sensed.now (departures old.window.lists (counts_of old.window.lists) old.phases old.served)
        → InRound net arrivals (history ++ n ∷ []) round (set actors n new) (set boards l nb) world plans
    unfolding is_publish link_in
    tell-next l b nb new want board of_new has version forecast = elim plays.stage [
      | inl x ↦ absurd (apart (ap is_publish (sym want ∙ x.listens.want ∙ reading-next (heard_links net n) c x.more)))
      | inr x ↦ elim (cases_lt (c - length (heard_links net n)) (length (told_links net n))) [
        | inr past ↦ absurd (apart (ap is_publish (sym want ∙ x.want ∙ telling-none (told_links net n) (c - length (heard_links net n)) past)))
        | inl inside ↦
            let k : ℕ = c - length (heard_links net n) in
            let same : get_or (told_links net n) k 0 ≡ l = ap link_in (sym (telling-next (told_links net n) k inside) ∙ sym x.want ∙ want) in
            let ends = told-ends net n k inside in
            let L : ℕ = get_or (told_links net n) k 0 in
            let enough : length (heard_links net n) ≤ c = x.enough in
            let of = x.tells_of l want in
            let small : c < length (board_steps net n) = omega (arith, step-count net n) in
            let there : get_or boards L b ≡ b = ap (λ k. get_or boards k b) same ∙ board b in
            let old_version : b.version ≡ version_at (board_steps net) history L (length history) = ap (λ (y : Board). y.version) (sym there) ∙ i.running.boards_are.versions L n ends.hearer b ends.from ends.to in
            let told : nb.forecast ≡ told_in net round L (i.made round n) =
            forecast
            ∙ ap (λ z. told_forecast net z old.sensed.now (departures old.window.lists (counts_of old.window.lists) old.phases old.served)) (sym same)
            ∙ ap (λ z. told_forecast net L z (departures old.window.lists (counts_of old.window.lists) old.phases old.served)) of.now
            ∙ ap (λ (w : Window). told_forecast net L (round * net.run.step) (departures w.lists (counts_of w.lists) old.phases old.served)) of.window
            ∙ ap (λ (z : List ℕ). told_forecast net L (round * net.run.step) (departures (i.made round n).window.lists (counts_of (i.made round n).window.lists) z old.served)) of.phases
            ∙ ap (λ (z : List Served). told_forecast net L (round * net.run.step) (departures (i.made round n).window.lists (counts_of (i.made round n).window.lists) (phases_of (i.made round n).answer) z)) of.served in
            let runs : IsRunning net arrivals i.heard i.made (history ++ n ∷ []) round (set boards L nb) world plans =
            tell-on net network arrivals i.heard i.made history round boards world plans way i.running n c L ends.hearer refl small ends.from ends.to (let e = network.outline.road_count in let z = ends.exists in omega arith) (told-step net n c enough inside) nb (version ∙ ap (λ z. z + 1) old_version) told in
            let next : Plays net arrivals i.heard i.made round (c + 1) n new = record {
              node_is = told-node (tells_from net old.node (l + 1)) old new has ∙ plays.node_is;
              of = of_new;
              stage = inr (tells-on net arrivals i.heard i.made round n c old new plays.node_is x inside (subst (λ z. HasTold (tells_from net old.node (z + 1)) old new) (sym same) has) of);
            } in
            record {
              heard = i.heard;
              made = i.made;
              early = i.early;
              part = i.part ++ n ∷ [];
              whole = whole-more;
              rounds_done = i.rounds_done;
              within = within-more small;
              below = i.below;
              running = subst (λ z. IsRunning net arrivals i.heard i.made (history ++ n ∷ []) round (set boards z nb) world plans) same runs;
              all = length-set actors n new ∙ i.all;
              fresh = i.fresh;
              plays = λ k d within. elim (cases_eq k n) [
                | inl own ↦ subst (λ m. Plays net arrivals i.heard i.made round (count m (i.part ++ n ∷ [])) m (get_or (set actors n new) m d)) (sym own)
                    (subst (Plays net arrivals i.heard i.made round (count n (i.part ++ n ∷ [])) n) (sym (at-own new d)) (subst (λ z. Plays net arrivals i.heard i.made round z n new) (sym own-more) next))
                | inr other ↦ subst (Plays net arrivals i.heard i.made round (count k (i.part ++ n ∷ [])) k) (at-other new k d other)
                    (subst (λ z. Plays net arrivals i.heard i.made round z k (get_or actors k d)) (sym (other-more k other)) (i.plays k d within))
              ];
            }
      ]
    ]

  -- the round is over: each node is done
  module _ (done : AllDone actors) where
    over-tells : (n : ℕ) (d : Acting) → n < length net.node_names → Tells net arrivals i.heard i.made round (count n i.part) n (get_or actors n d)
    unfolding is_read
    over-tells n d below = elim (i.plays n d below).stage [
      | inr x ↦ x
      | inl x ↦ absurd (apart (ap is_read (sym (reading-next (heard_links net n) (count n i.part) x.more) ∙ sym x.listens.want ∙ done n d (omega (arith, i.all)))))
    ]

    over-count : (n : ℕ) (d : Acting) → n < length net.node_names → count n i.part ≡ length (board_steps net n)
    unfolding is_publish
    over-count n d below =
        let x = over-tells n d below in
        let most = i.within n in
        let enough = x.enough in
        elim (cases_lt (count n i.part - length (heard_links net n)) (length (told_links net n))) [
          | inl inside ↦ absurd (apart (ap is_publish (sym (telling-next (told_links net n) (count n i.part - length (heard_links net n)) inside) ∙ sym x.want ∙ done n d (omega (arith, i.all)))))
          | inr past ↦ omega (arith, step-count net n)
        ]

    over-round : Acting → IsRound (board_steps net) i.part
    over-round d n = elim (cases_lt n (length net.node_names)) [
      | inl below ↦ over-count n d below
      | inr past ↦ (let most = i.within n in omega (arith, ap length (steps-beyond net network n past)))
    ]

    over-commits : Acting → AllCommit net (arriving_of arrivals) i.heard i.made (round + 1)
    over-commits d r n less below = elim (cases_lt r round) [
      | inl before ↦ i.running.commits r n before below
      | inr last ↦ (let e : r ≡ round = omega arith in subst (λ s. Commits net (arriving_of arrivals) i.heard i.made s n) (sym e) (over-tells n d below).commits)
    ]

    -- the lines of the nodes show what the world moves by
    line-is : (n : ℕ) (d : Acting) → n < length net.node_names → lines_of actors n ≡ line_before net i.made (round + 1) n
    line-is n d below =
        get_or-map (λ (a : Acting). a.line) actors n d [] (omega (arith, i.all))
        ∙ (over-tells n d below).line
        ∙ ap (λ r. line_before net i.made r n) (let e : suc round ≡ round + 1 = omega arith in e)

    lines-show : Acting → (x n : ℕ) → x < (round + 1) * net.run.step → n < length net.node_names → sign_at (lines_of actors n) x ≡ shown_by net i.made x n
    lines-show d x n less below =
        ap (λ (l : List Green). sign_at l x) (line-is n d below)
        ∙ before-shows net network (arriving_of arrivals) (round + 1) i.heard i.made (let z = i.below in omega arith) (over-commits d) x n less below

    pub over-before : Acting → Stands net (arriving_of arrivals) (signs_by (lines_of actors)) world
    over-before d = stands-at-nodes net network (arriving_of arrivals) (shown_by net i.made) (signs_by (lines_of actors)) world (λ x n less below. sym (lines-show d x n (earlier x less) below)) i.running.stands
      where
        earlier : (x : ℕ) → x < world.second → x < (round + 1) * net.run.step
        earlier x less = (let e : (round + 1) * net.run.step ≡ round * net.run.step + net.run.step = omega arith in omega (arith, e, i.running.second))

    -- each node has planned once, and no sequence has less delay
    one-each : (n : ℕ) (d : Acting) → n < length net.node_names → (get_or actors n d).records ≡ record_of n round (i.heard round n) (i.made round n) ∷ []
    one-each n d below = (over-tells n d below).records

    pub over-records : length (records_in actors) ≡ length net.node_names
    over-records = ap length (round-plans net i.heard i.made round actors i.all one-each) ∙ plans-of-round net i.heard i.made round

    pub over-least : Acting → All (λ (p : PlanRecord). IsLeast p.instance p.answer) (records_in actors)
    over-least d =
        subst (All (λ (p : PlanRecord). IsLeast p.instance p.answer)) (sym (round-plans net i.heard i.made round actors i.all one-each))
        (round-least net (arriving_of arrivals) i.heard i.made (round + 1) round (over-commits d) (omega arith))

    -- so the next round can begin
    pub round-over : (moved : WorldState) (d : Acting) → moved.second ≡ world.second + net.run.step → Stands net (arriving_of arrivals) (signs_by (lines_of actors)) moved
        → Between net arrivals history (round + 1) (map without_records actors) boards moved (plans ++ records_in actors)
    round-over moved d second stands =
        let now : moved.second ≡ (round + 1) * net.run.step = (let e : (round + 1) * net.run.step ≡ round * net.run.step + net.run.step = omega arith in omega (arith, e, second, i.running.second)) in
        let one : suc round ≡ round + 1 = omega arith in
        record {
          heard = i.heard;
          made = i.made;
          rounds_done = subst (λ r. HasRounds (board_steps net) r history) one (i.early, i.part, i.whole, over-round d, i.rounds_done);
          most = (let less = i.below in omega arith);
          running = record {
            commits = over-commits d;
            along = i.running.along;
            boards_are = i.running.boards_are;
            second = now;
            stands = stands-at-nodes net network (arriving_of arrivals) (signs_by (lines_of actors)) (shown_by net i.made) moved (λ x n less below. lines-show d x n (omega arith) below) stands;
            planned = ap (λ l. l ++ records_in actors) i.running.planned ∙ plans-more net i.heard i.made round actors i.all one-each;
          };
          all = length-map actors without_records ∙ i.all;
          fresh = λ later node more. i.fresh later node (omega arith);
          rests = λ n d below.
              let x = over-tells n d below in
              subst (Rests net i.made (round + 1) n) (sym (get_or-map without_records actors n d d (omega (arith, i.all)))) (record {
                node_is = (i.plays n d below).node_is;
                of = of-without net (get_or actors n d) (i.plays n d below).of;
                want = done n d (omega (arith, i.all));
                line = x.line ∙ ap (λ r. line_before net i.made r n) one;
                ahead = x.ahead;
                records = refl;
              });
        }
