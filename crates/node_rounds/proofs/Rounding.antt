-- A round of all nodes leads from between two rounds to between the next ones.
use Rattle.std.proofs.Common.{◌≡◌, ℕ, suc, ◌+◌, ◌-◌, ◌*◌, ◌/◌, ◌<◌, ◌≤◌, max, cond, List, [], ◌∷◌, ◌++◌, All, length, map, get_or, vec_capacity, vec_len, refl, sym, ap, subst, ◌∙◌, inl, inr, arith, eqb, eq-eqb, ne_eqb}
use Rattle.std.specs.Global.{Vec}
use Rattle.std.specs.Prelude.{◌⊎◌}
use Rattle.std.proofs.lemmas.Bool.{cases_lt}
use Rattle.std.proofs.lemmas.List.{get_or_default, get_or-map, length-map}
use Rattle.std.proofs.lemmas.List.Elements.{All-nil, All-weaker}
use Rattle.std.proofs.lemmas.Nat.{div_below}
use Rattle.std.proofs.Math.Nat.{mul-le-mul_right}
use Rattle.arrivals.specs.Amounts.{Amounts, AreArrivals, arriving_of}
use Rattle.board_model.specs.declared.boards.Heard.{Heard}
use Rattle.board_model.specs.declared.calls.Call.{Call}
use Rattle.link_boards.specs.Passes.{BoardsView, PassView, calls_in, highest, raised}
use Rattle.clusters.specs.Inflow.{IsHeardOf}
use Rattle.control_flow.specs.Signs.{sign_at}
use Rattle.control_flow.specs.declared.greens.Green.{Green}
use Rattle.histories.specs.Steps.{board_steps}
use Rattle.histories.proofs.Lists.{pairs-nil}
use Rattle.histories.proofs.StepLaws.{steps-beyond}
use Rattle.intersection_actor.specs.Acting.{Acting, without_records}
use Rattle.intersection_actor.specs.Commits.{Commitment, IsCommit, record_of}
use Rattle.intersection_actor.specs.declared.records.PlanRecord.{PlanRecord}
use Rattle.histories.specs.Calls.{IsRising, step_of}
use Rattle.net_parts.specs.Numbers.{Net}
use Rattle.net_simulator.specs.Flow.{cumulative_under}
use Rattle.net_simulator.specs.Senses.{sense}
use Rattle.net_simulator.specs.Worlds.{WorldState, Stands, signs_by}
use Rattle.node_rounds.specs.Nodes.{IsRoundOf, NodeRound}
use Rattle.node_rounds.specs.Told.{AreCallsOf}
use Rattle.road_net.specs.Network.{IsNetwork}
use Rattle.road_net.specs.declared.senses.Sensed.{Sensed}
use Rattle.runs.specs.Runs.{AllCommit, Commits, line_before, sensed_in, shown_by}
use Rattle.runs.proofs.Agree.{SameBefore, commit-moved, commits-moved}
use Rattle.runs.specs.Ending.{records_in}
use Rattle.runs.specs.Resting.{HasPlans, Rests, lines_of}
use Rattle.node_rounds.specs.Rounds.{AreCallsIn, AreSamePasses, Between, CanAllPlay, HaveAllPlayed, HaveLeft}
use Rattle.node_rounds.proofs.Passes.{at-most-highest, calls-at, calls-past, no_pass, own-at, own-same, raised-at, raised-calls, raised-names}
use Rattle.runs.proofs.Resting.{before-shows, before-stands, no_acting, no_commitment, sense-is}
use Rattle.net_simulator.proofs.AtNodes.{stands-at-nodes}
use Rattle.runs.proofs.PlanLists.{next-room, plans-next, plans-same}
use Rattle.intersection_actor.proofs.RoundLaws.{of-without}
use Rattle.node_rounds.proofs.Told.{in-moved}

-- a function of rounds and nodes, with another round
module _ {A : Type 0} (f : ℕ → ℕ → A) (round : ℕ) (g : ℕ → A) where
  abbrev with_round : ℕ → ℕ → A
  with_round r n = cond (eqb r round) (g n) (f r n)

  round-here : (n : ℕ) → with_round round n ≡ g n
  round-here n = ap (λ b. cond b (g n) (f round n)) (eq-eqb round round refl)

  round-else : (r n : ℕ) → (r ≡ round → ⊥) → with_round r n ≡ f r n
  round-else r n other = ap (λ b. cond b (g n) (f r n)) (ne_eqb r round other)

module _ (net : Net) (network : IsNetwork net) (arrivals : Amounts) (round : ℕ) where
  module _ (boards : BoardsView) (passes : List PassView) (actors : List Acting) (world : WorldState) (plans : Vec PlanRecord) (b : Between net arrivals boards round passes actors world plans) (less : round < net.run.rounds) where
    -- each node may play the round
    pub can-play : AreArrivals net arrivals → (planners : ℕ) → planners ≡ length net.node_names → CanAllPlay net round world boards planners actors passes
    can-play enter planners count =
        let all = b.all in
        let many = b.own.all in
        record {
          planned = count ∙ sym many;
          acted = all ∙ sym many;
          each = λ k a p inside.
              let below : k < length net.node_names = omega arith in
              let rests = b.rests k a below in
              let own = own-at boards passes k p b.own.own inside in
              let left : (net.run.rounds - round) * length (board_steps net k) ≤ (get_or passes k p).left = b.own.left k p below in
              let some : 1 * length (board_steps net k) ≤ (net.run.rounds - round) * length (board_steps net k) = mul-le-mul_right {m = 1} {n = net.run.rounds - round} (length (board_steps net k)) (omega arith) in
              record {
                more = less;
                second = b.second;
                stands = record { arrivals = arrivals; lines = line_before net b.made round; enter = enter; stands = before-stands net network (arriving_of arrivals) round b.heard b.made b.most b.commits world b.second b.stands };
                of = rests.of;
                want = rests.want;
                ahead = rests.ahead;
                own = own.0;
                number = own.1 ∙ sym rests.node_is;
                left = subst (λ n. length (board_steps net n) ≤ (get_or passes k p).left) (sym rests.node_is) (omega arith);
              };
        }

    -- once each has played it
    module _ (acted : List Acting) (called : List PassView) (played : HaveAllPlayed net round world actors acted passes called) where
      abbrev P : PassView
      P = no_pass boards

      abbrev A : Acting
      A = no_acting

      abbrev N : ℕ
      N = length net.node_names

      abbrev pick : (n : ℕ) → (n < N) ⊎ (N ≤ n) → NodeRound
      pick n (inl below) = (played.each n A P (omega (arith, b.own.all))).0
      pick n (inr past) = record { sensed = record { now = 0; links = [] }; heard = []; made = no_commitment; calls = [] }

      abbrev did : ℕ → NodeRound
      did n = pick n (cases_lt n N)

      did-is : (n : ℕ) → n < N → IsRoundOf net round world (get_or actors n A) (get_or acted n A) (get_or passes n P) (get_or called n P) (did n)
      did-is n below = by (cases_lt n N)
        where
          by : (s : (n < N) ⊎ (N ≤ n)) → IsRoundOf net round world (get_or actors n A) (get_or acted n A) (get_or passes n P) (get_or called n P) (pick n s)
          by (inl inside) = (played.each n A P (omega (arith, b.own.all))).1
          by (inr past) = absurd (omega arith)

      did-past : (n : ℕ) → N ≤ n → (did n).calls ≡ []
      did-past n past = by (cases_lt n N)
        where
          by : (s : (n < N) ⊎ (N ≤ n)) → (pick n s).calls ≡ []
          by (inl below) = absurd (omega arith)
          by (inr over) = refl

      abbrev heard : ℕ → ℕ → List Heard
      heard = with_round b.heard round (λ n. (did n).heard)

      abbrev made : ℕ → ℕ → Commitment
      made = with_round b.made round (λ n. (did n).made)

      heard-else : (r n : ℕ) → r < round → b.heard r n ≡ heard r n
      heard-else r n before = sym (round-else b.heard round (λ n. (did n).heard) r n (λ e. omega arith))

      made-else : (r n : ℕ) → r < round → b.made r n ≡ made r n
      made-else r n before = sym (round-else b.made round (λ n. (did n).made) r n (λ e. omega arith))

      heard-own : (n : ℕ) → heard round n ≡ (did n).heard
      heard-own n = round-here b.heard round (λ n. (did n).heard) n

      made-own : (n : ℕ) → made round n ≡ (did n).made
      made-own n = round-here b.made round (λ n. (did n).made) n

      before : (r : ℕ) → r ≤ round → SameBefore net network (arriving_of arrivals) b.made made r
      before r most s m less below = made-else s m (omega arith)

      node-is : (n : ℕ) → n < N → (get_or actors n A).node ≡ n
      node-is n below = (b.rests n A below).node_is

      sensed-is : (n : ℕ) → n < N → (did n).sensed ≡ sensed_in net (arriving_of arrivals) b.made round n
      sensed-is n below =
          (did-is n below).sensed (arriving_of arrivals) (line_before net b.made round) (before-stands net network (arriving_of arrivals) round b.heard b.made b.most b.commits world b.second b.stands)
          ∙ ap (λ k. sense net (cumulative_under net (arriving_of arrivals) (signs_by (line_before net b.made round)) world.second) world.second k) (node-is n below)
          ∙ sense-is net network (arriving_of arrivals) round b.heard b.made b.most b.commits world b.second n

      own-commits : (n : ℕ) → n < N → Commits net (arriving_of arrivals) heard made round n
      own-commits n below =
          let is = did-is n below in
          let commit : IsCommit net n round (line_before net b.made round n) (sensed_in net (arriving_of arrivals) b.made round n) (did n).heard (did n).made =
          subst (λ k. IsCommit net k round (line_before net b.made round n) (sensed_in net (arriving_of arrivals) b.made round n) (did n).heard (did n).made) (node-is n below)
          (subst (λ (l : List Green). IsCommit net (get_or actors n A).node round l (sensed_in net (arriving_of arrivals) b.made round n) (did n).heard (did n).made) (b.rests n A below).line
          (subst (λ (s : Sensed). IsCommit net (get_or actors n A).node round (get_or actors n A).line s (did n).heard (did n).made) (sensed-is n below) is.commit)) in
          record {
            links = subst (IsHeardOf net n) (sym (heard-own n)) (subst (λ k. IsHeardOf net k (did n).heard) (node-is n below) is.heard);
            commit = subst (IsCommit net n round (line_before net made round n) (sensed_in net (arriving_of arrivals) made round n) (heard round n)) (sym (made-own n))
                (commit-moved net network (arriving_of arrivals) b.made made round n (did n).heard (heard round n) (did n).made (before round (omega arith)) below (sym (heard-own n)) commit);
          }

      commits : AllCommit net (arriving_of arrivals) heard made (round + 1)
      commits r n early below = elim (cases_lt r round) [
        | inl first ↦ commits-moved net network (arriving_of arrivals) b.made made b.heard heard r n (before r (omega arith)) below (heard-else r n first) (made-else r n first) (b.commits r n first below)
        | inr last ↦ (let e : r ≡ round = omega arith in subst (λ s. Commits net (arriving_of arrivals) heard made s n) (sym e) (own-commits n below))
      ]

      one : suc round ≡ round + 1
      one = omega arith

      -- what each node has planned in the round
      record-own : (n : ℕ) → n < N → (get_or acted n A).records ≡ record_of n round (heard round n) (made round n) ∷ []
      record-own n below =
          let was = b.rests n A below in
          (did-is n below).rests.records
          ∙ ap (λ (l : List PlanRecord). l ++ record_of (get_or actors n A).node round (did n).heard (did n).made ∷ []) was.records
          ∙ ap (λ (p : PlanRecord). p ∷ [])
          (ap (λ k. record_of k round (did n).heard (did n).made) was.node_is ∙ ap (λ (h : List Heard). record_of n round h (did n).made) (sym (heard-own n)) ∙ ap (record_of n round (heard round n)) (sym (made-own n)))

      -- the actors without their plan records
      abbrev rested : List Acting
      rested = map without_records acted

      rests-own : (n : ℕ) → n < N → Rests net made (round + 1) n (without_records (get_or acted n A))
      rests-own n below =
          let is = (did-is n below).rests in
          let was = b.rests n A below in
          record {
            node_is = is.node ∙ was.node_is;
            of = of-without net (get_or acted n A) is.of;
            want = is.want;
            line = is.line ∙ ap (λ (c : Commitment). c.line) (sym (made-own n)) ∙ ap (λ r. line_before net made r n) one;
            ahead = is.ahead;
            records = refl;
          }

      rests : (n : ℕ) (a : Acting) → n < N → Rests net made (round + 1) n (get_or rested n a)
      rests n a below = subst (Rests net made (round + 1) n) (sym (get_or-map without_records acted n A a (omega (arith, played.actors, b.all)))) (rests-own n below)

      -- the plans of the earlier rounds, told by what is heard and made up to this one
      before-planned : HasPlans net heard made round plans
      before-planned = record {
        done = b.planned.done ∙ plans-same net b.heard heard b.made made round (λ r n first below. heard-else r n first) (λ r n first below. made-else r n first);
        capacity = b.planned.capacity;
      }

      records-own : (n : ℕ) (d : Acting) → n < N → (get_or acted n d).records ≡ record_of n round (heard round n) (made round n) ∷ []
      records-own n d below = ap (λ (a : Acting). a.records) (sym (get_or_default acted n A d (omega (arith, played.actors, b.all)))) ∙ record-own n below

      -- there is room for what the nodes have planned
      pub plans-room : vec_len plans + length (records_in acted) ≤ vec_capacity plans
      plans-room = next-room net heard made round plans before-planned acted (played.actors ∙ b.all) records-own less

      -- the calls
      many : length called ≡ N
      many = played.passes ∙ b.own.all

      calls-more : (n : ℕ) → calls_in called n ≡ calls_in passes n ++ (did n).calls
      calls-more n = elim (cases_lt n N) [
        | inl below ↦
            calls-at called n P (omega (arith, many)) ∙ (did-is n below).made.added
            ∙ ap (λ (l : List Call). l ++ (did n).calls) (sym (calls-at passes n P (omega (arith, b.own.all))))
        | inr past ↦
            calls-past called n (omega (arith, many))
            ∙ sym (ap (λ (l : List Call). l ++ (did n).calls) (calls-past passes n (omega (arith, b.own.all))) ∙ did-past n past)
      ]

      own-calls : (n : ℕ) → AreCallsOf net round n (heard round n) (made round n) (did n).calls
      own-calls n = elim (cases_lt n N) [
        | inl below ↦
            subst (λ (c : Commitment). AreCallsOf net round n (heard round n) c (did n).calls) (sym (made-own n))
            (subst (λ (h : List Heard). AreCallsOf net round n h (did n).made (did n).calls) (sym (heard-own n))
            (subst (λ k. AreCallsOf net round k (did n).heard (did n).made (did n).calls) (node-is n below) (did-is n below).calls))
        | inr past ↦ subst (AreCallsOf net round n (heard round n) (made round n)) (sym (did-past n past)) (record { steps = sym (steps-beyond net network n past); hears = All-nil _; tells = All-nil _ })
      ]

      above : (n : ℕ) → All (λ (c : Call). b.mark ≤ c.stamp) (did n).calls
      above n = elim (cases_lt n N) [
        | inl below ↦
            let known = b.own.known n P below in
            All-weaker (λ (c : Call). (get_or passes n P).known ≤ c.stamp) (λ (c : Call). b.mark ≤ c.stamp) (λ c h. omega arith) (did n).calls (did-is n below).made.later
        | inr past ↦ subst (All (λ (c : Call). b.mark ≤ c.stamp)) (sym (did-past n past)) (All-nil _)
      ]

      abbrev top : ℕ
      top = highest called

      abbrev met : List PassView
      met = map (raised top) called

      met-many : length met ≡ N
      met-many = length-map called (raised top) ∙ many

      calls-met : (n : ℕ) → calls_in met n ≡ calls_in called n
      calls-met n = raised-calls top called n

      calls : AreCallsIn net heard made (suc round) (calls_in met)
      calls = (
        calls_in passes,
        (λ n. (did n).calls),
        b.mark,
        record { split = λ n. calls-met n ∙ calls-more n; own = own-calls; below = b.below; above = above },
        in-moved net b.heard heard b.made made round (calls_in passes) (λ r n first. heard-else r n first) (λ r n first. made-else r n first) b.calls,
      )

      rising : (n : ℕ) → IsRising (calls_in met n)
      rising n = subst IsRising (sym (calls-met n)) (elim (cases_lt n N) [
        | inl below ↦ subst IsRising (sym (calls-at called n P (omega (arith, many)))) (did-is n below).order.rising
        | inr past ↦ subst IsRising (sym (calls-past called n (omega (arith, many)))) (pairs-nil (λ (early late : Call). early.stamp < late.stamp))
      ])

      below-top : (n : ℕ) → All (λ (c : Call). c.stamp < top) (calls_in met n)
      below-top n = subst (All (λ (c : Call). c.stamp < top)) (sym (calls-met n)) (elim (cases_lt n N) [
        | inl below ↦
            let most = at-most-highest called n P (omega (arith, many)) in
            subst (All (λ (c : Call). c.stamp < top)) (sym (calls-at called n P (omega (arith, many))))
            (All-weaker (λ (c : Call). c.stamp < (get_or called n P).known) (λ (c : Call). c.stamp < top) (λ c h. omega arith) (get_or called n P).calls (did-is n below).order.below)
        | inr past ↦ subst (All (λ (c : Call). c.stamp < top)) (sym (calls-past called n (omega (arith, many)))) (All-nil _)
      ])

      left : (same : AreSamePasses passes called) → HaveLeft net boards (round + 1) top met
      left same = record {
        all = met-many;
        own = own-same boards called met (raised-names top called) (own-same boards passes called same b.own.own);
        left = λ n p below.
            let is = (did-is n below).made in
            let w : ℕ = length (board_steps net n) in
            let all : length (did n).calls ≡ w = sym (length-map (did n).calls step_of) ∙ ap length (did-is n below).calls.steps ∙ ap (λ k. length (board_steps net k)) (node-is n below) in
            let had : (net.run.rounds - round) * w ≤ (get_or passes n P).left = b.own.left n P below in
            let used : (get_or called n P).left + length (did n).calls ≡ (get_or passes n P).left = is.left in
            let less_one : (net.run.rounds - round) * w ≡ (net.run.rounds - (round + 1)) * w + w = one-less (net.run.rounds - round) (net.run.rounds - (round + 1)) w (omega arith) in
            let here : (get_or met n p).left ≡ (get_or called n P).left = ap (λ (q : PassView). q.left) (raised-at top called n p (omega (arith, many)) ∙ ap (raised top) (get_or_default called n p P (omega (arith, many)))) in
            omega (arith, all, had, used, less_one, here);
        known = λ n p below. (let e : (get_or met n p).known ≡ max (get_or called n p).known top = ap (λ (q : PassView). q.known) (raised-at top called n p (omega (arith, many))) in omega (arith, e));
      }
        where
          one-less : (a c w : ℕ) → a ≡ c + 1 → a * w ≡ c * w + w
          one-less a c w e = ap (λ k. k * w) e ∙ (let z : (c + 1) * w ≡ c * w + w = omega arith in z)

      next-most : round + 1 ≤ net.run.rounds
      next-most = omega arith

      -- the lines of the nodes show what the world moves by
      line-is : (n : ℕ) → n < N → lines_of acted n ≡ line_before net made (round + 1) n
      line-is n below = get_or-map (λ (a : Acting). a.line) acted n A [] (omega (arith, played.actors, b.all)) ∙ (rests-own n below).line

      lines-show : (x n : ℕ) → x < (round + 1) * net.run.step → n < N → sign_at (lines_of acted n) x ≡ shown_by net made x n
      lines-show x n less below =
          ap (λ (l : List Green). sign_at l x) (line-is n below)
          ∙ before-shows net network (arriving_of arrivals) (round + 1) heard made next-most commits x n less below

      next-second : (round + 1) * net.run.step ≡ round * net.run.step + net.run.step
      next-second = omega arith

      shown-before : (x m : ℕ) → x < round * net.run.step → shown_by net b.made x m ≡ shown_by net made x m
      shown-before x m less = ap (λ (c : Commitment). sign_at c.line x) (made-else (x / net.run.step) m (div_below x net.run.step round network.outline.run.step.0 less))

      pub over-before : Stands net (arriving_of arrivals) (signs_by (lines_of acted)) world
      over-before = stands-at-nodes net network (arriving_of arrivals) (shown_by net b.made) (signs_by (lines_of acted)) world
          (λ x n less below. shown-before x n (omega (arith, b.second)) ∙ sym (lines-show x n (omega (arith, next-second, b.second)) below)) b.stands

      -- so the next round can begin
      pub round-over : AreSamePasses passes called → (moved : WorldState) (next : Vec PlanRecord) → moved.second ≡ world.second + net.run.step → Stands net (arriving_of arrivals) (signs_by (lines_of acted)) moved
          → next.items ≡ plans.items ++ records_in acted → vec_capacity plans ≤ vec_capacity next → Between net arrivals boards (round + 1) met rested moved next
      round-over same moved next second stands added grown =
          let now : moved.second ≡ (round + 1) * net.run.step = omega (arith, next-second, second, b.second) in
          record {
            heard = heard;
            made = made;
            mark = top;
            most = omega arith;
            commits = commits;
            second = now;
            stands = stands-at-nodes net network (arriving_of arrivals) (signs_by (lines_of acted)) (shown_by net made) moved (λ x n less below. lines-show x n (omega arith) below) stands;
            all = length-map acted without_records ∙ played.actors ∙ b.all;
            rests = rests;
            planned = plans-next net heard made round plans before-planned acted (played.actors ∙ b.all) records-own next added grown;
            own = left same;
            calls = subst (λ r. AreCallsIn net heard made r (calls_in met)) one calls;
            rising = rising;
            below = below-top;
          }
