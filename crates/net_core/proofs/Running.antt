-- How a run goes on: by a reading, a publishing, a commit, and a round of seconds.
use Rattle.std.proofs.Common.{◌≡◌, ℕ, zero, suc, ◌+◌, ◌*◌, ◌/◌, ◌<◌, ◌≤◌, cond, Bool, true, false, List, [], ◌∷◌, ◌++◌, Option, Some, length, get_or, set, refl, sym, ap, subst, ◌∙◌, inl, inr, arith, length-set, get_or-set_same, get_or-set_other, eqb, ne_eqb, eq-eqb}
use Rattle.std.specs.Prelude.{Contains, unwrap_or}
use Rattle.std.proofs.lemmas.Bool.{cases_eq, cases_lt}
use Rattle.std.proofs.lemmas.Nat.{div_below}
use Rattle.control_flow.specs.Signs.{sign_at}
use Rattle.std.proofs.lemmas.List.{get_or_append_left, length_push}
use Rattle.std.proofs.lemmas.List.Elements.{Contains-append_left, Contains-push}
use Rattle.arrivals.specs.Amounts.{Amounts, arriving_of}
use Rattle.board_model.specs.declared.boards.Heard.{Heard}
use Rattle.board_model.specs.declared.forecasts.Row.{Row}
use Rattle.histories.specs.Histories.{count, round_at, step_at, version_at}
use Rattle.histories.specs.Steps.{board_steps, is_publish_of, publisher}
use Rattle.histories.specs.declared.steps.BoardStep.{BoardStep}
use Rattle.histories.specs.declared.steps.BoardStep.TheVariants.{Read, Publish}
use Rattle.histories.proofs.Versions.{version-rises}
use Rattle.intersection_actor.specs.Commits.{Commitment}
use Rattle.intersection_actor.specs.declared.records.PlanRecord.{PlanRecord}
use Rattle.net_parts.specs.Numbers.{Net}
use Rattle.net_parts.specs.Outline.{link_at}
use Rattle.net_simulator.specs.Worlds.{WorldState}
use Rattle.road_net.specs.Network.{IsNetwork, heard_links}
use Rattle.runs.specs.Runs.{HearAlong, forecast_at, hearing, shown_by, told_in}
use Rattle.runs.proofs.Agree.{SameBefore, commits-moved}
use Rattle.runs.proofs.Places.{first-small, read-step}
use Rattle.runs.proofs.PlanLists.{plans-same}
use Rattle.net_simulator.proofs.AtNodes.{stands-at-nodes}
use Rattle.net_core.specs.States.{IsRunning}
use Rattle.net_core.specs.declared.parts.Board.{Board}
use Rattle.net_core.proofs.Prefixes.{Begun, ends-at, last-node, last-version, not-yet, now-published, own-round, own-step, round-front, step-front, version-front}
use Rattle.net_core.proofs.Put.{put, put-here, put-node, put-round}

contains-moved : (heard : ℕ → ℕ → List Heard) (r s m n : ℕ) (x y : Heard) → r ≡ s → m ≡ n → x ≡ y → Contains (heard r m) x → Contains (heard s n) y
contains-moved heard r s m n x y e f g c = subst (Contains (heard s n)) g (subst (λ k. Contains (heard s k) x) f (subst (λ k. Contains (heard k m) x) e c))

module _ (net : Net) (network : IsNetwork net) (arrivals : Amounts) (heard : ℕ → ℕ → List Heard) (made : ℕ → ℕ → Commitment) (p : List ℕ) (round : ℕ) (boards : List Board) (world : WorldState) (plans : List PlanRecord)
    (way : Begun net network round p) (is : IsRunning net arrivals heard made p round boards world plans) (n : ℕ) where
  -- what was heard at the places before stays, where each node has heard at least as much
  along-before : (seen : ℕ → ℕ → List Heard) → ((r m : ℕ) (x : Heard) → Contains (heard r m) x → Contains (seen r m) x) → (place link : ℕ) → place < length p
      → step_at (board_steps net) (p ++ n ∷ []) place ≡ Read link
      → Contains (seen (round_at (board_steps net) (p ++ n ∷ []) place) (get_or (p ++ n ∷ []) place 0)) (hearing net made link (version_at (board_steps net) (p ++ n ∷ []) link place))
  along-before seen more place link inside step =
      let steps : ℕ → List BoardStep = board_steps net in
      let old : Contains (heard (round_at steps p place) (get_or p place 0)) (hearing net made link (version_at steps p link place)) = is.along place link inside (sym (step-front steps p (n ∷ []) place inside) ∙ step) in
      contains-moved seen (round_at steps p place) (round_at steps (p ++ n ∷ []) place) (get_or p place 0) (get_or (p ++ n ∷ []) place 0) (hearing net made link (version_at steps p link place)) (hearing net made link (version_at steps (p ++ n ∷ []) link place))
      (sym (round-front steps p (n ∷ []) place inside)) (sym (get_or_append_left p (n ∷ []) 0 place inside)) (ap (hearing net made link) (sym (version-front steps p (n ∷ []) link place (omega arith))))
      (more (round_at steps p place) (get_or p place 0) (hearing net made link (version_at steps p link place)) old)

  module _ (c : ℕ) (counted : count n way.part ≡ c) (first : c < length (heard_links net n)) where
    abbrev link : ℕ
    link = get_or (heard_links net n) c 0

    abbrev version : ℕ
    version = version_at (board_steps net) p link (length p)

    abbrev seen : ℕ → ℕ → List Heard
    seen = put heard round n (heard round n ++ hearing net made link version ∷ [])

    small : c < length (board_steps net n)
    small = first-small net n c first

    reads : step_at (board_steps net) (p ++ n ∷ []) (length p) ≡ Read link
    reads = own-step net network p round way n c counted small ∙ read-step net n c first

    seen-more : (r m : ℕ) (x : Heard) → Contains (heard r m) x → Contains (seen r m) x
    seen-more r m x there = elim (cases_eq r round) [
      | inr other ↦ subst (λ (l : List Heard). Contains l x) (sym (put-round heard round n (heard round n ++ hearing net made link version ∷ []) r m other)) there
      | inl same ↦ elim (cases_eq m n) [
        | inr other ↦ subst (λ (l : List Heard). Contains l x) (sym (put-node heard round n (heard round n ++ hearing net made link version ∷ []) r m other)) there
        | inl own ↦
            let here : Contains (heard round n) x = subst (λ k. Contains (heard round k) x) own (subst (λ k. Contains (heard k m) x) same there) in
            let more : Contains (heard round n ++ hearing net made link version ∷ []) x = Contains-append_left (heard round n) (hearing net made link version ∷ []) x here in
            let at : Contains (seen round n) x = subst (λ (l : List Heard). Contains l x) (sym (put-here heard round n (heard round n ++ hearing net made link version ∷ []))) more in
            subst (λ k. Contains (seen r k) x) (sym own) (subst (λ k. Contains (seen k n) x) (sym same) at)
      ]
    ]

    link-of : BoardStep → ℕ
    link-of (Read l) = l
    link-of (Publish l) = l

    read-along : HearAlong net (p ++ n ∷ []) seen made
    unfolding link-of
    read-along place other inside step = elim (cases_lt place (length p)) [
      | inl before ↦ along-before seen seen-more place other before step
      | inr last ↦
          let steps : ℕ → List BoardStep = board_steps net in
          let at : length p ≡ place = (let long = length_push p n in omega arith) in
          let same : link ≡ other = ap link-of (sym reads ∙ ap (step_at steps (p ++ n ∷ [])) at ∙ step) in
          let new : Contains (seen round n) (hearing net made link version) = subst (λ (l : List Heard). Contains l (hearing net made link version)) (sym (put-here heard round n (heard round n ++ hearing net made link version ∷ []))) (Contains-push (heard round n) (hearing net made link version)) in
          contains-moved seen round (round_at steps (p ++ n ∷ []) place) n (get_or (p ++ n ∷ []) place 0) (hearing net made link version) (hearing net made other (version_at steps (p ++ n ∷ []) other place))
          (sym (own-round net network p round way n c counted small) ∙ ap (round_at steps (p ++ n ∷ [])) at)
          (sym (last-node steps p n) ∙ ap (λ k. get_or (p ++ n ∷ []) k 0) at)
          (ap (λ l. hearing net made l (version_at steps p l (length p))) same ∙ ap (hearing net made other) (sym (version-front steps p (n ∷ []) other (length p) (omega arith)) ∙ ap (version_at steps (p ++ n ∷ []) other) at))
          new
    ]

    none-more : (l : ℕ) → version_at (board_steps net) (p ++ n ∷ []) l (length (p ++ n ∷ [])) ≡ version_at (board_steps net) p l (length p)
    none-more l = last-version (board_steps net) p n l ∙ ap (λ (s : BoardStep). version_at (board_steps net) p l (length p) + cond (is_publish_of l s) 1 0) reads ∙ (let z : version_at (board_steps net) p l (length p) + 0 ≡ version_at (board_steps net) p l (length p) = omega arith in z)

    -- a reading
    pub read-on : IsRunning net arrivals seen made (p ++ n ∷ []) round boards world plans
    read-on = record {
      commits = λ r m less below.
          let c = is.commits r m less below in
          commits-moved net network (arriving_of arrivals) made made heard seen r m (λ s k before inside. refl) below (sym (put-round heard round n (heard round n ++ hearing net made link version ∷ []) r m (λ e. omega arith))) refl c;
      along = read-along;
      boards_are = record {
        all = is.boards_are.all;
        versions = λ l f t d from to. is.boards_are.versions l f t d from to ∙ sym (none-more l);
        forecasts = λ l f t d from to. is.boards_are.forecasts l f t d from to ∙ ap (forecast_at net made l) (sym (none-more l));
      };
      second = is.second;
      stands = is.stands;
      planned = is.planned ∙ plans-same net heard seen made made round (λ r m less below. sym (put-round heard round n (heard round n ++ hearing net made link version ∷ []) r m (λ e. omega arith))) (λ r m less below. refl);
    }

  -- a publishing
  module _ (c link t : ℕ) (counted : count n way.part ≡ c) (small : c < length (board_steps net n)) (from : (link_at net link).from ≡ Some n) (to : (link_at net link).to ≡ Some t) (exists : link < length net.link_names)
      (publishes : get_or (board_steps net n) c (Read 0) ≡ Publish link) (board : Board) (version : board.version ≡ version_at (board_steps net) p link (length p) + 1) (forecast : board.forecast ≡ told_in net round link (made round n)) where
    tells : step_at (board_steps net) (p ++ n ∷ []) (length p) ≡ Publish link
    tells = own-step net network p round way n c counted small ∙ publishes

    told : (l : ℕ) → version_at (board_steps net) (p ++ n ∷ []) l (length (p ++ n ∷ [])) ≡ version_at (board_steps net) p l (length p) + cond (eqb link l) 1 0
    told l = last-version (board_steps net) p n l ∙ ap (λ (s : BoardStep). version_at (board_steps net) p l (length p) + cond (is_publish_of l s) 1 0) tells

    told-own : version_at (board_steps net) (p ++ n ∷ []) link (length (p ++ n ∷ [])) ≡ version_at (board_steps net) p link (length p) + 1
    told-own = told link ∙ ap (λ b. version_at (board_steps net) p link (length p) + cond b 1 0) (eq-eqb link link refl)

    told-other : (l : ℕ) → (link ≡ l → ⊥) → version_at (board_steps net) (p ++ n ∷ []) l (length (p ++ n ∷ [])) ≡ version_at (board_steps net) p l (length p)
    told-other l other = told l ∙ ap (λ b. version_at (board_steps net) p l (length p) + cond b 1 0) (ne_eqb link l other) ∙ (let z : version_at (board_steps net) p l (length p) + 0 ≡ version_at (board_steps net) p l (length p) = omega arith in z)

    is-now : version_at (board_steps net) p link (length p) ≡ round
    is-now = now-published net network p round way link n t c from to counted small (ap (is_publish_of link) tells ∙ eq-eqb link link refl)

    new-forecast : forecast_at net made link (version_at (board_steps net) (p ++ n ∷ []) link (length (p ++ n ∷ []))) ≡ board.forecast
    new-forecast =
        let one : round + 1 ≡ suc round = omega arith in
        ap (forecast_at net made link) (told-own ∙ ap (λ v. v + 1) is-now ∙ one)
        ∙ ap (λ m. told_in net round link (made round m)) (ap (λ (o : Option ℕ). unwrap_or o 0) from)
        ∙ sym forecast

    pub tell-on : IsRunning net arrivals heard made (p ++ n ∷ []) round (set boards link board) world plans
    tell-on = record {
      commits = is.commits;
      along = λ place other inside step. elim (cases_lt place (length p)) [
        | inl before ↦ along-before heard (λ r m x there. there) place other before step
        | inr last ↦ absurd (
            let at : length p ≡ place = (let long = length_push p n in omega arith) in
            let e : Publish link ≡ Read other = sym tells ∙ ap (step_at (board_steps net) (p ++ n ∷ [])) at ∙ step in
            never (ap is-publish e))
      ];
      boards_are = record {
        all = length-set boards link board ∙ is.boards_are.all;
        versions = λ l f s d a b. elim (cases_eq l link) [
          | inl own ↦ ap (λ k. (get_or (set boards link board) k d).version) own ∙ ap (λ (x : Board). x.version) (get_or-set_same boards link board d (omega (arith, is.boards_are.all))) ∙ version ∙ sym told-own ∙ ap (λ k. version_at (board_steps net) (p ++ n ∷ []) k (length (p ++ n ∷ []))) (sym own)
          | inr other ↦ ap (λ (x : Board). x.version) (get_or-set_other boards link l board d other) ∙ is.boards_are.versions l f s d a b ∙ sym (told-other l (λ e. other (sym e)))
        ];
        forecasts = λ l f s d a b. elim (cases_eq l link) [
          | inl own ↦ ap (λ k. (get_or (set boards link board) k d).forecast) own ∙ ap (λ (x : Board). x.forecast) (get_or-set_same boards link board d (omega (arith, is.boards_are.all))) ∙ sym new-forecast ∙ ap (λ k. forecast_at net made k (version_at (board_steps net) (p ++ n ∷ []) k (length (p ++ n ∷ [])))) (sym own)
          | inr other ↦ ap (λ (x : Board). x.forecast) (get_or-set_other boards link l board d other) ∙ is.boards_are.forecasts l f s d a b ∙ ap (forecast_at net made l) (sym (told-other l (λ e. other (sym e))))
        ];
      };
      second = is.second;
      stands = is.stands;
      planned = is.planned;
    }
      where
        is-publish : BoardStep → Bool
        is-publish (Read l) = false
        is-publish (Publish l) = true

        never : true ≡ false → ⊥
        never e = cc

  -- a commit of a node that has read all
  module _ (few : count n way.part ≤ length (heard_links net n)) (c : Commitment) where
    abbrev committed : ℕ → ℕ → Commitment
    committed = put made round n c

    before-same : SameBefore net network (arriving_of arrivals) made committed round
    before-same s m less below = sym (put-round made round n c s m (λ e. omega arith))

    forecast-same : (link f t : ℕ) → (link_at net link).from ≡ Some f → (link_at net link).to ≡ Some t → (v : ℕ) → v ≤ version_at (board_steps net) p link (length p) → forecast_at net made link v ≡ forecast_at net committed link v
    forecast-same link f t from to zero most = refl
    forecast-same link f t from to (suc k) most =
        let teller : publisher net link ≡ f = ap (λ (o : Option ℕ). unwrap_or o 0) from in
        ap (told_in net k link) (elim (cases_eq f n) [
          | inr other ↦ sym (put-node made round n c k (publisher net link) (λ e. other (sym teller ∙ e)))
          | inl own ↦
              let early : version_at (board_steps net) p link (length p) ≤ round = not-yet net network p round way link f t from to (subst (λ m. count m way.part ≤ length (heard_links net m)) (sym own) few) in
              sym (put-round made round n c k (publisher net link) (λ e. omega arith))
        ])

    shown-same : (x m : ℕ) → x < round * net.run.step → shown_by net made x m ≡ shown_by net committed x m
    shown-same x m less = ap (λ (c : Commitment). sign_at c.line x) (sym (put-round made round n c (x / net.run.step) m (λ e. let z = div_below x net.run.step round network.outline.run.step.0 less in omega arith)))

    pub commit-on : IsRunning net arrivals heard committed p round boards world plans
    commit-on = record {
      commits = λ r m less below. commits-moved net network (arriving_of arrivals) made committed heard heard r m (λ s k before inside. before-same s k (omega arith) inside) below refl (before-same r m less below) (is.commits r m less below);
      along = λ place link inside step.
          let ends = ends-at net network p round way place link inside step in
          let v : ℕ = version_at (board_steps net) p link place in
          subst (Contains (heard (round_at (board_steps net) p place) (get_or p place 0))) (ap (λ (f : List Row). record { link = link; version = v; forecast = f }) (forecast-same link ends.teller (get_or p place 0) ends.from ends.to v (version-rises (board_steps net) p link place (length p) (omega arith))))
          (is.along place link inside step);
      boards_are = record {
        all = is.boards_are.all;
        versions = is.boards_are.versions;
        forecasts = λ l f t d from to. is.boards_are.forecasts l f t d from to ∙ forecast-same l f t from to (version_at (board_steps net) p l (length p)) (omega arith);
      };
      second = is.second;
      stands = stands-at-nodes net network (arriving_of arrivals) (shown_by net made) (shown_by net committed) world (λ x m less below. shown-same x m (omega (arith, is.second))) is.stands;
      planned = is.planned ∙ plans-same net heard heard made committed round (λ r m less below. refl) before-same;
    }
