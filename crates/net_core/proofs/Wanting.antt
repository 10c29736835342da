-- What the nodes of a core want, and when it is whose turn.
use Rattle.std.proofs.Common.{◌≡◌, ◌≢◌, ℕ, ◌+◌, ◌-◌, ◌*◌, ◌<◌, ◌≤◌, cond, eqb, List, [], Some, length, get_or, map, refl, sym, ap, subst, ◌∙◌, inl, inr, arith, eq-eqb, ne_eqb, append-nil}
use Rattle.std.specs.Prelude.{slice_get}
use Rattle.std.proofs.lemmas.Bool.{cases_lt}
use Rattle.std.proofs.lemmas.List.{get_or_append_left, get_or-map, length-map}
use Rattle.std.proofs.lemmas.Option.{slice_get-get_or, slice_get_past}
use Rattle.std.proofs.Math.Nat.{mul-le-mul_right}
use Rattle.arrivals.specs.Amounts.{Amounts}
use Rattle.histories.specs.Histories.{count, HasRounds, IsLawful, IsUnderWay}
use Rattle.histories.specs.Steps.{board_steps}
use Rattle.histories.specs.declared.steps.BoardStep.{BoardStep}
use Rattle.histories.specs.declared.steps.BoardStep.TheVariants as steps
use Rattle.histories.proofs.Counts.{count-append}
use Rattle.histories.proofs.Rounds.{all-done, rounds-count}
use Rattle.histories.proofs.StepLaws.{step-count}
use Rattle.intersection_actor.specs.Acting.{Acting}
use Rattle.intersection_actor.specs.declared.records.PlanRecord.{PlanRecord}
use Rattle.intersection_actor.specs.declared.records.Want.{Want}
use Rattle.intersection_actor.specs.declared.records.Want.TheVariants.{Done}
use Rattle.net_parts.specs.Numbers.{Net}
use Rattle.road_net.specs.Network.{IsNetwork, heard_links, told_links}
use Rattle.net_core.specs.Cores.{IsWanted, wanted_step}
use Rattle.net_core.specs.States.{AreBetween, AreGoing, AreInRound, IsOpen, Plays}
use Rattle.net_core.specs.declared.parts.Parts.{Parts}
use Rattle.net_core.proofs.Steps.{reading-next, telling-next, telling-none, told-step}

module _ (net : Net) (h : List ℕ) where
  -- how often a node stands in a history under way
  count-under : (done : ℕ) (way : IsUnderWay (board_steps net) net.run.rounds done h) (n : ℕ) → count n h ≡ done * length (board_steps net n) + count n way.part
  count-under done way n = ap (count n) way.whole ∙ count-append n way.early way.part ∙ ap (λ c. c + count n way.part) (rounds-count (board_steps net) done way.early way.rounds_done n)

  -- as many rounds are done of it as are done
  not-fewer : (few many : ℕ) → IsUnderWay (board_steps net) net.run.rounds few h → IsUnderWay (board_steps net) net.run.rounds many h → few < many → ⊥
  not-fewer few many one two less =
      let (m, fewer) = one.unfinished (let most = two.most in omega arith) in
      by m fewer
    where
      by : (m : ℕ) → count m one.part < length (board_steps net m) → ⊥
      by m fewer =
          let grown : (few + 1) * length (board_steps net m) ≤ many * length (board_steps net m) = mul-le-mul_right {m = few + 1} {n = many} (length (board_steps net m)) (omega arith) in
          let one_more : (few + 1) * length (board_steps net m) ≡ few * length (board_steps net m) + length (board_steps net m) = omega arith in
          omega (arith, grown, one_more, count-under few one m, count-under many two m)

  same-done : (a b : ℕ) → IsUnderWay (board_steps net) net.run.rounds a h → IsUnderWay (board_steps net) net.run.rounds b h → a ≡ b
  same-done a b one two = elim (cases_lt a b) [
    | inl less ↦ absurd (not-fewer a b one two less)
    | inr most ↦ elim (cases_lt b a) [
      | inl less ↦ absurd (not-fewer b a two one less)
      | inr least ↦ omega arith
    ]
  ]

  abbrev wanted-at : ℕ → ℕ → ℕ → Want
  wanted-at n done c = cond (eqb done net.run.rounds) Done (wanted_step (slice_get (board_steps net n) c))

  -- a node wants one thing
  pub wanted-once : (n : ℕ) (a b : Want) → IsWanted net h n a → IsWanted net h n b → a ≡ b
  wanted-once n a b one two =
      let done : one.done ≡ two.done = same-done one.done two.done one.way two.way in
      let same : count n one.way.part ≡ count n two.way.part = (let e : one.done * length (board_steps net n) ≡ two.done * length (board_steps net n) = ap (λ d. d * length (board_steps net n)) done in omega (arith, e, count-under one.done one.way n, count-under two.done two.way n)) in
      let first : a ≡ wanted-at n one.done (count n one.way.part) = one.is in
      let second : b ≡ wanted-at n two.done (count n two.way.part) = two.is in
      first ∙ ap (λ d. wanted-at n d (count n one.way.part)) done ∙ ap (wanted-at n two.done) same ∙ sym second

-- the step after the first ones
read-step : (net : Net) (n c : ℕ) → c < length (heard_links net n) → slice_get (board_steps net n) c ≡ Some (steps.Read (get_or (heard_links net n) c 0))
read-step net n c inside =
    slice_get-get_or (board_steps net n) c (steps.Read 0) (omega (arith, step-count net n))
    ∙ ap (λ (s : BoardStep). Some s) (get_or_append_left (map steps.Read (heard_links net n)) (map steps.Publish (told_links net n)) (steps.Read 0) c (omega (arith, length-map (heard_links net n) steps.Read)) ∙ get_or-map steps.Read (heard_links net n) c 0 (steps.Read 0) inside)

publish-step : (net : Net) (n c : ℕ) → length (heard_links net n) ≤ c → c - length (heard_links net n) < length (told_links net n)
    → slice_get (board_steps net n) c ≡ Some (steps.Publish (get_or (told_links net n) (c - length (heard_links net n)) 0))
publish-step net n c past inside = slice_get-get_or (board_steps net n) c (steps.Read 0) (omega (arith, step-count net n)) ∙ ap (λ (s : BoardStep). Some s) (told-step net n c past inside)

module _ (net : Net) (network : IsNetwork net) (arrivals : Amounts) (h : List ℕ) (plans : List PlanRecord) (p : Parts) where
  module _ (i : AreInRound net arrivals h plans p) where
    -- a node that plays wants its next step
    pub plays-wants : (n : ℕ) (a : Acting) → Plays net arrivals i.heard i.made p.round (count n i.part) n a → a.want ≡ wanted_step (slice_get (board_steps net n) (count n i.part))
    plays-wants n a plays = elim plays.stage [
      | inl x ↦ x.listens.want ∙ reading-next (heard_links net n) (count n i.part) x.more ∙ sym (ap wanted_step (read-step net n (count n i.part) x.more))
      | inr x ↦
          let enough = x.enough in
          elim (cases_lt (count n i.part - length (heard_links net n)) (length (told_links net n))) [
            | inl inside ↦ x.want ∙ telling-next (told_links net n) (count n i.part - length (heard_links net n)) inside ∙ sym (ap wanted_step (publish-step net n (count n i.part) enough inside))
            | inr past ↦ x.want ∙ telling-none (told_links net n) (count n i.part - length (heard_links net n)) past ∙ sym (ap wanted_step (slice_get_past (board_steps net n) (count n i.part) (omega (arith, step-count net n))))
          ]
    ]

    -- one that wants something has steps left
    open-fewer : (n : ℕ) (a : Acting) → Plays net arrivals i.heard i.made p.round (count n i.part) n a → a.want ≢ Done → count n i.part < length (board_steps net n)
    open-fewer n a plays more = elim (cases_lt (count n i.part) (length (board_steps net n))) [
      | inl fewer ↦ fewer
      | inr past ↦ absurd (more (plays-wants n a plays ∙ ap wanted_step (slice_get_past (board_steps net n) (count n i.part) past)))
    ]

    abbrev under-way : (n : ℕ) → count n i.part < length (board_steps net n) → IsUnderWay (board_steps net) net.run.rounds p.round h
    under-way n fewer = record {
      early = i.early;
      part = i.part;
      whole = i.whole;
      rounds_done = i.rounds_done;
      within = i.within;
      unfinished = λ less. (n, fewer);
      most = (let less = i.below in omega arith);
      over = λ e. absurd (let less = i.below in omega arith);
    }

    module _ (open_node : IsOpen p.actors.all.items) (d : Acting) where
      fewer-there : count open_node.node i.part < length (board_steps net open_node.node)
      fewer-there = (let there = open_node.there in open-fewer open_node.node (get_or p.actors.all.items open_node.node d) (i.plays open_node.node d (omega (arith, i.all))) (open_node.wants d))

      round-wanted : (n : ℕ) (a : Acting) → n < length net.node_names → a ≡ get_or p.actors.all.items n a → IsWanted net h n a.want
      round-wanted n a below is = record {
        done = p.round;
        way = under-way open_node.node fewer-there;
        is =
            plays-wants n a (subst (Plays net arrivals i.heard i.made p.round (count n i.part) n) (sym is) (i.plays n a below))
            ∙ sym (ap (λ b. cond b Done (wanted_step (slice_get (board_steps net n) (count n i.part)))) (ne_eqb p.round net.run.rounds (λ e. let less = i.below in omega arith)));
      }

      -- not all rounds are done
      pub round-lawless : IsLawful net h → ⊥
      round-lawless lawful = (let less = i.below in let e = all-done (board_steps net) net.run.rounds p.round h (under-way open_node.node fewer-there) lawful in omega arith)

  module _ (b : AreBetween net arrivals h plans p) (last : p.round ≡ net.run.rounds) where
    over-wanted : (n : ℕ) (a : Acting) → n < length net.node_names → a ≡ get_or p.actors.all.items n a → IsWanted net h n a.want
    over-wanted n a below is = record {
      done = p.round;
      way = record {
        early = h;
        part = [];
        whole = sym (append-nil h);
        rounds_done = b.rounds_done;
        within = λ m. omega arith;
        unfinished = λ less. absurd (omega arith);
        most = b.most;
        over = λ e. refl;
      };
      is =
          ap (λ (x : Acting). x.want) is ∙ (b.rests n a below).want
          ∙ sym (ap (λ t. cond t Done (wanted_step (slice_get (board_steps net n) 0))) (eq-eqb p.round net.run.rounds last));
    }

    pub over-lawful : IsLawful net h
    over-lawful = subst (λ r. HasRounds (board_steps net) r h) last b.rounds_done

  -- what a node of a core wants
  pub is-wanted : AreGoing net arrivals h plans p → (n : ℕ) (a : Acting) → n < length net.node_names → a ≡ get_or p.actors.all.items n a → IsWanted net h n a.want
  is-wanted going n a below is = elim going [
    | inl both ↦ round-wanted both.0 both.1 a n a below is
    | inr both ↦ over-wanted both.0 both.1 n a below is
  ]

  -- all rounds are done exactly where the history is lawful
  pub going-over : (d : Acting) → AreGoing net arrivals h plans p → p.round ≡ net.run.rounds → IsLawful net h
  going-over d going last = elim going [
    | inl both ↦ absurd (let less = both.0.below in omega arith)
    | inr both ↦ over-lawful both.0 both.1
  ]

  pub going-last : (d : Acting) → AreGoing net arrivals h plans p → IsLawful net h → p.round ≡ net.run.rounds
  going-last d going lawful = elim going [
    | inl both ↦ absurd (round-lawless both.0 both.1 d lawful)
    | inr both ↦ both.1
  ]

  -- where not all are done, the core is in a round
  pub going-in : AreGoing net arrivals h plans p → p.round ≢ net.run.rounds → AreInRound net arrivals h plans p
  going-in going other = elim going [
    | inl both ↦ both.0
    | inr both ↦ absurd (other both.1)
  ]

  pub going-there : AreGoing net arrivals h plans p → (n : ℕ) → n < length net.node_names → n < length p.actors.all.items
  going-there going n below = elim going [
    | inl both ↦ omega (arith, both.0.all)
    | inr both ↦ omega (arith, both.0.all)
  ]
