-- How far nodes and links have come along a history.
use Rattle.std.proofs.Common.{◌≡◌, ℕ, ◌+◌, ◌/◌, ◌%◌, ◌<◌, ◌≤◌, cond, List, [], ◌∷◌, ◌++◌, length, get_or, take, drop, set, map, is_some, All, Vec, Global, ◌==◌, eq-eqb, ne_eqb, refl, sym, ap, ◌∙◌, subst, inl, inr, arith}
use Rattle.std.proofs.lemmas.Bool.{cases_eq, cases_lt}
use Rattle.std.proofs.lemmas.List.{get_or-map, get_or-set_same, get_or-set_other, get_or_default, length-map, length-set, length-take, map-append, take_more}
use Rattle.std.proofs.lemmas.List.Elements.{All-append, All-filter, All-map}
use Rattle.std.proofs.lemmas.List.Sums.{count_by-le-length}
use Rattle.std.proofs.lemmas.List.FromFn.{get_or-map-range_with_len, length-range_with_len, map-range_with_len_more}
use Rattle.std.specs.List.{range_with_len}
use Rattle.net_parts.specs.Limits.{most_links}
use Rattle.net_parts.specs.Numbers.{Net}
use Rattle.net_parts.specs.Outline.{link_at}
use Rattle.road_net.specs.Network.{IsNetwork, exit_links, heard_links, told_links}
use Rattle.histories.specs.Histories.{count, IsLawful, round_at, step_at, version_at}
use Rattle.histories.specs.Steps.{board_steps, is_publish_of}
use Rattle.histories.specs.declared.steps.BoardStep.{BoardStep}
use Rattle.histories.specs.declared.steps.BoardStep.TheVariants.{Read, Publish}
use Rattle.histories.proofs.Counts.{count-append, count-else, count-one}
use Rattle.histories.proofs.HowFar.{lawful-cut}
use Rattle.histories.proofs.Players.{are-steps}
use Rattle.histories.proofs.Prefixes.{beginning}
use Rattle.histories.proofs.Rounds.{next}
use Rattle.histories.proofs.StepLaws.{steps-beyond}
use Rattle.histories.proofs.Versions.{version-more}
use Rattle.intersection_actor.proofs.UsedLinks.{at-side, heard-exist, links-named}
use Rattle.delay_report.specs.Reports.{step_record, step_record_at}
use Rattle.delay_report.specs.Walks.{HasWalkedTo, link_of}
use Rattle.delay_report.specs.declared.steps.Walk.{Walk}

-- the steps of one node more
pub all-more : (f : ℕ → List BoardStep) (n : ℕ) (old new : List (Vec BoardStep Global)) (own : Vec BoardStep Global) → map (λ (v : Vec BoardStep Global). v.items) old ≡ map f (range_with_len 0 n) → new ≡ old ++ own ∷ [] → own.items ≡ f n
    → map (λ (v : Vec BoardStep Global). v.items) new ≡ map f (range_with_len 0 (n + 1))
all-more f n old new own so_far is owned =
    ap (map (λ (v : Vec BoardStep Global). v.items)) is ∙ map-append (λ (v : Vec BoardStep Global). v.items) old (own ∷ []) ∙ ap (λ l. l ++ own.items ∷ []) so_far ∙ ap (λ o. map f (range_with_len 0 n) ++ o ∷ []) owned
    ∙ sym (map-range_with_len_more f 0 n n (omega arith))

module _ (net : Net) (network : IsNetwork net) (node : ℕ) where
  exits-exist : All (λ l. l < length net.link_names) (exit_links net node)
  exits-exist = links-named net network (exit_links net node) (search (at-side))

  -- the links of a node's steps are there
  pub step-links : All (λ s. link_of s < length net.link_names) (board_steps net node)
  step-links =
      All-append (λ s. link_of s < length net.link_names) (map Read (heard_links net node)) (map Publish (told_links net node))
      (All-map (λ s. link_of s < length net.link_names) Read (heard_links net node) (heard-exist net network node))
      (All-map (λ s. link_of s < length net.link_names) Publish (told_links net node) (All-filter (λ l. is_some (link_at net l).to) (λ l. l < length net.link_names) (exit_links net node) exits-exist))

  pub step-link : (k : ℕ) → k < length (board_steps net node) → link_of (get_or (board_steps net node) k (Read 0)) < length net.link_names
  step-link k inside = step-links k (Read 0) inside

module _ (net : Net) (network : IsNetwork net) (h : List ℕ) (lawful : IsLawful net h) (i : ℕ) (inside : i < length h) where
  -- the node at a place has steps, and is a node
  pub has-steps : 0 < length (board_steps net (get_or h i 0))
  has-steps =
      let (done, way) = beginning (board_steps net) (length net.node_names) (λ n past. steps-beyond net network n past) net.run.rounds h lawful i (omega arith) in
      let (less, room) = next (board_steps net) net.run.rounds done (take i h) way (get_or h i 0) (drop (i + 1) h) (lawful-cut net h i inside lawful) in
      omega (arith, room)

  pub node-below : get_or h i 0 < length net.node_names
  node-below = elim (cases_lt (get_or h i 0) (length net.node_names)) [
    | inl less ↦ less
    | inr past ↦ (let none : length (board_steps net (get_or h i 0)) ≡ 0 = ap length (steps-beyond net network (get_or h i 0) past) in absurd (omega (arith, none, has-steps)))
  ]

-- what the walk's parts are at a place
module _ (net : Net) (h : List ℕ) (lawful : IsLawful net h) (i : ℕ) (inside : i < length h) (walk : Walk) (stands : HasWalkedTo net h i walk) where
  pub below : get_or h i 0 < length net.node_names
  below = node-below net stands.network h lawful i inside

  steps-long : length walk.steps.items ≡ length net.node_names
  steps-long = sym (length-map walk.steps.items (λ own. own.items)) ∙ ap length stands.steps ∙ length-map (range_with_len 0 (length net.node_names)) (board_steps net) ∙ length-range_with_len 0 (length net.node_names)

  pub in-steps : get_or h i 0 < length walk.steps.items
  in-steps = omega (arith, below, steps-long)

  pub in-taken : get_or h i 0 < length walk.taken.items
  in-taken = omega (arith, below, stands.nodes)

  pub own-is : (own : Vec BoardStep Global) → own ≡ get_or walk.steps.items (get_or h i 0) own → own.items ≡ board_steps net (get_or h i 0)
  own-is own at =
      ap (λ (v : Vec BoardStep Global). v.items) at ∙ sym (get_or-map (λ (v : Vec BoardStep Global). v.items) walk.steps.items (get_or h i 0) own own.items in-steps)
      ∙ ap (λ l. get_or l (get_or h i 0) own.items) stands.steps ∙ get_or-map-range_with_len (board_steps net) 0 (length net.node_names) (get_or h i 0) (get_or h i 0) own.items below (omega arith)

  pub taken-is : (taken : ℕ) → taken ≡ get_or walk.taken.items (get_or h i 0) taken → taken ≡ count (get_or h i 0) (take i h)
  taken-is taken at = at ∙ get_or_default walk.taken.items (get_or h i 0) taken 0 in-taken ∙ stands.taken (get_or h i 0) below

  pub taken-few : (taken : ℕ) → taken ≡ get_or walk.taken.items (get_or h i 0) taken → taken < length h
  taken-few taken at = omega (arith, taken-is taken at, count_by-le-length (λ m. m == get_or h i 0) (take i h), length-take i h)

  pub made-is : (link made : ℕ) → link < length net.link_names → made ≡ get_or walk.made.items link made → made ≡ version_at (board_steps net) h link i
  made-is link made exists at = at ∙ get_or_default walk.made.items link made 0 (omega (arith, exists, stands.links)) ∙ stands.made link exists

  pub made-few : (link made : ℕ) → link < length net.link_names → made ≡ get_or walk.made.items link made → made < length h
  made-few link made exists at = omega (arith, made-is link made exists at, count_by-le-length (λ before. is_publish_of link (step_at (board_steps net) h before)) (range_with_len 0 i), length-range_with_len 0 i)

  -- the next step of the node, from its steps and how many it has taken
  module _ (own : List BoardStep) (taken : ℕ) (owned : own ≡ board_steps net (get_or h i 0)) (counted : taken ≡ get_or walk.taken.items (get_or h i 0) taken) where
    pub some-own : 0 < length own
    some-own = omega (arith, has-steps net stands.network h lawful i inside, ap length owned)

    pub own-few : length own ≤ most_links
    own-few = omega (arith, (are-steps net stands.network).few (get_or h i 0), ap length owned)

    pub round-is : (round : ℕ) → round ≡ taken / length own → round ≡ round_at (board_steps net) h i
    round-is round at = at ∙ ap (λ (o : List BoardStep). taken / length o) owned ∙ ap (λ t. t / length (board_steps net (get_or h i 0))) (taken-is taken counted)

    pub step-is : (step : BoardStep) → step ≡ get_or own (taken % length own) (Read 0) → step ≡ step_at (board_steps net) h i
    step-is step at = at ∙ ap (λ (o : List BoardStep). get_or o (taken % length o) (Read 0)) owned ∙ ap (λ t. get_or (board_steps net (get_or h i 0)) (t % length (board_steps net (get_or h i 0))) (Read 0)) (taken-is taken counted)

    pub link-exists : (step : BoardStep) → step ≡ get_or own (taken % length own) (Read 0) → link_of step < length net.link_names
    link-exists step at =
        let place : ℕ = taken % length own in
        let exists = step-link net stands.network (get_or h i 0) place (omega (arith, some-own, ap length owned)) in
        subst (λ s. link_of s < length net.link_names) (sym (at ∙ ap (λ (o : List BoardStep). get_or o place (Read 0)) owned)) exists

  taken-more : (node : ℕ) → node < length net.node_names → get_or (set walk.taken.items (get_or h i 0) (count (get_or h i 0) (take i h) + 1)) node 0 ≡ count node (take (i + 1) h)
  taken-more node exists = elim (cases_eq node (get_or h i 0)) [
    | inl same ↦
        ap (λ m. get_or (set walk.taken.items (get_or h i 0) (count (get_or h i 0) (take i h) + 1)) m 0) same ∙ get_or-set_same walk.taken.items (get_or h i 0) (count (get_or h i 0) (take i h) + 1) 0 in-taken
        ∙ ap (λ k. count (get_or h i 0) (take i h) + k) (sym (count-one (get_or h i 0))) ∙ sym (counted-more (get_or h i 0)) ∙ ap (λ m. count m (take (i + 1) h)) (sym same)
    | inr other ↦
        get_or-set_other walk.taken.items (get_or h i 0) node (count (get_or h i 0) (take i h) + 1) 0 other ∙ stands.taken node exists
        ∙ (let none : count node (get_or h i 0 ∷ []) ≡ 0 = count-else (get_or h i 0) node [] (λ e. other (sym e)) in let more = counted-more node in omega (arith, none, more))
  ]
    where
      counted-more : (m : ℕ) → count m (take (i + 1) h) ≡ count m (take i h) + count m (get_or h i 0 ∷ [])
      counted-more m = ap (count m) (take_more h i 0 inside) ∙ count-append m (take i h) (get_or h i 0 ∷ [])

  -- past a reading, and past a publishing
  module _ (taken : Vec ℕ Global) (counted : taken.items ≡ set walk.taken.items (get_or h i 0) (count (get_or h i 0) (take i h) + 1)) where
    pub stands-read : (link : ℕ) → step_at (board_steps net) h i ≡ Read link → HasWalkedTo net h (i + 1) (record { steps = walk.steps; taken = taken; made = walk.made })
    stands-read link is = record {
      network = stands.network;
      steps = stands.steps;
      nodes = ap length counted ∙ length-set walk.taken.items (get_or h i 0) (count (get_or h i 0) (take i h) + 1) ∙ stands.nodes;
      links = stands.links;
      taken = λ node exists. ap (λ l. get_or l node 0) counted ∙ taken-more node exists;
      made = λ l exists. stands.made l exists ∙ sym (version-more (board_steps net) h l i ∙ ap (λ s. version_at (board_steps net) h l i + cond (is_publish_of l s) 1 0) is ∙ (let e : version_at (board_steps net) h l i + 0 ≡ version_at (board_steps net) h l i = omega arith in e));
    }

    pub stands-published : (link : ℕ) (made : Vec ℕ Global) → link < length net.link_names → step_at (board_steps net) h i ≡ Publish link → made.items ≡ set walk.made.items link (version_at (board_steps net) h link i + 1)
        → HasWalkedTo net h (i + 1) (record { steps = walk.steps; taken = taken; made = made })
    stands-published link made exists is grown = record {
      network = stands.network;
      steps = stands.steps;
      nodes = ap length counted ∙ length-set walk.taken.items (get_or h i 0) (count (get_or h i 0) (take i h) + 1) ∙ stands.nodes;
      links = ap length grown ∙ length-set walk.made.items link (version_at (board_steps net) h link i + 1) ∙ stands.links;
      taken = λ node exists. ap (λ l. get_or l node 0) counted ∙ taken-more node exists;
      made = λ l there. ap (λ ms. get_or ms l 0) grown ∙ made-more l there ∙ sym (version-more (board_steps net) h l i ∙ ap (λ s. version_at (board_steps net) h l i + cond (is_publish_of l s) 1 0) is);
    }
      where
        made-more : (l : ℕ) → l < length net.link_names → get_or (set walk.made.items link (version_at (board_steps net) h link i + 1)) l 0 ≡ version_at (board_steps net) h l i + cond (link == l) 1 0
        made-more l there = elim (cases_eq l link) [
          | inl same ↦
              ap (λ k. get_or (set walk.made.items link (version_at (board_steps net) h link i + 1)) k 0) same ∙ get_or-set_same walk.made.items link (version_at (board_steps net) h link i + 1) 0 (omega (arith, exists, stands.links))
              ∙ ap (λ b. version_at (board_steps net) h link i + cond b 1 0) (sym (eq-eqb link link refl)) ∙ ap (λ k. version_at (board_steps net) h k i + cond (link == k) 1 0) (sym same)
          | inr other ↦
              get_or-set_other walk.made.items link l (version_at (board_steps net) h link i + 1) 0 other ∙ stands.made l there
              ∙ (let e : version_at (board_steps net) h l i ≡ version_at (board_steps net) h l i + 0 = omega arith in e) ∙ ap (λ b. version_at (board_steps net) h l i + cond b 1 0) (sym (ne_eqb link l (λ e. other (sym e))))
        ]

-- the record of a reading, and of a publishing
module _ (net : Net) (h : List ℕ) (i round link version : ℕ) (in_round : round ≡ round_at (board_steps net) h i) where
  pub read-record : step_at (board_steps net) h i ≡ Read link → version ≡ version_at (board_steps net) h link i → step_record net round (get_or h i 0) (λ l. version) (Read link) ≡ step_record_at net h i
  read-record is made =
      ap (λ r. step_record net r (get_or h i 0) (λ l. version) (Read link)) in_round ∙ ap (λ v. step_record net (round_at (board_steps net) h i) (get_or h i 0) (λ l. v) (Read link)) made
      ∙ ap (step_record net (round_at (board_steps net) h i) (get_or h i 0) (λ l. version_at (board_steps net) h l i)) (sym is)

  pub published-record : step_at (board_steps net) h i ≡ Publish link → version ≡ version_at (board_steps net) h link i → step_record net round (get_or h i 0) (λ l. version) (Publish link) ≡ step_record_at net h i
  published-record is made =
      ap (λ r. step_record net r (get_or h i 0) (λ l. version) (Publish link)) in_round ∙ ap (λ v. step_record net (round_at (board_steps net) h i) (get_or h i 0) (λ l. v) (Publish link)) made
      ∙ ap (step_record net (round_at (board_steps net) h i) (get_or h i 0) (λ l. version_at (board_steps net) h l i)) (sym is)
