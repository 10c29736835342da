-- What holds of every world, whatever moves in a second: nothing is lost, and all amounts are within bounds.
use Rattle.std.proofs.Common.{◌≡◌, ◌≢◌, ℕ, zero, suc, ◌+◌, ◌-◌, ◌*◌, ◌<◌, ◌≤◌, List, [], Option, Some, None, IfSome, All, AllPairs, length, get_or, slice_index, refl, sym, ap, subst, ◌∙◌, inl, inr, add-one, arith}
use Rattle.std.proofs.lemmas.Bool.{cases_lt}
use Rattle.std.proofs.lemmas.Bool.Decides.{eqb_tells}
use Rattle.std.proofs.lemmas.List.{get_or_past}
use Rattle.std.proofs.lemmas.List.Elements.{All-get_or}
use Rattle.phase_plan.specs.Phases.{phase_at, no_phase, IsOwnRing, IsRing, IsPhase}
use Rattle.phase_plan.specs.declared.Phase.{Phase}
use Rattle.net_parts.specs.declared.roads.Link.{Link}
use Rattle.net_parts.specs.declared.roads.Turn.{Turn}
use Rattle.net_parts.specs.Numbers.{Net, no_link}
use Rattle.net_parts.specs.Outline.{link_at, turns_at, IsLink, ArePhaseLinks, AreTurns}
use Rattle.road_net.specs.Joins.{split_of, HasShares}
use Rattle.road_net.specs.Network.{IsNetwork}
use Rattle.road_net.specs.Totals.{total}
use Rattle.road_net.proofs.TotalLaws.{total-same, total-add}
use Rattle.net_simulator.specs.Flow.{Cumulative, queue, waiting}
use Rattle.net_simulator.specs.Moves.{Moves}
use Rattle.net_simulator.specs.Steps.{goes_out, all_of}
use Rattle.net_simulator.specs.Sums.{outward, total_left, on_road, delay}
use Rattle.net_simulator.proofs.Sums.{total-most}
use Rattle.net_simulator.proofs.Sound.{IsSound, AreMoved, next-one, is-sound}
use Rattle.net_simulator.proofs.Keeping.{HasBounds}
use Rattle.net_simulator.proofs.Conserving.{come, none-lost, grown, left-entered, reached-entered, on-link, waiting-on}

-- no phase loses more; where there is none, nothing is lost
loss-of-plan : (plan : List Phase) (k : ℕ) → IsRing plan → (phase_at plan k).loss ≤ 10
loss-of-plan plan k is = elim (cases_lt k (length plan)) [
  | inl inside ↦ (All-get_or IsPhase plan k no_phase inside is.phases).loss.0
  | inr past ↦ (let e = ap (λ (p : Phase). p.loss) (get_or_past plan k no_phase past) in omega (arith, e))
]

loss-most : (plans : List (List Phase)) (n k : ℕ) → All IsOwnRing plans → (phase_at (get_or plans n []) k).loss ≤ 10
loss-most plans n k all = elim (cases_lt n (length plans)) [
  | inl there ↦ loss-of-plan (get_or plans n []) k (All-get_or IsOwnRing plans n [] there all).ring
  | inr past ↦ (let e = ap (λ (plan : List Phase). (phase_at plan k).loss) (get_or_past plans n [] past) in omega (arith, e))
]

-- a link gives way to links that there are
yields-below : (lists : List (List ℕ)) (links l : ℕ) → All (ArePhaseLinks links) lists → All (λ m. m < links) (get_or lists l [])
yields-below lists links l all = elim (cases_lt l (length lists)) [
  | inl there ↦ (All-get_or (ArePhaseLinks links) lists l [] there all).exist
  | inr past ↦ subst (All (λ m. m < links)) (sym (get_or_past lists l [] past)) (λ i d h. absurd (omega arith))
]

-- a node at the end of a link is one of the nodes
below-some : (to : Option ℕ) (node n : ℕ) → IfSome to (λ k. k < n) → to ≡ Some node → node < n
below-some to node n below is = rw is at below

pub bounds-of : (net : Net) → IsNetwork net → HasBounds net
bounds-of net network =
    let link : (l : ℕ) → l < length net.link_names → IsLink (length net.node_names) (link_at net l) = λ l h. All-get_or (IsLink (length net.node_names)) net.links l no_link (let e = network.outline.road_count in omega arith) network.outline.links in
    let ends : (l node : ℕ) → l < length net.link_names → (link_at net l).to ≡ Some node → node < length net.node_names = λ l node h to. below-some (link_at net l).to node (length net.node_names) (link l h).to to in
    record {
      some = λ l h. (link l h).travel.0;
      most = λ l h. (link l h).travel.1;
      ends = ends;
      losses = λ node k. loss-most net.plans node k network.outline.plans;
      yields = λ l. yields-below net.yields (length net.link_names) l network.outline.yields;
    }

pub parts-of : (net : Net) → IsNetwork net → (l : ℕ) → l < length net.link_names → HasShares net.links (turns_at net l) (link_at net l).to × AreTurns (length net.link_names) (turns_at net l)
parts-of net network l h =
    let there : l < length net.turns = (let f = network.outline.turn_count in omega arith) in
    let turns = All-get_or (AreTurns (length net.link_names)) net.turns l [] there network.outline.turns in
    (network.joins.shares l (let e = network.outline.road_count in omega arith), turns)

-- the turns of a link lead into links that differ
differ-in : (links : List Link) (turns : List Turn) (to : Option ℕ) → HasShares links turns to → AllPairs (λ s t. s.exit ≢ t.exit) turns
differ-in links turns None none = λ i j d less b. absurd (omega (arith, ap length none))
differ-in links turns (Some node) shares = shares.differ

pub exits-differ : (net : Net) → IsNetwork net → (l : ℕ) → l < length net.link_names → AllPairs (λ s t. s.exit ≢ t.exit) (turns_at net l)
exits-differ net network l h = differ-in net.links (turns_at net l) (link_at net l).to (parts-of net network l h).0

outward-add : (to : Option ℕ) (a b : ℕ) → outward to (a + b) ≡ outward to a + outward to b
outward-add None a b = refl
outward-add (Some node) a b = omega arith

module _ (net : Net) (network : IsNetwork net) (moves : ℕ → Moves) (past : ℕ → ℕ → ℕ → Cumulative) (course : AreMoved net moves past) where
  travels : (l : ℕ) → l < length net.link_names → 1 ≤ (link_at net l).travel
  travels l h = (bounds-of net network).some l h

  pub are-sound : (n : ℕ) → IsSound net (past n) n
  are-sound n = is-sound net moves past course travels n

  -- what is on the links and what has left the network is what came from outside
  pub all-there : (n : ℕ) → on_road net (past n) n + total_left net (past n) n ≡ come net moves n
  all-there n = none-lost net (parts-of net network) moves past course n (λ l h. left-entered net (past n) n (are-sound n) l n h (omega arith))

  -- the first k seconds are the same later on
  pub past-still : (n k l : ℕ) → k ≤ n → past n k l ≡ past k k l
  past-still zero k l h = let e : k ≡ 0 = omega arith in ap (λ n. past n k l) (sym e)
  past-still (suc n) k l h = elim (eqb_tells k (suc n)) [
    | inl p ↦ ap (λ m. past m k l) (sym p.1)
    | inr q ↦ let less : k ≤ n = (let ne = q.1 in omega arith) in (course.next n).kept k l less ∙ past-still n k l less
  ]

  pub queue-still : (n k l : ℕ) → k ≤ n → queue net (past n) k l ≡ queue net (past k) k l
  queue-still n k l h =
      let j : ℕ = k - (link_at net l).travel in
      let one = ap (λ (q : Cumulative). q.entered) (past-still n j l (omega arith) ∙ sym (past-still k j l (omega arith))) in
      let two = ap (λ (q : Cumulative). q.left) (past-still n k l h) in
      omega (arith, one, two)

  -- one more second of the whole network
  pub gone-more : (x : ℕ) (lv : List ℕ) → ((l : ℕ) → l < length net.link_names → slice_index lv l ≡ (moves x).goes l) → total_left net (past (x + 1)) (x + 1) ≡ total_left net (past x) x + goes_out net lv
  gone-more x lv leaves =
      total-same (λ l. outward (link_at net l).to (past (x + 1) (x + 1) l).left) (λ l. outward (link_at net l).to (past x x l).left + outward (link_at net l).to (slice_index lv l)) (length net.link_names)
      (λ l h. ap (λ (q : Cumulative). outward (link_at net l).to q.left) ((next-one net moves past course x).next l h) ∙ ap (λ d. outward (link_at net l).to ((past x x l).left + d)) (sym (leaves l h)) ∙ outward-add (link_at net l).to (past x x l).left (slice_index lv l))
      ∙ total-add (λ l. outward (link_at net l).to (past x x l).left) (λ l. outward (link_at net l).to (slice_index lv l)) (length net.link_names)

  pub delay-more : (x l : ℕ) → delay net (past (x + 1)) (x + 1) l ≡ delay net (past x) x l + queue net (past (x + 1)) (x + 1) l
  delay-more x l =
      let same = total-same (λ y. queue net (past (x + 1)) (y + 1) l) (λ y. queue net (past x) (y + 1) l) x (λ y b. queue-still (x + 1) (y + 1) l (omega arith) ∙ sym (queue-still x (y + 1) l (omega arith))) in
      omega (arith, same, ap (total (λ y. queue net (past (x + 1)) (y + 1) l)) (add-one x))

  pub delays-more : (x : ℕ) (qs : List ℕ) → ((l : ℕ) → l < length net.link_names → slice_index qs l ≡ queue net (past (x + 1)) (x + 1) l)
      → total (delay net (past (x + 1)) (x + 1)) (length net.link_names) ≡ total (delay net (past x) x) (length net.link_names) + all_of qs (length net.link_names)
  delays-more x qs queues =
      total-same (delay net (past (x + 1)) (x + 1)) (λ l. delay net (past x) x l + slice_index qs l) (length net.link_names) (λ l h. delay-more x l ∙ ap (λ q. delay net (past x) x l + q) (sym (queues l h)))
      ∙ total-add (delay net (past x) x) (λ l. slice_index qs l) (length net.link_names)

module _ (net : Net) (network : IsNetwork net) (moves : ℕ → Moves) (past : ℕ → ℕ → ℕ → Cumulative) (course : AreMoved net moves past) (few : (n : ℕ) → come net moves n ≤ 2000000000) where
  -- what is on the links at any time
  pub road-most : (n : ℕ) → on_road net (past n) n ≤ 2000000000
  road-most n = let most = few n in omega (arith, all-there net network moves past course n, most)

  pub out-most : (n : ℕ) → total_left net (past n) n ≤ 2000000000
  out-most n = let most = few n in omega (arith, all-there net network moves past course n, most)

  pub waits-most : (n l : ℕ) → l < length net.link_names → waiting net (past n) n l ≤ 2000000000
  waits-most n l h = omega (arith, road-most n, waiting-on net (past n) n (are-sound net network moves past course n) l h (travels net network moves past course l h))

  -- what enters a link in a second
  pub enters-most : (x l : ℕ) → l < length net.link_names → (moves x).comes l + total (λ k. split_of (turns_at net k) ((moves x).goes k) l) (length net.link_names) ≤ 2000000000
  enters-most x l h =
      let sound = are-sound net network moves past course in
      let next = ap (λ (q : Cumulative). q.entered) ((course.next x).next l h) in
      let on = on-link net (past (suc x)) (suc x) (sound (suc x)) l h in
      let most = road-most (suc x) in
      let left = (sound (suc x)).within (suc x) l (omega arith) h in
      let some = travels net network moves past course l h in
      let back = ap (λ (q : Cumulative). q.entered) ((course.next x).kept (suc x - (link_at net l).travel) l (omega arith)) in
      let before : (past x (suc x - (link_at net l).travel) l).entered ≤ (past x x l).entered =
      (let e : (suc x - (link_at net l).travel) + (x - (suc x - (link_at net l).travel)) ≡ x = omega arith in
      omega (arith, ap (λ i. (past x i l).entered) e, grown net (past x) x (sound x) l (suc x - (link_at net l).travel) (x - (suc x - (link_at net l).travel)) h (omega arith))) in
      omega (arith, next, on, most, left, back, before, ap (λ i. (past (suc x) i l).entered) (add-one x))

  pub entered-most : (n l : ℕ) → l < length net.link_names → (past n n l).entered ≤ n * 2000000000
  entered-most zero l h = omega (arith, ap (λ (q : Cumulative). q.entered) (course.first l))
  entered-most (suc x) l h =
      let next = ap (λ (q : Cumulative). q.entered) ((course.next x).next l h) in
      omega (arith, next, enters-most x l h, entered-most x l h, ap (λ i. (past (suc x) i l).entered) (add-one x))

  -- a queue is part of what is on the links
  pub queues-most : (n k l : ℕ) → k ≤ n → l < length net.link_names → queue net (past n) k l ≤ 2000000000
  queues-most n k l h inside =
      let sound = are-sound net network moves past course k in
      omega (arith, queue-still net network moves past course n k l h, road-most k, on-link net (past k) k sound l inside, reached-entered net (past k) k sound l k inside (omega arith))

  pub delay-within : (n l : ℕ) → l < length net.link_names → delay net (past n) n l ≤ n * 2000000000
  delay-within n l inside = total-most (λ x. queue net (past n) (x + 1) l) n (λ x b. queues-most n (x + 1) l (omega arith) inside)
