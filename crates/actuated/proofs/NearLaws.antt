-- What is near on the links of a phase is within what is sensed, and within all that is near.
use Rattle.std.proofs.Common.{◌≡◌, ◌≢◌, ℕ, suc, ◌+◌, ◌<◌, ◌≤◌, Bool, cond, nat_eq, List, [], ◌∷◌, Option, Some, Contains, find, map, set, slice_index, get_or-set_other, get_or-set_same, unwrap_or, length, get_or, take, sum, sum_by, All, AllPairs, ne_eqb, refl, sym, ap, ◌∙◌, inl, inr, arith}
use Rattle.std.proofs.lemmas.Bool.{cases_eq, eq-eqb}
use Rattle.std.proofs.lemmas.List.{get_or_default}
use Rattle.std.proofs.lemmas.List.Sums.{sum_by-cons, sum_by-le, sum_by-le-sum_by, sum_by-take-le, sum_by_more_le}
use Rattle.clusters.specs.Inflow.{no_sense, sense_of}
use Rattle.clusters.proofs.SeenLaws.{sense-within}
use Rattle.net_parts.specs.Numbers.{Net}
use Rattle.net_parts.specs.Outline.{link_at, phase_links_at, plan_at}
use Rattle.net_simulator.specs.Flow.{Cumulative}
use Rattle.net_simulator.specs.Senses.{link_sense, near_of, near_on, sense}
use Rattle.net_simulator.proofs.Seeing.{differing-part}
use Rattle.net_simulator.proofs.Sums.{range-same}
use Rattle.road_net.proofs.TotalLaws.{total-same}
use Rattle.road_net.specs.Network.{IsNetwork, entry_links}
use Rattle.road_net.specs.Totals.{total}
use Rattle.road_net.specs.Senses.{amount}
use Rattle.road_net.specs.declared.senses.LinkSense.{LinkSense}
use Rattle.road_net.specs.declared.senses.Sensed.{Sensed}
use Rattle.waits.proofs.Seen.{entry-of, found-of, link-inside}
use Rattle.actuated.specs.ActRuns.{calls_at}
use Rattle.actuated.specs.Rounds.{AreAmounts}
use Rattle.actuated.specs.Calls.{amount_near, calling, calls_by}

-- what is sensed of an entry link is what is seen of it
pub seen-of : (net : Net) (past : ℕ → ℕ → Cumulative) (n : ℕ) (links : List ℕ) (l : ℕ) → Contains links l → (let s : Sensed = record { now = n; links = map (link_sense net past n) links } in sense_of s l) ≡ link_sense net past n l
unfolding sense_of
seen-of net past n links l contained = ap (λ (o : Option LinkSense). unwrap_or o no_sense) (found-of net past n links l contained)

-- a sum over numbers that differ, of which one counts c and the others the same
others-same : (k : ℕ) (g h : ℕ → ℕ) → ((l : ℕ) → k ≢ l → g l ≡ h l) → (ls : List ℕ) → All (λ l. k ≢ l) ls → sum_by g ls ≡ sum_by h ls
others-same k g h other [] apart = refl
others-same k g h other (l ∷ ls) apart =
    omega (arith, sum_by-cons g l ls, sum_by-cons h l ls, other l (apart 0 l (omega arith)), others-same k g h other ls (λ i d b. apart (suc i) d (omega arith)))

one-more : (c k : ℕ) (g h : ℕ → ℕ) → ((l : ℕ) → k ≡ l → g l ≡ c) → ((l : ℕ) → k ≢ l → g l ≡ h l) → (ls : List ℕ) → AllPairs (λ a b. a ≢ b) ls → sum_by g ls ≤ c + sum_by h ls
one-more c k g h at other [] differ = omega arith
one-more c k g h at other (l ∷ ls) differ = elim (cases_eq k l) [
  | inl e ↦
      let rest = others-same k g h other ls (λ i d b f. differ 0 (suc i) d (omega arith) (omega arith) (sym e ∙ f)) in
      omega (arith, sum_by-cons g l ls, sum_by-cons h l ls, at l e, rest)
  | inr n ↦
      let rest = one-more c k g h at other ls (λ i j d less b. differ (suc i) (suc j) d (omega arith) (omega arith)) in
      omega (arith, sum_by-cons g l ls, sum_by-cons h l ls, other l n, rest)
]

-- what is sensed of a link, in a list
found : List LinkSense → ℕ → LinkSense
found xs l = unwrap_or (find (λ s. nat_eq s.link l) xs) no_sense

found-within : (xs : List LinkSense) (ls : List ℕ) → AllPairs (λ a b. a ≢ b) ls → sum_by (λ l. amount (found xs l)) ls ≤ sum_by amount xs
unfolding found
found-within [] ls differ = omega (arith, sum_by-le (λ l. amount (found [] l)) 0 ls (λ i d h. omega arith))
found-within (x ∷ xs) ls differ =
    let made : Bool → ℕ → ℕ = λ b l. amount (unwrap_or (cond b (Some x) (find (λ s. nat_eq s.link l) xs)) no_sense) in
    omega (
      arith,
      sum_by-cons amount x xs,
      found-within xs ls differ,
      one-more (amount x) x.link (λ l. amount (found (x ∷ xs) l)) (λ l. amount (found xs l)) (λ l e. ap (λ b. made b l) (eq-eqb x.link l e)) (λ l n. ap (λ b. made b l) (ne_eqb x.link l n)) ls differ,
    )

-- what is near on links that differ
pub near-within : (sensed : Sensed) (gap : ℕ) (ls : List ℕ) → AllPairs (λ a b. a ≢ b) ls → sum_by (amount_near sensed gap) ls ≤ sum_by amount sensed.links
unfolding sense_of found
near-within sensed gap ls differ =
    let less = sum_by-le-sum_by (amount_near sensed gap) (λ l. amount (found sensed.links l)) ls (λ l. omega (arith, sum_by-take-le (λ n. n) (found sensed.links l).coming (gap + 1))) in
    omega (arith, less, found-within sensed.links ls differ)

-- on one link more
pub near-more : (sensed : Sensed) (gap : ℕ) (ls : List ℕ) (i d : ℕ) → i < length ls → AllPairs (λ a b. a ≢ b) ls
    → sum_by (amount_near sensed gap) (take i ls) + amount_near sensed gap (get_or ls i d) ≤ sum_by amount sensed.links
near-more sensed gap ls i d inside differ = omega (arith, sum_by_more_le (amount_near sensed gap) ls i d inside, near-within sensed gap ls differ)

pub front-within : (sensed : Sensed) (link queue seconds : ℕ) (coming front : List ℕ) → queue ≡ (sense_of sensed link).queue → coming ≡ (sense_of sensed link).coming → front ≡ take seconds coming
    → queue + sum front ≤ sum_by amount sensed.links
front-within sensed link queue seconds coming front q c f = omega (arith, sense-within sensed link queue coming q c, sum_by-take-le (λ n. n) coming seconds, ap sum f)

-- ---- by what is near on each link

sum_by-same : (f g : ℕ → ℕ) (xs : List ℕ) → All (λ x. f x ≡ g x) xs → sum_by f xs ≡ sum_by g xs
sum_by-same f g [] same = refl
sum_by-same f g (x ∷ xs) same =
    let head : f x ≡ g x = same 0 x (omega arith) in
    let rest = sum_by-same f g xs (λ i d h. same (suc i) d (omega arith)) in
    omega (arith, sum_by-cons f x xs, sum_by-cons g x xs, head, rest)

module _ (net : Net) (network : IsNetwork net) (node : ℕ) (below : node < length net.node_names) (k : ℕ) (phase : k < length (plan_at net node)) where
  -- a link of a phase ends at the node
  ends-at : (i : ℕ) → i < length (phase_links_at net node k) → (link_at net (slice_index (phase_links_at net node k) i)).to ≡ Some node
  ends-at i inside = (network.served.phase_links node k i below phase inside).0

  pub phase-inside : All (λ l. l < length net.link_names) (phase_links_at net node k)
  phase-inside i d inside =
      let same = get_or_default (phase_links_at net node k) i d 0 inside in
      omega (arith, link-inside net network (slice_index (phase_links_at net node k) i) node (ends-at i inside), same)

  -- what is near by what the node senses is what is near on the link
  near-seen : (past : ℕ → ℕ → Cumulative) (n gap i : ℕ) → i < length (phase_links_at net node k)
      → near_on net past n gap (slice_index (phase_links_at net node k) i) ≡ amount_near (sense net past n node) gap (slice_index (phase_links_at net node k) i)
  near-seen past n gap i inside =
      let l : ℕ = slice_index (phase_links_at net node k) i in
      let to = ends-at i inside in
      let entry : Contains (entry_links net node) l = entry-of net network l node (link-inside net network l node to) to in
      ap (λ (s : LinkSense). near_of s gap) (sym (seen-of net past n (entry_links net node) l entry))

  pub sum-seen : (near : ℕ → ℕ) (past : ℕ → ℕ → Cumulative) (n gap : ℕ) → ((l : ℕ) → l < length net.link_names → near l ≡ near_on net past n gap l)
      → sum_by near (phase_links_at net node k) ≡ sum_by (amount_near (sense net past n node) gap) (phase_links_at net node k)
  sum-seen near past n gap same =
      sum_by-same near (amount_near (sense net past n node) gap) (phase_links_at net node k)
      (λ i d inside.
      let at = get_or_default (phase_links_at net node k) i d 0 inside in
      ap near at ∙ same (slice_index (phase_links_at net node k) i) (link-inside net network (slice_index (phase_links_at net node k) i) node (ends-at i inside)) ∙ near-seen past n gap i inside
      ∙ ap (amount_near (sense net past n node) gap) (sym at))

-- so what calls is the same
pub calls-are : (net : Net) → IsNetwork net → (near : ℕ → ℕ) (past : ℕ → ℕ → Cumulative) (n node : ℕ) → node < length net.node_names → ((l : ℕ) → l < length net.link_names → near l ≡ near_on net past n net.run.gap l) → calls_by net near node ≡ calls_at net past n node
calls-are net network near past n node below same =
    range-same (λ k. sum_by near (phase_links_at net node k)) (calling net node (sense net past n node)) (length (plan_at net node)) (λ k phase. sum-seen net network node below k phase near past n net.run.gap same)

-- what is near on links that differ is within all that is near
pub near-sum-more : (near links : List ℕ) (i d : ℕ) → i < length links → AllPairs (λ a b. a ≢ b) links → All (λ l. l < length near) links
    → sum_by (slice_index near) (take i links) + slice_index near (get_or links i d) ≤ total (slice_index near) (length near)
near-sum-more near links i d inside differ below = omega (arith, sum_by_more_le (slice_index near) links i d inside, differing-part (slice_index near) (length near) links differ below)

-- ---- a list of what is near, link by link

pub more-near : (f : ℕ → ℕ) (near : List ℕ) (l a : ℕ) → l < length near → a ≡ f l → ((k : ℕ) → k < l → slice_index near k ≡ f k) → (k : ℕ) → k < l + 1 → slice_index (set near l a) k ≡ f k
more-near f near l a inside is before k less = elim (cases_eq k l) [
  | inl e ↦ ap (slice_index (set near l a)) e ∙ get_or-set_same near l a 0 inside ∙ is ∙ ap f (sym e)
  | inr other ↦ get_or-set_other near l k a 0 other ∙ before k (omega arith)
]

pub amounts-of : (net : Net) (f : ℕ → ℕ) (near : List ℕ) → length near ≡ length net.link_names → ((k : ℕ) → k < length net.link_names → slice_index near k ≡ f k) → total f (length net.link_names) ≤ 2000000000 → AreAmounts net near
amounts-of net f near count are few = record { count = count; few = omega (arith, total-same (slice_index near) f (length net.link_names) are, few) }
