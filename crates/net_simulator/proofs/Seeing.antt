-- What a node sees, by what a world keeps, and how much it can be.
use Rattle.std.proofs.Common.{◌≡◌, ◌≢◌, ℕ, zero, suc, ◌+◌, ◌-◌, ◌<◌, ◌≤◌, List, [], ◌∷◌, All, AllPairs, length, get_or, map, min, slice_index, sum, sum_by, take, refl, sym, ap, subst, ◌∙◌, add-one, arith}
use Rattle.std.specs.List.{range_with_len}
use Rattle.std.specs.List.Sorted.{IsStrictlyIncreasing}
use Rattle.std.proofs.lemmas.List.{take_min}
use Rattle.std.proofs.lemmas.List.FromFn.{length-map-range_with_len, sum_by-map-range_with_len_more, take-map-range_with_len}
use Rattle.std.proofs.lemmas.List.Elements.{All-map, All-weaker}
use Rattle.std.proofs.lemmas.List.Kept.{AllPairs-from_increasing}
use Rattle.std.proofs.lemmas.List.Sums.{sum_by-cons, sum_by-take-le, sum-map}
use Rattle.net_parts.specs.Limits.{most_seconds}
use Rattle.net_parts.specs.Numbers.{Net}
use Rattle.net_parts.specs.Outline.{link_at}
use Rattle.road_net.specs.declared.senses.LinkSense.{LinkSense}
use Rattle.road_net.specs.declared.senses.Sensed.{Sensed}
use Rattle.road_net.specs.Network.{IsNetwork, entry_links}
use Rattle.road_net.specs.Senses.{amount, IsSensedOf}
use Rattle.control_flow.specs.declared.greens.Green.{Green}
use Rattle.road_net.specs.Totals.{total}
use Rattle.net_simulator.specs.Flow.{Cumulative, cumulative_under}
use Rattle.net_simulator.specs.Rows.{cell}
use Rattle.arrivals.specs.Amounts.{arriving_of}
use Rattle.net_simulator.specs.LinkSeconds.{seen_by}
use Rattle.net_simulator.specs.Senses.{coming, stood, link_sense, near_of, near_on, sense}
use Rattle.net_simulator.specs.Sums.{on_road}
use Rattle.net_simulator.specs.Worlds.{Keeps, Stands, WorldState, IsWorldOf, signs_by}
use Rattle.net_simulator.proofs.Sums.{range-same, total-part, total-without, without, without-other}
use Rattle.road_net.proofs.TotalLaws.{total-le}
use Rattle.net_simulator.proofs.Sound.{IsSound}
use Rattle.net_simulator.proofs.Conserving.{grown, reached-entered}
use Rattle.net_simulator.proofs.EveryWorld.{bounds-of}
use Rattle.net_simulator.proofs.Passing.{few-of, sound-at, on-road-most}

map-same : {A B : Type 0} (f g : A → B) (xs : List A) → All (λ x. f x ≡ g x) xs → map f xs ≡ map g xs
map-same f g [] same = refl
map-same f g (x ∷ xs) same =
    let head : f x ≡ g x = same 0 x (omega arith) in
    let rest = map-same f g xs (λ i d h. same (suc i) d (omega arith)) in
    λ i. head i ∷ rest i

sum_by-same : {A : Type 0} (f g : A → ℕ) (xs : List A) → All (λ x. f x ≡ g x) xs → sum_by f xs ≡ sum_by g xs
sum_by-same f g [] same = refl
sum_by-same f g (x ∷ xs) same =
    let head : f x ≡ g x = same 0 x (omega arith) in
    let rest = sum_by-same f g xs (λ i d h. same (suc i) d (omega arith)) in
    omega (arith, sum_by-cons f x xs, sum_by-cons g x xs, head, rest)

-- what the row of a link tells is what is on its way
pub seen-same : (net : Net) (past : ℕ → ℕ → Cumulative) (qs rs ws ss : List ℕ) (x l : ℕ) → Keeps net past qs rs ws x → slice_index ss l ≡ stood net past x l → l < length net.link_names → (link_at net l).travel ≤ 120 → seen_by net qs rs ss x l ≡ link_sense net past x l
seen-same net past qs rs ws ss x l keeps standing h most =
    let t : ℕ = (link_at net l).travel in
    let same = range-same (λ i. cell rs l (x + 128 - t + i)) (coming net past x l) t (λ i b.
    let place : x + 128 - t + i ≡ x + 128 - (t - i) = omega arith in
    let one : x + 1 - (t - i) ≡ x + i + 1 - t = omega arith in
    let two : x - (t - i) ≡ x + i - t = omega arith in
    ap (cell rs l) place ∙ keeps.recent l (t - i) h (omega arith) (omega arith) ∙ ap (λ n. (past n l).entered - (past (x - (t - i)) l).entered) one ∙ ap (λ n. (past (x + i + 1 - t) l).entered - (past n l).entered) two) in
    let queues = keeps.queues l h in
    λ i. record { link = l; queue = queues i; coming = same i; stood = standing i }

pub senses-same : (net : Net) (past : ℕ → ℕ → Cumulative) (qs rs ws ss : List ℕ) (x : ℕ) (links : List ℕ) → IsNetwork net → Keeps net past qs rs ws x → ((l : ℕ) → l < length net.link_names → slice_index ss l ≡ stood net past x l) → All (λ l. l < length net.link_names) links → map (seen_by net qs rs ss x) links ≡ map (link_sense net past x) links
senses-same net past qs rs ws ss x links network keeps standing below =
    map-same (seen_by net qs rs ss x) (link_sense net past x) links (All-weaker (λ l. l < length net.link_names) (λ l. seen_by net qs rs ss x l ≡ link_sense net past x l) (λ l h. seen-same net past qs rs ws ss x l keeps (standing l h) h ((bounds-of net network).most l h)) links below)

-- a sum over numbers below n that differ is a part of the sum over all of them
pub differing-part : (f : ℕ → ℕ) (n : ℕ) (xs : List ℕ) → AllPairs (λ a b. a ≢ b) xs → All (λ x. x < n) xs → sum_by f xs ≤ total f n
differing-part f n [] differ below = omega arith
differing-part f n (x ∷ xs) differ below =
    let here : x < n = below 0 x (omega arith) in
    let rest = differing-part (without x f) n xs (λ i j d less b. differ (suc i) (suc j) d (omega arith) (omega arith)) (λ i d b. below (suc i) d (omega arith)) in
    let same = sum_by-same (without x f) f xs (λ i d b. without-other x f (get_or xs i d) (λ e. differ 0 (suc i) d (omega arith) (omega arith) (sym e))) in
    omega (arith, total-without x f n here, rest, same, sum_by-cons f x xs)

listed-part : (f : ℕ → ℕ) (n : ℕ) (xs : List ℕ) → AllPairs (λ a b. a < b) xs → All (λ x. x < n) xs → sum_by f xs ≤ total f n
listed-part f n xs rises below = differing-part f n xs (λ i j d less b e. let r = rises i j d less b in absurd (omega (arith, r, e))) below

module _ (net : Net) (past : ℕ → ℕ → Cumulative) (n : ℕ) (sound : IsSound net past n) where
  -- what comes in the next i seconds
  coming-sum : (l i : ℕ) → l < length net.link_names → i ≤ (link_at net l).travel
      → sum_by (λ a. a) (map (coming net past n l) (range_with_len 0 i)) ≡ (past (n + i - (link_at net l).travel) l).entered - (past (n - (link_at net l).travel) l).entered
  coming-sum l zero inside h = omega (arith, ap (λ k. (past k l).entered) (let e : n + 0 - (link_at net l).travel ≡ n - (link_at net l).travel = omega arith in e))
  coming-sum l (suc i) inside h =
      let t : ℕ = (link_at net l).travel in
      let more = sum_by-map-range_with_len_more (λ a. a) (coming net past n l) 0 i i (omega arith) in
      let before = coming-sum l i inside (omega arith) in
      let up : (past (n - t) l).entered ≤ (past (n + i - t) l).entered =
      (let e : (n - t) + ((n + i - t) - (n - t)) ≡ n + i - t = omega arith in omega (arith, ap (λ k. (past k l).entered) e, grown net past n sound l (n - t) ((n + i - t) - (n - t)) inside (omega arith))) in
      let next : (past (n + i - t) l).entered ≤ (past (n + i + 1 - t) l).entered =
      (let e : (n + i - t) + ((n + i + 1 - t) - (n + i - t)) ≡ n + i + 1 - t = omega arith in omega (arith, ap (λ k. (past k l).entered) e, grown net past n sound l (n + i - t) ((n + i + 1 - t) - (n + i - t)) inside (omega arith))) in
      let long = ap (λ k. sum_by (λ a. a) (map (coming net past n l) (range_with_len 0 k))) (add-one i) in
      let place = ap (λ k. (past k l).entered) (let e : n + suc i - t ≡ n + i + 1 - t = omega arith in e) in
      omega (arith, more, before, up, next, long, place)

  -- all that is seen of a link is on it
  pub amount-on : (l : ℕ) → l < length net.link_names → amount (link_sense net past n l) ≡ (past n l).entered - (past n l).left
  amount-on l inside =
      let t : ℕ = (link_at net l).travel in
      let all = coming-sum l t inside (omega arith) in
      let here = ap (λ k. (past k l).entered) (let e : n + t - t ≡ n = omega arith in e) in
      let was = reached-entered net past n sound l n inside (omega arith) in
      let sums = sum-map (coming net past n l) (range_with_len 0 t) ∙ sym (sum-map-id (coming net past n l) (range_with_len 0 t)) in
      omega (arith, all, here, was, sound.within n l (omega arith) inside, sums)
    where
      sum-map-id : (f : ℕ → ℕ) (xs : List ℕ) → sum_by (λ a. a) (map f xs) ≡ sum_by f xs
      sum-map-id f [] = refl
      sum-map-id f (x ∷ xs) = omega (arith, sum-map-id f xs, sum_by-cons (λ a. a) (f x) (map f xs), sum_by-cons f x xs)

  amounts : (links : List ℕ) → All (λ l. l < length net.link_names) links → sum_by amount (map (link_sense net past n) links) ≡ sum_by (λ l. (past n l).entered - (past n l).left) links
  amounts [] below = refl
  amounts (l ∷ ls) below =
      let rest = amounts ls (λ i d h. below (suc i) d (omega arith)) in
      omega (arith, rest, amount-on l (below 0 l (omega arith)), sum_by-cons amount (link_sense net past n l) (map (link_sense net past n) ls), sum_by-cons (λ k. (past n k).entered - (past n k).left) l ls)

  -- what a node sees of its entry links is on the road
  pub sensed-on : (links : List ℕ) → AllPairs (λ a b. a < b) links → All (λ l. l < length net.link_names) links → sum_by amount (map (link_sense net past n) links) ≤ on_road net past n
  sensed-on links rises below = omega (arith, amounts links below, listed-part (λ l. (past n l).entered - (past n l).left) (length net.link_names) links rises below)

-- what is near on a link is on it
pub near-on : (net : Net) (past : ℕ → ℕ → Cumulative) (n : ℕ) → IsSound net past n → (gap l : ℕ) → l < length net.link_names → near_on net past n gap l ≤ (past n l).entered - (past n l).left
near-on net past n sound gap l inside = omega (arith, amount-on net past n sound l inside, sum_by-take-le (λ a. a) (link_sense net past n l).coming (gap + 1))

-- and what is near on all links is on the road
pub near-road : (net : Net) (past : ℕ → ℕ → Cumulative) (n : ℕ) → IsSound net past n → (gap : ℕ) → on_road net past n ≤ 2000000000 → total (near_on net past n gap) (length net.link_names) ≤ 2000000000
near-road net past n sound gap most =
    omega (arith, total-le (near_on net past n gap) (λ l. (past n l).entered - (past n l).left) (length net.link_names) (λ l inside. near-on net past n sound gap l inside), most)

pub near-few : (net : Net) (past : ℕ → ℕ → Cumulative) (n : ℕ) → IsSound net past n → (gap l : ℕ) → on_road net past n ≤ 2000000000 → l < length net.link_names → near_on net past n gap l ≤ 2000000000
near-few net past n sound gap l most inside =
    omega (arith, near-on net past n sound gap l inside, total-part (λ k. (past n k).entered - (past n k).left) (length net.link_names) l inside, most)

-- what is near on a link, by the row of the link: the sum of its first seconds
module _ (net : Net) (qs rs ss : List ℕ) (x l gap : ℕ) where
  abbrev reaching : ℕ → ℕ
  reaching i = cell rs l (x + 128 - (link_at net l).travel + i)

  pub near-row : near_of (seen_by net qs rs ss x l) gap ≡ slice_index qs l + sum (map reaching (range_with_len 0 (min (link_at net l).travel (gap + 1))))
  near-row =
      let t : ℕ = (link_at net l).travel in
      let all : List ℕ = map reaching (range_with_len 0 t) in
      let long : length all ≡ t = length-map-range_with_len reaching 0 t in
      let short : min (gap + 1) (length all) ≡ min t (gap + 1) = omega (arith, long) in
      let most : min t (gap + 1) ≤ t = omega arith in
      let first : take (gap + 1) all ≡ map reaching (range_with_len 0 (min t (gap + 1))) = sym (take_min (gap + 1) all) ∙ ap (λ k. take k all) short ∙ take-map-range_with_len reaching 0 t (min t (gap + 1)) most in
      ap (λ (xs : List ℕ). slice_index qs l + sum xs) first

  pub row-part : (i : ℕ) → i ≤ min (link_at net l).travel (gap + 1) → slice_index qs l + sum (map reaching (range_with_len 0 i)) ≤ near_of (seen_by net qs rs ss x l) gap
  row-part i most =
      let m : ℕ = min (link_at net l).travel (gap + 1) in
      let part = take-map-range_with_len reaching 0 m i most in
      omega (arith, near-row, ap sum part, sum_by-take-le (λ a. a) (map reaching (range_with_len 0 m)) i)

-- the same, where the time of travel was read
module _ (net : Net) (qs rs ss : List ℕ) (x l gap t : ℕ) (read : t ≡ (link_at net l).travel) where
  pub near-all : (i : ℕ) → i ≡ min t (gap + 1) → slice_index qs l + sum (map (λ j. cell rs l (x + 128 - t + j)) (range_with_len 0 i)) ≡ near_of (seen_by net qs rs ss x l) gap
  near-all i all =
      (λ k. slice_index qs l + sum (map (λ j. cell rs l (x + 128 - read k + j)) (range_with_len 0 (all k)))) ∙ ap (λ k. slice_index qs l + sum (map (λ j. cell rs l (x + 128 - (link_at net l).travel + j)) (range_with_len 0 (min k (gap + 1))))) read
      ∙ sym (near-row net qs rs ss x l gap)

  pub near-more : (i near at : ℕ) → near ≡ slice_index qs l + sum (map (λ j. cell rs l (x + 128 - t + j)) (range_with_len 0 i)) → at ≡ cell rs l (x + 128 - t + i)
      → near + at ≡ slice_index qs l + sum (map (λ j. cell rs l (x + 128 - t + j)) (range_with_len 0 (i + 1)))
  near-more i near at before here = omega (arith, sum_by-map-range_with_len_more (λ a. a) (λ j. cell rs l (x + 128 - t + j)) 0 i i (omega arith), before, here)

  pub near-within : (i near at : ℕ) → near ≡ slice_index qs l + sum (map (λ j. cell rs l (x + 128 - t + j)) (range_with_len 0 i)) → at ≡ cell rs l (x + 128 - t + i) → i < min t (gap + 1)
      → near + at ≤ near_of (seen_by net qs rs ss x l) gap
  near-within i near at before here less =
      let part = row-part net qs rs ss x l gap (i + 1) (omega (arith, less, read)) in
      let same : slice_index qs l + sum (map (λ j. cell rs l (x + 128 - t + j)) (range_with_len 0 (i + 1))) ≡ slice_index qs l + sum (map (λ j. cell rs l (x + 128 - (link_at net l).travel + j)) (range_with_len 0 (i + 1))) =
      ap (λ k. slice_index qs l + sum (map (λ j. cell rs l (x + 128 - k + j)) (range_with_len 0 (i + 1)))) read in
      omega (arith, part, same, near-more i near at before here)

map-link : (net : Net) (past : ℕ → ℕ → Cumulative) (n : ℕ) (links : List ℕ) → map (λ s. s.link) (map (link_sense net past n) links) ≡ links
map-link net past n [] = refl
map-link net past n (l ∷ ls) = ap (λ ks. l ∷ ks) (map-link net past n ls)

-- what the definition gives is within the bounds of what a node sees
pub are-sensed : (net : Net) (node n : ℕ) (past : ℕ → ℕ → Cumulative) → n ≤ most_seconds → IsSound net past n → on_road net past n ≤ 2000000000 → All (λ l. l < length net.link_names) (entry_links net node) → IsStrictlyIncreasing (entry_links net node) → IsSensedOf net node (sense net past n node)
are-sensed net node n past early sound most below rising = record {
  now = early;
  links = map-link net past n (entry_links net node);
  coming = All-map (λ s. length s.coming ≡ (link_at net s.link).travel) (link_sense net past n) (entry_links net node) (λ i d h. length-map-range_with_len _ 0 _);
  amounts = omega (arith, sensed-on net past n sound (entry_links net node) (AllPairs-from_increasing (entry_links net node) rising) below, most);
}

pub is-sensed : (net : Net) (node : ℕ) (w : WorldState) → IsNetwork net → All (λ l. l < length net.link_names) (entry_links net node) → IsStrictlyIncreasing (entry_links net node) → (world : IsWorldOf net w) → IsSensedOf net node (sense net (cumulative_under net (arriving_of world.arrivals) (signs_by world.lines) w.second) w.second node)
is-sensed net node w network below rising world =
    are-sensed net node w.second (cumulative_under net (arriving_of world.arrivals) (signs_by world.lines) w.second) world.stands.by (sound-at net network (arriving_of world.arrivals) (signs_by world.lines) w.second)
    (on-road-most net network (arriving_of world.arrivals) (signs_by world.lines) (few-of net network world.arrivals world.enter) w.second) below rising

pub below-names : (net : Net) (links names : List ℕ) → IsNetwork net → links ≡ names → All (λ l. l < length net.links) links → All (λ l. l < length net.link_names) names
below-names net links names network is have = subst (All (λ l. l < length net.link_names)) is (λ k d h. let b = have k d h in let count = network.outline.road_count in omega arith)

-- what is gathered of what a world keeps is what the definition gives
pub gathered-by : (net : Net) (node n : ℕ) (past : ℕ → ℕ → Cumulative) (qs rs ws ss links : List ℕ) (out : List LinkSense) → IsNetwork net → Keeps net past qs rs ws n → ((l : ℕ) → l < length net.link_names → slice_index ss l ≡ stood net past n l)
    → links ≡ entry_links net node → out ≡ map (seen_by net qs rs ss n) links → All (λ l. l < length net.link_names) (entry_links net node) → (let s : Sensed = record { now = n; links = out } in s) ≡ sense net past n node
gathered-by net node n past qs rs ws ss links out network keeps standing entries all below =
    let senses : out ≡ map (link_sense net past n) (entry_links net node) = all ∙ ap (λ (ls : List ℕ). map (seen_by net qs rs ss n) ls) entries ∙ senses-same net past qs rs ws ss n (entry_links net node) network keeps standing below in
    λ i. record { now = n; links = senses i }

pub gathered : (net : Net) (node : ℕ) (w v : WorldState) (qs rs ss links : List ℕ) (out : List LinkSense) → IsNetwork net → v ≡ w → qs ≡ v.queues → rs ≡ v.recent → ss ≡ v.stood → links ≡ entry_links net node → out ≡ map (seen_by net qs rs ss v.second) links
    → All (λ l. l < length net.link_names) (entry_links net node) → (arriving : ℕ → ℕ → ℕ) (lines : ℕ → List Green) → Stands net arriving (signs_by lines) w
    → (let s : Sensed = record { now = v.second; links = out } in s) ≡ sense net (cumulative_under net arriving (signs_by lines) w.second) w.second node
gathered net node w v qs rs ss links out network view queues recent standing entries all below arriving lines stands =
    let one = queues ∙ ap (λ (k : WorldState). k.queues) view in
    let two = recent ∙ ap (λ (k : WorldState). k.recent) view in
    let three = standing ∙ ap (λ (k : WorldState). k.stood) view in
    let now = ap (λ (k : WorldState). k.second) view in
    let gathers : out ≡ map (seen_by net w.queues w.recent w.stood w.second) links = all ∙ (λ i. map (seen_by net (one i) (two i) (three i) (now i)) links) in
    let second : (let s : Sensed = record { now = v.second; links = out } in s) ≡ (let t : Sensed = record { now = w.second; links = out } in t) = λ i. record { now = now i; links = out } in
    second ∙ gathered-by net node w.second (cumulative_under net arriving (signs_by lines) w.second) w.queues w.recent w.waits w.stood links out network stands.keeps stands.stood entries gathers below

-- what is near by what a world keeps is what the definition gives
pub near-gathered : (net : Net) (w v : WorldState) (qs rs ss : List ℕ) (gap l : ℕ) → IsNetwork net → v ≡ w → qs ≡ v.queues → rs ≡ v.recent → ss ≡ v.stood → l < length net.link_names
    → (arriving : ℕ → ℕ → ℕ) (lines : ℕ → List Green) → Stands net arriving (signs_by lines) w → near_of (seen_by net qs rs ss v.second l) gap ≡ near_on net (cumulative_under net arriving (signs_by lines) w.second) w.second gap l
near-gathered net w v qs rs ss gap l network view queues recent standing inside arriving lines stands =
    let one = queues ∙ ap (λ (k : WorldState). k.queues) view in
    let two = recent ∙ ap (λ (k : WorldState). k.recent) view in
    let three = standing ∙ ap (λ (k : WorldState). k.stood) view in
    let now = ap (λ (k : WorldState). k.second) view in
    (λ i. near_of (seen_by net (one i) (two i) (three i) (now i) l) gap)
    ∙ ap (λ (s : LinkSense). near_of s gap) (seen-same net (cumulative_under net arriving (signs_by lines) w.second) w.queues w.recent w.waits w.stood w.second l stands.keeps (stands.stood l inside) inside ((bounds-of net network).most l inside))

-- and fits
pub near-fits : (net : Net) (w : WorldState) (gap l : ℕ) → IsNetwork net → (world : IsWorldOf net w) → l < length net.link_names
    → near_on net (cumulative_under net (arriving_of world.arrivals) (signs_by world.lines) w.second) w.second gap l ≤ 2000000000
near-fits net w gap l network world inside =
    near-few net (cumulative_under net (arriving_of world.arrivals) (signs_by world.lines) w.second) w.second (sound-at net network (arriving_of world.arrivals) (signs_by world.lines) w.second) gap l
    (on-road-most net network (arriving_of world.arrivals) (signs_by world.lines) (few-of net network world.arrivals world.enter) w.second) inside

-- and so does what is near on all links
pub near-all-fits : (net : Net) (w : WorldState) (gap : ℕ) → IsNetwork net → (world : IsWorldOf net w)
    → total (near_on net (cumulative_under net (arriving_of world.arrivals) (signs_by world.lines) w.second) w.second gap) (length net.link_names) ≤ 2000000000
near-all-fits net w gap network world =
    near-road net (cumulative_under net (arriving_of world.arrivals) (signs_by world.lines) w.second) w.second (sound-at net network (arriving_of world.arrivals) (signs_by world.lines) w.second) gap
    (on-road-most net network (arriving_of world.arrivals) (signs_by world.lines) (few-of net network world.arrivals world.enter) w.second)
