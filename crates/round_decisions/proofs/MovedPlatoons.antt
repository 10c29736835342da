-- What a node expects, the window of it, and what it tells, moved by some seconds.
use Rattle.std.proofs.Common.{◌≡◌, ℕ, zero, suc, ◌+◌, ◌-◌, ◌<◌, ◌≤◌, Bool, true, false, List, [], ◌∷◌, ◌++◌, Option, Some, None, length, map, get_or, max, min, sum, take, refl, sym, ap, subst, ◌∙◌, inl, inr, arith}
use Rattle.std.specs.Prelude.{◌==◌, ◌&&◌, filter, find, if◌then◌else◌, nat_le, nat_lt, slice_index, sum_by, unwrap_or}
use Rattle.std.specs.List.{range_with_len}
use Rattle.std.specs.Option.{option_map}
use Rattle.std.proofs.lemmas.Bool.{lt-ltb}
use Rattle.std.proofs.lemmas.List.{get_or-map as get_or-map-within, length-map, map-append, take-map}
use Rattle.std.proofs.lemmas.List.Elements.{filter-append}
use Rattle.std.proofs.lemmas.List.Sums.{sum_by-cons}
use Rattle.std.proofs.Math.ListN.{get_or-map}
use Rattle.board_model.specs.declared.boards.Heard.{Heard}
use Rattle.board_model.specs.declared.forecasts.Row.{Row}
use Rattle.board_model.specs.Forecasts.{amount_at}
use Rattle.clusters.specs.Cuts.{IsCutBy, filled, first_of}
use Rattle.clusters.specs.Inflow.{heard_forecast, inflow, inflow_at, leaving, sense_of}
use Rattle.clusters.specs.Options.{AreExpected, AreExpectedIn, aged_load_of, first_with_hold, rate_of, span_in_green, span_of, with_held_load, with_hold}
use Rattle.clusters.specs.Platoons.{most_of, platoon_of, platoons_at, streams_of, together}
use Rattle.clusters.specs.Smoothing.{smoothed}
use Rattle.clusters.specs.Sound.{cluster_lists, clusters_of}
use Rattle.clusters.specs.Windows.{IsFront, IsLongest, IsWindow, arrival, arrivals, counts_of}
use Rattle.clusters.specs.declared.vehicle_groups.Part.{Part}
use Rattle.clusters.specs.declared.vehicle_groups.Platoon.{Platoon}
use Rattle.clusters.specs.declared.vehicle_groups.Window.{Window}
use Rattle.net_parts.specs.Numbers.{Net}
use Rattle.net_parts.specs.Outline.{link_at, phase_links_at, plan_at, turns_at}
use Rattle.outflow.specs.Outflow.{coming_in, departure_coming, departures, next_platoon, no_platoon, part_coming, positive_rows, told_forecast}
use Rattle.phase_plan.specs.Phases.{phase_at}
use Rattle.road_net.specs.Joins.{split_of}
use Rattle.road_net.specs.declared.senses.Sensed.{Sensed}
use Rattle.switch_rules.specs.Arriving.{ComesFirst}
use Rattle.switch_rules.specs.Orders.{one_less}
use Rattle.switch_rules.specs.declared.Head.{Head}
use Rattle.switch_rules.specs.declared.Served.{Served}
use Rattle.round_decisions.specs.Origins.{moved_cluster, moved_forecast, moved_head, moved_row, moved_sensed}
use Rattle.round_decisions.proofs.MovedLines.{eq-same, le-moved, lt-same, moved_served}
use Rattle.round_decisions.proofs.MovedServings.{moved_lists}

-- sums of nothing
none-summed : {X : Type 0} (f : X → ℕ) (xs : List X) → ((x : X) → f x ≡ 0) → sum_by f xs ≡ 0
none-summed f [] none = refl
none-summed f (x ∷ xs) none = sum_by-cons f x xs ∙ ap (λ n. n + sum_by f xs) (none x) ∙ (let e : 0 + sum_by f xs ≡ sum_by f xs = omega arith in e) ∙ none-summed f xs none

zero-more : (n : ℕ) → 0 + n ≡ n
zero-more n = omega arith

range-append : (a m n : ℕ) → range_with_len a (m + n) ≡ range_with_len a m ++ range_with_len (a + m) n
range-append a zero n = ap (range_with_len a) (let e : zero + n ≡ n = omega arith in e) ∙ ap (λ s. range_with_len s n) (let e : a ≡ a + zero = omega arith in e)
range-append a (suc m) n =
    ap (range_with_len a) (let e : suc m + n ≡ suc (m + n) = omega arith in e) ∙ ap (λ l. a ∷ l) (range-append (a + 1) m n)
    ∙ ap (λ s. (a ∷ range_with_len (a + 1) m) ++ range_with_len s n) (let e : a + 1 + m ≡ a + suc m = omega arith in e)

module _ (d : ℕ) where
  abbrev pub moved_platoon : Platoon → Platoon
  moved_platoon p = record { cluster = moved_cluster d p.cluster; parts = p.parts }

  abbrev pub moved_platoons : List (List Platoon) → List (List Platoon)
  moved_platoons lists = map (λ list. map moved_platoon list) lists

  range-moved : {X : Type 0} (f g : ℕ → X) (a n : ℕ) → ((x : ℕ) → f (x + d) ≡ g x) → map f (range_with_len (a + d) n) ≡ map g (range_with_len a n)
  range-moved f g a zero same = refl
  range-moved f g a (suc n) same =
      ap (λ l. f (a + d) ∷ map f l) (ap (λ s. range_with_len s n) (let e : a + d + 1 ≡ a + 1 + d = omega arith in e))
      ∙ (λ i. same a i ∷ range-moved f g (a + 1) n same i)

  -- what reaches the end of a link, and leaves there
  found-moved : (rows : List Row) (x : ℕ) → option_map (λ (row : Row). row.amount) (find (λ (row : Row). row.second == x + d) (moved_forecast d rows)) ≡ option_map (λ (row : Row). row.amount) (find (λ (row : Row). row.second == x) rows)
  found-moved [] x = refl
  found-moved (row ∷ rows) x =
      ap (λ b. option_map (λ (r : Row). r.amount) (if b then Some (moved_row d row) else find (λ (r : Row). r.second == x + d) (moved_forecast d rows))) (eq-same (row.second + d) (x + d) row.second x (λ h. omega arith) (λ h. omega arith))
      ∙ pick (row.second == x) (found-moved rows x)
    where
      pick : (b : Bool) → option_map (λ (r : Row). r.amount) (find (λ (r : Row). r.second == x + d) (moved_forecast d rows)) ≡ option_map (λ (r : Row). r.amount) (find (λ (r : Row). r.second == x) rows)
          → option_map (λ (r : Row). r.amount) (if b then Some (moved_row d row) else find (λ (r : Row). r.second == x + d) (moved_forecast d rows)) ≡ option_map (λ (r : Row). r.amount) (if b then Some row else find (λ (r : Row). r.second == x) rows)
      pick true rest = refl
      pick false rest = rest

  amount-moved : (rows : List Row) (x : ℕ) → amount_at (moved_forecast d rows) (x + d) ≡ amount_at rows x
  amount-moved rows x = ap (λ o. unwrap_or o 0) (found-moved rows x)

  inflow-at-moved : (now travel queue : ℕ) (coming : List ℕ) (forecast : List Row) (x : ℕ) → inflow_at (now + d) travel queue coming (moved_forecast d forecast) (x + d) ≡ inflow_at now travel queue coming forecast x
  inflow-at-moved now travel queue coming forecast x =
      let here : (x + d == now + d) ≡ (x == now) = eq-same (x + d) (now + d) x now (λ h. omega arith) (λ h. omega arith) in
      let near : nat_lt (x + d) (now + d + travel) ≡ nat_lt x (now + travel) = lt-same (x + d) (now + d + travel) x (now + travel) (λ h. omega arith) (λ h. omega arith) in
      let place : x + d - (now + d) ≡ x - now = omega arith in
      λ i. (if here i then queue else 0) + (if near i then slice_index coming (place i) else amount-moved forecast x i)

  inflow-moved : (now look travel queue : ℕ) (coming : List ℕ) (forecast : List Row) → inflow (now + d) look travel queue coming (moved_forecast d forecast) ≡ inflow now look travel queue coming forecast
  unfolding inflow
  inflow-moved now look travel queue coming forecast = range-moved (inflow_at (now + d) travel queue coming (moved_forecast d forecast)) (inflow_at now travel queue coming forecast) now look (inflow-at-moved now travel queue coming forecast)

  -- what is heard is moved
  abbrev pub IsHeardMoved : List Heard → List Heard → Type 0
  IsHeardMoved heard other = (l : ℕ) → heard_forecast other l ≡ moved_forecast d (heard_forecast heard l)

  leaving-moved : (net : Net) (sensed : Sensed) (heard other : List Heard) → IsHeardMoved heard other → (l : ℕ) → leaving net (moved_sensed d sensed) other l ≡ leaving net sensed heard l
  unfolding leaving sense_of
  leaving-moved net sensed heard other same l = ap (smoothed (link_at net l).sat)
      (ap (inflow (sensed.now + d) net.run.look (link_at net l).travel (sense_of sensed l).queue (sense_of sensed l).coming) (same l)
      ∙ inflow-moved sensed.now net.run.look (link_at net l).travel (sense_of sensed l).queue (sense_of sensed l).coming (heard_forecast heard l))

  streams-moved : (net : Net) (sensed : Sensed) (heard other : List Heard) → IsHeardMoved heard other → (links : List ℕ) → streams_of net (moved_sensed d sensed) other links ≡ streams_of net sensed heard links
  streams-moved net sensed heard other same [] = refl
  streams-moved net sensed heard other same (l ∷ links) = λ i. record { link = l; amounts = leaving-moved net sensed heard other same l i } ∷ streams-moved net sensed heard other same links i

  -- platoons
  platoon-moved : (load : Part → ℕ) (now : ℕ) (streams : List Part) (run : List ℕ) → platoon_of load (now + d) streams run ≡ moved_platoon (platoon_of load now streams run)
  platoon-moved load now streams run =
      ap (λ arr. record { cluster = record (platoon_of load now streams run).cluster { arr = arr }; parts = (platoon_of load now streams run).parts }) (let e : now + d + first_of run ≡ now + first_of run + d = omega arith in e)

  platoons-moved : (load : Part → ℕ) (now : ℕ) (streams : List Part) (runs : List (List ℕ)) → map moved_platoon (map (platoon_of load now streams) runs) ≡ map (platoon_of load (now + d) streams) runs
  platoons-moved load now streams [] = refl
  platoons-moved load now streams (run ∷ runs) = λ i. sym (platoon-moved load now streams run) i ∷ platoons-moved load now streams runs i

  in-green-moved : (greatest most : ℕ) (head : Head) (arr moved : ℕ) → moved ≡ arr + d → span_in_green greatest most (moved_head d head) moved ≡ span_in_green greatest most head arr
  in-green-moved greatest most head arr moved same =
      let before : nat_lt (max moved (head.at + d)) (head.since + d + greatest) ≡ nat_lt (max arr head.at) (head.since + greatest) =
      lt-same (max moved (head.at + d)) (head.since + d + greatest) (max arr head.at) (head.since + greatest) (λ h. omega (arith, h, same)) (λ h. omega (arith, h, same)) in
      let left : head.since + d + greatest - max moved (head.at + d) ≡ head.since + greatest - max arr head.at = omega (arith, same) in
      λ i. if before i then min most (left i) else most

  span-moved : (net : Net) (node : ℕ) (head : Head) (now k : ℕ) (series : List ℕ) (x : ℕ) → span_of net node (moved_head d head) (now + d) k series x ≡ span_of net node head now k series x
  span-moved net node head now k series x =
      ap (λ s. if net.run.split && (k == head.phase) && (x == first_of (filled series)) then s else most_of net node k)
      (in-green-moved (phase_at (plan_at net node) k).greatest (most_of net node k) head (now + x) (now + d + x) (omega arith))

  first-held : (hold : Option ℕ) (at : ℕ) (list : List Platoon) → map moved_platoon (first_with_hold hold at list) ≡ first_with_hold hold (at + d) (map moved_platoon list)
  first-held None at list = refl
  first-held (Some hold) at [] = refl
  first-held (Some hold) at (p ∷ ps) =
      pick (nat_le p.cluster.arr at)
      ∙ ap (λ b. (if b then with_held_load hold (moved_platoon p) else moved_platoon p) ∷ map moved_platoon ps) (sym (le-moved d p.cluster.arr at))
    where
      pick : (b : Bool) → map moved_platoon ((if b then with_held_load hold p else p) ∷ ps) ≡ (if b then with_held_load hold (moved_platoon p) else moved_platoon p) ∷ map moved_platoon ps
      pick true = refl
      pick false = refl

  held-moved : (net : Net) (head : Head) (k : ℕ) (list : List Platoon) → map moved_platoon (with_hold net head k list) ≡ with_hold net (moved_head d head) k (map moved_platoon list)
  held-moved net head k list = pick (k == head.phase)
    where
      pick : (b : Bool) → map moved_platoon (if b then first_with_hold net.run.hold head.at list else list) ≡ (if b then first_with_hold net.run.hold (head.at + d) (map moved_platoon list) else map moved_platoon list)
      pick true = first-held net.run.hold head.at list
      pick false = refl

  expected-in-moved : (net : Net) (node : ℕ) (head : Head) (sensed : Sensed) (k : ℕ) (streams : List Part) (list : List Platoon) → AreExpectedIn net node head sensed k streams list → AreExpectedIn net node (moved_head d head) (moved_sensed d sensed) k streams (map moved_platoon list)
  unfolding sense_of
  expected-in-moved net node head sensed k streams list is = record {
    plain = map moved_platoon is.plain;
    are = record {
      runs = is.are.runs;
      cut = subst (λ (span : ℕ → ℕ). IsCutBy net.run.gap (rate_of net) span (together streams net.run.look) is.are.runs)
          (λ i x. sym (span-moved net node head sensed.now k (together streams net.run.look) x) i) is.are.cut;
      each = ap (map moved_platoon) is.are.each ∙ platoons-moved (aged_load_of net.run.age net sensed) sensed.now streams is.are.runs;
    };
    held = ap (map moved_platoon) is.held ∙ held-moved net head k is.plain;
  }

  at-moved : (lists : List (List Platoon)) (k : ℕ) → platoons_at (moved_platoons lists) k ≡ map moved_platoon (platoons_at lists k)
  at-moved lists k = get_or-map (λ (list : List Platoon). map moved_platoon list) lists k []

  pub expected-moved : (net : Net) (node : ℕ) (head : Head) (sensed : Sensed) (heard other : List Heard) (lists : List (List Platoon)) → IsHeardMoved heard other → AreExpected net node head sensed heard lists
      → AreExpected net node (moved_head d head) (moved_sensed d sensed) other (moved_platoons lists)
  expected-moved net node head sensed heard other lists same is = record {
    count = length-map lists (λ (list : List Platoon). map moved_platoon list) ∙ is.count;
    each = λ k below.
        subst (λ (streams : List Part). AreExpectedIn net node (moved_head d head) (moved_sensed d sensed) k streams (platoons_at (moved_platoons lists) k)) (sym (streams-moved net sensed heard other same (phase_links_at net node k)))
        (subst (AreExpectedIn net node (moved_head d head) (moved_sensed d sensed) k (streams_of net sensed heard (phase_links_at net node k))) (sym (at-moved lists k))
        (expected-in-moved net node head sensed k (streams_of net sensed heard (phase_links_at net node k)) (platoons_at lists k)
        (is.each k (omega (arith, below, length-map lists (λ (list : List Platoon). map moved_platoon list))))));
  }

  -- the window
  arrivals-moved : (list : List Platoon) → arrivals (map moved_platoon list) ≡ map (λ a. a + d) (arrivals list)
  arrivals-moved [] = refl
  arrivals-moved (p ∷ ps) = ap (λ l. (p.cluster.arr + d) ∷ l) (arrivals-moved ps)

  count-at : (lists : List (List Platoon)) (k : ℕ) → length (platoons_at (moved_platoons lists) k) ≡ length (platoons_at lists k)
  count-at lists k = ap length (at-moved lists k) ∙ length-map (platoons_at lists k) moved_platoon

  arrival-moved : (lists : List (List Platoon)) (k place : ℕ) → place < length (platoons_at lists k) → arrival (moved_platoons lists) k place ≡ arrival lists k place + d
  arrival-moved lists k place inside =
      ap (λ l. get_or (arrivals l) place 0) (at-moved lists k) ∙ ap (λ l. get_or l place 0) (arrivals-moved (platoons_at lists k))
      ∙ get_or-map-within (λ a. a + d) (arrivals (platoons_at lists k)) place 0 0 (omega (arith, inside, length-map (platoons_at lists k) (λ (p : Platoon). p.cluster.arr)))

  comes-moved : (a j b k x y : ℕ) → x ≡ a + d → y ≡ b + d → ComesFirst a j b k → ComesFirst x j y k
  comes-moved a j b k x y ex ey (inl less) = inl (omega (arith, less, ex, ey))
  comes-moved a j b k x y ex ey (inr same) = inr (let e = same.0 in omega (arith, e, ex, ey), same.1)

  comes-back : (a j b k x y : ℕ) → x ≡ a + d → y ≡ b + d → ComesFirst x j y k → ComesFirst a j b k
  comes-back a j b k x y ex ey (inl less) = inl (omega (arith, less, ex, ey))
  comes-back a j b k x y ex ey (inr same) = inr (let e = same.0 in omega (arith, e, ex, ey), same.1)

  front-moved : (lists : List (List Platoon)) (counts : List ℕ) → IsFront lists counts → IsFront (moved_platoons lists) counts
  front-moved lists counts is = record {
    phases = is.phases ∙ sym (length-map lists (λ (list : List Platoon). map moved_platoon list));
    there = λ k. (let t = is.there k in omega (arith, t, count-at lists k));
    before = λ j k taken waiting before after inside.
        let within : waiting < length (platoons_at lists k) = omega (arith, inside, count-at lists k) in
        let there = is.there j in
        comes-moved (arrival lists j taken) j (arrival lists k waiting) k (arrival (moved_platoons lists) j taken) (arrival (moved_platoons lists) k waiting)
        (arrival-moved lists j taken (omega (arith, before, there))) (arrival-moved lists k waiting within) (is.before j k taken waiting before after within);
  }

  front-back : (lists : List (List Platoon)) (counts : List ℕ) → IsFront (moved_platoons lists) counts → IsFront lists counts
  front-back lists counts is = record {
    phases = is.phases ∙ length-map lists (λ (list : List Platoon). map moved_platoon list);
    there = λ k. (let t = is.there k in omega (arith, t, count-at lists k));
    before = λ j k taken waiting before after inside.
        let within : waiting < length (platoons_at (moved_platoons lists) k) = omega (arith, inside, count-at lists k) in
        let there = is.there j in
        comes-back (arrival lists j taken) j (arrival lists k waiting) k (arrival (moved_platoons lists) j taken) (arrival (moved_platoons lists) k waiting)
        (arrival-moved lists j taken (omega (arith, before, there, count-at lists j))) (arrival-moved lists k waiting inside) (is.before j k taken waiting before after within);
  }

  counts-of-moved : (lists : List (List Platoon)) → counts_of (moved_platoons lists) ≡ counts_of lists
  counts-of-moved [] = refl
  counts-of-moved (list ∷ lists) = λ i. length-map list moved_platoon i ∷ counts-of-moved lists i

  abbrev pub moved_window : Window → Window
  moved_window w = record { lists = moved_platoons w.lists; waiting = w.waiting }

  pub window-moved : (lists : List (List Platoon)) (w : Window) → IsWindow lists w → IsWindow (moved_platoons lists) (moved_window w)
  window-moved lists w is = record {
    longest = subst (IsLongest (moved_platoons lists)) (sym (counts-of-moved w.lists)) (record {
      front = front-moved lists (counts_of w.lists) is.longest.front;
      small = is.longest.small;
      longest = λ more front small. is.longest.longest more (front-back lists more front) small;
    });
    taken = λ k.
        at-moved w.lists k ∙ ap (map moved_platoon) (is.taken k) ∙ sym (take-map moved_platoon (slice_index (counts_of w.lists) k) (platoons_at lists k))
        ∙ ap (take (slice_index (counts_of w.lists) k)) (sym (at-moved lists k)) ∙ ap (λ c. take (slice_index c k) (platoons_at (moved_platoons lists) k)) (sym (counts-of-moved w.lists));
    waiting = ap (λ c. w.waiting + sum c) (counts-of-moved w.lists) ∙ is.waiting ∙ sym (ap sum (counts-of-moved lists));
  }

  clusters-of-moved : (list : List Platoon) → clusters_of (map moved_platoon list) ≡ map (moved_cluster d) (clusters_of list)
  clusters-of-moved [] = refl
  clusters-of-moved (p ∷ ps) = ap (λ l. moved_cluster d p.cluster ∷ l) (clusters-of-moved ps)

  pub clusters-moved : (lists : List (List Platoon)) → cluster_lists (moved_platoons lists) ≡ moved_lists d (cluster_lists lists)
  clusters-moved [] = refl
  clusters-moved (list ∷ lists) = λ i. clusters-of-moved list i ∷ clusters-moved lists i

  -- what is told
  parts-of-moved : (list : List Platoon) → map (λ (p : Platoon). p.parts) (map moved_platoon list) ≡ map (λ (p : Platoon). p.parts) list
  parts-of-moved [] = refl
  parts-of-moved (p ∷ ps) = ap (λ l. p.parts ∷ l) (parts-of-moved ps)

  next-parts : (lists : List (List Platoon)) (left : List ℕ) (k : ℕ) → (next_platoon (moved_platoons lists) left k).parts ≡ (next_platoon lists left k).parts
  next-parts lists left k =
      ap (λ l. (get_or l (length l - get_or left k 0) no_platoon).parts) (at-moved lists k)
      ∙ ap (λ n. (get_or (map moved_platoon (platoons_at lists k)) (n - get_or left k 0) no_platoon).parts) (length-map (platoons_at lists k) moved_platoon)
      ∙ sym (get_or-map (λ (p : Platoon). p.parts) (map moved_platoon (platoons_at lists k)) (length (platoons_at lists k) - get_or left k 0) no_platoon)
      ∙ ap (λ l. get_or l (length (platoons_at lists k) - get_or left k 0) []) (parts-of-moved (platoons_at lists k))
      ∙ get_or-map (λ (p : Platoon). p.parts) (platoons_at lists k) (length (platoons_at lists k) - get_or left k 0) no_platoon

  part-moved : (net : Net) (exit travel x start : ℕ) (part : Part) → part_coming net exit travel (x + d) (start + d) part ≡ part_coming net exit travel x start part
  part-moved net exit travel x start part =
      let early : nat_lt (x + d) (start + d + travel) ≡ nat_lt x (start + travel) = lt-same (x + d) (start + d + travel) x (start + travel) (λ h. omega arith) (λ h. omega arith) in
      let place : x + d - (start + d + travel) ≡ x - (start + travel) = omega arith in
      λ i. if early i then 0 else split_of (turns_at net part.link) (slice_index part.amounts (place i)) exit

  part-none : (net : Net) (exit travel x start : ℕ) → x < d → (part : Part) → part_coming net exit travel x (start + d) part ≡ 0
  part-none net exit travel x start early part = ap (λ b. if b then 0 else split_of (turns_at net part.link) (slice_index part.amounts (x - (start + d + travel))) exit) (lt-ltb x (start + d + travel) (omega (arith, early)))

  module _ (net : Net) (exit : ℕ) (lists : List (List Platoon)) where
    coming-moved : (x : ℕ) (left ks : List ℕ) (ss : List Served) → coming_in net exit (departures (moved_platoons lists) left ks (map (moved_served d) ss)) (x + d) ≡ coming_in net exit (departures lists left ks ss) x
    coming-moved x left [] ss = refl
    coming-moved x left (k ∷ ks) [] = refl
    coming-moved x left (k ∷ ks) (s ∷ ss) =
        sum_by-cons (departure_coming net exit (link_at net exit).travel (x + d)) (record { platoon = next_platoon (moved_platoons lists) left k; start = s.start + d }) (departures (moved_platoons lists) (one_less left k) ks (map (moved_served d) ss))
        ∙ ap (λ (parts : List Part). sum_by (part_coming net exit (link_at net exit).travel (x + d) (s.start + d)) parts + coming_in net exit (departures (moved_platoons lists) (one_less left k) ks (map (moved_served d) ss)) (x + d)) (next-parts lists left k)
        ∙ ap (λ (f : Part → ℕ). sum_by f (next_platoon lists left k).parts + coming_in net exit (departures (moved_platoons lists) (one_less left k) ks (map (moved_served d) ss)) (x + d)) (λ i part. part-moved net exit (link_at net exit).travel x s.start part i)
        ∙ ap (λ n. departure_coming net exit (link_at net exit).travel x (record { platoon = next_platoon lists left k; start = s.start }) + n) (coming-moved x (one_less left k) ks ss)
        ∙ sym (sum_by-cons (departure_coming net exit (link_at net exit).travel x) (record { platoon = next_platoon lists left k; start = s.start }) (departures lists (one_less left k) ks ss))

    none-coming : (x : ℕ) → x < d → (left ks : List ℕ) (ss : List Served) → coming_in net exit (departures (moved_platoons lists) left ks (map (moved_served d) ss)) x ≡ 0
    none-coming x early left [] ss = refl
    none-coming x early left (k ∷ ks) [] = refl
    none-coming x early left (k ∷ ks) (s ∷ ss) =
        sum_by-cons (departure_coming net exit (link_at net exit).travel x) (record { platoon = next_platoon (moved_platoons lists) left k; start = s.start + d }) (departures (moved_platoons lists) (one_less left k) ks (map (moved_served d) ss))
        ∙ ap (λ n. n + coming_in net exit (departures (moved_platoons lists) (one_less left k) ks (map (moved_served d) ss)) x) (none-summed (part_coming net exit (link_at net exit).travel x (s.start + d)) (next_platoon (moved_platoons lists) left k).parts (part-none net exit (link_at net exit).travel x s.start early))
        ∙ zero-more (coming_in net exit (departures (moved_platoons lists) (one_less left k) ks (map (moved_served d) ss)) x)
        ∙ none-coming x early (one_less left k) ks ss

  positive-append : (amount : ℕ → ℕ) (xs ys : List ℕ) → positive_rows amount (xs ++ ys) ≡ positive_rows amount xs ++ positive_rows amount ys
  positive-append amount xs ys =
      ap (filter (λ (row : Row). nat_lt 0 row.amount)) (map-append (λ (x : ℕ). record { second = x; amount = amount x }) xs ys)
      ∙ filter-append (λ (row : Row). nat_lt 0 row.amount) (map (λ x. record { second = x; amount = amount x }) xs) (map (λ x. record { second = x; amount = amount x }) ys)

  none-positive : (amount : ℕ → ℕ) (a n : ℕ) → ((x : ℕ) → x < d → amount x ≡ 0) → a + n ≤ d → positive_rows amount (range_with_len a n) ≡ []
  none-positive amount a zero none most = refl
  none-positive amount a (suc n) none most =
      ap (λ m. if nat_lt 0 m then record { second = a; amount = amount a } ∷ positive_rows amount (range_with_len (a + 1) n) else positive_rows amount (range_with_len (a + 1) n)) (none a (omega (arith, most)))
      ∙ none-positive amount (a + 1) n none (omega (arith, most))

  positive-moved : (amount other : ℕ → ℕ) (a n : ℕ) → ((x : ℕ) → other (x + d) ≡ amount x) → positive_rows other (range_with_len (a + d) n) ≡ moved_forecast d (positive_rows amount (range_with_len a n))
  positive-moved amount other a zero same = refl
  positive-moved amount other a (suc n) same =
      ap (λ (l : List Row). if nat_lt 0 (other (a + d)) then record { second = a + d; amount = other (a + d) } ∷ l else l) (ap (λ s. positive_rows other (range_with_len s n)) (let e : a + d + 1 ≡ a + 1 + d = omega arith in e) ∙ positive-moved amount other (a + 1) n same)
      ∙ ap (λ m. if nat_lt 0 m then record { second = a + d; amount = m } ∷ moved_forecast d (positive_rows amount (range_with_len (a + 1) n)) else moved_forecast d (positive_rows amount (range_with_len (a + 1) n))) (same a)
      ∙ pick (nat_lt 0 (amount a))
    where
      pick : (b : Bool) → (if b then record { second = a + d; amount = amount a } ∷ moved_forecast d (positive_rows amount (range_with_len (a + 1) n)) else moved_forecast d (positive_rows amount (range_with_len (a + 1) n)))
          ≡ moved_forecast d (if b then record { second = a; amount = amount a } ∷ positive_rows amount (range_with_len (a + 1) n) else positive_rows amount (range_with_len (a + 1) n))
      pick true = refl
      pick false = refl

  pub told-moved : (net : Net) (exit now moved : ℕ) (lists : List (List Platoon)) (ks : List ℕ) (ss : List Served) → moved ≡ now + d
      → told_forecast net exit moved (departures (moved_platoons lists) (counts_of (moved_platoons lists)) ks (map (moved_served d) ss)) ≡ moved_forecast d (told_forecast net exit now (departures lists (counts_of lists) ks ss))
  unfolding told_forecast
  told-moved net exit now moved lists ks ss same =
      let other : ℕ → ℕ = coming_in net exit (departures (moved_platoons lists) (counts_of lists) ks (map (moved_served d) ss)) in
      ap (λ c. positive_rows (coming_in net exit (departures (moved_platoons lists) c ks (map (moved_served d) ss))) (range_with_len 0 (moved + net.run.look))) (counts-of-moved lists)
      ∙ ap (positive_rows other) (ap (range_with_len 0) (let e : moved + net.run.look ≡ d + (now + net.run.look) = omega (arith, same) in e) ∙ range-append 0 d (now + net.run.look))
      ∙ positive-append other (range_with_len 0 d) (range_with_len (0 + d) (now + net.run.look))
      ∙ ap (λ l. l ++ positive_rows other (range_with_len (0 + d) (now + net.run.look))) (none-positive other 0 d (λ x early. none-coming net exit lists x early (counts_of lists) ks ss) (omega arith))
      ∙ positive-moved (coming_in net exit (departures lists (counts_of lists) ks ss)) other 0 (now + net.run.look) (λ x. coming-moved net exit lists x (counts_of lists) ks ss)
