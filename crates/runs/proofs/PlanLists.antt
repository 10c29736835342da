-- The plan records of rounds, one after another.
use Rattle.std.proofs.Common.{◌≡◌, ℕ, ◌+◌, ◌*◌, ◌<◌, ◌≤◌, List, [], ◌∷◌, ◌++◌, length, map, get_or, set, take, vec_capacity, vec_len, sym, ap, ◌∙◌, arith, length-append}
use Rattle.std.specs.Global.{Vec}
use Rattle.std.specs.List.{flat_map, range_with_len}
use Rattle.std.proofs.Math.Nat.{mul-le-mul_right}
use Rattle.std.proofs.lemmas.List.{flat_map_more, get_or-map, length-map, take_all, take_more}
use Rattle.std.proofs.lemmas.List.Concat.{length-flat_map}
use Rattle.std.proofs.lemmas.List.Folds.{length-flat_map-take}
use Rattle.std.proofs.lemmas.List.FromFn.{length-map-range_with_len, length-range_with_len}
use Rattle.std.proofs.lemmas.List.Sums.{sum_by-le}
use Rattle.board_model.specs.declared.boards.Heard.{Heard}
use Rattle.clusters.proofs.ListLaws.{range-append}
use Rattle.intersection_actor.specs.Acting.{Acting, without_records}
use Rattle.intersection_actor.specs.Commits.{Commitment, record_of}
use Rattle.intersection_actor.specs.declared.records.PlanRecord.{PlanRecord}
use Rattle.net_parts.specs.Numbers.{Net}
use Rattle.runs.specs.Ending.{records_in}
use Rattle.runs.specs.Resting.{HasPlans}
use Rattle.runs.specs.Runs.{plans_in, plans_of}
use Rattle.runs.proofs.Mixed.{mixed, mixed-all, mixed-get, mixed-step}
use Rattle.runs.proofs.SameParts.{flat-ones, flat-range-same, map-range-same}

-- the plans of the first rounds depend on what was heard and made in these alone
pub plans-same : (net : Net) (heard seen : ℕ → ℕ → List Heard) (made other : ℕ → ℕ → Commitment) (rounds : ℕ) → ((r n : ℕ) → r < rounds → n < length net.node_names → heard r n ≡ seen r n)
    → ((r n : ℕ) → r < rounds → n < length net.node_names → made r n ≡ other r n) → plans_of net heard made rounds ≡ plans_of net seen other rounds
plans-same net heard seen made other rounds h m = flat-range-same (plans_in net heard made) (plans_in net seen other) 0 rounds (λ r least less.
    map-range-same (λ n. record_of n r (heard r n) (made r n)) (λ n. record_of n r (seen r n) (other r n)) 0 (length net.node_names) (λ n least below.
    ap (λ (x : List Heard). record_of n r x (made r n)) (h r n (omega arith) (omega arith)) ∙ ap (record_of n r (seen r n)) (m r n (omega arith) (omega arith))))

-- where each actor has the plan of a round, together they have those of the round
pub round-plans : (net : Net) (heard : ℕ → ℕ → List Heard) (made : ℕ → ℕ → Commitment) (round : ℕ) (actors : List Acting) → length actors ≡ length net.node_names
    → ((n : ℕ) (d : Acting) → n < length net.node_names → (get_or actors n d).records ≡ record_of n round (heard round n) (made round n) ∷ []) → records_in actors ≡ plans_in net heard made round
round-plans net heard made round actors all one =
    let f : ℕ → PlanRecord = λ n. record_of n round (heard round n) (made round n) in
    flat-ones (λ (a : Acting). a.records) f actors 0 (λ k d less. one k d (omega (arith, all)) ∙ ap (λ n. f n ∷ []) (let e : k ≡ 0 + k = omega arith in e)) ∙ ap (λ n. map f (range_with_len 0 n)) all

-- the plans of a round more
pub plans-more : (net : Net) (heard : ℕ → ℕ → List Heard) (made : ℕ → ℕ → Commitment) (round : ℕ) (actors : List Acting) → length actors ≡ length net.node_names
    → ((n : ℕ) (d : Acting) → n < length net.node_names → (get_or actors n d).records ≡ record_of n round (heard round n) (made round n) ∷ []) → plans_of net heard made round ++ records_in actors ≡ plans_of net heard made (round + 1)
plans-more net heard made round actors all one =
    ap (λ l. plans_of net heard made round ++ l) (round-plans net heard made round actors all one)
    ∙ flat_map_more (plans_in net heard made) [] (range_with_len 0 round) round
    ∙ ap (flat_map (plans_in net heard made)) (ap (λ k. range_with_len 0 round ++ k ∷ []) (let e : round ≡ 0 + round = omega arith in e) ∙ sym (range-append 0 round 1))

-- a round has a plan for each node
pub plans-of-round : (net : Net) (heard : ℕ → ℕ → List Heard) (made : ℕ → ℕ → Commitment) (round : ℕ) → length (plans_in net heard made round) ≡ length net.node_names
plans-of-round net heard made round = length-map-range_with_len (λ n. record_of n round (heard round n) (made round n)) 0 (length net.node_names)

-- so there are no more plans than rounds times nodes
pub plans-few : (net : Net) (heard : ℕ → ℕ → List Heard) (made : ℕ → ℕ → Commitment) (rounds : ℕ) → length (plans_of net heard made rounds) ≤ rounds * length net.node_names
plans-few net heard made rounds =
    let nodes : ℕ = length net.node_names in
    let few = sum_by-le (λ round. length (plans_in net heard made round)) nodes (range_with_len 0 rounds) (λ k d less. omega (arith, plans-of-round net heard made (get_or (range_with_len 0 rounds) k d))) in
    omega (arith, few, length-flat_map (plans_in net heard made) (range_with_len 0 rounds), ap (λ k. k * nodes) (length-range_with_len 0 rounds))

module _ (net : Net) (heard : ℕ → ℕ → List Heard) (made : ℕ → ℕ → Commitment) (round : ℕ) (plans : Vec PlanRecord) (has : HasPlans net heard made round plans) (actors : List Acting) where
  -- each actor has the plan of the next round
  module _ (all : length actors ≡ length net.node_names)
      (one : (n : ℕ) (d : Acting) → n < length net.node_names → (get_or actors n d).records ≡ record_of n round (heard round n) (made round n) ∷ []) where
    -- there is room for them
    pub next-room : round < net.run.rounds → vec_len plans + length (records_in actors) ≤ vec_capacity plans
    next-room less =
        let nodes : ℕ = length net.node_names in
        let most : (round + 1) * nodes ≤ net.run.rounds * nodes = mul-le-mul_right {m = round + 1} {n = net.run.rounds} nodes (omega arith) in
        omega (
          arith,
          most,
          has.capacity,
          plans.ok.0,
          ap length has.done,
          length-append (plans_of net heard made round) (records_in actors),
          ap length (plans-more net heard made round actors all one),
          plans-few net heard made (round + 1),
        )

    -- with them, the list has the plans of a round more
    pub plans-next : (next : Vec PlanRecord) → next.items ≡ plans.items ++ records_in actors → vec_capacity plans ≤ vec_capacity next → HasPlans net heard made (round + 1) next
    plans-next next is grown = record {
      done = is ∙ ap (λ l. l ++ records_in actors) has.done ∙ plans-more net heard made round actors all one;
      capacity = omega (arith, has.capacity, grown);
    }

-- x is the next actor, and those before it have moved their records
module _ (actors now : List Acting) (k : ℕ) (x : Acting) (taken : now ≡ mixed (map without_records actors) actors k) (inside : k < length actors) (at : x ≡ get_or now k x) where
  own : x ≡ get_or actors k x
  own = at ∙ ap (λ l. get_or l k x) taken ∙ mixed-get (map without_records actors) actors k x (length-map actors without_records)

  pub moved-actors : (new : Acting) → new ≡ without_records x → set now k new ≡ mixed (map without_records actors) actors (k + 1)
  moved-actors new is =
      (λ i. set (taken i) k (is i))
      ∙ mixed-step (map without_records actors) actors k (without_records x) (without_records x) (length-map actors without_records) (omega (arith, inside, length-map actors without_records))
      (ap without_records own ∙ sym (get_or-map without_records actors k x (without_records x) inside))

  pub moved-plans : (start plans next : List PlanRecord) → plans ≡ start ++ records_in (take k actors) → next ≡ plans ++ x.records → next ≡ start ++ records_in (take (k + 1) actors)
  moved-plans start plans next before is =
      is ∙ ap (λ l. l ++ x.records) before
      ∙ flat_map_more (λ (a : Acting). a.records) start (take k actors) x
      ∙ ap (λ l. start ++ records_in l) (ap (λ y. take k actors ++ y ∷ []) own ∙ sym (take_more actors k x inside))

  -- there is room for its records where there is room for those of all
  pub moved-room : (start plans : List PlanRecord) → plans ≡ start ++ records_in (take k actors) → length plans + length x.records ≤ length start + length (records_in actors)
  moved-room start plans before =
      omega (
        arith,
        ap length before,
        length-append start (records_in (take k actors)),
        length-flat_map-take (λ (a : Acting). a.records) actors k x inside,
        ap (λ (a : Acting). length a.records) own,
      )

-- all have moved them
pub moved-all : (actors now : List Acting) (k : ℕ) (start plans : List PlanRecord) → length actors ≤ k → now ≡ mixed (map without_records actors) actors k → plans ≡ start ++ records_in (take k actors)
    → (now ≡ map without_records actors) × (plans ≡ start ++ records_in actors)
moved-all actors now k start plans past taken is = (
  taken ∙ mixed-all (map without_records actors) actors k (length-map actors without_records) (omega (arith, past, length-map actors without_records)),
  is ∙ ap (λ l. start ++ records_in l) (take_all k actors past),
)
