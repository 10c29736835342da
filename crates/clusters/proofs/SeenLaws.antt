-- What is seen coming, and the inflow that it makes with a forecast.
use Rattle.std.proofs.Math.Seq.{take-append_seam}
use Rattle.std.proofs.Common.{◌≡◌, ◌≢◌, ℕ, Bool, true, false, Some, find, unwrap_or, drop, ◌+◌, ◌-◌, ◌<◌, ◌≤◌, cond, nat_lt, nat_eq, List, [], ◌∷◌, ◌++◌, length, get_or, set, take, map, min, sum, sum_by, replicate, refl, sym, ap, subst, ◌∙◌, inl, inr, arith, length-set, length-append, get_or-set_other, get_or-set_same}
use Rattle.std.specs.List.{range_with_len}
use Rattle.std.proofs.lemmas.List.{get_or_append_left, get_or-append-add, get_or-take, get_or-replicate, get_or_past, length-take, length-replicate, ext_get_or}
use Rattle.std.proofs.lemmas.List.FromFn.{get_or-map-range_with_len, length-map-range_with_len}
use Rattle.std.proofs.lemmas.List.Folds.{sum_by-replicate}
use Rattle.std.proofs.lemmas.List.Sums.{sum_by-append, sum_by-cons, sum_by-take-le, sum_by-set}
use Rattle.std.proofs.lemmas.Bool.{cases_lt, cond_below, cond_above, eq-eqb, cond-true, cond-false}
use Rattle.std.proofs.lemmas.Bool.Decides.{eqb_tells}
use Rattle.board_model.specs.declared.forecasts.Row.{Row}
use Rattle.board_model.specs.Forecasts.{amount_at}
use Rattle.board_model.specs.declared.boards.Heard.{Heard}
use Rattle.net_parts.specs.Numbers.{Net}
use Rattle.net_parts.specs.Outline.{link_at}
use Rattle.net_parts.specs.declared.roads.Link.{Link}
use Rattle.road_net.specs.Senses.{amount}
use Rattle.road_net.specs.declared.senses.LinkSense.{LinkSense}
use Rattle.road_net.specs.declared.senses.Sensed.{Sensed}
use Rattle.clusters.specs.Smoothing.{smoothed}
use Rattle.clusters.specs.Inflow.{inflow, inflow_at, leaving, sense_of, heard_forecast, no_sense}
use Rattle.clusters.specs.Steps.{IsSeen}

abbrev pub zeros : ℕ → List ℕ
zeros n = replicate n 0

length_zeros : (n : ℕ) → length (zeros n) ≡ n
length_zeros n = length-replicate n (let z : ℕ = 0 in z)

get_or-zeros : (n k : ℕ) → get_or (zeros n) k 0 ≡ 0
get_or-zeros n k = elim (cases_lt k n) [
  | inl below ↦ get_or-replicate n k 0 0 below
  | inr past ↦ get_or_past (zeros n) k 0 (omega (arith, length_zeros n))
]

-- a list with zeros after it
padded-front : (xs : List ℕ) (n k : ℕ) → k < length xs → get_or (xs ++ zeros n) k 0 ≡ get_or xs k 0
padded-front xs n k lt = get_or_append_left xs (zeros n) 0 k lt

padded-after : (xs : List ℕ) (n k : ℕ) → length xs ≤ k → get_or (xs ++ zeros n) k 0 ≡ 0
padded-after xs n k le =
    let e : length xs + (k - length xs) ≡ k = omega arith in
    let h : get_or (xs ++ zeros n) (length xs + (k - length xs)) 0 ≡ get_or (zeros n) (k - length xs) 0 = get_or-append-add xs (zeros n) (k - length xs) 0 in
    let P : ℕ → Type 0 = λ j. get_or (xs ++ zeros n) j 0 ≡ 0 in
    subst P e (h ∙ get_or-zeros n (k - length xs))

padded-front-of : (coming : List ℕ) (seen n k : ℕ) → seen ≤ length coming → k < seen → get_or (take seen coming ++ zeros n) k 0 ≡ get_or coming k 0
padded-front-of coming seen n k le lt = padded-front (take seen coming) n k (omega (arith, length-take seen coming)) ∙ get_or-take seen coming k 0 lt

padded-after-of : (coming : List ℕ) (seen n k : ℕ) → seen ≤ length coming → seen ≤ k → get_or (take seen coming ++ zeros n) k 0 ≡ 0
padded-after-of coming seen n k le past = padded-after (take seen coming) n k (omega (arith, length-take seen coming))

pub length-padded : (front xs : List ℕ) (count : ℕ) → length front ≤ count → xs ≡ front ++ zeros (count - length front) → length xs ≡ count
length-padded front xs count le made = ap length made ∙ length-append front (zeros (count - length front)) ∙ omega (arith, length_zeros (count - length front))

pub seen-made : (look travel queue : ℕ) (coming xs : List ℕ) (seen : ℕ)
    → 1 ≤ look → 1 ≤ travel → seen ≡ min (length coming) (min travel look) → xs ≡ take seen coming ++ zeros (look - seen)
    → IsSeen look travel queue coming (set xs 0 (get_or xs 0 0 + queue))
seen-made look travel queue coming xs seen some far_off e made =
    let n : ℕ = look - seen in
    let count : length xs ≡ look = ap length made ∙ length-append (take seen coming) (zeros (look - seen)) ∙ omega (arith, length-take seen coming, length_zeros (look - seen)) in
    let room : 0 < length xs = omega arith in
    let value : (k : ℕ) → k < look → k < travel → get_or xs k 0 ≡ get_or coming k 0 = λ k lt near. elim (cases_lt k seen) [
      | inl below ↦ ap (λ ys. get_or ys k 0) made ∙ padded-front-of coming seen (look - seen) k (omega arith) below
      | inr past ↦ ap (λ ys. get_or ys k 0) made ∙ padded-after-of coming seen (look - seen) k (omega arith) past ∙ sym (get_or_past coming k 0 (omega arith))
    ] in
    let nothing : (k : ℕ) → travel ≤ k → get_or xs k 0 ≡ 0 = λ k le. ap (λ ys. get_or ys k 0) made ∙ padded-after-of coming seen (look - seen) k (omega arith) (omega arith) in
    let total : sum xs ≤ sum coming =
    omega (arith, ap sum made, sum_by-append (λ x. x) (take seen coming) (zeros (look - seen)), sum_by-replicate (λ x. x) (look - seen) 0, sum_by-take-le (λ x. x) coming seen) in
    record {
      count = length-set xs 0 (get_or xs 0 0 + queue) ∙ count;
      near = λ k lt near. elim (eqb_tells k 0) [
        | inl equal ↦
            let at : k ≡ 0 = equal.1 in
            let first : get_or xs 0 0 ≡ get_or coming 0 0 = value 0 (omega arith) (omega arith) in
            rw at (rw get_or-set_same (omega (arith, first)))
        | inr other ↦
            let ne : k ≢ 0 = other.1 in
            let skip : cond (nat_eq k 0) queue 0 ≡ 0 = cond-false (nat_eq k 0) queue 0 other.0 in
            rw get_or-set_other (omega (arith, value k lt near, skip))
      ];
      far = λ k le. let ne : k ≢ 0 = omega arith in rw get_or-set_other (nothing k le);
      total = omega (arith, sum_by-set (λ x. x) xs 0 (get_or xs 0 0 + queue) 0 room, total);
    }

-- with the forecast after the time of travel, it is the inflow
pub inflow-made : (now look travel queue : ℕ) (coming : List ℕ) (rows : List Row) (seen amounts : List ℕ)
    → IsSeen look travel queue coming seen → length amounts ≡ length seen
    → ((k : ℕ) → k < length seen → get_or amounts k 0 ≡ cond (nat_lt (now + k) (now + travel)) (get_or seen k 0) (amount_at rows (now + k)))
    → 1 ≤ travel → amounts ≡ inflow now look travel queue coming rows
unfolding inflow
inflow-made now look travel queue coming rows seen amounts h same value some =
    ext_get_or 0 amounts (map (inflow_at now travel queue coming rows) (range_with_len now look))
    (omega (arith, same, h.count, length-map-range_with_len (inflow_at now travel queue coming rows) now look))
    (λ k lt.
    let within : k < look = omega (arith, same, h.count) in
    let back : now + k - now ≡ k = omega arith in
    value k (omega arith)
    ∙ (elim (cases_lt k travel) [
      | inl near ↦
          let at : cond (nat_eq (now + k) now) queue 0 ≡ cond (nat_eq k 0) queue 0 = elim (eqb_tells k 0) [
            | inl equal ↦ cond-true (nat_eq (now + k) now) queue 0 (eq-eqb (now + k) now (omega (arith, equal.1))) ∙ sym (cond-true (nat_eq k 0) queue 0 equal.0)
            | inr other ↦ elim (eqb_tells (now + k) now) [
              | inl bad ↦ absurd (other.1 (omega (arith, bad.1)))
              | inr differ ↦ cond-false (nat_eq (now + k) now) queue 0 differ.0 ∙ sym (cond-false (nat_eq k 0) queue 0 other.0)
            ]
          ] in
          let come : get_or coming (now + k - now) 0 ≡ get_or coming k 0 = ap (λ j. get_or coming j 0) back in
          sym (cond_below (now + k) (now + travel) (get_or seen k 0) (amount_at rows (now + k)) (omega arith))
          ∙ h.near k within near
          ∙ sym (omega (arith, at, come, cond_below (now + k) (now + travel) (get_or coming (now + k - now) 0) (amount_at rows (now + k)) (omega arith)))
      | inr far ↦
          let at : cond (nat_eq (now + k) now) queue 0 ≡ 0 = elim (eqb_tells (now + k) now) [
            | inl bad ↦ absurd (omega (arith, bad.1))
            | inr differ ↦ cond-false (nat_eq (now + k) now) queue 0 differ.0
          ] in
          omega (
            arith,
            at,
            cond_above (now + k) (now + travel) (get_or seen k 0) (amount_at rows (now + k)) (amount_at rows (now + k)) (omega arith) refl,
            cond_above (now + k) (now + travel) (get_or coming (now + k - now) 0) (amount_at rows (now + k)) (amount_at rows (now + k)) (omega arith) refl,
          )
    ])
    ∙ sym (get_or-map-range_with_len (inflow_at now travel queue coming rows) now look k (now + k) 0 within refl))

-- what was written through a loan of a whole list
pub written : {X : Type 0} (xs ys : List X) (n : ℕ) → length ys ≡ length xs → n ≡ length xs → take n (ys ++ drop (length ys) xs) ≡ ys
written xs ys n same e = let f : n ≡ length ys = omega arith in rw f (take-append_seam ys (drop (length ys) xs))

-- what is sensed of one link is within what is sensed of all
found-within : (p : LinkSense → Bool) (xs : List LinkSense) → amount (unwrap_or (find p xs) no_sense) ≤ sum_by amount xs
found-within p [] = omega arith
found-within p (x ∷ xs) =
    elim (p x) as (λ b. amount (unwrap_or (cond b (Some x) (find p xs)) no_sense) ≤ sum_by amount (x ∷ xs)) [
      | true ↦ omega (arith, sum_by-cons amount x xs)
      | false ↦ omega (arith, sum_by-cons amount x xs, found-within p xs)
    ]

pub sense-within : (sensed : Sensed) (l queue : ℕ) (coming : List ℕ) → queue ≡ (sense_of sensed l).queue → coming ≡ (sense_of sensed l).coming
    → queue + sum coming ≤ sum_by amount sensed.links
unfolding sense_of
sense-within sensed l queue coming q e =
    let h : amount (sense_of sensed l) ≤ sum_by amount sensed.links = found-within (λ s. nat_eq s.link l) sensed.links in
    omega (arith, q, ap sum e, h)

-- what leaves a link, of the parts as they were found
pub leaving-made : (net : Net) (sensed : Sensed) (heard : List Heard) (l : ℕ) (link : Link) (look queue : ℕ) (coming : List ℕ) (rows : List Row) (inflows amounts : List ℕ)
    → link ≡ link_at net l → look ≡ net.run.look → queue ≡ (sense_of sensed l).queue → coming ≡ (sense_of sensed l).coming → rows ≡ heard_forecast heard l
    → inflows ≡ inflow sensed.now look link.travel queue coming rows → amounts ≡ smoothed link.sat inflows → amounts ≡ leaving net sensed heard l
unfolding leaving
leaving-made net sensed heard l link look queue coming rows inflows amounts a r q c f i h = h ∙ ap (smoothed link.sat) i ∙ rw (a, r, q, c, f) refl
