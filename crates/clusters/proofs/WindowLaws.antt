-- Fronts of platoons grow one by one, and the longest one that can be planned at once is the window.
use Rattle.std.proofs.Common.{◌≡◌, ◌≢◌, ℕ, zero, suc, ◌+◌, ◌-◌, ◌*◌, ◌<◌, ◌≤◌, List, [], ◌∷◌, All, length, get_or, set, sum, refl, sym, ap, subst, ◌∙◌, inl, inr, arith, length-set, get_or-set_other, get_or-set_same}
use Rattle.std.proofs.Math.Nat.{mul-le-mul_left, mul_comm}
use Rattle.std.proofs.lemmas.List.{length-map, get_or_past}
use Rattle.std.proofs.lemmas.List.Elements.{All-get_or}
use Rattle.std.proofs.lemmas.List.Sums.{sum_by-cons}
use Rattle.std.proofs.lemmas.Bool.{cases_lt}
use Rattle.std.proofs.lemmas.Bool.Decides.{eqb_tells}
use Rattle.switch_rules.specs.Arriving.{ComesFirst}
use Rattle.switch_rules.specs.Orders.{orders, mixtures, choose}
use Rattle.switch_rules.proofs.Arriving.{one-first}
use Rattle.switch_rules.proofs.Counting.{length-orders_of}
use Rattle.clusters.specs.declared.vehicle_groups.Platoon.{Platoon}
use Rattle.clusters.specs.Platoons.{platoons_at}
use Rattle.clusters.specs.Windows.{IsFront, IsLongest, IsRising, ArePlannableCounts, arrival, arrivals}
use Rattle.clusters.specs.Taking.{IsFirstAmong}
use Rattle.clusters.proofs.ListLaws.{rising-apart}

-- more of some phases make no fewer orders
choose-more-own : (n s : ℕ) → choose (n + s) n ≤ choose (suc n + s) (suc n)
choose-more-own n s = let e : suc n + s ≡ suc (n + s) = omega arith in rw e (omega arith)

choose-more-other : (n s : ℕ) → choose (n + s) n ≤ choose (n + suc s) n
choose-more-other zero s = omega arith
choose-more-other (suc k) s =
    let e : suc k + suc s ≡ suc (suc k + s) = omega arith in
    rw e (omega arith)

choose-more-by : (n s d : ℕ) → choose (n + s) n ≤ choose (n + d + s) (n + d)
choose-more-by n s zero = let e : n + zero ≡ n = omega arith in rw e (omega arith)
choose-more-by n s (suc d) =
    let e : n + suc d ≡ suc (n + d) = omega arith in
    rw e (omega (arith, choose-more-by n s d, choose-more-own (n + d) s))

choose-others-by : (n s d : ℕ) → choose (n + s) n ≤ choose (n + (s + d)) n
choose-others-by n s zero = let e : s + zero ≡ s = omega arith in rw e (omega arith)
choose-others-by n s (suc d) =
    let e : s + suc d ≡ suc (s + d) = omega arith in
    rw e (omega (arith, choose-others-by n s d, choose-more-other n (s + d)))

choose-grows : (n s m t : ℕ) → n ≤ m → s ≤ t → choose (n + s) n ≤ choose (m + t) m
choose-grows n s m t le le2 =
    let e : n + (m - n) ≡ m = omega arith in
    let f : s + (t - s) ≡ t = omega arith in
    let P : ℕ → Type 0 = λ x. choose (n + s) n ≤ choose (x + s) x in
    let Q : ℕ → Type 0 = λ x. choose (m + s) m ≤ choose (m + x) m in
    let own : choose (n + s) n ≤ choose (m + s) m = subst P e (choose-more-by n s (m - n)) in
    let others : choose (m + s) m ≤ choose (m + t) m = subst Q f (choose-others-by m s (t - s)) in
    omega arith

pub sum-grows : (a b : List ℕ) → length a ≡ length b → ((k : ℕ) → get_or a k 0 ≤ get_or b k 0) → sum a ≤ sum b
sum-grows [] b e h = omega arith
sum-grows (x ∷ a) [] e h = absurd (omega arith)
sum-grows (x ∷ a) (y ∷ b) e h =
    omega (arith, sum_by-cons (λ n. n) x a, sum_by-cons (λ n. n) y b, h 0, sum-grows a b (omega arith) (λ k. h (suc k)))

mul-grows : (a b c d : ℕ) → a ≤ b → c ≤ d → a * c ≤ b * d
mul-grows a b c d le le2 = omega (arith, mul-le-mul_left a le2, mul-le-mul_left d le, mul_comm d a, mul_comm d b)

mixtures-grow : (a b : List ℕ) → length a ≡ length b → ((k : ℕ) → get_or a k 0 ≤ get_or b k 0) → mixtures a ≤ mixtures b
mixtures-grow [] [] e h = omega arith
mixtures-grow [] (y ∷ b) e h = absurd (omega arith)
mixtures-grow (x ∷ a) [] e h = absurd (omega arith)
mixtures-grow (x ∷ a) (y ∷ b) e h =
    mul-grows (choose (x + sum a) x) (choose (y + sum b) y) (mixtures a) (mixtures b)
    (choose-grows x (sum a) y (sum b) (h 0) (sum-grows a b (omega arith) (λ k. h (suc k))))
    (mixtures-grow a b (omega arith) (λ k. h (suc k)))

pub orders-grow : (a b : List ℕ) → length a ≡ length b → ((k : ℕ) → get_or a k 0 ≤ get_or b k 0) → length (orders a) ≤ length (orders b)
orders-grow a b e h = omega (arith, length-orders_of (sum a) a refl, length-orders_of (sum b) b refl, mixtures-grow a b e h)

none-of : (xs : List ℕ) → length xs ≡ 0 → sum xs ≡ 0
none-of [] h = refl
none-of (x ∷ xs) h = absurd (omega arith)

-- a phase with a platoon exists
below-there : (lists : List (List Platoon)) (k place : ℕ) → place < length (platoons_at lists k) → k < length lists
below-there lists k place lt = elim (cases_lt k (length lists)) [
  | inl below ↦ below
  | inr past ↦ absurd (let e : platoons_at lists k ≡ [] = get_or_past lists k [] past in omega (arith, ap length e))
]

-- of two lists with different sums, one has less at some place
some-less : (a b : List ℕ) → length a ≡ length b → sum a < sum b → (q : ℕ) × (get_or a q 0 < get_or b q 0)
some-less [] b e lt = absurd (omega (arith, none-of b (omega arith)))
some-less (x ∷ a) [] e lt = absurd (omega arith)
some-less (x ∷ a) (y ∷ b) e lt = elim (cases_lt x y) [
  | inl below ↦ (0, below)
  | inr past ↦
      let rest : (q : ℕ) × (get_or a q 0 < get_or b q 0) = some-less a b (omega arith) (omega (arith, sum_by-cons (λ n. n) x a, sum_by-cons (λ n. n) y b)) in
      (suc rest.0, rest.1)
]

-- platoons of a phase arrive one after another
rising-at : (lists : List (List Platoon)) (k : ℕ) → All IsRising lists → IsRising (platoons_at lists k)
rising-at lists k h = elim (cases_lt k (length lists)) [
  | inl below ↦ All-get_or IsRising lists k [] below h
  | inr past ↦
      let e : platoons_at lists k ≡ [] = get_or_past lists k [] past in
      let P : List Platoon → Type 0 = IsRising in
      subst P (sym e) (record { few = omega arith; rising = λ i lt. absurd (omega arith) })
]

length-arrivals : (list : List Platoon) → length (arrivals list) ≡ length list
length-arrivals list = length-map list (λ (p : Platoon). p.cluster.arr)

arrives-later : (lists : List (List Platoon)) (k i j : ℕ) → All IsRising lists → i < j → j < length (platoons_at lists k) → arrival lists k i < arrival lists k j
arrives-later lists k i j h lt below =
    rising-apart (arrivals (platoons_at lists k)) (rising-at lists k h).rising i j lt (omega (arith, length-arrivals (platoons_at lists k)))

-- what comes first of a list's rest comes before all of it
comes-before-later : (lists : List (List Platoon)) (arr phase k i j : ℕ) → All IsRising lists → i ≤ j → j < length (platoons_at lists k)
    → ComesFirst arr phase (arrival lists k i) k → ComesFirst arr phase (arrival lists k j) k
comes-before-later lists arr phase k i j h le below first = elim (cases_lt i j) [
  | inl lt ↦ let later : arrival lists k i < arrival lists k j = arrives-later lists k i j h lt below in elim first [
    | inl before ↦ inl (omega arith)
    | inr together ↦ inl (omega (arith, together.0))
  ]
  | inr ge ↦ let e : i ≡ j = omega arith in let P : ℕ → Type 0 = λ x. ComesFirst arr phase (arrival lists k x) k in subst P e first
]

-- one more of a phase
abbrev pub more_of : List ℕ → ℕ → List ℕ
more_of counts p = set counts p (get_or counts p 0 + 1)

more-le : (counts : List ℕ) (p k : ℕ) → get_or counts k 0 ≤ get_or (more_of counts p) k 0
more-le counts p k = elim (eqb_tells k p) [
  | inl same ↦ elim (cases_lt p (length counts)) [
    | inl below ↦ let at : k ≡ p = same.1 in rw at (rw get_or-set_same (omega arith))
    | inr past ↦ let none : get_or counts k 0 ≡ 0 = get_or_past counts k 0 (omega (arith, same.1)) in omega (arith, none)
  ]
  | inr other ↦ let ne : k ≢ p = other.1 in rw get_or-set_other (omega arith)
]

pub front-grows : (lists : List (List Platoon)) (counts : List ℕ) (first : ℕ × ℕ) → All IsRising lists → IsFront lists counts
    → IsFirstAmong lists counts (length lists) first → IsFront lists (more_of counts first.1)
front-grows lists counts first rising h next =
    let p : ℕ = first.1 in
    let room : first.1 < length counts = omega (arith, h.phases, next.phase) in
    record {
      phases = length-set counts first.1 (get_or counts first.1 0 + 1) ∙ h.phases;
      there = λ k. elim (eqb_tells k first.1) [
        | inl same ↦ let at : k ≡ first.1 = same.1 in rw at (rw get_or-set_same (omega (arith, next.waits)))
        | inr other ↦ let ne : k ≢ first.1 = other.1 in rw get_or-set_other (h.there k)
      ];
      before = λ j k taken waiting was waits below. elim (cases_lt taken (get_or counts j 0)) [
        | inl old ↦ h.before j k taken waiting old (omega (arith, more-le counts first.1 k)) below
        | inr new ↦ elim (eqb_tells j first.1) [
          | inr other ↦ absurd (let ne : j ≢ first.1 = other.1 in let e : get_or (more_of counts first.1) j 0 ≡ get_or counts j 0 = get_or-set_other counts first.1 j (get_or counts first.1 0 + 1) 0 ne in omega (arith, e))
          | inl same ↦
              let at : j ≡ first.1 = same.1 in
              let value : get_or (more_of counts first.1) first.1 0 ≡ get_or counts first.1 0 + 1 = get_or-set_same counts first.1 (get_or counts first.1 0 + 1) 0 room in
              let now : taken ≡ get_or counts first.1 0 = omega (arith, ap (λ x. get_or (more_of counts first.1) x 0) at, ap (λ x. get_or counts x 0) at, value, was, new) in
              let mine : arrival lists first.1 taken ≡ first.0 = ap (arrival lists first.1) now ∙ sym next.arr in
              rw at (elim (eqb_tells k first.1) [
                | inl own ↦
                    let also : k ≡ first.1 = own.1 in
                    let later : taken < waiting = omega (arith, ap (λ x. get_or (more_of counts first.1) x 0) also, value) in
                    rw also (inl (arrives-later lists first.1 taken waiting rising later (omega (arith, ap (λ x. length (platoons_at lists x)) also))))
                | inr other ↦
                    let ne : k ≢ first.1 = other.1 in
                    let kept : get_or (more_of counts first.1) k 0 ≡ get_or counts k 0 = get_or-set_other counts first.1 k (get_or counts first.1 0 + 1) 0 ne in
                    let inside : k < length lists = below-there lists k waiting below in
                    rw mine (comes-before-later lists first.0 first.1 k (get_or counts k 0) waiting rising (omega (arith, kept)) below (next.comes k inside (omega (arith, kept))))
              ])
        ]
      ];
    }

-- a front that has more somewhere has no less anywhere
pub front-within : (lists : List (List Platoon)) (counts more : List ℕ) (q : ℕ) → IsFront lists counts → IsFront lists more → get_or counts q 0 < get_or more q 0
    → (k : ℕ) → get_or counts k 0 ≤ get_or more k 0
front-within lists counts more q h g lt k = elim (cases_lt (get_or more k 0) (get_or counts k 0)) [
  | inr fine ↦ fine
  | inl less ↦ absurd (
      let one : ComesFirst (arrival lists k (get_or more k 0)) k (arrival lists q (get_or counts q 0)) q =
      h.before k q (get_or more k 0) (get_or counts q 0) less (omega arith) (omega (arith, g.there q)) in
      let other : ComesFirst (arrival lists q (get_or counts q 0)) q (arrival lists k (get_or more k 0)) k =
      g.before q k (get_or counts q 0) (get_or more k 0) lt (omega arith) (omega (arith, h.there k)) in
      let same : k ≡ q = one-first (arrival lists k (get_or more k 0)) k (arrival lists q (get_or counts q 0)) q one other in
      omega (arith, ap (λ x. get_or more x 0) same, ap (λ x. get_or counts x 0) same))
]

-- and it has the one that comes first
front-has : (lists : List (List Platoon)) (counts more : List ℕ) (first : ℕ × ℕ) (q : ℕ) → IsFront lists more → IsFirstAmong lists counts (length lists) first
    → get_or counts q 0 < get_or more q 0 → get_or counts first.1 0 < get_or more first.1 0
front-has lists counts more first q g next lt = elim (cases_lt (get_or counts first.1 0) (get_or more first.1 0)) [
  | inl fine ↦ fine
  | inr less ↦ absurd (
      let there : get_or counts q 0 < length (platoons_at lists q) = omega (arith, g.there q) in
      let one : ComesFirst (arrival lists q (get_or counts q 0)) q (arrival lists first.1 (get_or counts first.1 0)) first.1 =
      g.before q first.1 (get_or counts q 0) (get_or counts first.1 0) lt less next.waits in
      let comes : ComesFirst first.0 first.1 (arrival lists q (get_or counts q 0)) q = next.comes q (below-there lists q (get_or counts q 0) there) there in
      let P : ℕ → Type 0 = λ a. ComesFirst a first.1 (arrival lists q (get_or counts q 0)) q in
      let same : q ≡ first.1 = one-first (arrival lists q (get_or counts q 0)) q (arrival lists first.1 (get_or counts first.1 0)) first.1 one (subst P next.arr comes) in
      omega (arith, ap (λ x. get_or more x 0) same, ap (λ x. get_or counts x 0) same))
]

-- where the next one makes too many orders, no longer front can be planned
pub stuck-longest : (lists : List (List Platoon)) (counts : List ℕ) (first : ℕ × ℕ) → IsFront lists counts → ArePlannableCounts counts
    → IsFirstAmong lists counts (length lists) first → 50000 < length (orders (more_of counts first.1)) → IsLongest lists counts
stuck-longest lists counts first h small next many = record {
  front = h;
  small = small;
  longest = λ more g fits. elim (cases_lt (sum counts) (sum more)) [
    | inr fine ↦ fine
    | inl lt ↦ absurd (
        let same : length counts ≡ length more = h.phases ∙ sym g.phases in
        let less : (q : ℕ) × (get_or counts q 0 < get_or more q 0) = some-less counts more same lt in
        let has : get_or counts first.1 0 < get_or more first.1 0 = front-has lists counts more first less.0 g next less.1 in
        let room : first.1 < length counts = omega (arith, h.phases, next.phase) in
        let below : (k : ℕ) → get_or (more_of counts first.1) k 0 ≤ get_or more k 0 = λ k. elim (eqb_tells k first.1) [
          | inl own ↦ let at : k ≡ first.1 = own.1 in rw at (rw get_or-set_same (omega arith))
          | inr other ↦ let ne : k ≢ first.1 = other.1 in rw get_or-set_other (front-within lists counts more less.0 h g less.1 k)
        ] in
        let grows : length (orders (more_of counts first.1)) ≤ length (orders more) =
        orders-grow (more_of counts first.1) more (length-set counts first.1 (get_or counts first.1 0 + 1) ∙ same) below in
        omega (arith, grows, many, fits.orders))
  ];
}

pub whole-longest : (lists : List (List Platoon)) (counts : List ℕ) → IsFront lists counts → ArePlannableCounts counts
    → ((k : ℕ) → k < length lists → length (platoons_at lists k) ≤ get_or counts k 0) → IsLongest lists counts
whole-longest lists counts h small none = record {
  front = h;
  small = small;
  longest = λ more g fits. sum-grows more counts (g.phases ∙ sym h.phases) (λ k. elim (cases_lt k (length lists)) [
    | inl below ↦ omega (arith, g.there k, none k below)
    | inr past ↦ let nothing : get_or more k 0 ≡ 0 = get_or_past more k 0 (omega (arith, g.phases)) in omega (arith, nothing)
  ]);
}
