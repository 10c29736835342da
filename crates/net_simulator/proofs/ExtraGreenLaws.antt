-- Further greens beside the home of a link never lengthen its queue.
use Rattle.std.proofs.Common.{◌≡◌, ℕ, zero, suc, ◌+◌, ◌-◌, ◌<◌, ◌≤◌, ◌⊎◌, Bool, true, false, cond, min, ap, subst, ◌∙◌, inl, inr, arith}
use Rattle.std.proofs.lemmas.Bool.{cases_lt, cases_Bool}
use Rattle.std.proofs.Math.Nat.{min-le_left, min-le_right, le-min}
use Rattle.net_simulator.specs.Discharging.{AreWays, Discharges, IsWithin, Rises, begun, green_for}

-- how long a green lasts

pub green-more : (on : ℕ → Bool) (x : ℕ) → on x ≡ true → green_for on (suc x) ≡ suc (green_for on x)
green-more on x e = ap (λ (b : Bool). cond b (suc (green_for on x)) 0) e

pub green-none : (on : ℕ → Bool) (x : ℕ) → on x ≡ false → green_for on (suc x) ≡ 0
green-none on x e = ap (λ (b : Bool). cond b (suc (green_for on x)) 0) e

pub green-by : (on : ℕ → Bool) (x : ℕ) → green_for on x ≤ x
green-by on zero = omega arith
green-by on (suc x) = elim (cases_Bool (on x)) [
  | inl is ↦ omega (arith, green-more on x is, green-by on x)
  | inr isnt ↦ omega (arith, green-none on x isnt)
]

green-within : (home all : ℕ → Bool) → IsWithin home all → (x : ℕ) → green_for home x ≤ green_for all x
green-within home all within zero = omega arith
green-within home all within (suc x) = elim (cases_Bool (home x)) [
  | inl is ↦ omega (arith, green-more home x is, green-more all x (within x is), green-within home all within x)
  | inr isnt ↦ omega (arith, green-none home x isnt)
]

-- within a green: d seconds later it has lasted d seconds longer
green-run : (on : ℕ → Bool) (y d : ℕ) → d ≤ green_for on (d + y) → green_for on (d + y) ≡ d + green_for on y
green-run on y zero h =
    let same : 0 + y ≡ y = omega arith in
    let none : green_for on y ≡ 0 + green_for on y = omega arith in
    ap (green_for on) same ∙ none
green-run on y (suc d) h =
    let next : suc d + y ≡ suc (d + y) = omega arith in
    let long = ap (green_for on) next in
    elim (cases_Bool (on (d + y))) [
      | inl is ↦
          let more = green-more on (d + y) is in
          let before = green-run on y d (omega (arith, h, long, more)) in
          omega (arith, long, more, before)
      | inr isnt ↦ absurd (omega (arith, h, long, green-none on (d + y) isnt))
    ]

-- what leaves in a second
either : (on : ℕ → Bool) (loss : ℕ → ℕ) (sat : ℕ) (came left : ℕ → ℕ) → Discharges on loss sat came left → (x : ℕ) → (left (suc x) ≡ left x) ⊎ (left (suc x) ≡ left x + min sat (came (suc x) - left x))
either on loss sat came left m x = elim (cases_Bool (on x)) [
  | inl is ↦ elim (cases_lt (green_for on x) (loss x)) [
    | inl early ↦ elim (cases_lt (left (begun on x)) (came (begun on x))) [
      | inl some ↦ inl (m.lost x is early some)
      | inr none ↦ inr (m.free x is none)
    ]
    | inr late ↦ inr (m.late x is late)
  ]
  | inr isnt ↦ inl (m.rests x isnt)
]

kept : (on : ℕ → Bool) (loss : ℕ → ℕ) (sat : ℕ) (came left : ℕ → ℕ) → Discharges on loss sat came left → Rises came → (x : ℕ) → left x ≤ came x
kept on loss sat came left m rises zero = omega (arith, m.start)
kept on loss sat came left m rises (suc x) =
    let before = kept on loss sat came left m rises x in
    elim (either on loss sat came left m x) [
      | inl same ↦ omega (arith, same, before, rises x)
      | inr more ↦ omega (arith, more, before, rises x, min-le_right sat (came (suc x) - left x))
    ]

grows : (on : ℕ → Bool) (loss : ℕ → ℕ) (sat : ℕ) (came left : ℕ → ℕ) → Discharges on loss sat came left → (x : ℕ) → left x ≤ left (suc x)
grows on loss sat came left m x = elim (either on loss sat came left m x) [
  | inl same ↦ omega (arith, same)
  | inr more ↦ omega (arith, more)
]

-- Where a green of all ways lasts g seconds from second b on, is shorter than what the home loses, and a queue stood before it by the
-- home alone, a queue stands by the home alone in each of these seconds.
stands : (home all : ℕ → Bool) (loss losses : ℕ → ℕ) (most sat : ℕ) (came left more : ℕ → ℕ) → AreWays home all loss losses most sat came left more
    → (b g : ℕ) → green_for all (g + b) ≡ g → g < most → left b < came b → (k c : ℕ) → k ≤ g → c ≤ k → left (c + b) < came (c + b)
stands home all loss losses most sat came left more w b g run short queue zero c k_by c_by =
    let none : b ≡ c + b = omega (arith, c_by) in
    subst (λ (d : ℕ). left d < came d) none queue
stands home all loss losses most sat came left more w b g run short queue (suc k) c k_by c_by = elim (cases_lt c (suc k)) [
  | inl less ↦ stands home all loss losses most sat came left more w b g run short queue k c (omega arith) (omega arith)
  | inr last ↦
      let here = stands home all loss losses most sat came left more w b g run short queue k k (omega arith) (omega arith) in
      let same : suc (k + b) ≡ c + b = omega (arith, last, c_by) in
      let after : left (suc (k + b)) ≡ left (k + b) → left (suc (k + b)) < came (suc (k + b)) = λ e. omega (arith, e, here, w.rises (k + b)) in
      subst (λ (d : ℕ). left d < came d) same
      (elim (cases_Bool (home (k + b))) [
        | inr isnt ↦ after (w.by_home.rests (k + b) isnt)
        | inl is ↦
            let split : (g - k) + (k + b) ≡ g + b = omega (arith, k_by) in
            let long : green_for all ((g - k) + (k + b)) ≡ g = ap (green_for all) split ∙ run in
            let lasted = green-run all (k + b) (g - k) (omega (arith, long)) in
            let shorter = green-within home all w.within (k + b) in
            let by_k : green_for home (k + b) ≤ k = omega (arith, long, lasted, shorter, k_by) in
            let since : (k - green_for home (k + b)) + b ≡ begun home (k + b) = omega (arith, by_k) in
            let queued = stands home all loss losses most sat came left more w b g run short queue k (k - green_for home (k + b)) (omega arith) (omega arith) in
            after (w.by_home.lost (k + b) is (omega (arith, by_k, k_by, short, w.home_loss (k + b) is)) (subst (λ (d : ℕ). left d < came d) since queued))
      ])
]

-- a lost second of all ways is lost by the home alone
lost-too : (home all : ℕ → Bool) (loss losses : ℕ → ℕ) (most sat : ℕ) (came left more : ℕ → ℕ) → AreWays home all loss losses most sat came left more
    → (x : ℕ) → home x ≡ true → green_for all x < most → left (begun all x) < came (begun all x) → left (suc x) ≡ left x
lost-too home all loss losses most sat came left more w x is short queue =
    let g = green_for all x in
    let by = green-by all x in
    let split : g + begun all x ≡ x = omega (arith, by) in
    let run : green_for all (g + begun all x) ≡ g = ap (green_for all) split in
    let shorter = green-within home all w.within x in
    let since : (g - green_for home x) + begun all x ≡ begun home x = omega (arith, by, shorter) in
    let queued = stands home all loss losses most sat came left more w (begun all x) g run short queue g (g - green_for home x) (omega arith) (omega arith) in
    w.by_home.lost x is (omega (arith, shorter, short, w.home_loss x is)) (subst (λ (d : ℕ). left d < came d) since queued)

-- in each second no less has left by all ways than by the home alone
helps : (home all : ℕ → Bool) (loss losses : ℕ → ℕ) (most sat : ℕ) (came left more : ℕ → ℕ) → AreWays home all loss losses most sat came left more → (n m : ℕ) → m ≤ n → left m ≤ more m
helps home all loss losses most sat came left more w zero m h =
    let none : 0 ≡ m = omega (arith, h) in
    subst (λ (k : ℕ). left k ≤ more k) none (omega (arith, w.by_home.start))
helps home all loss losses most sat came left more w (suc n) m h = elim (cases_lt m (suc n)) [
  | inl less ↦ helps home all loss losses most sat came left more w n m (omega arith)
  | inr last ↦
      let same : suc n ≡ m = omega (arith, last, h) in
      let here = helps home all loss losses most sat came left more w n n (omega arith) in
      let by = kept all losses sat came more w.by_all w.rises n in
      let rise = w.rises n in
      let grow = grows all losses sat came more w.by_all n in
      let still : left (suc n) ≡ left n → left (suc n) ≤ more (suc n) = λ e. omega (arith, e, here, grow) in
      let flows : more (suc n) ≡ more n + min sat (came (suc n) - more n) → left (suc n) ≤ more (suc n) = λ e.
      elim (either home loss sat came left w.by_home n) [
        | inl rests ↦ still rests
        | inr moves ↦
            let first = min-le_left sat (came (suc n) - left n) in
            let second = min-le_right sat (came (suc n) - left n) in
            elim (cases_lt sat (came (suc n) - more n)) [
              | inl much ↦
                  let least : sat ≤ min sat (came (suc n) - more n) = le-min (omega arith) (omega (arith, much)) in
                  omega (arith, e, moves, first, least, here)
              | inr little ↦
                  let least : came (suc n) - more n ≤ min sat (came (suc n) - more n) = le-min (omega (arith, little)) (omega arith) in
                  omega (arith, e, moves, second, least, here, by, rise)
            ]
      ] in
      subst (λ (k : ℕ). left k ≤ more k) same
      (elim (cases_Bool (home n)) [
        | inr isnt ↦ still (w.by_home.rests n isnt)
        | inl is ↦
            let on = w.within n is in
            elim (cases_lt (green_for all n) most) [
              | inr late ↦ flows (w.by_all.late n on (omega (arith, late, w.same_loss n is)))
              | inl early ↦ elim (cases_lt (more (begun all n)) (came (begun all n))) [
                | inr none ↦ flows (w.by_all.free n on none)
                | inl some ↦
                    let before = helps home all loss losses most sat came left more w n (begun all n) (omega arith) in
                    still (lost-too home all loss losses most sat came left more w n is early (omega (arith, before, some)))
              ]
            ]
      ])
]

pub extra-greens-help : (home all : ℕ → Bool) (loss losses : ℕ → ℕ) (most sat : ℕ) (came left more : ℕ → ℕ) → AreWays home all loss losses most sat came left more → (n : ℕ) → left n ≤ more n
extra-greens-help home all loss losses most sat came left more w n = helps home all loss losses most sat came left more w n n (omega arith)
