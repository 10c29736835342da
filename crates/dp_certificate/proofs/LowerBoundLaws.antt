-- Lines of what is left at the least.
use Rattle.std.proofs.Common.{◌≡◌, ℕ, ◌+◌, ◌-◌, ◌*◌, ◌<◌, ◌≤◌, List, length, get_or, take, ap, sym, ◌∙◌, arith}
use Rattle.std.specs.List.{range_with_len, sum_by}
use Rattle.std.proofs.Math.Nat.{add-mul, mul-add, mul-le-mul_left}
use Rattle.std.proofs.lemmas.List.{get_or_default}
use Rattle.std.proofs.lemmas.List.Sums.{sum_by_more}
use Rattle.switch_rules.specs.Bounds.{greatest_load, latest_arrival}
use Rattle.switch_rules.specs.declared.Cluster.{Cluster}
use Rattle.schedule_meaning.specs.Instances.{Problem, IsSpaced, cluster_at, no_cluster}
use Rattle.dp_certificate.specs.Proves.{wait_until}
use Rattle.dp_certificate.proofs.RestLaws.{late-rest, left_cost, range-more}

-- the first clusters of a list cost this at each second from one on
abbrev pub IsUpward : List Cluster → ℕ → ℕ → ℕ → ℕ → Type 0
IsUpward list index from load offset = (t : ℕ) → from ≤ t → sum_by (wait_until t) (take index list) + offset ≡ load * t

-- one that has arrived waits from then on
waits-from : (load arr t : ℕ) → arr ≤ t → load * (t - arr) + load * arr ≡ load * t
waits-from load arr t h = sym (mul-add load (t - arr) arr) ∙ ap (λ n. load * n) (let e : t - arr + arr ≡ t = omega arith in e)

-- one more of them
pub upward-more : (list : List Cluster) (index from load offset s m a : ℕ) (d : Cluster) → index < length list → from ≤ (cluster_at list index).arr → IsUpward list index from load offset → s ≡ (get_or list index d).load → m ≡ (get_or list index d).load → a ≡ (get_or list index d).arr
    → IsUpward list (index + 1) (get_or list index d).arr (load + s) (offset + m * a)
upward-more list index from load offset s m a d inside rise h es em ea t later =
    let c = get_or list index d in
    let there : c ≡ cluster_at list index = get_or_default list index d no_cluster inside in
    let product : m * a ≡ c.load * c.arr = ap (λ n. n * a) em ∙ ap (λ n. c.load * n) ea in
    let steep : (load + s) * t ≡ load * t + c.load * t = ap (λ n. (load + n) * t) es ∙ add-mul load c.load t in
    omega (
      arith,
      sum_by_more (wait_until t) list index d inside,
      waits-from c.load c.arr t later,
      h t (omega (arith, rise, later, ap (λ (x : Cluster). x.arr) there)),
      product,
      steep,
    )

-- the next one arrives no earlier
pub upward-rise : (list : List Cluster) (index : ℕ) (d : Cluster) → IsSpaced list → index < length list → index + 1 < length list → (get_or list index d).arr ≤ (cluster_at list (index + 1)).arr
upward-rise list index d spaced inside next = omega (arith, spaced index next, ap (λ (x : Cluster). x.arr) (get_or_default list index d no_cluster inside))

-- after the first that arrives later none waits
pub upward-late : (list : List Cluster) (index from load offset : ℕ) (d : Cluster) → IsSpaced list → index < length list → IsUpward list index from load offset → (t : ℕ) → from ≤ t → t ≤ (get_or list index d).arr → sum_by (wait_until t) list + offset ≡ load * t
upward-late list index from load offset d spaced inside h t later early = omega (arith, h t later, late-rest t index list d spaced inside early)

-- the offset of one
pub offset-le : (load arr : ℕ) → load ≤ greatest_load → arr ≤ latest_arrival → load * arr ≤ greatest_load * latest_arrival
offset-le load arr few early = omega (arith, mul-le-mul_left load early, few)

-- one more phase
pub lines-more : (p : Problem) (counts : List ℕ) (n t a b load offset more lift : ℕ) → a + offset ≡ load * t → b + lift ≡ more * t → a ≡ sum_by (left_cost p counts t) (range_with_len 0 n) → b ≡ left_cost p counts t n
    → sum_by (left_cost p counts t) (range_with_len 0 (n + 1)) + (offset + lift) ≡ (load + more) * t
lines-more p counts n t a b load offset more lift one two first last =
    omega (arith, range-more (left_cost p counts t) n a b first last, one, two, add-mul load more t)
