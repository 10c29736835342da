-- What comes of a platoon, part by part.
use Rattle.std.proofs.Common.{◌≡◌, ◌≢◌, ℕ, ◌+◌, ◌-◌, ◌*◌, ◌/◌, ◌<◌, ◌≤◌, List, [], Some, All, length, get_or, slice_get, take, sum_by, refl, sym, ap, subst, ◌∙◌, inl, inr, arith}
use Rattle.std.proofs.lemmas.List.{get_or_past}
use Rattle.std.proofs.lemmas.List.Elements.{All-get_or, All-weaker}
use Rattle.std.proofs.lemmas.Option.{get_or_from_slice_get, slice_get_within}
use Rattle.std.proofs.lemmas.List.Sums.{sum_by_more, sum_by-le, sum_by-take-le}
use Rattle.std.proofs.lemmas.Bool.{cases_lt, cond_above}
use Rattle.net_parts.specs.Numbers.{Net}
use Rattle.net_parts.specs.Outline.{turns_at}
use Rattle.net_parts.specs.declared.roads.Turn.{Turn}
use Rattle.road_net.specs.Joins.{part_between, share_of, split_of}
use Rattle.road_net.specs.Joins.{link_at}
use Rattle.road_net.specs.Network.{IsNetwork}
use Rattle.road_net.proofs.Shares.{split-found, split-none}
use Rattle.road_net.proofs.PartsAtMost.{shares-most, split-most}
use Rattle.clusters.specs.declared.vehicle_groups.Part.{Part}
use Rattle.clusters.proofs.ListLaws.{get_or-le}
use Rattle.outflow.specs.Outflow.{part_coming}
use Rattle.outflow.specs.Steps.{IsShareInto}

abbrev pub AreSmall : List Part → Type 0
AreSmall parts = All (λ part. All (λ amount. amount ≤ 5000) part.amounts) parts

pub found-small : (parts : List Part) (i : ℕ) (part : Part) → AreSmall parts → slice_get parts i ≡ Some part → All (λ amount. amount ≤ 5000) part.amounts
found-small parts i part small found =
    let P : Part → Type 0 = λ p. All (λ amount. amount ≤ 5000) p.amounts in
    subst P (get_or_from_slice_get parts i part part found) (All-get_or P parts i part (slice_get_within parts i part found) small)

-- at this place of a platoon whose first amount stands in place `first`
pub coming-at : (net : Net) (exit k first : ℕ) (part : Part) → first ≤ k → part_coming net exit 0 k first part ≡ split_of (turns_at net part.link) (get_or part.amounts (k - first) 0) exit
coming-at net exit k first part le =
    let e : first + 0 ≡ first = omega arith in
    sym (cond_above k (first + 0) 0 (split_of (turns_at net part.link) (get_or part.amounts (k - (first + 0)) 0) exit) _ (omega arith) refl)
    ∙ ap (λ n. split_of (turns_at net part.link) (get_or part.amounts (k - n) 0) exit) e

-- The first i parts have been added; what stands before the place `first` is what stood there.
pub record IsAddingParts (net : Net) (exit first : ℕ) (before : List ℕ) (parts : List Part) (amounts : List ℕ) (i : ℕ) : Type 0 where
  pub near : (k : ℕ) → k < first → get_or amounts k 0 ≡ get_or before k 0
  pub far : (k : ℕ) → first ≤ k → k < length before → get_or amounts k 0 ≡ sum_by (part_coming net exit 0 k first) (take i parts)
  pub past : (k : ℕ) → length before ≤ k → get_or amounts k 0 ≡ 0

pub adding-none : (net : Net) (exit first : ℕ) (before : List ℕ) (parts : List Part) → ((k : ℕ) → first ≤ k → get_or before k 0 ≡ 0) → IsAddingParts net exit first before parts before 0
adding-none net exit first before parts h = record {
  near = λ k lt. refl;
  far = λ k le lt. h k le;
  past = λ k le. get_or_past before k 0 le;
}

pub part-small : (net : Net) (exit first k : ℕ) (parts : List Part) (i : ℕ) → AreSmall parts → ((l : ℕ) → sum_by share_of (turns_at net l) ≤ 1000) → first ≤ k
    → sum_by (part_coming net exit 0 k first) (take i parts) ≤ length parts * 5000
part-small net exit first k parts i small shares le =
    let each : All (λ part. part_coming net exit 0 k first part ≤ 5000) parts = All-weaker (λ part. All (λ amount. amount ≤ 5000) part.amounts) (λ part. part_coming net exit 0 k first part ≤ 5000)
    (λ part s. omega (arith, coming-at net exit k first part le, split-most (turns_at net part.link) (get_or part.amounts (k - first) 0) exit (shares part.link), get_or-le 5000 part.amounts s (k - first))) parts small in
    omega (arith, sum_by-take-le (part_coming net exit 0 k first) parts i, sum_by-le (part_coming net exit 0 k first) 5000 parts each)

pub adding-more : (net : Net) (exit first : ℕ) (before : List ℕ) (parts : List Part) (amounts more : List ℕ) (i : ℕ) (part : Part) (share : ℕ × ℕ)
    → IsAddingParts net exit first before parts amounts i → i < length parts → slice_get parts i ≡ Some part → length amounts ≡ length before → length more ≡ length amounts
    → IsShareInto (turns_at net part.link) exit share
    → ((k : ℕ) → k < first → get_or more k 0 ≡ get_or amounts k 0)
    → ((k : ℕ) → first ≤ k → k < length amounts → get_or more k 0 ≡ get_or amounts k 0 + part_between (get_or part.amounts (k - first) 0) share.0 (share.0 + share.1))
    → IsAddingParts net exit first before parts more (i + 1)
adding-more net exit first before parts amounts more i part share h lt found same same2 into near far = record {
  near = λ k less. near k less ∙ h.near k less;
  far = λ k le less.
      omega (
        arith,
        far k le (omega arith),
        h.far k le less,
        into.part (get_or part.amounts (k - first) 0),
        coming-at net exit k first part le,
        sum_by_more (part_coming net exit 0 k first) parts i part lt,
        ap (part_coming net exit 0 k first) (get_or_from_slice_get parts i part part found),
      );
  past = λ k le. get_or_past more k 0 (omega arith);
}

-- the shares of any link's turns are at most the whole
pub shares-of : (net : Net) → IsNetwork net → (l : ℕ) → sum_by share_of (turns_at net l) ≤ 1000
shares-of net h l = elim (cases_lt l (length net.links)) [
  | inl below ↦ shares-most net.links (turns_at net l) (link_at net.links l).to (h.joins.shares l below)
  | inr past ↦ let none : turns_at net l ≡ [] = get_or_past net.turns l [] (omega (arith, h.outline.road_count, h.outline.turn_count)) in rw none (omega arith)
]

pub adding-fits : (net : Net) (exit first : ℕ) (before : List ℕ) (parts : List Part) (amounts : List ℕ) (i k : ℕ) → IsAddingParts net exit first before parts amounts i
    → AreSmall parts → length parts ≤ 16 → ((l : ℕ) → sum_by share_of (turns_at net l) ≤ 1000) → first ≤ k → get_or amounts k 0 ≤ 80000
adding-fits net exit first before parts amounts i k h small few shares le = elim (cases_lt k (length before)) [
  | inl below ↦ omega (arith, h.far k le below, part-small net exit first k parts i small shares le)
  | inr past ↦ omega (arith, h.past k past)
]

-- the share that was found, or none
pub share-found : (turns : List Turn) (exit before k : ℕ) (d : Turn) → sum_by share_of turns ≤ 1000 → k < length turns → (get_or turns k d).exit ≡ exit → before ≡ sum_by share_of (take k turns)
    → ((j : ℕ) → j < k → (get_or turns j d).exit ≢ exit) → IsShareInto turns exit (before, (get_or turns k d).share)
share-found turns exit before k d whole lt here e elsewhere =
    let more : sum_by share_of (take (k + 1) turns) ≡ sum_by share_of (take k turns) + (get_or turns k d).share = sum_by_more share_of turns k d lt in
    record {
      within = omega (arith, more, e, whole, sum_by-take-le share_of turns (k + 1));
      part = λ amount.
          let through : before + (get_or turns k d).share ≡ sum_by share_of (take (k + 1) turns) = omega (arith, more, e) in
          ap (λ b. part_between amount b (before + (get_or turns k d).share)) e ∙ ap (part_between amount (sum_by share_of (take k turns))) through
          ∙ sym (split-found turns amount exit k d lt here elsewhere);
    }

pub share-none : (turns : List Turn) (exit : ℕ) (d : Turn) → ((j : ℕ) → j < length turns → (get_or turns j d).exit ≢ exit) → IsShareInto turns exit (0, 0)
share-none turns exit d none = record {
  within = omega arith;
  part = λ amount.
      let zero_times : amount * 0 / 1000 ≡ 0 = omega arith in
      omega (arith, zero_times, split-none turns amount exit d none);
}
