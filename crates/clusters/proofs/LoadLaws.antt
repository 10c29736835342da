-- What the parts of a platoon count: at least their amounts, and at most twenty times as much.
use Rattle.std.proofs.Common.{◌≡◌, ℕ, ◌+◌, ◌*◌, ◌/◌, ◌<◌, ◌≤◌, min, List, [], ◌∷◌, Option, Some, None, length, get_or, map, sum, sum_by, take, ap, sym, ◌∙◌, arith}
use Rattle.std.proofs.Math.Nat.{le-min, min-le_left, mul-add, mul_assoc}
use Rattle.std.proofs.lemmas.List.Elements.{All-get_or, All-head, All-tail}
use Rattle.std.proofs.lemmas.List.Sums.{sum_by-cons, sum_by_more}
use Rattle.std.proofs.lemmas.Nat.{le-div, mul-le}
use Rattle.switch_rules.specs.Bounds.{greatest_weight}
use Rattle.net_parts.specs.Numbers.{Net, no_link}
use Rattle.net_parts.specs.declared.roads.Link.{Link}
use Rattle.net_parts.specs.Outline.{IsOutline, IsLink, link_at}
use Rattle.road_net.specs.declared.senses.Sensed.{Sensed}
use Rattle.clusters.specs.declared.vehicle_groups.Part.{Part}
use Rattle.clusters.specs.Inflow.{sense_of}
use Rattle.clusters.specs.Platoons.{load_of, part_of, whole_of}
use Rattle.clusters.specs.Steps.{AreOfLinks, IsAge}
use Rattle.clusters.specs.Options.{amount_load, aged_load_of}

-- the weight of a link of a network
pub weight-bounds : (net : Net) (l : ℕ) → IsOutline net → l < length net.link_names → (1 ≤ (link_at net l).weight) × ((link_at net l).weight ≤ greatest_weight)
weight-bounds net l h there = (All-get_or (IsLink (length net.node_names)) net.links l no_link (omega (arith, h.road_count)) h.links).weight

-- what an amount counts on a link of this weight
abbrev pub IsCounting : (ℕ → ℕ) → Type 0
IsCounting counts = (amount : ℕ) → (amount ≤ counts amount) × (counts amount ≤ greatest_weight * amount)

aged-bounds : (age : Option ℕ) (weight stood : ℕ) → IsAge age → 1 ≤ weight → weight ≤ greatest_weight → IsCounting (amount_load age weight stood)
aged-bounds None weight stood ok some few amount =
    let least = mul-le 1 amount weight amount some (omega arith) in
    (omega (arith, least), mul-le weight amount greatest_weight amount few (omega arith))
aged-bounds (Some age) weight stood ok some few amount =
    let once : amount * 1 ≤ amount * weight = mul-le amount 1 amount weight (omega arith) some in
    let grown : amount * age ≤ amount * weight * (age + min stood (3 * age)) = mul-le amount age (amount * weight) (age + min stood (3 * age)) (omega (arith, once)) (omega arith) in (
      le-min (omega arith) (le-div amount (amount * weight * (age + min stood (3 * age))) age (omega (arith, ok.0)) grown),
      min-le_left (greatest_weight * amount) (amount * weight * (age + min stood (3 * age)) / age),
    )

-- amounts that are counted so
sum-bounds : (counts : ℕ → ℕ) (amounts : List ℕ) → IsCounting counts → (sum amounts ≤ sum_by counts amounts) × (sum_by counts amounts ≤ greatest_weight * sum amounts)
sum-bounds counts [] h = (omega arith, omega arith)
sum-bounds counts (a ∷ amounts) h =
    let rest = sum-bounds counts amounts h in
    let whole = sum_by-cons (λ (x : ℕ). x) a amounts in
    let counted = sum_by-cons counts a amounts in
    (omega (arith, whole, counted, rest.0, (h a).0), omega (arith, whole, counted, rest.1, (h a).1))

-- with no age it is the weight by their sum
pub aged-none : (weight stood : ℕ) (amounts : List ℕ) → sum_by (amount_load None weight stood) amounts ≡ weight * sum amounts
aged-none weight stood [] = omega arith
aged-none weight stood (a ∷ amounts) =
    sum_by-cons (amount_load None weight stood) a amounts ∙ ap (λ n. weight * a + n) (aged-none weight stood amounts)
    ∙ sym (ap (λ n. weight * n) (sum_by-cons (λ (x : ℕ). x) a amounts) ∙ mul-add weight a (sum amounts))

pub whole-load : (age : Option ℕ) (link : Link) (net : Net) (l stood whole : ℕ) (amounts : List ℕ) → age ≡ None → link ≡ link_at net l → whole ≡ sum amounts
    → link.weight * whole ≡ sum_by (amount_load age (link_at net l).weight stood) amounts
whole-load age link net l stood whole amounts none at all =
    ap (λ (k : Link). k.weight * whole) at ∙ ap (λ n. (link_at net l).weight * n) all ∙ sym (aged-none (link_at net l).weight stood amounts)
    ∙ sym (ap (λ a. sum_by (amount_load a (link_at net l).weight stood) amounts) none)

pub aged_load-none : (net : Net) (sensed : Sensed) → aged_load_of None net sensed ≡ load_of net
aged_load-none net sensed = λ i part. aged-none (link_at net part.link).weight (sense_of sensed part.link).stood part.amounts i

-- what an amount counts, by the weight that has grown
pub aged-grown : (age weight stood amount grown : ℕ) → grown ≡ weight * (age + min stood (3 * age)) → min (greatest_weight * amount) (amount * grown / age) ≡ amount_load (Some age) weight stood amount
aged-grown age weight stood amount grown e =
    ap (λ n. min (greatest_weight * amount) (n / age)) (ap (λ g. amount * g) e ∙ sym (mul_assoc amount weight (age + min stood (3 * age))))

-- What the first i of these amounts count.
pub record IsCounted (counts : ℕ → ℕ) (amounts : List ℕ) (i load : ℕ) : Type 0 where
  pub value : load ≡ sum_by counts (take i amounts)
  pub most : load ≤ greatest_weight * sum (take i amounts)

pub counted-more : (counts : ℕ → ℕ) (amounts : List ℕ) (i load n : ℕ) → IsCounted counts amounts i load → i < length amounts → n ≡ counts (get_or amounts i 0)
    → n ≤ greatest_weight * get_or amounts i 0 → IsCounted counts amounts (i + 1) (load + n)
counted-more counts amounts i load n h lt is few = record {
  value = omega (arith, h.value, is, sum_by_more counts amounts i 0 lt);
  most = omega (arith, h.most, few, sum_by_more (λ (x : ℕ). x) amounts i 0 lt);
}

-- parts that count so
pub record IsLoading (load : Part → ℕ) (parts : List Part) : Type 0 where
  pub least : whole_of parts ≤ sum_by load parts
  pub most : sum_by load parts ≤ greatest_weight * whole_of parts

pub loads-between : (age : Option ℕ) (net : Net) (sensed : Sensed) (first end : ℕ) (streams : List Part) → IsAge age → IsOutline net → AreOfLinks net streams
    → IsLoading (aged_load_of age net sensed) (map (part_of first end) streams)
loads-between age net sensed first end [] ok h links = record { least = omega arith; most = omega arith }
loads-between age net sensed first end (s ∷ streams) ok h links =
    let part : Part = part_of first end s in
    let parts : List Part = map (part_of first end) streams in
    let rest : IsLoading (aged_load_of age net sensed) parts = loads-between age net sensed first end streams ok h (All-tail (λ (t : Part). t.link < length net.link_names) s streams links) in
    let weight = weight-bounds net s.link h (All-head (λ (t : Part). t.link < length net.link_names) s streams links) in
    let one = sum-bounds (amount_load age (link_at net s.link).weight (sense_of sensed s.link).stood) part.amounts (aged-bounds age (link_at net s.link).weight (sense_of sensed s.link).stood ok weight.0 weight.1) in
    let whole = sum_by-cons (λ (p : Part). sum p.amounts) part parts in
    let load = sum_by-cons (aged_load_of age net sensed) part parts in
    record {
      least = omega (arith, whole, load, one.0, rest.least);
      most = omega (arith, whole, load, one.1, rest.most);
    }
