-- An order begins with each fit prefix.
use Rattle.std.proofs.Common.{◌≡◌, ℕ, zero, suc, ◌+◌, ◌<◌, List, [], ◌∷◌, length, map, sum, get_or, take, Some, refl, sym, ap, subst, ◌∙◌, Contains, arith}
use Rattle.std.specs.List.{flat_map, range_with_len}
use Rattle.std.proofs.lemmas.List.{get_or-map, length-map}
use Rattle.std.proofs.lemmas.List.Elements.{Contains-append_left, Contains-append_right}
use Rattle.std.proofs.lemmas.List.Sums.{sum_by-cons}
use Rattle.std.proofs.lemmas.Option.{slice_get_within}
use Rattle.switch_rules.specs.Orders.{one_less, orders}
use Rattle.switch_rules.proofs.Counting.{count-le-sum, sum-one_less}
use Rattle.schedule_meaning.specs.Instances.{Problem, IsInstance, list_at}
use Rattle.schedule_meaning.proofs.Choosing.{beginning_with, beginning-some, orders-begin, orders-none}
use Rattle.schedule_meaning.proofs.Sequences.{left-phase}
use Rattle.dp_certificate.specs.Prefixes.{Stage, stage_from}
use Rattle.dp_certificate.proofs.Stages.{IsSplit, behind, from-begins, split-step, step-begins}

-- what stands in one of several blocks, and after one more phase
among-blocks : (f : ℕ → List (List ℕ)) (a n i : ℕ) (o : List ℕ) → i < n → Contains (f (a + i)) o → Contains (flat_map f (range_with_len a n)) o
among-blocks f a zero i o h has = absurd (omega arith)
among-blocks f a (suc n) zero o h has =
    Contains-append_left (f a) (flat_map f (range_with_len (a + 1) n)) o (subst (λ m. Contains (f m) o) (let e : a + zero ≡ a = omega arith in e) has)
among-blocks f a (suc n) (suc i) o h has =
    Contains-append_right (f a) (flat_map f (range_with_len (a + 1) n)) o
    (among-blocks f (a + 1) n i o (omega arith) (subst (λ m. Contains (f m) o) (let e : a + suc i ≡ a + 1 + i = omega arith in e) has))

among-longer : (k : ℕ) (os : List (List ℕ)) (o : List ℕ) → Contains os o → Contains (map (λ order. k ∷ order) os) (k ∷ o)
among-longer k os o has = (
  has.0,
  omega (arith, length-map os (λ (order : List ℕ). k ∷ order), has.1),
  get_or-map (λ (order : List ℕ). k ∷ order) os has.0 o (k ∷ o) has.1 ∙ ap (λ (order : List ℕ). k ∷ order) has.2,
)

-- an order of what is left after phase k, with phase k before it
order-more : (left : List ℕ) (k : ℕ) (o : List ℕ) → 0 < get_or left k 0 → Contains (orders (one_less left k)) o → Contains (orders left) (k ∷ o)
order-more left k o some has =
    let at : 0 + k ≡ k = omega arith in
    let here : Contains (beginning_with left (0 + k)) (k ∷ o) =
    subst (λ xs. Contains xs (k ∷ o)) (sym (ap (beginning_with left) at ∙ beginning-some left k some)) (among-longer k (orders (one_less left k)) o has) in
    subst (λ xs. Contains xs (k ∷ o)) (sym (orders-begin left (omega (arith, count-le-sum left k))))
    (among-blocks (beginning_with left) 0 (length left) k (k ∷ o) (left-phase left k some) here)

-- whatever is left has an order
some-left : (left : List ℕ) → 0 < sum left → (k : ℕ) × (0 < get_or left k 0)
some-left [] h = absurd (omega arith)
some-left (zero ∷ left) h =
    let later = some-left left (omega (arith, sum_by-cons (λ n. n) zero left)) in
    (suc later.0, later.1)
some-left (suc n ∷ left) h = (0, omega arith)

some-order : (n : ℕ) (left : List ℕ) → sum left ≡ n → (o : List ℕ) × Contains (orders left) o
some-order zero left e = ([], subst (λ xs. Contains xs []) (sym (orders-none left e)) (0, omega arith, refl))
some-order (suc n) left e =
    let first = some-left left (omega arith) in
    let later = some-order n (one_less left first.0) (omega (arith, sum-one_less left first.0 first.1)) in
    (first.0 ∷ later.0, order-more left first.0 later.0 first.1 later.1)

-- an order begins with each fit prefix
pub prefix-among : (p : Problem) (u left : List ℕ) (s t : Stage) → IsInstance p → IsSplit p left s.counts → stage_from p s u ≡ Some t → (o : List ℕ) × Contains (orders left) o × (take (length u) o ≡ u)
prefix-among p [] left s t lawful split e =
    let any = some-order (sum left) left refl in
    (any.0, any.1, refl)
prefix-among p (k ∷ u) left s t lawful split e = from-begins p s t k u e (λ next en rest. step-begins p s next k en (λ c r ec er same.
    let some : 0 < get_or left k 0 = omega (arith, split.both k, slice_get_within (list_at p.lists k) (get_or s.counts k 0) c ec) in
    let leads : stage_from p (behind s k r) u ≡ Some t = ap (λ (x : Stage). stage_from p x u) same ∙ rest in
    let later = prefix-among p u (one_less left k) (behind s k r) t lawful (split-step p lawful left s.counts k split some) leads in
    (k ∷ later.0, order-more left k later.0 some later.1, ap (λ xs. k ∷ xs) later.2)))
