-- What the loops over phases and nodes add up and list.
use Rattle.std.proofs.Common.{◌≡◌, ℕ, ◌+◌, ◌-◌, ◌≤◌, max, List, [], ◌∷◌, ◌++◌, fold, length, map, Option, Some, Result, sum_by, sym, ap, ◌∙◌, arith, append-nil, append_assoc}
use Rattle.std.specs.List.{flat_map, range_with_len}
use Rattle.std.proofs.lemmas.List.{map-id}
use Rattle.std.proofs.lemmas.List.Concat.{flat_map-append}
use Rattle.std.proofs.lemmas.List.Sums.{fold-append}
use Rattle.std.proofs.lemmas.List.FromFn.{map-range_with_len_more}
use Rattle.phase_plan.specs.Phases.{IsPhase, phase_at}
use Rattle.phase_plan.specs.declared.Phase.{Phase}
use Rattle.net_parts.specs.Numbers.{Net}
use Rattle.net_parts.specs.Outline.{plan_at}
use Rattle.net_parts.specs.declared.drafts.Run.{Run}
use Rattle.waits.specs.Bounds.{actuated_bounds, phase_bounds, planned_bounds, until_called, until_recalled}
use Rattle.waits.specs.Discharges.{wait_bound}
use Rattle.waits.specs.Waits.{longest_intergreen, longest_red, longest_span}
use Rattle.waits.specs.declared.bounds.NoBound.{NoBound}
use Rattle.waits.specs.declared.bounds.PhaseBounds.{PhaseBounds}
use Rattle.waits.proofs.Ring.{over-by, over-none, round}

-- the span of a phase, by its times
pub span-is : (plan : List Phase) (look k : ℕ) (times : Phase) (after : ℕ) → times ≡ phase_at plan k → after ≡ max (times.yellow + times.clear) look → times.greatest + after ≡ longest_span plan (longest_intergreen plan look) k
span-is plan look k times after same is = ap (λ (n : ℕ). times.greatest + n) is ∙ ap (λ (p : Phase). p.greatest + max (p.yellow + p.clear) look) same

-- the spans of one phase more
pub spans-more : (f : ℕ → ℕ) (low k total one : ℕ) → low ≤ k → total ≡ sum_by f (range_with_len low (k - low)) → one ≡ f k → total + one ≡ sum_by f (range_with_len low (k + 1 - low))
spans-more f low k total one h were is =
    let more = over-by f low k (k + 1) h (omega arith) in
    let none = over-none f (k + 1) (k + 1) (omega arith) in
    omega (arith, were, is, more, none)

pub span-most : (times : Phase) (look after : ℕ) → IsPhase times → look ≤ 180 → after ≡ max (times.yellow + times.clear) look → times.greatest + after ≤ 420
span-most times look after p few is = omega (arith, p.greatest, p.yellow, p.clear, few, is)

-- the longest red by the phases above and those below
pub red-is : (plan : List Phase) (look k intergreen after before : ℕ) → intergreen ≡ longest_intergreen plan look k → after ≡ sum_by (longest_span plan (longest_intergreen plan look)) (range_with_len (k + 1) (length plan - (k + 1)))
    → before ≡ sum_by (longest_span plan (longest_intergreen plan look)) (range_with_len 0 (k - 0)) → intergreen + (after + before) ≡ longest_red plan (longest_intergreen plan look) k
red-is plan look k intergreen after before is above below =
    let all = round (longest_span plan (longest_intergreen plan look)) plan k k (omega arith) in
    omega (arith, is, above, below, all)

-- a list to which one element for each number is added
pub map-more : {X : Type 0} (f : ℕ → X) (n : ℕ) (start now next : List X) (x : X) → now ≡ start ++ map f (range_with_len 0 n) → next ≡ now ++ x ∷ [] → x ≡ f n → next ≡ start ++ map f (range_with_len 0 (n + 1))
map-more f n start now next x were is same =
    is ∙ ap (λ l. l ++ x ∷ []) were ∙ append_assoc start (map f (range_with_len 0 n)) (x ∷ []) ∙ ap (λ y. start ++ (map f (range_with_len 0 n) ++ y ∷ [])) same
    ∙ ap (λ l. start ++ l) (sym (map-range_with_len_more f 0 n n (omega arith)))

-- the bounds of a phase, by the plan of its node and the run
pub bounds-are : (net : Net) (node k : ℕ) (run : Run) (plan : List Phase) (recalled : Option ℕ) (called : ℕ) (planned actuated : Result ℕ NoBound) → run ≡ net.run → plan ≡ plan_at net node
    → recalled ≡ until_recalled net → called ≡ until_called net
    → planned ≡ wait_bound plan (longest_intergreen plan run.look) recalled k → actuated ≡ wait_bound plan (longest_intergreen plan 0) (Some called) k
    → (let made : PhaseBounds = record { node = node; phase = k; planned = planned; actuated = actuated } in made) ≡ phase_bounds net node k
bounds-are net node k run plan recalled called planned actuated same of recalls calls first second =
    let a : planned ≡ planned_bounds net node k =
    first ∙ ap (λ (r : Run). wait_bound plan (longest_intergreen plan r.look) recalled k) same ∙ ap (λ (p : List Phase). wait_bound p (longest_intergreen p net.run.look) recalled k) of
    ∙ ap (λ (o : Option ℕ). wait_bound (plan_at net node) (longest_intergreen (plan_at net node) net.run.look) o k) recalls in
    let b : actuated ≡ actuated_bounds net node k =
    second ∙ ap (λ (p : List Phase). wait_bound p (longest_intergreen p 0) (Some called) k) of ∙ ap (λ (n : ℕ). wait_bound (plan_at net node) (longest_intergreen (plan_at net node) 0) (Some n) k) calls in
    λ i. record { node = node; phase = k; planned = a i; actuated = b i }

-- the numbers below one more
range-more : (n : ℕ) → range_with_len 0 (n + 1) ≡ range_with_len 0 n ++ n ∷ []
range-more n = sym (map-id (range_with_len 0 (n + 1))) ∙ map-range_with_len_more (λ k. k) 0 n n (omega arith) ∙ ap (λ l. l ++ n ∷ []) (map-id (range_with_len 0 n))

-- a list to which a list for each number is added
pub flat-more : {X : Type 0} (f : ℕ → List X) (n : ℕ) (now next : List X) → now ≡ flat_map f (range_with_len 0 n) → next ≡ now ++ f n → next ≡ flat_map f (range_with_len 0 (n + 1))
flat-more f n now next were is =
    is ∙ ap (λ l. l ++ f n) were ∙ ap (λ l. flat_map f (range_with_len 0 n) ++ l) (sym (append-nil (f n))) ∙ sym (flat_map-append f (range_with_len 0 n) (n ∷ [])) ∙ ap (flat_map f) (sym (range-more n))

-- a fold to which one number more is given
pub fold-more : (f : ℕ → ℕ → ℕ) (n now : ℕ) → now ≡ fold f 0 (range_with_len 0 n) → f now n ≡ fold f 0 (range_with_len 0 (n + 1))
fold-more f n now were = ap (λ (a : ℕ). f a n) were ∙ sym (fold-append f 0 (range_with_len 0 n) (n ∷ [])) ∙ ap (fold f 0) (sym (range-more n))
