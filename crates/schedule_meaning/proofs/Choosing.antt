-- What the search through all orders finds.
use Rattle.std.proofs.Common.{◌≡◌, ℕ, zero, suc, ◌+◌, ◌-◌, ◌<◌, ◌≤◌, ◌==◌, ◌⊎◌, nat_lt, cond, List, [], ◌∷◌, ◌++◌, length, map, sum, get_or, set, All, Option, Some, None, Result, Ok, Err, IfOk, IfSome, refl, sym, ap, subst, ◌∙◌, inl, inr, append_assoc, take, length-append, arith}
use Rattle.std.specs.List.{flat_map, range_with_len}
use Rattle.std.specs.Option.{option_map}
use Rattle.std.proofs.lemmas.Bool.{cases_lt, cond_below, cond_above, eqb-true}
use Rattle.std.proofs.lemmas.Option.{cond_some, none-some, same_Some}
use Rattle.std.proofs.Math.Seq.{take-append_seam}
use Rattle.std.proofs.lemmas.List.{append-nil}
use Rattle.std.proofs.lemmas.List.Concat.{flat_map-append, flat_map-cons}
use Rattle.std.proofs.lemmas.List.Elements.{All-nil, All-cons, All-head, All-tail, All-append, All-push, All-weaker}
use Rattle.std.proofs.lemmas.List.Sums.{fold-append}
use Rattle.foundation.proofs.RangeLaws.{range-push}
use Rattle.switch_rules.specs.Serving.{serving}
use Rattle.switch_rules.specs.Orders.{one_less, orders, orders_of}
use Rattle.switch_rules.specs.declared.Head.{Head}
use Rattle.switch_rules.specs.declared.Served.{Served}
use Rattle.switch_rules.specs.declared.Cluster.{Cluster}
use Rattle.switch_rules.specs.declared.Unfit.{Unfit}
use Rattle.switch_rules.proofs.Counting.{count-le-sum, sum-one_less}
use Rattle.schedule_meaning.specs.Instances.{Problem, counts_of}
use Rattle.schedule_meaning.specs.Timing.{next_cluster, timed_from, timed, timing, delay_of, total_cost, onward}
use Rattle.schedule_meaning.specs.Best.{AllAbove, IsBestPlan, IsBestAmong, IsBest, IsLeast}
use Rattle.schedule_meaning.specs.Choice.{better, better_after, best_after}
use Rattle.schedule_meaning.specs.declared.planners.Answer.{Answer}
use Rattle.schedule_meaning.specs.declared.planners.Answer.TheVariants.{Plan, NoPlan}
use Rattle.schedule_meaning.proofs.Sequences.{option-cases, timed-unfit, timed-begins, timing-fit, next-left, left-phase}

-- the orders that begin with phase k
abbrev pub beginning_with : List ℕ → ℕ → List (List ℕ)
beginning_with left k = cond (nat_lt 0 (get_or left k 0)) (map (λ order. k ∷ order) (orders (one_less left k))) []

pub beginning-some : (left : List ℕ) (k : ℕ) → 0 < get_or left k 0 → beginning_with left k ≡ map (λ order. k ∷ order) (orders (one_less left k))
beginning-some left k h = sym (cond_below 0 (get_or left k 0) (map (λ order. k ∷ order) (orders (one_less left k))) [] h)

pub beginning-none : (left : List ℕ) (k : ℕ) → get_or left k 0 ≡ 0 → beginning_with left k ≡ []
beginning-none left k h = sym (cond_above 0 (get_or left k 0) (map (λ order. k ∷ order) (orders (one_less left k))) [] [] (omega arith) refl)

flat_map-same : (f g : ℕ → List (List ℕ)) → ((k : ℕ) → f k ≡ g k) → (ks : List ℕ) → flat_map f ks ≡ flat_map g ks
flat_map-same f g h [] = refl
flat_map-same f g h (k ∷ ks) = flat_map-cons f k ks ∙ ap (λ xs. xs ++ flat_map f ks) (h k) ∙ ap (λ xs. g k ++ xs) (flat_map-same f g h ks) ∙ sym (flat_map-cons g k ks)

-- the orders of something begin with one phase after another
pub orders-begin : (left : List ℕ) → 0 < sum left → orders left ≡ flat_map (beginning_with left) (range_with_len 0 (length left))
orders-begin left h =
    let t = sum left - 1 in
    let each : (k : ℕ) → cond (nat_lt 0 (get_or left k 0)) (map (λ order. k ∷ order) (orders_of t (one_less left k))) [] ≡ beginning_with left k = λ k. elim (cases_lt 0 (get_or left k 0)) [
      | inl some ↦ ap (λ m. cond (nat_lt 0 (get_or left k 0)) (map (λ order. k ∷ order) (orders_of m (one_less left k))) []) (omega (arith, sum-one_less left k some))
      | inr none ↦ sym (cond_above 0 (get_or left k 0) (map (λ order. k ∷ order) (orders_of t (one_less left k))) [] [] none refl) ∙ sym (beginning-none left k (omega arith))
    ] in
    ap (λ m. orders_of m left) (let e : sum left ≡ suc (sum left - 1) = omega arith in e)
    ∙ flat_map-same (λ k. cond (nat_lt 0 (get_or left k 0)) (map (λ order. k ∷ order) (orders_of t (one_less left k))) []) (beginning_with left) each (range_with_len 0 (length left))

-- of nothing there is the empty order alone
pub orders-none : (left : List ℕ) → sum left ≡ 0 → orders left ≡ [] ∷ []
orders-none left h = ap (λ m. orders_of m left) h

-- the search goes on from phase to phase
pub best-phase : (p : Problem) (prefix : List ℕ) (answer : Answer) (f : ℕ → List (List ℕ)) (k : ℕ)
    → best_after p prefix answer (flat_map f (range_with_len 0 (k + 1))) ≡ best_after p prefix (best_after p prefix answer (flat_map f (range_with_len 0 k))) (f k)
best-phase p prefix answer f k =
    ap (λ ks. best_after p prefix answer (flat_map f ks)) (range-push 0 k)
    ∙ ap (best_after p prefix answer) (flat_map-append f (range_with_len 0 k) ((0 + k) ∷ []))
    ∙ fold-append (better_after p prefix) answer (flat_map f (range_with_len 0 k)) (flat_map f ((0 + k) ∷ []))
    ∙ ap (best_after p prefix (best_after p prefix answer (flat_map f (range_with_len 0 k)))) (append-nil (f (0 + k)) ∙ ap f (omega arith))

-- after an unfit serving nothing is better
pub best-unfit : (p : Problem) (prefix : List ℕ) (k : ℕ) → ((order : List ℕ) → delay_of p (prefix ++ k ∷ order) ≡ None) → (answer : Answer) (rests : List (List ℕ)) → best_after p prefix answer (map (λ order. k ∷ order) rests) ≡ answer
best-unfit p prefix k h answer [] = refl
best-unfit p prefix k h answer (order ∷ rests) =
    ap (λ a. best_after p prefix a (map (λ order. k ∷ order) rests)) (ap (better answer (prefix ++ k ∷ order)) (h order)) ∙ best-unfit p prefix k h answer rests

-- after a fit one the prefix is longer
pub best-fit : (p : Problem) (prefix : List ℕ) (k : ℕ) (answer : Answer) (rests : List (List ℕ)) → best_after p prefix answer (map (λ order. k ∷ order) rests) ≡ best_after p (prefix ++ k ∷ []) answer rests
best-fit p prefix k answer [] = refl
best-fit p prefix k answer (order ∷ rests) =
    ap (λ a. best_after p prefix a (map (λ order. k ∷ order) rests)) (ap (λ s. better answer s (delay_of p s)) (sym (append_assoc prefix (k ∷ []) order)))
    ∙ best-fit p prefix k (better_after p (prefix ++ k ∷ []) answer order) rests

delay-timing : (p : Problem) (s : List ℕ) → delay_of p s ≡ option_map (λ t. t.0) (timing p s)
delay-timing p s = first (timed p s)
  where
    first : (t : Option (List Served × Head)) → option_map (λ (t : List Served × Head). total_cost t.0) t ≡ option_map (λ (x : ℕ × Head). x.0) (option_map (λ (t : List Served × Head). (total_cost t.0, t.1)) t)
    first None = refl
    first (Some t) = refl

-- a prefix that reached a head with this delay: what it makes of every rest
abbrev pub Reaches : Problem → List ℕ → List ℕ → Head → ℕ → Type 0
Reaches p prefix left head delay = (rest : List ℕ) → timing p (prefix ++ rest) ≡ option_map (onward delay) (timed_from p left head rest)

pub reaches-fit : (p : Problem) (prefix left : List ℕ) (head : Head) (delay k : ℕ) (c : Cluster) (s : Served × Head) → Reaches p prefix left head delay → next_cluster p.lists left k ≡ Some c → serving p.plan head k c ≡ Ok s → Reaches p (prefix ++ k ∷ []) (one_less left k) s.1 (delay + s.0.cost)
reaches-fit p prefix left head delay k c s reached e f rest = ap (timing p) (append_assoc prefix (k ∷ []) rest) ∙ reached (k ∷ rest) ∙ timing-fit p left head k rest c s delay e f

pub reaches-unfit : (p : Problem) (prefix left : List ℕ) (head : Head) (delay k : ℕ) (c : Cluster) (why : Unfit) → Reaches p prefix left head delay → next_cluster p.lists left k ≡ Some c → serving p.plan head k c ≡ Err why → (order : List ℕ) → delay_of p (prefix ++ k ∷ order) ≡ None
reaches-unfit p prefix left head delay k c why reached e f order =
    delay-timing p (prefix ++ k ∷ order) ∙ ap (option_map (λ (x : ℕ × Head). x.0)) (reached (k ∷ order) ∙ ap (option_map (onward delay)) (timed-unfit p left head k order c why e f))

-- the best of more sequences, where one more has no less delay
best-keeps : (p : Problem) (all : List (List ℕ)) (order sequence : List ℕ) (least : ℕ) → IfSome (delay_of p order) (λ d. least ≤ d) → IsBestPlan p all sequence least → IsBestPlan p (all ++ order ∷ []) sequence least
best-keeps p all order sequence least no_less h = record {
  feasible = h.feasible;
  before = h.before;
  after = h.after ++ order ∷ [];
  among = ap (λ xs. xs ++ order ∷ []) h.among ∙ append_assoc h.before (sequence ∷ h.after) (order ∷ []);
  first = h.first;
  least = All-push (λ s. IfSome (delay_of p s) (λ d. least ≤ d)) h.after order h.least no_less;
}

best-none : (p : Problem) (all : List (List ℕ)) (order : List ℕ) (answer : Answer) → delay_of p order ≡ None → IsBestAmong p all answer → IsBestAmong p (all ++ order ∷ []) answer
best-none p all order NoPlan e h = All-push (λ s. delay_of p s ≡ None) all order h e
best-none p all order (Plan sequence least) e h = best-keeps p all order sequence least (subst (λ (o : Option ℕ). IfSome o (λ d. least ≤ d)) (sym e) tt) h

best-worse : (p : Problem) (all : List (List ℕ)) (order sequence : List ℕ) (d least : ℕ) → delay_of p order ≡ Some d → least ≤ d → IsBestPlan p all sequence least → IsBestPlan p (all ++ order ∷ []) sequence least
best-worse p all order sequence d least e worse h = best-keeps p all order sequence least (subst (λ (o : Option ℕ). IfSome o (λ d. least ≤ d)) (sym e) worse) h

-- a fact of an option's value, weakened
if-some-weaker : (o : Option ℕ) (P Q : ℕ → Type 0) → ((n : ℕ) → P n → Q n) → IfSome o P → IfSome o Q
if-some-weaker None P Q f h = tt
if-some-weaker (Some n) P Q f h = f n h

all-above : (p : Problem) (all : List (List ℕ)) (sequence : List ℕ) (least d : ℕ) → d < least → IsBestPlan p all sequence least → AllAbove p d all
all-above p all sequence least d less h =
    let P : List ℕ → Type 0 = λ s. IfSome (delay_of p s) (λ e. d < e) in
    let before : All P h.before = All-weaker (λ s. IfSome (delay_of p s) (λ e. least < e)) P (λ s i. if-some-weaker (delay_of p s) (λ e. least < e) (λ e. d < e) (λ e j. omega arith) i) h.before h.first in
    let after : All P h.after = All-weaker (λ s. IfSome (delay_of p s) (λ e. least ≤ e)) P (λ s i. if-some-weaker (delay_of p s) (λ e. least ≤ e) (λ e. d < e) (λ e j. omega arith) i) h.after h.least in
    let here : P sequence = subst (λ (o : Option ℕ). IfSome o (λ e. d < e)) (sym h.feasible) less in
    subst (All P) (sym h.among) (All-append P h.before (sequence ∷ h.after) before (All-cons P sequence h.after here after))

best-better : (p : Problem) (all : List (List ℕ)) (order : List ℕ) (d : ℕ) → delay_of p order ≡ Some d → AllAbove p d all → IsBestPlan p (all ++ order ∷ []) order d
best-better p all order d e above = record {
  feasible = e;
  before = all;
  after = [];
  among = refl;
  first = above;
  least = All-nil (λ s. IfSome (delay_of p s) (λ e. d ≤ e));
}

best-more : (p : Problem) (all : List (List ℕ)) (order : List ℕ) (answer : Answer) (o : Option ℕ) → delay_of p order ≡ o → IsBestAmong p all answer → IsBestAmong p (all ++ order ∷ []) (better answer order o)
best-more p all order answer None e h = best-none p all order answer e h
best-more p all order NoPlan (Some d) e h =
    best-better p all order d e (All-weaker (λ s. delay_of p s ≡ None) (λ s. IfSome (delay_of p s) (λ e. d < e)) (λ s n. subst (λ (o : Option ℕ). IfSome o (λ e. d < e)) (sym n) tt) all h)
best-more p all order (Plan sequence least) (Some d) e h = elim (cases_lt d least) [
  | inl less ↦ subst (IsBestAmong p (all ++ order ∷ [])) (cond_below d least (Plan order d) (Plan sequence least) less) (best-better p all order d e (all-above p all sequence least d less h))
  | inr worse ↦ subst (IsBestAmong p (all ++ order ∷ [])) (cond_above d least (Plan order d) (Plan sequence least) (Plan sequence least) worse refl) (best-worse p all order sequence d least e worse h)
]

pub best-of-all : (p : Problem) (all : List (List ℕ)) (answer : Answer) (rests : List (List ℕ)) → IsBestAmong p all answer → IsBestAmong p (all ++ rests) (best_after p [] answer rests)
best-of-all p all answer [] h = subst (λ xs. IsBestAmong p xs answer) (sym (append-nil all)) h
best-of-all p all answer (order ∷ rests) h =
    subst (λ xs. IsBestAmong p xs (best_after p [] answer (order ∷ rests))) (append_assoc all (order ∷ []) rests)
    (best-of-all p (all ++ order ∷ []) (better answer order (delay_of p order)) rests (best-more p all order answer (delay_of p order) refl h))

-- what a search through all orders finds is the best answer
pub search-best : (p : Problem) → IsBest p (best_after p [] NoPlan (orders (counts_of p.lists)))
search-best p = best-of-all p [] NoPlan (orders (counts_of p.lists)) (All-nil (λ s. delay_of p s ≡ None))

-- what holds of each order holds of each sequence that is timed
All-front : {X : Type 0} (P : X → Type 0) (xs ys : List X) → All P (xs ++ ys) → All P xs
All-front P [] ys h = All-nil P
All-front P (x ∷ xs) ys h = All-cons P x xs (All-head P x (xs ++ ys) h) (All-front P xs ys (All-tail P x (xs ++ ys) h))

All-back : {X : Type 0} (P : X → Type 0) (xs ys : List X) → All P (xs ++ ys) → All P ys
All-back P [] ys h = h
All-back P (x ∷ xs) ys h = All-back P xs ys (All-tail P x (xs ++ ys) h)

All-phase : (P : List ℕ → Type 0) (f : ℕ → List (List ℕ)) (a n i : ℕ) → i < n → All P (flat_map f (range_with_len a n)) → All P (f (a + i))
All-phase P f a zero i h all = absurd (omega arith)
All-phase P f a (suc n) zero h all = subst (λ m. All P (f m)) (omega arith) (All-front P (f a) (flat_map f (range_with_len (a + 1) n)) all)
All-phase P f a (suc n) (suc i) h all = subst (λ m. All P (f m)) (omega arith) (All-phase P f (a + 1) n i (omega arith) (All-back P (f a) (flat_map f (range_with_len (a + 1) n)) all))

All-unmapped : (P : List ℕ → Type 0) (k : ℕ) (rests : List (List ℕ)) → All P (map (λ order. k ∷ order) rests) → All (λ order. P (k ∷ order)) rests
All-unmapped P k [] h = All-nil (λ order. P (k ∷ order))
All-unmapped P k (order ∷ rests) h = All-cons (λ order. P (k ∷ order)) order rests (All-head P (k ∷ order) (map (λ order. k ∷ order) rests) h) (All-unmapped P k rests (All-tail P (k ∷ order) (map (λ order. k ∷ order) rests) h))

pub timed-among : (P : List ℕ → Type 0) (p : Problem) (left : List ℕ) (head : Head) (s : List ℕ) (t : List Served × Head) → timed_from p left head s ≡ Some t → All P (orders left) → P s
timed-among P p left head [] t e all =
    All-head P [] [] (subst (All P) (orders-none left (eqb-true (sum left) 0 (cond_some (sum left == 0) ([], head) t e).0)) all)
timed-among P p left head (k ∷ ks) t e all = timed-begins p left head k ks t e (λ c s rest ec es er.
    let some = next-left p.lists left k c ec in
    let named : 0 + k ≡ k = omega arith in
    let begun : All P (flat_map (beginning_with left) (range_with_len 0 (length left))) = subst (All P) (orders-begin left (omega (arith, count-le-sum left k))) all in
    let at : All P (beginning_with left (0 + k)) = All-phase P (beginning_with left) 0 (length left) k (left-phase left k some) begun in
    let here : All P (map (λ order. k ∷ order) (orders (one_less left k))) = subst (All P) (ap (beginning_with left) named ∙ beginning-some left k some) at in
    timed-among (λ order. P (k ∷ order)) p (one_less left k) s.1 ks rest er (All-unmapped P k (orders (one_less left k)) here))

-- what is not timed has no delay
delay-none : (p : Problem) (s : List ℕ) → timed p s ≡ None → delay_of p s ≡ None
delay-none p s e = ap (option_map (λ (t : List Served × Head). total_cost t.0)) e

-- the best answer is the least of all
pub best-least : (p : Problem) (answer : Answer) → IsBest p answer → IsLeast p answer
best-least p NoPlan h = λ s. option-cases (timed p s)
    (λ none. delay-none p s none)
    (λ t e. timed-among (λ s. delay_of p s ≡ None) p (counts_of p.lists) p.head s t e h)
best-least p (Plan sequence delay) h =
    let Q : List ℕ → Type 0 = λ s. IfSome (delay_of p s) (λ d. delay ≤ d) in
    let before : All Q h.before = All-weaker (λ s. IfSome (delay_of p s) (λ d. delay < d)) Q (λ s i. if-some-weaker (delay_of p s) (λ d. delay < d) (λ d. delay ≤ d) (λ d j. omega arith) i) h.before h.first in
    let here : Q sequence = subst (λ (o : Option ℕ). IfSome o (λ d. delay ≤ d)) (sym h.feasible) (omega arith) in
    let all : All Q (orders (counts_of p.lists)) = subst (All Q) (sym h.among) (All-append Q h.before (sequence ∷ h.after) before (All-cons Q sequence h.after here h.least)) in (
      h.feasible,
      λ s. option-cases (timed p s)
          (λ none. subst (λ (o : Option ℕ). IfSome o (λ d. delay ≤ d)) (sym (delay-none p s none)) tt)
          (λ t e. timed-among Q p (counts_of p.lists) p.head s t e all),
    )

-- of two answers that are the best of one list, neither can stand before the other
meets : {X : Type 0} (Ab Fb Aa Fa : X → Type 0) (b a c f : List X) (s t : X) → b ++ s ∷ a ≡ c ++ t ∷ f → All Ab b → All Fa a → All Aa c → All Fb f → (s ≡ t) ⊎ (Aa s × Fa t) ⊎ (Ab t × Fb s)
meets Ab Fb Aa Fa [] a [] f s t e hb ha hc hf = inl cc
meets Ab Fb Aa Fa [] a (x ∷ c) f s t e hb ha hc hf =
    let same : s ≡ x = cc in
    let tails : a ≡ c ++ t ∷ f = cc in
    let later = subst (All Fa) tails ha in
    inr (inl (subst Aa (sym same) (All-head Aa x c hc), All-head Fa t f (All-back Fa c (t ∷ f) later)))
meets Ab Fb Aa Fa (x ∷ b) a [] f s t e hb ha hc hf =
    let same : x ≡ t = cc in
    let tails : b ++ s ∷ a ≡ f = cc in
    let later = subst (All Fb) (sym tails) hf in
    inr (inr (subst Ab same (All-head Ab x b hb), All-head Fb s a (All-back Fb b (s ∷ a) later)))
meets Ab Fb Aa Fa (x ∷ b) a (y ∷ c) f s t e hb ha hc hf =
    let tails : b ++ s ∷ a ≡ c ++ t ∷ f = cc in
    meets Ab Fb Aa Fa b a c f s t tails (All-tail Ab x b hb) ha (All-tail Aa y c hc) hf

-- the value that a feasible sequence has
value-of : (P : ℕ → Type 0) (o : Option ℕ) (d : ℕ) → o ≡ Some d → IfSome o P → P d
value-of P o d e h = subst (λ (o : Option ℕ). IfSome o P) e h

best-plans : (p : Problem) (all : List (List ℕ)) (s t : List ℕ) (d e : ℕ) → IsBestPlan p all s d → IsBestPlan p all t e → s ≡ t
best-plans p all s t d e a b =
    elim (meets (λ x. IfSome (delay_of p x) (λ n. d < n)) (λ x. IfSome (delay_of p x) (λ n. e ≤ n)) (λ x. IfSome (delay_of p x) (λ n. e < n)) (λ x. IfSome (delay_of p x) (λ n. d ≤ n)) a.before a.after b.before b.after s t (sym a.among ∙ b.among) a.first a.least b.first b.least) [
      | inl same ↦ same
      | inr other ↦ elim other [
        | inl both ↦ absurd (omega (arith, value-of (λ n. e < n) (delay_of p s) d a.feasible both.0, value-of (λ n. d ≤ n) (delay_of p t) e b.feasible both.1))
        | inr both ↦ absurd (omega (arith, value-of (λ n. d < n) (delay_of p t) e b.feasible both.0, value-of (λ n. e ≤ n) (delay_of p s) d a.feasible both.1))
      ]
    ]

not-none : (p : Problem) (all : List (List ℕ)) (s : List ℕ) (d : ℕ) → IsBestPlan p all s d → All (λ s. delay_of p s ≡ None) all → ⊥
not-none p all s d a none =
    let here = All-head (λ s. delay_of p s ≡ None) s a.after (All-back (λ s. delay_of p s ≡ None) a.before (s ∷ a.after) (subst (All (λ s. delay_of p s ≡ None)) a.among none)) in
    none-some d (sym here ∙ a.feasible)

-- the best answer is one
pub best-one : (p : Problem) (a b : Answer) → IsBest p a → IsBest p b → a ≡ b
best-one p NoPlan NoPlan h k = refl
best-one p NoPlan (Plan t e) h k = absurd (not-none p (orders (counts_of p.lists)) t e k h)
best-one p (Plan s d) NoPlan h k = absurd (not-none p (orders (counts_of p.lists)) s d h k)
best-one p (Plan s d) (Plan t e) h k =
    let same = best-plans p (orders (counts_of p.lists)) s t d e h k in
    let delay : d ≡ e = same_Some d e (sym h.feasible ∙ ap (delay_of p) same ∙ k.feasible) in
    ap (λ x. Plan x d) same ∙ ap (λ n. Plan t n) delay

-- so no other is the best than one that was found
pub best-only : {E : Type 0} (p : Problem) (r : Result Answer E) → IfOk r (IsBest p) → IfOk r (λ answer. (other : Answer) → IsBest p other → other ≡ answer)
best-only p (Ok answer) best = λ other h. best-one p other answer h best
best-only p (Err e) best = tt

-- the best of the orders that begin with a phase below k, and then with phase k: where nothing of k is left, where
-- its next cluster is unfit, and where the orders after it were tried
pub step-none : (p : Problem) (prefix left : List ℕ) (first answer : Answer) (k : ℕ) → answer ≡ best_after p prefix first (flat_map (beginning_with left) (range_with_len 0 k)) → get_or left k 0 ≡ 0
    → answer ≡ best_after p prefix first (flat_map (beginning_with left) (range_with_len 0 (k + 1)))
step-none p prefix left first answer k so_far none =
    so_far ∙ sym (best-phase p prefix first (beginning_with left) k ∙ ap (best_after p prefix (best_after p prefix first (flat_map (beginning_with left) (range_with_len 0 k)))) (beginning-none left k none))

pub step-unfit : (p : Problem) (prefix left : List ℕ) (first answer : Answer) (k : ℕ) → answer ≡ best_after p prefix first (flat_map (beginning_with left) (range_with_len 0 k)) → 0 < get_or left k 0
    → ((order : List ℕ) → delay_of p (prefix ++ k ∷ order) ≡ None) → answer ≡ best_after p prefix first (flat_map (beginning_with left) (range_with_len 0 (k + 1)))
step-unfit p prefix left first answer k so_far some unfit =
    let before = best_after p prefix first (flat_map (beginning_with left) (range_with_len 0 k)) in
    so_far ∙ sym (best-phase p prefix first (beginning_with left) k ∙ ap (best_after p prefix before) (beginning-some left k some) ∙ best-unfit p prefix k unfit before (orders (one_less left k)))

pub step-fit : (p : Problem) (prefix left : List ℕ) (first answer now : Answer) (k : ℕ) → answer ≡ best_after p prefix first (flat_map (beginning_with left) (range_with_len 0 k)) → 0 < get_or left k 0
    → now ≡ best_after p (prefix ++ k ∷ []) answer (orders (one_less left k)) → now ≡ best_after p prefix first (flat_map (beginning_with left) (range_with_len 0 (k + 1)))
step-fit p prefix left first answer now k so_far some behind =
    let before = best_after p prefix first (flat_map (beginning_with left) (range_with_len 0 k)) in
    behind ∙ ap (λ a. best_after p (prefix ++ k ∷ []) a (orders (one_less left k))) so_far
    ∙ sym (best-phase p prefix first (beginning_with left) k ∙ ap (best_after p prefix before) (beginning-some left k some) ∙ best-fit p prefix k before (orders (one_less left k)))

-- a count that is lowered and raised again
pub raised-again : (left : List ℕ) (k : ℕ) → 0 < get_or left k 0 → set (one_less left k) k (get_or (one_less left k) k 0 + 1) ≡ left
raised-again [] k h = absurd (omega arith)
raised-again (n ∷ left) zero h = ap (λ m. m ∷ left) (omega arith)
raised-again (n ∷ left) (suc k) h = ap (λ rest. n ∷ rest) (raised-again left k h)

-- a list from which the last element was taken
pub popped : (xs ys : List ℕ) (k n : ℕ) → ys ≡ xs ++ k ∷ [] → n ≡ length ys → take (n - 1) ys ≡ xs
popped xs ys k n e m =
    ap (λ l. take (n - 1) l) e ∙ ap (λ i. take i (xs ++ k ∷ [])) (omega (arith, ap length e, length-append xs (k ∷ []))) ∙ take-append_seam xs (k ∷ [])
