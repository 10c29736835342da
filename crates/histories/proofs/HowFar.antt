-- How far a history has come, as counts of the steps that are left in a round.
use Rattle.std.proofs.Common.{◌≡◌, true, false, Result, Ok, Err, OnOk, OnErr, is_err, ℕ, zero, suc, ◌+◌, ◌-◌, ◌<◌, ◌≤◌, List, [], ◌∷◌, ◌++◌, length, take, drop, get_or, set, All, refl, sym, ap, ◌∙◌, subst, inl, inr, arith, append_assoc, eqb, eq-eqb, ◌==◌, if◌then◌else◌}
use Rattle.std.specs.Prelude.{◌⊎◌, IsTrue, sum_by}
use Rattle.std.proofs.lemmas.List.Elements.{All-nil, All-push}
use Rattle.std.proofs.lemmas.Bool.{cases_eq, cases_lt, cond_both, eqb-true, eqb-false, false≢true, true≢false}
use Rattle.std.proofs.lemmas.List.{take_more, take-append-drop, get_or-set_same, get_or-set_other, get_or_append_left, get_or_past, get_or_push, length-append}
use Rattle.std.proofs.lemmas.List.Sums.{sum_by-cons, sum_by-set}
use Rattle.histories.specs.declared.steps.BoardStep.{BoardStep}
use Rattle.histories.specs.Histories.{count, HasRounds, IsUnderWay, IsLawful}
use Rattle.histories.specs.Progress.{Course, HasCome, IsDoneInRound, IsStuck}
use Rattle.histories.specs.Steps.{board_steps}
use Rattle.net_parts.specs.Limits.{most_links}
use Rattle.net_parts.specs.Numbers.{Net}
use Rattle.histories.proofs.Counts.{count-append, count-else, count-one}
use Rattle.histories.proofs.Rounds.{begun, next, all-done, has-all, step-more, round-more, over-at-once}

abbrev pub all_of : List ℕ → ℕ
all_of counts = sum_by (λ c. c) counts

some-left : (xs : List ℕ) → 0 < all_of xs → (n : ℕ) × (0 < get_or xs n 0)
some-left [] some = absurd (omega arith)
some-left (zero ∷ xs) some = let (n, h) = some-left xs (omega (arith, some, sum_by-cons (λ c. c) 0 xs)) in (suc n, h)
some-left (suc x ∷ xs) some = (0, (omega arith))

none-left : (xs : List ℕ) → all_of xs ≡ 0 → (n : ℕ) → get_or xs n 0 ≡ 0
none-left [] none n = refl
none-left (x ∷ xs) none zero = omega (arith, none, sum_by-cons (λ c. c) x xs)
none-left (x ∷ xs) none (suc n) = none-left xs (omega (arith, none, sum_by-cons (λ c. c) x xs)) n

module _ (steps : ℕ → List BoardStep) where
  -- the counts of the nodes below a number
  pub record HaveCounts (nodes : ℕ) (counts : List ℕ) : Type 0 where
    pub long : length counts ≡ nodes
    pub each : (n : ℕ) → n < nodes → get_or counts n 0 ≡ length (steps n)
    pub few : All (λ c. c ≤ most_links) counts

  -- the counts, node by node
  pub counts-none : (counts : List ℕ) → counts ≡ [] → HaveCounts 0 counts
  counts-none counts none = rw none (record { long = refl; each = λ n less. absurd (omega arith); few = All-nil (λ c. c ≤ most_links) })

  pub counts-more : (node own : ℕ) (counts more : List ℕ) → HaveCounts node counts → own ≡ length (steps node) → own ≤ most_links → more ≡ counts ++ own ∷ [] → HaveCounts (node + 1) more
  counts-more node own counts more have is few pushed = rw pushed (record {
    long = length-append counts (own ∷ []) ∙ ap (λ k. k + 1) have.long;
    each = λ n less. elim (cases_lt n node) [
      | inl below ↦ get_or_append_left counts (own ∷ []) 0 n (omega (arith, below, have.long)) ∙ have.each n below
      | inr last ↦ (let e : n ≡ node = omega (arith, less, last) in get_or_push counts own 0 n (have.long ∙ sym e) ∙ is ∙ ap (λ k. length (steps k)) (sym e))
    ];
    few = All-push (λ c. c ≤ most_links) counts own have.few few;
  })

  pub counts-all : (nodes : ℕ) (counts : List ℕ) → HaveCounts nodes counts → ((n : ℕ) → nodes ≤ n → steps n ≡ []) → (n : ℕ) → get_or counts n 0 ≡ length (steps n)
  counts-all nodes counts have beyond n = elim (cases_lt n nodes) [
    | inl below ↦ have.each n below
    | inr past ↦ get_or_past counts n 0 (omega (arith, past, have.long)) ∙ sym (ap length (beyond n past))
  ]

-- a history at its begin: no round is done, or all, where no node has a step
module _ (net : Net) (steps : List ℕ) (are : (n : ℕ) → get_or steps n 0 ≡ length (board_steps net n)) where
  abbrev at : ℕ → Course
  at done = record { rounds = net.run.rounds; done = done; steps = steps; left = steps }

  none-yet : (n : ℕ) → 0 + get_or steps n 0 ≡ length (board_steps net n)
  none-yet n = omega (arith, are n)

  come-some : 0 < all_of steps → HasCome net [] (at 0)
  come-some some = let (n, h) = some-left steps some in record { rounds = refl; steps = are; way = begun (board_steps net) net.run.rounds n (omega (arith, h, are n)); left = none-yet }

  come-none : all_of steps ≡ 0 → HasCome net [] (at net.run.rounds)
  come-none none = record { rounds = refl; steps = are; way = over-at-once (board_steps net) net.run.rounds (λ n. no-steps (board_steps net n) (omega (arith, none-left steps none n, are n))); left = none-yet }
    where
      no-steps : (s : List BoardStep) → length s ≡ 0 → s ≡ []
      no-steps [] e = refl
      no-steps (x ∷ xs) e = absurd (omega arith)

  pub come-begin : (whole rounds done : ℕ) (left : List ℕ) → whole ≡ all_of steps → rounds ≡ net.run.rounds → done ≡ (if whole == 0 then rounds else 0) → left ≡ steps → HasCome net [] (record { rounds = rounds; done = done; steps = steps; left = left })
  come-begin whole rounds done left is same by all =
      subst (λ l. HasCome net [] (record { rounds = rounds; done = done; steps = steps; left = l })) (sym all)
      (subst (λ r. HasCome net [] (record { rounds = r; done = done; steps = steps; left = steps })) (sym same)
      (subst (λ d. HasCome net [] (at d)) (sym (by ∙ ap (λ r. if whole == 0 then r else 0) same))
      (cond_both (whole == 0) net.run.rounds 0 (λ d. HasCome net [] (at d))
      (λ e. come-none (omega (arith, is, eqb-true whole 0 e)))
      (λ e. come-some (elim (cases_lt 0 whole) [ inl some ↦ omega (arith, is, some) | inr none ↦ absurd (eqb-false whole 0 e (omega (arith, none))) ])))))

-- a history that has come so far
module _ (net : Net) (h : List ℕ) (p : Course) (come : HasCome net h p) where
  abbrev part : List ℕ
  part = come.way.part

  -- a next step of a node that has one left
  module _ (n x : ℕ) (less : p.done < p.rounds) (inside : n < length p.left) (own : x + 1 ≡ get_or p.left n 0) where
    room : count n part < length (board_steps net n)
    room = omega (arith, come.left n, own)

    left-more : (m : ℕ) → count m (part ++ n ∷ []) + get_or (set p.left n x) m 0 ≡ length (board_steps net m)
    left-more m = elim (cases_eq n m) [
      | inl e ↦ (
          let a : count m (part ++ n ∷ []) ≡ count m part + 1 = count-append m part (n ∷ []) ∙ ap (λ k. count m part + count m (k ∷ [])) e ∙ ap (λ k. count m part + k) (count-one m) in
          let b : get_or (set p.left n x) m 0 ≡ x = ap (λ k. get_or (set p.left n x) k 0) (sym e) ∙ get_or-set_same p.left n x 0 inside in
          let c : get_or p.left n 0 ≡ get_or p.left m 0 = ap (λ k. get_or p.left k 0) e in
          omega (arith, come.left m, own))
      | inr other ↦ (
          let a : count m (part ++ n ∷ []) ≡ count m part + 0 = count-append m part (n ∷ []) ∙ ap (λ k. count m part + k) (count-else n m [] other) in
          let b : get_or (set p.left n x) m 0 ≡ get_or p.left m 0 = get_or-set_other p.left n m x 0 (λ f. other (sym f)) in
          omega (arith, come.left m))
    ]

    -- within the round
    pub come-step : (left : List ℕ) → left ≡ set p.left n x → 0 < all_of (set p.left n x) → HasCome net (h ++ n ∷ []) (record p { left = left })
    come-step left is some =
        let (m, k) = some-left (set p.left n x) some in
        subst (λ l. HasCome net (h ++ n ∷ []) (record p { left = l })) (sym is)
        (record { rounds = come.rounds; steps = come.steps; way = step-more (board_steps net) p.rounds p.done h come.way n less room m (omega (arith, left-more m, k)); left = left-more })

    -- the step that ends it
    pub come-round : (left : List ℕ) → left ≡ p.steps → all_of (set p.left n x) ≡ 0 → HasCome net (h ++ n ∷ []) (record p { done = p.done + 1; left = left })
    come-round left is none =
        let e : suc p.done ≡ p.done + 1 = omega arith in
        subst (λ l. HasCome net (h ++ n ∷ []) (record p { done = p.done + 1; left = l })) (sym is)
        (subst (λ d. HasCome net (h ++ n ∷ []) (record p { done = d; left = p.steps })) e
        (record {
          rounds = come.rounds;
          steps = come.steps;
          way = round-more (board_steps net) p.rounds p.done h come.way n less room (λ m. let k = none-left (set p.left n x) none m in omega (arith, left-more m));
          left = λ m. (let z : 0 + get_or p.steps m 0 ≡ length (board_steps net m) = omega (arith, come.steps m) in z);
        }))

  -- all rounds are done
  pub come-over : p.done ≡ p.rounds → IsLawful net h
  come-over over = subst (λ r. HasRounds (board_steps net) r h) come.rounds (has-all (board_steps net) p.rounds p.done h come.way over)

  -- a lawful history is over
  pub come-all : IsLawful net h → p.done ≡ p.rounds
  come-all all = all-done (board_steps net) p.rounds p.done h come.way (subst (λ r. HasRounds (board_steps net) r h) (sym come.rounds) all)

  -- a node with no step left in the round
  pub come-turn : (n : ℕ) → p.done < p.rounds → get_or p.left n 0 ≡ 0 → IsDoneInRound net h n
  come-turn n less none =
      let all : count n part ≡ length (board_steps net n) = omega (arith, come.left n, none) in
      let (way, goes, is) = subst (λ r. (way : IsUnderWay (board_steps net) r p.done h) × (p.done < r) × (count n way.part ≡ length (board_steps net n))) come.rounds (come.way, less, all) in
      record { done = p.done; way = way; goes_on = goes; all = is }

  -- neither can go on with the node
  pub come-stuck : (n : ℕ) → (p.done ≡ p.rounds) ⊎ (get_or p.left n 0 ≡ 0) → IsStuck net h n
  come-stuck n why rest all =
      let k = next (board_steps net) p.rounds p.done h come.way n rest (subst (λ r. HasRounds (board_steps net) r (h ++ n ∷ rest)) (sym come.rounds) all) in
      elim why [ inl over ↦ (let less = k.0 in omega arith) | inr none ↦ omega (arith, k.1, come.left n, none) ]

-- a list cut at a place
pub cut-here : (xs : List ℕ) (i : ℕ) → i < length xs → xs ≡ take i xs ++ get_or xs i 0 ∷ drop (i + 1) xs
cut-here xs i inside = sym (take-append-drop (i + 1) xs) ∙ ap (λ l. l ++ drop (i + 1) xs) (take_more xs i 0 inside) ∙ append_assoc (take i xs) (get_or xs i 0 ∷ []) (drop (i + 1) xs)

-- a node that has a count has a place
pub counted : (counts : List ℕ) (n : ℕ) → 0 < get_or counts n 0 → n < length counts
counted counts n some = elim (cases_lt n (length counts)) [ inl inside ↦ inside | inr past ↦ (let none = get_or_past counts n 0 past in absurd (omega arith)) ]

-- an answer that a test of two numbers gives
pub tells : (a b : ℕ) (P : Type 0) → (P → a ≡ b) → (a ≡ b → P) → (IsTrue (eqb a b) → P) × (P → IsTrue (eqb a b))
tells a b P to from = ((λ t. from (eqb-true a b t)), (λ p. eq-eqb a b (to p)))

-- one step of a node less
pub fewer : (left : List ℕ) (n x all : ℕ) → n < length left → x + 1 ≡ get_or left n 0 → all ≡ all_of left → all_of (set left n x) ≡ all - 1
fewer left n x all inside own is = omega (arith, sum_by-set (λ c. c) left n x 0 inside, own, is)

-- what a call says where it answers Ok, and where it answers Err
pub at-ok : {X E : Type 0} (r : Result X E) (P : Type 0) → OnOk r P → is_err r ≡ false → P
at-ok (Ok x) P says e = says
at-ok (Err x) P says e = absurd (true≢false e)

pub at-err : {X E : Type 0} (r : Result X E) (P : Type 0) → OnErr r P → is_err r ≡ true → P
at-err (Ok x) P says e = absurd (false≢true e)
at-err (Err x) P says e = says

-- a lawful history, cut at a place
pub lawful-cut : (net : Net) (xs : List ℕ) (i : ℕ) → i < length xs → IsLawful net xs → IsLawful net (take i xs ++ get_or xs i 0 ∷ drop (i + 1) xs)
lawful-cut net xs i inside all = subst (IsLawful net) (cut-here xs i inside) all
