-- The turn order is lawful, and a history under way can go on.
use Rattle.std.proofs.Common.{◌≡◌, ℕ, zero, suc, ◌+◌, ◌-◌, ◌≤◌, List, [], ◌∷◌, ◌++◌, length, refl, sym, ap, ◌∙◌, subst, inl, inr, arith, append-nil, append_assoc}
use Rattle.std.specs.Prelude.{replicate}
use Rattle.std.specs.List.{concat}
use Rattle.std.proofs.lemmas.Bool.{cases_lt}
use Rattle.std.proofs.lemmas.List.{replicate_more}
use Rattle.std.proofs.lemmas.List.Folds.{concat-append}
use Rattle.histories.specs.declared.steps.BoardStep.{BoardStep}
use Rattle.histories.specs.Histories.{count, turns, IsRound, HasRounds, IsUnderWay, CanGoOn}
use Rattle.histories.proofs.Counts.{count-append, spread, in-spread, past-spread}
use Rattle.histories.proofs.Rounds.{behind}

module _ (steps : ℕ → List BoardStep) (nodes : ℕ) (beyond : (n : ℕ) → nodes ≤ n → steps n ≡ []) where
  -- a node as often as it has steps: one round of turns
  pub turns-round : IsRound steps (turns steps nodes)
  turns-round n = elim (cases_lt n nodes) [
    | inl inside ↦ in-spread (λ m. length (steps m)) n 0 nodes (omega arith) (omega arith)
    | inr past ↦ past-spread (λ m. length (steps m)) n 0 nodes (omega arith) ∙ sym (ap length (beyond n past))
  ]

  -- and many
  pub turns-rounds : (rounds : ℕ) → HasRounds steps rounds (concat (replicate rounds (turns steps nodes)))
  turns-rounds zero = refl
  turns-rounds (suc rounds) = behind steps rounds (turns steps nodes) (concat (replicate rounds (turns steps nodes))) turns-round (turns-rounds rounds)

  -- the steps that are missing in a part
  module _ (part : List ℕ) (within : (n : ℕ) → count n part ≤ length (steps n)) where
    abbrev missing : List ℕ
    missing = spread (λ m. length (steps m) - count m part) 0 nodes

    completed : IsRound steps (part ++ missing)
    completed n = count-append n part missing ∙ elim (cases_lt n nodes) [
      | inl inside ↦ (let a = in-spread (λ m. length (steps m) - count m part) n 0 nodes (omega arith) (omega arith) in omega (arith, within n))
      | inr past ↦ (let a = past-spread (λ m. length (steps m) - count m part) n 0 nodes (omega arith) in let b : length (steps n) ≡ 0 = ap length (beyond n past) in omega (arith, within n))
    ]

  rounds-append : (first second : ℕ) (xs ys : List ℕ) → HasRounds steps first xs → HasRounds steps second ys → HasRounds steps (first + second) (xs ++ ys)
  rounds-append first zero xs ys a none = subst (λ r. HasRounds steps r (xs ++ ys)) (let e : first ≡ first + 0 = omega arith in e) (subst (HasRounds steps first) (sym (ap (λ l. xs ++ l) none ∙ append-nil xs)) a)
  rounds-append first (suc second) xs ys a (early, block, e, round, before) =
      subst (λ r. HasRounds steps r (xs ++ ys)) (let z : suc (first + second) ≡ first + suc second = omega arith in z)
      (xs ++ early, block, (ap (λ l. xs ++ l) e ∙ sym (append_assoc xs early block)), round, rounds-append first second xs early a before)

  -- some rounds, and of the next one a part, which may be all of it
  pub record IsBegun (rounds done : ℕ) (h : List ℕ) : Type 0 where
    pub early : List ℕ
    pub part : List ℕ
    pub whole : h ≡ early ++ part
    pub rounds_done : HasRounds steps done early
    pub within : (node : ℕ) → count node part ≤ length (steps node)
    pub most : done ≤ rounds
    pub over : done ≡ rounds → part ≡ []

  -- it can go on to a lawful history
  pub begun-on : (rounds done : ℕ) (h : List ℕ) → IsBegun rounds done h → CanGoOn steps rounds h
  begun-on rounds done h way = by (rounds - done) (let most = way.most in omega arith)
    where
      by : (left : ℕ) → rounds ≡ done + left → CanGoOn steps rounds h
      by zero e = ([], subst (HasRounds steps rounds) (sym (append-nil h)) (subst (λ r. HasRounds steps r h) (let z : done ≡ rounds = omega arith in z) (subst (HasRounds steps done) (sym (way.whole ∙ ap (λ l. way.early ++ l) (way.over (omega arith)) ∙ append-nil way.early)) way.rounds_done)))
      by (suc left) e =
          let rest : List ℕ = concat (replicate left (turns steps nodes)) in
          let more : HasRounds steps (suc left) ((way.part ++ missing way.part way.within) ++ rest) = behind steps left (way.part ++ missing way.part way.within) rest (completed way.part way.within) (turns-rounds left) in
          let all : HasRounds steps (done + suc left) (way.early ++ ((way.part ++ missing way.part way.within) ++ rest)) = rounds-append done (suc left) way.early ((way.part ++ missing way.part way.within) ++ rest) way.rounds_done more in
          (missing way.part way.within ++ rest, subst (λ r. HasRounds steps r (h ++ (missing way.part way.within ++ rest))) (sym e) (subst (HasRounds steps (done + suc left)) (shape way.early way.part (missing way.part way.within) rest ∙ ap (λ l. l ++ (missing way.part way.within ++ rest)) (sym way.whole)) all))
        where
          shape : (a b c d : List ℕ) → a ++ ((b ++ c) ++ d) ≡ (a ++ b) ++ (c ++ d)
          shape a b c d = simp (append_assoc) refl

  -- and so can a history under way
  pub goes-on : (rounds done : ℕ) (h : List ℕ) → IsUnderWay steps rounds done h → CanGoOn steps rounds h
  goes-on rounds done h way = begun-on rounds done h (record { early = way.early; part = way.part; whole = way.whole; rounds_done = way.rounds_done; within = way.within; most = way.most; over = way.over })

-- a node more takes its turns
spread-suc : (f : ℕ → ℕ) (from len : ℕ) → spread f from (suc len) ≡ spread f from len ++ replicate (f (from + len)) (from + len)
spread-suc f from zero = append-nil (replicate (f from) from) ∙ ap (λ k. replicate (f k) k) (let e : from ≡ from + 0 = omega arith in e)
spread-suc f from (suc len) =
    ap (λ l. replicate (f from) from ++ l) (spread-suc f (from + 1) len)
    ∙ sym (append_assoc (replicate (f from) from) (spread f (from + 1) len) (replicate (f (from + 1 + len)) (from + 1 + len)))
    ∙ ap (λ k. (replicate (f from) from ++ spread f (from + 1) len) ++ replicate (f k) k) (let e : from + 1 + len ≡ from + suc len = omega arith in e)

pub turns-more : (steps : ℕ → List BoardStep) (nodes count : ℕ) (old new : List ℕ) → old ≡ turns steps nodes → count ≡ length (steps nodes) → new ≡ old ++ replicate count nodes → new ≡ turns steps (nodes + 1)
turns-more steps nodes count old new was is more =
    more ∙ ap (λ l. l ++ replicate count nodes) was ∙ ap (λ k. turns steps nodes ++ replicate k nodes) is
    ∙ ap (λ k. turns steps nodes ++ replicate (length (steps k)) k) (let e : nodes ≡ 0 + nodes = omega arith in e)
    ∙ sym (spread-suc (λ n. length (steps n)) 0 nodes)
    ∙ ap (turns steps) (let e : suc nodes ≡ nodes + 1 = omega arith in e)

-- a round more
pub repeated-more : (round : List ℕ) (done : ℕ) (old new : List ℕ) → old ≡ concat (replicate done round) → new ≡ old ++ round → new ≡ concat (replicate (done + 1) round)
repeated-more round done old new was more =
    more ∙ ap (λ l. l ++ round) was ∙ ap (λ l. concat (replicate done round) ++ l) (sym (append-nil round)) ∙ sym (concat-append (replicate done round) (round ∷ [])) ∙ ap concat (replicate_more done round)
