-- Rounds, one after another, and histories under way.
use Rattle.std.proofs.Common.{◌≡◌, ℕ, zero, suc, ◌+◌, ◌*◌, ◌<◌, ◌≤◌, List, [], ◌∷◌, ◌++◌, length, refl, sym, ap, ◌∙◌, subst, inl, inr, arith, append-nil, append_assoc}
use Rattle.std.specs.Prelude.{replicate}
use Rattle.std.specs.List.{concat}
use Rattle.std.proofs.lemmas.Bool.{cases_eq, cases_lt}
use Rattle.histories.specs.declared.steps.BoardStep.{BoardStep}
use Rattle.histories.specs.Histories.{count, IsRound, HasRounds, IsUnderWay}
use Rattle.histories.proofs.Counts.{count-append, count-here, count-else, count-one, no-count, Goes, cuts}

-- of rounds that are alike, one after a number of others
pub rounds-cut : (block : List ℕ) (a b : ℕ) → concat (replicate (a + suc b) block) ≡ concat (replicate a block) ++ (block ++ concat (replicate b block))
rounds-cut block zero b = ap (λ n. concat (replicate n block)) (let e : zero + suc b ≡ suc b = omega arith in e)
rounds-cut block (suc a) b =
    ap (λ n. concat (replicate n block)) (let e : suc a + suc b ≡ suc (a + suc b) = omega arith in e) ∙ ap (λ l. block ++ l) (rounds-cut block a b)
    ∙ sym (append_assoc block (concat (replicate a block)) (block ++ concat (replicate b block)))

module _ (steps : ℕ → List BoardStep) where
  -- each node stands in some rounds as often as it has steps in them
  pub rounds-count : (rounds : ℕ) (h : List ℕ) → HasRounds steps rounds h → (n : ℕ) → count n h ≡ rounds * length (steps n)
  rounds-count zero h none n = ap (count n) none ∙ (let z : 0 ≡ 0 * length (steps n) = omega arith in z)
  rounds-count (suc rounds) h (early, block, e, round, before) n = ap (count n) e ∙ count-append n early block ∙ more rounds (length (steps n)) (count n early) (count n block) (rounds-count rounds early before n) (round n)
    where
      more : (r w a b : ℕ) → a ≡ r * w → b ≡ w → a + b ≡ suc r * w
      more r w a b p q = omega arith

  -- the first round, and one in front
  pub front : (rounds : ℕ) (h : List ℕ) → HasRounds steps (suc rounds) h → (block rest : List ℕ) × (h ≡ block ++ rest) × IsRound steps block × HasRounds steps rounds rest
  front zero h (early, block, e, round, none) = (block, [], e ∙ ap (λ l. l ++ block) none ∙ sym (append-nil block), round, refl)
  front (suc rounds) h (early, block, e, round, before) =
      let (first, rest, s, is, more) = front rounds early before in
      (first, rest ++ block, e ∙ ap (λ l. l ++ block) s ∙ append_assoc first rest block, is, (rest, block, refl, round, more))

  pub behind : (rounds : ℕ) (block rest : List ℕ) → IsRound steps block → HasRounds steps rounds rest → HasRounds steps (suc rounds) (block ++ rest)
  behind zero block rest round none = ([], block, ap (λ l. block ++ l) none ∙ append-nil block, round, refl)
  behind (suc rounds) block rest round (early, last, e, is, before) = (block ++ early, last, ap (λ l. block ++ l) e ∙ sym (append_assoc block early last), is, behind rounds block early round before)

  -- one round again and again
  pub again : (block : List ℕ) → IsRound steps block → (rounds : ℕ) → HasRounds steps rounds (concat (replicate rounds block))
  again block round zero = refl
  again block round (suc rounds) = behind rounds block (concat (replicate rounds block)) round (again block round rounds)

  -- of two rounds that begin one history, the rest is the same
  same-rest : (b x c y : List ℕ) → IsRound steps b → IsRound steps c → b ++ x ≡ c ++ y → x ≡ y
  same-rest b x c y b-round c-round e = elim (cuts b x c y e) [
    | inl g ↦ g.2 ∙ ap (λ l. l ++ y) (nothing b c g.0 b-round c-round g.1)
    | inr g ↦ sym (g.2 ∙ ap (λ l. l ++ x) (nothing c b g.0 c-round b-round g.1))
  ]
    where
      nothing : (b c zs : List ℕ) → IsRound steps b → IsRound steps c → c ≡ b ++ zs → zs ≡ []
      nothing b c zs b-round c-round e = no-count zs (λ n. let p : count n c ≡ count n b + count n zs = ap (count n) e ∙ count-append n b zs in omega (arith, p, b-round n, c-round n))

  -- what is left after some rounds
  cut-rounds : (w : ℕ) → 0 < length (steps w) → (done rounds : ℕ) (early more : List ℕ) → HasRounds steps done early → HasRounds steps rounds (early ++ more) → (left : ℕ) × (rounds ≡ done + left) × HasRounds steps left more
  cut-rounds w some zero rounds early more none all = (rounds, (omega arith), subst (HasRounds steps rounds) (ap (λ l. l ++ more) none) all)
  cut-rounds w some (suc done) zero early more before none = absurd (
      let a : count w early ≡ suc done * length (steps w) = rounds-count (suc done) early before w in
      let b : count w early + count w more ≡ 0 = sym (count-append w early more) ∙ ap (count w) none in
      at-least done (length (steps w)) (count w early) some a (omega arith))
    where
      at-least : (r n a : ℕ) → 0 < n → a ≡ suc r * n → a ≡ 0 → ⊥
      at-least r n a some e none = omega arith
  cut-rounds w some (suc done) (suc rounds) early more before all =
      let (b, rest, s, b-round, b-rest) = front done early before in
      let (c, tail, t, c-round, c-rest) = front rounds (early ++ more) all in
      let same : rest ++ more ≡ tail = same-rest b (rest ++ more) c tail b-round c-round (sym (append_assoc b rest more) ∙ ap (λ l. l ++ more) (sym s) ∙ t) in
      let (left, e, has) = cut-rounds w some done rounds rest more b-rest (subst (HasRounds steps rounds) (sym same) c-rest) in
      (left, (omega arith), has)

  -- a part that no node has more steps in than a round, and some node fewer, holds no whole round
  no-round : (part b zs : List ℕ) → IsRound steps b → part ≡ b ++ zs → (n : ℕ) → count n part < length (steps n) → ⊥
  no-round part b zs round e n fewer = let p : count n part ≡ count n b + count n zs = ap (count n) e ∙ count-append n b zs in omega (arith, p, round n)

  module _ (rounds done : ℕ) (h : List ℕ) (way : IsUnderWay steps rounds done h) where
    -- where the whole is lawful, not all rounds are done, and the next node has steps left
    pub next : (n : ℕ) (rest : List ℕ) → HasRounds steps rounds (h ++ n ∷ rest) → (done < rounds) × (count n way.part < length (steps n))
    next n rest all =
        let total : count n (h ++ n ∷ rest) ≡ rounds * length (steps n) = rounds-count rounds (h ++ n ∷ rest) all n in
        let counted : count n (h ++ n ∷ rest) ≡ count n h + suc (count n rest) = count-append n h (n ∷ rest) ∙ ap (λ k. count n h + k) (count-here n rest) in
        let cut = cut-rounds n (positive rounds (length (steps n)) (count n h + count n rest) (omega arith)) done rounds way.early (way.part ++ n ∷ rest) way.rounds_done (subst (HasRounds steps rounds) (ap (λ l. l ++ n ∷ rest) way.whole ∙ append_assoc way.early way.part (n ∷ rest)) all) in
        by cut.0 cut.1 cut.2
      where
        positive : (r w a : ℕ) → suc a ≡ r * w → 0 < w
        positive r zero a e = absurd (let z : r * 0 ≡ 0 = omega arith in omega arith)
        positive r (suc w) a e = omega arith

        by : (left : ℕ) → rounds ≡ done + left → HasRounds steps left (way.part ++ n ∷ rest) → (done < rounds) × (count n way.part < length (steps n))
        by zero e none = absurd (omega (arith, count-append n way.part (n ∷ rest), count-here n rest, ap (count n) none))
        by (suc left) e has =
            let (b, z, s, round, more) = front left (way.part ++ n ∷ rest) has in
            let less : done < rounds = omega arith in
            let (m, fewer) = way.unfinished less in (
              less,
              elim (cuts way.part (n ∷ rest) b z s) [
                | inl g ↦ inside b z round g m fewer
                | inr g ↦ absurd (no-round way.part b g.0 round g.1 m fewer)
              ],
            )
          where
            inside : (b z : List ℕ) → IsRound steps b → Goes way.part (n ∷ rest) b z → (m : ℕ) → count m way.part < length (steps m) → count n way.part < length (steps n)
            inside b z round ([], e, f) m fewer = absurd (no-round way.part b [] round (sym (e ∙ append-nil way.part) ∙ sym (append-nil b)) m fewer)
            inside b z round (x ∷ zs, e, f) m fewer =
                let same : n ≡ x = (let g : n ∷ rest ≡ x ∷ (zs ++ z) = f in cc) in
                let counted : count n b ≡ count n way.part + count n (x ∷ zs) = ap (count n) e ∙ count-append n way.part (x ∷ zs) in
                let one : count n (x ∷ zs) ≡ suc (count n zs) = ap (λ (k : ℕ). count n (k ∷ zs)) (sym same) ∙ count-here n zs in
                omega (arith, counted, one, round n)

    -- a lawful history is over
    pub all-done : HasRounds steps rounds h → done ≡ rounds
    all-done all = elim (cases_lt done rounds) [
      | inl less ↦ absurd (
          let (m, fewer) = way.unfinished less in
          let cut = cut-rounds m (omega arith) done rounds way.early way.part way.rounds_done (subst (HasRounds steps rounds) way.whole all) in
          by m fewer cut.0 cut.1 cut.2 less)
      | inr more ↦ (let most = way.most in omega arith)
    ]
      where
        by : (m : ℕ) → count m way.part < length (steps m) → (left : ℕ) → rounds ≡ done + left → HasRounds steps left way.part → done < rounds → ⊥
        by m fewer zero e none less = omega arith
        by m fewer (suc left) e has less = let (b, z, s, round, more) = front left way.part has in no-round way.part b z round s m fewer

    -- and where all rounds are done, the history is lawful
    pub has-all : done ≡ rounds → HasRounds steps rounds h
    has-all over = subst (λ r. HasRounds steps r h) over (subst (HasRounds steps done) (sym (way.whole ∙ ap (λ l. way.early ++ l) (way.over over) ∙ append-nil way.early)) way.rounds_done)

  -- the beginning: no round is done
  abbrev pub begun : (rounds : ℕ) (n : ℕ) → 0 < length (steps n) → IsUnderWay steps rounds 0 []
  begun rounds n some = record { early = []; part = []; whole = refl; rounds_done = refl; within = λ m. omega arith; unfinished = λ less. (n, some); most = omega arith; over = λ e. refl }

  -- where no node has a step, all rounds are done at once
  abbrev pub over-at-once : (rounds : ℕ) → ((n : ℕ) → steps n ≡ []) → IsUnderWay steps rounds rounds []
  over-at-once rounds none = record { early = []; part = []; whole = refl; rounds_done = empty rounds; within = λ m. omega arith; unfinished = λ less. absurd (omega arith); most = omega arith; over = λ e. refl }
    where
      empty : (rounds : ℕ) → HasRounds steps rounds []
      empty zero = refl
      empty (suc rounds) = ([], [], refl, (λ n. sym (ap length (none n))), empty rounds)

  module _ (rounds done : ℕ) (h : List ℕ) (way : IsUnderWay steps rounds done h) (n : ℕ) (less : done < rounds) (room : count n way.part < length (steps n)) where
    pub within-more : (m : ℕ) → count m (way.part ++ n ∷ []) ≤ length (steps m)
    within-more m = elim (cases_eq n m) [
      | inl here ↦ (let e : count m (way.part ++ n ∷ []) ≡ count n way.part + 1 = ap (λ k. count k (way.part ++ n ∷ [])) (sym here) ∙ count-append n way.part (n ∷ []) ∙ ap (λ k. count n way.part + k) (count-one n) in let f : length (steps m) ≡ length (steps n) = ap (λ k. length (steps k)) (sym here) in omega arith)
      | inr there ↦ (let e : count m (way.part ++ n ∷ []) ≡ count m way.part + 0 = count-append m way.part (n ∷ []) ∙ ap (λ k. count m way.part + k) (count-else n m [] there) in omega (arith, way.within m))
    ]

    pub one-more : h ++ n ∷ [] ≡ way.early ++ (way.part ++ n ∷ [])
    one-more = ap (λ l. l ++ n ∷ []) way.whole ∙ append_assoc way.early way.part (n ∷ [])

    -- a step more within the round
    abbrev pub step-more : (m : ℕ) → count m (way.part ++ n ∷ []) < length (steps m) → IsUnderWay steps rounds done (h ++ n ∷ [])
    step-more m fewer = record { early = way.early; part = way.part ++ n ∷ []; whole = one-more; rounds_done = way.rounds_done; within = within-more; unfinished = λ l. (m, fewer); most = way.most; over = λ e. absurd (omega arith) }

    -- the step that ends the round
    abbrev pub round-more : IsRound steps (way.part ++ n ∷ []) → IsUnderWay steps rounds (suc done) (h ++ n ∷ [])
    round-more round = record { early = h ++ n ∷ []; part = []; whole = sym (append-nil (h ++ n ∷ [])); rounds_done = (way.early, way.part ++ n ∷ [], one-more, round, way.rounds_done); within = λ m. omega arith; unfinished = λ l. (n, (omega arith)); most = omega arith; over = λ e. refl }
