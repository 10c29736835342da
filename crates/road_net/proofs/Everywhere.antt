-- The parts of a split over all links of a network.
use Rattle.std.proofs.Common.{◌≡◌, ◌≢◌, ℕ, zero, suc, ◌+◌, ◌*◌, ◌<◌, ◌≤◌, eqb, cond, List, length, get_or, take, sum_by, Option, Some, None, IsSome, All, AllPairs, refl, sym, ap, ◌∙◌, subst, inl, inr, add-one, arith}
use Rattle.std.proofs.lemmas.Bool.{false≢true}
use Rattle.std.proofs.lemmas.Bool.Decides.{eqb_tells}
use Rattle.std.proofs.lemmas.List.{take_all}
use Rattle.std.proofs.lemmas.List.Sums.{sum_by_more, get_or-le-sum_by}
use Rattle.net_parts.specs.declared.roads.Link.{Link}
use Rattle.net_parts.specs.declared.roads.Turn.{Turn}
use Rattle.net_parts.specs.Outline.{AreTurns}
use Rattle.road_net.specs.Joins.{split_of, HasShares}
use Rattle.road_net.specs.Totals.{total}
use Rattle.road_net.proofs.Shares.{split-none, parts_of_link}
use Rattle.road_net.proofs.TotalLaws.{total-same, total-add, total-zero, total-only, only_at}

-- 1 where the turn leads to the exit
abbrev leads : ℕ → Turn → ℕ
leads e t = cond (eqb t.exit e) 1 0

leads-here : (e : ℕ) (t : Turn) → t.exit ≡ e → leads e t ≡ 1
leads-here e t same = elim (eqb_tells t.exit e) [ inl p ↦ rw p.0 refl | inr q ↦ absurd (q.1 same) ]

leads-other : (e : ℕ) (t : Turn) → t.exit ≢ e → leads e t ≡ 0
leads-other e t other = elim (eqb_tells t.exit e) [ inl p ↦ absurd (other p.1) | inr q ↦ rw q.0 refl ]

times-leads : (e : ℕ) (g : ℕ → ℕ) (t : Turn) → leads e t * g e ≡ only_at t.exit g e
times-leads e g t = elim (eqb_tells t.exit e) [ inl p ↦ rw p.0 (omega arith) | inr q ↦ rw q.0 (omega arith) ]

module _ (turns : List Turn) (d : Turn) where
  -- how many of the first k turns lead to an exit
  abbrev found : ℕ → ℕ → ℕ
  found k e = sum_by (leads e) (take k turns)

  found-none : (e k : ℕ) → k ≤ length turns → ((j : ℕ) → j < k → (get_or turns j d).exit ≢ e) → found k e ≡ 0
  found-none e zero h none = refl
  found-none e (suc k) h none =
      let more = subst (λ n. found n e ≡ found k e + leads e (get_or turns k d)) (add-one k) (sum_by_more (leads e) turns k d (omega arith)) in
      omega (arith, more, found-none e k (omega arith) (λ j b. none j (omega arith)), leads-other e (get_or turns k d) (none k (omega arith)))

  module _ (differ : AllPairs (λ s t. s.exit ≢ t.exit) turns) where
    -- no exit is led to twice
    found-once : (e k : ℕ) → k ≤ length turns → found k e ≤ 1
    found-once e zero h = omega arith
    found-once e (suc k) h =
        let more = subst (λ n. found n e ≡ found k e + leads e (get_or turns k d)) (add-one k) (sum_by_more (leads e) turns k d (omega arith)) in
        elim (eqb_tells (get_or turns k d).exit e) [
          | inl p ↦
              let none = found-none e k (omega arith) (λ j b same. differ j k d b (omega arith) (same ∙ sym p.1)) in
              omega (arith, more, none, leads-here e (get_or turns k d) p.1)
          | inr q ↦ omega (arith, more, found-once e k (omega arith), leads-other e (get_or turns k d) q.1)
        ]

    -- over all exits, the values at those of the first k turns are summed once each
    counted : (g : ℕ → ℕ) (n : ℕ) → All (λ t. t.exit < n) turns → (k : ℕ) → k ≤ length turns → total (λ e. found k e * g e) n ≡ sum_by (λ t. g t.exit) (take k turns)
    counted g n within zero h = total-same (λ e. 0 * g e) (λ e. 0) n (λ i b. omega arith) ∙ total-zero n
    counted g n within (suc k) h =
        let t : Turn = get_or turns k d in
        let more : (e : ℕ) → found (suc k) e ≡ found k e + leads e t = λ e. subst (λ n. found n e ≡ found k e + leads e t) (add-one k) (sum_by_more (leads e) turns k d (omega arith)) in
        let split = total-same (λ e. found (suc k) e * g e) (λ e. found k e * g e + only_at t.exit g e) n (λ e b. rw (more e) (omega (arith, times-leads e g t))) in
        let last = subst (λ n. sum_by (λ t. g t.exit) (take n turns) ≡ sum_by (λ t. g t.exit) (take k turns) + g t.exit) (add-one k) (sum_by_more (λ t. g t.exit) turns k d (omega arith)) in
        omega (arith, split, total-add (λ e. found k e * g e) (only_at t.exit g) n, counted g n within k (omega arith), total-only t.exit g n (within k d (omega arith)), last)

    -- a value that is 0 where no turn leads is summed over the turns alone
    pub total-over : (g : ℕ → ℕ) (n : ℕ) → All (λ t. t.exit < n) turns → ((e : ℕ) → ((j : ℕ) → j < length turns → (get_or turns j d).exit ≢ e) → g e ≡ 0) → total g n ≡ sum_by (λ t. g t.exit) turns
    total-over g n within nothing =
        let whole : take (length turns) turns ≡ turns = take_all (length turns) turns (omega arith) in
        total-same g (λ e. found (length turns) e * g e) n (λ e b. once e (found (length turns) e) refl) ∙ counted g n within (length turns) (omega arith) ∙ ap (λ ts. sum_by (λ t. g t.exit) ts) whole
      where
        once : (e m : ℕ) → found (length turns) e ≡ m → g e ≡ found (length turns) e * g e
        once e zero none =
            let at : sum_by (leads e) turns ≡ 0 = ap (sum_by (leads e)) (sym (take_all (length turns) turns (omega arith))) ∙ none in
            let zero_there : g e ≡ 0 = nothing e (λ j b same. absurd (omega (arith, at, get_or-le-sum_by (leads e) turns j d b, leads-here e (get_or turns j d) same))) in
            rw (none, zero_there) refl
        once e (suc m) some =
            let one : found (length turns) e ≡ 1 = omega (arith, found-once e (length turns) (omega arith)) in
            rw one (omega arith)

-- the parts of a link that ends at a node, over all links, are the whole amount
pub everywhere : (links : List Link) (turns : List Turn) (count amount : ℕ) (to : Option ℕ) → AreTurns count turns → HasShares links turns to → IsSome to → total (split_of turns amount) count ≡ amount
everywhere links turns count amount None bounds shares some = absurd (false≢true some)
everywhere links turns count amount (Some node) bounds shares some =
    let d : Turn = record { exit = 0; share = 0 } in
    total-over turns d shares.differ (split_of turns amount) count bounds.exits (λ e none. split-none turns amount e d none) ∙ parts_of_link links turns amount (Some node) shares some
