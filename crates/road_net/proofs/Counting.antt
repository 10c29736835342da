-- How often links are named.
use Rattle.std.proofs.Common.{◌≡◌, ℕ, zero, suc, ◌+◌, ◌<◌, ◌≤◌, ◌==◌, List, length, get_or, set, take, refl, ap, ◌∙◌, sym, inl, inr, arith, eq-eqb, ne_eqb, length-take}
use Rattle.std.specs.Prelude.{replicate}
use Rattle.std.proofs.lemmas.Bool.{cases_eq, cases_lt}
use Rattle.std.proofs.lemmas.List.{get_or-set_same, get_or-set_other, get_or_past, length-set, length-replicate, take_all}
use Rattle.std.proofs.lemmas.List.Sums.{count_by-le-length, count_by_more_yes, count_by_more_no}
use Rattle.road_net.specs.Stored.{AreTimes}

zeros : (k l : ℕ) → get_or {A = ℕ} (replicate k 0) l 0 ≡ 0
zeros zero l = refl
zeros (suc k) zero = refl
zeros (suc k) (suc l) = zeros k l

module _ (named : List ℕ) (links : ℕ) where
  -- none so far
  pub times-none : (times : List ℕ) → times ≡ replicate links 0 → AreTimes (take 0 named) links times
  times-none times none = rw none (record { count = length-replicate links (let z : ℕ = 0 in z); each = λ l inside. zeros links l })

  -- no count is above the number of those so far
  pub times-few : (i : ℕ) (times : List ℕ) → AreTimes (take i named) links times → (l : ℕ) → get_or times l 0 ≤ i
  times-few i times are l = elim (cases_lt l links) [
    | inl inside ↦ omega (arith, are.each l inside, count_by-le-length (λ m. m == l) (take i named), length-take i named)
    | inr past ↦ omega (arith, get_or_past times l 0 (omega (arith, past, are.count)))
  ]

  -- one more
  pub times-more : (i d : ℕ) (times new : List ℕ) → i < length named → AreTimes (take i named) links times → new ≡ set times (get_or named i d) (get_or times (get_or named i d) 0 + 1) → AreTimes (take (i + 1) named) links new
  times-more i d times new inside are is = rw is (record {
    count = length-set times (get_or named i d) (get_or times (get_or named i d) 0 + 1) ∙ are.count;
    each = λ l there. elim (cases_eq (get_or named i d) l) [
      | inl e ↦ (
          ap (λ k. get_or (set times k (get_or times k 0 + 1)) l 0) e
          ∙ get_or-set_same times l (get_or times l 0 + 1) 0 (omega (arith, there, are.count))
          ∙ ap (λ k. k + 1) (are.each l there)
          ∙ sym (count_by_more_yes (λ m. m == l) named i d inside (eq-eqb (get_or named i d) l e)))
      | inr other ↦ (
          get_or-set_other times (get_or named i d) l (get_or times (get_or named i d) 0 + 1) 0 (λ f. other (sym f))
          ∙ are.each l there
          ∙ sym (count_by_more_no (λ m. m == l) named i d inside (ne_eqb (get_or named i d) l other)))
    ];
  })

  -- all of them
  pub times-all : (i : ℕ) (times : List ℕ) → (i < length named → ⊥) → AreTimes (take i named) links times → AreTimes named links times
  times-all i times past are = rw (take_all i named (elim (cases_lt i (length named)) [ inl less ↦ absurd (past less) | inr over ↦ over ])) at are
