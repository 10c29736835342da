use Rattle.std.proofs.Common.{◌≡◌, ℕ, ◌+◌, ◌-◌, ◌<◌, ◌≤◌, List, ap, sym, subst, ◌∙◌, inl, inr, arith, length, get_or}
use Rattle.std.proofs.lemmas.Bool.{cases_lt}
use Rattle.histories.specs.Progress.{HasCome}
use Rattle.histories.specs.contracts.progress.Progress.{the_view}
use Rattle.histories.proofs.HowFar.{come-round, come-step, come-stuck, come-turn, counted, fewer}
use Rattle.histories.proofs.progress.Progress.take.Goals as goal

under : (done rounds : ℕ) → done ≤ rounds → (done ≡ rounds → ⊥) → done < rounds
under done rounds most other = elim (cases_lt done rounds) [ inl less ↦ less | inr more ↦ absurd (other (omega (arith, more, most))) ]

-- the count of a node among those of a slice
of_node : (count n : ℕ) (slice left : List ℕ) → count ≡ get_or slice n 0 → slice ≡ left → count ≡ get_or left n 0
of_node count n slice left is same = is ∙ ap (λ counts. get_or counts n 0) same

has_some : (count n : ℕ) (slice left : List ℕ) → count ≡ get_or slice n 0 → slice ≡ left → (count ≡ 0 → ⊥) → 0 < get_or left n 0
has_some count n slice left is same some = elim (cases_lt 0 count) [ inl more ↦ subst (λ k. 0 < k) (of_node count n slice left is same) more | inr none ↦ absurd (some (omega (arith, none))) ]

pub returns-then-self-clause-stuck : goal.returns-then-self-clause-stuck
returns-then-self-clause-stuck c = λ net h come.
    come-stuck net h (the_view c.self.inside) (subst (HasCome net h) (sym c.self.view_is) come) c.args.node (inl c.if-self.true)

pub returns-then-count_at-eq0-clause-first : goal.returns-then-count_at-eq0-clause-first
returns-then-count_at-eq0-clause-first c = λ net h come.
    let none : get_or c.self.inside.left.items c.args.node 0 ≡ 0 = sym (of_node c.count_at.result c.args.node _ _ c.count_at.ensures c.as_slice.ensures.value) ∙ c.if-count_at-eq0.true in
    come-turn net h (the_view c.self.inside) (subst (HasCome net h) (sym c.self.view_is) come) c.args.node (under c.self.inside.done c.self.inside.rounds c.self.invariant.most c.if-self.false) none

pub returns-then-count_at-eq0-clause-stuck : goal.returns-then-count_at-eq0-clause-stuck
returns-then-count_at-eq0-clause-stuck c = λ net h come.
    let none : get_or c.self.inside.left.items c.args.node 0 ≡ 0 = sym (of_node c.count_at.result c.args.node _ _ c.count_at.ensures c.as_slice.ensures.value) ∙ c.if-count_at-eq0.true in
    come-stuck net h (the_view c.self.inside) (subst (HasCome net h) (sym c.self.view_is) come) c.args.node (inr none)

pub returns-then-self-eq0-clause-ok : goal.returns-then-self-eq0-clause-ok
returns-then-self-eq0-clause-ok c = λ net h come.
    let n : ℕ = c.args.node in
    let left : List ℕ = c.self.inside.left.items in
    let some : 0 < get_or left n 0 = has_some _ n _ left c.count_at.ensures c.as_slice.ensures.value c.if-count_at-eq0.false in
    let own : (get_or left n 0 - 1) + 1 ≡ get_or left n 0 = omega (arith, some) in
    let inside : n < length left = counted left n some in
    come-round net h (the_view c.self.inside) (subst (HasCome net h) (sym c.self.view_is) come) n (get_or left n 0 - 1) (under c.self.inside.done c.self.inside.rounds c.self.invariant.most c.if-self.false) inside own
    c.copy_counts.new.counts.items (c.copy_counts.ensures ∙ c.as_slice-then-self-eq0.ensures.value)
    (omega (arith, fewer left n (get_or left n 0 - 1) c.self.inside.whole_left inside own c.self.invariant.all_left, c.if-self-eq0.true))

pub returns-else-self-eq0-clause-ok : goal.returns-else-self-eq0-clause-ok
returns-else-self-eq0-clause-ok c = λ net h come.
    let n : ℕ = c.args.node in
    let left : List ℕ = c.self.inside.left.items in
    let some : 0 < get_or left n 0 = has_some _ n _ left c.count_at.ensures c.as_slice.ensures.value c.if-count_at-eq0.false in
    let own : (get_or left n 0 - 1) + 1 ≡ get_or left n 0 = omega (arith, some) in
    let inside : n < length left = counted left n some in
    let all = fewer left n (get_or left n 0 - 1) c.self.inside.whole_left inside own c.self.invariant.all_left in
    come-step net h (the_view c.self.inside) (subst (HasCome net h) (sym c.self.view_is) come) n (get_or left n 0 - 1) (under c.self.inside.done c.self.inside.rounds c.self.invariant.most c.if-self.false) inside own
    c.take_one.new.counts.items c.take_one.ensures
    (elim (cases_lt 0 (c.self.inside.whole_left - 1)) [ inl more ↦ omega (arith, more, all) | inr none ↦ absurd (c.if-self-eq0.false (omega (arith, none))) ])
