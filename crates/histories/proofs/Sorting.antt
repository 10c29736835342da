-- All logs have a merge.
use Rattle.std.proofs.Common.{◌≡◌, ℕ, List, [], ◌∷◌, map, refl, inl, inr, arith}
use Rattle.std.specs.Prelude.{◌⊎◌, AllPairs, IsPermutation}
use Rattle.std.proofs.lemmas.Bool.{cases_lt}
use Rattle.std.proofs.lemmas.List.Elements.{All-cons, All-nil, All-weaker}
use Rattle.std.proofs.lemmas.List.Kept.{AllPairs-cons}
use Rattle.std.proofs.lemmas.List.Sorted.{All-permutation, IsPermutation-cons, IsPermutation-insert, IsPermutation-refl, IsPermutation-trans}
use Rattle.board_model.specs.declared.boards.BoardEvent.{BoardEvent}
use Rattle.board_model.specs.Boards.{Log}
use Rattle.board_model.specs.Calls.{IsBefore}
use Rattle.histories.specs.Merges.{IsMerge, all_events, stamp_and_node}
use Rattle.histories.proofs.Lists.{pairs-head, pairs-nil, pairs-tail}
use Rattle.histories.proofs.Ordered.{trans}

-- of two events one is before the other
before-or : (a b : BoardEvent) → IsBefore a b ⊎ IsBefore b a
before-or a b = elim (cases_lt a.stamp b.stamp) [
  | inl less ↦ inl (inl less)
  | inr not ↦ elim (cases_lt b.stamp a.stamp) [
    | inl less ↦ inr (inl less)
    | inr least ↦
        let same : b.stamp ≡ a.stamp = omega arith in
        let alike : a.stamp ≡ b.stamp = omega arith in
        elim (cases_lt b.node a.node) [
          | inl less ↦ inr (inr (same, omega arith))
          | inr fine ↦ inl (inr (alike, fine))
        ]
  ]
]

-- these events, in order
record HasOrder (events : List BoardEvent) : Type 0 where
  order : List BoardEvent
  all : IsPermutation events order
  ordered : AllPairs IsBefore order

-- one more event, put in its place
put-in : (x : BoardEvent) (ys : List BoardEvent) → AllPairs IsBefore ys → HasOrder (x ∷ ys)
put-in x [] ordered = record {
  order = x ∷ [];
  all = IsPermutation-refl (x ∷ []);
  ordered = AllPairs-cons IsBefore x [] (All-nil (IsBefore x)) (pairs-nil IsBefore);
}
put-in x (y ∷ ys) ordered = elim (before-or x y) [
  | inl first ↦ record {
    order = x ∷ y ∷ ys;
    all = IsPermutation-refl (x ∷ y ∷ ys);
    ordered = AllPairs-cons IsBefore x (y ∷ ys) (All-cons (IsBefore x) y ys first (All-weaker (IsBefore y) (IsBefore x) (λ z. trans (stamp_and_node x) (stamp_and_node y) (stamp_and_node z) first) ys (pairs-head IsBefore y ys ordered))) ordered;
  }
  | inr later ↦
      let rest = put-in x ys (pairs-tail IsBefore y ys ordered) in
      record {
        order = y ∷ rest.order;
        all = IsPermutation-trans (x ∷ y ∷ ys) (y ∷ x ∷ ys) (y ∷ rest.order) (IsPermutation-insert (y ∷ ys) 1 x) (IsPermutation-cons y (x ∷ ys) rest.order rest.all);
        ordered = AllPairs-cons IsBefore y rest.order (All-permutation (IsBefore y) (x ∷ ys) rest.order rest.all (All-cons (IsBefore y) x ys later (pairs-head IsBefore y ys ordered))) rest.ordered;
      }
]

-- all events, put in order
put-all : (events : List BoardEvent) → HasOrder events
put-all [] = record { order = []; all = IsPermutation-refl []; ordered = pairs-nil IsBefore }
put-all (x ∷ xs) =
    let rest = put-all xs in
    let all = put-in x rest.order rest.ordered in
    record {
      order = all.order;
      all = IsPermutation-trans (x ∷ xs) (x ∷ rest.order) all.order (IsPermutation-cons x xs rest.order rest.all) all.all;
      ordered = all.ordered;
    }

-- a history, and that it is the merge of logs
pub record HasMerge (logs : List Log) : Type 0 where
  pub history : List ℕ
  pub merge : IsMerge logs history

pub merge-of : (logs : List Log) → HasMerge logs
merge-of logs =
    let all = put-all (all_events logs) in
    record {
      history = map (λ (event : BoardEvent). event.node) all.order;
      merge = record { order = all.order; all = all.all; ordered = all.ordered; nodes = refl };
    }
