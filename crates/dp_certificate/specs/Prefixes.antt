-- Fit prefixes of sequences, where each leads, and the keys that they reach.
use Rattle.std.specs.Prelude.{ℕ, ◌+◌, List, [], ◌∷◌, slice_index, slice_set, slice_get, Contains, Option, Some, IfSome}
use Rattle.std.specs.Result.{result_ok}
use Rattle.switch_rules.specs.Serving.{serving}
use Rattle.switch_rules.specs.declared.Head.{Head}
use Rattle.schedule_meaning.specs.Instances.{Problem, list_at}
use Rattle.foundation.specs.Options.{◌>>=◌}

-- where a prefix leads: how many clusters of each of four phases are served, the head, and the delay so far
pub record Stage : Type 0 where
  pub counts : List ℕ
  pub head : Head
  pub delay : ℕ

-- the counts with one more of phase k
abbrev pub one_more : List ℕ → ℕ → List ℕ
one_more counts k = slice_set counts k (slice_index counts k + 1)

-- the next cluster of phase k is served: none where none is left, or where the serving is unfit
abbrev pub stage_after : Problem → Stage → ℕ → Option Stage
stage_after p s k = do
  cluster ← slice_get (list_at p.lists k) (slice_index s.counts k)
  served ← result_ok (serving p.plan s.head k cluster)
  Some (record { counts = one_more s.counts k; head = served.1; delay = s.delay + served.0.cost })

-- one phase after another serves its next cluster
abbrev pub stage_from : Problem → Stage → List ℕ → Option Stage
stage_from p s [] = Some s
stage_from p s (k ∷ ks) = do
  next ← stage_after p s k
  stage_from p next ks

-- nothing is served yet
abbrev pub first_stage : Problem → Stage
first_stage p = record { counts = 0 ∷ 0 ∷ 0 ∷ 0 ∷ []; head = p.head; delay = 0 }

-- where a prefix leads; none where a phase of it has no cluster left or a serving is unfit: where it is no fit prefix
abbrev pub stage_of : Problem → List ℕ → Option Stage
stage_of p prefix = stage_from p (first_stage p) prefix

-- what of a stage decides how it can go on
pub record Key : Type 0 where
  pub counts : List ℕ
  pub phase : ℕ
  pub since : ℕ
  pub at : ℕ

abbrev pub key_of : Stage → Key
key_of s = record { counts = s.counts; phase = s.head.phase; since = s.head.since; at = s.head.at }

-- the list has the key of every fit prefix
abbrev pub HasAllKeys : Problem → List Key → Type 0
HasAllKeys p keys = (prefix : List ℕ) → IfSome (stage_of p prefix) (λ s. Contains keys (key_of s))
