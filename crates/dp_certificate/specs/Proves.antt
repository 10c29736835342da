-- When the entries of a certificate prove its answer.
use Rattle.std.specs.Prelude.{◌≡◌, ℕ, ◌+◌, ◌-◌, ◌*◌, ◌≤◌, ◌⊎◌, ◌&&◌, ◌==◌, List, length, drop, sum, sum_by, All, slice_index, Contains, Some, IfSome}
use Rattle.std.specs.List.{range_with_len}
use Rattle.switch_rules.specs.declared.Cluster.{Cluster}
use Rattle.schedule_meaning.specs.Instances.{Problem, list_at}
use Rattle.schedule_meaning.specs.Timing.{delay_of}
use Rattle.schedule_meaning.specs.declared.planners.Answer.{Answer}
use Rattle.schedule_meaning.specs.declared.planners.Answer.TheVariants.{Plan, NoPlan}
use Rattle.dp_certificate.specs.Prefixes.{Stage, Key, key_of, first_stage, stage_after}
use Rattle.dp_certificate.specs.Certificates.{Claim, head_of}
use Rattle.dp_certificate.specs.declared.Entry.{Entry}

-- the key of an entry
abbrev pub key_of_entry : Entry → Key
key_of_entry e = record { counts = e.counts; phase = e.phase; since = e.since; at = e.at }

-- the stage that an entry stands for: its head is fresh only at the first stage's key, and there as the instance's is
abbrev pub stage_of_entry : Problem → Entry → Stage
stage_of_entry p e =
    record {
      counts = e.counts;
      head = head_of e
          ((sum e.counts == 0) && (e.phase == p.head.phase) && (e.since == p.head.since) &&
          (e.at == p.head.at) && p.head.fresh);
      delay = e.delay;
    }

-- what one cluster costs that waits until t
abbrev pub wait_until : ℕ → Cluster → ℕ
wait_until t c = c.load * (t - c.arr)

-- what the clusters that are not yet served cost at the least, when the green is free at t: each waits until then
abbrev pub rest_of : Problem → List ℕ → ℕ → ℕ
rest_of p counts t =
    sum_by (λ k. sum_by (wait_until t) (drop (slice_index counts k) (list_at p.lists k)))
    (range_with_len 0 (length p.lists))

-- the claimed plan is feasible and has the claimed delay
abbrev pub IsPlanned : Problem → Answer → Type 0
IsPlanned p (Plan sequence delay) = delay_of p sequence ≡ Some delay
IsPlanned p NoPlan = Unit {0}

-- an entry has this key and at most this delay
pub record HasEntry (entries : List Entry) (key : Key) (most : ℕ) : Type 0 where
  pub entry : Entry
  pub among : Contains entries entry
  pub key_is : key_of_entry entry ≡ key
  pub delay : entry.delay ≤ most

-- the first stage is an entry, with no delay
abbrev pub HasRoot : Claim → Type 0
HasRoot c = HasEntry c.entries (key_of (first_stage c.problem)) 0

-- no completion of a stage undercuts the claimed delay, since the clusters that are left already cost too much
abbrev pub IsTooDear : Problem → Answer → Stage → Type 0
IsTooDear p (Plan sequence claimed) s = claimed ≤ s.delay + rest_of p s.counts s.head.at
IsTooDear p NoPlan s = ⊥

-- what is served next after an entry by phase k is an entry again, of no more delay, or too dear
abbrev pub IsClosedAt : Claim → Entry → ℕ → Type 0
IsClosedAt c e k =
    IfSome (stage_after c.problem (stage_of_entry c.problem e) k)
    (λ s. HasEntry c.entries (key_of s) s.delay ⊎ IsTooDear c.problem c.answer s)

abbrev pub IsClosed : Claim → Entry → Type 0
IsClosed c e = (k : ℕ) → IsClosedAt c e k

-- an entry after which nothing is left does not undercut the claimed delay; with no plan there is none
abbrev pub IsNoCheaper : Answer → Entry → Type 0
IsNoCheaper (Plan sequence claimed) e = claimed ≤ e.delay
IsNoCheaper NoPlan e = ⊥

abbrev pub IsEnded : Claim → Entry → Type 0
IsEnded c e = ((k : ℕ) → slice_index e.counts k ≡ length (list_at c.problem.lists k)) → IsNoCheaper c.answer e

-- the entries prove the answer: the plan is what is claimed, the first stage is an entry, all that can be served next
-- after an entry is an entry again or too dear, and no entry at the end undercuts the claimed delay
pub record Proves (c : Claim) : Type 0 where
  pub planned : IsPlanned c.problem c.answer
  pub root : HasRoot c
  pub closed : All (IsClosed c) c.entries
  pub ended : All (IsEnded c) c.entries
