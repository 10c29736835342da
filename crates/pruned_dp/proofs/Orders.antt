-- The sequence in order of arrival: how it is found, that there is one alone, and that its delay is a limit.
use Rattle.std.proofs.Common.{◌≡◌, ℕ, zero, suc, ◌+◌, ◌-◌, ◌*◌, ◌<◌, ◌≤◌, List, [], ◌∷◌, ◌++◌, length, map, sum, get_or, Contains, Option, Some, None, IfSome, refl, sym, ap, subst, ◌∙◌, inl, inr, length-set, arith}
use Rattle.std.proofs.lemmas.Bool.{cases_lt}
use Rattle.std.proofs.lemmas.List.{append-nil, append_assoc, get_or-map, get_or_past, length-map}
use Rattle.switch_rules.specs.Arriving.{ComesFirst}
use Rattle.switch_rules.proofs.Arriving.{one-first}
use Rattle.schedule_meaning.specs.Instances.{Problem, IsInstance, counts_of, list_at}
use Rattle.schedule_meaning.specs.Timing.{delay_of}
use Rattle.schedule_meaning.proofs.Sequences.{get_or-counts}
use Rattle.dp_certificate.specs.Limits.{HasKeysWithin, IsWithin}
use Rattle.dp_certificate.specs.Prefixes.{first_stage, key_of, one_more, stage_of}
use Rattle.dp_certificate.specs.Proves.{HasEntry, key_of_entry}
use Rattle.dp_certificate.specs.declared.Entry.{Entry}
use Rattle.dp_certificate.proofs.RestLaws.{arrives-later}
use Rattle.dp_certificate.proofs.Stages.{more-other, more-same, more-within, none-counted, sum-one_more}
use Rattle.forward_dp.proofs.Bounds.{sum-le}
use Rattle.pruned_dp.specs.Arrivals.{ComesNext, GoesByArrival, IsArrivalDelay, IsByArrival, arrival}
use Rattle.pruned_dp.specs.Bounded.{IsBounded}
use Rattle.pruned_dp.specs.Firsts.{IsFirstAmong}

-- ---- the next cluster

-- a phase that has a cluster is one of the plan
listed : (p : Problem) → IsInstance p → (k n : ℕ) → n < length (list_at p.lists k) → k < length p.plan
listed p lawful k n some = elim (cases_lt k (length p.lists)) [
  | inl inside ↦ omega (arith, inside, lawful.lists)
  | inr past ↦ absurd (omega (arith, some, ap length (get_or_past p.lists k [] past)))
]

no-later-on : (arr k other later j : ℕ) → ComesFirst arr k other j → other ≤ later → ComesFirst arr k later j
no-later-on arr k other later j (inl h) on = inl (omega arith)
no-later-on arr k other later j (inr h) on = elim (cases_lt other later) [ inl more ↦ inl (omega (arith, h.0, more)) | inr same ↦ inr (omega (arith, h.0, on, same), h.1) ]

-- what comes first of the next clusters comes before all that are left
pub comes-next : (p : Problem) → IsInstance p → (counts : List ℕ) (first : ℕ × ℕ) → IsFirstAmong p counts (length p.plan) first → ComesNext p counts first.1
comes-next p lawful counts first is = record {
  some = is.some;
  first = λ j place from inside.
      let phase : j < length p.plan = listed p lawful j place inside in
      let spaced = lawful.spaced j [] (omega (arith, phase, lawful.lists)) in
      subst (λ n. ComesFirst n first.1 (arrival p j place) j) is.arr
      (no-later-on first.0 first.1 (arrival p j (get_or counts j 0)) (arrival p j place) j (is.comes j phase (omega (arith, from, inside))) (arrives-later (list_at p.lists j) spaced (get_or counts j 0) place from inside));
}

-- none is left
pub none-left : (p : Problem) → IsInstance p → (counts : List ℕ) → ((k : ℕ) → k < length p.plan → length (list_at p.lists k) ≤ get_or counts k 0) → GoesByArrival p counts []
none-left p lawful counts none k = elim (cases_lt k (length p.plan)) [
  | inl inside ↦ none k inside
  | inr past ↦ omega (arith, ap length (get_or_past p.lists k [] (omega (arith, past, lawful.lists))))
]

-- one more of it is within the lists
pub next-within : (p : Problem) → IsInstance p → (counts : List ℕ) (k : ℕ) → length counts ≡ 4 → ComesNext p counts k → ((j : ℕ) → get_or counts j 0 ≤ length (list_at p.lists j)) → (j : ℕ) → get_or (one_more counts k) j 0 ≤ length (list_at p.lists j)
next-within p lawful counts k places next within =
    more-within p counts k (omega (arith, places, listed p lawful k (get_or counts k 0) next.some, lawful.plan.count.1)) next.some within

-- how many are left
abbrev pub left_over : Problem → List ℕ → ℕ
left_over p counts = (length (list_at p.lists 0) - get_or counts 0 0) + (length (list_at p.lists 1) - get_or counts 1 0) + (length (list_at p.lists 2) - get_or counts 2 0) + (length (list_at p.lists 3) - get_or counts 3 0)

less-left : (p : Problem) (counts : List ℕ) (k : ℕ) → length counts ≡ 4 → k < 4 → get_or counts k 0 < length (list_at p.lists k) → left_over p (one_more counts k) < left_over p counts
less-left p counts zero places h some = omega (arith, some, more-same counts 0 (omega arith), more-other counts 0 1 (λ e. omega arith), more-other counts 0 2 (λ e. omega arith), more-other counts 0 3 (λ e. omega arith))
less-left p counts (suc zero) places h some = omega (arith, some, more-same counts 1 (omega arith), more-other counts 1 0 (λ e. omega arith), more-other counts 1 2 (λ e. omega arith), more-other counts 1 3 (λ e. omega arith))
less-left p counts (suc (suc zero)) places h some = omega (arith, some, more-same counts 2 (omega arith), more-other counts 2 0 (λ e. omega arith), more-other counts 2 1 (λ e. omega arith), more-other counts 2 3 (λ e. omega arith))
less-left p counts (suc (suc (suc zero))) places h some = omega (arith, some, more-same counts 3 (omega arith), more-other counts 3 0 (λ e. omega arith), more-other counts 3 1 (λ e. omega arith), more-other counts 3 2 (λ e. omega arith))
less-left p counts (suc (suc (suc (suc k)))) places h some = absurd (omega arith)

pub next-left : (p : Problem) → IsInstance p → (counts : List ℕ) (k : ℕ) → length counts ≡ 4 → ComesNext p counts k → left_over p (one_more counts k) < left_over p counts
next-left p lawful counts k places next = less-left p counts k places (omega (arith, listed p lawful k (get_or counts k 0) next.some, lawful.plan.count.1)) next.some

-- ---- the sequence

-- the sequence so far goes on as what is left does
abbrev pub GoesOn : Problem → List ℕ → List ℕ → Type 0
GoesOn p counts sequence = (rest : List ℕ) → GoesByArrival p counts rest → IsByArrival p (sequence ++ rest)

pub goes-start : (p : Problem) → GoesOn p (first_stage p).counts []
goes-start p rest h = h

pub goes-more : (p : Problem) (counts sequence : List ℕ) (k : ℕ) → GoesOn p counts sequence → ComesNext p counts k → GoesOn p (one_more counts k) (sequence ++ k ∷ [])
goes-more p counts sequence k on next rest h = subst (IsByArrival p) (sym (append_assoc sequence (k ∷ []) rest)) (on (k ∷ rest) (next, h))

pub goes-end : (p : Problem) (counts sequence : List ℕ) → GoesOn p counts sequence → GoesByArrival p counts [] → IsByArrival p sequence
goes-end p counts sequence on none = subst (IsByArrival p) (append-nil sequence) (on [] none)

-- it has as many places as there are clusters
goes-long : (p : Problem) → IsInstance p → (sequence counts : List ℕ) → length counts ≡ 4 → ((k : ℕ) → get_or counts k 0 ≤ length (list_at p.lists k)) → GoesByArrival p counts sequence → length sequence + sum counts ≡ sum (counts_of p.lists)
goes-long p lawful [] counts places within none =
    let up : sum counts ≤ sum (counts_of p.lists) = sum-le counts (counts_of p.lists) (λ k. omega (arith, within k, get_or-counts p.lists k)) in
    let down : sum (counts_of p.lists) ≤ sum counts = sum-le (counts_of p.lists) counts (λ k. omega (arith, none k, get_or-counts p.lists k)) in
    omega (arith, up, down)
goes-long p lawful (k ∷ sequence) counts places within goes =
    let place : k < length counts = omega (arith, places, listed p lawful k (get_or counts k 0) goes.0.some, lawful.plan.count.1) in
    let later = goes-long p lawful sequence (one_more counts k) (length-set counts k (get_or counts k 0 + 1) ∙ places) (next-within p lawful counts k places goes.0 within) goes.1 in
    omega (arith, later, sum-one_more counts k place)

pub arrival-long : (p : Problem) → IsInstance p → (sequence : List ℕ) → IsByArrival p sequence → length sequence ≡ sum (counts_of p.lists)
arrival-long p lawful sequence order =
    let all = goes-long p lawful sequence (first_stage p).counts refl (λ k. omega (arith, none-counted k)) order in
    omega (arith, all)

-- and there is one alone
one-next : (p : Problem) (counts : List ℕ) (k j : ℕ) → ComesNext p counts k → ComesNext p counts j → k ≡ j
one-next p counts k j a b = one-first (arrival p k (get_or counts k 0)) k (arrival p j (get_or counts j 0)) j (a.first j (get_or counts j 0) (omega arith) b.some) (b.first k (get_or counts k 0) (omega arith) a.some)

one-order : (p : Problem) (s t counts : List ℕ) → GoesByArrival p counts s → GoesByArrival p counts t → s ≡ t
one-order p [] [] counts a b = refl
one-order p [] (k ∷ t) counts a b = absurd (let some = b.0.some in omega (arith, a k, some))
one-order p (k ∷ s) [] counts a b = absurd (let some = a.0.some in omega (arith, b k, some))
one-order p (k ∷ s) (j ∷ t) counts a b =
    let same : k ≡ j = one-next p counts k j a.0 b.0 in
    ap (λ xs. k ∷ xs) (one-order p s t (one_more counts k) a.1 (subst (λ i. GoesByArrival p (one_more counts i) t) (sym same) b.1)) ∙ ap (λ i. i ∷ t) same

-- ---- its delay

if-some : {X : Type 0} (P : X → Type 0) (o : Option X) (x : X) → o ≡ Some x → IfSome o P → P x
if-some P o x e h = subst (λ o. IfSome o P) e h

if-each : {X : Type 0} (P : X → Type 0) (o : Option X) → ((x : X) → o ≡ Some x → P x) → IfSome o P
if-each P None h = tt
if-each P (Some x) h = h x refl

-- the bounded table has the key of each fit prefix that is within the limit
pub bounded-keys : (p : Problem) (limit : Option ℕ) (entries : List Entry) → IsArrivalDelay p limit → IsBounded p entries → HasKeysWithin p limit (map key_of_entry entries)
bounded-keys p limit entries delay bounded u =
    let one : bounded.delay.sequence ≡ delay.sequence = one-order p bounded.delay.sequence delay.sequence (first_stage p).counts bounded.delay.order delay.order in
    let same : bounded.limit ≡ limit = bounded.delay.delay ∙ ap (delay_of p) one ∙ sym delay.delay in
    if-each (λ s. IsWithin p limit s → Contains (map key_of_entry entries) (key_of s)) (stage_of p u) (λ s e within.
    let has = if-some (λ s. IsWithin p bounded.limit s → HasEntry entries (key_of s) s.delay) (stage_of p u) s e (bounded.table.all u) (subst (λ o. IsWithin p o s) (sym same) within) in
    let k = has.among.0 in
    (k, omega (arith, has.among.1, length-map entries key_of_entry), get_or-map key_of_entry entries k has.entry (key_of s) has.among.1 ∙ ap key_of_entry has.among.2 ∙ has.key_is))

-- the steps of it all
pub all-steps : (start middle steps clusters phases keys entries : ℕ) → middle ≤ start + clusters → steps ≤ middle + phases * keys → keys ≡ entries → steps ≤ start + phases * entries + clusters
all-steps start middle steps clusters phases keys entries a b e = omega (arith, a, b, ap (λ n. phases * n) e)
