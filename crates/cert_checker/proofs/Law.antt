-- An accepted certificate proves the least delay.
use Rattle.std.proofs.Common.{◌≡◌, ℕ, ◌+◌, ◌≤◌, ◌==◌, Bool, true, false, List, [], ◌∷◌, length, sum, get_or, ◌⊎◌, Option, Some, None, IfSome, refl, sym, ap, subst, ◌∙◌, inl, inr, arith}
use Rattle.std.specs.List.{Contains}
use Rattle.std.proofs.lemmas.Bool.{ne_eqb, eq-eqb}
use Rattle.std.proofs.lemmas.List.Elements.{All-contains}
use Rattle.switch_rules.specs.declared.Head.{Head}
use Rattle.schedule_meaning.specs.Instances.{Problem, IsInstance, list_at}
use Rattle.schedule_meaning.specs.Timing.{delay_of}
use Rattle.schedule_meaning.specs.Best.{IsBest, IsLeast}
use Rattle.schedule_meaning.specs.declared.planners.Answer.{Answer}
use Rattle.schedule_meaning.specs.declared.planners.Answer.TheVariants.{Plan, NoPlan}
use Rattle.schedule_meaning.proofs.Choosing.{best-least}
use Rattle.schedule_meaning.proofs.Sequences.{none-unless}
use Rattle.std.proofs.lemmas.Option.{none-some}
use Rattle.dp_certificate.specs.Numbers.{answered_delay}
use Rattle.dp_certificate.specs.Prefixes.{Stage, Key, key_of, first_stage, stage_after, stage_from}
use Rattle.dp_certificate.specs.Certificates.{Claim, IsCertificate}
use Rattle.dp_certificate.specs.Proves.{HasEntry, HasRoot, IsClosed, IsClosedAt, IsEnded, IsNoCheaper, IsPlanned, IsTooDear, Proves, key_of_entry, rest_of, stage_of_entry}
use Rattle.dp_certificate.specs.declared.Entry.{Entry}
use Rattle.dp_certificate.proofs.Stages.{ends-delay, from-begins, some-same, stage-alike}
use Rattle.dp_certificate.proofs.RestLaws.{IsAllServed, rest-below, step-places, step-served, step-stale}

-- a delay that does not undercut the claimed one
abbrev pub IsNoLess : Answer → ℕ → Type 0
IsNoLess (Plan sequence claimed) delay = claimed ≤ delay
IsNoLess NoPlan delay = ⊥

no-less-than : (a : Answer) (n m : ℕ) → n ≤ m → IsNoLess a n → IsNoLess a m
no-less-than (Plan sequence claimed) n m h less = omega arith
no-less-than NoPlan n m h none = none

no-cheaper : (a : Answer) (e : Entry) → IsNoCheaper a e → IsNoLess a e.delay
no-cheaper (Plan sequence claimed) e h = h
no-cheaper NoPlan e h = h

too-dear : (p : Problem) (a : Answer) (s : Stage) → IsTooDear p a s → IsNoLess a (s.delay + rest_of p s.counts s.head.at)
too-dear p (Plan sequence claimed) s h = h
too-dear p NoPlan s h = h

-- heads with the same parts
same-head : (a b c : ℕ) (f : Bool) (h : Head) → a ≡ h.phase → b ≡ h.since → c ≡ h.at → f ≡ h.fresh → let x : Head = record { phase = a; since = b; at = c; fresh = f } in x ≡ h
same-head a b c f h ea eb ec ef = rw (ea, eb, ec, ef) refl

-- an entry stands for a stage: the same counts and head, and no more delay
record StandsFor (c : Claim) (s : Stage) : Type 0 where
  pub entry : Entry
  pub among : Contains c.entries entry
  pub counts : entry.counts ≡ s.counts
  pub head : (stage_of_entry c.problem entry).head ≡ s.head
  pub delay : entry.delay ≤ s.delay

-- the entry of a key stands for a stage with that key and no less delay, where the freshness is the same
stands : (c : Claim) (s : Stage) (n : ℕ) → HasEntry c.entries (key_of s) n → n ≤ s.delay → ((e : Entry) → key_of_entry e ≡ key_of s → (stage_of_entry c.problem e).head.fresh ≡ s.head.fresh) → StandsFor c s
stands c s n h less same =
    record {
      entry = h.entry;
      among = h.among;
      counts = ap (λ (k : Key). k.counts) h.key_is;
      head = same-head h.entry.phase h.entry.since h.entry.at (stage_of_entry c.problem h.entry).head.fresh s.head (ap (λ (k : Key). k.phase) h.key_is) (ap (λ (k : Key). k.since) h.key_is) (ap (λ (k : Key). k.at) h.key_is) (same h.entry h.key_is);
      delay = omega (arith, h.delay);
    }

-- the first stage has an entry
root-stands : (c : Claim) → HasRoot c → StandsFor c (first_stage c.problem)
root-stands c root = stands c (first_stage c.problem) 0 root (omega arith) (λ e same.
    let h = c.problem.head in
    let none : (sum e.counts == 0) ≡ true = eq-eqb (sum e.counts) 0 (ap (λ (k : Key). sum k.counts) same) in
    let phase : (e.phase == h.phase) ≡ true = eq-eqb e.phase h.phase (ap (λ (k : Key). k.phase) same) in
    let since : (e.since == h.since) ≡ true = eq-eqb e.since h.since (ap (λ (k : Key). k.since) same) in
    let at : (e.at == h.at) ≡ true = eq-eqb e.at h.at (ap (λ (k : Key). k.at) same) in
    rw none (rw phase (rw since (rw at refl))))

-- a stage after a step has an entry where its key has one
step-stands : (c : Claim) → IsInstance c.problem → (s t : Stage) (k n : ℕ) → length s.counts ≡ 4 → stage_after c.problem s k ≡ Some t → HasEntry c.entries (key_of t) n → n ≤ t.delay → StandsFor c t
step-stands c lawful s t k n places e h less = stands c t n h less (λ x same.
    let some : (sum x.counts == 0) ≡ false = ne_eqb (sum x.counts) 0 (λ z. omega (arith, ap (λ (y : Key). sum y.counts) same, step-served c.problem lawful s t k places e)) in
    rw some (sym (step-stale c.problem s t k e)))

-- where an entry stands for a stage, each step of the stage leads to one that an entry stands for, or that is too dear
data Goes (c : Claim) (t : Stage) : Type 0 where
  stays : StandsFor c t → Goes c t
  leaves : (n : ℕ) → IsNoLess c.answer n → n ≤ t.delay + rest_of c.problem t.counts t.head.at → Goes c t

-- the stage of an entry that stands for s, from the parts of s
abbrev from_entry : Stage → ℕ → Stage
from_entry s n = record { counts = s.counts; head = s.head; delay = n }

same-stage : (counts : List ℕ) (h : Head) (n : ℕ) (s : Stage) → counts ≡ s.counts → h ≡ s.head → let x : Stage = record { counts = counts; head = h; delay = n } in x ≡ from_entry s n
same-stage counts h n s ec eh = cc

goes : (c : Claim) → IsCertificate c → Proves c → (s t : Stage) (k : ℕ) → length s.counts ≡ 4 → StandsFor c s → stage_after c.problem s k ≡ Some t → Goes c t
goes c lawful proves s t k places st e =
    let alike = stage-alike c.problem s st.entry.delay k t e in
    let x : Stage = from_entry t (st.entry.delay + alike.0) in
    let same : stage_of_entry c.problem st.entry ≡ from_entry s st.entry.delay = same-stage st.entry.counts (stage_of_entry c.problem st.entry).head st.entry.delay s st.counts st.head in
    let leads : stage_after c.problem (stage_of_entry c.problem st.entry) k ≡ Some x = ap (λ (y : Stage). stage_after c.problem y k) same ∙ alike.2 in
    let closed : IsClosedAt c st.entry k = All-contains (IsClosed c) c.entries st.entry proves.closed st.among k in
    let next : HasEntry c.entries (key_of x) x.delay ⊎ IsTooDear c.problem c.answer x = subst (λ (o : Option Stage). IfSome o (λ s. HasEntry c.entries (key_of s) s.delay ⊎ IsTooDear c.problem c.answer s)) leads closed in
    elim next [
      | inl has ↦ stays (step-stands c lawful.instance s t k x.delay places e has (omega (arith, st.delay, alike.1)))
      | inr dear ↦ leaves (x.delay + rest_of c.problem x.counts x.head.at) (too-dear c.problem c.answer x dear) (omega (arith, st.delay, alike.1))
    ]

-- a completion of a stage that an entry stands for does not undercut the claimed delay
follow : (c : Claim) → IsCertificate c → Proves c → (u : List ℕ) (s end : Stage) → length s.counts ≡ 4 → StandsFor c s → stage_from c.problem s u ≡ Some end → IsAllServed c.problem end.counts → IsNoLess c.answer end.delay
follow c lawful proves [] s end places st e all =
    let same : s ≡ end = some-same s end e in
    let served : (k : ℕ) → get_or st.entry.counts k 0 ≡ length (list_at c.problem.lists k) = λ k. ap (λ xs. get_or xs k 0) (st.counts ∙ ap (λ (x : Stage). x.counts) same) ∙ all k in
    no-less-than c.answer st.entry.delay end.delay (omega (arith, st.delay, ap (λ (x : Stage). x.delay) same)) (no-cheaper c.answer st.entry (All-contains (IsEnded c) c.entries st.entry proves.ended st.among served))
follow c lawful proves (k ∷ u) s end places st e all = from-begins c.problem s end k u e (λ next en rest.
    let there : length next.counts ≡ 4 = step-places c.problem s next k en ∙ places in
    elim (goes c lawful proves s next k places st en) [
      | stays on ↦ follow c lawful proves u next end there on rest all
      | leaves n less below ↦ no-less-than c.answer n end.delay (omega (arith, rest-below c.problem lawful.instance u next end there rest all)) less
    ])

-- no feasible sequence undercuts the claimed delay
no-sequence-less : (c : Claim) → IsCertificate c → Proves c → (u : List ℕ) (d : ℕ) → delay_of c.problem u ≡ Some d → IsNoLess c.answer d
no-sequence-less c lawful proves u d e =
    let ends = ends-delay c.problem lawful.instance u d e in
    no-less-than c.answer ends.end.delay d (omega (arith, ends.delay)) (follow c lawful proves u (first_stage c.problem) ends.end refl (root-stands c proves.root) ends.leads ends.all)

if-some : {X : Type 0} (P : X → Type 0) (o : Option X) (x : X) → o ≡ Some x → IfSome o P → P x
if-some P o x e h = subst (λ o. IfSome o P) e h

if-some-by : {X : Type 0} (o : Option X) (P : X → Type 0) → ((x : X) → o ≡ Some x → P x) → IfSome o P
if-some-by None P h = tt
if-some-by (Some x) P h = h x refl

least-by : (p : Problem) (a : Answer) → IsPlanned p a → ((u : List ℕ) (d : ℕ) → delay_of p u ≡ Some d → IsNoLess a d) → IsLeast p a
least-by p (Plan sequence claimed) planned h = (planned, λ u. if-some-by (delay_of p u) (λ d. claimed ≤ d) (h u))
least-by p NoPlan planned h = λ u. none-unless (delay_of p u) (h u)

-- the entries of a certificate that prove an answer prove that it is the least
pub proves-least : (c : Claim) → IsCertificate c → Proves c → IsLeast c.problem c.answer
proves-least c lawful proves = least-by c.problem c.answer proves.planned (no-sequence-less c lawful proves)

-- two answers that are the least have one delay, or both no plan
least-same : (p : Problem) (a b : Answer) → IsLeast p a → IsLeast p b → answered_delay a ≡ answered_delay b
least-same p (Plan s d) (Plan t e) one other =
    let up : d ≤ e = if-some (λ n. d ≤ n) (delay_of p t) e other.0 (one.1 t) in
    let down : e ≤ d = if-some (λ n. e ≤ n) (delay_of p s) d one.0 (other.1 s) in
    ap (λ n. let o : Option ℕ = Some n in o) (omega arith)
least-same p (Plan s d) NoPlan one other = absurd (none-some d (sym (other s) ∙ one.0))
least-same p NoPlan (Plan t e) one other = absurd (none-some e (sym (one t) ∙ other.0))
least-same p NoPlan NoPlan one other = refl

-- the delay of an answer that is proved is that of the best answer
pub proves-best : (c : Claim) → IsCertificate c → Proves c → (a : Answer) → IsBest c.problem a → answered_delay c.answer ≡ answered_delay a
proves-best c lawful proves a best = least-same c.problem c.answer a (proves-least c lawful proves) (best-least c.problem a best)
