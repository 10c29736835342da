-- What is served next after an entry, written as an entry again.
use Rattle.std.proofs.Common.{◌≡◌, ℕ, ◌+◌, ◌<◌, ◌≤◌, false, length, get_or, Option, Some, Ok, sym, ap, ◌∙◌, arith}
use Rattle.std.specs.List.{slice_get}
use Rattle.std.proofs.lemmas.Option.{slice_get_within}
use Rattle.switch_rules.specs.Serving.{serving, IsServing}
use Rattle.switch_rules.specs.declared.Head.{Head}
use Rattle.switch_rules.specs.declared.Served.{Served}
use Rattle.switch_rules.specs.declared.Cluster.{Cluster}
use Rattle.schedule_meaning.specs.Instances.{Problem, IsInstance, counts_of, list_at}
use Rattle.schedule_meaning.proofs.Sequences.{get_or-counts}
use Rattle.switch_rules.proofs.Counting.{count-le-sum}
use Rattle.dp_certificate.specs.Prefixes.{Stage, stage_after, one_more}
use Rattle.dp_certificate.specs.Certificates.{IsEntry, head_of}
use Rattle.dp_certificate.specs.NextEntry.{IsNext, stage_of_next}
use Rattle.dp_certificate.specs.Proves.{stage_of_entry}
use Rattle.dp_certificate.specs.declared.Entry.{Entry}
use Rattle.dp_certificate.proofs.RestLaws.{serving-leads}
use Rattle.dp_certificate.proofs.Stages.{more-within, step-fit}

-- a phase has few clusters
pub few-listed : (p : Problem) → IsInstance p → (k : ℕ) → length (list_at p.lists k) ≤ 40
few-listed p lawful k = omega (arith, count-le-sum (counts_of p.lists) k, get_or-counts p.lists k, lawful.few)

-- the entry that is next after one
abbrev pub next_entry : Entry → ℕ → Served × Head → Entry
next_entry e k r = record { counts = one_more e.counts k; phase = r.1.phase; since = r.1.since; at = r.1.at; delay = e.delay + r.0.cost }

pub next-fit : (p : Problem) (e : Entry) (k : ℕ) (c : Cluster) (r : Served × Head) → slice_get (list_at p.lists k) (get_or e.counts k 0) ≡ Some c → serving p.plan (stage_of_entry p e).head k c ≡ Ok r
    → let o : Option Stage = Some (stage_of_next (next_entry e k r)) in o ≡ stage_after p (stage_of_entry p e) k
next-fit p e k c r ec er =
    ap (λ b. let o : Option Stage = Some (record { counts = one_more e.counts k; head = record { phase = r.1.phase; since = r.1.since; at = r.1.at; fresh = b }; delay = e.delay + r.0.cost }) in o) (sym (serving-leads p.plan (stage_of_entry p e).head k c r er).stale)
    ∙ sym (step-fit p (stage_of_entry p e) k c r ec er)

-- the head after a serving is not fresh
pub next-served : (p : Problem) (e : Entry) (k : ℕ) (c : Cluster) (r : Served × Head) → serving p.plan (stage_of_entry p e).head k c ≡ Ok r → serving p.plan (stage_of_entry p e).head k c ≡ Ok (r.0, head_of (next_entry e k r) false)
next-served p e k c r er = er ∙ ap (λ b. Ok (r.0, record { phase = r.1.phase; since = r.1.since; at = r.1.at; fresh = b })) (serving-leads p.plan (stage_of_entry p e).head k c r er).stale

pub next-bounds : (p : Problem) (e : Entry) (k : ℕ) (c : Cluster) (r : Served × Head) → length p.plan ≤ 4 → IsEntry p e → k < length e.counts → slice_get (list_at p.lists k) (get_or e.counts k 0) ≡ Some c → IsServing p.plan r → IsNext p (next_entry e k r)
next-bounds p e k c r few bounds place ec fit = record {
  counts = more-within p e.counts k place (slice_get_within (list_at p.lists k) (get_or e.counts k 0) c ec) bounds.counts;
  phase = omega (arith, fit.head.phase);
  reach = omega (arith, fit.finish);
  delay = omega (arith, fit.cost, bounds.delay);
}
