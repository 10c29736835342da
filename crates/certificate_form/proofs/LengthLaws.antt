-- How long a certificate's text is.
use Rattle.std.specs.Prelude.{codes}
use Rattle.std.proofs.Common.{◌≡◌, ℕ, ◌+◌, ◌*◌, ◌<◌, ◌≤◌, List, [], ◌∷◌, ◌++◌, length, take, get_or, All, min, suc, ap, subst, ◌∙◌, length-append, lit≤, arith}
use Rattle.std.specs.List.{flat_map}
use Rattle.std.specs.Fmt.{decimal}
use Rattle.std.proofs.lemmas.Fmt.{length-decimal-le}
use Rattle.std.proofs.lemmas.List.{length-take, get_or-take, get_or_default}
use Rattle.std.proofs.lemmas.List.Concat.{length-flat_map}
use Rattle.std.proofs.lemmas.List.Sums.{sum_by-le, sum-map}
use Rattle.dp_certificate.proofs.NextLaws.{few-listed}
use Rattle.instance_form.proofs.LengthLaws as form
use Rattle.instance_form.specs.InstanceText.{instance_text}
use Rattle.phase_plan.specs.Phases.{marks_of}
use Rattle.schedule_meaning.specs.Instances.{Problem, IsInstance}
use Rattle.schedule_meaning.specs.declared.planners.Answer.{Answer}
use Rattle.schedule_meaning.specs.declared.planners.Answer.TheVariants.{Plan, NoPlan}
use Rattle.dp_certificate.specs.Certificates.{Claim, IsCertificate, IsEntry}
use Rattle.dp_certificate.specs.Numbers.{sequence_of}
use Rattle.dp_certificate.specs.declared.Entry.{Entry}
use Rattle.certificate_form.specs.Lengths.{entry_bytes, text_bytes}
use Rattle.certificate_form.specs.CertificateText.{HasText, IsWritableAnswer, after_space, answer_line, certificate_text, entry_line}
use Rattle.text_lines.proofs.LineLaws.{digits-byte, digits-long, written_line}
use Rattle.certificate_form.proofs.WritingLaws.{entry_is, text_parts}

-- numbers after a space
space-le : (n k : ℕ) → length (decimal n) ≤ k → length (after_space n) ≤ k + 1
space-le n k h = omega (arith, h)

counts-le : (phases : ℕ) (counts : List ℕ) → phases ≤ 4 → ((k : ℕ) → get_or counts k 0 ≤ 40) → length (flat_map after_space (take phases counts)) ≤ 12
counts-le phases counts few small =
    let each : (i d : ℕ) → i < length (take phases counts) → length (after_space (get_or (take phases counts) i d)) ≤ 3 = λ i d inside.
    let there : i < min phases (length counts) = subst (λ n. i < n) (length-take phases counts) inside in
    let same : get_or (take phases counts) i d ≡ get_or counts i 0 = get_or-take phases counts i d (omega arith) ∙ get_or_default counts i d 0 (omega arith) in
    space-le (get_or (take phases counts) i d) 2 (length-decimal-le 2 (get_or (take phases counts) i d) (omega arith) (omega (arith, same, small i)) (omega (arith, same, small i))) in
    omega (arith, length-flat_map after_space (take phases counts), sum_by-le (λ n. length (after_space n)) 3 (take phases counts) each, length-take phases counts)

added : (counts phase since at delay : ℕ) → counts ≤ 12 → phase ≤ 1 → since ≤ 6 → at ≤ 6 → delay ≤ 14 → 5 + (counts + suc (phase + suc (since + suc (at + suc (delay + 1))))) ≤ entry_bytes
added counts phase since at delay a b c d e = omega arith

lengths : (w c p s t d : List ℕ) → length (w ++ (c ++ (32 ∷ (p ++ 32 ∷ (s ++ 32 ∷ (t ++ 32 ∷ (d ++ 10 ∷ []))))))) ≡ length w + (length c + suc (length p + suc (length s + suc (length t + suc (length d + 1)))))
lengths w c p s t d = simp length-append

entry-le : (p : Problem) (e : Entry) → IsInstance p → IsEntry p e → length (entry_line (length p.plan) e) ≤ entry_bytes
entry-le p e lawful within =
    let plan : length p.plan ≤ 4 = lawful.plan.count.1 in
    let phase = within.head.phase in
    let begun = within.head.begun in
    let reach = within.reach in
    let delay = within.delay in
    omega (
      arith,
      ap length (entry_is (length p.plan) e),
      lengths (codes "entry") (flat_map after_space (take (length p.plan) e.counts)) (decimal e.phase) (decimal e.since) (decimal e.at) (decimal e.delay),
      added (length (flat_map after_space (take (length p.plan) e.counts))) (length (decimal e.phase)) (length (decimal e.since)) (length (decimal e.at)) (length (decimal e.delay))
          (counts-le (length p.plan) e.counts plan (λ k. omega (arith, within.counts k, few-listed p lawful k)))
          (length-decimal-le 1 e.phase (omega arith) (omega arith) (omega arith))
          (length-decimal-le 6 e.since (omega arith) (omega arith) (omega arith))
          (length-decimal-le 6 e.at (omega arith) (omega arith) (omega arith))
          (length-decimal-le 14 e.delay (omega arith) (omega arith) (omega arith)),
    )

entries-le : (p : Problem) (es : List Entry) → IsInstance p → All (IsEntry p) es → length (flat_map (entry_line (length p.plan)) es) ≤ length es * entry_bytes
entries-le p es lawful all =
    omega (arith, length-flat_map (entry_line (length p.plan)) es, sum_by-le (λ e. length (entry_line (length p.plan) e)) entry_bytes es (λ i d inside. entry-le p _ lawful (all i d inside)))

-- an answer's line has at most 28 bytes and 4 for each place
answer-le : (a : Answer) → IsWritableAnswer a → length (answer_line a) ≤ 4 * length (sequence_of a) + 28
answer-le (Plan ks d) fits =
    let each : (i e : ℕ) → i < length ks → length (after_space (get_or ks i e)) ≤ 4 = λ i e inside. space-le (get_or ks i e) 3 (digits-byte (get_or ks i e) (fits.0 i e inside)) in
    omega (
      arith,
      ap length (written_line (codes "answer") (d ∷ ks)),
      length-append (after_space d) (flat_map after_space ks),
      length-append (after_space d ++ flat_map after_space ks) (10 ∷ []),
      space-le d 20 (digits-long d fits.1),
      length-flat_map after_space ks,
      sum_by-le (λ n. length (after_space n)) 4 ks each,
    )
answer-le NoPlan fits = lit≤ tt

pub text-le : (c : Claim) → IsCertificate c → HasText c → length (certificate_text c) ≤ text_bytes (length c.entries) (length (sequence_of c.answer))
text-le c lawful fits =
    let p = c.problem in
    let front = codes "certificate 1\n" ++ instance_text p.plan p.head p.lists in
    let entries = flat_map (entry_line (length p.plan)) c.entries in
    omega (
      arith,
      ap length (text_parts c),
      length-append front (answer_line c.answer ++ (entries ++ codes "end\n")),
      length-append (answer_line c.answer) (entries ++ codes "end\n"),
      length-append entries (codes "end\n"),
      form.text-le (marks_of p.plan) p.plan p.head p.lists fits.instance,
      sum-map length p.lists,
      lawful.instance.few,
      answer-le c.answer fits.answer,
      entries-le p c.entries lawful.instance lawful.bounds,
    )
