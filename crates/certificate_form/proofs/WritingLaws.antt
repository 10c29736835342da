-- What is written line by line is the one spelling.
use Rattle.std.proofs.Common.{◌≡◌, ℕ, ◌^◌, ◌<◌, ◌≤◌, List, [], ◌∷◌, ◌++◌, length, map, sum, take, get_or, All, Option, Some, None, IfSome, IsSomeAnd, zero, suc, refl, sym, ap, ◌∙◌, append_assoc, arith}
use Rattle.std.specs.Prelude.{codes}
use Rattle.std.specs.Fmt.{decimal}
use Rattle.std.specs.List.{flat_map}
use Rattle.std.proofs.lemmas.List.{append-nil, get_or_past}
use Rattle.std.proofs.lemmas.List.Elements.{All-from_get_or}
use Rattle.std.proofs.lemmas.List.Sums.{sum-map, sum_by-cons}
use Rattle.std.proofs.lemmas.List.Concat.{flat_map-append}
use Rattle.instance_form.specs.InstanceText.{line, instance_text}
use Rattle.instance_form.specs.InstanceText as form
use Rattle.phase_plan.specs.Phases.{marks_of}
use Rattle.switch_rules.specs.declared.Cluster.{Cluster}
use Rattle.schedule_meaning.specs.Instances.{Problem, IsInstance, counts_of, list_at}
use Rattle.dp_certificate.specs.Certificates.{Claim, IsCertificate, IsEntry}
use Rattle.text_lines.proofs.LineLaws.{written_line}
use Rattle.certificate_form.proofs.FirstFault.{certificate_is, problem_text}
use Rattle.certificate_form.proofs.TailLaws.{tail_text}
use Rattle.dp_certificate.specs.declared.Entry.{Entry}
use Rattle.schedule_meaning.specs.declared.planners.Answer.TheVariants.{Plan}
use Rattle.certificate_form.specs.CertificateText.{HasText, IsWritableAnswer, IsWritableEntry, after_space, answer_line, entry_back, entry_front, entry_line, certificate_text}

-- a line of a word and numbers after a text, as it is written
line_behind : (t word front back : List ℕ) (ns : List ℕ) → word ++ flat_map after_space ns ≡ front ++ back → t ++ line (word ∷ map decimal ns) ≡ (t ++ front) ++ (back ++ 10 ∷ [])
line_behind t word front back ns e =
    ap (λ (y : List ℕ). t ++ y) (written_line word ns ∙ sym (append_assoc word (flat_map after_space ns) (10 ∷ [])) ∙ ap (λ (y : List ℕ). y ++ 10 ∷ []) e ∙ append_assoc front back (10 ∷ []))
    ∙ sym (append_assoc t front (back ++ 10 ∷ []))

pub plan_behind : (t : List ℕ) (ks : List ℕ) (d : ℕ) → t ++ answer_line (Plan ks d) ≡ (((t ++ codes "answer ") ++ decimal d) ++ flat_map after_space ks) ++ 10 ∷ []
plan_behind t ks d =
    line_behind t (codes "answer") (codes "answer " ++ decimal d) (flat_map after_space ks) (d ∷ ks) refl
    ∙ sym (append_assoc (t ++ (codes "answer " ++ decimal d)) (flat_map after_space ks) (10 ∷ []))
    ∙ ap (λ (y : List ℕ). (y ++ flat_map after_space ks) ++ 10 ∷ []) (sym (append_assoc t (codes "answer ") (decimal d)))

regroup : (b p s t d : List ℕ) → (b ++ (32 ∷ (p ++ (32 ∷ (s ++ (32 ∷ (t ++ (32 ∷ (d ++ []))))))))) ++ 10 ∷ [] ≡ b ++ (32 ∷ (p ++ 32 ∷ (s ++ 32 ∷ (t ++ 32 ∷ (d ++ 10 ∷ [])))))
regroup b p s t d = simp append_assoc

-- an entry's line, as it is filled from its end
pub entry_is : (phases : ℕ) (e : Entry) → entry_line phases e
    ≡ codes "entry" ++ (flat_map after_space (take phases e.counts) ++ (32 ∷ (decimal e.phase ++ 32 ∷ (decimal e.since ++ 32 ∷ (decimal e.at ++ 32 ∷ (decimal e.delay ++ 10 ∷ []))))))
entry_is phases e =
    let counts = take phases e.counts in
    let head = e.phase ∷ e.since ∷ e.at ∷ e.delay ∷ [] in
    written_line (codes "entry") (counts ++ head)
    ∙ ap (λ (y : List ℕ). codes "entry" ++ (y ++ 10 ∷ [])) (flat_map-append after_space counts head)
    ∙ ap (λ (y : List ℕ). codes "entry" ++ y) (regroup (flat_map after_space counts) (decimal e.phase) (decimal e.since) (decimal e.at) (decimal e.delay))

-- a line is its front and what follows
pub entry_parts : (phases : ℕ) (e : Entry) → entry_line phases e ≡ entry_front phases e ++ entry_back e
entry_parts phases e = entry_is phases e ∙ simp append_assoc

-- entries with the same counts and phase begin alike
front_alike : (phases : ℕ) (e : Entry) (counts : List ℕ) (phase : ℕ) → e.counts ≡ counts → e.phase ≡ phase → entry_front phases e ≡ codes "entry" ++ (flat_map after_space (take phases counts) ++ after_space phase)
front_alike phases e counts phase same_counts same_phase =
    ap (λ (ns : List ℕ). codes "entry" ++ (flat_map after_space (take phases ns) ++ after_space e.phase)) same_counts ∙ ap (λ n. codes "entry" ++ (flat_map after_space (take phases counts) ++ after_space n)) same_phase

pub front_kept : (phases : ℕ) (o : Option Entry) (counts : List ℕ) (phase : ℕ) (front : List ℕ) → IfSome o (λ (l : Entry). front ≡ entry_front phases l) → IsSomeAnd o (λ (l : Entry). (l.counts ≡ counts) × (l.phase ≡ phase))
    → front ≡ codes "entry" ++ (flat_map after_space (take phases counts) ++ after_space phase)
front_kept phases (Some l) counts phase front is alike = is ∙ front_alike phases l counts phase alike.0 alike.1
front_kept phases None counts phase front is alike = absurd alike

pub front_filled : (phases : ℕ) (e : Entry) (a b c d : List ℕ) (phase : ℕ) → a ≡ [] → b ≡ 32 ∷ (decimal phase ++ a) → phase ≡ e.phase → c ≡ flat_map after_space (take phases e.counts) ++ b → d ≡ codes "entry" ++ c → d ≡ entry_front phases e
front_filled phases e a b c d phase ea eb is_phase ec ed =
    let digits = append-nil (decimal phase) in
    ed ∙ ap (λ (y : List ℕ). codes "entry" ++ y) (ec ∙ ap (λ (y : List ℕ). flat_map after_space (take phases e.counts) ++ y) (eb ∙ ap (λ (y : List ℕ). 32 ∷ (decimal phase ++ y)) ea ∙ ap (λ (y : List ℕ). 32 ∷ y) digits ∙ ap after_space is_phase))

pub back_filled : (e : Entry) (a b c d : List ℕ) (at since : ℕ) → a ≡ 10 ∷ [] → b ≡ 32 ∷ (decimal e.delay ++ a) → c ≡ 32 ∷ (decimal at ++ b) → at ≡ e.at → d ≡ 32 ∷ (decimal since ++ c) → since ≡ e.since → d ≡ entry_back e
back_filled e a b c d at since ea eb ec is_at ed is_since =
    ed ∙ ap (λ (y : List ℕ). 32 ∷ (decimal since ++ y)) (ec ∙ ap (λ (y : List ℕ). 32 ∷ (decimal at ++ y)) (eb ∙ ap (λ (y : List ℕ). 32 ∷ (decimal e.delay ++ y)) ea) ∙ ap (λ n. 32 ∷ (decimal n ++ 32 ∷ (decimal e.delay ++ 10 ∷ []))) is_at)
    ∙ ap (λ n. 32 ∷ (decimal n ++ 32 ∷ (decimal e.at ++ 32 ∷ (decimal e.delay ++ 10 ∷ [])))) is_since

-- one more entry after a text
pub entry_behind : (phases : ℕ) (e : Entry) (text now front back : List ℕ) → front ≡ entry_front phases e → back ≡ entry_back e → now ≡ (text ++ front) ++ back → now ≡ text ++ entry_line phases e
entry_behind phases e text now front back is_front is_back is =
    is ∙ append_assoc text front back ∙ ap (λ (y : List ℕ). text ++ y) (ap (λ (y : List ℕ). y ++ back) is_front ∙ ap (λ (y : List ℕ). entry_front phases e ++ y) is_back ∙ sym (entry_parts phases e))

-- the front and the tail of a text
pub text_parts : (c : Claim) → certificate_text c ≡ (codes "certificate 1\n" ++ instance_text c.problem.plan c.problem.head c.problem.lists)
    ++ (answer_line c.answer ++ (flat_map (entry_line (length c.problem.plan)) c.entries ++ codes "end\n"))
text_parts c =
    let marks = marks_of c.problem.plan in
    certificate_is marks c ∙ sym (append_assoc (codes "certificate 1\n") (problem_text marks c.problem) (tail_text (length c.problem.plan) c.answer c.entries))

-- ---- a certificate has a spelling

one_list : (lists : List (List Cluster)) (k : ℕ) → length (list_at lists k) ≤ sum (counts_of lists)
one_list [] k = omega arith
one_list (list ∷ lists) zero = omega (arith, sum-map length (list ∷ lists), sum_by-cons (λ (l : List Cluster). length l) list lists)
one_list (list ∷ lists) (suc k) = omega (arith, sum-map length (list ∷ lists), sum_by-cons (λ (l : List Cluster). length l) list lists, sum-map length lists, one_list lists k)

entry_fits : (p : Problem) (e : Entry) → IsInstance p → IsEntry p e → length e.counts ≡ 4 → IsWritableEntry (length p.plan) e
entry_fits p e law within places =
    let few = law.few in
    let many = law.plan.count in
    let lists = law.lists in
    let phase = within.head.phase in
    let begun = within.head.begun in
    let reach = within.reach in
    let delay = within.delay in
    record {
      places = places;
      counts = All-from_get_or (λ n. n < 2 ^ 8) e.counts 0 (λ i lt. omega (arith, within.counts i, one_list p.lists i));
      past = λ k le. let none : list_at p.lists k ≡ [] = get_or_past p.lists k [] (omega arith) in omega (arith, within.counts k, ap length none);
      phase = omega arith;
      since = omega arith;
      at = omega arith;
      delay = omega arith;
    }

pub certificate_fits : (c : Claim) → IsCertificate c → form.HasText c.problem.plan c.problem.head c.problem.lists → IsWritableAnswer c.answer → All (λ (e : Entry). length e.counts ≡ 4) c.entries → HasText c
certificate_fits c law instance answer places = record {
  instance = instance;
  answer = answer;
  entries = λ i d lt. entry_fits c.problem (get_or c.entries i d) law.instance (law.bounds i d lt) (places i d lt);
}
