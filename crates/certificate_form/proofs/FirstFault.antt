-- Each fault of reading a certificate's text is the first line that has not the form of its place.
use Rattle.std.proofs.Common.{◌≡◌, ℕ, ◌+◌, ◌≤◌, false, List, [], ◌∷◌, ◌++◌, length, All, Option, Some, None, Err, refl, sym, ap, subst, ◌∙◌, inl, inr, append_assoc, arith}
use Rattle.std.specs.Prelude.{codes}
use Rattle.std.specs.List.{flat_map, concat, AllByRecursion}
use Rattle.std.proofs.lemmas.List.{append-nil, append_cancel_left}
use Rattle.std.proofs.lemmas.List.Elements.{All-from_recursion, recursion_from_All, All-nil}
use Rattle.text_lines.specs.Fields.{literal_at}
use Rattle.text_lines.proofs.Units.{literal_again}
use Rattle.phase_plan.specs.declared.Marks.{Marks}
use Rattle.phase_plan.specs.declared.Marks.TheVariants as marked
use Rattle.phase_plan.specs.Phases.{HasU32Times}
use Rattle.phase_plan.specs.declared.Phase.{Phase}
use Rattle.switch_rules.specs.declared.Head.{Head}
use Rattle.switch_rules.specs.declared.Cluster.{Cluster}
use Rattle.text_lines.specs.Lines.{line_feeds}
use Rattle.instance_form.specs.Faults.{BeginsText, BeginsFront}
use Rattle.instance_form.specs.Faults as form_fault
use Rattle.instance_form.specs.InstanceText.{whole_text, line_count, IsMarkedWhere, IsWritableCluster}
use Rattle.instance_form.specs.InstanceText as form
use Rattle.text_lines.proofs.Feeds.{line_feeds-nil, line_feeds-append, line_feeds_once, fronts, next_line}
use Rattle.text_lines.proofs.FirstLine.{NextLine, faulty-here}
use Rattle.instance_form.proofs.FaultLaws.{last_is_line}
use Rattle.instance_form.proofs.FirstFault.{feeds_in_text}
use Rattle.instance_form.proofs.FormLaws.{text_once}
use Rattle.schedule_meaning.specs.Instances.{Problem}
use Rattle.schedule_meaning.specs.declared.planners.Answer.{Answer}
use Rattle.schedule_meaning.specs.declared.planners.Answer.TheVariants.{NoPlan}
use Rattle.certificate_form.specs.CertificateText.{answer_line, entry_line, whole_certificate, HasText, IsWritableAnswer, IsWritableEntry}
use Rattle.dp_certificate.specs.Certificates.{Claim}
use Rattle.certificate_form.specs.Lines.{entry_line_at}
use Rattle.certificate_form.specs.Reading.{tail_at}
use Rattle.certificate_form.specs.TextFaults.{BeginsCertificate, IsFirstFault}
use Rattle.dp_certificate.specs.declared.Entry.{Entry}
use Rattle.certificate_form.proofs.EntryLaws.{entry_again}
use Rattle.certificate_form.proofs.Feeds.{opening_is_line, answer_is_line, entry_is_line, feeds_in_entries}
use Rattle.certificate_form.proofs.TailLaws.{tail_text, tail_once, answer_once, entries_begin, TailFault, no_answer, no_entry, trailing, tail_fails}

-- ---- the parts of a text

-- the instance's text, where so many phases are said to be marked
abbrev pub problem_text : Marks → Problem → List ℕ
problem_text marks p = whole_text marks p.plan p.head p.lists

abbrev pub HasProblemText : Problem → Type 0
HasProblemText p = form.HasText p.plan p.head p.lists

five_parts : (a b c d e : List ℕ) → concat (a ∷ b ∷ c ∷ d ∷ e ∷ []) ≡ a ++ (b ++ (c ++ (d ++ e)))
five_parts a b c d e = simp append-nil

pub certificate_is : (marks : Marks) (c : Claim) → whole_certificate marks c ≡ codes "certificate 1\n" ++ (problem_text marks c.problem ++ tail_text (length c.problem.plan) c.answer c.entries)
unfolding whole_certificate
certificate_is marks c = five_parts (codes "certificate 1\n") (problem_text marks c.problem) (answer_line c.answer) (flat_map (entry_line (length c.problem.plan)) c.entries) (codes "end\n")

claim_of : Problem → Answer → List Entry → Claim
claim_of p a es = record { problem = p; entries = es; answer = a }

-- up to the end of the instance
pub front_text : Marks → Problem → List ℕ
front_text marks p = codes "certificate 1\n" ++ problem_text marks p

pub front-append : (marks : Marks) (p : Problem) (w : List ℕ) → front_text marks p ++ w ≡ codes "certificate 1\n" ++ (problem_text marks p ++ w)
unfolding front_text
front-append marks p w = append_assoc (codes "certificate 1\n") (problem_text marks p) w

same_problem : (p q : Problem) → p.plan ≡ q.plan → p.head ≡ q.head → p.lists ≡ q.lists → p ≡ q
same_problem p q a b c =
    ap (λ (x : List Phase). let r : Problem = record { plan = x; head = p.head; lists = p.lists } in r) a
    ∙ ap (λ (x : Head). let r : Problem = record { plan = q.plan; head = x; lists = p.lists } in r) b
    ∙ ap (λ (x : List (List Cluster)). let r : Problem = record { plan = q.plan; head = q.head; lists = x } in r) c

-- a certificate's text that begins with an instance is that instance's
pub record Behind (marks theirs : Marks) (c : Claim) (p : Problem) (w : List ℕ) : Type 0 where
  pub ring : marks ≡ theirs
  pub problem : c.problem ≡ p
  pub entries : All (IsWritableEntry (length p.plan)) c.entries
  pub tail : tail_text (length p.plan) c.answer c.entries ≡ w

pub behind : (marks theirs : Marks) (c : Claim) (p : Problem) (w : List ℕ) → HasText c → IsMarkedWhere marks c.problem.plan → HasProblemText p → IsMarkedWhere theirs p.plan → whole_certificate marks c ≡ front_text theirs p ++ w → Behind marks theirs c p w
behind marks theirs c p w fits ring p_fits p_ring e =
    let text = append_cancel_left (codes "certificate 1\n") (problem_text marks c.problem ++ tail_text (length c.problem.plan) c.answer c.entries) (problem_text theirs p ++ w) (sym (certificate_is marks c) ∙ e ∙ front-append theirs p w) in
    let once = text_once marks theirs c.problem.plan p.plan c.problem.head p.head c.problem.lists p.lists (tail_text (length c.problem.plan) c.answer c.entries) w fits.instance ring p_fits p_ring text in
    record {
      ring = once.0;
      problem = same_problem c.problem p once.1 once.2 once.3;
      entries = subst (λ (plan : List Phase). All (IsWritableEntry (length plan)) c.entries) once.1 fits.entries;
      tail = ap (λ (plan : List Phase). tail_text (length plan) c.answer c.entries) (sym once.1) ∙ once.4;
    }

-- ---- a line with which no certificate goes on

pub fault_here : (bytes F R : List ℕ) → bytes ≡ F ++ R → BeginsCertificate F → ((mid : List ℕ) → BeginsCertificate (F ++ mid) → NextLine mid R) → IsFirstFault (1 + line_feeds F) bytes
fault_here bytes F R parts begins follows = faulty-here BeginsCertificate BeginsCertificate 1 bytes F R parts begins follows

-- ---- the first line

no_phase : Phase
no_phase = record { least = 0; greatest = 0; yellow = 0; clear = 0; loss = 0; wait = 0; skip = false }

no_problem : Problem
no_problem = record { plan = no_phase ∷ no_phase ∷ []; head = record { phase = 0; since = 0; at = 0; fresh = false }; lists = [] ∷ [] ∷ [] }

no_phase_fits : HasU32Times no_phase
unfolding no_phase
no_phase_fits = record { least = omega arith; greatest = omega arith; yellow = omega arith; clear = omega arith; loss = omega arith; wait = omega arith }

no_problem_fits : HasProblemText no_problem
unfolding no_problem
no_problem_fits = record {
  count = (omega arith, omega arith);
  each = refl;
  phases = All-from_recursion HasU32Times (no_phase ∷ no_phase ∷ []) (no_phase_fits, (no_phase_fits, tt));
  head = record { phase = omega arith; since = omega arith; at = omega arith };
  clusters = All-from_recursion (All IsWritableCluster) ([] ∷ [] ∷ []) (All-nil IsWritableCluster, (All-nil IsWritableCluster, tt));
}

claim_fits : (p : Problem) (a : Answer) (es : List Entry) → HasProblemText p → IsWritableAnswer a → All (IsWritableEntry (length p.plan)) es → HasText (claim_of p a es)
unfolding claim_of
claim_fits p a es fits small all = record { instance = fits; answer = small; entries = all }

claim_ring : (marks : Marks) (p : Problem) (a : Answer) (es : List Entry) → IsMarkedWhere marks p.plan → IsMarkedWhere marks (claim_of p a es).problem.plan
unfolding claim_of
claim_ring marks p a es ring = ring

begins_none : BeginsCertificate []
unfolding claim_of
begins_none = record {
  marks = marked.Fewer;
  claim = claim_of no_problem NoPlan [];
  rest = whole_certificate marked.Fewer (claim_of no_problem NoPlan []);
  fits = claim_fits no_problem NoPlan [] no_problem_fits tt (All-nil (IsWritableEntry (length no_problem.plan)));
  ring = λ e. absurd cc;
  text = refl;
}

pub first_fault : (bytes : List ℕ) → ((rest : List ℕ) → bytes ≡ codes "certificate 1\n" ++ rest → ⊥) → IsFirstFault 1 bytes
first_fault bytes never =
    subst (λ n. IsFirstFault n bytes) (omega (arith, line_feeds-nil)) (fault_here bytes [] bytes refl begins_none (λ mid g. record {
      text = codes "certificate 1\n";
      after = problem_text g.marks g.claim.problem ++ tail_text (length g.claim.problem.plan) g.claim.answer g.claim.entries;
      more = g.rest;
      is_line = opening_is_line;
      parts = sym g.text ∙ certificate_is g.marks g.claim;
      apart = never;
    }))

-- ---- the instance's lines

-- what begins an instance begins a certificate, after its first line
begins_in_front : (front : List ℕ) → BeginsText front → BeginsCertificate (codes "certificate 1\n" ++ front)
unfolding claim_of
begins_in_front front g =
    let p : Problem = record { plan = g.plan; head = g.head; lists = g.lists } in
    let tail = tail_text (length g.plan) NoPlan [] in
    record {
      marks = g.marks;
      claim = claim_of p NoPlan [];
      rest = g.rest ++ tail;
      fits = claim_fits p NoPlan [] g.fits tt (All-nil (IsWritableEntry (length g.plan)));
      ring = g.ring;
      text = certificate_is g.marks (claim_of p NoPlan []) ∙ ap (λ (y : List ℕ). codes "certificate 1\n" ++ y) (ap (λ (y : List ℕ). y ++ tail) g.text ∙ append_assoc front g.rest tail) ∙ sym (append_assoc (codes "certificate 1\n") front (g.rest ++ tail));
    }

-- and what begins a certificate after its first line begins an instance with something after it
front_in_begins : (front : List ℕ) → BeginsCertificate (codes "certificate 1\n" ++ front) → BeginsFront front
front_in_begins front g =
    let c = g.claim in
    record {
      marks = g.marks;
      plan = c.problem.plan;
      head = c.problem.head;
      lists = c.problem.lists;
      after = tail_text (length c.problem.plan) c.answer c.entries;
      rest = g.rest;
      fits = g.fits.instance;
      ring = g.ring;
      text = append_cancel_left (codes "certificate 1\n") (problem_text g.marks c.problem ++ tail_text (length c.problem.plan) c.answer c.entries) (front ++ g.rest) (sym (certificate_is g.marks c) ∙ g.text ∙ append_assoc (codes "certificate 1\n") front g.rest);
    }

pub instance_fault : (n : ℕ) (bytes rest : List ℕ) → bytes ≡ codes "certificate 1\n" ++ rest → form_fault.IsFirstFault BeginsFront 2 n rest → IsFirstFault n bytes
instance_fault n bytes rest text fault =
    let F = codes "certificate 1\n" in
    let one = line_feeds_once F opening_is_line in
    let number = fault.number in
    record {
      front = F ++ fault.front;
      rest = fault.rest;
      parts = text ∙ ap (λ (y : List ℕ). F ++ y) fault.parts ∙ sym (append_assoc F fault.front fault.rest);
      number = omega (arith, line_feeds-append F fault.front, one);
      begins = begins_in_front fault.front fault.begins;
      ends = λ longer more e feeds g.
          elim (fronts F longer rest more (sym text ∙ e)) [
            | inl p ↦ absurd (omega (arith, feeds, one, ap line_feeds p.1, line_feeds-append longer p.0))
            | inr p ↦ fault.ends p.0 more p.2 (omega (arith, feeds, one, ap line_feeds p.1, line_feeds-append F p.0)) (front_in_begins p.0 (subst BeginsCertificate p.1 g))
          ];
    }

-- ---- the lines after the instance

feeds_in_front : (marks : Marks) (p : Problem) → HasProblemText p → IsMarkedWhere marks p.plan → line_feeds (front_text marks p) ≡ 1 + line_count p.plan p.lists
unfolding front_text
feeds_in_front marks p fits ring =
    omega (arith, line_feeds-append (codes "certificate 1\n") (problem_text marks p), line_feeds_once (codes "certificate 1\n") opening_is_line, feeds_in_text marks p.plan p.head p.lists fits ring)

claim_text : (marks : Marks) (p : Problem) (a : Answer) (es : List Entry) → whole_certificate marks (claim_of p a es) ≡ front_text marks p ++ tail_text (length p.plan) a es
unfolding claim_of
claim_text marks p a es = certificate_is marks (claim_of p a es) ∙ sym (front-append marks p (tail_text (length p.plan) a es))

-- after a front of it a certificate's text goes on with what its tail goes on with
behind_front : (marks : Marks) (p : Problem) (F mid : List ℕ) (g : BeginsCertificate ((front_text marks p ++ F) ++ mid)) → HasProblemText p → IsMarkedWhere marks p.plan → Behind g.marks marks g.claim p (F ++ (mid ++ g.rest))
behind_front marks p F mid g fits ring =
    behind g.marks marks g.claim p (F ++ (mid ++ g.rest)) g.fits g.ring fits ring (g.text ∙ append_assoc (front_text marks p ++ F) mid g.rest ∙ append_assoc (front_text marks p) F (mid ++ g.rest))

module _ (marks : Marks) (p : Problem) (fits : HasProblemText p) (ring : IsMarkedWhere marks p.plan) (bytes rest : List ℕ) (text : bytes ≡ front_text marks p ++ rest) where
  few : 2 ≤ length p.plan
  few = fits.count.0

  many : length p.plan ≤ 4
  many = fits.count.1

  answer_fault : ((a : Answer) (u : List ℕ) → IsWritableAnswer a → rest ≡ answer_line a ++ u → ⊥) → IsFirstFault (1 + line_feeds (front_text marks p)) bytes
  answer_fault never =
      fault_here bytes (front_text marks p) rest text
      (record { marks = marks; claim = claim_of p NoPlan []; rest = tail_text (length p.plan) NoPlan []; fits = claim_fits p NoPlan [] fits tt (All-nil (IsWritableEntry (length p.plan))); ring = claim_ring marks p NoPlan [] ring; text = claim_text marks p NoPlan [] })
      (λ mid g.
      let next = behind g.marks marks g.claim p (mid ++ g.rest) g.fits g.ring fits ring (g.text ∙ append_assoc (front_text marks p) mid g.rest) in
      record {
        text = answer_line g.claim.answer;
        after = flat_map (entry_line (length p.plan)) g.claim.entries ++ codes "end\n";
        more = g.rest;
        is_line = answer_is_line g.claim.answer g.fits.answer;
        parts = sym next.tail;
        apart = λ u e. never g.claim.answer u g.fits.answer e;
      })

  -- the bytes, after a further front
  spread_out : (F R : List ℕ) → rest ≡ F ++ R → bytes ≡ (front_text marks p ++ F) ++ R
  spread_out F R e = text ∙ ap (λ (y : List ℕ). front_text marks p ++ y) e ∙ sym (append_assoc (front_text marks p) F R)

  -- the line after these entries
  next_of : (R mid more : List ℕ) → entry_line_at (length p.plan) R ≡ None → literal_at (codes "end\n") R ≡ None → (ds : List Entry) → AllByRecursion (IsWritableEntry (length p.plan)) ds → flat_map (entry_line (length p.plan)) ds ++ codes "end\n" ≡ mid ++ more → NextLine mid R
  next_of R mid more no_entry_there no_end_there [] ds_fit e = record {
    text = codes "end\n";
    after = [];
    more = more;
    is_line = last_is_line;
    parts = sym e ∙ sym (append-nil (codes "end\n"));
    apart = λ u is. let both : ◌≡◌ {A = Option (List ℕ)} None (Some u) = sym no_end_there ∙ ap (literal_at (codes "end\n")) is ∙ literal_again (codes "end\n") u in absurd cc;
  }
  next_of R mid more no_entry_there no_end_there (d ∷ ds) ds_fit e = record {
    text = entry_line (length p.plan) d;
    after = flat_map (entry_line (length p.plan)) ds ++ codes "end\n";
    more = more;
    is_line = entry_is_line (length p.plan) d ds_fit.0;
    parts = sym e ∙ append_assoc (entry_line (length p.plan) d) (flat_map (entry_line (length p.plan)) ds) (codes "end\n");
    apart = λ u is. let both : ◌≡◌ {A = Option (Entry × List ℕ)} None (Some (d, u)) = sym no_entry_there ∙ ap (entry_line_at (length p.plan)) is ∙ entry_again (length p.plan) few many d u ds_fit.0 in absurd cc;
  }

  entry_fault : (a : Answer) (es : List Entry) (R : List ℕ) → IsWritableAnswer a → AllByRecursion (IsWritableEntry (length p.plan)) es → rest ≡ answer_line a ++ (flat_map (entry_line (length p.plan)) es ++ R)
      → entry_line_at (length p.plan) R ≡ None → literal_at (codes "end\n") R ≡ None → IsFirstFault (1 + line_feeds (front_text marks p ++ (answer_line a ++ flat_map (entry_line (length p.plan)) es))) bytes
  entry_fault a es R small es_fit spelled no_entry_there no_end_there =
      let lines = flat_map (entry_line (length p.plan)) es in
      let F = answer_line a ++ lines in
      let all = All-from_recursion (IsWritableEntry (length p.plan)) es es_fit in
      fault_here bytes (front_text marks p ++ F) R (spread_out F R (spelled ∙ sym (append_assoc (answer_line a) lines R)))
      (record {
        marks = marks;
        claim = claim_of p a es;
        rest = codes "end\n";
        fits = claim_fits p a es fits small all;
        ring = claim_ring marks p a es ring;
        text = claim_text marks p a es ∙ ap (λ (y : List ℕ). front_text marks p ++ y) (sym (append_assoc (answer_line a) lines (codes "end\n"))) ∙ sym (append_assoc (front_text marks p) F (codes "end\n"));
      })
      (λ mid g.
      let next = behind_front marks p F mid g fits ring in
      let same = answer_once (length p.plan) few many g.claim.answer a (flat_map (entry_line (length p.plan)) g.claim.entries ++ codes "end\n") (lines ++ (mid ++ g.rest)) g.fits.answer small (next.tail ∙ append_assoc (answer_line a) lines (mid ++ g.rest)) in
      let more = entries_begin (length p.plan) few many es g.claim.entries (mid ++ g.rest) es_fit (recursion_from_All (IsWritableEntry (length p.plan)) g.claim.entries next.entries) same.1 in
      next_of R mid g.rest no_entry_there no_end_there more.entries more.fits more.text)

  trailing_fault : (a : Answer) (es : List Entry) (R : List ℕ) → IsWritableAnswer a → AllByRecursion (IsWritableEntry (length p.plan)) es → rest ≡ tail_text (length p.plan) a es ++ R
      → IsFirstFault (1 + line_feeds (front_text marks p ++ tail_text (length p.plan) a es)) bytes
  trailing_fault a es R small es_fit spelled =
      let tail = tail_text (length p.plan) a es in
      let F = front_text marks p ++ tail in
      let all = All-from_recursion (IsWritableEntry (length p.plan)) es es_fit in
      record {
        front = F;
        rest = R;
        parts = spread_out tail R spelled;
        number = refl;
        begins = record { marks = marks; claim = claim_of p a es; rest = []; fits = claim_fits p a es fits small all; ring = claim_ring marks p a es ring; text = claim_text marks p a es ∙ sym (append-nil F) };
        ends = λ longer more e feeds g.
            let q = next_line F R longer more (sym (spread_out tail R spelled) ∙ e) (omega (arith, feeds)) in
            let h : BeginsCertificate ((front_text marks p ++ tail) ++ q.0) = subst BeginsCertificate q.1 g in
            let next = behind_front marks p tail q.0 h fits ring in
            let once = tail_once (length p.plan) few many h.claim.answer a h.claim.entries es [] (q.0 ++ h.rest) h.fits.answer small next.entries all (append-nil (tail_text (length p.plan) h.claim.answer h.claim.entries) ∙ next.tail) in
            omega (arith, q.3, ap line_feeds once.2, line_feeds-append q.0 h.rest, line_feeds-nil);
      }

  by_tail : (line n : ℕ) → line ≡ 2 + line_count p.plan p.lists → TailFault (length p.plan) few many line n rest → IsFirstFault n bytes
  by_tail line n is (no_answer at never) = subst (λ m. IsFirstFault m bytes) (omega (arith, at, is, feeds_in_front marks p fits ring)) (answer_fault never)
  by_tail line n is (no_entry a es R at small es_fit spelled x y) =
      let lines = flat_map (entry_line (length p.plan)) es in
      subst (λ m. IsFirstFault m bytes)
      (omega (arith, at, is, feeds_in_front marks p fits ring, line_feeds-append (front_text marks p) (answer_line a ++ lines), line_feeds-append (answer_line a) lines, line_feeds_once (answer_line a) (answer_is_line a small), feeds_in_entries (length p.plan) es es_fit))
      (entry_fault a es R small es_fit spelled x y)
  by_tail line n is (trailing a es R at small es_fit spelled) =
      let lines = flat_map (entry_line (length p.plan)) es in
      let behind_answer = lines ++ codes "end\n" in
      subst (λ m. IsFirstFault m bytes)
      (omega (
        arith,
        at,
        is,
        feeds_in_front marks p fits ring,
        line_feeds-append (front_text marks p) (answer_line a ++ behind_answer),
        line_feeds-append (answer_line a) behind_answer,
        line_feeds_once (answer_line a) (answer_is_line a small),
        line_feeds-append lines (codes "end\n"),
        feeds_in_entries (length p.plan) es es_fit,
        line_feeds_once (codes "end\n") last_is_line,
      ))
      (trailing_fault a es R small es_fit spelled)

  pub tail_fault : (line n : ℕ) → line ≡ 2 + line_count p.plan p.lists → tail_at (length p.plan) line rest ≡ Err n → IsFirstFault n bytes
  tail_fault line n is e = by_tail line n is (tail_fails (length p.plan) few many line n rest e)
