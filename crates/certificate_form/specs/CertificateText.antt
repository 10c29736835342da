-- The one text of a certificate.
use Rattle.std.specs.Prelude.{◌≡◌, ℕ, ◌^◌, ◌<◌, ◌≤◌, List, [], ◌∷◌, ◌++◌, length, map, take, slice_index, All, codes}
use Rattle.std.specs.List.{flat_map, concat}
use Rattle.std.specs.Fmt.{decimal}
pub use Rattle.text_lines.specs.Numbers.{after_space}
use Rattle.instance_form.specs.InstanceText.{line, whole_text}
use Rattle.instance_form.specs.InstanceText as form
use Rattle.phase_plan.specs.declared.Marks.{Marks}
use Rattle.phase_plan.specs.Phases.{marks_of}
use Rattle.schedule_meaning.specs.declared.planners.Answer.{Answer}
use Rattle.schedule_meaning.specs.declared.planners.Answer.TheVariants.{Plan, NoPlan}
use Rattle.dp_certificate.specs.Certificates.{Claim}
use Rattle.dp_certificate.specs.declared.Entry.{Entry}

-- the delay and the sequence, or that there is no plan
abbrev pub answer_line : Answer → List ℕ
answer_line (Plan sequence delay) = line (codes "answer" ∷ decimal delay ∷ map decimal sequence)
answer_line NoPlan = line (codes "answer none" ∷ [])

-- the counts of this many phases, the head and the delay
abbrev pub entry_line : ℕ → Entry → List ℕ
entry_line phases e =
    line (codes "entry" ∷ map decimal (take phases e.counts ++ e.phase ∷ e.since ∷ e.at ∷ e.delay ∷ []))

-- the line of an entry up to the phase, and what follows
abbrev pub entry_front : ℕ → Entry → List ℕ
entry_front phases e = codes "entry" ++ (flat_map after_space (take phases e.counts) ++ after_space e.phase)

abbrev pub entry_back : Entry → List ℕ
entry_back e = after_space e.since ++ (after_space e.at ++ (after_space e.delay ++ 10 ∷ []))

-- the instance, of which so many phases are said to be marked, the answer and the entries, line by line
unfoldable pub whole_certificate : Marks → Claim → List ℕ
whole_certificate marks c = concat (
    line (codes "certificate 1" ∷ []) ∷
    whole_text marks c.problem.plan c.problem.head c.problem.lists ∷
    answer_line c.answer ∷
    flat_map (entry_line (length c.problem.plan)) c.entries ∷
    line (codes "end" ∷ []) ∷ [])

-- the text of a certificate, which says how many phases are marked
abbrev pub certificate_text : Claim → List ℕ
certificate_text c = whole_certificate (marks_of c.problem.plan) c

-- the numbers of an answer and of an entry are below their types' limits; an entry has a count for each of four phases,
-- and none for those past the last
abbrev pub IsWritableAnswer : Answer → Type 0
IsWritableAnswer (Plan sequence delay) = All (λ k. k < 2 ^ 8) sequence × (delay < 2 ^ 64)
IsWritableAnswer NoPlan = Unit {0}

pub record IsWritableEntry (phases : ℕ) (e : Entry) : Type 0 where
  pub places : length e.counts ≡ 4
  pub counts : All (λ n. n < 2 ^ 8) e.counts
  pub past : (k : ℕ) → phases ≤ k → slice_index e.counts k ≡ 0
  pub phase : e.phase < 2 ^ 8
  pub since : e.since < 2 ^ 32
  pub at : e.at < 2 ^ 32
  pub delay : e.delay < 2 ^ 64

-- what has a text
pub record HasText (c : Claim) : Type 0 where
  pub instance : form.HasText c.problem.plan c.problem.head c.problem.lists
  pub answer : IsWritableAnswer c.answer
  pub entries : All (IsWritableEntry (length c.problem.plan)) c.entries
