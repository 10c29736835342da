-- What follows the instance: what is read is spelled so, what is spelled so is read, and why nothing is read.
use Rattle.std.proofs.Common.{◌≡◌, ℕ, ◌+◌, ◌^◌, ◌<◌, ◌≤◌, Bool, true, false, cond, eqb, List, [], ◌∷◌, ◌++◌, length, All, Option, Some, None, Result, Ok, Err, refl, sym, ap, subst, ◌∙◌, append_assoc, length-append, arith}
use Rattle.std.specs.Prelude.{codes}
use Rattle.std.specs.List.{flat_map, AllByRecursion}
use Rattle.std.specs.Option.{ok_or, option_map_or}
use Rattle.std.proofs.lemmas.Bool.{eqb-true}
use Rattle.std.proofs.lemmas.List.{append_cancel_left}
use Rattle.std.proofs.lemmas.List.Elements.{All-from_recursion, recursion_from_All}
use Rattle.std.proofs.lemmas.Option.{same_Some}
use Rattle.text_lines.specs.Fields.{literal_at, field_at}
use Rattle.text_lines.proofs.Units.{literal_takes, literal_again}
use Rattle.instance_form.specs.Reading.{◌>>=◌}
use Rattle.foundation.proofs.ResultLaws.{same_Ok, same_Err, no_Err, none_from_err, on_err, some_from_ok, then_ok}
use Rattle.schedule_meaning.specs.declared.planners.Answer.{Answer}
use Rattle.schedule_meaning.specs.declared.planners.Answer.TheVariants.{Plan, NoPlan}
use Rattle.certificate_form.specs.CertificateText.{answer_line, entry_line, IsWritableAnswer, IsWritableEntry}
use Rattle.certificate_form.specs.Lines.{entry_line_at}
use Rattle.text_lines.specs.Many.{many_at}
use Rattle.certificate_form.specs.Reading.{sequence_at, plan_at, answer_at, end_at, tail_at}
use Rattle.dp_certificate.specs.declared.Entry.{Entry}
use Rattle.certificate_form.proofs.AnswerLaws.{answer_takes, answer_again}
use Rattle.certificate_form.proofs.EntryLaws.{entry_takes, entry_again, entry_end}
use Rattle.text_lines.proofs.ManyLaws.{many_take, many_again, many_rest, few_texts}

-- the answer, the entries, and the last line
abbrev pub tail_text : ℕ → Answer → List Entry → List ℕ
tail_text phases a es = answer_line a ++ (flat_map (entry_line phases) es ++ codes "end\n")

regrouped_tail : (phases : ℕ) (a : Answer) (es : List Entry) (rest : List ℕ) → tail_text phases a es ++ rest ≡ answer_line a ++ (flat_map (entry_line phases) es ++ (codes "end\n" ++ rest))
regrouped_tail phases a es rest = append_assoc (answer_line a) (flat_map (entry_line phases) es ++ codes "end\n") rest ∙ ap (λ (y : List ℕ). answer_line a ++ y) (append_assoc (flat_map (entry_line phases) es) (codes "end\n") rest)

pub entry_some : (phases : ℕ) (e : Entry) → 1 ≤ length (entry_line phases e)
entry_some phases e = omega (arith, length-append {A = ℕ})

-- ---- a step that failed

-- each fault of the answer's line names that line
sequence_fails : (line n : ℕ) (bytes : List ℕ) → sequence_at line bytes ≡ Err n → n ≡ line
unfolding sequence_at
sequence_fails line n bytes e =
    on_err (ok_or (field_at (2 ^ 8) 10 (many_at (field_at (2 ^ 8) 32) (length bytes) bytes).1) line) e (λ h. sym (none_from_err (field_at (2 ^ 8) 10 (many_at (field_at (2 ^ 8) 32) (length bytes) bytes).1) line n h).1) (λ x h e1. absurd (no_Err {A = List ℕ × List ℕ} refl e1))

plan_fails : (line n : ℕ) (bytes : List ℕ) → plan_at line bytes ≡ Err n → n ≡ line
unfolding plan_at
plan_fails line n bytes e = by_end (field_at (2 ^ 64) 10 bytes) e
  where
    by_end : (o : Option (ℕ × List ℕ)) → ◌≡◌ {A = Result (Answer × List ℕ) ℕ} (option_map_or (λ delay. Ok (Plan [] delay.0, delay.1)) o (ok_or (field_at (2 ^ 64) 32 bytes) line >>= λ delay. sequence_at line delay.1 >>= λ sequence. Ok (Plan sequence.0 delay.0, sequence.1))) (Err n) → n ≡ line
    by_end (Some delay) e' = absurd (no_Err {A = Answer × List ℕ} refl e')
    by_end None e' =
        on_err (ok_or (field_at (2 ^ 64) 32 bytes) line) e' (λ h. sym (none_from_err (field_at (2 ^ 64) 32 bytes) line n h).1) (λ delay h e1.
        on_err (sequence_at line delay.1) e1 (λ k. sequence_fails line n delay.1 k) (λ sequence k e2. absurd (no_Err {A = Answer × List ℕ} refl e2)))

answer_fails : (line n : ℕ) (bytes : List ℕ) → answer_at line bytes ≡ Err n → n ≡ line
unfolding answer_at
answer_fails line n bytes e = by_none (literal_at (codes "answer none\n") bytes) e
  where
    by_none : (o : Option (List ℕ)) → ◌≡◌ {A = Result (Answer × List ℕ) ℕ} (option_map_or (λ rest. Ok (NoPlan, rest)) o (ok_or (literal_at (codes "answer ") bytes) line >>= λ rest. plan_at line rest)) (Err n) → n ≡ line
    by_none (Some rest) e' = absurd (no_Err {A = Answer × List ℕ} refl e')
    by_none None e' =
        on_err (ok_or (literal_at (codes "answer ") bytes) line) e' (λ h. sym (none_from_err (literal_at (codes "answer ") bytes) line n h).1) (λ rest h e1. plan_fails line n rest e1)

-- ---- the last line

pub nothing : (xs : List ℕ) → length xs ≡ 0 → xs ≡ []
nothing [] is = refl
nothing (x ∷ xs) is = absurd (omega arith)

by_length : (b : Bool) (rest x : List ℕ) (m : ℕ) → cond b (Ok rest) (Err m) ≡ Ok x → (b ≡ true) × (rest ≡ x)
by_length true rest x m e = (refl, same_Ok rest x e)
by_length false rest x m e = absurd (no_Err {A = List ℕ} e refl)

end_takes : (line : ℕ) (bytes x : List ℕ) → end_at line bytes ≡ Ok x → bytes ≡ codes "end\n"
unfolding end_at
end_takes line bytes x e =
    then_ok (ok_or (literal_at (codes "end\n") bytes) line) e (λ rest h e1.
    let text = literal_takes (codes "end\n") bytes rest (some_from_ok (literal_at (codes "end\n") bytes) line rest h) in
    let empty = nothing rest (eqb-true (length rest) 0 (by_length (eqb (length rest) 0) rest x (line + 1) e1).0) in
    text ∙ ap (λ (y : List ℕ). codes "end\n" ++ y) empty)

end_again : (line : ℕ) → end_at line (codes "end\n") ≡ Ok []
unfolding end_at
end_again line = rw (literal_again (codes "end\n") []) refl

-- there is no last line, or something follows it
data EndFault (line n : ℕ) (bytes : List ℕ) : Type 0 where
  missing : n ≡ line → literal_at (codes "end\n") bytes ≡ None → EndFault line n bytes
  followed : (rest : List ℕ) → n ≡ line + 1 → bytes ≡ codes "end\n" ++ rest → EndFault line n bytes

end_fails : (line n : ℕ) (bytes : List ℕ) → end_at line bytes ≡ Err n → EndFault line n bytes
unfolding end_at
end_fails line n bytes e =
    on_err (ok_or (literal_at (codes "end\n") bytes) line) e
    (λ h. let none = none_from_err (literal_at (codes "end\n") bytes) line n h in missing (sym none.1) none.0)
    (λ rest h e1. by_length_err (eqb (length rest) 0) rest e1 (literal_takes (codes "end\n") bytes rest (some_from_ok (literal_at (codes "end\n") bytes) line rest h)))
  where
    by_length_err : (b : Bool) (rest : List ℕ) → cond b (Ok rest) (Err (line + 1)) ≡ Err n → bytes ≡ codes "end\n" ++ rest → EndFault line n bytes
    by_length_err true rest e' text = absurd (no_Err {A = List ℕ} refl e')
    by_length_err false rest e' text = followed rest (sym (same_Err {A = List ℕ} (line + 1) n e')) text

-- ---- the whole

module _ (phases : ℕ) (low : 2 ≤ phases) (high : phases ≤ 4) where
  entries_take : (most : ℕ) (bytes : List ℕ) → (bytes ≡ flat_map (entry_line phases) (many_at (entry_line_at phases) most bytes).0 ++ (many_at (entry_line_at phases) most bytes).1) × AllByRecursion (IsWritableEntry phases) (many_at (entry_line_at phases) most bytes).0
  entries_take most bytes = let taken = many_take (entry_line_at phases) (entry_line phases) (IsWritableEntry phases) (entry_takes phases low high) most bytes in (taken.spelled, taken.small)

  entries_again : (es : List Entry) (rest : List ℕ) → AllByRecursion (IsWritableEntry phases) es → entry_line_at phases rest ≡ None
      → (most : ℕ) → length es ≤ most → many_at (entry_line_at phases) most (flat_map (entry_line phases) es ++ rest) ≡ (es, rest)
  entries_again es rest fits none most few = many_again (entry_line_at phases) (entry_line phases) (IsWritableEntry phases) (entry_again phases low high) es most rest few fits none

  shorter : (bytes : List ℕ) (x : Entry × List ℕ) → entry_line_at phases bytes ≡ Some x → length x.1 < length bytes
  shorter bytes x e = let taken = entry_takes phases low high bytes x e in omega (arith, ap length taken.0, length-append (entry_line phases x.0) x.1, entry_some phases x.0)

  pub record TakesTail (bytes : List ℕ) (x : Answer × List Entry) : Type 0 where
    pub spelled : bytes ≡ tail_text phases x.0 x.1
    pub answer : IsWritableAnswer x.0
    pub entries : All (IsWritableEntry phases) x.1

  pub tail_takes : (line : ℕ) (bytes : List ℕ) (x : Answer × List Entry) → tail_at phases line bytes ≡ Ok x → TakesTail bytes x
  unfolding tail_at
  tail_takes line bytes x e =
      then_ok (answer_at line bytes) e (λ answer h e1.
      let read = many_at (entry_line_at phases) (length answer.1) answer.1 in
      then_ok (end_at (line + 1 + length read.0) read.1) e1 (λ rest k e2.
      let first = answer_takes line bytes answer h in
      let many = entries_take (length answer.1) answer.1 in
      let last = end_takes (line + 1 + length read.0) read.1 rest k in
      subst (TakesTail bytes) (same_Ok (answer.0, read.0) x e2) (record {
        spelled = first.spelled ∙ ap (λ (y : List ℕ). answer_line answer.0 ++ y) (many.0 ∙ ap (λ (y : List ℕ). flat_map (entry_line phases) read.0 ++ y) last);
        answer = first.small;
        entries = All-from_recursion (IsWritableEntry phases) read.0 many.1;
      })))

  pub tail_again : (line : ℕ) (a : Answer) (es : List Entry) → IsWritableAnswer a → All (IsWritableEntry phases) es → tail_at phases line (tail_text phases a es) ≡ Ok (a, es)
  unfolding tail_at
  tail_again line a es small fits =
      let rest = flat_map (entry_line phases) es ++ codes "end\n" in
      let read : many_at (entry_line_at phases) (length rest) rest ≡ (es, codes "end\n") = entries_again es (codes "end\n") (recursion_from_All (IsWritableEntry phases) es fits) (entry_end phases []) (length rest) (few_texts (entry_line phases) (entry_some phases) es (codes "end\n")) in
      rw (answer_again line a rest small, read, end_again (line + 1 + length es)) refl

  -- ---- what stands at the front says what it says

  pub answer_once : (a b : Answer) (x y : List ℕ) → IsWritableAnswer a → IsWritableAnswer b → answer_line a ++ x ≡ answer_line b ++ y → (a ≡ b) × (x ≡ y)
  answer_once a b x y fits fits' e =
      let same = same_Ok (a, x) (b, y) (sym (answer_again 0 a x fits) ∙ ap (answer_at 0) e ∙ answer_again 0 b y fits') in
      (ap (λ (z : Answer × List ℕ). z.0) same, ap (λ (z : Answer × List ℕ). z.1) same)

  pub entry_once : (d e : Entry) (x y : List ℕ) → IsWritableEntry phases d → IsWritableEntry phases e → entry_line phases d ++ x ≡ entry_line phases e ++ y → (d ≡ e) × (x ≡ y)
  entry_once d e x y fits fits' is =
      let same = same_Some (d, x) (e, y) (sym (entry_again phases low high d x fits) ∙ ap (entry_line_at phases) is ∙ entry_again phases low high e y fits') in
      (ap (λ (z : Entry × List ℕ). z.0) same, ap (λ (z : Entry × List ℕ). z.1) same)

  pub tail_once : (a b : Answer) (es ds : List Entry) (x y : List ℕ) → IsWritableAnswer a → IsWritableAnswer b → All (IsWritableEntry phases) es → All (IsWritableEntry phases) ds
      → tail_text phases a es ++ x ≡ tail_text phases b ds ++ y → (a ≡ b) × (es ≡ ds) × (x ≡ y)
  tail_once a b es ds x y a_fits b_fits es_fit ds_fit e =
      let first = answer_once a b (flat_map (entry_line phases) es ++ (codes "end\n" ++ x)) (flat_map (entry_line phases) ds ++ (codes "end\n" ++ y)) a_fits b_fits (sym (regrouped_tail phases a es x) ∙ e ∙ regrouped_tail phases b ds y) in
      let most = length es + length ds in
      let one = entries_again es (codes "end\n" ++ x) (recursion_from_All (IsWritableEntry phases) es es_fit) (entry_end phases x) most (omega arith) in
      let two = entries_again ds (codes "end\n" ++ y) (recursion_from_All (IsWritableEntry phases) ds ds_fit) (entry_end phases y) most (omega arith) in
      let same : ◌≡◌ {A = List Entry × List ℕ} (es, codes "end\n" ++ x) (ds, codes "end\n" ++ y) = sym one ∙ ap (many_at (entry_line_at phases) most) first.1 ∙ two in
      (first.0, ap (λ (z : List Entry × List ℕ). z.0) same, append_cancel_left (codes "end\n") x y (ap (λ (z : List Entry × List ℕ). z.1) same))

  -- what entries go on with after entries
  pub record More (w : List ℕ) : Type 0 where
    pub entries : List Entry
    pub fits : AllByRecursion (IsWritableEntry phases) entries
    pub text : flat_map (entry_line phases) entries ++ codes "end\n" ≡ w

  pub entries_begin : (es ds : List Entry) (w : List ℕ) → AllByRecursion (IsWritableEntry phases) es → AllByRecursion (IsWritableEntry phases) ds → flat_map (entry_line phases) ds ++ codes "end\n" ≡ flat_map (entry_line phases) es ++ w → More w
  entries_begin [] ds w es_fit ds_fit e = record { entries = ds; fits = ds_fit; text = e }
  entries_begin (d ∷ es) [] w es_fit ds_fit e =
      let read : entry_line_at phases (codes "end\n") ≡ Some (d, flat_map (entry_line phases) es ++ w) =
      ap (entry_line_at phases) (e ∙ append_assoc (entry_line phases d) (flat_map (entry_line phases) es) w) ∙ entry_again phases low high d (flat_map (entry_line phases) es ++ w) es_fit.0 in
      let both : ◌≡◌ {A = Option (Entry × List ℕ)} None (Some (d, flat_map (entry_line phases) es ++ w)) = sym (entry_end phases []) ∙ read in
      absurd cc
  entries_begin (d ∷ es) (f ∷ ds) w es_fit ds_fit e =
      let tails = entry_once f d (flat_map (entry_line phases) ds ++ codes "end\n") (flat_map (entry_line phases) es ++ w) ds_fit.0 es_fit.0
      (sym (append_assoc (entry_line phases f) (flat_map (entry_line phases) ds) (codes "end\n")) ∙ e ∙ append_assoc (entry_line phases d) (flat_map (entry_line phases) es) w) in
      entries_begin es ds w es_fit.1 ds_fit.1 tails.1

  -- ---- why nothing is read

  -- there is no answer; or, after the entries so far, neither an entry nor the last line; or something follows that
  pub data TailFault (line n : ℕ) (bytes : List ℕ) : Type 0 where
    no_answer : n ≡ line → ((a : Answer) (u : List ℕ) → IsWritableAnswer a → bytes ≡ answer_line a ++ u → ⊥) → TailFault line n bytes
    no_entry : (a : Answer) (es : List Entry) (rest : List ℕ) → n ≡ line + 1 + length es → IsWritableAnswer a → AllByRecursion (IsWritableEntry phases) es
        → bytes ≡ answer_line a ++ (flat_map (entry_line phases) es ++ rest) → entry_line_at phases rest ≡ None → literal_at (codes "end\n") rest ≡ None → TailFault line n bytes
    trailing : (a : Answer) (es : List Entry) (rest : List ℕ) → n ≡ line + 1 + length es + 1 → IsWritableAnswer a → AllByRecursion (IsWritableEntry phases) es → bytes ≡ tail_text phases a es ++ rest → TailFault line n bytes

  pub tail_fails : (line n : ℕ) (bytes : List ℕ) → tail_at phases line bytes ≡ Err n → TailFault line n bytes
  unfolding tail_at
  tail_fails line n bytes e =
      on_err (answer_at line bytes) e
      (λ h. no_answer (answer_fails line n bytes h) (λ a u fits is. no_Err {A = Answer × List ℕ} (ap (answer_at line) is ∙ answer_again line a u fits) h))
      (λ answer h e1.
      let read = many_at (entry_line_at phases) (length answer.1) answer.1 in
      let first = answer_takes line bytes answer h in
      let many = entries_take (length answer.1) answer.1 in
      let spelled : bytes ≡ answer_line answer.0 ++ (flat_map (entry_line phases) read.0 ++ read.1) = first.spelled ∙ ap (λ (y : List ℕ). answer_line answer.0 ++ y) many.0 in
      on_err (end_at (line + 1 + length read.0) read.1) e1
      (λ k. by_end answer.0 read.0 read.1 first.small many.1 spelled (many_rest (entry_line_at phases) shorter (length answer.1) answer.1 (omega arith)) (end_fails (line + 1 + length read.0) n read.1 k))
      (λ rest k e2. absurd (no_Err {A = Answer × List Entry} refl e2)))
    where
      by_end : (a : Answer) (es : List Entry) (rest : List ℕ) → IsWritableAnswer a → AllByRecursion (IsWritableEntry phases) es → bytes ≡ answer_line a ++ (flat_map (entry_line phases) es ++ rest) → entry_line_at phases rest ≡ None
          → EndFault (line + 1 + length es) n rest → TailFault line n bytes
      by_end a es rest small fits spelled none (missing is no_end) = no_entry a es rest is small fits spelled none no_end
      by_end a es rest small fits spelled none (followed after is last) =
          trailing a es after is small fits (spelled ∙ ap (λ (y : List ℕ). answer_line a ++ (flat_map (entry_line phases) es ++ y)) last ∙ sym (regrouped_tail phases a es after))
