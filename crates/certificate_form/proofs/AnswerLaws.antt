-- An answer that is read has this text, and one with this text is read.
use Rattle.std.proofs.Common.{◌≡◌, ℕ, ◌^◌, ◌<◌, ◌≤◌, List, [], ◌∷◌, ◌++◌, length, map, get_or, All, Option, Some, None, Ok, refl, sym, ap, subst, ◌∙◌, append_assoc, length-append, arith}
use Rattle.std.specs.Prelude.{codes}
use Rattle.std.specs.Fmt.{decimal}
use Rattle.std.specs.List.{flat_map, join_with_byte, AllByRecursion}
use Rattle.std.specs.Option.{ok_or, option_map_or}
use Rattle.std.proofs.lemmas.List.Elements.{All-from_recursion, recursion_from_All, All-nil, All-append, All-cons}
use Rattle.text_lines.specs.Fields.{literal_at, field_at}
use Rattle.text_lines.proofs.Units.{literal_takes, literal_again, field_takes, field_again}
use Rattle.instance_form.specs.InstanceText.{line}
use Rattle.instance_form.specs.Reading.{◌>>=◌}
use Rattle.foundation.proofs.ResultLaws.{same_Ok, some_from_ok, then_ok}
use Rattle.schedule_meaning.specs.declared.planners.Answer.{Answer}
use Rattle.schedule_meaning.specs.declared.planners.Answer.TheVariants.{Plan, NoPlan}
use Rattle.certificate_form.specs.CertificateText.{answer_line, IsWritableAnswer}
use Rattle.text_lines.specs.Many.{many_at}
use Rattle.certificate_form.specs.Reading.{sequence_at, plan_at, answer_at}
use Rattle.certificate_form.proofs.Apart.{space, line_feed, literal_apart, field_apart, first_digit}
use Rattle.text_lines.proofs.ManyLaws.{many_take, many_again, few_texts}

-- ---- numbers with a space after each, and a last one

abbrev spaced : ℕ → List ℕ
spaced n = decimal n ++ 32 ∷ []

abbrev IsByte : ℕ → Type 0
IsByte n = n < 2 ^ 8

number_takes : (bytes : List ℕ) (x : ℕ × List ℕ) → field_at (2 ^ 8) 32 bytes ≡ Some x → (bytes ≡ spaced x.0 ++ x.1) × IsByte x.0
number_takes bytes x e = let read = field_takes (2 ^ 8) 32 bytes x.0 x.1 e in (read.1 ∙ sym (append_assoc (decimal x.0) (32 ∷ []) x.1), read.0)

number_again : (n : ℕ) (rest : List ℕ) → IsByte n → field_at (2 ^ 8) 32 (spaced n ++ rest) ≡ Some (n, rest)
number_again n rest lt = ap (field_at (2 ^ 8) 32) (append_assoc (decimal n) (32 ∷ []) rest) ∙ field_again (2 ^ 8) 32 n rest (omega arith) space lt

-- numbers joined by spaces
joined : (front : List ℕ) (last : ℕ) (rest : List ℕ) → join_with_byte 32 (map decimal (front ++ last ∷ [])) ++ rest ≡ flat_map spaced front ++ (decimal last ++ rest)
joined [] last rest = refl
joined (n ∷ []) last rest = simp append_assoc
joined (n ∷ m ∷ ns) last rest =
    let more = joined (m ∷ ns) last rest in
    append_assoc (decimal n) (32 ∷ join_with_byte 32 (map decimal ((m ∷ ns) ++ last ∷ []))) rest
    ∙ ap (λ (y : List ℕ). decimal n ++ 32 ∷ y) more
    ∙ sym (append_assoc (decimal n) (32 ∷ []) (flat_map spaced (m ∷ ns) ++ (decimal last ++ rest)))
    ∙ sym (append_assoc (spaced n) (flat_map spaced (m ∷ ns)) (decimal last ++ rest))

-- the last of some numbers, and those before it
pub record LastOf (xs : List ℕ) : Type 0 where
  pub front : List ℕ
  pub last : ℕ
  pub parts : xs ≡ front ++ last ∷ []

last_of : (k : ℕ) (ks : List ℕ) → LastOf (k ∷ ks)
last_of k [] = record { front = []; last = k; parts = refl }
last_of k (j ∷ ks) = let more = last_of j ks in record { front = k ∷ more.front; last = more.last; parts = ap (λ (y : List ℕ). k ∷ y) more.parts }

-- what a sequence's line says
abbrev numbers_text : List ℕ → List ℕ → List ℕ
numbers_text ks rest = join_with_byte 32 (map decimal ks) ++ 10 ∷ rest

pub record TakesSequence (bytes : List ℕ) (x : List ℕ × List ℕ) : Type 0 where
  pub spelled : bytes ≡ numbers_text x.0 x.1
  pub small : All IsByte x.0
  pub some : 0 < length x.0

sequence_takes : (line : ℕ) (bytes : List ℕ) (x : List ℕ × List ℕ) → sequence_at line bytes ≡ Ok x → TakesSequence bytes x
unfolding sequence_at
sequence_takes line bytes x e =
    let front = many_at (field_at (2 ^ 8) 32) (length bytes) bytes in
    let before = many_take (field_at (2 ^ 8) 32) spaced IsByte number_takes (length bytes) bytes in
    then_ok (ok_or (field_at (2 ^ 8) 10 front.1) line) e (λ last h e1.
    let read = field_takes (2 ^ 8) 10 front.1 last.0 last.1 (some_from_ok (field_at (2 ^ 8) 10 front.1) line last h) in
    subst (TakesSequence bytes) (same_Ok (front.0 ++ last.0 ∷ [], last.1) x e1) (record {
      spelled = before.spelled ∙ ap (λ (y : List ℕ). flat_map spaced front.0 ++ y) read.1 ∙ sym (joined front.0 last.0 (10 ∷ last.1));
      small = All-append IsByte front.0 (last.0 ∷ []) (All-from_recursion IsByte front.0 before.small) (All-cons IsByte last.0 [] read.0 (All-nil IsByte));
      some = omega (arith, length-append front.0 (last.0 ∷ []));
    }))

sequence_again_of : (line : ℕ) (front : List ℕ) (last : ℕ) (rest : List ℕ) → AllByRecursion IsByte front → IsByte last → sequence_at line (numbers_text (front ++ last ∷ []) rest) ≡ Ok (front ++ last ∷ [], rest)
unfolding sequence_at
sequence_again_of line front last rest small last_small =
    let tail = decimal last ++ 10 ∷ rest in
    let bytes = flat_map spaced front ++ tail in
    let none : field_at (2 ^ 8) 32 tail ≡ None = field_apart (2 ^ 8) 32 10 last rest (omega arith) (omega arith) space line_feed (λ h. omega arith) in
    let few : length front ≤ length bytes = few_texts spaced (λ n. omega (arith, length-append (decimal n) (32 ∷ []))) front tail in
    let read : many_at (field_at (2 ^ 8) 32) (length bytes) bytes ≡ (front, tail) = many_again (field_at (2 ^ 8) 32) spaced IsByte number_again front (length bytes) tail few small none in
    ap (sequence_at line) (joined front last (10 ∷ rest)) ∙ rw (read, field_again (2 ^ 8) 10 last rest (omega arith) line_feed last_small) refl

sequence_again : (line k : ℕ) (ks rest : List ℕ) → All IsByte (k ∷ ks) → sequence_at line (numbers_text (k ∷ ks) rest) ≡ Ok (k ∷ ks, rest)
sequence_again line k ks rest small = by_parts (last_of k ks)
  where
    by_parts : LastOf (k ∷ ks) → sequence_at line (numbers_text (k ∷ ks) rest) ≡ Ok (k ∷ ks, rest)
    by_parts l =
        let all = recursion_from_All IsByte (l.front ++ l.last ∷ []) (subst (All IsByte) l.parts small) in
        let both = split l.front all in
        subst (λ (xs : List ℕ). sequence_at line (numbers_text xs rest) ≡ Ok (xs, rest)) (sym l.parts) (sequence_again_of line l.front l.last rest both.0 both.1)
      where
        split : (xs : List ℕ) → AllByRecursion IsByte (xs ++ l.last ∷ []) → AllByRecursion IsByte xs × IsByte l.last
        split [] h = (tt, h.0)
        split (x ∷ xs) h = let more = split xs h.1 in ((h.0, more.0), more.1)

-- ---- a plan

-- after the first word of its line
plan_text : List ℕ → ℕ → List ℕ → List ℕ
plan_text [] delay rest = decimal delay ++ 10 ∷ rest
plan_text (k ∷ ks) delay rest = decimal delay ++ 32 ∷ numbers_text (k ∷ ks) rest

plan_is : (ks : List ℕ) (delay : ℕ) (rest : List ℕ) → answer_line (Plan ks delay) ++ rest ≡ codes "answer " ++ plan_text ks delay rest
unfolding plan_text
plan_is [] delay rest = simp append_assoc
plan_is (k ∷ ks) delay rest = simp append_assoc

pub record TakesAnswer (bytes : List ℕ) (x : Answer × List ℕ) : Type 0 where
  pub spelled : bytes ≡ answer_line x.0 ++ x.1
  pub small : IsWritableAnswer x.0

plan_takes : (line : ℕ) (bytes : List ℕ) (x : Answer × List ℕ) → plan_at line bytes ≡ Ok x → TakesAnswer (codes "answer " ++ bytes) x
unfolding plan_at plan_text
plan_takes line bytes x e = by_end (field_at (2 ^ 64) 10 bytes) refl e
  where
    by_sequence : (sequence : List ℕ × List ℕ) (delay : ℕ × List ℕ) → bytes ≡ decimal delay.0 ++ 32 ∷ delay.1 → delay.0 < 2 ^ 64 → TakesSequence delay.1 sequence → TakesAnswer (codes "answer " ++ bytes) (Plan sequence.0 delay.0, sequence.1)
    by_sequence ([], rest) delay spelled lt read = let some = read.some in absurd (omega arith)
    by_sequence (k ∷ ks, rest) delay spelled lt read = record {
      spelled = ap (λ (y : List ℕ). codes "answer " ++ y) (spelled ∙ ap (λ (y : List ℕ). decimal delay.0 ++ 32 ∷ y) read.spelled) ∙ sym (plan_is (k ∷ ks) delay.0 rest);
      small = (read.small, lt);
    }

    by_end : (o : Option (ℕ × List ℕ)) → field_at (2 ^ 64) 10 bytes ≡ o → option_map_or (λ delay. Ok (Plan [] delay.0, delay.1)) o (ok_or (field_at (2 ^ 64) 32 bytes) line >>= λ delay. sequence_at line delay.1 >>= λ sequence. Ok (Plan sequence.0 delay.0, sequence.1)) ≡ Ok x
        → TakesAnswer (codes "answer " ++ bytes) x
    by_end (Some delay) h e' =
        let read = field_takes (2 ^ 64) 10 bytes delay.0 delay.1 h in
        subst (TakesAnswer (codes "answer " ++ bytes)) (same_Ok (Plan [] delay.0, delay.1) x e') (record {
          spelled = ap (λ (y : List ℕ). codes "answer " ++ y) read.1 ∙ sym (plan_is [] delay.0 delay.1);
          small = (All-nil IsByte, read.0);
        })
    by_end None h e' =
        then_ok (ok_or (field_at (2 ^ 64) 32 bytes) line) e' (λ delay h1 e1.
        then_ok (sequence_at line delay.1) e1 (λ sequence h2 e2.
        let read = field_takes (2 ^ 64) 32 bytes delay.0 delay.1 (some_from_ok (field_at (2 ^ 64) 32 bytes) line delay h1) in
        subst (TakesAnswer (codes "answer " ++ bytes)) (same_Ok (Plan sequence.0 delay.0, sequence.1) x e2) (by_sequence sequence delay read.1 read.0 (sequence_takes line delay.1 sequence h2))))

plan_again : (line : ℕ) (ks : List ℕ) (delay : ℕ) (rest : List ℕ) → All IsByte ks → delay < 2 ^ 64 → plan_at line (plan_text ks delay rest) ≡ Ok (Plan ks delay, rest)
unfolding plan_at plan_text
plan_again line [] delay rest small lt = rw (field_again (2 ^ 64) 10 delay rest (omega arith) line_feed lt) refl
plan_again line (k ∷ ks) delay rest small lt =
    let tail = numbers_text (k ∷ ks) rest in
    rw (field_apart (2 ^ 64) 10 32 delay tail (omega arith) lt line_feed space (λ h. omega arith), field_again (2 ^ 64) 32 delay tail (omega arith) space lt, sequence_again line k ks rest small) refl

-- ---- an answer

pub answer_takes : (line : ℕ) (bytes : List ℕ) (x : Answer × List ℕ) → answer_at line bytes ≡ Ok x → TakesAnswer bytes x
unfolding answer_at
answer_takes line bytes x e = by_none (literal_at (codes "answer none\n") bytes) refl e
  where
    by_none : (o : Option (List ℕ)) → literal_at (codes "answer none\n") bytes ≡ o → option_map_or (λ rest. Ok (NoPlan, rest)) o (ok_or (literal_at (codes "answer ") bytes) line >>= λ rest. plan_at line rest) ≡ Ok x → TakesAnswer bytes x
    by_none (Some rest) h e' = subst (TakesAnswer bytes) (same_Ok (NoPlan, rest) x e') (record { spelled = literal_takes (codes "answer none\n") bytes rest h; small = tt })
    by_none None h e' =
        then_ok (ok_or (literal_at (codes "answer ") bytes) line) e' (λ rest h1 e1.
        let text = literal_takes (codes "answer ") bytes rest (some_from_ok (literal_at (codes "answer ") bytes) line rest h1) in
        subst (λ (y : List ℕ). TakesAnswer y x) (sym text) (plan_takes line rest x e1))

-- the bytes of a plan are not those of no plan
no_none : (ks : List ℕ) (delay : ℕ) (rest : List ℕ) → delay < 2 ^ 64 → literal_at (codes "answer none\n") (codes "answer " ++ plan_text ks delay rest) ≡ None
unfolding plan_text
no_none ks delay rest lt = literal_apart (codes "answer none\n") (codes "answer " ++ plan_text ks delay rest) (λ y e. no_digit (ap (λ (x : List ℕ). get_or x 7 0) e))
  where
    digit : (xs : List ℕ) → 48 ≤ get_or (plan_text xs delay rest) 0 0 × (get_or (plan_text xs delay rest) 0 0 ≤ 57)
    digit [] = first_digit delay (10 ∷ rest) lt
    digit (k ∷ xs) = first_digit delay (32 ∷ numbers_text (k ∷ xs) rest) lt

    no_digit : get_or (plan_text ks delay rest) 0 0 ≡ 110 → ⊥
    no_digit is = let within = digit ks in omega (arith, within.0, within.1)

pub answer_again : (line : ℕ) (a : Answer) (rest : List ℕ) → IsWritableAnswer a → answer_at line (answer_line a ++ rest) ≡ Ok (a, rest)
unfolding answer_at
answer_again line NoPlan rest fits = rw (literal_again (codes "answer none\n") rest) refl
answer_again line (Plan ks delay) rest fits =
    ap (answer_at line) (plan_is ks delay rest) ∙ rw (no_none ks delay rest fits.1, literal_again (codes "answer ") (plan_text ks delay rest), plan_again line ks delay rest fits.0 fits.1) refl
