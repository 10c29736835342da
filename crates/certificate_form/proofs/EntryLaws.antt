-- An entry that is read has this text, and one with this text is read.
use Rattle.std.proofs.Common.{◌≡◌, ℕ, zero, suc, ◌^◌, ◌<◌, ◌≤◌, ◌-◌, Bool, true, false, ltb, eqb, List, [], ◌∷◌, ◌++◌, length, take, drop, get_or, Option, Some, None, refl, sym, ap, subst, ◌∙◌, append_assoc, length-append, arith}
use Rattle.std.specs.List.{starts_with}
use Rattle.std.proofs.lemmas.Bool.Decides.{Decides-eqb}
use Rattle.std.proofs.lemmas.Slice.Eq.{starts_is}
use Rattle.std.proofs.Math.Seq.{drop-append_seam, take-append_seam, take-length}
use Rattle.std.proofs.lemmas.List.{length-drop}
use Rattle.foundation.specs.Options.{◌>>=◌}
use Rattle.std.specs.Prelude.{codes}
use Rattle.std.specs.Fmt.{decimal}
use Rattle.std.proofs.lemmas.Bool.{le-ltb, ltb-false}
use Rattle.std.proofs.lemmas.List.Elements.{All-from_recursion, recursion_from_All}
use Rattle.std.proofs.lemmas.Option.{same_Some}
use Rattle.text_lines.specs.Fields.{literal_at, field_at}
use Rattle.text_lines.proofs.Units.{literal_takes, literal_again, field_takes, field_again}
use Rattle.instance_form.proofs.NumberLaws.{then_some}
use Rattle.certificate_form.specs.CertificateText.{entry_line, IsWritableEntry}
use Rattle.certificate_form.specs.Lines.{IsFrontText, entry_after_at, count_at, entry_line_at, front_at}
use Rattle.certificate_form.specs.declared.lines.Front.{Front}
use Rattle.dp_certificate.specs.declared.Entry.{Entry}
use Rattle.certificate_form.proofs.Apart.{space, line_feed, literal_apart}

-- ---- a count

abbrev count_text : Bool → ℕ → List ℕ
count_text true n = decimal n ++ 32 ∷ []
count_text false n = []

pub record TakesCount (there : Bool) (bytes : List ℕ) (x : ℕ × List ℕ) : Type 0 where
  pub spelled : bytes ≡ count_text there x.0 ++ x.1
  pub small : x.0 < 2 ^ 8
  pub absent : there ≡ false → x.0 ≡ 0

count_takes : (there : Bool) (bytes : List ℕ) (x : ℕ × List ℕ) → count_at there bytes ≡ Some x → TakesCount there bytes x
unfolding count_at
count_takes true bytes x e =
    let read = field_takes (2 ^ 8) 32 bytes x.0 x.1 e in
    record { spelled = read.1 ∙ sym (append_assoc (decimal x.0) (32 ∷ []) x.1); small = read.0; absent = λ h. absurd cc }
count_takes false bytes x e = subst (TakesCount false bytes) (same_Some (0, bytes) x e) (record { spelled = refl; small = omega arith; absent = λ h. refl })

count_again : (there : Bool) (n : ℕ) (rest : List ℕ) → n < 2 ^ 8 → (there ≡ false → n ≡ 0) → count_at there (count_text there n ++ rest) ≡ Some (n, rest)
unfolding count_at
count_again true n rest lt absent = ap (field_at (2 ^ 8) 32) (append_assoc (decimal n) (32 ∷ []) rest) ∙ field_again (2 ^ 8) 32 n rest (omega arith) space lt
count_again false n rest lt absent = ap (λ m. Some (m, rest)) (sym (absent refl))

-- ---- an entry

entry_of : (a b c d phase since at delay : ℕ) → Entry
entry_of a b c d phase since at delay = record { counts = a ∷ b ∷ c ∷ d ∷ []; phase = phase; since = since; at = at; delay = delay }

-- what stands after the counts
head_text : (phase since at delay : ℕ) (rest : List ℕ) → List ℕ
head_text phase since at delay rest = decimal phase ++ 32 ∷ (decimal since ++ 32 ∷ (decimal at ++ 32 ∷ (decimal delay ++ 10 ∷ rest)))

-- an entry's line, as its units are read
regrouped_entry : (phases a b c d phase since at delay : ℕ) (rest : List ℕ) → 2 ≤ phases → phases ≤ 4 → entry_line phases (entry_of a b c d phase since at delay) ++ rest
    ≡ codes "entry " ++ (count_text (ltb 0 phases) a ++ (count_text (ltb 1 phases) b ++ (count_text (ltb 2 phases) c ++ (count_text (ltb 3 phases) d ++ head_text phase since at delay rest))))
unfolding entry_of head_text
regrouped_entry zero a b c d phase since at delay rest low high = absurd (omega arith)
regrouped_entry (suc zero) a b c d phase since at delay rest low high = absurd (omega arith)
regrouped_entry (suc (suc zero)) a b c d phase since at delay rest low high = simp append_assoc
regrouped_entry (suc (suc (suc zero))) a b c d phase since at delay rest low high = simp append_assoc
regrouped_entry (suc (suc (suc (suc zero)))) a b c d phase since at delay rest low high = simp append_assoc
regrouped_entry (suc (suc (suc (suc (suc n))))) a b c d phase since at delay rest low high = absurd (omega arith)

-- what an entry's counts past the last phase are
none_past : (phases a b c d : ℕ) → (ltb 0 phases ≡ false → a ≡ 0) → (ltb 1 phases ≡ false → b ≡ 0) → (ltb 2 phases ≡ false → c ≡ 0) → (ltb 3 phases ≡ false → d ≡ 0)
    → (k : ℕ) → phases ≤ k → get_or (a ∷ b ∷ c ∷ d ∷ []) k 0 ≡ 0
none_past phases a b c d p q r s zero le = p (le-ltb 0 phases le)
none_past phases a b c d p q r s (suc zero) le = q (le-ltb 1 phases le)
none_past phases a b c d p q r s (suc (suc zero)) le = r (le-ltb 2 phases le)
none_past phases a b c d p q r s (suc (suc (suc zero))) le = s (le-ltb 3 phases le)
none_past phases a b c d p q r s (suc (suc (suc (suc k)))) le = refl

pub entry_takes : (phases : ℕ) → 2 ≤ phases → phases ≤ 4 → (bytes : List ℕ) (x : Entry × List ℕ) → entry_line_at phases bytes ≡ Some x → (bytes ≡ entry_line phases x.0 ++ x.1) × IsWritableEntry phases x.0
unfolding entry_line_at front_at entry_after_at entry_of head_text
entry_takes phases low high bytes x e =
    then_some (front_at phases bytes) e (λ front h e_front.
    then_some (literal_at (codes "entry ") bytes) h (λ rest h0 e0.
    then_some (count_at (ltb 0 phases) rest) e0 (λ first h1 e1.
    then_some (count_at (ltb 1 phases) first.1) e1 (λ second h2 e2.
    then_some (count_at (ltb 2 phases) second.1) e2 (λ third h3 e3.
    then_some (count_at (ltb 3 phases) third.1) e3 (λ fourth h4 e4.
    then_some (field_at (2 ^ 8) 32 fourth.1) e4 (λ phase h5 e5.
    let is_front = same_Some (record { counts = first.0 ∷ second.0 ∷ third.0 ∷ fourth.0 ∷ []; phase = phase.0 }, phase.1) front e5 in
    let e_behind = subst (λ (f : Front × List ℕ). entry_after_at f.0 f.1 ≡ Some x) (sym is_front) e_front in
    then_some (field_at (2 ^ 32) 32 phase.1) e_behind (λ since h6 e6.
    then_some (field_at (2 ^ 32) 32 since.1) e6 (λ at h7 e7.
    then_some (field_at (2 ^ 64) 10 at.1) e7 (λ delay h8 e8.
    let text = literal_takes (codes "entry ") bytes rest h0 in
    let t1 = count_takes (ltb 0 phases) rest first h1 in
    let t2 = count_takes (ltb 1 phases) first.1 second h2 in
    let t3 = count_takes (ltb 2 phases) second.1 third h3 in
    let t4 = count_takes (ltb 3 phases) third.1 fourth h4 in
    let t5 = field_takes (2 ^ 8) 32 fourth.1 phase.0 phase.1 h5 in
    let t6 = field_takes (2 ^ 32) 32 phase.1 since.0 since.1 h6 in
    let t7 = field_takes (2 ^ 32) 32 since.1 at.0 at.1 h7 in
    let t8 = field_takes (2 ^ 64) 10 at.1 delay.0 delay.1 h8 in
    let entry : Entry = record { counts = first.0 ∷ second.0 ∷ third.0 ∷ fourth.0 ∷ []; phase = phase.0; since = since.0; at = at.0; delay = delay.0 } in
    let regrouped = regrouped_entry phases first.0 second.0 third.0 fourth.0 phase.0 since.0 at.0 delay.0 delay.1 low high in
    let s1 = t1.spelled in let s2 = t2.spelled in let s3 = t3.spelled in let s4 = t4.spelled in
    subst (λ (y : Entry × List ℕ). (bytes ≡ entry_line phases y.0 ++ y.1) × IsWritableEntry phases y.0) (same_Some (entry, delay.1) x e8) (
      text
          ∙ ap (λ (y : List ℕ). codes "entry " ++ y) (t1.spelled
          ∙ ap (λ (y : List ℕ). count_text (ltb 0 phases) first.0 ++ y) (t2.spelled
          ∙ ap (λ (y : List ℕ). count_text (ltb 1 phases) second.0 ++ y) (t3.spelled
          ∙ ap (λ (y : List ℕ). count_text (ltb 2 phases) third.0 ++ y) (t4.spelled
          ∙ ap (λ (y : List ℕ). count_text (ltb 3 phases) fourth.0 ++ y) (t5.1
          ∙ ap (λ (y : List ℕ). decimal phase.0 ++ 32 ∷ y) (t6.1
          ∙ ap (λ (y : List ℕ). decimal since.0 ++ 32 ∷ y) (t7.1
          ∙ ap (λ (y : List ℕ). decimal at.0 ++ 32 ∷ y) t8.1)))))))
          ∙ sym regrouped,
      record {
        places = refl;
        counts = All-from_recursion (λ n. n < 2 ^ 8) (first.0 ∷ second.0 ∷ third.0 ∷ fourth.0 ∷ []) (t1.small, (t2.small, (t3.small, (t4.small, tt))));
        past = none_past phases first.0 second.0 third.0 fourth.0 t1.absent t2.absent t3.absent t4.absent;
        phase = t5.0;
        since = t6.0;
        at = t7.0;
        delay = t8.0;
      },
    )))))))))))

entry_again_of : (phases a b c d phase since at delay : ℕ) (rest : List ℕ) → 2 ≤ phases → phases ≤ 4 → IsWritableEntry phases (entry_of a b c d phase since at delay)
    → entry_line_at phases (entry_line phases (entry_of a b c d phase since at delay) ++ rest) ≡ Some (entry_of a b c d phase since at delay, rest)
unfolding entry_line_at front_at entry_after_at entry_of head_text
entry_again_of phases a b c d phase since at delay rest low high fits =
    let small = recursion_from_All (λ n. n < 2 ^ 8) (a ∷ b ∷ c ∷ d ∷ []) fits.counts in
    let units = head_text phase since at delay rest in
    let fourth = count_text (ltb 3 phases) d ++ units in
    let third = count_text (ltb 2 phases) c ++ fourth in
    let second = count_text (ltb 1 phases) b ++ third in
    let first = count_text (ltb 0 phases) a ++ second in
    let last = decimal delay ++ 10 ∷ rest in
    let behind_since = decimal at ++ 32 ∷ last in
    let behind_phase = decimal since ++ 32 ∷ behind_since in
    ap (entry_line_at phases) (regrouped_entry phases a b c d phase since at delay rest low high) ∙ rw (
      literal_again (codes "entry ") first,
      count_again (ltb 0 phases) a second small.0 (λ h. fits.past 0 (ltb-false 0 phases h)),
      count_again (ltb 1 phases) b third small.1.0 (λ h. fits.past 1 (ltb-false 1 phases h)),
      count_again (ltb 2 phases) c fourth small.1.1.0 (λ h. fits.past 2 (ltb-false 2 phases h)),
      count_again (ltb 3 phases) d units small.1.1.1.0 (λ h. fits.past 3 (ltb-false 3 phases h)),
      field_again (2 ^ 8) 32 phase behind_phase (omega arith) space fits.phase,
      field_again (2 ^ 32) 32 since behind_since (omega arith) space fits.since,
      field_again (2 ^ 32) 32 at last (omega arith) space fits.at,
      field_again (2 ^ 64) 10 delay rest (omega arith) line_feed fits.delay,
    ) refl

-- a list of four
of_four : (P : List ℕ → Type 0) → ((a b c d : ℕ) → P (a ∷ b ∷ c ∷ d ∷ [])) → (xs : List ℕ) → length xs ≡ 4 → P xs
of_four P all [] is = absurd (omega arith)
of_four P all (a ∷ []) is = absurd (omega arith)
of_four P all (a ∷ b ∷ []) is = absurd (omega arith)
of_four P all (a ∷ b ∷ c ∷ []) is = absurd (omega arith)
of_four P all (a ∷ b ∷ c ∷ d ∷ []) is = all a b c d
of_four P all (a ∷ b ∷ c ∷ d ∷ e ∷ xs) is = absurd (omega arith)

pub entry_again : (phases : ℕ) → 2 ≤ phases → phases ≤ 4 → (e : Entry) (rest : List ℕ) → IsWritableEntry phases e → entry_line_at phases (entry_line phases e ++ rest) ≡ Some (e, rest)
unfolding entry_of
entry_again phases low high e rest fits =
    of_four (λ counts. let f : Entry = record { counts = counts; phase = e.phase; since = e.since; at = e.at; delay = e.delay } in IsWritableEntry phases f → entry_line_at phases (entry_line phases f ++ rest) ≡ Some (f, rest))
    (λ a b c d is. entry_again_of phases a b c d e.phase e.since e.at e.delay rest low high is) e.counts fits.places fits

-- ---- the front of an entry's line

front_text : (phases a b c d phase : ℕ) → List ℕ
front_text phases a b c d phase =
    codes "entry " ++ (count_text (ltb 0 phases) a ++ (count_text (ltb 1 phases) b ++ (count_text (ltb 2 phases) c ++ (count_text (ltb 3 phases) d ++ (decimal phase ++ 32 ∷ [])))))

regrouped_front : (phases a b c d phase : ℕ) (rest : List ℕ) → front_text phases a b c d phase ++ rest
    ≡ codes "entry " ++ (count_text (ltb 0 phases) a ++ (count_text (ltb 1 phases) b ++ (count_text (ltb 2 phases) c ++ (count_text (ltb 3 phases) d ++ (decimal phase ++ 32 ∷ rest)))))
unfolding front_text
regrouped_front phases a b c d phase rest = simp append_assoc

-- what a front is read from, which is read so whatever follows it
pub record TakesFront (phases : ℕ) (bytes : List ℕ) (x : Front × List ℕ) : Type 0 where
  pub text : List ℕ
  pub spelled : bytes ≡ text ++ x.1
  pub again : IsFrontText phases x.0 text

pub front_takes : (phases : ℕ) (bytes : List ℕ) (x : Front × List ℕ) → front_at phases bytes ≡ Some x → TakesFront phases bytes x
unfolding front_at
front_takes phases bytes x e =
    then_some (literal_at (codes "entry ") bytes) e (λ rest h0 e0.
    then_some (count_at (ltb 0 phases) rest) e0 (λ first h1 e1.
    then_some (count_at (ltb 1 phases) first.1) e1 (λ second h2 e2.
    then_some (count_at (ltb 2 phases) second.1) e2 (λ third h3 e3.
    then_some (count_at (ltb 3 phases) third.1) e3 (λ fourth h4 e4.
    then_some (field_at (2 ^ 8) 32 fourth.1) e4 (λ phase h5 e5.
    let text = literal_takes (codes "entry ") bytes rest h0 in
    let t1 = count_takes (ltb 0 phases) rest first h1 in
    let t2 = count_takes (ltb 1 phases) first.1 second h2 in
    let t3 = count_takes (ltb 2 phases) second.1 third h3 in
    let t4 = count_takes (ltb 3 phases) third.1 fourth h4 in
    let t5 = field_takes (2 ^ 8) 32 fourth.1 phase.0 phase.1 h5 in
    let front : Front = record { counts = first.0 ∷ second.0 ∷ third.0 ∷ fourth.0 ∷ []; phase = phase.0 } in
    subst (TakesFront phases bytes) (same_Some (front, phase.1) x e5) (record {
      text = front_text phases first.0 second.0 third.0 fourth.0 phase.0;
      spelled = text
          ∙ ap (λ (y : List ℕ). codes "entry " ++ y) (t1.spelled
          ∙ ap (λ (y : List ℕ). count_text (ltb 0 phases) first.0 ++ y) (t2.spelled
          ∙ ap (λ (y : List ℕ). count_text (ltb 1 phases) second.0 ++ y) (t3.spelled
          ∙ ap (λ (y : List ℕ). count_text (ltb 2 phases) third.0 ++ y) (t4.spelled
          ∙ ap (λ (y : List ℕ). count_text (ltb 3 phases) fourth.0 ++ y) t5.1))))
          ∙ sym (regrouped_front phases first.0 second.0 third.0 fourth.0 phase.0 phase.1);
      again = λ more.
          let last = decimal phase.0 ++ 32 ∷ more in
          let behind_third = count_text (ltb 3 phases) fourth.0 ++ last in
          let behind_second = count_text (ltb 2 phases) third.0 ++ behind_third in
          let behind_first = count_text (ltb 1 phases) second.0 ++ behind_second in
          let all = count_text (ltb 0 phases) first.0 ++ behind_first in
          ap (front_at phases) (regrouped_front phases first.0 second.0 third.0 fourth.0 phase.0 more) ∙ rw (
            literal_again (codes "entry ") all,
            count_again (ltb 0 phases) first.0 behind_first t1.small t1.absent,
            count_again (ltb 1 phases) second.0 behind_second t2.small t2.absent,
            count_again (ltb 2 phases) third.0 behind_third t3.small t3.absent,
            count_again (ltb 3 phases) fourth.0 last t4.small t4.absent,
            field_again (2 ^ 8) 32 phase.0 more (omega arith) space t5.0,
          ) refl;
    })))))))

-- the front of bytes, and what follows it
pub front_cut : (phases : ℕ) (bytes : List ℕ) (f : Front) (rest : List ℕ) → Some (f, rest) ≡ front_at phases bytes
    → (drop (length bytes - length rest) bytes ≡ rest) × IsFrontText phases f (take (length bytes - length rest) bytes)
front_cut phases bytes f rest e =
    let t = front_takes phases bytes (f, rest) (sym e) in
    let end : length bytes - length rest ≡ length t.text = omega (arith, ap length t.spelled, length-append t.text rest) in (
      ap (λ k. drop k bytes) end ∙ ap (drop (length t.text)) t.spelled ∙ drop-append_seam t.text rest,
      subst (IsFrontText phases f) (sym (ap (λ k. take k bytes) end ∙ ap (take (length t.text)) t.spelled ∙ take-append_seam t.text rest)) t.again,
    )

-- bytes that begin with a front's text have that front
pub front_again : (phases : ℕ) (f : Front) (text bytes : List ℕ) → IsFrontText phases f text → starts_with eqb bytes text ≡ true
    → (Some (f, drop (length text) bytes) ≡ front_at phases bytes) × (take (length text) bytes ≡ text)
front_again phases f text bytes again begins =
    let rest = drop (length text) bytes in
    let e : bytes ≡ text ++ rest = (starts_is Decides-eqb bytes text (starts_with eqb bytes text) refl).0 begins in
    (sym (ap (front_at phases) e ∙ again rest), ap (take (length text)) e ∙ take-append_seam text rest)

-- what follows a place, as a slice
pub rest_from : (n : ℕ) (bytes : List ℕ) → take (length bytes - n) (drop n bytes) ≡ drop n bytes
rest_from n bytes = ap (λ k. take k (drop n bytes)) (sym (length-drop n bytes)) ∙ take-length (drop n bytes)

-- an entry's line is its front and what follows
pub line_read : (phases : ℕ) (bytes : List ℕ) (f : Front) (n : ℕ) (o : Option (Entry × List ℕ)) → Some (f, drop n bytes) ≡ front_at phases bytes → o ≡ entry_after_at f (take (length bytes - n) (drop n bytes))
    → entry_line_at phases bytes ≡ o
unfolding entry_line_at
line_read phases bytes f n o e h = ap (λ (x : Option (Front × List ℕ)). x >>= (λ y. entry_after_at y.0 y.1)) (sym e) ∙ ap (entry_after_at f) (sym (rest_from n bytes)) ∙ sym h

pub line_none : (phases : ℕ) (bytes : List ℕ) → None ≡ front_at phases bytes → entry_line_at phases bytes ≡ None
unfolding entry_line_at
line_none phases bytes e = ap (λ (x : Option (Front × List ℕ)). x >>= (λ y. entry_after_at y.0 y.1)) (sym e)

-- the last line is no entry's
pub entry_end : (phases : ℕ) (rest : List ℕ) → entry_line_at phases (codes "end\n" ++ rest) ≡ None
unfolding entry_line_at front_at
entry_end phases rest =
    let none : literal_at (codes "entry ") (codes "end\n" ++ rest) ≡ None = literal_apart (codes "entry ") (codes "end\n" ++ rest) (λ y e. let at_two : 100 ≡ 116 = ap (λ (x : List ℕ). get_or x 2 0) e in omega arith) in
    rw none refl
