-- The numbers and words of a line: those that are read have this text, and those with this text are read.
use Rattle.std.proofs.Common.{◌≡◌, ℕ, ◌^◌, ◌<◌, ◌≤◌, List, [], ◌∷◌, ◌++◌, length, Option, Some, None, refl, sym, ap, subst, ◌∙◌, append_assoc, arith}
use Rattle.std.specs.Char.{IsAsciiDigit}
use Rattle.std.specs.Fmt.{decimal}
use Rattle.std.specs.List.{AllByRecursion}
use Rattle.std.specs.Option.{option_or, option_map}
use Rattle.std.proofs.lemmas.Option.{same_Some}
use Rattle.foundation.specs.Options.{◌>>=◌}
use Rattle.text_lines.specs.Fields.{literal_at, field_at}
use Rattle.text_lines.proofs.Units.{literal_takes, literal_again, field_takes, field_again}
use Rattle.instance_form.specs.Lines.{separator, numbers_at, value_at}

-- a step that is there
pub then_some : {A B P : Type 0} (o : Option A) {f : A → Option B} {y : B} → (o >>= f) ≡ Some y → ((x : A) → o ≡ Some x → f x ≡ Some y → P) → P
then_some (Some x) e go = go x refl e
then_some None e go = absurd cc

-- the separators are no digits
pub space : ¬ IsAsciiDigit 32
space h = omega arith

pub line_feed : ¬ IsAsciiDigit 10
line_feed h = omega arith

apart : (ns : List ℕ) (last : ℕ) → ¬ IsAsciiDigit last → ¬ IsAsciiDigit (separator ns last)
apart [] last h = h
apart (n ∷ ns) last h = space

-- numbers as they stand in a line
abbrev pub numbers_text : ℕ → List ℕ → List ℕ
numbers_text last [] = []
numbers_text last (n ∷ ns) = decimal n ++ separator ns last ∷ numbers_text last ns

-- as many numbers as limits, each below its own
abbrev pub AreBelow : List ℕ → List ℕ → Type 0
AreBelow [] [] = Unit {0}
AreBelow [] (limit ∷ limits) = ⊥
AreBelow (n ∷ ns) [] = ⊥
AreBelow (n ∷ ns) (limit ∷ limits) = (n < limit) × AreBelow ns limits

pub below-length : (ns limits : List ℕ) → AreBelow ns limits → length ns ≡ length limits
below-length [] [] below = refl
below-length [] (limit ∷ limits) below = absurd below
below-length (n ∷ ns) [] below = absurd below
below-length (n ∷ ns) (limit ∷ limits) below = omega (arith, below-length ns limits below.1)

same_separator : (ns limits : List ℕ) (last : ℕ) → AreBelow ns limits → separator limits last ≡ separator ns last
same_separator [] [] last below = refl
same_separator [] (limit ∷ limits) last below = absurd below
same_separator (n ∷ ns) [] last below = absurd below
same_separator (n ∷ ns) (limit ∷ limits) last below = refl

-- the numbers that are read, and the bytes that they were read from
pub record TakesNumbers (limits : List ℕ) (last : ℕ) (bytes : List ℕ) (x : List ℕ × List ℕ) : Type 0 where
  pub spelled : bytes ≡ numbers_text last x.0 ++ x.1
  pub below : AreBelow x.0 limits

pub numbers_take : (limits : List ℕ) (last : ℕ) (bytes : List ℕ) (x : List ℕ × List ℕ) → numbers_at limits last bytes ≡ Some x → TakesNumbers limits last bytes x
unfolding numbers_at
numbers_take [] last bytes x e = subst (TakesNumbers [] last bytes) (same_Some ([], bytes) x e) (record { spelled = refl; below = tt })
numbers_take (limit ∷ limits) last bytes x e =
    then_some (field_at limit (separator limits last) bytes) e (λ first a e1.
    then_some (numbers_at limits last first.1) e1 (λ others b e2.
    let one = field_takes limit (separator limits last) bytes first.0 first.1 a in
    let more = numbers_take limits last first.1 others b in
    subst (TakesNumbers (limit ∷ limits) last bytes) (same_Some (first.0 ∷ others.0, others.1) x e2) (record {
      spelled = one.1 ∙ ap (λ s. decimal first.0 ++ s ∷ first.1) (same_separator others.0 limits last more.below)
          ∙ ap (λ (y : List ℕ). decimal first.0 ++ separator others.0 last ∷ y) more.spelled
          ∙ sym (append_assoc (decimal first.0) (separator others.0 last ∷ numbers_text last others.0) others.1);
      below = (one.0, more.below);
    })))

pub numbers_again : (limits : List ℕ) (last : ℕ) (ns rest : List ℕ) → ¬ IsAsciiDigit last → AllByRecursion (λ limit. limit ≤ 2 ^ 64) limits → AreBelow ns limits
    → numbers_at limits last (numbers_text last ns ++ rest) ≡ Some (ns, rest)
unfolding numbers_at
numbers_again [] last [] rest ends wide below = refl
numbers_again [] last (n ∷ ns) rest ends wide below = absurd below
numbers_again (limit ∷ limits) last [] rest ends wide below = absurd below
numbers_again (limit ∷ limits) last (n ∷ ns) rest ends wide below =
    let tail = numbers_text last ns ++ rest in
    let regrouped : numbers_text last (n ∷ ns) ++ rest ≡ decimal n ++ separator limits last ∷ tail =
    append_assoc (decimal n) (separator ns last ∷ numbers_text last ns) rest ∙ ap (λ s. decimal n ++ s ∷ tail) (sym (same_separator ns limits last below.1)) in
    ap (numbers_at (limit ∷ limits) last) regrouped ∙ rw (
      field_again limit (separator limits last) n tail wide.0 (apart limits last ends) below.0,
      numbers_again limits last ns rest ends wide.1 below.1,
    ) refl

-- ---- one of several values

-- what is read has this text
pub value_takes : {A : Type 0} (text : A → List ℕ) (xs : List A) (bytes : List ℕ) (x : A × List ℕ) → value_at text xs bytes ≡ Some x → bytes ≡ text x.0 ++ x.1
unfolding value_at
value_takes {A} text [] bytes x e = absurd cc
value_takes {A} text (y ∷ ys) bytes x e = by_first (literal_at (text y) bytes) refl (value_takes text ys bytes x)
  where
    read : Option (List ℕ) → Option (A × List ℕ)
    read o = option_or (option_map (λ (rest : List ℕ). (y, rest)) o) (value_at text ys bytes)

    by_first : (o : Option (List ℕ)) → literal_at (text y) bytes ≡ o → (value_at text ys bytes ≡ Some x → bytes ≡ text x.0 ++ x.1) → bytes ≡ text x.0 ++ x.1
    by_first (Some rest) h later = subst (λ (z : A × List ℕ). bytes ≡ text z.0 ++ z.1) (same_Some (y, rest) x (ap read (sym h) ∙ e)) (literal_takes (text y) bytes rest h)
    by_first None h later = later (ap read (sym h) ∙ e)

-- the first of them is read
pub value_first : {A : Type 0} (text : A → List ℕ) (x : A) (xs : List A) (rest : List ℕ) → value_at text (x ∷ xs) (text x ++ rest) ≡ Some (x, rest)
unfolding value_at
value_first text x xs rest = rw (literal_again (text x) rest) refl

-- and a later one where the first is not there
pub value_later : {A : Type 0} (text : A → List ℕ) (x : A) (xs : List A) (bytes : List ℕ) (y : A × List ℕ) → literal_at (text x) bytes ≡ None → value_at text xs bytes ≡ Some y → value_at text (x ∷ xs) bytes ≡ Some y
unfolding value_at
value_later text x xs bytes y none later = rw none later
