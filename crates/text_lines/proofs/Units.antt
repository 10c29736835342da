-- What a unit is read from, and that each unit that was written is read again.
use Rattle.std.proofs.Common.{◌≡◌, ◌≢◌, ℕ, zero, suc, ◌^◌, ◌<◌, ◌≤◌, true, cond, List, [], ◌∷◌, ◌++◌, length, drop, Option, Some, None, IfSome, IsSomeAnd, refl, sym, ap, ◌∙◌, inl, inr, append_assoc, arith, Bor, eqb}
use Rattle.std.specs.Char.{IsAsciiDigit}
use Rattle.std.specs.Fmt.{decimal}
use Rattle.std.specs.List.{starts_with}
use Rattle.std.specs.Option.{option_map, option_or, option_copied, MatchOption}
use Rattle.std.proofs.lemmas.Bool.{cases_eq}
use Rattle.std.proofs.lemmas.Bool.Decides.{Decides-eqb}
use Rattle.std.proofs.lemmas.List.{drop_at, append_cancel_left}
use Rattle.std.proofs.lemmas.Option.{cond_some, some_pair_parts}
use Rattle.std.proofs.lemmas.Slice.Eq.{starts_is}
use Rattle.text_lines.specs.Fields.{literal_at, field_at, field_seen}
use Rattle.text_lines.proofs.Digits.{one_number}

-- Bytes from which a literal is read begin with it.
pub literal_takes : (text bytes rest : List ℕ) → literal_at text bytes ≡ Some rest → bytes ≡ text ++ rest
unfolding literal_at
literal_takes text bytes rest e =
    let p = cond_some (starts_with eqb bytes text) (drop (length text) bytes) rest e in
    (starts_is Decides-eqb bytes text (starts_with eqb bytes text) refl).0 p.0 ∙ ap (λ x. text ++ x) p.1

-- A literal is read wherever bytes begin with it.
pub literal_again : (text rest : List ℕ) → literal_at text (text ++ rest) ≡ Some rest
unfolding literal_at
literal_again text rest =
    let bytes = text ++ rest in
    let begins : starts_with eqb bytes text ≡ true = (starts_is Decides-eqb bytes text (starts_with eqb bytes text) refl).1 rest refl in
    ap (λ b. cond b (Some (drop (length text) bytes)) None) begins ∙ ap (λ x. Some x) (drop_at text rest (length text) refl)

-- A field that is read is a number below the limit with the separator after it.
pub field_takes : (limit s : ℕ) (bytes : List ℕ) (n : ℕ) (rest : List ℕ) → field_at limit s bytes ≡ Some (n, rest) → (n < limit) × (bytes ≡ decimal n ++ s ∷ rest)
unfolding field_at
field_takes zero s bytes n rest e = absurd cc
field_takes (suc limit) s bytes n rest e =
    by_literal (literal_at (decimal limit ++ s ∷ []) bytes) refl (field_takes limit s bytes n rest)
  where
    by_literal : (o : Option (List ℕ)) → literal_at (decimal limit ++ s ∷ []) bytes ≡ o → (field_at limit s bytes ≡ Some (n, rest) → (n < limit) × (bytes ≡ decimal n ++ s ∷ rest))
        → (n < suc limit) × (bytes ≡ decimal n ++ s ∷ rest)
    by_literal (Some x) h lesser =
        let same = some_pair_parts limit n x rest (ap (λ (o : Option (List ℕ)). option_or (option_map (λ y. (limit, y)) o) (field_at limit s bytes)) (sym h) ∙ e) in
        let is : limit ≡ n = same.0 in
        (omega (arith, is), literal_takes (decimal limit ++ s ∷ []) bytes x h ∙ append_assoc (decimal limit) (s ∷ []) x ∙ ap (λ m. decimal m ++ s ∷ x) is ∙ ap (λ y. decimal n ++ s ∷ y) same.1)
    by_literal None h lesser =
        let e' : field_at limit s bytes ≡ Some (n, rest) = ap (λ (o : Option (List ℕ)). option_or (option_map (λ y. (limit, y)) o) (field_at limit s bytes)) (sym h) ∙ e in
        let below = lesser e' in
        (let lt = below.0 in omega arith, below.1)

-- A field is read wherever bytes begin with it.
pub field_again : (limit s n : ℕ) (rest : List ℕ) → limit ≤ 2 ^ 64 → ¬ IsAsciiDigit s → n < limit → field_at limit s (decimal n ++ s ∷ rest) ≡ Some (n, rest)
unfolding field_at
field_again zero s n rest wide apart lt = absurd (omega arith)
field_again (suc limit) s n rest wide apart lt = by_literal (literal_at (decimal limit ++ s ∷ []) (decimal n ++ s ∷ rest)) refl (field_again limit s n rest (omega arith) apart)
  where
    by_literal : (o : Option (List ℕ)) → literal_at (decimal limit ++ s ∷ []) (decimal n ++ s ∷ rest) ≡ o → (n < limit → field_at limit s (decimal n ++ s ∷ rest) ≡ Some (n, rest))
        → field_at (suc limit) s (decimal n ++ s ∷ rest) ≡ Some (n, rest)
    by_literal (Some x) h lesser =
        let joined : decimal n ++ s ∷ rest ≡ decimal limit ++ s ∷ x = literal_takes (decimal limit ++ s ∷ []) (decimal n ++ s ∷ rest) x h ∙ append_assoc (decimal limit) (s ∷ []) x in
        let same = one_number n limit s rest x (omega arith) (omega arith) apart joined in
        let read : field_at (suc limit) s (decimal n ++ s ∷ rest) ≡ Some (limit, x) = ap (λ (o : Option (List ℕ)). option_or (option_map (λ y. (limit, y)) o) (field_at limit s (decimal n ++ s ∷ rest))) h in
        read ∙ ap (λ m. Some (m, x)) (sym same.0) ∙ ap (λ y. Some (n, y)) (sym same.1)
    by_literal None h lesser =
        let read : field_at (suc limit) s (decimal n ++ s ∷ rest) ≡ field_at limit s (decimal n ++ s ∷ rest) = ap (λ (o : Option (List ℕ)). option_or (option_map (λ y. (limit, y)) o) (field_at limit s (decimal n ++ s ∷ rest))) h in
        elim (cases_eq n limit) [
          | inl is ↦
              let found : literal_at (decimal limit ++ s ∷ []) (decimal n ++ s ∷ rest) ≡ Some rest = ap (λ m. literal_at (decimal limit ++ s ∷ []) (decimal m ++ s ∷ rest)) is ∙ ap (literal_at (decimal limit ++ s ∷ [])) (sym (append_assoc (decimal limit) (s ∷ []) rest)) ∙ literal_again (decimal limit ++ s ∷ []) rest in
              absurd cc
          | inr other ↦ read ∙ lesser (omega arith)
        ]

-- The two clauses of a literal's reader tell all of its answer.
pub literal_is : (text bytes : List ℕ) (r : Option (Bor (List ℕ))) → IfSome r (λ x. bytes ≡ text ++ x.now) → ((rest : List ℕ) → bytes ≡ text ++ rest → IsSomeAnd r (λ x. x.now ≡ rest))
    → option_copied r ≡ literal_at text bytes
literal_is text bytes (Some x) found only = sym (ap (literal_at text) found ∙ literal_again text x.now)
literal_is text bytes None found only = by_reading (literal_at text bytes) refl
  where
    by_reading : (o : Option (List ℕ)) → literal_at text bytes ≡ o → None ≡ literal_at text bytes
    by_reading (Some rest) h = absurd (only rest (literal_takes text bytes rest h))
    by_reading None h = sym h

-- The two clauses of a field's reader tell all of its answer.
pub field_is : (limit s : ℕ) (bytes : List ℕ) (r : Option (ℕ × Bor (List ℕ))) → limit ≤ 2 ^ 64 → ¬ IsAsciiDigit s → IfSome r (λ x. (x.0 < limit) × (bytes ≡ decimal x.0 ++ s ∷ x.1.now))
    → ((n : ℕ) (rest : List ℕ) → n < limit → bytes ≡ decimal n ++ s ∷ rest → IsSomeAnd r (λ x. (x.0 ≡ n) × (x.1.now ≡ rest)))
    → option_map field_seen r ≡ field_at limit s bytes
field_is limit s bytes (Some x) wide apart found only = sym (ap (field_at limit s) found.1 ∙ field_again limit s x.0 x.1.now wide apart found.0)
field_is limit s bytes None wide apart found only = by_reading (field_at limit s bytes) refl
  where
    by_reading : (o : Option (ℕ × List ℕ)) → field_at limit s bytes ≡ o → None ≡ field_at limit s bytes
    by_reading (Some x) h = let t = field_takes limit s bytes x.0 x.1 h in absurd (only x.0 x.1 t.0 t.1)
    by_reading None h = sym h

-- What stripping a literal off says.
pub stripped_found : (text bytes : List ℕ) (r : Option (Bor (List ℕ))) → MatchOption r ((rest : List ℕ) → bytes ≢ text ++ rest) (λ x. bytes ≡ text ++ x.now) → IfSome r (λ x. bytes ≡ text ++ x.now)
stripped_found text bytes (Some x) h = h
stripped_found text bytes None h = tt

pub stripped_only : (text bytes : List ℕ) (r : Option (Bor (List ℕ))) → MatchOption r ((rest : List ℕ) → bytes ≢ text ++ rest) (λ x. bytes ≡ text ++ x.now) → (rest : List ℕ) → bytes ≡ text ++ rest → IsSomeAnd r (λ x. x.now ≡ rest)
stripped_only text bytes (Some x) h rest e = append_cancel_left text x.now rest (sym h ∙ e)
stripped_only text bytes None h rest e = absurd (h rest e)
