-- Lines are ended by line feeds.
use Rattle.std.proofs.Common.{◌≡◌, ℕ, ◌+◌, ◌^◌, ◌<◌, ◌≤◌, ◌⊎◌, Bool, true, false, cond, eqb, List, [], ◌∷◌, ◌++◌, length, map, refl, sym, ap, ◌∙◌, inl, inr, append_assoc, arith}
use Rattle.std.specs.Fmt.{decimal}
use Rattle.std.specs.List.{flat_map, AllByRecursion, join_with_byte}
use Rattle.std.specs.Str.Parse.{AllDigits}
use Rattle.std.proofs.lemmas.Bool.{ne_eqb}
use Rattle.std.proofs.lemmas.List.{append-nil}
use Rattle.std.proofs.lemmas.List.Sums.{sum_by-append, sum_by-cons}
use Rattle.std.proofs.lemmas.Str.Parse.{digit_from_value}
use Rattle.text_lines.specs.Lines.{line, line_feeds}
use Rattle.text_lines.proofs.Digits.{digits}

pub line_feeds-append : (a b : List ℕ) → line_feeds (a ++ b) ≡ line_feeds a + line_feeds b
unfolding line_feeds
line_feeds-append a b = sum_by-append (λ x. cond (eqb x 10) 1 0) a b

pub line_feeds-cons : (c : ℕ) (cs : List ℕ) → line_feeds (c ∷ cs) ≡ cond (eqb c 10) 1 0 + line_feeds cs
unfolding line_feeds
line_feeds-cons c cs = sum_by-cons (λ x. cond (eqb x 10) 1 0) c cs

pub line_feeds-nil : line_feeds [] ≡ 0
unfolding line_feeds
line_feeds-nil = refl

pub one_feed : line_feeds (10 ∷ []) ≡ 1
unfolding line_feeds
one_feed = refl

at_most_one : (b : Bool) → cond b 1 0 ≤ 1
at_most_one true = omega arith
at_most_one false = omega arith

pub line_feeds-le : (xs : List ℕ) → line_feeds xs ≤ length xs
line_feeds-le [] = omega (arith, line_feeds-nil)
line_feeds-le (c ∷ cs) = omega (arith, line_feeds-cons c cs, line_feeds-le cs, at_most_one (eqb c 10))

feeds_in_digits : (ds : List ℕ) → AllDigits 10 ds → line_feeds ds ≡ 0
feeds_in_digits [] all = line_feeds-nil
feeds_in_digits (c ∷ cs) all =
    let digit = digit_from_value c all.0 in
    let other : eqb c 10 ≡ false = ne_eqb c 10 (λ h. omega arith) in
    line_feeds-cons c cs ∙ ap (λ b. cond b 1 0 + line_feeds cs) other ∙ omega (arith, feeds_in_digits cs all.1)

-- no number has a line feed
pub feeds_in_number : (n : ℕ) → n < 2 ^ 64 → line_feeds (decimal n) ≡ 0
feeds_in_number n lt = feeds_in_digits (decimal n) (digits n lt)

-- and no words have one where none of them has
pub feeds_in_words : (words : List (List ℕ)) → AllByRecursion (λ w. line_feeds w ≡ 0) words → line_feeds (join_with_byte 32 words) ≡ 0
feeds_in_words [] all = line_feeds-nil
feeds_in_words (w ∷ []) all = all.0
feeds_in_words (w ∷ v ∷ words) all =
    let more = feeds_in_words (v ∷ words) all.1 in
    let this : line_feeds w ≡ 0 = all.0 in
    let joined = line_feeds-append w (32 ∷ join_with_byte 32 (v ∷ words)) in
    let space = line_feeds-cons 32 (join_with_byte 32 (v ∷ words)) in
    omega (arith, joined, space, more, this)

-- a word with numbers after it
pub feeds_in_numbers : (word : List ℕ) (ns : List ℕ) → line_feeds word ≡ 0 → AllByRecursion (λ n. n < 2 ^ 64) ns → line_feeds (join_with_byte 32 (word ∷ map decimal ns)) ≡ 0
feeds_in_numbers word [] none all = none
feeds_in_numbers word (n ∷ ns) none all =
    let tail = join_with_byte 32 (decimal n ∷ map decimal ns) in
    let more = feeds_in_numbers (decimal n) ns (feeds_in_number n all.0) all.1 in
    omega (arith, line_feeds-append word (32 ∷ tail), line_feeds-cons 32 tail, more, none)

-- a line of a text: bytes with no line feed, and one
pub record IsTextLine (text : List ℕ) : Type 0 where
  pub body : List ℕ
  pub no_feed : line_feeds body ≡ 0
  pub ended : text ≡ body ++ 10 ∷ []

pub line_is : (words : List (List ℕ)) → AllByRecursion (λ w. line_feeds w ≡ 0) words → IsTextLine (line words)
line_is words all = record { body = join_with_byte 32 words; no_feed = feeds_in_words words all; ended = refl }

pub line_feeds_once : (text : List ℕ) → IsTextLine text → line_feeds text ≡ 1
line_feeds_once text is = ap line_feeds is.ended ∙ line_feeds-append is.body (10 ∷ []) ∙ omega (arith, is.no_feed, one_feed)

-- lines, one for each of a list
pub feeds_in_lines : {A : Type 0} (text : A → List ℕ) (fits : A → Type 0) → ((x : A) → fits x → IsTextLine (text x)) → (xs : List A) → AllByRecursion fits xs → line_feeds (flat_map text xs) ≡ length xs
feeds_in_lines text fits lines [] all = line_feeds-nil
feeds_in_lines text fits lines (x ∷ xs) all =
    let one = line_feeds_once (text x) (lines x all.0) in
    omega (arith, line_feeds-append (text x) (flat_map text xs), one, feeds_in_lines text fits lines xs all.1)

-- ---- bytes with one line feed

pub spread : (whole a b rest : List ℕ) → whole ≡ a ++ b → whole ++ rest ≡ a ++ (b ++ rest)
spread whole a b rest e = ap (λ (x : List ℕ). x ++ rest) e ∙ append_assoc a b rest

-- of two fronts of one list, one begins the other
pub fronts : (a b x y : List ℕ) → a ++ x ≡ b ++ y → ((t : List ℕ) × (a ≡ b ++ t) × (y ≡ t ++ x)) ⊎ ((t : List ℕ) × (b ≡ a ++ t) × (x ≡ t ++ y))
fronts [] b x y e = inr (b, refl, e)
fronts (c ∷ a) [] x y e = inl (c ∷ a, refl, sym e)
fronts (c ∷ a) (d ∷ b) x y e =
    let head : c ≡ d = cc in
    let tails : a ++ x ≡ b ++ y = cc in
    elim (fronts a b x y tails) [
      | inl p ↦ let h = p.1 in inl (p.0, cc, p.2)
      | inr p ↦ let h = p.1 in inr (p.0, cc, p.2)
    ]

-- what a front with one more line feed has more
pub next_line : (F R longer more : List ℕ) → F ++ R ≡ longer ++ more → line_feeds longer ≡ line_feeds F + 1 → (mid : List ℕ) × (longer ≡ F ++ mid) × (R ≡ mid ++ more) × (line_feeds mid ≡ 1)
next_line F R longer more e feeds =
    elim (fronts F longer R more e) [
      | inl p ↦ absurd (omega (arith, feeds, ap line_feeds p.1, line_feeds-append longer p.0))
      | inr p ↦ (p.0, p.1, p.2, omega (arith, feeds, ap line_feeds p.1, line_feeds-append F p.0))
    ]

-- of a line nothing without a line feed is the end
no_end : (body : List ℕ) (mid z : List ℕ) → body ++ 10 ∷ [] ≡ mid ++ z → line_feeds z ≡ 0 → z ≡ []
no_end [] [] [] e none = refl
no_end [] [] (c ∷ z) e none = let head : 10 ≡ c = cc in let one : eqb c 10 ≡ true = ap (λ x. eqb x 10) (sym head) in absurd (omega (arith, line_feeds-cons c z, ap {B = ℕ} (λ b. cond b 1 0) one))
no_end [] (c ∷ []) z e none = let tail : [] ≡ z = cc in sym tail
no_end [] (c ∷ d ∷ mid) z e none = let tail : ◌≡◌ {A = List ℕ} [] (d ∷ (mid ++ z)) = cc in absurd cc
no_end (b ∷ body) [] z e none = absurd (omega (arith, none, ap line_feeds e, line_feeds-append (b ∷ body) (10 ∷ []), line_feeds-cons 10 [], line_feeds-nil))
no_end (b ∷ body) (c ∷ mid) z e none = let tail : body ++ 10 ∷ [] ≡ mid ++ z = cc in no_end body mid z tail none

-- bytes with one line feed that meet a line have it at their front
pub whole_line : (text mid y t : List ℕ) → IsTextLine text → mid ++ y ≡ text ++ t → line_feeds mid ≡ 1 → (z : List ℕ) × (mid ≡ text ++ z)
whole_line text mid y t is e feeds =
    elim (fronts mid text y t e) [
      | inl p ↦ (p.0, p.1)
      | inr p ↦
          let none : line_feeds p.0 ≡ 0 = omega (arith, line_feeds_once text is, feeds, ap line_feeds p.1, line_feeds-append mid p.0) in
          let empty = no_end is.body mid p.0 (sym is.ended ∙ p.1) none in
          ([], sym (append-nil mid) ∙ ap (λ (x : List ℕ). mid ++ x) (sym empty) ∙ sym p.1 ∙ sym (append-nil text))
    ]
