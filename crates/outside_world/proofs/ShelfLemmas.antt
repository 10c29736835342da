-- What follows from what a fetch says, for the layers above.
use Rattle.std.proofs.Common.{◌≡◌, ℕ, ◌≤◌, ◌<◌, List, [], ◌∷◌, ◌++◌, length, take, refl, sym, ap, ◌∙◌, arith, append_assoc, length-append}
use Rattle.std.specs.Prelude.{Option, Some, None}
use Rattle.std.specs.Option.{option_map}
use Rattle.std.proofs.lemmas.List.{length-take, take_all}
use Rattle.outside_world.specs.Shelf.{file_of, front_of, Continues, GainsLast}

some_front : (content : Option (List ℕ)) (most : ℕ) (bytes : List ℕ) → option_map (λ c. take most c) content ≡ Some bytes → (c : List ℕ) × (content ≡ Some c) × (take most c ≡ bytes)
some_front None most bytes e = absurd (cc)
some_front (Some c) most bytes e = (c, refl, cc)

-- a front was taken from the file's content
pub front_of_file : (files : List (List ℕ × List ℕ)) (name : List ℕ) (most : ℕ) (bytes : List ℕ) → front_of files name most ≡ Some bytes → (content : List ℕ) × (file_of files name ≡ Some content) × (take most content ≡ bytes)
front_of_file files name most bytes e = some_front (file_of files name) most bytes e

-- a front that is shorter than was asked for is the whole file
pub whole_file : (files : List (List ℕ × List ℕ)) (name : List ℕ) (most : ℕ) (bytes : List ℕ) → front_of files name most ≡ Some bytes → length bytes < most → file_of files name ≡ Some bytes
whole_file files name most bytes e short =
    let (content, is, front) = front_of_file files name most bytes e in
    let within : length content ≤ most = omega (arith, length-take most content, ap length front) in
    is ∙ ap Some (sym (take_all most content within) ∙ front)

-- a front as long as was asked for is no longer than the file
pub long_file : (files : List (List ℕ × List ℕ)) (name : List ℕ) (most : ℕ) (bytes : List ℕ) → front_of files name most ≡ Some bytes → most ≤ length bytes → (content : List ℕ) × (file_of files name ≡ Some content) × (most ≤ length content)
long_file files name most bytes e long =
    let (content, is, front) = front_of_file files name most bytes e in
    (content, is, omega (arith, length-take most content, ap length front))

-- one call after another
pub Continues-trans : (a b c : List (List ℕ)) → Continues a b → Continues b c → Continues a c
Continues-trans a b c (first, e) (second, f) = (first ++ second, f ∙ ap (λ l. l ++ second) e ∙ append_assoc a first second)

-- a name that was gained after a while was gained since its begin
pub GainsLast-later : (a b c : List (List ℕ)) (name : List ℕ) → Continues a b → GainsLast b c name → GainsLast a c name
GainsLast-later a b c name (first, e) (second, f) =
    (first ++ second, f ∙ ap (λ l. l ++ second ++ name ∷ []) e ∙ ap (λ l. l ++ name ∷ []) (append_assoc a first second))

-- a list that gained a name is another
pub GainsLast-apart : (a b : List (List ℕ)) (name : List ℕ) → GainsLast a b name → a ≡ b → ⊥
GainsLast-apart a b name (more, e) same =
    omega (arith, ap length same, ap length e, length-append (a ++ more) (name ∷ []), length-append a more)
