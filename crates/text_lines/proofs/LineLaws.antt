-- Lines that are filled from their ends.
use Rattle.std.proofs.Common.{◌≡◌, ℕ, ◌+◌, ◌^◌, ◌<◌, ◌≤◌, List, [], ◌∷◌, ◌++◌, length, map, take, drop, get_or, sym, ap, ◌∙◌, append_assoc, length-append, arith}
use Rattle.std.specs.Fmt.{decimal}
use Rattle.std.specs.List.{flat_map, join_with_byte}
use Rattle.std.proofs.lemmas.Fmt.{length-decimal-le}
use Rattle.std.proofs.lemmas.List.{append-nil, drop_more, take_more}
use Rattle.std.proofs.lemmas.List.Concat.{flat_map-append}
use Rattle.text_lines.specs.Lines.{line}
use Rattle.text_lines.specs.Numbers.{after_space}

-- words joined by spaces are the first with the others after a space each
spaced-join : (word : List ℕ) (ns : List ℕ) → join_with_byte 32 (word ∷ map decimal ns) ≡ word ++ flat_map after_space ns
spaced-join word [] = sym (append-nil word)
spaced-join word (n ∷ ns) = ap (λ (y : List ℕ). word ++ 32 ∷ y) (spaced-join (decimal n) ns)

-- a line of a word and numbers
pub written_line : (word : List ℕ) (ns : List ℕ) → line (word ∷ map decimal ns) ≡ word ++ (flat_map after_space ns ++ 10 ∷ [])
written_line word ns = ap (λ (y : List ℕ). y ++ 10 ∷ []) (spaced-join word ns) ∙ append_assoc word (flat_map after_space ns) (10 ∷ [])

-- one more number in front of those after it
pub numbers-more : (ns : List ℕ) (i : ℕ) (line now initial : List ℕ) → i < length ns → now ≡ 32 ∷ (decimal (get_or ns i 0) ++ line) → line ≡ flat_map after_space (drop (i + 1) ns) ++ initial → now ≡ flat_map after_space (drop i ns) ++ initial
numbers-more ns i line now initial h a b =
    a ∙ ap (λ (y : List ℕ). 32 ∷ (decimal (get_or ns i 0) ++ y)) b
    ∙ sym (append_assoc (after_space (get_or ns i 0)) (flat_map after_space (drop (i + 1) ns)) initial)
    ∙ ap (λ (ys : List ℕ). flat_map after_space ys ++ initial) (sym (drop_more ns i 0 h))

-- one more number after those before it
numbers-front : (ns : List ℕ) (i n : ℕ) → i < length ns → n ≡ get_or ns i 0 → flat_map after_space (take (i + 1) ns) ≡ flat_map after_space (take i ns) ++ after_space n
numbers-front ns i n h same =
    ap (flat_map after_space) (take_more ns i 0 h)
    ∙ flat_map-append after_space (take i ns) (get_or ns i 0 ∷ [])
    ∙ ap (λ (ys : List ℕ). flat_map after_space (take i ns) ++ ys) (append-nil (after_space (get_or ns i 0)))
    ∙ ap (λ (m : ℕ). flat_map after_space (take i ns) ++ after_space m) (sym same)

-- a text that had the numbers so far, and was given a space and one more number
pub numbers-next : (ns : List ℕ) (i n : ℕ) (start now spaced next : List ℕ) → i < length ns → n ≡ get_or ns i 0 → now ≡ start ++ flat_map after_space (take i ns) → spaced ≡ now ++ 32 ∷ [] → next ≡ spaced ++ decimal n
    → next ≡ start ++ flat_map after_space (take (i + 1) ns)
numbers-next ns i n start now spaced next h same was space is =
    is ∙ ap (λ (ys : List ℕ). ys ++ decimal n) space
    ∙ append_assoc now (32 ∷ []) (decimal n)
    ∙ ap (λ (ys : List ℕ). ys ++ after_space n) was
    ∙ append_assoc start (flat_map after_space (take i ns)) (after_space n)
    ∙ ap (λ (ys : List ℕ). start ++ ys) (sym (numbers-front ns i n h same))

-- how long numbers are
pub digits-byte : (n : ℕ) → n < 2 ^ 8 → length (decimal n) ≤ 3
digits-byte n h = length-decimal-le 3 n (omega arith) (omega arith) (omega arith)

pub digits-long : (n : ℕ) → n < 2 ^ 64 → length (decimal n) ≤ 20
digits-long n h = length-decimal-le 20 n (omega arith) (omega arith) (omega arith)

-- a line with one more number
pub spaced-length : (line now : List ℕ) (n k : ℕ) → now ≡ 32 ∷ (decimal n ++ line) → length (decimal n) ≤ k → length now ≤ length line + k + 1
spaced-length line now n k e h = omega (arith, ap length e, length-append (decimal n) line)
