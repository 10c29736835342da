-- The phases of a sequence, read from its number.
use Rattle.std.proofs.Common.{◌≡◌, ℕ, zero, suc, ◌+◌, ◌-◌, ◌*◌, ◌/◌, ◌^◌, ◌<◌, ◌≤◌, List, [], ◌∷◌, ◌++◌, length, get_or, take, drop, All, bit_and, refl, sym, ap, subst, ◌∙◌, length-drop, arith}
use Rattle.std.proofs.Math.Nat.{pow-suc}
use Rattle.std.proofs.lemmas.Nat.{pow-add, and_mask, div-mul-add, mod-mul-add}
use Rattle.std.proofs.lemmas.List.{take-append-drop, drop_more, take_more}
use Rattle.std.proofs.lemmas.List.Elements.{All-drop}
use Rattle.forward_dp.specs.Numbers.{order_number}
use Rattle.forward_dp.proofs.OrderLaws.{order-append, order-cons, order-below}

-- a shift by two bits is one digit to the base 4
two-bits : (n : ℕ) → 2 ^ (2 * n) ≡ 4 ^ n
two-bits zero = refl
two-bits (suc n) =
    ap (λ m. 2 ^ m) (let e : 2 * suc n ≡ 2 + 2 * n = omega arith in e) ∙ pow-add 2 2 (2 * n)
    ∙ omega (arith, two-bits n, pow-suc 4 n)

joined : (a k unit rest : ℕ) → a * (unit * 4) + (k * unit + rest) ≡ (a * 4 + k) * unit + rest
joined a k unit rest = omega arith

-- the phase at index i, with n phases after it
digit-at : (s : List ℕ) (i n : ℕ) → length s ≡ i + 1 + n → All (λ k. k < 4) s → bit_and (order_number s / 2 ^ (2 * n)) 3 ≡ get_or s i 0
digit-at s i n long below =
    let front = order_number (take i s) in
    let k = get_or s i 0 in
    let back = drop (i + 1) s in
    let inside : i < length s = omega arith in
    let behind : length back ≡ n = omega (arith, length-drop (i + 1) s) in
    let digit : k < 4 = below i 0 inside in
    let rest : order_number back < 4 ^ n = subst (λ m. order_number back < 4 ^ m) behind (order-below back (All-drop (λ k. k < 4) (i + 1) s below)) in
    let split : s ≡ take i s ++ k ∷ back = sym (take-append-drop i s) ∙ ap (λ t. take i s ++ t) (drop_more s i 0 inside) in
    let whole : order_number s ≡ (front * 4 + k) * 4 ^ n + order_number back =
    ap order_number split ∙ order-append (take i s) (k ∷ back)
    ∙ ap (λ m. front * 4 ^ suc m + order_number (k ∷ back)) behind
    ∙ ap (λ m. front * m + order_number (k ∷ back)) (pow-suc 4 n)
    ∙ ap (λ m. front * (4 ^ n * 4) + m) (order-cons k back ∙ ap (λ m. k * 4 ^ m + order_number back) behind)
    ∙ joined front k (4 ^ n) (order_number back) in
    ap (λ m. bit_and (order_number s / m) 3) (two-bits n)
    ∙ ap (λ m. bit_and (m / 4 ^ n) 3) whole
    ∙ ap (λ m. bit_and m 3) (div-mul-add (front * 4 + k) (4 ^ n) (order_number back) rest)
    ∙ and_mask (front * 4 + k) 2
    ∙ mod-mul-add front 4 k digit

-- the sequence is read one phase further
pub read-on : (s : List ℕ) (order places place : ℕ) → length s ≡ places → All (λ k. k < 4) s → order_number s ≡ order → 0 < place → place ≤ places
    → take (places - place) s ++ bit_and (order / 2 ^ (2 * (place - 1))) 3 ∷ [] ≡ take (places - (place - 1)) s
read-on s order places place long below e some few =
    let i = places - place in
    ap (λ m. take i s ++ bit_and (m / 2 ^ (2 * (place - 1))) 3 ∷ []) (sym e)
    ∙ ap (λ k. take i s ++ k ∷ []) (digit-at s i (place - 1) (omega arith) below)
    ∙ sym (take_more s i 0 (omega arith))
    ∙ ap (λ m. take m s) (let next : places - place + 1 ≡ places - (place - 1) = omega arith in next)
