-- What comes after a header, and what is read before and after one element.
use Rattle.std.proofs.Common.{◌≡◌, List, ◌∷◌, ◌++◌, Option, Some, sym, ap, ◌∙◌}
use Rattle.std.proofs.lemmas.Option.{same_Some}
use Rattle.foundation.specs.Options.{each}
use Rattle.foundation.proofs.EachLaws.{each-append, each-cons}

-- what comes after the header is one list
pub one-after : {X : Type 0} (header : X) (xs ys : List X) → header ∷ xs ≡ header ∷ ys → xs ≡ ys
one-after header xs ys same = cc

-- What is read of the elements before one, of it and of those after it is all that is read.
pub cut-at : {X Y : Type 0} (read : X → Option Y) (before after : List X) (here : X) (ys so_far : List Y) → each read (before ++ here ∷ after) ≡ Some ys → each read before ≡ Some so_far
    → (y : Y) × (back : List Y) × (read here ≡ Some y) × (ys ≡ so_far ++ y ∷ back)
cut-at read before after here ys so_far all reads =
    let (front, rest, reads_front, reads_rest, whole) = each-append read before (here ∷ after) ys all in
    let (y, back, parsed, behind, tail) = each-cons read here after rest reads_rest in
    let same : front ≡ so_far = same_Some front so_far (sym reads_front ∙ reads) in
    (y, back, parsed, whole ∙ ap (λ l. l ++ rest) same ∙ ap (λ l. so_far ++ l) tail)
