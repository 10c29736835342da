-- What a slice of a whole list leaves.
use Rattle.std.proofs.Common.{◌≡◌, ℕ, ◌++◌, List, length, take, drop, sym, ◌∙◌}
use Rattle.std.proofs.lemmas.List.{take_at}

-- the list that the slice became
pub put-back : {X : Type 0} (len : ℕ) (new items : List X) → len ≡ length items → length new ≡ length items → take len (new ++ drop (length new) items) ≡ new
put-back len new items whole same = take_at new (drop (length new) items) len (same ∙ sym whole)
