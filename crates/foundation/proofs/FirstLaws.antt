-- The first at which a fact fails.
use Rattle.std.proofs.Common.{◌≡◌, ℕ, ◌+◌, ◌-◌, ◌<◌, List, length, get_or, take, All, refl, subst, arith}
use Rattle.std.proofs.lemmas.Option.{slice_get_read, slice_get_within, get_or_from_slice_get}
use Rattle.foundation.specs.Firsts.{IsFirstAt, FromOne}

-- a number counted from 1 has the index that is one less
pub FromOne-at : (place : ℕ → Type 0) (index number : ℕ) → number ≡ index + 1 → place index → FromOne place number
FromOne-at place index number e here =
    let same : index ≡ number - 1 = omega arith in
    record { from_one = omega arith; at = subst place same here }

module _ {X : Type 0} (good at_fault : X → Type 0) (xs : List X) where
  -- at the exit of a loop: the element at i, after those before it
  pub IsFirstAt-here : (i : ℕ) (x : X) → i < length xs → x ≡ get_or xs i x → All good (take i xs) → at_fault x → IsFirstAt good at_fault xs i
  IsFirstAt-here i x h at before here = record { element = x; there = slice_get_read xs (length xs) i x refl h at; before = before; here = here }

  -- it is within the list
  pub IsFirstAt-within : (i : ℕ) → IsFirstAt good at_fault xs i → i < length xs
  IsFirstAt-within i first = slice_get_within xs i first.element first.there

  -- then not all elements are good
  pub IsFirstAt-not : (i : ℕ) → ((x : X) → at_fault x → good x → ⊥) → IsFirstAt good at_fault xs i → All good xs → ⊥
  IsFirstAt-not i bad first all =
      let there = get_or_from_slice_get xs i first.element first.element first.there in
      bad first.element first.here (subst good there (all i first.element (slice_get_within xs i first.element first.there)))

  -- another fault of the element that follows from the first one
  pub IsFirstAt-weaker : (worse : X → Type 0) (i : ℕ) → ((x : X) → at_fault x → worse x) → IsFirstAt good at_fault xs i → IsFirstAt good worse xs i
  IsFirstAt-weaker worse i more first = record { element = first.element; there = first.there; before = first.before; here = more first.element first.here }

  -- at the exit of a loop, under a number counted from 1
  pub FromOne-here : (i : ℕ) (x : X) (number : ℕ) → number ≡ i + 1 → i < length xs → x ≡ get_or xs i x → All good (take i xs) → at_fault x → FromOne (IsFirstAt good at_fault xs) number
  FromOne-here i x number is h at before here = FromOne-at (IsFirstAt good at_fault xs) i number is (IsFirstAt-here i x h at before here)

  -- under such a number too, not all elements are good
  pub FromOne-not : (number : ℕ) → ((x : X) → at_fault x → good x → ⊥) → FromOne (IsFirstAt good at_fault xs) number → All good xs → ⊥
  FromOne-not number bad first all = IsFirstAt-not (number - 1) bad first.at all
