-- No link ever holds more than its storage, whatever discharges.
use Rattle.std.proofs.Common.{◌≡◌, ℕ, zero, suc, ◌+◌, ◌-◌, ◌<◌, ◌≤◌, ◌⊎◌, Bool, true, false, cond, leb, min, List, [], ◌∷◌, ◌++◌, Option, Some, None, length, slice_index, refl, sym, ap, ◌∙◌, inl, inr, arith, length-append}
use Rattle.std.specs.List.{list_all}
use Rattle.std.proofs.Math.ListN.{get_or-append}
use Rattle.std.proofs.Math.Seq.{get_or-append_seam}
use Rattle.std.proofs.lemmas.Bool.{leb-true, cases_lt, and_parts}
use Rattle.std.proofs.lemmas.List.{get_or_past}
use Rattle.net_parts.specs.declared.roads.Turn.{Turn}
use Rattle.net_parts.specs.Numbers.{Net}
use Rattle.net_parts.specs.Outline.{link_at, turns_at}
use Rattle.road_net.specs.Joins.{split_of, part}
use Rattle.std.specs.Option.{option_map_or}
use Rattle.std.specs.Prelude.{position, ◌==◌}
use Rattle.road_net.specs.Totals.{total}
use Rattle.road_net.proofs.Shares.{split-none}
use Rattle.road_net.proofs.TotalLaws.{total-same}
use Rattle.net_simulator.proofs.Turning.{no_turn, exit_at, exit-or-none}
use Rattle.spillback_world.specs.Filling.{greatest, has_room, fitting}
use Rattle.spillback_world.specs.Storage.{Opening, inward, held_by, next_goes, all_goes}

-- what fits fits, or is nothing
pick-fits : (fits : ℕ → Bool) (n : ℕ) (b : Bool) → fits (suc n) ≡ b → (fits (greatest fits n) ≡ true) ⊎ (greatest fits n ≡ 0) → (fits (cond b (suc n) (greatest fits n)) ≡ true) ⊎ (cond b (suc n) (greatest fits n) ≡ 0)
pick-fits fits n true e rest = inl e
pick-fits fits n false e rest = rest

greatest-fits : (fits : ℕ → Bool) (wish : ℕ) → (fits (greatest fits wish) ≡ true) ⊎ (greatest fits wish ≡ 0)
greatest-fits fits zero = inr refl
greatest-fits fits (suc n) = pick-fits fits n (fits (suc n)) refl (greatest-fits fits n)

-- where all have room, each has
each-fits : (turns ts : List Turn) (room : ℕ → ℕ) (amount i : ℕ) → list_all (λ (t : Turn). leb (split_of turns amount t.exit) (room t.exit)) ts ≡ true → i < length ts → split_of turns amount (exit_at ts i) ≤ room (exit_at ts i)
each-fits turns [] room amount i all h = absurd (omega (arith, h))
each-fits turns (t ∷ ts) room amount zero all h = leb-true (split_of turns amount t.exit) (room t.exit) (and_parts _ _ all).0
each-fits turns (t ∷ ts) room amount (suc i) all h = each-fits turns ts room amount i (and_parts _ _ all).1 (omega (arith, h))

-- so a part of what fits has room, in an exit or not
pub part-fits : (turns : List Turn) (room : ℕ → ℕ) (amount e : ℕ) → has_room turns room amount ≡ true → split_of turns amount e ≤ room e
part-fits turns room amount e fits = elim (exit-or-none turns e) [
  | inl x ↦ rw x.is at (each-fits turns turns room amount x.place fits x.below)
  | inr none ↦ omega (arith, split-none turns amount e no_turn none)
]

-- of nothing each part is nothing
pub split-zero : (turns : List Turn) (e : ℕ) → split_of turns 0 e ≡ 0
split-zero turns e = by (position (λ t. t.exit == e) turns)
  where
    by : (o : Option ℕ) → option_map_or (part turns 0) o 0 ≡ 0
    by None = refl
    by (Some k) = omega arith

-- there is room for each part of the greatest amount that fits
pub fitting-fits : (turns : List Turn) (room : ℕ → ℕ) (wish e : ℕ) → split_of turns (fitting turns room wish) e ≤ room e
fitting-fits turns room wish e = elim (greatest-fits (has_room turns room) wish) [
  | inl fits ↦ part-fits turns room (fitting turns room wish) e fits
  | inr none ↦ omega (arith, ap (λ a. split_of turns a e) none, split-zero turns e)
]

-- Below, `o` is how a second begins.
module _ (net : Net) (store : ℕ → ℕ) (o : Opening) where
  abbrev room : List ℕ → ℕ → ℕ
  room goes k = store k - held_by net o goes k

  -- what is discharged into a link has room there
  pub into-room : (goes : List ℕ) (l e : ℕ) (to : Option ℕ) → (link_at net l).to ≡ to → ((link_at net l).to ≡ None → turns_at net l ≡ []) → split_of (turns_at net l) (next_goes net store o goes l to) e ≤ room goes e
  into-room goes l e None is plain = let none = split-none (turns_at net l) (next_goes net store o goes l None) e no_turn (λ i h. absurd (omega (arith, h, ap length (plain is)))) in omega (arith, none)
  into-room goes l e (Some node) is plain =
      fitting-fits (turns_at net l) (room goes) (min (o.rate l node) (o.waits l)) e

  -- the discharges of the first links, and one more
  abbrev pub first : ℕ → List ℕ
  first m = all_goes net store o m

  abbrev pub last : ℕ → ℕ
  last m = next_goes net store o (first m) m (link_at net m).to

  first-more : (m : ℕ) → first (suc m) ≡ first m ++ last m ∷ []
  unfolding all_goes
  first-more m = refl

  pub first-none : first 0 ≡ []
  unfolding all_goes
  first-none = refl

  pub first-long : (m : ℕ) → length (first m) ≡ m
  first-long zero = ap length first-none
  first-long (suc m) = omega (arith, ap length (first-more m), length-append (first m) (last m ∷ []), first-long m)

  pub before-last : (m k : ℕ) → k < m → slice_index (first (suc m)) k ≡ slice_index (first m) k
  before-last m k h = ap (λ g. slice_index g k) (first-more m) ∙ get_or-append (first m) (last m ∷ []) 0 k (omega (arith, first-long m))

  pub at-last : (m : ℕ) → slice_index (first (suc m)) m ≡ last m
  at-last m = ap (λ g. slice_index g m) (first-more m) ∙ ap (λ i. slice_index (first m ++ last m ∷ []) i) (sym (first-long m)) ∙ get_or-append_seam (first m) (last m) [] 0

  pub past-last : (m k : ℕ) → m ≤ k → slice_index (first m) k ≡ 0
  past-last m k h = get_or_past (first m) k 0 (omega (arith, h, first-long m))

  -- what the first links give to another one
  abbrev pub given : ℕ → ℕ → ℕ
  given m e = total (λ k. split_of (turns_at net k) (slice_index (first m) k) e) m

  -- and what one link more gives
  pub given-more : (m e : ℕ) → given (suc m) e ≡ given m e + split_of (turns_at net m) (last m) e
  given-more m e =
      let same = total-same (λ k. split_of (turns_at net k) (slice_index (first (suc m)) k) e) (λ k. split_of (turns_at net k) (slice_index (first m) k) e) m (λ k h. ap (λ a. split_of (turns_at net k) a e) (before-last m k h)) in
      omega (arith, same, ap (λ a. split_of (turns_at net m) a e) (at-last m))

  pub held-given : (m e : ℕ) → held_by net o (first m) e ≡ o.holds e + given m e - inward (link_at net e).to (slice_index (first m) e)
  held-given m e = omega (arith, ap (total (λ k. split_of (turns_at net k) (slice_index (first m) k) e)) (first-long m))

  inward-less : (to : Option ℕ) (a b : ℕ) → a ≤ b → inward to a ≤ inward to b
  inward-less None a b less = omega arith
  inward-less (Some node) a b less = less

  own-grows : (m e : ℕ) → slice_index (first m) e ≤ slice_index (first (suc m)) e
  own-grows m e = elim (cases_lt e m) [
    | inl less ↦ omega (arith, before-last m e less)
    | inr more ↦ omega (arith, past-last m e more)
  ]

  -- no link holds more than its storage, where none did
  pub within : ((l : ℕ) → (link_at net l).to ≡ None → turns_at net l ≡ []) → (e : ℕ) → o.holds e ≤ store e → (m : ℕ) → held_by net o (first m) e ≤ store e
  within plain e was zero = omega (arith, was, held-given 0 e)
  within plain e was (suc m) =
      let fits = into-room (first m) m e (link_at net m).to refl (plain m) in
      let own = inward-less (link_at net e).to (slice_index (first m) e) (slice_index (first (suc m)) e) (own-grows m e) in
      omega (arith, within plain e was m, fits, held-given m e, held-given (suc m) e, given-more m e, own)
