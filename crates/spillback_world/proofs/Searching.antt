-- The search of the greatest amount for which there is room.
use Rattle.std.proofs.Common.{◌≡◌, ℕ, zero, suc, ◌+◌, ◌*◌, ◌<◌, ◌≤◌, Bool, true, false, ◌&&◌, leb, List, [], ◌∷◌, length, get_or, refl, sym, ap, subst, ◌∙◌, inl, inr, arith}
use Rattle.std.specs.List.{list_all}
use Rattle.std.proofs.lemmas.Bool.{cases_lt, le-leb}
use Rattle.std.proofs.lemmas.Bool.Decides.{eqb_tells}
use Rattle.net_parts.specs.declared.roads.Turn.{Turn}
use Rattle.road_net.specs.Joins.{AreParts, part_between, shares_to, split_of}
use Rattle.road_net.proofs.Shares.{shares-more}
use Rattle.net_simulator.proofs.Turning.{exit_at, no_turn}
use Rattle.spillback_world.specs.Filling.{greatest, has_room}
use Rattle.spillback_world.proofs.Start.{too-much}

-- nothing above an amount fits, and the amount does
pub greatest-at : (fits : ℕ → Bool) (wish amount : ℕ) → amount ≤ wish → fits amount ≡ true → ((a : ℕ) → amount < a → a ≤ wish → fits a ≡ false) → greatest fits wish ≡ amount
greatest-at fits zero amount most here above = omega (arith, most)
greatest-at fits (suc n) amount most here above = elim (cases_lt amount (suc n)) [
  | inl less ↦ rw (above (suc n) less (omega arith)) (greatest-at fits n amount (omega (arith, less)) here (λ a more inside. above a more (omega (arith, inside))))
  | inr same ↦
      let e : amount ≡ suc n = omega (arith, most, same) in
      rw (subst (λ a. fits a ≡ true) e here) (sym e)
]

-- nothing fits
pub greatest-none : (fits : ℕ → Bool) (wish : ℕ) → ((a : ℕ) → 0 < a → a ≤ wish → fits a ≡ false) → greatest fits wish ≡ 0
greatest-none fits zero above = refl
greatest-none fits (suc n) above = rw (above (suc n) (omega arith) (omega arith)) (greatest-none fits n (λ a more inside. above a more (omega (arith, inside))))

module _ (room : ℕ → ℕ) (amount : ℕ) (turns : List Turn) where
  abbrev fit : Turn → Bool
  fit t = leb (split_of turns amount t.exit) (room t.exit)

  each-fit : (ts : List Turn) → ((i : ℕ) → i < length ts → split_of turns amount (exit_at ts i) ≤ room (exit_at ts i)) → list_all fit ts ≡ true
  each-fit [] each = refl
  each-fit (t ∷ ts) each = rw (le-leb (split_of turns amount t.exit) (room t.exit) (each 0 (omega arith))) (each-fit ts (λ i h. each (suc i) (omega (arith, h))))

  not-fit : (ts : List Turn) (k : ℕ) → k < length ts → room (exit_at ts k) < split_of turns amount (exit_at ts k) → list_all fit ts ≡ false
  not-fit [] k h more = absurd (omega (arith, h))
  not-fit (t ∷ ts) zero h more = rw (above-leb (split_of turns amount t.exit) (room t.exit) more) refl
    where
      above-leb : (a b : ℕ) → b < a → leb a b ≡ false
      above-leb a b less = grind (arith, less)
  not-fit (t ∷ ts) (suc k) h more = rw (not-fit ts k (omega (arith, h)) more) (and-false (fit t))
    where
      and-false : (b : Bool) → (b && false) ≡ false
      and-false true = refl
      and-false false = refl

  -- each part of the amount fits
  pub room-all : (n : ℕ) → n ≡ length turns → ((i : ℕ) → i < n → split_of turns amount (exit_at turns i) ≤ room (exit_at turns i)) → true ≡ has_room turns room amount
  room-all n whole each = sym (each-fit turns (λ i h. each i (omega (arith, h, whole))))

  -- the part of a turn does not
  pub room-none : (k : ℕ) → k < length turns → room (exit_at turns k) < split_of turns amount (exit_at turns k) → has_room turns room amount ≡ false
  room-none k h more = not-fit turns k h more

-- one turn more: no amount above this one and up to the wish has room in the exits of the turns so far
try-turn : (room : ℕ → ℕ) (turns : List Turn) (wish most new k : ℕ) → AreParts turns → k < length turns → ((a : ℕ) → most < a → a ≤ wish → has_room turns room a ≡ false)
    → ((a : ℕ) → new < a → a ≤ most → (room (exit_at turns k) + 1) * 1000 < a * (get_or turns k no_turn).share) → (a : ℕ) → new < a → a ≤ wish → has_room turns room a ≡ false
try-turn room turns wish most new k parts inside above here a more fits = elim (cases_lt most a) [
  | inl over ↦ above a over fits
  | inr under ↦
      let much = too-much a (shares_to turns k) (get_or turns k no_turn).share (room (exit_at turns k)) (here a more under) in
      let same = ap (part_between a (shares_to turns k)) (shares-more turns k no_turn inside) in
      room-none room a turns k inside (omega (arith, much, parts.each a k no_turn inside, same))
]

-- the same of the turns as the loop reads them
pub try-next : (room : ℕ → ℕ) (turns ts : List Turn) → ts ≡ turns → (wish most new k r : ℕ) → AreParts turns → k < length ts → ((a : ℕ) → most < a → a ≤ wish → has_room turns room a ≡ false)
    → r ≡ room (get_or ts k no_turn).exit → ((a : ℕ) → new < a → a ≤ most → (r + 1) * 1000 < a * (get_or ts k no_turn).share) → (a : ℕ) → new < a → a ≤ wish → has_room turns room a ≡ false
try-next room turns ts is wish most new k r parts inside above at here =
    let there : k < length turns = (let e = ap length is in omega (arith, inside)) in
    try-turn room turns wish most new k parts there above (λ a more under.
    subst (λ (t : Turn). (room t.exit + 1) * 1000 < a * t.share) (ap (λ q. get_or q k no_turn) is) (subst (λ n. (n + 1) * 1000 < a * (get_or ts k no_turn).share) at (here a more under)))

-- one turn more with room
pub fit-more : (turns : List Turn) (room : ℕ → ℕ) (amount n : ℕ) → ((i : ℕ) → i < n → split_of turns amount (exit_at turns i) ≤ room (exit_at turns i)) → split_of turns amount (exit_at turns n) ≤ room (exit_at turns n)
    → (i : ℕ) → i < n + 1 → split_of turns amount (exit_at turns i) ≤ room (exit_at turns i)
fit-more turns room amount n before here i h = elim (eqb_tells i n) [
  | inl p ↦ rw p.1 here
  | inr q ↦ before i (let ne = q.1 in omega (arith, h))
]

-- What is read of a turn: `ts` is the list of the turns, of which n were read before, `s` their shares together, and `r` the room in
-- the exit of the turn.
module _ (room : ℕ → ℕ) (turns ts : List Turn) (is : ts ≡ turns) (parts : AreParts turns) (amount n : ℕ) (inside : n < length ts) (s : ℕ) (here : s ≡ shares_to turns n) where
  there : n < length turns
  there = subst (λ (q : List Turn). n < length q) is inside

  pub through : s + (get_or ts n no_turn).share ≡ shares_to turns (n + 1)
  through = rw is (omega (arith, here, shares-more turns n no_turn there))

  pub shares-small : s + (get_or ts n no_turn).share ≤ 1000
  shares-small = omega (arith, through, parts.shares (n + 1))

  part-is : (part : ℕ) → part ≡ part_between amount s (s + (get_or ts n no_turn).share) → part ≡ split_of turns amount (exit_at turns n)
  part-is part value = value ∙ ap (λ q. part_between amount q (s + (get_or ts n no_turn).share)) here ∙ ap (part_between amount (shares_to turns n)) through ∙ sym (parts.each amount n no_turn there)

  room-is : (r : ℕ) → r ≡ room (get_or ts n no_turn).exit → r ≡ room (exit_at turns n)
  room-is r value = value ∙ ap (λ (q : List Turn). room (get_or q n no_turn).exit) is

  -- there is too little room for its part
  pub room-short : (part r : ℕ) → part ≡ part_between amount s (s + (get_or ts n no_turn).share) → r ≡ room (get_or ts n no_turn).exit → r < part → false ≡ has_room turns room amount
  room-short part r p q less = sym (room-none room amount turns n there (omega (arith, part-is part p, room-is r q, less)))

  -- there is room for it
  pub fit-next : ((i : ℕ) → i < n → split_of turns amount (exit_at turns i) ≤ room (exit_at turns i)) → (part r : ℕ) → part ≡ part_between amount s (s + (get_or ts n no_turn).share) → r ≡ room (get_or ts n no_turn).exit → part ≤ r
      → (i : ℕ) → i < n + 1 → split_of turns amount (exit_at turns i) ≤ room (exit_at turns i)
  fit-next before part r p q fits = fit-more turns room amount n before (omega (arith, part-is part p, room-is r q, fits))
