-- A part of a split is at most the amount, and the parts of the turns of a link.
use Rattle.std.proofs.Common.{ℕ, ◌+◌, ◌*◌, ◌≤◌, ◌==◌, List, length, get_or, Option, Some, None, sum_by, refl, ap, arith}
use Rattle.std.specs.Prelude.{position}
use Rattle.std.specs.Option.{option_map_or}
use Rattle.std.proofs.Math.Nat.{div-le_of_le-mul, mul-le-mul_left}
use Rattle.std.proofs.lemmas.List.Sums.{sum_by-take-le}
use Rattle.net_parts.specs.declared.roads.Turn.{Turn}
use Rattle.net_parts.specs.declared.roads.Link.{Link}
use Rattle.road_net.specs.Joins.{share_of, shares_to, part, split_of, HasShares, AreParts}
use Rattle.road_net.proofs.Shares.{split-found}

part-most : (turns : List Turn) (amount k : ℕ) → sum_by share_of turns ≤ 1000 → part turns amount k ≤ amount
part-most turns amount k whole =
    let few : shares_to turns (k + 1) ≤ 1000 = omega (arith, sum_by-take-le share_of turns (k + 1)) in
    let most : amount * shares_to turns (k + 1) ≤ 1000 * amount = omega (arith, mul-le-mul_left amount few) in
    omega (arith, div-le_of_le-mul 1000 most)

at-most : (turns : List Turn) (amount : ℕ) (place : Option ℕ) → sum_by share_of turns ≤ 1000 → option_map_or (part turns amount) place 0 ≤ amount
at-most turns amount None whole = omega arith
at-most turns amount (Some k) whole = part-most turns amount k whole

pub split-most : (turns : List Turn) (amount exit : ℕ) → sum_by share_of turns ≤ 1000 → split_of turns amount exit ≤ amount
split-most turns amount exit whole = at-most turns amount (position (λ t. t.exit == exit) turns) whole

-- the shares of a link are at most the whole
pub shares-most : (links : List Link) (turns : List Turn) (to : Option ℕ) → HasShares links turns to → sum_by share_of turns ≤ 1000
shares-most links turns None none = rw none (omega arith)
shares-most links turns (Some node) table = omega (arith, table.whole)

-- the turns of a link and the parts that they make
pub parts : (links : List Link) (turns : List Turn) (to : Option ℕ) → HasShares links turns to → AreParts turns
parts links turns None none = record {
  shares = λ k. omega (arith, sum_by-take-le share_of turns k, shares-most links turns None none);
  each = λ amount k d h. absurd (omega (arith, ap length none));
}
parts links turns (Some node) table = record {
  shares = λ k. omega (arith, sum_by-take-le share_of turns k, table.whole);
  each = λ amount k d h. split-found turns amount (get_or turns k d).exit k d h refl (λ j b. table.differ j k d b h);
}
