-- Where there is room for the whole wish, it is what fits; and where every link holds as much as may ever be on the road, there is.
use Rattle.std.proofs.Common.{◌≡◌, ◌≢◌, ℕ, false, zero, suc, ◌+◌, ◌-◌, ◌<◌, ◌≤◌, Bool, true, min, cond, leb, List, [], ◌∷◌, ◌++◌, Option, Some, None, IsSome, All, length, map, get_or, slice_index, refl, sym, ap, ◌∙◌, inl, inr, add-one, arith}
use Rattle.std.specs.List.{range_with_len, list_all}
use Rattle.std.proofs.lemmas.Bool.{le-leb, cases_lt}
use Rattle.std.proofs.lemmas.List.{get_or_past}
use Rattle.std.proofs.lemmas.List.Elements.{All-get_or}
use Rattle.std.proofs.lemmas.List.FromFn.{get_or-map-range_with_len, length-map-range_with_len, map-range_with_len_more}
use Rattle.std.proofs.lemmas.Option.{same_Some}
use Rattle.net_parts.specs.declared.roads.Turn.{Turn}
use Rattle.net_parts.specs.Numbers.{Net, no_link}
use Rattle.net_parts.specs.Outline.{link_at, turns_at}
use Rattle.road_net.specs.Joins.{split_of, HasEnds, HasShares}
use Rattle.road_net.specs.Network.{IsNetwork}
use Rattle.road_net.specs.Totals.{total}
use Rattle.road_net.proofs.Everywhere.{everywhere}
use Rattle.road_net.proofs.TotalLaws.{total-same, total-add, total-swap}
use Rattle.net_simulator.specs.Flow.{Cumulative, waiting, discharge, discharge_to, may_go, rate}
use Rattle.net_simulator.specs.Sums.{outward, on_road}
use Rattle.net_simulator.proofs.Conserving.{onward, total-parts, grown}
use Rattle.net_simulator.proofs.EveryWorld.{parts-of}
use Rattle.net_simulator.proofs.Sound.{IsSound, discharge_to-most}
use Rattle.net_simulator.proofs.Sums.{total-part, total-without, without, without-other}
use Rattle.spillback_world.specs.Filling.{greatest, has_room}
use Rattle.spillback_world.specs.Storage.{first_out, inward, held_after, next_goes, all_goes, goes_of, opening}
use Rattle.control_flow.specs.declared.greens.Sign.{Sign}

pub greatest-all : (fits : ℕ → Bool) (wish : ℕ) → fits wish ≡ true → greatest fits wish ≡ wish
greatest-all fits zero fit = refl
greatest-all fits (suc n) fit = rw fit refl

all-fit : (turns ts : List Turn) (room : ℕ → ℕ) (amount : ℕ) → All (λ (t : Turn). split_of turns amount t.exit ≤ room t.exit) ts → list_all (λ (t : Turn). leb (split_of turns amount t.exit) (room t.exit)) ts ≡ true
all-fit turns [] room amount all = refl
all-fit turns (t ∷ ts) room amount all =
    rw (le-leb (split_of turns amount t.exit) (room t.exit) (all 0 t (omega arith))) (all-fit turns ts room amount (λ i d h. all (suc i) d (omega arith)))

-- two numbers of a sum
two-parts : (f : ℕ → ℕ) (n i j : ℕ) → i < n → j < n → i ≢ j → f i + f j ≤ total f n
two-parts f n i j hi hj other =
    let rest = total-part (without i f) n j hj in
    omega (arith, total-without i f n hi, rest, without-other i f j (λ e. other (sym e)))

-- a sum of numbers that are 0 from a place on
short-total : (f : ℕ → ℕ) (m d : ℕ) → ((i : ℕ) → m ≤ i → f i ≡ 0) → total f (m + d) ≡ total f m
short-total f m zero none = ap (total f) (let e : m + 0 ≡ m = omega arith in e)
short-total f m (suc d) none =
    let e : m + suc d ≡ suc (m + d) = omega arith in
    omega (arith, ap (total f) e, short-total f m d none, none (m + d) (omega arith))

inward-onward : (to : Option ℕ) (a : ℕ) → inward to a ≡ onward to a
inward-onward None a = refl
inward-onward (Some node) a = refl

inward-none : (to : Option ℕ) → inward to 0 ≡ 0
inward-none None = refl
inward-none (Some node) = refl

-- what a link may give is there, whether it leaves the network or not
out-in : (to : Option ℕ) (a w on : ℕ) → a ≤ w → w ≤ on → inward to a + outward to w ≤ on
out-in None a w on less there = omega arith
out-in (Some node) a w on less there = omega arith

-- where a link may not go it wishes nothing
wish-is : (may : Bool) (r w : ℕ) → min (cond may r 0) w ≡ cond may (min r w) 0
wish-is true r w = refl
wish-is false r w = omega arith

module _ (net : Net) (network : IsNetwork net) (shown : ℕ → ℕ → Sign) (past : ℕ → ℕ → Cumulative) (x : ℕ) (sound : IsSound net past x) (few : on_road net past x ≤ 2000000000) (travels : (l : ℕ) → l < length net.link_names → 1 ≤ (link_at net l).travel) where
  abbrev n : ℕ
  n = length net.link_names

  abbrev D : ℕ → ℕ
  D = discharge net shown past x

  abbrev on : ℕ → ℕ
  on l = (past x l).entered - (past x l).left

  -- the discharges of the first m links without bounds
  abbrev pub first : ℕ → List ℕ
  first m = map D (range_with_len 0 m)

  waiting-there : (l : ℕ) → l < n → waiting net past x l ≤ on l
  waiting-there l inside =
      let some = travels l inside in
      let e : (x + 1 - (link_at net l).travel) + (x - (x + 1 - (link_at net l).travel)) ≡ x = omega arith in
      omega (arith, ap (λ i. (past i l).entered) e, grown net past x sound l (x + 1 - (link_at net l).travel) (x - (x + 1 - (link_at net l).travel)) inside (omega arith))

  least : (l : ℕ) → D l ≤ waiting net past x l
  least l = discharge_to-most net shown past x l (link_at net l).to

  pub at-first : (m k : ℕ) → k < m → slice_index (first m) k ≡ D k
  at-first m k h = get_or-map-range_with_len D 0 m k k 0 h (omega arith)

  past-first : (m k : ℕ) → m ≤ k → slice_index (first m) k ≡ 0
  past-first m k h = get_or_past (first m) k 0 (omega (arith, length-map-range_with_len D 0 m))

  first-less : (m k : ℕ) → slice_index (first m) k ≤ waiting net past x k
  first-less m k = elim (cases_lt k m) [
    | inl less ↦ omega (arith, at-first m k less, least k)
    | inr more ↦ omega (arith, past-first m k more)
  ]

  abbrev given : ℕ → ℕ → ℕ
  given m e = total (λ k. split_of (turns_at net k) (slice_index (first m) k) e) m

  abbrev own : ℕ → ℕ → ℕ
  own m e = inward (link_at net e).to (slice_index (first m) e)

  abbrev pub held : ℕ → ℕ → ℕ
  held m e = held_after net shown past x (first m) e

  -- what a link holds, and what it has given, is what was on it and what it was given
  balance : (m e : ℕ) → e < n → held m e + own m e + first_out net past x e ≡ on e + given m e
  balance m e inside =
      let there = out-in (link_at net e).to (slice_index (first m) e) (waiting net past x e) (on e) (first-less m e) (waiting-there e inside) in
      let long = ap (total (λ k. split_of (turns_at net k) (slice_index (first m) k) e)) (length-map-range_with_len D 0 m) in
      omega (arith, there, long)

  -- what is given goes over from link to link
  moved-over : (m d : ℕ) → m + d ≡ n → total (given m) n ≡ total (own m) n
  moved-over m d whole =
      let swap = total-swap (λ e k. split_of (turns_at net k) (slice_index (first m) k) e) m n in
      let each = total-same (λ k. total (λ e. split_of (turns_at net k) (slice_index (first m) k) e) n) (own m) m (λ k h.
      let parts = parts-of net network k (omega (arith, whole)) in
      total-parts net.links (turns_at net k) (slice_index (first m) k) n (link_at net k).to parts.0 parts.1 ∙ sym (inward-onward (link_at net k).to (slice_index (first m) k))) in
      let short = short-total (own m) m d (λ i h. ap (inward (link_at net i).to) (past-first m i h) ∙ inward-none (link_at net i).to) in
      omega (arith, swap, each, short, ap (total (own m)) whole)

  -- all that is held is on the road
  pub held-on : (m d : ℕ) → m + d ≡ n → total (held m) n ≤ on_road net past x
  held-on m d whole =
      let one = total-same (λ e. held m e + own m e + first_out net past x e) (λ e. on e + given m e) n (λ e h. balance m e h) in
      let two = total-add (λ e. held m e + own m e) (first_out net past x) n in
      let three = total-add (held m) (own m) n in
      let four = total-add on (given m) n in
      omega (arith, one, two, three, four, moved-over m d whole)

  held-most : (m d : ℕ) → m + d ≡ n → total (held m) n ≤ 2000000000
  held-most m d whole = omega (arith, held-on m d whole, few)

  exit-other : (l node e : ℕ) → l < n → (link_at net l).to ≡ Some node → (link_at net e).from ≡ Some node → e < n → l ≢ e
  exit-other l node e inside to from below same =
      let ends : HasEnds (link_at net l) = All-get_or HasEnds net.links l no_link (let f = network.outline.road_count in omega arith) network.joins.ends in
      ends (ap (λ k. (link_at net k).from) same ∙ from ∙ sym to)

  -- an amount that waits fits, whatever it parts into
  room-for : (m l node amount e : ℕ) (d : ℕ) → m + d ≡ n → l < n → m ≤ l → e < n → l ≢ e → (link_at net l).to ≡ Some node → amount ≤ waiting net past x l
      → split_of (turns_at net l) amount e ≤ amount → split_of (turns_at net l) amount e ≤ 2000000000 - held m e
  room-for m l node amount e d whole inside later below other to waits part =
      let both = two-parts (held m) n l e inside below other in
      let none : own m l ≡ 0 = ap (inward (link_at net l).to) (past-first m l later) ∙ inward-none (link_at net l).to in
      let stays : first_out net past x l ≡ 0 = ap (λ o. outward o (waiting net past x l)) to in
      omega (arith, both, held-most m d whole, balance m l inside, none, stays, waiting-there l inside, waits, part)

  part-most : (l node amount e : ℕ) → l < n → (link_at net l).to ≡ Some node → e < n → split_of (turns_at net l) amount e ≤ amount
  part-most l node amount e inside to below =
      let parts = parts-of net network l inside in
      let some : IsSome (link_at net l).to = rw to refl in
      omega (arith, everywhere net.links (turns_at net l) n amount (link_at net l).to parts.1 parts.0 some, total-part (split_of (turns_at net l) amount) n e below)

  leave-to : (turns : List Turn) (l node : ℕ) → l < n → (link_at net l).to ≡ Some node → turns ≡ turns_at net l → All (λ (t : Turn). (t.exit < n) × ((link_at net t.exit).from ≡ Some node)) turns
  leave-to turns l node inside to is =
      let parts = parts-of net network l inside in
      let table = by (link_at net l).to to parts.0 in
      rw is (λ i d h. (parts.1.exits i d h, table i d h))
    where
      by : (o : Option ℕ) → o ≡ Some node → HasShares net.links (turns_at net l) o → All (λ (t : Turn). (link_at net t.exit).from ≡ Some node) (turns_at net l)
      by None e shares = absurd (cc)
      by (Some k) e shares = let same : k ≡ node = same_Some k node e in λ i d h. shares.leave i d h ∙ ap Some same

  module _ (store : ℕ → ℕ) (wide : (e : ℕ) → e < n → store e ≡ 2000000000) where
    -- what link l discharges, once the links before it have discharged what they would without bounds
    goes-here : (m d : ℕ) → m + d ≡ n → m < n → (to : Option ℕ) → (link_at net m).to ≡ to → next_goes net store (opening net shown past x) (first m) m to ≡ discharge_to net shown past x m to
    goes-here m d whole inside None to = refl
    goes-here m d whole inside (Some node) to =
        let may = may_go net shown past x m node in
        let wish = min (cond may (rate net shown past x m) 0) (waiting net past x m) in
        let exits = leave-to (turns_at net m) m node inside to refl in
        let fits = all-fit (turns_at net m) (turns_at net m) (λ e. store e - held m e) wish (λ i t h.
        let exit = exits i t h in
        let there = room-for m m node wish (get_or (turns_at net m) i t).exit d whole inside (omega arith) exit.0 (exit-other m node (get_or (turns_at net m) i t).exit inside to exit.1 exit.0) to (omega arith)
        (part-most m node wish (get_or (turns_at net m) i t).exit inside to exit.0) in
        omega (arith, there, wide (get_or (turns_at net m) i t).exit exit.0)) in
        greatest-all (has_room (turns_at net m) (λ e. store e - held m e)) wish fits ∙ wish-is may (rate net shown past x m) (waiting net past x m)

    -- so all discharge what they would without bounds
    pub goes-all : (m d : ℕ) → m + d ≡ n → goes_of net store shown past x m ≡ first m
    unfolding all_goes
    goes-all zero d whole = refl
    goes-all (suc m) d whole =
        let before = goes-all m (suc d) (omega arith) in
        let here = goes-here m (suc d) (omega arith) (omega arith) (link_at net m).to refl in
        let grows : first (suc m) ≡ first m ++ D m ∷ [] = more D m in
        ap (λ g. g ++ next_goes net store (opening net shown past x) g m (link_at net m).to ∷ []) before ∙ ap (λ a. first m ++ a ∷ []) here ∙ sym grows
      where
        more : (f : ℕ → ℕ) (m : ℕ) → map f (range_with_len 0 (suc m)) ≡ map f (range_with_len 0 m) ++ f m ∷ []
        more f m = ap (λ k. map f (range_with_len 0 k)) (sym (add-one m)) ∙ map-range_with_len_more f 0 m m (omega arith)
