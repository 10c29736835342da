-- Where every link holds as much as may ever arrive, the world with storage is the world without bounds.
use Rattle.std.proofs.Common.{◌≡◌, ℕ, zero, suc, ◌+◌, ◌-◌, ◌<◌, ◌≤◌, min, List, [], ◌∷◌, ◌++◌, length, map, slice_index, refl, ap, ◌∙◌, add-one, arith}
use Rattle.std.specs.List.{range_with_len}
use Rattle.net_parts.specs.Numbers.{Net}
use Rattle.net_parts.specs.Outline.{turns_at}
use Rattle.road_net.specs.Joins.{split_of}
use Rattle.road_net.specs.Network.{IsNetwork}
use Rattle.road_net.specs.Totals.{total}
use Rattle.road_net.proofs.TotalLaws.{total-same}
use Rattle.net_simulator.specs.Flow.{Cumulative, passed_in, passing, discharge, history, cumulative_under}
use Rattle.net_simulator.specs.Sums.{AreFew}
use Rattle.net_simulator.proofs.EveryWorld.{bounds-of}
use Rattle.net_simulator.proofs.Passing.{sound-at, whole-at, on-road-most}
use Rattle.net_simulator.proofs.Sound.{flow-moved}
use Rattle.net_simulator.proofs.Sums.{range-same, total-part}
use Rattle.net_simulator.specs.Moves.{history_by, moved}
use Rattle.spillback_world.specs.Storage.{stored_moves, outside, let_in, held_after, goes_of}
use Rattle.spillback_world.proofs.Ample.{at-first, held-on, goes-all}
use Rattle.control_flow.specs.declared.greens.Sign.{Sign}

min-first : (a b : ℕ) → a ≤ b → min a b ≡ a
min-first a b less = omega (arith, less)

module _ (net : Net) (network : IsNetwork net) (arriving : ℕ → ℕ → ℕ) (few : AreFew net arriving) (shown : ℕ → ℕ → Sign) where
  abbrev n : ℕ
  n = length net.link_names

  abbrev P : ℕ → ℕ → ℕ → Cumulative
  P x = cumulative_under net arriving shown x

  -- all that arrived at a link has entered it
  pub all-entered : (x l : ℕ) → l < n → total (λ y. arriving y l) x ≤ (P x x l).entered
  all-entered zero l inside = omega arith
  all-entered (suc x) l inside =
      let before = all-entered x l inside in
      let next = ap (λ (q : Cumulative). q.entered) (((flow-moved net arriving shown).next x).next l inside) in
      omega (arith, before, next, ap (λ i. (P (suc x) i l).entered) (add-one x))

  module _ (store : ℕ → ℕ) (wide : (e : ℕ) → e < n → store e ≡ 2000000000) where
    -- so all that arrives in a second enters in it
    let-all-in : (x l : ℕ) → l < n → (goes : List ℕ) → held_after net shown (P x) x goes l + arriving x l ≤ 2000000000 → let_in net arriving store shown (P x) x goes l ≡ arriving x l
    let-all-in x l inside goes room =
        let all = all-entered x l inside in
        min-first (outside arriving (P x) x l + arriving x l) (store l - held_after net shown (P x) x goes l) (omega (arith, all, room, wide l inside)) ∙ (let e : outside arriving (P x) x l + arriving x l ≡ arriving x l = omega (arith, all) in e)

    abbrev goes : ℕ → List ℕ
    goes x = goes_of net store shown (P x) x n

    goes-is : (x : ℕ) → goes x ≡ map (discharge net shown (P x) x) (range_with_len 0 n)
    goes-is x = goes-all net network shown (P x) x (sound-at net network arriving shown x) (on-road-most net network arriving shown few x) (bounds-of net network).some store wide n 0 (omega arith)

    room-in : (x l : ℕ) → l < n → held_after net shown (P x) x (goes x) l + arriving x l ≤ 2000000000
    room-in x l inside =
        let all = held-on net network shown (P x) x (sound-at net network arriving shown x) (on-road-most net network arriving shown few x) (bounds-of net network).some n 0 (omega arith) in
        let one = total-part (λ e. held_after net shown (P x) x (map (discharge net shown (P x) x) (range_with_len 0 n)) e) n l inside in
        let here = ap (λ g. held_after net shown (P x) x g l) (goes-is x) in
        let part = total-part (arriving x) n l inside in
        let most = few (suc x) in
        omega (arith, all, one, here, part, most, whole-at net network arriving shown x)

    -- one second is the same
    second-same : (x l : ℕ) → l < n → moved net (record { goes = slice_index (goes x); comes = let_in net arriving store shown (P x) x (goes x) }) (P x) x l ≡ passing net (arriving x) shown (P x) x l
    second-same x l inside =
        let own : (k : ℕ) → k < n → slice_index (goes x) k ≡ discharge net shown (P x) x k = λ k h.
        ap (λ g. slice_index g k) (goes-is x) ∙ at-first net network shown (P x) x (sound-at net network arriving shown x) (on-road-most net network arriving shown few x) (bounds-of net network).some n k h in
        let comes = let-all-in x l inside (goes x) (room-in x l inside) in
        let parts = total-same (λ k. split_of (turns_at net k) (slice_index (goes x) k) l) (λ k. split_of (turns_at net k) (discharge net shown (P x) x k) l) n (λ k h. ap (λ a. split_of (turns_at net k) a l) (own k h)) in
        let entered : (P x x l).entered + (let_in net arriving store shown (P x) x (goes x) l + total (λ k. split_of (turns_at net k) (slice_index (goes x) k) l) n) ≡ (passing net (arriving x) shown (P x) x l).entered = omega (arith, comes, parts) in
        let left : (P x x l).left + slice_index (goes x) l ≡ (passing net (arriving x) shown (P x) x l).left = ap (λ a. (P x x l).left + a) (own l inside) in
        λ i. record { entered = entered i; left = left i }

    pub ample : (x : ℕ) → history_by net (stored_moves net arriving store shown) x ≡ history net arriving shown x
    unfolding history_by history
    ample zero = refl
    ample (suc x) =
        let row = range-same (moved net (stored_moves net arriving store shown (history net arriving shown x) x) (P x) x) (passing net (arriving x) shown (P x) x) n (second-same x) in
        ap (λ h. h ++ map (moved net (stored_moves net arriving store shown h x) (passed_in h) x) (range_with_len 0 n) ∷ []) (ample x)
        ∙ ap (λ r. history net arriving shown x ++ r ∷ []) row
