-- What is kept of the links, and what passed them.
use Rattle.std.proofs.Common.{◌≡◌, ℕ, zero, suc, ◌+◌, ◌-◌, ◌<◌, ◌≤◌, ◌==◌, ◌&&◌, false, List, [], ◌∷◌, ◌++◌, length, get_or, set, map, replicate, Vec, append-nil, nat_lt, if◌then◌else◌, refl, sym, ap, ◌∙◌, subst, inl, inr, arith, length-set, get_or-set_same, get_or-set_other}
use Rattle.std.proofs.lemmas.Bool.{cases_Bool, cases_eq, cases_lt, lt-ltb, ltb-true, true≢false}
use Rattle.std.proofs.lemmas.List.{get_or_default, length-replicate}
use Rattle.std.proofs.lemmas.Grind.{flat_map-append}
use Rattle.std.specs.Fmt.{decimal}
use Rattle.std.specs.List.{flat_map, range_with_len}
use Rattle.foundation.proofs.RangeLaws.{range-push}
use Rattle.csv.specs.declared.writer.Writer.{Writer}
use Rattle.control_flow.specs.declared.greens.Green.{Green}
use Rattle.net_parts.specs.Numbers.{Net}
use Rattle.net_parts.specs.Outline.{link_at, link_name_at}
use Rattle.road_net.specs.Network.{IsNetwork}
use Rattle.road_net.specs.Totals.{total}
use Rattle.road_net.proofs.TotalLaws.{total-same}
use Rattle.net_simulator.specs.Counts.{counts_at}
use Rattle.net_simulator.specs.Flow.{Cumulative, nothing, cumulative_under, queue}
use Rattle.net_simulator.specs.Sums.{delay, end_of_run, link_totals}
use Rattle.net_simulator.specs.Worlds.{Stands, WorldState, line_in, signs_by}
use Rattle.net_simulator.specs.declared.totals.LinkTotals.{LinkTotals}
use Rattle.net_simulator.proofs.FlowLaws.{past-kept, past-none}
use Rattle.net_simulator.proofs.Conserving.{left-entered}
use Rattle.net_simulator.proofs.Passing.{sound-at, zeros}
use Rattle.net_simulator.specs.Shown.{cumulative_of_lines}
use Rattle.world_records.specs.Written.{Adds, HasWritten}
use Rattle.world_records.proofs.WrittenLaws.{adds-then}
use Rattle.queue_series.specs.Series.{IsPeak, IsSeries, change_records, header, peak_record, second_records}
use Rattle.queue_series.specs.declared.link_states.Peak.{Peak}
use Rattle.queue_series.specs.declared.link_states.LinkState.{LinkState}
use Rattle.queue_series.specs.LinkStates.{AreLinkStates, CanGoOn, HaveMoved, IsLinkState, are_same, first_state, kept_records, next_at, next_peak, next_state, peak_of, state_at, state_record}
use Rattle.control_flow.specs.declared.greens.Sign.{Sign}

-- ---- the past up to a second is part of a longer one

module _ (net : Net) (arriving : ℕ → ℕ → ℕ) (shown : ℕ → ℕ → Sign) (x : ℕ) where
  past-longer : (m n l : ℕ) → n ≤ x → x ≤ m → cumulative_under net arriving shown m n l ≡ cumulative_under net arriving shown x n l
  past-longer zero n l within longer = (let e : zero ≡ x = omega (arith, longer) in ap (λ t. cumulative_under net arriving shown t n l) e)
  past-longer (suc m) n l within longer = elim (cases_eq x (suc m)) [
    | inl e ↦ ap (λ t. cumulative_under net arriving shown t n l) (sym e)
    | inr other ↦ past-kept net arriving shown m n l (omega (arith, within, longer, other)) ∙ past-longer m n l within (omega (arith, longer, other))
  ]

  queue-longer : (m n l : ℕ) → n ≤ x → x ≤ m → queue net (cumulative_under net arriving shown m) n l ≡ queue net (cumulative_under net arriving shown x) n l
  queue-longer m n l within longer =
      let reaches = past-longer m (n - (link_at net l).travel) l (omega (arith, within)) longer in
      let leaves = past-longer m n l within longer in
      ap (λ (p : Cumulative). p.entered - (cumulative_under net arriving shown m n l).left) reaches ∙ ap (λ (p : Cumulative). (cumulative_under net arriving shown x (n - (link_at net l).travel) l).entered - p.left) leaves

  delay-longer : (m l : ℕ) → x ≤ m → delay net (cumulative_under net arriving shown m) x l ≡ delay net (cumulative_under net arriving shown x) x l
  delay-longer m l longer =
      total-same (λ y. queue net (cumulative_under net arriving shown m) (y + 1) l) (λ y. queue net (cumulative_under net arriving shown x) (y + 1) l) x (λ y before. queue-longer m (y + 1) l (omega (arith, before)) longer)

  -- what the first x seconds have counted of a link
  pub totals-longer : (m l : ℕ) → x ≤ m → link_totals net (cumulative_under net arriving shown x) x l ≡ link_totals net (cumulative_under net arriving shown m) x l
  totals-longer m l longer =
      let same = sym (past-longer m x l (omega arith) longer) in
      let waits = sym (delay-longer m l longer) in
      λ i. record { entered = (same i).entered; left = (same i).left; delay = waits i }

-- ---- what is kept of a link

module _ (net : Net) (past : ℕ → ℕ → Cumulative) (l : ℕ) where
  -- with one more second
  delay-next : (n : ℕ) → delay net past (n + 1) l ≡ delay net past n l + queue net past (n + 1) l
  delay-next n = (let e : n + 1 ≡ suc n = omega arith in ap (λ k. total (λ x. queue net past (x + 1) l) k) e)

  peak-next : (n : ℕ) (peak : Peak) (q : ℕ) → IsPeak net past n l peak → q ≡ queue net past (n + 1) l → IsPeak net past (n + 1) l (next_peak peak q (n + 1))
  peak-next n peak q is at = elim (cases_Bool (nat_lt peak.queue q)) [
    | inl more ↦
        let above = ltb-true peak.queue q more in
        rw more (record {
          by = omega arith;
          is = sym at;
          longest = λ k within. elim (cases_eq k (n + 1)) [
            | inl e ↦ subst (λ j. queue net past j l ≤ q) (sym e) (omega (arith, at))
            | inr other ↦ omega (arith, is.longest k (omega (arith, within, other)), above)
          ];
          first = λ k before. omega (arith, is.longest k (omega (arith, before)), above);
        })
    | inr less ↦
        let below : q ≤ peak.queue = not-more less in
        rw less (record {
          by = omega (arith, is.by);
          is = is.is;
          longest = λ k within. elim (cases_eq k (n + 1)) [
            | inl e ↦ subst (λ j. queue net past j l ≤ peak.queue) (sym e) (omega (arith, at, below))
            | inr other ↦ is.longest k (omega (arith, within, other))
          ];
          first = is.first;
        })
  ]
    where
      not-more : nat_lt peak.queue q ≡ false → q ≤ peak.queue
      not-more none = elim (cases_lt peak.queue q) [ inl more ↦ absurd (true≢false (sym (lt-ltb peak.queue q more) ∙ none)) | inr less ↦ less ]

  pub state-next : (n : ℕ) (before : LinkState) (totals : LinkTotals) → IsLinkState net past n l before → totals ≡ link_totals net past (n + 1) l → IsLinkState net past (n + 1) l (next_state before totals (n + 1))
  state-next n before totals was counted =
      let grown : totals.delay ≡ delay net past (n + 1) l = ap (λ (t : LinkTotals). t.delay) counted in
      let waits : totals.delay - before.delay ≡ queue net past (n + 1) l = omega (arith, grown, delay-next n, was.delay) in
      record {
        delay = grown;
        queue = waits;
        on = ap (λ (t : LinkTotals). t.entered - t.left) counted;
        peak = peak-next n before.peak (totals.delay - before.delay) was.peak waits;
      }

  pub can-go-on : (n : ℕ) (before : LinkState) (totals : LinkTotals) → IsLinkState net past n l before → totals ≡ link_totals net past (n + 1) l → (past (n + 1) l).left ≤ (past (n + 1) l).entered → CanGoOn before totals
  can-go-on n before totals was counted sound = record {
    delay = omega (arith, ap (λ (t : LinkTotals). t.delay) counted, delay-next n, was.delay);
    on = omega (arith, ap (λ (t : LinkTotals). t.left) counted, ap (λ (t : LinkTotals). t.entered) counted, sound);
  }

-- ---- one link after another

pub more-moved : (world : WorldState) (old new : List LinkState) (k : ℕ) (after : LinkState) → k < length old → HaveMoved world old k new → after ≡ next_at world old k → HaveMoved world old (k + 1) (set new k after)
more-moved world old new k after below were is = record {
  count = length-set new k after ∙ were.count;
  moved = λ l less. elim (cases_eq l k) [
    | inl e ↦ ap (state_at (set new k after)) e ∙ get_or-set_same new k after first_state (omega (arith, below, were.count)) ∙ is ∙ ap (next_at world old) (sym e)
    | inr other ↦ get_or-set_other new k l after first_state other ∙ were.moved l (omega (arith, less, other))
  ];
  rest = λ l past. get_or-set_other new k l after first_state (λ e. omega (arith, e, past)) ∙ were.rest l (omega (arith, past));
}

-- what the code reads of a list of link_states
pub state-is : (link_states : List LinkState) (l : ℕ) (w : LinkState) → l < length link_states → w ≡ get_or link_states l w → w ≡ state_at link_states l
state-is link_states l w below is = is ∙ sym (get_or_default link_states l first_state w below)

-- the record of a link by what the code has of it
pub kept-is : (net : Net) (world : WorldState) (old : List LinkState) (l : ℕ) (before after : LinkState) (second : ℕ) → before ≡ state_at old l → after ≡ next_at world old l → second ≡ world.second
    → (if are_same before after then [] else state_record net l second after ∷ []) ≡ kept_records net world old l
kept-is net world old l before after second b a s = λ i. if are_same (b i) (a i) then [] else state_record net l (s i) (a i) ∷ []

-- ---- all links, and the world

-- a list of pieces, piece by piece
flat-same : {X : Type 0} (f g : ℕ → List X) (n : ℕ) → ((l : ℕ) → l < n → f l ≡ g l) → flat_map f (range_with_len 0 n) ≡ flat_map g (range_with_len 0 n)
flat-same f g zero same = refl
flat-same f g (suc n) same =
    let e : suc n ≡ n + 1 = omega arith in
    let one : flat_map f (range_with_len 0 (n + 1)) ≡ flat_map g (range_with_len 0 (n + 1)) =
    flat-more f n ∙ ap (λ t. t ++ f n) (flat-same f g n (λ l less. same l (omega (arith, less)))) ∙ ap (λ t. flat_map g (range_with_len 0 n) ++ t) (same n (omega arith)) ∙ sym (flat-more g n) in
    subst (λ k. flat_map f (range_with_len 0 k) ≡ flat_map g (range_with_len 0 k)) (sym e) one
  where
    flat-more : {X : Type 0} (h : ℕ → List X) (k : ℕ) → flat_map h (range_with_len 0 (k + 1)) ≡ flat_map h (range_with_len 0 k) ++ h k
    flat-more h k =
        let at : 0 + k ≡ k = omega arith in
        ap (flat_map h) (range-push 0 k ∙ ap (λ (j : ℕ). range_with_len 0 k ++ j ∷ []) at) ∙ flat_map-append h (range_with_len 0 k) (k ∷ []) ∙ ap (λ t. flat_map h (range_with_len 0 k) ++ t) (append-nil (h k))

module _ (net : Net) (network : IsNetwork net) (arriving : ℕ → ℕ → ℕ) (lines : List (List Green)) (n : ℕ) (before : n < end_of_run net) (world : WorldState) (second : world.second ≡ n + 1)
    (stands : Stands net arriving (signs_by (line_in lines)) world) (link_states : List LinkState) (are : AreLinkStates net (cumulative_of_lines net arriving lines) n link_states) where
  abbrev past : ℕ → ℕ → Cumulative
  past = cumulative_of_lines net arriving lines

  counted : (l : ℕ) → l < length net.link_names → counts_at world.counts l ≡ link_totals net past (n + 1) l
  counted l below =
      stands.counts l below ∙ ap (λ s. link_totals net (cumulative_under net arriving (signs_by (line_in lines)) s) s l) second
      ∙ totals-longer net arriving (signs_by (line_in lines)) (n + 1) (end_of_run net) l (omega (arith, before))

  pub can-all : (l : ℕ) → l < length net.link_names → CanGoOn (state_at link_states l) (counts_at world.counts l)
  can-all l below =
      can-go-on net past l n (state_at link_states l) (counts_at world.counts l) (are.are l below) (counted l below)
      (left-entered net past (end_of_run net) (sound-at net network arriving (signs_by (line_in lines)) (end_of_run net)) l (n + 1) below (omega (arith, before)))

  next-is : (l : ℕ) → l < length net.link_names → IsLinkState net past (n + 1) l (next_at world link_states l)
  next-is l below =
      subst (λ s. IsLinkState net past (n + 1) l (next_state (state_at link_states l) (counts_at world.counts l) s)) (sym second)
      (state-next net past l n (state_at link_states l) (counts_at world.counts l) (are.are l below) (counted l below))

  pub link_states-next : (new : List LinkState) → HaveMoved world link_states (length net.link_names) new → AreLinkStates net past (n + 1) new
  link_states-next new moved = record {
    count = moved.count ∙ are.count;
    are = λ l below. subst (IsLinkState net past (n + 1) l) (sym (moved.moved l below)) (next-is l below);
  }

  record-is : (l : ℕ) → l < length net.link_names → kept_records net world link_states l ≡ change_records net past n l
  record-is l below =
      let was = are.are l below in
      let now = next-is l below in
      λ i. if (was.queue i == now.queue i) && (was.on i == now.on i) then [] else (decimal (second i) ∷ link_name_at net l ∷ decimal (now.queue i) ∷ decimal (now.on i) ∷ []) ∷ []

  pub records-are : flat_map (kept_records net world link_states) (range_with_len 0 (length net.link_names)) ≡ second_records net past n
  records-are = flat-same (kept_records net world link_states) (change_records net past n) (length net.link_names) record-is

-- before the first second
module _ (net : Net) (arriving : ℕ → ℕ → ℕ) (lines : List (List Green)) where
  abbrev no_past : ℕ → ℕ → Cumulative
  no_past = cumulative_of_lines net arriving lines

  none : (l : ℕ) → no_past 0 l ≡ nothing
  none l = past-none net arriving (signs_by (line_in lines)) (end_of_run net) l

  no-queue : (l : ℕ) → 0 ≡ queue net no_past 0 l
  no-queue l =
      let early : 0 ≡ 0 - (link_at net l).travel = omega arith in
      ap (λ (p : Cumulative). p.entered - 0) (sym (none l) ∙ ap (λ k. no_past k l) early) ∙ ap (λ (p : Cumulative). (no_past (0 - (link_at net l).travel) l).entered - p.left) (sym (none l))

  empty : (l : ℕ) → IsLinkState net no_past 0 l first_state
  empty l = record {
    delay = refl;
    queue = no-queue l;
    on = ap (λ (p : Cumulative). p.entered - p.left) (sym (none l));
    peak = record {
      by = omega arith;
      is = sym (no-queue l);
      longest = λ k within. (let e : k ≡ 0 = omega (arith, within) in subst (λ j. queue net no_past j l ≤ 0) (sym e) (omega (arith, no-queue l)));
      first = λ k before. absurd (omega (arith, before));
    };
  }

  pub first-states : (link_states : List LinkState) → link_states ≡ replicate (length net.link_names) first_state → AreLinkStates net no_past 0 link_states
  first-states link_states is = record {
    count = ap length is ∙ length-replicate (length net.link_names) first_state;
    are = λ l below. subst (IsLinkState net no_past 0 l) (sym (ap (λ (ws : List LinkState). state_at ws l) is ∙ zeros (length net.link_names) l first_state)) (empty l);
  }

-- the parts of the text, one after another
pub series-is : {Z : Type 0} (net : Net) (past : ℕ → ℕ → Cumulative) (end : ℕ) (link_states all : List LinkState) (bytes : List ℕ) (o0 o1 o2 o3 : Writer (Vec ℕ Z))
    → AreLinkStates net past end link_states → all ≡ link_states → HasWritten o0 [] → Adds o0 o1 (header ∷ []) → Adds o1 o2 (flat_map (second_records net past) (range_with_len 0 end))
    → Adds o2 o3 (map (peak_record net (peak_of all)) (range_with_len 0 (length net.link_names))) → ((text : List ℕ) → HasWritten o3 text → bytes ≡ text) → IsSeries net past end bytes
series-is net past end link_states all bytes o0 o1 o2 o3 are same begun first seconds last gives = record {
  peaks = peak_of all;
  are = λ l below. subst (λ (ws : List LinkState). IsPeak net past end l (peak_of ws l)) (sym same) (are.are l below).peak;
  text = gives _ ((adds-then o0 o1 o3 _ _ first (adds-then o1 o2 o3 _ _ seconds last)).adds [] begun);
}
