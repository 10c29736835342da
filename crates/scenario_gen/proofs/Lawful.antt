-- The rows of a grid are lawful, and no fault comes but out of memory.
use Rattle.std.proofs.Common.{◌≡◌, ℕ, ◌+◌, ◌*◌, ◌<◌, ◌≤◌, Bool, true, false, List, [], ◌∷◌, ◌++◌, length, get_or, Option, Some, None, All, is_none, refl, sym, ap, ◌∙◌, subst, arith, filter, ◌%◌, ◌==◌, sum_by}
use Rattle.std.specs.List.{flat_map, range_with_len}
use Rattle.std.proofs.lemmas.Bool.{cond_both, false≢true}
use Rattle.std.proofs.lemmas.List.{get_or_at, length-map}
use Rattle.std.proofs.lemmas.List.Elements.{All-cons, All-head, All-nil, All-tail}
use Rattle.std.proofs.lemmas.List.FromFn.{length-range_with_len}
use Rattle.std.proofs.lemmas.List.Sums.{sum_by-append, sum_by-cons, sum_by-le}
use Rattle.std.proofs.lemmas.Option.{same_Some}
use Rattle.foundation.proofs.EachLaws.{each-self}
use Rattle.net_parts.specs.declared.drafts.Draft.{Draft}
use Rattle.net_parts.specs.declared.faults.NetFault.{NetFault}
use Rattle.net_parts.specs.declared.faults.NetFault.TheVariants as net_fault
use Rattle.net_parts.specs.Numbers.{Net}
use Rattle.net_parts.specs.FirstFaults.{Refuses}
use Rattle.net_parts.proofs.DraftParts.{numbered-parts}
use Rattle.net_parts.specs.Outline.{link_at}
use Rattle.road_net.specs.Network.{IsNetworkOf}
use Rattle.arrivals.specs.declared.rows.ArrivalRow.{ArrivalRow}
use Rattle.arrivals.specs.declared.rows.RowFault.{RowFault}
use Rattle.arrivals.specs.declared.rows.RowFault.TheVariants as row_fault
use Rattle.arrivals.specs.Faults.{IsAtBound, IsAtLink, IsFirst, IsRowFault}
use Rattle.net_parts.specs.Limits.{most_of_all, small_seconds, limits}
use Rattle.arrivals.specs.Rows.{AreRows, IsRow, IsSource, amount_of}
use Rattle.rand_pcg.specs.Lcg.{Lcg}
use Rattle.scenario_gen.specs.Arrivals.{after_words, generator, row_by, rows, rows_from, rows_of_second, sources, word}
use Rattle.scenario_gen.specs.Drafts.{grid_draft}
use Rattle.scenario_gen.specs.Grids.{AreRounds, HasGrid}
use Rattle.scenario_gen.specs.Layout.{IsSide}
use Rattle.scenario_gen.proofs.Legal.{HasNetwork}
use Rattle.scenario_gen.proofs.Loops.{all-flat, below}
use Rattle.scenario_gen.proofs.Squares.{square}

-- the elements that pass a test
all-picked : {X : Type 0} (test : X → Bool) (P : X → Type 0) (xs : List X) → All (λ x. test x ≡ true → P x) xs → All P (filter test xs)
all-picked test P [] are = All-nil P
all-picked test P (x ∷ xs) are =
    let rest = all-picked test P xs (All-tail (λ y. test y ≡ true → P y) x xs are) in
    cond_both (test x) (x ∷ filter test xs) (filter test xs) (All P) (λ e. All-cons P x (filter test xs) (All-head (λ y. test y ≡ true → P y) x xs are e) rest) (λ e. rest)

picked-few : {X : Type 0} (test : X → Bool) (xs : List X) → length (filter test xs) ≤ length xs
picked-few test [] = omega arith
picked-few test (x ∷ xs) = cond_both (test x) (x ∷ filter test xs) (filter test xs) (λ l. length l ≤ length (x ∷ xs)) (λ e. let h = picked-few test xs in omega arith) (λ e. let h = picked-few test xs in omega arith)

none-by : (o : Option ℕ) → is_none o ≡ true → o ≡ None
none-by None e = refl
none-by (Some n) e = absurd (false≢true e)

are-sources : (net : Net) → All (IsSource net) (sources net)
are-sources net =
    all-picked (λ l. is_none (link_at net l).from) (IsSource net) (range_with_len 0 (length net.link_names))
    (below (length net.link_names) (λ l. is_none (link_at net l).from ≡ true → IsSource net l) (λ l h e. record { exists = h; outside = none-by (link_at net l).from e }))

few-sources : (net : Net) → length (sources net) ≤ length net.link_names
few-sources net = let a = picked-few (λ l. is_none (link_at net l).from) (range_with_len 0 (length net.link_names)) in omega (arith, a, length-range_with_len 0 (length net.link_names))

-- what the pieces of a list bring together
sum-flat : {X : Type 0} (f : ArrivalRow → ℕ) (pieces : X → List ArrivalRow) (xs : List X) → sum_by f (flat_map pieces xs) ≡ sum_by (λ x. sum_by f (pieces x)) xs
sum-flat f pieces [] = refl
sum-flat f pieces (x ∷ xs) = sum_by-append f (pieces x) (flat_map pieces xs) ∙ ap (λ k. sum_by f (pieces x) + k) (sum-flat f pieces xs) ∙ sym (sum_by-cons (λ y. sum_by f (pieces y)) x xs)

module _ (net : Net) (entered : List ℕ) (sound : All (IsSource net) entered) where
  row-lawful : (second place w : ℕ) → second < small_seconds → place < length entered → All (IsRow net) (row_by second (get_or entered place 0) w)
  row-lawful second place w early inside =
      cond_both (w % 10 == 0) (record { second = second; link = get_or entered place 0; amount = 1000 } ∷ []) [] (All (IsRow net))
      (λ e. All-cons (IsRow net) _ [] (record { source = sound place 0 inside; bounds = record { second = omega (arith, early); least = omega arith; most = omega arith } }) (All-nil (IsRow net)))
      (λ e. All-nil (IsRow net))

  row-few : (second place w : ℕ) → sum_by amount_of (row_by second (get_or entered place 0) w) ≤ 1000
  row-few second place w = cond_both (w % 10 == 0) (record { second = second; link = get_or entered place 0; amount = 1000 } ∷ []) [] (λ rs. sum_by amount_of rs ≤ 1000) (λ e. omega arith) (λ e. omega arith)

  second-lawful : (second : ℕ) (g : Lcg) → second < small_seconds → All (IsRow net) (rows_of_second second entered g)
  second-lawful second g early =
      all-flat (IsRow net) (λ place. row_by second (get_or entered place 0) (word g place)) (range_with_len 0 (length entered))
      (below (length entered) (λ place. All (IsRow net) (row_by second (get_or entered place 0) (word g place))) (λ place h. row-lawful second place (word g place) early h))

  second-few : (second : ℕ) (g : Lcg) → sum_by amount_of (rows_of_second second entered g) ≤ length entered * 1000
  second-few second g =
      let pieces : ℕ → List ArrivalRow = λ place. row_by second (get_or entered place 0) (word g place) in
      let a = sum-flat amount_of pieces (range_with_len 0 (length entered)) in
      let b = sum_by-le (λ place. sum_by amount_of (pieces place)) 1000 (range_with_len 0 (length entered)) (below (length entered) (λ place. sum_by amount_of (pieces place) ≤ 1000) (λ place h. row-few second place (word g place))) in
      omega (arith, a, b, length-range_with_len 0 (length entered))

  module _ (few : length entered ≤ (limits false).links) (g : Lcg) (seconds : ℕ) (short : seconds ≤ 3000) where
    all-lawful : All (IsRow net) (rows_from g entered seconds)
    all-lawful =
        all-flat (IsRow net) (λ second. rows_of_second second entered (after_words g (second * length entered))) (range_with_len 0 seconds)
        (below seconds (λ second. All (IsRow net) (rows_of_second second entered (after_words g (second * length entered)))) (λ second h. second-lawful second (after_words g (second * length entered)) (omega (arith, h, short))))

    all-few : sum_by amount_of (rows_from g entered seconds) ≤ most_of_all
    all-few =
        let pieces : ℕ → List ArrivalRow = λ second. rows_of_second second entered (after_words g (second * length entered)) in
        let a = sum-flat amount_of pieces (range_with_len 0 seconds) in
        let b = sum_by-le (λ second. sum_by amount_of (pieces second)) 320000 (range_with_len 0 seconds) (below seconds (λ second. sum_by amount_of (pieces second) ≤ 320000) (λ second h. omega (arith, few, second-few second (after_words g (second * length entered))))) in
        omega (arith, a, b, short, length-range_with_len 0 seconds)

-- a network of a draft has no more links than the draft may have, and that of a grid is not great
small-few : (d : Draft) (net : Net) → IsNetworkOf d net → length net.link_names ≤ (limits d.great).links
small-few d net is = let parts = numbered-parts d net is.numbers in rw (parts.names, length-map) is.bounds.counts.links.1

pub grid-few : (side rounds : ℕ) (net : Net) → IsNetworkOf (grid_draft side rounds) net → length net.link_names ≤ (limits false).links
grid-few side rounds net is = small-few (grid_draft side rounds) net is

-- the rows of a grid are lawful in a network that is not great
pub are-rows : (net : Net) (number rounds : ℕ) → length net.link_names ≤ (limits false).links → AreRounds rounds → AreRows net (rows number rounds net)
are-rows net number rounds few are =
    let most = are.most in
    let short : 5 * rounds ≤ 3000 = omega arith in
    let sources_few : length (sources net) ≤ (limits false).links = omega (arith, few, few-sources net) in
    record { each = all-lawful net (sources net) (are-sources net) sources_few (generator number) (5 * rounds) short; few = all-few net (sources net) (are-sources net) sources_few (generator number) (5 * rounds) short }

-- a draft that stands for a network is refused only when out of memory
pub memory-alone : (d : Draft) (fault : NetFault) → HasNetwork d → Refuses fault ((net : Net) → IsNetworkOf d net → ⊥) → fault ≡ net_fault.NoMemory
memory-alone d net_fault.NoMemory has why = refl
memory-alone d net_fault.NotToml has why = absurd why
memory-alone d (net_fault.Shape place) has why = absurd why
memory-alone d (net_fault.Bound place) has why = absurd (why has.net has.network)
memory-alone d (net_fault.Twice place) has why = absurd (why has.net has.network)
memory-alone d (net_fault.Unknown place) has why = absurd (why has.net has.network)
memory-alone d (net_fault.Ends l) has why = absurd (why has.net has.network)
memory-alone d (net_fault.Crowd n) has why = absurd (why has.net has.network)
memory-alone d (net_fault.Shares l) has why = absurd (why has.net has.network)
memory-alone d (net_fault.Phaseless l) has why = absurd (why has.net has.network)
memory-alone d (net_fault.Also l) has why = absurd (why has.net has.network)
memory-alone d (net_fault.Clash a b) has why = absurd (why has.net has.network)
memory-alone d (net_fault.Yields l) has why = absurd (why has.net has.network)
memory-alone d (net_fault.Walk l) has why = absurd (why has.net has.network)

-- a row at fault among lawful ones
module _ (net : Net) (all : List ArrivalRow) (are : AreRows net all) where
  here-lawful : (n : ℕ) (at_fault : List ArrivalRow → ArrivalRow → Type 0) (first : IsFirst Some net all n at_fault) → IsRow net first.here
  here-lawful n at_fault first =
      let row : ArrivalRow = first.here in
      let long : length first.before < length all = omega (arith, ap length first.are, length-parts first.before first.here first.after) in
      subst (IsRow net) (ap (λ l. get_or l (length first.before) row) first.are ∙ get_or_at first.before first.here first.after row (length first.before) refl) (are.each (length first.before) row long)
    where
      length-parts : (xs : List ArrivalRow) (y : ArrivalRow) (ys : List ArrivalRow) → length xs < length (xs ++ y ∷ ys)
      length-parts [] y ys = omega arith
      length-parts (x ∷ xs) y ys = let h = length-parts xs y ys in omega arith

  -- rows that are lawful are refused only when out of memory
  pub memory-alone-of-rows : (fault : RowFault) → IsRowFault net all fault → fault ≡ row_fault.NoMemory
  memory-alone-of-rows row_fault.NoMemory why = refl
  memory-alone-of-rows row_fault.Header why = absurd why
  memory-alone-of-rows (row_fault.Row n) why = absurd why
  memory-alone-of-rows (row_fault.Link n) why = absurd (why.faulty (here-lawful n (λ before r. IsAtLink net r) why).source)
  memory-alone-of-rows (row_fault.Bound n) why = absurd (why.faulty.1 (here-lawful n (λ before r. IsAtBound net r) why).bounds)
  memory-alone-of-rows (row_fault.Sum n) why = absurd (
      let same : why.before ≡ why.so_far = same_Some why.before why.so_far (sym (each-self why.before) ∙ why.reads.reads) in
      let whole = ap (sum_by amount_of) why.are ∙ sum_by-append amount_of why.before (why.here ∷ why.after) in
      let few = are.few in
      omega (arith, whole, sum_by-cons amount_of why.here why.after, ap (sum_by amount_of) same, why.faulty.1))

-- each grid is there
pub has-grid : (number side rounds : ℕ) → IsSide side → AreRounds rounds → HasGrid number side rounds
has-grid number side rounds is are =
    let has = square side rounds is are in
    record { net = has.net; network = has.network; rows_lawful = are-rows has.net number rounds (grid-few side rounds has.net has.network) are }
