-- The first row at fault.
use Rattle.std.proofs.Common.{◌≡◌, ◌≢◌, ℕ, ◌+◌, ◌<◌, ◌≤◌, List, [], ◌∷◌, ◌++◌, length, get_or, take, drop, sum_by, Some, refl, sym, ap, ◌∙◌, subst, arith, length-take}
use Rattle.std.proofs.lemmas.List.Sums.{sum_by-append, sum_by-cons, sum_by_push}
use Rattle.std.proofs.lemmas.List.{take_more}
use Rattle.std.proofs.lemmas.List.Elements.{All-nil, All-push}
use Rattle.std.proofs.lemmas.Option.{same_Some}
use Rattle.foundation.proofs.EachLaws.{each-self}
use Rattle.foundation.proofs.ListLaws.{All-middle, split-at}
use Rattle.net_parts.specs.Numbers.{Net}
use Rattle.arrivals.specs.declared.rows.ArrivalRow.{ArrivalRow}
use Rattle.arrivals.specs.declared.rows.RowFault.{RowFault}
use Rattle.arrivals.specs.declared.rows.RowFault.TheVariants.{NoMemory, Link, Bound, Sum}
use Rattle.arrivals.specs.Amounts.{Amounts, AreArrivalsOf}
use Rattle.arrivals.specs.Faults.{IsFirst, IsAtLink, IsAtBound, IsAtSum, IsRowFault}
use Rattle.arrivals.specs.Stored.{IsRefused, IsTaken}
use Rattle.net_parts.specs.Limits.{most_of_all}
use Rattle.arrivals.specs.Rows.{IsRow, AreRows, amount_of}

-- a row in the middle of lawful rows is lawful, and brings no more than it may with those before it
pub row-amid : (net : Net) (before : List ArrivalRow) (r : ArrivalRow) (rest : List ArrivalRow) → AreRows net (before ++ r ∷ rest) → IsRow net r × (sum_by amount_of before + r.amount ≤ most_of_all)
row-amid net before r rest are =
    (All-middle (IsRow net) before rest r are.each, omega (arith, sum_by-append amount_of before (r ∷ rest), sum_by-cons amount_of r rest, are.few))

module _ (net : Net) (rows : List ArrivalRow) (i : ℕ) (r : ArrivalRow) (inside : i < length rows) (here : r ≡ get_or rows i r) (lawful : AreRows net (take i rows)) where
  row-first : (n : ℕ) (at_fault : List ArrivalRow → ArrivalRow → Type 0) → n ≡ i + 1 → at_fault (take i rows) r → IsFirst Some net rows n at_fault
  row-first n at_fault number fault = record {
    before = take i rows;
    here = r;
    after = drop (i + 1) rows;
    are = split-at rows i r inside ∙ ap (λ x. take i rows ++ x ∷ drop (i + 1) rows) (sym here);
    counted = omega (arith, length-take i rows);
    so_far = take i rows;
    reads = record { reads = each-self (take i rows); lawful = lawful };
    faulty = fault;
  }

  pub row-fault : (fault : RowFault) (whole : ℕ) → whole ≡ sum_by amount_of (take i rows) → IsRefused net r (i + 1) whole fault → IsRowFault net rows fault
  row-fault (Link n) whole adds h = row-first n (λ before r. IsAtLink net r) h.0 h.1
  row-fault (Bound n) whole adds h = row-first n (λ before r. IsAtBound net r) h.0 h.1
  row-fault (Sum n) whole adds h = row-first n (λ before r. IsAtSum net before r) h.0 (h.1, omega (arith, h.2, adds))
  row-fault NoMemory whole adds h = tt
  row-fault _ whole adds h = absurd h

-- rows with a fault bring no arrivals
pub row-refuses : (net : Net) (rows : List ArrivalRow) (fault : RowFault) → IsRowFault net rows fault → fault ≢ NoMemory → (a : Amounts) → AreArrivalsOf net rows a → ⊥
row-refuses net rows fault h other a are = by fault h other
  where
    -- the row at fault, among lawful rows
    at : (n : ℕ) (at_fault : List ArrivalRow → ArrivalRow → Type 0) (first : IsFirst Some net rows n at_fault) → IsRow net first.here × (sum_by amount_of first.so_far + first.here.amount ≤ most_of_all)
    at n at_fault first =
        let same = same_Some first.before first.so_far (sym (each-self first.before) ∙ first.reads.reads) in
        row-amid net first.so_far first.here first.after (subst (AreRows net) (first.are ∙ ap (λ l. l ++ first.here ∷ first.after) same) are.lawful)

    by : (fault : RowFault) → IsRowFault net rows fault → fault ≢ NoMemory → ⊥
    by NoMemory h other = other refl
    by (Link n) h other = h.faulty (at n (λ before r. IsAtLink net r) h).0.source
    by (Bound n) h other = h.faulty.1 (at n (λ before r. IsAtBound net r) h).0.bounds
    by (Sum n) h other = omega (arith, h.faulty.1, (at n (λ before r. IsAtSum net before r) h).1)
    by _ h other = absurd h

-- the rows so far are lawful, and this is their sum
pub record HasChecked (net : Net) (rows : List ArrivalRow) (whole : ℕ) : Type 0 where
  pub lawful : AreRows net rows
  pub adds : whole ≡ sum_by amount_of rows

pub checked-none : (net : Net) → HasChecked net [] 0
checked-none net = record { lawful = record { each = All-nil (IsRow net); few = omega arith }; adds = refl }

-- rows with a lawful one more
pub rows-more : (net : Net) (rows : List ArrivalRow) (r : ArrivalRow) → AreRows net rows → IsTaken net r (sum_by amount_of rows) → AreRows net (rows ++ r ∷ [])
rows-more net rows r are taken = record { each = All-push (IsRow net) rows r are.each taken.lawful; few = omega (arith, sum_by_push amount_of rows r, taken.few) }

pub checked-more : (net : Net) (rows : List ArrivalRow) (i : ℕ) (r : ArrivalRow) → i < length rows → r ≡ get_or rows i r → (whole sum : ℕ) → HasChecked net (take i rows) whole → IsTaken net r whole → sum ≡ whole + r.amount → HasChecked net (take (i + 1) rows) sum
checked-more net rows i r inside here whole sum has taken is =
    rw (take_more rows i r inside, ← here)
    (record { lawful = rows-more net (take i rows) r has.lawful (record { lawful = taken.lawful; few = omega (arith, taken.few, has.adds) }); adds = omega (arith, is, has.adds, sum_by_push amount_of (take i rows) r) })
