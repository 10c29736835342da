-- Where phases name a link also.
use Rattle.std.proofs.Common.{◌≡◌, ◌≢◌, ℕ, suc, zero, ◌<◌, ◌≤◌, Bool, true, false, cond, ◌==◌, ◌||◌, List, [], ◌∷◌, length, get_or, sum_by, count_by, Some, None, IsTrue, refl, ap, ◌∙◌, sym, subst, inl, inr, arith}
use Rattle.std.specs.List.{list_any}
use Rattle.std.specs.Prelude.{unwrap_or}
use Rattle.std.proofs.lemmas.Bool.{cases_eq, cases_lt, false≢true}
use Rattle.std.proofs.lemmas.List.{get_or_default, get_or_past}
use Rattle.std.proofs.lemmas.List.Sums.{sum_by-cons, get_or-le-sum_by}
use Rattle.std.proofs.lemmas.Option.{none-some}
use Rattle.net_parts.specs.Numbers.{Net, no_link, has_link}
use Rattle.net_parts.specs.Outline.{IsOutline, also_at, also_links_at, link_at}
use Rattle.road_net.specs.Joins.{times_named, IsAlso, IsFurther}
use Rattle.road_net.proofs.Serving.{count-any, count-in, count-named, two_apart}

-- where a sum is more than nothing, something in it is
some-in : {X : Type 0} (f : X → ℕ) (xs : List X) (d : X) → 0 < sum_by f xs → (i : ℕ) × (i < length xs) × (0 < f (get_or xs i d))
some-in f [] d some = absurd (omega arith)
some-in f (x ∷ xs) d some = elim (cases_lt 0 (f x)) [
  | inl here ↦ (0, omega arith, here)
  | inr none ↦ let (i, inside, more) = some-in f xs d (omega (arith, some, none, sum_by-cons f x xs)) in (suc i, omega (arith, inside), more)
]

-- where it is more than one element gives, another one gives something
some-other : {X : Type 0} (f : X → ℕ) (xs : List X) (i : ℕ) (d : X) → i < length xs → f (get_or xs i d) < sum_by f xs → (j : ℕ) × (j ≢ i) × (j < length xs) × (0 < f (get_or xs j d))
some-other f [] i d inside less = absurd (omega arith)
some-other f (x ∷ xs) zero d inside less =
    let (j, within, more) = some-in f xs d (omega (arith, less, sum_by-cons f x xs)) in (suc j, (λ e. omega (arith, e)), omega (arith, within), more)
some-other f (x ∷ xs) (suc i) d inside less = elim (cases_lt 0 (f x)) [
  | inl here ↦ (0, (λ e. omega (arith, e)), omega arith, here)
  | inr none ↦ let (j, differ, within, more) = some-other f xs i d (omega (arith, inside)) (omega (arith, less, none, sum_by-cons f x xs)) in (suc j, (λ e. differ (omega (arith, e))), omega (arith, within), more)
]

-- a list in which an element counts has one that passes
counted : (p : ℕ → Bool) (xs : List ℕ) → 0 < count_by p xs → list_any p xs ≡ true
counted p [] some = absurd (omega arith)
counted p (x ∷ xs) some = by (p x) refl (counted p xs)
  where
    by : (b : Bool) → p x ≡ b → (0 < count_by p xs → list_any p xs ≡ true) → (b || list_any p xs) ≡ true
    by true is rest = refl
    by false is rest = rest (let none : ◌≡◌ {A = ℕ} (cond (p x) 1 0) 0 = ap (λ b. cond b 1 0) is in omega (arith, some, none, sum_by-cons (λ y. cond (p y) 1 0) x xs))

module _ (net : Net) (l : ℕ) where
  abbrev it : ℕ → Bool
  it m = m == l

  -- how often these lists name it
  abbrev in_phases : List (List ℕ) → ℕ
  in_phases lists = sum_by (λ ys. count_by it ys) lists

  abbrev lists : List (List (List ℕ))
  lists = net.also_links

  all : times_named lists l ≡ sum_by in_phases lists
  all = count-named it lists

  phase-inside : (phases : List (List ℕ)) (k : ℕ) → has_link l (get_or phases k []) ≡ true → k < length phases
  phase-inside phases k has = elim (cases_lt k (length phases)) [
    | inl inside ↦ inside
    | inr past ↦ absurd (false≢true (ap (has_link l) (sym (get_or_past phases k [] past)) ∙ has))
  ]

  node-inside : (n k : ℕ) → has_link l (also_links_at net n k) ≡ true → n < length lists
  node-inside n k has = elim (cases_lt n (length lists)) [
    | inl inside ↦ inside
    | inr past ↦ absurd (false≢true (ap (λ phases. has_link l (get_or phases k [])) (sym (get_or_past lists n [] past)) ∙ has))
  ]

  -- a phase that names it counts
  named : (n k : ℕ) → has_link l (also_links_at net n k) ≡ true → 1 ≤ in_phases (also_at net n)
  named n k has = count-in it (also_at net n) k (phase-inside (also_at net n) k has) (count-any it (also_links_at net n k) has)

  -- and where there is a count, some phase names it
  found : (phases : List (List ℕ)) → 0 < in_phases phases → (k : ℕ) × (has_link l (get_or phases k []) ≡ true)
  found phases some = let (k, inside, more) = some-in (λ ys. count_by it ys) phases [] some in (k, counted it (get_or phases k []) more)

  -- a link that ends at no node
  pub nowhere-is : times_named lists l ≡ 0 → IsAlso net l
  nowhere-is none n k has = absurd (omega (arith, none, all, named n k has, get_or-le-sum_by in_phases lists n [] (node-inside n k has)))

  pub nowhere-none : (link_at net l).to ≡ None → IsAlso net l → times_named lists l ≡ 0
  nowhere-none ends is = elim (cases_lt 0 (times_named lists l)) [
    | inl some ↦ (
        let (n, inside, more) = some-in in_phases lists [] (omega (arith, some, all)) in
        let (k, has) = found (also_at net n) more in
        absurd (none-some n (sym ends ∙ (is n k has).ends)))
    | inr none ↦ omega (arith, none)
  ]

  -- a link that ends at this node
  module _ (n : ℕ) (inside : n < length lists) where
    there-is : in_phases (also_at net n) ≡ times_named lists l → ((k : ℕ) → IsTrue (has_link l (also_links_at net n k)) → IsFurther net l n k) → IsAlso net l
    there-is own each m k has = elim (cases_eq n m) [
      | inl e ↦ subst (λ q. IsTrue (has_link l (also_links_at net q k)) → IsFurther net l q k) e (each k) has
      | inr other ↦ absurd (omega (arith, own, all, named m k has, two_apart in_phases lists n m [] other inside (node-inside m k has)))
    ]

    there-few : in_phases (also_at net n) ≤ times_named lists l
    there-few = omega (arith, all, get_or-le-sum_by in_phases lists n [] inside)

    there-all : (link_at net l).to ≡ Some n → IsAlso net l → in_phases (also_at net n) ≡ times_named lists l
    there-all ends is = elim (cases_lt (in_phases (also_at net n)) (times_named lists l)) [
      | inl less ↦ (
          let (m, differ, within, more) = some-other in_phases lists n [] inside (omega (arith, less, all)) in
          let (k, has) = found (also_at net m) more in
          absurd (differ (ap (λ o. unwrap_or o 0) (sym (is m k has).ends ∙ ends))))
      | inr past ↦ omega (arith, past, there-few)
    ]

-- the lists of the node where a link ends, as they are read
module _ (net : Net) (outline : IsOutline net) (l n : ℕ) (exists : l < length net.link_names) (ends : (link_at net l).to ≡ Some n) (times : ℕ) (is_times : times ≡ times_named net.also_links l) (own read : List (List ℕ)) (at : own ≡ read) (reads : read ≡ get_or net.also_links n read) where
  inside : n < length net.also_links
  inside =
      let node : n < length net.node_names = rw ends at (outline.links l no_link (omega (arith, exists, outline.road_count))).to in
      omega (arith, node, outline.also_count)

  same : own ≡ also_at net n
  same = at ∙ reads ∙ get_or_default net.also_links n read [] inside

  pub own-few : in_phases net l own ≤ times
  own-few = rw (same, is_times) (there-few net l n inside)

  pub own-is : in_phases net l own ≡ times → ((k : ℕ) → IsTrue (has_link l (also_links_at net n k)) → IsFurther net l n k) → IsAlso net l
  own-is all = there-is net l n inside (ap (in_phases net l) (sym same) ∙ all ∙ is_times)

  pub own-all : IsAlso net l → in_phases net l own ≡ times
  own-all is = ap (in_phases net l) same ∙ there-all net l n inside ends is ∙ sym is_times
