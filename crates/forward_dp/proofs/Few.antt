-- How many rows there are: no more than keys, and no more than the orders make.
use Rattle.std.specs.Prelude.{unwrap_or, nat_eq}
use Rattle.std.proofs.Common.{◌≡◌, ℕ, zero, suc, ◌+◌, ◌*◌, ◌<◌, ◌≤◌, ◌||◌, Bool, true, false, List, [], ◌∷◌, ◌++◌, length, map, get_or, take, AllPairs, Option, Some, IfSome, sym, ap, subst, ◌∙◌, inl, inr, Contains, eq-eqb, length-append, arith}
use Rattle.std.specs.List.{AllByRecursion, IsDistinct}
use Rattle.std.specs.Option.{option_map}
use Rattle.std.specs.Set.{is_member}
use Rattle.std.proofs.lemmas.Bool.{cases_Bool, cases_eq, eqb-true, ne_eqb, or_right}
use Rattle.std.proofs.lemmas.Cmp.{nat_eq_equiv}
use Rattle.std.proofs.lemmas.List.{get_or-map, length-map}
use Rattle.std.proofs.lemmas.List.Elements.{Contains-append_left, Contains-append_right}
use Rattle.std.proofs.lemmas.Map.Made.{length-le_from_is_member}
use Rattle.switch_rules.specs.Orders.{orders}
use Rattle.schedule_meaning.specs.Instances.{Problem, IsInstance, counts_of}
use Rattle.dp_certificate.specs.Limits.{HasKeysWithin, IsWithin}
use Rattle.dp_certificate.specs.Prefixes.{Key, Stage, first_stage, key_of, stage_of}
use Rattle.dp_certificate.specs.Proves.{stage_of_entry}
use Rattle.dp_certificate.proofs.Stages.{split-start}
use Rattle.forward_dp.specs.declared.rows.Row.{Row}
use Rattle.forward_dp.specs.Numbers.{counts_number}
use Rattle.forward_dp.specs.Tables.{AreRows, AreWithin, row_number}
use Rattle.forward_dp.proofs.Beginnings.{prefix-among}
use Rattle.forward_dp.proofs.Bounds.{stage-bounds, stage-few}

if-some : {X : Type 0} (P : X → Type 0) (o : Option X) (x : X) → o ≡ Some x → IfSome o P → P x
if-some P o x e h = subst (λ o. IfSome o P) e h

-- numbers that rise differ
apart : (n : ℕ) (rows : List Row) → ((i : ℕ) (d : Row) → i < length rows → n < row_number (get_or rows i d)) → AllByRecursion (λ y. nat_eq n y ≡ false) (map row_number rows)
apart n [] h = tt
apart n (r ∷ rows) h = (ne_eqb n (row_number r) (λ e. omega (arith, e, h 0 r (omega arith))), apart n rows (λ i d inside. h (suc i) d (omega arith)))

distinct : (rows : List Row) → AllPairs (λ a b. row_number a < row_number b) rows → IsDistinct nat_eq (map row_number rows)
unfolding IsDistinct
distinct [] h = tt
distinct (r ∷ rows) h = (apart (row_number r) rows (λ i d inside. h 0 (suc i) d (omega arith) (omega arith)), distinct rows (λ i j d less inside. h (suc i) (suc j) d (omega arith) (omega arith)))

or-rest : (b c : Bool) → b ≡ false → (b || c) ≡ true → c ≡ true
or-rest true c e h = absurd (cc)
or-rest false c e h = h

member-from : (rows : List Row) (ys : List ℕ) (q : ℕ) → ((i : ℕ) (d : Row) → i < length rows → is_member nat_eq ys (row_number (get_or rows i d)) ≡ true) → is_member nat_eq (map row_number rows) q ≡ true → is_member nat_eq ys q ≡ true
member-from [] ys q all h = absurd (cc)
member-from (r ∷ rows) ys q all h = elim (cases_Bool (nat_eq q (row_number r))) [
  | inl same ↦ subst (λ n. is_member nat_eq ys n ≡ true) (sym (eqb-true q (row_number r) same)) (all 0 r (omega arith))
  | inr other ↦ member-from rows ys q (λ i d inside. all (suc i) d (omega arith)) (or-rest (nat_eq q (row_number r)) (is_member nat_eq (map row_number rows) q) other h)
]

member-of : (ys : List ℕ) (q k : ℕ) → k < length ys → get_or ys k q ≡ q → is_member nat_eq ys q ≡ true
member-of [] q k inside at = absurd (omega arith)
member-of (y ∷ ys) q zero inside at = ap (λ b. b || is_member nat_eq ys q) (eq-eqb q y (sym at))
member-of (y ∷ ys) q (suc k) inside at = or_right (nat_eq q y) (is_member nat_eq ys q) (member-of ys q k (omega arith) at)

-- rows are no more than numbers among which theirs are
few-by : (rows : List Row) (ys : List ℕ) → AllPairs (λ a b. row_number a < row_number b) rows → ((i : ℕ) (d : Row) → i < length rows → Contains ys (row_number (get_or rows i d))) → length rows ≤ length ys
few-by rows ys rising all =
    omega (
      arith,
      length-map rows row_number,
      length-le_from_is_member nat_eq_equiv (map row_number rows) ys (distinct rows rising)
          (λ q h. member-from rows ys q (λ i d inside. (let c = all i d inside in member-of ys (row_number (get_or rows i d)) c.0 c.1 c.2)) h),
    )

-- the number of a key, and of a stage
abbrev number_of : Key → ℕ
number_of key = (counts_number key.counts * 4 + key.phase) * 18446744073709551616 + (key.since * 4294967296 + key.at)

mapped : {X : Type 0} (f : X → ℕ) (xs : List X) (x : X) → Contains xs x → Contains (map f xs) (f x)
mapped f xs x has = (has.0, omega (arith, length-map xs f, has.1), get_or-map f xs has.0 x (f x) has.1 ∙ ap f has.2)

pub rows-keys : (p : Problem) (limit : Option ℕ) (rows : List Row) (keys : List Key) → AreRows p rows → AreWithin p limit rows → HasKeysWithin p limit keys → length rows ≤ length keys
rows-keys p limit rows keys are within all =
    omega (
      arith,
      length-map keys number_of,
      few-by rows (map number_of keys) are.rising (λ i d inside.
          let r = are.each i d inside in
          mapped number_of keys (key_of (stage_of_entry p (get_or rows i d).entry)) (if-some (λ s. IsWithin p limit s → Contains keys (key_of s)) (stage_of p r.prefix) (stage_of_entry p (get_or rows i d).entry) r.leads (all r.prefix) (within i d inside))),
    )

-- the number of the key that this many servings of an order reach
number_at : Problem → ℕ → List ℕ → ℕ
number_at p n o = unwrap_or (option_map (λ (s : Stage). number_of (key_of s)) (stage_of p (take n o))) 0

-- the numbers of the keys that at most this many servings reach
numbers_to : Problem → ℕ → List ℕ
numbers_to p zero = number_at p 0 [] ∷ []
numbers_to p (suc n) = map (number_at p (suc n)) (orders (counts_of p.lists)) ++ numbers_to p n

numbers-few : (p : Problem) → IsInstance p → (n : ℕ) → length (numbers_to p n) ≤ 50000 * n + 1
unfolding numbers_to
numbers-few p lawful zero = omega arith
numbers-few p lawful (suc n) =
    omega (arith, length-append (map (number_at p (suc n)) (orders (counts_of p.lists))) (numbers_to p n), length-map (orders (counts_of p.lists)) (number_at p (suc n)), lawful.orders, numbers-few p lawful n)

number-there : (p : Problem) → IsInstance p → (u : List ℕ) (s : Stage) → stage_of p u ≡ Some s → (o : List ℕ) × Contains (orders (counts_of p.lists)) o × (number_at p (length u) o ≡ number_of (key_of s))
unfolding number_at
number-there p lawful u s e =
    let o = prefix-among p u (counts_of p.lists) (first_stage p) s lawful (split-start p) e in
    (o.0, o.1, ap (λ v. unwrap_or (option_map (λ (s : Stage). number_of (key_of s)) (stage_of p v)) 0) o.2 ∙ ap (λ t. unwrap_or (option_map (λ (s : Stage). number_of (key_of s)) t) 0) e)

among-numbers : (p : Problem) → IsInstance p → (u : List ℕ) (s : Stage) → stage_of p u ≡ Some s → (n : ℕ) → length u ≤ n → Contains (numbers_to p n) (number_of (key_of s))
unfolding numbers_to number_at
among-numbers p lawful [] s e zero h = (0, omega arith, ap (λ t. unwrap_or (option_map (λ (s : Stage). number_of (key_of s)) t) 0) e)
among-numbers p lawful (k ∷ u) s e zero h = absurd (omega arith)
among-numbers p lawful u s e (suc n) h = elim (cases_eq (length u) (suc n)) [
  | inl same ↦
      let o = number-there p lawful u s e in
      let one : number_at p (suc n) o.0 ≡ number_of (key_of s) = ap (λ m. number_at p m o.0) (sym same) ∙ o.2 in
      Contains-append_left (map (number_at p (suc n)) (orders (counts_of p.lists))) (numbers_to p n) (number_of (key_of s)) (subst (Contains (map (number_at p (suc n)) (orders (counts_of p.lists)))) one (mapped (number_at p (suc n)) (orders (counts_of p.lists)) o.0 o.1))
  | inr other ↦ Contains-append_right (map (number_at p (suc n)) (orders (counts_of p.lists))) (numbers_to p n) (number_of (key_of s)) (among-numbers p lawful u s e n (omega arith))
]

-- there are few rows
pub rows-few : (p : Problem) → IsInstance p → (rows : List Row) → AreRows p rows → length rows ≤ 2000001
rows-few p lawful rows are =
    let most = numbers-few p lawful 40 in
    omega (
      arith,
      most,
      few-by rows (numbers_to p 40) are.rising (λ i d inside.
          let r = are.each i d inside in
          among-numbers p lawful r.prefix (stage_of_entry p (get_or rows i d).entry) r.leads 40
          (omega (arith, stage-few p lawful (length r.prefix) (stage_of_entry p (get_or rows i d).entry) (stage-bounds p lawful r.prefix (stage_of_entry p (get_or rows i d).entry) r.leads), lawful.few))),
    )
