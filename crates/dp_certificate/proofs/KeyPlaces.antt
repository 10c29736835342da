-- Among entries that rise, a key has one place.
use Rattle.std.proofs.Common.{◌≡◌, ℕ, zero, suc, ◌+◌, ◌-◌, ◌<◌, ◌≤◌, List, [], ◌∷◌, ◌++◌, length, refl, sym, ap, subst, ◌∙◌, inl, inr, add-one, arith}
use Rattle.std.proofs.lemmas.Bool.{cases_eq, cases_lt}
use Rattle.std.proofs.lemmas.List.{get_or_default}
use Rattle.dp_certificate.specs.Prefixes.{Key}
use Rattle.dp_certificate.specs.Certificates.{AreRising, IsBefore, digits_of, entry_at, no_entry}
use Rattle.dp_certificate.specs.Places.{IsPlace}
use Rattle.dp_certificate.specs.Proves.{HasEntry, key_of_entry}
use Rattle.dp_certificate.specs.declared.Entry.{Entry}

-- no list of numbers is before itself, and to be before is transitive
pub before-itself : (xs : List ℕ) → IsBefore xs xs → ⊥
before-itself [] h = h
before-itself (x ∷ xs) (inl less) = omega arith
before-itself (x ∷ xs) (inr h) = before-itself xs h.1

pub before-both : (xs ys zs : List ℕ) → IsBefore xs ys → IsBefore ys zs → IsBefore xs zs
before-both [] ys zs h k = absurd h
before-both (x ∷ xs) [] zs h k = absurd h
before-both (x ∷ xs) (y ∷ ys) [] h k = absurd k
before-both (x ∷ xs) (y ∷ ys) (z ∷ zs) (inl h) (inl k) = inl (omega arith)
before-both (x ∷ xs) (y ∷ ys) (z ∷ zs) (inl h) (inr k) = inl (omega (arith, k.0))
before-both (x ∷ xs) (y ∷ ys) (z ∷ zs) (inr h) (inl k) = inl (omega (arith, h.0))
before-both (x ∷ xs) (y ∷ ys) (z ∷ zs) (inr h) (inr k) = inr (h.0 ∙ k.0, before-both xs ys zs h.1 k.1)

-- the digits of the entry at an index
abbrev pub digits_at : List Entry → ℕ → List ℕ
digits_at entries k = digits_of (entry_at entries k)

-- entries that rise do so over any distance
pub rise-far : (entries : List Entry) → AreRising entries → (i j : ℕ) → i < j → j < length entries → IsBefore (digits_at entries i) (digits_at entries j)
rise-far entries rising i zero h inside = absurd (omega arith)
rise-far entries rising i (suc j) h inside =
    let next : IsBefore (digits_at entries j) (digits_at entries (suc j)) = subst (λ n. IsBefore (digits_at entries j) (digits_at entries n)) (add-one j) (rising j (omega arith)) in
    elim (cases_eq i j) [
      | inl same ↦ subst (λ n. IsBefore (digits_at entries n) (digits_at entries (suc j))) (sym same) next
      | inr other ↦ before-both (digits_at entries i) (digits_at entries j) (digits_at entries (suc j)) (rise-far entries rising i j (omega arith) (omega arith)) next
    ]

-- the digits of a key
abbrev pub digits_of_key : Key → List ℕ
digits_of_key k = k.counts ++ k.phase ∷ k.since ∷ k.at ∷ []

-- an entry with the key that is sought stands at its place
only-place : (entries : List Entry) (key : Entry) (place k : ℕ) → AreRising entries → IsPlace entries key place → k < length entries → key_of_entry (entry_at entries k) ≡ key_of_entry key → k ≡ place
only-place entries key place k rising at inside same =
    let digits : digits_at entries k ≡ digits_of key = ap digits_of_key same in
    elim (cases_eq k place) [
      | inl there ↦ there
      | inr other ↦
          absurd (elim (cases_lt k place) [
            | inl before ↦
                let below = at.below (omega arith) in
                elim (cases_eq k (place - 1)) [
                  | inl last ↦ before-itself (digits_of key) (subst (λ xs. IsBefore xs (digits_of key)) (ap (digits_at entries) (sym last) ∙ digits) below)
                  | inr earlier ↦
                      before-itself (digits_of key) (before-both (digits_of key) (digits_at entries (place - 1)) (digits_of key)
                      (subst (λ xs. IsBefore xs (digits_at entries (place - 1))) digits (rise-far entries rising k (place - 1) (omega arith) (omega (arith, at.within))))
                      below)
                ]
            | inr behind ↦
                at.here (omega arith) (subst (λ xs. IsBefore (digits_at entries place) xs) digits (rise-far entries rising place k (omega arith) inside))
          ])
    ]

-- where an entry with the key is, it is the one at the place
pub entry-there : (entries : List Entry) (key : Entry) (place n : ℕ) → AreRising entries → IsPlace entries key place → HasEntry entries (key_of_entry key) n → (place < length entries) × (key_of_entry (entry_at entries place) ≡ key_of_entry key) × ((entry_at entries place).delay ≤ n)
entry-there entries key place n rising at has =
    let k = has.among.0 in
    let stands : entry_at entries k ≡ has.entry = get_or_default entries k no_entry has.entry has.among.1 ∙ has.among.2 in
    let same : key_of_entry (entry_at entries k) ≡ key_of_entry key = ap key_of_entry stands ∙ has.key_is in
    let there : k ≡ place = only-place entries key place k rising at has.among.1 same in
    (omega (arith, has.among.1), ap (λ j. key_of_entry (entry_at entries j)) (sym there) ∙ same, omega (arith, has.delay, ap (λ (e : Entry). e.delay) (ap (entry_at entries) (sym there) ∙ stands)))

-- an entry at an index is an entry
pub has-entry : (entries : List Entry) (key : Key) (place n : ℕ) (e : Entry) → place < length entries → entry_at entries place ≡ e → key_of_entry e ≡ key → e.delay ≤ n → HasEntry entries key n
has-entry entries key place n e inside at same less = record {
  entry = e;
  among = (place, inside, get_or_default entries place e no_entry inside ∙ at);
  key_is = same;
  delay = less;
}
