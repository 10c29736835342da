-- What is read at a place of entries, and what holds of entries so far.
use Rattle.std.proofs.Common.{All, take, ◌≡◌, ℕ, ◌+◌, ◌-◌, ◌<◌, ◌≤◌, List, [], ◌∷◌, ◌++◌, length, get_or, refl, sym, subst, ◌∙◌, arith}
use Rattle.std.proofs.lemmas.List.{get_or_default, take_all}
use Rattle.std.proofs.lemmas.List.Elements.{All-more}
use Rattle.dp_certificate.specs.Certificates.{AreRising, entry_at, no_entry}
use Rattle.dp_certificate.specs.Proves.{HasEntry, key_of_entry}
use Rattle.dp_certificate.specs.declared.Entry.{Entry}
use Rattle.dp_certificate.specs.Places.{IsPlace}
use Rattle.dp_certificate.proofs.KeyPlaces.{entry-there, has-entry}
use Rattle.cert_checker.specs.Places.{StandsAt}
use Rattle.cert_checker.specs.Verdicts.{IsFirstNot}

-- an entry that stands somewhere is one
pub stands-has : (entries : List Entry) (place : ℕ) (next : Entry) → StandsAt entries place next → HasEntry entries (key_of_entry next) next.delay
stands-has entries place next at = has-entry entries (key_of_entry next) place next.delay (entry_at entries place) at.inside refl at.key at.delay

-- and one that is one stands at its place
pub has-stands : (entries : List Entry) (place : ℕ) (next : Entry) → AreRising entries → IsPlace entries next place → HasEntry entries (key_of_entry next) next.delay → StandsAt entries place next
has-stands entries place next rising at has = let there = entry-there entries next place next.delay rising at has in record { inside = there.0; key = there.1; delay = there.2 }

-- what holds of the entries so far, and of the next, and in the end of all; now is the same list by another name
pub holds-more : (P : Entry → Type 0) (entries now : List Entry) (i : ℕ) (d : Entry) → now ≡ entries → i < length now → All P (take i entries) → P (get_or now i d) → All P (take (i + 1) entries)
holds-more P entries now i d same inside before here =
    All-more P entries i d (subst (λ xs. i < length xs) same inside) before (subst (λ xs. P (get_or xs i d)) same here)

pub holds-all : (P : Entry → Type 0) (entries now : List Entry) (i : ℕ) → now ≡ entries → length now ≤ i → All P (take i entries) → All P entries
holds-all P entries now i same past before = subst (All P) (take_all i entries (subst (λ xs. length xs ≤ i) same past)) before

-- and the first of which it does not hold
pub first-not : (P : Entry → Type 0) (entries now : List Entry) (i : ℕ) (d : Entry) → now ≡ entries → i < length now → All P (take i entries) → (P (get_or now i d) → ⊥) → IsFirstNot P entries (i + 1)
first-not P entries now i d same inside before here =
    let there : i < length entries = subst (λ xs. i < length xs) same inside in
    let index : i ≡ i + 1 - 1 = omega arith in (
      omega arith,
      omega arith,
      subst (λ n. All P (take n entries)) index before,
      λ h. here (subst (λ xs. P (get_or xs i d)) (sym same) (subst P (get_or_default entries i no_entry d there) (subst (λ n. P (entry_at entries n)) (sym index) h))),
    )

pub entry-next : (Q : Entry → Type 0) (entries now : List Entry) (i : ℕ) (d : Entry) → now ≡ entries → i < length now → Q (get_or now i d) → Q (entry_at entries (i + 1 - 1))
entry-next Q entries now i d same inside here =
    let there : i < length entries = subst (λ xs. i < length xs) same inside in
    let index : i ≡ i + 1 - 1 = omega arith in
    subst (λ n. Q (entry_at entries n)) index (subst Q (get_or_default entries i d no_entry there) (subst (λ xs. Q (get_or xs i d)) same here))
