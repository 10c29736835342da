-- Entries that rise: by pairs, by front and rest, and that the same entries rise in one way.
use Rattle.std.proofs.Common.{◌≡◌, ℕ, zero, suc, ◌+◌, List, [], ◌∷◌, ◌++◌, length, length-append, get_or, All, AllPairs, Contains, refl, sym, ap, subst, ◌∙◌, inl, inr, arith}
use Rattle.std.proofs.lemmas.Bool.{cases_eq, cases_lt}
use Rattle.std.proofs.lemmas.List.{get_or_default}
use Rattle.std.proofs.lemmas.List.Quantifiers.{all_pairs_push}
use Rattle.dp_certificate.specs.Certificates.{AreRising, IsBefore, digits_of, entry_at, no_entry}
use Rattle.dp_certificate.specs.Prefixes.{Key}
use Rattle.dp_certificate.specs.Proves.{HasEntry, key_of_entry}
use Rattle.dp_certificate.specs.declared.Entry.{Entry}
use Rattle.parallel_dp.specs.Joins.{Precedes}
use Rattle.dp_certificate.proofs.KeyPlaces.{before-both, before-itself, digits_of_key, rise-far}

pub precedes-both : (a b c : Entry) → Precedes a b → Precedes b c → Precedes a c
precedes-both a b c x y = before-both (digits_of a) (digits_of b) (digits_of c) x y

-- the digits are those of the key
pub same-digits : (a b : Entry) → key_of_entry a ≡ key_of_entry b → digits_of a ≡ digits_of b
same-digits a b e = ap digits_of_key e

pub rising-pairs : (xs : List Entry) → AreRising xs → AllPairs Precedes xs
rising-pairs xs rising i j d less inside =
    subst (λ e. Precedes e (get_or xs j d)) (get_or_default xs i no_entry d (omega (arith, less, inside)))
    (subst (λ e. Precedes (entry_at xs i) e) (get_or_default xs j no_entry d inside) (rise-far xs rising i j less inside))

pub pairs-rising : (xs : List Entry) → AllPairs Precedes xs → AreRising xs
pairs-rising xs pairs k inside = pairs k (k + 1) no_entry (omega arith) inside

-- an entry after all others goes to the end
pub rising-push : (xs : List Entry) (e : Entry) → AreRising xs → All (λ x. Precedes x e) xs → AreRising (xs ++ e ∷ [])
rising-push xs e rising below = pairs-rising (xs ++ e ∷ []) (all_pairs_push Precedes xs e (rising-pairs xs rising) below)

-- of two lists of as many numbers neither of which is before the other both are the same
pub same-unless-before : (xs ys : List ℕ) → length xs ≡ length ys → (IsBefore xs ys → ⊥) → (IsBefore ys xs → ⊥) → xs ≡ ys
same-unless-before [] [] long not_less not_more = refl
same-unless-before [] (y ∷ ys) long not_less not_more = absurd (omega arith)
same-unless-before (x ∷ xs) [] long not_less not_more = absurd (omega arith)
same-unless-before (x ∷ xs) (y ∷ ys) long not_less not_more = elim (cases_lt x y) [
  | inl less ↦ absurd (not_less (inl less))
  | inr up ↦ elim (cases_eq x y) [
    | inl same ↦
        let rest : xs ≡ ys = same-unless-before xs ys (omega arith) (λ h. not_less (inr (same, h))) (λ h. not_more (inr (sym same, h))) in
        ap (λ n. n ∷ xs) same ∙ ap (λ ns. y ∷ ns) rest
    | inr other ↦ absurd (not_more (inl (omega arith)))
  ]
]

same-keys : (a b : Entry) (cs ds : List ℕ) → a.counts ≡ cs → b.counts ≡ ds → cs ≡ ds → a.phase ≡ b.phase → a.since ≡ b.since → a.at ≡ b.at → key_of_entry a ≡ key_of_entry b
same-keys a b cs ds ea eb e ep es et = cc

front-same : (xs ys us vs : List ℕ) → length xs ≡ length ys → xs ++ us ≡ ys ++ vs → (xs ≡ ys) × (us ≡ vs)
front-same [] [] us vs long e = (refl, e)
front-same [] (y ∷ ys) us vs long e = absurd (omega arith)
front-same (x ∷ xs) [] us vs long e = absurd (omega arith)
front-same (x ∷ xs) (y ∷ ys) us vs long e =
    let h : (x ≡ y) × (xs ++ us ≡ ys ++ vs) = (cc, cc) in
    let rest = front-same xs ys us vs (omega arith) h.1 in
    (ap (λ n. n ∷ xs) h.0 ∙ ap (λ ns. y ∷ ns) rest.0, rest.1)

pub same-key-unless-before : (a b : Entry) → length a.counts ≡ 4 → length b.counts ≡ 4 → (Precedes a b → ⊥) → (Precedes b a → ⊥) → key_of_entry a ≡ key_of_entry b
same-key-unless-before a b fa fb not_less not_more =
    let long : length (digits_of a) ≡ length (digits_of b) = omega (arith, fa, fb, length-append a.counts (a.phase ∷ a.since ∷ a.at ∷ []), length-append b.counts (b.phase ∷ b.since ∷ b.at ∷ [])) in
    let digits : digits_of a ≡ digits_of b = same-unless-before (digits_of a) (digits_of b) long not_less not_more in
    let parts = front-same a.counts b.counts (a.phase ∷ a.since ∷ a.at ∷ []) (b.phase ∷ b.since ∷ b.at ∷ []) (fa ∙ sym fb) digits in
    same-keys a b a.counts b.counts refl refl parts.0 (cc) (cc) (cc)

-- ---- one list for the same entries

-- each entry of the first list has one in the second with its key and no more delay
abbrev pub AreCovered : List Entry → List Entry → Type 0
AreCovered xs ys = (e : Entry) → Contains xs e → HasEntry ys (key_of_entry e) e.delay

precedes-not : (a b : Entry) → Precedes a b → key_of_entry a ≡ key_of_entry b → ⊥
precedes-not a b less same = before-itself (digits_of b) (subst (λ ds. IsBefore ds (digits_of b)) (same-digits a b same) less)

-- of entries that rise two with one key are one
pub one-of-key : (xs : List Entry) → AreRising xs → (a b : Entry) → Contains xs a → Contains xs b → key_of_entry a ≡ key_of_entry b → a ≡ b
one-of-key xs rising a b ha hb same =
    let pairs = rising-pairs xs rising in
    let at_a : get_or xs ha.0 b ≡ a = get_or_default xs ha.0 b a ha.1 ∙ ha.2 in
    let at_b : get_or xs hb.0 a ≡ b = get_or_default xs hb.0 a b hb.1 ∙ hb.2 in
    elim (cases_lt ha.0 hb.0) [
      | inl less ↦ absurd (precedes-not a b (subst (Precedes a) hb.2 (subst (λ e. Precedes e (get_or xs hb.0 b)) at_a (pairs ha.0 hb.0 b less hb.1))) same)
      | inr up ↦ elim (cases_lt hb.0 ha.0) [
        | inl more ↦ absurd (precedes-not b a (subst (Precedes b) ha.2 (subst (λ e. Precedes e (get_or xs ha.0 a)) at_b (pairs hb.0 ha.0 a more ha.1))) (sym same))
        | inr down ↦
            let there : ha.0 ≡ hb.0 = omega arith in
            sym ha.2 ∙ ap (λ n. get_or xs n a) there ∙ at_b
      ]
    ]

pub same-entry : (a b : Entry) → key_of_entry a ≡ key_of_entry b → a.delay ≡ b.delay → a ≡ b
same-entry a b key delay =
    ap (λ (k : Key). let x : Entry = record { counts = k.counts; phase = k.phase; since = k.since; at = k.at; delay = a.delay } in x) key
    ∙ ap (λ d. let x : Entry = record { counts = b.counts; phase = b.phase; since = b.since; at = b.at; delay = d } in x) delay

-- two lists that cover each other have the same entries
covered-among : (xs ys : List Entry) → AreRising xs → AreCovered xs ys → AreCovered ys xs → (e : Entry) → Contains xs e → Contains ys e
covered-among xs ys rising there back e h =
    let other = there e h in
    let again = back other.entry other.among in
    let own : again.entry ≡ e = one-of-key xs rising again.entry e again.among h (again.key_is ∙ other.key_is) in
    let same : other.entry ≡ e = same-entry other.entry e other.key_is (omega (arith, other.delay, again.delay, ap (λ (x : Entry). x.delay) own)) in
    subst (Contains ys) same other.among

tail-rising : (x : Entry) (xs : List Entry) → AreRising (x ∷ xs) → AreRising xs
tail-rising x xs rising = pairs-rising xs (λ i j d less inside. rising-pairs (x ∷ xs) rising (suc i) (suc j) d (omega arith) (omega arith))

head-precedes : (x : Entry) (xs : List Entry) → AreRising (x ∷ xs) → (e : Entry) → Contains xs e → Precedes x e
head-precedes x xs rising e h = subst (Precedes x) h.2 (rising-pairs (x ∷ xs) rising 0 (suc h.0) e (omega arith) (omega (arith, h.1)))

rest-among : (x : Entry) (xs : List Entry) (y : Entry) → Contains (x ∷ xs) y → (x ≡ y → ⊥) → Contains xs y
rest-among x xs y (zero, inside, at) other = absurd (other at)
rest-among x xs y (suc k, inside, at) other = (k, omega arith, at)

rest-same : (x y : Entry) (xs ys : List Entry) → x ≡ y → AreRising (x ∷ xs) → ((e : Entry) → Contains (x ∷ xs) e → Contains (y ∷ ys) e) → (e : Entry) → Contains xs e → Contains ys e
rest-same x y xs ys same rising among e h =
    rest-among y ys e (among e (suc h.0, omega (arith, h.1), h.2))
    (λ z. precedes-not x e (head-precedes x xs rising e h) (ap key_of_entry (same ∙ z)))

pub same-list : (xs ys : List Entry) → AreRising xs → AreRising ys → ((e : Entry) → Contains xs e → Contains ys e) → ((e : Entry) → Contains ys e → Contains xs e) → xs ≡ ys
same-list [] [] rx ry there back = refl
same-list [] (y ∷ ys) rx ry there back = (let h = back y (0, omega arith, refl) in absurd (omega (arith, h.1)))
same-list (x ∷ xs) [] rx ry there back = (let h = there x (0, omega arith, refl) in absurd (omega (arith, h.1)))
same-list (x ∷ xs) (y ∷ ys) rx ry there back =
    let head : x ≡ y = heads (there x (0, omega arith, refl)) (back y (0, omega arith, refl)) in
    let rest : xs ≡ ys = same-list xs ys (tail-rising x xs rx) (tail-rising y ys ry) (rest-same x y xs ys head rx there) (rest-same y x ys xs (sym head) ry back) in
    ap (λ e. e ∷ xs) head ∙ ap (λ es. y ∷ es) rest
  where
    heads : Contains (y ∷ ys) x → Contains (x ∷ xs) y → x ≡ y
    heads (zero, inside, at) b = sym at
    heads (suc k, inside, at) (zero, inside2, at2) = at2
    heads (suc k, inside, at) (suc j, inside2, at2) =
        let less : Precedes y x = head-precedes y ys ry x (k, omega arith, at) in
        let more : Precedes x y = head-precedes x xs rx y (j, omega arith, at2) in
        absurd (before-itself (digits_of x) (before-both (digits_of x) (digits_of y) (digits_of x) more less))

pub same-by-cover : (xs ys : List Entry) → AreRising xs → AreRising ys → AreCovered xs ys → AreCovered ys xs → xs ≡ ys
same-by-cover xs ys rx ry there back = same-list xs ys rx ry (covered-among xs ys rx there back) (covered-among ys xs ry back there)
