-- A layer out of the one before, by its pieces; and all layers as the whole table.
use Rattle.std.specs.Prelude.{option_and_then, MatchResult}
use Rattle.std.specs.List.{AllZip, range_with_len}
use Rattle.std.proofs.Common.{◌≡◌, ℕ, zero, suc, ◌+◌, ◌-◌, ◌*◌, ◌/◌, ◌<◌, ◌≤◌, List, [], ◌∷◌, ◌++◌, length, get_or, map, sum, take, drop, All, Contains, Option, Some, None, Result, Ok, Err, IfOk, IfSome, refl, sym, ap, subst, ◌∙◌, inl, inr, length-append, arith}
use Rattle.std.proofs.Math.Nat.{div-mul-le_self, lt-div-mul-add, mul-le-mul_right}
use Rattle.std.proofs.lemmas.Bool.{cases_eq, cases_lt}
use Rattle.std.proofs.lemmas.List.{get_or-append_right, get_or_append_left, get_or_default}
use Rattle.std.proofs.lemmas.List.Elements.{All-contains, All-weaker, Contains-append_cases, Contains-append_left, Contains-append_right, Contains-get_or}
use Rattle.schedule_meaning.specs.Instances.{Problem, IsInstance, counts_of}
use Rattle.dp_certificate.specs.Certificates.{AreRising, IsEntry}
use Rattle.dp_certificate.specs.Prefixes.{Key, Stage, first_stage, key_of, stage_after, stage_of}
use Rattle.dp_certificate.specs.Proves.{HasEntry, key_of_entry, stage_of_entry}
use Rattle.dp_certificate.specs.Whole.{IsOfPrefix, IsWhole}
use Rattle.dp_certificate.specs.declared.Entry.{Entry}
use Rattle.dp_certificate.proofs.Stages.{some-same, stage-alike, stage-push}
use Rattle.forward_dp.proofs.Bounds.{stage-bounds, stage-few}
use Rattle.forward_dp.proofs.RowLaws.{ends-by, entry-stage}
use Rattle.forward_dp.proofs.Wholes.{entry-bounds}
use Rattle.parallel_dp.specs.Ways.{AreEach, AreLayers}
use Rattle.parallel_dp.specs.Pieces.{AreNextOfPieces, IsJoinOf, IsJoinOfAll, IsLayer, IsLed, IsNextOf, IsOf, IsOfEither, IsReachedFrom, piece_of}

-- ---- several lists as one

only-one : (xs : List Entry) (ys : List Entry) → Contains (xs ∷ []) ys → ys ≡ xs
only-one xs ys (zero, inside, at) = sym at
only-one xs ys (suc k, inside, at) = absurd (omega arith)

pub one-all : (xs : List Entry) → AreRising xs → IsJoinOfAll (xs ∷ []) xs
one-all xs rising = record {
  rising = rising;
  each = λ k d inside. (xs, (0, omega arith, refl), Contains-get_or xs k d inside);
  all = λ list e among there. record { entry = e; among = subst (λ ys. Contains ys e) (only-one xs list among) there; key_is = refl; delay = omega arith };
}

pub both-all : (xs ys : List (List Entry)) (a b j : List Entry) → IsJoinOfAll xs a → IsJoinOfAll ys b → IsJoinOf a b j → IsJoinOfAll (xs ++ ys) j
both-all xs ys a b j first second join = record {
  rising = join.rising;
  each = All-weaker (IsOfEither a b) (λ e. (list : List Entry) × Contains (xs ++ ys) list × Contains list e) (λ e among. from e among) j join.each;
  all = λ list e among there. elim (Contains-append_cases xs ys list among) [
    | inl h ↦ on (first.all list e h there) (λ x h. inl h)
    | inr h ↦ on (second.all list e h there) (λ x h. inr h)
  ];
}
  where
    from : (e : Entry) → IsOfEither a b e → (list : List Entry) × Contains (xs ++ ys) list × Contains list e
    from e (inl h) = (let o = All-contains (λ e. (list : List Entry) × Contains xs list × Contains list e) a e first.each h in (o.0, Contains-append_left xs ys o.0 o.1, o.2))
    from e (inr h) = (let o = All-contains (λ e. (list : List Entry) × Contains ys list × Contains list e) b e second.each h in (o.0, Contains-append_right xs ys o.0 o.1, o.2))

    on : {zs : List Entry} {key : Key} {most : ℕ} → HasEntry zs key most → ((x : Entry) → Contains zs x → IsOfEither a b x) → HasEntry j key most
    on h f = (let there = join.all h.entry (f h.entry h.among) in record { entry = there.entry; among = there.among; key_is = there.key_is ∙ h.key_is; delay = omega (arith, there.delay, h.delay) })

-- ---- pieces

pub place-within : (k w n : ℕ) → k < n / w + 1 → k * w ≤ n
place-within k w n h = omega (arith, mul-le-mul_right w (let z : k ≤ n / w = omega arith in z), div-mul-le_self n w)

pub pieces-enough : (w n : ℕ) → 0 < w → n < (n / w + 1) * w
pieces-enough w n some = omega (arith, lt-div-mul-add {a = n} {b = w} some)

-- the piece of a place
piece-at : (w : ℕ) → 0 < w → (q : ℕ) → (k : ℕ) × (k * w ≤ q) × (q < k * w + w)
piece-at w some zero = (0, omega arith, omega arith)
piece-at w some (suc q) =
    let before = piece-at w some q in
    elim (cases_lt (suc q) (before.0 * w + w)) [
      | inl inside ↦ (before.0, omega (arith, before.1), inside)
      | inr past ↦ (before.0 + 1, omega (arith, before.2), omega (arith, before.2, past))
    ]

-- an element of a piece is one of the layer, and each of these is in a piece
of-piece : (layer : List Entry) (w k : ℕ) (e : Entry) → Contains (piece_of layer w k) e → Contains layer e
of-piece layer w k e h = Contains-drop (k * w) layer e (Contains-take w (drop (k * w) layer) e h)
  where
    Contains-take : (n : ℕ) (xs : List Entry) (x : Entry) → Contains (take n xs) x → Contains xs x
    Contains-take zero xs x h = absurd (omega (arith, h.1))
    Contains-take (suc n) [] x h = absurd (omega (arith, h.1))
    Contains-take (suc n) (y ∷ xs) x (zero, inside, at) = (0, omega arith, at)
    Contains-take (suc n) (y ∷ xs) x (suc i, inside, at) = (let o = Contains-take n xs x (i, omega (arith, inside), at) in (suc o.0, omega (arith, o.1), o.2))

    Contains-drop : (n : ℕ) (xs : List Entry) (x : Entry) → Contains (drop n xs) x → Contains xs x
    Contains-drop zero xs x h = h
    Contains-drop (suc n) [] x h = absurd (omega (arith, h.1))
    Contains-drop (suc n) (y ∷ xs) x h = (let o = Contains-drop n xs x h in (suc o.0, omega (arith, o.1), o.2))

in-piece : (layer : List Entry) (w n q : ℕ) (e : Entry) → n ≤ q → q < n + w → q < length layer → get_or layer q e ≡ e → Contains (take w (drop n layer)) e
in-piece [] w n q e low high inside at = absurd (omega arith)
in-piece (x ∷ layer) w (suc n) zero e low high inside at = absurd (omega arith)
in-piece (x ∷ layer) w (suc n) (suc q) e low high inside at = in-piece layer w n q e (omega arith) (omega arith) (omega arith) at
in-piece (x ∷ layer) zero zero q e low high inside at = absurd (omega arith)
in-piece (x ∷ layer) (suc w) zero zero e low high inside at = (0, omega arith, at)
in-piece (x ∷ layer) (suc w) zero (suc q) e low high inside at = (let o = in-piece layer w 0 q e (omega arith) (omega arith) (omega arith) at in (suc o.0, omega (arith, o.1), o.2))

pub next-of-pieces : (p : Problem) (layer : List Entry) (w : ℕ) (lists : List (List Entry)) (joined : List Entry) → 0 < w → AreNextOfPieces p layer w lists → IsJoinOfAll lists joined → IsNextOf p layer joined
next-of-pieces p layer w lists joined some are join = record {
  rising = join.rising;
  each = All-weaker (λ e. (list : List Entry) × Contains lists list × Contains list e) (IsOf (IsReachedFrom p layer)) (λ e o. from e o.0 o.1 o.2) joined join.each;
  all = λ s r.
      let at = piece-at w some r.among.0 in
      let k = at.0 in
      let inside : k < length lists = below k at.1 r.among.1 in
      let among = in-piece layer w (k * w) r.among.0 r.from at.1 at.2 r.among.1 r.among.2 in
      let there = (are.each k inside).all s (record { from = r.from; among = among; phase = r.phase; leads = r.leads }) in
      let has = join.all (get_or lists k []) there.entry (Contains-get_or lists k [] inside) there.among in
      record { entry = has.entry; among = has.among; key_is = has.key_is ∙ there.key_is; delay = omega (arith, has.delay, there.delay) };
}
  where
    below : (k : ℕ) {q : ℕ} → k * w ≤ q → q < length layer → k < length lists
    below k low inside = elim (cases_lt k (length lists)) [
      | inl less ↦ less
      | inr up ↦ absurd (omega (arith, low, inside, are.enough, mul-le-mul_right w up))
    ]

    from : (e : Entry) (list : List Entry) → Contains lists list → Contains list e → IsOf (IsReachedFrom p layer) e
    from e list among there =
        let k = among.0 in
        let same : get_or lists k [] ≡ list = get_or_default lists k [] list among.1 ∙ among.2 in
        let o = All-contains (IsOf (IsReachedFrom p (piece_of layer w k))) (get_or lists k []) e (are.each k among.1).each (subst (λ xs. Contains xs e) (sym same) there) in
        record { stage = o.stage; holds = record { from = o.holds.from; among = of-piece layer w k o.holds.from o.holds.among; phase = o.holds.phase; leads = o.holds.leads }; key = o.key; delay = o.delay }

pub pieces-rise : (p : Problem) (layer : List Entry) (w : ℕ) (lists : List (List Entry)) → AreNextOfPieces p layer w lists → All AreRising lists
pieces-rise p layer w lists are k d inside = subst AreRising (get_or_default lists k [] d inside) (are.each k inside).rising

-- what a chain over the pieces gives
zip-at : {E : Type 0} (R : ℕ → Result (List Entry) E → Type 0) (a n : ℕ) (ys : List (List Entry)) → AllZip R (range_with_len a n) (map Ok ys) → (length ys ≡ n) × ((k : ℕ) → k < n → R (a + k) (Ok (get_or ys k [])))
zip-at R a zero [] h = (refl, λ k less. absurd (omega arith))
zip-at R a zero (y ∷ ys) h = absurd h
zip-at R a (suc n) [] h = absurd h
zip-at R a (suc n) (y ∷ ys) h = (let rest = zip-at R (a + 1) n ys h.1 in (omega (arith, rest.0), at rest.1))
  where
    at : ((k : ℕ) → k < n → R (a + 1 + k) (Ok (get_or ys k []))) → (k : ℕ) → k < suc n → R (a + k) (Ok (get_or (y ∷ ys) k []))
    at rest zero less = subst (λ i. R i (Ok y)) (let z : a ≡ a + 0 = omega arith in z) h.0
    at rest (suc k) less = subst (λ i. R i (Ok (get_or ys k []))) (let z : a + 1 + k ≡ a + suc k = omega arith in z) (rest k (omega arith))

pub pieces-made : {V E : Type 0} (items : V → List (List Entry)) (p : Problem) (layer : List Entry) (w count : ℕ) (chain : List ℕ) (xs : List (Result (List Entry) E)) (r : Result V E) → length layer < count * w → chain ≡ range_with_len 0 count
    → AllZip (λ k x. IfOk x (IsNextOf p (piece_of layer w k))) chain xs → MatchResult r (λ v. (ys : List (List Entry)) × (xs ≡ map Ok ys) × (items v ≡ ys)) (λ e. Contains xs (Err e)) → IfOk r (λ v. AreNextOfPieces p layer w (items v))
pieces-made items p layer w count chain xs (Err e) enough is zip h = tt
pieces-made {E = E} items p layer w count chain xs (Ok v) enough is zip h =
    let R : ℕ → Result (List Entry) E → Type 0 = λ k x. IfOk x (IsNextOf p (piece_of layer w k)) in
    let made = zip-at R 0 count h.0 (subst (λ ks. AllZip R ks (map Ok h.0)) is (subst (AllZip R chain) h.1 zip)) in
    subst (AreNextOfPieces p layer w) (sym h.2) (record {
      enough = subst (λ n. length layer < n * w) (sym made.0) enough;
      each = λ k inside. subst (λ i. IsNextOf p (piece_of layer w i) (get_or h.0 k [])) (let z : 0 + k ≡ k = omega arith in z) (made.1 k (omega (arith, inside, made.0)));
    })

-- ---- layers

pub first-is : (p : Problem) (e : Entry) → key_of_entry e ≡ key_of (first_stage p) → e.delay ≡ 0 → IsLayer p 0 (e ∷ [])
first-is p e key delay = record {
  rising = λ k inside. absurd (omega arith);
  each = λ k d inside. subst (IsOf (IsLed p 0)) (first k d inside) (record { stage = first_stage p; holds = record { prefix = []; long = refl; leads = refl }; key = key; delay = delay });
  all = λ s l. has s l.prefix l.long l.leads;
}
  where
    first : (k : ℕ) (d : Entry) → k < 1 → e ≡ get_or (e ∷ []) k d
    first zero d inside = refl
    first (suc k) d inside = absurd (omega arith)

    has : (s : Stage) (u : List ℕ) → length u ≡ 0 → stage_of p u ≡ Some s → HasEntry (e ∷ []) (key_of s) s.delay
    has s [] long leads =
        let same = some-same (first_stage p) s leads in
        record { entry = e; among = (0, omega arith, refl); key_is = key ∙ ap key_of same; delay = omega (arith, delay) }
    has s (k ∷ u) long leads = absurd (omega arith)

module _ (p : Problem) (lawful : IsInstance p) where
  layer-prefix : (n : ℕ) (e : Entry) → IsOf (IsLed p n) e → IsOfPrefix p e
  layer-prefix n e o = record { prefix = o.holds.prefix; stage = o.stage; leads = o.holds.leads; key = o.key; delay = o.delay }

  pub layer-bounds : (n : ℕ) (layer : List Entry) → IsLayer p n layer → All (IsEntry p) layer
  layer-bounds n layer is = All-weaker (IsOf (IsLed p n)) (IsEntry p) (λ e o. entry-bounds p lawful e (layer-prefix n e o)) layer is.each

  pub stage-here : (u : List ℕ) (s : Stage) (e : Entry) → stage_of p u ≡ Some s → key_of_entry e ≡ key_of s → e.delay ≡ s.delay → stage_of_entry p e ≡ s
  stage-here u s e leads key delay = entry-stage p lawful u s e leads key ∙ ap (λ d. let x : Stage = record { counts = s.counts; head = s.head; delay = d } in x) delay

  pub layer-next : (n : ℕ) (layer next : List Entry) → IsLayer p n layer → IsNextOf p layer next → IsLayer p (n + 1) next
  layer-next n layer next is after = record {
    rising = after.rising;
    each = All-weaker (IsOf (IsReachedFrom p layer)) (IsOf (IsLed p (n + 1))) (λ e o.
        let f = All-contains (IsOf (IsLed p n)) layer o.holds.from is.each o.holds.among in
        let u = f.holds.prefix in
        let k = o.holds.phase in
        let leads : stage_of p (u ++ k ∷ []) ≡ Some o.stage =
        stage-push p (first_stage p) u k ∙ ap (option_and_then (λ t. stage_after p t k)) f.holds.leads ∙ ap (λ t. stage_after p t k) (sym (stage-here u f.stage o.holds.from f.holds.leads f.key f.delay)) ∙ o.holds.leads in
        record { stage = o.stage; holds = record { prefix = u ++ k ∷ []; long = omega (arith, length-append u (k ∷ []), f.holds.long); leads = leads }; key = o.key; delay = o.delay }) next after.each;
    all = λ s l.
        let by = ends-by p l.prefix s n l.leads l.long in
        let shorter : length by.front ≡ n = omega (arith, ap length by.is, length-append by.front (by.last ∷ []), l.long) in
        let has = is.all by.before (record { prefix = by.front; long = shorter; leads = by.leads }) in
        let one = stage-alike p by.before has.entry.delay by.last s by.step in
        let step : stage_after p (stage_of_entry p has.entry) by.last ≡ Some (record { counts = s.counts; head = s.head; delay = has.entry.delay + one.0 }) =
        ap (λ t. stage_after p t by.last) (entry-stage p lawful by.front by.before has.entry by.leads has.key_is) ∙ one.2 in
        let there = after.all (record { counts = s.counts; head = s.head; delay = has.entry.delay + one.0 }) (record { from = has.entry; among = has.among; phase = by.last; leads = step }) in
        record { entry = there.entry; among = there.among; key_is = there.key_is; delay = omega (arith, there.delay, has.delay, one.1) };
  }

pub no-lists : (Holds : ℕ → List Entry → Type 0) → AreEach Holds 0 []
no-lists Holds = record { long = refl; each = λ k less. absurd (omega arith) }

pub more-lists : (Holds : ℕ → List Entry → Type 0) (n : ℕ) (lists : List (List Entry)) (list : List Entry) → AreEach Holds n lists → Holds n list → AreEach Holds (n + 1) (lists ++ list ∷ [])
more-lists Holds n lists list are is = record {
  long = omega (arith, length-append lists (list ∷ []), are.long);
  each = λ k less. elim (cases_eq k n) [
    | inl last ↦ subst (Holds k) (sym (get_or-append_right lists (list ∷ []) n k [] are.long (omega arith) ∙ ap (λ m. get_or (list ∷ []) m []) (let z : k - n ≡ 0 = omega arith in z))) (subst (λ m. Holds m list) (sym last) is)
    | inr other ↦ subst (Holds k) (sym (get_or_append_left lists (list ∷ []) [] k (omega (arith, are.long)))) (are.each k (omega arith))
  ];
}

-- a list at its place
pub list-at : (Holds : ℕ → List Entry → Type 0) (n : ℕ) (lists : List (List Entry)) (k : ℕ) (d list : List Entry) → AreEach Holds n lists → k < n → list ≡ get_or lists k d → Holds k list
list-at Holds n lists k d list are inside is = subst (Holds k) (sym (is ∙ get_or_default lists k d [] (omega (arith, are.long)))) (are.each k inside)

pub layers-rise : (p : Problem) (n : ℕ) (lists : List (List Entry)) → AreLayers p n lists → All AreRising lists
layers-rise p n lists are k d inside = subst AreRising (get_or_default lists k [] d inside) (are.each k (omega (arith, inside, are.long))).rising

-- the layers of all servings together are the whole table
pub layers-whole : (p : Problem) → IsInstance p → (n : ℕ) (lists : List (List Entry)) (joined : List Entry) → sum (counts_of p.lists) < n → AreLayers p n lists → IsJoinOfAll lists joined → IsWhole p joined
layers-whole p lawful n lists joined enough are join = record {
  rising = join.rising;
  each = All-weaker (λ e. (list : List Entry) × Contains lists list × Contains list e) (IsOfPrefix p) (λ e o. from e o.0 o.1 o.2) joined join.each;
  all = λ u. if-each (λ s. HasEntry joined (key_of s) s.delay) (stage_of p u) (has u);
}
  where
    if-each : {X : Type 0} (P : X → Type 0) (o : Option X) → ((x : X) → o ≡ Some x → P x) → IfSome o P
    if-each P None h = tt
    if-each P (Some x) h = h x refl

    from : (e : Entry) (list : List Entry) → Contains lists list → Contains list e → IsOfPrefix p e
    from e list among there =
        let k = among.0 in
        let same : get_or lists k [] ≡ list = get_or_default lists k [] list among.1 ∙ among.2 in
        let o = All-contains (IsOf (IsLed p k)) (get_or lists k []) e (are.each k (omega (arith, among.1, are.long))).each (subst (λ xs. Contains xs e) (sym same) there) in
        record { prefix = o.holds.prefix; stage = o.stage; leads = o.holds.leads; key = o.key; delay = o.delay }

    has : (u : List ℕ) (s : Stage) → stage_of p u ≡ Some s → HasEntry joined (key_of s) s.delay
    has u s e =
        let k = length u in
        let few : k < n = omega (arith, enough, stage-few p lawful k s (stage-bounds p lawful u s e)) in
        let there = (are.each k few).all s (record { prefix = u; long = refl; leads = e }) in
        let h = join.all (get_or lists k []) there.entry (Contains-get_or lists k [] (omega (arith, few, are.long))) there.among in
        record { entry = h.entry; among = h.among; key_is = h.key_is ∙ there.key_is; delay = omega (arith, h.delay, there.delay) }

-- a list of one list
pub one-list : (lists : List (List Entry)) (d : List Entry) → 1 ≤ length lists → length lists < 2 → All AreRising lists → IsJoinOfAll lists (get_or lists 0 d)
one-list [] d some few rising = absurd (omega arith)
one-list (xs ∷ []) d some few rising = one-all xs (rising 0 xs (omega arith))
one-list (xs ∷ ys ∷ lists) d some few rising = absurd (omega arith)

-- and of two
pub two-lists : (lists : List (List Entry)) (d : List Entry) (j : List Entry) → 2 ≤ length lists → length lists < 3 → All AreRising lists → IsJoinOf (get_or lists 0 d) (get_or lists 1 d) j → IsJoinOfAll lists j
two-lists [] d j some few rising join = absurd (omega arith)
two-lists (xs ∷ []) d j some few rising join = absurd (omega arith)
two-lists (xs ∷ ys ∷ []) d j some few rising join = both-all (xs ∷ []) (ys ∷ []) xs ys j (one-all xs (rising 0 xs (omega arith))) (one-all ys (rising 1 ys (omega arith))) join
two-lists (xs ∷ ys ∷ zs ∷ lists) d j some few rising join = absurd (omega arith)
