-- Two lists joined so far: each step keeps what the loop keeps.
use Rattle.std.proofs.Common.{◌≡◌, ℕ, zero, suc, ◌+◌, ◌-◌, drop, append-nil, append_assoc, ◌<◌, ◌≤◌, ◌⊎◌, List, [], ◌∷◌, ◌++◌, length, get_or, take, All, Contains, refl, sym, ap, subst, ◌∙◌, inl, inr, arith}
use Rattle.std.proofs.lemmas.Bool.{cases_eq, cases_lt}
use Rattle.std.proofs.lemmas.List.{get_or-drop, get_or_default, length-drop, take_all, take_more}
use Rattle.std.proofs.lemmas.List.Elements.{All-contains, All-more, All-push, All-weaker, Contains-append_left, Contains-get_or, Contains-push}
use Rattle.dp_certificate.specs.Certificates.{AreRising, IsBefore, digits_of, entry_at, no_entry}
use Rattle.dp_certificate.specs.Prefixes.{Key}
use Rattle.dp_certificate.specs.Proves.{HasEntry, key_of_entry}
use Rattle.dp_certificate.specs.declared.Entry.{Entry}
use Rattle.parallel_dp.specs.Joins.{EndsBefore, IsCoveredBy, IsJoinedTo, IsJoining, Precedes}
use Rattle.parallel_dp.specs.Pieces.{IsJoinOf, IsOfEither}
use Rattle.dp_certificate.specs.Places.{IsPlace}
use Rattle.dp_certificate.proofs.KeyPlaces.{rise-far}
use Rattle.parallel_dp.proofs.Rising.{precedes-both, rising-push, same-digits}

-- the entry at a place has the key of this one and no less delay
pub record IsTaken (entries : List Entry) (place : ℕ) (e : Entry) (after : ℕ) : Type 0 where
  pub inside : place < length entries
  pub passed : after ≡ place + 1
  pub key : key_of_entry e ≡ key_of_entry (entry_at entries place)
  pub delay : e.delay ≤ (entry_at entries place).delay

-- the entry at a place, where there is one, has a later key
pub record IsLeft (entries : List Entry) (place : ℕ) (e : Entry) (after : ℕ) : Type 0 where
  pub stays : after ≡ place
  pub later : place < length entries → Precedes e (entry_at entries place)

-- of what is left of two lists this entry is the first, and these are the places after it
pub record IsFirstOfBoth (a b : List Entry) (left right : ℕ) (e : Entry) (after_left after_right : ℕ) : Type 0 where
  pub among : IsOfEither a b e
  pub first : IsTaken a left e after_left ⊎ IsLeft a left e after_left
  pub second : IsTaken b right e after_right ⊎ IsLeft b right e after_right
  pub goes_on : left + right < after_left + after_right

pub has-more : (xs : List Entry) (e : Entry) (key : Key) (most : ℕ) → HasEntry xs key most → HasEntry (xs ++ e ∷ []) key most
has-more xs e key most h = record { entry = h.entry; among = Contains-append_left xs (e ∷ []) h.entry h.among; key_is = h.key_is; delay = h.delay }

pub has-last : (xs : List Entry) (e : Entry) (key : Key) (most : ℕ) → key_of_entry e ≡ key → e.delay ≤ most → HasEntry (xs ++ e ∷ []) key most
has-last xs e key most same less = record { entry = e; among = Contains-push xs e; key_is = same; delay = less }

pub none : (a b : List Entry) → IsJoining a b 0 0 []
none a b = record {
  rising = λ k inside. absurd (omega arith);
  each = λ k d inside. absurd (omega arith);
  first = record { within = omega arith; covered = λ k d inside. absurd (omega arith); below = λ some k d inside. absurd (omega arith) };
  second = record { within = omega arith; covered = λ k d inside. absurd (omega arith); below = λ some k d inside. absurd (omega arith) };
}

-- the entry that is taken from a list comes after what is joined
taken-after : (entries joined : List Entry) (place after : ℕ) (e : Entry) → IsJoinedTo entries joined place → IsTaken entries place e after → All (λ x. Precedes x e) joined
taken-after entries joined place after e so taken =
    All-weaker (λ x. Precedes x (entry_at entries place)) (λ x. Precedes x e)
    (λ x h. subst (IsBefore (digits_of x)) (sym (same-digits e (entry_at entries place) taken.key)) h) joined (so.below taken.inside)

taken-more : (entries joined : List Entry) (place after : ℕ) (e : Entry) → AreRising entries → IsJoinedTo entries joined place → IsTaken entries place e after → IsJoinedTo entries (joined ++ e ∷ []) after
taken-more entries joined place after e rising so taken =
    subst (IsJoinedTo entries (joined ++ e ∷ [])) (sym taken.passed) (record {
      within = omega (arith, taken.inside);
      covered =
          All-more (IsCoveredBy (joined ++ e ∷ [])) entries place no_entry taken.inside
          (All-weaker (IsCoveredBy joined) (IsCoveredBy (joined ++ e ∷ [])) (λ x h. has-more joined e (key_of_entry x) x.delay h) (take place entries) so.covered)
          (has-last joined e (key_of_entry (entry_at entries place)) (entry_at entries place).delay taken.key taken.delay);
      below = λ more.
          let next : Precedes (entry_at entries place) (entry_at entries (place + 1)) = rising place more in
          All-push (λ x. Precedes x (entry_at entries (place + 1))) joined e
          (All-weaker (λ x. Precedes x (entry_at entries place)) (λ x. Precedes x (entry_at entries (place + 1)))
          (λ x h. precedes-both x (entry_at entries place) (entry_at entries (place + 1)) h next) joined (so.below taken.inside))
          (subst (λ ds. IsBefore ds (digits_of (entry_at entries (place + 1)))) (sym (same-digits e (entry_at entries place) taken.key)) next);
    })

left-more : (entries joined : List Entry) (place after : ℕ) (e : Entry) → IsJoinedTo entries joined place → IsLeft entries place e after → IsJoinedTo entries (joined ++ e ∷ []) after
left-more entries joined place after e so left =
    subst (IsJoinedTo entries (joined ++ e ∷ [])) (sym left.stays) (record {
      within = so.within;
      covered = All-weaker (IsCoveredBy joined) (IsCoveredBy (joined ++ e ∷ [])) (λ x h. has-more joined e (key_of_entry x) x.delay h) (take place entries) so.covered;
      below = λ more. All-push (λ x. Precedes x (entry_at entries place)) joined e (so.below more) (left.later more);
    })

side-more : (entries joined : List Entry) (place after : ℕ) (e : Entry) → AreRising entries → IsJoinedTo entries joined place → IsTaken entries place e after ⊎ IsLeft entries place e after → IsJoinedTo entries (joined ++ e ∷ []) after
side-more entries joined place after e rising so (inl taken) = taken-more entries joined place after e rising so taken
side-more entries joined place after e rising so (inr left) = left-more entries joined place after e so left

all-after : (a b joined : List Entry) (left right after_left after_right : ℕ) (e : Entry) → IsJoinedTo a joined left → IsJoinedTo b joined right → IsTaken a left e after_left ⊎ IsLeft a left e after_left → IsTaken b right e after_right ⊎ IsLeft b right e after_right → left + right < after_left + after_right → All (λ x. Precedes x e) joined
all-after a b joined left right after_left after_right e first second (inl taken) other more = taken-after a joined left after_left e first taken
all-after a b joined left right after_left after_right e first second (inr stays) (inl taken) more = taken-after b joined right after_right e second taken
all-after a b joined left right after_left after_right e first second (inr stays) (inr rests) more = absurd (omega (arith, more, stays.stays, rests.stays))

pub more : (a b : List Entry) (left right : ℕ) (joined : List Entry) (e : Entry) (after_left after_right : ℕ) → AreRising a → AreRising b → IsJoining a b left right joined → IsFirstOfBoth a b left right e after_left after_right → IsJoining a b after_left after_right (joined ++ e ∷ [])
more a b left right joined e after_left after_right ra rb so next = record {
  rising = rising-push joined e so.rising (all-after a b joined left right after_left after_right e so.first so.second next.first next.second next.goes_on);
  each = All-push (IsOfEither a b) joined e so.each next.among;
  first = side-more a joined left after_left e ra so.first next.first;
  second = side-more b joined right after_right e rb so.second next.second;
}

side-all : (entries joined : List Entry) (place : ℕ) → length entries ≤ place → IsJoinedTo entries joined place → All (IsCoveredBy joined) entries
side-all entries joined place past so = subst (All (IsCoveredBy joined)) (take_all place entries past) so.covered

covers-either : (a b joined : List Entry) → All (IsCoveredBy joined) a → All (IsCoveredBy joined) b → (e : Entry) → IsOfEither a b e → IsCoveredBy joined e
covers-either a b joined first second e (inl h) = All-contains (IsCoveredBy joined) a e first h
covers-either a b joined first second e (inr h) = All-contains (IsCoveredBy joined) b e second h

pub all : (a b : List Entry) (left right : ℕ) (joined : List Entry) → length a ≤ left → length b ≤ right → IsJoining a b left right joined → IsJoinOf a b joined
all a b left right joined past_a past_b so = record {
  rising = so.rising;
  each = so.each;
  all = covers-either a b joined (side-all a joined left past_a so.first) (side-all b joined right past_b so.second);
}

-- with no entries the join is the other list
pub none-before : (a b : List Entry) → length a ≡ 0 → AreRising b → IsJoinOf a b b
none-before a b none rising = record {
  rising = rising;
  each = λ k d inside. inr (Contains-get_or b k d inside);
  all = λ e h. elim h [ inl x ↦ absurd (omega (arith, x.1, none)) | inr x ↦ record { entry = e; among = x; key_is = refl; delay = omega arith } ];
}

pub none-after : (a b : List Entry) → length b ≡ 0 → AreRising a → IsJoinOf a b a
none-after a b none rising = record {
  rising = rising;
  each = λ k d inside. inl (Contains-get_or a k d inside);
  all = λ e h. elim h [ inl x ↦ record { entry = e; among = x; key_is = refl; delay = omega arith } | inr x ↦ absurd (omega (arith, x.1, none)) ];
}

-- ---- the first of what is left of both

entry-here : (entries : List Entry) (place : ℕ) (d : Entry) → place < length entries → entry_at entries place ≡ get_or entries place d
entry-here entries place d inside = get_or_default entries place no_entry d inside

taken-as : (entries : List Entry) (place : ℕ) (d e : Entry) → place < length entries → key_of_entry e ≡ key_of_entry (get_or entries place d) → e.delay ≤ (get_or entries place d).delay → IsTaken entries place e (place + 1)
taken-as entries place d e inside same less =
    let here = entry-here entries place d inside in
    record { inside = inside; passed = refl; key = same ∙ ap key_of_entry (sym here); delay = omega (arith, less, ap (λ (x : Entry). x.delay) here) }

left-as : (entries : List Entry) (place : ℕ) (d e : Entry) → (place < length entries → Precedes e (get_or entries place d)) → IsLeft entries place e place
left-as entries place d e later = record { stays = refl; later = λ inside. subst (Precedes e) (sym (entry-here entries place d inside)) (later inside) }

pub from-first : (a b : List Entry) (left right : ℕ) (d : Entry) → left < length a → (right < length b → Precedes (get_or a left d) (get_or b right d)) → IsFirstOfBoth a b left right (get_or a left d) (left + 1) right
from-first a b left right d inside later = record {
  among = inl (Contains-get_or a left d inside);
  first = inl (taken-as a left d (get_or a left d) inside refl (omega arith));
  second = inr (left-as b right d (get_or a left d) later);
  goes_on = omega arith;
}

pub from-second : (a b : List Entry) (left right : ℕ) (d : Entry) → right < length b → (left < length a → Precedes (get_or b right d) (get_or a left d)) → IsFirstOfBoth a b left right (get_or b right d) left (right + 1)
from-second a b left right d inside later = record {
  among = inr (Contains-get_or b right d inside);
  first = inr (left-as a left d (get_or b right d) later);
  second = inl (taken-as b right d (get_or b right d) inside refl (omega arith));
  goes_on = omega arith;
}

pub from-both : (a b : List Entry) (left right : ℕ) (d e : Entry) → left < length a → right < length b → key_of_entry (get_or a left d) ≡ key_of_entry (get_or b right d) → (e ≡ get_or a left d) ⊎ (e ≡ get_or b right d) → e.delay ≤ (get_or a left d).delay → e.delay ≤ (get_or b right d).delay → IsFirstOfBoth a b left right e (left + 1) (right + 1)
from-both a b left right d e inside_a inside_b same (inl is) less_a less_b = record {
  among = inl (subst (Contains a) (sym is) (Contains-get_or a left d inside_a));
  first = inl (taken-as a left d e inside_a (ap key_of_entry is) less_a);
  second = inl (taken-as b right d e inside_b (ap key_of_entry is ∙ same) less_b);
  goes_on = omega arith;
}
from-both a b left right d e inside_a inside_b same (inr is) less_a less_b = record {
  among = inr (subst (Contains b) (sym is) (Contains-get_or b right d inside_b));
  first = inl (taken-as a left d e inside_a (ap key_of_entry is ∙ sym same) less_a);
  second = inl (taken-as b right d e inside_b (ap key_of_entry is) less_b);
  goes_on = omega arith;
}

-- ---- whole runs of one list

pub ends-before : (entries : List Entry) (place : ℕ) (key : Entry) (end : ℕ) → AreRising entries → place < length entries → Precedes (entry_at entries place) key → IsPlace entries key end → EndsBefore entries place key end
ends-before entries place key end rising inside before at = record { past = past; within = at.within; before = below }
  where
    past : place < end
    past = elim (cases_lt place end) [
      | inl less ↦ less
      | inr up ↦ absurd (elim (cases_eq end place) [
        | inl same ↦ at.here (omega arith) (subst (λ n. Precedes (entry_at entries n) key) (sym same) before)
        | inr other ↦ at.here (omega arith) (precedes-both (entry_at entries end) (entry_at entries place) key (rise-far entries rising end place (omega arith) inside) before)
      ])
    ]

    below : (k : ℕ) → k < end → Precedes (entry_at entries k) key
    below k less = elim (cases_eq k (end - 1)) [
      | inl last ↦ subst (λ n. Precedes (entry_at entries n) key) (sym last) (at.below (omega arith))
      | inr earlier ↦
          precedes-both (entry_at entries k) (entry_at entries (end - 1)) key
          (rise-far entries rising k (end - 1) (omega arith) (omega (arith, at.within))) (at.below (omega arith))
    ]

-- one more of a run
run-more : (xs joined : List Entry) (place n : ℕ) → place + n < length xs → (joined ++ take n (drop place xs)) ++ entry_at xs (place + n) ∷ [] ≡ joined ++ take (n + 1) (drop place xs)
run-more xs joined place n inside =
    append_assoc joined (take n (drop place xs)) (entry_at xs (place + n) ∷ [])
    ∙ ap (λ ys. joined ++ ys)
    (ap (λ e. take n (drop place xs) ++ e ∷ []) (sym (get_or-drop place xs n no_entry))
    ∙ sym (take_more (drop place xs) n no_entry (omega (arith, inside, length-drop place xs))))

pub run-first : (a b : List Entry) (left right n : ℕ) (joined : List Entry) → AreRising a → AreRising b → left + n ≤ length a → ((k : ℕ) → left ≤ k → k < left + n → right < length b → Precedes (entry_at a k) (entry_at b right)) → IsJoining a b left right joined → IsJoining a b (left + n) right (joined ++ take n (drop left a))
run-first a b left right zero joined ra rb within before so =
    subst (λ m. IsJoining a b m right (joined ++ [])) (let e : left ≡ left + 0 = omega arith in e) (subst (IsJoining a b left right) (sym (append-nil joined)) so)
run-first a b left right (suc n) joined ra rb within before so =
    let passed : left + n + 1 ≡ left + suc n = omega arith in
    let one : n + 1 ≡ suc n = omega arith in
    let rest = run-first a b left right n joined ra rb (omega arith) (λ k low less some. before k low (omega arith) some) so in
    let next = more a b (left + n) right (joined ++ take n (drop left a)) (entry_at a (left + n)) (left + n + 1) right ra rb rest
    (from-first a b (left + n) right no_entry (omega arith) (λ some. before (left + n) (omega arith) (omega arith) some)) in
    subst (λ m. IsJoining a b (left + suc n) right (joined ++ take m (drop left a))) one
    (subst (λ m. IsJoining a b m right (joined ++ take (n + 1) (drop left a))) passed
    (subst (IsJoining a b (left + n + 1) right) (run-more a joined left n (omega arith)) next))

pub run-second : (a b : List Entry) (left right n : ℕ) (joined : List Entry) → AreRising a → AreRising b → right + n ≤ length b → ((k : ℕ) → right ≤ k → k < right + n → left < length a → Precedes (entry_at b k) (entry_at a left)) → IsJoining a b left right joined → IsJoining a b left (right + n) (joined ++ take n (drop right b))
run-second a b left right zero joined ra rb within before so =
    subst (λ m. IsJoining a b left m (joined ++ [])) (let e : right ≡ right + 0 = omega arith in e) (subst (IsJoining a b left right) (sym (append-nil joined)) so)
run-second a b left right (suc n) joined ra rb within before so =
    let passed : right + n + 1 ≡ right + suc n = omega arith in
    let one : n + 1 ≡ suc n = omega arith in
    let rest = run-second a b left right n joined ra rb (omega arith) (λ k low less some. before k low (omega arith) some) so in
    let next = more a b left (right + n) (joined ++ take n (drop right b)) (entry_at b (right + n)) left (right + n + 1) ra rb rest
    (from-second a b left (right + n) no_entry (omega arith) (λ some. before (right + n) (omega arith) (omega arith) some)) in
    subst (λ m. IsJoining a b left (right + suc n) (joined ++ take m (drop right b))) one
    (subst (λ m. IsJoining a b left m (joined ++ take (n + 1) (drop right b))) passed
    (subst (IsJoining a b left (right + n + 1)) (run-more b joined right n (omega arith)) next))

-- up to where the entries before a key of the other list end
pub to-end-first : (a b : List Entry) (left right end : ℕ) (key : Entry) (joined : List Entry) → AreRising a → AreRising b → key ≡ entry_at b right → EndsBefore a left key end → IsJoining a b left right joined → IsJoining a b end right (joined ++ take (end - left) (drop left a))
to-end-first a b left right end key joined ra rb is ends so =
    let all : left + (end - left) ≡ end = omega (arith, ends.past) in
    subst (λ m. IsJoining a b m right (joined ++ take (end - left) (drop left a))) all
    (run-first a b left right (end - left) joined ra rb (omega (arith, ends.past, ends.within)) (λ k low less some. subst (Precedes (entry_at a k)) is (ends.before k (omega (arith, less, all)))) so)

pub to-end-second : (a b : List Entry) (left right end : ℕ) (key : Entry) (joined : List Entry) → AreRising a → AreRising b → key ≡ entry_at a left → EndsBefore b right key end → IsJoining a b left right joined → IsJoining a b left end (joined ++ take (end - right) (drop right b))
to-end-second a b left right end key joined ra rb is ends so =
    let all : right + (end - right) ≡ end = omega (arith, ends.past) in
    subst (λ m. IsJoining a b left m (joined ++ take (end - right) (drop right b))) all
    (run-second a b left right (end - right) joined ra rb (omega (arith, ends.past, ends.within)) (λ k low less some. subst (Precedes (entry_at b k)) is (ends.before k (omega (arith, less, all)))) so)

-- what is left of both, where one has nothing left
pub rest-of-both : (a b : List Entry) (left right : ℕ) (joined : List Entry) → AreRising a → AreRising b → (left < length a → right < length b → ⊥) → IsJoining a b left right joined → IsJoinOf a b ((joined ++ take (length a - left) (drop left a)) ++ take (length b - right) (drop right b))
rest-of-both a b left right joined ra rb none so =
    let all_a : left + (length a - left) ≡ length a = omega (arith, so.first.within) in
    let all_b : right + (length b - right) ≡ length b = omega (arith, so.second.within) in
    let first = subst (λ m. IsJoining a b m right (joined ++ take (length a - left) (drop left a))) all_a
    (run-first a b left right (length a - left) joined ra rb (omega (arith, so.first.within)) (λ k low less some. absurd (none (omega (arith, low, less, all_a)) some)) so) in
    let second = subst (λ m. IsJoining a b (length a) m ((joined ++ take (length a - left) (drop left a)) ++ take (length b - right) (drop right b))) all_b
    (run-second a b (length a) right (length b - right) (joined ++ take (length a - left) (drop left a)) ra rb (omega (arith, so.second.within)) (λ k low less some. absurd (omega (arith, some))) first) in
    all a b (length a) (length b) ((joined ++ take (length a - left) (drop left a)) ++ take (length b - right) (drop right b)) (omega arith) (omega arith) second

-- the one entry of a key that both have
pub both-here : (a b : List Entry) (left right : ℕ) (joined : List Entry) (x y e : Entry) → AreRising a → AreRising b → left < length a → right < length b → x ≡ entry_at a left → y ≡ entry_at b right → key_of_entry x ≡ key_of_entry y → (e ≡ x) ⊎ (e ≡ y) → e.delay ≤ x.delay → e.delay ≤ y.delay → IsJoining a b left right joined → IsJoining a b (left + 1) (right + 1) (joined ++ e ∷ [])
both-here a b left right joined x y e ra rb inside_a inside_b is_a is_b same either less_a less_b so =
    let of_either : (e ≡ entry_at a left) ⊎ (e ≡ entry_at b right) = elim either [ inl h ↦ inl (h ∙ is_a) | inr h ↦ inr (h ∙ is_b) ] in
    more a b left right joined e (left + 1) (right + 1) ra rb so
    (from-both a b left right no_entry e inside_a inside_b (ap key_of_entry (sym is_a) ∙ same ∙ ap key_of_entry is_b) of_either
    (omega (arith, less_a, ap (λ (z : Entry). z.delay) is_a)) (omega (arith, less_b, ap (λ (z : Entry). z.delay) is_b)))
