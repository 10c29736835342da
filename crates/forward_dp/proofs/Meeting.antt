-- Two lists of rows on their way into one, where of two rows with one time the better is taken and both are passed.
use Rattle.std.proofs.Common.{◌≡◌, ℕ, ◌+◌, ◌<◌, ◌≤◌, ◌⊎◌, List, [], ◌∷◌, ◌++◌, length, get_or, All, Contains, refl, sym, ap, subst, ◌∙◌, inl, inr, arith}
use Rattle.std.proofs.lemmas.Bool.{cases_lt}
use Rattle.std.proofs.lemmas.List.{get_or_default, append_assoc}
use Rattle.std.proofs.lemmas.List.Elements.{All-push, Contains-append_left, Contains-append_right}
use Rattle.std.proofs.lemmas.List.Quantifiers.{all_pairs_push}
use Rattle.forward_dp.specs.declared.rows.Row.{Row}
use Rattle.forward_dp.specs.Rows.{AreBestOf, AreLater, IsNoWorse, time_of}
use Rattle.forward_dp.proofs.Merging.{IsAmongFirst}

abbrev pub Passed : List Row → List Row → ℕ → ℕ → Row → Type 0
Passed left right i n r = IsAmongFirst left i r ⊎ IsAmongFirst right n r

-- this many of each of two lists are passed, and what is kept of them is earlier than what comes next
pub record AreMeeting (left right : List Row) (i n : ℕ) (out : List Row) : Type 0 where
  pub later : AreLater out
  pub best : AreBestOf (Passed left right i n) out
  pub left_up : (d : Row) → i < length left → All (λ r. time_of r < time_of (get_or left i d)) out
  pub right_up : (d : Row) → n < length right → All (λ r. time_of r < time_of (get_or right n d)) out

-- one more row x is kept, the best of what is passed by it
pub meeting-push : (left right : List Row) (i n i' n' : ℕ) (out : List Row) (x : Row) → AreMeeting left right i n out → All (λ r. time_of r < time_of x) out → Passed left right i' n' x
    → ((r : Row) → Passed left right i n r → Passed left right i' n' r)
    → ((r : Row) → Passed left right i' n' r → Passed left right i n r ⊎ ((time_of x ≡ time_of r) × IsNoWorse x r.entry.delay r.order))
    → ((d : Row) → i' < length left → time_of x < time_of (get_or left i' d)) → ((d : Row) → n' < length right → time_of x < time_of (get_or right n' d))
    → AreMeeting left right i' n' (out ++ x ∷ [])
meeting-push left right i n i' n' out x m before is_passed wider only next_left next_right =
    let up : (time : ℕ) → time_of x < time → All (λ r. time_of r < time) (out ++ x ∷ []) = λ time h.
    All-push (λ r. time_of r < time) out x (λ k d inside. omega (arith, before k d inside, h)) h in
    record {
      later = all_pairs_push (λ a b. time_of a < time_of b) out x m.later (λ k d h. before k d h);
      best = record {
        from = All-push (Passed left right i' n') out x (λ k d h. wider (get_or out k d) (m.best.from k d h)) is_passed;
        all = λ r h. elim (only r h) [
          | inl was ↦ (let a = m.best.all r was in record { row = a.row; among = Contains-append_left out (x ∷ []) a.row a.among; time_is = a.time_is; no_worse = a.no_worse })
          | inr e ↦ record { row = x; among = Contains-append_right out (x ∷ []) x (0, omega arith, refl); time_is = e.0; no_worse = e.1 }
        ];
      };
      left_up = λ d h. up (time_of (get_or left i' d)) (next_left d h);
      right_up = λ d h. up (time_of (get_or right n' d)) (next_right d h);
    }

among-more : (xs : List Row) (i : ℕ) (r : Row) → IsAmongFirst xs i r → IsAmongFirst xs (i + 1) r
among-more xs i r a = record { place = a.place; first = omega (arith, a.first); inside = a.inside; there = a.there }

among-last : (xs : List Row) (i : ℕ) (r x : Row) → i < length xs → x ≡ get_or xs i x → IsAmongFirst xs (i + 1) r → IsAmongFirst xs i r ⊎ (r ≡ x)
among-last xs i r x inside there a = elim (cases_lt a.place i) [
  | inl less ↦ inl (record { place = a.place; first = less; inside = a.inside; there = a.there })
  | inr last ↦
      let same : a.place ≡ i = omega (arith, a.first, last) in
      inr (sym a.there ∙ ap (λ k. get_or xs k r) same ∙ get_or_default xs i r x inside ∙ sym there)
]

self-best : (x r : Row) → r ≡ x → (time_of x ≡ time_of r) × IsNoWorse x r.entry.delay r.order
self-best x r e = subst (λ z. (time_of x ≡ time_of z) × IsNoWorse x z.entry.delay z.order) (sym e) (refl, inr (refl, omega arith))

next-later : (xs : List Row) (i : ℕ) (x d : Row) → AreLater xs → i < length xs → x ≡ get_or xs i x → i + 1 < length xs → time_of x < time_of (get_or xs (i + 1) d)
next-later xs i x d rising inside there h = subst (λ r. time_of r < time_of (get_or xs (i + 1) d)) (get_or_default xs i d x inside ∙ sym there) (rising i (i + 1) d (omega arith) h)

-- the next row of the left list is earlier than that of the right
pub meeting-left : (left right : List Row) (i n : ℕ) (out : List Row) (x : Row) → AreLater left → AreMeeting left right i n out → i < length left → x ≡ get_or left i x
    → ((d : Row) → n < length right → time_of x < time_of (get_or right n d)) → AreMeeting left right (i + 1) n (out ++ x ∷ [])
meeting-left left right i n out x rising m inside there before =
    meeting-push left right i n (i + 1) n out x m (subst (λ z. All (λ r. time_of r < time_of z) out) (sym there) (m.left_up x inside))
    (inl (record { place = i; first = omega arith; inside = inside; there = sym there }))
    (λ r h. elim h [ inl a ↦ inl (among-more left i r a) | inr a ↦ inr a ])
    (λ r h. elim h [ inl a ↦ elim (among-last left i r x inside there a) [ inl was ↦ inl (inl was) | inr e ↦ inr (self-best x r e) ] | inr a ↦ inl (inr a) ])
    (λ d h. next-later left i x d rising inside there h) before

-- both next rows have one time
pub meeting-both : (left right : List Row) (i n : ℕ) (out : List Row) (x y z : Row) → AreLater left → AreLater right → AreMeeting left right i n out → i < length left → x ≡ get_or left i x → n < length right → y ≡ get_or right n y
    → time_of y ≡ time_of x → (z ≡ x) ⊎ (z ≡ y) → IsNoWorse z x.entry.delay x.order → IsNoWorse z y.entry.delay y.order → AreMeeting left right (i + 1) (n + 1) (out ++ z ∷ [])
meeting-both left right i n out x y z rising_left rising_right m inside_x there_x inside_y there_y alike from first second =
    let time_z : time_of z ≡ time_of x = elim from [ inl e ↦ ap time_of e | inr e ↦ ap time_of e ∙ alike ] in
    let earlier : All (λ r. time_of r < time_of x) out = subst (λ z. All (λ r. time_of r < time_of z) out) (sym there_x) (m.left_up x inside_x) in
    let is_x : IsAmongFirst left (i + 1) x = record { place = i; first = omega arith; inside = inside_x; there = sym there_x } in
    let is_y : IsAmongFirst right (n + 1) y = record { place = n; first = omega arith; inside = inside_y; there = sym there_y } in
    meeting-push left right i n (i + 1) (n + 1) out z m (λ k d h. omega (arith, earlier k d h, time_z))
    (elim from [ inl e ↦ inl (subst (IsAmongFirst left (i + 1)) (sym e) is_x) | inr e ↦ inr (subst (IsAmongFirst right (n + 1)) (sym e) is_y) ])
    (λ r h. elim h [ inl a ↦ inl (among-more left i r a) | inr a ↦ inr (among-more right n r a) ])
    (λ r h. elim h [
      | inl a ↦ elim (among-last left i r x inside_x there_x a) [ inl was ↦ inl (inl was) | inr e ↦ inr (subst (λ w. (time_of z ≡ time_of w) × IsNoWorse z w.entry.delay w.order) (sym e) (time_z, first)) ]
      | inr a ↦ elim (among-last right n r y inside_y there_y a) [ inl was ↦ inl (inr was) | inr e ↦ inr (subst (λ w. (time_of z ≡ time_of w) × IsNoWorse z w.entry.delay w.order) (sym e) (time_z ∙ sym alike, second)) ]
    ])
    (λ d h. omega (arith, next-later left i x d rising_left inside_x there_x h, time_z))
    (λ d h. omega (arith, next-later right n y d rising_right inside_y there_y h, time_z, alike))

-- what stands after the rows that were there
pub record AreBehind (left right : List Row) (i n : ℕ) (old now : List Row) : Type 0 where
  pub merged : List Row
  pub is : now ≡ old ++ merged
  pub meeting : AreMeeting left right i n merged

behind-push : (left right : List Row) (i n i' n' : ℕ) (old now : List Row) (x : Row) (b : AreBehind left right i n old now) → AreMeeting left right i' n' (b.merged ++ x ∷ []) → AreBehind left right i' n' old (now ++ x ∷ [])
behind-push left right i n i' n' old now x b m = record { merged = b.merged ++ x ∷ []; is = ap (λ xs. xs ++ x ∷ []) b.is ∙ append_assoc old b.merged (x ∷ []); meeting = m }

pub behind-left : (left right : List Row) (i n : ℕ) (old now : List Row) (x : Row) → AreLater left → AreBehind left right i n old now → i < length left → x ≡ get_or left i x
    → ((d : Row) → n < length right → time_of x < time_of (get_or right n d)) → AreBehind left right (i + 1) n old (now ++ x ∷ [])
behind-left left right i n old now x rising b inside there before = behind-push left right i n (i + 1) n old now x b (meeting-left left right i n b.merged x rising b.meeting inside there before)

pub behind-both : (left right : List Row) (i n : ℕ) (old now : List Row) (x y z : Row) → AreLater left → AreLater right → AreBehind left right i n old now → i < length left → x ≡ get_or left i x → n < length right → y ≡ get_or right n y
    → time_of y ≡ time_of x → (z ≡ x) ⊎ (z ≡ y) → IsNoWorse z x.entry.delay x.order → IsNoWorse z y.entry.delay y.order → AreBehind left right (i + 1) (n + 1) old (now ++ z ∷ [])
behind-both left right i n old now x y z rl rr b ix tx iy ty alike from first second =
    behind-push left right i n (i + 1) (n + 1) old now z b (meeting-both left right i n b.merged x y z rl rr b.meeting ix tx iy ty alike from first second)

meeting-swap : (left right : List Row) (i n : ℕ) (out : List Row) → AreMeeting left right i n out → AreMeeting right left n i out
meeting-swap left right i n out m = record {
  later = m.later;
  best = record { from = λ k d h. elim (m.best.from k d h) [ inl a ↦ inr a | inr a ↦ inl a ]; all = λ r h. m.best.all r (elim h [ inl a ↦ inr a | inr a ↦ inl a ]) };
  left_up = m.right_up;
  right_up = m.left_up;
}

pub behind-right : (left right : List Row) (i n : ℕ) (old now : List Row) (x : Row) → AreLater right → AreBehind left right i n old now → n < length right → x ≡ get_or right n x
    → ((d : Row) → i < length left → time_of x < time_of (get_or left i d)) → AreBehind left right i (n + 1) old (now ++ x ∷ [])
behind-right left right i n old now x rising b inside there before =
    behind-push left right i n i (n + 1) old now x b
    (meeting-swap right left (n + 1) i (b.merged ++ x ∷ []) (meeting-left right left n i b.merged x rising (meeting-swap left right i n b.merged b.meeting) inside there before))

pub behind-end : (left right : List Row) (i n : ℕ) (old now : List Row) → AreBehind left right i n old now → length left ≤ i → length right ≤ n
    → (merged : List Row) × (now ≡ old ++ merged) × AreLater merged × AreBestOf (λ r. Contains left r ⊎ Contains right r) merged
behind-end left right i n old now b all_left all_right = (
  b.merged,
  b.is,
  b.meeting.later,
  record {
    from = λ k d h. elim (b.meeting.best.from k d h) [ inl a ↦ inl (a.place, a.inside, a.there) | inr a ↦ inr (a.place, a.inside, a.there) ];
    all = λ r h. b.meeting.best.all r (elim h [
      | inl a ↦ inl (record { place = a.0; first = omega (arith, a.1); inside = a.1; there = a.2 })
      | inr a ↦ inr (record { place = a.0; first = omega (arith, a.1); inside = a.1; there = a.2 })
    ]);
  },
)
