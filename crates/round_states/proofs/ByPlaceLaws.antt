-- Lists that grow by what a record says, and by what comes of a number.
use Rattle.std.proofs.Common.{◌≡◌, ℕ, ◌+◌, ◌<◌, ◌≤◌, false, eqb, append-nil, List, [], ◌∷◌, ◌++◌, Option, Some, None, Vec, length, filter_map, get_or, map, set, take, refl, sym, ap, subst, ◌∙◌, inl, inr, arith}
use Rattle.std.specs.List.{cons_option, range_with_len}
use Rattle.std.proofs.lemmas.Bool.{cases_lt, cond-false, cond-true, eq-eqb}
use Rattle.std.proofs.lemmas.Bool.Decides.{eqb_tells}
use Rattle.std.proofs.lemmas.List.{get_or-map, get_or-set_other, get_or-set_same, length-map, length-set, map-append, map-set, take_all, take_more}
use Rattle.std.proofs.lemmas.List.Elements.{filter_map-append}
use Rattle.std.proofs.lemmas.List.FromFn.{get_or-map-range_with_len, length-map-range_with_len, map-range_with_len_more}
use Rattle.round_states.specs.declared.entries.Entry.{Entry}
use Rattle.round_states.specs.declared.entries.StateRecord.{StateRecord}
use Rattle.round_states.specs.Readers.{HasAllSaid, lists_of, with_said}
use Rattle.round_states.specs.Texts.{all_said, said_of}

-- one number more
pub map-step : {X : Type 0} (f : ℕ → X) (low n j : ℕ) (old new : List X) (x : X) → low + n ≡ j → new ≡ old ++ x ∷ [] → old ≡ map f (range_with_len low n) → x ≡ f j → new ≡ map f (range_with_len low (n + 1))
map-step f low n j old new x at more before is =
    more ∙ ap (λ l. l ++ x ∷ []) before ∙ ap (λ y. map f (range_with_len low n) ++ y ∷ []) is ∙ sym (map-range_with_len_more f low n j at)

lists-count : {X Z : Type 0} (all : List (Vec X Z)) → length (lists_of all) ≡ length all
lists-count all = length-map all (λ list. list.items)

-- no record yet
pub content-none : {X Z : Type 0} (of : StateRecord → Option X) (count : ℕ) (all : List (Vec X Z)) → lists_of all ≡ map (λ place. []) (range_with_len 0 count) → HasAllSaid of [] count all
content-none of count all none = record {
  count_is = sym (lists-count all) ∙ ap length none ∙ length-map-range_with_len (all_said of []) 0 count;
  each = λ place h. ap (λ l. get_or l place []) none ∙ get_or-map-range_with_len (all_said of []) 0 count place place [] h (omega arith);
}

-- a list more with nothing in it
pub none-more : {X Z : Type 0} (old new : List (Vec X Z)) (n : ℕ) (list : Vec X Z) → new ≡ old ++ list ∷ [] → list.items ≡ [] → lists_of old ≡ map (λ place. []) (range_with_len 0 n) → lists_of new ≡ map (λ place. []) (range_with_len 0 (n + 1))
none-more old new n list more none before =
    map-step (λ place. []) 0 n n (lists_of old) (lists_of new) list.items (omega arith) (ap lists_of more ∙ map-append (λ l. l.items) old (list ∷ [])) before none

-- something more is said of a place
pub content-kept : {X Z : Type 0} (all : List (Vec X Z)) (place : ℕ) (old new : Vec X Z) (x : X) (o : Option X) → place < length all → old ≡ get_or all place old → new.items ≡ old.items ++ x ∷ [] → o ≡ Some x → lists_of (set all place new) ≡ with_said place o (lists_of all)
content-kept all place old new x o inside at more content =
    let was : old.items ≡ get_or (lists_of all) place [] = ap (λ l. l.items) at ∙ sym (get_or-map (λ l. l.items) all place old [] inside) in
    map-set (λ l. l.items) all place new ∙ ap (λ l. set (lists_of all) place l) (more ∙ ap (λ l. l ++ x ∷ []) was ∙ ap (λ p. get_or (lists_of all) place [] ++ cons_option p []) (sym content))

-- one record more
module _ {X Z : Type 0} (of : StateRecord → Option X) (es : List Entry) (count i : ℕ) (e d : Entry) (inside : i < length es) (at : e ≡ get_or es i d) (old new : List (Vec X Z)) (o : Option X) (content : o ≡ of e.content) (keeps : lists_of new ≡ with_said e.place o (lists_of old)) (before : HasAllSaid of (take i es) count old) where
  content-next : (place : ℕ) → all_said of (take (i + 1) es) place ≡ all_said of (take i es) place ++ cons_option (said_of of place e) []
  content-next place =
      ap (λ l. filter_map (said_of of place) l) (take_more es i d inside) ∙ filter_map-append (said_of of place) (take i es) (get_or es i d ∷ [])
      ∙ ap (λ x. all_said of (take i es) place ++ cons_option (said_of of place x) []) (sym at)

  content-here : e.place < count → get_or (lists_of new) e.place [] ≡ all_said of (take (i + 1) es) e.place
  content-here h =
      let is : said_of of e.place e ≡ o = cond-true (eqb e.place e.place) (of e.content) None (eq-eqb e.place e.place refl) ∙ sym content in
      let below : e.place < length (lists_of old) = omega (arith, h, before.count_is, lists-count old) in
      ap (λ l. get_or l e.place []) keeps ∙ get_or-set_same (lists_of old) e.place (get_or (lists_of old) e.place [] ++ cons_option o []) [] below
      ∙ ap (λ l. l ++ cons_option o []) (before.each e.place h) ∙ ap (λ p. all_said of (take i es) e.place ++ cons_option p []) (sym is) ∙ sym (content-next e.place)

  content-elsewhere : (place : ℕ) → place < count → (e.place ≡ place → ⊥) → eqb e.place place ≡ false → get_or (lists_of new) place [] ≡ all_said of (take (i + 1) es) place
  content-elsewhere place h other differs =
      let is : said_of of place e ≡ None = cond-false (eqb e.place place) (of e.content) None differs in
      ap (λ l. get_or l place []) keeps ∙ get_or-set_other (lists_of old) e.place place (get_or (lists_of old) e.place [] ++ cons_option o []) [] (λ same. other (sym same))
      ∙ before.each place h ∙ sym (append-nil (all_said of (take i es) place)) ∙ ap (λ p. all_said of (take i es) place ++ cons_option p []) (sym is) ∙ sym (content-next place)

  content-at : (place : ℕ) → place < count → get_or (lists_of new) place [] ≡ all_said of (take (i + 1) es) place
  content-at place h = elim (eqb_tells e.place place) [
    | inl same ↦ subst (λ k. get_or (lists_of new) k [] ≡ all_said of (take (i + 1) es) k) same.1 (content-here (subst (λ k. k < count) (sym same.1) h))
    | inr other ↦ content-elsewhere place h other.1 other.0
  ]

  pub content-more : HasAllSaid of (take (i + 1) es) count new
  content-more = record {
    count_is = sym (lists-count new) ∙ ap length keeps ∙ length-set (lists_of old) e.place (get_or (lists_of old) e.place [] ++ cons_option o []) ∙ lists-count old ∙ before.count_is;
    each = content-at;
  }

-- all records
pub content-all : {X Z : Type 0} (of : StateRecord → Option X) (es : List Entry) (count i : ℕ) (all : List (Vec X Z)) → length es ≤ i → HasAllSaid of (take i es) count all → HasAllSaid of es count all
content-all of es count i all end so_far = subst (λ l. HasAllSaid of l count all) (take_all i es end) so_far

-- the list of a place
pub content-there : {X Z : Type 0} (of : StateRecord → Option X) (es : List Entry) (count : ℕ) (all lent : List (Vec X Z)) (place : ℕ) (list : List X) → HasAllSaid of es count all → place < count → lent ≡ all → list ≡ get_or (lists_of lent) place [] → list ≡ all_said of es place
content-there of es count all lent place list so h same is = is ∙ ap (λ l. get_or (lists_of l) place []) same ∙ so.each place h

-- a fact of one number more
pub each-below : (P : ℕ → Type 0) (n : ℕ) → ((k : ℕ) → k < n → P k) → P n → (k : ℕ) → k < n + 1 → P k
each-below P n before here k h = elim (cases_lt k n) [ inl less ↦ before k less | inr more ↦ (let at : n ≡ k = omega (arith, h, more) in subst P at here) ]
