-- The fields of a record, one after another.
use Rattle.std.proofs.Common.{Bor, ◌≡◌, ◌≢◌, ℕ, ◌+◌, ◌<◌, ◌≤◌, Bool, true, false, List, [], length, get_or, map, not, Some, refl, sym, ap, ◌∙◌, inl, inr, arith}
use Rattle.std.specs.Str.{bytes_eq}
use Rattle.std.proofs.lemmas.Bool.{cases_eq, true≢false}
use Rattle.std.proofs.lemmas.List.{get_or-map, get_or_default, length-map, same_lists}
use Rattle.std.proofs.lemmas.Slice.Eq.{bytes_eq-Decides}
use Rattle.csv.specs.Records.{field_at}
use Rattle.csv.proofs.RecordFacts.{field-get}

-- bytes that were compared
pub same-bytes : (a b : List ℕ) → false ≡ not (bytes_eq a b) → a ≡ b
same-bytes a b same = by (bytes_eq a b) refl same
  where
    by : (t : Bool) → bytes_eq a b ≡ t → false ≡ not t → a ≡ b
    by true e h = (bytes_eq-Decides a b).0 e
    by false e h = absurd (true≢false (sym h))

pub other-bytes : (a b : List ℕ) → true ≡ not (bytes_eq a b) → a ≢ b
other-bytes a b other same = true≢false (other ∙ ap not ((bytes_eq-Decides a b).1 same))

-- the fields of a list
abbrev listed : List (Bor (List ℕ)) → List (List ℕ)
listed fields = map (λ (f : Bor (List ℕ)). f.now) fields

module _ (fs : List (List ℕ)) (fields : List (Bor (List ℕ))) (n : ℕ) where
  module _ (f : List ℕ) (d : Bor (List ℕ)) (inside : n < length fields) (here : Some f ≡ field_at fs n) where
    -- the field of the list at this place
    at-list : get_or (listed fields) n [] ≡ (get_or fields n d).now
    at-list = get_or-map (λ (f : Bor (List ℕ)). f.now) fields n d [] inside

    -- one field more is the same
    pub same-more : false ≡ not (bytes_eq f (get_or fields n d).now) → ((k : ℕ) → k < n → get_or fs k [] ≡ get_or (listed fields) k []) → (k : ℕ) → k < n + 1 → get_or fs k [] ≡ get_or (listed fields) k []
    same-more same each k h = elim (cases_eq k n) [
      | inl e ↦ ap (λ j. get_or fs j []) e ∙ field-get fs n f (sym here) ∙ same-bytes f (get_or fields n d).now same ∙ sym at-list ∙ ap (λ j. get_or (listed fields) j []) (sym e)
      | inr other ↦ each k (omega (arith, h, other))
    ]

    -- or another
    pub other-here : true ≡ not (bytes_eq f (get_or fields n d).now) → fs ≢ listed fields
    other-here other same = other-bytes f (get_or fields n d).now other (sym (field-get fs n f (sym here)) ∙ ap (λ l. get_or l n []) same ∙ at-list)

  -- all fields are the same
  pub all-same : length fs ≡ length fields → length fields ≤ n → ((k : ℕ) → k < n → get_or fs k [] ≡ get_or (listed fields) k []) → fs ≡ listed fields
  all-same count most each =
      let long : length (listed fields) ≡ length fields = length-map fields (λ (f : Bor (List ℕ)). f.now) in
      same_lists fs (listed fields) (omega (arith, count, long)) (λ k d h. get_or_default fs k d [] h ∙ each k (omega (arith, h, count, most)) ∙ get_or_default (listed fields) k [] d (omega (arith, h, count, long)))
