-- Names of which no two are the same.
use Rattle.std.proofs.Common.{◌≡◌, ◌≢◌, ℕ, ◌+◌, ◌<◌, Bool, true, false, not, List, [], ◌∷◌, ◌++◌, length, get_or, take, map, if◌then◌else◌, Option, Some, None, is_none, refl, ap, ◌∙◌, sym, arith, length-take, IsNone, IfSome, Contains, slice_get, ◌↔◌}
use Rattle.std.proofs.lemmas.Bool.{true≢false}
use Rattle.std.proofs.lemmas.List.{get_or-take, get_or-map, length-map, take-map, map_more}
use Rattle.std.proofs.lemmas.List.Quantifiers.{all_pairs_push, position-Some}
use Rattle.std.proofs.lemmas.Slice.Eq.{bytes_eq-Decides}
use Rattle.std.proofs.lemmas.Option.{slice_get-get_or, slice_get_read, slice_get_within, get_or_from_slice_get}
use Rattle.std.specs.Str.{bytes_eq}
use Rattle.foundation.specs.Firsts.{FromOne}
use Rattle.foundation.proofs.FirstLaws.{FromOne-at}
use Rattle.net_parts.specs.FirstFaults.{IsFirstTwice}
use Rattle.net_parts.specs.Numbers.{AreDistinct, number_of}
use Rattle.net_parts.proofs.Known.{number_of-known}
use Rattle.foundation.proofs.PositionLaws.{list_any-at, list_any-position}

-- a name that has no number yet is a new one
pub AreDistinct-push : (names : List (List ℕ)) (name : List ℕ) → AreDistinct names → is_none (number_of names name) ≡ true → AreDistinct (names ++ name ∷ [])
AreDistinct-push names name differ new =
    all_pairs_push (λ a b. a ≢ b) names name differ
    (λ k d h same.
    let found = list_any-at (bytes_eq name) names k d h ((bytes_eq-Decides name (get_or names k d)).1 (sym same)) in
    true≢false (sym new ∙ ap not (sym (list_any-position (bytes_eq name) names) ∙ found)))

-- a name that is not new is among the names
Contains-old : (names : List (List ℕ)) (name : List ℕ) → is_none (number_of names name) ≡ false → Contains names name
Contains-old names name old = by (number_of names name) refl old
  where
    by : (o : Option ℕ) → number_of names name ≡ o → is_none o ≡ false → Contains names name
    by None e none = absurd (true≢false none)
    by (Some k) e none = number_of-known names name k e

-- where a name stands before its own place, not all names differ
pub IsFirstTwice-not : (names : List (List ℕ)) (index : ℕ) → IsFirstTwice names index → AreDistinct names → ⊥
IsFirstTwice-not names index first differ =
    let (k, within, same) = first.again in
    let below : k < index = omega (arith, length-take index names) in
    let there = get_or_from_slice_get names index first.name first.name first.there in
    differ k index first.name below (slice_get_within names index first.name first.there)
    (sym (get_or-take index names k first.name below) ∙ same ∙ sym there)

-- a loop over elements with names: the element at i, after the names of those before it
module _ {X : Type 0} (f : X → List ℕ) (xs : List X) (i : ℕ) (x : X) (h : i < length xs) (at : x ≡ get_or xs i x) (names : List (List ℕ)) (name : List ℕ) (added : Bool)
    (same : names ≡ map f (take i xs)) (its : name ≡ f x) (tells : added ≡ is_none (number_of names name)) where
  pub names-twice : (number : ℕ) → number ≡ i + 1 → added ≡ false → AreDistinct names → FromOne (IsFirstTwice (map f xs)) number
  names-twice number is old differ =
      let inside : i < length (map f xs) = simp length-map h in
      let here : name ≡ get_or (map f xs) i name = its ∙ ap f at ∙ sym (get_or-map f xs i x name h) in
      let earlier : take i (map f xs) ≡ names = rw (take-map f i xs, ← same) refl in
      FromOne-at (IsFirstTwice (map f xs)) i number is (record {
        name = name;
        there = slice_get_read (map f xs) (length (map f xs)) i name refl inside here;
        before = rw earlier differ;
        again = rw earlier (Contains-old names name (sym tells ∙ old));
      })

  pub names-more : (new : List (List ℕ)) → added ≡ true → new ≡ (if added then names ++ name ∷ [] else names) → AreDistinct names → (new ≡ map f (take (i + 1) xs)) × AreDistinct new
  names-more new fresh is differ =
      let pushed : new ≡ names ++ name ∷ [] = is ∙ ap (λ b. if b then names ++ name ∷ [] else names) fresh in
      (pushed ∙ rw (map_more f xs i x h, ← at, ← its, ← same), rw pushed (AreDistinct-push names name differ (sym tells ∙ fresh)))

-- a name has a number where it is there
pub number_of-found : (names : List (List ℕ)) (name : List ℕ) → IfSome (number_of names name) (λ n. slice_get names n ≡ Some name)
number_of-found names name = by (number_of names name) refl
  where
    by : (o : Option ℕ) → number_of names name ≡ o → IfSome o (λ n. slice_get names n ≡ Some name)
    by None is = tt
    by (Some n) is =
        let (within, passes, _) = position-Some (bytes_eq name) names n [] is in
        slice_get-get_or names n [] within ∙ ap Some (sym ((bytes_eq-Decides name (get_or names n [])).0 passes))

-- and none where it is not
pub number_of-none : (names : List (List ℕ)) (name : List ℕ) → IsNone (number_of names name) ↔ ¬ Contains names name
number_of-none names name = (none, by (number_of names name) refl)
  where
    none : IsNone (number_of names name) → Contains names name → ⊥
    none is (k, within, same) =
        let found = list_any-at (bytes_eq name) names k name within ((bytes_eq-Decides name (get_or names k name)).1 (sym same)) in
        true≢false (sym found ∙ list_any-position (bytes_eq name) names ∙ is)

    by : (o : Option ℕ) → number_of names name ≡ o → (Contains names name → ⊥) → IsNone o
    by None is absent = refl
    by (Some n) is absent =
        let (within, passes, _) = position-Some (bytes_eq name) names n name is in
        absurd (absent (n, within, sym ((bytes_eq-Decides name (get_or names n name)).0 passes)))

pub number_of-unknown : (names : List (List ℕ)) (name : List ℕ) → number_of names name ≡ None → Contains names name → ⊥
number_of-unknown names name none = (number_of-none names name).0 (rw none refl)
