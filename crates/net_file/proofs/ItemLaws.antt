-- The items of an array that is made one value after another.
use Rattle.std.proofs.Common.{◌≡◌, ℕ, zero, suc, ◌+◌, ◌<◌, ◌≤◌, List, [], ◌∷◌, ◌++◌, length, get_or, take, All, Option, Some, refl, ap, ◌∙◌, sym, subst, arith, Bool, false, ◌==◌}
use Rattle.std.proofs.lemmas.Bool.{true≢false}
use Rattle.std.proofs.lemmas.List.{take_more, take_all}
use Rattle.std.proofs.lemmas.List.Elements.{All-head, All-tail}
use Rattle.foundation.proofs.ListLaws.{All-middle}
use Rattle.toml.specs.Data.{Data, Items, no_items, item, Members, push_item, string, as_str, depth, items_depth}
use Rattle.toml.specs.View.{view, items_view}
use Rattle.toml.specs.declared.value.Value.{Value}
use Rattle.toml.proofs.Views.{items_view-push}
use Rattle.foundation.proofs.EachLaws.{each-push}
use Rattle.net_tables.specs.Table.{list_of}
use Rattle.net_file.specs.Written.{IsDataOf, AreItemsOf, HasItems, HasItemsIfAny, Always, text_in}

list_of-push : (ds : Items) (d : Data) → list_of (push_item ds d) ≡ list_of ds ++ d ∷ []
list_of-push no_items d = refl
list_of-push (item e ds) d = ap (λ es. e ∷ es) (list_of-push ds d)

items_depth-push : (deep : ℕ) (ds : Items) (d : Data) → items_depth ds ≤ deep → depth d ≤ deep → items_depth (push_item ds d) ≤ deep
items_depth-push deep no_items d most here = omega arith
items_depth-push deep (item e ds) d most here =
    let more : items_depth (push_item ds d) ≤ deep = items_depth-push deep ds d (omega arith) here in
    omega arith

All-front : {X : Type 0} (P : X → Type 0) (xs : List X) (y : X) → All P (xs ++ y ∷ []) → All P xs
All-front P [] y all k d h = absurd (omega arith)
All-front P (x ∷ xs) y all zero d h = All-head P x (xs ++ y ∷ []) all
All-front P (x ∷ xs) y all (suc k) d h = All-front P xs y (All-tail P x (xs ++ y ∷ []) all) k d (omega arith)

module _ {X : Type 0} (f : ℕ → Data → Option X) (says : ℕ → X → Type 0) (deep : ℕ) where
  -- none yet
  pub items-none : (xs : List X) → AreItemsOf f says deep (items_view []) (take 0 xs)
  items-none xs = record { read = λ version all. refl; depth = omega arith }

  -- one more
  pub items-more : (vs : List Value) (v : Value) (xs : List X) (i : ℕ) (x : X) → i < length xs → x ≡ get_or xs i x → AreItemsOf f says deep (items_view vs) (take i xs) → IsDataOf f says deep (view v) x → AreItemsOf f says deep (items_view (vs ++ v ∷ [])) (take (i + 1) xs)
  items-more vs v xs i x h at are is =
      let more : AreItemsOf f says deep (push_item (items_view vs) (view v)) (take i xs ++ x ∷ []) = record {
        read = λ version all. rw (list_of-push (items_view vs) (view v)) (each-push (f version) (list_of (items_view vs)) (view v) (take i xs) x (are.read version (All-front (says version) (take i xs) x all)) (is.read version (All-middle (says version) (take i xs) [] x all)));
        depth = items_depth-push deep (items_view vs) (view v) are.depth is.depth;
      } in
      let whole : take i xs ++ x ∷ [] ≡ take (i + 1) xs = ap (λ y. take i xs ++ y ∷ []) at ∙ sym (take_more xs i x h) in
      subst (λ ds. AreItemsOf f says deep ds (take (i + 1) xs)) (sym (items_view-push vs v)) (subst (AreItemsOf f says deep (push_item (items_view vs) (view v))) whole more)

  -- all of them
  pub items-all : (ds : Items) (xs : List X) (i : ℕ) → length xs ≤ i → AreItemsOf f says deep ds (take i xs) → AreItemsOf f says deep ds xs
  items-all ds xs i h are = subst (AreItemsOf f says deep ds) (take_all i xs h) are

-- a text as a value
pub text-data : (d : Data) (text : List ℕ) → d ≡ string text → IsDataOf text_in Always 0 d text
text-data d text is = record { read = λ version all. ap as_str is; depth = rw is (omega arith) }

-- an array that is there is one that may be absent
pub if-any : {X : Type 0} {f : ℕ → Data → Option X} {says : ℕ → X → Type 0} {deep : ℕ} {key : List ℕ} {xs : List X} {old new : Members} → (xs ≡ [] → ⊥) → HasItems f says deep key xs old new → HasItemsIfAny f says deep key xs old new
if-any some has = record { items = Some has.items; are = has.are; none = λ e. absurd (some e); is = has.is }

-- a list that is not empty, by the test of its slice
pub not-empty : {X : Type 0} (xs ys : List X) → ys ≡ xs → {b : Bool} → b ≡ (length ys == 0) → b ≡ false → xs ≡ [] → ⊥
not-empty xs ys same value filled none = true≢false (sym (rw (same, none) at value) ∙ filled)
