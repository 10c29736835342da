-- Each step keeps the rule of what is shown.
use Rattle.std.proofs.Common.{◌≡◌, ◌≢◌, ℕ, zero, suc, ◌+◌, List, [], ◌∷◌, ◌++◌, length, fold, get_or, set, sym, refl, ap, ◌∙◌, subst, ⊎_elim, arith, append-nil}
use Rattle.std.specs.Prelude.{Result, Ok, Err, MatchResult}
use mathlib.Core.Option.{some, some-injective, some-ne-none}
use lib.ListN.{get_elem?}
use Rattle.left_right.specs.Register.{Admits, TurnsAt, Forks, Merges}
use Rattle.atomic_table.proofs.Lists.{at_set, at_snoc, set_again}
use Rattle.board_model.specs.declared.forecasts.Row.{Row}
use Rattle.snap_boards.specs.declared.newest.Newest.{Newest}
use Rattle.snap_boards.specs.Versions.{Begins, last_of, AreVersions, sees, shows}

abbrev AllVersions : Type 0
AllVersions = List (List Row)

none-left : {A : Type 0} (xs rest : List A) → length xs ≡ length (xs ++ rest) → xs ≡ xs ++ rest
none-left [] [] e = refl
none-left [] (y ∷ ys) e = absurd (omega arith)
none-left (x ∷ xs) rest e = ap (λ l. x ∷ l) (none-left xs rest (omega arith))

-- a beginning that is as long is all
pub whole : (v all : AllVersions) → Begins v all → length v ≡ length all → v ≡ all
whole v all b same = none-left v b.0 (same ∙ ap length (sym b.1)) ∙ b.1

append-assoc : {A : Type 0} (xs ys zs : List A) → (xs ++ ys) ++ zs ≡ xs ++ (ys ++ zs)
append-assoc [] ys zs = refl
append-assoc (x ∷ xs) ys zs = ap (λ l. x ∷ l) (append-assoc xs ys zs)

begins-more : (v all more : AllVersions) → Begins v all → Begins v (all ++ more)
begins-more v all more b = (b.0 ++ more, sym (append-assoc v b.0 more) ∙ ap (λ l. l ++ more) b.1)

end-of : {A : Type 0} (d f : A) (v : List A) → get_or (v ++ f ∷ []) (length v) d ≡ f
end-of d f [] = refl
end-of d f (x ∷ xs) = end-of d f xs

pub length-push : {A : Type 0} (v : List A) (f : A) → length (v ++ f ∷ []) ≡ length v + 1
length-push [] f = refl
length-push (x ∷ xs) f = let r : length (xs ++ f ∷ []) ≡ length xs + 1 = length-push xs f in omega arith

length-suc : {A : Type 0} (v : List A) (f : A) → length (v ++ f ∷ []) ≡ suc (length v)
length-suc [] f = refl
length-suc (x ∷ xs) f = ap suc (length-suc xs f)

pub last-push : (v : AllVersions) (f : List Row) → last_of (v ++ f ∷ []) ≡ f
last-push v f = ap (λ n. get_or ([] ∷ v ++ f ∷ []) n []) (length-suc v f) ∙ end-of [] f v

pub admits : Admits AreVersions []
admits x views h = record {
  told = h.told;
  number = h.number;
  last = h.last;
  known = λ seat v at. ⊎_elim (h.known seat v) (λ (e : [] ≡ v). subst (λ (z : AllVersions). Begins z h.told) e (h.told, refl)) (at_snoc views [] v seat at);
}

pub looks : (seat : ℕ) (v : AllVersions) (x : Newest) → TurnsAt AreVersions seat v x x sees
looks seat v x views h at = (
  v,
  subst (AreVersions x) (sym (set_again views seat v at)) h,
  (refl, λ same. h.last ∙ ap last_of (sym (whole v h.told (h.known seat v at) (same ∙ sym h.number)))),
)

pub goes-on : (seat : ℕ) (v : AllVersions) (x y : Newest) → length v ≡ x.version → y.version ≡ x.version + 1 → TurnsAt AreVersions seat v x y shows
goes-on seat v x y full next views h at = let w : AllVersions = v ++ y.forecast ∷ [] in let all : v ≡ h.told = whole v h.told (h.known seat v at) (full ∙ sym h.number) in (
  w,
  record {
    told = w;
    number = length-push v y.forecast ∙ ap (λ (n : ℕ). n + 1) full ∙ sym next;
    last = sym (last-push v y.forecast);
    known = λ j u e. ⊎_elim (λ (t : (j ≡ seat) × (w ≡ u)). subst (λ (z : AllVersions). Begins z w) t.1 ([], append-nil w))
        (λ (t : (j ≢ seat) × (get_elem? views j ≡ some u)). begins-more u v (y.forecast ∷ []) (subst (Begins u) (sym all) (h.known j u t.1)))
        (at_set views seat j w u e);
  },
  refl,
)

abbrev known-set : (x : Newest) (views : List AllVersions) (seat : ℕ) (w : AllVersions) (h : AreVersions x views) → Begins w h.told → AreVersions x (set views seat w)
known-set x views seat w h b = record {
  told = h.told;
  number = h.number;
  last = h.last;
  known = λ j u e. ⊎_elim (λ (t : (j ≡ seat) × (w ≡ u)). subst (λ (z : AllVersions). Begins z h.told) t.1 b) (λ (t : (j ≢ seat) × (get_elem? views j ≡ some u)). h.known j u t.1) (at_set views seat j w u e);
}

pub forks : (seat : ℕ) (v : AllVersions) → Forks AreVersions seat v v v
forks seat v x views h at = let s = known-set x views seat v h (h.known seat v at) in record {
  told = h.told;
  number = h.number;
  last = h.last;
  known = λ j u e. ⊎_elim (λ (t : get_elem? (set views seat v) j ≡ some u). s.known j u t) (λ (same : v ≡ u). subst (λ (z : AllVersions). Begins z h.told) same (h.known seat v at)) (at_snoc (set views seat v) v u j e);
}

pub merges : (seat : ℕ) (v : AllVersions) (other : ℕ) (w : AllVersions) → Merges AreVersions seat v other w w []
merges seat v other w x views h at apart there =
    let b : Begins w h.told = ⊎_elim (λ (t : (other ≡ seat) × (w ≡ w)). absurd (apart t.0)) (λ (t : (other ≢ seat) × (get_elem? views other ≡ some w)). h.known other w t.1) (at_set views seat other w w there) in
    known-set x (set views seat w) other [] (known-set x views seat w h b) (h.told, refl)

pub opens : (x : Newest) → x.version ≡ 0 → x.forecast ≡ [] → AreVersions x ([] ∷ [])
opens x none empty = record {
  told = [];
  number = sym none;
  last = empty;
  known = λ seat v at. begins-none seat v at;
}
  where
    begins-none : (seat : ℕ) (v : AllVersions) → get_elem? ([] ∷ []) seat ≡ some v → Begins v []
    begins-none zero v at = ([], append-nil v ∙ sym (some-injective [] v at))
    begins-none (suc seat) v at = absurd (some-ne-none v (sym at))

-- the last of the operations alone tells what is shown next
pub asked-last : (s : ℕ × List Row) (ops : List Newest) (op : Newest) → fold (λ (before : ℕ × List Row) (next : Newest). (next.version, next.forecast)) s (ops ++ op ∷ []) ≡ (op.version, op.forecast)
asked-last s [] op = refl
asked-last s (y ∷ ys) op = asked-last (y.version, y.forecast) ys op

-- what two clauses on a result tell together
pub both : {X Y : Type 0} (r : Result X Y) (A C P : X → Type 0) (B D Q : Y → Type 0) → MatchResult r A B → MatchResult r C D → ((x : X) → A x → C x → P x) → ((y : Y) → B y → D y → Q y) → MatchResult r P Q
both (Ok x) A C P B D Q a c f k = f x a c
both (Err y) A C P B D Q b d f k = k y b d

pub either-way : {X Y : Type 0} (r : Result X Y) (A C : X → Type 0) (B D : Y → Type 0) (P : Type 0) → MatchResult r A B → MatchResult r C D → ((x : X) → A x → C x → P) → ((y : Y) → B y → D y → P) → P
either-way (Ok x) A C B D P a c f k = f x a c
either-way (Err y) A C B D P b d f k = k y b d
