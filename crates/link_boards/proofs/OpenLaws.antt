-- The rule holds of boards that are made.
use Rattle.board_model.specs.declared.boards.BoardEvent.{BoardEvent}
use Rattle.std.proofs.Common.{◌≡◌, ℕ, zero, suc, ◌+◌, ◌-◌, ◌<◌, ◌≤◌, List, [], ◌∷◌, ◌++◌, map, length, get_or, replicate, take, sym, refl, ap, ◌∙◌, subst, arith}
use Rattle.std.specs.Prelude.{Option, Some, None, All, IfSome, slice_get}
use Rattle.std.specs.List.{range_with_len, sum}
use Rattle.std.proofs.lemmas.List.FromFn.{length-map-range_with_len, map-range_with_len_more}
use Rattle.std.proofs.lemmas.List.Sums.{sum_by_more, sum_by_more_le}
use Rattle.std.proofs.lemmas.Option.{none-some}
use Rattle.std.proofs.lemmas.List.{length-replicate, get_or-replicate}
use Rattle.std.proofs.lemmas.List.Elements.{All-cons, All-nil, All-tail}
use mathlib.Core.Option.{some, some-injective, some-ne-none}
use lib.ListN.{get_elem?}
use Rattle.atomic_table.specs.Table.{opening}
use Rattle.board_model.specs.Boards.{IsLegal}
use Rattle.link_boards.specs.declared.views.Terms.{Terms}
use Rattle.link_boards.specs.declared.views.View.{View}
use Rattle.link_boards.specs.Views.{calls_of, entry, first_view}
use Rattle.atomic_table.specs.Seated.{TableId}
use Rattle.link_boards.specs.Passes.{BoardsView, PassView, AreAllPasses, fresh_at, fresh_passes}
use Rattle.link_boards.specs.Gathered.{pass_view}
use Rattle.link_boards.proofs.CloseLaws.{all-if, some-weaker}
use Rattle.board_model.specs.Calls.{Agrees}
use Rattle.link_boards.specs.Rule.{Owns, IsSeated, Holds}
use Rattle.link_boards.proofs.Lists.{changed, changed-else}

no-log : IsLegal []
no-log = record { rising = λ k inside. absurd (omega arith); reads = λ k. tt }

only-first : (v u : View) (j : ℕ) → get_elem? (v ∷ []) j ≡ some u → (j ≡ 0) × (v ≡ u)
only-first v u zero e = (refl, some-injective v u e)
only-first v u (suc j) e = absurd (some-ne-none u (sym e))

module _ {S : Type 0} (stands : S → List BoardEvent → Type 0) where
  -- a slot that is at home
  at-home : (slots : List S) (l : ℕ) → All (λ slot. stands slot []) slots → l < length slots → (slot : S) × (get_elem? (map some slots) l ≡ some (some slot)) × stands slot []
  at-home [] l all within = absurd (omega arith)
  at-home (x ∷ xs) zero all within = (x, refl, all 0 x (omega arith))
  at-home (x ∷ xs) (suc l) all within = at-home xs l (All-tail (λ (slot : S). stands slot []) x xs all) (omega arith)

  length-homes : (slots : List S) → length (map some slots) ≡ length slots
  length-homes [] = refl
  length-homes (x ∷ xs) = ap suc (length-homes xs)

  pub opens : (terms : Terms) (words : List ℕ) (slots : List S) → 1 ≤ terms.passes → words ≡ replicate (length slots + 1) 0 → All (λ slot. stands slot []) slots → Holds stands terms (opening words slots (first_view terms))
  opens terms words slots some-pass zeros empty =
      let word-is : (i : ℕ) → i < length slots + 1 → get_or words i 0 ≡ 0 = λ i within. ap (λ ws. get_or ws i 0) zeros ∙ get_or-replicate (length slots + 1) i 0 0 within in
      let owner : ℕ → Option ℕ = changed (λ _. None) 0 (Some 0) in record {
        logs = λ _. [];
        owner = owner;
        history = λ _. [];
        unmade = λ n past. (changed-else (λ _. None) 0 (Some 0) n (λ e. omega arith), refl);
        unlinked = λ l past. refl;
        wide = ap length zeros ∙ length-replicate (length slots + 1) 0 ∙ ap (λ (k : ℕ). k + 1) (sym (length-homes slots));
        counted = let z = word-is 0 (omega arith) in omega arith;
        seats = λ j u there. let only = only-first (first_view terms) u j there in
            subst (λ (z : ℕ × View). IsSeated terms words (λ _. []) owner (λ _. []) z.0 z.1) (λ i. (sym only.0 i, only.1 i)) record {
              known = omega arith;
              owns = All-cons (Owns owner (λ _. []) 0) (entry 0 []) [] (refl, refl) (All-nil (Owns owner (λ _. []) 0));
              flies = λ f is. absurd (none-some f is);
              deals = λ _. record { first = refl; most = some-pass; unmade = λ n past. (changed-else (λ _. None) 0 (Some 0) n (λ e. omega arith), refl) };
            };
        links = λ l within. let inside : l < length slots = subst (λ k. l < k) (length-homes slots) within in record {
          free = λ _. at-home slots l empty inside;
          taken = λ nz. absurd (nz (word-is (l + 1) (omega arith)));
        };
        logged = λ l. record {
          legal = no-log;
          below = All-nil (λ e. e.stamp < get_or words 0 0);
          tied = λ n. refl;
          agrees = λ n. All-nil (Agrees []);
        };
      }

-- the fresh passes have the numbers from the first one on
fresh-each : (id : TableId) (calls : List ℕ) (from count k n : ℕ) → from + k ≡ n → IfSome (slice_get (map (fresh_at id calls) (range_with_len from count)) k) (λ p. (p.boards ≡ id) × (p.number ≡ n))
fresh-each id calls from zero k n there = tt
fresh-each id calls from (suc count) zero n there = let same : from ≡ n = omega arith in (refl, same)
fresh-each id calls from (suc count) (suc k) n there = fresh-each id calls (from + 1) count k n (omega arith)

-- they are all passes of boards that have this many
pub fresh-all : (boards : BoardsView) (calls : List ℕ) → boards.passes ≡ length calls → AreAllPasses boards (fresh_passes boards.id calls)
fresh-all boards calls many = record {
  count = length-map-range_with_len (fresh_at boards.id calls) 0 (length calls) ∙ sym many;
  each = λ k. fresh-each boards.id calls 0 (length calls) k k (omega arith);
}

-- one fresh pass more after the others
pub fresh-next : (id : TableId) (calls : List ℕ) (k : ℕ) (old new : List PassView) (q : PassView) → 1 ≤ k → new ≡ old ++ q ∷ [] → old ≡ map (fresh_at id calls) (range_with_len 1 (k - 1)) → q ≡ fresh_at id calls k
    → new ≡ map (fresh_at id calls) (range_with_len 1 ((k + 1) - 1))
fresh-next id calls k old new q one more is next = let places : (k - 1) + 1 ≡ (k + 1) - 1 = omega arith in
    more ∙ ap (λ l. l ++ q ∷ []) is ∙ ap (λ p. map (fresh_at id calls) (range_with_len 1 (k - 1)) ++ p ∷ []) next
    ∙ sym (map-range_with_len_more (fresh_at id calls) 1 (k - 1) k (omega arith)) ∙ ap (λ n. map (fresh_at id calls) (range_with_len 1 n)) places

-- the pass of the seat that made the others is the first of the fresh passes
pub fresh-first : (id seat_id : TableId) (calls : List ℕ) (others : ℕ) (all rest : List PassView) (v : View) → all ≡ pass_view seat_id v 0 (get_or calls 0 0) ∷ rest → others + 1 ≡ length calls → seat_id ≡ id → v.known ≡ 0 → v.entries ≡ entry 0 [] ∷ []
    → rest ≡ map (fresh_at id calls) (range_with_len 1 others) → all ≡ fresh_passes id calls
fresh-first id seat_id calls others all rest v whole many of unknown own is = let count : suc others ≡ length calls = omega arith in
    whole ∙ (λ i. record { boards = of i; number = 0; left = get_or calls 0 0; known = unknown i; calls = calls_of (own i) } ∷ is i) ∙ ap (λ (n : ℕ). map (fresh_at id calls) (range_with_len 0 n)) count

-- the calls of the first pass are those at the first place
pub sum-first : (calls : List ℕ) → 1 ≤ length calls → sum (take 1 calls) ≡ get_or calls 0 0
sum-first [] none = absurd (omega arith)
sum-first (x ∷ xs) any = let all : 0 + x ≡ x = omega arith in all

-- the calls of the first passes, with those of the next one
pub sum-next : (calls : List ℕ) (k : ℕ) → k < length calls → sum (take (k + 1) calls) ≡ sum (take k calls) + get_or calls k 0
sum-next calls k within = sum_by_more (λ x. x) calls k 0 within

pub sum-within : (calls : List ℕ) (k : ℕ) → k < length calls → sum (take k calls) + get_or calls k 0 ≤ sum calls
sum-within calls k within = sum_by_more_le (λ x. x) calls k 0 within

-- all passes of the boards are of the boards
pub all-of-boards : (boards : BoardsView) (passes : List PassView) → AreAllPasses boards passes → All (λ p. p.boards ≡ boards.id) passes
all-of-boards boards passes all = all-if (λ p. p.boards ≡ boards.id) passes (λ k. some-weaker (slice_get passes k) (λ p. (p.boards ≡ boards.id) × (p.number ≡ k)) (λ p. p.boards ≡ boards.id) (all.each k) (λ p t. t.0))
