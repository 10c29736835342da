-- Tasks that change place by place.
use Rattle.std.proofs.Common.{◌≡◌, ℕ, zero, suc, ◌+◌, ◌<◌, ◌≤◌, List, [], ◌∷◌, ◌++◌, All, length, map, get_or, set, refl, sym, ap, subst, ◌∙◌, inl, inr, arith, length-set}
use Rattle.std.proofs.lemmas.Bool.{cases_eq}
use Rattle.std.proofs.lemmas.List.{get_or-map, get_or-set_same, get_or-set_other, length-map, map-append, map-set}
use Rattle.std.proofs.lemmas.List.Elements.{All-append}
use Rattle.std.proofs.Math.Seq.{map-set_same}
use Rattle.atomic_table.specs.Seated.{TableId}
use Rattle.link_boards.specs.Passes.{BoardsView, PassView}
use Rattle.net_parts.specs.Numbers.{Net}
use Rattle.node_rounds.specs.Rounds.{AreSamePasses, names}
use Rattle.net_threads.specs.Tasks.{AreEach, AreFirst, AreTasksOf, IsSameTask, actor_of, actors_in, pass_of, passes_in, settings_in}
use Rattle.net_threads.specs.declared.node_tasks.NodeTask.{NodeTask}

-- some element of a list that has one
pub some-of : {X : Type 0} (xs : List X) (k : ℕ) → k < length xs → X
some-of [] k inside = absurd (omega arith)
some-of (x ∷ xs) k inside = x

All-one : {X : Type 0} (Q : X → Type 0) (x : X) → Q x → All Q (x ∷ [])
All-one Q x q zero d inside = q
All-one Q x q (suc k) d inside = absurd (omega (arith, inside))

-- two lists of which a function gives the same at each place
pub map-same : {X Y : Type 0} (f : X → Y) (old new : List X) → length new ≡ length old → ((k : ℕ) (s t : X) → k < length old → f (get_or new k t) ≡ f (get_or old k s)) → map f new ≡ map f old
map-same f [] [] count each = refl
map-same f [] (y ∷ new) count each = absurd (omega (arith, count))
map-same f (x ∷ old) [] count each = absurd (omega (arith, count))
map-same f (x ∷ old) (y ∷ new) count each = λ i. each 0 x y (omega arith) i ∷ map-same f old new (omega (arith, count)) (λ k s t inside. each (suc k) s t (omega (arith, inside))) i

module _ {P S G Ready : Type 0} where
  abbrev pub setting_of : NodeTask P S G Ready → Net × BoardsView
  setting_of task = (task.setting.net.now, task.setting.boards.now)

  abbrev pub name_of : NodeTask P S G Ready → TableId × ℕ
  name_of task = ((pass_of task).boards, (pass_of task).number)

  pub names-in : (tasks : List (NodeTask P S G Ready)) → names (passes_in tasks) ≡ map name_of tasks
  names-in [] = refl
  names-in (t ∷ tasks) = ap (λ l. name_of t ∷ l) (names-in tasks)

  pub same-count : (old new : List (NodeTask P S G Ready)) → actors_in new ≡ actors_in old → length new ≡ length old
  same-count old new same = sym (length-map new actor_of) ∙ ap length same ∙ length-map old actor_of

  -- one task more
  pub of-more : (net : Net) (boards : BoardsView) (tasks : List (NodeTask P S G Ready)) (t : NodeTask P S G Ready) → AreTasksOf net boards tasks → (t.setting.net.now ≡ net) → (t.setting.boards.now ≡ boards) → AreTasksOf net boards (tasks ++ t ∷ [])
  of-more net boards tasks t of is at =
      subst (All (λ (s : Net × BoardsView). (s.0 ≡ net) × (s.1 ≡ boards))) (sym (map-append setting_of tasks (t ∷ [])))
      (All-append (λ (s : Net × BoardsView). (s.0 ≡ net) × (s.1 ≡ boards)) (settings_in tasks) (setting_of t ∷ []) of (All-one (λ (s : Net × BoardsView). (s.0 ≡ net) × (s.1 ≡ boards)) (setting_of t) (is, at)))

  -- where the task at a place, d, becomes t
  module _ (tasks : List (NodeTask P S G Ready)) (k : ℕ) (d t : NodeTask P S G Ready) (at : d ≡ get_or tasks k d) where
    pub same-settings : IsSameTask d t → settings_in (set tasks k t) ≡ settings_in tasks
    same-settings same = map-set_same setting_of tasks k t d ((λ i. ((same.net i).now, (same.boards i).now)) ∙ ap setting_of at)

    pub same-names : IsSameTask d t → AreSamePasses (passes_in tasks) (passes_in (set tasks k t))
    same-names same = names-in (set tasks k t) ∙ map-set_same name_of tasks k t d ((λ i. (same.pass.0 i, same.pass.1 i)) ∙ ap name_of at) ∙ sym (names-in tasks)

    pub kept-settings : t.setting ≡ d.setting → settings_in (set tasks k t) ≡ settings_in tasks
    kept-settings same = map-set_same setting_of tasks k t d ((λ i. ((same i).net.now, (same i).boards.now)) ∙ ap setting_of at)

    pub kept-actors : actor_of t ≡ actor_of d → actors_in (set tasks k t) ≡ actors_in tasks
    kept-actors same = map-set_same actor_of tasks k t d (same ∙ ap actor_of at)

    pub kept-passes : pass_of t ≡ pass_of d → passes_in (set tasks k t) ≡ passes_in tasks
    kept-passes same = map-set_same pass_of tasks k t d (same ∙ ap pass_of at)

    -- the pass at the place
    pub pass-at : k < length tasks → pass_of d ≡ get_or (passes_in tasks) k (pass_of d)
    pass-at inside = ap pass_of at ∙ sym (get_or-map pass_of tasks k d (pass_of d) inside)

    pub pass-set : (p : PassView) → pass_of t ≡ p → passes_in (set tasks k t) ≡ set (passes_in tasks) k p
    pass-set p is = map-set pass_of tasks k t ∙ ap (set (passes_in tasks) k) is

  module _ (Is : NodeTask P S G Ready → NodeTask P S G Ready → Type 0) where
    pub none-first : (tasks : List (NodeTask P S G Ready)) → AreFirst Is 0 tasks tasks
    none-first tasks = record { long = refl; done = λ k s t less inside. absurd (omega arith); rest = λ k s past. refl }

    pub first-more : (n : ℕ) (old now : List (NodeTask P S G Ready)) (t d : NodeTask P S G Ready) → AreFirst Is n old now → n < length old → Is (get_or old n d) t → AreFirst Is (n + 1) old (set now n t)
    first-more n old now t d first room is = record {
      long = length-set now n t ∙ first.long;
      done = λ k s u less inside. elim (cases_eq k n) [
        | inl here ↦
            let new : get_or (set now n t) k u ≡ t = ap (λ j. get_or (set now n t) j u) here ∙ get_or-set_same now n t u (omega (arith, first.long)) in
            let there : (e : NodeTask P S G Ready) → get_or old k s ≡ get_or old n e = λ e. ap (λ j. get_or old j s) here ∙ other old n s e room in
            subst (λ (z : NodeTask P S G Ready × NodeTask P S G Ready). Is z.0 z.1) (λ i. (sym (there d) i, sym new i)) is
        | inr off ↦
            subst (Is (get_or old k s)) (sym (get_or-set_other now n k t u off)) (first.done k s u (omega (arith, off, less)) inside)
      ];
      rest = λ k s past. get_or-set_other now n k t s (λ e. omega (arith, e, past)) ∙ first.rest k s (omega (arith, past));
    }
      where
        other : {X : Type 0} (xs : List X) (k : ℕ) (d e : X) → k < length xs → get_or xs k d ≡ get_or xs k e
        other [] k d e inside = absurd (omega arith)
        other (x ∷ xs) zero d e inside = refl
        other (x ∷ xs) (suc k) d e inside = other xs k d e (omega (arith, inside))

    pub each-done : (n : ℕ) (old now : List (NodeTask P S G Ready)) → length old ≤ n → AreFirst Is n old now → AreEach Is old now
    each-done n old now all first = record { count = first.long; each = λ k s t inside. first.done k s t (omega (arith, all, inside)) inside }
