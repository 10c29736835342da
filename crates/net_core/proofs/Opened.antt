-- How many actors want something.
use Rattle.std.proofs.Common.{◌≡◌, ◌≢◌, ℕ, zero, suc, ◌+◌, ◌<◌, cond, List, [], ◌∷◌, length, get_or, refl, sym, ap, ◌∙◌, arith, get_or-set_same}
use Rattle.std.proofs.lemmas.List.Sums.{sum_by-cons, sum_by-set}
use Rattle.intersection_actor.specs.Acting.{Acting}
use Rattle.intersection_actor.specs.declared.records.Want.{Want}
use Rattle.intersection_actor.specs.declared.records.Want.TheVariants.{Read, Commit, Publish, Done}
use Rattle.net_core.specs.States.{AllDone, HasChanged, IsOpen, is_busy, busy_count}

-- one where something is wanted
abbrev pub busy_of : Want → ℕ
busy_of want = cond (is_busy want) 1 0

pub busy-more : (want : Want) → (want ≡ Done → ⊥) → busy_of want ≡ 1
busy-more (Read link) more = refl
busy-more Commit more = refl
busy-more (Publish link) more = refl
busy-more Done more = absurd (more refl)

busy-done : (want : Want) → busy_of want ≡ 0 → want ≡ Done
busy-done Done none = refl
busy-done (Read link) none = absurd (omega (arith, none))
busy-done Commit none = absurd (omega (arith, none))
busy-done (Publish link) none = absurd (omega (arith, none))

count-cons : (a : Acting) (actors : List Acting) → busy_count (a ∷ actors) ≡ busy_of a.want + busy_count actors
count-cons a actors = sum_by-cons (λ (a : Acting). busy_of a.want) a actors

-- where none does, each is done
pub all-closed : (actors : List Acting) → busy_count actors ≡ 0 → AllDone actors
all-closed [] none k d inside = absurd (omega arith)
all-closed (a ∷ actors) none zero d inside = busy-done a.want (omega (arith, none, count-cons a actors))
all-closed (a ∷ actors) none (suc k) d inside = all-closed actors (omega (arith, none, count-cons a actors)) k d (omega arith)

-- the first one that wants something, or one after it
first-open : (a : Acting) (actors : List Acting) (want : Want) → a.want ≡ want → (busy_of a.want ≡ 0 → IsOpen actors) → IsOpen (a ∷ actors)
first-open a actors (Read link) e rest = record { node = 0; there = omega arith; wants = λ d done. let f : Read link ≡ Done = sym e ∙ done in cc }
first-open a actors Commit e rest = record { node = 0; there = omega arith; wants = λ d done. let f : Commit ≡ Done = sym e ∙ done in cc }
first-open a actors (Publish link) e rest = record { node = 0; there = omega arith; wants = λ d done. let f : Publish link ≡ Done = sym e ∙ done in cc }
first-open a actors Done e rest =
    let other = rest (ap busy_of e) in
    record { node = suc other.node; there = (let inside = other.there in omega arith); wants = λ d. other.wants d }

-- where some do, one does
pub some-open : (actors : List Acting) → busy_count actors ≢ 0 → IsOpen actors
some-open [] more = absurd (more refl)
some-open (a ∷ actors) more = first-open a actors a.want refl (λ none. some-open actors (λ empty. more (omega (arith, none, empty, count-cons a actors))))

-- where one does, the count is no 0
pub count-some : (actors : List Acting) (n : ℕ) → n < length actors → ((d : Acting) → (get_or actors n d).want ≢ Done) → 0 < busy_count actors
count-some [] n inside more = absurd (omega arith)
count-some (a ∷ actors) zero inside more = omega (arith, busy-more a.want (more a), count-cons a actors)
count-some (a ∷ actors) (suc n) inside more = omega (arith, count-some actors n (omega arith) more, count-cons a actors)

-- one that wanted something has changed
pub count-changed : (old new : List Acting) (n : ℕ) → n < length old → ((d : Acting) → (get_or old n d).want ≢ Done) → HasChanged n old new → (a : Acting) → a ≡ get_or new n a → busy_count new + 1 ≡ busy_count old + busy_of a.want
count-changed old new n inside more (actor, e) a is =
    let f : Acting → ℕ = λ (a : Acting). busy_of a.want in
    let same : a ≡ actor = is ∙ ap (λ l. get_or l n a) e ∙ get_or-set_same old n actor a inside in
    omega (arith, ap busy_count e, sum_by-set f old n actor a inside, busy-more (get_or old n a).want (more a), ap f same)
