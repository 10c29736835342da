-- The lines of the first factors, and what refuses them.
use Rattle.std.proofs.Common.{◌≡◌, ℕ, ◌+◌, ◌-◌, ◌*◌, ◌/◌, ◌<◌, ◌≤◌, List, [], ◌∷◌, ◌++◌, map, sym, ap, ◌∙◌, subst, arith, append-nil, inl, inr}
use Rattle.std.specs.Prelude.{Contains}
use Rattle.std.specs.List.{AllZip, concat, range_with_len}
use Rattle.std.proofs.lemmas.Bool.{cases_lt}
use Rattle.std.proofs.lemmas.List.Folds.{concat-append}
use Rattle.std.proofs.lemmas.List.FromFn.{get_or-map-range_with_len, length-map-range_with_len, map-range_with_len_more}
use Rattle.net_parts.specs.Limits.{most_of_all}
use Rattle.outside_world.specs.Shelf.{ShelfState}
use Rattle.net_parts.specs.Numbers.{Net}
use Rattle.arrivals.specs.Scaling.{scaled_whole}
use Rattle.commands.specs.Meanings.{MissesNothing}
use Rattle.controller_jobs.specs.Controllers.{BringTooMuch, IsScaleLine, IsScaleTable, factors}
use Rattle.commands.specs.Ending.{Explains}
use Rattle.scene_jobs.specs.Kinds.{ArrivalsText, NetworkText}
use Rattle.commands.specs.Texts.{IsIn}
use Rattle.commands.specs.declared.refusals.Named.TheVariants.{Factor, Node, Round}
use Rattle.commands.specs.declared.refusals.Refusal.{Refusal}
use Rattle.commands.specs.declared.refusals.Refusal.TheVariants as refusal
use Rattle.controller_jobs.specs.Meanings.{scale_meaning}
use Rattle.controller_jobs.specs.Factors.{GainsScaleLine, RefusesFactor, RefusesFactors}

zip-push : {X Y : Type 0} (R : X → Y → Type 0) (xs : List X) (ys : List Y) (x : X) (y : Y) → AllZip R xs ys → R x y → AllZip R (xs ++ x ∷ []) (ys ++ y ∷ [])
zip-push R [] [] x y all is = (is, tt)
zip-push R [] (b ∷ ys) x y all is = absurd all
zip-push R (a ∷ xs) [] x y all is = absurd all
zip-push R (a ∷ xs) (b ∷ ys) x y all is = (all.0, zip-push R xs ys x y all.1 is)

module _ (net : Net) (arriving : ℕ → ℕ → ℕ) (first step : ℕ) where
  abbrev pub factor : ℕ → ℕ
  factor k = first + k * step

  -- the text is the lines of the first factors, by none of which too much enters
  pub record HasScaled (k : ℕ) (text : List ℕ) : Type 0 where
    pub lines : List (List ℕ)
    pub each : AllZip (IsScaleLine net arriving) (map factor (range_with_len 0 k)) lines
    pub are : text ≡ concat lines
    pub few : (j : ℕ) → j < k → scaled_whole net (factor j) arriving ≤ most_of_all

  pub scaled-none : (text : List ℕ) → text ≡ [] → HasScaled 0 text
  scaled-none text none = record { lines = []; each = tt; are = none; few = λ j below. absurd (omega (arith, below)) }

  pub scaled-more : (k f : ℕ) (old new : List ℕ) → f ≡ factor k → HasScaled k old → GainsScaleLine net arriving f old new → scaled_whole net f arriving ≤ most_of_all → HasScaled (k + 1) new
  scaled-more k f old new is so_far gains few = record {
    lines = so_far.lines ++ gains.line ∷ [];
    each = subst (λ (all : List ℕ). AllZip (IsScaleLine net arriving) all (so_far.lines ++ gains.line ∷ [])) (sym (map-range_with_len_more factor 0 k k (omega arith)))
        (zip-push (IsScaleLine net arriving) (map factor (range_with_len 0 k)) so_far.lines (factor k) gains.line so_far.each (subst (λ n. IsScaleLine net arriving n gains.line) is gains.is));
    are = gains.text ∙ ap (λ l. l ++ gains.line) so_far.are ∙ ap (λ l. concat so_far.lines ++ l) (sym (append-nil gains.line)) ∙ sym (concat-append so_far.lines (gains.line ∷ []));
    few = λ j below. elim (cases_lt j k) [
      | inl before ↦ so_far.few j before
      | inr last ↦ let e : k ≡ j = omega (arith, below, last) in subst (λ n. scaled_whole net (factor n) arriving ≤ most_of_all) e (subst (λ n. scaled_whole net n arriving ≤ most_of_all) is few)
    ];
  }

  module _ (last : ℕ) (text : List ℕ) (count : ℕ) (all : count ≡ (last - first) / step + 1) where
    -- all of them are the table
    pub table-of : HasScaled count text → IsScaleTable net arriving first last step text
    table-of scaled = record {
      lines = scaled.lines;
      each = subst (λ n. AllZip (IsScaleLine net arriving) (map factor (range_with_len 0 n)) scaled.lines) all scaled.each;
      are = scaled.are;
    }

    -- and none of them brings too much
    pub none-over : HasScaled count text → BringTooMuch net arriving (factors first last step) → ⊥
    none-over scaled (n, among, over) =
        let below : among.0 < count = omega (arith, among.1, length-map-range_with_len factor 0 ((last - first) / step + 1), all) in
        let at : factor among.0 ≡ n = sym (get_or-map-range_with_len factor 0 ((last - first) / step + 1) among.0 among.0 n (omega (arith, below, all)) (omega arith)) ∙ among.2 in
        omega (arith, over, subst (λ m. scaled_whole net m arriving ≤ most_of_all) at (scaled.few among.0 below))

  -- one of them
  pub is-among : (last place : ℕ) → place ≤ (last - first) / step → Contains (factors first last step) (factor place)
  is-among last place within =
      let long = length-map-range_with_len factor 0 ((last - first) / step + 1) in
      (place, omega (arith, within, long), get_or-map-range_with_len factor 0 ((last - first) / step + 1) place place (factor place) (omega (arith, within)) (omega arith))

  -- what refuses one refuses all
  pub refuses-all : (last place f : ℕ) → place ≤ (last - first) / step → f ≡ factor place → (why : Refusal) → RefusesFactor net arriving f why → RefusesFactors net arriving (factors first last step) why
  refuses-all last place f within is (refusal.Missing Factor) over = (factor place, is-among last place within, subst (λ n. most_of_all < scaled_whole net n arriving) is over)
  refuses-all last place f within is (refusal.Missing Node) over = over
  refuses-all last place f within is (refusal.Missing Round) over = over
  refuses-all last place f within is refusal.NoMemory over = over
  refuses-all last place f within is refusal.Usage over = over
  refuses-all last place f within is (refusal.Bad text why) over = over
  refuses-all last place f within is (refusal.Unread text) over = over
  refuses-all last place f within is refusal.Unwritten over = over

module _ (net arr : List ℕ) (first last step : ℕ) (network : Net) (arriving : ℕ → ℕ → ℕ) where
  -- it explains that nothing was made
  pub refused : (old new : ShelfState) (why : Refusal) → new ≡ old → IsIn old.files net NetworkText network → IsIn old.files arr (ArrivalsText network) arriving
      → RefusesFactors network arriving (factors first last step) why → Explains (scale_meaning net arr first last step) old new why
  refused old new (refusal.Missing Factor) same is bring over = (same, ((network, (arriving, tt)), (is, (bring, tt)), over))
  refused old new (refusal.Missing Node) same is bring over = absurd over
  refused old new (refusal.Missing Round) same is bring over = absurd over
  refused old new refusal.NoMemory same is bring over = same
  refused old new refusal.Usage same is bring over = over
  refused old new (refusal.Bad text why) same is bring over = absurd over
  refused old new (refusal.Unread text) same is bring over = absurd over
  refused old new refusal.Unwritten same is bring over = over

  -- where none is refused, nothing is missing
  pub none-missing : (BringTooMuch network arriving (factors first last step) → ⊥) → MissesNothing (scale_meaning net arr first last step) (network, (arriving, tt))
  none-missing few Factor over = few over
  none-missing few Node missing = missing
  none-missing few Round missing = missing
