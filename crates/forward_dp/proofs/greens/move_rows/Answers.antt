use Rattle.std.proofs.Common.{◌≡◌, ◌+◌, ◌<◌, List, Option, None, [], ◌∷◌, ◌++◌, length, set, sym, ap, ◌∙◌, subst, arith}
use Rattle.std.proofs.lemmas.List.{get_or_default}
use Rattle.std.proofs.lemmas.List.{length-set}
use Rattle.forward_dp.specs.declared.rows.Row.{Row}
use Rattle.forward_dp.specs.Rows.{ArePlaced}
use Rattle.forward_dp.proofs.Draining.{AreDrained, drained-none, drained-some, drained-all, placed-less}
use Rattle.forward_dp.proofs.greens.move_rows.Goals as goal
use Rattle.forward_dp.proofs.greens.move_rows.Goals.{in-Some+in_ok-push, in_default}

pub loop-wait-preserved : goal.loop-wait-preserved
loop-wait-preserved c =
    let places = c.loop-wait.places in
    let wait = c.loop-wait.wait in
    let inside : wait < length places = omega (arith, c.loop-wait-test.true, c.loop-wait.invariant.placed.within) in
    elim c.match-places-wait.branch [
      | in-Some+in_ok-push w ↦
          let rows_are : c.match-places-wait.rows.items ≡ c.loop-wait.rows.items ++ w.in-Some.row ∷ [] = ap (λ v. v.items) w.rows-is ∙ w.in_ok-push.ensures.items in
          record {
            drained =
                subst (λ (s : List (Option Row)). AreDrained c.args.places.now s (wait + 1) c.match-places-wait.rows.items) (sym w.places-is)
                (subst (AreDrained c.args.places.now (set places wait None) (wait + 1)) (sym rows_are)
                (drained-some c.args.places.now places wait w.in-Some.row c.loop-wait.rows.items c.requires.rising c.loop-wait.invariant.drained inside (get_or_default places wait None _ inside ∙ w.in-Some.is)));
            placed = subst (λ (s : List (Option Row)). ArePlaced s c.args.first c.args.end) (sym w.places-is) (placed-less places c.args.first c.args.end wait c.loop-wait.invariant.placed inside);
            count = ap length w.places-is ∙ length-set places wait None ∙ c.loop-wait.invariant.count;
          }
      | in_default w ↦ record {
        drained =
            subst (λ (s : List (Option Row)). AreDrained c.args.places.now s (wait + 1) c.match-places-wait.rows.items) (sym w.places-is)
            (subst (AreDrained c.args.places.now places (wait + 1)) (ap (λ v. v.items) (sym w.rows-is))
            (drained-none c.args.places.now places wait c.loop-wait.rows.items c.loop-wait.invariant.drained (get_or_default places wait None _ inside ∙ w.in_default.is)));
        placed = subst (λ (s : List (Option Row)). ArePlaced s c.args.first c.args.end) (sym w.places-is) c.loop-wait.invariant.placed;
        count = ap length w.places-is ∙ c.loop-wait.invariant.count;
      }
    ]

pub returns-clause-best : goal.returns-clause-best
returns-clause-best c =
    drained-all c.args.places.now c.loop-wait.places c.args.first c.args.end c.loop-wait.wait c.loop-wait.rows.items c.requires.placed c.loop-wait.invariant.drained (omega (arith, c.loop-wait-test.false))
