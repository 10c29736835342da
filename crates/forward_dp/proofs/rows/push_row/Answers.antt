use Rattle.std.proofs.Common.{◌≡◌, ◌-◌, ◌⊎◌, Contains, sym, ap, ◌∙◌, length, get_or, subst, arith}
use Rattle.std.proofs.lemmas.List.{get_or_read_under}
use Rattle.forward_dp.specs.Rows.{AreBestOf, AreLater, time_of}
use Rattle.forward_dp.proofs.Keeping.{best-push, best-set, later-push}
use Rattle.forward_dp.proofs.rows.push_row.Goals as goal
use Rattle.forward_dp.proofs.rows.push_row.Goals.{then-end-gt0+else-time_of, else-end-gt0}

pub returns-then-time_of-clause-best : goal.returns-then-time_of-clause-best
returns-then-time_of-clause-best c =
    best-set c.args.rows.now.items (c.len-end.result - 1) c.index.result.now c.args.row c.better_of.result (omega (arith, c.len-end.ensures, c.if-end-gt0.true)) c.index.ensures
    (sym c.time_of.ensures ∙ c.if-time_of.true ∙ c.time_of-then-end-gt0.ensures) c.better_of.ensures.from c.better_of.ensures.first c.better_of.ensures.second

pub returns-clause-later : goal.returns-clause-later
returns-clause-later c =
    let len : c.len-end.result ≡ length c.args.rows.now.items = omega (arith, c.len-end.ensures) in
    subst AreLater (sym c.in_ok-push.ensures.items) (later-push c.args.rows.now.items c.args.row c.requires.later c.requires.last (λ d some. elim c.if-end-gt0.branch [
      | then-end-gt0+else-time_of w ↦ λ same. w.if-time_of.false
          (w.time_of.ensures ∙ ap time_of (get_or_read_under c.args.rows.now.items (c.len-end.result - 1) (c.len-end.result) w.index.result.now d w.index.ensures (omega (arith, w.if-end-gt0.true)) len
          ∙ ap (λ n. get_or c.args.rows.now.items (n - 1) d) len) ∙ same ∙ sym w.time_of-then-end-gt0.ensures)
      | else-end-gt0 w ↦ absurd (omega (arith, some, c.len-end.ensures, w.if-end-gt0.false))
    ]))

pub returns-clause-best : goal.returns-clause-best
returns-clause-best c = subst (AreBestOf (λ r. Contains c.args.rows.now.items r ⊎ (r ≡ c.args.row))) (sym c.in_ok-push.ensures.items) (best-push c.args.rows.now.items c.args.row)
