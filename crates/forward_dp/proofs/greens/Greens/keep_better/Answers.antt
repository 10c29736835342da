use Rattle.std.proofs.Common.{◌≡◌, ◌<◌, true, false, Some, None, length, set, sym, ◌∙◌, subst}
use Rattle.std.proofs.lemmas.List.{get_or_default}
use Rattle.forward_dp.specs.Rows.{IsOffered, row_in}
use Rattle.forward_dp.proofs.Draining.{offered-better, offered-new}
use Rattle.forward_dp.proofs.greens.Greens.keep_better.Goals as goal

pub returns-in-None : goal.returns-in-None
returns-in-None c =
    let places = c.self.inside.rows.items in
    let inside : c.args.wait < length places = (subst (λ old. c.args.wait < length old) (sym c.self.view_is) c.requires) in
    let empty : row_in places c.args.wait ≡ None = get_or_default places c.args.wait None c.index.result.now inside ∙ sym c.index.ensures ∙ c.in-None.is in
    subst (λ old. IsOffered old (set places c.args.wait (Some c.args.row)) c.args.wait c.args.row) c.self.view_is (offered-new places c.args.wait c.args.row inside empty)

pub returns-then-not-is_no_worse : goal.returns-then-not-is_no_worse
returns-then-not-is_no_worse c =
    let places = c.self.inside.rows.items in
    let inside : c.args.wait < length places = (subst (λ old. c.args.wait < length old) (sym c.self.view_is) c.requires) in
    let there : row_in places c.args.wait ≡ Some c.in-Some.there = get_or_default places c.args.wait None c.index.result.now inside ∙ sym c.index.ensures ∙ c.in-Some.is in
    subst (λ old. IsOffered old (set places c.args.wait (Some c.args.row)) c.args.wait c.args.row) c.self.view_is (offered-better places c.args.wait c.args.row c.in-Some.there inside there (λ h. let yes : false ≡ true = c.if-not-is_no_worse.ensures.1 h in absurd cc))
