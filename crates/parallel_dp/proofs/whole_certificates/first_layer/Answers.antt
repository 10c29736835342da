use Rattle.std.proofs.Common.{List, ◌∙◌, ◌++◌, [], ◌∷◌, refl, ap, sym, subst}
use Rattle.dp_certificate.specs.Prefixes.{Key}
use Rattle.switch_rules.specs.declared.Head.{Head}
use Rattle.dp_certificate.specs.declared.Entry.{Entry}
use Rattle.parallel_dp.specs.Pieces.{IsLayer}
use Rattle.parallel_dp.proofs.LayerLaws.{first-is}
use Rattle.parallel_dp.proofs.whole_certificates.first_layer.Goals as goal

pub returns : goal.returns
returns c =
    let h = c.head-head.result in
    let e : Entry = record { counts = 0 ∷ 0 ∷ 0 ∷ 0 ∷ []; phase = h.phase; since = h.since; at = h.at; delay = 0 } in
    subst (IsLayer c.args.i.now 0) (sym (c.in_ok-push.ensures.items ∙ ap (λ (xs : List Entry). xs ++ e ∷ []) c.in_ok-layer.ensures.items))
    (first-is c.args.i.now e (ap (λ (h : Head). let k : Key = record { counts = 0 ∷ 0 ∷ 0 ∷ 0 ∷ []; phase = h.phase; since = h.since; at = h.at } in k) c.head-head.ensures.value) refl)
