use Rattle.std.proofs.Common.{List, ℕ, ◌≡◌, ◌∙◌, ◌++◌, [], ap, sym, subst, take, drop, get_or, arith}
use Rattle.std.proofs.lemmas.List.{get_or_default, take-append-drop}
use Rattle.std.proofs.lemmas.Result.{IfOk-weaker}
use Rattle.dp_certificate.specs.declared.Entry.{Entry}
use Rattle.parallel_dp.specs.Pieces.{IsJoinOf, IsJoinOfAll}
use Rattle.parallel_dp.proofs.LayerLaws.{both-all, one-list, two-lists}
use Rattle.parallel_dp.proofs.layers.+join_all.Goals as goal

parts : (xs front back : List (List Entry)) (n : ℕ) → front ≡ take n xs → back ≡ drop n xs → front ++ back ≡ xs
parts xs front back n first second = ap (λ ys. ys ++ back) first ∙ ap (λ ys. take n xs ++ ys) second ∙ take-append-drop n xs

pub returns-in-len1 : goal.returns-in-len1
returns-in-len1 t c =
    IfOk-weaker c.copy.result (λ v. v.items ≡ c.as_slice.result.now) (λ v. IsJoinOfAll c.args.lists.now v.items)
    (λ v is. subst (IsJoinOfAll c.args.lists.now) (sym (is ∙ c.as_slice.ensures ∙ c.list-item.is)) (one-list c.args.lists.now _ (omega arith) (omega arith) c.requires)) c.copy.ensures

pub returns-in_ok-second-in_default : goal.returns-in_ok-second-in_default
returns-in_ok-second-in_default t c =
    IfOk-weaker c.join_pieces.result (λ v. IsJoinOf c.in_ok-first-in_default.first.items c.in_ok-second-in_default.second.items v.items) (λ v. IsJoinOfAll c.args.lists.now v.items)
    (λ v join. subst (λ xs. IsJoinOfAll xs v.items) (parts c.args.lists.now c.split_at.result.0.now c.split_at.result.1.now _ c.split_at.ensures.front c.split_at.ensures.back)
    (both-all c.split_at.result.0.now c.split_at.result.1.now c.in_ok-first-in_default.first.items c.in_ok-second-in_default.second.items v.items c.in_ok-first-in_default.ensures c.in_ok-second-in_default.ensures join)) c.join_pieces.ensures

pub returns-in-len2 : goal.returns-in-len2
returns-in-len2 t c =
    let lists = c.args.lists.now in
    IfOk-weaker c.join.result (λ v. IsJoinOf c.as_slice-in-len2.result.now c.as_slice-in-len2-2.result.now v.items) (λ v. IsJoinOfAll lists v.items)
    (λ v join. two-lists lists [] v.items (omega arith) (omega arith) c.requires
    (subst (λ ys. IsJoinOf (get_or lists 0 []) ys v.items) (c.as_slice-in-len2-2.ensures ∙ c.second-item.is ∙ get_or_default lists 1 _ [] (omega arith))
    (subst (λ xs. IsJoinOf xs c.as_slice-in-len2-2.result.now v.items) (c.as_slice-in-len2.ensures ∙ c.first-item.is ∙ get_or_default lists 0 _ [] (omega arith)) join))) c.join.ensures
