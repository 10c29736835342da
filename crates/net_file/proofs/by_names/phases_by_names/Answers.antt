use Rattle.std.proofs.Common.{◌≡◌, ◌<◌, [], length, get_or, map, ap, ◌∙◌, arith}
use Rattle.std.proofs.lemmas.List.{get_or_default}
use Rattle.std.proofs.lemmas.List.FromFn.{map-range_with_len_more}
use Rattle.net_file.specs.ByNames as spec
use Rattle.net_file.specs.ByNames.{name_in}
use Rattle.net_file.proofs.by_names.phases_by_names.Goals as goal

pub loop-k-preserved : goal.loop-k-preserved
loop-k-preserved c =
    let inside : c.loop-k.k < length c.args.lists.now = omega (arith, c.requires.count) in
    let list = c.as_slice.ensures ∙ c.index-lists-k.is ∙ get_or_default c.args.lists.now c.loop-k.k c.index-lists-k.result [] inside in
    let names : c.from_vec.result ≡ map (name_in c.args.names.now) (get_or c.args.lists.now c.loop-k.k []) = c.from_vec.ensures ∙ c.in_ok-links.ensures ∙ ap (map (name_in c.args.names.now)) list in
    let further : c.loop-k.k < length c.args.also.now = omega (arith, c.requires.also_count) in
    let more = c.as_slice-in-loop-k.ensures ∙ c.index-also-k.is ∙ get_or_default c.args.also.now c.loop-k.k c.index-also-k.result [] further in
    let named : c.from_vec-in-loop-k.result ≡ map (name_in c.args.names.now) (get_or c.args.also.now c.loop-k.k []) = c.from_vec-in-loop-k.ensures ∙ c.in_ok-further.ensures ∙ ap (map (name_in c.args.names.now)) more in
    rw (c.in_ok-push.ensures.items, c.loop-k.invariant, names, named, map-range_with_len_more (spec.phase_by_names c.args.names.now c.args.plan.now c.args.lists.now c.args.also.now) 0 c.loop-k.k c.loop-k.k (omega arith))
