use Rattle.std.proofs.Common.{◌<◌, ◌≡◌, length, map, take, sym, ap, subst, ◌∙◌, ◌++◌, ◌∷◌, [], arith}
use Rattle.std.proofs.Math.Seq.{take-length}
use Rattle.net_parts.specs.Numbers.{no_link}
use Rattle.snap_boards.specs.Boards.{AreAllEnds}
use Rattle.net_threads.specs.Ends.{ends_of}
use Rattle.net_threads.proofs.EndLaws.{all-ends, ends-more}
use Rattle.net_threads.proofs.network_ends.link_ends.Goals as goal

pub loop-l-preserved : goal.loop-l-preserved
loop-l-preserved c =
    let l = c.loop-l.l in
    let road = c.links-links.ensures.network.outline.road_count in
    let inside : l < length c.args.net.now.links = omega (arith, road, c.links-links.ensures.value, c.loop-l-test.true) in
    c.in_ok-push.ensures.items ∙ ap (λ items. items ++ c.ends_of.result ∷ []) c.loop-l.invariant
    ∙ ap (λ e. map ends_of (take l c.args.net.now.links) ++ e ∷ []) (c.ends_of.ensures ∙ ap ends_of c.link.ensures.value) ∙ ends-more c.args.net.now.links l no_link inside

pub returns-clause-ends : goal.returns-clause-ends
returns-clause-ends c =
    let links = c.args.net.now.links in
    let end' : c.loop-l.l ≡ length links = omega (arith, c.links-links.ensures.network.outline.road_count, c.links-links.ensures.value, c.loop-l-test.false, c.loop-l.auto.l-end) in
    c.loop-l.invariant ∙ ap (λ n. map ends_of (take n links)) end' ∙ ap (map ends_of) (take-length links)

pub returns-clause-nodes : goal.returns-clause-nodes
returns-clause-nodes c = subst (AreAllEnds (length c.args.net.now.node_names)) (sym (returns-clause-ends c)) (all-ends (length c.args.net.now.node_names) c.args.net.now.links c.links-links.ensures.network.outline.links c.links-links.ensures.network.joins.ends)
