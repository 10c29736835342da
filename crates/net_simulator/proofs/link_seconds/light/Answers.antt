use Rattle.std.proofs.Common.{◌≡◌, ℕ, ◌<◌, List, All, None, Some, length, slice_index, slice_index_or, refl, ap, subst, ◌∙◌, arith}
use Rattle.std.specs.Prelude.{Contains}
use Rattle.std.specs.List.Sorted.{IsStrictlyIncreasing}
use Rattle.net_parts.specs.Outline.{link_at}
use Rattle.road_net.specs.Network.{entry_links}
use Rattle.net_simulator.specs.LinkGreens.{lit_on}
use Rattle.net_simulator.proofs.Lighting.{AreLitTo, lit-here, lit-kept, lit-more, lit-others}
use Rattle.net_simulator.proofs.link_seconds.light.Goals as goal
use Rattle.net_simulator.proofs.link_seconds.light.Goals.{then-may_differ, else-may_differ}

pub loop-l-preserved : goal.loop-l-preserved
loop-l-preserved c =
    let links = entry_links c.args.net.now c.args.node in
    let is = c.entry_links-l-items.ensures.value in
    let own : slice_index_or c.entry_links-l-items.result.now c.loop-l.l-index 0 ≡ slice_index links c.loop-l.l-index = ap (λ (ls : List ℕ). slice_index ls c.loop-l.l-index) is in
    let inside : c.loop-l.l-index < length links = subst (λ (ls : List ℕ). c.loop-l.l-index < length ls) is c.loop-l-test.true in
    let e = slice_index links c.loop-l.l-index in
    let roads = c.entry_links-l-items.ensures.network.outline.road_count in
    let there : (e < length c.args.net.now.links) × ((link_at c.args.net.now e).to ≡ Some c.args.node) = (subst (All (λ k. (k < length c.args.net.now.links) × ((link_at c.args.net.now k).to ≡ Some c.args.node))) is c.entry_links-l-items.ensures.links.have) c.loop-l.l-index 0 inside in
    let rising = subst IsStrictlyIncreasing is c.entry_links-l-items.ensures.links.rising in
    elim c.if-may_differ.branch [
      | then-may_differ w ↦
          let below : e < length c.loop-l.since = (let b = there.0 in omega (arith, b, roads, c.requires.since, c.loop-l.auto.since)) in
          rw (w.since-is, own) (lit-more c.args.net.now c.args.second c.args.node c.args.sign links c.args.since.now rising c.loop-l.l-index w.lit_on.result c.loop-l.since c.loop-l.invariant inside below (w.lit_on.ensures ∙ ap (λ k. lit_on c.args.net.now k c.args.second c.args.sign (slice_index c.loop-l.since k)) own))
      | else-may_differ w ↦
          let stays = w.if-may_differ.ensures refl in
          let plain : (link_at c.args.net.now e).walk ≡ None = subst (λ k. (link_at c.args.net.now k).walk ≡ None) own stays.1 in
          rw w.since-is (lit-kept c.args.net.now c.args.second c.args.node c.args.sign links c.args.since.now rising c.loop-l.l-index c.loop-l.since c.loop-l.invariant inside
          (c.requires.lit e (let b = there.0 in omega (arith, b, roads)) there.1 stays.0 plain))
    ]

whole : {A : Type 0} (n : ℕ) (xs ys : List A) → xs ≡ ys → n ≡ length xs → n ≡ length ys
whole n xs ys is e = e ∙ ap length is

pub returns-clause-here : goal.returns-clause-here
returns-clause-here c l inside to =
    let links = entry_links c.args.net.now c.args.node in
    let is = c.entry_links-l-items.ensures.value in
    let all : AreLitTo c.args.net.now c.args.second c.args.sign links c.args.since.now (length links) c.loop-l.since = subst (λ n. AreLitTo c.args.net.now c.args.second c.args.sign links c.args.since.now n c.loop-l.since) (whole c.loop-l.l-index _ links is (omega arith)) c.loop-l.invariant in
    let has : Contains links l = subst (λ (ls : List ℕ). Contains ls l) is (c.entry_links-l-items.ensures.links.all l (let roads = c.entry_links-l-items.ensures.network.outline.road_count in omega (arith, inside, roads)) to) in
    lit-here c.args.net.now c.args.second c.args.node c.args.sign links c.args.since.now (subst IsStrictlyIncreasing is c.entry_links-l-items.ensures.links.rising) c.loop-l.since all l has

pub returns-clause-others : goal.returns-clause-others
returns-clause-others c l inside other =
    let links = entry_links c.args.net.now c.args.node in
    let is = c.entry_links-l-items.ensures.value in
    let all : AreLitTo c.args.net.now c.args.second c.args.sign links c.args.since.now (length links) c.loop-l.since = subst (λ n. AreLitTo c.args.net.now c.args.second c.args.sign links c.args.since.now n c.loop-l.since) (whole c.loop-l.l-index _ links is (omega arith)) c.loop-l.invariant in
    let have : All (λ k. (k < length c.args.net.now.links) × ((link_at c.args.net.now k).to ≡ Some c.args.node)) links = subst (All (λ k. (k < length c.args.net.now.links) × ((link_at c.args.net.now k).to ≡ Some c.args.node))) is c.entry_links-l-items.ensures.links.have in
    lit-others c.args.net.now c.args.second c.args.node c.args.sign links c.args.since.now (subst IsStrictlyIncreasing is c.entry_links-l-items.ensures.links.rising) c.loop-l.since all have l other
