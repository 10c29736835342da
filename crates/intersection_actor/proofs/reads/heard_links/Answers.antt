use Rattle.std.proofs.Common.{is_some, not, sym, ap, ◌∙◌}
use Rattle.net_parts.specs.Outline.{link_at}
use Rattle.net_parts.specs.declared.roads.Link.{Link}
use Rattle.intersection_actor.proofs.Filtered.{filter-less, filter-more, filter-whole}
use Rattle.intersection_actor.proofs.reads.heard_links.Goals as goal

pub loop-link-preserved-then-is_none : goal.loop-link-preserved-then-is_none
loop-link-preserved-then-is_none c =
    filter-less (λ k. is_some (link_at c.args.net.now k).from) c.entry_links-entries.result.now c.loop-link.link-index c.loop-link-test.true
    (ap (λ (k : Link). is_some k.from) (sym c.link.ensures.value) ∙ c.is_none.ensures ∙ ap not c.if-is_none.true) c.loop-link.heard.items c.loop-link.invariant

pub loop-link-preserved : goal.loop-link-preserved
loop-link-preserved c =
    filter-more (λ k. is_some (link_at c.args.net.now k).from) c.entry_links-entries.result.now c.loop-link.link-index c.loop-link-test.true
    (ap (λ (k : Link). is_some k.from) (sym c.link.ensures.value) ∙ c.is_none.ensures ∙ ap not c.if-is_none.false) c.loop-link.heard.items c.push.new.self.items c.loop-link.invariant c.in_ok-push.ensures.items

pub returns : goal.returns
returns c =
    filter-whole (λ k. is_some (link_at c.args.net.now k).from) c.entry_links-entries.result.now _ c.loop-link.link-index c.loop-link-test.false c.entry_links-entries.ensures.value c.loop-link.heard.items c.loop-link.invariant
