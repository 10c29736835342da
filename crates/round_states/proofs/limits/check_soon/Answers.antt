use Rattle.std.proofs.Common.{length, sym, ◌∙◌, arith}
use Rattle.std.proofs.lemmas.Bool.{false≢true}
use Rattle.round_states.specs.Faults.{BeginSoon}
use Rattle.round_states.specs.Texts.{green_said}
use Rattle.round_states.proofs.ByPlaceLaws.{each-below, content-there}
use Rattle.round_states.proofs.limits.check_soon.Goals as goal

pub begin_soon-soon-requires : goal.begin_soon-soon-requires
begin_soon-soon-requires c = record {
  now = c.requires.now;
  greens = content-there green_said c.args.entries.now (length c.args.net.now.node_names) c.args.content.now.greens.items _ c.loop-node.node _ c.requires.content.greens (omega arith) c.as_slice.ensures.value c.list_of-greens.ensures;
}

pub returns-then-not-soon-clause-first : goal.returns-then-not-soon-clause-first
returns-then-not-soon-clause-first c = (
  c.requires.stood,
  record {
    below = omega arith;
    before = c.loop-node.invariant;
    here = λ is. false≢true (sym c.if-not-soon.true ∙ c.begin_soon-soon.ensures.1 is);
  },
)

pub loop-node-preserved : goal.loop-node-preserved
loop-node-preserved c = each-below (BeginSoon c.args.entries.now) c.loop-node.node c.loop-node.invariant (c.begin_soon-soon.ensures.0 c.if-not-soon.false)

pub returns-clause-ok : goal.returns-clause-ok
returns-clause-ok c = λ n h. c.loop-node.invariant n (omega (arith, h))
