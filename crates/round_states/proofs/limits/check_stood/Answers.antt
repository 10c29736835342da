use Rattle.std.proofs.Common.{length, sym, ◌∙◌, arith}
use Rattle.std.proofs.lemmas.Bool.{false≢true}
use Rattle.round_states.specs.Faults.{StoodInTime}
use Rattle.round_states.specs.Texts.{queue_said}
use Rattle.round_states.proofs.ByPlaceLaws.{each-below, content-there}
use Rattle.round_states.proofs.limits.check_stood.Goals as goal

pub stood_in_time-can-requires : goal.stood_in_time-can-requires
stood_in_time-can-requires c = content-there queue_said c.args.entries.now (length c.args.net.now.link_names) c.args.content.now.queues.items _ c.loop-link.link _ c.requires.queues (omega arith) c.as_slice.ensures.value c.list_of-queues.ensures

pub returns-then-not-can-clause-first : goal.returns-then-not-can-clause-first
returns-then-not-can-clause-first c = record {
  below = omega arith;
  before = c.loop-link.invariant;
  here = λ is. false≢true (sym c.if-not-can.true ∙ c.stood_in_time-can.ensures.1 is);
}

pub loop-link-preserved : goal.loop-link-preserved
loop-link-preserved c = each-below (StoodInTime c.args.entries.now) c.loop-link.link c.loop-link.invariant (c.stood_in_time-can.ensures.0 c.if-not-can.false)

pub returns-clause-ok : goal.returns-clause-ok
returns-clause-ok c = λ l h. c.loop-link.invariant l (omega (arith, h))
