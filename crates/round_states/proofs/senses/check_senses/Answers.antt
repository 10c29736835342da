use Rattle.std.proofs.Common.{length, sym, ◌∙◌, arith}
use Rattle.std.proofs.lemmas.Bool.{false≢true}
use Rattle.round_states.specs.Texts.{IsSensedOnce, coming_said, queue_said}
use Rattle.round_states.proofs.ByPlaceLaws.{each-below, content-there}
use Rattle.round_states.proofs.senses.check_senses.Goals as goal

pub is_sensed_once-once-requires : goal.is_sensed_once-once-requires
is_sensed_once-once-requires c = record {
  queues = content-there queue_said c.args.entries.now (length c.args.net.now.link_names) c.args.content.now.queues.items _ c.loop-link.link _ c.requires.queues (omega arith) c.as_slice.ensures.value c.list_of-queues.ensures;
  rows = content-there coming_said c.args.entries.now (length c.args.net.now.link_names) c.args.content.now.coming.items _ c.loop-link.link _ c.requires.coming (omega arith) c.as_slice-in-loop-link.ensures.value c.list_of-rows.ensures;
}

pub returns-then-not-once-clause-first : goal.returns-then-not-once-clause-first
returns-then-not-once-clause-first c = record {
  below = omega arith;
  before = c.loop-link.invariant;
  here = λ is. false≢true (sym c.if-not-once.true ∙ c.is_sensed_once-once.ensures.1 is);
}

pub loop-link-preserved : goal.loop-link-preserved
loop-link-preserved c = each-below (IsSensedOnce c.args.entries.now) c.loop-link.link c.loop-link.invariant (c.is_sensed_once-once.ensures.0 c.if-not-once.false)

pub returns-clause-ok : goal.returns-clause-ok
returns-clause-ok c = λ l h. c.loop-link.invariant l (omega (arith, h))
