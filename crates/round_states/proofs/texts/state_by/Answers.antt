use Rattle.std.proofs.Common.{◌∙◌}
use Rattle.round_states.specs.Order.{now_of}
use Rattle.round_states.proofs.OrderLaws.{begin-bound, begin-now}
use Rattle.round_states.proofs.StateLaws.{tell-state, parsed-state}
use Rattle.round_states.proofs.texts.state_by.Goals as goal

pub senses-requires : goal.senses-requires
senses-requires c = record {
  content = c.requires.content;
  now = begin-bound c.args.net.now c.requires.network (now_of c.args.entries.now) (begin-now c.args.net.now c.requires.network c.args.entries.now c.requires.order);
  senses = c.in_ok-check_senses.ensures.ok;
  boards = c.in_ok-boards.ensures.each;
  lines = c.in_ok-lines.ensures.each;
}

pub check_limits-requires : goal.check_limits-requires
check_limits-requires c = record {
  content = c.requires.content;
  now = begin-bound c.args.net.now c.requires.network (now_of c.args.entries.now) (begin-now c.args.net.now c.requires.network c.args.entries.now c.requires.order);
}

pub returns-clause-ok : goal.returns-clause-ok
returns-clause-ok c =
    parsed-state c.args.net.now c.args.asked c.args.entries.now _
    (tell-state c.args.net.now c.requires.network c.args.entries.now c.requires.order c.args.asked
    (record { senses = c.in_ok-check_senses.ensures.ok; boards = c.in_ok-boards.ensures.each; lines = c.in_ok-lines.ensures.each; few = c.in_ok-sensed.ensures.few })
    c.in_ok-check_limits.ensures.stood c.in_ok-check_limits.ensures.soon c.in_ok-check_limits.ensures.untold)
    c.round_of.ensures
    (c.from_vec.ensures ∙ c.in_ok-sensed.ensures.ok) (c.from_vec-2.ensures ∙ c.in_ok-lines.ensures.ok) (c.from_vec-3.ensures ∙ c.in_ok-boards.ensures.ok)
