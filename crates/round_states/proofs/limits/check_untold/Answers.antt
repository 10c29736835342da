use Rattle.std.proofs.Common.{length, sym, ◌∙◌, arith}
use Rattle.std.proofs.lemmas.Bool.{false≢true}
use Rattle.round_states.specs.Texts.{IsUntold, version_said}
use Rattle.round_states.proofs.ByPlaceLaws.{each-below, content-there}
use Rattle.round_states.proofs.limits.check_untold.Goals as goal

pub is_untold-untold-requires : goal.is_untold-untold-requires
is_untold-untold-requires c = content-there version_said c.args.entries.now (length c.args.net.now.link_names) c.args.content.now.versions.items _ c.loop-link.link _ c.requires.content.versions (omega arith) c.as_slice.ensures.value c.list_of-versions.ensures

pub returns-then-not-untold-clause-first : goal.returns-then-not-untold-clause-first
returns-then-not-untold-clause-first c = (
  c.requires.stood,
  c.requires.soon,
  record {
    below = omega arith;
    before = c.loop-link.invariant;
    here = λ is. false≢true (sym c.if-not-untold.true ∙ c.is_untold-untold.ensures.1 is);
  },
)

pub loop-link-preserved : goal.loop-link-preserved
loop-link-preserved c = each-below (IsUntold c.args.net.now c.args.asked c.args.entries.now) c.loop-link.link c.loop-link.invariant (c.is_untold-untold.ensures.0 c.if-not-untold.false)

pub returns-clause-ok : goal.returns-clause-ok
returns-clause-ok c = λ l h. c.loop-link.invariant l (omega (arith, h))
