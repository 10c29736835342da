use Rattle.std.proofs.Common.{List, ℕ, ap, inl, subst, ◌∙◌}
use Rattle.commands.specs.Refusals.{Writes, bad_line}
use Rattle.commands.proofs.refusals.refuse.Goals as goal

pub returns-in-Usage : goal.returns-in-Usage
returns-in-Usage g c = rw c.in-Usage.is (inl (c.say.ensures.status, c.say.ensures.line))

pub returns-in-Unwritten : goal.returns-in-Unwritten
returns-in-Unwritten g c = rw c.in-Unwritten.is (inl (c.say-in-Unwritten.ensures.status, c.say-in-Unwritten.ensures.line))

pub returns-in-Ok : goal.returns-in-Ok
returns-in-Ok g c =
    let line = subst (λ (l : List ℕ). Writes l (g.E.Sink.state c.args.err.now) (g.E.Sink.state c.say-in-Ok.new.err)) (c.deref-in-Ok.ensures.value ∙ c.in-Ok.ensures ∙ ap (bad_line c.in-Bad.text) c.deref.ensures.value) c.say-in-Ok.ensures.line in
    rw c.in-Bad.is (inl (c.say-in-Ok.ensures.status, line))
