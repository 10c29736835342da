use Rattle.std.proofs.Common.{refl, sym, ◌∙◌}
use Rattle.std.proofs.lemmas.Bool.{true≢false}
use Rattle.record_text.proofs.ShapeLaws.{all-same, other-here, same-more}
use Rattle.record_text.proofs.shapes.is_record.Goals as goal

pub returns-then-ne : goal.returns-then-ne
returns-then-ne c = (λ yes. absurd (true≢false (sym yes)), λ same. absurd (other-here _ _ _ _ _ c.loop-place-test.true c.field.ensures c.if-ne.ensures same))

pub loop-place-preserved : goal.loop-place-preserved
loop-place-preserved c = same-more _ _ _ _ _ c.loop-place-test.true c.field.ensures c.if-ne.ensures c.loop-place.invariant

pub returns : goal.returns
returns c = (λ yes. all-same _ _ c.loop-place.place (sym c.len.ensures ∙ c.if-len-fields.false) c.loop-place-test.false c.loop-place.invariant, λ same. refl)
