use Rattle.std.proofs.Common.{◌≡◌, refl, ap, sym, ◌∙◌, arith}
use Rattle.net_parts.specs.Outline.{link_name_at}
use Rattle.audit.specs.SheetTexts.{links_counted}
use Rattle.record_text.proofs.ShapeLaws.{other-bytes, same-bytes}
use Rattle.audit.proofs.SheetReaderLaws.{come-counts, come-links, links-most}
use Rattle.audit.proofs.sheet_reader.take_counts.Goals as goal

pub returns-then-link-links-clause-first : goal.returns-then-link-links-clause-first
returns-then-link-links-clause-first c = λ parsed come. (refl, links-most c.args.net.now parsed c.args.reader.now come (omega arith))

pub returns-then-ne-clause-first : goal.returns-then-ne-clause-first
returns-then-ne-clause-first c = λ parsed come.
    let links = come-links c.args.net.now parsed c.args.reader.now come in
    let next : c.as_bytes.result.now ≡ link_name_at c.args.net.now (links_counted parsed) = c.as_bytes.ensures.value ∙ c.link_name.ensures.value ∙ ap (link_name_at c.args.net.now) (omega (arith, links)) in
    (refl, (omega (arith, links), λ same. other-bytes c.args.name.now c.as_bytes.result.now c.if-ne.ensures (same ∙ sym next)))

pub returns-clause-ok : goal.returns-clause-ok
returns-clause-ok c = λ parsed come. come-counts c.args.net.now parsed c.args.reader.now come c.args.name.now c.args.totals _ (omega arith) (same-bytes c.args.name.now c.as_bytes.result.now c.if-ne.ensures ∙ c.as_bytes.ensures.value ∙ c.link_name.ensures.value ∙ ap (link_name_at c.args.net.now) (omega arith)) c.in_ok-push.ensures.items refl refl
