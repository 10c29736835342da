use Rattle.std.proofs.Common.{◌≡◌, ◌+◌, All, List, None, subst, sym, arith}
use Rattle.schedule_meaning.specs.Instances.{Problem, IsInstance}
use Rattle.dp_certificate.specs.Certificates.{AreRising, Claim}
use Rattle.dp_certificate.specs.Whole.{IsWhole}
use Rattle.dp_certificate.specs.declared.Entry.{Entry}
use Rattle.forward_dp.proofs.Wholes.{best-short, certified, lawful}
use Rattle.parallel_dp.specs.Pieces.{IsJoinOfAll}
use Rattle.parallel_dp.specs.Ways.{AreLayers, servings_of}
use Rattle.parallel_dp.proofs.LayerLaws.{layers-rise, layers-whole}
use Rattle.parallel_dp.proofs.TableSize.{table-few, table-parts}
use Rattle.parallel_dp.proofs.whole_certificates.certify_par.Goals as goal

whole : (p : Problem) → IsInstance p → (lists slice : List (List Entry)) (entries : List Entry) → AreLayers p (servings_of p + 1) lists → slice ≡ lists → IsJoinOfAll slice entries → IsWhole p entries
whole p lawful lists slice entries are same join = layers-whole p lawful (servings_of p + 1) lists entries (omega arith) are (subst (λ xs. IsJoinOfAll xs entries) same join)

pub join_all-requires : goal.join_all-requires
join_all-requires g c = subst (All AreRising) (sym c.as_slice-2.ensures.value) (layers-rise c.args.i.now (servings_of c.args.i.now + 1) c.in_ok-layers.layers.items c.in_ok-layers.ensures.layers)

pub returns-clause-whole : goal.returns-clause-whole
returns-clause-whole g c =
    subst (λ (made : Claim). IsWhole c.args.i.now made.entries) (sym c.of_lawful.ensures)
    (whole c.args.i.now c.all_layers.ensures.instance c.in_ok-layers.layers.items c.as_slice-2.result.now c.in_ok-entries.entries.items c.in_ok-layers.ensures.layers c.as_slice-2.ensures.value c.in_ok-entries.ensures)

pub of_lawful-requires-clause-lawful : goal.of_lawful-requires-clause-lawful
of_lawful-requires-clause-lawful g c =
    lawful c.args.i.now c.in_ok-instance.instance None c.in_ok-entries.entries.items c.in_ok-answer.answer
    (table-parts c.args.i.now c.all_layers.ensures.instance c.in_ok-entries.entries.items c.in_ok-answer.answer (whole c.args.i.now c.all_layers.ensures.instance c.in_ok-layers.layers.items c.as_slice-2.result.now c.in_ok-entries.entries.items c.in_ok-layers.ensures.layers c.as_slice-2.ensures.value c.in_ok-entries.ensures) c.in_ok-answer.ensures) c.in_ok-instance.ensures

pub of_lawful-requires-clause-few : goal.of_lawful-requires-clause-few
of_lawful-requires-clause-few g c = omega (arith, table-few c.args.i.now c.all_layers.ensures.instance c.in_ok-entries.entries.items (whole c.args.i.now c.all_layers.ensures.instance c.in_ok-layers.layers.items c.as_slice-2.result.now c.in_ok-entries.entries.items c.in_ok-layers.ensures.layers c.as_slice-2.ensures.value c.in_ok-entries.ensures))

pub of_lawful-requires-clause-short : goal.of_lawful-requires-clause-short
of_lawful-requires-clause-short g c = best-short c.args.i.now c.in_ok-answer.answer c.all_layers.ensures.instance c.in_ok-answer.ensures

pub returns-clause-proves : goal.returns-clause-proves
returns-clause-proves g c =
    (certified c.args.i.now c.in_ok-instance.instance None c.in_ok-entries.entries.items c.in_ok-answer.answer c.of_lawful.result
    (table-parts c.args.i.now c.all_layers.ensures.instance c.in_ok-entries.entries.items c.in_ok-answer.answer (whole c.args.i.now c.all_layers.ensures.instance c.in_ok-layers.layers.items c.as_slice-2.result.now c.in_ok-entries.entries.items c.in_ok-layers.ensures.layers c.as_slice-2.ensures.value c.in_ok-entries.ensures) c.in_ok-answer.ensures) c.in_ok-instance.ensures c.of_lawful.ensures).proves

pub returns-clause-few : goal.returns-clause-few
returns-clause-few g c =
    (certified c.args.i.now c.in_ok-instance.instance None c.in_ok-entries.entries.items c.in_ok-answer.answer c.of_lawful.result
    (table-parts c.args.i.now c.all_layers.ensures.instance c.in_ok-entries.entries.items c.in_ok-answer.answer (whole c.args.i.now c.all_layers.ensures.instance c.in_ok-layers.layers.items c.as_slice-2.result.now c.in_ok-entries.entries.items c.in_ok-layers.ensures.layers c.as_slice-2.ensures.value c.in_ok-entries.ensures) c.in_ok-answer.ensures) c.in_ok-instance.ensures c.of_lawful.ensures).few
