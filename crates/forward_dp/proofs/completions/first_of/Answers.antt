use Rattle.std.proofs.Common.{ap, arith}
use Rattle.dp_certificate.specs.Proves.{key_of_entry}
use Rattle.forward_dp.specs.declared.rows.Row.{Row}
use Rattle.forward_dp.proofs.CompletedEntries.{first-completion, root-inside}
use Rattle.forward_dp.proofs.completions.first_of.Goals as goal

pub overflow_sub-result : goal.overflow_sub-result
overflow_sub-result c =
    let inside = root-inside c.args.i.now c.first_row.ensures.instance c.args.entries.now c.requires.whole c.first_row.result.entry (ap (λ (r : Row). key_of_entry r.entry) c.first_row.ensures.row) c.place_of-place.result c.place_of-place.ensures in
    omega (arith, inside)

pub overflow_sub-result-2 : goal.overflow_sub-result-2
overflow_sub-result-2 c =
    let inside = root-inside c.args.i.now c.first_row.ensures.instance c.args.entries.now c.requires.whole c.first_row.result.entry (ap (λ (r : Row). key_of_entry r.entry) c.first_row.ensures.row) c.place_of-place.result c.place_of-place.ensures in
    omega (arith, inside)

pub bounds-all-entries : goal.bounds-all-entries
bounds-all-entries c =
    let inside = root-inside c.args.i.now c.first_row.ensures.instance c.args.entries.now c.requires.whole c.first_row.result.entry (ap (λ (r : Row). key_of_entry r.entry) c.first_row.ensures.row) c.place_of-place.result c.place_of-place.ensures in
    omega (arith, inside, c.requires.count)

pub returns-clause-completion : goal.returns-clause-completion
returns-clause-completion c =
    first-completion c.args.i.now c.first_row.ensures.instance c.args.entries.now c.requires.whole c.first_row.result.entry (ap (λ (r : Row). key_of_entry r.entry) c.first_row.ensures.row) c.place_of-place.result c.place_of-place.ensures c.args.all.now c.requires.count c.requires.all
