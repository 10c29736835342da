use Rattle.std.proofs.Common.{◌≡◌, ◌≤◌, get_or, sum_by, All, subst, ◌∙◌, sym, rules}
use Rattle.std.specs.Prelude.{AllPairs}
use Rattle.std.proofs.lemmas.List.{get_or_default, take_all}
use Rattle.arrivals.specs.declared.rows.ArrivalRow.{ArrivalRow}
use Rattle.arrivals.specs.Amounts.{IsBefore, IsEntry}
use Rattle.arrivals.specs.Rows.{amount_of}
use Rattle.net_parts.specs.Limits.{most_of_all}
use Rattle.arrivals.specs.ScaledRows.{HaveCome}
use Rattle.arrivals.proofs.ScalingLaws.{entered-few, entered-next, entered-none}
use Rattle.arrivals.proofs.scaling.scaled_rows.Goals as goal

pub returns : goal.returns
returns c =
    subst (λ rows. HaveCome c.args.net.now c.args.factor rows c.loop-row.rows.items) (take_all c.loop-row.row-index c.rows-coming.result.now c.loop-row-test.false ∙ c.rows-coming.ensures.value) c.loop-row.invariant.come

pub loop-row-init : goal.loop-row-init
loop-row-init c = entered-none c.args.net.now c.args.factor c.rows-coming.result.now c.in_ok-entered.entered.items c.new-rows.result.items c.links.result (search rules) c.links.ensures.value c.new-rows.ensures.items

pub push_row-requires-clause-few : goal.push_row-requires-clause-few
push_row-requires-clause-few c =
    let coming = c.rows-coming.result.now in
    let i = c.loop-row.row-index in
    let d : ArrivalRow = record { second = 0; link = 0; amount = 0 } in
    let r : ArrivalRow = get_or coming i d in
    let here : r ≡ get_or coming i r = get_or_default coming i d r c.loop-row-test.true in
    let there : All (IsEntry c.args.net.now) coming = subst (All (IsEntry c.args.net.now)) (sym c.rows-coming.ensures.value) c.requires.arrivals.rows in
    entered-few c.args.net.now c.args.factor coming (subst (AllPairs IsBefore) (sym c.rows-coming.ensures.value) c.rows-coming.ensures.kept.order) i r c.loop-row-test.true here (there i d c.loop-row-test.true).source.exists c.loop-row.entered.items
    c.loop-row.rows.items c.loop-row.invariant (subst (λ rows. sum_by amount_of rows ≤ most_of_all) (sym c.rows-coming.ensures.value) c.rows-coming.ensures.kept.few)

pub loop-row-preserved : goal.loop-row-preserved
loop-row-preserved c =
    let coming = c.rows-coming.result.now in
    let i = c.loop-row.row-index in
    let d : ArrivalRow = record { second = 0; link = 0; amount = 0 } in
    let r : ArrivalRow = get_or coming i d in
    let here : r ≡ get_or coming i r = get_or_default coming i d r c.loop-row-test.true in
    let there : All (IsEntry c.args.net.now) coming = subst (All (IsEntry c.args.net.now)) (sym c.rows-coming.ensures.value) c.requires.arrivals.rows in
    entered-next c.args.net.now c.args.factor coming (subst (AllPairs IsBefore) (sym c.rows-coming.ensures.value) c.rows-coming.ensures.kept.order) i r c.loop-row-test.true here (there i d c.loop-row-test.true).source.exists c.loop-row.entered.items
    c.loop-row.rows.items c.loop-row.invariant c.push_row.new.entered.items c.push_row.new.rows.items c.in_ok-push_row.ensures.entered c.in_ok-push_row.ensures.brings
