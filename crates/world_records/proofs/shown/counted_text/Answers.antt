use Rattle.std.proofs.Common.{◌≡◌, Vec, Global, ℕ, subst}
use Rattle.std.proofs.lemmas.Result.{IfOk-weaker}
use Rattle.world_records.specs.Records.{counted_text}
use Rattle.world_records.specs.Written.{HasWritten}
use Rattle.world_records.proofs.ShownLaws.{counted-after}
use Rattle.world_records.proofs.shown.counted_text.Goals as goal

pub returns : goal.returns
returns c =
    let net = c.args.net.now in
    let links = c.args.links.now in
    IfOk-weaker c.finish.result _ (λ (text : Vec ℕ Global). text.items ≡ counted_text net links c.args.totals)
    (λ text says. says (counted_text net links c.args.totals)
    (counted-after net links c.args.totals c.start-out.result c.write_header.new.out c.write_counted.new.out
    (subst (HasWritten c.start-out.result) c.new.ensures.items c.start-out.ensures) c.in_ok-write_header.ensures c.in_ok-write_counted.ensures.records))
    c.finish.ensures
