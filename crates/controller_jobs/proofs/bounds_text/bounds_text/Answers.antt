use Rattle.std.proofs.Common.{◌≡◌, ℕ, [], ◌∷◌, Vec, Global, subst}
use Rattle.std.proofs.lemmas.Result.{IfOk-weaker}
use Rattle.std.specs.List.{flat_map, range_with_len}
use Rattle.std.specs.Prelude.{length}
use Rattle.world_records.specs.Written.{HasWritten}
use Rattle.world_records.proofs.WrittenLaws.{adds-then}
use Rattle.controller_jobs.specs.Bounds.{bound_records, bounds_text, header}
use Rattle.controller_jobs.proofs.bounds_text.bounds_text.Goals as goal

pub returns : goal.returns
returns c =
    let net = c.args.net.now in
    let begins = subst (HasWritten c.start-out.result) c.new.ensures.items c.start-out.ensures in
    let all = adds-then c.start-out.result c.write_record.new.out c.write_nodes.new.out (header ∷ []) (flat_map (bound_records net) (range_with_len 0 (length net.node_names))) c.in_ok-write_record.ensures c.in_ok-write_nodes.ensures in
    IfOk-weaker c.finish.result _ (λ (text : Vec ℕ Global). text.items ≡ bounds_text net) (λ text gives. gives (bounds_text net) (all.adds [] begins)) c.finish.ensures
