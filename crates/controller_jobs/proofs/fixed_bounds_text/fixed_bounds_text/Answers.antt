use Rattle.std.proofs.Common.{◌≡◌, ℕ, [], ◌∷◌, Vec, Global, subst}
use Rattle.std.proofs.lemmas.Result.{IfOk-weaker}
use Rattle.std.specs.List.{flat_map, range_with_len}
use Rattle.std.specs.Prelude.{length}
use Rattle.world_records.specs.Written.{HasWritten}
use Rattle.world_records.proofs.WrittenLaws.{adds-then}
use Rattle.controller_jobs.specs.Bounds.{fixed_bounds_text, fixed_header, fixed_records}
use Rattle.controller_jobs.proofs.fixed_bounds_text.fixed_bounds_text.Goals as goal

pub returns : goal.returns
returns c =
    let net = c.args.net.now in
    let rows = c.args.plan.now in
    let begins = subst (HasWritten c.start-out.result) c.new.ensures.items c.start-out.ensures in
    let all = adds-then c.start-out.result c.write_record.new.out c.write_nodes.new.out (fixed_header ∷ []) (flat_map (fixed_records net rows) (range_with_len 0 (length net.node_names))) c.in_ok-write_record.ensures c.in_ok-write_nodes.ensures in
    IfOk-weaker c.finish.result _ (λ (text : Vec ℕ Global). text.items ≡ fixed_bounds_text net rows) (λ text gives. gives (fixed_bounds_text net rows) (all.adds [] begins)) c.finish.ensures
