use Rattle.std.proofs.Common.{◌≡◌, ◌∙◌, ℕ, map, length, List, [], All, subst, inl, inr, arith, slice_index_or}
use Rattle.std.proofs.lemmas.Bool.{cases_lt}
use Rattle.std.proofs.lemmas.List.{get_or_default}
use Rattle.control_flow.specs.declared.greens.Green.{Green}
use Rattle.road_net.specs.Through.{is_through}
use Rattle.world_records.specs.Records.{green_record, green_records}
use Rattle.world_records.specs.Told.{IsToldGreen, told_line, told_rows}
use Rattle.world_records.specs.Written.{Adds}
use Rattle.world_records.proofs.WrittenLaws.{adds-part, adds-parts}
use Rattle.world_records.proofs.shown.write_greens.Goals as goal

pub loop-node-preserved : goal.loop-node-preserved
loop-node-preserved c =
    let node : ℕ = c.loop-node.node in
    let line : c.rows.result.now ≡ slice_index_or c.args.lines.now node [] = c.rows.ensures.value ∙ c.index-lines-node.is ∙ get_or_default c.args.lines.now node c.index-lines-node.result [] (omega arith) in
    let through = is_through c.args.net.now node in (
      adds-part (green_records c.args.net.now c.args.lines.now c.args.end) node c.args.out.now c.loop-node.out c.write_greens_of.new.out c.loop-node.invariant.0
          (subst (λ (rows : List Green). Adds c.loop-node.out c.write_greens_of.new.out (map (green_record c.args.net.now node) (told_rows through c.args.end rows))) line c.in_ok-write_greens_of.ensures.records),
      λ k below. elim (cases_lt k node) [
        | inl earlier ↦ c.loop-node.invariant.1 k earlier
        | inr last ↦
            let same : node ≡ k = omega (arith, below, last) in
            subst (λ (n : ℕ). All IsToldGreen (told_line c.args.net.now c.args.lines.now c.args.end n)) same
            (subst (λ (rows : List Green). All IsToldGreen (told_rows through c.args.end rows)) line c.in_ok-write_greens_of.ensures.told)
      ],
    )

pub returns-clause-records : goal.returns-clause-records
returns-clause-records c = adds-parts (green_records c.args.net.now c.args.lines.now c.args.end) c.loop-node.node (length c.args.net.now.node_names) c.args.out.now c.loop-node.out (omega arith) c.loop-node.invariant.0

pub returns-clause-told : goal.returns-clause-told
returns-clause-told c = λ node below. c.loop-node.invariant.1 node (omega (arith, below))
