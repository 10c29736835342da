use Rattle.std.proofs.Common.{◌≡◌, ℕ, length, subst, inl, inr, arith}
use Rattle.std.proofs.lemmas.Bool.{cases_lt}
use Rattle.net_simulator.specs.Counts.{counts_at}
use Rattle.world_records.specs.Records.{link_record_of}
use Rattle.world_records.specs.Told.{AreToldCounts}
use Rattle.world_records.proofs.WrittenLaws.{adds-next, adds-numbers}
use Rattle.world_records.proofs.shown.write_links.Goals as goal

pub loop-link-preserved : goal.loop-link-preserved
loop-link-preserved c =
    let link : ℕ = c.loop-link.link in (
      adds-next (link_record_of c.args.net.now c.args.totals.now) link c.args.out.now c.loop-link.out c.write_link.new.out c.loop-link.invariant.0 c.in_ok-write_link.ensures.records,
      λ k below. elim (cases_lt k link) [
        | inl earlier ↦ c.loop-link.invariant.1 k earlier
        | inr last ↦
            let same : link ≡ k = omega (arith, below, last) in
            subst (λ (n : ℕ). AreToldCounts (counts_at c.args.totals.now n)) same c.in_ok-write_link.ensures.told
      ],
    )

pub returns-clause-records : goal.returns-clause-records
returns-clause-records c = adds-numbers (link_record_of c.args.net.now c.args.totals.now) c.loop-link.link (length c.args.net.now.link_names) c.args.out.now c.loop-link.out (omega arith) c.loop-link.invariant.0

pub returns-clause-counts : goal.returns-clause-counts
returns-clause-counts c = λ link below. c.loop-link.invariant.1 link (omega (arith, below))
