use Rattle.std.proofs.Common.{◌≡◌, ◌++◌, ◌∷◌, [], length, sym, arith}
use Rattle.std.proofs.lemmas.List.{length_push}
use Rattle.text_lines.specs.Many.{many_at}
use Rattle.text_lines.proofs.ManyLaws.{many_go_on, many_end}
use Rattle.instance_form.specs.Lines.{cluster_line_at}
use Rattle.instance_form.proofs.lists.clusters.Goals as goal

pub loop-cluster-preserved : goal.loop-cluster-preserved
loop-cluster-preserved c =
    let front = c.loop-cluster.list.items in
    let bytes = c.args.bytes.now in
    let pushed : c.push.new.self.items ≡ front ++ c.in-Some.cluster ∷ [] = c.in_ok-push.ensures.items in
    let shorter = c.in-Some.ensures.shorter in
    let few = c.loop-cluster.invariant.few in
    record {
      read = rw (pushed, length_push front c.in-Some.cluster) (many_go_on (cluster_line_at c.args.version c.args.phase) front (length bytes) c.loop-cluster.rest.now c.in-Some.cluster c.in-Some.after.now (many_at (cluster_line_at c.args.version c.args.phase) (length bytes) bytes) (omega arith) (sym c.in-Some.ensures.exact) c.loop-cluster.invariant.read);
      few = rw (pushed, length_push front c.in-Some.cluster) (omega arith);
    }

pub returns-clause-exact : goal.returns-clause-exact
returns-clause-exact c = many_end (cluster_line_at c.args.version c.args.phase) c.loop-cluster.list.items _ c.loop-cluster.rest.now _ (sym c.in_default.ensures.exact) c.loop-cluster.invariant.read
