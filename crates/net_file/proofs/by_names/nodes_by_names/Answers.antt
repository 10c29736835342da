use Rattle.std.proofs.Common.{arith}
use Rattle.std.proofs.lemmas.List.FromFn.{map-range_with_len_more}
use Rattle.net_file.specs.ByNames as spec
use Rattle.net_parts.specs.Parts.{net_of}
use Rattle.net_file.proofs.by_names.nodes_by_names.Goals as goal

pub loop-n-preserved : goal.loop-n-preserved
loop-n-preserved c = rw (c.in_ok-push.ensures.items, c.loop-n.invariant, c.in_ok-node_by_names.ensures, map-range_with_len_more (spec.node_by_names (net_of c.args.parts.now) c.args.third) 0 c.loop-n.n c.loop-n.n (omega arith))
