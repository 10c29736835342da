use Rattle.std.proofs.Common.{arith}
use Rattle.std.proofs.lemmas.List.FromFn.{map-range_with_len_more}
use Rattle.net_file.specs.ByNames as spec
use Rattle.net_parts.specs.Parts.{net_of}
use Rattle.net_file.proofs.by_names.links_by_names.Goals as goal

pub loop-l-preserved : goal.loop-l-preserved
loop-l-preserved c = rw (c.in_ok-push.ensures.items, c.loop-l.invariant, c.in_ok-link_by_names.ensures, map-range_with_len_more (spec.link_by_names (net_of c.args.parts.now)) 0 c.loop-l.l c.loop-l.l (omega arith))
