use Rattle.std.proofs.Common.{◌≡◌, ◌++◌, take}
use Rattle.std.specs.List.{flat_map}
use Rattle.instance_form.specs.InstanceText.{cluster_line}
use Rattle.instance_form.proofs.writing.write_list.Given as goal

-- the lines of the clusters so far stand after what was written before
abbrev pub invariant-loop-cluster : goal.invariant-loop-cluster
invariant-loop-cluster l = l.text.items ≡ l.initial.text.items ++ flat_map (cluster_line l.version l.phase) (take l.cluster-index l.list)
