use Rattle.runs.proofs.CompleteLaws.{found, place-inside}
use Rattle.runs.proofs.records.RunRecord.plan.Goals as goal

pub bounds-as_slice-place : goal.bounds-as_slice-place
bounds-as_slice-place c = place-inside c.args.net.now c.args.self.now c.args.round c.args.node c.nodes.result c.as_slice.result.now c.requires.whole c.requires.round c.requires.node c.nodes.ensures.value c.as_slice.ensures

pub returns-clause-among : goal.returns-clause-among
returns-clause-among c = (found c.args.net.now c.args.self.now c.args.round c.args.node c.nodes.result c.as_slice.result.now c.index-as_slice-place.result c.requires.whole c.requires.round c.requires.node c.nodes.ensures.value c.as_slice.ensures c.index-as_slice-place.is).0

pub returns-clause-round : goal.returns-clause-round
returns-clause-round c = (found c.args.net.now c.args.self.now c.args.round c.args.node c.nodes.result c.as_slice.result.now c.index-as_slice-place.result c.requires.whole c.requires.round c.requires.node c.nodes.ensures.value c.as_slice.ensures c.index-as_slice-place.is).1

pub returns-clause-node : goal.returns-clause-node
returns-clause-node c = (found c.args.net.now c.args.self.now c.args.round c.args.node c.nodes.result c.as_slice.result.now c.index-as_slice-place.result c.requires.whole c.requires.round c.requires.node c.nodes.ensures.value c.as_slice.ensures c.index-as_slice-place.is).2
