use Rattle.std.proofs.Common.{◌≡◌, length, ◌∙◌, arith}
use Rattle.net_threads.proofs.Passes.{all-known, most-known, same-boards}
use Rattle.net_threads.proofs.TaskLists.{kept-actors, kept-passes, kept-settings}
use Rattle.net_threads.proofs.all_nodes.NodeTasks.meeting.Goals as goal

pub tell-requires : goal.tell-requires
tell-requires g c =
    let i = c.loop-k.invariant in
    let count : c.len-k-end.result ≡ length c.args.self.now.all.items = omega (arith, c.len-k-end.ensures, c.args.self.now.all.ok.0) in
    record {
      boards = (
        i.boards,
        same-boards c.args.self.now.all.items c.loop-k.self.all.items c.loop-k.k c.len-k-end.result c.index_mut-in-loop-k.result.now c.index_mut-in-loop-k.ensures.value i.actors c.loop-k-test.true count i.passes c.args.boards.now.id c.requires.boards,
      );
    }

pub loop-k-preserved : goal.loop-k-preserved
loop-k-preserved g c =
    let i = c.loop-k.invariant in
    let now = c.loop-k.self.all.items in
    let t = c.tell.new.self in
    let d = c.index_mut-in-loop-k.result.now in
    let at = c.index_mut-in-loop-k.ensures.value in
    let e = c.tell.ensures in
    let count : c.len-k-end.result ≡ length c.args.self.now.all.items = omega (arith, c.len-k-end.ensures, c.args.self.now.all.ok.0) in
    record {
      actors = kept-actors now c.loop-k.k d t at e.actor ∙ i.actors;
      passes = kept-passes now c.loop-k.k d t at e.pass ∙ i.passes;
      settings = kept-settings now c.loop-k.k d t at e.setting ∙ i.settings;
      boards = e.boards ∙ i.boards;
      most = most-known c.args.self.now.all.items now c.loop-k.k c.len-k-end.result d at i.actors c.loop-k-test.true count i.passes c.loop-k.meeting.known c.tell.new.meeting.known i.most e.known;
      known = all-known c.args.self.now.all.items now c.loop-k.k c.len-k-end.result d at i.actors c.loop-k-test.true count i.passes c.loop-k.meeting.known c.tell.new.meeting.known i.known e.known;
    }
