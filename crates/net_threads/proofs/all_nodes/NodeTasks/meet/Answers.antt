use Rattle.std.proofs.Common.{◌≡◌, length, ap, ◌∙◌, arith}
use Rattle.link_boards.specs.Passes.{highest, raised}
use Rattle.link_boards.specs.Meetings.{MeetingView}
use Rattle.net_threads.specs.Tasks.{pass_of, passes_in}
use Rattle.net_threads.proofs.Passes.{partly-boards, partly-heard}
use Rattle.net_threads.proofs.TaskLists.{kept-actors, kept-settings, same-count}
use Rattle.net_threads.proofs.all_nodes.NodeTasks.meet.Goals as goal

pub hear-requires : goal.hear-requires
hear-requires g c =
    let i = c.loop-k.invariant in
    let all = c.args.self.now.all.items in
    let count : c.len-k-end.result ≡ length all = omega (arith, c.len-k-end.ensures, c.meeting-meeting.new.self.all.ok.0, same-count all c.meeting-meeting.new.self.all.items c.meeting-meeting.ensures.actors) in
    record {
      boards = (
        i.boards,
        partly-boards all c.loop-k.self.all.items c.loop-k.k c.len-k-end.result c.index_mut.result.now c.index_mut.ensures.value i.actors c.loop-k-test.true count (highest (passes_in all)) i.passes c.args.boards.now.id c.requires.boards,
      );
    }

pub loop-k-preserved : goal.loop-k-preserved
loop-k-preserved g c =
    let i = c.loop-k.invariant in
    let all = c.args.self.now.all.items in
    let now = c.loop-k.self.all.items in
    let t = c.hear.new.self in
    let d = c.index_mut.result.now in
    let e = c.hear.ensures in
    let count : c.len-k-end.result ≡ length all = omega (arith, c.len-k-end.ensures, c.meeting-meeting.new.self.all.ok.0, same-count all c.meeting-meeting.new.self.all.items c.meeting-meeting.ensures.actors) in
    record {
      actors = kept-actors now c.loop-k.k d t c.index_mut.ensures.value e.actor ∙ i.actors;
      passes = partly-heard all now c.loop-k.k c.len-k-end.result d c.index_mut.ensures.value i.actors c.loop-k-test.true count (highest (passes_in all)) i.passes t (e.pass ∙ ap (λ n. raised n (pass_of d)) i.known);
      settings = kept-settings now c.loop-k.k d t c.index_mut.ensures.value e.setting ∙ i.settings;
      boards = ap (λ (m : MeetingView). m.boards) e.meeting ∙ i.boards;
      known = ap (λ (m : MeetingView). m.known) e.meeting ∙ i.known;
    }
