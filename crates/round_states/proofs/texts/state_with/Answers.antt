use Rattle.std.proofs.Common.{List, ◌++◌, ◌∙◌, IfErr, ap, subst, sym}
use Rattle.std.proofs.lemmas.Result.{IfErr-weaker}
use Rattle.round_states.specs.declared.entries.Entry.{Entry}
use Rattle.round_states.specs.Faults.{IsEntryFault}
use Rattle.round_states.specs.Order.{AreInOrder}
use Rattle.round_states.proofs.KeptLaws.{entry-fault, order-with}
use Rattle.round_states.proofs.texts.state_with.Goals as goal

pub state_of-requires-clause-order : goal.state_of-requires-clause-order
state_of-requires-clause-order c =
    subst (AreInOrder c.args.net.now) (sym (c.as_slice-4.ensures.value ∙ c.in_ok-extend_from_slice.ensures.items ∙ ap (λ (l : List Entry). c.args.entries.items ++ l) c.as_slice-3.ensures.value))
    (order-with c.args.net.now c.args.entries.items c.args.kept.now.all.items _ _ c.begins_with_told.result c.as_slice.ensures.value c.as_slice-2.ensures.value c.begins_with_told.ensures c.if-begins_with_told.false c.requires.order c.requires.kept)

pub returns-clause-first : goal.returns-clause-first
returns-clause-first c =
    IfErr-weaker c.state_of.result (IsEntryFault c.args.net.now c.args.asked (c.args.entries.items ++ c.args.kept.now.all.items)) _
    (entry-fault c.args.net.now c.args.asked c.args.entries.items c.args.kept.now.all.items
    (order-with c.args.net.now c.args.entries.items c.args.kept.now.all.items _ _ c.begins_with_told.result c.as_slice.ensures.value c.as_slice-2.ensures.value c.begins_with_told.ensures c.if-begins_with_told.false c.requires.order c.requires.kept))
    (subst (λ (l : List Entry). IfErr c.state_of.result (IsEntryFault c.args.net.now c.args.asked l))
    (c.as_slice-4.ensures.value ∙ c.in_ok-extend_from_slice.ensures.items ∙ ap (λ (l : List Entry). c.args.entries.items ++ l) c.as_slice-3.ensures.value) c.state_of.ensures.first)
