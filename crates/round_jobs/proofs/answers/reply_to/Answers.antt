use Rattle.std.proofs.Common.{Some, None, subst, sym, ◌∙◌, rules}
use Rattle.std.specs.Prelude.{IfOk}
use Rattle.std.proofs.lemmas.Result.{IfErr-weaker, IfOk-weaker}
use Rattle.round_jobs.specs.Kinds.{StateText}
use Rattle.round_jobs.specs.Gathering.{IsReply, OrNoMemory}
use Rattle.round_jobs.specs.Requests.{Asks, OfAll, OfNames, OfNext, names_in}
use Rattle.round_jobs.specs.Serving.{IsFirstRefused, IsRefused, NextText}
use Rattle.round_jobs.proofs.GatherLaws.{asks-names, asks-next, why-of}
use Rattle.round_jobs.proofs.answers.reply_to.Goals as goal

pub returns-then-asks_next-clause-ok : goal.returns-then-asks_next-clause-ok
returns-then-asks_next-clause-ok c = λ records kept.
    subst (λ (asks : Asks). IfOk c.next_round.result (IsReply c.args.net.now records c.args.text.now asks)) (asks-next c.args.last.now (sym c.asks_next.ensures ∙ c.if-asks_next.true)) (c.next_round.ensures.ok records kept)

pub returns-then-asks_next-clause-refused : goal.returns-then-asks_next-clause-refused
returns-then-asks_next-clause-refused c = λ records kept.
    IfErr-weaker c.next_round.result (OrNoMemory (IsRefused (NextText c.args.net.now records) c.args.text.now)) _
    (λ why is lines e. why-of c.args.net.now records c.args.text.now c.args.last.now lines OfNext why e (asks-next c.args.last.now (sym c.asks_next.ensures ∙ c.if-asks_next.true)) (search rules) is) (c.next_round.ensures.refused records kept)

pub returns-in-None-clause-ok : goal.returns-in-None-clause-ok
returns-in-None-clause-ok c = λ records kept.
    subst (λ (asks : Asks). IfOk c.all_nodes.result (IsReply c.args.net.now records c.args.text.now asks)) (asks-names c.args.last.now None (sym c.asks_next.ensures ∙ c.if-asks_next.false) c.in-None.ensures)
    (IfOk-weaker c.all_nodes.result _ (IsReply c.args.net.now records c.args.text.now OfAll) (λ reply is. is records) c.all_nodes.ensures.ok)

pub returns-in-None-clause-refused : goal.returns-in-None-clause-refused
returns-in-None-clause-refused c = λ records kept.
    IfErr-weaker c.all_nodes.result (OrNoMemory (IsRefused (StateText c.args.net.now) c.args.text.now)) _
    (λ why is lines e. why-of c.args.net.now records c.args.text.now c.args.last.now lines OfAll why e (asks-names c.args.last.now None (sym c.asks_next.ensures ∙ c.if-asks_next.false) c.in-None.ensures) (search rules) is) c.all_nodes.ensures.refused

pub returns-in-Some-clause-ok : goal.returns-in-Some-clause-ok
returns-in-Some-clause-ok c = λ records kept.
    subst (λ (asks : Asks). IfOk c.nodes.result (IsReply c.args.net.now records c.args.text.now asks)) (asks-names c.args.last.now (Some c.in-Some.names.now) (sym c.asks_next.ensures ∙ c.if-asks_next.false) c.in-Some.ensures)
    (IfOk-weaker c.nodes.result _ (IsReply c.args.net.now records c.args.text.now (OfNames (names_in c.in-Some.names.now))) (λ reply is. is records) c.nodes.ensures.ok)

pub returns-in-Some-clause-refused : goal.returns-in-Some-clause-refused
returns-in-Some-clause-refused c = λ records kept.
    IfErr-weaker c.nodes.result (OrNoMemory (IsFirstRefused c.args.net.now c.args.text.now (names_in c.in-Some.names.now))) _
    (λ why is lines e. why-of c.args.net.now records c.args.text.now c.args.last.now lines (OfNames (names_in c.in-Some.names.now)) why e (asks-names c.args.last.now (Some c.in-Some.names.now) (sym c.asks_next.ensures ∙ c.if-asks_next.false) c.in-Some.ensures) (search rules) is) c.nodes.ensures.refused
