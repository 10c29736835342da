use Rattle.std.proofs.Common.{List, ℕ, [], append-nil, subst}
use Rattle.std.proofs.lemmas.Result.{IfErr-weaker, IfOk-weaker}
use Rattle.record_text.specs.Forms.{AreRecordsOf, AreRefusedFor}
use Rattle.record_text.specs.Records.{records_of}
use Rattle.round_states.specs.Faults.{IsTextFault, cause_of}
use Rattle.round_states.specs.NextTexts.{IsStateTextWith, IsTextFaultWith}
use Rattle.round_states.specs.Texts.{form}
use Rattle.round_states.proofs.TextLaws.{fault-refutes}
use Rattle.round_states.proofs.texts.read_state.Goals as goal

pub read_state_with-requires-clause-kept : goal.read_state_with-requires-clause-kept
read_state_with-requires-clause-kept c = (c.none-none.ensures c.args.net.now).told

pub returns-clause-ok : goal.returns-clause-ok
returns-clause-ok c =
    IfOk-weaker c.read_state_with.result (IsStateTextWith c.args.net.now c.args.asked [] c.args.bytes.now) _
    (λ state is. subst (λ (l : List (List (List ℕ))). AreRecordsOf (form c.args.net.now c.args.asked) l state) (append-nil (records_of c.args.bytes.now)) is)
    (c.read_state_with.ensures.ok [] (c.none-none.ensures c.args.net.now))

pub returns-clause-first : goal.returns-clause-first
returns-clause-first c =
    IfErr-weaker c.read_state_with.result (IsTextFaultWith c.args.net.now c.args.asked [] c.args.bytes.now) _
    (λ fault is. subst (λ (l : List (List (List ℕ))). AreRefusedFor (form c.args.net.now c.args.asked) l (cause_of c.args.net.now c.args.asked fault)) (append-nil (records_of c.args.bytes.now)) is)
    (c.read_state_with.ensures.first [] (c.none-none.ensures c.args.net.now))

pub returns-clause-refused : goal.returns-clause-refused
returns-clause-refused c = IfErr-weaker c.read_state_with.result (IsTextFault c.args.net.now c.args.asked c.args.bytes.now) _ (fault-refutes c.args.net.now c.args.asked (records_of c.args.bytes.now)) (returns-clause-first c)
