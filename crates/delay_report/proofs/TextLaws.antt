-- The records of a history, one after another, and the first at fault.
use Rattle.std.proofs.Common.{◌≡◌, ◌≢◌, ℕ, ◌<◌, List, [], ◌∷◌, ◌++◌, Option, Some, None, IsSomeAnd, Result, Ok, Err, OnOk, refl, sym, ap, ◌∙◌, subst, inl, inr, arith, append-nil}
use Rattle.std.specs.List.{concat}
use Rattle.std.proofs.lemmas.List.Folds.{concat-append}
use Rattle.std.proofs.lemmas.Option.{same_Some, none-some}
use Rattle.std.proofs.lemmas.Bool.{cases_lt}
use Rattle.foundation.proofs.EachLaws.{each-push}
use Rattle.foundation.proofs.OptionLaws.{bind-some}
use Rattle.net_parts.specs.Numbers.{Net, number_of}
use Rattle.histories.specs.Histories.{IsLawful, IsUnderWay}
use Rattle.histories.specs.Progress.{Course, HasCome}
use Rattle.histories.specs.Steps.{board_steps}
use Rattle.histories.proofs.HowFar.{come-over}
use Rattle.histories.proofs.Rounds.{all-done, next}
use Rattle.delay_report.specs.declared.faults.HistoryFault.{HistoryFault}
use Rattle.delay_report.specs.declared.faults.HistoryFault.TheVariants.{NoMemory, Header, Row, Node, Extra, Turn, Short}
use Rattle.world_records.specs.Records.{header}
use Rattle.delay_report.specs.Entries.{steps_by, steps_of, node_field_of}
use Rattle.delay_report.specs.Faults.{IsAtExtra, IsAtNode, IsAtTurn, cause_of}
use Rattle.record_text.specs.Faults.{HasAfterHeader}
use Rattle.record_text.specs.Forms.{AreReadAs, AreRecordsOf, AreRefusedFor}
use Rattle.record_text.specs.Walks.{IsFaultAmong, OrMemory}
use Rattle.record_text.proofs.FormLaws.{IsHere, Refutes, first-cause, one-parsed, refuted}
use Rattle.delay_report.specs.declared.texts.HistoryReader.{HistoryReader}
use Rattle.delay_report.specs.Readers.{AreTaken, HasRead, IsFaultAt}
use Rattle.delay_report.specs.Texts.{AreStepsOf, AreUnderWay, form}

-- nothing was taken
pub taken-none : (net : Net) (reader : HistoryReader) → reader.steps.items ≡ [] → HasCome net [] reader.progress → HasRead net [] reader
taken-none net reader none come =
    record { steps = []; reads = refl; history_is = none; come = subst (λ (h : List ℕ). HasCome net h reader.progress) (sym none) come }

-- one record more
pub taken-more : (net : Net) (fields : List (List ℕ)) (old new : HistoryReader) (result : Result (Unit {0}) HistoryFault) → OnOk result (AreTaken net fields old.steps.items new.steps.items new.progress)
    → OnOk result ((records : List (List (List ℕ))) → HasRead net records old → HasRead net (records ++ fields ∷ []) new)
taken-more net fields old new (Ok done) more = λ records taken. record {
  steps = taken.steps ++ more.more ∷ [];
  reads = each-push (steps_of net) records fields taken.steps more.more taken.reads more.parsed;
  history_is = more.new_is ∙ ap (λ l. l ++ more.more) taken.history_is ∙ ap (λ l. concat taken.steps ++ l) (sym (append-nil more.more)) ∙ sym (concat-append taken.steps (more.more ∷ []));
  come = more.come;
}
taken-more net fields old new (Err fault) more = tt

-- the rounds that are done, in the rounds of the network
way-of : (net : Net) (history : List ℕ) (p : Course) → HasCome net history p → IsUnderWay (board_steps net) net.run.rounds p.done history
way-of net history p come = subst (λ r. IsUnderWay (board_steps net) r p.done history) come.rounds come.way

-- the cause to refuse a record after those that were taken
module _ (net : Net) (before : List (List (List ℕ))) (reader : HistoryReader) (here : List (List ℕ)) (number : ℕ) (taken : HasRead net before reader) where
  so-far : AreReadAs (steps_of net) (AreUnderWay net) before taken.steps
  so-far = record {
    reads = taken.reads;
    lawful = record { done = reader.progress.done; way = subst (IsUnderWay (board_steps net) net.run.rounds reader.progress.done) taken.history_is (way-of net reader.steps.items reader.progress taken.come) };
  }

  refused-here : (fault : HistoryFault) → IsFaultAt net reader here number fault → IsHere (form net) before here number (cause_of net fault)
  refused-here NoMemory h = tt
  refused-here Header h = h
  refused-here (Row n) h = (h.0, taken.steps, so-far, h.1)
  refused-here (Node n) h = (h.0, taken.steps, so-far, h.1)
  refused-here (Extra n) h = (h.0, taken.steps, so-far, subst (λ (l : List ℕ). IsAtExtra net l here) taken.history_is h.1)
  refused-here (Turn n) h = (h.0, taken.steps, so-far, subst (λ (l : List ℕ). IsAtTurn net l here) taken.history_is h.1)
  refused-here Short h = h

-- the first record that is not taken is at fault
pub first-fault : (net : Net) (all : List (List (List ℕ))) (fault : HistoryFault) → OrMemory (λ _ why. why ≡ NoMemory) fault (HasAfterHeader header all (IsFaultAmong (HasRead net) (IsFaultAt net) fault)) → AreRefusedFor (form net) all (cause_of net fault)
first-fault net all fault =
    first-cause (form net) all (cause_of net fault) (λ _ why. why ≡ NoMemory) (HasRead net) (IsFaultAt net) fault
    (λ e memory. rw memory tt) (λ before reader here number taken refused. refused-here net before reader here number taken fault refused)

module _ (net : Net) (all : List (List (List ℕ))) (reader : HistoryReader) (taken : HasAfterHeader header all (λ records. HasRead net records reader)) where
  -- all rounds are done
  pub taken-all : IsLawful net reader.steps.items → AreRecordsOf (form net) all reader.steps.items
  taken-all lawful = record { records = taken.records; are = taken.are; parsed = taken.after.steps; reads = taken.after.reads; is = record { history_is = taken.after.history_is; lawful = lawful } }

  -- or not all
  pub taken-short : (IsLawful net reader.steps.items → ⊥) → AreRefusedFor (form net) all (cause_of net Short)
  unfolding so-far
  taken-short other =
      let read = so-far net taken.records reader [] 0 taken.after in
      let most = taken.after.come.way.most in
      let rounds = taken.after.come.rounds in
      let early : reader.progress.done < net.run.rounds = elim (cases_lt reader.progress.done reader.progress.rounds) [
        | inl less ↦ omega (arith, less, rounds)
        | inr more ↦ absurd (other (come-over net reader.steps.items reader.progress taken.after.come (omega (arith, most, more))))
      ] in
      record { records = taken.records; are = taken.are; after = (taken.after.steps, read, record { under_way = read.lawful; early = early }) }

-- a record that tells nothing, or names no node, has no steps
none-parsed : (net : Net) (fields : List (List ℕ)) (more : List ℕ) → node_field_of fields ≡ None → steps_of net fields ≡ Some more → ⊥
unfolding steps_of
none-parsed net fields more none some = let (name, is, rest) = bind-some (node_field_of fields) (steps_by net) more some in none-some name (sym none ∙ is)

none-named : (net : Net) (fields : List (List ℕ)) (more : List ℕ) → IsAtNode net fields → steps_of net fields ≡ Some more → ⊥
unfolding steps_of
none-named net fields more at some = let (name, is, rest) = bind-some (node_field_of fields) (steps_by net) more some in by name (rw is at at) rest
  where
    by : (name : Option (List ℕ)) → IsSomeAnd name (λ n. number_of net.node_names n ≡ None) → steps_by net name ≡ Some more → ⊥
    by None at rest = absurd at
    by (Some n) at rest = let (node, is, last) = bind-some (number_of net.node_names n) (λ node. Some (node ∷ [])) more rest in none-some node (sym at ∙ is)

-- a node that comes next in a lawful history
goes-on : (net : Net) (before : List (List ℕ)) (more : List ℕ) (rest : List (List ℕ)) (h : List ℕ) (node : ℕ) → AreStepsOf net (before ++ more ∷ rest) h → more ≡ node ∷ [] → (back : List ℕ) × IsLawful net (concat before ++ node ∷ back)
goes-on net before more rest h node is same =
    (concat rest, subst (IsLawful net) (is.history_is ∙ concat-append before (more ∷ rest) ∙ ap (λ l. concat before ++ (l ++ concat rest)) same) is.lawful)

-- what is at fault is told by no records of a history
refutes : (net : Net) (fault : HistoryFault) → fault ≢ NoMemory → Refutes (form net) (cause_of net fault)
refutes net NoMemory other = other refl
refutes net Header other = tt
refutes net (Row n) other = λ before here more rest h lawful none reads is. none-parsed net here more none reads
refutes net (Node n) other = λ before here more rest h lawful at reads is. none-named net here more at reads
refutes net (Extra n) other = λ before here more rest h lawful at reads is.
    let (node, one, over) = at in
    let (back, all) = goes-on net before more rest h node is (same_Some more (node ∷ []) (sym reads ∙ one)) in
    let less = (next (board_steps net) net.run.rounds lawful.done (concat before) lawful.way node back all).0 in
    let done = all-done (board_steps net) net.run.rounds lawful.done (concat before) lawful.way over in
    omega arith
refutes net (Turn n) other = λ before here more rest h lawful at reads is.
    let (node, one, own) = at in
    let (back, all) = goes-on net before more rest h node is (same_Some more (node ∷ []) (sym reads ∙ one)) in
    let less = (next (board_steps net) net.run.rounds own.done (concat before) own.way node back all).1 in
    omega (arith, own.all)
refutes net Short other = λ steps h lawful early is.
    let done = all-done (board_steps net) net.run.rounds early.under_way.done (concat steps) early.under_way.way (subst (IsLawful net) is.history_is is.lawful) in
    omega (arith, early.early)

-- a text with a fault stands for no history
pub fault-refutes : (net : Net) (all : List (List (List ℕ))) (fault : HistoryFault) → AreRefusedFor (form net) all (cause_of net fault) → fault ≢ NoMemory → (h : List ℕ) → AreRecordsOf (form net) all h → ⊥
fault-refutes net all fault refused other = refuted (form net) all (cause_of net fault) (refutes net fault other) refused

-- records are those of one history at most
pub one-history : (net : Net) (all : List (List (List ℕ))) (one other : List ℕ) → AreRecordsOf (form net) all one → AreRecordsOf (form net) all other → one ≡ other
one-history net all one other a b = a.is.history_is ∙ ap concat (one-parsed (form net) all one other a b) ∙ sym b.is.history_is
