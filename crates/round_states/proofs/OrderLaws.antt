-- Records in their order, and the begin of the round.
use Rattle.std.proofs.Common.{◌≡◌, ℕ, ◌/◌, ◌<◌, ◌≤◌, List, [], ◌∷◌, ◌++◌, length, get_or, take, sym, ◌∙◌, subst, inl, inr, arith, length-append}
use Rattle.std.proofs.lemmas.Bool.{cases_lt}
use Rattle.std.proofs.lemmas.List.{take-append-le, take_all}
use Rattle.std.proofs.lemmas.Nat.{div-add-mod'}
use Rattle.std.proofs.Math.Nat.{zero-mod}
use Rattle.std.proofs.Math.Seq.{get_or-append_seam}
use Rattle.std.proofs.Math.ListN.{get_or-append}
use Rattle.net_parts.proofs.OutlineLaws.{known-most}
use Rattle.net_parts.specs.Limits.{most_seconds}
use Rattle.net_parts.specs.Numbers.{Net}
use Rattle.road_net.specs.Network.{IsNetwork}
use Rattle.round_states.specs.declared.entries.Entry.{Entry}
use Rattle.round_states.specs.declared.entries.StateRecord.{StateRecord}
use Rattle.round_states.specs.declared.entries.StateRecord.TheVariants as said
use Rattle.round_states.specs.Order.{AreInOrder, FitsAfter, IsBegin, IsFirstSaid, begin_said, now_of}
use Rattle.round_states.specs.States.{begin_of}

-- one record more
pub order-push : (net : Net) (es : List Entry) (e : Entry) → AreInOrder net es → FitsAfter net es e → AreInOrder net (es ++ e ∷ [])
order-push net es e order fits k d h = elim (cases_lt k (length es)) [
  | inl below ↦ subst (λ l. FitsAfter net l (get_or (es ++ e ∷ []) k d)) (sym (take-append-le k es (e ∷ []) (omega (arith, below)))) (subst (FitsAfter net (take k es)) (sym (get_or-append es (e ∷ []) d k below)) (order k d below))
  | inr over ↦
      let at : k ≡ length es = omega (arith, over, h, length-append es (e ∷ [])) in
      let front : take (length es) (es ++ e ∷ []) ≡ es = take-append-le (length es) es (e ∷ []) (omega arith) ∙ take_all (length es) es (omega arith) in
      subst (λ j. FitsAfter net (take j (es ++ e ∷ [])) (get_or (es ++ e ∷ []) j d)) (sym at) (subst (λ l. FitsAfter net l (get_or (es ++ e ∷ []) (length es) d)) (sym front) (subst (FitsAfter net es) (sym (get_or-append_seam es e [] d)) fits))
]

-- a record among others stands after those before it
pub order-middle : (net : Net) (front : List Entry) (e : Entry) (back : List Entry) → AreInOrder net (front ++ e ∷ back) → FitsAfter net front e
order-middle net front e back order =
    let below : length front < length (front ++ e ∷ back) = omega (arith, length-append front (e ∷ back)) in
    let same : take (length front) (front ++ e ∷ back) ≡ front = take-append-le (length front) front (e ∷ back) (omega arith) ∙ take_all (length front) front (omega arith) in
    subst (λ l. FitsAfter net l e) same (subst (FitsAfter net (take (length front) (front ++ e ∷ back))) (get_or-append_seam front e back e) (order (length front) e below))

first-begin : (net : Net) (content : StateRecord) → IsFirstSaid net content → IsBegin net (begin_said content)
first-begin net (said.Now second) is = is
first-begin net (said.Green green) is = absurd is
first-begin net (said.Queue queue) is = absurd is
first-begin net (said.Coming row) is = absurd is
first-begin net (said.Version version) is = absurd is
first-begin net (said.Row row) is = absurd is
first-begin net said.Plan is = absurd is

-- a round begins when records in order say so
pub begin-now : (net : Net) → IsNetwork net → (es : List Entry) → AreInOrder net es → IsBegin net (now_of es)
begin-now net network [] order = record { early = omega arith; step = zero-mod net.run.step }
begin-now net network (e ∷ es) order = first-begin net e.content (order 0 e (omega arith))

-- the round that begins in a second begins there
pub begin-round : (net : Net) (now : ℕ) → IsBegin net now → now ≡ begin_of net (now / net.run.step)
begin-round net now begin = let e = div-add-mod' now net.run.step in let f = rw begin.step at e in omega (arith, f)

-- no round begins later than a day
pub begin-bound : (net : Net) → IsNetwork net → (now : ℕ) → IsBegin net now → now ≤ most_seconds
begin-bound net network now begin = omega (arith, begin.early, known-most net network.outline)
