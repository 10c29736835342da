-- The calls that a pass has made since.
use Rattle.std.proofs.Common.{◌≡◌, ◌+◌, ◌-◌, ◌<◌, ◌≤◌, List, [], ◌∷◌, ◌++◌, All, refl, sym, ap, ◌∙◌, arith, append-nil, append_assoc, length-append}
use Rattle.std.proofs.lemmas.List.{length_push}
use Rattle.std.proofs.lemmas.List.Elements.{All-append, All-cons, All-nil, All-weaker}
use Rattle.board_model.specs.declared.calls.Call.{Call}
use Rattle.link_boards.specs.Passes.{PassView, after_call}
use Rattle.node_rounds.specs.Nodes.{HasMade}

-- what holds of all holds with one more
pub all-push : {X : Type 0} (P : X → Type 0) (xs : List X) (x : X) → All P xs → P x → All P (xs ++ x ∷ [])
all-push P xs x all one = All-append P xs (x ∷ []) all (All-cons P x [] one (All-nil P))

pub made-none : (p : PassView) → HasMade p p []
made-none p = record { same = (refl, refl); left = (let z : p.left + 0 ≡ p.left = omega arith in z); added = sym (append-nil p.calls); later = All-nil _; known = omega arith }

pub made-more : (p q r : PassView) (calls : List Call) (call : Call) → HasMade p q calls → q.known ≤ call.stamp → r ≡ after_call q call → 0 < q.left → HasMade p r (calls ++ call ∷ [])
made-more p q r calls call made later is some =
    let left : r.left ≡ q.left - 1 = ap (λ (x : PassView). x.left) is in
    let known : r.known ≡ call.stamp + 1 = ap (λ (x : PassView). x.known) is in
    let had = made.left in
    let knew = made.known in
    record {
      same = (ap (λ (x : PassView). x.boards) is ∙ made.same.0, ap (λ (x : PassView). x.number) is ∙ made.same.1);
      left = (let long = length_push calls call in omega (arith, left, had, long));
      added = ap (λ (x : PassView). x.calls) is ∙ ap (λ l. l ++ call ∷ []) made.added ∙ append_assoc p.calls calls (call ∷ []);
      later = all-push (λ (c : Call). p.known ≤ c.stamp) calls call made.later (omega arith);
      known = omega arith;
    }

-- some calls, and then some more
pub made-both : (p q r : PassView) (first second : List Call) → HasMade p q first → HasMade q r second → HasMade p r (first ++ second)
made-both p q r first second a b =
    let x = a.left in
    let y = b.left in
    let u = a.known in
    let v = b.known in
    record {
      same = (b.same.0 ∙ a.same.0, b.same.1 ∙ a.same.1);
      left = omega (arith, x, y, length-append first second);
      added = b.added ∙ ap (λ l. l ++ second) a.added ∙ append_assoc p.calls first second;
      later = All-append (λ (c : Call). p.known ≤ c.stamp) first second a.later (All-weaker (λ (c : Call). q.known ≤ c.stamp) (λ (c : Call). p.known ≤ c.stamp) (λ c h. omega arith) second b.later);
      known = omega arith;
    }
