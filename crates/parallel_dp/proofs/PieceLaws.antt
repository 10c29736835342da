-- The joined successors of two lists are the successors of both.
use Rattle.std.proofs.Common.{◌≡◌, ℕ, ◌≤◌, ◌⊎◌, ◌++◌, List, Option, Some, IfSome, inl, inr, subst, sym, ◌∙◌, arith}
use Rattle.std.specs.Prelude.{Contains}
use Rattle.std.proofs.lemmas.List.Elements.{All-contains, All-weaker, Contains-append_left, Contains-append_right, Contains-append_cases}
use Rattle.schedule_meaning.specs.Instances.{Problem}
use Rattle.dp_certificate.specs.Prefixes.{Stage, Key, key_of, stage_of}
use Rattle.dp_certificate.specs.Whole.{IsOfPrefix, IsWhole}
use Rattle.dp_certificate.specs.Proves.{HasEntry, key_of_entry}
use Rattle.dp_certificate.specs.declared.Entry.{Entry}
use Rattle.parallel_dp.specs.Pieces.{AreLeastOf, IsJoinOf, IsNextOf, IsOf, IsReachedFrom}
use Rattle.parallel_dp.proofs.Rising.{AreCovered, same-by-cover}

-- what is reached from a part is reached from the whole
more : (p : Problem) (xs ys : List Entry) → ((e : Entry) → Contains xs e → Contains ys e) → (s : Stage) → IsReachedFrom p xs s → IsReachedFrom p ys s
more p xs ys inside s r = record { from = r.from; among = inside r.from r.among; phase = r.phase; leads = r.leads }

of-more : (P Q : Stage → Type 0) → ((s : Stage) → P s → Q s) → (e : Entry) → IsOf P e → IsOf Q e
of-more P Q more e o = record { stage = o.stage; holds = more o.stage o.holds; key = o.key; delay = o.delay }

-- an entry of one of two lists has one in their join that is no worse
joined-less : (a b j : List Entry) → IsJoinOf a b j → (key : Key) (most : ℕ) → (e : Entry) → Contains a e ⊎ Contains b e → key_of_entry e ≡ key → e.delay ≤ most → HasEntry j key most
joined-less a b j join key most e among same less =
    let there = join.all e among in
    record { entry = there.entry; among = there.among; key_is = there.key_is ∙ same; delay = omega (arith, there.delay, less) }

-- The law of pieces.
pub next-of-both : (p : Problem) (xs ys a b j : List Entry) → IsNextOf p xs a → IsNextOf p ys b → IsJoinOf a b j → IsNextOf p (xs ++ ys) j
next-of-both p xs ys a b j na nb join = record {
  rising = join.rising;
  each = All-weaker (λ e. Contains a e ⊎ Contains b e) (IsOf (IsReachedFrom p (xs ++ ys))) (λ e among. elim among [
    | inl l ↦ of-more (IsReachedFrom p xs) (IsReachedFrom p (xs ++ ys)) (more p xs (xs ++ ys) (λ e h. Contains-append_left xs ys e h)) e (All-contains (IsOf (IsReachedFrom p xs)) a e na.each l)
    | inr r ↦ of-more (IsReachedFrom p ys) (IsReachedFrom p (xs ++ ys)) (more p ys (xs ++ ys) (λ e h. Contains-append_right xs ys e h)) e (All-contains (IsOf (IsReachedFrom p ys)) b e nb.each r)
  ]) j join.each;
  all = λ s r. elim (Contains-append_cases xs ys r.from r.among) [
    | inl l ↦
        let there = na.all s (record { from = r.from; among = l; phase = r.phase; leads = r.leads }) in
        joined-less a b j join (key_of s) s.delay there.entry (inl there.among) there.key_is there.delay
    | inr q ↦
        let there = nb.all s (record { from = r.from; among = q; phase = r.phase; leads = r.leads }) in
        joined-less a b j join (key_of s) s.delay there.entry (inr there.among) there.key_is there.delay
  ];
}

-- entries of stages of which one thing holds are covered by the least of them
least-covers : (Holds : Stage → Type 0) (one other : List Entry) → AreLeastOf Holds one → AreLeastOf Holds other → AreCovered one other
least-covers Holds one other a b e among =
    let o = All-contains (IsOf Holds) one e a.each among in
    let there = b.all o.stage o.holds in
    record { entry = there.entry; among = there.among; key_is = there.key_is ∙ sym o.key; delay = omega (arith, there.delay, o.delay) }

-- There is one list of them.
pub only-least : (Holds : Stage → Type 0) (one other : List Entry) → AreLeastOf Holds one → AreLeastOf Holds other → one ≡ other
only-least Holds one other a b = same-by-cover one other a.rising b.rising (least-covers Holds one other a b) (least-covers Holds other one b a)

-- a fit prefix leads to this stage
abbrev IsLedBy : Problem → Stage → Type 0
IsLedBy p s = (u : List ℕ) × (stage_of p u ≡ Some s)

if-some : {X : Type 0} (P : X → Type 0) {o : Option X} {x : X} → o ≡ Some x → IfSome o P → P x
if-some P e h = subst (λ o. IfSome o P) e h

least-whole : (p : Problem) (entries : List Entry) → IsWhole p entries → AreLeastOf (IsLedBy p) entries
least-whole p entries whole = record {
  rising = whole.rising;
  each = All-weaker (IsOfPrefix p) (IsOf (IsLedBy p)) (λ e o. record { stage = o.stage; holds = (o.prefix, o.leads); key = o.key; delay = o.delay }) entries whole.each;
  all = λ s h. if-some (λ t. HasEntry entries (key_of t) t.delay) h.1 (whole.all h.0);
}

-- There is one whole table.
pub only-whole : (p : Problem) (one other : List Entry) → IsWhole p one → IsWhole p other → one ≡ other
only-whole p one other a b = only-least (IsLedBy p) one other (least-whole p one a) (least-whole p other b)
