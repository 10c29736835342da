-- The entries that come to the least delay, from the end back, and the first sequence along them.
use Rattle.std.specs.Prelude.{option_and_then}
use Rattle.std.proofs.Common.{◌≡◌, ℕ, zero, suc, ◌+◌, ◌*◌, ◌<◌, ◌≤◌, ◌⊎◌, ◌&&◌, IsTrue, nat_eq, false, List, [], ◌∷◌, ◌++◌, length, get_or, take, All, Contains, Option, Some, None, IfNone, IfSome, IsSome, refl, sym, ap, subst, ◌∙◌, inl, inr, append-nil, append_assoc, length-append, arith}
use Rattle.std.proofs.lemmas.Bool.{cases_eq, cases_lt, eq-eqb, eqb-true, ne_eqb}
use Rattle.std.proofs.lemmas.List.{get_or_default, take_all, take_more}
use Rattle.std.proofs.lemmas.List.Elements.{All-contains, All-more, All-push, All-weaker, Contains-append_left, Contains-get_or, Contains-push}
use Rattle.schedule_meaning.specs.Best.{IsBest}
use Rattle.schedule_meaning.specs.Instances.{Problem, IsInstance}
use Rattle.schedule_meaning.specs.Timing.{delay_of}
use Rattle.schedule_meaning.specs.declared.planners.Answer.TheVariants.{Plan, NoPlan}
use Rattle.schedule_meaning.proofs.Sequences.{option-cases}
use Rattle.dp_certificate.specs.Certificates.{AreRising, IsBefore, IsEntry, digits_of, entry_at, no_entry}
use Rattle.dp_certificate.specs.NextEntry.{stage_of_next}
use Rattle.dp_certificate.specs.Places.{IsPlace}
use Rattle.dp_certificate.specs.Prefixes.{Stage, first_stage, stage_after, stage_from, stage_of}
use Rattle.dp_certificate.specs.Proves.{stage_of_entry}
use Rattle.dp_certificate.specs.declared.Entry.{Entry}
use Rattle.dp_certificate.proofs.KeyPlaces.{before-itself, entry-there}
use Rattle.dp_certificate.proofs.Stages.{delay-of-stage, from-begins, from-some, last-of, some-same, stage-after-phase, stage-alike, stage-of-delay, stage-push}
use Rattle.forward_dp.specs.Numbers.{order_number}
use Rattle.forward_dp.proofs.Bounds.{stage-bounds}
use Rattle.forward_dp.proofs.OrderLaws.{best-none, best-plan, order-push}
use Rattle.forward_dp.proofs.RowLaws.{entry-stage}
use Rattle.forward_dp.proofs.Wholes.{entry-bounds}
use Rattle.parallel_dp.specs.Joins.{Precedes}
use Rattle.parallel_dp.specs.Next.{HasKeyAt, HasNoKeyAt}
use Rattle.parallel_dp.specs.Pieces.{IsLayer, IsLed, IsOf}
use Rattle.parallel_dp.specs.Ways.{AreThose, AreWays, ComesTo, IsFirstBest, IsFirstWay, IsLeastDelay, IsOnWay, LeadsInto, NoneLeads, servings_of}
use Rattle.parallel_dp.proofs.LayerLaws.{stage-here}
use Rattle.parallel_dp.proofs.Rising.{one-of-key, rising-pairs, rising-push, same-digits, same-entry}

-- ---- some entries of a layer

-- of the first n entries those of which this holds
pub record AreThoseOf (Holds : Entry → Type 0) (layer : List Entry) (n : ℕ) (those : List Entry) : Type 0 where
  pub rising : AreRising those
  pub each : All (λ e. Contains (take n layer) e × Holds e) those
  pub all : All (λ e. Holds e → Contains those e) (take n layer)

taken : (n : ℕ) (xs : List Entry) (x : Entry) → Contains (take n xs) x → (j : ℕ) × (j < n) × (j < length xs) × (get_or xs j x ≡ x)
taken zero xs x h = absurd (omega (arith, h.1))
taken (suc n) [] x h = absurd (omega (arith, h.1))
taken (suc n) (y ∷ xs) x (zero, inside, at) = (0, omega arith, omega arith, at)
taken (suc n) (y ∷ xs) x (suc i, inside, at) = (let o = taken n xs x (i, omega (arith, inside), at) in (suc o.0, omega (arith, o.1), omega (arith, o.2), o.3))

pub none-of : (Holds : Entry → Type 0) (layer : List Entry) → AreThoseOf Holds layer 0 []
none-of Holds layer = record { rising = λ k inside. absurd (omega arith); each = λ k d inside. absurd (omega arith); all = λ k d inside. absurd (omega arith) }

module _ (Holds : Entry → Type 0) (layer : List Entry) (n : ℕ) (those : List Entry) (e d : Entry) (inside : n < length layer) (here : get_or layer n d ≡ e) (so : AreThoseOf Holds layer n those) where
  longer : (x : Entry) → Contains (take n layer) x → Contains (take (n + 1) layer) x
  longer x h = subst (λ xs. Contains xs x) (sym (take_more layer n d inside)) (Contains-append_left (take n layer) (get_or layer n d ∷ []) x h)

  each-longer : All (λ x. Contains (take (n + 1) layer) x × Holds x) those
  each-longer = All-weaker (λ x. Contains (take n layer) x × Holds x) (λ x. Contains (take (n + 1) layer) x × Holds x) (λ x h. (longer x h.0, h.1)) those so.each

  pub skip : (Holds e → ⊥) → AreThoseOf Holds layer (n + 1) those
  skip not = record {
    rising = so.rising;
    each = each-longer;
    all = All-more (λ x. Holds x → Contains those x) layer n d inside so.all (λ h. absurd (not (subst Holds here h)));
  }

  pub keep : AreRising layer → Holds e → AreThoseOf Holds layer (n + 1) (those ++ e ∷ [])
  keep rising holds = record {
    rising = rising-push those e so.rising (All-weaker (λ x. Contains (take n layer) x × Holds x) (λ x. Precedes x e) (λ x h. below x (taken n layer x h.0)) those so.each);
    each =
        All-push (λ x. Contains (take (n + 1) layer) x × Holds x) those e each-longer
        (subst (λ xs. Contains xs e) (sym (take_more layer n d inside)) (subst (λ x. Contains (take n layer ++ x ∷ []) e) (sym here) (Contains-push (take n layer) e)), holds);
    all =
        All-more (λ x. Holds x → Contains (those ++ e ∷ []) x) layer n d inside
        (All-weaker (λ x. Holds x → Contains those x) (λ x. Holds x → Contains (those ++ e ∷ []) x) (λ x f h. Contains-append_left those (e ∷ []) x (f h)) (take n layer) so.all)
        (λ h. subst (Contains (those ++ e ∷ [])) (sym here) (Contains-push those e));
  }
    where
      below : (x : Entry) → (j : ℕ) × (j < n) × (j < length layer) × (get_or layer j x ≡ x) → Precedes x e
      below x (j, less, within, at) =
          subst (λ y. Precedes y e) at (subst (Precedes (get_or layer j x)) (get_or_default layer n x d inside ∙ here) (rising-pairs layer rising j n x less inside))

pub those-all : (Holds : Entry → Type 0) (layer : List Entry) (n : ℕ) (those : List Entry) → length layer ≤ n → AreThoseOf Holds layer n those → AreThose Holds layer those
those-all Holds layer n those past so =
    let whole = take_all n layer past in
    record {
      rising = so.rising;
      each = subst (λ xs. All (λ e. Contains xs e × Holds e) those) whole so.each;
      all = λ e h. All-contains (λ e. Holds e → Contains those e) layer e (subst (All (λ e. Holds e → Contains those e)) whole so.all) h;
    }

-- ---- options

pub is-some : {X : Type 0} (o : Option X) (Bad : Type 0) → IfNone o Bad → (Bad → ⊥) → IsSome o
is-some None Bad h f = absurd (f h)
is-some (Some x) Bad h f = refl

pub some-holds : {X : Type 0} (P : X → Type 0) (o : Option X) (x : X) → o ≡ Some x → IfSome o P → P x
some-holds P o x e h = subst (λ o. IfSome o P) e h

pub none-holds : {X : Type 0} (o : Option X) (P : Type 0) → ((x : X) → o ≡ Some x → ⊥) → IfNone o P → P
none-holds None P none h = h
none-holds (Some x) P none h = absurd (none x refl)

-- ---- one of some entries

pub among-key : (entries : List Entry) (e : Entry) (place : ℕ) (d : Entry) → AreRising entries → HasKeyAt entries e place → (IsTrue (nat_eq (get_or entries place d).delay e.delay) → Contains entries e) × (Contains entries e → IsTrue (nat_eq (get_or entries place d).delay e.delay))
among-key entries e place d rising at =
    let here : entry_at entries place ≡ get_or entries place d = get_or_default entries place no_entry d at.inside in (
      λ delay. (place, at.inside, get_or_default entries place e no_entry at.inside ∙ same-entry (entry_at entries place) e at.same (ap (λ (x : Entry). x.delay) here ∙ eqb-true (get_or entries place d).delay e.delay delay)),
      λ h. eq-eqb (get_or entries place d).delay e.delay
          (ap (λ (x : Entry). x.delay) (sym here ∙ one-of-key entries rising (entry_at entries place) e (Contains-get_or entries place no_entry at.inside) h at.same)),
    )

pub among-none : (entries : List Entry) (e : Entry) (place : ℕ) → AreRising entries → IsPlace entries e place → HasNoKeyAt entries e place → Contains entries e → ⊥
among-none entries e place rising at free h =
    let there = entry-there entries e place e.delay rising at (record { entry = e; among = h; key_is = refl; delay = omega arith }) in
    before-itself (digits_of e) (subst (IsBefore (digits_of e)) (same-digits (entry_at entries place) e there.1) (free there.0))

-- ---- stages

-- the delay so far changes nothing but the delay
from-alike : (p : Problem) (u : List ℕ) (s t : Stage) (d : ℕ) → stage_from p s u ≡ Some t → (c : ℕ) × (v : Stage) × (t.delay ≡ s.delay + c) × (v.delay ≡ d + c) × (stage_from p (record { counts = s.counts; head = s.head; delay = d }) u ≡ Some v)
from-alike p [] s t d e = (0, record { counts = s.counts; head = s.head; delay = d }, omega (arith, ap (λ (x : Stage). x.delay) (some-same s t e)), omega arith, refl)
from-alike p (k ∷ u) s t d e = from-begins p s t k u e (λ next en rest.
    let one = stage-alike p s d k next en in
    let more = from-alike p u next t (d + one.0) rest in
    (one.0 + more.0, more.1, omega (arith, one.1, more.2), omega (arith, more.3), from-some p (record { counts = s.counts; head = s.head; delay = d }) (record { counts = next.counts; head = next.head; delay = d + one.0 }) k u one.2 ∙ more.4))

from-append : (p : Problem) (u v : List ℕ) (s t : Stage) → stage_from p s u ≡ Some t → stage_from p s (u ++ v) ≡ stage_from p t v
from-append p [] v s t e = ap (λ x. stage_from p x v) (some-same s t e)
from-append p (j ∷ u) v s t e = from-begins p s t j u e (λ next en rest. from-some p s next j (u ++ v) en ∙ from-append p u v next t rest)

pushed : (p : Problem) (u : List ℕ) (s t : Stage) (k : ℕ) → stage_of p u ≡ Some s → stage_after p s k ≡ Some t → stage_of p (u ++ k ∷ []) ≡ Some t
pushed p u s t k e step = stage-push p (first_stage p) u k ∙ ap (option_and_then (λ x. stage_after p x k)) e ∙ step

no-phases : (u : List ℕ) → length u ≡ 0 → u ≡ []
no-phases [] e = refl
no-phases (k ∷ u) e = absurd (omega arith)

-- what comes to a delay by no servings has it
comes-none : (p : Problem) (delay : ℕ) (s : Stage) → ComesTo p delay 0 s → s.delay ≡ delay
comes-none p delay s c =
    let same : s ≡ c.end = some-same s c.end (ap (stage_from p s) (sym (no-phases c.rest c.long)) ∙ c.leads) in
    ap (λ (x : Stage). x.delay) same ∙ c.reached

-- nothing comes to less than it has
comes-low : (p : Problem) (delay left : ℕ) (s : Stage) → ComesTo p delay left s → s.delay ≤ delay
comes-low p delay left s c = (let o = from-alike p c.rest s c.end 0 c.leads in omega (arith, o.2, c.reached))

-- by one more it begins with a phase
comes-step : {P : Type 0} (p : Problem) (delay left : ℕ) (s : Stage) → ComesTo p delay (left + 1) s → ((k : ℕ) (next : Stage) → stage_after p s k ≡ Some next → ComesTo p delay left next → P) → P
comes-step {P = P} p delay left s c then = begins c.rest c.long c.leads
  where
    begins : (u : List ℕ) → length u ≡ left + 1 → stage_from p s u ≡ Some c.end → P
    begins [] long leads = absurd (omega arith)
    begins (k ∷ ks) long leads = from-begins p s c.end k ks leads (λ next en rest. then k next en (record { rest = ks; end = c.end; leads = rest; long = omega arith; reached = c.reached }))

-- these phases lead to an entry on the way, and no sequence of the least delay begins with others before them
pub record IsGoing (p : Problem) (delay : ℕ) (u : List ℕ) (left : ℕ) (e : Entry) : Type 0 where
  pub led : stage_of p u ≡ Some (stage_of_entry p e)
  pub long : length u + left ≡ servings_of p
  pub comes : ComesTo p delay left (stage_of_entry p e)
  pub first : (front back : List ℕ) → delay_of p (front ++ back) ≡ Some delay → length front ≡ length u → (order_number u < order_number front) ⊎ (u ≡ front)

module _ (p : Problem) (lawful : IsInstance p) where
  pub leads-none : (delay : ℕ) (ways : List Entry) (e : Entry) → (e.delay ≤ delay → NoneLeads p ways e (length p.plan)) → IsOnWay p delay ways e → ⊥
  leads-none delay ways e none h = none h.low h.phase h.next (stage-after-phase p lawful (stage_of_entry p e) (stage_of_next h.next) h.phase h.leads.0) h.leads

  pub going-entry : (delay : ℕ) (u : List ℕ) (left : ℕ) (e : Entry) → IsGoing p delay u left e → IsEntry p e
  going-entry delay u left e g = entry-bounds p lawful e (record { prefix = u; stage = stage_of_entry p e; leads = g.led; key = refl; delay = refl })

  -- an entry that a step leads to stands for what is next
  entry-next : (u : List ℕ) (s : Stage) (k : ℕ) (x : Entry) → stage_of p u ≡ Some s → stage_after p s k ≡ Some (stage_of_next x) → stage_of_entry p x ≡ stage_of_next x
  entry-next u s k x led step = stage-here p lawful (u ++ k ∷ []) (stage_of_next x) x (pushed p u s (stage_of_next x) k led step) refl refl

  next-entry : (u : List ℕ) (s t : Stage) (k : ℕ) (x : Entry) → stage_of p u ≡ Some s → stage_after p s k ≡ Some t → stage_of_entry p x ≡ t → stage_of_next x ≡ t
  next-entry u s t k x led step same =
      let b = stage-bounds p lawful (u ++ k ∷ []) t (pushed p u s t k led step) in
      let stale : t.head.fresh ≡ false = b.fresh ∙ ap (λ z. z && p.head.fresh) (ne_eqb (length (u ++ k ∷ [])) 0 (λ z. omega (arith, length-append u (k ∷ [])))) in
      ap (λ f. let y : Stage = record { counts = x.counts; head = record { phase = x.phase; since = x.since; at = x.at; fresh = f }; delay = x.delay } in y) (sym (ap (λ (y : Stage). y.head.fresh) same ∙ stale)) ∙ same

  -- ---- from the end back

  module _ (delay : ℕ) (least : IsLeastDelay p delay) where
    pub ways-end : (layer those : List Entry) → IsLayer p (servings_of p) layer → AreThose (λ e. e.delay ≡ delay) layer those → AreWays p delay 0 those
    ways-end layer those is are = record {
      rising = are.rising;
      each = All-weaker (λ e. Contains layer e × (e.delay ≡ delay)) (λ e. ComesTo p delay 0 (stage_of_entry p e))
          (λ e h. record { rest = []; end = stage_of_entry p e; leads = refl; long = refl; reached = h.1 }) those are.each;
      all = λ u s led long comes.
          let has = is.all s (record { prefix = u; long = omega (arith, long); leads = led }) in
          let o = All-contains (IsOf (IsLed p (servings_of p))) layer has.entry is.each has.among in
          let low = least.least o.holds.prefix o.stage o.holds.leads o.holds.long in
          let none = comes-none p delay s comes in
          let same : has.entry.delay ≡ delay = omega (arith, low, o.delay, has.delay, none) in
          (has.entry, are.all has.entry has.among same, stage-here p lawful u s has.entry led has.key_is (same ∙ sym none));
    }

    -- an entry on the way to the least delay has no more than it comes with
    as-dear : (n left : ℕ) (layer : List Entry) → IsLayer p n layer → n + left ≡ servings_of p → (u : List ℕ) (s : Stage) (e : Entry) → stage_of p u ≡ Some s → ComesTo p delay left s → Contains layer e → stage_of_entry p e ≡ record { counts = s.counts; head = s.head; delay = e.delay } → s.delay ≤ e.delay
    as-dear n left layer is total u s e led comes among same =
        let o = All-contains (IsOf (IsLed p n)) layer e is.each among in
        let other = from-alike p comes.rest s comes.end e.delay comes.leads in
        let here : stage_of_entry p e ≡ o.stage = stage-here p lawful o.holds.prefix o.stage e o.holds.leads o.key o.delay in
        let leads : stage_of p (o.holds.prefix ++ comes.rest) ≡ Some other.1 =
        from-append p o.holds.prefix comes.rest (first_stage p) o.stage o.holds.leads ∙ ap (λ x. stage_from p x comes.rest) (sym here ∙ same) ∙ other.4 in
        let low = least.least (o.holds.prefix ++ comes.rest) other.1 leads (omega (arith, length-append o.holds.prefix comes.rest, o.holds.long, comes.long, total)) in
        omega (arith, low, other.2, other.3, comes.reached)

    pub ways-into : (n left : ℕ) (layer ways those : List Entry) → n + (left + 1) ≡ servings_of p → IsLayer p n layer → AreWays p delay left ways → AreThose (IsOnWay p delay ways) layer those → AreWays p delay (left + 1) those
    ways-into n left layer ways those total is later are = record {
      rising = are.rising;
      each = All-weaker (λ e. Contains layer e × IsOnWay p delay ways e) (λ e. ComesTo p delay (left + 1) (stage_of_entry p e)) (λ e h. comes e h.0 h.1.phase h.1.next h.1.leads) those are.each;
      all = λ u s led long c. comes-step p delay left s c (λ k next step rest.
          let x = later.all (u ++ k ∷ []) next (pushed p u s next k led step) (omega (arith, length-append u (k ∷ []), long)) rest in
          let has = is.all s (record { prefix = u; long = omega (arith, long, total); leads = led }) in
          let alike = entry-stage p lawful u s has.entry led has.key_is in
          let dear = as-dear n (left + 1) layer is total u s has.entry led c has.among alike in
          let here : stage_of_entry p has.entry ≡ s = stage-here p lawful u s has.entry led has.key_is (omega (arith, dear, has.delay)) in
          let leads : stage_after p (stage_of_entry p has.entry) k ≡ Some (stage_of_next x.0) =
          ap (λ y. stage_after p y k) here ∙ step ∙ ap (λ y. let o : Option Stage = Some y in o) (sym (next-entry u s next k x.0 led step x.2)) in
          (has.entry, are.all has.entry has.among (record { low = omega (arith, has.delay, comes-low p delay (left + 1) s c); phase = k; next = x.0; leads = (leads, x.1) }), here));
    }
      where
        comes : (e : Entry) → Contains layer e → (k : ℕ) (x : Entry) → LeadsInto p ways e k x → ComesTo p delay (left + 1) (stage_of_entry p e)
        comes e among k x leads =
            let o = All-contains (IsOf (IsLed p n)) layer e is.each among in
            let here : stage_of_entry p e ≡ o.stage = stage-here p lawful o.holds.prefix o.stage e o.holds.leads o.key o.delay in
            let same = entry-next o.holds.prefix o.stage k x o.holds.leads (ap (λ y. stage_after p y k) (sym here) ∙ leads.0) in
            let rest = All-contains (λ e. ComesTo p delay left (stage_of_entry p e)) ways x later.each leads.1 in
            record {
              rest = k ∷ rest.rest;
              end = rest.end;
              leads = from-some p (stage_of_entry p e) (stage_of_next x) k rest.rest leads.0 ∙ ap (λ y. stage_from p y rest.rest) (sym same) ∙ rest.leads;
              long = omega (arith, rest.long);
              reached = rest.reached;
            }

    -- ---- forward along the first phases

    pub going-start : (start : Entry) → stage_of_entry p start ≡ first_stage p → IsGoing p delay [] (servings_of p) start
    going-start start same = record {
      led = ap (λ y. let o : Option Stage = Some y in o) (sym same);
      long = omega arith;
      comes = record { rest = least.prefix; end = least.stage; leads = ap (λ y. stage_from p y least.prefix) same ∙ least.leads; long = least.long; reached = least.reached };
      first = λ front back e none. inr (sym (no-phases front none));
    }

    module _ (u : List ℕ) (left : ℕ) (e : Entry) (g : IsGoing p delay u (left + 1) e) (ways : List Entry) (are : AreWays p delay left ways) where
      -- a phase that goes on to the least delay leads into the ways
      leads-into : {P : Type 0} (k : ℕ) (next : Stage) → stage_after p (stage_of_entry p e) k ≡ Some next → ComesTo p delay left next → ((x : Entry) → LeadsInto p ways e k x → P) → P
      leads-into k next step rest then =
          let x = are.all (u ++ k ∷ []) next (pushed p u (stage_of_entry p e) next k g.led step) (omega (arith, length-append u (k ∷ []), g.long)) rest in
          then x.0 (step ∙ ap (λ y. let o : Option Stage = Some y in o) (sym (next-entry u (stage_of_entry p e) next k x.0 g.led step x.2)), x.1)

      pub going-some : NoneLeads p ways e (length p.plan) → ⊥
      going-some none = comes-step p delay left (stage_of_entry p e) g.comes (λ k next step rest.
          leads-into k next step rest (λ x leads. none k x (stage-after-phase p lawful (stage_of_entry p e) next k step) leads))

      pub going-next : (k : ℕ) (x : Entry) → IsFirstWay p ways e k x → IsGoing p delay (u ++ k ∷ []) left x
      going-next k x way =
          let same = entry-next u (stage_of_entry p e) k x g.led way.leads.0 in
          record {
            led = pushed p u (stage_of_entry p e) (stage_of_next x) k g.led way.leads.0 ∙ ap (λ y. let o : Option Stage = Some y in o) (sym same);
            long = omega (arith, length-append u (k ∷ []), g.long);
            comes = All-contains (λ e. ComesTo p delay left (stage_of_entry p e)) ways x are.each way.leads.1;
            first = λ front back d long.
                let parts = last-of front (length u) (omega (arith, length-append u (k ∷ []), long)) in
                first parts.0 parts.1 front back parts.2 parts.3 d;
          }
        where
          after : (j : ℕ) (back : List ℕ) → delay_of p (u ++ j ∷ back) ≡ Some delay → j < k → ⊥
          after j back d less =
              let whole = stage-of-delay p lawful (u ++ j ∷ back) delay d in
              let on : stage_from p (stage_of_entry p e) (j ∷ back) ≡ Some whole.0 = sym (from-append p u (j ∷ back) (first_stage p) (stage_of_entry p e) g.led) ∙ whole.1 in
              from-begins p (stage_of_entry p e) whole.0 j back on (λ next step rest.
              leads-into j next step (record { rest = back; end = whole.0; leads = rest; long = omega (arith, length-append u (j ∷ back), whole.3, g.long); reached = whole.2 }) (λ y leads. way.first j y less leads))

          first : (v : List ℕ) (j : ℕ) (front back : List ℕ) → front ≡ v ++ j ∷ [] → length v ≡ length u → delay_of p (front ++ back) ≡ Some delay → (order_number (u ++ k ∷ []) < order_number front) ⊎ (u ++ k ∷ [] ≡ front)
          first v j front back is long d =
              let whole : delay_of p (v ++ j ∷ back) ≡ Some delay = ap (delay_of p) (sym (append_assoc v (j ∷ []) back)) ∙ ap (λ xs. delay_of p (xs ++ back)) (sym is) ∙ d in
              let number : order_number front ≡ order_number v * 4 + j = ap order_number is ∙ order-push v j in
              elim (g.first v (j ∷ back) whole long) [
                | inl less ↦ inl (omega (arith, less, number, order-push u k, way.phase, lawful.plan.count.1))
                | inr same ↦ elim (cases_lt k j) [
                  | inl less ↦ inl (omega (arith, less, number, order-push u k, ap order_number same))
                  | inr up ↦ elim (cases_eq j k) [
                    | inl equal ↦ inr (ap (λ xs. xs ++ k ∷ []) same ∙ ap (λ i. v ++ i ∷ []) (sym equal) ∙ sym is)
                    | inr other ↦ absurd (after j back (subst (λ xs. delay_of p (xs ++ j ∷ back) ≡ Some delay) (sym same) whole) (omega arith))
                  ]
                ]
              ]

    pub going-end : (u : List ℕ) (e : Entry) → IsGoing p delay u 0 e → IsFirstBest p u delay
    going-end u e g = record {
      feasible =
          delay-of-stage p lawful u (stage_of_entry p e) g.led (omega (arith, g.long))
          ∙ ap (λ n. let o : Option ℕ = Some n in o) (comes-none p delay (stage_of_entry p e) g.comes);
      first = λ other d.
          let whole = stage-of-delay p lawful other delay d in
          elim (g.first other [] (ap (delay_of p) (append-nil other) ∙ d) (omega (arith, whole.3, g.long))) [
            | inl less ↦ omega (arith, less)
            | inr same ↦ omega (arith, ap order_number same)
          ];
    }

  -- ---- the answer

  pub least-here : (delay : ℕ) (layer : List Entry) (e : Entry) → IsLayer p (servings_of p) layer → Contains layer e → e.delay ≡ delay → All (λ x. delay ≤ x.delay) layer → IsLeastDelay p delay
  least-here delay layer e is among own low =
      let o = All-contains (IsOf (IsLed p (servings_of p))) layer e is.each among in
      record {
        prefix = o.holds.prefix;
        stage = o.stage;
        leads = o.holds.leads;
        long = o.holds.long;
        reached = sym o.delay ∙ own;
        least = λ u s led long.
            let has = is.all s (record { prefix = u; long = long; leads = led }) in
            omega (arith, has.delay, All-contains (λ x. delay ≤ x.delay) layer has.entry low has.among);
      }

  pub no-plan : (layer : List Entry) → IsLayer p (servings_of p) layer → layer ≡ [] → IsBest p NoPlan
  no-plan layer is none = best-none p (λ s. option-cases (delay_of p s) (λ e. e) (λ d e.
      let whole = stage-of-delay p lawful s d e in
      let has = is.all whole.0 (record { prefix = s; long = whole.3; leads = whole.1 }) in
      absurd (omega (arith, has.among.1, ap length none))))

  if-each : {X : Type 0} (P : X → Type 0) (o : Option X) → ((x : X) → o ≡ Some x → P x) → IfSome o P
  if-each P None h = tt
  if-each P (Some x) h = h x refl

  pub best-first : (u : List ℕ) (delay : ℕ) → IsLeastDelay p delay → IsFirstBest p u delay → IsBest p (Plan u delay)
  best-first u delay least best =
      best-plan p u delay (omega (arith, lawful.lists, lawful.plan.count.1)) best.feasible
      (λ s. if-each (λ d. (delay < d) ⊎ ((delay ≡ d) × (order_number u ≤ order_number s))) (delay_of p s) (λ d e.
      let whole = stage-of-delay p lawful s d e in
      let low = least.least s whole.0 whole.1 whole.3 in
      elim (cases_eq delay d) [
        | inl same ↦ inr (same, best.first s (e ∙ ap (λ n. let o : Option ℕ = Some n in o) (sym same)))
        | inr other ↦ inl (omega (arith, low, whole.2))
      ]))

  -- the first entry of the layer of no servings is the start
  pub start-inside : (layer : List Entry) → IsLayer p 0 layer → 0 < length layer
  start-inside layer is = (let has = is.all (first_stage p) (record { prefix = []; long = refl; leads = refl }) in omega (arith, has.among.1))

  pub start-here : (layer : List Entry) (e : Entry) → IsLayer p 0 layer → Contains layer e → stage_of_entry p e ≡ first_stage p
  start-here layer e is among =
      let o = All-contains (IsOf (IsLed p 0)) layer e is.each among in
      let same : first_stage p ≡ o.stage = some-same (first_stage p) o.stage (ap (stage_of p) (sym (no-phases o.holds.prefix o.holds.long)) ∙ o.holds.leads) in
      stage-here p lawful o.holds.prefix o.stage e o.holds.leads o.key o.delay ∙ sym same
