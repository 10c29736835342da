-- What a commit makes of an actor, and what the actor tells then.
use Rattle.std.proofs.Common.{◌≡◌, ℕ, Bool, nat_le, List, [], ◌∷◌, ◌++◌, Option, None, Some, Contains, find, length, map, refl, sym, ap, subst, ◌∙◌, arith, is_some}
use Rattle.std.proofs.lemmas.Bool.{cond_both}
use Rattle.std.proofs.lemmas.List.{append-nil, length-map}
use Rattle.std.proofs.lemmas.List.Elements.{Contains-append_left, Contains-append_right, Contains-push, All-contains, All-contains_itself, All-filter}
use Rattle.board_model.specs.declared.boards.Heard.{Heard}
use Rattle.switch_rules.specs.Sequences.{AreNextServings, counts_of}
use Rattle.switch_rules.specs.declared.Head.{Head}
use Rattle.control_flow.specs.Greens.{GoesOn, IsContinued, IsLawful, head_at, spliced}
use Rattle.control_flow.specs.declared.greens.Green.{Green}
use Rattle.net_parts.specs.Numbers.{Net}
use Rattle.net_parts.specs.Outline.{plan_at, link_at}
use Rattle.road_net.specs.Network.{IsNetwork, heard_links, told_links, exit_links}
use Rattle.clusters.specs.Sound.{cluster_lists}
use Rattle.clusters.specs.Windows as windows
use Rattle.clusters.specs.declared.vehicle_groups.Platoon.{Platoon}
use Rattle.intersection_actor.specs.Acting.{Acting, reading, telling, tells_from, wanting}
use Rattle.intersection_actor.specs.Commits.{record_of, round_plan, used_of}
use Rattle.intersection_actor.specs.Rounds.{IsCommitted, IsHearing, IsInRound, IsOf, IsTelling, KeepsPast}
use Rattle.intersection_actor.specs.Splices.{record_from}
use Rattle.intersection_actor.specs.Steps.{IsPlanned, commitment}
use Rattle.intersection_actor.specs.declared.planning.Kept.{Kept}
use Rattle.intersection_actor.specs.declared.planning.RoundPlan.{RoundPlan}
use Rattle.intersection_actor.specs.declared.records.PlanRecord.{PlanRecord}
use Rattle.intersection_actor.specs.declared.records.Used.{Used}
use Rattle.intersection_actor.specs.declared.records.Want.{Want}
use Rattle.intersection_actor.specs.declared.records.Want.TheVariants.{Commit, Publish}

pub hearing-of : (net : Net) (a : Acting) → IsOf net a → a.want ≡ Commit → IsHearing net a
hearing-of net a is wants = subst (IsInRound net a) wants is.round

none-left : (left : List ℕ) → reading left ≡ Commit → left ≡ []
none-left [] e = refl
none-left (l ∷ ls) e = let impossible : l ∷ ls ≡ [] = cc in impossible

-- a node that wants to plan has heard on each link on which it hears
pub all-heard : (net : Net) (a : Acting) → IsOf net a → a.want ≡ Commit → map (λ (h : Heard). h.link) a.heard ≡ heard_links net a.node
all-heard net a is wants =
    let hears = hearing-of net a is wants in
    let links : List ℕ = map (λ (h : Heard). h.link) a.heard in
    sym (append-nil links) ∙ ap (λ ls. links ++ ls) (sym (none-left a.left (sym hears.want ∙ wants))) ∙ hears.heard

used-links : (heard : List Heard) → map (λ (u : Used). u.link) (used_of heard) ≡ map (λ (h : Heard). h.link) heard
used-links [] = refl
used-links (h ∷ hs) = ap (λ ls. h.link ∷ ls) (used-links hs)

counts-same : (lists : List (List Platoon)) → counts_of (cluster_lists lists) ≡ windows.counts_of lists
counts-same [] = refl
counts-same (list ∷ lists) = ap (λ n. n ∷ counts_of (cluster_lists lists)) (length-map list (λ (p : Platoon). p.cluster)) ∙ ap (λ ns. length list ∷ ns) (counts-same lists)

find-in : (p : ℕ → Bool) (xs : List ℕ) (x : ℕ) → find p xs ≡ Some x → Contains xs x
find-in p [] x e = let impossible : Contains [] x = cc in impossible
find-in p (y ∷ ys) x e = cond_both (p y) (Some y) (find p ys) (λ r. r ≡ Some x → Contains (y ∷ ys) x)
    (λ yes f. let same : y ≡ x = cc in subst (λ z. Contains (y ∷ ys) z) same (Contains-append_left (y ∷ []) ys y (Contains-push [] y)))
    (λ no f. Contains-append_right (y ∷ []) ys x (find-in p ys x f)) e

-- a node tells on exit links
pub told-exit : (net : Net) (n link : ℕ) → Contains (told_links net n) link → Contains (exit_links net n) link
told-exit net n link there =
    let exits : List ℕ = exit_links net n in
    All-contains (Contains exits) (told_links net n) link (All-filter (λ l. is_some (link_at net l).to) (Contains exits) exits (All-contains_itself exits)) there

-- the first link from a number on
tells-some : (net : Net) (a : Acting) (first link : ℕ) (o : Option ℕ) → ((l : ℕ) → Contains (told_links net a.node) l → IsTelling net a l) → find (λ l. nat_le first l) (told_links net a.node) ≡ o → IsInRound net a (telling o)
tells-some net a first link None tells e = tt
tells-some net a first link (Some l) tells e = tells l (find-in (λ l. nat_le first l) (told_links net a.node) l e)

pub tells-in : (net : Net) (a : Acting) (first : ℕ) → ((l : ℕ) → Contains (told_links net a.node) l → IsTelling net a l) → IsInRound net a (tells_from net a.node first)
tells-in net a first tells = tells-some net a first 0 (find (λ l. nat_le first l) (told_links net a.node)) tells refl

-- an actor that wants to publish tells on that link
pub telling-of : (net : Net) (a : Acting) (link : ℕ) → IsOf net a → a.want ≡ Publish link → IsTelling net a link
telling-of net a link is wants = subst (IsInRound net a) wants is.round

-- and goes on with the first link from any number on
pub sent-of : (net : Net) (a : Acting) (link first : ℕ) → IsOf net a → a.want ≡ Publish link → IsOf net (wanting (tells_from net a.node first) a)
sent-of net a link first is wants =
    let tells : IsTelling net a link = telling-of net a link is wants in
    record {
      node = is.node;
      lawful = is.lawful;
      begins = is.begins;
      round = tells-in net (wanting (tells_from net a.node first) a) first (λ l there. record { link = there; now = tells.now; platoons = tells.platoons; plan = tells.plan; head = tells.head; served = tells.served });
    }

-- the actor with what a plan of its round leaves it
abbrev pub settled : Acting → RoundPlan → List Green → List PlanRecord → Want → Acting
settled a p line records want = record a { line = line; records = records; want = want; window = p.window; phases = p.schedule.phases; served = p.schedule.served }

-- the same by what is kept of the plan
abbrev pub settled_by : Acting → Kept → List Green → List PlanRecord → Want → Acting
settled_by a k line records want = record a { line = line; records = records; want = want; window = k.window; phases = k.phases; served = k.served }

-- the actor has committed, where `a` is seen as `b`
pub commits : (net : Net) (a b : Acting) (p : RoundPlan) (line : List Green) (records : List PlanRecord) (want : Want) → a ≡ b → IsOf net b → b.want ≡ Commit → IsPlanned net b.node b.line b.sensed b.heard p
    → line ≡ spliced a.line p.next → records ≡ a.records ++ record_from a.node a.round p ∷ [] → want ≡ tells_from net a.node 0 → IsCommitted net b (settled a p line records want)
commits net a b p line records want same of_b wants_b planned_b splices grows next =
    let is : IsOf net a = subst (IsOf net) (sym same) of_b in
    let planned : IsPlanned net a.node a.line a.sensed a.heard p = subst (λ (x : Acting). IsPlanned net x.node x.line x.sensed x.heard p) (sym same) planned_b in
    let hears : IsHearing net a = hearing-of net a is (ap (λ (x : Acting). x.want) same ∙ wants_b) in
    let all : records ≡ a.records ++ record_of a.node a.round a.heard (commitment a.line planned.head planned.platoons p) ∷ [] =
    grows ∙ ap (λ (u : List Used). a.records ++ record { node = a.node; round = a.round; used = u; instance = p.instance; answer = p.schedule.answer } ∷ []) planned.used in
    subst (λ (x : Acting). IsCommitted net x (settled a p line records want)) same
    (record {
      made = commitment a.line planned.head planned.platoons p;
      is = planned.is a.round hears.now;
      all = λ i. record a { line = splices i; records = all i; want = next i; window = p.window; phases = planned.phases i; served = p.schedule.served };
    })

-- what is left of an actor that settles this plan, where `a` is seen as `b`
module _ (net : Net) (a b : Acting) (p : RoundPlan) (line : List Green) (records : List PlanRecord) (want : Want) (same : a ≡ b) (of_b : IsOf net b) (wants_b : b.want ≡ Commit) (planned_b : IsPlanned net b.node b.line b.sensed b.heard p)
    (network : IsNetwork net) (law : (head : Head) → IsLawful (plan_at net a.node) a.line → head_at (plan_at net a.node) a.line a.sensed.now ≡ Some head → IsLawful (plan_at net a.node) p.next → GoesOn head p.next
    → IsContinued (plan_at net a.node) a.line a.sensed.now p.next line) where
  is : IsOf net a
  is = subst (IsOf net) (sym same) of_b

  wants : a.want ≡ Commit
  wants = ap (λ (x : Acting). x.want) same ∙ wants_b

  planned : IsPlanned net a.node a.line a.sensed a.heard p
  planned = subst (λ (x : Acting). IsPlanned net x.node x.line x.sensed x.heard p) (sym same) planned_b

  hears : IsHearing net a
  hears = hearing-of net a is wants

  continued : IsContinued (plan_at net a.node) a.line a.sensed.now p.next line
  continued = law planned.head is.lawful planned.stands planned.line.lawful planned.line.goes_on

  pub keeps : KeepsPast net b (settled a p line records want)
  keeps = subst (λ (x : Acting). KeepsPast net x (settled a p line records want)) same
      (record {
        past = continued.past;
        colours = continued.colours;
        later = omega (arith, hears.now, continued.end, planned.line.later, network.outline.run.within);
        used = used-links a.heard ∙ all-heard net a is wants;
      })

  tells : (l : ℕ) → Contains (told_links net a.node) l → IsTelling net (settled a p line records want) l
  tells l there = record {
    link = there;
    now = hears.sensed.now;
    platoons = planned.of_node;
    plan = round_plan net a.node a.sensed;
    head = planned.head;
    served = subst (λ ns. AreNextServings (round_plan net a.node a.sensed) (cluster_lists p.window.lists) ns planned.head p.schedule.phases p.schedule.served) (counts-same p.window.lists) planned.served;
  }

  pub still : want ≡ tells_from net a.node 0 → IsOf net (settled a p line records want)
  still next = record {
    node = is.node;
    lawful = continued.lawful;
    begins = continued.begins_by 100000 is.begins planned.line.begins;
    round = subst (IsInRound net (settled a p line records want)) (sym next) (tells-in net (settled a p line records want) 0 tells);
  }
