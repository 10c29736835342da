-- The plan records of a run.
use Rattle.std.proofs.Common.{◌≡◌, ℕ, zero, suc, ◌+◌, ◌-◌, ◌*◌, ◌<◌, ◌≤◌, List, [], ◌∷◌, All, length, map, get_or, refl, sym, ap, subst, ◌∙◌, arith}
use Rattle.std.specs.Prelude.{Contains}
use Rattle.std.specs.List.{flat_map, range_with_len}
use Rattle.std.proofs.lemmas.List.{ext_get_or, get_or-map, length-map}
use Rattle.std.proofs.lemmas.List.Elements.{All-append, All-cons, All-contains, All-nil}
use Rattle.board_model.specs.declared.boards.Heard.{Heard}
use Rattle.histories.specs.Histories.{IsLawful, version_at}
use Rattle.histories.specs.Steps.{board_steps}
use Rattle.histories.proofs.Versions.{version-rises}
use Rattle.intersection_actor.specs.Commits.{Commitment, IsProblemOf, record_of, used_of}
use Rattle.intersection_actor.specs.declared.records.PlanRecord.{PlanRecord}
use Rattle.intersection_actor.specs.declared.records.Used.{Used}
use Rattle.net_parts.specs.Numbers.{Net}
use Rattle.road_net.specs.Network.{IsNetwork, heard_links}
use Rattle.schedule_meaning.specs.Best.{IsLeast}
use Rattle.schedule_meaning.proofs.Choosing.{best-least}
use Rattle.runs.specs.Plans.{IsPlannedFrom, NamesVersions, NeverOlder, heard_by}
use Rattle.runs.specs.Runs.{AllCommit, HearAlong, hearing, line_before, plans_in, plans_of, sensed_in}
use Rattle.runs.proofs.Heard.{heard-at, heard-count, heard-once}
use Rattle.runs.proofs.Places.{StandsAt, comes-first, first-small, place-of}

all-range : {X : Type 0} (P : X → Type 0) (f : ℕ → X) (s n : ℕ) → ((k : ℕ) → s ≤ k → k < s + n → P (f k)) → All P (map f (range_with_len s n))
all-range P f s zero each = All-nil P
all-range P f s (suc n) each = All-cons P (f s) (map f (range_with_len (s + 1) n)) (each s (omega arith) (omega arith)) (all-range P f (s + 1) n (λ k least most. each k (omega arith) (omega arith)))

all-flat : {X : Type 0} (P : X → Type 0) (f : ℕ → List X) (s n : ℕ) → ((k : ℕ) → s ≤ k → k < s + n → All P (f k)) → All P (flat_map f (range_with_len s n))
all-flat P f s zero each = All-nil P
all-flat P f s (suc n) each = All-append P (f s) (flat_map f (range_with_len (s + 1) n)) (each s (omega arith) (omega arith)) (all-flat P f (s + 1) n (λ k least most. each k (omega arith) (omega arith)))

contains-map : {X Y : Type 0} (f : X → Y) (xs : List X) (x : X) → Contains xs x → Contains (map f xs) (f x)
contains-map f xs x (k, below, is) = (k, (omega (arith, length-map xs f)), get_or-map f xs k x (f x) below ∙ ap f is)

-- what holds of the record of each round and node holds of all
pub all-plans : (P : PlanRecord → Type 0) (net : Net) (heard : ℕ → ℕ → List Heard) (made : ℕ → ℕ → Commitment) (rounds : ℕ)
    → ((r n : ℕ) → r < rounds → n < length net.node_names → P (record_of n r (heard r n) (made r n))) → All P (plans_of net heard made rounds)
all-plans P net heard made rounds each = all-flat P (plans_in net heard made) 0 rounds (λ r least less.
    all-range P (λ n. record_of n r (heard r n) (made r n)) 0 (length net.node_names) (λ n least below. each r n (omega arith) (omega arith)))

-- no sequence of an instance of a round has less delay than what was planned
pub round-least : (net : Net) (arriving : ℕ → ℕ → ℕ) (heard : ℕ → ℕ → List Heard) (made : ℕ → ℕ → Commitment) (rounds round : ℕ) → AllCommit net arriving heard made rounds → round < rounds → All (λ (p : PlanRecord). IsLeast p.instance p.answer) (plans_in net heard made round)
round-least net arriving heard made rounds round commits less =
    all-range (λ (p : PlanRecord). IsLeast p.instance p.answer) (λ n. record_of n round (heard round n) (made round n)) 0 (length net.node_names)
    (λ n least below. best-least (made round n).problem (made round n).answer (commits round n less (omega arith)).commit.answer)

-- the version that is used, of a link heard
used : Heard → Used
used x = record { link = x.link; version = x.version }

pub used-links : (xs : List Heard) → map (λ (u : Used). u.link) (used_of xs) ≡ map (λ (x : Heard). x.link) xs
used-links [] = refl
used-links (x ∷ xs) = ap (λ l. x.link ∷ l) (used-links xs)

module _ (net : Net) (network : IsNetwork net) (arriving : ℕ → ℕ → ℕ) (h : List ℕ) (lawful : IsLawful net h) (heard : ℕ → ℕ → List Heard) (made : ℕ → ℕ → Commitment)
    (commits : AllCommit net arriving heard made net.run.rounds) (along : HearAlong net h heard made) where
  names : (r n : ℕ) → r < net.run.rounds → n < length net.node_names → NamesVersions net h (record_of n r (heard r n) (made r n))
  unfolding used
  names r n less below = record {
    links = used-links (heard r n) ∙ (commits r n less below).links;
    versions = λ place link inside of_place step.
        let x : Heard = hearing net made link (version_at (board_steps net) h link place) in
        let there : Contains (heard r n) x = subst (λ m. Contains (heard r m) x) (sym of_place.node) (subst (λ s. Contains (heard s (get_or h place 0)) x) (sym of_place.round) (along place link inside step)) in
        contains-map used (heard r n) x there;
  }

  pub all-named : All (NamesVersions net h) (plans_of net heard made net.run.rounds)
  all-named = all-plans (NamesVersions net h) net heard made net.run.rounds names

  -- the place at which a version was read
  record IsReadAt (r n : ℕ) (u : Used) : Type 0 where
    pub q : ℕ
    pub place : ℕ
    pub first : q < length (heard_links net n)
    pub at : StandsAt net h r n q place
    pub link : u.link ≡ get_or (heard_links net n) q 0
    pub version : u.version ≡ version_at (board_steps net) h (get_or (heard_links net n) q 0) place

  read-at : (r n : ℕ) → r < net.run.rounds → n < length net.node_names → (u : Used) → Contains (used_of (heard r n)) u → IsReadAt r n u
  unfolding used
  read-at r n less below u (q, inside, is) =
      let none : Heard = hearing net made 0 0 in
      let there : q < length (heard r n) = omega (arith, length-map (heard r n) used) in
      let first : q < length (heard_links net n) = omega (arith, heard-count net arriving h heard made net.run.rounds commits along r n less below) in
      let (place, at) = place-of net network h lawful r n q less (first-small net n q first) in
      let l : ℕ = get_or (heard_links net n) q 0 in
      let e : u ≡ used (hearing net made l (version_at (board_steps net) h l place)) = sym is ∙ get_or-map used (heard r n) q none u there ∙ ap used (heard-at net arriving h heard made net.run.rounds commits along r n q place less below first at none) in
      record { q = q; place = place; first = first; at = at; link = ap (λ (x : Used). x.link) e; version = ap (λ (x : Used). x.version) e }

  -- of which round and node a plan is
  record IsOfRound (p : PlanRecord) : Type 0 where
    pub r : ℕ
    pub n : ℕ
    pub less : r < net.run.rounds
    pub below : n < length net.node_names
    pub is : p ≡ record_of n r (heard r n) (made r n)

  of-round : (p : PlanRecord) → Contains (plans_of net heard made net.run.rounds) p → IsOfRound p
  of-round p there = All-contains IsOfRound (plans_of net heard made net.run.rounds) p (all-plans IsOfRound net heard made net.run.rounds (λ r n less below. record { r = r; n = n; less = less; below = below; is = refl })) there

  -- versions do not fall from round to round
  not-older : (r s n : ℕ) → r < s → (u v : Used) → IsReadAt r n u → IsReadAt s n v → u.link ≡ v.link → u.version ≤ v.version
  not-older r s n less u v a b same =
      let links : get_or (heard_links net n) a.q 0 ≡ get_or (heard_links net n) b.q 0 = sym a.link ∙ same ∙ b.link in
      let q : a.q ≡ b.q = heard-once net n a.q b.q a.first b.first links in
      let early = a.at.counted in
      let late = b.at.counted in
      let small = a.at.small in
      let gap : r * length (board_steps net n) + length (board_steps net n) ≤ s * length (board_steps net n) = rounds-apart r s (length (board_steps net n)) less in
      let order : a.place < b.place = comes-first n a.place b.place h (omega arith) in
      let rise = version-rises (board_steps net) h (get_or (heard_links net n) a.q 0) a.place b.place (omega arith) in
      omega (arith, rise, a.version, b.version, ap (λ l. version_at (board_steps net) h l b.place) links)
    where
      rounds-apart : (r s w : ℕ) → r < s → r * w + w ≤ s * w
      rounds-apart r s w less =
          let d : ℕ = s - (r + 1) in
          let e : s ≡ r + 1 + d = omega arith in
          let z : (r + 1 + d) * w ≡ r * w + w + d * w = omega arith in
          omega (arith, ap (λ t. t * w) e, z)

  pub never-older : NeverOlder (plans_of net heard made net.run.rounds)
  never-older early late before now first second nodes less u v links =
      let a = of-round early first in
      let b = of-round late second in
      let node : a.n ≡ b.n = sym (ap (λ (p : PlanRecord). p.node) a.is) ∙ nodes ∙ ap (λ (p : PlanRecord). p.node) b.is in
      let one : Contains (used_of (heard a.r a.n)) before = subst (λ (l : List Used). Contains l before) (ap (λ (p : PlanRecord). p.used) a.is) u in
      let other : Contains (used_of (heard b.r b.n)) now = subst (λ (l : List Used). Contains l now) (ap (λ (p : PlanRecord). p.used) b.is) v in
      let x : IsReadAt a.r b.n before = subst (λ n. IsReadAt a.r n before) node (read-at a.r a.n a.less a.below before one) in
      let y : IsReadAt b.r b.n now = read-at b.r b.n b.less b.below now other in
      not-older a.r b.r b.n (omega (arith, less, ap (λ (p : PlanRecord). p.round) a.is, ap (λ (p : PlanRecord). p.round) b.is)) before now x y links

  -- what a plan heard is what its node heard
  heard-back : (r n : ℕ) → r < net.run.rounds → n < length net.node_names → heard r n ≡ heard_by net made (record_of n r (heard r n) (made r n))
  unfolding used
  heard-back r n less below =
      let none : Heard = hearing net made 0 0 in
      let long : length (used_of (heard r n)) ≡ length (heard r n) = length-map (heard r n) used in
      let count : length (heard r n) ≡ length (heard_by net made (record_of n r (heard r n) (made r n))) = sym (length-map (used_of (heard r n)) (λ (u : Used). hearing net made u.link u.version) ∙ long) in
      ext_get_or none (heard r n) (heard_by net made (record_of n r (heard r n) (made r n))) count (λ q inside.
      let first : q < length (heard_links net n) = omega (arith, heard-count net arriving h heard made net.run.rounds commits along r n less below) in
      let (place, at) = place-of net network h lawful r n q less (first-small net n q first) in
      let l : ℕ = get_or (heard_links net n) q 0 in
      let e : get_or (heard r n) q none ≡ hearing net made l (version_at (board_steps net) h l place) = heard-at net arriving h heard made net.run.rounds commits along r n q place less below first at none in
      e
      ∙ sym (ap (λ (x : Heard). hearing net made x.link x.version) e)
      ∙ sym (ap (λ (u : Used). hearing net made u.link u.version) (get_or-map used (heard r n) q none (used none) inside))
      ∙ sym (get_or-map (λ (u : Used). hearing net made u.link u.version) (used_of (heard r n)) q (used none) none (omega arith)))

  planned : (r n : ℕ) → r < net.run.rounds → n < length net.node_names → IsPlannedFrom net arriving made (record_of n r (heard r n) (made r n))
  planned r n less below =
      let c : Commitment = made r n in
      record {
        head = c.head;
        platoons = c.platoons;
        window = c.window;
        instance = subst (λ (x : List Heard). IsProblemOf net n (line_before net made r n) (sensed_in net arriving made r n) x c.head c.platoons c.window c.problem) (heard-back r n less below) (commits r n less below).commit.problem;
      }

  pub all-planned : All (IsPlannedFrom net arriving made) (plans_of net heard made net.run.rounds)
  all-planned = all-plans (IsPlannedFrom net arriving made) net heard made net.run.rounds planned

  pub all-least : All (λ (p : PlanRecord). IsLeast p.instance p.answer) (plans_of net heard made net.run.rounds)
  all-least = all-plans (λ (p : PlanRecord). IsLeast p.instance p.answer) net heard made net.run.rounds (λ r n less below. best-least (made r n).problem (made r n).answer (commits r n less below).commit.answer)
