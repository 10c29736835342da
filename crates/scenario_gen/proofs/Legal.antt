-- A test that tells of a draft whether it stands for a network.
use Rattle.std.proofs.Common.{◌≡◌, ◌≢◌, ℕ, zero, suc, ◌<◌, ◌≤◌, Bool, true, false, not, ◌&&◌, ◌||◌, ◌==◌, List, [], ◌∷◌, length, get_or, Option, Some, None, All, refl, sym, ap, ◌∙◌, subst, inl, inr, arith, rules}
use Rattle.std.specs.Prelude.{position, slice_index_or, sum_by, count_by, is_some, is_none, IfSome, nat_le, nat_lt}
use Rattle.std.specs.List.{list_all, list_any}
use Rattle.std.proofs.lemmas.Bool.{and_parts, or_cases, or_parts, leb-true, ltb-true, eqb-true, eqb-false, not-true, false≢true, true≢false, cases_lt}
use Rattle.std.proofs.lemmas.List.Elements.{All-weaker}
use Rattle.std.proofs.lemmas.List.Sums.{AllPass-from_list_all}
use Rattle.phase_plan.specs.declared.Phase.{Phase}
use Rattle.phase_plan.specs.Phases.{IsPhase, is_unmarked}
use Rattle.net_parts.specs.declared.drafts.Draft.{Draft}
use Rattle.net_parts.specs.declared.drafts.DraftNode.{DraftNode}
use Rattle.net_parts.specs.declared.drafts.DraftPhase.{DraftPhase}
use Rattle.net_parts.specs.declared.drafts.DraftLink.{DraftLink}
use Rattle.net_parts.specs.declared.drafts.DraftTurn.{DraftTurn}
use Rattle.net_parts.specs.declared.roads.Link.{Link}
use Rattle.net_parts.specs.declared.roads.Turn.{Turn}
use Rattle.net_parts.specs.Bounds.{IsNameByte, IsName, HasRun, IsBoundedPhase, IsBoundedNode, IsBoundedTurn, IsBoundedLink, IsBounded, HasYieldBounds, HasWalkBounds}
use Rattle.net_parts.specs.Limits.{limits}
use Rattle.net_parts.specs.Numbers.{Net, AreDistinct, has_link, no_link, node_names, link_names}
use Rattle.net_parts.specs.Outline.{HasNoOverlaps, yields_at}
use Rattle.road_net.proofs.GreenLaws.{homes-apart}
use Rattle.road_net.specs.Joins.{HasEnds, HasFewEntries, IsShareTable, HasShares, HasSharesAt, IsPhased, IsPhasedAt, IsConflict, IsAlso, IsYield, IsWalk, is_node, link_at, share_of, times_named}
use Rattle.road_net.specs.Network.{IsJoined, IsNetworkOf, entry_links}
use Rattle.scenario_gen.proofs.Guesses.{are_own, numbered_guessed, numbered-guessed, own-distinct}

-- all elements, and all numbers below a bound

all-by : {X : Type 0} (test : X → Bool) (P : X → Type 0) → ((x : X) → test x ≡ true → P x) → (xs : List X) → list_all test xs ≡ true → All P xs
all-by test P tells xs e = All-weaker (λ x. test x ≡ true) P tells xs (AllPass-from_list_all test xs e)

abbrev all_below : (ℕ → Bool) → ℕ → Bool
all_below test zero = true
all_below test (suc n) = test n && all_below test n

below-by : (test : ℕ → Bool) (P : ℕ → Type 0) → ((k : ℕ) → test k ≡ true → P k) → (n : ℕ) → all_below test n ≡ true → (k : ℕ) → k < n → P k
below-by test P tells zero e k h = absurd (omega arith)
below-by test P tells (suc n) e k h =
    let p = and_parts (test n) (all_below test n) e in
    elim (cases_lt k n) [
      | inl less ↦ below-by test P tells n p.1 k less
      | inr more ↦ (let same : n ≡ k = omega arith in subst P same (tells n p.0))
    ]

-- no two elements alike

abbrev distinct_by : {X : Type 0} → (X → X → Bool) → List X → Bool
distinct_by same [] = true
distinct_by same (x ∷ xs) = not (list_any (same x) xs) && distinct_by same xs

none-at : {X : Type 0} (test : X → Bool) (xs : List X) → list_any test xs ≡ false → (k : ℕ) (d : X) → k < length xs → test (get_or xs k d) ≡ false
none-at test [] e k d h = absurd (omega arith)
none-at test (x ∷ xs) e zero d h = (or_parts (test x) (list_any test xs) e).0
none-at test (x ∷ xs) e (suc k) d h = none-at test xs (or_parts (test x) (list_any test xs) e).1 k d (omega arith)

module _ {X : Type 0} (same : X → X → Bool) (R : X → X → Type 0) (apart : (x y : X) → same x y ≡ false → R x y) where
  pairs-by : (xs : List X) → distinct_by same xs ≡ true → (i j : ℕ) (d : X) → i < j → j < length xs → R (get_or xs i d) (get_or xs j d)
  pairs-by [] e i j d before inside = absurd (omega arith)
  pairs-by (x ∷ xs) e i zero d before inside = absurd (omega arith)
  pairs-by (x ∷ xs) e zero (suc j) d before inside = apart x (get_or xs j d) (none-at (same x) xs (not-true (list_any (same x) xs) (and_parts (not (list_any (same x) xs)) (distinct_by same xs) e).0) j d (omega arith))
  pairs-by (x ∷ xs) e (suc i) (suc j) d before inside = pairs-by xs (and_parts (not (list_any (same x) xs)) (distinct_by same xs) e).1 i j d (omega arith) (omega arith)

-- the bounds of a draft, but for its run

abbrev within : ℕ → ℕ → ℕ → Bool
within least n most = nat_le least n && nat_le n most

within-by : (least n most : ℕ) → within least n most ≡ true → (least ≤ n) × (n ≤ most)
within-by least n most e = let p = and_parts (nat_le least n) (nat_le n most) e in (leb-true least n p.0, leb-true n most p.1)

abbrev is_name_byte : ℕ → Bool
is_name_byte b = within 97 b 122 || (within 48 b 57 || (b == 95))

name-byte : (b : ℕ) → is_name_byte b ≡ true → IsNameByte b
name-byte b e = elim (or_cases (within 97 b 122) (within 48 b 57 || (b == 95)) e) [
  | inl letter ↦ inl (within-by 97 b 122 letter)
  | inr other ↦ elim (or_cases (within 48 b 57) (b == 95) other) [
    | inl digit ↦ inr (inl (within-by 48 b 57 digit))
    | inr line ↦ inr (inr (eqb-true b 95 line))
  ]
]

abbrev is_name : List ℕ → Bool
is_name name = within 1 (length name) 16 && list_all is_name_byte name

name-by : (name : List ℕ) → is_name name ≡ true → IsName name
name-by name e =
    let p = and_parts (within 1 (length name) 16) (list_all is_name_byte name) e in
    record { count = within-by 1 (length name) 16 p.0; bytes = all-by is_name_byte IsNameByte name-byte name p.1 }

abbrev is_phase : Phase → Bool
is_phase p = within 1 p.least 120 && (within p.least p.greatest 240 && (within 1 p.yellow 10 && (nat_le p.clear 10 && ((nat_le p.loss 10 && nat_lt p.loss p.greatest) && within 1 p.wait 3600))))

phase-by : (p : Phase) → is_phase p ≡ true → IsPhase p
phase-by p e =
    let least = and_parts (within 1 p.least 120) _ e in
    let greatest = and_parts (within p.least p.greatest 240) _ least.1 in
    let yellow = and_parts (within 1 p.yellow 10) _ greatest.1 in
    let clear = and_parts (nat_le p.clear 10) _ yellow.1 in
    let loss = and_parts (nat_le p.loss 10 && nat_lt p.loss p.greatest) _ clear.1 in
    let losses = and_parts (nat_le p.loss 10) (nat_lt p.loss p.greatest) loss.0 in
    record {
      least = within-by 1 p.least 120 least.0;
      greatest = within-by p.least p.greatest 240 greatest.0;
      yellow = within-by 1 p.yellow 10 yellow.0;
      clear = leb-true p.clear 10 clear.0;
      loss = (leb-true p.loss 10 losses.0, ltb-true p.loss p.greatest losses.1);
      wait = within-by 1 p.wait 3600 loss.1;
    }

abbrev is_nil : List (List ℕ) → Bool
is_nil [] = true
is_nil (x ∷ xs) = false

few-by : (xs : List (List ℕ)) → is_nil xs ≡ true → length xs ≤ 16
few-by [] e = omega arith
few-by (x ∷ xs) e = absurd (false≢true e)

absent-by : {X : Type 0} (P : X → Type 0) (o : Option X) → is_none o ≡ true → IfSome o P
absent-by P None e = tt
absent-by P (Some x) e = absurd (false≢true e)

abbrev is_draft_phase : DraftPhase → Bool
is_draft_phase p = is_phase p.phase && (nat_le (length p.links) 16 && is_nil p.also)

draft-phase-by : (p : DraftPhase) → is_draft_phase p ≡ true → IsBoundedPhase p
draft-phase-by p e =
    let h = and_parts (is_phase p.phase) _ e in
    let g = and_parts (nat_le (length p.links) 16) (is_nil p.also) h.1 in
    record { phase = phase-by p.phase h.0; links = leb-true (length p.links) 16 g.0; also = few-by p.also g.1 }

abbrev is_draft_node : DraftNode → Bool
is_draft_node n = is_name n.name && (within 2 (length n.phases) 4 && (nat_le 2 (count_by (λ (p : DraftPhase). is_unmarked p.phase) n.phases) && list_all is_draft_phase n.phases))

draft-node-by : (n : DraftNode) → is_draft_node n ≡ true → IsBoundedNode n
draft-node-by n e =
    let name = and_parts (is_name n.name) _ e in
    let unmarked = count_by (λ (p : DraftPhase). is_unmarked p.phase) n.phases in
    let count = and_parts (within 2 (length n.phases) 4) _ name.1 in
    let ring = and_parts (nat_le 2 unmarked) (list_all is_draft_phase n.phases) count.1 in
    record {
      own = record { name = name-by n.name name.0; count = within-by 2 (length n.phases) 4 count.0; ring = inl (leb-true 2 unmarked ring.0) };
      phases = all-by is_draft_phase IsBoundedPhase draft-phase-by n.phases ring.1;
    }

abbrev is_draft_link : DraftLink → Bool
is_draft_link l = is_name l.name && (within 1 l.travel 120 && (within 1 l.sat 5000 && (within 1 l.weight 20 && ((nat_le (length l.turns) 16 && (is_none l.yields && is_none l.walk)) && list_all (λ (t : DraftTurn). nat_le t.share 1000) l.turns))))

draft-link-by : (l : DraftLink) → is_draft_link l ≡ true → IsBoundedLink l
draft-link-by l e =
    let name = and_parts (is_name l.name) _ e in
    let travel = and_parts (within 1 l.travel 120) _ name.1 in
    let sat = and_parts (within 1 l.sat 5000) _ travel.1 in
    let weight = and_parts (within 1 l.weight 20) _ sat.1 in
    let own = and_parts (nat_le (length l.turns) 16 && (is_none l.yields && is_none l.walk)) _ weight.1 in
    let count = and_parts (nat_le (length l.turns) 16) _ own.0 in
    let plain = and_parts (is_none l.yields) (is_none l.walk) count.1 in
    record {
      own = record { name = name-by l.name name.0; travel = within-by 1 l.travel 120 travel.0; sat = within-by 1 l.sat 5000 sat.0; weight = within-by 1 l.weight 20 weight.0; count = leb-true (length l.turns) 16 count.0; yields = absent-by (HasYieldBounds l.sat) l.yields plain.0; walk = absent-by HasWalkBounds l.walk plain.1 };
      turns = all-by (λ (t : DraftTurn). nat_le t.share 1000) IsBoundedTurn (λ t h. leb-true t.share 1000 h) l.turns own.1;
    }

abbrev is_bounded : Draft → Bool
is_bounded d = (within 1 (length d.nodes) (limits d.great).nodes && (within 1 (length d.links) (limits d.great).links && nat_le (length d.conflicts) (limits d.great).conflicts)) && (list_all is_draft_node d.nodes && list_all is_draft_link d.links)

bounded-by : (d : Draft) → HasRun d → is_bounded d ≡ true → IsBounded d
bounded-by d run e =
    let most = limits d.great in
    let parts = and_parts (within 1 (length d.nodes) most.nodes && (within 1 (length d.links) most.links && nat_le (length d.conflicts) most.conflicts)) _ e in
    let nodes = and_parts (within 1 (length d.nodes) most.nodes) _ parts.0 in
    let links = and_parts (within 1 (length d.links) most.links) (nat_le (length d.conflicts) most.conflicts) nodes.1 in
    let lists = and_parts (list_all is_draft_node d.nodes) (list_all is_draft_link d.links) parts.1 in
    record {
      counts = record { nodes = within-by 1 (length d.nodes) most.nodes nodes.0; links = within-by 1 (length d.links) most.links links.0; conflicts = leb-true (length d.conflicts) most.conflicts links.1 };
      run = run.run;
      rounds = run.rounds;
      nodes = all-by is_draft_node IsBoundedNode draft-node-by d.nodes lists.0;
      links = all-by is_draft_link IsBoundedLink draft-link-by d.links lists.1;
    }

-- how a network is joined

abbrev same_end : Option ℕ → Option ℕ → Bool
same_end None None = true
same_end None (Some b) = false
same_end (Some a) None = false
same_end (Some a) (Some b) = a == b

same-self : (a : Option ℕ) → same_end a a ≡ true
same-self None = refl
same-self (Some a) = search rules

ends-by : (l : Link) → not (same_end l.from l.to) ≡ true → HasEnds l
ends-by l e same = true≢false (sym (same-self l.from) ∙ ap (same_end l.from) same ∙ not-true (same_end l.from l.to) e)

end-by : (node : ℕ) (o : Option ℕ) → is_node node o ≡ true → o ≡ Some node
end-by node None e = absurd (false≢true e)
end-by node (Some n) e = ap Some (eqb-true n node e)

abbrev is_share_table : List Link → List Turn → ℕ → Bool
is_share_table links turns node = list_all (λ (t : Turn). is_node node (link_at links t.exit).from) turns && (distinct_by (λ (s t : Turn). s.exit == t.exit) turns && (sum_by share_of turns == 1000))

share-table-by : (links : List Link) (turns : List Turn) (node : ℕ) → is_share_table links turns node ≡ true → IsShareTable links turns node
share-table-by links turns node e =
    let leave = and_parts (list_all (λ (t : Turn). is_node node (link_at links t.exit).from) turns) _ e in
    let rest = and_parts (distinct_by (λ (s t : Turn). s.exit == t.exit) turns) (sum_by share_of turns == 1000) leave.1 in
    record {
      leave = all-by (λ (t : Turn). is_node node (link_at links t.exit).from) (λ t. (link_at links t.exit).from ≡ Some node) (λ t h. end-by node (link_at links t.exit).from h) turns leave.0;
      differ = pairs-by (λ (s t : Turn). s.exit == t.exit) (λ s t. s.exit ≢ t.exit) (λ s t h same. eqb-false s.exit t.exit h same) turns rest.0;
      whole = eqb-true (sum_by share_of turns) 1000 rest.1;
    }

abbrev is_empty : List Turn → Bool
is_empty [] = true
is_empty (t ∷ ts) = false

empty-by : (ts : List Turn) → is_empty ts ≡ true → ts ≡ []
empty-by [] e = refl
empty-by (t ∷ ts) e = absurd (false≢true e)

abbrev has_shares : List Link → List Turn → Option ℕ → Bool
has_shares links turns None = is_empty turns
has_shares links turns (Some node) = is_share_table links turns node

shares-by : (links : List Link) (turns : List Turn) (to : Option ℕ) → has_shares links turns to ≡ true → HasShares links turns to
shares-by links turns None e = empty-by turns e
shares-by links turns (Some node) e = share-table-by links turns node e

abbrev is_phased : List (List (List ℕ)) → ℕ → Option ℕ → Bool
is_phased phase_links link None = times_named phase_links link == 0
is_phased phase_links link (Some node) = (times_named phase_links link == 1) && is_some (position (has_link link) (slice_index_or phase_links node []))

phased-by : (phase_links : List (List (List ℕ))) (link : ℕ) (to : Option ℕ) → is_phased phase_links link to ≡ true → IsPhased phase_links link to
phased-by phase_links link None e = eqb-true (times_named phase_links link) 0 e
phased-by phase_links link (Some node) e =
    let p = and_parts (times_named phase_links link == 1) (is_some (position (has_link link) (slice_index_or phase_links node []))) e in
    (eqb-true (times_named phase_links link) 1 p.0, p.1)

abbrev is_conflict : List Link → ℕ × ℕ → Bool
is_conflict links c = not (c.0 == c.1) && (is_some (link_at links c.0).to && (same_end (link_at links c.0).to (link_at links c.1).to && not ((link_at links c.0).phase == (link_at links c.1).phase)))

same-ends : (a b : Option ℕ) → same_end a b ≡ true → a ≡ b
same-ends None None e = refl
same-ends None (Some b) e = absurd (false≢true e)
same-ends (Some a) None e = absurd (false≢true e)
same-ends (Some a) (Some b) e = ap Some (eqb-true a b e)

conflict-by : (net : Net) → HasNoOverlaps net → (c : ℕ × ℕ) → is_conflict net.links c ≡ true → IsConflict net c
conflict-by net none c e =
    let links : List Link = net.links in
    let differ = and_parts (not (c.0 == c.1)) _ e in
    let ends = and_parts (is_some (link_at links c.0).to) _ differ.1 in
    let node = and_parts (same_end (link_at links c.0).to (link_at links c.1).to) _ ends.1 in
    record {
      differ = eqb-false c.0 c.1 (not-true (c.0 == c.1) differ.0);
      ends = ends.0;
      node = same-ends (link_at links c.0).to (link_at links c.1).to node.0;
      apart = homes-apart net none c.0 c.1 (eqb-false (link_at links c.0).phase (link_at links c.1).phase (not-true ((link_at links c.0).phase == (link_at links c.1).phase) node.1));
    }

-- a network without further greens, yields and walks

abbrev is_void : List ℕ → Bool
is_void [] = true
is_void (x ∷ xs) = false

void-by : (xs : List ℕ) → is_void xs ≡ true → xs ≡ []
void-by [] e = refl
void-by (x ∷ xs) e = absurd (false≢true e)

void-at : (lists : List (List ℕ)) → list_all is_void lists ≡ true → (k : ℕ) → get_or lists k [] ≡ []
void-at [] e k = refl
void-at (x ∷ xs) e zero = void-by x (and_parts (is_void x) (list_all is_void xs) e).0
void-at (x ∷ xs) e (suc k) = void-at xs (and_parts (is_void x) (list_all is_void xs) e).1 k

voids-at : (lists : List (List (List ℕ))) → list_all (list_all is_void) lists ≡ true → (n k : ℕ) → get_or (get_or lists n []) k [] ≡ []
voids-at [] e n k = refl
voids-at (x ∷ xs) e zero k = void-at x (and_parts (list_all is_void x) (list_all (list_all is_void) xs) e).0 k
voids-at (x ∷ xs) e (suc n) k = voids-at xs (and_parts (list_all is_void x) (list_all (list_all is_void) xs) e).1 n k

abbrev is_plain : Net → Bool
is_plain net = list_all (list_all is_void) net.also_links && (list_all is_void net.yields && list_all (λ (l : Link). is_none l.walk) net.links)

also-plain : (net : Net) → HasNoOverlaps net → (l : ℕ) → IsAlso net l
also-plain net none l n k has = absurd (false≢true (sym (ap (has_link l) (none n k)) ∙ has))

yield-plain : (net : Net) (l : ℕ) → yields_at net l ≡ [] → IsYield net l
yield-plain net l is = record { each = rw is (λ k d h. absurd (omega arith)); differ = rw is (λ i j d less h. absurd (omega arith)) }

absent : {X : Type 0} (o : Option X) → is_none o ≡ true → o ≡ None
absent None e = refl
absent (Some x) e = absurd (false≢true e)

walk-plain : (net : Net) (l : ℕ) → (link_at net.links l).walk ≡ None → IsWalk net l
walk-plain net l is = rw is tt

abbrev has_few_entries : Net → ℕ → Bool
has_few_entries net node = nat_le (length (entry_links net node)) 16

abbrev has_shares_at : List Link → List (List Turn) → ℕ → Bool
has_shares_at links turns l = has_shares links (slice_index_or turns l []) (link_at links l).to

abbrev is_phased_at : List Link → List (List (List ℕ)) → ℕ → Bool
is_phased_at links phase_links l = is_phased phase_links l (link_at links l).to

abbrev is_joined : Net → Bool
is_joined net =
    list_all (λ (l : Link). not (same_end l.from l.to)) net.links
    && (all_below (has_few_entries net) (length net.node_names)
    && (all_below (has_shares_at net.links net.turns) (length net.links)
    && (all_below (is_phased_at net.links net.phase_links) (length net.links)
    && (list_all (is_conflict net.links) net.conflicts && is_plain net))))

joined-by : (net : Net) → is_joined net ≡ true → IsJoined net
joined-by net e =
    let ends = and_parts (list_all (λ (l : Link). not (same_end l.from l.to)) net.links) _ e in
    let entries = and_parts (all_below (has_few_entries net) (length net.node_names)) _ ends.1 in
    let shares = and_parts (all_below (has_shares_at net.links net.turns) (length net.links)) _ entries.1 in
    let phases = and_parts (all_below (is_phased_at net.links net.phase_links) (length net.links)) _ shares.1 in
    let conflicts = and_parts (list_all (is_conflict net.links) net.conflicts) (is_plain net) phases.1 in
    let plain = and_parts (list_all (list_all is_void) net.also_links) _ conflicts.1 in
    let ways = and_parts (list_all is_void net.yields) (list_all (λ (l : Link). is_none l.walk) net.links) plain.1 in
    let none : HasNoOverlaps net = voids-at net.also_links plain.0 in
    let walks = all-by (λ (l : Link). is_none l.walk) (λ l. l.walk ≡ None) (λ l h. absent l.walk h) net.links ways.1 in
    record {
      ends = all-by (λ (l : Link). not (same_end l.from l.to)) HasEnds ends-by net.links ends.0;
      entries = below-by (has_few_entries net) (HasFewEntries net.links) (λ n h. leb-true (length (entry_links net n)) 16 h) (length net.node_names) entries.0;
      shares = below-by (has_shares_at net.links net.turns) (HasSharesAt net.links net.turns) (λ l h. shares-by net.links (slice_index_or net.turns l []) (link_at net.links l).to h) (length net.links) shares.0;
      phases = below-by (is_phased_at net.links net.phase_links) (IsPhasedAt net.links net.phase_links) (λ l h. phased-by net.phase_links l (link_at net.links l).to h) (length net.links) phases.0;
      also = λ l h. also-plain net none l;
      conflicts = all-by (is_conflict net.links) (IsConflict net) (conflict-by net none) net.conflicts conflicts.0;
      yields = λ l h. yield-plain net l (void-at net.yields ways.0 l);
      walks = λ l h. walk-plain net l (walks l no_link h);
    }

abbrev is_joined_if : Option Net → Bool
is_joined_if None = false
is_joined_if (Some net) = is_joined net

-- the draft stands for a network, if its run is within its bounds; the guesses tell the numbers of its names
abbrev pub is_legal : (List ℕ → ℕ) → (List ℕ → ℕ) → Draft → Bool
is_legal node link d = is_bounded d && (are_own node 0 (node_names d) && (are_own link 0 (link_names d) && is_joined_if (numbered_guessed node link d)))

-- and there it is
pub record HasNetwork (d : Draft) : Type 0 where
  pub net : Net
  pub network : IsNetworkOf d net

pub legal-by : (node link : List ℕ → ℕ) (d : Draft) → HasRun d → is_legal node link d ≡ true → HasNetwork d
legal-by node link d run e =
    let bounds = and_parts (is_bounded d) _ e in
    let nodes = and_parts (are_own node 0 (node_names d)) _ bounds.1 in
    let links = and_parts (are_own link 0 (link_names d)) (is_joined_if (numbered_guessed node link d)) nodes.1 in
    there (numbered_guessed node link d) refl links.1 (bounded-by d run bounds.0) (own-distinct node (node_names d) nodes.0) (own-distinct link (link_names d) links.0)
  where
    there : (o : Option Net) → numbered_guessed node link d ≡ o → is_joined_if o ≡ true → IsBounded d → AreDistinct (node_names d) → AreDistinct (link_names d) → HasNetwork d
    there None is none bounds nodes links = absurd (false≢true none)
    there (Some net) is joined bounds nodes links =
        let numbers = numbered-guessed d node link nodes links net is in
        record { net = net; network = record { bounds = bounds; node_names = nodes; link_names = links; numbers = numbers; joins = joined-by net joined } }
