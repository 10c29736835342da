-- The network of a draft, where the number of each name is guessed and one look at its place confirms the guess.
use Rattle.std.proofs.Common.{◌≡◌, ℕ, zero, suc, ◌+◌, ◌<◌, Bool, true, false, ◌&&◌, ◌==◌, List, [], ◌∷◌, length, get_or, map, Option, Some, None, sym, ap, ◌∙◌, subst, arith}
use Rattle.std.specs.Prelude.{if◌then◌else◌}
use Rattle.std.specs.Str.{bytes_eq}
use Rattle.std.proofs.lemmas.Bool.{and_parts, eqb-true, cond_both, false≢true}
use Rattle.std.proofs.lemmas.Option.{none-some}
use Rattle.std.proofs.lemmas.Slice.Eq.{bytes_eq-Decides}
use Rattle.foundation.specs.Options.{◌>>=◌, each}
use Rattle.foundation.proofs.EachLaws.{each-cons}
use Rattle.foundation.proofs.OptionLaws.{bind-some}
use Rattle.net_parts.specs.declared.drafts.Draft.{Draft}
use Rattle.net_parts.specs.declared.drafts.DraftNode.{DraftNode}
use Rattle.net_parts.specs.declared.drafts.DraftLink.{DraftLink}
use Rattle.net_parts.specs.declared.drafts.DraftTurn.{DraftTurn}
use Rattle.net_parts.specs.declared.drafts.DraftConflict.{DraftConflict}
use Rattle.net_parts.specs.declared.roads.Link.{Link}
use Rattle.net_parts.specs.declared.roads.Turn.{Turn}
use Rattle.net_parts.specs.Numbers.{Net, AreDistinct, number_of, number_if, yield_names, yield_sat, phase_of, plan_of, phases_of, also_of, link_of, turn_of, turns_of, yields_of, conflict_of, roads_of, node_names, link_names, numbered}
use Rattle.net_parts.proofs.DraftParts.{number_of-own}

-- whether the name stands at the place
abbrev stands_at : ℕ → List (List ℕ) → List ℕ → Bool
stands_at k [] name = false
stands_at zero (x ∷ xs) name = bytes_eq name x
stands_at (suc k) (x ∷ xs) name = stands_at k xs name

stands-at : (k : ℕ) (names : List (List ℕ)) (name : List ℕ) → stands_at k names name ≡ true → (k < length names) × (name ≡ get_or names k [])
stands-at k [] name e = absurd (false≢true e)
stands-at zero (x ∷ xs) name e = (omega arith, (bytes_eq-Decides name x).0 e)
stands-at (suc k) (x ∷ xs) name e = let (inside, same) = stands-at k xs name e in (omega (arith, inside), same)

-- the place, where the name stands there
abbrev number_at : ℕ → List (List ℕ) → List ℕ → Option ℕ
number_at k names name = if stands_at k names name then Some k else None

-- the guess, where the name stands there
abbrev pub guess_of : (List ℕ → ℕ) → List (List ℕ) → List ℕ → Option ℕ
guess_of guess names name = number_at (guess name) names name

-- each name stands where it is guessed, the first at k
abbrev pub are_own : (List ℕ → ℕ) → ℕ → List (List ℕ) → Bool
are_own guess k [] = true
are_own guess k (x ∷ xs) = (guess x == k) && are_own guess (suc k) xs

own-at : (guess : List ℕ → ℕ) (k : ℕ) (names : List (List ℕ)) → are_own guess k names ≡ true → (i : ℕ) (d : List ℕ) → i < length names → guess (get_or names i d) ≡ k + i
own-at guess k [] e i d h = absurd (omega arith)
own-at guess k (x ∷ xs) e zero d h = let here = eqb-true (guess x) k (and_parts (guess x == k) (are_own guess (suc k) xs) e).0 in omega (arith, here)
own-at guess k (x ∷ xs) e (suc i) d h = let more = own-at guess (suc k) xs (and_parts (guess x == k) (are_own guess (suc k) xs) e).1 i d (omega arith) in omega (arith, more)

-- so no two are the same
pub own-distinct : (guess : List ℕ → ℕ) (names : List (List ℕ)) → are_own guess 0 names ≡ true → AreDistinct names
own-distinct guess names e i j d before inside same =
    let a = own-at guess 0 names e i d (omega arith) in
    let b = own-at guess 0 names e j d inside in
    let c = ap guess same in
    omega (arith, a, b, c, before)

number-at : (names : List (List ℕ)) → AreDistinct names → (k : ℕ) (name : List ℕ) (n : ℕ) → number_at k names name ≡ Some n → number_of names name ≡ Some n
number-at names differ k name n =
    cond_both (stands_at k names name) (Some k) None (λ o. o ≡ Some n → number_of names name ≡ Some n)
    (λ e is. let (inside, same) = stands-at k names name e in subst (λ x. number_of names x ≡ Some n) (sym same) (number_of-own names differ k inside ∙ is))
    (λ e is. absurd (none-some n is))

-- a guess that is confirmed is the number
guess-of : (guess : List ℕ → ℕ) (names : List (List ℕ)) → AreDistinct names → (name : List ℕ) (n : ℕ) → guess_of guess names name ≡ Some n → number_of names name ≡ Some n
guess-of guess names differ name n is = number-at names differ (guess name) name n is

each-through : {X Y : Type 0} (f g : X → Option Y) → ((x : X) (y : Y) → f x ≡ Some y → g x ≡ Some y) → (xs : List X) (ys : List Y) → each f xs ≡ Some ys → each g xs ≡ Some ys
each-through f g through [] ys all = all
each-through f g through (x ∷ xs) ys all =
    let (y, zs, here, more, last) = each-cons f x xs ys all in
    rw (through x y here, each-through f g through xs zs more) (ap Some (sym last))

-- the numbers of a draft by what finds those of names

abbrev if_by : (List ℕ → Option ℕ) → Option (List ℕ) → Option (Option ℕ)
if_by find None = Some None
if_by find (Some name) = do
  number ← find name
  Some (Some number)

abbrev phases_by : (List ℕ → Option ℕ) → DraftNode → Option (List (List ℕ))
phases_by find node = each (λ p. each find p.links) node.phases

abbrev also_by : (List ℕ → Option ℕ) → DraftNode → Option (List (List ℕ))
also_by find node = each (λ p. each find p.also) node.phases

abbrev link_by : (List ℕ → Option ℕ) → (List ℕ → Option ℕ) → List (List (List ℕ)) → DraftLink → Option Link
link_by find_node find_link phase_links l = do
  from ← if_by find_node l.from
  to ← if_by find_node l.to
  link ← find_link l.name
  Some (record { from = from; to = to; travel = l.travel; sat = l.sat; weight = l.weight; phase = phase_of phase_links link to; yield_sat = yield_sat l.yields; walk = l.walk })

abbrev turn_by : (List ℕ → Option ℕ) → DraftTurn → Option Turn
turn_by find t = do
  exit ← find t.exit
  Some (record { exit = exit; share = t.share })

abbrev conflict_by : (List ℕ → Option ℕ) → DraftConflict → Option (ℕ × ℕ)
conflict_by find c = do
  a ← find c.a
  b ← find c.b
  Some (a, b)

abbrev roads_by : (List ℕ → Option ℕ) → (List ℕ → Option ℕ) → List (List (List ℕ)) → List DraftLink → Option (List Link × List (List Turn) × List (List ℕ))
roads_by find_node find_link phase_links ls = do
  roads ← each (link_by find_node find_link phase_links) ls
  turns ← each (λ l. each (turn_by find_link) l.turns) ls
  yields ← each (λ l. each find_link (yield_names l.yields)) ls
  Some (roads, turns, yields)

abbrev pub numbered_by : (List ℕ → Option ℕ) → (List ℕ → Option ℕ) → Draft → Option Net
numbered_by find_node find_link d = do
  phase_links ← each (phases_by find_link) d.nodes
  also_links ← each (also_by find_link) d.nodes
  roads ← roads_by find_node find_link phase_links d.links
  conflicts ← each (conflict_by find_link) d.conflicts
  Some (record { run = d.run; node_names = node_names d; plans = map plan_of d.nodes; phase_links = phase_links; also_links = also_links; link_names = link_names d; links = roads.0; turns = roads.1; yields = roads.2; conflicts = conflicts })

abbrev Finds : List (List ℕ) → (List ℕ → Option ℕ) → Type 0
Finds names find = (name : List ℕ) (n : ℕ) → find name ≡ Some n → number_of names name ≡ Some n

if-by : (names : List (List ℕ)) (find : List ℕ → Option ℕ) → Finds names find → (name : Option (List ℕ)) (n : Option ℕ) → if_by find name ≡ Some n → number_if names name ≡ Some n
if-by names find finds None n e = e
if-by names find finds (Some name) n e =
    let (k, is, last) = bind-some (find name) (λ k. Some (Some k)) n e in
    rw (finds name k is) last

module _ (nodes links : List (List ℕ)) (find_node find_link : List ℕ → Option ℕ) (finds_node : Finds nodes find_node) (finds_link : Finds links find_link) where
  phases-by : (node : DraftNode) (ys : List (List ℕ)) → phases_by find_link node ≡ Some ys → phases_of links node ≡ Some ys
  phases-by node ys e = each-through (λ p. each find_link p.links) (λ p. each (number_of links) p.links) (λ p. each-through find_link (number_of links) finds_link p.links) node.phases ys e

  also-by : (node : DraftNode) (ys : List (List ℕ)) → also_by find_link node ≡ Some ys → also_of links node ≡ Some ys
  also-by node ys e = each-through (λ p. each find_link p.also) (λ p. each (number_of links) p.also) (λ p. each-through find_link (number_of links) finds_link p.also) node.phases ys e

  link-by : (phase_links : List (List (List ℕ))) (l : DraftLink) (y : Link) → link_by find_node find_link phase_links l ≡ Some y → link_of nodes links phase_links l ≡ Some y
  unfolding link_of
  link-by phase_links l y e =
      let (from, a, rest) = bind-some (if_by find_node l.from) _ y e in
      let (to, b, more) = bind-some (if_by find_node l.to) _ y rest in
      let (k, c, last) = bind-some (find_link l.name) _ y more in
      rw (if-by nodes find_node finds_node l.from from a, if-by nodes find_node finds_node l.to to b, finds_link l.name k c) last

  turn-by : (t : DraftTurn) (y : Turn) → turn_by find_link t ≡ Some y → turn_of links t ≡ Some y
  unfolding turn_of
  turn-by t y e =
      let (k, is, last) = bind-some (find_link t.exit) _ y e in
      rw (finds_link t.exit k is) last

  conflict-by : (c : DraftConflict) (y : ℕ × ℕ) → conflict_by find_link c ≡ Some y → conflict_of links c ≡ Some y
  unfolding conflict_of
  conflict-by c y e =
      let (a, first, rest) = bind-some (find_link c.a) _ y e in
      let (b, second, last) = bind-some (find_link c.b) _ y rest in
      rw (finds_link c.a a first, finds_link c.b b second) last

  roads-by : (phase_links : List (List (List ℕ))) (ls : List DraftLink) (y : List Link × List (List Turn) × List (List ℕ)) → roads_by find_node find_link phase_links ls ≡ Some y → roads_of nodes links phase_links ls ≡ Some y
  unfolding roads_of
  roads-by phase_links ls y e =
      let (rs, all, rest) = bind-some (each (link_by find_node find_link phase_links) ls) _ y e in
      let (ts, lists, more) = bind-some (each (λ l. each (turn_by find_link) l.turns) ls) _ y rest in
      let (ws, ways, last) = bind-some (each (λ l. each find_link (yield_names l.yields)) ls) _ y more in
      rw (
        each-through (link_by find_node find_link phase_links) (link_of nodes links phase_links) (link-by phase_links) ls rs all,
        each-through (λ l. each (turn_by find_link) l.turns) (turns_of links) (λ l. each-through (turn_by find_link) (turn_of links) turn-by l.turns) ls ts lists,
        each-through (λ l. each find_link (yield_names l.yields)) (yields_of links) (λ l. each-through find_link (number_of links) finds_link (yield_names l.yields)) ls ws ways,
      ) last

-- what is found by numbers of names is the network by numbers
numbered-by : (d : Draft) (find_node find_link : List ℕ → Option ℕ) → Finds (node_names d) find_node → Finds (link_names d) find_link → (net : Net) → numbered_by find_node find_link d ≡ Some net → numbered d ≡ Some net
unfolding numbered
numbered-by d find_node find_link finds_node finds_link net e =
    let (phase_links, phases, rest) = bind-some (each (phases_by find_link) d.nodes) _ net e in
    let (also_links, further, after) = bind-some (each (also_by find_link) d.nodes) _ net rest in
    let (roads, all, more) = bind-some (roads_by find_node find_link phase_links d.links) _ net after in
    let (conflicts, pairs, last) = bind-some (each (conflict_by find_link) d.conflicts) _ net more in
    let nodes = node_names d in
    let links = link_names d in
    rw (
      each-through (phases_by find_link) (phases_of links) (phases-by nodes links find_node find_link finds_node finds_link) d.nodes phase_links phases,
      each-through (also_by find_link) (also_of links) (also-by nodes links find_node find_link finds_node finds_link) d.nodes also_links further,
      roads-by nodes links find_node find_link finds_node finds_link phase_links d.links roads all,
      each-through (conflict_by find_link) (conflict_of links) (conflict-by nodes links find_node find_link finds_node finds_link) d.conflicts conflicts pairs,
    ) last

-- and so by guesses, where no two names are the same
abbrev pub numbered_guessed : (List ℕ → ℕ) → (List ℕ → ℕ) → Draft → Option Net
numbered_guessed guess_node guess_link d = numbered_by (guess_of guess_node (node_names d)) (guess_of guess_link (link_names d)) d

pub numbered-guessed : (d : Draft) (guess_node guess_link : List ℕ → ℕ) → AreDistinct (node_names d) → AreDistinct (link_names d) → (net : Net) → numbered_guessed guess_node guess_link d ≡ Some net → numbered d ≡ Some net
numbered-guessed d guess_node guess_link nodes links net e =
    numbered-by d (guess_of guess_node (node_names d)) (guess_of guess_link (link_names d)) (guess-of guess_node (node_names d) nodes) (guess-of guess_link (link_names d) links) net e
