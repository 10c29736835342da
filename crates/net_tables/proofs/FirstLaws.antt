-- The first table at fault, from the readings of the tables within a table.
use Rattle.std.proofs.Common.{◌≡◌, ℕ, ◌<◌, List, length, get_or, take, map, Option, Some, None, IsSome, Result, Err, IfErr, refl, subst, sym, ap, ◌∙◌}
use Rattle.std.proofs.lemmas.List.{take-map}
use Rattle.std.proofs.lemmas.Option.{slice_get-map, slice_get_read, get_or_from_slice_get}
use Rattle.toml.specs.Data.{Data, Members}
use Rattle.foundation.specs.Firsts.{IsFirstAt}
use Rattle.foundation.specs.Options.{◌>>=◌, each}
use Rattle.foundation.proofs.EachLaws.{each-map, each-good, each-none}
use Rattle.foundation.proofs.FirstLaws.{IsFirstAt-weaker, IsFirstAt-within}
use Rattle.foundation.proofs.OptionLaws.{and-some, some-and, bind-none}
use Rattle.net_tables.specs.Faults.{Misses, Blames}
use Rattle.net_tables.specs.FirstShape.{ordinal, IsAfterRead, IsFirstUnread, IsNodeFault, IsLinkFault, IsFaultWithin, IsShapeFault}
use Rattle.net_tables.specs.Reading.{IsFaultAmong, IsNodeAtFault, IsPhaseAtFault, IsLinkAtFault, IsConflictAtFault}
use Rattle.net_tables.specs.Table.{NodeForm, LinkForm, TopForm, top_form, run_of, node_form, node_of, phase_of, link_own, link_of, turn_of, conflict_of, draft_of, is_third}
use Rattle.net_parts.specs.declared.drafts.Draft.{Draft}
use Rattle.net_parts.specs.declared.drafts.DraftYield.{DraftYield}
use Rattle.net_parts.specs.declared.faults.NetFault.{NetFault}
use Rattle.net_parts.specs.declared.faults.NetFault.TheVariants.{NoMemory, Shape}
use Rattle.net_parts.specs.declared.faults.Section.{Section}
use Rattle.net_parts.specs.declared.faults.Section.TheVariants.{Top, Run, Node, Phase, Link, Turn, Conflict}
use Rattle.net_parts.specs.declared.faults.Place.{Place}

-- what a fault says of its place
pub Blames-weaker : {P Q : Place → Type 0} (fault : NetFault) → ((place : Place) → P place → Q place) → Blames fault P → Blames fault Q
Blames-weaker NoMemory f h = tt
Blames-weaker (Shape place) f h = f place h
Blames-weaker _ f h = absurd h

-- a fault whose place says so much is one of what is not read
pub Blames-misses : {P : Place → Type 0} (fact : Type 0) (fault : NetFault) → ((place : Place) → P place → fact) → Blames fault P → Misses fault fact
Blames-misses fact NoMemory f h = tt
Blames-misses fact (Shape place) f h = f place h
Blames-misses fact _ f h = absurd h

module _ {W X Y : Type 0} (f : X → Option Y) (g : W → X) where
  -- at the exit of a loop: the element at i, after those before it were read
  pub first-unread : (ws : List W) (i : ℕ) (w : W) (ys : List Y) (P : X → Type 0) → i < length ws → w ≡ get_or ws i w → each (λ v. f (g v)) (take i ws) ≡ Some ys → P (g w) → IsFirstAt (λ x. IsSome (f x)) P (map g ws) i
  first-unread ws i w ys P h at before here =
      let all : each f (take i (map g ws)) ≡ Some ys = rw (take-map g i ws, each-map f g (take i ws)) before in
      record {
        element = g w;
        there = rw (slice_get-map g ws i, slice_get_read ws (length ws) i w refl h at) refl;
        before = each-good f (λ x. IsSome (f x)) (λ x y is. rw is refl) (take i (map g ws)) ys all;
        here = here;
      }

-- a list with an element that is not read is not read
none-first : {X Y : Type 0} (f : X → Option Y) (good P : X → Type 0) (xs : List X) (i : ℕ) → ((x : X) → P x → f x ≡ None) → IsFirstAt good P xs i → each f xs ≡ None
none-first f good P xs i none first =
    each-none f xs i first.element (IsFirstAt-within good P xs i first)
    (ap f (get_or_from_slice_get xs i first.element first.element first.there) ∙ none first.element first.here)

none-after : {X Y : Type 0} (f : X → Option Y) (P : X → Type 0) (xs : List X) (number : ℕ) → ((x : X) → P x → f x ≡ None) → IsAfterRead f P xs number → each f xs ≡ None
none-after f P xs number none h = none-first f (λ x. IsSome (f x)) P xs h.index none h.at

-- the first element at fault is the first that is not read, under its number
after : {Y : Type 0} (f : Data → Option Y) (at_fault : ℕ → ℕ → Data → Place → Type 0) (item : ℕ) (named : Place) (ds : List Data) (number : ℕ) (P : Data → Type 0) (among : IsFaultAmong f at_fault item ds named)
    → number ≡ ordinal among.index → ((d : Data) → at_fault item (ordinal among.index) d named → P d) → IsAfterRead f P ds number
after f at_fault item named ds number P among is step = record {
  index = among.index;
  is = is;
  at = IsFirstAt-weaker (λ d. IsSome (f d)) (λ d. at_fault item (ordinal among.index) d named) ds P among.index step among.first;
}

-- the first phase of a node that is not read, and the first turn of a link
pub phases-fault : (version : Option ℕ) (d : Data) (node : NodeForm) (item number : ℕ) (named : Place) → node_form d ≡ Some node → IsFaultAmong (phase_of version) (IsPhaseAtFault version) number node.phases named → IsNodeAtFault version item number d named
phases-fault version d node item number named is among =
    let first = after (phase_of version) (IsPhaseAtFault version) number named node.phases (ordinal among.index) (λ d. phase_of version d ≡ None) among refl (λ d h. h.1) in
    subst (IsNodeAtFault version item number d) (sym among.first.here.0) (refl, and-some (λ (n : NodeForm). IsFirstUnread (phase_of version) n.phases (ordinal among.index)) (node_form d) node is first)

module _ (ms : Members) (top : TopForm) (form : top_form ms ≡ Some top) where
  -- a fault of the tables within the file is its fault
  within : (part : Section) (item sub : ℕ) → IsFaultWithin top part item sub → IsShapeFault ms part item sub
  within Top item sub h = absurd h
  within Run item sub h = and-some (λ top. IsFaultWithin top Run item sub) (top_form ms) top form h
  within Node item sub h = and-some (λ top. IsFaultWithin top Node item sub) (top_form ms) top form h
  within Phase item sub h = and-some (λ top. IsFaultWithin top Phase item sub) (top_form ms) top form h
  within Link item sub h = and-some (λ top. IsFaultWithin top Link item sub) (top_form ms) top form h
  within Turn item sub h = and-some (λ top. IsFaultWithin top Turn item sub) (top_form ms) top form h
  within Conflict item sub h = and-some (λ top. IsFaultWithin top Conflict item sub) (top_form ms) top form h

  pub run-fault : run_of top.run ≡ None → IsShapeFault ms Run 0 0
  run-fault none = within Run 0 0 (refl, refl, none)

  module _ (run : IsSome (run_of top.run)) where
    node-within : (part : Section) (item sub : ℕ) → IsAfterRead (node_of top.version) (λ d. IsNodeFault top.version d part sub) top.nodes item → IsFaultWithin top part item sub
    node-within Node item sub h = (run, h)
    node-within Phase item sub h = (run, h)
    node-within _ item sub h = absurd h.at.here

    -- the first node that is not read
    pub nodes-fault : (named : Place) → IsFaultAmong (node_of top.version) (IsNodeAtFault top.version) 0 top.nodes named → IsShapeFault ms named.part named.item named.sub
    nodes-fault named among =
        within named.part named.item named.sub (node-within named.part named.item named.sub (after (node_of top.version) (IsNodeAtFault top.version) 0 named top.nodes named.item (λ d. IsNodeFault top.version d named.part named.sub) among among.first.here.0 (λ d h. h.1)))

    module _ (nodes : IsSome (each (node_of top.version) top.nodes)) where
      link-within : (part : Section) (item sub : ℕ) → IsAfterRead (link_of top.version) (λ d. IsLinkFault top.version d part sub) top.links item → IsFaultWithin top part item sub
      link-within Link item sub h = (run, nodes, h)
      link-within Turn item sub h = (run, nodes, h)
      link-within _ item sub h = absurd h.at.here

      -- the first link that is not read
      pub links-fault : (named : Place) → IsFaultAmong (link_of top.version) (IsLinkAtFault top.version) 0 top.links named → IsShapeFault ms named.part named.item named.sub
      links-fault named among =
          within named.part named.item named.sub (link-within named.part named.item named.sub (after (link_of top.version) (IsLinkAtFault top.version) 0 named top.links named.item (λ d. IsLinkFault top.version d named.part named.sub) among among.first.here.0 (λ d h. h.1)))

      -- the first conflict that is not read
      pub conflicts-fault : IsSome (each (link_of top.version) top.links) → (named : Place) → IsFaultAmong conflict_of (IsConflictAtFault top.version) 0 top.conflicts named → IsShapeFault ms named.part named.item named.sub
      conflicts-fault links named among =
          let first = after conflict_of (IsConflictAtFault top.version) 0 named top.conflicts (ordinal among.index) (λ d. conflict_of d ≡ None) among refl (λ d h. h.1) in
          subst (λ (n : Place). IsShapeFault ms n.part n.item n.sub) (sym among.first.here.0) (within Conflict (ordinal among.index) 0 (run, nodes, links, refl, first))

-- a node with a fault is not read, nor is a link
node-none : (version : Option ℕ) (d : Data) (part : Section) (sub : ℕ) → IsNodeFault version d part sub → node_of version d ≡ None
unfolding node_of
node-none version d Node sub h = rw h.1 refl
node-none version d Phase sub h =
    let (node, is, first) = some-and (λ (n : NodeForm). IsFirstUnread (phase_of version) n.phases sub) (node_form d) h in
    rw (is, none-after (phase_of version) (λ x. phase_of version x ≡ None) node.phases sub (λ x no. no) first) refl
node-none version d _ sub h = absurd h

link-none : (version : Option ℕ) (d : Data) (part : Section) (sub : ℕ) → IsLinkFault version d part sub → link_of version d ≡ None
unfolding link_of
link-none version d Link sub h = rw h.1 refl
link-none version d Turn sub h =
    let (link, is, first) = some-and (λ (l : LinkForm × Option DraftYield). IsFirstUnread turn_of l.0.turns sub) (link_own version d) h in
    rw (is, none-after turn_of (λ x. turn_of x ≡ None) link.0.turns sub (λ x no. no) first) refl
link-none version d _ sub h = absurd h

abbrev within_top : TopForm → Option Draft
within_top top = do
  run ← run_of top.run
  nodes ← each (node_of top.version) top.nodes
  links ← each (link_of top.version) top.links
  conflicts ← each conflict_of top.conflicts
  Some (record { run = run; nodes = nodes; links = links; conflicts = conflicts; great = is_third top.version })

-- a file with a fault in the tables within it has no draft
within_top-none : (top : TopForm) (part : Section) (item sub : ℕ) → IsFaultWithin top part item sub → within_top top ≡ None
within_top-none top Top item sub h = absurd h
within_top-none top Run item sub h = rw h.2 refl
within_top-none top Node item sub h =
    let nodes = none-after (node_of top.version) (λ d. IsNodeFault top.version d Node sub) top.nodes item (λ d k. node-none top.version d Node sub k) h.1 in
    bind-none (run_of top.run) _ (λ run. rw nodes refl)
within_top-none top Phase item sub h =
    let nodes = none-after (node_of top.version) (λ d. IsNodeFault top.version d Phase sub) top.nodes item (λ d k. node-none top.version d Phase sub k) h.1 in
    bind-none (run_of top.run) _ (λ run. rw nodes refl)
within_top-none top Link item sub h =
    let links = none-after (link_of top.version) (λ d. IsLinkFault top.version d Link sub) top.links item (λ d k. link-none top.version d Link sub k) h.2 in
    bind-none (run_of top.run) _ (λ run. bind-none (each (node_of top.version) top.nodes) _ (λ nodes. rw links refl))
within_top-none top Turn item sub h =
    let links = none-after (link_of top.version) (λ d. IsLinkFault top.version d Turn sub) top.links item (λ d k. link-none top.version d Turn sub k) h.2 in
    bind-none (run_of top.run) _ (λ run. bind-none (each (node_of top.version) top.nodes) _ (λ nodes. rw links refl))
within_top-none top Conflict item sub h =
    let conflicts = none-after conflict_of (λ d. conflict_of d ≡ None) top.conflicts item (λ d no. no) h.4 in
    bind-none (run_of top.run) _ (λ run. bind-none (each (node_of top.version) top.nodes) _ (λ nodes. bind-none (each (link_of top.version) top.links) _ (λ links. rw conflicts refl)))

-- and so has one with any fault
draft-none : (ms : Members) (part : Section) (item sub : ℕ) → IsShapeFault ms part item sub → draft_of ms ≡ None
unfolding draft_of
draft-none ms Top item sub h = rw h.2 refl
draft-none ms Run item sub h = let (top, is, at) = some-and (λ top. IsFaultWithin top Run item sub) (top_form ms) h in rw is (within_top-none top Run item sub at)
draft-none ms Node item sub h = let (top, is, at) = some-and (λ top. IsFaultWithin top Node item sub) (top_form ms) h in rw is (within_top-none top Node item sub at)
draft-none ms Phase item sub h = let (top, is, at) = some-and (λ top. IsFaultWithin top Phase item sub) (top_form ms) h in rw is (within_top-none top Phase item sub at)
draft-none ms Link item sub h = let (top, is, at) = some-and (λ top. IsFaultWithin top Link item sub) (top_form ms) h in rw is (within_top-none top Link item sub at)
draft-none ms Turn item sub h = let (top, is, at) = some-and (λ top. IsFaultWithin top Turn item sub) (top_form ms) h in rw is (within_top-none top Turn item sub at)
draft-none ms Conflict item sub h = let (top, is, at) = some-and (λ top. IsFaultWithin top Conflict item sub) (top_form ms) h in rw is (within_top-none top Conflict item sub at)

-- what is answered where there is no draft
pub record IsRefused (ms : Members) (result : Result Draft NetFault) : Type 0 where
  pub refused : IfErr result (λ fault. Misses fault (draft_of ms ≡ None))
  pub first : IfErr result (λ fault. Blames fault (λ place. IsShapeFault ms place.part place.item place.sub))

-- so at a fault of the elements of the file
pub draft-refused : (ms : Members) (fault : NetFault) (result : Result Draft NetFault) (P : Place → Type 0) → result ≡ Err fault → ((named : Place) → P named → IsShapeFault ms named.part named.item named.sub) → Blames fault P → IsRefused ms result
draft-refused ms fault result P is step h = record {
  refused = rw is (Blames-misses (draft_of ms ≡ None) fault (λ named k. draft-none ms named.part named.item named.sub (step named k)) h);
  first = rw is (Blames-weaker fault step h);
}
