-- The reader of a sheet and what was told.
use Rattle.std.proofs.Common.{◌≡◌, ◌≢◌, ℕ, suc, ◌+◌, ◌<◌, ◌≤◌, Bool, true, false, List, [], ◌∷◌, ◌++◌, length, filter_map, get_or, map, take, Option, Some, None, is_some, All, refl, sym, ap, ◌∙◌, subst, inl, inr, arith, append-nil, length-append, length-take}
use Rattle.std.specs.List.{cons_option}
use Rattle.std.specs.Str.{bytes_eq}
use Rattle.std.proofs.lemmas.Bool.{cases_lt, true≢false}
use Rattle.std.proofs.lemmas.List.{get_or-map, get_or_default, length-map, same_lists, take_all, take_more}
use Rattle.std.proofs.lemmas.List.Elements.{All-map, All-nil, All-push, filter_map-append}
use Rattle.std.proofs.lemmas.List.Quantifiers.{position-Some}
use Rattle.std.proofs.lemmas.Slice.Eq.{bytes_eq-Decides}
use Rattle.control_flow.specs.declared.greens.Green.{Green}
use Rattle.net_parts.specs.Numbers.{Net, number_of}
use Rattle.net_parts.proofs.Known.{number_of-known}
use Rattle.net_parts.specs.Outline.{link_name_at, node_name_at}
use Rattle.net_simulator.specs.declared.totals.LinkTotals.{LinkTotals}
use Rattle.net_simulator.specs.declared.totals.Totals.{Totals}
use Rattle.road_net.specs.Network.{IsNetwork}
use Rattle.audit.specs.declared.sheet_reader.SheetReader.{SheetReader}
use Rattle.audit.specs.declared.sheet.Sheet.{Sheet}
use Rattle.audit.specs.SheetEntries.{HasCome, sums_if}
use Rattle.audit.specs.SheetFaults.{IsEarly}
use Rattle.audit.specs.SheetTexts.{HasShape, IsSheetOf, NamesNode, counts_of, green_of, link_of, links_counted, sums_of}
use Rattle.audit.specs.SheetRecords.{Counts, Ignored, Shows, Sums, SheetRecord}

-- an option that was tested
pub is_none-from : {X : Type 0} (o : Option X) → is_some o ≡ false → o ≡ None
is_none-from None none = refl
is_none-from (Some x) none = absurd (true≢false none)

-- totals are told of as many links as are named
pub counted-names : (parsed : List SheetRecord) → length (filter_map counts_of parsed) ≡ links_counted parsed
counted-names [] = refl
counted-names (Ignored ∷ parsed) = counted-names parsed
counted-names (Shows node green ∷ parsed) = counted-names parsed
counted-names (Counts link totals ∷ parsed) = ap suc (counted-names parsed)
counted-names (Sums totals ∷ parsed) = counted-names parsed

-- nothing was told
pub come-none : (net : Net) (reader : SheetReader) → length reader.lines.items ≡ length net.node_names → ((k : ℕ) → k < length net.node_names → get_or reader.lines.items k [] ≡ []) → reader.links.items ≡ [] → reader.totals ≡ None
    → HasCome net [] reader
come-none net reader lines empty links totals = record {
  nodes = All-nil (NamesNode net);
  names = refl;
  lines = lines;
  shown = empty;
  counted = links;
  once = sym (ap sums_if totals);
}

module _ (net : Net) (parsed : List SheetRecord) (old : SheetReader) (come : HasCome net parsed old) where
  -- how many links were told
  pub come-links : length old.links.items ≡ links_counted parsed
  come-links = ap length come.counted ∙ counted-names parsed

  -- no more than there are
  pub links-most : length net.link_names ≤ length old.links.items → links_counted parsed ≡ length net.link_names
  links-most all = let most = ap length come.names ∙ length-take (links_counted parsed) net.link_names in omega (arith, most, all, come-links)

  -- how many totals of the network were told
  pub come-once : length (filter_map sums_of parsed) ≤ 1
  come-once = by old.totals (ap length come.once)
    where
      by : (o : Option Totals) → length (filter_map sums_of parsed) ≡ length (sums_if o) → length (filter_map sums_of parsed) ≤ 1
      by None is = omega (arith, is)
      by (Some totals) is = omega (arith, is)

  -- nothing more is told
  pub come-passed : HasCome net (parsed ++ Ignored ∷ []) old
  come-passed = record {
    nodes = All-push (NamesNode net) parsed Ignored come.nodes tt;
    names = names;
    lines = come.lines;
    shown = λ k h. come.shown k h ∙ sym (filter_map-append (green_of (node_name_at net k)) parsed (Ignored ∷ []) ∙ append-nil _);
    counted = come.counted ∙ sym (filter_map-append counts_of parsed (Ignored ∷ []) ∙ append-nil _);
    once = filter_map-append sums_of parsed (Ignored ∷ []) ∙ append-nil _ ∙ come.once;
  }
    where
      same : filter_map link_of (parsed ++ Ignored ∷ []) ≡ filter_map link_of parsed
      same = filter_map-append link_of parsed (Ignored ∷ []) ∙ append-nil _

      names : filter_map link_of (parsed ++ Ignored ∷ []) ≡ take (links_counted (parsed ++ Ignored ∷ [])) net.link_names
      names = same ∙ come.names ∙ sym (ap (λ (l : List (List ℕ)). take (length l) net.link_names) same)

  -- a green more, of this node
  module _ (is : IsNetwork net) (name : List ℕ) (green : Green) (node : ℕ) (found : number_of net.node_names name ≡ Some node) (new : SheetReader)
      (count : length new.lines.items ≡ length old.lines.items)
      (here : get_or new.lines.items node [] ≡ get_or old.lines.items node [] ++ green ∷ [])
      (others : (k : ℕ) → k ≢ node → get_or new.lines.items k [] ≡ get_or old.lines.items k [])
      (links : new.links ≡ old.links) (totals : new.totals ≡ old.totals) where
    same-links : filter_map link_of (parsed ++ Shows name green ∷ []) ≡ filter_map link_of parsed
    same-links = filter_map-append link_of parsed (Shows name green ∷ []) ∙ append-nil _

    named : name ≡ get_or net.node_names node []
    named = let (within, passes, first) = position-Some (bytes_eq name) net.node_names node [] found in (bytes_eq-Decides name (get_or net.node_names node [])).0 passes

    within-names : node < length net.node_names
    within-names = let (within, passes, first) = position-Some (bytes_eq name) net.node_names node [] found in within

    -- two names at two places
    differ : (a b : ℕ) → a < b → b < length net.node_names → get_or net.node_names a [] ≡ get_or net.node_names b [] → ⊥
    differ a b less inside same = is.outline.nodes_differ a b [] less inside same

    other-name : (k : ℕ) → k < length net.node_names → k ≢ node → bytes_eq name (node_name_at net k) ≡ false
    other-name k h other = by (bytes_eq name (node_name_at net k)) refl
      where
        by : (b : Bool) → bytes_eq name (node_name_at net k) ≡ b → b ≡ false
        by false e = refl
        by true e =
            let same : get_or net.node_names node [] ≡ get_or net.node_names k [] = sym named ∙ (bytes_eq-Decides name (node_name_at net k)).0 e in
            elim (cases_lt k node) [
              | inl less ↦ absurd (differ k node less within-names (sym same))
              | inr more ↦ absurd (differ node k (let b : k ≡ node → ⊥ = other in elim (cases_lt node k) [ inl l ↦ l | inr m ↦ absurd (b (omega (arith, more, m))) ]) h same)
            ]

    shown-at : (k : ℕ) → k < length net.node_names → get_or new.lines.items k [] ≡ filter_map (green_of (node_name_at net k)) (parsed ++ Shows name green ∷ [])
    shown-at k h = elim (cases_lt k node) [
      | inl less ↦ passed (λ e. omega (arith, less, e))
      | inr more ↦ elim (cases_lt node k) [ inl less ↦ passed (λ e. omega (arith, less, e)) | inr most ↦ mine (omega (arith, more, most)) ]
    ]
      where
        split : filter_map (green_of (node_name_at net k)) (parsed ++ Shows name green ∷ []) ≡ filter_map (green_of (node_name_at net k)) parsed ++ filter_map (green_of (node_name_at net k)) (Shows name green ∷ [])
        split = filter_map-append (green_of (node_name_at net k)) parsed (Shows name green ∷ [])

        passed : k ≢ node → get_or new.lines.items k [] ≡ filter_map (green_of (node_name_at net k)) (parsed ++ Shows name green ∷ [])
        passed other = others k other ∙ come.shown k h ∙ sym (append-nil _) ∙ sym (split ∙ rw (other-name k h other) refl)

        mine : k ≡ node → get_or new.lines.items k [] ≡ filter_map (green_of (node_name_at net k)) (parsed ++ Shows name green ∷ [])
        mine e =
            let own : bytes_eq name (node_name_at net k) ≡ true = (bytes_eq-Decides name (node_name_at net k)).1 (named ∙ ap (λ j. get_or net.node_names j []) (sym e)) in
            ap (λ j. get_or new.lines.items j []) e ∙ here ∙ ap (λ j. get_or old.lines.items j [] ++ green ∷ []) (sym e) ∙ ap (λ l. l ++ green ∷ []) (come.shown k h) ∙ sym (split ∙ rw own refl)

    pub come-green : HasCome net (parsed ++ Shows name green ∷ []) new
    come-green = record {
      nodes = All-push (NamesNode net) parsed (Shows name green) come.nodes (number_of-known net.node_names name node found);
      names = same-links ∙ come.names ∙ sym (ap (λ (l : List (List ℕ)). take (length l) net.link_names) same-links);
      lines = count ∙ come.lines;
      shown = shown-at;
      counted = ap (λ l. l.items) links ∙ come.counted ∙ sym (filter_map-append counts_of parsed (Shows name green ∷ []) ∙ append-nil _);
      once = filter_map-append sums_of parsed (Shows name green ∷ []) ∙ append-nil _ ∙ come.once ∙ sym (ap sums_if totals);
    }

  -- totals of the next link more
  pub come-counts : (name : List ℕ) (totals : LinkTotals) (new : SheetReader) → length old.links.items < length net.link_names → name ≡ link_name_at net (length old.links.items) → new.links.items ≡ old.links.items ++ totals ∷ []
      → new.lines ≡ old.lines → new.totals ≡ old.totals → HasCome net (parsed ++ Counts name totals ∷ []) new
  come-counts name totals new room next links lines sums = record {
    nodes = All-push (NamesNode net) parsed (Counts name totals) come.nodes tt;
    names = names;
    lines = ap (λ l. length l.items) lines ∙ come.lines;
    shown = λ k h. ap (λ l. get_or l.items k []) lines ∙ come.shown k h ∙ sym (filter_map-append (green_of (node_name_at net k)) parsed (Counts name totals ∷ []) ∙ append-nil _);
    counted = links ∙ ap (λ l. l ++ totals ∷ []) come.counted ∙ sym (filter_map-append counts_of parsed (Counts name totals ∷ []));
    once = filter_map-append sums_of parsed (Counts name totals ∷ []) ∙ append-nil _ ∙ come.once ∙ sym (ap sums_if sums);
  }
    where
      split : filter_map link_of (parsed ++ Counts name totals ∷ []) ≡ filter_map link_of parsed ++ name ∷ []
      split = filter_map-append link_of parsed (Counts name totals ∷ [])

      longer : links_counted (parsed ++ Counts name totals ∷ []) ≡ links_counted parsed + 1
      longer = ap length split ∙ length-append (filter_map link_of parsed) (name ∷ [])

      more : take (links_counted parsed + 1) net.link_names ≡ take (links_counted parsed) net.link_names ++ link_name_at net (links_counted parsed) ∷ []
      more = take_more net.link_names (links_counted parsed) [] (omega (arith, room, come-links))

      names : filter_map link_of (parsed ++ Counts name totals ∷ []) ≡ take (links_counted (parsed ++ Counts name totals ∷ [])) net.link_names
      names =
          split ∙ ap (λ l. l ++ name ∷ []) come.names ∙ ap (λ (n : List ℕ). take (links_counted parsed) net.link_names ++ n ∷ []) (next ∙ ap (link_name_at net) come-links) ∙ sym more
          ∙ sym (ap (λ k. take k net.link_names) longer)

  -- totals of the network
  pub come-sums : (totals : Totals) (new : SheetReader) → old.totals ≡ None → new.lines ≡ old.lines → new.links ≡ old.links → new.totals ≡ Some totals → HasCome net (parsed ++ Sums totals ∷ []) new
  come-sums totals new none lines links sums = record {
    nodes = All-push (NamesNode net) parsed (Sums totals) come.nodes tt;
    names = same ∙ come.names ∙ sym (ap (λ (l : List (List ℕ)). take (length l) net.link_names) same);
    lines = ap (λ l. length l.items) lines ∙ come.lines;
    shown = λ k h. ap (λ l. get_or l.items k []) lines ∙ come.shown k h ∙ sym (filter_map-append (green_of (node_name_at net k)) parsed (Sums totals ∷ []) ∙ append-nil _);
    counted = ap (λ l. l.items) links ∙ come.counted ∙ sym (filter_map-append counts_of parsed (Sums totals ∷ []) ∙ append-nil _);
    once = filter_map-append sums_of parsed (Sums totals ∷ []) ∙ ap (λ l. l ++ totals ∷ []) (come.once ∙ ap sums_if none) ∙ sym (ap sums_if sums);
  }
    where
      same : filter_map link_of (parsed ++ Sums totals ∷ []) ≡ filter_map link_of parsed
      same = filter_map-append link_of parsed (Sums totals ∷ []) ∙ append-nil _

  -- the end
  pub come-early : length old.links.items < length net.link_names → IsEarly net parsed
  come-early few = inl (omega (arith, few, come-links))

  pub come-sumless : old.totals ≡ None → IsEarly net parsed
  come-sumless none = inr (come.once ∙ ap sums_if none)

  pub come-sheet : (sheet : Sheet) → length net.link_names ≤ length old.links.items → sheet.lines ≡ old.lines.items → sheet.links ≡ old.links.items → old.totals ≡ Some sheet.totals → IsSheetOf net parsed sheet
  come-sheet sheet all lines links totals = record {
    nodes = come.nodes;
    shown = lines ∙ same_lists old.lines.items (map line_at net.node_names) (come.lines ∙ sym (length-map net.node_names line_at)) (λ k d h. at k d (omega (arith, h, come.lines)));
    names = come.names ∙ take_all (links_counted parsed) net.link_names (omega (arith, all, come-links));
    counted = links ∙ come.counted;
    once = come.once ∙ ap sums_if totals;
  }
    where
      line_at : List ℕ → List Green
      line_at node = filter_map (green_of node) parsed

      at : (k : ℕ) (d : List Green) → k < length net.node_names → get_or old.lines.items k d ≡ get_or (map line_at net.node_names) k d
      at k d h =
          get_or_default old.lines.items k d [] (omega (arith, h, come.lines)) ∙ come.shown k h ∙ sym (get_or-map line_at net.node_names k [] d h)

-- what is gathered is no more than what is told
one-more : {Y : Type 0} (o : Option Y) (ys : List Y) (most : ℕ) → length ys ≤ most → length (cons_option o ys) ≤ most + 1
one-more None ys most few = omega (arith, few)
one-more (Some y) ys most few = omega (arith, few)

gathered-few : {Y : Type 0} (f : SheetRecord → Option Y) (parsed : List SheetRecord) → length (filter_map f parsed) ≤ length parsed
gathered-few f [] = omega arith
gathered-few f (t ∷ parsed) = omega (arith, one-more (f t) (filter_map f parsed) (length parsed) (gathered-few f parsed))

-- no line has more rows than what is told
pub rows-few : (net : Net) (parsed : List SheetRecord) (sheet : Sheet) (most : ℕ) → length parsed < most → IsSheetOf net parsed sheet → All (λ (rows : List Green). length rows < most) sheet.lines
rows-few net parsed sheet most few is =
    subst (All (λ (rows : List Green). length rows < most)) (sym is.shown)
    (All-map (λ (rows : List Green). length rows < most) (λ node. filter_map (green_of node) parsed) net.node_names (λ k d h. omega (arith, few, gathered-few (green_of (get_or net.node_names k d)) parsed)))

-- a sheet has the network's shape
pub shape-of : (net : Net) (parsed : List SheetRecord) (sheet : Sheet) → IsSheetOf net parsed sheet → HasShape net sheet
shape-of net parsed sheet is = record {
  lines = ap length is.shown ∙ length-map net.node_names _;
  links = ap length is.counted ∙ counted-names parsed ∙ ap length is.names;
}
