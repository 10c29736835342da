-- Records by which a sheet is told are the text of it.
use Rattle.std.proofs.Common.{◌≡◌, ◌≢◌, ℕ, zero, suc, ◌+◌, ◌<◌, ◌≤◌, true, false, List, [], ◌∷◌, ◌++◌, length, filter_map, get_or, map, Option, Some, None, All, refl, sym, ap, ◌∙◌, subst, inl, inr, arith, append-nil}
use Rattle.std.specs.List.{flat_map, range_with_len}
use Rattle.std.specs.Fmt.{decimal}
use Rattle.std.specs.Str.{bytes_eq}
use Rattle.std.proofs.lemmas.Bool.{cases_lt, cases_Bool}
use Rattle.std.proofs.lemmas.List.{get_or-map, length-map, same_lists}
use Rattle.std.proofs.lemmas.List.Elements.{All-append, All-cons, All-head, All-tail, All-map, All-nil, Contains-get_or, filter_map-append}
use Rattle.std.proofs.lemmas.List.FromFn.{fill_by_all, get_or-map-range_with_len, get_or-range_with_len, length-range_with_len}
use Rattle.std.proofs.lemmas.Option.{same_Some}
use Rattle.std.proofs.lemmas.Slice.Eq.{bytes_eq-Decides}
use Rattle.foundation.specs.Options.{each}
use Rattle.foundation.proofs.EachLaws.{each-cons, each-good}
use Rattle.control_flow.specs.declared.greens.Green.{Green}
use Rattle.net_parts.specs.Numbers.{Net}
use Rattle.net_parts.specs.Outline.{link_name_at, node_name_at}
use Rattle.net_simulator.specs.Counts.{counts_at, no_totals}
use Rattle.net_simulator.specs.declared.totals.LinkTotals.{LinkTotals}
use Rattle.net_simulator.specs.declared.totals.Totals.{Totals}
use Rattle.road_net.specs.Network.{IsNetwork}
use Rattle.world_records.specs.Records.{green_record, green_records, header, link_record, link_record_of, records_text, total_record}
use Rattle.world_records.specs.Told.{AreToldCounts, IsToldGreen, told_line}
use Rattle.world_records.proofs.RecordLaws.{HasField, header-first, read-records}
use Rattle.audit.specs.declared.sheet.Sheet.{Sheet}
use Rattle.audit.specs.SheetTexts.{IsSheetOf, IsSheetText, NamesNode, counts_of, form, green_of, link_of, sums_of}
use Rattle.record_text.specs.Forms.{AreRecordsOf}
use Rattle.audit.specs.SheetRecords.{Counts, Ignored, Shows, Sums, SheetRecord, parse_fields, parse, parse_green, parse_counts, parse_sums}
use Rattle.audit.specs.LineReports.{cut_at}
use Rattle.audit.specs.WrittenSheets.{AreToldSums, CanBeTold, IsPassedOver, sheet_records}
use Rattle.audit.proofs.SheetFieldLaws.{some-number}

-- two lists that are read one after the other
pub each-both : {X Y : Type 0} (f : X → Option Y) (xs xs' : List X) (ys ys' : List Y) → each f xs ≡ Some ys → each f xs' ≡ Some ys' → each f (xs ++ xs') ≡ Some (ys ++ ys')
each-both f [] xs' ys ys' first second = second ∙ ap (λ l. Some (l ++ ys')) (same_Some [] ys first)
each-both f (x ∷ xs) xs' ys ys' first second =
    let (y, zs, here, more, last) = each-cons f x xs ys first in
    rw (here, each-both f xs xs' zs ys' more second) (ap (λ l. Some (l ++ ys')) (sym last))

-- a list whose elements are read as these
each-of : {W X Y : Type 0} (f : X → Option Y) (g : W → X) (h : W → Y) (ws : List W) → All (λ w. f (g w) ≡ Some (h w)) ws → each f (map g ws) ≡ Some (map h ws)
each-of f g h [] reads = refl
each-of f g h (w ∷ ws) reads =
    let here = All-head (λ w. f (g w) ≡ Some (h w)) w ws reads in
    rw (here, each-of f g h ws (All-tail (λ w. f (g w) ≡ Some (h w)) w ws reads)) refl

each-flat : {W X Y : Type 0} (f : X → Option Y) (g : W → List X) (h : W → List Y) (ws : List W) → All (λ w. each f (g w) ≡ Some (h w)) ws → each f (flat_map g ws) ≡ Some (flat_map h ws)
each-flat f g h [] reads = refl
each-flat f g h (w ∷ ws) reads =
    each-both f (g w) (flat_map g ws) (h w) (flat_map h ws) (All-head (λ w. each f (g w) ≡ Some (h w)) w ws reads)
    (each-flat f g h ws (All-tail (λ w. each f (g w) ≡ Some (h w)) w ws reads))

-- what holds of each number below n
all-below : (P : ℕ → Type 0) (n : ℕ) → ((k : ℕ) → k < n → P k) → All P (range_with_len 0 n)
all-below P n each k d inside =
    let below : k < n = omega (arith, inside, length-range_with_len 0 n) in
    let at : get_or (range_with_len 0 n) k d ≡ k = get_or-range_with_len 0 n k d below ∙ (let e : 0 + k ≡ k = omega arith in e) in
    subst P (sym at) (each k below)

-- what a record tells
module _ (net : Net) where
  green-tells : (node : ℕ) (green : Green) → IsToldGreen green → parse (green_record net node green) ≡ Some (Shows (node_name_at net node) green)
  unfolding parse_fields parse_green
  green-tells node green fits =
      rw (
        some-number 8 (decimal green.phase) green.phase fits.phase (let f = fits.phase in omega arith) refl,
        some-number 32 (decimal green.from) green.from fits.from (let f = fits.from in omega arith) refl,
        some-number 32 (decimal green.to) green.to fits.to (let f = fits.to in omega arith) refl,
      ) refl

  link-tells : (link : ℕ) (totals : LinkTotals) → AreToldCounts totals → parse (link_record net link totals) ≡ Some (Counts (link_name_at net link) totals)
  unfolding parse_fields parse_counts
  link-tells link totals fits =
      rw (
        some-number 64 (decimal totals.entered) totals.entered fits.entered fits.entered refl,
        some-number 64 (decimal totals.left) totals.left fits.left fits.left refl,
        some-number 64 (decimal totals.delay) totals.delay fits.delay fits.delay refl,
      ) refl

  total-tells : (totals : Totals) → AreToldSums totals → parse (total_record totals) ≡ Some (Sums totals)
  unfolding parse_fields parse_sums
  total-tells totals fits =
      rw (
        some-number 64 (decimal totals.entered) totals.entered fits.entered fits.entered refl,
        some-number 64 (decimal totals.left) totals.left fits.left fits.left refl,
        some-number 64 (decimal totals.on) totals.on fits.on fits.on refl,
        some-number 64 (decimal totals.delay) totals.delay fits.delay fits.delay refl,
      ) refl

-- a record that tells something has a field
has-field : (fields : List (List ℕ)) (t : SheetRecord) → parse fields ≡ Some t → HasField fields
has-field [] t reads = cc
has-field (field ∷ fields) t reads = omega arith

-- what is gathered of a list of things told
gathered : {W Y : Type 0} (f : SheetRecord → Option Y) (g : W → SheetRecord) (h : W → Y) → ((w : W) → f (g w) ≡ Some (h w)) → (ws : List W) → filter_map f (map g ws) ≡ map h ws
gathered f g h is [] = refl
gathered f g h is (w ∷ ws) = rw (is w, gathered f g h is ws) refl

none-gathered : {W Y : Type 0} (f : SheetRecord → Option Y) (g : W → SheetRecord) → ((w : W) → f (g w) ≡ None) → (ws : List W) → filter_map f (map g ws) ≡ []
none-gathered f g is [] = refl
none-gathered f g is (w ∷ ws) = rw (is w, none-gathered f g is ws) refl

none-flat : {W Y : Type 0} (f : SheetRecord → Option Y) (g : W → List SheetRecord) → ((w : W) → filter_map f (g w) ≡ []) → (ws : List W) → filter_map f (flat_map g ws) ≡ []
none-flat f g is [] = refl
none-flat f g is (w ∷ ws) = filter_map-append f (g w) (flat_map g ws) ∙ ap (λ l. l ++ filter_map f (flat_map g ws)) (is w) ∙ none-flat f g is ws

map-same : {X : Type 0} (xs : List X) → map (λ x. x) xs ≡ xs
map-same [] = refl
map-same (x ∷ xs) = ap (λ l. x ∷ l) (map-same xs)

-- The greens of one node of those of several, where these have other names
module _ (name_of : ℕ → List ℕ) (rows : ℕ → List Green) where
  abbrev shows : ℕ → List SheetRecord
  shows node = map (Shows (name_of node)) (rows node)

  own : (name : List ℕ) (node : ℕ) → bytes_eq (name_of node) name ≡ true → filter_map (green_of name) (shows node) ≡ rows node
  own name node same = gathered (green_of name) (Shows (name_of node)) (λ green. green) (λ green. rw same refl) (rows node) ∙ map-same (rows node)

  others : (name : List ℕ) (node : ℕ) → bytes_eq (name_of node) name ≡ false → filter_map (green_of name) (shows node) ≡ []
  others name node other = none-gathered (green_of name) (Shows (name_of node)) (λ green. rw other refl) (rows node)

  -- none of the nodes has the name
  none-of : (name : List ℕ) (s n : ℕ) → ((k : ℕ) → s ≤ k → k < s + n → bytes_eq (name_of k) name ≡ false) → filter_map (green_of name) (flat_map shows (range_with_len s n)) ≡ []
  none-of name s zero differ = refl
  none-of name s (suc n) differ =
      filter_map-append (green_of name) (shows s) (flat_map shows (range_with_len (s + 1) n))
      ∙ ap (λ l. l ++ filter_map (green_of name) (flat_map shows (range_with_len (s + 1) n))) (others name s (differ s (omega arith) (omega arith)))
      ∙ none-of name (s + 1) n (λ k low high. differ k (omega arith) (omega arith))

  one-of : (name : List ℕ) (s n node : ℕ) → s ≤ node → node < s + n → bytes_eq (name_of node) name ≡ true → ((k : ℕ) → s ≤ k → k < s + n → k ≢ node → bytes_eq (name_of k) name ≡ false)
      → filter_map (green_of name) (flat_map shows (range_with_len s n)) ≡ rows node
  one-of name s zero node low high same differ = absurd (omega arith)
  one-of name s (suc n) node low high same differ =
      filter_map-append (green_of name) (shows s) (flat_map shows (range_with_len (s + 1) n)) ∙ elim (cases_lt s node) [
        | inl less ↦
            ap (λ l. l ++ filter_map (green_of name) (flat_map shows (range_with_len (s + 1) n))) (others name s (differ s (omega arith) (omega arith) (λ e. omega (arith, less, e))))
            ∙ one-of name (s + 1) n node (omega (arith, less)) (omega arith) same (λ k from to. differ k (omega arith) (omega arith))
        | inr more ↦
            let here : s ≡ node = omega (arith, more, low) in
            let mine : filter_map (green_of name) (shows s) ≡ rows node = ap (λ k. filter_map (green_of name) (shows k)) here ∙ own name node same in
            ap (λ l. l ++ filter_map (green_of name) (flat_map shows (range_with_len (s + 1) n))) mine
            ∙ ap (λ l. rows node ++ l) (none-of name (s + 1) n (λ k from to. differ k (omega arith) (omega arith) (λ e. omega (arith, from, e, here)))) ∙ append-nil (rows node)
      ]

module _ (net : Net) (network : IsNetwork net) (passed : List (List (List ℕ))) (over : All IsPassedOver passed) (end : ℕ) (s : Sheet) (can : CanBeTold net (cut_at net end s)) where
  abbrev nodes : ℕ
  nodes = length net.node_names

  abbrev links : ℕ
  links = length net.link_names

  -- the greens of a node that are told, and those of all nodes
  abbrev rows : ℕ → List Green
  rows node = told_line net s.lines end node

  -- a name of another node
  other-name : (node k : ℕ) → node < nodes → k < nodes → k ≢ node → bytes_eq (node_name_at net k) (node_name_at net node) ≡ false
  other-name node k at below other = elim (cases_Bool (bytes_eq (node_name_at net k) (node_name_at net node))) [
    | inr apart ↦ apart
    | inl equal ↦
        let same : node_name_at net k ≡ node_name_at net node = (bytes_eq-Decides (node_name_at net k) (node_name_at net node)).0 equal in
        elim (cases_lt k node) [
          | inl less ↦ absurd (network.outline.nodes_differ k node [] less at same)
          | inr more ↦ absurd (network.outline.nodes_differ node k [] (let b : k ≡ node → ⊥ = other in elim (cases_lt node k) [ inl l ↦ l | inr m ↦ absurd (b (omega (arith, more, m))) ]) below (sym same))
        ]
  ]

  abbrev told_passed : List SheetRecord
  told_passed = map (λ fields. Ignored) passed

  abbrev told_greens : List SheetRecord
  told_greens = flat_map (λ node. map (Shows (node_name_at net node)) (rows node)) (range_with_len 0 nodes)

  abbrev told_links : List SheetRecord
  told_links = map (λ link. Counts (link_name_at net link) (counts_at s.links link)) (range_with_len 0 links)

  abbrev all_told : List SheetRecord
  all_told = told_passed ++ (told_greens ++ (told_links ++ Sums s.totals ∷ []))

  -- the records tell it
  fits-rows : (node : ℕ) → node < nodes → All IsToldGreen (rows node)
  fits-rows node below = subst (All IsToldGreen) (get_or-map-range_with_len rows 0 nodes node node [] below (omega arith)) (can.greens node below)

  reads-passed : each parse passed ≡ Some told_passed
  reads-passed = subst (λ (l : List (List (List ℕ))). each parse l ≡ Some told_passed) (map-same passed) (each-of parse (λ fields. fields) (λ fields. Ignored) passed over)

  reads-greens : each parse (flat_map (green_records net s.lines end) (range_with_len 0 nodes)) ≡ Some told_greens
  reads-greens = each-flat parse (green_records net s.lines end) (λ node. map (Shows (node_name_at net node)) (rows node)) (range_with_len 0 nodes)
      (all-below (λ node. each parse (green_records net s.lines end node) ≡ Some (map (Shows (node_name_at net node)) (rows node))) nodes
      (λ node below. each-of parse (green_record net node) (Shows (node_name_at net node)) (rows node) (λ k d inside. green-tells net node (get_or (rows node) k d) (fits-rows node below k d inside))))

  reads-links : each parse (map (link_record_of net s.links) (range_with_len 0 links)) ≡ Some told_links
  reads-links = each-of parse (link_record_of net s.links) (λ link. Counts (link_name_at net link) (counts_at s.links link)) (range_with_len 0 links)
      (all-below (λ link. parse (link_record_of net s.links link) ≡ Some (Counts (link_name_at net link) (counts_at s.links link))) links
      (λ link below. link-tells net link (counts_at s.links link) (can.counts link below)))

  reads-totals : each parse (total_record s.totals ∷ []) ≡ Some (Sums s.totals ∷ [])
  reads-totals = rw (total-tells net s.totals can.totals) refl

  reads-all : each parse (passed ++ sheet_records net end s) ≡ Some all_told
  reads-all =
      each-both parse passed _ told_passed _ reads-passed
      (each-both parse _ _ told_greens _ reads-greens (each-both parse _ _ told_links _ reads-links reads-totals))

  -- what is gathered of it
  split : {Y : Type 0} (f : SheetRecord → Option Y) → filter_map f all_told ≡ filter_map f told_passed ++ (filter_map f told_greens ++ (filter_map f told_links ++ filter_map f (Sums s.totals ∷ [])))
  split f =
      filter_map-append f told_passed (told_greens ++ (told_links ++ Sums s.totals ∷ []))
      ∙ ap (λ l. filter_map f told_passed ++ l) (filter_map-append f told_greens (told_links ++ Sums s.totals ∷ []) ∙ ap (λ l. filter_map f told_greens ++ l) (filter_map-append f told_links (Sums s.totals ∷ [])))

  no-passed : {Y : Type 0} (f : SheetRecord → Option Y) → f Ignored ≡ None → filter_map f told_passed ≡ []
  no-passed f none = none-gathered f (λ fields. Ignored) (λ fields. none) passed

  no-greens : {Y : Type 0} (f : SheetRecord → Option Y) → ((name : List ℕ) (green : Green) → f (Shows name green) ≡ None) → filter_map f told_greens ≡ []
  no-greens f none = none-flat f (λ node. map (Shows (node_name_at net node)) (rows node)) (λ node. none-gathered f (Shows (node_name_at net node)) (none (node_name_at net node)) (rows node)) (range_with_len 0 nodes)

  shown-at : (node : ℕ) → node < nodes → filter_map (green_of (node_name_at net node)) all_told ≡ rows node
  shown-at node below =
      let f : SheetRecord → Option Green = green_of (node_name_at net node) in
      split f ∙ ap (λ l. l ++ (filter_map f told_greens ++ (filter_map f told_links ++ []))) (no-passed f refl)
      ∙ ap (λ l. filter_map f told_greens ++ (l ++ [])) (none-gathered f (λ link. Counts (link_name_at net link) (counts_at s.links link)) (λ link. refl) (range_with_len 0 links))
      ∙ append-nil (filter_map f told_greens)
      ∙ one-of (node_name_at net) rows (node_name_at net node) 0 nodes node (omega arith) (omega (arith, below)) ((bytes_eq-Decides (node_name_at net node) (node_name_at net node)).1 refl)
      (λ k low high other. other-name node k below (omega (arith, high)) other)

  gathered-links : {Y : Type 0} (f : SheetRecord → Option Y) (h : ℕ → Y) → f Ignored ≡ None → ((name : List ℕ) (green : Green) → f (Shows name green) ≡ None) → f (Sums s.totals) ≡ None
      → ((link : ℕ) → f (Counts (link_name_at net link) (counts_at s.links link)) ≡ Some (h link)) → filter_map f all_told ≡ map h (range_with_len 0 links)
  gathered-links f h passes shows sums counts =
      split f ∙ ap (λ l. l ++ (filter_map f told_greens ++ (filter_map f told_links ++ filter_map f (Sums s.totals ∷ [])))) (no-passed f passes)
      ∙ ap (λ l. l ++ (filter_map f told_links ++ filter_map f (Sums s.totals ∷ []))) (no-greens f shows)
      ∙ ap (λ l. filter_map f told_links ++ l) (none-gathered f (λ (k : ℕ). Sums s.totals) (λ k. sums) (0 ∷ []))
      ∙ append-nil (filter_map f told_links) ∙ gathered f (λ link. Counts (link_name_at net link) (counts_at s.links link)) h counts (range_with_len 0 links)

  parsed-once : filter_map sums_of all_told ≡ s.totals ∷ []
  parsed-once =
      split sums_of ∙ ap (λ l. l ++ (filter_map sums_of told_greens ++ (filter_map sums_of told_links ++ s.totals ∷ []))) (no-passed sums_of refl)
      ∙ ap (λ l. l ++ (filter_map sums_of told_links ++ s.totals ∷ [])) (no-greens sums_of (λ name green. refl))
      ∙ ap (λ l. l ++ s.totals ∷ []) (none-gathered sums_of (λ link. Counts (link_name_at net link) (counts_at s.links link)) (λ link. refl) (range_with_len 0 links))

  -- all greens are those of nodes
  names-nodes : All (NamesNode net) all_told
  names-nodes =
      All-append (NamesNode net) told_passed _ (All-map (NamesNode net) (λ fields. Ignored) passed (λ k d inside. tt))
      (All-append (NamesNode net) told_greens _ (named-greens (range_with_len 0 nodes) (all-below (λ node. node < nodes) nodes (λ k below. below)))
      (All-append (NamesNode net) told_links _ (All-map (NamesNode net) (λ link. Counts (link_name_at net link) (counts_at s.links link)) (range_with_len 0 links) (λ k d inside. tt))
      (All-cons (NamesNode net) (Sums s.totals) [] tt (All-nil (NamesNode net)))))
    where
      named-greens : (ks : List ℕ) → All (λ node. node < nodes) ks → All (NamesNode net) (flat_map (λ node. map (Shows (node_name_at net node)) (rows node)) ks)
      named-greens [] below = All-nil (NamesNode net)
      named-greens (node ∷ ks) below =
          All-append (NamesNode net) (map (Shows (node_name_at net node)) (rows node)) _
          (All-map (NamesNode net) (Shows (node_name_at net node)) (rows node) (λ k d inside. Contains-get_or net.node_names node [] (All-head (λ node. node < nodes) node ks below)))
          (named-greens ks (All-tail (λ node. node < nodes) node ks below))

  lines-parsed : map rows (range_with_len 0 nodes) ≡ map (λ node. filter_map (green_of node) all_told) net.node_names
  lines-parsed = same_lists (map rows (range_with_len 0 nodes)) (map line_of net.node_names) (can.lines ∙ sym (length-map net.node_names line_of)) at
    where
      line_of : List ℕ → List Green
      line_of name = filter_map (green_of name) all_told

      at : (k : ℕ) (d : List Green) → k < length (map rows (range_with_len 0 nodes)) → get_or (map rows (range_with_len 0 nodes)) k d ≡ get_or (map line_of net.node_names) k d
      at k d inside =
          let below : k < nodes = omega (arith, inside, can.lines) in
          get_or-map-range_with_len rows 0 nodes k k d below (omega arith) ∙ sym (shown-at k below) ∙ sym (get_or-map line_of net.node_names k [] d below)

  is-sheet : IsSheetOf net all_told (cut_at net end s)
  is-sheet = record {
    nodes = names-nodes;
    shown = lines-parsed;
    names = gathered-links link_of (link_name_at net) refl (λ name green. refl) refl (λ link. refl) ∙ sym (fill_by_all (link_name_at net) net.link_names links [] refl (λ k below. refl));
    counted = fill_by_all (counts_at s.links) s.links links no_totals can.links (λ k below. refl) ∙ sym (gathered-links counts_of (counts_at s.links) refl (λ name green. refl) refl (λ link. refl));
    once = parsed-once;
  }

  -- the text of the records is that of the sheet
  pub written-sheet : IsSheetText net (records_text (header ∷ (passed ++ sheet_records net end s))) (cut_at net end s)
  written-sheet =
      let are : AreRecordsOf (form net) (header ∷ (passed ++ sheet_records net end s)) (cut_at net end s) = record { records = _; are = refl; parsed = all_told; reads = reads-all; is = is-sheet } in
      let (rest, begins) = header-first (passed ++ sheet_records net end s) in
      let some : All HasField (header ∷ (passed ++ sheet_records net end s)) = All-cons HasField header _ (omega arith) (each-good parse HasField has-field (passed ++ sheet_records net end s) all_told reads-all) in
      subst (λ (l : List (List (List ℕ))). AreRecordsOf (form net) l (cut_at net end s)) (sym (read-records (header ∷ (passed ++ sheet_records net end s)) rest begins some)) are
