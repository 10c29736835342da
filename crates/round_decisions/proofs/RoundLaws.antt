-- The turns of all nodes, one after another.
use Rattle.std.proofs.Common.{◌≡◌, ℕ, zero, suc, ◌+◌, ◌<◌, Bool, true, false, cond, List, [], ◌∷◌, ◌++◌, All, Option, Some, None, drop, is_some, length, map, get_or, refl, sym, ap, subst, ◌∙◌, inl, inr, arith}
use Rattle.std.specs.Prelude.{◌&&◌, ◌==◌, if◌then◌else◌, nat_lt, unwrap_or}
use Rattle.std.specs.List.{range_with_len}
use Rattle.std.proofs.lemmas.Bool.{and_left, cases_lt, cases_order, eq-eqb, eqb-false, eqb-true, le-ltb, lt-ltb, ne_eqb}
use Rattle.std.proofs.lemmas.List.{get_or-drop}
use Rattle.std.proofs.lemmas.List.FromFn.{map-range_with_len_more}
use Rattle.std.proofs.lemmas.Nat.{mul-le}
use Rattle.std.proofs.Math.Seq.{drop-nil}
use Rattle.board_model.specs.declared.boards.Heard.{Heard}
use Rattle.board_model.specs.declared.forecasts.Row.{Row}
use Rattle.control_flow.specs.Greens.{end_of}
use Rattle.control_flow.specs.declared.greens.Green.{Green}
use Rattle.histories.specs.Steps.{publisher}
use Rattle.intersection_actor.specs.Commits.{Commitment, IsCommit, record_of}
use Rattle.intersection_actor.specs.declared.records.PlanRecord.{PlanRecord}
use Rattle.net_parts.proofs.OutlineLaws.{known-most}
use Rattle.net_parts.specs.Limits.{most_seconds}
use Rattle.net_parts.specs.Numbers.{Net}
use Rattle.net_parts.specs.Outline.{known_seconds, link_at}
use Rattle.road_net.specs.Joins.{is_node}
use Rattle.road_net.specs.Network.{IsNetwork, heard_links}
use Rattle.road_net.specs.declared.senses.Sensed.{Sensed}
use Rattle.round_states.specs.States.{IsStateOf, begin_of, no_sense}
use Rattle.round_states.specs.declared.asked.Asked.TheVariants.{AllNodes, OneNode}
use Rattle.round_states.specs.declared.states.LinkBoard.{LinkBoard}
use Rattle.round_states.specs.declared.states.RoundState.{RoundState}
use Rattle.runs.proofs.SameParts.{map-range-same}
use Rattle.runs.specs.Runs.{told_in}
use Rattle.round_decisions.specs.Decisions.{board_after, has_told, heard_in, is_below, line_of, plan_in, sensed_of}
use Rattle.round_decisions.specs.Steps.{CanTurn, HasTurned, HaveTurned, MayTell}
use Rattle.round_decisions.specs.Turns.{board_of, heard_on, hearing_on, next_board, no_board, published, tells}
use Rattle.round_decisions.specs.declared.rounds.Decided.{Decided}
use Rattle.round_decisions.specs.declared.rounds.Waiting.{Waiting}
use Rattle.round_decisions.proofs.Boards.{tells-ends}
use Rattle.round_decisions.proofs.PlayLaws.{heard-there}

-- One turn more, of node n: a board changes where it is the node's, and else stays.
step-by : (more below here t : Bool) (old : LinkBoard) (mine their : List Row) → (here ≡ true → (more ≡ true) × (below ≡ false) × (mine ≡ their)) → (here ≡ false → more ≡ below)
    → (if more && t then next_board old their else old) ≡ (if here && t then next_board (if below && t then next_board old their else old) mine else (if below && t then next_board old their else old))
step-by more below true t old mine their own other =
    let facts = own refl in
    ap (λ m. if m && t then next_board old their else old) facts.0 ∙ ap (λ r. if true && t then next_board old r else old) (sym facts.2)
    ∙ ap (λ x. if true && t then next_board (if x && t then next_board old their else old) mine else (if x && t then next_board old their else old)) (sym facts.1)
step-by more below false t old mine their own other = ap (λ m. if m && t then next_board old their else old) (other refl)

step : (o : Option ℕ) (t : Bool) (n : ℕ) (old : LinkBoard) (f : ℕ → List Row)
    → (if is_below (n + 1) o && t then next_board old (f (unwrap_or o 0)) else old)
    ≡ (if is_node n o && t then next_board (if is_below n o && t then next_board old (f (unwrap_or o 0)) else old) (f n) else (if is_below n o && t then next_board old (f (unwrap_or o 0)) else old))
step None t n old f = refl
step (Some k) t n old f = step-by (nat_lt k (n + 1)) (nat_lt k n) (k == n) t old (f n) (f k)
    (λ e. let same : k ≡ n = eqb-true k n e in (lt-ltb k (n + 1) (omega arith), le-ltb k n (omega arith), ap f (sym same)))
    (λ e. elim (cases_lt k n) [
      | inl less ↦ lt-ltb k (n + 1) (omega arith) ∙ sym (lt-ltb k n less)
      | inr back ↦
          let other : k ≡ n → ⊥ = eqb-false k n e in
          let past : n < k = elim (cases_order k n) [ inl same ↦ absurd (other same) | inr differ ↦ elim differ [ inl less ↦ absurd (omega arith) | inr more ↦ more ] ] in
          le-ltb k (n + 1) (omega arith) ∙ sym (le-ltb k n back)
    ])

same-by : (o : Option ℕ) (t : Bool) (nodes : ℕ) (old : LinkBoard) (f g : ℕ → List Row) → ((k : ℕ) → k < nodes → f k ≡ g k)
    → (if is_below nodes o && t then next_board old (f (unwrap_or o 0)) else old) ≡ (if is_below nodes o && t then next_board old (g (unwrap_or o 0)) else old)
same-by None t nodes old f g same = refl
same-by (Some k) t nodes old f g same = elim (cases_lt k nodes) [
  | inl less ↦ ap (λ r. if nat_lt k nodes && t then next_board old r else old) (same k less)
  | inr past ↦
      let e : nat_lt k nodes ≡ false = le-ltb k nodes past in
      ap (λ b. if b && t then next_board old (f k) else old) e ∙ sym (ap (λ b. if b && t then next_board old (g k) else old) e)
]

-- a round that begins in a second that files may name is of no greater number than a day has seconds
few-rounds : (net : Net) → IsNetwork net → (round : ℕ) → begin_of net round < known_seconds net → round < most_seconds
few-rounds net network round early = (let most = mul-le round 1 round net.run.step (omega arith) network.outline.run.step.0 in omega (arith, most, early, known-most net network.outline))

module _ (net : Net) (state : RoundState) where
  abbrev told_by : (ℕ → Commitment) → ℕ → ℕ → List Row
  told_by made link k = told_in net state.round link (made k)

  -- the boards after one turn more
  pub after-more : (made : ℕ → Commitment) (n link : ℕ) → board_after net state made (n + 1) link ≡ published net n (λ l. told_in net state.round l (made n)) (board_after net state made n) link
  after-more made n link = step (link_at net link).from (is_some (link_at net link).to) n (board_of state.boards link) (told_by made link)

  -- they rest on the commits of these turns alone
  pub after-same : (made other : ℕ → Commitment) (nodes : ℕ) → ((k : ℕ) → k < nodes → made k ≡ other k) → (link : ℕ) → board_after net state made nodes link ≡ board_after net state other nodes link
  after-same made other nodes same link =
      same-by (link_at net link).from (is_some (link_at net link).to) nodes (board_of state.boards link) (told_by made link) (told_by other link) (λ k less. ap (told_in net state.round link) (same k less))

  -- a node whose turn has not come has told nothing
  pub after-none : (made : ℕ → Commitment) (n link : ℕ) → tells net n link ≡ true → board_after net state made n link ≡ board_of state.boards link
  after-none made n link told =
      let from = (tells-ends net n link told).0 in
      let e : has_told net n link ≡ false = ap (λ o. is_below n o && is_some (link_at net link).to) from ∙ and_left (nat_lt n n) (is_some (link_at net link).to) (le-ltb n n (omega arith)) in
      ap (λ b. if b then next_board (board_of state.boards link) (told_in net state.round link (made (publisher net link))) else board_of state.boards link) e

-- what is heard on boards that are the same where it is heard
pub map-all-same : {X : Type 0} (f g : ℕ → X) (P : ℕ → Type 0) (xs : List ℕ) → All P xs → ((x : ℕ) → P x → f x ≡ g x) → map f xs ≡ map g xs
map-all-same f g P [] all same = refl
map-all-same f g P (x ∷ xs) all same = ap (λ y. y ∷ map f xs) (same x (all 0 x (omega arith))) ∙ ap (λ l. g x ∷ l) (map-all-same f g P xs (λ k d inside. all (suc k) d (omega arith)) same)

pub heard-same : (net : Net) → IsNetwork net → (n : ℕ) (f g : ℕ → LinkBoard) (boards : List LinkBoard) → length boards ≡ length net.link_names → ((l : ℕ) → l < length boards → f l ≡ g l) → heard_on net f n ≡ heard_on net g n
heard-same net network n f g boards count same =
    map-all-same (hearing_on f) (hearing_on g) (λ l. l < length boards) (heard_links net n) (heard-there net network n boards count)
    (λ l inside. ap (λ (b : LinkBoard). record { link = l; version = b.version; forecast = b.forecast }) (same l inside))

-- the commits with one more
abbrev with_next : (ℕ → Commitment) → ℕ → Commitment → ℕ → Commitment
with_next made n c k = cond (k == n) c (made k)

next-here : (made : ℕ → Commitment) (n : ℕ) (c : Commitment) → with_next made n c n ≡ c
next-here made n c = ap (λ b. cond b c (made n)) (eq-eqb n n refl)

next-before : (made : ℕ → Commitment) (n : ℕ) (c : Commitment) (k : ℕ) → k < n → made k ≡ with_next made n c k
next-before made n c k less = sym (ap (λ b. cond b c (made k)) (ne_eqb k n (λ same. omega arith)))

drop-one : {A : Type 0} (n : ℕ) (xs : List A) → drop 1 (drop n xs) ≡ drop (n + 1) xs
drop-one zero xs = ap (λ k. drop k xs) (let e : 1 ≡ zero + 1 = omega arith in e)
drop-one (suc n) [] = sym (drop-nil (suc n + 1))
drop-one (suc n) (x ∷ xs) = drop-one n xs ∙ ap (λ k. drop k (x ∷ xs)) (let e : suc (n + 1) ≡ suc n + 1 = omega arith in e)

drop-long : {A : Type 0} (n : ℕ) (xs : List A) → n < length xs → 0 < length (drop n xs)
drop-long n [] less = absurd (omega arith)
drop-long zero (x ∷ xs) less = omega arith
drop-long (suc n) (x ∷ xs) less = drop-long n xs (omega arith)

pub turned-none : (net : Net) (state : RoundState) (waiting : Waiting) (decided : Decided) → waiting.sensed.items ≡ state.sensed → waiting.lines.items ≡ state.lines → decided.boards.items ≡ state.boards
    → decided.plans.items ≡ [] → decided.lines.items ≡ [] → (made : ℕ → Commitment) → HaveTurned net state 0 waiting decided
turned-none net state waiting decided sensed lines boards plans none made = record {
  sensed = sensed;
  lines = lines;
  made = made;
  commits = λ node less. absurd (omega arith);
  later = λ node less. absurd (omega arith);
  plans_are = plans;
  lines_are = none;
  count = ap length boards;
  boards = λ link inside.
      ap (λ (b : List LinkBoard). board_of b link) boards
      ∙ at-first (link_at net link).from (is_some (link_at net link).to) (board_of state.boards link) (next_board (board_of state.boards link) (told_in net state.round link (made (publisher net link))));
}
  where
    at-first : (o : Option ℕ) (t : Bool) (old new : LinkBoard) → old ≡ (if is_below 0 o && t then new else old)
    at-first None t old new = refl
    at-first (Some k) t old new = sym (ap (λ b. if b && t then new else old) (le-ltb k 0 (omega arith)))

module _ (net : Net) (network : IsNetwork net) (state : RoundState) (is : IsStateOf net AllNodes state) (n : ℕ) (less : n < length net.node_names) (waits : Waiting) (old : Decided) (h : HaveTurned net state n waits old) where
  pub sensed-left : 0 < length waits.sensed.items
  sensed-left = (let long = drop-long n state.sensed (omega (arith, is.sensed_count)) in omega (arith, ap length h.sensed, long))

  pub lines-left : 0 < length waits.lines.items
  lines-left = (let long = drop-long n state.lines (omega (arith, is.line_count)) in omega (arith, ap length h.lines, long))

  own-sensed : get_or waits.sensed.items 0 no_sense ≡ sensed_of state n
  own-sensed = ap (λ (l : List Sensed). get_or l 0 no_sense) h.sensed ∙ get_or-drop n state.sensed 0 no_sense ∙ ap (λ k. get_or state.sensed k no_sense) (let e : n + 0 ≡ n = omega arith in e)

  own-line : get_or waits.lines.items 0 [] ≡ line_of state n
  own-line = ap (λ (l : List (List Green)). get_or l 0 []) h.lines ∙ get_or-drop n state.lines 0 [] ∙ ap (λ k. get_or state.lines k []) (let e : n + 0 ≡ n = omega arith in e)

  board-count : length old.boards.items ≡ length net.link_names
  board-count = h.count ∙ is.board_count

  may-tell : MayTell net n old.boards.items
  may-tell link inside told =
      let within : link < length state.boards = omega (arith, h.count) in
      let e : board_of old.boards.items link ≡ board_of state.boards link = h.boards link within ∙ after-none net state h.made n link told in
      let most = (is.boards link no_board within).version in
      omega (arith, ap (λ (b : LinkBoard). b.version) e, most, few-rounds net network state.round is.round)

  pub can-turn : CanTurn net state.round n (get_or waits.lines.items 0 []) (get_or waits.sensed.items 0 no_sense) old.boards.items
  can-turn =
      let line = is.lines n less tt in
      subst (λ (l : List Green). CanTurn net state.round n l (get_or waits.sensed.items 0 no_sense) old.boards.items) (sym own-line)
      (subst (λ (s : Sensed). CanTurn net state.round n (line_of state n) s old.boards.items) (sym own-sensed) (record {
        node_is = less;
        sensed_at = is.sensed n less;
        lawful = line.lawful;
        begins = line.begins;
        ends = line.ends;
        count = board-count;
        below = may-tell;
      }))

  module _ (rest : Waiting) (new : Decided) (t : HasTurned net state.round n waits rest old new) where
    abbrev c : Commitment
    c = t.turn.made

    abbrev made : ℕ → Commitment
    made = with_next h.made n c

    before : (k : ℕ) → k < n → h.made k ≡ made k
    before k below = next-before h.made n c k below

    boards-old : (l : ℕ) → l < length state.boards → board_of old.boards.items l ≡ board_after net state made n l
    boards-old l inside = h.boards l inside ∙ after-same net state h.made made n before l

    heard-now : heard_on net (board_of old.boards.items) n ≡ heard_in net state made n
    heard-now = heard-same net network n (board_of old.boards.items) (board_after net state made n) state.boards is.board_count boards-old

    heard-before : (k : ℕ) → k < n → heard_in net state h.made k ≡ heard_in net state made k
    heard-before k below = heard-same net network k (board_after net state h.made k) (board_after net state made k) state.boards is.board_count (λ l inside. after-same net state h.made made k (λ j less_k. before j (omega arith)) l)

    commit-now : IsCommit net n state.round (line_of state n) (sensed_of state n) (heard_in net state made n) (made n)
    commit-now =
        subst (λ (l : List Green). IsCommit net n state.round l (sensed_of state n) (heard_in net state made n) (made n)) own-line
        (subst (λ (s : Sensed). IsCommit net n state.round (get_or waits.lines.items 0 []) s (heard_in net state made n) (made n)) own-sensed
        (subst (λ (x : List Heard). IsCommit net n state.round (get_or waits.lines.items 0 []) (get_or waits.sensed.items 0 no_sense) x (made n)) heard-now
        (subst (IsCommit net n state.round (get_or waits.lines.items 0 []) (get_or waits.sensed.items 0 no_sense) (heard_on net (board_of old.boards.items) n)) (sym (next-here h.made n c)) t.turn.commit)))

    commit-before : (k : ℕ) → k < n → IsCommit net k state.round (line_of state k) (sensed_of state k) (heard_in net state made k) (made k)
    commit-before k below =
        subst (λ (x : List Heard). IsCommit net k state.round (line_of state k) (sensed_of state k) x (made k)) (heard-before k below)
        (subst (IsCommit net k state.round (line_of state k) (sensed_of state k) (heard_in net state h.made k)) (before k below) (h.commits k below))

    plan-before : (k : ℕ) → k < n → plan_in net state h.made k ≡ plan_in net state made k
    plan-before k below = ap (λ (x : List Heard). record_of k state.round x (h.made k)) (heard-before k below) ∙ ap (record_of k state.round (heard_in net state made k)) (before k below)

    plan-now : t.plan ≡ plan_in net state made n
    plan-now = t.turn.plan_is ∙ ap (λ (x : List Heard). record_of n state.round x c) heard-now ∙ ap (record_of n state.round (heard_in net state made n)) (sym (next-here h.made n c))

    line-now : t.line ≡ (made n).line
    line-now = t.turn.line_is ∙ ap (λ (x : Commitment). x.line) (sym (next-here h.made n c))

    boards-new : (l : ℕ) → l < length state.boards → board_of new.boards.items l ≡ board_after net state made (n + 1) l
    boards-new l inside =
        t.turn.boards.each l (omega (arith, h.count))
        ∙ ap (λ (b : LinkBoard). if tells net n l then next_board b (told_in net state.round l c) else b) (boards-old l inside)
        ∙ ap (λ (x : Commitment). published net n (λ k. told_in net state.round k x) (board_after net state made n) l) (sym (next-here h.made n c))
        ∙ sym (after-more net state made n l)

    pub turned-more : HaveTurned net state (n + 1) rest new
    turned-more = record {
      sensed = t.sensed ∙ ap (drop 1) h.sensed ∙ drop-one n state.sensed;
      lines = t.lines ∙ ap (drop 1) h.lines ∙ drop-one n state.lines;
      made = made;
      commits = λ k below. elim (cases_lt k n) [
        | inl early ↦ commit-before k early
        | inr last ↦ subst (λ j. IsCommit net j state.round (line_of state j) (sensed_of state j) (heard_in net state made j) (made j)) (let e : n ≡ k = omega arith in e) commit-now
      ];
      later = λ k below. elim (cases_lt k n) [
        | inl early ↦ subst (λ (x : Commitment). begin_of net (state.round + 1) < end_of x.line) (before k early) (h.later k early)
        | inr last ↦ subst (λ j. begin_of net (state.round + 1) < end_of (made j).line) (let e : n ≡ k = omega arith in e) (subst (λ (l : List Green). begin_of net (state.round + 1) < end_of l) line-now t.later)
      ];
      plans_are =
          t.plans_are ∙ ap (λ (l : List PlanRecord). l ++ t.plan ∷ []) (h.plans_are ∙ map-range-same (plan_in net state h.made) (plan_in net state made) 0 n (λ k least below. plan-before k (omega arith)))
          ∙ ap (λ p. map (plan_in net state made) (range_with_len 0 n) ++ p ∷ []) plan-now ∙ sym (map-range_with_len_more (plan_in net state made) 0 n n (let e : 0 + n ≡ n = omega arith in e));
      lines_are =
          t.lines_are ∙ ap (λ (l : List (List Green)). l ++ t.line ∷ []) (h.lines_are ∙ map-range-same (λ k. (h.made k).line) (λ k. (made k).line) 0 n (λ k least below. ap (λ (x : Commitment). x.line) (before k (omega arith))))
          ∙ ap (λ (p : List Green). map (λ k. (made k).line) (range_with_len 0 n) ++ p ∷ []) line-now ∙ sym (map-range_with_len_more (λ k. (made k).line) 0 n n (let e : 0 + n ≡ n = omega arith in e));
      count = t.turn.boards.count ∙ h.count;
      boards = boards-new;
    }

-- in a state each node may have its turn
can-from-state : (net : Net) → IsNetwork net → (state : RoundState) (n : ℕ) → IsStateOf net (OneNode (Some n)) state → n < length net.node_names → CanTurn net state.round n (line_of state n) (sensed_of state n) state.boards
can-from-state net network state n is below =
    let line = is.lines n below refl in
    record {
      node_is = below;
      sensed_at = is.sensed n below;
      lawful = line.lawful;
      begins = line.begins;
      ends = line.ends;
      count = is.board_count;
      below = λ link inside told. (let most = (is.boards link no_board inside).version in omega (arith, most, few-rounds net network state.round is.round));
    }

pub can-at : (net : Net) → IsNetwork net → (state : RoundState) (n : ℕ) → IsStateOf net (OneNode (Some n)) state → n < length net.node_names → (line : List Green) (sensed : Sensed) (boards : List LinkBoard)
    → line ≡ line_of state n → sensed ≡ sensed_of state n → boards ≡ state.boards → CanTurn net state.round n line sensed boards
can-at net network state n is below line sensed boards lines senses same =
    subst (λ (l : List Green). CanTurn net state.round n l sensed boards) (sym lines)
    (subst (λ (s : Sensed). CanTurn net state.round n (line_of state n) s boards) (sym senses)
    (subst (λ (b : List LinkBoard). CanTurn net state.round n (line_of state n) (sensed_of state n) b) (sym same) (can-from-state net network state n is below)))
