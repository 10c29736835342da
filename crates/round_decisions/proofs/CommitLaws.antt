-- What a node commits to from what it has in a run, also where rows of its line are gone.
use Rattle.std.proofs.Common.{◌≡◌, ℕ, zero, suc, ◌*◌, ◌<◌, ◌≤◌, List, Option, Some, None, get_or, length, map, refl, sym, ap, subst, ◌∙◌, arith}
use Rattle.std.specs.Option.{option_map}
use Rattle.std.proofs.lemmas.List.{ext_get_or, get_or-map, length-map}
use Rattle.std.proofs.lemmas.Option.{none-some, same_Some}
use Rattle.board_model.specs.declared.boards.Heard.{Heard}
use Rattle.control_flow.specs.Greens.{IsInOrder, head_at, head_in, row_after, row_at, spliced}
use Rattle.control_flow.specs.Timelines.{first_head}
use Rattle.control_flow.specs.declared.greens.Green.{Green}
use Rattle.control_flow.proofs.OrderLaws.{order-lawful}
use Rattle.control_flow.proofs.RowLaws.{row_after-some}
use Rattle.control_flow.proofs.SpliceLaws.{head_in-since}
use Rattle.histories.specs.Histories.{IsLawful, version_at}
use Rattle.histories.specs.Steps.{board_steps}
use Rattle.intersection_actor.specs.Commits.{Commitment, IsCommit}
use Rattle.net_parts.proofs.OutlineLaws.{run-by}
use Rattle.net_parts.specs.Limits.{most_seconds}
use Rattle.net_parts.specs.Numbers.{Net}
use Rattle.net_parts.specs.Outline.{plan_at}
use Rattle.phase_plan.specs.declared.Phase.{Phase}
use Rattle.road_net.specs.Network.{IsNetwork, heard_links}
use Rattle.road_net.specs.declared.senses.Sensed.{Sensed}
use Rattle.round_states.specs.States.{begin_of}
use Rattle.runs.proofs.Committed.{one-commit}
use Rattle.runs.proofs.Heard.{heard-at, heard-count}
use Rattle.runs.proofs.Keep.{all-keep}
use Rattle.runs.proofs.Places.{StandsAt, first-small, place-of}
use Rattle.runs.specs.Runs.{AllCommit, HearAlong, hearing, line_before, sensed_in}
use Rattle.signal_safety.proofs.Lines.{plan-is}
use Rattle.signal_safety.proofs.Rounds.{IsLine, rotation-next}
use Rattle.switch_rules.specs.declared.Head.{Head}
use Rattle.round_decisions.proofs.LeftLaws.{IsLeft, left-heads, left-in-order, left-spliced, rows-later}
use Rattle.round_decisions.proofs.SoonLaws.{own}

-- the head of a line in order does not begin before its first row
head-later : (plan : List Phase) (rows : List Green) (now : ℕ) (head : Head) → IsInOrder rows → head_at plan rows now ≡ Some head → (row_at rows 0).from ≤ head.since
head-later plan rows now head o e = by (row_after rows now) refl e
  where
    by : (row : Option Green) → row_after rows now ≡ row → option_map (head_in plan now) row ≡ Some head → (row_at rows 0).from ≤ head.since
    by None found is = absurd (none-some head is)
    by (Some here) found is =
        let same : head_in plan now here ≡ head = same_Some (head_in plan now here) head is in
        let from = row_after-some (λ (r : Green). (row_at rows 0).from ≤ r.from) rows now here (rows-later rows o) found in
        omega (arith, from.0, head_in-since plan now here, ap (λ (x : Head). x.since) same)

-- what a node has heard in a round, from what it hears at the places of its Reads
pub heard-as : (net : Net) → IsNetwork net → (arriving : ℕ → ℕ → ℕ) (h : List ℕ) → IsLawful net h → (heard : ℕ → ℕ → List Heard) (made : ℕ → ℕ → Commitment) → AllCommit net arriving heard made net.run.rounds
    → HearAlong net h heard made → (r n : ℕ) → r < net.run.rounds → n < length net.node_names → (f : ℕ → Heard)
    → ((q place : ℕ) → q < length (heard_links net n) → StandsAt net h r n q place
    → hearing net made (get_or (heard_links net n) q 0) (version_at (board_steps net) h (get_or (heard_links net n) q 0) place) ≡ f (get_or (heard_links net n) q 0)) → heard r n ≡ map f (heard_links net n)
heard-as net network arriving h lawful heard made commits along r n less below f each =
    let none : Heard = hearing net made 0 0 in
    let long : length (heard r n) ≡ length (heard_links net n) = heard-count net arriving h heard made net.run.rounds commits along r n less below in
    ext_get_or none (heard r n) (map f (heard_links net n)) (long ∙ sym (length-map (heard_links net n) f)) (λ q inside.
    let first : q < length (heard_links net n) = omega (arith, inside, long) in
    let (place, stands) = place-of net network h lawful r n q less (first-small net n q first) in
    heard-at net arriving h heard made net.run.rounds commits along r n q place less below first stands none ∙ each q place first stands ∙ sym (get_or-map f (heard_links net n) q 0 none first))

-- in the first rounds of a run
module _ (net : Net) (arriving : ℕ → ℕ → ℕ) (heard : ℕ → ℕ → List Heard) (made : ℕ → ℕ → Commitment) (rounds : ℕ) (commits : AllCommit net arriving heard made rounds) where
  -- from its line, what it senses and what it hears in the run, a node commits as in the run
  pub same-commit : (r n : ℕ) → r < rounds → n < length net.node_names → (line : List Green) (sensed : Sensed) (xs : List Heard) → line ≡ line_before net made r n → sensed ≡ sensed_in net arriving made r n → xs ≡ heard r n
      → (c : Commitment) → IsCommit net n r line sensed xs c → c ≡ made r n
  same-commit r n less below line sensed xs lines senses hears c is =
      one-commit net n r (line_before net made r n) (sensed_in net arriving made r n) (heard r n) c (made r n)
      (subst (λ (l : List Green). IsCommit net n r l (sensed_in net arriving made r n) (heard r n) c) lines
      (subst (λ (s : Sensed). IsCommit net n r line s (heard r n) c) senses
      (subst (λ (x : List Heard). IsCommit net n r line sensed x c) hears is)))
      (commits r n less below).commit

  module _ (network : IsNetwork net) (few : rounds ≤ net.run.rounds) where
    -- the lines of the run
    pub run-line : (r n : ℕ) → r ≤ rounds → n < length net.node_names → IsLine (plan_at net n) (line_before net made r n)
    run-line zero n most below =
        let p = plan-is net network n below in
        let count = p.count.0 in
        (rotation-next (plan_at net n) first_head 0 p (record { is = record { phase = omega arith; begun = omega arith; within = omega arith }; since = omega arith; reach = omega arith }) (omega arith)).line
    run-line (suc r) n most below = (all-keep net network arriving heard made rounds few commits r n (omega arith) below).line

    pub ordered : (r n : ℕ) → r ≤ rounds → n < length net.node_names → IsInOrder (line_before net made r n)
    ordered r n most below = order-lawful (plan_at net n) (line_before net made r n) (plan-is net network n below) (run-line r n most below).lawful

    -- a commit from what is left of the line
    module _ (r n : ℕ) (most : r ≤ rounds) (below : n < length net.node_names) (line : List Green) (sensed : Sensed) (xs : List Heard) (left : IsLeft (begin_of net r) (line_before net made r n) line) (c : Commitment)
        (is : IsCommit net n r line sensed xs c) where
      abbrev whole : List Green
      whole = line_before net made r n

      -- it is the same from the whole line
      abbrev pub wholly : Commitment
      wholly = record c { line = spliced (line_before net made r n) c.next }

      begins : sensed.now ≡ begin_of net r
      begins = is.now

      pub commit-whole : IsCommit net n r (line_before net made r n) sensed xs wholly
      commit-whole = record {
        now = is.now;
        problem = record {
          at = left-heads (begin_of net r) whole line left (ordered r n most below) (plan_at net n) sensed.now (omega (arith, begins)) ∙ is.problem.at;
          expected = is.problem.expected;
          taken = is.problem.taken;
          is = is.problem.is;
        };
        answer = is.answer;
        served = is.served;
        next = is.next;
        line = refl;
      }

      early : r * net.run.step ≤ most_seconds
      early = run-by net.run network.outline.run r (omega (arith, most, few))

      -- and what is left of its line comes of what was left
      pub line-left : IsLeft (begin_of net r) (spliced (line_before net made r n) c.next) c.line
      line-left =
          let goes = (own net network n below r whole sensed xs wholly (omega (arith, begins, early)) (run-line r n most below) commit-whole).begin in
          let o = ordered r n most below in
          let first = head-later (plan_at net n) line sensed.now c.head (left-in-order (begin_of net r) whole line left o) is.problem.at in
          subst (IsLeft (begin_of net r) (spliced whole c.next)) (sym is.line) (left-spliced (begin_of net r) whole line left o c.next goes.some (λ some. omega (arith, first, goes.begin)))

      -- it is the run's where the node senses and hears what it does in the run
      pub wholly-same : r < rounds → sensed ≡ sensed_in net arriving made r n → xs ≡ heard r n → wholly ≡ made r n
      wholly-same less senses hears = same-commit r n less below (line_before net made r n) sensed xs refl senses hears wholly commit-whole
