-- The read-first order is lawful, and in it each Read hears the version of the round before.
use Rattle.std.proofs.Common.{◌≡◌, ℕ, suc, ◌+◌, ◌-◌, ◌*◌, ◌/◌, ◌%◌, ◌<◌, ◌≤◌, cond, true, false, List, [], ◌∷◌, ◌++◌, Option, Some, None, filter, get_or, is_some, length, take, refl, sym, ap, ◌∙◌, arith, append_assoc, eq-eqb, length-append, ne_eqb}
use Rattle.std.specs.Prelude.{IsSome, replicate}
use Rattle.std.specs.List.{concat}
use Rattle.std.proofs.lemmas.List.{get_or_default, length-map, take_at}
use Rattle.std.proofs.lemmas.Nat.{div-mul-add, mod-mul-add}
use Rattle.histories.specs.Histories.{IsLawful, IsRound, ReadsRoundBefore, count, read_first, round_at, turns, version_at}
use Rattle.histories.specs.Steps.{board_steps, is_publish_of, is_read_of, publishings, readings, step_if}
use Rattle.histories.specs.declared.steps.BoardStep.{BoardStep}
use Rattle.histories.specs.declared.steps.BoardStep.TheVariants.{Publish, Read}
use Rattle.histories.proofs.Counts.{comes-first, count-append, count-grows}
use Rattle.histories.proofs.Players.{are-steps}
use Rattle.histories.proofs.Prefixes.{in-round}
use Rattle.histories.proofs.Rounds.{again, rounds-count, rounds-cut}
use Rattle.histories.proofs.StepLaws.{read-first, read-step, steps-beyond}
use Rattle.histories.proofs.TurnOrder.{turns-round}
use Rattle.histories.proofs.Versions.{made-before, none-found, publishes, version-is}
use Rattle.net_parts.specs.Numbers.{Net}
use Rattle.net_parts.specs.Outline.{link_at}
use Rattle.road_net.specs.Network.{IsNetwork, heard_links}

-- what is appended to nothing and gives nothing
none-first : (xs ys : List BoardStep) → xs ++ ys ≡ [] → xs ≡ []
none-first [] ys e = refl
none-first (x ∷ xs) ys e = absurd (let f : x ∷ (xs ++ ys) ≡ [] = e in cc)

none-last : (xs ys : List BoardStep) → xs ++ ys ≡ [] → ys ≡ []
none-last [] ys e = e
none-last (x ∷ xs) ys e = absurd (let f : x ∷ (xs ++ ys) ≡ [] = e in cc)

module _ (net : Net) (network : IsNetwork net) where
  abbrev w : ℕ → ℕ
  w n = length (board_steps net n)

  abbrev reads : ℕ → ℕ
  reads n = length (readings net n)

  abbrev nodes : ℕ
  nodes = length net.node_names

  abbrev all_reads : List ℕ
  all_reads = turns (readings net) (length net.node_names)

  abbrev all_publishes : List ℕ
  all_publishes = turns (publishings net) (length net.node_names)

  abbrev block : List ℕ
  block = all_reads ++ all_publishes

  parts : (n : ℕ) → w n ≡ reads n + length (publishings net n)
  parts n = length-append (readings net n) (publishings net n)

  reads-count : (n : ℕ) → count n all_reads ≡ reads n
  reads-count = turns-round (readings net) (length net.node_names) (λ n past. none-first (readings net n) (publishings net n) (steps-beyond net network n past))

  publishes-count : (n : ℕ) → count n all_publishes ≡ length (publishings net n)
  publishes-count = turns-round (publishings net) (length net.node_names) (λ n past. none-last (readings net n) (publishings net n) (steps-beyond net network n past))

  block-round : IsRound (board_steps net) block
  block-round n = count-append n all_reads all_publishes ∙ (let e : count n all_reads + count n all_publishes ≡ length (board_steps net n) = omega (arith, reads-count n, publishes-count n, parts n) in e)

  pub read-first-lawful : IsLawful net (read_first net)
  read-first-lawful = again (board_steps net) block block-round net.run.rounds

  -- The Reads of a round stand before its Publishes: before a Read of a round each node has at most done its Reads of the round.
  module _ (r : ℕ) (less : r < net.run.rounds) where
    abbrev early : List ℕ
    early = concat (replicate r block)

    abbrev later : List ℕ
    later = all_publishes ++ concat (replicate (net.run.rounds - (r + 1)) block)

    cut : read_first net ≡ (early ++ all_reads) ++ later
    cut =
        ap (λ m. concat (replicate m block)) (let e : net.run.rounds ≡ r + suc (net.run.rounds - (r + 1)) = omega arith in e) ∙ rounds-cut block r (net.run.rounds - (r + 1))
        ∙ shape early all_reads all_publishes (concat (replicate (net.run.rounds - (r + 1)) block))
      where
        shape : (a b c d : List ℕ) → a ++ ((b ++ c) ++ d) ≡ (a ++ b) ++ (c ++ d)
        shape a b c d = simp (append_assoc) refl

    abbrev last : ℕ
    last = length (early ++ all_reads)

    done : (f : ℕ) → count f (take last (read_first net)) ≡ r * w f + reads f
    done f =
        ap (λ h. count f (take last h)) cut ∙ ap (count f) (take_at (early ++ all_reads) later last refl) ∙ count-append f early all_reads
        ∙ ap (λ c. c + count f all_reads) (rounds-count (board_steps net) r early (again (board_steps net) block block-round r) f) ∙ ap (λ c. r * w f + c) (reads-count f)

    reads-before : (n k place : ℕ) → k < reads n → count n (take place (read_first net)) ≡ r * w n + k → (f : ℕ) → count f (take place (read_first net)) ≤ r * w f + reads f
    reads-before n k place first counted f =
        let before : place < last = comes-first n place last (read_first net) (omega (arith, counted, first, done n)) in
        omega (arith, count-grows f place last (read_first net) (omega arith), done f)

  -- the Reads of a node are no Publishes
  no-publish : (link f j : ℕ) → j < reads f → is_publish_of link (get_or (board_steps net f) j (Read 0)) ≡ false
  no-publish link f j inside = ap (is_publish_of link) (read-step net f j (omega (arith, inside, length-map (heard_links net f) Read)))

  -- a link of a Read comes from a node and ends at one
  read-ends : (n k link : ℕ) → k < w n → get_or (board_steps net n) k (Read 0) ≡ Read link → IsSome (link_at net link).from × IsSome (link_at net link).to
  read-ends n k link inside is = by (link_at net link).from (link_at net link).to (((are-steps net network).players link).reads n)
    where
      never : filter (is_read_of link) (board_steps net n) ≡ [] → ⊥
      never none =
          let there : get_or (board_steps net n) k (Publish 0) ≡ Read link = get_or_default (board_steps net n) k (Publish 0) (Read 0) inside ∙ is in
          let e : true ≡ false = sym (ap (is_read_of link) there ∙ eq-eqb link link refl) ∙ none-found (is_read_of link) (board_steps net n) k (Publish 0) none refl in
          cc

      by : (a b : Option ℕ) → filter (is_read_of link) (board_steps net n) ≡ cond (is_some a) (step_if b n (Read link)) [] → IsSome a × IsSome b
      by (Some f) (Some t) e = (refl, refl)
      by None b e = absurd (never e)
      by (Some f) None e = absurd (never e)

  -- where a node reads, a link between two nodes has the version of the round
  version-there : (link f t : ℕ) → (link_at net link).from ≡ Some f → (link_at net link).to ≡ Some t → (r n k place : ℕ) → r < net.run.rounds → place < length (read_first net) → k < reads n
      → count n (take place (read_first net)) ≡ r * w n + k → r * w f ≤ count f (take place (read_first net)) → version_at (board_steps net) (read_first net) link place ≡ r
  version-there link f t from to r n k place less inside first counted least =
      version-is (board_steps net) link f others once (read_first net) place (omega arith)
      ∙ made-before (board_steps net) link f others once (reads f) (omega (arith, parts f)) (no-publish link f) r (count f (take place (read_first net))) least (reads-before r less n k place first counted f)
    where
      others : (m : ℕ) → (m ≡ f → ⊥) → filter (is_publish_of link) (board_steps net m) ≡ []
      others m other = publishes net network link f t from to m ∙ ap (λ b. cond b (Publish link ∷ []) []) (ne_eqb f m (λ e. other (sym e)))

      once : filter (is_publish_of link) (board_steps net f) ≡ Publish link ∷ []
      once = publishes net network link f t from to f ∙ ap (λ b. cond b (Publish link ∷ []) []) (eq-eqb f f refl)

  pub reads-round-before : ReadsRoundBefore (board_steps net) (read_first net)
  reads-round-before place link inside is =
      let (r, at) = in-round (board_steps net) (length net.node_names) (λ n past. steps-beyond net network n past) net.run.rounds (read_first net) read-first-lawful place inside in
      let n : ℕ = get_or (read_first net) place 0 in
      let least = at.least n in
      let own = at.own in
      let k : ℕ = count n (take place (read_first net)) - r * w n in
      let counted : count n (take place (read_first net)) ≡ r * w n + k = omega arith in
      let small : k < w n = omega arith in
      let round : round_at (board_steps net) (read_first net) place ≡ r = ap (λ c. c / w n) counted ∙ div-mul-add r (w n) k small in
      let step : get_or (board_steps net n) k (Read 0) ≡ Read link =
      sym (ap (λ c. get_or (board_steps net n) (c % w n) (Read 0)) counted ∙ ap (λ j. get_or (board_steps net n) j (Read 0)) (mod-mul-add r (w n) k small)) ∙ is in
      let first : k < reads n = (let heard = (read-first net n k link small step).0 in omega (arith, heard, length-map (heard_links net n) Read)) in
      let (from, to) = read-ends n k link small step in
      by (link_at net link).from (link_at net link).to refl refl from to r n k at.below first counted (λ f. at.least f) ∙ sym round
    where
      by : (a b : Option ℕ) → (link_at net link).from ≡ a → (link_at net link).to ≡ b → IsSome a → IsSome b → (r n k : ℕ) → r < net.run.rounds → k < reads n
          → count n (take place (read_first net)) ≡ r * w n + k → ((f : ℕ) → r * w f ≤ count f (take place (read_first net))) → version_at (board_steps net) (read_first net) link place ≡ r
      by (Some f) (Some t) from to some end r n k less first counted least = version-there link f t from to r n k place less inside first counted (least f)
      by None b from to some end r n k less first counted least = absurd (cc)
      by (Some f) None from to some end r n k less first counted least = absurd (cc)
