-- The turn order, round by round and node by node.
use Rattle.std.proofs.Common.{◌≡◌, ℕ, ◌+◌, ◌*◌, ◌<◌, cond, eqb, List, [], ◌∷◌, ◌++◌, Some, length, get_or, refl, sym, ap, ◌∙◌, arith, append_assoc, append-nil, eq-eqb}
use Rattle.std.specs.Prelude.{replicate}
use Rattle.std.proofs.lemmas.List.{replicate_more}
use Rattle.std.proofs.lemmas.List.Folds.{sum_by-replicate}
use Rattle.std.proofs.lemmas.Option.{slice_get-get_or, slice_get_past}
use Rattle.arrivals.specs.Amounts.{Amounts}
use Rattle.histories.specs.Histories.{count, turns, HasRounds}
use Rattle.histories.specs.Steps.{board_steps}
use Rattle.histories.specs.declared.steps.BoardStep.TheVariants as steps
use Rattle.histories.proofs.Counts.{count-append, in-spread, past-spread}
use Rattle.histories.proofs.Rounds.{rounds-count}
use Rattle.histories.proofs.TurnOrder.{repeated-more, turns-more}
use Rattle.intersection_actor.specs.declared.records.PlanRecord.{PlanRecord}
use Rattle.net_parts.specs.Numbers.{Net}
use Rattle.road_net.specs.Network.{IsNetwork}
use Rattle.net_core.specs.Cores.{wanted_step}
use Rattle.net_core.specs.States.{AllDone, AreInRound, WantsMore, turns_of}
use Rattle.net_core.specs.declared.parts.Parts.{Parts}
use Rattle.net_core.proofs.Along.{wants-it}
use Rattle.net_core.proofs.Prefixes.{count-way}
use Rattle.net_core.proofs.Steps.{way}
use Rattle.net_core.proofs.Wanting.{plays-wants}

module _ (net : Net) (network : IsNetwork net) (arrivals : Amounts) (h : List ℕ) (plans : List PlanRecord) (p : Parts) (i : AreInRound net arrivals h plans p) where
  -- how often a node stands in the part of the round
  part-count : (n c : ℕ) → count n h ≡ p.round * length (board_steps net n) + c → count n i.part ≡ c
  part-count n c counted = omega (arith, counted, count-way net network h p.round (way net network arrivals h p.round p.actors.all.items p.boards.items p.world plans i) n)

  -- a node that has steps left wants one
  pub step-left : (n c : ℕ) → n < length net.node_names → count n h ≡ p.round * length (board_steps net n) + c → c < length (board_steps net n) → WantsMore p n
  step-left n c below counted less d done =
      let at : count n i.part < length (board_steps net n) = omega (arith, part-count n c counted) in
      wants-it (get_or (board_steps net n) (count n i.part) (steps.Read 0))
      (sym done ∙ plays-wants net network arrivals h plans p i n (get_or p.actors.all.items n d) (i.plays n d below) ∙ ap wanted_step (slice_get-get_or (board_steps net n) (count n i.part) (steps.Read 0) at))

  -- where each has done all its steps, each is done
  pub all-turned : ((n : ℕ) → n < length net.node_names → count n h ≡ p.round * length (board_steps net n) + length (board_steps net n)) → AllDone p.actors.all.items
  all-turned counted n d inside =
      let below : n < length net.node_names = omega (arith, i.all) in
      plays-wants net network arrivals h plans p i n (get_or p.actors.all.items n d) (i.plays n d below)
      ∙ ap wanted_step (slice_get_past (board_steps net n) (count n i.part) (omega (arith, part-count n (length (board_steps net n)) (counted n below))))

-- a node stands as often in its own turn as that is long
own-turn : (n c : ℕ) → count n (replicate c n) ≡ c
own-turn n c = sum_by-replicate (λ m. cond (eqb m n) 1 0) c n ∙ ap (λ b. c * cond b 1 0) (eq-eqb n n refl) ∙ (let e : c * 1 ≡ c = omega arith in e)

-- a node has done some of its steps
pub some-steps : (net : Net) (h : List ℕ) (n c round : ℕ) → count n h ≡ round * length (board_steps net n) → count n (h ++ replicate c n) ≡ round * length (board_steps net n) + c
some-steps net h n c round counted = omega (arith, count-append n h (replicate c n), counted, own-turn n c)

pub one-step : (h : List ℕ) (n c : ℕ) → (h ++ replicate c n) ++ n ∷ [] ≡ h ++ replicate (c + 1) n
one-step h n c = append_assoc h (replicate c n) (n ∷ []) ∙ ap (λ l. h ++ l) (replicate_more c n)

pub no-steps : (h : List ℕ) (n : ℕ) → h ++ replicate 0 n ≡ h
no-steps h n = append-nil h

module _ (net : Net) (h : List ℕ) (round : ℕ) (rounds : HasRounds (board_steps net) round h) where
  -- the node whose turn comes has not begun
  pub turn-comes : (n : ℕ) → count n (h ++ turns (board_steps net) n) ≡ round * length (board_steps net n)
  turn-comes n = omega (arith, count-append n h (turns (board_steps net) n), rounds-count (board_steps net) round h rounds n, past-spread (λ m. length (board_steps net m)) n 0 n (omega arith))

  -- those whose turns are over have done all
  pub turn-over : (n nodes : ℕ) → n < nodes → count n (h ++ turns (board_steps net) nodes) ≡ round * length (board_steps net n) + length (board_steps net n)
  turn-over n nodes less = omega (arith, count-append n h (turns (board_steps net) nodes), rounds-count (board_steps net) round h rounds n, in-spread (λ m. length (board_steps net m)) n 0 nodes (omega arith) (omega arith))

  pub next-turn : (n : ℕ) → (h ++ turns (board_steps net) n) ++ replicate (length (board_steps net n)) n ≡ h ++ turns (board_steps net) (n + 1)
  next-turn n =
      append_assoc h (turns (board_steps net) n) (replicate (length (board_steps net n)) n)
      ∙ ap (λ l. h ++ l) (turns-more (board_steps net) n (length (board_steps net n)) (turns (board_steps net) n) (turns (board_steps net) n ++ replicate (length (board_steps net n)) n) refl refl refl)

-- a round more of the turn order
pub round-more : (net : Net) (rounds : ℕ) → turns_of net rounds ++ turns (board_steps net) (length net.node_names) ≡ turns_of net (rounds + 1)
round-more net rounds = repeated-more (turns (board_steps net) (length net.node_names)) rounds (turns_of net rounds) (turns_of net rounds ++ turns (board_steps net) (length net.node_names)) refl refl
