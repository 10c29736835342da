-- A round begins, node by node, and ends.
use Rattle.std.proofs.Common.{◌≡◌, ℕ, ◌+◌, ◌<◌, ◌≤◌, List, [], ◌∷◌, length, get_or, set, refl, sym, ap, subst, ◌∙◌, inl, inr, arith, append-nil, length-set, get_or-set_same, get_or-set_other}
use Rattle.std.proofs.lemmas.Bool.{cases_eq}
use Rattle.arrivals.specs.Amounts.{Amounts, AreArrivals, arriving_of}
use Rattle.control_flow.specs.declared.greens.Green.{Green}
use Rattle.intersection_actor.specs.Acting.{Acting, begun, reading}
use Rattle.intersection_actor.specs.Commits.{Commitment}
use Rattle.intersection_actor.specs.Rounds.{IsCommitted, IsOf, KeepsPast}
use Rattle.intersection_actor.specs.declared.records.Want.TheVariants.{Commit}
use Rattle.intersection_actor.specs.declared.records.PlanRecord.{PlanRecord}
use Rattle.net_parts.specs.Numbers.{Net}
use Rattle.net_simulator.specs.Flow.{cumulative_under}
use Rattle.net_simulator.specs.Senses.{sense}
use Rattle.net_simulator.specs.Worlds.{IsWorldOf, WorldState, Stands, signs_by}
use Rattle.road_net.specs.Network.{IsNetwork, heard_links}
use Rattle.runs.specs.Runs.{line_before}
use Rattle.runs.proofs.Agree.{SameBefore}
use Rattle.runs.specs.Resting.{Rests}
use Rattle.runs.proofs.Resting.{before-stands, sense-is}
use Rattle.net_core.specs.Acts.{Settles}
use Rattle.net_core.specs.States.{Begins, Between, InRound, Listens, Plays}
use Rattle.net_core.specs.declared.parts.Board.{Board}
use Rattle.net_core.proofs.Playing.{commits-on, listens-on, plays-moved, rests-moved}
use Rattle.net_core.proofs.Prefixes.{Begun}
use Rattle.net_core.proofs.Put.{put, put-node, put-round}
use Rattle.net_core.proofs.Running.{commit-on}

module _ (net : Net) (network : IsNetwork net) (arrivals : Amounts) (history : List ℕ) (round : ℕ) (boards : List Board) (world : WorldState) (plans : List PlanRecord) where
  -- a node begins the round
  module _ (actors : List Acting) (i : ℕ) (inside : i < length net.node_names) (b : Begins net arrivals history round actors boards world plans i) where
    pub begin-world : AreArrivals net arrivals → IsWorldOf net world
    begin-world enter = record { arrivals = arrivals; lines = line_before net b.made round; enter = enter; stands = before-stands net network (arriving_of arrivals) round b.heard b.made (let less = b.below in omega arith) b.running.commits world b.running.second b.running.stands }

    pub begin-rests : (d : Acting) → Rests net b.made round i (get_or actors i d)
    begin-rests d = b.rests i d (omega arith) inside

    abbrev pub lines : ℕ → List Green
    lines = line_before net b.made round

    pub begin-stands : Stands net (arriving_of arrivals) (signs_by lines) world
    begin-stands = before-stands net network (arriving_of arrivals) round b.heard b.made (let less = b.below in omega arith) b.running.commits world b.running.second b.running.stands

    abbrev begun-way : Begun net network round history
    begun-way = record { early = history; part = []; whole = sym (append-nil history); rounds_done = b.rounds_done; within = λ n. omega arith; most = (let less = b.below in omega arith); over = λ e. refl }

    module _ (old new : Acting) (is : (d : Acting) → get_or actors i d ≡ old) (of_new : IsOf net new)
        (settles : Settles net (reading (heard_links net old.node)) (begun net round (sense net (cumulative_under net (arriving_of arrivals) (signs_by lines) world.second) world.second i) old) new) where
      rests : Rests net b.made round i old
      rests = subst (Rests net b.made round i) (is old) (begin-rests old)

      mid : Acting
      mid = begun net round (sense net (cumulative_under net (arriving_of arrivals) (signs_by lines) world.second) world.second i) old

      listens : (L : List ℕ) → heard_links net i ≡ L → Listens net arrivals b.heard b.made round 0 i mid
      unfolding mid
      listens L e = record {
        node_is = rests.node_is;
        round_is = refl;
        sensed = sense-is net network (arriving_of arrivals) round b.heard b.made (let less = b.below in omega arith) b.running.commits world b.running.second i;
        so_far = sym (b.fresh round i (omega arith));
        count = refl;
        left = ap (heard_links net) rests.node_is;
        want = ap (λ k. reading (heard_links net k)) rests.node_is;
        line = rests.line;
        records = rests.records;
      }

      at-other : (k : ℕ) (d : Acting) → (k ≡ i → ⊥) → get_or actors k d ≡ get_or (set actors i new) k d
      at-other k d other = sym (get_or-set_other actors i k new d other)

      at-own : (d : Acting) → get_or (set actors i new) i d ≡ new
      at-own d = get_or-set_same actors i new d (omega (arith, b.all))

      stays : new ≡ mid → 0 < length (heard_links net i) → Begins net arrivals history round (set actors i new) boards world plans (i + 1)
      stays same some = record {
        heard = b.heard;
        made = b.made;
        rounds_done = b.rounds_done;
        below = b.below;
        running = b.running;
        all = length-set actors i new ∙ b.all;
        fresh = b.fresh;
        plays = λ k d less below. elim (cases_eq k i) [
          | inl own ↦ subst (λ m. Plays net arrivals b.heard b.made round 0 m (get_or (set actors i new) m d)) (sym own)
              (subst (Plays net arrivals b.heard b.made round 0 i) (sym (at-own d)) (listens-on net network arrivals b.heard b.made round i inside 0 new of_new (subst (Listens net arrivals b.heard b.made round 0 i) (sym same) (listens (heard_links net i) refl)) some))
          | inr other ↦ subst (Plays net arrivals b.heard b.made round 0 k) (at-other k d other) (b.plays k d (omega arith) below)
        ];
        rests = λ k d more below. subst (Rests net b.made round k) (at-other k d (λ e. omega arith)) (b.rests k d (omega arith) below);
      }

      commits : IsCommitted net mid new → KeepsPast net mid new → length (heard_links net i) ≡ 0 → Begins net arrivals history round (set actors i new) boards world plans (i + 1)
      commits c kept none =
          let made : ℕ → ℕ → Commitment = put b.made round i c.made in
          let before : SameBefore net network (arriving_of arrivals) b.made made round = λ s m less below. sym (put-round b.made round i c.made s m (λ e. omega arith)) in
          record {
            heard = b.heard;
            made = made;
            rounds_done = b.rounds_done;
            below = b.below;
            running = commit-on net network arrivals b.heard b.made history round boards world plans begun-way b.running i (omega arith) c.made;
            all = length-set actors i new ∙ b.all;
            fresh = b.fresh;
            plays = λ k d less below. elim (cases_eq k i) [
              | inl own ↦ subst (λ m. Plays net arrivals b.heard made round 0 m (get_or (set actors i new) m d)) (sym own)
                  (subst (Plays net arrivals b.heard made round 0 i) (sym (at-own d))
                  (subst (λ z. Plays net arrivals b.heard made round z i new) none
                  (commits-on net network arrivals b.heard b.made round i inside mid new (subst (λ z. Listens net arrivals b.heard b.made round z i mid) (sym none) (listens (heard_links net i) refl)) c kept of_new)))
              | inr other ↦ subst (Plays net arrivals b.heard made round 0 k) (at-other k d other)
                  (plays-moved net network arrivals b.heard b.heard b.made made round k below before refl (sym (put-node b.made round i c.made round k other)) 0 (get_or actors k d) (b.plays k d (omega arith) below))
            ];
            rests = λ k d more below. subst (Rests net made round k) (at-other k d (λ e. omega arith)) (rests-moved net network arrivals b.made made round k (get_or actors k d) below before (b.rests k d (omega arith) below));
          }

      pub begins-more : Begins net arrivals history round (set actors i new) boards world plans (i + 1)
      unfolding mid
      begins-more = by (heard_links net i) refl (subst (λ k. Settles net (reading (heard_links net k)) mid new) rests.node_is settles)
        where
          by : (L : List ℕ) → heard_links net i ≡ L → Settles net (reading (heard_links net i)) mid new → Begins net arrivals history round (set actors i new) boards world plans (i + 1)
          by [] e s = (let both : Settles net Commit mid new = subst (λ (l : List ℕ). Settles net (reading l) mid new) e s in commits both.0 both.1 (ap length e))
          by (l ∷ L) e s = stays (subst (λ (l : List ℕ). Settles net (reading l) mid new) e s) (let long = ap length e in omega arith)

  -- none has begun, and all have
  pub begins-none : (actors : List Acting) → round < net.run.rounds → Between net arrivals history round actors boards world plans → Begins net arrivals history round actors boards world plans 0
  begins-none actors less b = record { heard = b.heard; made = b.made; rounds_done = b.rounds_done; below = less; running = b.running; all = b.all; fresh = b.fresh; plays = λ k d before below. absurd (omega arith); rests = λ k d more below. b.rests k d below }

  pub begins-all : (actors : List Acting) (i : ℕ) → length net.node_names ≤ i → Begins net arrivals history round actors boards world plans i → InRound net arrivals history round actors boards world plans
  begins-all actors i past b = record {
    heard = b.heard;
    made = b.made;
    early = history;
    part = [];
    whole = sym (append-nil history);
    rounds_done = b.rounds_done;
    within = λ n. omega arith;
    below = b.below;
    running = b.running;
    all = b.all;
    fresh = λ later node more. b.fresh later node (omega arith);
    plays = λ k d below. b.plays k d (omega arith) below;
  }
