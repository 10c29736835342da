-- The state that records tell.
use Rattle.std.proofs.Common.{◌≡◌, ℕ, ◌+◌, ◌/◌, ◌<◌, List, [], ◌∷◌, All, length, get_or, map, refl, sym, ap, ◌∙◌, subst, inl, arith}
use Rattle.std.specs.List.{range_with_len}
use Rattle.std.proofs.lemmas.List.Elements.{All-map}
use Rattle.std.proofs.lemmas.List.FromFn.{get_or-map-range_with_len, get_or-range_with_len, length-map-range_with_len, length-range_with_len}
use Rattle.control_flow.specs.Greens.{BeginBy}
use Rattle.net_parts.specs.Numbers.{Net}
use Rattle.net_parts.specs.Outline.{known_seconds, link_at, plan_at}
use Rattle.board_model.specs.Forecasts.{amount_at}
use Rattle.road_net.specs.declared.senses.LinkSense.{LinkSense}
use Rattle.road_net.specs.Network.{IsNetwork, entry_links}
use Rattle.road_net.specs.Senses.{IsSensedOf}
use Rattle.round_states.specs.declared.asked.Asked.{Asked}
use Rattle.round_states.specs.declared.entries.Entry.{Entry}
use Rattle.round_states.specs.declared.states.RoundState.{RoundState}
use Rattle.round_states.specs.Faults.{AllBeginSoon, AllStoodInTime, AreTold, SensesFew}
use Rattle.round_states.specs.Order.{AreInOrder, now_of}
use Rattle.round_states.specs.States.{IsAsked, IsBoard, IsLineAt, IsSensedAt, IsStateOf, begin_of, farthest_begin, no_sense}
use Rattle.round_states.specs.Texts.{IsUntold, TellState, all_said, board_in, coming_said, green_said, round_in, sense_in, sensed_in, state_in}
use Rattle.round_states.proofs.OrderLaws.{begin-bound, begin-now, begin-round}

links-same : (net : Net) (es : List Entry) (links : List ℕ) → map (λ (s : LinkSense). s.link) (map (sense_in net es) links) ≡ links
links-same net es [] = refl
links-same net es (l ∷ ls) = ap (λ xs. l ∷ xs) (links-same net es ls)

module _ (net : Net) (network : IsNetwork net) (es : List Entry) (order : AreInOrder net es) where
  -- what a node senses, where it is no more than it may be
  sensed-is : (n : ℕ) → SensesFew net es n → IsSensedOf net n (sensed_in net es n)
  sensed-is n few = record {
    now = begin-bound net network (now_of es) (begin-now net network es order);
    links = links-same net es (entry_links net n);
    coming = All-map (λ (s : LinkSense). length s.coming ≡ (link_at net s.link).travel) (sense_in net es) (entry_links net n)
        (λ k d h. length-map-range_with_len (amount_at (all_said coming_said es (get_or (entry_links net n) k d))) (now_of es) (link_at net (get_or (entry_links net n) k d)).travel);
    amounts = few;
  }

  now-is : now_of es ≡ begin_of net (now_of es / net.run.step)
  now-is = begin-round net (now_of es) (begin-now net network es order)

  module _ (asked : Asked) (told : AreTold net asked es) (stood : AllStoodInTime net es) (soon : AllBeginSoon net es) (untold : (l : ℕ) → l < length net.link_names → IsUntold net asked es l) where
    sensed-at : (n : ℕ) → n < length net.node_names → IsSensedAt net (begin_of net (now_of es / net.run.step)) n (get_or (map (sensed_in net es) (range_with_len 0 (length net.node_names))) n no_sense)
    sensed-at n h =
        subst (IsSensedAt net (begin_of net (now_of es / net.run.step)) n) (sym (get_or-map-range_with_len (sensed_in net es) 0 (length net.node_names) n n no_sense h (omega arith)))
        (record { now = now-is; sensed = sensed-is n (told.few n h) })

    line-at : (n : ℕ) → n < length net.node_names → IsAsked asked n → IsLineAt (plan_at net n) (begin_of net (now_of es / net.run.step)) (get_or (map (all_said green_said es) (range_with_len 0 (length net.node_names))) n [])
    line-at n h is =
        subst (λ now. IsLineAt (plan_at net n) now (get_or (map (all_said green_said es) (range_with_len 0 (length net.node_names))) n [])) now-is
        (subst (IsLineAt (plan_at net n) (now_of es)) (sym (get_or-map-range_with_len (all_said green_said es) 0 (length net.node_names) n n [] h (omega arith))) (told.lines n h (inl is)))

    soon-at : (n : ℕ) → n < length net.node_names → BeginBy (begin_of net (now_of es / net.run.step) + farthest_begin) (get_or (map (all_said green_said es) (range_with_len 0 (length net.node_names))) n [])
    soon-at n h =
        subst (λ now. BeginBy (now + farthest_begin) (get_or (map (all_said green_said es) (range_with_len 0 (length net.node_names))) n [])) now-is
        (subst (BeginBy (now_of es + farthest_begin)) (sym (get_or-map-range_with_len (all_said green_said es) 0 (length net.node_names) n n [] h (omega arith))) (soon n h))

    boards-are : All (IsBoard (round_in net es)) (map (board_in es) (range_with_len 0 (length net.link_names)))
    boards-are = All-map (IsBoard (round_in net es)) (board_in es) (range_with_len 0 (length net.link_names)) (λ k d h.
        let below : k < length net.link_names = omega (arith, h, length-range_with_len 0 (length net.link_names)) in
        let at : 0 + k ≡ k = omega arith in
        subst (λ l. IsBoard (round_in net es) (board_in es l)) (sym (get_or-range_with_len 0 (length net.link_names) k d below ∙ at)) (told.boards k below).board)

    state-is : IsStateOf net asked (state_in net es)
    state-is = record {
      round = subst (λ now. now < known_seconds net) now-is (begin-now net network es order).early;
      sensed_count = length-map-range_with_len (sensed_in net es) 0 (length net.node_names);
      sensed = sensed-at;
      line_count = length-map-range_with_len (all_said green_said es) 0 (length net.node_names);
      lines = line-at;
      soon = soon-at;
      board_count = length-map-range_with_len (board_in es) 0 (length net.link_names);
      boards = boards-are;
    }

    -- records with all that is asked for tell their state
    pub tell-state : TellState net asked es (state_in net es)
    tell-state = record { order = order; senses = told.senses; boards = told.boards; lines = told.lines; stood = stood; untold = untold; parsed = refl; is = state-is }

-- a state with all that is told is the one that records tell
pub parsed-state : (net : Net) (asked : Asked) (es : List Entry) (state : RoundState) → TellState net asked es (state_in net es) → state.round ≡ (state_in net es).round → state.sensed ≡ (state_in net es).sensed → state.lines ≡ (state_in net es).lines → state.boards ≡ (state_in net es).boards
    → TellState net asked es state
parsed-state net asked es state tell round sensed lines boards =
    subst (TellState net asked es) (λ i. record { round = sym round i; sensed = sym sensed i; lines = sym lines i; boards = sym boards i }) tell
