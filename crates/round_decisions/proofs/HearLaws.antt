-- A node's readings, one after another.
use Rattle.std.proofs.Common.{◌≡◌, ℕ, suc, ◌<◌, List, [], ◌∷◌, ◌++◌, All, drop, length, map, get_or, refl, sym, ap, subst, ◌∙◌, arith, append_assoc}
use Rattle.std.proofs.lemmas.List.{get_or_default}
use Rattle.board_model.specs.declared.boards.Heard.{Heard}
use Rattle.intersection_actor.specs.Acting.{Acting, reading, with_heard}
use Rattle.intersection_actor.specs.declared.records.Want.TheVariants.{Read}
use Rattle.round_states.specs.declared.states.LinkBoard.{LinkBoard}
use Rattle.round_decisions.specs.Steps.{HasHeard}
use Rattle.runs.proofs.Heard.{reading-more}
use Rattle.round_decisions.specs.Turns.{board_of, hearing_on, no_board}

pub heard-none : (boards : List LinkBoard) (a : Acting) → a.want ≡ reading a.left → All (λ link. link < length boards) a.left → HasHeard boards a a
heard-none boards a want there = record { whole = refl; there = there; want = want; actor = refl }

module _ (boards : List LinkBoard) (a b : Acting) (heard : HasHeard boards a b) (link : ℕ) (wants : b.want ≡ Read link) where
  rest : b.left ≡ link ∷ drop 1 b.left
  rest = reading-more b.left link (sym heard.want ∙ wants)

  pub fewer : length (drop 1 b.left) < length b.left
  fewer = omega (arith, ap length rest)

  all-rest : All (λ l. l < length boards) (link ∷ drop 1 b.left)
  all-rest = subst (All (λ l. l < length boards)) rest heard.there

  pub link-there : link < length boards
  link-there = all-rest 0 0 (omega arith)

  module _ (board : LinkBoard) (is : board ≡ get_or boards link board) (c : Acting) (read : c ≡ with_heard (record { link = link; version = board.version; forecast = board.forecast }) b) where
    abbrev told : ℕ → Heard
    told = hearing_on (board_of boards)

    abbrev of_board : LinkBoard → Heard
    of_board x = record { link = link; version = x.version; forecast = x.forecast }

    seen : of_board board ≡ told link
    seen = ap of_board (is ∙ get_or_default boards link board no_board link-there)

    left : c.left ≡ drop 1 b.left
    left = ap (λ (x : Acting). x.left) read

    whole : c.heard ++ map told c.left ≡ a.heard ++ map told a.left
    whole =
        ap (λ (x : Acting). x.heard ++ map told x.left) read ∙ append_assoc b.heard (of_board board ∷ []) (map told (drop 1 b.left))
        ∙ ap (λ (x : Heard). b.heard ++ x ∷ map told (drop 1 b.left)) seen ∙ ap (λ l. b.heard ++ map told l) (sym rest) ∙ heard.whole

    pub heard-more : HasHeard boards a c
    heard-more =
        let want : c.want ≡ reading (drop 1 b.left) = ap (λ (x : Acting). x.want) read in
        let first : c ≡ record a { want = c.want; left = c.left; heard = c.heard } =
        read ∙ ap (λ (x : Acting). record x { want = reading (drop 1 b.left); left = drop 1 b.left; heard = b.heard ++ of_board board ∷ [] }) heard.actor
        ∙ ap (λ (x : Acting). record a { want = x.want; left = x.left; heard = x.heard }) (sym read) in
        record {
          whole = whole;
          there = subst (All (λ l. l < length boards)) (sym left) (λ k d inside. all-rest (suc k) d (omega arith));
          want = want ∙ ap reading (sym left);
          actor = first;
        }
