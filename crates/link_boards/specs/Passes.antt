-- A pass and the boards, as contracts of the boards see them, and what the public calls tell.
use Rattle.std.specs.Prelude.{◌≡◌, ℕ, ◌+◌, ◌-◌, ◌<◌, ◌≤◌, max, true, false, List, [], ◌∷◌, ◌++◌, length, map, All, IfSome, slice_get, slice_index, slice_index_or}
use Rattle.std.specs.List.{AllPairs, range_with_len}
use Rattle.atomic_table.specs.Seated.{TableId}
use Rattle.board_model.specs.declared.boards.Seen.{Seen}
use Rattle.board_model.specs.declared.boards.Sent.{Sent}
use Rattle.board_model.specs.declared.calls.Call.{Call}
use Rattle.board_model.specs.declared.forecasts.Row.{Row}
use Rattle.board_model.specs.Boards.{Log}
use Rattle.board_model.specs.Calls.{calls_at, log_at, AreLogsOf, Agree}

-- the boards: which they are, how many links they have, and how many passes
pub record BoardsView : Type 0 where
  pub id : TableId
  pub links : ℕ
  pub passes : ℕ

abbrev pub boards_view : TableId → ℕ → ℕ → BoardsView
boards_view id links passes = record { id = id; links = links; passes = passes }

-- a pass: the boards that it is of, its number, its calls left, the least stamp that it may draw next, and its own calls
pub record PassView : Type 0 where
  pub boards : TableId
  pub number : ℕ
  pub left : ℕ
  pub known : ℕ
  pub calls : List Call

-- the stamps of a pass's own calls rise, and lie below the least one that it may draw next
pub record AreInOrder (known : ℕ) (calls : List Call) : Type 0 where
  pub below : All (λ call. call.stamp < known) calls
  pub rising : AllPairs (λ early late. early.stamp < late.stamp) calls

-- a pass that has made no call
abbrev pub fresh_pass : TableId → ℕ → ℕ → PassView
fresh_pass id left number = record { boards = id; number = number; left = left; known = 0; calls = [] }

-- the pass with a number that has made no call, and has its place's calls left
abbrev pub fresh_at : TableId → List ℕ → ℕ → PassView
fresh_at id calls number = fresh_pass id (slice_index calls number) number

-- the passes without a call, by number: one for each of the calls left
abbrev pub fresh_passes : TableId → List ℕ → List PassView
fresh_passes id calls = map (fresh_at id calls) (range_with_len 0 (length calls))

-- the pass after a call: one call left less, the call added, and the next stamp above the call's
abbrev pub after_call : PassView → Call → PassView
after_call p call =
    record {
      boards = p.boards;
      number = p.number;
      left = p.left - 1;
      known = call.stamp + 1;
      calls = p.calls ++ call ∷ [];
    }

-- the call of a reading that answered this, and of a publishing of this forecast that did
abbrev pub call_of_read : ℕ → Seen → Call
call_of_read link seen =
    record { link = link; stamp = seen.stamp; publishes = false; version = seen.version; forecast = seen.forecast }

abbrev pub call_of_publish : ℕ → Sent → List Row → Call
call_of_publish link sent f =
    record { link = link; stamp = sent.stamp; publishes = true; version = sent.version; forecast = f }

-- what a reading tells: the stamp is above all that the pass knew, and the call is added. The version is no older than
-- those in the pass's own calls at the link, and has the forecast of one that is the same
pub record HasRead (old new : PassView) (link : ℕ) (seen : Seen) : Type 0 where
  pub stamp : old.known ≤ seen.stamp
  pub pass : new ≡ after_call old (call_of_read link seen)
  pub newest : All (λ call. call.version ≤ seen.version) (calls_at link old.calls)
  pub same : All (λ call. call.version ≡ seen.version → call.forecast ≡ seen.forecast) (calls_at link old.calls)

-- what a publishing tells: the same of the stamp and the call. The version is newer than those in the pass's own calls at
-- the link
pub record HasSent (old new : PassView) (link : ℕ) (f : List Row) (sent : Sent) : Type 0 where
  pub stamp : old.known ≤ sent.stamp
  pub pass : new ≡ after_call old (call_of_publish link sent f)
  pub newer : All (λ call. call.version < sent.version) (calls_at link old.calls)

-- the highest that one of the passes knows, and a pass that knows so much too
abbrev pub highest : List PassView → ℕ
highest [] = 0
highest (p ∷ ps) = max p.known (highest ps)

abbrev pub raised : ℕ → PassView → PassView
raised known p =
    record { boards = p.boards; number = p.number; left = p.left; known = max p.known known; calls = p.calls }

-- the passes are all passes of the boards, by number
pub record AreAllPasses (boards : BoardsView) (passes : List PassView) : Type 0 where
  pub count : length passes ≡ boards.passes
  pub each : (k : ℕ) → IfSome (slice_get passes k) (λ p. (p.boards ≡ boards.id) × (p.number ≡ k))

-- the own calls of the pass with a number; none where there is no such pass
abbrev pub calls_in : List PassView → ℕ → List Call
calls_in passes number = slice_index_or (map (λ p. p.calls) passes) number []

-- the logs of the passes' calls, one for each link, which agree with the calls. Each event's node is the number of a pass
pub record AreLogsOfPasses (links : ℕ) (passes : List PassView) (logs : List Log) : Type 0 where
  pub count : length logs ≡ links
  pub nodes : All (λ log. All (λ event. event.node < length passes) log.events) logs
  pub made : AreLogsOf (calls_in passes) (log_at logs)
  pub agree : Agree (calls_in passes) (log_at logs)
