-- The calls of the program: a command with its further words.
use Rattle.std.specs.Prelude.{◌≡◌, ℕ, ◌^◌, ◌<◌, ◌≤◌, List, [], ◌∷◌, codes}
use Rattle.std.specs.Fmt.{decimal}
use Rattle.scenario_gen.specs.Grids.{AreRounds}
use Rattle.scenario_gen.specs.Layout.{IsSide}
use Rattle.command_words.specs.Factors.{AreFactors}
use Rattle.command_words.specs.declared.words.Command.{Command}
use Rattle.command_words.specs.declared.words.Command.TheVariants as command

-- a command with its further words
pub data Call : Type 0 where
  Plan : (file : List ℕ) → Call
  Certify : (file : List ℕ) → Call
  CertifyBound : (file : List ℕ) → Call
  CertifyPar : (file : List ℕ) → (width : ℕ) → Call
  Check : (file : List ℕ) → Call
  Turns : (net arr : List ℕ) → Call
  Totals : (net arr : List ℕ) → Call
  Replay : (net arr hist : List ℕ) → Call
  Net : (net arr : List ℕ) → Call
  Instance : (net arr hist node : List ℕ) → (round : ℕ) → Call
  Actuate : (net arr : List ℕ) → Call
  Fixed : (net arr plan : List ℕ) → Call
  Compare : (net arr : List ℕ) → Call
  CompareFixed : (net arr plan : List ℕ) → Call
  Scale : (net arr : List ℕ) → (first last step : ℕ) → Call
  Spill : (net arr store : List ℕ) → Call
  SpillActuated : (net arr store : List ℕ) → Call
  Decide : (net state : List ℕ) → Call
  DecideNode : (net state node : List ℕ) → Call
  Audit : (net arr report : List ℕ) → Call
  Queues : (net arr report : List ℕ) → Call
  Grid : (number side rounds : ℕ) → Call
  Upgrade : (net : List ℕ) → Call
  Bounds : (net : List ℕ) → Call
  BoundsFixed : (net plan : List ℕ) → Call

-- the words of a command; a number stands in its one form, in decimal
abbrev pub words_of : Call → List (List ℕ)
words_of (Plan file) = codes "plan" ∷ file ∷ []
words_of (Certify file) = codes "certify" ∷ file ∷ []
words_of (CertifyBound file) = codes "certify_bound" ∷ file ∷ []
words_of (CertifyPar file width) = codes "certify_par" ∷ file ∷ decimal width ∷ []
words_of (Check file) = codes "check" ∷ file ∷ []
words_of (Turns net arr) = codes "turns" ∷ net ∷ arr ∷ []
words_of (Totals net arr) = codes "totals" ∷ net ∷ arr ∷ []
words_of (Replay net arr hist) = codes "replay" ∷ net ∷ arr ∷ hist ∷ []
words_of (Net net arr) = codes "net" ∷ net ∷ arr ∷ []
words_of (Instance net arr hist node round) = codes "instance" ∷ net ∷ arr ∷ hist ∷ node ∷ decimal round ∷ []
words_of (Actuate net arr) = codes "actuate" ∷ net ∷ arr ∷ []
words_of (Fixed net arr plan) = codes "fixed" ∷ net ∷ arr ∷ plan ∷ []
words_of (Compare net arr) = codes "compare" ∷ net ∷ arr ∷ []
words_of (CompareFixed net arr plan) = codes "compare" ∷ net ∷ arr ∷ plan ∷ []
words_of (Scale net arr first last step) = codes "scale" ∷ net ∷ arr ∷ decimal first ∷ decimal last ∷ decimal step ∷ []
words_of (Spill net arr store) = codes "spill" ∷ net ∷ arr ∷ store ∷ []
words_of (SpillActuated net arr store) = codes "spill" ∷ net ∷ arr ∷ store ∷ codes "actuated" ∷ []
words_of (Decide net state) = codes "decide" ∷ net ∷ state ∷ []
words_of (DecideNode net state node) = codes "decide" ∷ net ∷ state ∷ node ∷ []
words_of (Audit net arr report) = codes "audit" ∷ net ∷ arr ∷ report ∷ []
words_of (Queues net arr report) = codes "queues" ∷ net ∷ arr ∷ report ∷ []
words_of (Grid number side rounds) = codes "grid" ∷ decimal number ∷ decimal side ∷ decimal rounds ∷ []
words_of (Upgrade net) = codes "upgrade" ∷ net ∷ []
words_of (Bounds net) = codes "bounds" ∷ net ∷ []
words_of (BoundsFixed net plan) = codes "bounds" ∷ net ∷ plan ∷ []

-- the numbers of a command are within their bounds
abbrev pub IsWithin : Call → Type 0
IsWithin (CertifyPar file width) = (1 ≤ width) × (width ≤ 4096)
IsWithin (Instance net arr hist node round) = round < 2 ^ 32
IsWithin (Scale net arr first last step) = AreFactors first last step
IsWithin (Grid number side rounds) = (number < 2 ^ 64) × IsSide side × AreRounds rounds
IsWithin _ = Unit {0}

-- a command that runs a network under other controllers than the planners, or under several, or decides a round of it
abbrev pub IsOfControllers : Call → Type 0
IsOfControllers (Actuate net arr) = Unit {0}
IsOfControllers (Fixed net arr plan) = Unit {0}
IsOfControllers (Compare net arr) = Unit {0}
IsOfControllers (CompareFixed net arr plan) = Unit {0}
IsOfControllers (Scale net arr first last step) = Unit {0}
IsOfControllers (Spill net arr store) = Unit {0}
IsOfControllers (SpillActuated net arr store) = Unit {0}
IsOfControllers (Decide net state) = Unit {0}
IsOfControllers (DecideNode net state node) = Unit {0}
IsOfControllers _ = ⊥

-- a command over a network, and what enters it or a state of it
abbrev pub IsOverNetwork : Call → Type 0
IsOverNetwork (Turns net arr) = Unit {0}
IsOverNetwork (Totals net arr) = Unit {0}
IsOverNetwork (Replay net arr hist) = Unit {0}
IsOverNetwork (Net net arr) = Unit {0}
IsOverNetwork (Instance net arr hist node round) = Unit {0}
IsOverNetwork (Audit net arr report) = Unit {0}
IsOverNetwork (Queues net arr report) = Unit {0}
IsOverNetwork call = IsOfControllers call

-- these are the words of this command
pub record IsCall (words : List (List ℕ)) (call : Call) : Type 0 where
  pub words_are : words ≡ words_of call
  pub within : IsWithin call

-- a command of the program, as contracts see it
abbrev pub call_of : Command → Call
call_of (command.Plan file) = Plan file.now
call_of (command.Certify file) = Certify file.now
call_of (command.CertifyBound file) = CertifyBound file.now
call_of (command.CertifyPar file width) = CertifyPar file.now width
call_of (command.Check file) = Check file.now
call_of (command.Turns net arr) = Turns net.now arr.now
call_of (command.Totals net arr) = Totals net.now arr.now
call_of (command.Replay net arr hist) = Replay net.now arr.now hist.now
call_of (command.Net net arr) = Net net.now arr.now
call_of (command.Instance net arr hist node round) = Instance net.now arr.now hist.now node.now round
call_of (command.Actuate net arr) = Actuate net.now arr.now
call_of (command.Fixed net arr plan) = Fixed net.now arr.now plan.now
call_of (command.Compare net arr) = Compare net.now arr.now
call_of (command.CompareFixed net arr plan) = CompareFixed net.now arr.now plan.now
call_of (command.Scale net arr first last step) = Scale net.now arr.now first last step
call_of (command.Spill net arr store) = Spill net.now arr.now store.now
call_of (command.SpillActuated net arr store) = SpillActuated net.now arr.now store.now
call_of (command.Decide net state) = Decide net.now state.now
call_of (command.DecideNode net state node) = DecideNode net.now state.now node.now
call_of (command.Audit net arr report) = Audit net.now arr.now report.now
call_of (command.Queues net arr report) = Queues net.now arr.now report.now
call_of (command.Grid number side rounds) = Grid number side rounds
call_of (command.Upgrade net) = Upgrade net.now
call_of (command.Bounds net) = Bounds net.now
call_of (command.BoundsFixed net plan) = BoundsFixed net.now plan.now
