-- The first fault of the text of a state.
use Rattle.std.specs.Prelude.{◌≡◌, ℕ, ◌+◌, ◌≤◌, ◌<◌, List, None, IsSomeAnd, length, sum_by}
use Rattle.net_parts.specs.Limits.{most_of_all}
use Rattle.control_flow.specs.Greens.{BeginBy}
use Rattle.foundation.specs.Firsts.{IsFirstWithout}
use Rattle.net_parts.specs.Numbers.{Net}
use Rattle.record_text.specs.Forms.{IsRefusedFor, Cause, OutOfMemory, NoHeader, AtRecord, AtEnd}
use Rattle.road_net.specs.Senses.{amount}
use Rattle.round_states.specs.declared.asked.Asked.{Asked}
use Rattle.round_states.specs.declared.entries.Entry.{Entry}
use Rattle.round_states.specs.declared.faults.StateFault.{StateFault}
use Rattle.round_states.specs.declared.faults.StateFault.TheVariants.{NoMemory, Header, Row, Name, Time, Sense, Board, Line, Sum, Stood, Late, Told}
use Rattle.round_states.specs.Order.{FitsAfter, now_of}
use Rattle.round_states.specs.States.{farthest_begin}
use Rattle.round_states.specs.Texts.{CanHaveStood, GoesOn, IsBoardOnce, IsSensedOnce, IsUntold, all_said, form, green_said, queue_in, sensed_in}
use Rattle.round_states.specs.StateRecords.{parse_in, name_of, place_of, parse}

-- a record that tells nothing; one with a name of which it cannot speak; and one that may not stand after those before it
abbrev pub IsAtRow : List (List ℕ) → Type 0
IsAtRow fields = parse fields ≡ None

abbrev pub IsAtName : Net → List (List ℕ) → Type 0
IsAtName net fields = IsSomeAnd (parse fields) (λ content. place_of net content (name_of fields) ≡ None)

abbrev pub IsAtTime : Net → List Entry → List (List ℕ) → Type 0
IsAtTime net es fields = IsSomeAnd (parse_in net fields) (λ e. ¬ FitsAfter net es e)

-- a node senses no more than it may
abbrev pub SensesFew : Net → List Entry → ℕ → Type 0
SensesFew net es node = sum_by amount (sensed_in net es node).links ≤ most_of_all

-- no green of a node begins too late
abbrev pub BeginSoon : List Entry → ℕ → Type 0
BeginSoon es node = BeginBy (now_of es + farthest_begin) (all_said green_said es node)

-- the queue of a link has stood for no longer than it can have
abbrev pub StoodInTime : List Entry → ℕ → Type 0
StoodInTime es link = CanHaveStood (now_of es) (queue_in es link)

-- what is sensed of each link is told once; so is the board of each; and the greens of each node go on
abbrev pub AreSensedOnce : Net → List Entry → Type 0
AreSensedOnce net es = (l : ℕ) → l < length net.link_names → IsSensedOnce es l

abbrev pub AreBoardsOnce : Net → List Entry → Type 0
AreBoardsOnce net es = (l : ℕ) → l < length net.link_names → IsBoardOnce net es l

abbrev pub AllGoOn : Net → Asked → List Entry → Type 0
AllGoOn net asked es = (n : ℕ) → n < length net.node_names → GoesOn net asked es n

-- what is told of each node and link is told as it must be, and no node senses more than it may
pub record AreTold (net : Net) (asked : Asked) (es : List Entry) : Type 0 where
  pub senses : AreSensedOnce net es
  pub boards : AreBoardsOnce net es
  pub lines : AllGoOn net asked es
  pub few : (n : ℕ) → n < length net.node_names → SensesFew net es n

-- each queue has stood for no longer than it can have, and no green begins too late
abbrev pub AllStoodInTime : Net → List Entry → Type 0
AllStoodInTime net es = (l : ℕ) → l < length net.link_names → StoodInTime es l

abbrev pub AllBeginSoon : Net → List Entry → Type 0
AllBeginSoon net es = (n : ℕ) → n < length net.node_names → BeginSoon es n

-- why what is told as it must be can be no state for these nodes: the first of these, at the least link or node
abbrev pub IsLimitFault : Net → Asked → List Entry → StateFault → Type 0
IsLimitFault net asked es (Stood link) = IsFirstWithout (StoodInTime es) (length net.link_names) link
IsLimitFault net asked es (Late node) =
    AllStoodInTime net es × IsFirstWithout (BeginSoon es) (length net.node_names) node
IsLimitFault net asked es (Told link) =
    AllStoodInTime net es × AllBeginSoon net es × IsFirstWithout (IsUntold net asked es) (length net.link_names) link
IsLimitFault net asked es _ = ⊥

-- why what records tell is no state for these nodes, where they are read and stand in order: the first of these, at the least link or node
abbrev pub IsEntryFault : Net → Asked → List Entry → StateFault → Type 0
IsEntryFault net asked es NoMemory = Unit {0}
IsEntryFault net asked es (Sense link) = IsFirstWithout (IsSensedOnce es) (length net.link_names) link
IsEntryFault net asked es (Board link) =
    AreSensedOnce net es × IsFirstWithout (IsBoardOnce net es) (length net.link_names) link
IsEntryFault net asked es (Line node) =
    AreSensedOnce net es × AreBoardsOnce net es × IsFirstWithout (GoesOn net asked es) (length net.node_names) node
IsEntryFault net asked es (Sum node) =
    AreSensedOnce net es × AreBoardsOnce net es × AllGoOn net asked es
    × IsFirstWithout (SensesFew net es) (length net.node_names) node
IsEntryFault net asked es fault = AreTold net asked es × IsLimitFault net asked es fault

-- what each fault says of a text
abbrev pub cause_of : Net → Asked → StateFault → Cause Entry
cause_of net asked NoMemory = OutOfMemory
cause_of net asked Header = NoHeader
cause_of net asked (Row n) = AtRecord n (λ es fields. IsAtRow fields)
cause_of net asked (Name n) = AtRecord n (λ es fields. IsAtName net fields)
cause_of net asked (Time n) = AtRecord n (IsAtTime net)
cause_of net asked fault = AtEnd (λ es. IsEntryFault net asked es fault)

-- the first fault of a text that stands for no state for these nodes
abbrev pub IsTextFault : Net → Asked → List ℕ → StateFault → Type 0
IsTextFault net asked bytes fault = IsRefusedFor (form net asked) bytes (cause_of net asked fault)
