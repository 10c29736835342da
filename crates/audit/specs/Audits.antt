-- When a sheet is clean, and else the first reason why it is not.
use Rattle.std.specs.Prelude.{◌≡◌, ◌≢◌, ℕ, ◌-◌, ◌<◌, ◌≤◌, List, length}
use Rattle.foundation.specs.Firsts.{IsFirstWithout, FromOne}
use Rattle.phase_plan.specs.declared.Phase.{Phase}
use Rattle.net_parts.specs.Numbers.{Net}
use Rattle.net_parts.specs.Outline.{plan_at}
use Rattle.control_flow.specs.Greens.{Follows, IsGreen, IsLawful, row_at}
use Rattle.control_flow.specs.declared.greens.Green.{Green}
use Rattle.net_simulator.specs.Counts.{counts_at}
use Rattle.net_simulator.specs.Shown.{all_shown, link_shown}
use Rattle.net_simulator.specs.Worlds.{line_in}
use Rattle.audit.specs.SheetTexts.{IsSheetText}
use Rattle.audit.specs.declared.sheet.Sheet.{Sheet}
use Rattle.audit.specs.declared.findings.AuditWhy.{AuditWhy}
use Rattle.audit.specs.declared.findings.AuditWhy.TheVariants.{Span, Next, Link, Total}
use Rattle.audit.specs.declared.findings.Audited.{Audited}
use Rattle.audit.specs.declared.findings.Audited.TheVariants as audited
use Rattle.audit.specs.declared.findings.Finding.{Finding}
use Rattle.audit.specs.declared.findings.Finding.TheVariants.{Clean, Bad}

-- each line is lawful for the plan of its node
abbrev pub AreLawful : Net → List (List Green) → Type 0
AreLawful net lines = (node : ℕ) → node < length net.node_names → IsLawful (plan_at net node) (line_in lines node)

-- what a sheet says of a link is what the world shows under the lines of the sheet
abbrev pub IsLinkShown : Net → (ℕ → ℕ → ℕ) → Sheet → ℕ → Type 0
IsLinkShown net arriving s l = counts_at s.links l ≡ link_shown net arriving s.lines l

-- a clean sheet: its lines are lawful, and what it says of each link and of the whole network is what the world shows under them
pub record IsClean (net : Net) (arriving : ℕ → ℕ → ℕ) (s : Sheet) : Type 0 where
  pub lawful : AreLawful net s.lines
  pub links : (l : ℕ) → l < length net.link_names → IsLinkShown net arriving s l
  pub all : s.totals ≡ all_shown net arriving s.lines

-- the bytes are the text of one sheet and of no other, and this sheet is clean for the network and what arrives
pub record IsCleanText (net : Net) (arriving : ℕ → ℕ → ℕ) (bytes : List ℕ) : Type 0 where
  pub sheet : Sheet
  pub is_text : IsSheetText net bytes sheet
  pub only : (other : Sheet) → IsSheetText net bytes other → other ≡ sheet
  pub clean : IsClean net arriving sheet

-- ---- why a sheet is not clean

-- the row of a line at this index, from 0, is a green of the plan
abbrev pub IsGreenAt : List Phase → List Green → ℕ → Type 0
IsGreenAt plan rows k = IsGreen plan (row_at rows k)

-- it follows the row before it, where there is one
abbrev pub FollowsAt : List Phase → List Green → ℕ → Type 0
FollowsAt plan rows k = 1 ≤ k → Follows plan (row_at rows (k - 1)) (row_at rows k)

-- such a fact holds of each row of a node
abbrev pub AllRows : (List Phase → List Green → ℕ → Type 0) → Net → List (List Green) → ℕ → Type 0
AllRows Fact net lines node = (k : ℕ) → k < length (line_in lines node) → Fact (plan_at net node) (line_in lines node) k

-- it fails first at this row, from 1, of this node: the least node with a row of which it does not hold, and the least such row
pub record IsFirstRow (Fact : List Phase → List Green → ℕ → Type 0) (net : Net) (lines : List (List Green))
    (node row : ℕ) : Type 0 where
  pub least : IsFirstWithout (AllRows Fact net lines) (length net.node_names) node
  pub at : FromOne (IsFirstWithout (Fact (plan_at net node) (line_in lines node)) (length (line_in lines node))) row

-- Why a sheet is not clean: the first of a row that is no green of its node's plan, a row that may not follow the one before it,
-- a link of which something else is said than the world shows, and such totals. All rows of all nodes are greens before it is asked
-- what they follow.
abbrev pub IsWhy : Net → (ℕ → ℕ → ℕ) → Sheet → AuditWhy → Type 0
IsWhy net arriving s (Span node row) = IsFirstRow IsGreenAt net s.lines node row
IsWhy net arriving s (Next node row) =
    ((n : ℕ) → n < length net.node_names → AllRows IsGreenAt net s.lines n) × IsFirstRow FollowsAt net s.lines node row
IsWhy net arriving s (Link link) =
    AreLawful net s.lines × IsFirstWithout (IsLinkShown net arriving s) (length net.link_names) link
IsWhy net arriving s Total =
    AreLawful net s.lines × ((l : ℕ) → l < length net.link_names → IsLinkShown net arriving s l)
    × (s.totals ≢ all_shown net arriving s.lines)

-- this holds of the reason, where there is one
abbrev pub IfBad : Finding → (AuditWhy → Type 0) → Type 0
IfBad Clean P = Unit {0}
IfBad (Bad why) P = P why

-- this holds of the lines of a clean sheet, and this of the reason why it is not clean
abbrev pub IfClean : Audited → (List (List Green) → Type 0) → Type 0
IfClean (audited.Clean lines) P = P lines
IfClean (audited.Bad why) P = Unit {0}

abbrev pub IfUnclean : Audited → (AuditWhy → Type 0) → Type 0
IfUnclean (audited.Clean lines) P = Unit {0}
IfUnclean (audited.Bad why) P = P why
