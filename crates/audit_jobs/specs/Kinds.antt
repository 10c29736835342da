-- The kind of reports, which say a sheet.
use Rattle.std.specs.Prelude.{◌≢◌, ℕ, List}
use Rattle.audit.specs.Codes.{sheet_code}
use Rattle.audit.specs.SheetFaults.{IsTextFault}
use Rattle.audit.specs.SheetTexts.{IsSheetText}
use Rattle.audit.specs.declared.sheet.Sheet.{Sheet}
use Rattle.audit.specs.declared.sheet_faults.SheetFault.{SheetFault}
use Rattle.audit.specs.declared.sheet_faults.SheetFault.TheVariants.{NoMemory}
use Rattle.net_parts.specs.Numbers.{Net}
use Rattle.commands.specs.Kinds.{Kind}

-- the first fault of a report that is to say a sheet
abbrev pub IsBadSheet : Net → List ℕ → SheetFault → Type 0
IsBadSheet net text fault = IsTextFault net text fault × (fault ≢ NoMemory)

-- the kind of reports of a network, which say a sheet: greens and totals
abbrev pub SheetText : Net → Kind
SheetText net =
    record { Said = Sheet; Fault = SheetFault; is_text = IsSheetText net; is_fault = IsBadSheet net; code = sheet_code }
