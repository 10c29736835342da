-- The kinds of texts that say a network, and what enters it.
use Rattle.std.specs.Prelude.{◌≡◌, ◌≢◌, ℕ, List}
use Rattle.arrivals.specs.Amounts.{Amounts, arriving_of}
use Rattle.arrivals.specs.Codes.{row_code}
use Rattle.arrivals.specs.Texts as arrivals
use Rattle.arrivals.specs.Texts.{IsArrivalText}
use Rattle.arrivals.specs.declared.rows.RowFault.{RowFault}
use Rattle.arrivals.specs.declared.rows.RowFault.TheVariants as row
use Rattle.net_file.specs.NetworkText.{IsCause, IsNetworkText}
use Rattle.net_parts.specs.Codes.{net_code}
use Rattle.net_parts.specs.Numbers.{Net}
use Rattle.net_parts.specs.declared.faults.NetFault.{NetFault}
use Rattle.net_parts.specs.declared.faults.NetFault.TheVariants as net
use Rattle.commands.specs.Kinds.{Kind}

-- the first fault of a text that is to say a network
abbrev pub IsBadNetwork : List ℕ → NetFault → Type 0
IsBadNetwork text fault = IsCause text fault × (fault ≢ net.NoMemory)

-- the kind of texts that say a network
abbrev pub NetworkText : Kind
NetworkText = record { Said = Net; Fault = NetFault; is_text = IsNetworkText; is_fault = IsBadNetwork; code = net_code }

-- the arrivals of a text bring this
pub record IsBroughtBy (net : Net) (text : List ℕ) (arriving : ℕ → ℕ → ℕ) : Type 0 where
  pub arrivals : Amounts
  pub of_text : IsArrivalText net text arrivals
  pub bring : arriving_of arrivals ≡ arriving

-- the first fault of a text that is to say what enters a network
abbrev pub IsBadArrivals : Net → List ℕ → RowFault → Type 0
IsBadArrivals net text fault = arrivals.IsTextFault net text fault × (fault ≢ row.NoMemory)

-- the kind of texts that say what enters each link of a network in each second
abbrev pub ArrivalsText : Net → Kind
ArrivalsText net =
    record {
      Said = ℕ → ℕ → ℕ;
      Fault = RowFault;
      is_text = IsBroughtBy net;
      is_fault = IsBadArrivals net;
      code = row_code;
    }
