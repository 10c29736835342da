-- A fault other than `NoMemory` says that a text is read as no network.
use Rattle.std.proofs.Common.{◌≢◌, refl}
use Rattle.net_tables.specs.Faults.{Unless}
use Rattle.net_parts.specs.declared.faults.NetFault.{NetFault}
use Rattle.net_parts.specs.declared.faults.NetFault.TheVariants as net

pub no_network : (fault : NetFault) (fact : Type 0) → Unless fault fact → fault ≢ net.NoMemory → fact
no_network net.NoMemory fact unless other = absurd (other refl)
no_network _ fact unless other = unless
