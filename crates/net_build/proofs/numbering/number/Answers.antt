use Rattle.std.proofs.Common.{refl, sym}
use Rattle.net_parts.proofs.Distinct.{number_of-unknown}
use Rattle.net_build.proofs.numbering.number.Goals as goal

pub returns-in-None : goal.returns-in-None
returns-in-None c = (refl, number_of-unknown c.args.names.now c.args.name.now (rw (← c.as_str.ensures) (sym c.in-None.ensures)))
