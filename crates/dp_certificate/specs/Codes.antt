-- The codes of faults of the entries of a certificate.
use Rattle.std.specs.Prelude.{ℕ, List, ◌++◌, codes}
use Rattle.std.specs.Fmt.{decimal}
use Rattle.dp_certificate.specs.declared.certificates.CertFault.{CertFault}
use Rattle.dp_certificate.specs.declared.certificates.CertFault.TheVariants.{Entry, Order}

-- the code of a fault of the entries: the first that is out of its bounds, or else the first that is not above the one before it,
-- from 1
abbrev pub entry_code : CertFault → List ℕ
entry_code (Entry n) = codes "entry " ++ decimal n
entry_code (Order n) = codes "entry order " ++ decimal n
