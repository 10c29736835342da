use Rattle.cert_checker.proofs.Places.{has-stands, stands-has}
use Rattle.cert_checker.proofs.search.has_entry.Goals as goal

pub returns : goal.returns
returns c = (
  λ h. stands-has c.args.entries.now c.place_of-place.result c.args.next.now (c.stands_at-3.ensures.0 h),
  λ has. c.stands_at-3.ensures.1 (has-stands c.args.entries.now c.place_of-place.result c.args.next.now c.requires.rising c.place_of-place.ensures has),
)
