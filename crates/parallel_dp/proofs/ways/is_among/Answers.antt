use Rattle.std.proofs.Common.{refl}
use Rattle.parallel_dp.proofs.WayLaws.{among-key, among-none}
use Rattle.parallel_dp.proofs.ways.is_among.Goals as goal

pub returns-then-has_key_at : goal.returns-then-has_key_at
returns-then-has_key_at c = among-key c.args.entries.now c.args.entry.now c.place_of-place.result _ c.requires (c.if-has_key_at.ensures.some refl)

pub returns-else-has_key_at : goal.returns-else-has_key_at
returns-else-has_key_at c =
    let none = among-none c.args.entries.now c.args.entry.now c.place_of-place.result c.requires c.place_of-place.ensures (c.if-has_key_at.ensures.none refl) in
    (λ h. absurd (cc), λ h. absurd (none h))
