use Rattle.std.proofs.Common.{◌∙◌, ap, not, string_bytes}
use Rattle.std.specs.Str.{bytes_eq}
use Rattle.foundation.proofs.PositionLaws.{list_any-position, position-map}
use Rattle.net_parts.proofs.names.Names.add.Goals as goal

pub returns-clause-added : goal.returns-clause-added
returns-clause-added c =
    rw (← c.self.view_is, ← c.in_ok-name.ensures.ok, position-map (bytes_eq (string_bytes c.in_ok-name.name)) string_bytes c.self.inside.set.keys)
    (c.in_ok-insert.ensures.added ∙ ap not (list_any-position (λ k. bytes_eq (string_bytes c.in_ok-name.name) (string_bytes k)) c.self.inside.set.keys))
