use Rattle.std.proofs.Common.{◌∙◌, ap, position, sym, string_bytes}
use Rattle.std.specs.Str.{bytes_eq}
use Rattle.foundation.proofs.PositionLaws.{position-map}
use Rattle.net_parts.proofs.names.Names.find.Goals as goal

pub returns-in-Some : goal.returns-in-Some
returns-in-Some c =
    sym c.in-Some.is ∙ c.get_index_of.ensures.index ∙ sym (position-map (bytes_eq c.args.name.now) string_bytes c.self.inside.set.keys) ∙ ap (λ names. position (bytes_eq c.args.name.now) names) c.self.view_is

pub returns-in-None : goal.returns-in-None
returns-in-None c =
    sym c.in-None.is ∙ c.get_index_of.ensures.index ∙ sym (position-map (bytes_eq c.args.name.now) string_bytes c.self.inside.set.keys) ∙ ap (λ names. position (bytes_eq c.args.name.now) names) c.self.view_is
