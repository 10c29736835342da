use Rattle.std.proofs.Common.{ap, ◌∙◌}
use Rattle.net_parts.specs.Numbers.{number_of}
use Rattle.net_parts.proofs.Distinct.{number_of-none, number_of-found}
use Rattle.road_net.proofs.Network.find_link.Goals as goal

pub returns-clause-none : goal.returns-clause-none
returns-clause-none c = rw (c.find.ensures ∙ ap (λ net. number_of net.link_names c.args.name.now) c.self.view_is) (number_of-none c.args.self.now.link_names c.args.name.now)

pub returns-clause-some : goal.returns-clause-some
returns-clause-some c = rw (c.find.ensures ∙ ap (λ net. number_of net.link_names c.args.name.now) c.self.view_is) (number_of-found c.args.self.now.link_names c.args.name.now)
