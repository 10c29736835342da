use Rattle.std.proofs.Common.{◌≡◌, ◌≢◌, ℕ, List, ◌++◌}
use Rattle.std.specs.Option.{MatchOption}
use Rattle.std.proofs.lemmas.Bool.Decides.{Decides-eqb}
use Rattle.std.proofs.lemmas.Slice.Eq.{strip_prefix_is}
use Rattle.text_lines.proofs.Units.{literal_is, stripped_found, stripped_only}
use Rattle.text_lines.proofs.fields.literal.Goals as goal

stripped : (c : goal.After-strip_prefix) → MatchOption c.strip_prefix.result ((rest : List ℕ) → c.args.bytes.now ≢ c.args.text.now ++ rest) (λ x. c.args.bytes.now ≡ c.args.text.now ++ x.now)
stripped c = strip_prefix_is Decides-eqb c.args.bytes.now c.args.text.now c.strip_prefix.result (rw c.as_bytes.ensures.value at c.strip_prefix.ensures.cases)

pub returns-clause-some : goal.returns-clause-some
returns-clause-some c = stripped_found c.args.text.now c.args.bytes.now c.strip_prefix.result (stripped c)

pub returns-clause-only : goal.returns-clause-only
returns-clause-only c = stripped_only c.args.text.now c.args.bytes.now c.strip_prefix.result (stripped c)

pub returns-clause-exact : goal.returns-clause-exact
returns-clause-exact c = literal_is c.args.text.now c.args.bytes.now c.strip_prefix.result (stripped_found c.args.text.now c.args.bytes.now c.strip_prefix.result (stripped c)) (stripped_only c.args.text.now c.args.bytes.now c.strip_prefix.result (stripped c))
