-- What the forms of tables stand for. No public clause names these.
use Rattle.std.specs.Prelude.{ℕ, List, map}
use Rattle.toml.specs.Data.{Data}
use Rattle.toml.specs.View.{view}
use Rattle.net_tables.specs.declared.forms.YieldForm.{YieldForm}

-- the links to which a link gives way, their names not yet read, and its discharge then
abbrev pub raw_yields : YieldForm → List Data × ℕ
raw_yields given = (map view given.links.now, given.sat)
