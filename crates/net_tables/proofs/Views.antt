-- What `toml`'s views of an array and of a table have, beside the lists that they are made of.
use Rattle.std.proofs.Common.{◌≡◌, ℕ, List, [], ◌∷◌, Bor, String, Global, string_bytes, map, refl, ap}
use Rattle.std.specs.List.{list_any, list_all}
use Rattle.std.specs.Map.{keys_of}
use Rattle.std.specs.Str.{bytes_eq}
use Rattle.toml.specs.View.{view, items_view, members_view}
use Rattle.toml.specs.declared.value.Value.{Value}
use Rattle.net_tables.specs.Table.{list_of, has_only}

pub list_of-items_view : (vs : List Value) → list_of (items_view vs) ≡ map view vs
list_of-items_view [] = refl
list_of-items_view (v ∷ vs) = ap (λ ds. view v ∷ ds) (list_of-items_view vs)

-- a key among borrowed names
any_lent : (key : List ℕ) (names : List (Bor (List ℕ))) → list_any (bytes_eq key) (map (λ n. n.now) names) ≡ list_any (λ n. bytes_eq key n.now) names
any_lent key [] = refl
any_lent key (n ∷ names) = rw (any_lent key names)

-- the keys of a map, each among the names
pub has_only_view : (names : List (Bor (List ℕ))) (es : List (String Global × Value)) → has_only (map (λ n. n.now) names) (members_view es) ≡ list_all (λ key. list_any (λ n. bytes_eq (string_bytes key) n.now) names) (keys_of es)
has_only_view names [] = refl
has_only_view names (e ∷ es) = rw (any_lent (string_bytes e.0) names, has_only_view names es)
