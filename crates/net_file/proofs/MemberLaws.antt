-- An insert into the map of a table, as members.
use Rattle.std.proofs.Common.{◌≡◌, ℕ, List, [], ◌∷◌, String, Global, Ordering, Less, Equal, Greater, string_bytes, refl, ap, ◌∙◌}
use Rattle.std.specs.String.{string_cmp}
use Rattle.std.specs.Ordering.{match_ordering}
use Rattle.std.specs.BTreeMap.{insert_entry}
use Rattle.toml.specs.View.{view, members_view}
use Rattle.toml.specs.declared.value.Value.{Value}
use Rattle.net_file.specs.Members.{with_member}

by_order : (o : Ordering) (a b c : List (String Global × Value)) → members_view (match_ordering o a b c) ≡ match_ordering o (members_view a) (members_view b) (members_view c)
by_order Less a b c = refl
by_order Equal a b c = refl
by_order Greater a b c = refl

pub members_view-insert_entry : (es : List (String Global × Value)) (k : String Global) (v : Value) → members_view (insert_entry string_cmp es k v) ≡ with_member (string_bytes k) (view v) (members_view es)
members_view-insert_entry [] k v = refl
members_view-insert_entry (e ∷ es) k v = by_order (string_cmp k e.0) _ _ _ ∙ rw (members_view-insert_entry es k v)

-- the same, from what the clauses of the insert and of the copy of the key say
pub inserted : (k : String Global) (key : List ℕ) (v : Value) (old new : List (String Global × Value)) → new ≡ insert_entry string_cmp old k v → string_bytes k ≡ key → members_view new ≡ with_member key (view v) (members_view old)
inserted k key v old new entries same = ap members_view entries ∙ members_view-insert_entry old k v ∙ ap (λ key. with_member key (view v) (members_view old)) same
