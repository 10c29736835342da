-- What stands at a key of a table once values were put at keys, of which some may be absent.
use Rattle.std.proofs.Common.{◌≡◌, ℕ, ◌≤◌, Bool, true, false, ◌&&◌, if◌then◌else◌, true≢false, List, [], ◌∷◌, Option, Some, None, IfSome, Ordering, Less, Equal, Greater, refl, sym, ap, subst, ◌∙◌, arith}
use Rattle.std.specs.Option.{option_or}
use Rattle.std.specs.List.{list_all, list_any}
use Rattle.std.specs.Str.{bytes_eq}
use Rattle.std.specs.Ordering.{nat_cmp, is_eq, match_ordering}
use Rattle.std.specs.Cmp.Lexicographic.{slice_cmp}
use Rattle.std.proofs.lemmas.Bool.{and_from}
use Rattle.std.proofs.lemmas.Map.Lookups.{exact_bytes}
use Rattle.toml.specs.Data.{Data, Members, no_members, member, depth, members_depth, get_member, same_key}
use Rattle.net_tables.specs.Table.{has_only}
use Rattle.net_file.specs.Members.{with_member, with_optional}

-- a value before all other keys, in the place of another value, and after another key
before : {X : Type 0} (o : Ordering) (a b : X) → match_ordering o a b a ≡ (if is_eq o then b else a)
before Less a b = refl
before Equal a b = refl
before Greater a b = refl

over : {X : Type 0} (o : Ordering) (a b c : X) → match_ordering o a b a ≡ (if is_eq o then b else match_ordering o a c a)
over Less a b c = refl
over Equal a b c = refl
over Greater a b c = refl

after : {X : Type 0} (k key other : List ℕ) (a b c : X) (o : Ordering) → slice_cmp nat_cmp k key ≡ o → slice_cmp nat_cmp key other ≡ Greater
    → match_ordering (slice_cmp nat_cmp k other) (if is_eq o then b else a) c (if is_eq o then b else a) ≡ (if is_eq o then b else match_ordering (slice_cmp nat_cmp k other) a c a)
after k key other a b c Less e later = refl
after k key other a b c Greater e later = refl
after k key other a b c Equal e later =
    let same : k ≡ key = exact_bytes k key e in
    ap (λ r. match_ordering r b c b) (ap (λ y. slice_cmp nat_cmp y other) same ∙ later)

-- a value that was put at a key is found there alone
get-put : (k key : List ℕ) (d : Data) (ms : Members) → get_member k (with_member key d ms) ≡ (if same_key k key then Some d else get_member k ms)
get-put k key d no_members = before (slice_cmp nat_cmp k key) None (Some d)
get-put k key d (member other e ms) = by (get-put k key d ms) (slice_cmp nat_cmp key other) refl
  where
    by : get_member k (with_member key d ms) ≡ (if same_key k key then Some d else get_member k ms) → (o : Ordering) → slice_cmp nat_cmp key other ≡ o
        → get_member k (match_ordering o (member key d (member other e ms)) (member other d ms) (member other e (with_member key d ms))) ≡ (if same_key k key then Some d else get_member k (member other e ms))
    by rest Less is = before (slice_cmp nat_cmp k key) (get_member k (member other e ms)) (Some d)
    by rest Equal is =
        let same : key ≡ other = exact_bytes key other is in
        subst (λ x. match_ordering (slice_cmp nat_cmp k x) (get_member k ms) (Some d) (get_member k ms) ≡ (if same_key k key then Some d else match_ordering (slice_cmp nat_cmp k x) (get_member k ms) (Some e) (get_member k ms))) same
        (over (slice_cmp nat_cmp k key) (get_member k ms) (Some d) (Some e))
    by rest Greater is =
        ap (λ g. match_ordering (slice_cmp nat_cmp k other) g (Some e) g) rest
        ∙ after k key other (get_member k ms) (Some d) (Some e) (slice_cmp nat_cmp k key) refl is

left-true : (x y : Bool) → (x && y) ≡ true → x ≡ true
left-true true y e = refl
left-true false y e = e

right-true : (x y : Bool) → (x && y) ≡ true → y ≡ true
right-true true y e = e
right-true false y e = absurd (true≢false (sym e))

-- a table has only these keys, also with one of them more
has-put : (keys : List (List ℕ)) (key : List ℕ) (d : Data) (ms : Members) → list_any (bytes_eq key) keys ≡ true → has_only keys ms ≡ true → has_only keys (with_member key d ms) ≡ true
has-put keys key d no_members one own = and_from (list_any (bytes_eq key) keys) true one refl
has-put keys key d (member other e ms) one own =
    by (has-put keys key d ms one (right-true (list_any (bytes_eq other) keys) (has_only keys ms) own)) (slice_cmp nat_cmp key other)
  where
    by : has_only keys (with_member key d ms) ≡ true → (o : Ordering) → has_only keys (match_ordering o (member key d (member other e ms)) (member other d ms) (member other e (with_member key d ms))) ≡ true
    by rest Less = and_from (list_any (bytes_eq key) keys) (has_only keys (member other e ms)) one own
    by rest Equal = own
    by rest Greater = and_from (list_any (bytes_eq other) keys) (has_only keys (with_member key d ms)) (left-true (list_any (bytes_eq other) keys) (has_only keys ms) own) rest

-- and is no deeper than it was and what was put
depth-put : (key : List ℕ) (d : Data) (ms : Members) (deep : ℕ) → depth d ≤ deep → members_depth ms ≤ deep → members_depth (with_member key d ms) ≤ deep
depth-put key d no_members deep one all = omega arith
depth-put key d (member other e ms) deep one all = by (depth-put key d ms deep one (omega arith)) (slice_cmp nat_cmp key other)
  where
    by : members_depth (with_member key d ms) ≤ deep → (o : Ordering) → members_depth (match_ordering o (member key d (member other e ms)) (member other d ms) (member other e (with_member key d ms))) ≤ deep
    by rest Less = omega arith
    by rest Equal = omega arith
    by rest Greater = omega arith

-- the members with each of these at its key, where there is something to stand there; the last is put first
abbrev pub with_all : List (List ℕ × Option Data) → Members → Members
with_all [] ms = ms
with_all (p ∷ ps) ms = with_optional p.0 p.1 (with_all ps ms)

-- what is found at a key of them
abbrev pub found : List ℕ → List (List ℕ × Option Data) → Members → Option Data
found k [] ms = get_member k ms
found k (p ∷ ps) ms = if same_key k p.0 then option_or p.1 (found k ps ms) else found k ps ms

either : {X : Type 0} (b : Bool) (x : X) → x ≡ (if b then x else x)
either true x = refl
either false x = refl

get-optional : (k key : List ℕ) (o : Option Data) (ms : Members) → get_member k (with_optional key o ms) ≡ (if same_key k key then option_or o (get_member k ms) else get_member k ms)
get-optional k key None ms = either (same_key k key) (get_member k ms)
get-optional k key (Some d) ms = get-put k key d ms

pub get-all : (k : List ℕ) (ps : List (List ℕ × Option Data)) (ms : Members) → get_member k (with_all ps ms) ≡ found k ps ms
get-all k [] ms = refl
get-all k (p ∷ ps) ms = get-optional k p.0 p.1 (with_all ps ms) ∙ ap (λ g. if same_key k p.0 then option_or p.1 g else g) (get-all k ps ms)

has-optional : (keys : List (List ℕ)) (key : List ℕ) (o : Option Data) (ms : Members) → list_any (bytes_eq key) keys ≡ true → has_only keys ms ≡ true → has_only keys (with_optional key o ms) ≡ true
has-optional keys key None ms one own = own
has-optional keys key (Some d) ms one own = has-put keys key d ms one own

pub has-all : (keys : List (List ℕ)) (ps : List (List ℕ × Option Data)) (ms : Members) → list_all (λ p. list_any (bytes_eq p.0) keys) ps ≡ true → has_only keys ms ≡ true
    → has_only keys (with_all ps ms) ≡ true
has-all keys [] ms all own = own
has-all keys (p ∷ ps) ms all own =
    let rest : Bool = list_all (λ (q : List ℕ × Option Data). list_any (bytes_eq q.0) keys) ps in
    has-optional keys p.0 p.1 (with_all ps ms) (left-true (list_any (bytes_eq p.0) keys) rest all) (has-all keys ps ms (right-true (list_any (bytes_eq p.0) keys) rest all) own)

-- none of them is an array or a table
abbrev pub AreFlat : List (List ℕ × Option Data) → Type 0
AreFlat [] = 0 ≤ 0
AreFlat (p ∷ ps) = IfSome p.1 (λ d. depth d ≤ 0) × AreFlat ps

depth-optional : (key : List ℕ) (o : Option Data) (ms : Members) → IfSome o (λ d. depth d ≤ 0) → members_depth ms ≤ 0 → members_depth (with_optional key o ms) ≤ 0
depth-optional key None ms flat all = all
depth-optional key (Some d) ms flat all = depth-put key d ms 0 flat all

pub depth-all : (ps : List (List ℕ × Option Data)) (ms : Members) → AreFlat ps → members_depth ms ≤ 0 → members_depth (with_all ps ms) ≤ 0
depth-all [] ms flat all = all
depth-all (p ∷ ps) ms flat all = depth-optional p.0 p.1 (with_all ps ms) flat.0 (depth-all ps ms flat.1 all)

-- what may be absent is found where nothing else stands at its key
pub or-none : {X : Type 0} (o : Option X) → option_or o None ≡ o
or-none None = refl
or-none (Some x) = refl
