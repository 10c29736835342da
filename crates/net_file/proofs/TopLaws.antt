-- The table of the whole file.
use Rattle.std.proofs.Common.{◌≡◌, ℕ, ◌<◌, ◌≤◌, ◌^◌, codes, pos, List, [], String, Global, string_bytes, Option, Some, None, option_map, Result, Ok, Err, IfOk, refl, sym, subst, arith}
use Rattle.std.proofs.lemmas.Str.{IsUtf8-string_bytes}
use Rattle.std.specs.Option.{ok_or}
use Rattle.std.specs.Result.{result_ok}
use Rattle.foundation.proofs.OptionLaws.{bind-some}
use Rattle.foundation.proofs.ResultLaws.{same_Ok}
use Rattle.toml.specs.Parse.{parse_document}
use Rattle.toml.specs.Data.{Data, Items, Members, no_members, integer, array, as_table, get_member, depth, items_depth, members_depth}
use Rattle.net_parts.specs.declared.drafts.Draft.{Draft}
use Rattle.net_tables.specs.Table.{only, table_at, list_at, optional_number_at, optional_list_at, list_of, run_of, node_of, link_of, conflict_of, top_form, draft_of}
use Rattle.net_file.specs.Members.{with_member, with_optional}
use Rattle.net_file.specs.Written.{AreMembersOf, HasNumber, HasData, HasItems, HasItemsIfAny, IsPrinted, Says, SaysNode, SaysLink, Always, items_if, run_in}
use Rattle.net_file.proofs.PhaseLaws.{field-fits}

module _ (version : ℕ) (run : Data) (nodes links : Items) where
  -- the members of the whole file, as they are put together
  abbrev pub top_members : Option Items → Members
  top_members conflicts =
      with_optional (codes "conflict") (option_map array conflicts) (with_member (codes "link") (array links) (with_member (codes "node") (array nodes)
      (with_member (codes "run") run (with_member (codes "version") (integer (pos version)) no_members))))

  -- how they are read, with conflicts and without
  top-read : (conflicts : Option Items) (table_of_run : Members) → version < 2 ^ 32 → as_table run ≡ Some table_of_run
      → top_form (top_members conflicts) ≡ Some (record { version = Some version; run = table_of_run; nodes = list_of nodes; links = list_of links; conflicts = list_of (items_if conflicts) })
  unfolding top_form only table_at list_at optional_number_at optional_list_at
  top-read None ms fits is = rw is (λ i. Some (record { version = Some (field-fits version fits i); run = ms; nodes = list_of nodes; links = list_of links; conflicts = [] }))
  top-read (Some ds) ms fits is = rw is (λ i. Some (record { version = Some (field-fits version fits i); run = ms; nodes = list_of nodes; links = list_of links; conflicts = list_of ds }))

  top-version : (conflicts : Option Items) → get_member (codes "version") (top_members conflicts) ≡ Some (integer (pos version))
  top-version None = refl
  top-version (Some ds) = refl

  top-depth : (conflicts : Option Items) → depth run ≤ 1 → items_depth nodes ≤ 4 → items_depth links ≤ 3 → items_depth (items_if conflicts) ≤ 1 → members_depth (top_members conflicts) ≤ 5
  top-depth None a b c d = omega arith
  top-depth (Some ds) a b c d = omega arith

pub top-filled : (version : ℕ) (d : Draft) → (2 ≤ version) × (version ≤ 3) → Says version d → {m0 m1 m2 m3 m4 m5 : Members} → HasNumber (codes "version") version m0 m1 → HasData run_in Always 1 (codes "run") d.run m1 m2
    → HasItems (λ version. node_of (Some version)) SaysNode 4 (codes "node") d.nodes m2 m3 → HasItems (λ version. link_of (Some version)) SaysLink 3 (codes "link") d.links m3 m4
    → HasItemsIfAny (λ _. conflict_of) Always 1 (codes "conflict") d.conflicts m4 m5 → m0 ≡ no_members → AreMembersOf 5 version m5 d
unfolding draft_of
top-filled version d known says {m5 = m5} said run nodes links conflicts empty =
    let is : m5 ≡ top_members version run.data_of nodes.items links.items conflicts.items = rw (conflicts.is, links.is, nodes.is, run.is, said.is, empty) refl in
    let (ms, there, read) = bind-some (as_table run.data_of) run_of d.run (run.reads.read version tt) in
    let top = top-read version run.data_of nodes.items links.items conflicts.items ms said.fits there in
    subst (λ ms. AreMembersOf 5 version ms d) (sym is) (record {
      form = rw (top, read, nodes.are.read version says.nodes, links.are.read version says.links, conflicts.are.read version (λ k e h. tt)) (λ i. Some (record { run = d.run; nodes = d.nodes; links = d.links; conflicts = d.conflicts; great = sym says.great i }));
      said = top-version version run.data_of nodes.items links.items conflicts.items;
      known = rw top known;
      depth = top-depth version run.data_of nodes.items links.items conflicts.items run.reads.depth nodes.are.depth links.are.depth conflicts.are.depth;
    })

-- what was printed, where something was
pub printed : {E D : Type 0} (r : Result (String Global) E) (e : D) (text : String Global) (bytes : List ℕ) (ms : Members) → ok_or (result_ok r) e ≡ Ok text → bytes ≡ string_bytes text
    → IfOk r (λ s. members_depth ms ≤ 80 → parse_document (string_bytes s) ≡ Some ms) → IsPrinted bytes ms
printed {D = D} (Ok s) e text bytes ms is same back =
    let one : s ≡ text = same_Ok {E = D} s text is in
    record {
      utf8 = rw same (IsUtf8-string_bytes text);
      reads_back = rw (same, ← one) back;
    }
printed (Err y) e text bytes ms is same back = absurd (cc)
