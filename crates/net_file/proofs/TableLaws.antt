-- The small tables of a network file: a node, a turn and a conflict.
use Rattle.std.proofs.Common.{◌≡◌, ◌≤◌, codes, pos, Some, refl, sym, subst, arith}
use Rattle.toml.specs.Data.{Members, no_members, member, integer, string, array, table, items_depth}
use Rattle.net_parts.specs.declared.drafts.DraftNode.{DraftNode}
use Rattle.net_parts.specs.declared.drafts.DraftTurn.{DraftTurn}
use Rattle.net_parts.specs.declared.drafts.DraftConflict.{DraftConflict}
use Rattle.net_tables.specs.Table.{only, number_at, text_at, list_at, phase_of, node_form, node_of, turn_of, conflict_of}
use Rattle.net_file.specs.Members.{with_member}
use Rattle.net_file.specs.Written.{IsDataOf, IsFilledWith, HasNumber, HasItems, SaysPhase, SaysNode, Always}
use Rattle.net_file.proofs.PhaseLaws.{field-fits}

pub node-filled : (node : DraftNode) {m0 m1 m2 : Members} → m1 ≡ with_member (codes "name") (string node.name) m0 → HasItems (λ version. phase_of (Some version)) SaysPhase 2 (codes "phase") node.phases m1 m2 → IsFilledWith (λ version. node_of (Some version)) SaysNode 4 node m0 m2
unfolding node_of node_form only text_at list_at
node-filled node {m2 = m2} name phases empty =
    let is : m2 ≡ member (codes "name") (string node.name) (member (codes "phase") (array phases.items) no_members) = rw (phases.is, name, empty) refl in
    subst (λ ms. IsDataOf (λ version. node_of (Some version)) SaysNode 4 (table ms) node) (sym is) (record {
      read = λ version says. rw (phases.are.read version says.phases) (λ i. Some (record { name = node.name; phases = node.phases; free_ring = sym says.free_ring i }));
      depth = let most : items_depth phases.items ≤ 2 = phases.are.depth in omega arith;
    })

pub turn-filled : (turn : DraftTurn) {m0 m1 m2 : Members} → m1 ≡ with_member (codes "exit") (string turn.exit) m0 → HasNumber (codes "share") turn.share m1 m2 → IsFilledWith (λ _. turn_of) Always 1 turn m0 m2
unfolding turn_of only text_at number_at
turn-filled turn {m2 = m2} exit share empty =
    let is : m2 ≡ member (codes "exit") (string turn.exit) (member (codes "share") (integer (pos turn.share)) no_members) = rw (share.is, exit, empty) refl in
    subst (λ ms. IsDataOf (λ _. turn_of) Always 1 (table ms) turn) (sym is) (record {
      read = λ version says i. Some (record { exit = turn.exit; share = field-fits turn.share share.fits i });
      depth = omega arith;
    })

pub conflict-filled : (conflict : DraftConflict) {m0 m1 m2 : Members} → m1 ≡ with_member (codes "a") (string conflict.a) m0 → m2 ≡ with_member (codes "b") (string conflict.b) m1 → IsFilledWith (λ _. conflict_of) Always 1 conflict m0 m2
unfolding conflict_of only text_at
conflict-filled conflict {m2 = m2} a b empty =
    let is : m2 ≡ member (codes "a") (string conflict.a) (member (codes "b") (string conflict.b) no_members) = rw (b, a, empty) refl in
    subst (λ ms. IsDataOf (λ _. conflict_of) Always 1 (table ms) conflict) (sym is) (record { read = λ version says. refl; depth = omega arith })
