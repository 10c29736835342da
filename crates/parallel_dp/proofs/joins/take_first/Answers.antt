use Rattle.std.proofs.Common.{◌+◌, refl, subst, sym}
use Rattle.std.proofs.lemmas.List.{get_or_default}
use Rattle.dp_certificate.specs.Certificates.{no_entry}
use Rattle.parallel_dp.specs.Joins.{IsJoining}
use Rattle.parallel_dp.proofs.Joining.{both-here, to-end-first, to-end-second}
use Rattle.parallel_dp.proofs.joins.take_first.Goals as goal

pub returns-in_ok-extend_from_slice-in-Less-clause-joined : goal.returns-in_ok-extend_from_slice-in-Less-clause-joined
returns-in_ok-extend_from_slice-in-Less-clause-joined c =
    subst (IsJoining c.args.a.now c.args.b.now c.end_before-end.result c.args.right) (sym c.in_ok-extend_from_slice-in-Less.ensures.items)
    (to-end-first c.args.a.now c.args.b.now c.args.left c.args.right c.end_before-end.result _ c.args.joined.now.items c.requires.first c.requires.second
    (get_or_default c.args.b.now c.args.right _ no_entry c.requires.inside.1) c.end_before-end.ensures c.requires.so_far)

pub returns-in_ok-extend_from_slice-in-Greater-clause-joined : goal.returns-in_ok-extend_from_slice-in-Greater-clause-joined
returns-in_ok-extend_from_slice-in-Greater-clause-joined c =
    subst (IsJoining c.args.a.now c.args.b.now c.args.left c.end_before-end-in-Greater.result) (sym c.in_ok-extend_from_slice-in-Greater.ensures.items)
    (to-end-second c.args.a.now c.args.b.now c.args.left c.args.right c.end_before-end-in-Greater.result _ c.args.joined.now.items c.requires.first c.requires.second
    (get_or_default c.args.a.now c.args.left _ no_entry c.requires.inside.0) c.end_before-end-in-Greater.ensures c.requires.so_far)

pub returns-in_ok-push-in-Equal-clause-joined : goal.returns-in_ok-push-in-Equal-clause-joined
returns-in_ok-push-in-Equal-clause-joined c =
    subst (IsJoining c.args.a.now c.args.b.now (c.args.left + 1) (c.args.right + 1)) (sym c.in_ok-push-in-Equal.ensures.items)
    (both-here c.args.a.now c.args.b.now c.args.left c.args.right c.args.joined.now.items _ _ c.cheaper.result c.requires.first c.requires.second c.requires.inside.0 c.requires.inside.1
    (get_or_default c.args.a.now c.args.left _ no_entry c.requires.inside.0) (get_or_default c.args.b.now c.args.right _ no_entry c.requires.inside.1)
    (c.in-Equal.ensures.same refl) c.cheaper.ensures.either c.cheaper.ensures.first c.cheaper.ensures.second c.requires.so_far)
