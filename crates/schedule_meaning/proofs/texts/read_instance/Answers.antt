use Rattle.std.proofs.Common.{◌≡◌, sym, subst, ◌∙◌}
use Rattle.phase_plan.specs.Phases.{marks_of}
use Rattle.instance_form.proofs.VersionLaws.{own-marks}
use Rattle.schedule_meaning.specs.Faults.{IsInstanceFault}
use Rattle.schedule_meaning.specs.Instances.{IsInstance, Problem}
use Rattle.schedule_meaning.proofs.TextLaws.{form-plan, has-text, lists-below-text}
use Rattle.schedule_meaning.proofs.texts.read_instance.Goals as goal

pub returns-in-Err-clause-first : goal.returns-in-Err-clause-first
returns-in-Err-clause-first c =
    let form = c.in_ok-form.form in
    let p : Problem = record { plan = form.phases.items; head = form.head; lists = form.lists.items } in
    (form.marks, p, record { fits = c.in_ok-form.ensures.ok.0.fits; ring = c.in_ok-form.ensures.ok.0.ring; text = c.in_ok-form.ensures.ok.1 }, c.in-Err.ensures.first)

pub new-requires : goal.new-requires
new-requires c = lists-below-text c.in_ok-form.form.marks c.in_ok-form.form.phases.items c.in_ok-form.form.head c.in_ok-form.form.lists.items c.args.bytes.now c.in_ok-form.ensures.ok.1 c.requires

pub returns-in-Err-new-clause-first : goal.returns-in-Err-new-clause-first
returns-in-Err-new-clause-first c =
    let form = c.in_ok-form.form in
    let p : Problem = record { plan = form.phases.items; head = form.head; lists = form.lists.items } in (
      form.marks,
      p,
      record { fits = c.in_ok-form.ensures.ok.0.fits; ring = c.in_ok-form.ensures.ok.0.ring; text = c.in_ok-form.ensures.ok.1 },
      c.in-Ok.ensures.ok.1,
      subst (λ plan. let q : Problem = record { plan = plan; head = form.head; lists = form.lists.items } in IsInstanceFault q c.in-Err-new.fault) c.in-Ok.ensures.ok.0 c.in-Err-new.ensures.first,
    )

pub returns-in-Err-clause-only : goal.returns-in-Err-clause-only
returns-in-Err-clause-only c = λ p law e.
    let parts = c.in_ok-form.ensures.only (marks_of p.plan) p.plan p.head p.lists (has-text p law) (own-marks p.plan) e in
    c.in-Err.ensures.refused (form-plan c.in_ok-form.form.marks c.in_ok-form.form.phases.items p parts.ring parts.phases law)

pub returns-in-Err-new-clause-only : goal.returns-in-Err-new-clause-only
returns-in-Err-new-clause-only c = λ p law e.
    let parts = c.in_ok-form.ensures.only (marks_of p.plan) p.plan p.head p.lists (has-text p law) (own-marks p.plan) e in
    let phases = c.in-Ok.ensures.ok.0 ∙ parts.phases in
    let same : ◌≡◌ {A = Problem} p (record { plan = c.in-Ok.plan; head = c.in_ok-form.form.head; lists = c.in_ok-form.form.lists.items }) =
    λ i. record { plan = sym phases i; head = sym parts.head i; lists = sym parts.each i } in
    c.in-Err-new.ensures.refused (subst IsInstance same law)
