-- When an entry is closed.
use Rattle.std.proofs.Common.{◌≡◌, ℕ, ◌<◌, ◌≤◌, ◌⊎◌, length, IfSome, Option, Some, None, refl, subst, inl, inr, arith}
use Rattle.std.specs.Option.{option_map}
use Rattle.std.proofs.lemmas.Bool.{cases_lt}
use Rattle.schedule_meaning.specs.Instances.{IsInstance}
use Rattle.dp_certificate.specs.Prefixes.{Stage, key_of, stage_after}
use Rattle.dp_certificate.specs.Certificates.{Claim}
use Rattle.dp_certificate.specs.NextEntry.{stage_of_next}
use Rattle.dp_certificate.specs.Proves.{HasEntry, IsClosed, IsClosedAt, IsTooDear, stage_of_entry}
use Rattle.dp_certificate.specs.declared.Entry.{Entry}
use Rattle.dp_certificate.proofs.Stages.{stage-after-phase}
use Rattle.cert_checker.specs.Places.{IsMet}

-- what is next after an entry, as an option
mapped : (c : Claim) (next : Option Entry) → IfSome next (IsMet c) → IfSome (option_map stage_of_next next) (λ s. HasEntry c.entries (key_of s) s.delay ⊎ IsTooDear c.problem c.answer s)
mapped c None h = h
mapped c (Some e) h = h

-- an entry is closed at a phase where what is next is met
pub closed-at : (c : Claim) (e : Entry) (k : ℕ) (next : Option Entry) → option_map stage_of_next next ≡ stage_after c.problem (stage_of_entry c.problem e) k → IfSome next (IsMet c) → IsClosedAt c e k
closed-at c e k next same met = subst (λ (o : Option Stage). IfSome o (λ s. HasEntry c.entries (key_of s) s.delay ⊎ IsTooDear c.problem c.answer s)) same (mapped c next met)

-- and at a number that is no phase
closed-none : (c : Claim) (o : Option Stage) → ((s : Stage) → o ≡ Some s → ⊥) → IfSome o (λ s. HasEntry c.entries (key_of s) s.delay ⊎ IsTooDear c.problem c.answer s)
closed-none c None h = tt
closed-none c (Some s) h = absurd (h s refl)

pub closed-past : (c : Claim) → IsInstance c.problem → (e : Entry) (k : ℕ) → length c.problem.plan ≤ k → IsClosedAt c e k
closed-past c lawful e k past =
    closed-none c (stage_after c.problem (stage_of_entry c.problem e) k) (λ s h. omega (arith, stage-after-phase c.problem lawful (stage_of_entry c.problem e) s k h))

pub closed-all : (c : Claim) → IsInstance c.problem → (e : Entry) (n : ℕ) → length c.problem.plan ≤ n → ((k : ℕ) → k < n → IsClosedAt c e k) → IsClosed c e
closed-all c lawful e n all before k = elim (cases_lt k n) [ inl h ↦ before k h | inr h ↦ closed-past c lawful e k (omega arith) ]
