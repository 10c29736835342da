-- Steps one after another, each of which may fail.
use Rattle.std.proofs.Common.{◌≡◌, Option, Some, None, Result, Ok, Err, refl, sym, ap, ◌∙◌}
use Rattle.std.specs.Option.{ok_or}
use Rattle.foundation.specs.Results.{◌>>=◌}

-- equal results have equal values, or equal faults, and none has both
pub same_Ok : {A E : Type 0} (x y : A) → ◌≡◌ {A = Result A E} (Ok x) (Ok y) → x ≡ y
same_Ok x y e = cc

pub same_Err : {A E : Type 0} (d e : E) → ◌≡◌ {A = Result A E} (Err d) (Err e) → d ≡ e
same_Err d e h = cc

pub no_Err : {A E : Type 0} {r : Result A E} {x : A} {e : E} → r ≡ Ok x → r ≡ Err e → ⊥
no_Err {A} {E} {x = x} {e = e} ok err = let both : ◌≡◌ {A = Result A E} (Ok x) (Err e) = sym ok ∙ err in absurd cc

-- the value that an option gave, or that it gave none
pub some_from_ok : {A E : Type 0} (o : Option A) (e : E) (x : A) → ok_or o e ≡ Ok x → o ≡ Some x
some_from_ok {A} {E} (Some y) e x h = ap (λ z. Some z) (same_Ok {E = E} y x h)
some_from_ok None e x h = absurd cc

pub none_from_err : {A E : Type 0} (o : Option A) (d e : E) → ok_or o d ≡ Err e → (o ≡ None) × (d ≡ e)
none_from_err {A} (Some x) d e h = absurd (no_Err {A = A} refl h)
none_from_err {A} None d e h = (refl, same_Err {A = A} d e h)

-- steps that did not fail: the first did not, and what follows it did not
pub then_ok : {A B E P : Type 0} (r : Result A E) {f : A → Result B E} {y : B} → (r >>= f) ≡ Ok y → ((x : A) → r ≡ Ok x → f x ≡ Ok y → P) → P
then_ok (Ok x) e go = go x refl e
then_ok (Err d) e go = absurd cc

-- steps that failed: the first did, or what follows it did
pub on_err : {A B E P : Type 0} (r : Result A E) {f : A → Result B E} {e : E} → (r >>= f) ≡ Err e → (r ≡ Err e → P) → ((x : A) → r ≡ Ok x → f x ≡ Err e → P) → P
on_err (Ok x) h failed go = go x refl h
on_err {A} {B} (Err d) {e = e} h failed go = failed (ap (λ k. Err k) (same_Err {A = B} d e h))

-- a result is a value, or a fault
pub result-cases : {X E P : Type 0} (r : Result X E) → ((x : X) → r ≡ Ok x → P) → ((e : E) → r ≡ Err e → P) → P
result-cases (Ok x) f g = f x refl
result-cases (Err e) f g = g e refl
