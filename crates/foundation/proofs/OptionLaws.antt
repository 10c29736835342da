-- What is known of an option's value.
use Rattle.std.proofs.Common.{◌≡◌, Option, Some, None, IfSome, IsSomeAnd, refl, sym, subst, ◌∙◌}
use Rattle.std.proofs.lemmas.Option.{none-some}
use Rattle.foundation.specs.Options.{◌>>=◌}

-- the value of which something holds
pub some-and : {X : Type 0} (P : X → Type 0) (o : Option X) → IsSomeAnd o P → (x : X) × (o ≡ Some x) × P x
some-and P None h = absurd h
some-and P (Some x) h = (x, refl, h)

-- something holds of the value, as it holds of this one
pub and-some : {X : Type 0} (P : X → Type 0) (o : Option X) (x : X) → o ≡ Some x → P x → IsSomeAnd o P
and-some P o x e h = subst (λ o. IsSomeAnd o P) (sym e) h

-- what holds of the value, where there is one, holds of this one
pub if-some : {X : Type 0} (P : X → Type 0) (o : Option X) (x : X) → o ≡ Some x → IfSome o P → P x
if-some P o x e h = subst (λ o. IfSome o P) e h

-- what holds of each value that there may be holds where there is one
pub if-each : {X : Type 0} (P : X → Type 0) (o : Option X) → ((x : X) → o ≡ Some x → P x) → IfSome o P
if-each P None h = tt
if-each P (Some x) h = h x refl

-- an option has no value, or a value, and not both
pub none-and-some : {A : Type 0} (o : Option A) (x : A) → o ≡ None → o ≡ Some x → ⊥
none-and-some o x none some = none-some x (sym none ∙ some)

-- an option is none, or has a value
pub option-cases : {X P : Type 0} (o : Option X) → (o ≡ None → P) → ((x : X) → o ≡ Some x → P) → P
option-cases None f g = f refl
option-cases (Some x) f g = g x refl

-- what holds of the value gives something else of it
pub and-weaker : {X : Type 0} (P Q : X → Type 0) (o : Option X) → ((x : X) → P x → Q x) → IsSomeAnd o P → IsSomeAnd o Q
and-weaker P Q None weaker h = h
and-weaker P Q (Some x) weaker h = weaker x h

-- what holds of the value holds of this one
pub and-at : {X : Type 0} (P : X → Type 0) (o : Option X) (x : X) → o ≡ Some x → IsSomeAnd o P → P x
and-at P o x e h = subst (λ o. IsSomeAnd o P) e h

-- nothing holds of the value where there is none
pub none-and : {X : Type 0} (P : X → Type 0) (o : Option X) → o ≡ None → IsSomeAnd o P → ⊥
none-and P o none h = rw none at h

-- options one after another that gave a value
pub bind-some : {X Y : Type 0} (o : Option X) (f : X → Option Y) (y : Y) → (o >>= f) ≡ Some y → (x : X) × (o ≡ Some x) × (f x ≡ Some y)
bind-some None f y h = absurd (cc)
bind-some (Some x) f y h = (x, refl, h)

-- options one after another of which the later ones give nothing
pub bind-none : {X Y : Type 0} (o : Option X) (f : X → Option Y) → ((x : X) → f x ≡ None) → (o >>= f) ≡ None
bind-none None f none = refl
bind-none (Some x) f none = none x
