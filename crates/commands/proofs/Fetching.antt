-- What a fetch says of the text of a file.
use Rattle.std.proofs.Common.{◌≡◌, ℕ, ◌+◌, ◌<◌, ◌≤◌, List, length, Some, None, IfSome, IsSome, inl, refl, sym, subst, codes, arith}
use Rattle.outside_world.specs.Shelf.{Files, ShelfState, front_of}
use Rattle.outside_world.proofs.ShelfLemmas.{whole_file, long_file}
use Rattle.commands.specs.Limits.{most_bytes}
use Rattle.commands.specs.Kinds.{Kind}
use Rattle.commands.specs.Stops.{IsLong, StopsAt}
use Rattle.commands.specs.Texts.{IsBad, IsIn, IsReadAs, HasCode, Reads, text_of}
use Rattle.commands.specs.declared.refusals.TextPlace.{TextPlace}
use Rattle.commands.specs.declared.refusals.Refusal.{Refusal}
use Rattle.commands.specs.declared.refusals.Refusal.TheVariants as refusal

-- what was fetched within the limit is the whole text
pub fetched-whole : (files : Files) (name bytes : List ℕ) → IfSome files (λ known. front_of known name (most_bytes + 1) ≡ Some bytes) → length bytes ≤ most_bytes → IsSome files → text_of files name ≡ Some bytes
fetched-whole None name bytes e short told = absurd (cc)
fetched-whole (Some known) name bytes e short told = whole_file known name (most_bytes + 1) bytes e (omega arith)

-- a text past the limit is not read
past-limit : (kind : Kind) (text : List ℕ) → most_bytes < length text → (said : kind.Said) → ¬ Reads kind text said
past-limit kind text long said reads = omega (arith, long, reads.0)

-- what was fetched past the limit is the front of a text past the limit
pub fetched-long : (files : Files) (kind : Kind) (name bytes : List ℕ) → IfSome files (λ known. front_of known name (most_bytes + 1) ≡ Some bytes) → most_bytes < length bytes → IsBad files (codes "long") kind name
fetched-long None kind name bytes e long = record { text = bytes; told = λ told. absurd (cc); unread = past-limit kind bytes long; fault = inl (refl, long) }
fetched-long (Some known) kind name bytes e long =
    let (content, same, past) = long_file known name (most_bytes + 1) bytes e (omega arith) in
    let over : most_bytes < length content = omega (arith, past) in
    record { text = content; told = λ told. same; unread = past-limit kind content over; fault = inl (refl, over) }

-- a text that was fetched within the limit and is read as this
pub fetched-read : (files : Files) (kind : Kind) (name bytes text : List ℕ) (said : kind.Said) → IfSome files (λ known. front_of known name (most_bytes + 1) ≡ Some bytes) → text ≡ bytes → IsReadAs kind text said → IsIn files name kind said
fetched-read files kind name bytes text said e same is =
    let is_read : IsReadAs kind bytes said = subst (λ (t : List ℕ). IsReadAs kind t said) same is in
    record { text = bytes; told = fetched-whole files name bytes e is_read.reads.0; reads = is_read.reads; only = is_read.only }

-- one that is read as nothing of its kind is refused for its fault
pub fetched-bad : (files : Files) (kind : Kind) (name bytes text code : List ℕ) → IfSome files (λ known. front_of known name (most_bytes + 1) ≡ Some bytes) → length bytes ≤ most_bytes → text ≡ bytes
    → ((said : kind.Said) → ¬ Reads kind text said) × HasCode kind text code → IsBad files code kind name
fetched-bad files kind name bytes text code e short same flaws =
    let is = subst (λ (t : List ℕ). ((said : kind.Said) → ¬ Reads kind t said) × HasCode kind t code) same flaws in
    record { text = bytes; told = fetched-whole files name bytes e short; unread = is.0; fault = is.1 }

-- a text past the limit is refused for that, or there is no memory to say so
pub long-stops : (old new : ShelfState) (place : TextPlace) (kind : Kind) (name : List ℕ) (why : Refusal) → new ≡ old → IsBad old.files (codes "long") kind name → IsLong place why → StopsAt why place kind name old new
long-stops old new place kind name (refusal.Bad text code) unmoved bad (at, is) = (at, unmoved, subst (λ (c : List ℕ). IsBad old.files c kind name) (sym is) bad)
long-stops old new place kind name refusal.NoMemory unmoved bad is = unmoved
long-stops old new place kind name _ unmoved bad is = absurd is
