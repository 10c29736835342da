-- Lines of a state, gathered one after another; names between commas; and what is decided of them.
use Rattle.std.proofs.Common.{◌≡◌, ◌≢◌, ℕ, ◌+◌, ◌-◌, ◌<◌, ◌≤◌, true, false, nat_eq, List, [], ◌∷◌, ◌++◌, Option, Some, None, Result, Ok, Err, length, take, drop, refl, sym, ap, ◌∙◌, subst, arith, append-nil, append_assoc, length-append, inr}
use Rattle.std.specs.Prelude.{All, Bool, IfErr, codes, if◌then◌else◌, is_some}
use Rattle.std.specs.Str.{bytes_eq}
use Rattle.std.specs.List.{AllZip, concat}
use Rattle.std.proofs.lemmas.Bool.{ne_eqb}
use Rattle.std.proofs.lemmas.List.{drop_more, length-drop, length-take, take-append-drop, take_all}
use Rattle.std.proofs.lemmas.List.Elements.{All-cons, All-nil}
use Rattle.std.proofs.lemmas.List.Folds.{concat-append}
use Rattle.std.proofs.lemmas.List.Splits.{slice_split_at, slice_split_none}
use Rattle.std.proofs.lemmas.Slice.Zip.{all_zipped_more}
use Rattle.outside_world.specs.declared.source.LineRead.{LineRead}
use Rattle.outside_world.specs.declared.source.LineRead.TheVariants as read
use Rattle.net_parts.specs.Numbers.{Net, number_of}
use Rattle.round_states.specs.declared.asked.Asked.TheVariants.{OneNode}
use Rattle.commands.specs.Kinds.{Kind}
use Rattle.round_jobs.specs.Kinds.{AskedText, StateText}
use Rattle.commands.specs.Limits.{most_bytes}
use Rattle.commands.specs.declared.refusals.Named.TheVariants.{Factor, Node, Round}
use Rattle.commands.specs.declared.refusals.Refusal.{Refusal}
use Rattle.commands.specs.declared.refusals.Refusal.TheVariants as refusal
use Rattle.commands.specs.declared.refusals.TextPlace.TheVariants.{First, Second, Third}
use Rattle.round_jobs.specs.Gathering.{HasDecided, HasLine, IsFirstComma, IsOf, IsTextOf, IsTooMuch, OrNoMemory, request_of}
use Rattle.round_jobs.specs.Requests.{Asks, OfNames, OfNext, asked_by, by_names, names_after_end, names_in}
use Rattle.round_jobs.specs.declared.requests.Lost.{Lost}
use Rattle.round_jobs.specs.declared.requests.Lost.TheVariants as lost
use Rattle.round_jobs.specs.Serving.{IsDecidedFor, IsFirstRefused, IsNodeDecided, IsNodeRefused, IsRefused, IsRefusedFor, IsUnread, IsWhy, NextText, Records}

-- one line more
pub more-lines : (lines : List (List ℕ)) (whole : List ℕ) → 0 < length (lines ++ whole ∷ [])
more-lines lines whole = omega (arith, length-append lines (whole ∷ []))

concat-more : (lines : List (List ℕ)) (whole : List ℕ) → concat (lines ++ whole ∷ []) ≡ concat lines ++ whole
concat-more lines whole = concat-append lines (whole ∷ []) ∙ ap (λ (l : List ℕ). concat lines ++ l) (append-nil whole)

longer : (lines : List (List ℕ)) (whole : List ℕ) → length (concat (lines ++ whole ∷ [])) ≡ length (concat lines) + length whole
longer lines whole = ap length (concat-more lines whole) ∙ length-append (concat lines) whole

-- what is kept of a line is no longer than it is
no-longer : (whole : List ℕ) (r : LineRead) (kept : List ℕ) → IsOf whole r kept → length kept ≤ length whole
no-longer whole read.End kept is = absurd is
no-longer whole read.Whole kept is = omega (arith, ap length is)
no-longer whole read.Part kept is = omega (arith, ap length is.front, length-take (length kept) whole)

module _ (lines : List (List ℕ)) (whole text : List ℕ) where
  -- lines that are lost stay lost
  pub text-lost : (lost : Option Lost) → is_some lost ≡ true → IsTextOf lines lost text → IsTextOf (lines ++ whole ∷ []) lost text
  text-lost None some is = absurd (cc)
  text-lost (Some lost.NoMemory) some is = tt
  text-lost (Some lost.Long) some is = omega (arith, is, longer lines whole)

  -- a line was appended
  pub text-more : (lost : Option Lost) (r : LineRead) (kept new : List ℕ) → is_some lost ≡ false → IsTextOf lines lost text → IsOf whole r kept → r ≢ read.Part → new ≡ text ++ kept → IsTextOf (lines ++ whole ∷ []) lost new
  text-more (Some why) r kept new none is of other e = absurd (cc)
  text-more None read.End kept new none is of other e = absurd of
  text-more None read.Part kept new none is of other e = absurd (other refl)
  text-more None read.Whole kept new none is of other e = e ∙ ap (λ (l : List ℕ). l ++ kept) is ∙ ap (λ (l : List ℕ). concat lines ++ l) of ∙ sym (concat-more lines whole)

  -- or could not be
  pub text-ends : (lost : Option Lost) (r : LineRead) (kept new : List ℕ) (why : Lost) → is_some lost ≡ false → IsTextOf lines lost text → IsOf whole r kept → IsTooMuch text kept why → IsTextOf (lines ++ whole ∷ []) (Some why) new
  text-ends (Some other) r kept new why none is of too = absurd (cc)
  text-ends None r kept new lost.NoMemory none is of too = tt
  text-ends None r kept new lost.Long none is of too = omega (arith, too, longer lines whole, ap length is, no-longer whole r kept of)

-- names between commas
no-commas : (bytes : List ℕ) → All (λ byte. byte ≢ 44) bytes → All (λ byte. nat_eq byte 44 ≡ false) bytes
no-commas bytes all = λ k d below. ne_eqb _ 44 (all k d below)

pub only-name : (names : List ℕ) → All (λ byte. byte ≢ 44) names → names_in names ≡ names ∷ []
only-name names all = slice_split_none (λ byte. nat_eq byte 44) names (no-commas names all)

pub first-name : (names : List ℕ) (place : ℕ) → IsFirstComma names place → names_in names ≡ take place names ∷ names_in (drop (place + 1) names)
first-name names place is =
    let rest : drop place names ≡ 44 ∷ drop (place + 1) names = drop_more names place 0 is.within ∙ ap (λ (b : ℕ). b ∷ drop (place + 1) names) is.here in
    let whole : take place names ++ 44 ∷ drop (place + 1) names ≡ names = ap (λ (l : List ℕ). take place names ++ l) (sym rest) ∙ take-append-drop place names in
    ap names_in (sym whole) ∙ slice_split_at (λ byte. nat_eq byte 44) (take place names) 44 (drop (place + 1) names) (no-commas (take place names) is.before) refl

-- the others, read as a slice
pub other-names : (names : List ℕ) (place : ℕ) → IsFirstComma names place → names_in names ≡ take place names ∷ names_in (take (length names - (place + 1)) (drop (place + 1) names))
other-names names place is = first-name names place is ∙ ap (λ (l : List ℕ). take place names ∷ names_in l) (sym (take_all (length names - (place + 1)) (drop (place + 1) names) (omega (arith, length-drop (place + 1) names))))

-- what is decided of one node more
module _ (net : Net) (text : List ℕ) (names : List (List ℕ)) where
  pub decided-more : (name : List ℕ) (left : List (List ℕ)) (part all new : List ℕ) → HasDecided net text names (name ∷ left) all → IsNodeDecided net text name part → new ≡ all ++ part → HasDecided net text names left new
  decided-more name left part all new has is e = record {
    before = has.before ++ name ∷ [];
    parts = has.parts ++ part ∷ [];
    are = has.are ∙ sym (append_assoc has.before (name ∷ []) left);
    each = all_zipped_more (IsNodeDecided net text) has.before has.parts name part has.each is;
    whole = e ∙ ap (λ (l : List ℕ). l ++ part) has.whole ∙ sym (concat-more has.parts part);
  }

  pub decided-all : (told : Records) (all : List ℕ) → HasDecided net text names [] all → IsDecidedFor net told text (OfNames names) all
  decided-all told all has = (has.parts, subst (λ (l : List (List ℕ)). AllZip (IsNodeDecided net text) l has.parts) (sym (has.are ∙ append-nil has.before)) has.each, has.whole)

  each-decided : (before parts : List (List ℕ)) → AllZip (IsNodeDecided net text) before parts → All (λ other. (bytes : List ℕ) × IsNodeDecided net text other bytes) before
  each-decided [] [] all = All-nil _
  each-decided [] (p ∷ parts) all = absurd all
  each-decided (n ∷ before) [] all = absurd all
  each-decided (n ∷ before) (p ∷ parts) all =
      let here : (bytes : List ℕ) × IsNodeDecided net text n bytes = (p, all.0) in
      All-cons (λ other. (bytes : List ℕ) × IsNodeDecided net text other bytes) n before here (each-decided before parts all.1)

  pub first-refused : (name : List ℕ) (left : List (List ℕ)) (all : List ℕ) (why : Refusal) → HasDecided net text names (name ∷ left) all → OrNoMemory (IsNodeRefused net text name) why → OrNoMemory (IsFirstRefused net text names) why
  first-refused name left all refusal.NoMemory has is = tt
  first-refused name left all (refusal.Bad Second why) has is = record { before = has.before; name = name; after = left; are = has.are; decided = each-decided has.before has.parts has.each; refused = is }
  first-refused name left all (refusal.Missing what) has is = record { before = has.before; name = name; after = left; are = has.are; decided = each-decided has.before has.parts has.each; refused = is }
  first-refused name left all _ has is = absurd is

-- why a text is refused of a node, and its text is why that is so
pub node-refused : (net : Net) (text name : List ℕ) (number : Option ℕ) (why : Refusal) → number ≡ number_of net.node_names name → OrNoMemory (IsRefused (AskedText net (OneNode number)) text) why → OrNoMemory (IsNodeRefused net text name) why
node-refused net text name number refusal.NoMemory e is = tt
node-refused net text name number (refusal.Bad Second code) e is = subst (λ (n : Option ℕ). IsUnread (AskedText net (OneNode n)) text code.items) e is
node-refused net text name number _ e is = absurd is

-- what holds of why a result is an `Err`, where something else does
pub if-err : {T : Type 0} (result : Result T Refusal) (P Q : Refusal → Type 0) → ((why : Refusal) → P why → Q why) → IfErr result P → IfErr result Q
if-err (Ok value) P Q more is = tt
if-err (Err why) P Q more is = more why is

-- why a text is refused has a line
line-of : (kind : Kind) (text : List ℕ) (why : Refusal) → OrNoMemory (IsRefused kind text) why → HasLine why
line-of kind text refusal.NoMemory is = tt
line-of kind text (refusal.Bad Second why) is = tt
line-of kind text _ is = absurd is

pub line-all : (net : Net) (text : List ℕ) (why : Refusal) → OrNoMemory (IsRefused (StateText net) text) why → HasLine why
line-all net text = line-of (StateText net) text

pub line-next : (net : Net) (told : Records) (text : List ℕ) (why : Refusal) → OrNoMemory (IsRefused (NextText net told) text) why → HasLine why
line-next net told text = line-of (NextText net told) text

line-node : (net : Net) (text name : List ℕ) (why : Refusal) → IsNodeRefused net text name why → HasLine why
line-node net text name (refusal.Bad Second why) is = tt
line-node net text name (refusal.Missing Node) is = tt
line-node net text name refusal.NoMemory is = tt
line-node net text name _ is = absurd is

pub line-names : (net : Net) (text : List ℕ) (names : List (List ℕ)) (why : Refusal) → OrNoMemory (IsFirstRefused net text names) why → HasLine why
line-names net text names refusal.NoMemory is = tt
line-names net text names refusal.Usage is = absurd is.refused
line-names net text names refusal.Unwritten is = absurd is.refused
line-names net text names (refusal.Unread place) is = absurd is.refused
line-names net text names (refusal.Bad First why) is = absurd is.refused
line-names net text names (refusal.Bad Second why) is = tt
line-names net text names (refusal.Bad Third why) is = absurd is.refused
line-names net text names (refusal.Missing Node) is = tt
line-names net text names (refusal.Missing Round) is = absurd is.refused
line-names net text names (refusal.Missing Factor) is = absurd is.refused

-- whom the line that ends a request asks
pub asks-next : (last : List ℕ) → bytes_eq (take 4 last) (codes "next") ≡ true → OfNext ≡ asked_by last
asks-next last e = ap (λ (b : Bool). if b then OfNext else by_names (names_after_end last)) (sym e)

pub asks-names : (last : List ℕ) (names : Option (List ℕ)) → bytes_eq (take 4 last) (codes "next") ≡ false → names ≡ names_after_end last → by_names names ≡ asked_by last
asks-names last names e f = ap by_names f ∙ ap (λ (b : Bool). if b then OfNext else by_names (names_after_end last)) (sym e)

-- and is why a request with this text is
pub why-of : (net : Net) (told : Records) (text last : List ℕ) (lines : List (List ℕ)) (asks : Asks) (why : Refusal) → text ≡ concat lines → asks ≡ asked_by last → length text ≤ most_bytes
    → OrNoMemory (IsRefusedFor net told text asks) why → IsWhy net told (request_of lines last) why
why-of net told text last lines asks refusal.NoMemory e f within is = tt
why-of net told text last lines asks (refusal.Bad Second code) e f within is =
    inr (subst (λ (t : List ℕ). IsRefusedFor net told t (asked_by last) (refusal.Bad Second code)) e (subst (λ (a : Asks). IsRefusedFor net told text a (refusal.Bad Second code)) f is))
why-of net told text last lines asks why e f within is =
    subst (λ (t : List ℕ). OrNoMemory (IsRefusedFor net told t (asked_by last)) why) e (subst (λ (a : Asks). OrNoMemory (IsRefusedFor net told text a) why) f is)
