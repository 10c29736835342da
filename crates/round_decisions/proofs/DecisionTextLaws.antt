-- The parts of a text, one after another.
use Rattle.std.proofs.Common.{◌≡◌, ℕ, ◌+◌, ◌<◌, ◌≤◌, List, [], ◌∷◌, ◌++◌, Option, Result, Ok, Err, OnOk, Vec, length, get_or, take, sym, ap, subst, ◌∙◌, append-nil}
use Rattle.std.specs.List.{flat_map}
use Rattle.std.proofs.lemmas.Grind.{flat_map-append}
use Rattle.std.proofs.lemmas.List.{take_all, take_more}
use Rattle.csv.specs.declared.writer.Writer.{Writer}
use Rattle.net_parts.specs.Numbers.{Net}
use Rattle.round_states.specs.StateRecords.{header}
use Rattle.round_states.specs.declared.states.LinkBoard.{LinkBoard}
use Rattle.world_records.specs.Records.{records_text}
use Rattle.world_records.specs.Written.{Adds, HasWritten}
use Rattle.world_records.proofs.WrittenLaws.{adds-then}
use Rattle.round_decisions.specs.DecisionTexts.{boards_records}

-- a loop over a list that writes records for each element: one element more, and all
module _ {X Z : Type 0} (f : X → List (List (List ℕ))) (xs : List X) where
  pub adds-each : (i : ℕ) (x : X) (a b c : Writer (Vec ℕ Z)) → i < length xs → x ≡ get_or xs i x → Adds a b (flat_map f (take i xs)) → Adds b c (f x) → Adds a c (flat_map f (take (i + 1) xs))
  adds-each i x a b c inside at so_far part =
      subst (Adds a c)
      (ap (λ l. flat_map f (take i xs) ++ l) (sym (append-nil (f x)) ∙ ap (λ y. f y ++ []) at) ∙ sym (ap (flat_map f) (take_more xs i x inside) ∙ flat_map-append f (take i xs) (get_or xs i x ∷ [])))
      (adds-then a b c (flat_map f (take i xs)) (f x) so_far part)

  pub adds-every : (i : ℕ) (a b : Writer (Vec ℕ Z)) → length xs ≤ i → Adds a b (flat_map f (take i xs)) → Adds a b (flat_map f xs)
  adds-every i a b end so_far = subst (λ l. Adds a b (flat_map f l)) (take_all i xs end) so_far

-- a last call that writes records after others
pub adds-last : {E Z : Type 0} (r : Result (Unit {0}) E) (a b c : Writer (Vec ℕ Z)) (xs ys : List (List (List ℕ))) → Adds a b xs → OnOk r (Adds b c ys) → OnOk r (Adds a c (xs ++ ys))
adds-last (Ok done) a b c xs ys first last = adds-then a b c xs ys first last
adds-last (Err e) a b c xs ys first last = tt

-- the header, the turns and the boards are the whole
pub adds-parts : {E Z : Type 0} (r : Result (Unit {0}) E) (net : Net) (node : Option ℕ) (turns : List (List (List ℕ))) (lent boards : List LinkBoard) (o0 o1 o2 o3 : Writer (Vec ℕ Z)) → lent ≡ boards → Adds o0 o1 (header ∷ []) → Adds o1 o2 turns
    → OnOk r (Adds o2 o3 (boards_records net node lent)) → OnOk r (Adds o0 o3 (header ∷ turns ++ boards_records net node boards))
adds-parts (Ok done) net node turns lent boards o0 o1 o2 o3 same first second third =
    let b = subst (λ l. Adds o2 o3 (boards_records net node l)) same third in
    adds-then o0 o1 o3 _ _ first (adds-then o1 o2 o3 _ _ second b)
adds-parts (Err e) net node turns lent boards o0 o1 o2 o3 same first second third = tt

-- a writer that begins with no text has written the records that it adds
pub text-written : {Z : Type 0} (text : List ℕ) (o0 o1 : Writer (Vec ℕ Z)) (records : List (List (List ℕ))) → text ≡ [] → HasWritten o0 text → Adds o0 o1 records → HasWritten o1 (records_text records)
text-written text o0 o1 records none start part = part.adds [] (subst (HasWritten o0) none start)
