-- How a loop over the rows of a line comes to those that a report tells.
use Rattle.std.proofs.Common.{◌≡◌, ℕ, ◌+◌, ◌<◌, ◌≤◌, Bool, List, [], ◌∷◌, ◌++◌, length, get_or, take, drop, map, All, Vec, refl, sym, ap, subst, ◌∙◌, append_assoc, append-nil}
use Rattle.std.proofs.lemmas.Bool.{cond_below, cond_above}
use Rattle.std.proofs.lemmas.List.{drop_all, drop_more, take_more}
use Rattle.std.proofs.lemmas.List.Elements.{All-nil, All-push}
use Rattle.csv.specs.declared.writer.Writer.{Writer}
use Rattle.control_flow.specs.declared.greens.Green.{Green}
use Rattle.net_parts.specs.Numbers.{Net}
use Rattle.road_net.specs.Through.{is_through}
use Rattle.world_records.specs.Records.{green_record}
use Rattle.world_records.specs.Told.{IsToldGreen, told_after, told_by, told_rows}
use Rattle.world_records.specs.Written.{Adds}
use Rattle.world_records.proofs.WrittenLaws.{adds-more, adds-none}

-- the rows from one on: it is told, and those after it; or none is
module _ (through : Bool) (end last : ℕ) (rows : List Green) (i : ℕ) (row : Green) (inside : i < length rows) (at : row ≡ get_or rows i row) where
  from-row : told_after through end last (drop i rows) ≡ told_after through end last (row ∷ drop (i + 1) rows)
  from-row = ap (told_after through end last) (drop_more rows i row inside ∙ ap (λ (r : Green). r ∷ drop (i + 1) rows) (sym at))

  row-told : told_by through last row < end → told_after through end last (drop i rows) ≡ row ∷ told_after through end row.to (drop (i + 1) rows)
  row-told before = from-row ∙ sym (cond_below (told_by through last row) end (row ∷ told_after through end row.to (drop (i + 1) rows)) [] before)

  none-told : end ≤ told_by through last row → told_after through end last (drop i rows) ≡ []
  none-told after = from-row ∙ sym (cond_above (told_by through last row) end (row ∷ told_after through end row.to (drop (i + 1) rows)) [] [] after refl)

-- The first rows of a line are told, a writer has their records, and what follows them is told after one that ends at `last`.
pub record IsToldTo {Z : Type 0} (net : Net) (node end : ℕ) (rows : List Green) (i last : ℕ) (old new : Writer (Vec ℕ Z)) : Type 0 where
  pub adds : Adds old new (map (green_record net node) (take i rows))
  pub fits : All IsToldGreen (take i rows)
  pub rest : told_rows (is_through net node) end rows ≡ take i rows ++ told_after (is_through net node) end last (drop i rows)

module _ {Z : Type 0} (net : Net) (node end : ℕ) (rows : List Green) where
  -- none yet
  pub told-none : (last : ℕ) (out : Writer (Vec ℕ Z)) → told_rows (is_through net node) end rows ≡ told_after (is_through net node) end last rows → IsToldTo net node end rows 0 last out out
  told-none last out is = record { adds = adds-none out; fits = All-nil IsToldGreen; rest = is }

  -- one more
  pub told-more : (i last : ℕ) (row : Green) (a b c : Writer (Vec ℕ Z)) → i < length rows → row ≡ get_or rows i row → told_by (is_through net node) last row < end → IsToldTo net node end rows i last a b
      → Adds b c (green_record net node row ∷ []) → IsToldGreen row → IsToldTo net node end rows (i + 1) row.to a c
  told-more i last row a b c inside at before so_far one fits =
      let more : take (i + 1) rows ≡ take i rows ++ row ∷ [] = take_more rows i row inside ∙ ap (λ (r : Green). take i rows ++ r ∷ []) (sym at) in
      let after : List Green = told_after (is_through net node) end row.to (drop (i + 1) rows) in
      record {
        adds = adds-more (green_record net node) rows i row a b c inside at so_far.adds one;
        fits = subst (All IsToldGreen) (sym more) (All-push IsToldGreen (take i rows) row so_far.fits fits);
        rest = so_far.rest ∙ ap (λ l. take i rows ++ l) (row-told (is_through net node) end last rows i row inside at before)
            ∙ sym (append_assoc (take i rows) (row ∷ []) after) ∙ ap (λ l. l ++ after) (sym more);
      }

  -- all that are told: where the next row is not, or where there is none
  module _ (i last : ℕ) (a b : Writer (Vec ℕ Z)) (so_far : IsToldTo net node end rows i last a b) where
    told-first : told_after (is_through net node) end last (drop i rows) ≡ [] → told_rows (is_through net node) end rows ≡ take i rows
    told-first none = so_far.rest ∙ ap (λ l. take i rows ++ l) none ∙ append-nil (take i rows)

    pub told-adds : told_after (is_through net node) end last (drop i rows) ≡ [] → Adds a b (map (green_record net node) (told_rows (is_through net node) end rows))
    told-adds none = subst (λ l. Adds a b (map (green_record net node) l)) (sym (told-first none)) so_far.adds

    pub told-fits : told_after (is_through net node) end last (drop i rows) ≡ [] → All IsToldGreen (told_rows (is_through net node) end rows)
    told-fits none = subst (All IsToldGreen) (sym (told-first none)) so_far.fits

module _ (net : Net) (node end : ℕ) (rows : List Green) where
  pub late-row : (i last : ℕ) (row : Green) → i < length rows → row ≡ get_or rows i row → end ≤ told_by (is_through net node) last row → told_after (is_through net node) end last (drop i rows) ≡ []
  late-row i last row inside at after = none-told (is_through net node) end last rows i row inside at after

  pub no-row : (i last : ℕ) → length rows ≤ i → told_after (is_through net node) end last (drop i rows) ≡ []
  no-row i last past = ap (told_after (is_through net node) end last) (drop_all i rows past)
