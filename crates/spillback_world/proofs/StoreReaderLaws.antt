-- The storages of the rows so far.
use Rattle.std.proofs.Common.{◌≡◌, ◌≢◌, ℕ, zero, suc, ◌<◌, ◌≤◌, true, false, cond, eqb, List, [], ◌∷◌, ◌++◌, length, get_or, map, replicate, take, find, All, AllPairs, Contains, Option, Some, None, IsSome, IfSome, option_map, slice_set, refl, sym, ap, ◌∙◌, subst, inl, inr, arith}
use Rattle.std.specs.List.{list_any}
use Rattle.std.specs.Option.{option_or, unwrap_or}
use Rattle.std.proofs.lemmas.Bool.{cases_lt, cond_both, eqb-true, false≢true}
use Rattle.std.proofs.lemmas.Bool.Decides.{Decides-eqb, eqb_tells}
use Rattle.std.proofs.lemmas.List.{get_or-map, get_or-replicate, get_or-set_other, get_or-set_same, get_or_append_left, get_or_past, length-map, length-replicate, length-set, map-append, take_all}
use Rattle.std.proofs.lemmas.List.Elements.{All-head, All-nil, All-push, All-tail}
use Rattle.std.proofs.lemmas.List.Folds.{find-append}
use Rattle.std.proofs.lemmas.List.Quantifiers.{all_pairs_push}
use Rattle.std.proofs.lemmas.Map.Made.{IsDistinct-from_AllPairs}
use Rattle.std.proofs.lemmas.Map.Steps.{length-le_from_distinct_below}
use Rattle.std.proofs.lemmas.Option.{none-some}
use Rattle.std.proofs.Math.Seq.{get_or-append_seam}
use Rattle.road_net.proofs.Serving.{list_any-found}
use Rattle.net_parts.specs.Numbers.{Net}
use Rattle.spillback_world.specs.declared.store_reader.StoreRow.{StoreRow}
use Rattle.spillback_world.specs.StoreReaders.{AreStorages, AreStoragesOf, storage_at, storages_of}
use Rattle.spillback_world.specs.StoreRows.{IsRow, IsStorage, IsStoreOf, has_link, link_of, most_of_link, storage_in, storage_of}

eqb-same : (a b : ℕ) → a ≡ b → eqb a b ≡ true
eqb-same a b same = elim (eqb_tells a b) [ inl p ↦ p.0 | inr q ↦ absurd (q.1 same) ]

eqb-other : (a b : ℕ) → a ≢ b → eqb a b ≡ false
eqb-other a b other = elim (eqb_tells a b) [ inl p ↦ absurd (other p.1) | inr q ↦ q.0 ]

unmapped : {X Y : Type 0} (f : X → Y) (o : Option X) → option_map f o ≡ None → o ≡ None
unmapped f None none = refl
unmapped f (Some x) none = absurd (none-some (f x) (sym none))

or-none : {X : Type 0} (o : Option X) → option_or o None ≡ o
or-none None = refl
or-none (Some x) = refl

-- a link that has a storage is that of a row
pub has-row : (rows : List StoreRow) (l : ℕ) → IsSome (storage_in rows l) → Contains (map link_of rows) l
has-row [] l some = absurd (false≢true some)
has-row (r ∷ rows) l some =
    cond_both (eqb r.link l) (Some r) (find (has_link l) rows) (λ o. IsSome (option_map storage_of o) → Contains (map link_of (r ∷ rows)) l)
    (λ e _. (0, omega arith, eqb-true r.link l e))
    (λ e later. let (k, below, at) = has-row rows l later in (suc k, omega (arith, below), at))
    some

-- a link that has none is that of no row
pub has-none : (rows : List StoreRow) (l : ℕ) → storage_in rows l ≡ None → (k d : ℕ) → k < length (map link_of rows) → get_or (map link_of rows) k d ≢ l
has-none [] l none k d h = absurd (omega (arith, h))
has-none (r ∷ rows) l none zero d h =
    cond_both (eqb r.link l) (Some r) (find (has_link l) rows) (λ o. option_map storage_of o ≡ None → r.link ≢ l)
    (λ e found. absurd (none-some r.storage (sym found)))
    (λ e found same. false≢true (sym e ∙ eqb-same r.link l same))
    none
has-none (r ∷ rows) l none (suc k) d h =
    cond_both (eqb r.link l) (Some r) (find (has_link l) rows) (λ o. option_map storage_of o ≡ None → get_or (map link_of rows) k d ≢ l)
    (λ e found. absurd (none-some r.storage (sym found)))
    (λ e found. has-none rows l found k d (omega (arith, h)))
    none

-- what one row more says of its link, and of others
storage-here : (rows : List StoreRow) (r : StoreRow) → storage_in rows r.link ≡ None → storage_in (rows ++ r ∷ []) r.link ≡ Some r.storage
storage-here rows r none =
    let found : option_or (find (has_link r.link) rows) (cond (eqb r.link r.link) (Some r) None) ≡ Some r = rw (unmapped storage_of (find (has_link r.link) rows) none, eqb-same r.link r.link refl) refl in
    ap (option_map storage_of) (find-append (has_link r.link) rows (r ∷ []) ∙ found)

storage-else : (rows : List StoreRow) (r : StoreRow) (l : ℕ) → r.link ≢ l → storage_in (rows ++ r ∷ []) l ≡ storage_in rows l
storage-else rows r l other =
    let found : option_or (find (has_link l) rows) (cond (eqb r.link l) (Some r) None) ≡ find (has_link l) rows = rw (eqb-other r.link l other) (or-none (find (has_link l) rows)) in
    ap (option_map storage_of) (find-append (has_link l) rows (r ∷ []) ∙ found)

-- no rows
pub storages-none : (net : Net) (storages : List (Option ℕ)) → storages ≡ replicate (length net.link_names) None → AreStoragesOf net [] storages
storages-none net storages is = rw is (record {
  lawful = record { each = All-nil (IsRow net); once = λ i j d before inside. absurd (omega (arith, inside)) };
  links = length-replicate {A = Option ℕ} (length net.link_names) None;
  are = λ l. elim (cases_lt l (length net.link_names)) [
    | inl h ↦ get_or-replicate (length net.link_names) l None None h
    | inr h ↦ get_or_past (replicate (length net.link_names) None) l None (omega (arith, h, length-replicate {A = Option ℕ} (length net.link_names) None))
  ];
})

-- one row more
pub storages-more : (net : Net) (rows : List StoreRow) (old new : List (Option ℕ)) (r : StoreRow) → AreStoragesOf net rows old → r.link < length net.link_names → IsStorage r.storage → storage_at old r.link ≡ None → new ≡ slice_set old r.link (Some r.storage)
    → AreStoragesOf net (rows ++ r ∷ []) new
storages-more net rows old new r of_rows exists storage none is =
    let free : storage_in rows r.link ≡ None = sym (of_rows.are r.link) ∙ none in
    rw is (record {
      lawful = record {
        each = All-push (IsRow net) rows r of_rows.lawful.each (record { exists = exists; bounds = storage });
        once = subst (AllPairs (λ k l. k ≢ l)) (sym (map-append link_of rows (r ∷ []))) (all_pairs_push (λ k l. k ≢ l) (map link_of rows) r.link of_rows.lawful.once (has-none rows r.link free));
      };
      links = length-set old r.link (Some r.storage) ∙ of_rows.links;
      are = λ l. elim (eqb_tells r.link l) [
        | inl p ↦ subst (λ k. storage_at (slice_set old r.link (Some r.storage)) k ≡ storage_in (rows ++ r ∷ []) k) p.1
            (get_or-set_same old r.link (Some r.storage) None (omega (arith, exists, of_rows.links)) ∙ sym (storage-here rows r free))
        | inr q ↦ get_or-set_other old r.link l (Some r.storage) None (λ e. q.1 (sym e)) ∙ of_rows.are l ∙ sym (storage-else rows r l q.1)
      ];
    })

-- the rows are no more than the links
pub storages-count : (net : Net) (rows : List StoreRow) (storages : List (Option ℕ)) → AreStoragesOf net rows storages → length rows ≤ length net.link_names
storages-count net rows storages of_rows =
    let count : length (map link_of rows) ≡ length rows = length-map rows link_of in
    let most = length-le_from_distinct_below (map link_of rows) (length net.link_names) (IsDistinct-from_AllPairs Decides-eqb (map link_of rows) of_rows.lawful.once) (λ q any. below q any) in
    omega (arith, most, count)
  where
    below : (q : ℕ) → list_any (eqb q) (map link_of rows) ≡ true → q < length net.link_names
    below q any =
        let (i, inside, at) = list_any-found (eqb q) (map link_of rows) any in
        let d : StoreRow = record { link = 0; storage = 0 } in
        let count : length (map link_of rows) ≡ length rows = length-map rows link_of in
        let short : i < length rows = omega (arith, inside, count) in
        omega (arith, eqb-true q _ at, get_or-map link_of rows i d 0 short, (of_rows.lawful.each i d short).exists)

-- each storage is that of a row
storage-some : (net : Net) (rows : List StoreRow) (l : ℕ) → All (IsRow net) rows → IfSome (storage_in rows l) IsStorage
storage-some net [] l each = tt
storage-some net (r ∷ rows) l each =
    cond_both (eqb r.link l) (Some r) (find (has_link l) rows) (λ o. IfSome (option_map storage_of o) IsStorage)
    (λ e. (All-head (IsRow net) r rows each).bounds)
    (λ e. storage-some net rows l (All-tail (IsRow net) r rows each))

pub storages-within : (net : Net) (rows : List StoreRow) (storages : List (Option ℕ)) → AreStoragesOf net rows storages → AreStorages storages
storages-within net rows storages of_rows = λ k d h.
    subst (λ o. IfSome o IsStorage) (sym (of_rows.are k) ∙ same storages k d None h) (storage-some net rows k of_rows.lawful.each)
  where
    same : (xs : List (Option ℕ)) (k : ℕ) (d e : Option ℕ) → k < length xs → get_or xs k e ≡ get_or xs k d
    same [] k d e h = absurd (omega (arith, h))
    same (x ∷ xs) zero d e h = refl
    same (x ∷ xs) (suc k) d e h = same xs k d e (omega (arith, h))

-- the store of the rows
pub storages-store : (net : Net) (rows : List StoreRow) (storages : List (Option ℕ)) → AreStoragesOf net rows storages → IsStoreOf net rows (storages_of storages)
storages-store net rows storages of_rows = record {
  lawful = of_rows.lawful;
  links = (let count : length (storages_of storages) ≡ length storages = length-map storages (λ o. unwrap_or o most_of_link) in count ∙ of_rows.links);
  storages = λ l h. get_or-map (λ o. unwrap_or o most_of_link) storages l None 0 (omega (arith, h, of_rows.links)) ∙ ap (λ o. unwrap_or o most_of_link) (of_rows.are l);
}

-- a row whose link an earlier one has
pub not-twice : (xs ys : List ℕ) (y : ℕ) → AllPairs (λ k l. k ≢ l) (xs ++ y ∷ ys) → Contains xs y → ⊥
not-twice xs ys y once (k, below, at) =
    once k (length xs) y below (longer xs) (get_or_append_left xs (y ∷ ys) y k below ∙ at ∙ sym (get_or-append_seam xs y ys y))
  where
    longer : (zs : List ℕ) → length zs < length (zs ++ y ∷ ys)
    longer [] = omega arith
    longer (z ∷ zs) = omega (arith, longer zs)

-- what is in place of no storage is one too
each-storage : (o : Option ℕ) → IfSome o IsStorage → IsStorage (unwrap_or o most_of_link)
each-storage None none = record { least = omega arith; most = omega arith }
each-storage (Some storage) is = is

-- the storages that were listed by the end of the loop
pub listed-storages : (xs : List (Option ℕ)) (ys : List ℕ) (i : ℕ) → length xs ≤ i → ys ≡ storages_of (take i xs) → AreStorages xs → All IsStorage ys
listed-storages xs ys i past is are = rw (is ∙ ap storages_of (take_all i xs past)) (λ k d h.
    let count : length (storages_of xs) ≡ length xs = length-map xs (λ o. unwrap_or o most_of_link) in
    let inside : k < length xs = omega (arith, h, count) in
    rw (get_or-map (λ o. unwrap_or o most_of_link) xs k None d inside) (each-storage (get_or xs k None) (are k None inside)))
