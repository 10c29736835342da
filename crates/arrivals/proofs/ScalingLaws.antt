-- Rows that bring scaled arrivals.
use Rattle.std.proofs.Common.{◌≡◌, ℕ, suc, ◌+◌, ◌*◌, ◌/◌, ◌<◌, ◌≤◌, ◌&&◌, ◌==◌, eqb, eq-eqb, cond, List, [], ◌∷◌, ◌++◌, All, filter, length, get_or, replicate, take, sum_by, refl, sym, ap, subst, ◌∙◌, inl, inr, arith}
use Rattle.std.proofs.lemmas.Bool.{and_parts, cases_Bool, cases_lt, eqb-true}
use Rattle.std.proofs.lemmas.Bool.Decides.{eqb_tells}
use Rattle.std.proofs.lemmas.List.{get_or-take, get_or_default, get_or-replicate, get_or-set_same, get_or-set_other, length-replicate, length-set, length-take, take_more}
use Rattle.std.proofs.lemmas.List.Elements.{All-nil, All-head, All-tail, filter-append}
use Rattle.std.proofs.lemmas.List.Sums.{sum_by-append, sum_by-cons, sum_by_more_le}
use Rattle.std.proofs.Math.ListN.{set}
use Rattle.std.proofs.lemmas.Nat.{mul-le}
use Rattle.std.proofs.lemmas.Option.{same_Some}
use Rattle.foundation.proofs.EachLaws.{each-self}
use Rattle.foundation.proofs.ListLaws.{All-middle}
use Rattle.net_parts.proofs.OutlineLaws.{known-most}
use Rattle.net_parts.specs.Numbers.{Net}
use Rattle.road_net.specs.Totals.{total}
use Rattle.road_net.proofs.TotalLaws.{only_at, total-add, total-only, total-same, total-zero}
use Rattle.road_net.specs.Network.{IsNetwork}
use Rattle.arrivals.specs.Amounts.{Amounts, AreArrivals, AreArrivalsOf, IsBefore, amount_to, arriving_of}
use Rattle.arrivals.specs.Faults.{IsRowFault}
use Rattle.net_parts.specs.Limits.{most_of_all, most_seconds}
use Rattle.arrivals.specs.Rows.{IsRow, amount_of, arriving_by}
use Rattle.arrivals.specs.declared.rows.ArrivalRow.{ArrivalRow}
use Rattle.arrivals.specs.declared.rows.RowFault.TheVariants.{Bound, Link, Sum}
use Rattle.arrivals.proofs.RowLaws.{arriving-append, brings, brings-else, brings-here}
use Rattle.arrivals.proofs.SecondLaws.{to-others, to-this}
use Rattle.std.specs.Prelude.{AllPairs, slice_index}
use Rattle.arrivals.specs.ScaledRows.{Brings, HaveCome, next_share}
use Rattle.arrivals.specs.Scaling.{IsScaled, total_entered, scaled_whole, share_of}

-- what is brought to a link in a second, where it is this one
abbrev at_place : (link second l x : ℕ) → ℕ → ℕ
at_place link second l x amount = cond ((link == l) && (second == x)) amount 0

at-other : (link second l x amount : ℕ) → (link ≡ l → second ≡ x → ⊥) → at_place link second l x amount ≡ 0
at-other link second l x amount other = elim (cases_Bool ((link == l) && (second == x))) [
  | inl t ↦ absurd (other (eqb-true link l (and_parts (eqb link l) (eqb second x) t).0) (eqb-true second x (and_parts (eqb link l) (eqb second x) t).1))
  | inr f ↦ ap (λ b. cond b amount 0) f
]

at-here : (link second amount : ℕ) → at_place link second link second amount ≡ amount
at-here link second amount = ap (λ b. cond (b && (second == second)) amount 0) (eq-eqb link link refl) ∙ ap (λ b. cond b amount 0) (eq-eqb second second refl)

-- of more there is no less
pub share-rises : (factor m n : ℕ) → m ≤ n → share_of factor m ≤ share_of factor n
share-rises factor m n h = let product : m * factor ≤ n * factor = mul-le m factor n factor h (omega arith) in omega (arith, product)

total-next : (f : ℕ → ℕ) (n : ℕ) → total f (n + 1) ≡ total f n + f n
total-next f n = let e : n + 1 ≡ suc n = omega arith in ap (total f) e

share-none : (factor : ℕ) → share_of factor 0 ≡ 0
share-none factor = let e : 0 * factor ≡ 0 = omega arith in ap (λ n. n / 1000) e

-- what is brought to a link in a second, in the first n seconds
placed-within : (link second l n amount : ℕ) → link ≡ l → second < n → total (λ x. at_place link second l x amount) n ≡ amount
placed-within link second l n amount same inside =
    total-same (λ x. at_place link second l x amount) (only_at second (λ _. amount)) n (λ x h. ap (λ b. cond (b && (second == x)) amount 0) (eq-eqb link l same))
    ∙ total-only second (λ _. amount) n inside

placed-elsewhere : (link second l n amount : ℕ) → (link ≡ l → second < n → ⊥) → total (λ x. at_place link second l x amount) n ≡ 0
placed-elsewhere link second l n amount other =
    total-same (λ x. at_place link second l x amount) (λ _. 0) n (λ x h. at-other link second l x amount (λ e f. other e (subst (λ y. y < n) (sym f) h))) ∙ total-zero n

row-placed : (r : ArrivalRow) (l x : ℕ) → brings r l x ≡ at_place r.link r.second l x r.amount
row-placed r l x = elim (eqb_tells r.link l) [
  | inl p ↦ elim (eqb_tells r.second x) [
    | inl q ↦ brings-here r l x p.1 q.1 ∙ sym (ap (λ k. at_place r.link r.second k x r.amount) (sym p.1) ∙ ap (λ y. at_place r.link r.second r.link y r.amount) (sym q.1) ∙ at-here r.link r.second r.amount)
    | inr q ↦ brings-else r l x (λ _ f. q.1 f) ∙ sym (at-other r.link r.second l x r.amount (λ _ f. q.1 f))
  ]
  | inr p ↦ brings-else r l x (λ e _. p.1 e) ∙ sym (at-other r.link r.second l x r.amount (λ e _. p.1 e))
]

-- what comes with one row more, in the first n seconds
entered-more : (rows : List ArrivalRow) (r : ArrivalRow) (l n : ℕ) → total_entered (arriving_by (rows ++ r ∷ [])) l n ≡ total_entered (arriving_by rows) l n + total (λ x. at_place r.link r.second l x r.amount) n
entered-more rows r l n =
    total-same (λ x. arriving_by (rows ++ r ∷ []) x l) (λ x. arriving_by rows x l + at_place r.link r.second l x r.amount) n (λ x h. omega (arith, arriving-append rows (r ∷ []) l x, row-placed r l x))
    ∙ total-add (λ x. arriving_by rows x l) (λ x. at_place r.link r.second l x r.amount) n

to-more : (rows : List ArrivalRow) (r : ArrivalRow) (l : ℕ) → amount_to (rows ++ r ∷ []) l ≡ amount_to rows l + amount_to (r ∷ []) l
to-more rows r l = ap (sum_by amount_of) (filter-append (λ s. s.link == l) rows (r ∷ [])) ∙ sum_by-append amount_of (filter (λ s. s.link == l) rows) (filter (λ s. s.link == l) (r ∷ []))

to-here : (rows : List ArrivalRow) (r : ArrivalRow) (l : ℕ) → r.link ≡ l → amount_to (rows ++ r ∷ []) l ≡ amount_to rows l + r.amount
to-here rows r l same = omega (arith, to-more rows r l, to-this r [] l same)

to-elsewhere : (rows : List ArrivalRow) (r : ArrivalRow) (l : ℕ) → (r.link ≡ l → ⊥) → amount_to (rows ++ r ∷ []) l ≡ amount_to rows l
to-elsewhere rows r l other = omega (arith, to-more rows r l, to-others r [] l other)

-- all that rows bring to a link enters it in seconds after theirs
pub entered-all : (rows : List ArrivalRow) (l n : ℕ) → All (λ r. r.second < n) rows → total_entered (arriving_by rows) l n ≡ amount_to rows l
entered-all [] l n early = total-zero n
entered-all (r ∷ rs) l n early =
    let rest = entered-all rs l n (All-tail (λ r. r.second < n) r rs early) in
    let split : total_entered (arriving_by (r ∷ rs)) l n ≡ total (λ x. at_place r.link r.second l x r.amount) n + total_entered (arriving_by rs) l n =
    total-same (λ x. arriving_by (r ∷ rs) x l) (λ x. at_place r.link r.second l x r.amount + arriving_by rs x l) n (λ x h. omega (arith, arriving-append (r ∷ []) rs l x, row-placed r l x))
    ∙ total-add (λ x. at_place r.link r.second l x r.amount) (λ x. arriving_by rs x l) n in
    elim (eqb_tells r.link l) [
      | inl p ↦ omega (arith, split, rest, placed-within r.link r.second l n r.amount p.1 (All-head (λ r. r.second < n) r rs early), to-this r rs l p.1)
      | inr p ↦ omega (arith, split, rest, placed-elsewhere r.link r.second l n r.amount (λ e _. p.1 e), to-others r rs l p.1)
    ]

-- what rows bring to a link is within all that they bring
pub to-within : (rows : List ArrivalRow) (l : ℕ) → amount_to rows l ≤ sum_by amount_of rows
to-within [] l = omega arith
to-within (r ∷ rs) l = elim (eqb_tells r.link l) [
  | inl p ↦ omega (arith, to-this r rs l p.1, to-within rs l, sum_by-cons amount_of r rs)
  | inr p ↦ omega (arith, to-others r rs l p.1, to-within rs l, sum_by-cons amount_of r rs)
]

-- a sum of which one term is raised
total-raised : (f g : ℕ → ℕ) (e d n : ℕ) → e < n → f e ≡ g e + d → ((i : ℕ) → (e ≡ i → ⊥) → f i ≡ g i) → total f n ≡ total g n + d
total-raised f g e d n inside here others =
    total-same f (λ i. g i + only_at e (λ _. d) i) n (λ i h. elim (eqb_tells e i) [
      | inl p ↦ omega (arith, ap f p.1, ap g p.1, here, ap (λ b. cond b d 0) p.0)
      | inr p ↦ omega (arith, others i p.1, ap (λ b. cond b d 0) p.0)
    ])
    ∙ total-add g (only_at e (λ _. d)) n
    ∙ ap (λ k. total g n + k) (total-only e (λ _. d) n inside)

module _ (net : Net) (factor : ℕ) where
  -- no rows
  pub come-none : HaveCome net factor [] []
  come-none = record {
    lawful = All-nil (IsRow net);
    shares = λ l n. total-zero n ∙ sym (ap (share_of factor) (total-zero n) ∙ share-none factor);
    whole = sym (total-same (λ link. share_of factor (amount_to [] link)) (λ link. 0) (length net.link_names) (λ l h. share-none factor) ∙ total-zero (length net.link_names));
  }

  -- one row more, which no row stands after
  module _ (come rows new : List ArrivalRow) (r : ArrivalRow) (has : HaveCome net factor come rows) (there : r.link < length net.link_names) (ordered : All (λ s. s.second ≤ r.second) come) (before : ℕ) (is : before ≡ amount_to come r.link)
      (brings_more : Brings net r.link r.second (next_share factor before r.amount) rows new) where
    abbrev amount : ℕ
    amount = next_share factor before r.amount

    adds : amount + share_of factor (amount_to come r.link) ≡ share_of factor (amount_to come r.link + r.amount)
    adds =
        let rises = share-rises factor before (before + r.amount) (omega arith) in
        let all : next_share factor before r.amount + share_of factor before ≡ share_of factor (before + r.amount) = omega (arith, rises) in
        subst (λ b. next_share factor before r.amount + share_of factor b ≡ share_of factor (b + r.amount)) is all

    brought : (l n : ℕ) → total_entered (arriving_by new) l n ≡ total_entered (arriving_by rows) l n + total (λ x. at_place r.link r.second l x amount) n
    brought l n =
        total-same (λ x. arriving_by new x l) (λ x. arriving_by rows x l + at_place r.link r.second l x amount) n (λ x h. brings_more.each l x) ∙ total-add (λ x. arriving_by rows x l) (λ x. at_place r.link r.second l x amount) n

    past : (l n : ℕ) → (r.link ≡ l → r.second < n → ⊥) → total_entered (arriving_by new) l n ≡ share_of factor (total_entered (arriving_by (come ++ r ∷ [])) l n)
    past l n other =
        let same : total_entered (arriving_by (come ++ r ∷ [])) l n ≡ total_entered (arriving_by come) l n = omega (arith, entered-more come r l n, placed-elsewhere r.link r.second l n r.amount other) in
        omega (arith, brought l n, placed-elsewhere r.link r.second l n amount other, has.shares l n, ap (share_of factor) same)

    within : (l n : ℕ) → r.link ≡ l → r.second < n → total_entered (arriving_by new) l n ≡ share_of factor (total_entered (arriving_by (come ++ r ∷ [])) l n)
    within l n same inside =
        let all : total_entered (arriving_by come) l n ≡ amount_to come l = entered-all come l n (λ k d h. let le = ordered k d h in omega (arith, le, inside)) in
        let at : amount_to come l ≡ amount_to come r.link = ap (amount_to come) (sym same) in
        let more : total_entered (arriving_by (come ++ r ∷ [])) l n ≡ amount_to come r.link + r.amount = omega (arith, entered-more come r l n, placed-within r.link r.second l n r.amount same inside, all, at) in
        omega (arith, brought l n, placed-within r.link r.second l n amount same inside, has.shares l n, ap (share_of factor) (all ∙ at), ap (share_of factor) more, adds)

    pub come-more : HaveCome net factor (come ++ r ∷ []) new
    come-more = record {
      lawful = brings_more.lawful has.lawful;
      shares = λ l n. elim (eqb_tells r.link l) [
        | inl p ↦ elim (cases_lt r.second n) [
          | inl inside ↦ within l n p.1 inside
          | inr late ↦ past l n (λ _ h. omega (arith, h, late))
        ]
        | inr p ↦ past l n (λ e _. p.1 e)
      ];
      whole =
          omega (
            arith,
            brings_more.whole,
            has.whole,
            total-raised (λ l. share_of factor (amount_to (come ++ r ∷ []) l)) (λ l. share_of factor (amount_to come l)) r.link amount (length net.link_names) there (omega (arith, ap (share_of factor) (to-here come r r.link refl), adds)) (λ l other. ap (share_of factor) (to-elsewhere come r l other)),
          );
    }

  -- all rows
  module _ (a : Amounts) (rows : List ArrivalRow) (come : HaveCome net factor a.rows rows) where
    pub come-scaled : (b : Amounts) → AreArrivalsOf net rows b → IsScaled factor (arriving_of a) (arriving_of b)
    come-scaled b of_rows link n = total-same (λ x. arriving_of b x link) (λ x. arriving_by rows x link) n (λ x h. of_rows.sums link x) ∙ come.shares link n

    module _ (network : IsNetwork net) (are : AreArrivals net a) where
      whole-scaled : sum_by amount_of rows ≡ scaled_whole net factor (arriving_of a)
      whole-scaled =
          come.whole
          ∙ total-same (λ l. share_of factor (amount_to a.rows l)) (λ l. share_of factor (total_entered (arriving_of a) l most_seconds)) (length net.link_names)
          (λ l h. ap (share_of factor) (sym (entered-all a.rows l most_seconds (λ k d inside. let early = (are.rows k d inside).second in omega (arith, early, known-most net network.outline)))))

      -- rows that bring too much
      pub come-over : (n : ℕ) → IsRowFault net rows (Sum n) → most_of_all < scaled_whole net factor (arriving_of a)
      come-over n first =
          let same : first.before ≡ first.so_far = same_Some first.before first.so_far (sym (each-self first.before) ∙ first.reads.reads) in
          let split = ap (sum_by amount_of) first.are ∙ sum_by-append amount_of first.before (first.here ∷ first.after) in
          omega (arith, first.faulty.1, split, ap (sum_by amount_of) same, sum_by-cons amount_of first.here first.after, whole-scaled)

      -- rows that are arrivals bring no more than they may
      pub come-few : (b : Amounts) → AreArrivalsOf net rows b → scaled_whole net factor (arriving_of a) ≤ most_of_all
      come-few b of_rows = omega (arith, of_rows.lawful.few, whole-scaled)

-- of lawful rows none is the first at fault by itself
pub no-link : (net : Net) (rows : List ArrivalRow) (n : ℕ) → All (IsRow net) rows → IsRowFault net rows (Link n) → ⊥
no-link net rows n all first = first.faulty (All-middle (IsRow net) first.before first.after first.here (subst (All (IsRow net)) first.are all)).source

pub no-bound : (net : Net) (rows : List ArrivalRow) (n : ℕ) → All (IsRow net) rows → IsRowFault net rows (Bound n) → ⊥
no-bound net rows n all first = first.faulty.1 (All-middle (IsRow net) first.before first.after first.here (subst (All (IsRow net)) first.are all)).bounds

-- what has come of the first rows
pub record HaveEntered (net : Net) (factor : ℕ) (coming : List ArrivalRow) (i : ℕ) (entered : List ℕ) (rows : List ArrivalRow) : Type 0 where
  pub count : length entered ≡ length net.link_names
  pub amounts : (l : ℕ) → l < length net.link_names → slice_index entered l ≡ amount_to (take i coming) l
  pub come : HaveCome net factor (take i coming) rows

pub entered-none : (net : Net) (factor : ℕ) (coming : List ArrivalRow) (entered : List ℕ) (rows : List ArrivalRow) (n : ℕ) → entered ≡ replicate n 0 → n ≡ length net.link_names → rows ≡ [] → HaveEntered net factor coming 0 entered rows
entered-none net factor coming entered rows n zeros is none = rw (zeros, none) (record {
  count = length-replicate {A = ℕ} n 0 ∙ is;
  amounts = λ l h. get_or-replicate n l 0 0 (omega (arith, h, is));
  come = come-none net factor;
})

module _ (net : Net) (factor : ℕ) (coming : List ArrivalRow) (order : AllPairs IsBefore coming) (i : ℕ) (r : ArrivalRow) (inside : i < length coming) (here : r ≡ get_or coming i r) (there : r.link < length net.link_names) (entered : List ℕ) (rows : List ArrivalRow)
    (has : HaveEntered net factor coming i entered rows) where
  pub entered-few : sum_by amount_of coming ≤ most_of_all → slice_index entered r.link + r.amount ≤ most_of_all
  entered-few few = omega (arith, has.amounts r.link there, to-within (take i coming) r.link, sum_by_more_le amount_of coming i r inside, ap amount_of here, few)

  pub entered-next : (new : List ℕ) (next : List ArrivalRow) → new ≡ set entered r.link (slice_index entered r.link + r.amount) → Brings net r.link r.second (next_share factor (slice_index entered r.link) r.amount) rows next → HaveEntered net factor coming (i + 1) new next
  entered-next new next is brings_next =
      let more : take (i + 1) coming ≡ take i coming ++ r ∷ [] = take_more coming i r inside ∙ ap (λ s. take i coming ++ s ∷ []) (sym here) in
      record {
        count = ap length is ∙ length-set entered r.link (slice_index entered r.link + r.amount) ∙ has.count;
        amounts = λ l h. ap (λ es. slice_index es l) is ∙ amount-next l h ∙ sym (ap (λ rs. amount_to rs l) more);
        come =
            subst (λ rs. HaveCome net factor rs next) (sym more)
            (come-more net factor (take i coming) rows next r has.come there
            (λ k d h.
            let low : k < i = omega (arith, h, length-take i coming) in
            let first = (order k i d low inside).seconds in
            let at : get_or coming i d ≡ r = get_or_default coming i d r inside ∙ sym here in
            omega (arith, first, ap (λ (s : ArrivalRow). s.second) (get_or-take i coming k d low), ap (λ (s : ArrivalRow). s.second) at))
            (slice_index entered r.link) (has.amounts r.link there) brings_next);
      }
    where
      amount-next : (l : ℕ) → l < length net.link_names → slice_index (set entered r.link (slice_index entered r.link + r.amount)) l ≡ amount_to (take i coming ++ r ∷ []) l
      amount-next l h = elim (eqb_tells r.link l) [
        | inl p ↦
            subst (λ k. slice_index (set entered r.link (slice_index entered r.link + r.amount)) k ≡ amount_to (take i coming ++ r ∷ []) k) p.1
            (omega (arith, get_or-set_same entered r.link (slice_index entered r.link + r.amount) 0 (omega (arith, there, has.count)), has.amounts r.link there, to-here (take i coming) r r.link refl))
        | inr p ↦ omega (arith, get_or-set_other entered r.link l (slice_index entered r.link + r.amount) 0 (λ e. p.1 (sym e)), has.amounts l h, to-elsewhere (take i coming) r l p.1)
      ]
