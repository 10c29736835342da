-- What streams bring together, stream by stream; and how much that is.
use Rattle.std.proofs.Common.{◌≡◌, ℕ, ◌+◌, ◌-◌, ◌*◌, ◌<◌, ◌≤◌, List, [], ◌∷◌, ◌++◌, All, length, get_or, take, drop, map, sum, sum_by, sym, ap, subst, ◌∙◌, arith}
use Rattle.std.specs.List.{slice_range}
use Rattle.std.proofs.lemmas.List.{take_more, map-append, get_or-drop, get_or-take, length-take, length-drop, take_all}
use Rattle.std.proofs.lemmas.List.FromFn.{fill_by_all}
use Rattle.std.proofs.lemmas.List.Elements.{All-get_or, All-head, All-tail, All-take, All-drop, All-weaker}
use Rattle.std.proofs.lemmas.List.Sums.{sum_by-append, sum_by_more, sum_by-le, sum_by-take-le, sum_by-cons, get_or-le-sum_by}
use Rattle.clusters.specs.declared.vehicle_groups.Part.{Part}
use Rattle.clusters.specs.Platoons.{together, part_of, whole_of}
use Rattle.clusters.proofs.ListLaws.{get_or-le}

abbrev pub AreSmall : List Part → Type 0
AreSmall streams = All (λ s. All (λ amount. amount ≤ 5000) s.amounts) streams

abbrev pub brought : ℕ → Part → ℕ
brought x s = get_or s.amounts x 0

abbrev pub IsTogether : List Part → List ℕ → ℕ → Type 0
IsTogether streams series i = (k : ℕ) → get_or series k 0 ≡ sum_by (brought k) (take i streams)

brought-le : (streams : List Part) (x : ℕ) → AreSmall streams → sum_by (brought x) streams ≤ length streams * 5000
brought-le streams x h = sum_by-le (brought x) 5000 streams (All-weaker (λ s. All (λ amount. amount ≤ 5000) s.amounts) (λ s. brought x s ≤ 5000) (λ s each. get_or-le 5000 s.amounts each x) streams h)

pub together-fits : (streams : List Part) (series : List ℕ) (i k : ℕ) (s : Part) → length streams ≤ 16 → AreSmall streams → i < length streams → s ≡ get_or streams i s
    → IsTogether streams series i → get_or series k 0 + get_or s.amounts k 0 ≤ 80000
together-fits streams series i k s few small lt e h =
    omega (arith, h k, sum_by_more (brought k) streams i s lt, ap (brought k) e, sum_by-take-le (brought k) streams (i + 1), brought-le streams k small)

pub together-all : (streams : List Part) (series : List ℕ) (i look : ℕ) → length streams ≤ i → length series ≡ look → IsTogether streams series i
    → series ≡ together streams look
unfolding together
together-all streams series i look all same h =
    fill_by_all (λ x. sum_by (brought x) streams) series look 0 same
    (λ k lt. let whole : take i streams ≡ streams = take_all i streams all in rw whole at (h k))

-- a slice has few amounts, each small
pub length-slice_range : (xs : List ℕ) (first end : ℕ) → end ≤ length xs → length (slice_range xs first end) ≡ end - first
length-slice_range xs first end le = omega (arith, length-take (end - first) (drop first xs), length-drop first xs)

pub All-slice_range : (P : ℕ → Type 0) (xs : List ℕ) (first end : ℕ) → All P xs → All P (slice_range xs first end)
All-slice_range P xs first end h = All-take P (end - first) (drop first xs) (All-drop P first xs h)

pub sum-slice_range-le : (xs : List ℕ) (first end : ℕ) → All (λ x. x ≤ 5000) xs → end ≤ 180 → sum (slice_range xs first end) ≤ 900000
sum-slice_range-le xs first end h le =
    omega (arith, sum_by-le (λ x. x) 5000 (slice_range xs first end) (All-slice_range (λ x. x ≤ 5000) xs first end h), length-take (end - first) (drop first xs))

pub first-in-slice : (xs : List ℕ) (first end : ℕ) → first < end → end ≤ length xs → get_or xs first 0 ≤ sum (slice_range xs first end)
first-in-slice xs first end lt le =
    let zero_at : first + 0 ≡ first = omega arith in
    let e : get_or (slice_range xs first end) 0 0 ≡ get_or xs first 0 =
    get_or-take (end - first) (drop first xs) 0 0 (omega arith) ∙ get_or-drop first xs 0 0 ∙ ap (λ k. get_or xs k 0) zero_at in
    omega (arith, e, get_or-le-sum_by (λ x. x) (slice_range xs first end) 0 0 (omega (arith, length-slice_range xs first end le)))

pub stream-small : (streams : List Part) (i : ℕ) (s : Part) → AreSmall streams → i < length streams → s ≡ get_or streams i s → All (λ amount. amount ≤ 5000) s.amounts
stream-small streams i s small lt e = let P : Part → Type 0 = λ p. All (λ amount. amount ≤ 5000) p.amounts in subst P (sym e) (All-get_or P streams i s lt small)

-- nor does it bring much in the seconds of a platoon
pub stream-few : (streams : List Part) (i : ℕ) (s : Part) (amounts : List ℕ) (first end : ℕ) → AreSmall streams → i < length streams → s ≡ get_or streams i s → amounts ≡ s.amounts → end ≤ 180
    → sum (slice_range amounts first end) ≤ 900000
stream-few streams i s amounts first end small lt e same le = sum-slice_range-le amounts first end (rw same (stream-small streams i s small lt e)) le

-- A platoon's size and load, of its first i streams.
pub record IsSizing (load : Part → ℕ) (first end : ℕ) (streams : List Part) (i size loads : ℕ) : Type 0 where
  pub whole : size ≡ whole_of (map (part_of first end) (take i streams))
  pub fits : size ≤ 900000 * i
  pub loads_are : loads ≡ sum_by load (map (part_of first end) (take i streams))
  pub loads_fit : loads ≤ 18000000 * i

pub sizing-more : (load : Part → ℕ) (first end : ℕ) (streams : List Part) (i size loads sum_of_it load_of_it : ℕ) (s : Part)
    → IsSizing load first end streams i size loads → i < length streams → s ≡ get_or streams i s → AreSmall streams → end ≤ 180
    → sum_of_it ≡ sum (slice_range s.amounts first end) → load_of_it ≡ load (part_of first end s) → load_of_it ≤ 20 * sum_of_it
    → IsSizing load first end streams (i + 1) (size + sum_of_it) (loads + load_of_it)
sizing-more load first end streams i size loads sum_of_it load_of_it s h lt e small le total counts most =
    let before = map (part_of first end) (take i streams) in
    let more : map (part_of first end) (take (i + 1) streams) ≡ before ++ part_of first end s ∷ [] =
    ap (map (part_of first end)) (take_more streams i s lt) ∙ map-append (part_of first end) (take i streams) (get_or streams i s ∷ [])
    ∙ ap (λ x. before ++ part_of first end x ∷ []) (sym e) in
    let each : All (λ x. x ≤ 5000) s.amounts = stream-small streams i s small lt e in
    record {
      whole =
          omega (
            arith,
            h.whole,
            total,
            ap whole_of more,
            sum_by-append (λ (part : Part). sum part.amounts) before (part_of first end s ∷ []),
            sum_by-cons (λ (part : Part). sum part.amounts) (part_of first end s) [],
          );
      fits = omega (arith, h.fits, total, sum-slice_range-le s.amounts first end each le);
      loads_are =
          omega (arith, h.loads_are, counts, ap (sum_by load) more, sum_by-append load before (part_of first end s ∷ []), sum_by-cons load (part_of first end s) []);
      loads_fit = omega (arith, h.loads_fit, most, total, sum-slice_range-le s.amounts first end each le);
    }

-- a platoon has something, and not too much
pub whole-some : (streams : List Part) (first end : ℕ) → first < end → All (λ s. end ≤ length s.amounts) streams
    → sum_by (brought first) streams ≤ whole_of (map (part_of first end) streams)
whole-some [] first end lt h = omega arith
whole-some (s ∷ streams) first end lt h =
    omega (
      arith,
      sum_by-cons (brought first) s streams,
      sum_by-cons (λ (part : Part). sum part.amounts) (part_of first end s) (map (part_of first end) streams),
      first-in-slice s.amounts first end lt (All-head (λ (t : Part). end ≤ length t.amounts) s streams h),
      whole-some streams first end lt (All-tail (λ (t : Part). end ≤ length t.amounts) s streams h),
    )

pub whole-few : (streams : List Part) (first end : ℕ) → AreSmall streams → end ≤ 180 → whole_of (map (part_of first end) streams) ≤ 900000 * length streams
whole-few [] first end h le = omega arith
whole-few (s ∷ streams) first end h le =
    omega (
      arith,
      sum_by-cons (λ (part : Part). sum part.amounts) (part_of first end s) (map (part_of first end) streams),
      sum-slice_range-le s.amounts first end (All-head (λ (p : Part). All (λ amount. amount ≤ 5000) p.amounts) s streams h) le,
      whole-few streams first end (All-tail (λ (p : Part). All (λ amount. amount ≤ 5000) p.amounts) s streams h) le,
    )
