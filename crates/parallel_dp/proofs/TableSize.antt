-- A whole table has few entries, since it is one of rows; and with the best answer it is a certificate.
use Rattle.std.proofs.Common.{◌≡◌, ℕ, zero, suc, ◌+◌, ◌*◌, ◌<◌, ◌≤◌, List, [], ◌∷◌, ◌++◌, length, get_or, map, All, Option, Some, None, IfSome, refl, sym, ap, subst, ◌∙◌, inl, inr, arith}
use Rattle.std.proofs.lemmas.List.{get_or-map, length-map}
use Rattle.schedule_meaning.specs.Best.{IsBest}
use Rattle.schedule_meaning.specs.Instances.{Problem, IsInstance}
use Rattle.schedule_meaning.specs.declared.planners.Answer.{Answer}
use Rattle.dp_certificate.specs.Certificates.{IsBefore}
use Rattle.dp_certificate.specs.Limits.{IsLimited}
use Rattle.dp_certificate.specs.Prefixes.{Stage, key_of, stage_of}
use Rattle.dp_certificate.specs.Proves.{HasEntry, stage_of_entry}
use Rattle.dp_certificate.specs.Whole.{IsOfPrefix, IsWhole}
use Rattle.dp_certificate.specs.declared.Entry.{Entry}
use Rattle.forward_dp.proofs.Few.{rows-few}
use Rattle.forward_dp.proofs.RowLaws.{IsLed, four, led}
use Rattle.forward_dp.proofs.Wholes.{AreParts}
use Rattle.forward_dp.specs.Numbers.{order_number}
use Rattle.forward_dp.specs.Tables.{AreRows, IsReached, row_number}
use Rattle.forward_dp.specs.declared.rows.Row.{Row}
use Rattle.parallel_dp.proofs.LayerLaws.{stage-here}
use Rattle.parallel_dp.proofs.Rising.{rising-pairs}
use Rattle.parallel_dp.specs.Joins.{Precedes}

-- the rows of entries
abbrev rows_of : (p : Problem) (entries : List Entry) → All (IsOfPrefix p) entries → List Row
rows_of p [] h = []
rows_of p (e ∷ es) h = record { entry = e; order = order_number (h 0 e (omega arith)).prefix } ∷ rows_of p es (λ k d inside. h (suc k) d (omega (arith, inside)))

rows-entries : (p : Problem) (entries : List Entry) (h : All (IsOfPrefix p) entries) → map (λ (r : Row). r.entry) (rows_of p entries h) ≡ entries
rows-entries p [] h = refl
rows-entries p (e ∷ es) h = ap (λ xs. e ∷ xs) (rows-entries p es (λ k d inside. h (suc k) d (omega (arith, inside))))

rows-reached : (p : Problem) → IsInstance p → (entries : List Entry) (h : All (IsOfPrefix p) entries) → All (IsReached p) (rows_of p entries h)
rows-reached p lawful [] h k d inside = absurd (omega arith)
rows-reached p lawful (e ∷ es) h zero d inside =
    let o : IsOfPrefix p e = h 0 e (omega arith) in
    record { prefix = o.prefix; leads = o.leads ∙ ap (λ (s : Stage). let x : Option Stage = Some s in x) (sym (stage-here p lawful o.prefix o.stage e o.leads o.key o.delay)); order = refl }
rows-reached p lawful (e ∷ es) h (suc k) d inside = rows-reached p lawful es (λ k d inside. h (suc k) d (omega (arith, inside))) k d (omega arith)

-- the number of seven digits
abbrev seven : ℕ → ℕ → ℕ → ℕ → ℕ → ℕ → ℕ → ℕ
seven a b c d e f g = ((((a * 64 + b) * 64 + c) * 64 + d) * 4 + e) * 18446744073709551616 + (f * 4294967296 + g)

seven-less : (a b c d e f g a' b' c' d' e' f' g' : ℕ) → b < 64 → c < 64 → d < 64 → e < 4 → f < 131072 → g < 131072 → IsBefore (a ∷ b ∷ c ∷ d ∷ e ∷ f ∷ g ∷ []) (a' ∷ b' ∷ c' ∷ d' ∷ e' ∷ f' ∷ g' ∷ []) → seven a b c d e f g < seven a' b' c' d' e' f' g'
seven-less a b c d e f g a' b' c' d' e' f' g' hb hc hd he hf hg before = elim before [
  | inl less ↦ omega arith
  | inr x ↦ elim x.1 [
    | inl less ↦ omega (arith, x.0)
    | inr y ↦ elim y.1 [
      | inl less ↦ omega (arith, x.0, y.0)
      | inr z ↦ elim z.1 [
        | inl less ↦ omega (arith, x.0, y.0, z.0)
        | inr u ↦ elim u.1 [
          | inl less ↦ omega (arith, x.0, y.0, z.0, u.0)
          | inr v ↦ elim v.1 [
            | inl less ↦ omega (arith, x.0, y.0, z.0, u.0, v.0)
            | inr w ↦ elim w.1 [ inl less ↦ omega (arith, x.0, y.0, z.0, u.0, v.0, w.0) | inr none ↦ absurd none.1 ]
          ]
        ]
      ]
    ]
  ]
]

numbers-rise : (p : Problem) (u v : List ℕ) (a b : Row) → IsLed p u (stage_of_entry p a.entry) → IsLed p v (stage_of_entry p b.entry) → Precedes a.entry b.entry → row_number a < row_number b
numbers-rise p u v a b la lb before =
    let xs = a.entry.counts in
    let ys = b.entry.counts in
    seven-less (get_or xs 0 0) (get_or xs 1 0) (get_or xs 2 0) (get_or xs 3 0) a.entry.phase a.entry.since a.entry.at (get_or ys 0 0) (get_or ys 1 0) (get_or ys 2 0) (get_or ys 3 0) b.entry.phase b.entry.since b.entry.at
    (la.digits 1) (la.digits 2) (la.digits 3) la.phase la.since la.at
    (subst (λ zs. IsBefore (zs ++ a.entry.phase ∷ a.entry.since ∷ a.entry.at ∷ []) ((get_or ys 0 0 ∷ get_or ys 1 0 ∷ get_or ys 2 0 ∷ get_or ys 3 0 ∷ []) ++ b.entry.phase ∷ b.entry.since ∷ b.entry.at ∷ [])) (four xs la.stage.places)
    (subst (λ zs. IsBefore (xs ++ a.entry.phase ∷ a.entry.since ∷ a.entry.at ∷ []) (zs ++ b.entry.phase ∷ b.entry.since ∷ b.entry.at ∷ [])) (four ys lb.stage.places) before))

pub table-few : (p : Problem) → IsInstance p → (entries : List Entry) → IsWhole p entries → length entries ≤ 2000001
table-few p lawful entries whole =
    let rows = rows_of p entries whole.each in
    let same : map (λ (r : Row). r.entry) rows ≡ entries = rows-entries p entries whole.each in
    let reached = rows-reached p lawful entries whole.each in
    let entry : (i : ℕ) (d : Row) → i < length rows → (get_or rows i d).entry ≡ get_or entries i d.entry = λ i d inside.
    sym (get_or-map (λ (r : Row). r.entry) rows i d d.entry inside) ∙ ap (λ xs. get_or xs i d.entry) same in
    let many : length rows ≡ length entries = sym (length-map rows (λ (r : Row). r.entry)) ∙ ap length same in
    let are : AreRows p rows = record {
      each = reached;
      rising = λ i j d less inside.
          let a = reached i d (omega (arith, less, inside)) in
          let b = reached j d inside in
          let before = rising-pairs entries whole.rising i j d.entry less (omega (arith, inside, many)) in
          numbers-rise p a.prefix b.prefix (get_or rows i d) (get_or rows j d) (led p lawful a.prefix (stage_of_entry p (get_or rows i d).entry) a.leads) (led p lawful b.prefix (stage_of_entry p (get_or rows j d).entry) b.leads)
          (subst (λ e. Precedes e (get_or rows j d).entry) (sym (entry i d (omega (arith, less, inside)))) (subst (λ e. Precedes (get_or entries i d.entry) e) (sym (entry j d inside)) before));
    } in
    omega (arith, rows-few p lawful rows are, many)

if-each : {X : Type 0} (P : X → Type 0) (o : Option X) → ((x : X) → o ≡ Some x → P x) → IfSome o P
if-each P None h = tt
if-each P (Some x) h = h x refl

if-some : {X : Type 0} (P : X → Type 0) (o : Option X) (x : X) → o ≡ Some x → IfSome o P → P x
if-some P o x e h = subst (λ o. IfSome o P) e h

-- with no limit
whole-limited : (p : Problem) (entries : List Entry) → IsWhole p entries → IsLimited p None entries
whole-limited p entries whole = record {
  rising = whole.rising;
  each = whole.each;
  within = λ k d inside. tt;
  all = λ u. if-each (λ s. Unit {0} → HasEntry entries (key_of s) s.delay) (stage_of p u) (λ s e within. if-some (λ s. HasEntry entries (key_of s) s.delay) (stage_of p u) s e (whole.all u));
}

-- the parts of a certificate
pub table-parts : (p : Problem) → IsInstance p → (entries : List Entry) (answer : Answer) → IsWhole p entries → IsBest p answer → AreParts p None entries answer
table-parts p lawful entries answer whole best = record { lawful = lawful; delay = tt; table = whole-limited p entries whole; best = best; few = table-few p lawful entries whole }
