-- What is known of rows of fit prefixes, and of the stages that these lead to.
use Rattle.std.specs.Prelude.{option_and_then}
use Rattle.std.proofs.Common.{◌≡◌, ℕ, zero, suc, ◌+◌, ◌-◌, ◌*◌, ◌^◌, ◌<◌, ◌≤◌, ◌==◌, ◌&&◌, false, List, [], ◌∷◌, ◌++◌, length, sum, get_or, set, All, Some, refl, sym, ap, subst, ◌∙◌, inl, inr, eq-eqb, length-set, arith}
use Rattle.std.proofs.Math.Nat.{pow-zero, pow-suc, mul-le-mul_left}
use Rattle.std.proofs.lemmas.Nat.{pow-add}
use Rattle.std.proofs.lemmas.Bool.{cases_eq, ne_eqb}
use Rattle.std.proofs.lemmas.List.{get_or-set_other, get_or-set_same}
use Rattle.std.proofs.lemmas.Option.{none-some}
use Rattle.schedule_meaning.specs.Instances.{Problem, IsInstance}
use Rattle.schedule_meaning.proofs.Sequences.{option-cases}
use Rattle.dp_certificate.specs.Certificates.{IsEntry}
use Rattle.dp_certificate.specs.Prefixes.{Key, Stage, first_stage, key_of, one_more, stage_after, stage_of}
use Rattle.dp_certificate.specs.Proves.{key_of_entry, stage_of_entry}
use Rattle.dp_certificate.specs.declared.Entry.{Entry}
use Rattle.dp_certificate.proofs.NextLaws.{few-listed}
use Rattle.dp_certificate.proofs.Stages.{last-of, more-other, more-same, some-same, stage-phases, stage-push, step-begins}
use Rattle.forward_dp.proofs.Shapes.{serving-shapes}
use Rattle.forward_dp.specs.declared.rows.Row.{Row}
use Rattle.forward_dp.specs.Numbers.{counts_number, order_number}
use Rattle.forward_dp.specs.Tables.{IsReached, unit_of}
use Rattle.forward_dp.proofs.Bounds.{IsStage, stage-bounds, stage-few}
use Rattle.forward_dp.proofs.OrderLaws.{order-below}

-- ---- lists of four

-- a list of four
pub four : (xs : List ℕ) → length xs ≡ 4 → xs ≡ get_or xs 0 0 ∷ get_or xs 1 0 ∷ get_or xs 2 0 ∷ get_or xs 3 0 ∷ []
four [] e = absurd (omega arith)
four (a ∷ []) e = absurd (omega arith)
four (a ∷ b ∷ []) e = absurd (omega arith)
four (a ∷ b ∷ c ∷ []) e = absurd (omega arith)
four (a ∷ b ∷ c ∷ d ∷ []) e = refl
four (a ∷ b ∷ c ∷ d ∷ x ∷ xs) e = absurd (omega arith)

pub same-parts : (a b c d a' b' c' d' : ℕ) → a ≡ a' → b ≡ b' → c ≡ c' → d ≡ d' → (let xs : List ℕ = a ∷ b ∷ c ∷ d ∷ [] in xs ≡ a' ∷ b' ∷ c' ∷ d' ∷ [])
same-parts a b c d a' b' c' d' ea eb ec ed = cc

pub same-four : (xs ys : List ℕ) → length xs ≡ 4 → length ys ≡ 4 → ((k : ℕ) → get_or xs k 0 ≡ get_or ys k 0) → xs ≡ ys
same-four xs ys fx fy same =
    four xs fx ∙ same-parts (get_or xs 0 0) (get_or xs 1 0) (get_or xs 2 0) (get_or xs 3 0) (get_or ys 0 0) (get_or ys 1 0) (get_or ys 2 0) (get_or ys 3 0) (same 0) (same 1) (same 2) (same 3) ∙ sym (four ys fy)

one-digit : (x y d e : ℕ) → d < 64 → e < 64 → x * 64 + d ≡ y * 64 + e → (x ≡ y) × (d ≡ e)
one-digit x y d e hd he same = (omega arith, omega arith)

-- counts with one number are the same
pub counts-same : (xs ys : List ℕ) → length xs ≡ 4 → length ys ≡ 4 → ((k : ℕ) → get_or xs k 0 < 64) → ((k : ℕ) → get_or ys k 0 < 64) → counts_number xs ≡ counts_number ys → xs ≡ ys
counts-same xs ys fx fy sx sy same =
    let a = one-digit ((get_or xs 0 0 * 64 + get_or xs 1 0) * 64 + get_or xs 2 0) ((get_or ys 0 0 * 64 + get_or ys 1 0) * 64 + get_or ys 2 0) (get_or xs 3 0) (get_or ys 3 0) (sx 3) (sy 3) same in
    let b = one-digit (get_or xs 0 0 * 64 + get_or xs 1 0) (get_or ys 0 0 * 64 + get_or ys 1 0) (get_or xs 2 0) (get_or ys 2 0) (sx 2) (sy 2) a.0 in
    let c = one-digit (get_or xs 0 0) (get_or ys 0 0) (get_or xs 1 0) (get_or ys 1 0) (sx 1) (sy 1) b.0 in
    four xs fx ∙ same-parts (get_or xs 0 0) (get_or xs 1 0) (get_or xs 2 0) (get_or xs 3 0) (get_or ys 0 0) (get_or ys 1 0) (get_or ys 2 0) (get_or ys 3 0) c.0 c.1 b.1 a.1 ∙ sym (four ys fy)

-- one digit more
number-four : (a b c d k : ℕ) → k < 4 → counts_number (one_more (a ∷ b ∷ c ∷ d ∷ []) k) ≡ counts_number (a ∷ b ∷ c ∷ d ∷ []) + unit_of k
number-four a b c d zero h = omega arith
number-four a b c d (suc zero) h = omega arith
number-four a b c d (suc (suc zero)) h = omega arith
number-four a b c d (suc (suc (suc zero))) h = omega arith
number-four a b c d (suc (suc (suc (suc k)))) h = absurd (omega arith)

pub number-more : (xs : List ℕ) (k : ℕ) → length xs ≡ 4 → k < 4 → counts_number (one_more xs k) ≡ counts_number xs + unit_of k
number-more xs k f h =
    ap (λ ys. counts_number (one_more ys k)) (four xs f) ∙ number-four (get_or xs 0 0) (get_or xs 1 0) (get_or xs 2 0) (get_or xs 3 0) k h
    ∙ ap (λ ys. counts_number ys + unit_of k) (sym (four xs f))

-- the counts with one less of phase k
pub before_of : List ℕ → ℕ → List ℕ
before_of t k = set t k (get_or t k 0 - 1)

pub before-four : (t : List ℕ) (k : ℕ) → length t ≡ 4 → length (before_of t k) ≡ 4
unfolding before_of
before-four t k f = length-set t k (get_or t k 0 - 1) ∙ f

pub before-is : (t : List ℕ) (k : ℕ) → before_of t k ≡ set t k (get_or t k 0 - 1)
unfolding before_of
before-is t k = refl

pub back : (t : List ℕ) (k : ℕ) → length t ≡ 4 → k < 4 → 0 < get_or t k 0 → one_more (before_of t k) k ≡ t
unfolding before_of
back t k f h some =
    let b = set t k (get_or t k 0 - 1) in
    let fb : length b ≡ 4 = length-set t k (get_or t k 0 - 1) ∙ f in
    same-four (one_more b k) t (length-set b k (get_or b k 0 + 1) ∙ fb) f (λ j. elim (cases_eq j k) [
      | inl same ↦
          omega (arith, ap (λ i. get_or (one_more b k) i 0) same, ap (λ i. get_or t i 0) same, more-same b k (omega arith), get_or-set_same t k (get_or t k 0 - 1) 0 (omega arith))
      | inr other ↦ more-other b k j other ∙ get_or-set_other t k j (get_or t k 0 - 1) 0 other
    ])

-- what leads to counts by phase k has one less of it
pub forth : (u t : List ℕ) (k : ℕ) → length u ≡ 4 → k < 4 → one_more u k ≡ t → u ≡ before_of t k
unfolding before_of
forth u t k f h e =
    let ft : length t ≡ 4 = ap length (sym e) ∙ length-set u k (get_or u k 0 + 1) ∙ f in
    same-four u (set t k (get_or t k 0 - 1)) f (length-set t k (get_or t k 0 - 1) ∙ ft) (λ j. elim (cases_eq j k) [
      | inl same ↦
          omega (arith, ap (λ i. get_or u i 0) same, ap (λ i. get_or (set t k (get_or t k 0 - 1)) i 0) same, more-same u k (omega arith), ap (λ xs. get_or xs k 0) e, get_or-set_same t k (get_or t k 0 - 1) 0 (omega arith))
      | inr other ↦ sym (more-other u k j other) ∙ ap (λ xs. get_or xs j 0) e ∙ sym (get_or-set_other t k j (get_or t k 0 - 1) 0 other)
    ])

-- ---- the bounds of rows

pow-some : (n : ℕ) → 1 ≤ 4 ^ n
pow-some zero = omega (arith, pow-zero 4)
pow-some (suc n) = omega (arith, pow-suc 4 n, pow-some n)

pow-up : (n m : ℕ) → 4 ^ n ≤ 4 ^ (n + m)
pow-up n m = omega (arith, pow-add 4 n m, mul-le-mul_left (4 ^ n) (pow-some m))

pow-four : (n : ℕ) → n ≤ 40 → 4 ^ n ≤ 4 ^ 40
pow-four n h = subst (λ m. 4 ^ n ≤ 4 ^ m) (let e : n + (40 - n) ≡ 40 = omega arith in e) (pow-up n (40 - n))

-- what a fit prefix leads to
pub record IsLed (p : Problem) (u : List ℕ) (s : Stage) : Type 0 where
  pub stage : IsStage p (length u) s
  pub few : length u ≤ 40
  pub digits : (k : ℕ) → get_or s.counts k 0 < 64
  pub phase : s.head.phase < 4
  pub since : s.head.since < 131072
  pub at : s.head.at < 131072
  pub order : order_number u < 4 ^ 40
  pub phases : All (λ k. k < 4) u

pub led : (p : Problem) → IsInstance p → (u : List ℕ) (s : Stage) → stage_of p u ≡ Some s → IsLed p u s
led p lawful u s e =
    let b : IsStage p (length u) s = stage-bounds p lawful u s e in
    let few : length u ≤ 40 = omega (arith, stage-few p lawful (length u) s b, lawful.few) in
    let below : All (λ k. k < 4) u = λ k d h. omega (arith, stage-phases p lawful u s e k d h, lawful.plan.count) in
    record {
      stage = b;
      few = few;
      digits = λ k. omega (arith, b.counts k, few-listed p lawful k);
      phase = omega (arith, b.head.phase, lawful.plan.count.1);
      since = omega (arith, b.head.begun, b.reach);
      at = omega (arith, b.reach);
      order = omega (arith, order-below u below, pow-four (length u) few);
      phases = below;
    }

pub reached-led : (p : Problem) → IsInstance p → (r : Row) (h : IsReached p r) → IsLed p h.prefix (stage_of_entry p r.entry)
reached-led p lawful r h = led p lawful h.prefix (stage_of_entry p r.entry) h.leads

pub reached-entry : (p : Problem) → IsInstance p → (r : Row) → IsReached p r → IsEntry p r.entry
reached-entry p lawful r h =
    let l = reached-led p lawful r h in
    let b = l.stage in
    record {
      counts = b.counts;
      head = record { phase = b.head.phase; begun = b.head.begun; within = b.head.within };
      reach = b.reach;
      delay = omega (arith, b.delay, l.few);
    }

-- ---- stages and their entries

-- the entry of a stage with a delay
unfoldable pub entry_for : Stage → ℕ → Entry
entry_for s d = record { counts = s.counts; phase = s.head.phase; since = s.head.since; at = s.head.at; delay = d }

-- the stage that the entry of a stage stands for is that stage, since the green is fresh at the start alone
stage-same : (p : Problem) → IsInstance p → (u : List ℕ) (s : Stage) (d : ℕ) → stage_of p u ≡ Some s → stage_of_entry p (entry_for s d) ≡ record { counts = s.counts; head = s.head; delay = d }
unfolding entry_for
stage-same p lawful [] s d e = subst (λ (s : Stage). stage_of_entry p (entry_for s d) ≡ record { counts = s.counts; head = s.head; delay = d }) (some-same (first_stage p) s e)
    (rw (eq-eqb p.head.phase p.head.phase refl) (rw (eq-eqb p.head.since p.head.since refl) (rw (eq-eqb p.head.at p.head.at refl) refl)))
stage-same p lawful (k ∷ u) s d e =
    let b : IsStage p (length (k ∷ u)) s = stage-bounds p lawful (k ∷ u) s e in
    let some : (sum s.counts == 0) ≡ false = ne_eqb (sum s.counts) 0 (λ z. omega (arith, b.total)) in
    let stale : s.head.fresh ≡ false = b.fresh ∙ ap (λ t. t && p.head.fresh) (ne_eqb (length (k ∷ u)) 0 (λ z. omega arith)) in
    rw some (ap (λ f. let x : Stage = record { counts = s.counts; head = record { phase = s.head.phase; since = s.head.since; at = s.head.at; fresh = f }; delay = d } in x) (sym stale))

-- so does every entry with its key
pub entry-stage : (p : Problem) → IsInstance p → (u : List ℕ) (s : Stage) (e : Entry) → stage_of p u ≡ Some s → key_of_entry e ≡ key_of s → stage_of_entry p e ≡ record { counts = s.counts; head = s.head; delay = e.delay }
unfolding entry_for
entry-stage p lawful u s e leads key =
    ap (λ (k : Key). stage_of_entry p (record { counts = k.counts; phase = k.phase; since = k.since; at = k.at; delay = e.delay })) key ∙ stage-same p lawful u s e.delay leads

-- ---- the last step

-- a prefix ends with a step
pub record EndsBy (p : Problem) (w : List ℕ) (s : Stage) : Type 0 where
  pub front : List ℕ
  pub last : ℕ
  pub is : w ≡ front ++ last ∷ []
  pub before : Stage
  pub leads : stage_of p front ≡ Some before
  pub step : stage_after p before last ≡ Some s

pub ends-by : (p : Problem) (w : List ℕ) (s : Stage) (n : ℕ) → stage_of p w ≡ Some s → length w ≡ n + 1 → EndsBy p w s
ends-by p w s n e long =
    let parts : (v : List ℕ) × (k : ℕ) × (w ≡ v ++ k ∷ []) × (length v ≡ n) = last-of w n long in
    let v = parts.0 in
    let k = parts.1 in
    let both : option_and_then (λ t. stage_after p t k) (stage_of p v) ≡ Some s = sym (stage-push p (first_stage p) v k) ∙ ap (stage_of p) (sym parts.2) ∙ e in
    option-cases (stage_of p v)
    (λ none. absurd (none-some s (sym (ap (option_and_then (λ t. stage_after p t k)) none) ∙ both)))
    (λ t et. record { front = v; last = k; is = parts.2; before = t; leads = et; step = sym (ap (option_and_then (λ t. stage_after p t k)) et) ∙ both })

-- a step of phase k leads to a green of phase k, and to one more of it
pub step-phase : (p : Problem) (s t : Stage) (k : ℕ) → stage_after p s k ≡ Some t → t.head.phase ≡ k
step-phase p s t k e = step-begins p s t k e (λ c r ec er same. ap (λ (x : Stage). x.head.phase) (sym same) ∙ (serving-shapes p.plan s.head k c r er).phase)

pub step-counts : (p : Problem) (s t : Stage) (k : ℕ) → stage_after p s k ≡ Some t → one_more s.counts k ≡ t.counts
step-counts p s t k e = step-begins p s t k e (λ c r ec er same. ap (λ (x : Stage). x.counts) same)

-- the group tells the counts' number and the phase
pub group-parts : (x y k j : ℕ) → k < 4 → j < 4 → x * 4 + k ≡ y * 4 + j → (x ≡ y) × (k ≡ j)
group-parts x y k j hk hj e = (omega arith, omega arith)
