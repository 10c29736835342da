-- A line that is read has this text, and a line with this text is read.
use Rattle.std.proofs.Common.{◌≡◌, ◌≢◌, ℕ, ◌^◌, ◌<◌, ◌≤◌, Bool, true, false, cond, eqb, leb, ◌&&◌, List, [], ◌∷◌, ◌++◌, get_or, Option, Some, None, refl, sym, ap, subst, ◌∙◌, append_assoc, arith}
use Rattle.std.specs.Prelude.{codes}
use Rattle.std.specs.Char.{IsAsciiDigit}
use Rattle.std.specs.Fmt.{decimal}
use Rattle.std.specs.Option.{option_or, option_map}
use Rattle.std.proofs.lemmas.Bool.{and_parts, leb-true, le-leb, eqb-true, eq-eqb, ne_eqb}
use Rattle.std.proofs.lemmas.Option.{cond_some, same_Some}
use Rattle.text_lines.specs.Fields.{literal_at, field_at}
use Rattle.text_lines.proofs.Units.{literal_takes, literal_again, field_takes, field_again}
use Rattle.phase_plan.specs.Phases.{HasU32Times}
use Rattle.phase_plan.specs.declared.Phase.{Phase}
use Rattle.switch_rules.specs.declared.Head.{Head}
use Rattle.switch_rules.specs.declared.Cluster.{Cluster}
use Rattle.instance_form.specs.declared.form.Version.{Version}
use Rattle.instance_form.specs.declared.form.Version.TheVariants.{One, Two, Three, Four, Five}
use Rattle.instance_form.specs.InstanceText.{first_line, count_line, phase_numbers, phase_line, head_line, cluster_line, IsWritableHead, IsWritableCluster}
use Rattle.instance_form.specs.Lines.{numbers_at, value_at, version_line_at, count_line_at, phase_limits, times_end, mark_end, mark_at, phase_of, phase_line_at, head_limits, head_end, freshness_at, head_of, head_line_at, load_at, span_limits, cluster_line_at}
use Rattle.instance_form.proofs.NumberLaws.{then_some, space, line_feed, numbers_text, AreBelow, below-length, numbers_take, numbers_again, value_takes, value_first, value_later}

-- the value of a line, and the bytes that it was read from
pub record Takes {A : Type 0} (text : A → List ℕ) (fits : A → Type 0) (bytes : List ℕ) (x : A × List ℕ) : Type 0 where
  pub spelled : bytes ≡ text x.0 ++ x.1
  pub small : fits x.0

-- ---- the version

pub version_again : (v : Version) (rest : List ℕ) → version_line_at (first_line v ++ rest) ≡ Some (v, rest)
unfolding literal_at
version_again One rest = value_first first_line One (Two ∷ Three ∷ Four ∷ Five ∷ []) rest
version_again Two rest = value_later first_line One (Two ∷ Three ∷ Four ∷ Five ∷ []) (first_line Two ++ rest) (Two, rest) refl (value_first first_line Two (Three ∷ Four ∷ Five ∷ []) rest)
version_again Three rest =
    value_later first_line One (Two ∷ Three ∷ Four ∷ Five ∷ []) (first_line Three ++ rest) (Three, rest) refl
    (value_later first_line Two (Three ∷ Four ∷ Five ∷ []) (first_line Three ++ rest) (Three, rest) refl (value_first first_line Three (Four ∷ Five ∷ []) rest))
version_again Four rest =
    value_later first_line One (Two ∷ Three ∷ Four ∷ Five ∷ []) (first_line Four ++ rest) (Four, rest) refl
    (value_later first_line Two (Three ∷ Four ∷ Five ∷ []) (first_line Four ++ rest) (Four, rest) refl
    (value_later first_line Three (Four ∷ Five ∷ []) (first_line Four ++ rest) (Four, rest) refl (value_first first_line Four (Five ∷ []) rest)))
version_again Five rest =
    value_later first_line One (Two ∷ Three ∷ Four ∷ Five ∷ []) (first_line Five ++ rest) (Five, rest) refl
    (value_later first_line Two (Three ∷ Four ∷ Five ∷ []) (first_line Five ++ rest) (Five, rest) refl
    (value_later first_line Three (Four ∷ Five ∷ []) (first_line Five ++ rest) (Five, rest) refl
    (value_later first_line Four (Five ∷ []) (first_line Five ++ rest) (Five, rest) refl (value_first first_line Five [] rest))))

pub version_takes : (bytes : List ℕ) (x : Version × List ℕ) → version_line_at bytes ≡ Some x → bytes ≡ first_line x.0 ++ x.1
version_takes bytes x e = value_takes first_line (One ∷ Two ∷ Three ∷ Four ∷ Five ∷ []) bytes x e

-- ---- the number of phases

pub count_again : (n : ℕ) (rest : List ℕ) → 2 ≤ n → n ≤ 4 → count_line_at (count_line n ++ rest) ≡ Some (n, rest)
unfolding count_line_at
count_again n rest low high =
    let regrouped : count_line n ++ rest ≡ codes "phases " ++ (decimal n ++ 10 ∷ rest) = simp append_assoc in
    ap count_line_at regrouped ∙ rw (literal_again (codes "phases ") (decimal n ++ 10 ∷ rest), field_again (2 ^ 8) 10 n rest (omega arith) line_feed (omega arith), le-leb 2 n low, le-leb n 4 high) refl

pub count_takes : (bytes : List ℕ) (x : ℕ × List ℕ) → count_line_at bytes ≡ Some x → Takes count_line (λ n. (2 ≤ n) × (n ≤ 4)) bytes x
unfolding count_line_at
count_takes bytes x e =
    then_some (literal_at (codes "phases ") bytes) e (λ rest h e0.
    then_some (field_at (2 ^ 8) 10 rest) e0 (λ count h0 e1.
    let chosen = cond_some (leb 2 count.0 && leb count.0 4) count x e1 in
    let bounds = and_parts (leb 2 count.0) (leb count.0 4) chosen.0 in
    let text = literal_takes (codes "phases ") bytes rest h in
    let number = field_takes (2 ^ 8) 10 rest count.0 count.1 h0 in
    let regrouped : count_line count.0 ++ count.1 ≡ codes "phases " ++ (decimal count.0 ++ 10 ∷ count.1) = simp append_assoc in
    subst (Takes count_line (λ n. (2 ≤ n) × (n ≤ 4)) bytes) chosen.1 (record {
      spelled = let n = number.1 in cc regrouped;
      small = (leb-true 2 count.0 bounds.0, leb-true count.0 4 bounds.1);
    })))

-- ---- a phase

-- what a version says of a mark: version 1 has none, and version 4 has no other
abbrev pub IsSaidMark : Version → Bool → Type 0
IsSaidMark One skip = skip ≡ false
IsSaidMark Two skip = Unit {0}
IsSaidMark Three skip = Unit {0}
IsSaidMark Four skip = skip ≡ true
IsSaidMark Five skip = Unit {0}

-- the line of a phase in this version says all of it
pub record IsSaidPhase (v : Version) (p : Phase) : Type 0 where
  pub fits : HasU32Times p
  pub mark : IsSaidMark v p.skip

-- the mark as it stands in a line
abbrev mark_text : Version → Bool → List ℕ
mark_text One skip = []
mark_text Two skip = mark_end skip
mark_text Three skip = mark_end skip
mark_text Four skip = mark_end skip
mark_text Five skip = mark_end skip

mark_again : (skip : Bool) (rest : List ℕ) → value_at mark_end (true ∷ false ∷ []) (mark_end skip ++ rest) ≡ Some (skip, rest)
unfolding literal_at
mark_again true rest = value_first mark_end true (false ∷ []) rest
mark_again false rest = value_later mark_end true (false ∷ []) (mark_end false ++ rest) (false, rest) refl (value_first mark_end false [] rest)

marked_again : (v : Version) (skip : Bool) (rest : List ℕ) → IsSaidMark v skip → mark_at v (mark_text v skip ++ rest) ≡ Some (skip, rest)
marked_again One skip rest said = ap (λ b. Some (b, rest)) (sym said)
marked_again Two skip rest said = mark_again skip rest
marked_again Three skip rest said = mark_again skip rest
marked_again Four skip rest said = rw said (value_first mark_end true [] rest)
marked_again Five skip rest said = mark_again skip rest

-- the one value that is read
one_value : {A : Type 0} (text : A → List ℕ) (x : A) (bytes : List ℕ) (y : A × List ℕ) → value_at text (x ∷ []) bytes ≡ Some y → y.0 ≡ x
unfolding value_at
one_value {A} text x bytes y e = by_text (literal_at (text x) bytes) e
  where
    by_text : (o : Option (List ℕ)) → option_or (option_map (λ (rest : List ℕ). (x, rest)) o) None ≡ Some y → y.0 ≡ x
    by_text (Some rest) h = ap (λ (z : A × List ℕ). z.0) (sym (same_Some (x, rest) y h))
    by_text None h = absurd cc

marked_takes : (v : Version) (bytes : List ℕ) (x : Bool × List ℕ) → mark_at v bytes ≡ Some x → (bytes ≡ mark_text v x.0 ++ x.1) × IsSaidMark v x.0
marked_takes One bytes x e = let same = same_Some (false, bytes) x e in (ap (λ (y : Bool × List ℕ). y.1) same, ap (λ (y : Bool × List ℕ). y.0) (sym same))
marked_takes Two bytes x e = (value_takes mark_end (true ∷ false ∷ []) bytes x e, tt)
marked_takes Three bytes x e = (value_takes mark_end (true ∷ false ∷ []) bytes x e, tt)
marked_takes Four bytes x e = (value_takes mark_end (true ∷ []) bytes x e, one_value mark_end true bytes x e)
marked_takes Five bytes x e = (value_takes mark_end (true ∷ false ∷ []) bytes x e, tt)

times_apart : (v : Version) → ¬ IsAsciiDigit (times_end v)
times_apart One = line_feed
times_apart Two = space
times_apart Three = space
times_apart Four = space
times_apart Five = space

below_phase : (p : Phase) → HasU32Times p → AreBelow (phase_numbers p) phase_limits
below_phase p fits = (fits.least, (fits.greatest, (fits.yellow, (fits.clear, (fits.loss, (fits.wait, tt))))))

-- a phase's line, as its units are read
regrouped_phase : (v : Version) (p : Phase) (rest : List ℕ) → phase_line v p ++ rest ≡ codes "phase " ++ (numbers_text (times_end v) (phase_numbers p) ++ (mark_text v p.skip ++ rest))
regrouped_phase One p rest = simp append_assoc
regrouped_phase Two p rest = simp append_assoc
regrouped_phase Three p rest = simp append_assoc
regrouped_phase Four p rest = simp append_assoc
regrouped_phase Five p rest = simp append_assoc

pub phase_again : (v : Version) (p : Phase) (rest : List ℕ) → IsSaidPhase v p → phase_line_at v (phase_line v p ++ rest) ≡ Some (p, rest)
unfolding phase_line_at
phase_again v p rest said =
    let marked = mark_text v p.skip ++ rest in
    ap (phase_line_at v) (regrouped_phase v p rest) ∙ rw (
      literal_again (codes "phase ") (numbers_text (times_end v) (phase_numbers p) ++ marked),
      numbers_again phase_limits (times_end v) (phase_numbers p) marked (times_apart v) (omega arith, (omega arith, (omega arith, (omega arith, (omega arith, (omega arith, tt)))))) (below_phase p said.fits),
      marked_again v p.skip rest said.mark,
    ) refl

phase_whole : (ns : List ℕ) (skip : Bool) → AreBelow ns phase_limits → phase_numbers (phase_of ns skip) ≡ ns
phase_whole (a ∷ b ∷ c ∷ d ∷ e ∷ f ∷ []) skip below = refl
phase_whole ns skip below = absurd (omega (arith, below-length ns phase_limits below))

phase_small : (p : Phase) → AreBelow (phase_numbers p) phase_limits → HasU32Times p
phase_small p (a, (b, (c, (d, (e, (f, end)))))) = record { least = a; greatest = b; yellow = c; clear = d; loss = e; wait = f }

pub phase_takes : (v : Version) (bytes : List ℕ) (x : Phase × List ℕ) → phase_line_at v bytes ≡ Some x → Takes (phase_line v) (IsSaidPhase v) bytes x
unfolding phase_line_at
phase_takes v bytes x e =
    then_some (literal_at (codes "phase ") bytes) e (λ rest h e0.
    then_some (numbers_at phase_limits (times_end v) rest) e0 (λ times h1 e1.
    then_some (mark_at v times.1) e1 (λ skip h2 e2.
    let t = numbers_take phase_limits (times_end v) rest times h1 in
    let m = marked_takes v times.1 skip h2 in
    let p = phase_of times.0 skip.0 in
    let whole = phase_whole times.0 skip.0 t.below in
    subst (Takes (phase_line v) (IsSaidPhase v) bytes) (same_Some (p, skip.1) x e2) (record {
      spelled = cc (regrouped_phase v p skip.1, literal_takes (codes "phase ") bytes rest h, t.spelled, m.0, whole);
      small = record { fits = phase_small p (subst (λ ns. AreBelow ns phase_limits) (sym whole) t.below); mark = m.1 };
    }))))

-- ---- the head

freshness_again : (fresh : Bool) (rest : List ℕ) → freshness_at (head_end fresh ++ rest) ≡ Some (fresh, rest)
unfolding literal_at
freshness_again true rest = value_first head_end true (false ∷ []) rest
freshness_again false rest = value_later head_end true (false ∷ []) (head_end false ++ rest) (false, rest) refl (value_first head_end false [] rest)

-- a head's line, as its units are read
regrouped_head : (h : Head) (rest : List ℕ) → head_line h ++ rest ≡ codes "head " ++ (numbers_text 32 (h.phase ∷ h.since ∷ h.at ∷ []) ++ (head_end h.fresh ++ rest))
regrouped_head h rest = simp append_assoc

pub head_again : (p : Head) (rest : List ℕ) → IsWritableHead p → head_line_at (head_line p ++ rest) ≡ Some (p, rest)
unfolding head_line_at
head_again p rest fits =
    let fresh = head_end p.fresh ++ rest in
    let numbers = p.phase ∷ p.since ∷ p.at ∷ [] in
    ap head_line_at (regrouped_head p rest) ∙ rw (
      literal_again (codes "head ") (numbers_text 32 numbers ++ fresh),
      numbers_again head_limits 32 numbers fresh space (omega arith, (omega arith, (omega arith, tt))) (fits.phase, (fits.since, (fits.at, tt))),
      freshness_again p.fresh rest,
    ) refl

head_text : (ns : List ℕ) (fresh : Bool) (rest : List ℕ) → AreBelow ns head_limits → head_line (head_of ns fresh) ++ rest ≡ codes "head " ++ (numbers_text 32 ns ++ (head_end fresh ++ rest))
head_text (a ∷ b ∷ c ∷ []) fresh rest below = regrouped_head (head_of (a ∷ b ∷ c ∷ []) fresh) rest
head_text ns fresh rest below = absurd (omega (arith, below-length ns head_limits below))

head_small : (ns : List ℕ) (fresh : Bool) → AreBelow ns head_limits → IsWritableHead (head_of ns fresh)
head_small (a ∷ b ∷ c ∷ []) fresh below = record { phase = below.0; since = below.1.0; at = below.1.1.0 }
head_small ns fresh below = absurd (omega (arith, below-length ns head_limits below))

pub head_takes : (bytes : List ℕ) (x : Head × List ℕ) → head_line_at bytes ≡ Some x → Takes head_line IsWritableHead bytes x
unfolding head_line_at
head_takes bytes x e =
    then_some (literal_at (codes "head ") bytes) e (λ rest h e0.
    then_some (numbers_at head_limits 32 rest) e0 (λ numbers h1 e1.
    then_some (freshness_at numbers.1) e1 (λ fresh h2 e2.
    let t = numbers_take head_limits 32 rest numbers h1 in
    subst (Takes head_line IsWritableHead bytes) (same_Some (head_of numbers.0 fresh.0, fresh.1) x e2) (record {
      spelled = cc (head_text numbers.0 fresh.0 fresh.1 t.below, literal_takes (codes "head ") bytes rest h, t.spelled, value_takes head_end (true ∷ false ∷ []) numbers.1 fresh h2);
      small = head_small numbers.0 fresh.0 t.below;
    }))))

-- ---- a cluster

-- what a version says of a load: in versions 3 and 4 alone it can be another than the size
abbrev pub IsSaidLoad : Version → ℕ → ℕ → Type 0
IsSaidLoad One size load = load ≡ size
IsSaidLoad Two size load = load ≡ size
IsSaidLoad Three size load = Unit {0}
IsSaidLoad Four size load = Unit {0}
IsSaidLoad Five size load = Unit {0}

-- the line of a cluster in this version says all of it
pub record IsSaidCluster (v : Version) (c : Cluster) : Type 0 where
  pub fits : IsWritableCluster c
  pub load : IsSaidLoad v c.size c.load

-- the load as it stands in a line
abbrev load_text : Version → ℕ → List ℕ
load_text One load = []
load_text Two load = []
load_text Three load = decimal load ++ 32 ∷ []
load_text Four load = decimal load ++ 32 ∷ []
load_text Five load = decimal load ++ 32 ∷ []

load_again : (v : Version) (size load : ℕ) (rest : List ℕ) → IsSaidLoad v size load → load < 2 ^ 32 → load_at v size (load_text v load ++ rest) ≡ Some (load, rest)
load_again One size load rest said small = ap (λ n. Some (n, rest)) (sym said)
load_again Two size load rest said small = ap (λ n. Some (n, rest)) (sym said)
load_again Three size load rest said small = ap (field_at (2 ^ 32) 32) (append_assoc (decimal load) (32 ∷ []) rest) ∙ field_again (2 ^ 32) 32 load rest (omega arith) space small
load_again Four size load rest said small = ap (field_at (2 ^ 32) 32) (append_assoc (decimal load) (32 ∷ []) rest) ∙ field_again (2 ^ 32) 32 load rest (omega arith) space small
load_again Five size load rest said small = ap (field_at (2 ^ 32) 32) (append_assoc (decimal load) (32 ∷ []) rest) ∙ field_again (2 ^ 32) 32 load rest (omega arith) space small

load_takes : (v : Version) (size : ℕ) (bytes : List ℕ) (x : ℕ × List ℕ) → size < 2 ^ 32 → load_at v size bytes ≡ Some x → (bytes ≡ load_text v x.0 ++ x.1) × IsSaidLoad v size x.0 × (x.0 < 2 ^ 32)
load_takes One size bytes x small e =
    let same = same_Some (size, bytes) x e in
    let is : size ≡ x.0 = ap (λ (y : ℕ × List ℕ). y.0) same in
    (ap (λ (y : ℕ × List ℕ). y.1) same, sym is, omega arith)
load_takes Two size bytes x small e =
    let same = same_Some (size, bytes) x e in
    let is : size ≡ x.0 = ap (λ (y : ℕ × List ℕ). y.0) same in
    (ap (λ (y : ℕ × List ℕ). y.1) same, sym is, omega arith)
load_takes Three size bytes x small e =
    let t = field_takes (2 ^ 32) 32 bytes x.0 x.1 e in
    (t.1 ∙ sym (append_assoc (decimal x.0) (32 ∷ []) x.1), tt, t.0)
load_takes Four size bytes x small e =
    let t = field_takes (2 ^ 32) 32 bytes x.0 x.1 e in
    (t.1 ∙ sym (append_assoc (decimal x.0) (32 ∷ []) x.1), tt, t.0)
load_takes Five size bytes x small e =
    let t = field_takes (2 ^ 32) 32 bytes x.0 x.1 e in
    (t.1 ∙ sym (append_assoc (decimal x.0) (32 ∷ []) x.1), tt, t.0)

-- a cluster's line after its phase, as its units are read
abbrev cluster_rest : Version → Cluster → List ℕ → List ℕ
cluster_rest v c rest = decimal c.size ++ 32 ∷ (load_text v c.load ++ (numbers_text 10 (c.arr ∷ c.len ∷ []) ++ rest))

regrouped_cluster : (v : Version) (k : ℕ) (c : Cluster) (rest : List ℕ) → cluster_line v k c ++ rest ≡ codes "cluster " ++ (decimal k ++ 32 ∷ cluster_rest v c rest)
regrouped_cluster One k c rest = simp append_assoc
regrouped_cluster Two k c rest = simp append_assoc
regrouped_cluster Three k c rest = simp append_assoc
regrouped_cluster Four k c rest = simp append_assoc
regrouped_cluster Five k c rest = simp append_assoc

pub cluster_again : (v : Version) (k : ℕ) (c : Cluster) (rest : List ℕ) → k < 2 ^ 8 → IsSaidCluster v c → cluster_line_at v k (cluster_line v k c ++ rest) ≡ Some (c, rest)
unfolding cluster_line_at
cluster_again v k c rest k_lt said =
    let span = numbers_text 10 (c.arr ∷ c.len ∷ []) ++ rest in
    let load = load_text v c.load ++ span in
    ap (cluster_line_at v k) (regrouped_cluster v k c rest) ∙ rw (
      literal_again (codes "cluster ") (decimal k ++ 32 ∷ cluster_rest v c rest),
      field_again (2 ^ 8) 32 k (cluster_rest v c rest) (omega arith) space k_lt,
      eq-eqb k k refl,
      field_again (2 ^ 32) 32 c.size load (omega arith) space said.fits.size,
      load_again v c.size c.load span said.load said.fits.load,
      numbers_again span_limits 10 (c.arr ∷ c.len ∷ []) rest line_feed (omega arith, (omega arith, tt)) (said.fits.arr, (said.fits.len, tt)),
    ) refl

-- the cluster of this size and load with these times
abbrev cluster_of : ℕ → ℕ → List ℕ → Cluster
cluster_of size load ns = record { size = size; load = load; arr = get_or ns 0 0; len = get_or ns 1 0 }

cluster_text : (v : Version) (k size load : ℕ) (ns rest : List ℕ) → AreBelow ns span_limits → cluster_line v k (cluster_of size load ns) ++ rest ≡ codes "cluster " ++ (decimal k ++ 32 ∷ (decimal size ++ 32 ∷ (load_text v load ++ (numbers_text 10 ns ++ rest))))
cluster_text v k size load (a ∷ b ∷ []) rest below = regrouped_cluster v k (cluster_of size load (a ∷ b ∷ [])) rest
cluster_text v k size load ns rest below = absurd (omega (arith, below-length ns span_limits below))

cluster_small : (size load : ℕ) (ns : List ℕ) → size < 2 ^ 32 → load < 2 ^ 32 → AreBelow ns span_limits → IsWritableCluster (cluster_of size load ns)
cluster_small size load (a ∷ b ∷ []) low high below = record { size = low; load = high; arr = below.0; len = below.1.0 }
cluster_small size load ns low high below = absurd (omega (arith, below-length ns span_limits below))

pub cluster_takes : (v : Version) (k : ℕ) (bytes : List ℕ) (x : Cluster × List ℕ) → cluster_line_at v k bytes ≡ Some x → Takes (cluster_line v k) (IsSaidCluster v) bytes x
unfolding cluster_line_at
cluster_takes v k bytes x e =
    then_some (literal_at (codes "cluster ") bytes) e (λ rest h e0.
    then_some (field_at (2 ^ 8) 32 rest) e0 (λ phase h1 e1.
    then_some (cond (eqb phase.0 k) (Some phase.1) None) e1 (λ own h2 e2.
    then_some (field_at (2 ^ 32) 32 own) e2 (λ size h3 e3.
    then_some (load_at v size.0 size.1) e3 (λ load h4 e4.
    then_some (numbers_at span_limits 10 load.1) e4 (λ span h5 e5.
    let chosen = cond_some (eqb phase.0 k) phase.1 own h2 in
    let is : phase.0 ≡ k = eqb-true phase.0 k chosen.0 in
    let t1 = field_takes (2 ^ 8) 32 rest phase.0 phase.1 h1 in
    let t2 = field_takes (2 ^ 32) 32 own size.0 size.1 h3 in
    let t3 = load_takes v size.0 size.1 load t2.0 h4 in
    let t4 = numbers_take span_limits 10 load.1 span h5 in
    subst (Takes (cluster_line v k) (IsSaidCluster v) bytes) (same_Some (cluster_of size.0 load.0 span.0, span.1) x e5) (record {
      spelled = cc (cluster_text v k size.0 load.0 span.0 span.1 t4.below, literal_takes (codes "cluster ") bytes rest h, is, chosen.1, t1.1, t2.1, t3.0, t4.spelled);
      small = record { fits = cluster_small size.0 load.0 span.0 t2.0 t3.2 t4.below; load = t3.1 };
    })))))))

-- A line of another phase's cluster is none of this phase's.
pub cluster_other : (v : Version) (k j : ℕ) (c : Cluster) (rest : List ℕ) → j < 2 ^ 8 → j ≢ k → cluster_line_at v k (cluster_line v j c ++ rest) ≡ None
unfolding cluster_line_at
cluster_other v k j c rest j_lt other =
    ap (cluster_line_at v k) (regrouped_cluster v j c rest) ∙ rw (
      literal_again (codes "cluster ") (decimal j ++ 32 ∷ cluster_rest v c rest),
      field_again (2 ^ 8) 32 j (cluster_rest v c rest) (omega arith) space j_lt,
      ne_eqb j k other,
    ) refl

-- The last line is no cluster's.
pub cluster_end : (v : Version) (k : ℕ) (rest : List ℕ) → cluster_line_at v k (codes "end\n" ++ rest) ≡ None
unfolding cluster_line_at literal_at
cluster_end v k rest = refl
