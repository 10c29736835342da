-- Reading line after line, as the loops do: what was read before, and what is still read.
use Rattle.std.proofs.Common.{◌≡◌, ℕ, suc, ◌+◌, ◌-◌, ◌<◌, ◌≤◌, List, [], ◌∷◌, ◌++◌, length, Option, Some, None, Result, Ok, Err, refl, sym, ap, ◌∙◌, append_assoc, arith}
use Rattle.std.specs.Option.{ok_or}
use Rattle.std.proofs.lemmas.List.{append-nil}
use Rattle.text_lines.specs.Many.{many_at}
use Rattle.text_lines.proofs.ManyLaws.{after, regroup}
use Rattle.phase_plan.specs.declared.Phase.{Phase}
use Rattle.switch_rules.specs.declared.Cluster.{Cluster}
use Rattle.instance_form.specs.declared.form.Version.{Version}
use Rattle.instance_form.specs.declared.form.FormFault.{FormFault}
use Rattle.instance_form.specs.Lines.{phase_line_at, cluster_line_at}
use Rattle.instance_form.specs.Reading.{◌>>=◌, phases_at, lists_at}

-- the fault in place of a value that is not there
pub fault_is : {A : Type 0} (o : Option A) (e f : FormFault) → o ≡ None → ◌≡◌ {A = Result A FormFault} (Err e) (ok_or o f) → e ≡ f
fault_is None e f h is = cc
fault_is (Some x) e f h is = absurd cc

-- ---- phases

abbrev pub with_phases : List Phase → Result (List Phase × List ℕ) ℕ → Result (List Phase × List ℕ) ℕ
with_phases front read = read >>= λ x. Ok (front ++ x.0, x.1)

regroup_phases : (front : List Phase) (p : Phase) (read : Result (List Phase × List ℕ) ℕ) → with_phases front (read >>= λ x. Ok (p ∷ x.0, x.1)) ≡ with_phases (front ++ p ∷ []) read
regroup_phases front p (Ok x) = ap (λ (ps : List Phase). Ok (ps, x.1)) (simp append_assoc)
regroup_phases front p (Err n) = refl

pub phases_go_on : (front : List Phase) (v : Version) (count i line : ℕ) (bytes : List ℕ) (p : Phase) (after : List ℕ) (total : Result (List Phase × List ℕ) ℕ) → i < count → phase_line_at v bytes ≡ Some (p, after)
    → with_phases front (phases_at v (count - i) (line + i) bytes) ≡ total → with_phases (front ++ p ∷ []) (phases_at v (count - (i + 1)) (line + (i + 1)) after) ≡ total
unfolding phases_at
phases_go_on front v count i line bytes p after total lt h so_far =
    let k : count - i ≡ suc (count - (i + 1)) = omega arith in
    let next : line + i + 1 ≡ line + (i + 1) = omega arith in
    let one : with_phases front (phases_at v (count - i) (line + i) bytes) ≡ with_phases (front ++ p ∷ []) (phases_at v (count - (i + 1)) (line + (i + 1)) after) =
    rw (k, h, next) (regroup_phases front p (phases_at v (count - (i + 1)) (line + (i + 1)) after)) in
    sym one ∙ so_far

pub phases_fail : (front : List Phase) (v : Version) (count i line : ℕ) (bytes : List ℕ) (total : Result (List Phase × List ℕ) ℕ) → i < count → phase_line_at v bytes ≡ None
    → with_phases front (phases_at v (count - i) (line + i) bytes) ≡ total → total ≡ Err (line + i)
unfolding phases_at
phases_fail front v count i line bytes total lt h so_far =
    let k : count - i ≡ suc (count - (i + 1)) = omega arith in
    let one : with_phases front (phases_at v (count - i) (line + i) bytes) ≡ Err (line + i) = rw (k, h) refl in
    sym so_far ∙ one

pub phases_end : (front : List Phase) (v : Version) (count i line : ℕ) (bytes : List ℕ) (total : Result (List Phase × List ℕ) ℕ) → count ≤ i → with_phases front (phases_at v (count - i) (line + i) bytes) ≡ total → total ≡ Ok (front, bytes)
unfolding phases_at
phases_end front v count i line bytes total le so_far =
    let k : count - i ≡ 0 = omega arith in
    let one : with_phases front (phases_at v (count - i) (line + i) bytes) ≡ Ok (front, bytes) = rw k (ap (λ (ps : List Phase). Ok (ps, bytes)) (append-nil front)) in
    sym so_far ∙ one

-- ---- lists of clusters

pub lists_go_on : (front : List (List Cluster)) (v : Version) (count phase : ℕ) (bytes : List ℕ) (list : List Cluster) (rest : List ℕ) (total : List (List Cluster) × List ℕ) → phase < count → many_at (cluster_line_at v phase) (length bytes) bytes ≡ (list, rest)
    → after front (lists_at v (count - phase) phase bytes) ≡ total → after (front ++ list ∷ []) (lists_at v (count - (phase + 1)) (phase + 1) rest) ≡ total
unfolding lists_at
lists_go_on front v count phase bytes list rest total lt h so_far =
    let k : count - phase ≡ suc (count - (phase + 1)) = omega arith in
    let more = lists_at v (count - (phase + 1)) (phase + 1) in
    let one : after front (lists_at v (count - phase) phase bytes) ≡ after (front ++ list ∷ []) (more rest) =
    ap (λ n. after front (lists_at v n phase bytes)) k ∙ ap (λ (l : List Cluster × List ℕ). after front (l.0 ∷ (more l.1).0, (more l.1).1)) h ∙ regroup front list (more rest) in
    sym one ∙ so_far

pub lists_end : (front : List (List Cluster)) (v : Version) (count phase : ℕ) (bytes : List ℕ) (total : List (List Cluster) × List ℕ) → count ≤ phase → after front (lists_at v (count - phase) phase bytes) ≡ total → total ≡ (front, bytes)
unfolding lists_at
lists_end front v count phase bytes total le so_far =
    let k : count - phase ≡ 0 = omega arith in
    let one : after front (lists_at v (count - phase) phase bytes) ≡ (front, bytes) = rw k (ap (λ (ls : List (List Cluster)). (ls, bytes)) (append-nil front)) in
    sym so_far ∙ one
