-- Where reading fails, the lines before begin some text, and with the line at fault they begin none.
use Rattle.std.proofs.Common.{◌≡◌, ℕ, ◌+◌, ◌^◌, ◌<◌, ◌≤◌, Bool, true, false, List, [], ◌∷◌, ◌++◌, length, map, refl, ◌∙◌, append_assoc, arith}
use Rattle.std.specs.Prelude.{codes, sum_by}
use Rattle.std.specs.Fmt.{decimal}
use Rattle.std.specs.List.{flat_map, AllByRecursion}
use Rattle.std.proofs.lemmas.List.Sums.{sum_by-cons}
use Rattle.text_lines.specs.Lines.{line_feeds}
use Rattle.text_lines.proofs.Feeds.{IsTextLine, line_is, line_feeds-nil, line_feeds-append, feeds_in_number, feeds_in_lines}
use Rattle.text_lines.proofs.FirstLine.{NextLine, faulty-here}
use Rattle.phase_plan.specs.Phases.{HasU32Times}
use Rattle.phase_plan.specs.declared.Phase.{Phase}
use Rattle.switch_rules.specs.declared.Head.{Head}
use Rattle.switch_rules.specs.declared.Cluster.{Cluster}
use Rattle.instance_form.specs.Faults.{BeginsText, BeginsFront, IsFirstFault}
use Rattle.instance_form.specs.declared.form.Version.{Version}
use Rattle.instance_form.specs.declared.form.Version.TheVariants.{One, Two, Three, Four, Five}
use Rattle.instance_form.specs.InstanceText.{first_line, count_line, mark, phase_numbers, phase_line, freshness, head_line, cluster_numbers, cluster_line, cluster_lines, IsWritableHead, IsWritableCluster}
use Rattle.instance_form.proofs.LineLaws.{IsSaidPhase, IsSaidCluster}

-- ---- each line is ended by one line feed

pub first_is_line : (v : Version) → IsTextLine (first_line v)
unfolding line_feeds
first_is_line One = record { body = codes "instance 1"; no_feed = refl; ended = refl }
first_is_line Two = record { body = codes "instance 2"; no_feed = refl; ended = refl }
first_is_line Three = record { body = codes "instance 3"; no_feed = refl; ended = refl }
first_is_line Four = record { body = codes "instance 4"; no_feed = refl; ended = refl }
first_is_line Five = record { body = codes "instance 5"; no_feed = refl; ended = refl }

pub last_is_line : IsTextLine (codes "end\n")
unfolding line_feeds
last_is_line = record { body = codes "end"; no_feed = refl; ended = refl }

pub count_is_line : (n : ℕ) → n ≤ 4 → IsTextLine (count_line n)
unfolding line_feeds
count_is_line n le = line_is (codes "phases" ∷ decimal n ∷ []) (refl, (feeds_in_number n (omega arith), tt))

feeds_in_mark : (skip : Bool) → line_feeds (mark skip) ≡ 0
unfolding line_feeds
feeds_in_mark true = refl
feeds_in_mark false = refl

feeds_in_times : (p : Phase) (ends : List (List ℕ)) → HasU32Times p → AllByRecursion (λ w. line_feeds w ≡ 0) ends → AllByRecursion (λ w. line_feeds w ≡ 0) (codes "phase" ∷ (map decimal (phase_numbers p) ++ ends))
unfolding line_feeds
feeds_in_times p ends fits none =
    let a = fits.least in let b = fits.greatest in let c = fits.yellow in let d = fits.clear in let e = fits.loss in let f = fits.wait in
    (refl, (feeds_in_number p.least (omega arith), (feeds_in_number p.greatest (omega arith), (feeds_in_number p.yellow (omega arith), (feeds_in_number p.clear (omega arith), (feeds_in_number p.loss (omega arith), (feeds_in_number p.wait (omega arith), none)))))))

pub phase_is_line : (v : Version) (p : Phase) → IsSaidPhase v p → IsTextLine (phase_line v p)
phase_is_line One p said = line_is (codes "phase" ∷ map decimal (phase_numbers p)) (feeds_in_times p [] said.fits tt)
phase_is_line Two p said = line_is (codes "phase" ∷ (map decimal (phase_numbers p) ++ mark p.skip ∷ [])) (feeds_in_times p (mark p.skip ∷ []) said.fits (feeds_in_mark p.skip, tt))
phase_is_line Three p said = line_is (codes "phase" ∷ (map decimal (phase_numbers p) ++ mark p.skip ∷ [])) (feeds_in_times p (mark p.skip ∷ []) said.fits (feeds_in_mark p.skip, tt))
phase_is_line Four p said = line_is (codes "phase" ∷ (map decimal (phase_numbers p) ++ mark p.skip ∷ [])) (feeds_in_times p (mark p.skip ∷ []) said.fits (feeds_in_mark p.skip, tt))
phase_is_line Five p said = line_is (codes "phase" ∷ (map decimal (phase_numbers p) ++ mark p.skip ∷ [])) (feeds_in_times p (mark p.skip ∷ []) said.fits (feeds_in_mark p.skip, tt))

feeds_in_freshness : (fresh : Bool) → line_feeds (freshness fresh) ≡ 0
unfolding line_feeds
feeds_in_freshness true = refl
feeds_in_freshness false = refl

pub head_is_line : (h : Head) → IsWritableHead h → IsTextLine (head_line h)
unfolding line_feeds
head_is_line h fits =
    let a = fits.phase in let b = fits.since in let c = fits.at in
    line_is (codes "head" ∷ decimal h.phase ∷ decimal h.since ∷ decimal h.at ∷ freshness h.fresh ∷ [])
    (refl, (feeds_in_number h.phase (omega arith), (feeds_in_number h.since (omega arith), (feeds_in_number h.at (omega arith), (feeds_in_freshness h.fresh, tt)))))

feeds_in_span : (c : Cluster) → IsWritableCluster c → AllByRecursion (λ w. line_feeds w ≡ 0) (map decimal (c.arr ∷ c.len ∷ []))
feeds_in_span c fits = let a = fits.arr in let b = fits.len in (feeds_in_number c.arr (omega arith), (feeds_in_number c.len (omega arith), tt))

feeds_in_cluster : (v : Version) (c : Cluster) → IsWritableCluster c → AllByRecursion (λ w. line_feeds w ≡ 0) (map decimal (cluster_numbers v c))
feeds_in_cluster One c fits = let a = fits.size in (feeds_in_number c.size (omega arith), feeds_in_span c fits)
feeds_in_cluster Two c fits = let a = fits.size in (feeds_in_number c.size (omega arith), feeds_in_span c fits)
feeds_in_cluster Three c fits = let a = fits.size in let b = fits.load in (feeds_in_number c.size (omega arith), (feeds_in_number c.load (omega arith), feeds_in_span c fits))
feeds_in_cluster Four c fits = let a = fits.size in let b = fits.load in (feeds_in_number c.size (omega arith), (feeds_in_number c.load (omega arith), feeds_in_span c fits))
feeds_in_cluster Five c fits = let a = fits.size in let b = fits.load in (feeds_in_number c.size (omega arith), (feeds_in_number c.load (omega arith), feeds_in_span c fits))

pub cluster_is_line : (v : Version) (k : ℕ) (c : Cluster) → k < 2 ^ 8 → IsSaidCluster v c → IsTextLine (cluster_line v k c)
unfolding line_feeds
cluster_is_line v k c k_lt said = line_is (codes "cluster" ∷ map decimal (k ∷ cluster_numbers v c)) (refl, (feeds_in_number k (omega arith), feeds_in_cluster v c said.fits))

pub feeds_in_phases : (v : Version) (ps : List Phase) → AllByRecursion (IsSaidPhase v) ps → line_feeds (flat_map (phase_line v) ps) ≡ length ps
feeds_in_phases v ps said = feeds_in_lines (phase_line v) (IsSaidPhase v) (phase_is_line v) ps said

feeds_in_clusters : (v : Version) (k : ℕ) (cs : List Cluster) → k < 2 ^ 8 → AllByRecursion (IsSaidCluster v) cs → line_feeds (flat_map (cluster_line v k) cs) ≡ length cs
feeds_in_clusters v k cs k_lt said = feeds_in_lines (cluster_line v k) (IsSaidCluster v) (λ c h. cluster_is_line v k c k_lt h) cs said

pub feeds_in_lists : (v : Version) (k : ℕ) (ls : List (List Cluster)) → k + length ls ≤ 2 ^ 8 → AllByRecursion (AllByRecursion (IsSaidCluster v)) ls → line_feeds (cluster_lines v k ls) ≡ sum_by (λ list. length list) ls
feeds_in_lists v k [] few said = line_feeds-nil
feeds_in_lists v k (cs ∷ ls) few said =
    let joined = line_feeds-append (flat_map (cluster_line v k) cs) (cluster_lines v (k + 1) ls) in
    let one = feeds_in_clusters v k cs (omega arith) said.0 in
    let more = feeds_in_lists v (k + 1) ls (omega arith) said.1 in
    let sum = sum_by-cons (λ (list : List Cluster). length list) cs ls in
    joined ∙ omega (arith, one, more, sum)

-- ---- the line after a front

-- a line with which a text that begins so goes on, and the bytes do not
pub record NextOfText (T R : List ℕ) : Type 0 where
  pub text : List ℕ
  pub after : List ℕ
  pub is_line : IsTextLine text
  pub parts : T ≡ text ++ after
  pub apart : (u : List ℕ) → R ≡ text ++ u → ⊥

pub fault_from : (first : ℕ) (bytes F R : List ℕ) → bytes ≡ F ++ R → BeginsText F → ((g : BeginsFront F) → NextOfText g.rest R) → IsFirstFault BeginsFront first (first + line_feeds F) bytes
fault_from first bytes F R parts begins follows = faulty-here BeginsText BeginsFront first bytes F R parts begins (λ mid g.
    let met : BeginsFront F = record { marks = g.marks; plan = g.plan; head = g.head; lists = g.lists; after = g.after; rest = mid ++ g.rest; fits = g.fits; ring = g.ring; text = g.text ∙ append_assoc F mid g.rest } in
    let n = follows met in
    let next : NextLine mid R = record { text = n.text; after = n.after; more = g.rest; is_line = n.is_line; parts = n.parts; apart = n.apart } in
    next)
