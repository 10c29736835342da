use Rattle.std.proofs.Common.{take, refl, Err, ◌-◌, ℕ, ◌≡◌, ◌+◌, ◌∷◌, Ok, get_or, drop, sym, ap, subst, ◌∙◌, arith}
use Rattle.std.specs.Option.{option_map}
use Rattle.std.proofs.lemmas.List.{drop_all}
use Rattle.switch_rules.specs.Serving.{serving, IsServing}
use Rattle.schedule_meaning.specs.Instances.{counts_of}
use Rattle.schedule_meaning.specs.Faults.{reached_from, IsUnfitAt}
use Rattle.schedule_meaning.specs.Timing.{times_of, timed_from, onward}
use Rattle.schedule_meaning.proofs.Sequences.{get_or-counts, under-way-start, under-way-fit, named-left, named-after, left-phase, none-left, timing-start, timing-fit, timing-end, drop-next, take-next, reached-push}
use Rattle.schedule_meaning.proofs.replays.walk.Goals as goal

pub loop-index-init : goal.loop-index-init
loop-index-init g c = rw (c.requires.counts, c.head-head.ensures.value) (record {
  way = under-way-start c.args.i.now c.head-head.ensures.instance;
  times = rw c.requires.counts at c.requires.times;
  timing = timing-start c.args.i.now c.args.seq.now;
  reached = refl;
  steps = omega arith;
})

pub next_cluster-cluster-requires-clause-phase : goal.next_cluster-cluster-requires-clause-phase
next_cluster-cluster-requires-clause-phase g c =
    let l = c.loop-index in
    let seq = c.args.seq.now in
    let named : (k : ℕ) → times_of k (get_or seq l.index 0 ∷ drop (l.index + 1) seq) ≡ get_or l.left k 0 = λ k. ap (times_of k) (sym (drop-next seq l.index c.loop-index-test.true)) ∙ l.invariant.times k in
    omega (arith, left-phase l.left (get_or seq l.index 0) (named-left l.left (get_or seq l.index 0) (drop (l.index + 1) seq) named), l.invariant.way.lists, c.head-head.ensures.instance.lists)

pub overflow_sub-left : goal.overflow_sub-left
overflow_sub-left g c =
    let l = c.loop-index in
    let seq = c.args.seq.now in
    let named : (k : ℕ) → times_of k (get_or seq l.index 0 ∷ drop (l.index + 1) seq) ≡ get_or l.left k 0 = λ k. ap (times_of k) (sym (drop-next seq l.index c.loop-index-test.true)) ∙ l.invariant.times k in
    named-left l.left (get_or seq l.index 0) (drop (l.index + 1) seq) named

pub loop-index-preserved : goal.loop-index-preserved
loop-index-preserved g c =
    let l = c.loop-index in
    let p = c.args.i.now in
    let seq = c.args.seq.now in
    let k = get_or seq l.index 0 in
    let rest = drop (l.index + 1) seq in
    let next = drop-next seq l.index c.loop-index-test.true in
    let named : (k : ℕ) → times_of k (get_or seq l.index 0 ∷ drop (l.index + 1) seq) ≡ get_or l.left k 0 = λ k. ap (times_of k) (sym next) ∙ l.invariant.times k in
    let some = named-left l.left k rest named in
    let plan = c.plan.ensures.value in
    let cluster = c.next_cluster-cluster.result.now in
    let fit : serving p.plan l.head k cluster ≡ Ok (c.in-Ok.served, c.in-Ok.next) = sym (c.in-Ok.ensures.value ∙ ap (λ plan. serving plan l.head k cluster) plan) in
    record {
      way = under-way-fit p l.left l.head l.delay k (c.in-Ok.served, c.in-Ok.next) l.invariant.way some (subst (λ plan. IsServing plan (c.in-Ok.served, c.in-Ok.next)) plan c.in-Ok.ensures.bounds);
      times = named-after l.left k rest named;
      timing = l.invariant.timing ∙ ap (λ ks. option_map (onward l.delay) (timed_from p l.left l.head ks)) next
          ∙ timing-fit p l.left l.head k rest cluster (c.in-Ok.served, c.in-Ok.next) l.delay c.next_cluster-cluster.ensures.value fit;
      reached = ap (reached_from p (counts_of p.lists) p.head) (take-next seq l.index c.loop-index-test.true)
          ∙ reached-push p (counts_of p.lists) p.head (take l.index seq) l.left l.head k cluster (c.in-Ok.served, c.in-Ok.next) l.invariant.reached c.next_cluster-cluster.ensures.value fit;
      steps = omega (arith, l.invariant.steps, c.in-Ok.ensures.steps);
    }

pub returns-clause-ok : goal.returns-clause-ok
returns-clause-ok g c =
    let l = c.loop-index in
    let p = c.args.i.now in
    let seq = c.args.seq.now in
    let over = drop_all l.index seq c.loop-index-test.false in
    l.invariant.timing ∙ ap (λ ks. option_map (onward l.delay) (timed_from p l.left l.head ks)) over
    ∙ timing-end p l.left l.head l.delay (none-left l.left (λ k. sym (l.invariant.times k) ∙ ap (times_of k) over))

pub returns-in-Err-clause-first : goal.returns-in-Err-clause-first
returns-in-Err-clause-first g c =
    let l = c.loop-index in
    let p = c.args.i.now in
    let seq = c.args.seq.now in
    let k = get_or seq l.index 0 in
    let cluster = c.next_cluster-cluster.result.now in
    let unfit : serving p.plan l.head k cluster ≡ Err c.in-Err.why = sym (c.in-Err.ensures.value ∙ ap (λ plan. serving plan l.head k cluster) c.plan.ensures.value) in
    let at : l.index ≡ l.index + 1 - 1 = omega arith in
    let here : IsUnfitAt p (take l.index seq) (get_or seq l.index 0) c.in-Err.why = record {
      left = l.left;
      h = l.head;
      cluster = cluster;
      reached = l.invariant.reached;
      next = c.next_cluster-cluster.ensures.value;
      unfit = unfit;
    } in (
      c.requires.all,
      λ j. c.requires.times j ∙ ap (λ counts. get_or counts j 0) c.requires.counts ∙ get_or-counts p.lists j,
      omega arith,
      omega arith,
      subst (λ n. IsUnfitAt p (take n seq) (get_or seq n 0) c.in-Err.why) at here,
    )
