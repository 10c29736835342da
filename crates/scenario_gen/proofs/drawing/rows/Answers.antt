use Rattle.std.proofs.Common.{◌≡◌, ℕ, ◌+◌, ◌*◌, List, [], ap, ◌∙◌, length, arith}
use Rattle.rand_pcg.specs.Lcg.{Lcg}
use Rattle.scenario_gen.specs.Arrivals.{after_words, generator, rows_of_second}
use Rattle.scenario_gen.proofs.Loops.{words-add, words-none, flat-step}
use Rattle.scenario_gen.proofs.Lawful.{are-rows}
use Rattle.scenario_gen.proofs.drawing.rows.Goals as goal

pub loop-second-init : goal.loop-second-init
loop-second-init c =
    let count : ℕ = length c.in_ok-entered.entered.items in
    record {
      rows = c.new-rows.ensures.items;
      drawn = c.new-generator.ensures ∙ words-none (generator c.args.number) ∙ ap (after_words (generator c.args.number)) (let e : 0 ≡ 0 * count = omega arith in e);
    }

pub loop-second-preserved : goal.loop-second-preserved
loop-second-preserved c =
    let g : Lcg = generator c.args.number in
    let entered : List ℕ = c.in_ok-entered.entered.items in
    let second : ℕ = c.loop-second.second in
    let now : Lcg = c.loop-second.generator in
    record {
      rows = flat-step (λ x. rows_of_second x entered (after_words g (x * length entered))) second [] c.loop-second.rows.items c.push_second.new.rows.items _ c.loop-second.invariant.rows c.in_ok-push_second.ensures.rows
          (ap (λ e. rows_of_second second e now) c.as_slice.ensures.value ∙ ap (rows_of_second second entered) c.loop-second.invariant.drawn);
      drawn = c.in_ok-push_second.ensures.drawn ∙ ap (λ e. after_words now (length e)) c.as_slice.ensures.value ∙ ap (λ h. after_words h (length entered)) c.loop-second.invariant.drawn
          ∙ words-add g (second * length entered) (length entered) ∙ ap (after_words g) (let e : second * length entered + length entered ≡ (second + 1) * length entered = omega arith in e);
    }

pub returns-clause-lawful : goal.returns-clause-lawful
returns-clause-lawful c = are-rows c.args.net.now c.args.number c.args.rounds c.requires.few c.requires.rounds
