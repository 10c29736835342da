use Rattle.std.proofs.Common.{◌≡◌, ℕ, ap, sym, ◌∙◌, append-nil}
use Rattle.std.specs.Prelude.{slice_index}
use Rattle.rand_pcg.specs.Lcg.{Lcg}
use Rattle.rand_pcg.specs.Pcg.{pcg32}
use Rattle.scenario_gen.specs.Arrivals.{row_by, word}
use Rattle.scenario_gen.proofs.Loops.{words-more, words-none, flat-step}
use Rattle.scenario_gen.proofs.drawing.push_second.Goals as goal

pub loop-link-init : goal.loop-link-init
loop-link-init c = record { rows = sym (append-nil c.args.rows.now.items); drawn = words-none c.args.generator.now }

pub loop-link-preserved : goal.loop-link-preserved
loop-link-preserved c =
    let g : Lcg = c.args.generator.now in
    let i : ℕ = c.loop-link.link-index in
    let drawn : c.next_word.result ≡ word g i = ap (λ (p : ℕ × Lcg). p.0) c.next_word.ensures ∙ ap (λ (h : Lcg). (pcg32 h).0) c.loop-link.invariant.drawn in
    record {
      rows = flat-step (λ place. row_by c.args.second (slice_index c.args.entered.now place) (word g place)) i c.args.rows.now.items c.loop-link.rows.items c.push_drawn.new.rows.items _ c.loop-link.invariant.rows c.in_ok-push_drawn.ensures
          (ap (row_by c.args.second (slice_index c.args.entered.now i)) drawn);
      drawn = ap (λ (p : ℕ × Lcg). p.1) c.next_word.ensures ∙ ap (λ (h : Lcg). (pcg32 h).1) c.loop-link.invariant.drawn ∙ words-more g i;
    }
