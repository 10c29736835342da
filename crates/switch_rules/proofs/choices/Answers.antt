use Rattle.std.proofs.Common.{◌≡◌, ◌+◌, ◌^◌, ◌≤◌, ap, sym, ◌∙◌, inl, inr, arith}
use Rattle.std.proofs.lemmas.Bool.{cases_lt}
use Rattle.std.proofs.Math.Nat.{mul-le-mul}
use Rattle.std.proofs.Math.Pow.{pow_mono}
use Rattle.switch_rules.specs.Orders.{choose}
use Rattle.switch_rules.proofs.Counting.{choose-le, choose-more, choose-others, choose-same}
use Rattle.switch_rules.proofs.choices.Goals as goal

pub overflow_mul-value : goal.overflow_mul-value
overflow_mul-value c =
    let e = c.loop-i.invariant in
    let value : c.loop-i.value ≤ 2 ^ 41 = omega (arith, choose-le (c.loop-i.i + c.max-more.result) c.loop-i.i, pow_mono {i = c.loop-i.i + c.max-more.result} {j = 41} (omega arith)) in
    let factor : c.from.result ≤ 41 = omega arith in
    omega (arith, mul-le-mul value factor)

pub loop-i-preserved : goal.loop-i-preserved
loop-i-preserved c =
    let value = c.loop-i.invariant in
    let factor : c.from.result ≡ c.loop-i.i + c.max-more.result + 1 = omega arith in
    let divisor : c.from-in-loop-i.result ≡ c.loop-i.i + 1 = omega arith in
    rw (value, factor, divisor) (choose-more (c.loop-i.i + c.max-more.result) c.loop-i.i ∙ ap (λ n. choose n (c.loop-i.i + 1)) (omega arith))

pub returns-clause-bounds : goal.returns-clause-bounds
returns-clause-bounds c =
    let e = c.loop-i.invariant in
    omega (arith, choose-le (c.loop-i.i + c.max-more.result) c.loop-i.i, pow_mono {i = c.loop-i.i + c.max-more.result} {j = 41} (omega arith))

pub returns-clause-value : goal.returns-clause-value
returns-clause-value c = elim (cases_lt c.args.others c.args.few) [
  | inl less ↦
      c.loop-i.invariant
      ∙ choose-same (c.loop-i.i + c.max-more.result) c.loop-i.i (c.args.few + c.args.others) c.args.others (omega (arith, less, c.min-fewer.ensures, c.max-more.ensures)) (omega (arith, less, c.min-fewer.ensures))
      ∙ sym (choose-others c.args.few c.args.others)
  | inr up ↦
      c.loop-i.invariant
      ∙ choose-same (c.loop-i.i + c.max-more.result) c.loop-i.i (c.args.few + c.args.others) c.args.few (omega (arith, up, c.min-fewer.ensures, c.max-more.ensures)) (omega (arith, up, c.min-fewer.ensures))
]
