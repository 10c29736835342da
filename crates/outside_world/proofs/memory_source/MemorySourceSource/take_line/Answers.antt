use Rattle.std.proofs.Common.{List, ℕ, [], ap, arith, refl, sym, subst, ◌∙◌, rules, vec_capacity}
use Rattle.std.specs.Prelude.{Contains}
use Rattle.outside_world.specs.MemorySource.{SourceInMemory, source_seen}
use Rattle.outside_world.proofs.KeepLaws.{in-slices}
use Rattle.outside_world.proofs.memory_source.MemorySourceSource.take_line.Goals as goal

pub returns-then-is_named-clause-failed : goal.returns-then-is_named-clause-failed
returns-then-is_named-clause-failed c =
    subst (λ (fails : List ℕ). Contains fails c.saturating_add-self-inside.result) (c.deref.ensures.value ∙ ap (λ (s : SourceInMemory). s.fails) c.self.view_is) (c.is_named.ensures.0 c.if-is_named.true)

pub returns-clause-line : goal.returns-clause-line
returns-clause-line c =
    in-slices c.self.inside.bytes.items c.self.inside.came c.piece_of-count.result (vec_capacity c.args.line.now) c.args.most c.self.inside.faults c.keep-read.new.line.items (source_seen c.args.self.now)
    c.deref-2.result.now c.deref-3.result.now c.deref-2.ensures.value c.deref-3.ensures.value c.keep-read.result
    (ap source_seen (sym c.self.view_is)) c.self.invariant (search rules) c.piece_of-count.ensures.piece c.piece_of-count.ensures.some
    (c.keep-read.ensures.kept [] (vec_capacity c.args.line.now) (omega (arith, c.clear.ensures.capacity)) (refl, c.clear.ensures.items))
