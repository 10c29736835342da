use Rattle.std.proofs.Common.{rules, inl, ◌≡◌, Contains}
use Rattle.outside_world.proofs.memory_shelf.MemoryShelfShelf.fetch.Goals as goal

-- the call was found among those named
pub returns-then-is_named-clause-failed : goal.returns-then-is_named-clause-failed
returns-then-is_named-clause-failed c =
    let named : Contains c.deref.result.now c.saturating_add-self-inside.result = c.is_named.ensures.0 c.if-is_named.true in
    let fails : c.deref.result.now ≡ c.args.self.now.fails = search rules in
    let calls : c.fail.new.self.calls ≡ c.saturating_add-self-inside.result = search rules in
    λ _. inl (rw (← fails, calls) named)
