use Rattle.std.proofs.Common.{rules, ◌≡◌, ℕ, ◌+◌, ◌-◌, length, List, ◌++◌, take, drop, sym, ◌∙◌, ap, append_assoc}
use Rattle.std.specs.Prelude.{Option, Some, None}
use Rattle.std.specs.Io.KnownBytes.{Appends}
use Rattle.std.proofs.Math.Seq.{take-add}
use Rattle.std.proofs.lemmas.List.{take_rest}
use Rattle.outside_world.proofs.stream_sink.write_whole.Goals as goal

-- what was done and then a front of the rest, together
appends_more : (old mid new : Option (List ℕ)) (piece : List ℕ) (done count : ℕ) → Appends old mid (take done piece) → Appends mid new (take count (take (length piece - done) (drop done piece))) → Appends old new (take (done + count) piece)
appends_more None mid new piece done count first second = tt
appends_more (Some xs) None new piece done count first second = absurd first
appends_more (Some xs) (Some ys) None piece done count first second = absurd second
appends_more (Some xs) (Some ys) (Some zs) piece done count first second =
    let rest : zs ≡ ys ++ take count (drop done piece) = second ∙ ap (λ l. ys ++ take count l) (take_rest piece done) in
    rest ∙ ap (λ l. l ++ take count (drop done piece)) first ∙ append_assoc xs (take done piece) _ ∙ ap (λ l. xs ++ l) (sym (take-add done count piece))

pub loop-preserved : goal.loop-preserved
loop-preserved g c =
    let before = c.loop.invariant in
    (search rules, search rules, appends_more _ _ _ _ _ _ before.2 c.in-Ok.ensures.bytes)
