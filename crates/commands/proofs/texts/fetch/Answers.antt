use Rattle.std.proofs.Common.{refl, subst, arith}
use Rattle.commands.specs.Flaws.{IsFlaw}
use Rattle.commands.specs.declared.texts.Flaw.{Flaw}
use Rattle.commands.proofs.Fetching.{fetched-bad, fetched-long, fetched-read, long-stops}
use Rattle.commands.proofs.texts.fetch.Goals as goal

pub returns-then-len-gt-MOST_BYTES-clause-refused : goal.returns-then-len-gt-MOST_BYTES-clause-refused
returns-then-len-gt-MOST_BYTES-clause-refused g c =
    let fetched = c.in-Ok in
    long-stops (g.S.Shelf.state c.args.shelf.now) _ c.args.place (g.K.TextKind.kind c.args.over.now) c.args.file.now c.too_long.result fetched.ensures.ok
    (fetched-long (g.S.Shelf.state c.args.shelf.now).files (g.K.TextKind.kind c.args.over.now) c.args.file.now fetched.text.items fetched.ensures.text (omega arith)) c.too_long.ensures

pub returns-in-Ok-read-clause-text : goal.returns-in-Ok-read-clause-text
returns-in-Ok-read-clause-text g c =
    let fetched = c.in-Ok in
    let over = c.args.over.now in
    fetched-read (g.S.Shelf.state c.args.shelf.now).files (g.K.TextKind.kind over) c.args.file.now fetched.text.items _ (g.K.TextKind.said over c.in-Ok-read.value) fetched.ensures.text c.deref.ensures.value c.in-Ok-read.ensures.ok

pub returns-in-Err-Bad-clause-refused : goal.returns-in-Err-Bad-clause-refused
returns-in-Err-Bad-clause-refused g c =
    let fetched = c.in-Ok in
    let kind = g.K.TextKind.kind c.args.over.now in
    let flawed = subst (λ (f : Flaw). IsFlaw kind c.deref.result.now f) c.in-Err-Bad.field-0-is c.in-Err-Bad.ensures.refused in
    (refl, fetched.ensures.ok, fetched-bad (g.S.Shelf.state c.args.shelf.now).files kind c.args.file.now fetched.text.items _ c.in-Err-Bad.code.items fetched.ensures.text (omega arith) c.deref.ensures.value flawed)
