use Rattle.std.proofs.Common.{◌≡◌, ◌==◌, subst}
use Rattle.std.proofs.lemmas.Result.{IfOk-weaker}
use Rattle.net_parts.specs.Numbers.{Net}
use Rattle.net_file.specs.Written.{IsTextOfDraft}
use Rattle.net_file.specs.ByNames.{draft_by_names}
use Rattle.net_file.specs.Upgrade.{IsUpgraded}
use Rattle.net_file.proofs.Written.{says-least, known-least, upgraded}
use Rattle.net_file.proofs.files.write_network.Goals as goal

pub draft_text-requires-clause-known : goal.draft_text-requires-clause-known
draft_text-requires-clause-known c = known-least _ _ c.version_of-version.ensures

pub draft_text-requires-clause-says : goal.draft_text-requires-clause-says
draft_text-requires-clause-says c = rw c.in_ok-draft.ensures (rw c.parts-parts.ensures.value (says-least _ _ c.parts-parts.ensures.network.outline (rw c.parts-parts.ensures.value at c.version_of-version.ensures)))

pub returns : goal.returns
returns c =
    let draft = c.in_ok-draft.draft in
    let same = subst (λ (net : Net). draft ≡ draft_by_names net (c.version_of-version.result == 3)) c.parts-parts.ensures.value c.in_ok-draft.ensures in
    IfOk-weaker c.draft_text.result (λ bytes. IsTextOfDraft c.version_of-version.result bytes.items draft) (λ bytes. IsUpgraded bytes.items c.args.net.now)
    (λ bytes text. upgraded bytes.items draft c.args.net.now c.version_of-version.result c.parts-parts.ensures.network (rw c.parts-parts.ensures.value at c.version_of-version.ensures) same text) c.draft_text.ensures
