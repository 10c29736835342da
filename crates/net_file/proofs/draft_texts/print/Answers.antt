use Rattle.std.proofs.Common.{alloc_error, ap, sym, ◌∙◌, ok_or}
use Rattle.net_file.proofs.TopLaws.{printed}
use Rattle.net_file.proofs.draft_texts.print.Goals as goal

pub returns : goal.returns
returns c = printed c.table_to_string.result alloc_error c.in_ok-text.text c.into_bytes.result.items _ (sym (c.ok_or.ensures.value ∙ ap (λ o. ok_or o alloc_error) c.ok.ensures.value) ∙ c.in_ok-text.was) (ap (λ v. v.items) c.into_bytes.ensures.value) c.table_to_string.ensures.reads_back
