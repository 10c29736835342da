use Rattle.std.proofs.Common.{ap, ◌∙◌, ok_or}
use Rattle.std.specs.Prelude.{alloc_error}
use Rattle.record_text.proofs.RecordLaws.{takes-ok, stops-err}
use Rattle.record_text.proofs.records.next_record.Goals as goal

pub returns-clause-ok : goal.returns-clause-ok
returns-clause-ok c = takes-ok alloc_error c.args.reader.now _ _ c.read_byte_record.result _ c.requires (c.ok_or.ensures.value ∙ ap (λ o. ok_or o alloc_error) c.ok.ensures.value) c.read_byte_record.ensures.reads c.read_byte_record.ensures.ready c.read_byte_record.ensures.flexible

pub returns-clause-stops : goal.returns-clause-stops
returns-clause-stops c = stops-err alloc_error c.args.reader.now c.read_byte_record.new.self c.read_byte_record.result _ c.requires (c.ok_or.ensures.value ∙ ap (λ o. ok_or o alloc_error) c.ok.ensures.value) c.read_byte_record.ensures.fails c.read_byte_record.ensures.why
