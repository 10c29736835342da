use Rattle.std.specs.Prelude.{alloc_error}
use Rattle.std.proofs.Common.{ap, ◌∙◌, ok_or}
use Rattle.world_records.proofs.WrittenLaws.{record-written}
use Rattle.world_records.proofs.records.write_record.Goals as goal

pub returns : goal.returns
returns c = record-written alloc_error c.args.out.now c.write_fields.new.self _ c.write_fields.result _ (c.ok_or.ensures.value ∙ ap (λ o. ok_or o alloc_error) c.ok.ensures.value) c.write_fields.ensures.bytes c.write_fields.ensures.ended c.write_fields.ensures.clean c.write_fields.ensures.setup
