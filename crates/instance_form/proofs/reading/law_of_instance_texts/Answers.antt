use Rattle.instance_form.proofs.FormLaws.{text_once}
use Rattle.instance_form.proofs.reading.law_of_instance_texts.Goals as goal

pub returns : goal.returns
returns c = text_once
