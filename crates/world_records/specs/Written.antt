-- What has been written.
use Rattle.std.specs.Prelude.{◌≡◌, ℕ, false, List, ◌++◌, Some, Vec}
use Rattle.csv.specs.Writing.{default_writer, fields_written, has_written, text_written, writer_setup}
use Rattle.csv.specs.declared.writer.Writer.{Writer}
use Rattle.world_records.specs.Records.{records_text}

-- a writer between two records has written this text
pub record HasWritten {Z : Type 0} (out : Writer (Vec ℕ Z)) (text : List ℕ) : Type 0 where
  pub setup : writer_setup out ≡ default_writer
  pub fields : fields_written out ≡ 0
  pub clean : has_written out ≡ false
  pub text_is : text_written (λ (v : Vec ℕ Z). Some v.items) out ≡ Some text

-- the writer wrote these records more
pub record Adds {Z : Type 0} (old new : Writer (Vec ℕ Z)) (records : List (List (List ℕ))) : Type 0 where
  pub adds : (text : List ℕ) → HasWritten old text → HasWritten new (text ++ records_text records)
