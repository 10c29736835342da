-- No public clause names these: reading what follows the instance, with the number of the first line that has not the form of its place.
use Rattle.std.specs.Prelude.{ℕ, ◌+◌, ◌^◌, ◌==◌, if◌then◌else◌, List, [], ◌∷◌, ◌++◌, length, Result, Ok, Err, codes}
use Rattle.std.specs.Option.{ok_or, option_map_or}
use Rattle.text_lines.specs.Fields.{literal_at, field_at}
use Rattle.instance_form.specs.Reading.{◌>>=◌}
use Rattle.schedule_meaning.specs.declared.planners.Answer.{Answer}
use Rattle.schedule_meaning.specs.declared.planners.Answer.TheVariants.{Plan, NoPlan}
use Rattle.certificate_form.specs.Lines.{entry_line_at}
use Rattle.text_lines.specs.Many.{many_at}
use Rattle.dp_certificate.specs.declared.Entry.{Entry}

-- one number at least, up to the end of its line
unfoldable pub sequence_at : ℕ → List ℕ → Result (List ℕ × List ℕ) ℕ
sequence_at line bytes = do
  front ← Ok (many_at (field_at (2 ^ 8) 32) (length bytes) bytes)
  last ← ok_or (field_at (2 ^ 8) 10 front.1) line
  Ok (front.0 ++ last.0 ∷ [], last.1)

-- a delay, and after it a sequence, which may be empty
unfoldable pub plan_at : ℕ → List ℕ → Result (Answer × List ℕ) ℕ
plan_at line bytes = option_map_or (λ delay. Ok (Plan [] delay.0, delay.1)) (field_at (2 ^ 64) 10 bytes) (do
  delay ← ok_or (field_at (2 ^ 64) 32 bytes) line
  sequence ← sequence_at line delay.1
  Ok (Plan sequence.0 delay.0, sequence.1))

-- the line of the answer, which has this number
unfoldable pub answer_at : ℕ → List ℕ → Result (Answer × List ℕ) ℕ
answer_at line bytes = option_map_or (λ rest. Ok (NoPlan, rest)) (literal_at (codes "answer none\n") bytes) (do
  rest ← ok_or (literal_at (codes "answer ") bytes) line
  plan_at line rest)

-- the last line, which has this number, and nothing after it
unfoldable pub end_at : ℕ → List ℕ → Result (List ℕ) ℕ
end_at line bytes = do
  rest ← ok_or (literal_at (codes "end\n") bytes) line
  if length rest == 0 then Ok rest else Err (line + 1)

-- what follows an instance of this many phases, whose first line has this number
unfoldable pub tail_at : ℕ → ℕ → List ℕ → Result (Answer × List Entry) ℕ
tail_at phases line bytes = do
  answer ← answer_at line bytes
  entries ← Ok (many_at (entry_line_at phases) (length answer.1) answer.1)
  rest ← end_at (line + 1 + length entries.0) entries.1
  Ok (answer.0, entries.0)
