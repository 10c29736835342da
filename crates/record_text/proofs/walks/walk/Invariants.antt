use Rattle.std.proofs.Common.{length}
use Rattle.record_text.specs.Reading.{IsReading, left_of}
use Rattle.record_text.proofs.WalkLaws.{HasWalked}
use Rattle.record_text.proofs.walks.walk.Given as goal

-- the records that were taken, and those that are left
abbrev pub invariant-loop-number : goal.invariant-loop-number
invariant-loop-number g l = record {
  reading : IsReading l.reader;
  walked : HasWalked g.T.RecordTaker.header (g.T.RecordTaker.has_taken l.net) (left_of l.fn.reader) l.number (left_of l.reader) l.taker;
}

-- how many records are left
abbrev pub decreases-loop-number : goal.decreases-loop-number
decreases-loop-number g l = length (left_of l.reader)
