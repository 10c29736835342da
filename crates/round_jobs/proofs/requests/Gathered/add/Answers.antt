use Rattle.std.proofs.Common.{rules}
use Rattle.round_jobs.proofs.GatherLaws.{more-lines, text-ends, text-lost, text-more}
use Rattle.round_jobs.proofs.requests.Gathered.add.Goals as goal

pub returns-then-is_some : goal.returns-then-is_some
returns-then-is_some c = λ lines whole is of. record { begun = more-lines lines whole; text = text-lost lines whole c.args.self.now.text.items c.args.self.now.lost (search rules) is.text }

pub returns-in-Ok : goal.returns-in-Ok
returns-in-Ok c = λ lines whole is of. record {
  begun = more-lines lines whole;
  text = text-more lines whole c.args.self.now.text.items c.args.self.now.lost c.args.read c.args.line.now c.append.new.text.items (search rules) is.text of c.in-Ok.ensures.whole c.in-Ok.ensures.ok;
}

pub returns-in-Err : goal.returns-in-Err
returns-in-Err c = λ lines whole is of. record {
  begun = more-lines lines whole;
  text = text-ends lines whole c.args.self.now.text.items c.args.self.now.lost c.args.read c.args.line.now c.append.new.text.items c.in-Err.why (search rules) is.text of c.in-Err.ensures.refused;
}
