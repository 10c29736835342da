use Rattle.std.proofs.Common.{◌≡◌, string_bytes, rules}
use Rattle.net_file.proofs.MemberLaws.{inserted}
use Rattle.net_file.proofs.puts.put.Goals as goal

pub returns : goal.returns
returns c =
    let copied : string_bytes c.in_ok-key.key ≡ c.args.key.now = search rules in
    inserted c.in_ok-key.key c.args.key.now c.args.value c.args.table.now.entries c.insert.new.self.entries c.in_ok-insert.ensures.entries copied
