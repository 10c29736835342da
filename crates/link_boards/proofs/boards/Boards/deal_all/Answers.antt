use Rattle.std.proofs.Common.{◌≡◌, ◌+◌, ◌-◌, length, ◌∙◌, arith}
use Rattle.link_boards.proofs.OpenLaws.{fresh-first, fresh-next, sum-first, sum-next, sum-within}
use Rattle.link_boards.proofs.boards.Boards.deal_all.Goals as goal

pub loop-number-init : goal.loop-number-init
loop-number-init g c = record {
  table = (search arith, c.requires.table.1);
  dealer = c.requires.dealer;
  left = let first = sum-first c.args.calls.now (let p = c.requires.passes in omega arith) in omega arith;
  items = c.requires.capacity.0;
  count = search arith;
  capacity = c.requires.capacity.1;
}

pub deal-requires-clause-left : goal.deal-requires-clause-left
deal-requires-clause-left g c = let left = c.loop-number.invariant.left in let enough = c.requires.calls in
    let within = sum-within c.args.calls.now c.loop-number.number (let p = c.requires.passes in let below = c.loop-number-test.true in omega arith) in omega arith

pub loop-number-preserved : goal.loop-number-preserved
loop-number-preserved g c = let k = c.loop-number.number in let old = c.loop-number.invariant in let one = c.loop-number.auto.number in let e = c.deal.ensures in let p = c.push_reserved.ensures in
    let calls = c.args.calls.now in record {
      table = (e.table.0 ∙ old.table.0, e.table.2 ∙ old.table.1);
      dealer = e.dealer;
      left = let next = sum-next calls k (let many = c.requires.passes in let below = c.loop-number-test.true in omega arith) in let kept = old.left in let given = e.left in omega arith;
      items = fresh-next c.args.self.now.id calls k c.loop-number.all.items c.push_reserved.new.self.items c.deal.result one p.items old.items e.pass;
      count = (let more = p.len in let count = old.count in omega arith);
      capacity = (let kept = p.capacity in let enough = old.capacity in omega arith);
    }

pub returns : goal.returns
returns g c = let old = c.loop-number.invariant in let many : (c.loop-number.number - 1) + 1 ≡ length c.args.calls.now = (let p = c.requires.passes in let past = c.loop-number-test.false in let one = c.loop-number.auto.number in let end = c.loop-number.auto.number-end in omega arith) in
    fresh-first c.args.self.now.id c.loop-number.seat.table_id c.args.calls.now (c.loop-number.number - 1) c.insert.new.self.items c.loop-number.all.items c.loop-number.seat.me.0 c.in-Ok.ensures.items many (old.table.0 ∙ c.requires.table.0) old.dealer.known old.dealer.entries old.items
