use Rattle.std.proofs.Common.{rules}
use Rattle.format.proofs.Order.{name_order, identifier_order}
use Rattle.books.proofs.Orders.{strict_order, least_is_one}
use Rattle.books.proofs.order.is_before.Goals as goal

pub returns : goal.returns
returns c = record {
  value = search (rules, name_order c.args.x.now.name c.args.y.now.name, identifier_order c.args.x.now.name.sender c.args.y.now.name.sender);
  strict = strict_order;
  unique = least_is_one;
}
