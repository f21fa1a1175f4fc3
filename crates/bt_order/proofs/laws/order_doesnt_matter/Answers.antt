use Rattle.bt_order.proofs.Orders.{order_doesnt_matter}
use Rattle.bt_order.proofs.laws.order_doesnt_matter.Goals as goal

pub returns : goal.returns
returns c = order_doesnt_matter
