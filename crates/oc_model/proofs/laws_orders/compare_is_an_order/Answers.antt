use Rattle.oc_model.proofs.Orders.{compare_total, alike, from_alike}
use Rattle.oc_model.proofs.laws_orders.compare_is_an_order.Goals as goal

pub returns : goal.returns
returns c = record { total = compare_total; equal = λ a b. (alike a b, from_alike a b) }
