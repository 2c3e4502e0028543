-- The order of nodes is total.
use Rattle.std.specs.Cmp.{IsTotalOrder, nat_cmp_total, on_total, then_total}
use Rattle.oc_model.specs.Walks.{node_cmp, node_kind, node_id}

pub nodes_total : IsTotalOrder node_cmp
nodes_total = then_total (on_total node_kind nat_cmp_total) (on_total node_id nat_cmp_total)
