-- The order of the entries of an index.
use Rattle.std.specs.Cmp.{IsTotalOrder, nat_cmp_total}
use Rattle.std.proofs.lemmas.Cmp.{on_total, then_total}
use Rattle.oc_model.proofs.Orders.{compare_total}
use Rattle.oc_index.specs.Items.{index_cmp}

pub index_total : IsTotalOrder index_cmp
index_total = then_total (on_total (λ e. e.key) compare_total) (on_total (λ e. e.number) nat_cmp_total)
