use Rattle.std.proofs.Common.{◌≡◌, true, false, rules}
use Rattle.std.specs.Ordering.{is_lt, nat_cmp}
use Rattle.std.proofs.lemmas.List.Sorted.{IsPartitionPoint-from_clause}
use Rattle.oc_chunks.proofs.Eaches.{each_within, each_behind}
use Rattle.oc_index.proofs.Ordered.{id_part}
use Rattle.oc_index.proofs.ordering.place_for.Goals as goal

pub returns-clause-low : goal.returns-clause-low
returns-clause-low c =
    let fs = c.args.fields.now in
    let at = c.partition_point.result in
    let parted = IsPartitionPoint-from_clause (λ f. is_lt (nat_cmp f.id c.args.id)) fs at c.partition_point.ensures.partitioned (id_part c.args.id fs c.requires) (λ a r f called. search rules) in
    each_within (λ f. is_lt (nat_cmp f.id c.args.id) ≡ true) at fs c.partition_point.ensures.bound parted.0

pub returns-clause-high : goal.returns-clause-high
returns-clause-high c =
    let fs = c.args.fields.now in
    let at = c.partition_point.result in
    let parted = IsPartitionPoint-from_clause (λ f. is_lt (nat_cmp f.id c.args.id)) fs at c.partition_point.ensures.partitioned (id_part c.args.id fs c.requires) (λ a r f called. search rules) in
    each_behind (λ f. is_lt (nat_cmp f.id c.args.id) ≡ false) at fs parted.1
