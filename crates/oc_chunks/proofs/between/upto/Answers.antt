use Rattle.std.proofs.Common.{sym, rules}
use Rattle.std.proofs.lemmas.List.Sorted.{IsPartitionPoint-from_clause}
use Rattle.oc_chunks.specs.Pieces.{is_upto}
use Rattle.oc_chunks.proofs.Located.{entries_part}
use Rattle.oc_chunks.proofs.Looking.{upto_is}
use Rattle.oc_chunks.proofs.between.upto.Goals as goal

pub returns : goal.returns
returns g c =
    let side = g.C.Cut.side c.args.cut.now in
    let xs = c.args.entries.now in
    let point = IsPartitionPoint-from_clause (is_upto side) xs _ c.partition_point-at.ensures.partitioned (entries_part g.E.Entry.order side (g.met.C.Cut.parts c.args.cut.now) xs c.requires) (λ a r f called. search rules) in
    sym (upto_is side xs c.partition_point-at.result c.partition_point-at.ensures.bound point.0 point.1)
