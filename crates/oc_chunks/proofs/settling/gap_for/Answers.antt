use Rattle.std.proofs.Common.{◌≡◌, ◌∙◌, ap, sym, take, drop, true, false, rules, take-append-drop}
use Rattle.std.specs.Ordering.{is_lt}
use Rattle.std.proofs.lemmas.List.Sorted.{IsPartitionPoint-from_clause}
use Rattle.oc_model.specs.Lists.{placed}
use Rattle.oc_chunks.proofs.Eaches.{each_within, each_behind}
use Rattle.oc_chunks.proofs.Backs.{below_part, placed_gap}
use Rattle.oc_chunks.proofs.settling.gap_for.Goals as goal

pub returns-clause-placed : goal.returns-clause-placed
returns-clause-placed g c =
    let cmp = g.E.Entry.order in
    let x = c.args.entry.now in
    let es = c.args.entries.now in
    let at = c.partition_point.result in
    let parted = IsPartitionPoint-from_clause (λ e. is_lt (cmp e x)) es at c.partition_point.ensures.partitioned (below_part cmp g.met.E.Entry.total x es c.requires) (λ a r f called. search rules) in
    ap (placed cmp x) (sym (take-append-drop at es)) ∙ placed_gap cmp g.met.E.Entry.total x (take at es) (drop at es) (each_within (λ e. is_lt (cmp e x) ≡ true) at es c.partition_point.ensures.bound parted.0) (each_behind (λ e. is_lt (cmp e x) ≡ false) at es parted.1)
