use Rattle.std.proofs.Common.{◌∙◌, ap, map, flat_map, arith}
use Rattle.std.specs.Cmp.{nat_cmp_total}
use Rattle.std.specs.Ordering.{nat_cmp}
use Rattle.std.proofs.lemmas.List.{take_all}
use Rattle.oc_model.specs.Lists.{sorted}
use Rattle.oc_model.proofs.Sorting.{sorted_only}
use Rattle.oc_index.proofs.Ranged.{nat_exact}
use Rattle.oc_index.proofs.field_index.numbers_in.Goals as goal

pub returns : goal.returns
returns c =
    sorted_only nat_cmp nat_cmp_total nat_exact c.loop-entries.numbers.items c.sort_unstable.new.self.items c.sort_unstable.ensures.permutation c.sort_unstable.ensures.sorted
    ∙ ap (sorted nat_cmp) (c.loop-entries.invariant ∙ ap (λ l. map (λ e. e.number) (flat_map (λ s. s.now) l)) (take_all c.loop-entries.entries-index c.args.slices.now (omega arith)))
