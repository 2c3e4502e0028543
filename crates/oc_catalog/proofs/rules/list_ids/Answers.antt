use Rattle.std.proofs.Common.{◌≡◌, ◌∙◌, ◌∷◌, ap, rules, nat_cmp}
use Rattle.std.specs.Cmp.{nat_cmp_total}
use Rattle.std.proofs.lemmas.Map.Lookups.{exact_unsigned}
use Rattle.oc_model.specs.Lists.{sorted}
use Rattle.oc_model.proofs.Sorting.{sorted_only}
use Rattle.oc_catalog.specs.Catalogs.{indexed_ids}
use Rattle.oc_catalog.proofs.rules.list_ids.Goals as goal

pub returns : goal.returns
returns c =
    let ids : c.in_ok-ids.ids.items ≡ 0 ∷ indexed_ids c.args.classes.now = search rules in
    sorted_only nat_cmp nat_cmp_total exact_unsigned c.in_ok-ids.ids.items c.sort_unstable.new.self.items c.sort_unstable.ensures.permutation c.sort_unstable.ensures.sorted ∙ ap (sorted nat_cmp) ids
