use Rattle.std.proofs.Common.{◌≡◌, ◌∙◌, ap, rules, nat_cmp}
use Rattle.std.specs.Cmp.{nat_cmp_total}
use Rattle.std.proofs.lemmas.Map.Lookups.{exact_unsigned}
use Rattle.oc_model.specs.Lists.{sorted}
use Rattle.oc_model.proofs.Sorting.{sorted_only}
use Rattle.oc_container.specs.Givens.{numbers_named}
use Rattle.oc_container.proofs.numbers.numbers_in.Goals as goal

pub returns : goal.returns
returns c =
    let written : c.in_ok-numbers.numbers.items ≡ numbers_named c.args.givens.now = search rules in
    sorted_only nat_cmp nat_cmp_total exact_unsigned c.in_ok-numbers.numbers.items c.sort_unstable.new.self.items c.sort_unstable.ensures.permutation c.sort_unstable.ensures.sorted ∙ ap (sorted nat_cmp) written
