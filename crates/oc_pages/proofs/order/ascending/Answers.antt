use Rattle.std.proofs.Common.{sym, subst, ℕ}
use Rattle.std.specs.List.Sorted.{IsNonDecreasing}
use Rattle.std.proofs.lemmas.List.Sorted.{IsNonDecreasingBy-from_sort}
use Rattle.oc_pages.proofs.Ordered.{permuted}
use Rattle.oc_pages.proofs.order.ascending.Goals as goal

pub each_once-requires : goal.each_once-requires
each_once-requires c = subst IsNonDecreasing (sym c.deref.ensures.value) (IsNonDecreasingBy-from_sort (λ (x : ℕ). x) c.sort_unstable.new.self.items c.sort_unstable.ensures.sorted)

pub returns : goal.returns
returns c = permuted c.args.numbers.items c.sort_unstable.new.self.items c.deref.result.now c.in_ok-once.once.items c.sort_unstable.ensures.permutation c.deref.ensures.value c.in_ok-once.ensures
