use Rattle.std.proofs.Common.{ℕ, sym, subst}
use Rattle.oc_pages.specs.Places.{IsOrdered}
use Rattle.oc_pages.proofs.Chained.{distinct_chained}
use Rattle.oc_pages.proofs.Changes.{ordered_all}
use Rattle.oc_pages.proofs.pages.Pages.load_with.Goals as goal

pub invariant_of-result : goal.invariant_of-result
invariant_of-result g c =
    subst (λ (n : ℕ). IsOrdered c.args.root n c.in_ok-table.table.pages) (sym c.len.ensures.len) (ordered_all c.args.root c.in_ok-table.table.pages c.in_ok-table.ensures.first c.in_ok-table.ensures.in_range c.in_ok-table.ensures.full)

pub returns-clause-distinct : goal.returns-clause-distinct
returns-clause-distinct g c = distinct_chained c.len.result c.in_ok-table.table.pages c.in_ok-table.ensures.distinct
