use Rattle.std.proofs.Common.{sym, subst}
use Rattle.oc_pages.specs.declared.page.Page.{Page}
use Rattle.oc_pages.specs.Places.{IsIndexed}
use Rattle.std.proofs.Common.{List}
use Rattle.oc_pages.proofs.Tables.{indexed_again}
use Rattle.oc_pages.proofs.table.PageTable.reserve.Goals as goal

pub invariant_of-self-in_err-reserve-2 : goal.invariant_of-self-in_err-reserve-2
invariant_of-self-in_err-reserve-2 c = subst (λ (l : List Page). IsIndexed l c.reserve-2.new.self) (sym c.reserve.ensures.items) (indexed_again c.self.inside.kept.items c.self.inside.places c.reserve-2.new.self c.self.invariant c.reserve-2.ensures.same)

pub invariant_of-self-2 : goal.invariant_of-self-2
invariant_of-self-2 c = subst (λ (l : List Page). IsIndexed l c.reserve-2.new.self) (sym c.reserve.ensures.items) (indexed_again c.self.inside.kept.items c.self.inside.places c.reserve-2.new.self c.self.invariant c.reserve-2.ensures.same)
