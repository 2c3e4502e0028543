use Rattle.std.proofs.Common.{subst, rules}
use Rattle.std.specs.Prelude.{AllPairs}
use Rattle.oc_pages.specs.Pages.{IsOther}
use Rattle.oc_pages.specs.Places.{Kept}
use Rattle.oc_pages.proofs.Tables.{none_kept, distinct_kept}
use Rattle.oc_pages.proofs.table.PageTable.place.Goals as goal

pub returns-clause-none : goal.returns-clause-none
returns-clause-none c = search (rules, none_kept)

pub returns-clause-distinct : goal.returns-clause-distinct
returns-clause-distinct c = subst (λ (v : Kept). AllPairs IsOther v.pages) c.self.view_is (distinct_kept c.self.inside.kept.items c.self.inside.places c.self.invariant)
