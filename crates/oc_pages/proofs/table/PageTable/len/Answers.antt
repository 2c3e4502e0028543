use Rattle.std.proofs.Common.{subst}
use Rattle.std.specs.Prelude.{AllPairs}
use Rattle.oc_pages.specs.Pages.{IsOther}
use Rattle.oc_pages.specs.Places.{Kept}
use Rattle.oc_pages.proofs.Tables.{distinct_kept}
use Rattle.oc_pages.proofs.table.PageTable.len.Goals as goal

pub returns-clause-distinct : goal.returns-clause-distinct
returns-clause-distinct c = subst (λ (v : Kept). AllPairs IsOther v.pages) c.self.view_is (distinct_kept c.self.inside.kept.items c.self.inside.places c.self.invariant)
