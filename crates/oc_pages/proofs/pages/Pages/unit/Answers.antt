use Rattle.std.proofs.Common.{◌≡◌, length, subst}
use Rattle.std.specs.Prelude.{All}
use Rattle.oc_pages.specs.Pages.{Paged}
use Rattle.oc_pages.proofs.Chained.{all_chained}
use Rattle.oc_pages.proofs.pages.Pages.unit.Goals as goal

pub returns-clause-full : goal.returns-clause-full
returns-clause-full c =
    subst (λ (v : Paged). All (λ p. length p.cells ≡ 126) v.pages) c.self.view_is
    (all_chained (λ p. length p.cells ≡ 126) c.self.inside.loaded c.self.inside.table.pages c.self.invariant.full)
