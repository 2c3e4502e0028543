use Rattle.std.proofs.Common.{◌*◌, ℕ, List, map, get_or, sym, subst}
use Rattle.std.specs.List.Sorted.{IsPermutation}
use Rattle.oc_pages.specs.declared.page.Page.{Page}
use Rattle.oc_pages.specs.Pages.{Paged}
use Rattle.oc_pages.specs.Targets.{IsTargetIn}
use Rattle.oc_pages.proofs.CellPlaces.{target_is, target_among}
use Rattle.oc_pages.proofs.pages.Pages.are_targets.Goals as goal

pub returns-clause-yes : goal.returns-clause-yes
returns-clause-yes c is k d lt =
    let kept = c.self.inside.table.pages in
    let unit = c.self.inside.unit in
    let target = (get_or c.args.cells.now k d).target in
    let same = subst (λ (l : List ℕ). IsPermutation (map (λ (p : Page). p.at * unit) kept) l) (sym c.deref.ensures.value) c.in_ok-starts.ensures.starts in
    subst (λ (v : Paged). IsTargetIn v.unit v.pages target) c.self.view_is
    (target_is unit c.self.inside.loaded kept c.in_ok-starts.ensures.distinct c.deref.result.now same target (c.are_cells.ensures.yes is k d lt))

pub returns-clause-no : goal.returns-clause-no
returns-clause-no c is =
    let kept = c.self.inside.table.pages in
    let unit = c.self.inside.unit in
    let found = c.are_cells.ensures.no is in
    let same = subst (λ (l : List ℕ). IsPermutation (map (λ (p : Page). p.at * unit) kept) l) (sym c.deref.ensures.value) c.in_ok-starts.ensures.starts in (
      found.0,
      found.1,
      found.2,
      found.3,
      λ there. found.4
          (target_among unit c.self.inside.loaded kept c.in_ok-starts.ensures.distinct c.deref.result.now same found.1.target
          (subst (λ (v : Paged). IsTargetIn v.unit v.pages found.1.target) (sym c.self.view_is) there)),
    )
