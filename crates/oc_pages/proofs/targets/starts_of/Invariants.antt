use Rattle.std.proofs.Common.{◌≡◌, ◌*◌, map, take}
use Rattle.oc_pages.specs.declared.page.Page.{Page}
use Rattle.oc_pages.proofs.targets.starts_of.Given as goal

abbrev pub invariant-loop-place : goal.invariant-loop-place
invariant-loop-place l = l.starts.items ≡ map (λ (p : Page). p.at * l.unit) (take l.place l.table.pages)
