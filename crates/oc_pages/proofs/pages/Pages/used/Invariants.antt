use Rattle.std.proofs.Common.{◌≡◌, ◌≤◌, ◌++◌, reverse, take, drop}
use Rattle.std.specs.Prelude.{flat_map}
use Rattle.oc_pages.specs.Pages.{things_in}
use Rattle.oc_pages.proofs.pages.Pages.used.Given as goal

abbrev pub invariant-loop-place : goal.invariant-loop-place
invariant-loop-place l = record {
  used : l.used.items ≡ flat_map things_in (reverse (drop l.place l.self-inside.table.pages));
  low : l.self-inside.loaded ≤ l.place;
}

abbrev pub invariant-loop-place-2 : goal.invariant-loop-place-2
invariant-loop-place-2 l = l.used.items ≡ flat_map things_in (reverse (drop l.self-inside.loaded l.self-inside.table.pages) ++ take l.place l.self-inside.table.pages)
