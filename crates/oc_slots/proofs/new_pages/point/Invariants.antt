use Rattle.std.proofs.Common.{◌≡◌, ◌≤◌, ◌+◌, length, drop}
use Rattle.std.specs.Prelude.{AllPairs}
use Rattle.oc_pages.specs.Pages.{IsOther}
use Rattle.oc_slots.specs.Pointings.{set_all, AreHeld}
use Rattle.oc_slots.specs.Turnovers.{with_added, AreMissing}
use Rattle.oc_slots.proofs.new_pages.point.Given as goal

abbrev pub invariant-loop-page : goal.invariant-loop-page
invariant-loop-page l = record {
  added : with_added (drop l.page-index l.added) l.pages.pages ≡ with_added l.added l.fn.pages.pages;
  missing : AreMissing l.pages.pages (drop l.page-index l.added);
  spare : length l.added ≤ l.pages.spare + l.page-index;
  unit : l.pages.unit ≡ l.fn.pages.unit;
  others : AllPairs IsOther l.pages.pages;
}

abbrev pub invariant-loop-pointing : goal.invariant-loop-pointing
invariant-loop-pointing l = record {
  set : set_all (drop l.pointing-index l.pointings) l.pages.pages ≡ set_all l.pointings (with_added l.added l.fn.pages.pages);
  held : AreHeld l.pages.pages (drop l.pointing-index l.pointings);
  unit : l.pages.unit ≡ l.fn.pages.unit;
  others : AllPairs IsOther l.pages.pages;
}
