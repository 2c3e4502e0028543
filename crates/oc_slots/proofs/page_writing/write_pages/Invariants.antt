use Rattle.std.proofs.Common.{◌≡◌, ℕ, drop, take, Some}
use Rattle.std.specs.Prelude.{IsTrue, All}
use Rattle.oc_layout.specs.Layout.{blocks}
use Rattle.oc_pages.specs.declared.page.Page.{Page}
use Rattle.oc_pages.specs.Chains.{FitsPage}
use Rattle.oc_pages.specs.Pages.{page_of}
use Rattle.oc_room.specs.Rooms.{AreInOrder}
use Rattle.oc_slots.specs.Pieces.{pieces_of}
use Rattle.oc_slots.specs.Turnovers.{page_slots, places_of}
use Rattle.oc_slots.proofs.RunWrites.{IsWritten}
use Rattle.oc_slots.proofs.page_writing.write_pages.Given as goal

abbrev pub invariant-loop-page : goal.invariant-loop-page
invariant-loop-page g l = record {
  told : IsTrue g.H.Host.tells → IsWritten (pieces_of l.unit l.fn.end l.fn.before (page_slots l.pages.pages l.added)) (drop l.page-index (pieces_of l.unit l.fn.end l.fn.before (page_slots l.pages.pages l.added))) (g.H.Host.disk l.fn.host) (g.H.Host.disk l.host);
  left : drop l.page-index (pieces_of l.unit l.fn.end l.fn.before (page_slots l.pages.pages l.added)) ≡ pieces_of l.unit l.end l.before (drop l.page-index (page_slots l.pages.pages l.added));
  order : (last : ℕ) × AreInOrder l.unit (blocks l.unit l.end) (drop l.page-index (places_of l.added)) last;
  fits : All (λ a. (q : Page) → page_of l.pages.pages a.space a.index ≡ Some q → FitsPage q) (take l.page-index l.added);
  faults : g.H.Host.faults l.host ≡ g.H.Host.faults l.fn.host;
  taken : g.H.Host.taken l.host ≡ g.H.Host.taken l.fn.host;
}
