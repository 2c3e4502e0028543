use Rattle.std.proofs.Common.{◌≡◌, ◌≤◌, ◌+◌, length, take, []}
use Rattle.std.specs.Prelude.{flat_map}
use Rattle.std.specs.Option.{option_to_list}
use Rattle.oc_layout.specs.declared.cells.Space.{Space}
use Rattle.oc_pages.specs.Pages.{pointer_of}
use Rattle.oc_slots.specs.Slots.{changes_of, spare_of}
use Rattle.oc_slots.specs.Noting.{noted, place_of}
use Rattle.oc_slots.specs.Turnovers.{pointed, AreFitting}
use Rattle.oc_slots.proofs.turnover.turn_over.Given as goal

abbrev pub invariant-loop-change : goal.invariant-loop-change
invariant-loop-change l = record {
  pointings : l.turnover.pointings.items ≡ flat_map (λ p. pointed l.fn.pages.unit l.fn.pages.pages p.id (place_of p)) (take l.change-index l.fn.placed);
  freed : l.turnover.freed.items ≡ flat_map (λ p. option_to_list (pointer_of l.fn.pages.pages p.id.space p.id.number)) (take l.change-index l.fn.placed);
  fits : AreFitting l.turnover.pointings.items;
  named : (space : Space) → changes_of l.named space ≡ noted (take l.change-index l.fn.placed) space [];
  room : length l.fn.placed ≤ spare_of l.named + l.change-index;
}
