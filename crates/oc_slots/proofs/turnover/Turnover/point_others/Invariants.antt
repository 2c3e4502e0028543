use Rattle.std.proofs.Common.{◌≡◌, ◌++◌, take}
use Rattle.std.specs.Prelude.{flat_map}
use Rattle.oc_slots.specs.Turnovers.{slot_at, other_pointed, other_freed, AreFitting}
use Rattle.oc_slots.proofs.turnover.Turnover.point_others.Given as goal

abbrev pub invariant-loop-index : goal.invariant-loop-index
invariant-loop-index l = record {
  pointings : l.self.pointings.items ≡ l.fn.self.pointings.items ++ flat_map (λ e. other_pointed l.fn.pages.unit l.fn.pages.pages l.fn.named (slot_at l.fn.space e.0) e.1) (take l.index l.changes.entries);
  freed : l.self.freed.items ≡ l.fn.self.freed.items ++ flat_map (λ e. other_freed l.fn.pages.pages l.fn.named (slot_at l.fn.space e.0) e.1) (take l.index l.changes.entries);
  fits : AreFitting l.fn.self.pointings.items → AreFitting l.self.pointings.items;
}
