use Rattle.std.proofs.Common.{◌≡◌, ◌++◌, drop, IsTrue}
use Rattle.std.specs.Prelude.{flat_map}
use Rattle.std.specs.List.{list_all}
use Rattle.oc_segments.proofs.writing.put_items.Given as goal

abbrev pub invariant-loop-item : goal.invariant-loop-item
invariant-loop-item g l = record {
  bytes : l.out.items ++ flat_map (g.E.Item.spell l.base) (drop l.item-index l.items) ≡ l.fn.out.items ++ flat_map (g.E.Item.spell l.base) l.items;
  each : IsTrue (list_all (g.E.Item.fits l.base) (drop l.item-index l.items));
}
