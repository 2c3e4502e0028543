use Rattle.std.proofs.Common.{refl, arith}
use Rattle.oc_slots.proofs.MissingPages.{row_more}
use Rattle.oc_slots.proofs.new_pages.put_at.Goals as goal

pub loop-place-preserved : goal.loop-place-preserved
loop-place-preserved c =
    let inv = c.loop-place.invariant in
    let pushed = c.in_ok-push.ensures.items in
    record {
      keys = row_more _ _ _ _ _ _ c.args.indexes.now c.loop-place.place 0 pushed inv.keys (omega (arith, c.loop-place-test.true)) refl;
      places = row_more _ _ _ _ _ _ c.args.cells.now c.loop-place.place (record { at = 0; len = 0 }) pushed inv.places (omega (arith, c.loop-place-test.true, c.requires)) refl;
    }
