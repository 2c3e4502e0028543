use Rattle.std.proofs.Common.{◌∙◌, arith}
use Rattle.oc_slots.proofs.MissingPages.{missing_on, added_on, held_now, held_on, set_on}
use Rattle.oc_slots.proofs.new_pages.point.Goals as goal

pub loop-page-preserved : goal.loop-page-preserved
loop-page-preserved c =
    let inv = c.loop-page.invariant in
    record {
      added = added_on _ _ c.args.added.now c.loop-page.page-index _ c.loop-page-test.true inv.missing c.add.ensures.pages ∙ inv.added;
      missing = missing_on _ _ c.args.added.now c.loop-page.page-index _ c.loop-page-test.true inv.missing c.add.ensures.pages;
      spare = omega (arith, inv.spare, c.add.ensures.spare);
      unit = c.add.ensures.unit ∙ inv.unit;
      others = c.add.ensures.distinct;
    }

pub set-requires : goal.set-requires
set-requires c = held_now _ c.loop-pointing.pages.pages c.args.pointings.now c.loop-pointing.pointing-index _ c.loop-pointing-test.true c.loop-pointing.invariant.held

pub loop-pointing-preserved : goal.loop-pointing-preserved
loop-pointing-preserved c =
    let inv = c.loop-pointing.invariant in
    record {
      set = set_on _ _ c.args.pointings.now c.loop-pointing.pointing-index _ c.loop-pointing-test.true inv.held c.set.ensures.pages ∙ inv.set;
      held = held_on _ _ c.args.pointings.now c.loop-pointing.pointing-index _ c.loop-pointing-test.true inv.held c.set.ensures.pages;
      unit = c.set.ensures.unit ∙ inv.unit;
      others = c.set.ensures.distinct;
    }
