use Rattle.std.proofs.Common.{◌∙◌, sym, ◌<◌, length, arith}
use Rattle.oc_refactor.specs.Around.{fits_below}
use Rattle.oc_refactor.proofs.Counting.{all_stop, all_go}
use Rattle.oc_refactor.proofs.limits.all_fit_below.Goals as goal

pub returns-then-not-fits_below : goal.returns-then-not-fits_below
returns-then-not-fits_below c =
    let s = c.args.schema.now in
    let lt : c.loop-place.place < length s.classes = omega (arith, c.loop-place-test.true, c.len-place-end.ensures) in
    sym (sym c.loop-place.invariant ∙ all_stop (fits_below s c.args.class c.args.count) c.loop-place.place s.classes c.fits_below.result lt c.fits_below.ensures c.if-not-fits_below.true)

pub loop-place-preserved : goal.loop-place-preserved
loop-place-preserved c =
    let s = c.args.schema.now in
    let lt : c.loop-place.place < length s.classes = omega (arith, c.loop-place-test.true, c.len-place-end.ensures) in
    all_go (fits_below s c.args.class c.args.count) c.loop-place.place s.classes c.fits_below.result lt c.fits_below.ensures c.if-not-fits_below.false ∙ c.loop-place.invariant
