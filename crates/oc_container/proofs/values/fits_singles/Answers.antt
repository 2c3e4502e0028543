use Rattle.std.proofs.Common.{arith}
use Rattle.std.proofs.lemmas.Grind.{common_steps}
use Rattle.oc_container.proofs.values.fits_singles.Goals as goal

pub returns-then-not-fits_single : goal.returns-then-not-fits_single
returns-then-not-fits_single c = λ m. grind (arith, common_steps, c.loop-single.invariant m, c.fits_single.ensures m)

pub loop-single-preserved : goal.loop-single-preserved
loop-single-preserved c = λ m. grind (arith, common_steps, c.loop-single.invariant m, c.fits_single.ensures m)

pub returns : goal.returns
returns c = λ m. grind (arith, common_steps, c.loop-single.invariant m)
