-- The settings so far are in range.
use Rattle.oc_reach.specs.Graphs.{AreInRange}
use Rattle.oc_activate.proofs.tests.settings_by.Given as goal

abbrev pub invariant-loop-to : goal.invariant-loop-to
invariant-loop-to l = AreInRange l.settings
