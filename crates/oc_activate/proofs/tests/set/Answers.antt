-- The settings that are entered are in range.
use Rattle.std.proofs.Common.{◌≤◌, refl, arith}
use Rattle.oc_activate.proofs.Rules.{on_ok}
use Rattle.oc_activate.proofs.Ranges.{in_range_set, has_range}
use Rattle.oc_activate.proofs.tests.set.Goals as goal

pub returns : goal.returns
returns c =
    on_ok c.set.result
    (λ is. in_range_set c.args.settings.now _ c.args.class _ c.requires (has_range _ (omega arith) (omega arith) refl) is)
    c.set.ensures.ok
