-- The answer that is kept names nodes alone.
use Rattle.std.proofs.Common.{ap, sym, option_map, Vec, Global}
use Rattle.oc_model.specs.declared.reach.Node.{Node}
use Rattle.oc_reach.proofs.progress.pass_on.Goals as goal

pub hand_on-requires-clause-inside : goal.hand_on-requires-clause-inside
hand_on-requires-clause-inside g c = rw c.deref.ensures.value (c.requires.inside _ (sym (ap (option_map (λ (v : Vec Node Global). v.items)) c.in-Some.ensures)))
