use Rattle.std.proofs.Common.{ltb, rules}
use Rattle.std.proofs.lemmas.Fn.{always_returns_same}
use Rattle.oc_free.proofs.Searching.{fit_found}
use Rattle.oc_free.proofs.part.first_fit.Goals as goal

-- the closure tests as the definition does, and the parts are in order
pub returns : goal.returns
returns c =
    let facts = c.partition_point.ensures in
    fit_found _ _ _ c.requires facts.bound (facts.partitioned (λ q. ltb q.blocks c.args.need) (always_returns_same _ _ _ (λ a r f called. (search rules, search rules))))
