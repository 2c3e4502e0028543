use Rattle.std.proofs.Common.{rules}
use Rattle.std.proofs.lemmas.Fn.{always_returns_same}
use Rattle.oc_model.specs.Space.{is_better}
use Rattle.oc_free.proofs.Searching.{rank_found}
use Rattle.oc_free.proofs.part.rank_of.Goals as goal

-- the closure tests as the definition does, and the parts are in order
pub returns : goal.returns
returns c =
    let facts = c.partition_point.ensures in
    rank_found _ _ _ c.requires facts.bound (facts.partitioned (λ q. is_better q c.args.part) (always_returns_same _ _ _ (λ a r f called. (search rules, search rules))))
