use Rattle.std.proofs.Common.{rules}
use Rattle.std.proofs.lemmas.List.Elements.{filter_from_retain}
use Rattle.oc_index.proofs.indexes.keep_there.Goals as goal

pub returns : goal.returns
returns c = filter_from_retain _ (λ f. f.was_there) (λ p x b q called. search rules) _ _ _ c.retain.ensures.filtered
