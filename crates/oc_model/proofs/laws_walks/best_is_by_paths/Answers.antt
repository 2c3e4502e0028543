-- The computed table is that of the paths, and there is one.
use Rattle.oc_model.proofs.Reaching.{best_is, best_only, best_has}
use Rattle.oc_model.proofs.laws_walks.best_is_by_paths.Goals as goal

pub returns : goal.returns
returns c = record { is = best_is; only = λ w root depth t u a b. best_only a b; reached = λ w root depth t b. best_has b }
