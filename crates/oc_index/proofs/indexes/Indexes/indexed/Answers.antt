use Rattle.std.proofs.Common.{◌≤◌, map, subst}
use Rattle.oc_chunks.specs.Ascending.{Pairs}
use Rattle.oc_index.proofs.Ordered.{seen_order}
use Rattle.oc_index.proofs.indexes.Indexes.indexed.Goals as goal

pub returns-clause-order : goal.returns-clause-order
returns-clause-order c = subst (λ l. Pairs (λ m n. m ≤ n) (map (λ f. f.0) l.fields)) c.self.view_is (seen_order (λ f. f.is_here) (λ f. f.index) c.self.inside.fields.items c.self.invariant)
