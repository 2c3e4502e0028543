use Rattle.std.proofs.Common.{subst}
use Rattle.oc_refs.specs.Triples.{AreDistinct}
use Rattle.oc_refs.proofs.Tables.{distinct}
use Rattle.oc_refs.proofs.table.RefTable.len.Goals as goal

pub returns-clause-distinct : goal.returns-clause-distinct
returns-clause-distinct c = subst AreDistinct c.self.view_is (distinct c.self.inside.refs.entries c.self.inside.numbers.entries c.self.invariant)
