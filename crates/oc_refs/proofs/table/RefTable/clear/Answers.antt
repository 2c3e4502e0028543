use Rattle.oc_refs.proofs.Tables.{none_listed, none_agree}
use Rattle.oc_refs.proofs.table.RefTable.clear.Goals as goal

pub invariant_of-self : goal.invariant_of-self
invariant_of-self c = none_agree c.clear.new.self.entries c.clear-2.new.self.entries c.clear.ensures.empty c.clear-2.ensures.empty

pub returns : goal.returns
returns c = none_listed c.clear.new.self.entries c.clear.ensures.empty
